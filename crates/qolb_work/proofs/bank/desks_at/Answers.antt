use Rattle.std.proofs.Common.{◌≡◌, All, Vec, length, ap, ◌∙◌, arith}
use Rattle.std.proofs.lemmas.List.{length-map}
use Rattle.std.specs.Global.{Global}
use Rattle.std.proofs.lemmas.List.Elements.{All-same, All-map, All-weaker}
use Rattle.line_accounts.specs.NewDesks.{IsNewPort}
use Rattle.qolb_work.specs.JustOpened.{IsNewLine, work_config}
use Rattle.qolb_work.proofs.Banking.{new_ports, banked_nothing, none_short}
use Rattle.qolb_work.proofs.bank.desks_at.Goals as goal

pub open_desks-requires : goal.open_desks-requires
open_desks-requires g c = record {
  new = All-weaker (λ (line : g.row.L.Denot × Vec g.row.L-Port.Denot Global). IsNewLine g.L.LineSync.belongs g.L.LineSync.view g.L.LineSync.config_of c.args.workers line.0 line.1.items)
      (λ line. All (IsNewPort g.L.LineSync.belongs g.L.LineSync.view line.0) line.1.items)
      (λ line new. new_ports g.L.LineSync.belongs g.L.LineSync.view g.L.LineSync.config_of c.args.workers line.0 line.1.items new) c.args.opened.items c.requires.new;
}

pub returns-in-Ok-clause-config : goal.returns-in-Ok-clause-config
returns-in-Ok-clause-config g c =
    All-same (λ (line : g.row.L.Denot). g.L.LineSync.config_of line ≡ work_config c.args.workers) _ _ c.in-Ok.ensures.lines
    (All-map (λ (line : g.row.L.Denot). g.L.LineSync.config_of line ≡ work_config c.args.workers) (λ (line : g.row.L.Denot × Vec g.row.L-Port.Denot Global). line.0) c.args.opened.items
    (All-weaker (λ (line : g.row.L.Denot × Vec g.row.L-Port.Denot Global). IsNewLine g.L.LineSync.belongs g.L.LineSync.view g.L.LineSync.config_of c.args.workers line.0 line.1.items)
    (λ line. g.L.LineSync.config_of line.0 ≡ work_config c.args.workers) (λ line new. new.config) c.args.opened.items c.requires.new))

pub returns-in-Ok-clause-lines : goal.returns-in-Ok-clause-lines
returns-in-Ok-clause-lines g c =
    let long = ap length c.in-Ok.ensures.lines ∙ length-map c.args.opened.items (λ (line : g.row.L.Denot × Vec g.row.L-Port.Denot Global). line.0) in
    omega (arith, long, c.in-Ok.made.0.ok.0, c.args.opened.ok.0)

pub returns-in-Ok-clause-new : goal.returns-in-Ok-clause-new
returns-in-Ok-clause-new g c =
    banked_nothing g.L.LineSync.belongs g.L.LineSync.view g.L.LineSync.config_of c.args.workers c.args.opened.items c.in-Ok.made.0.items c.in-Ok.made.1.items
    c.in-Ok.ensures.lines c.requires.new c.in-Ok.ensures.dealt c.in-Ok.ensures.over c.in-Ok.ensures.unpaid

pub unreachable-requires : goal.unreachable-requires
unreachable-requires g c = none_short _ c.args.opened.items c.requires.len _ c.in-Err-Few.field-0-0 c.in-Err-Few.field-0-is c.in-Err-Few.ensures.why
