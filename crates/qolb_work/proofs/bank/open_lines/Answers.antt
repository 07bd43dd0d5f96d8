use Rattle.std.proofs.Common.{rules, ◌≡◌, ◌+◌, ◌∷◌, ◌++◌, [], Vec, length, vec_len, ap, ◌∙◌, length-append}
use Rattle.std.specs.Global.{Global}
use Rattle.std.proofs.lemmas.List.Elements.{All-same, All-push}
use Rattle.qolb_work.specs.JustOpened.{IsNewLine}
use Rattle.qolb_work.proofs.Banking.{no_money}
use Rattle.qolb_work.proofs.bank.open_lines.Goals as goal

pub open_line-requires-clause-good : goal.open_line-requires-clause-good
open_line-requires-clause-good g c = no_money

pub loop-label-preserved : goal.loop-label-preserved
loop-label-preserved g c =
    let pushed : c.push.new.self.items ≡ c.loop-label.all.items ++ c.in_ok-opened.opened ∷ [] = search rules in
    let AsMany : g.row.L.Denot × Vec g.row.L-Port.Denot Global → Type 0 = λ line. vec_len line.1 ≡ c.args.workers in
    let IsNew : g.row.L.Denot × Vec g.row.L-Port.Denot Global → Type 0 = λ line. IsNewLine g.L.LineSync.belongs g.L.LineSync.view g.L.LineSync.config_of c.args.workers line.0 line.1.items in (
      All-same AsMany _ _ pushed (All-push AsMany c.loop-label.all.items c.in_ok-opened.opened c.loop-label.invariant.0 c.in_ok-opened.ensures.len),
      All-same IsNew _ _ pushed (All-push IsNew c.loop-label.all.items c.in_ok-opened.opened c.loop-label.invariant.1 c.in_ok-opened.ensures.new),
      ap length pushed ∙ (length-append c.loop-label.all.items (c.in_ok-opened.opened ∷ []) ∙ ap (λ n. n + 1) c.loop-label.invariant.2),
    )
