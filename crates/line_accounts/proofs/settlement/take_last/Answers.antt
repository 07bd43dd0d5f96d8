use Rattle.std.proofs.Common.{◌≡◌, ◌+◌, ◌<◌, ◌++◌, ◌∷◌, [], List, length, Vec, Global, sym, ◌∙◌, subst, refl, arith}
use Rattle.std.proofs.Math.ListN.{set}
use Rattle.std.proofs.lemmas.List.{with_items_is}
use Rattle.std.proofs.lemmas.Option.{slice_get_read}
use Rattle.line_accounts.specs.Desks.{DeskOf}
use Rattle.line_accounts.specs.Settled.{TakesLast}
use Rattle.line_accounts.proofs.Settlements.{IsTaking, taking_first, taking_more, taken_all, finished_with, pushed_well, none_has}
use Rattle.line_accounts.proofs.settlement.take_last.Goals as goal

pub loop-desk-init : goal.loop-desk-init
loop-desk-init g c =
    let none = finished_with (λ (ports : Vec g.row.L-Port.Denot Global). ports.items ≡ []) c.with_capacity.result c.in_ok-ports.ports (sym c.ok.ensures.value ∙ c.in_ok-ports.was) c.with_capacity.ensures.items in
    taking_first c.args.desks.now.items c.deref_mut-desk-items.result.now c.in_ok-ports.ports.items c.deref_mut-desk-items.ensures.value none

pub loop-desk-preserved : goal.loop-desk-preserved
loop-desk-preserved g c =
    let lt : c.loop-desk.desk-index < length c.loop-desk.desk-items = omega arith in
    let at = slice_get_read c.loop-desk.desk-items (length c.loop-desk.desk-items) c.loop-desk.desk-index c.desk-item.result refl lt c.desk-item.is in
    let pushed = pushed_well c.push.result c.in_ok-ok.field-0 c.push.new.self.items (c.loop-desk.ports.items ++ c.in_ok-take_last.field-0 ∷ []) c.loop-desk.ports.items (sym c.ok-in-loop-desk.ensures.value ∙ c.in_ok-ok.was) c.push.ensures.items in
    subst (λ (ports : List g.row.L-Port.Denot). IsTaking c.args.desks.now.items (set c.loop-desk.desk-items c.loop-desk.desk-index c.take_last.new.self) ports (c.loop-desk.desk-index + 1)) (sym pushed)
    (taking_more c.args.desks.now.items c.loop-desk.desk-items c.loop-desk.ports.items c.loop-desk.desk-index c.desk-item.result c.take_last.new.self c.in_ok-take_last.field-0 c.loop-desk.invariant lt at (c.desk-item.is ∙ c.in_ok-take_last.ensures))

pub returns : goal.returns
returns g c =
    let taking = c.loop-desk.invariant in
    let many : length c.loop-desk.desk-items ≡ length c.args.desks.now.items = taking.many in
    let all : c.loop-desk.desk-index ≡ length c.args.desks.now.items = omega arith in
    let whole = with_items_is c.args.desks.now c.loop-desk.desk-items (many ∙ sym c.args.desks.now.ok.0) in
    subst (λ (desks : List (DeskOf g.row.L-Port.Denot)). TakesLast c.args.desks.now.items desks c.loop-desk.ports.items) (sym whole)
    (taken_all c.args.desks.now.items c.loop-desk.desk-items c.loop-desk.ports.items c.loop-desk.desk-index taking all)

pub returns-in_err-ok : goal.returns-in_err-ok
returns-in_err-ok g c = none_has _ c.from_residual-in_err-ok.result c.from_residual-in_err-ok.ensures

pub returns-in_err-take_last : goal.returns-in_err-take_last
returns-in_err-take_last g c = none_has _ c.from_residual-in_err-take_last.result c.from_residual-in_err-take_last.ensures
