use Rattle.qolb_model.specs.contracts.keep.FreeKeep
use Rattle.std.proofs.Common.{rules, ap, inr, sym, ◌∙◌, arith}
use Rattle.qolb_model.specs.AtTurn.{IsGranted}
use Rattle.example_line.proofs.Leaving.{wrote}
use Rattle.example_line.proofs.Exchanging.{wrote_moves, same_moves}
use Rattle.example_line.proofs.mailbox.try_take.Goals as goal

pub deqolb-requires-clause-state : goal.deqolb-requires-clause-state
deqolb-requires-clause-state g c =
    let granted : IsGranted (g.L.LineSync.view c.ask.new.port) (g.L.LineSync.turn c.ask.new.port) = c.ask.ensures.granted (search rules) in
    ap (λ v. v.state) c.write.ensures.view ∙ granted.state

pub returns-then-value-eq0-clause-empty : goal.returns-then-value-eq0-clause-empty
returns-then-value-eq0-clause-empty g c = inr (search rules)

pub returns-then-value-eq0-clause-moves : goal.returns-then-value-eq0-clause-moves
returns-then-value-eq0-clause-moves g c known =
    let did =
    wrote FreeKeep.TheImpl.ghosts.allows _ _ _ (g.L.LineSync.turn c.ask.new.port) (g.L.LineSync.turn c.write.new.port) c.bytes.result.now c.with_lane.result 0 0 (omega arith) (search)
    (c.ask.ensures.granted (search rules)) c.bytes.ensures.bytes (sym c.lane-value.ensures ∙ c.if-value-eq0.true) c.with_lane.ensures c.write.ensures.turn c.write.ensures.view c.deqolb.ensures.releases in
    (search, same_moves _ _ 0 (wrote_moves _ _ _ _ _ _ 0 0 (c.ask.ensures.moves known) did))

pub returns-else-value-eq0-clause-moves : goal.returns-else-value-eq0-clause-moves
returns-else-value-eq0-clause-moves g c known =
    let did =
    wrote FreeKeep.TheImpl.ghosts.allows _ _ _ (g.L.LineSync.turn c.ask.new.port) (g.L.LineSync.turn c.write.new.port) c.bytes.result.now c.with_lane.result _ 0 (omega arith) (search)
    (c.ask.ensures.granted (search rules)) c.bytes.ensures.bytes (sym c.lane-value.ensures) c.with_lane.ensures c.write.ensures.turn c.write.ensures.view c.deqolb.ensures.releases in
    (wrote_moves _ _ _ _ _ _ _ 0 (c.ask.ensures.moves known) did, search)
