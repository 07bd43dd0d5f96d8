use Rattle.qolb_model.specs.contracts.keep.FreeKeep
use Rattle.std.proofs.Common.{false, rules, refl, sym, subst, ap, ◌∙◌}
use Rattle.qolb_model.specs.Calls.{Releases}
use Rattle.qolb_model.specs.AtTurn.{IsGranted}
use Rattle.example_line.proofs.Counting.{released_quiet}
use Rattle.example_line.proofs.Leaving.{wrote, had_turn}
use Rattle.example_line.proofs.Exchanging.{turn_moves, wrote_moves, same_moves}
use Rattle.example_line.proofs.mailbox.try_put.Goals as goal
use Rattle.example_line.proofs.mailbox.try_put.Goals.{then-is_free, else-is_free}

pub deqolb-requires-clause-belongs : goal.deqolb-requires-clause-belongs
deqolb-requires-clause-belongs g c = elim c.if-is_free.branch [
  | then-is_free w ↦ subst (λ port. g.L.LineSync.belongs c.args.line.now port) (sym w.port-is) (w.write.ensures.belongs c.args.line.now c.ask.ensures.belongs)
  | else-is_free w ↦ subst (λ port. g.L.LineSync.belongs c.args.line.now port) (sym w.port-is) c.ask.ensures.belongs
]

pub deqolb-requires-clause-state : goal.deqolb-requires-clause-state
deqolb-requires-clause-state g c =
    let granted : IsGranted (g.L.LineSync.view c.ask.new.port) (g.L.LineSync.turn c.ask.new.port) = c.ask.ensures.granted (search rules) in
    elim c.if-is_free.branch [
      | then-is_free w ↦ ap (λ port. (g.L.LineSync.view port).state) w.port-is ∙ (ap (λ v. v.state) w.write.ensures.view ∙ granted.state)
      | else-is_free w ↦ ap (λ port. (g.L.LineSync.view port).state) w.port-is ∙ granted.state
    ]

pub returns-clause-state : goal.returns-clause-state
returns-clause-state g c = released_quiet _ _ _ _ c.deqolb.ensures.releases

pub returns-clause-put : goal.returns-clause-put
returns-clause-put g c = λ free. elim c.if-is_free.branch [
  | then-is_free w ↦
      had_turn _ _ _ _ _ 0 c.args.value
      (wrote FreeKeep.TheImpl.ghosts.allows _ _ _ (g.L.LineSync.turn c.ask.new.port) (g.L.LineSync.turn w.write.new.port) c.bytes.result.now w.with_lane.result 0 c.args.value c.ranges.value.fits (search)
      (c.ask.ensures.granted (search rules)) c.bytes.ensures.bytes (sym c.lane-is_free.ensures ∙ w.if-is_free.true) w.with_lane.ensures w.write.ensures.turn w.write.ensures.view
      (subst (λ port. Releases FreeKeep.TheImpl.ghosts.allows false (g.L.LineSync.view port) (g.L.LineSync.view c.deqolb.new.port) (g.L.LineSync.turn port)) w.port-is c.deqolb.ensures.releases))
  | else-is_free w ↦ search rules
]

pub returns-clause-moves : goal.returns-clause-moves
returns-clause-moves g c known = elim c.if-is_free.branch [
  | then-is_free w ↦
      let did =
      wrote FreeKeep.TheImpl.ghosts.allows _ _ _ (g.L.LineSync.turn c.ask.new.port) (g.L.LineSync.turn w.write.new.port) c.bytes.result.now w.with_lane.result 0 c.args.value c.ranges.value.fits (search)
      (c.ask.ensures.granted (search rules)) c.bytes.ensures.bytes (sym c.lane-is_free.ensures ∙ w.if-is_free.true) w.with_lane.ensures w.write.ensures.turn w.write.ensures.view
      (subst (λ port. Releases FreeKeep.TheImpl.ghosts.allows false (g.L.LineSync.view port) (g.L.LineSync.view c.deqolb.new.port) (g.L.LineSync.turn port)) w.port-is c.deqolb.ensures.releases) in
      (λ _. wrote_moves _ _ _ _ _ _ 0 c.args.value (c.ask.ensures.moves known) did, λ no. search rules)
  | else-is_free w ↦
      let allows = FreeKeep.TheImpl.ghosts.allows in
      let new = g.L.LineSync.view c.deqolb.new.port in
      let turn = g.L.LineSync.turn c.ask.new.port in
      let granted : IsGranted (g.L.LineSync.view c.ask.new.port) turn = c.ask.ensures.granted (search rules) in
      let releases = subst (λ port. Releases allows false (g.L.LineSync.view port) new (g.L.LineSync.turn port)) w.port-is c.deqolb.ensures.releases in
      (λ free. search rules, λ _. same_moves _ _ _ (turn_moves allows _ _ new turn turn _ _ (c.ask.ensures.moves known) granted releases refl refl))
]
