use Rattle.std.proofs.Common.{◌≡◌, ap, sym, ◌∙◌, subst, refl, length, List, ℕ}
use Rattle.line_lanes.specs.Mask.{changed_mask}
use Rattle.qolb_model.specs.declared.view.View.{View}
use Rattle.qolb_model.specs.Counting.{Counters, IsWithinCalls}
use Rattle.qolb_model.specs.Sound.{Continues}
use Rattle.qolb_model.proofs.OwnTurns.{quiet_after, may_ask-state_after}
use Rattle.line_board.specs.Board.{Stand}
use Rattle.line_board.specs.Law.{Changes}
use Rattle.line_board.proofs.Turns.{had_turn, new_bytes, new_mask}
use Rattle.line_board.proofs.turn.replace.Goals as goal

-- `long` is what the type `[u8; 64]` of the new line's bytes says. A search finds it too, but has to read all that is
-- known for it.
pub release-requires-clause-allowed : goal.release-requires-clause-allowed
release-requires-clause-allowed g c =
    let v = g.L.LineSync.view c.args.port.now in
    let turn = g.L.LineSync.turn c.args.port.now in
    let long : length c.args.new.bytes ≡ 64 = c.well_formed.1.1.0.1.1.0.1.0.1 in
    let mask : c.changed-mask.result.0 ≡ changed_mask turn.bytes.bytes c.args.new.bytes =
    c.changed-mask.ensures ∙ ap (λ b. changed_mask b c.args.new.bytes) (ap (λ l. l.bytes) c.bytes.ensures.bytes) in
    let same = new_bytes v turn (g.L.LineSync.turn c.write.new.port) c.changed-mask.result.0 c.args.new.bytes c.requires.granted long mask c.write.ensures.turn in
    rw (c.write.ensures.view, same) c.requires.changes

pub returns-clause-turn : goal.returns-clause-turn
returns-clause-turn g c = λ found left stood stands.
    let v = g.L.LineSync.view c.args.port.now in
    let turn = g.L.LineSync.turn c.args.port.now in
    let after = g.L.LineSync.turn c.write.new.port in
    let long : length c.args.new.bytes ≡ 64 = c.well_formed.1.1.0.1.1.0.1.0.1 in
    let mask : c.changed-mask.result.0 ≡ changed_mask turn.bytes.bytes c.args.new.bytes =
    c.changed-mask.ensures ∙ ap (λ b. changed_mask b c.args.new.bytes) (ap (λ l. l.bytes) c.bytes.ensures.bytes) in
    let same = new_bytes v turn after c.changed-mask.result.0 c.args.new.bytes c.requires.granted long mask c.write.ensures.turn in
    had_turn v (g.L.LineSync.view c.release.new.port) turn after c.requires.granted (rw c.write.ensures.view at c.release.ensures.releases)
    found left _ _ stood (subst (λ (b : List ℕ). Stand b left) (sym same) stands)
    (new_mask v turn after c.changed-mask.result.0 c.args.new.bytes c.requires.granted long mask c.write.ensures.turn) refl refl

pub release-requires-clause-belongs : goal.release-requires-clause-belongs
release-requires-clause-belongs g c = c.write.ensures.belongs c.args.line.now c.requires.belongs

pub release-requires-clause-state : goal.release-requires-clause-state
release-requires-clause-state g c = ap (λ (v : View). v.state) c.write.ensures.view ∙ c.requires.granted.state

pub returns-clause-continues : goal.returns-clause-continues
returns-clause-continues g c =
    subst (λ (v : View). Continues Changes v (g.L.LineSync.view c.release.new.port)) c.write.ensures.view c.release.ensures.releases.continues

pub returns-clause-count : goal.returns-clause-count
returns-clause-count g c = c.release.ensures.releases.ends_turn.count ∙ ap (λ (v : View). v.count) c.write.ensures.view

pub returns-clause-poll_count : goal.returns-clause-poll_count
returns-clause-poll_count g c = c.release.ensures.poll_count ∙ ap (λ (counters : Counters). counters.poll_count) c.write.ensures.counters

pub returns-clause-state : goal.returns-clause-state
returns-clause-state g c = quiet_after _ _ (g.L.LineSync.view c.release.new.port) (may_ask-state_after _) c.release.ensures.releases.ends_turn.releases

pub returns-clause-steps : goal.returns-clause-steps
returns-clause-steps g c =
    subst (λ (counters : Counters). IsWithinCalls (g.L.LineSync.max_steps c.args.line.now) 1 counters (g.L.LineSync.counters c.release.new.port)) c.write.ensures.counters c.release.ensures.steps
