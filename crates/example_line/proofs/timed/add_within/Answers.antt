use Rattle.qolb_model.specs.contracts.keep.FreeKeep
use Rattle.std.proofs.Common.{false, ◌∙◌, subst, sym}
use Rattle.qolb_model.specs.declared.view.View.{View}
use Rattle.qolb_model.specs.Enqueueing.{Asks}
use Rattle.qolb_model.specs.Calls.{Releases}
use Rattle.qolb_model.proofs.Going.{asks_goes}
use Rattle.example_line.proofs.Counting.{round_places, round_unshut, round_added, ungranted_adds_nothing}
use Rattle.example_line.proofs.timed.add_within.Goals as goal

-- a request that was made before the turn is still made after it
pub returns-in-Granted-clause-asks : goal.returns-in-Granted-clause-asks
returns-in-Granted-clause-asks g c in_time =
    let asked = c.acquire_timeout-got.ensures.acquires.asks in_time in
    let at_turn = subst (λ (v : View). Asks (g.L.LineSync.view c.args.port.now) v) (sym c.add_one.ensures.view) asked in
    let gone = c.deqolb in
    let releases = gone.ensures.releases in
    asks_goes _ _ _ at_turn releases.continues.extends releases.ends_turn.count

-- the one turn adds 1
pub returns-in-Granted-clause-adds : goal.returns-in-Granted-clause-adds
returns-in-Granted-clause-adds g c in_time known =
    let sound = g.met.L.LineSync.sound c.args.line.now c.args.port.now c.requires.belongs in
    let a = c.acquire_timeout-got.ensures.acquires in
    let old = g.L.LineSync.view c.args.port.now in
    let mid = g.L.LineSync.view c.acquire_timeout-got.new.port in
    let let_go = c.deqolb in
    let new = g.L.LineSync.view let_go.new.port in
    let write = g.L.LineSync.turn c.add_one.new.port in
    let granted = a.granted in_time in
    let asks = a.asks (λ late. cc (sym in_time ∙ late)) in
    let releases = subst (λ (v : View). Releases FreeKeep.TheImpl.ghosts.allows false v new write) c.add_one.ensures.view let_go.ensures.releases in record {
      places = round_places _ old mid c.requires.state sound.own_history known a.continues asks new _ _ granted releases c.add_one.ensures.added;
      unshut = round_unshut _ old mid c.requires.state sound.own_history known a.continues asks new _ _ granted releases c.add_one.ensures.added;
      added = round_added _ old mid c.requires.state sound.own_history known a.continues asks new _ _ granted releases c.add_one.ensures.added;
    }

-- without a turn, nothing is added
pub returns-in_default-clause-adds_nothing : goal.returns-in_default-clause-adds_nothing
returns-in_default-clause-adds_nothing g c other known =
    let sound = g.met.L.LineSync.sound c.args.line.now c.args.port.now c.requires.belongs in
    ungranted_adds_nothing _ _ _ c.requires.state sound.own_history known _ _ c.acquire_timeout-got.ensures.acquires other
