use Rattle.qolb_model.specs.contracts.keep.FreeKeep
use Rattle.std.proofs.Common.{false, ◌∙◌, subst, inr, refl, arith}
use Rattle.qolb_model.specs.declared.view.View.{View}
use Rattle.qolb_model.specs.Calls.{Releases}
use Rattle.example_line.proofs.Counting.{released_quiet, round_places, round_unshut, round_added, told_places, told_unshut, told_added}
use Rattle.example_line.proofs.counter.add.Goals as goal

pub returns-in-Closed-clause-adds : goal.returns-in-Closed-clause-adds
returns-in-Closed-clause-adds g c known =
    let sound = g.met.L.LineSync.sound c.args.line.now c.loop-round.port c.loop-round.invariant.belongs in
    let a = c.acquire.ensures.acquires in
    let old = g.L.LineSync.view c.loop-round.port in
    let mid = g.L.LineSync.view c.acquire.new.port in
    let places = c.loop-round.invariant.places known in
    let told = c.in-Closed.ensures.acquires.told refl in record {
      places = told_places _ old mid c.loop-round.invariant.state sound.own_history places a.continues a.asks told;
      unshut = λ unshut. told_unshut _ old mid c.loop-round.invariant.state sound.own_history places a.continues a.asks told (c.loop-round.invariant.unshut known unshut);
      turns = c.loop-round._round;
      few = omega (arith, c.loop-round-test.true);
      added = told_added _ old mid c.loop-round.invariant.state sound.own_history places a.continues a.asks told ∙ c.loop-round.invariant.added known;
      all = inr told;
    }

pub loop-round-preserved : goal.loop-round-preserved
loop-round-preserved g c =
    let sound = g.met.L.LineSync.sound c.args.line.now c.loop-round.port c.loop-round.invariant.belongs in
    let a = c.acquire.ensures.acquires in
    let old = g.L.LineSync.view c.loop-round.port in
    let mid = g.L.LineSync.view c.acquire.new.port in
    let new = g.L.LineSync.view c.deqolb.new.port in
    let granted = c.in-Granted.ensures.acquires.granted refl in
    let write = g.L.LineSync.turn c.add_one.new.port in
    let releases = subst (λ (v : View). Releases FreeKeep.TheImpl.ghosts.allows false v new write) c.add_one.ensures.view c.deqolb.ensures.releases in
    record {
      belongs = c.deqolb.ensures.belongs;
      state = released_quiet _ mid new write releases;
      count = let e = releases.ends_turn.count in let f = a.asks.count in let h = c.loop-round.invariant.count in omega (arith, e, f, h);
      places = λ known. round_places _ old mid c.loop-round.invariant.state sound.own_history (c.loop-round.invariant.places known) a.continues a.asks new _ _ granted releases c.add_one.ensures.added;
      unshut = λ known unshut. round_unshut _ old mid c.loop-round.invariant.state sound.own_history (c.loop-round.invariant.places known) a.continues a.asks new _ _ granted releases c.add_one.ensures.added (c.loop-round.invariant.unshut known unshut);
      added = λ known.
          let one = round_added _ old mid c.loop-round.invariant.state sound.own_history (c.loop-round.invariant.places known) a.continues a.asks new _ _ granted releases c.add_one.ensures.added in
          let before = c.loop-round.invariant.added known in
          omega (arith, one, before);
    }
