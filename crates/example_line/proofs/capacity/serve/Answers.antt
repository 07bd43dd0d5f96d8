use Rattle.std.proofs.Common.{false, ◌∙◌, subst, inr, refl, arith}
use Rattle.qolb_model.specs.declared.view.View.{View}
use Rattle.qolb_model.specs.Calls.{Releases}
use Rattle.example_line.specs.Seats.{StaysWithin, serves, spoils}
use Rattle.example_line.proofs.Counting.{released_quiet, told_places, told_unshut}
use Rattle.example_line.proofs.Selling.{turn_places, turn_unshut, turn_serves, turn_spoils_none, told_does_none}
use Rattle.example_line.proofs.capacity.serve.Goals as goal

pub returns-in-Closed-clause-serves : goal.returns-in-Closed-clause-serves
returns-in-Closed-clause-serves g c known =
    let i = c.loop-customer.invariant in
    let sound = g.met.L.LineSync.sound c.args.line.now c.loop-customer.port i.belongs in
    let a = c.acquire.ensures.acquires in
    let old = g.L.LineSync.view c.loop-customer.port in
    let mid = g.L.LineSync.view c.acquire.new.port in
    let places = i.places known in
    let told = c.in-Closed.ensures.acquires.told refl in record {
      places = told_places _ old mid i.state sound.own_history places a.continues a.asks told;
      unshut = λ unshut. told_unshut _ old mid i.state sound.own_history places a.continues a.asks told (i.unshut known unshut);
      turns = c.loop-customer._customer;
      served = told_does_none _ old mid i.state sound.own_history places a.continues a.asks told serves ∙ i.served known;
      unspoiled = told_does_none _ old mid i.state sound.own_history places a.continues a.asks told spoils ∙ i.unspoiled known;
      all = inr told;
    }

pub loop-customer-preserved : goal.loop-customer-preserved
loop-customer-preserved g c =
    let i = c.loop-customer.invariant in
    let sound = g.met.L.LineSync.sound c.args.line.now c.loop-customer.port i.belongs in
    let a = c.acquire.ensures.acquires in
    let old = g.L.LineSync.view c.loop-customer.port in
    let mid = g.L.LineSync.view c.acquire.new.port in
    let new = g.L.LineSync.view c.deqolb.new.port in
    let granted = c.in-Granted.ensures.acquires.granted refl in
    let write = g.L.LineSync.turn c.sell_one.new.port in
    let releases = subst (λ (v : View). Releases StaysWithin false v new write) c.sell_one.ensures.view c.deqolb.ensures.releases in
    record {
      belongs = c.deqolb.ensures.belongs;
      state = released_quiet _ mid new write releases;
      places = λ known. turn_places _ old mid i.state sound.own_history (i.places known) a.continues a.asks new _ _ granted releases;
      unshut = λ known unshut. turn_unshut _ old mid i.state sound.own_history (i.places known) a.continues a.asks new _ _ granted releases (i.unshut known unshut);
      served = λ known.
          let one = turn_serves _ old mid i.state sound.own_history (i.places known) a.continues a.asks new _ _ granted releases c.sell_one.ensures.sold in
          let before = i.served known in
          omega (arith, one, before);
      unspoiled = λ known. turn_spoils_none _ old mid i.state sound.own_history (i.places known) a.continues a.asks new _ _ granted releases c.sell_one.ensures.sold ∙ i.unspoiled known;
    }
