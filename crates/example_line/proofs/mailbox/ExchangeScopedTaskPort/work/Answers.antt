use Rattle.std.proofs.Common.{refl}
use Rattle.qolb_model.proofs.OwnTurns.{unused_places}
use Rattle.example_line.proofs.Exchanging.{all_exchanged}
use Rattle.example_line.proofs.mailbox.ExchangeScopedTaskPort.work.Goals as goal

pub returns-then-place-eq0 : goal.returns-then-place-eq0
returns-then-place-eq0 g c =
    let sound = g.met.L.LineSync.sound c.args.line.now c.args.port c.requires.pre.0 in
    let old = g.L.LineSync.view c.args.port in
    let exchanges = c.put_all.ensures.exchanges (unused_places old sound.history c.requires.pre.2) in
    (c.put_all.ensures.belongs, c.put_all.ensures.state, (λ _. (refl, all_exchanged _ _ _ _ old _ sound.history c.requires.pre.2 exchanges)), λ other. absurd (other c.if-place-eq0.true))

pub returns : goal.returns
returns g c =
    let sound = g.met.L.LineSync.sound c.args.line.now c.args.port c.requires.pre.0 in
    let old = g.L.LineSync.view c.args.port in
    let taken = c.take_all-sum.ensures.taken (unused_places old sound.history c.requires.pre.2) in
    (c.take_all-sum.ensures.belongs, c.take_all-sum.ensures.state, (λ first. absurd (c.if-place-eq0.false first)), λ _. (taken.0, taken.1, all_exchanged _ _ _ _ old _ sound.history c.requires.pre.2 taken.2))
