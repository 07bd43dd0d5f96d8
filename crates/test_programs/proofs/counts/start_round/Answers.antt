use Rattle.std.proofs.Common.{refl, inl, inr}
use Rattle.test_programs.specs.Ports.{HoldsOrWaits}
use Rattle.test_programs.proofs.Each.{two_hold}
use Rattle.test_programs.proofs.counts.start_round.Goals as goal

pub returns : goal.returns
returns g c =
    two_hold (HoldsOrWaits g.L.LineSync.belongs g.L.LineSync.view c.args.line.now) c.in_ok-ports.ports.items c.enqolb.new.port c.enqolb-2.new.port c.in_ok-ports.ensures
    (c.in-Granted.ensures.belongs, inl (c.in-Granted.ensures.enqueues.granted refl).state)
    (c.in-Queued.ensures.belongs, inr (c.in-Queued.ensures.enqueues.queued refl).state)
