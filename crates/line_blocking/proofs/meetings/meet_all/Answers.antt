use Rattle.std.proofs.Common.{rules, refl}
use Rattle.line_blocking.specs.Meetings.{nobody, another}
use Rattle.line_blocking.proofs.meetings.meet_all.Goals as goal

pub loop-place-init : goal.loop-place-init
loop-place-init g c = (c.requires, refl, nobody)

pub loop-place-preserved : goal.loop-place-preserved
loop-place-preserved g c = (c.meet_others.ensures.belongs, search rules, another c.loop-place.invariant.2 c.meet_others.ensures.meets)
