use Rattle.std.proofs.Common.{rules}
use Rattle.std.specs.Vec.Iter.{into_iter_items}
use Rattle.qolb_work.proofs.Gathering.{first_gone}
use Rattle.qolb_work.proofs.workers.all_done.Goals as goal

pub returns-in_default-clause-stalled : goal.returns-in_default-clause-stalled
returns-in_default-clause-stalled g c =
    first_gone c.loop-hand.hands.items (into_iter_items c.next.new.self) c.args.joined.back.items _ (search rules) (search rules)
