use Rattle.qolb_nodes.specs.Calls.{ReadsLane}
use Rattle.qolb_nodes.proofs.Telling.{called}
use Rattle.qolb_nodes.proofs.qolb_read_lane_proved_.Goals as goal

pub returns-in-Some-clause-calls : goal.returns-in-Some-clause-calls
returns-in-Some-clause-calls c = called (ReadsLane c.args.lane c.args.out.now c.read_lane.new.out) _ _ _ _ _ c.in-Some.ensures.node c.number-in-Some.ensures c.read_lane.ensures
