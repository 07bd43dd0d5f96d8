use Rattle.qolb_nodes.specs.Calls.{WritesLane}
use Rattle.qolb_nodes.proofs.Telling.{called}
use Rattle.qolb_nodes.proofs.qolb_write_lane_proved_.Goals as goal

pub returns-in-Some : goal.returns-in-Some
returns-in-Some c = called (WritesLane c.args.lane c.args.value) _ _ _ _ _ c.in-Some.ensures.node c.number-in-Some.ensures c.write_lane.ensures
