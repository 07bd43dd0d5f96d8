use Rattle.qolb_nodes.specs.Calls.{AddsLane}
use Rattle.qolb_nodes.proofs.Telling.{called}
use Rattle.qolb_nodes.proofs.qolb_add_lane_proved_.Goals as goal

pub returns-in-Some-clause-calls : goal.returns-in-Some-clause-calls
returns-in-Some-clause-calls c = called (AddsLane c.args.lane c.args.by c.args.was.now c.add_lane.new.was) _ _ _ _ _ c.in-Some.ensures.node c.number-in-Some.ensures c.add_lane.ensures
