use Rattle.line_lanes.proofs.LaneBytes.{lane-of_bytes}
use Rattle.line_lanes.proofs.lanes.narrow.Goals as goal

pub returns-clause-lanes : goal.returns-clause-lanes
returns-clause-lanes c k h = lane-of_bytes c.args.lanes k c.fits-lanes.0 c.fits-lanes.1 h
