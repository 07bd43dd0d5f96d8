use Rattle.qolb_nodes.proofs.Looks.{poll_of_wait}
use Rattle.qolb_nodes.proofs.any_node.AnyNode.poll.Goals as goal

pub returns : goal.returns
returns c = poll_of_wait _ _ _ c.wait.ensures
