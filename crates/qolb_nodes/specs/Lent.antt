-- A handle that lends its node to a call. The definitions in this file were made for this project; none is taken from
-- the literature.
use Rattle.std.specs.Prelude.{Option, Some}
use Rattle.std.specs.Borrow.{Fml, MutBor, LendsIf}
use Rattle.qolb_nodes.specs.contracts.any_node.AnyNode as node
use Rattle.qolb_nodes.specs.contracts.handle.Handle as handle
use Rattle.qolb_nodes.specs.declared.any_node.AnyNode.{AnyNode}
use Rattle.qolb_nodes.specs.declared.handle.Handle.{Handle}

-- the handle, with its node replaced
abbrev pub with_node : Handle → AnyNode → Handle
with_node h node = record h { held = Some node }

-- the handle ends with the last value of the node that it lent, or is unchanged if it has no node
abbrev pub LendsNode : MutBor Handle → Option (MutBor AnyNode) → Fml
LendsNode h lent = LendsIf handle.the_row node.the_row h lent (with_node h.now) h.now
