-- What the call that frees a node guarantees. The definitions in this file were made for this project; none is taken
-- from the literature.
use Rattle.std.specs.Prelude.{◌≡◌, true, false, Option, Some, None}
use Rattle.qolb_model.specs.PortStates.{may_ask}
use Rattle.qolb_nodes.specs.declared.answer.Answer.{Answer}
use Rattle.qolb_nodes.specs.declared.answer.Answer.TheVariants as answer
use Rattle.qolb_nodes.specs.declared.any_node.AnyNode.{AnyNode}
use Rattle.qolb_nodes.specs.Calls.{state_of}

-- a node that neither waits nor holds the line is freed, any other node stays, and an empty handle stays empty
abbrev pub HasClosed : Option AnyNode → Option AnyNode → Answer → Type 0
HasClosed None now a = (now ≡ None) × (a ≡ answer.Misuse)
HasClosed (Some was) now a =
    (may_ask (state_of was) ≡ true → (now ≡ None) × (a ≡ answer.Done)) × (may_ask (state_of was) ≡ false → (now ≡ Some was) × (a ≡ answer.Misuse))
