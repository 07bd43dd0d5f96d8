-- What each exported function guarantees about the handle that it receives: how the node of the handle changes, if the
-- handle has one. The definitions in this file were made for this project; none is taken from the literature.
use Rattle.std.specs.Prelude.{◌≡◌, ℕ, true, false, Option, Some, None}
use Rattle.qolb_model.specs.PortStates.{may_ask}
use Rattle.qolb_nodes.specs.declared.answer.Answer.{Answer}
use Rattle.qolb_nodes.specs.declared.answer.Answer.TheVariants as answer
use Rattle.qolb_nodes.specs.declared.any_node.AnyNode.{AnyNode}
use Rattle.qolb_nodes.specs.Calls.{view_of, state_of, TellsTurns, TellsWord}
use Rattle.qolb_nodes.specs.Waits.{nowhere, went_to_of}
use Rattle.qolb_nodes.specs.Numbers.{number_of, state_number}

-- a call of an empty handle is misuse, and the handle stays empty; otherwise its node is called, and the number of the
-- answer is returned
abbrev pub Calls : (AnyNode → AnyNode → Answer → Type 0) → Option AnyNode → Option AnyNode → ℕ → Type 0
Calls Does None now n = (now ≡ None) × (n ≡ number_of answer.Misuse)
Calls Does (Some was) now n = (node : AnyNode) × (a : Answer) × (now ≡ Some node) × (n ≡ number_of a) × Does was node a

-- what `close` promises: a node that neither waits nor holds the line is freed, and any other node stays
abbrev pub Closes : Option AnyNode → Option AnyNode → ℕ → Type 0
Closes None now n = (now ≡ None) × (n ≡ number_of answer.Misuse)
Closes (Some was) now n = (may_ask (state_of was) ≡ true → (now ≡ None) × (n ≡ number_of answer.Done)) × (may_ask (state_of was) ≡ false → (now ≡ Some was) × (n ≡ number_of answer.Misuse))

-- the node's number, label and state as C reads them, which are 0 for an empty handle
abbrev pub node_number : Option AnyNode → ℕ
node_number None = 0
node_number (Some node) = (view_of node).node

abbrev pub label_told : Option AnyNode → ℕ
label_told None = 0
label_told (Some node) = (view_of node).label

abbrev pub state_told : Option AnyNode → ℕ
state_told None = 0
state_told (Some node) = state_number (state_of node)

-- the turns left as C reads them, which are 0 for an empty handle
abbrev pub TurnsLeft : Option AnyNode → ℕ → Type 0
TurnsLeft None n = n ≡ 0
TurnsLeft (Some node) n = TellsTurns node n

-- the word on which the node waits, as C reads it, which is no word for an empty handle
abbrev pub WaitsAt : Option AnyNode → ℕ → Type 0
WaitsAt None n = n ≡ nowhere
WaitsAt (Some node) n = TellsWord node n

-- the next holder's word, as C reads it: the word that the node noted, and no word for an empty handle
abbrev pub WentTo : Option AnyNode → ℕ → Type 0
WentTo None n = n ≡ nowhere
WentTo (Some node) n = went_to_of node ≡ Some n
