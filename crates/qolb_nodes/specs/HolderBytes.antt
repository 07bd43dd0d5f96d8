-- What a node can read from its line while it holds the line. The definitions in this file were made for this project;
-- none is taken from the literature.
use Rattle.std.specs.Prelude.{◌≡◌, ℕ, ◌<◌}
use Rattle.line_lanes.specs.declared.line.Line64.{Line64}
use Rattle.line_lanes.specs.Lane.{lane_of}
use Rattle.qolb_model.specs.declared.answer.PortState.TheVariants.{Holding}
use Rattle.qolb_nodes.specs.declared.any_node.AnyNode.{AnyNode}
use Rattle.qolb_nodes.specs.Calls.{state_of, turn_of}

-- the node holds the line
abbrev pub Holds : AnyNode → Type 0
Holds node = state_of node ≡ Holding

-- the node holds the line, which has these bytes
abbrev pub HasBytes : AnyNode → Line64 → Type 0
HasBytes node bytes = Holds node × (bytes ≡ (turn_of node).bytes)

-- the node holds the line, and k is one of its eight lanes
abbrev pub HasLane : AnyNode → ℕ → Type 0
HasLane node k = Holds node × (k < 8)

-- the node holds the line, and this is its lane k, which is one of eight
abbrev pub IsLane : AnyNode → ℕ → ℕ → Type 0
IsLane node k value = Holds node × (k < 8) × (value ≡ lane_of (turn_of node).bytes.bytes k)
