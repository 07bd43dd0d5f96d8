-- The numbers that tell C code on which words of a line its nodes wait. The definitions in this file were made for this
-- project; none is taken from the literature.
use Rattle.std.specs.Prelude.{ℕ, Option}
use Rattle.qolb_model.specs.declared.view.View.{View}
use Rattle.qolb_nodes.specs.declared.any_node.AnyNode.{AnyNode}
use Rattle.qolb_nodes.specs.NodeInfo.{info_of}

-- a number that is not a word of any line, so no node waits there
abbrev pub nowhere : ℕ
nowhere = 0xffff_ffff_ffff_ffff

-- the word on which the node waits, by the number of nodes of its line, its own number, and its token
abbrev pub wait_word_of : AnyNode → ℕ
wait_word_of node = (info_of node).wait_word (info_of node).port.view.config.nodes (info_of node).port.view.node (info_of node).port.token

-- the word on which the node at its turn waits, on a line of the node's kind, according to a port's view
abbrev pub wake_word_of : AnyNode → View → ℕ
wake_word_of node = (info_of node).wake_word

-- the word that the node noted at its last release
abbrev pub went_to_of : AnyNode → Option ℕ
went_to_of node = (info_of node).port.went_to
