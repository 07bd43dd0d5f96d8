-- The properties of a node that the other definitions use, whatever the kind of its line. Only this file lists the
-- kinds of lines and distinguishes between them. The definitions in this file were made for this project; none is taken
-- from the literature.
use Rattle.std.specs.Prelude.{ℕ, List, [], ◌∷◌}
use Rattle.qolb_model.specs.declared.view.View.{View}
use Rattle.line_generic.specs.declared.discipline.Discipline as discipline
use Rattle.line_generic.specs.declared.discipline.DisciplineSpec as spec
use Rattle.line_generic.specs.declared.line.Line.{Line}
use Rattle.line_generic.specs.declared.wake.WakePolicy as wake
use Rattle.line_generic.specs.Ports.{PortModel}
use Rattle.ring_line.specs.contracts.invariant.RingQueueDisciplineSpec.TheImpl as ring
use Rattle.link_line.specs.contracts.invariant.LinkQueueDisciplineSpec.TheImpl as link
use Rattle.ticket_line.specs.contracts.invariant.TicketQueueDisciplineSpec.TheImpl as ticket
use Rattle.line_kinds.specs.declared.Lock.{Lock}
use Rattle.line_kinds.specs.declared.Lock.TheVariants as lines
use Rattle.qolb_nodes.specs.declared.any_node.AnyNode.{AnyNode}
use Rattle.qolb_nodes.specs.declared.any_node.AnyNode.TheVariants as any
use Rattle.qolb_nodes.specs.NodeCalls.{Node}

-- What a node is, whatever its discipline: the kind of its line, how many nodes that line has, the node's port, the
-- node with another port, and what its discipline says of words and atomic steps.
pub record NodeInfo : Type 0 where
  pub kind : Lock
  pub nodes : ℕ
  pub port : PortModel
  pub with_port : PortModel → AnyNode
  pub wait_word : ℕ → ℕ → ℕ → ℕ
  pub wake_word : View → ℕ
  pub max_steps : ℕ → ℕ

-- a node of the discipline `d`
abbrev pub info_by : {K Q O W N : Type 0} {q : discipline.Ghosts Q K O} {w : wake.Ghosts W N} → Lock → spec.Ghosts Q O → (Node q w → AnyNode) → Node q w → NodeInfo
info_by kind d make node = record {
  kind = kind;
  nodes = node.line.table.shared.key.config.nodes;
  port = node.port;
  with_port = λ port. make (record node { port = port });
  wait_word = d.wait_word;
  wake_word = d.wake_word;
  max_steps = d.max_steps;
}

-- a node of any kind, by its discipline
abbrev pub info_of : AnyNode → NodeInfo
info_of (any.Ring node) = info_by lines.Ring ring.ghosts any.Ring node
info_of (any.Link node) = info_by lines.Link link.ghosts any.Link node
info_of (any.Ticket node) = info_by lines.Ticket ticket.ghosts any.Ticket node

-- the kinds of line, in the order of C's numbers
abbrev pub c_kinds : List Lock
c_kinds = lines.Ring ∷ lines.Link ∷ lines.Ticket ∷ []
