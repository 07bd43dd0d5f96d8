-- The results of opening a line for C code, and the reasons why a line is not opened. The definitions in this file were
-- made for this project; none is taken from the literature.
use Rattle.std.specs.Prelude.{◌≡◌, ◌≢◌, ◌⊎◌, ℕ, ◌<◌, ◌≤◌, ◌==◌, if◌then◌else◌, List, [], ◌∷◌, ◌++◌, map, drop, length, slice_get, Option, Some, None}
use Rattle.std.specs.List.{All}
use Rattle.qolb_model.specs.declared.answer.OpenError.{OpenError}
use Rattle.qolb_model.specs.declared.answer.OpenError.TheVariants as error
use Rattle.qolb_model.specs.declared.config.LineConfig.{LineConfig}
use Rattle.qolb_model.specs.declared.config.TheConstants.{MAX_NODES}
use Rattle.qolb_model.specs.declared.view.View.{View}
use Rattle.qolb_model.specs.Opening.{AreNew, AreNodes, MayOpen}
use Rattle.line_kinds.specs.declared.Lock.{Lock}
use Rattle.qolb_nodes.specs.declared.answer.Answer.{Answer}
use Rattle.qolb_nodes.specs.declared.answer.Answer.TheVariants as answer
use Rattle.qolb_nodes.specs.declared.any_node.AnyNode.{AnyNode}
use Rattle.qolb_nodes.specs.declared.handle.Handle.{Handle}
use Rattle.qolb_nodes.specs.Calls.{view_of, kind_of, AreOfOneLine}
use Rattle.qolb_nodes.specs.NodeInfo.{c_kinds}
use Rattle.qolb_nodes.specs.Nodes.{NodeOf}

-- the kind of line of this number
abbrev pub lines_at : ℕ → Option Lock
lines_at kind = slice_get c_kinds kind

-- a number of a kind of line
abbrev pub IsKind : ℕ → Type 0
IsKind kind = kind < length c_kinds

-- new nodes of one line, one for each number from 1 to the number of nodes
pub record AreOfLine {Line Port : Type 0} (view : Port → View) (label : ℕ) (config : LineConfig) (nodes : List (NodeOf Line Port)) : Type 0 where
  pub line : Line
  pub ports : List Port
  pub of_line : nodes ≡ map (λ port. record { line = line; port = port }) ports
  pub new : AreNew label config (map view ports)

-- a new node for each number from 1 to the number of nodes, in this order, all of this kind and of one line
pub record AreNewNodes (kind : Lock) (label : ℕ) (config : LineConfig) (nodes : List AnyNode) : Type 0 where
  pub new : AreNew label config (map view_of nodes)
  pub of_kind : All (λ node. kind_of node ≡ kind) nodes
  pub one_line : (i j : ℕ) (a b : AnyNode) → slice_get nodes i ≡ Some a → slice_get nodes j ≡ Some b → AreOfOneLine a b

-- the node of each handle, if it has one
abbrev pub held_by : List Handle → List (Option AnyNode)
held_by handles = map (λ (h : Handle). h.held) handles

-- the first `many` handles are empty, or one of them has a node
abbrev pub AreEmpty : ℕ → List Handle → Type 0
AreEmpty many handles = (k : ℕ) → k < many → slice_get (held_by handles) k ≡ Some None

abbrev pub HasNode : ℕ → List Handle → Type 0
HasNode many handles = (k : ℕ) × (k < many) × ((node : AnyNode) × (slice_get (held_by handles) k ≡ Some (Some node)))

-- a line is opened: the first handles, which were empty, now have its new nodes, and the other handles are unchanged
pub record AreOpened (kind label : ℕ) (config : LineConfig) (old new : List Handle) : Type 0 where
  pub lines : Lock
  pub of_number : lines_at kind ≡ Some lines
  pub nodes : List AnyNode
  pub are_new : AreNewNodes lines label config nodes
  pub were_empty : AreEmpty config.nodes old
  pub filled : held_by new ≡ map (λ (node : AnyNode). Some node) nodes ++ drop config.nodes (held_by old)

-- why a line is not opened: the first cause that applies
abbrev pub WhyRefused : (kind : ℕ) → LineConfig → List Handle → Answer → Type 0
WhyRefused kind config handles answer.BadKind = ¬ IsKind kind
WhyRefused kind config handles answer.BadNodes = IsKind kind × ((config.nodes < 1) ⊎ (MAX_NODES < config.nodes))
WhyRefused kind config handles answer.BadLease = IsKind kind × AreNodes config.nodes × (config.lease ≡ Some 0)
WhyRefused kind config handles answer.TooFew = IsKind kind × MayOpen config × (length handles < config.nodes)
WhyRefused kind config handles answer.Occupied = IsKind kind × MayOpen config × (config.nodes ≤ length handles) × HasNode config.nodes handles
WhyRefused kind config handles answer.NoMemory = IsKind kind × MayOpen config × (config.nodes ≤ length handles) × AreEmpty config.nodes handles
WhyRefused kind config handles _ = ⊥

-- what opening promises: either a line is opened, or the handles are unchanged and the answer is the cause
pub record Opens (kind label : ℕ) (config : LineConfig) (old new : List Handle) (a : Answer) : Type 0 where
  pub opened : a ≡ answer.Done → AreOpened kind label config old new
  pub unchanged : a ≢ answer.Done → held_by new ≡ held_by old
  pub why : a ≢ answer.Done → WhyRefused kind config old a

-- the answer for a line's own refusal
abbrev pub refused_by : OpenError → Answer
refused_by error.Memory = answer.NoMemory
refused_by error.Nodes = answer.BadNodes
refused_by error.Lease = answer.BadLease

-- the configuration of a line from C, in which a lease of 2^64 - 1 means no lease
abbrev pub config_by : (nodes lease : ℕ) → List ℕ → LineConfig
config_by nodes lease bytes = record { nodes = nodes; opening = record { bytes = bytes }; lease = if lease == 0xffff_ffff_ffff_ffff then None else Some lease }
