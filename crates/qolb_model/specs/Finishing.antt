-- How a program finishes a line. The program must have the ports of all nodes. The definitions in this file were made
-- for this project; none is taken from the literature.
use Rattle.std.specs.Prelude.{◌≡◌, ◌≢◌, ℕ, zero, suc, ◌<◌, ◌≤◌, true, false, List, length, slice_get, Some}
use Rattle.qolb_model.specs.declared.unfinished.FinishError.{FinishError}
use Rattle.qolb_model.specs.declared.unfinished.FinishError.TheVariants.{Memory, Unquiet, Missing}
use Rattle.qolb_model.specs.declared.view.View.{View}
use Rattle.qolb_model.specs.declared.config.LineConfig.{LineConfig}
use Rattle.qolb_model.specs.PortStates.{may_ask}
use Rattle.qolb_model.specs.Ends.{bytes_after}
use Rattle.qolb_model.specs.OneHistory.{IsAmong, OneHistory}
use Rattle.qolb_model.specs.Kept.{AreAllowed}
use Rattle.qolb_model.specs.Opening.{MayOpen}

-- all ports have this label, or some port has another label
abbrev pub AreOfLine : ℕ → List View → Type 0
AreOfLine label views = (v : View) → IsAmong views v → v.label ≡ label

abbrev pub HasOther : ℕ → List View → Type 0
HasOther label views = (v : View) × IsAmong views v × (v.label ≢ label)

-- the node has a port, or the node has none
abbrev pub IsThere : List View → ℕ → Type 0
IsThere views node = (v : View) × IsAmong views v × (v.node ≡ node)

abbrev pub IsMissing : List View → ℕ → Type 0
IsMissing views node = (v : View) → IsAmong views v → v.node ≢ node

-- no two of these ports are of the same node
abbrev pub EachNodeOnce : List View → Type 0
EachNodeOnce views = (i j : ℕ) (v w : View) → slice_get views i ≡ Some v → slice_get views j ≡ Some w → v.node ≡ w.node → i ≡ j

-- no port of the node waits or holds, or some port of the node does
abbrev pub IsQuiet : List View → ℕ → Type 0
IsQuiet views node = (v : View) → IsAmong views v → v.node ≡ node → may_ask v.state ≡ true

abbrev pub IsUnquiet : List View → ℕ → Type 0
IsUnquiet views node = (v : View) × IsAmong views v × (v.node ≡ node) × (may_ask v.state ≡ false)

-- the fact holds of each node
abbrev pub EachNode : ℕ → (ℕ → Type 0) → Type 0
EachNode nodes P = (node : ℕ) → 1 ≤ node → node ≤ nodes → P node

-- the smallest node that fails: each node before it is fine
pub record IsLeast (nodes : ℕ) (Fails IsFine : ℕ → Type 0) (node : ℕ) : Type 0 where
  pub first : 1 ≤ node
  pub last : node ≤ nodes
  pub fails : Fails node
  pub before : (m : ℕ) → 1 ≤ m → m < node → IsFine m

-- with these ports, only lack of memory can prevent finishing: all ports are of the line, each node has one, and none
-- waits or holds
abbrev pub MayFinish : ℕ → ℕ → List View → Type 0
MayFinish label nodes views = AreOfLine label views × EachNode nodes (IsThere views) × EachNode nodes (IsQuiet views)

-- The cause of a refusal, in this order: a port of another line; a node without a port; a node that is not quiet. Lack
-- of memory is the cause only if there is no other.
abbrev pub MayRefuse : ℕ → ℕ → List View → FinishError → Type 0
MayRefuse label nodes views (Missing zero) = HasOther label views
MayRefuse label nodes views (Missing (suc n)) = AreOfLine label views × IsLeast nodes (IsMissing views) (IsThere views) (suc n)
MayRefuse label nodes views (Unquiet n) = AreOfLine label views × EachNode nodes (IsThere views) × IsLeast nodes (IsUnquiet views) (IsQuiet views) n
MayRefuse label nodes views Memory = MayFinish label nodes views

-- The end of a line, by the views of all its nodes. The views are of different nodes and of one history, in which every
-- request has ended and every turn kept the data invariant. The bytes are those after all ends, and they are good.
pub record IsFinalLine (good : List ℕ → Type 0) (allows : List ℕ → List ℕ → Type 0) (config : LineConfig) (views : List View) (bytes : List ℕ) : Type 0 where
  pub may_open : MayOpen config
  pub once : EachNodeOnce views
  pub history : OneHistory views
  pub config_is : history.config ≡ config
  pub all_ended : length history.ends ≡ length history.order
  pub kept : AreAllowed allows config.opening.bytes history.ends
  pub result : bytes ≡ bytes_after config.opening.bytes history.ends
  pub is_good : good bytes

-- The line is finished: there is no cause of refusal, and each node has one port. All ports are of one history of the
-- line, in which every request has ended and every turn kept the data invariant. The bytes are the opening bytes,
-- changed by all served writes in order, and they are good.
pub record IsFinished (good : List ℕ → Type 0) (allows : List ℕ → List ℕ → Type 0) (label : ℕ) (config : LineConfig) (views : List View) (bytes : List ℕ) : Type 0 where
  pub of_line : AreOfLine label views
  pub may_open : MayOpen config
  pub there : EachNode config.nodes (IsThere views)
  pub once : EachNodeOnce views
  pub quiet : EachNode config.nodes (IsQuiet views)
  pub history : OneHistory views
  pub config_is : history.config ≡ config
  pub all_ended : length history.ends ≡ length history.order
  pub kept : AreAllowed allows config.opening.bytes history.ends
  pub result : bytes ≡ bytes_after config.opening.bytes history.ends
  pub is_good : good bytes
