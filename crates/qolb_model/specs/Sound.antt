-- Defines what is true of a port's view after each call, and therefore also between two calls. The definitions in this
-- file were made for this project; none is taken from the literature.
use Rattle.std.specs.Prelude.{◌≡◌, ◌⊎◌, ℕ, ◌+◌, ◌<◌, ◌≤◌, false, List, [], ◌∷◌, length, slice_get, Some}
use Rattle.qolb_model.specs.declared.request.Request.{Request}
use Rattle.qolb_model.specs.declared.config.LineConfig.{LineConfig}
use Rattle.qolb_model.specs.declared.view.View.{View}
use Rattle.qolb_model.specs.PortStates.{may_ask}
use Rattle.qolb_model.specs.Requests.{Has}
use Rattle.qolb_model.specs.Views.{Extends, own}
use Rattle.qolb_model.specs.OneHistory.{OneHistory}
use Rattle.qolb_model.specs.Kept.{IsKept}
use Rattle.qolb_model.specs.Opening.{MayOpen}

-- a freed request is clear once the port knows that the request behind it is joined
abbrev pub IsFreedClear : View → Type 0
IsFreedClear v = (p : ℕ) (r next : Request) → slice_get v.order p ≡ Some r → slice_get v.order (p + 1) ≡ Some next → Has v.freed r → Has v.joined next → Has v.clear r

-- The port knows the outcome of each request of its own node: the request has ended; or it is withdrawn; or it is the
-- last one, and waits or holds.
abbrev pub KnowsOwnHistory : View → Type 0
KnowsOwnHistory v = (p : ℕ) (r : Request) → slice_get v.order p ≡ Some r → r.node ≡ v.node → (p < length v.ends) ⊎ (Has v.marked r ⊎ ((r ≡ own v) × (may_ask v.state ≡ false)))

-- What every call keeps. The port forgets nothing, and its view is true of some history in which all turns kept the
-- data invariant. The port knows the outcome of its own requests.
pub record Continues (allows : List ℕ → List ℕ → Type 0) (old new : View) : Type 0 where
  pub extends : Extends old new
  pub history : OneHistory (new ∷ [])
  pub kept : IsKept allows new
  pub freed_clear : IsFreedClear new
  pub own_history : KnowsOwnHistory new

-- what is true of each port of a line that was opened with this label and this configuration
pub record IsSound (good : List ℕ → Type 0) (allows : List ℕ → List ℕ → Type 0) (label : ℕ) (config : LineConfig) (v : View) : Type 0 where
  pub label_is : v.label ≡ label
  pub config_is : v.config ≡ config
  pub may_open : MayOpen config
  pub opened_good : good config.opening.bytes
  pub first_node : 1 ≤ v.node
  pub last_node : v.node ≤ config.nodes
  pub history : OneHistory (v ∷ [])
  pub kept : IsKept allows v
  pub freed_clear : IsFreedClear v
  pub own_history : KnowsOwnHistory v
