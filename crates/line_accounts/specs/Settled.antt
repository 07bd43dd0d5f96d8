-- What holds after the accounts were settled: all lines are finished, together with the desks that have ports on them.
-- The definitions in this file were made for this project; none is taken from the literature.
use Rattle.std.specs.Prelude.{◌≡◌, ◌≢◌, ℕ, ◌<◌, List, ◌++◌, ◌∷◌, [], length, map, slice_get, Option, Some, None}
use Rattle.std.specs.List.{sum_by}
use Rattle.line_lanes.specs.Lane.{lanes_total}
use Rattle.qolb_model.specs.declared.config.LineConfig.{LineConfig}
use Rattle.qolb_model.specs.declared.view.View.{View}
use Rattle.qolb_model.specs.Finishing.{EachNode, IsLeast, IsFinished}
use Rattle.line_accounts.specs.declared.answer.SettleError.{SettleError}
use Rattle.line_accounts.specs.declared.answer.SettleError.TheVariants.{Memory, Missing}
use Rattle.line_accounts.specs.Accounts.{AreBalances, StayBalances}
use Rattle.line_accounts.specs.Desks.{DeskOf}

-- the sum of what was paid in at all desks; the sum of what was paid out
abbrev pub all_paid_in : {Port : Type 0} → List (DeskOf Port) → ℕ
all_paid_in desks = sum_by (λ desk. desk.paid_in) desks

abbrev pub all_paid_out : {Port : Type 0} → List (DeskOf Port) → ℕ
all_paid_out desks = sum_by (λ desk. desk.paid_out) desks

-- the sum of all balances that the lines were opened with
abbrev pub all_opened : {Line : Type 0} → (Line → LineConfig) → List Line → ℕ
all_opened config_of lines = sum_by (λ line. lanes_total (config_of line).opening.bytes) lines

module _ {Port : Type 0} (view : Port → View) (desks : List (DeskOf Port)) where
  -- some desk has the node's port of line i; no desk has it
  pub record HasPort (i node : ℕ) : Type 0 where
    pub place : ℕ
    pub desk : DeskOf Port
    pub port : Port
    pub desk_at : slice_get desks place ≡ Some desk
    pub port_at : slice_get desk.ports i ≡ Some port
    pub of_node : (view port).node ≡ node

  abbrev pub LacksPort : ℕ → ℕ → Type 0
  LacksPort i node = (k : ℕ) (desk : DeskOf Port) (port : Port) → slice_get desks k ≡ Some desk → slice_get desk.ports i ≡ Some port → (view port).node ≢ node

module _ {Line Port : Type 0} (view : Port → View) (config_of : Line → LineConfig) (lines : List Line) (desks : List (DeskOf Port)) where
  -- each node of each line has a port at some desk
  abbrev pub AreAllThere : Type 0
  AreAllThere = (i : ℕ) (line : Line) → slice_get lines i ≡ Some line → EachNode (config_of line).nodes (HasPort view desks i)

  -- The smallest node without a port of line i. Line i is the smallest line that lacks a port.
  pub record IsFirstMissing (i node : ℕ) : Type 0 where
    pub line : Line
    pub at : slice_get lines i ≡ Some line
    pub least : IsLeast (config_of line).nodes (LacksPort view desks i) (HasPort view desks i) node
    pub before : (j : ℕ) (other : Line) → j < i → slice_get lines j ≡ Some other → EachNode (config_of other).nodes (HasPort view desks j)

  -- why nothing is settled: a node has no port; or, only if each node has one, lack of memory
  abbrev pub MayNotSettle : SettleError → Type 0
  MayNotSettle (Missing i node) = IsFirstMissing i node
  MayNotSettle Memory = AreAllThere

-- what `settle` hands back with an error: all that the caller handed in, or nothing if memory is short
abbrev pub IsBack : {X : Type 0} → X → SettleError → Option X → Type 0
IsBack all (Missing i node) back = back ≡ Some all
IsBack all Memory back = back ≡ None

-- these are the desks' ports of line i, in the desks' order
pub record ArePortsOf {Port : Type 0} (desks : List (DeskOf Port)) (i : ℕ) (ports : List Port) : Type 0 where
  pub len : length ports ≡ length desks
  pub each : (k : ℕ) (desk : DeskOf Port) → slice_get desks k ≡ Some desk → slice_get ports k ≡ slice_get desk.ports i

module _ {Line Port : Type 0} (view : Port → View) (label_of : Line → ℕ) (config_of : Line → LineConfig) (lines : List Line) (desks : List (DeskOf Port)) where
  -- line i was finished with the desks' ports of it, which are of one history in which all requests of the line have
  -- ended
  pub record IsSettled (i : ℕ) (line : Line) : Type 0 where
    pub ports : List Port
    pub are : ArePortsOf desks i ports
    pub bytes : List ℕ
    pub finished : IsFinished AreBalances StayBalances (label_of line) (config_of line) (map view ports) bytes

  -- each line was settled in this way
  abbrev pub AreSettled : Type 0
  AreSettled = (i : ℕ) (line : Line) → slice_get lines i ≡ Some line → IsSettled i line

-- the last port of each desk was taken
pub record TakesLast {Port : Type 0} (old new : List (DeskOf Port)) (ports : List Port) : Type 0 where
  pub desks_left : length new ≡ length old
  pub ports_taken : length ports ≡ length old
  pub each : (k : ℕ) (desk : DeskOf Port) → slice_get old k ≡ Some desk
      → (rest : List Port) × (port : Port) × (desk.ports ≡ rest ++ port ∷ []) × (slice_get new k ≡ Some (record desk { ports = rest })) × (slice_get ports k ≡ Some port)
