-- A desk consists of the ports that one node has on several lines, and of the sums that were paid in and out through
-- these ports. The definitions in this file were made for this project; none is taken from the literature.
use Rattle.std.specs.Prelude.{◌≡◌, ◌≤◌, ℕ, ◌+◌, true, List, length, Some, slice_get}
use Rattle.std.specs.List.{sum_by}
use Rattle.qolb_model.specs.declared.answer.PortState.TheVariants.{Rolled}
use Rattle.qolb_model.specs.declared.view.View.{View}
use Rattle.qolb_model.specs.PortStates.{may_ask}
use Rattle.qolb_model.specs.Counting.{Counters, IsWithinCalls}
use Rattle.qolb_model.specs.Sums.{KnowsOwnPlaces}
use Rattle.line_accounts.specs.Paid.{paid_by, drawn_by}

-- a desk, as its callers see it: its port of each line, and the sums paid in and out
pub record DeskOf (Port : Type 0) : Type 0 where
  pub ports : List Port
  pub paid_in : ℕ
  pub paid_out : ℕ

-- the port neither waits nor holds, and knows what became of its requests
pub record IsAtRest (v : View) : Type 0 where
  pub quiet : may_ask v.state ≡ true
  pub places : KnowsOwnPlaces v

-- port i is of line i
pub record AreOver {Line Port : Type 0} (belongs : Line → Port → Type 0) (lines : List Line) (ports : List Port) : Type 0 where
  pub count : length ports ≡ length lines
  pub each_belongs : (i : ℕ) (line : Line) (port : Port) → slice_get lines i ≡ Some line → slice_get ports i ≡ Some port → belongs line port

-- a desk over these lines, between calls: port i is of line i and at rest; and the sum that its ports have paid is what
-- was paid in, less what was paid out
pub record IsDeskOver {Line Port : Type 0} (belongs : Line → Port → Type 0) (view : Port → View) (lines : List Line) (desk : DeskOf Port) : Type 0 where
  pub over : AreOver belongs lines desk.ports
  pub at_rest : (i : ℕ) (port : Port) → slice_get desk.ports i ≡ Some port → IsAtRest (view port)
  pub paid : sum_by (λ port. paid_by (view port)) desk.ports + desk.paid_out ≡ sum_by (λ port. drawn_by (view port)) desk.ports + desk.paid_in

-- since `old`, no port has polled more often than `patience`
pub record ArePatient {Port : Type 0} (counters : Port → Counters) (patience : ℕ) (old new : List Port) : Type 0 where
  pub each : (i : ℕ) (before after : Port) → slice_get old i ≡ Some before → slice_get new i ≡ Some after → (counters after).poll_count ≤ (counters before).poll_count + patience

-- since `old`, each port was polled some number of times, and has taken no more atomic steps than these polls and three
-- more calls may take
pub record AreWithinCalls {Line Port : Type 0} (counters : Port → Counters) (max_steps : Line → ℕ) (lines : List Line) (old new : List Port) : Type 0 where
  pub each : (i : ℕ) (line : Line) (before after : Port) → slice_get lines i ≡ Some line → slice_get old i ≡ Some before → slice_get new i ≡ Some after → IsWithinCalls (max_steps line) 3 (counters before) (counters after)

-- since `old`, the port has polled exactly `patience` times, and its request was then withdrawn
pub record HasWaited {Port : Type 0} (counters : Port → Counters) (view : Port → View) (patience : ℕ) (old new : Port) : Type 0 where
  pub looked : (counters new).poll_count ≡ (counters old).poll_count + patience
  pub withdrawn : (view new).state ≡ Rolled

-- one of the ports has waited in this way
pub record HasOneWaited {Port : Type 0} (counters : Port → Counters) (view : Port → View) (patience : ℕ) (old new : List Port) : Type 0 where
  pub place : ℕ
  pub before : Port
  pub after : Port
  pub was : slice_get old place ≡ Some before
  pub is : slice_get new place ≡ Some after
  pub waited : HasWaited counters view patience before after
