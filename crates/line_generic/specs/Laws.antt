-- Names for the theorems that must be proved for each queue algorithm. They concern the words of the algorithm's table,
-- its invariant, and its slots.
use Rattle.std.specs.Prelude.{◌≡◌, ℕ, List, [], ◌∷◌, ◌++◌, replicate, length, Bool, false, Option}
use mathlib.Core.Option.{some, none}
use lib.ListN.{get_elem?}
use Rattle.atomic_table.specs.Table.{State, Splits, Joins, Allows, Final, opening, step}
use Rattle.qolb_model.specs.Entries.{front, behind}
use Rattle.qolb_model.specs.declared.answer.PortState.{PortState}
use Rattle.qolb_model.specs.declared.answer.PortState.TheVariants as port_state
use Rattle.qolb_model.specs.declared.view.View.{View}
use Rattle.qolb_model.specs.Leases.{turns_left}
use Rattle.qolb_model.specs.Opening.{MayOpen}
use Rattle.qolb_model.specs.Finishing.{IsFinalLine}
use Rattle.line_generic.specs.declared.table.Payload.{Payload}
use Rattle.line_generic.specs.declared.table.TableKey.{TableKey}
use Rattle.line_generic.specs.declared.table.NodeGhost.{NodeGhost}
use Rattle.line_generic.specs.AtTurn.{SeesTurn}
use Rattle.line_generic.specs.NodeGhosts.{SeatContents, initial_nodes, AllInState, views_of}
use Rattle.line_generic.specs.PortPhases.{PortPhases}
use Rattle.line_generic.specs.Steps.{after_meet, slots_returned, PollOutcome}

-- the states that a port can show include that of each node at rest
abbrev pub HasAllowedStates : {O : Type 0} → PortPhases O → (PortState → Type 0) → Type 0
HasAllowedStates {O} q allowed_states = (nodes : ℕ) (state : PortState) (token : ℕ) (own : O) → q.in_state nodes state token own → allowed_states state

-- a holder of the open line waited at the word of the turn that another port sees
abbrev pub HasHolderWord : {O : Type 0} → PortPhases O → (ℕ → ℕ → ℕ → ℕ) → (View → ℕ) → Type 0
HasHolderWord {O} q wait_word wake_word = (token : ℕ) (u v : View) (local : O) → q.holds_open token (length v.ends) local → SeesTurn u v → wait_word v.config.nodes v.node token ≡ wake_word u

-- a node to which a closed line was granted also waited at the word of its turn
abbrev pub HasClosedWord : {O : Type 0} → PortPhases O → (ℕ → ℕ → ℕ → ℕ) → (View → ℕ) → Type 0
HasClosedWord {O} q wait_word wake_word = (token : ℕ) (u v : View) (local : O) (y : Payload) → q.holds_closed token v local y → SeesTurn u v → wait_word v.config.nodes v.node token ≡ wake_word u

-- a waiter that loads its word finds its turn as the lower half says
abbrev pub HasPollOutcome : {O : Type 0} → (TableKey → State Payload (List (NodeGhost O)) → Type 0) → PortPhases O → (ℕ → ℕ → ℕ → ℕ) → (ℕ → ℕ → Bool) → ℕ → Type 0
HasPollOutcome {O} holds q wait_word signals_turn token =
    (key : TableKey) (id slots : ℕ) (v : NodeGhost O) → q.in_state v.view.config.nodes port_state.Queued token v.own → Allows (holds key) slots id (v ∷ [], []) (wait_word v.view.config.nodes v.view.node token) (λ n. n) (PollOutcome q signals_turn token)

-- a seat is split behind its first node
abbrev pub HasFirstSplit : {O : Type 0} → (TableKey → State Payload (List (NodeGhost O)) → Type 0) → Type 0
HasFirstSplit {O} holds = (key : TableKey) (id : ℕ) (es : List (NodeGhost O)) → Splits (holds key) id es (front es) (behind es)

-- an empty seat is split off
abbrev pub HasEmptySplit : {O : Type 0} → (TableKey → State Payload (List (NodeGhost O)) → Type 0) → Type 0
HasEmptySplit {O} holds = (key : TableKey) (id : ℕ) (es : List (NodeGhost O)) → Splits (holds key) id es es []

-- two seats are joined into one with the nodes of both
abbrev pub HasJoin : {O : Type 0} → (TableKey → State Payload (List (NodeGhost O)) → Type 0) → Type 0
HasJoin {O} holds = (key : TableKey) (id other : ℕ) (es fs : List (NodeGhost O)) → Joins (holds key) id es other fs (es ++ fs) []

-- a table has this number of slots
abbrev pub HasSlots : {O : Type 0} → (TableKey → State Payload (List (NodeGhost O)) → Type 0) → (ℕ → ℕ) → Type 0
HasSlots {O} holds slot_count = (key : TableKey) (s : State Payload (List (NodeGhost O))) → holds key s → length s.homes ≡ slot_count key.config.nodes

-- a new line with these words satisfies the invariant
abbrev pub HasOpening : {O : Type 0} → (TableKey → State Payload (List (NodeGhost O)) → Type 0) → (List ℕ → Type 0) → (ℕ → ℕ) → (ℕ → List ℕ → Type 0) → (ℕ → ℕ) → O → Type 0
HasOpening holds good word_count are_first slot_count initial =
    (key : TableKey) (words : List ℕ) (y : Payload) → MayOpen key.config → length key.config.opening.bytes ≡ 64 → good key.config.opening.bytes → length words ≡ word_count key.config.nodes → are_first key.config.nodes words
    → y.bytes.bytes ≡ key.config.opening.bytes → y.closed ≡ false → y.turns_left ≡ key.config.lease → holds key (opening words (replicate (slot_count key.config.nodes) y) (initial_nodes initial key))

-- two nodes of one seat merge their views
abbrev pub HasMeeting : {O : Type 0} → (TableKey → State Payload (List (NodeGhost O)) → Type 0) → (List ℕ → List ℕ → Type 0) → O → Type 0
HasMeeting {O} holds allows initial =
    (key : TableKey) (id slots i : ℕ) (m : SeatContents O) (v u : NodeGhost O) → m.0 ≡ v ∷ u ∷ [] → Allows (holds key) slots id m i (λ n. n) (after_meet allows initial (step slots i 0 0 none) m)

-- a holder can return its slots to the table
abbrev pub HasSlotReturn : {O : Type 0} → (TableKey → State Payload (List (NodeGhost O)) → Type 0) → PortPhases O → Type 0
HasSlotReturn {O} holds q =
    (key : TableKey) (id slots i : ℕ) (m : SeatContents O) (v : NodeGhost O) (token : ℕ) (left : Option ℕ) → m.0 ≡ v ∷ [] → v.view.state ≡ port_state.Holding → left ≡ turns_left v.view.config.lease v.view.ends → q.slots_in_turn v.view.config.nodes token left m.1
    → Allows (holds key) slots id m i (λ n. n) (slots_returned (step slots i 0 0 none) m)

-- if all nodes are in one seat, each at rest, the slot `last` has the final line
abbrev pub HasFinalLine : {O : Type 0} → (TableKey → State Payload (List (NodeGhost O)) → Type 0) → (List ℕ → Type 0) → (List ℕ → List ℕ → Type 0) → PortPhases O → (ℕ → List ℕ → ℕ) → Type 0
HasFinalLine {O} holds good allows q last =
    (key : TableKey) (es : List (NodeGhost O)) (id : ℕ) (words : List ℕ) (xs : List Payload) → AllInState q.in_state key.config.nodes es → Final (λ s. holds key s × (get_elem? s.views id ≡ some es)) words xs
    → (y : Payload) × (get_elem? xs (last key.config.nodes words) ≡ some y) × IsFinalLine good allows key.config (views_of es) y.bytes.bytes
