-- The theorems about the tables of array locks that are specific to the ticket line. This file is in `specs`, because
-- the proof of a theorem may not refer to anything in `proofs`.
use Rattle.std.proofs.Common.{◌≡◌, ℕ, ◌+◌, ◌-◌, ◌/◌, ◌%◌, ◌^◌, ◌<◌, ◌≤◌, List, [], ◌∷◌, Option, set, slice_index, false, refl, sym, ap, ◌∙◌, subst, arith, length-set, mod-lt}
use Rattle.std.proofs.Math.Nat.{mod-eq_of_lt}
use mathlib.Core.Option.{some}
use Rattle.atomic_table.specs.Table.{chain, gives}
use Rattle.line_generic.specs.declared.table.Payload.{Payload}
use Rattle.line_generic.specs.Slots.{Slots}
use Rattle.qolb_model.specs.declared.config.TheConstants.{MAX_NODES}
use Rattle.qolb_model.specs.declared.config.LineConfig.{LineConfig}
use Rattle.qolb_model.specs.declared.view.View.{View}
use Rattle.line_cells.specs.Counting.{cells_for}
use Rattle.line_cells.proofs.Counting.{node_below, some_cells}
use Rattle.line_cells.specs.BetweenCalls.{max_steps}
use Rattle.line_cells.specs.Layout.{cell_at, cells_in, ticket_at, ticket_of}
use Rattle.ticket_line.specs.declared.layout.TheConstants.{NUMBER_UNIT, NUMBERS}
use Rattle.ticket_line.specs.Layout.{cell_of, number, granted_word}
use Rattle.line_generic.specs.declared.table.TableKey.{TableKey}
use Rattle.qolb_model.specs.Opening.{MayOpen}
use Rattle.line_cells.specs.SlotLayout.{IsBehind}
use Rattle.line_cells.proofs.Slots.{MayReturnSlots, stays_spare, open_behind}
use Rattle.ticket_line.specs.Layout.{AreFirst, ticket_after}
use Rattle.ticket_line.specs.Slots.{slot_layout, slots_in_turn, slot_of, last}
use Rattle.ticket_line.specs.Ticket.{IsLater, TicketCells}

-- a release takes at most two steps for each node
pub max_steps_positive : (nodes : ℕ) → 1 ≤ nodes → 1 ≤ max_steps 2 nodes
max_steps_positive nodes one = omega arith

pub max_steps_fits : (nodes : ℕ) → nodes ≤ MAX_NODES → max_steps 2 nodes < 2 ^ 32
max_steps_fits nodes few = omega arith

-- the words of the cells of a new line
pub first_cells : (nodes : ℕ) (words : List ℕ) → AreFirst nodes words → TicketCells nodes 0 0 false (λ _. 0) (cells_in words)
first_cells nodes words first = record {
  kept = refl;
  turn = ap (λ k. k / NUMBER_UNIT) granted_first ∙ (let one : granted_word 0 / NUMBER_UNIT ≡ number 0 = omega arith in one);
  granted = λ _. granted_first;
  later = later_blank;
}
  where
    zeroth : cell_of nodes 0 ≡ 0
    zeroth = mod-eq_of_lt (some_cells nodes)

    granted_first : cells_in words (cell_of nodes 0) ≡ granted_word 0
    granted_first = ap (cells_in words) zeroth ∙ first.0

    later_blank : (k : ℕ) → 0 < k → k < cells_for nodes → IsLater nodes (0 + k) 0 (cells_in words (cell_of nodes (0 + k)))
    later_blank k a b =
        let cell : cell_of nodes (0 + k) ≡ k = ap (cell_of nodes) (let e : 0 + k ≡ k = omega arith in e) ∙ mod-eq_of_lt b in
        let blank : cells_in words (cell_of nodes (0 + k)) ≡ 0 = ap (cells_in words) cell ∙ first.1 (cell_at k) (omega arith) (λ e. omega (arith, e)) in
        let short : 0 + k + 1 - cells_for nodes ≡ 0 = omega arith in record {
          withdrawn = λ h. absurd (omega arith);
          before = λ _. ap (λ q. q / NUMBER_UNIT) blank ∙ ap (λ q. q % NUMBERS) (sym short);
        }

-- the slot of the line when it is opened, and at the end
pub first_slot : (nodes : ℕ) → (slot_layout nodes).home_slot 0 < (slot_layout nodes).count
first_slot nodes = let low : cell_of nodes (ticket_of 0) < cells_for nodes = mod-lt (ticket_of 0) (some_cells nodes) in omega arith

pub is_last : (nodes : ℕ) (words : List ℕ) (n : ℕ) → slice_index words ticket_at ≡ ticket_of n → last nodes words ≡ (slot_layout nodes).home_slot n
is_last nodes words n is = ap (slot_of nodes) is

-- a holder can return its slots
may_return_slots : (nodes ticket : ℕ) (left : Option ℕ) (z x : Payload) (slots : Slots) → IsBehind left false z → IsBehind left false x → slots ≡ (slot_of nodes (ticket_after ticket), z) ∷ (slot_of nodes ticket, x) ∷ [] → MayReturnSlots (slot_layout nodes) left slots
may_return_slots nodes ticket left z x slots b c is = subst (MayReturnSlots (slot_layout nodes) left) (sym is) (λ homes deep. (
  chain gives gives,
  (tt, tt),
  length-set (set homes (slot_of nodes (ticket_after ticket)) (some z)) (slot_of nodes ticket) (some x) ∙ length-set homes (slot_of nodes (ticket_after ticket)) (some z),
  refl,
  λ k closed h. stays_spare left closed (set homes (slot_of nodes (ticket_after ticket)) (some z)) (slot_of nodes ticket) k x (open_behind left x c closed) (stays_spare left closed homes (slot_of nodes (ticket_after ticket)) k z (open_behind left z b closed) h),
))

-- a holder that knows the number of nodes can return its slots
pub holder_returns : (key : TableKey) (v : View) (ticket : ℕ) (left : Option ℕ) (slots : Slots) → slots_in_turn v.config.nodes ticket left slots → v.config ≡ key.config → MayReturnSlots (slot_layout key.config.nodes) left slots
holder_returns key v ticket left slots kept same = let k : slots_in_turn key.config.nodes ticket left slots = subst (λ (t : LineConfig). slots_in_turn t.nodes ticket left slots) same kept in may_return_slots key.config.nodes ticket left k.0 k.1 slots k.3 k.4 k.2

-- there are more cells than nodes
pub enough : (key : TableKey) → MayOpen key.config → key.config.nodes < cells_for key.config.nodes
enough key may = node_below key.config.nodes key.config.nodes (omega arith) may.nodes.few
