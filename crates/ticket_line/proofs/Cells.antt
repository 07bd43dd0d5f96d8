-- Lemmas about how each atomic step on a cell changes the contents of the cell.
use Rattle.std.proofs.Math.Nat.{add-mod_right}
use Rattle.std.proofs.Common.{◌≡◌, ◌≢◌, ℕ, ◌+◌, ◌-◌, ◌/◌, ◌%◌, ◌^◌, ◌<◌, ◌≤◌, Bool, sym, refl, ap, ◌∙◌, subst, arith}
use mathlib.Core.Logic.{dite}
use native.Mathlib.Decide.{ℕ_discrete, dec_le}
use Rattle.atomic_table.proofs.Lists.{one_turn}
use Rattle.qolb_model.specs.declared.config.TheConstants.{MAX_NODES}
use Rattle.qolb_model.proofs.Updates.{put, put_here, put_else}
use Rattle.line_cells.specs.Counting.{cells_for}
use Rattle.line_cells.proofs.Counting.{two_cells}
use Rattle.line_cells.specs.Layout.{ticket_of}
use Rattle.ticket_line.specs.Layout.{cell_of}
use Rattle.line_cells.proofs.Taking.{Takes, StaysBehind, cells_apart}
use Rattle.line_cells.proofs.Roll.{Withdraws}
use Rattle.line_cells.proofs.Grant.{GrantsNext}
use Rattle.ticket_line.specs.declared.layout.TheConstants.{NUMBER_UNIT, NUMBERS}
use Rattle.ticket_line.specs.Layout.{number, granted_word, withdrawn_word}
use Rattle.ticket_line.specs.Ticket.{IsLater, TicketCells}
use Rattle.ticket_line.specs.Steps.{is_other, is_granted, is_granted_half, withdrawn_by}
use Rattle.ticket_line.proofs.Numbers.{granted_ticket, withdrawn_ticket, not_granted, not_granted_half, number_of_granted, number_of_withdrawn, by_nobody, by_node}

-- a granted cell has the node's own ticket, which no node reads as waiting, and a node that takes the line leaves that
-- number there
pub takes_by : (nodes : ℕ) (waits : ℕ → ℕ → Type 0) (place n : ℕ) (change : ℕ → ℕ) → (waits place (granted_word place) → ⊥)
    → ((word : ℕ) → word ≡ granted_word place → change word / NUMBER_UNIT ≡ number place) → Takes (cells_for nodes) (TicketCells nodes) waits place n change
takes_by nodes waits place n change own slots_in_turn cleared marks says low free c = (
  (λ w. own (subst (waits place) (c.granted refl) w)),
  record {
    kept = refl;
    turn = ap (λ q. q / NUMBER_UNIT) (put_here says (cell_of nodes place) (change (says (cell_of nodes place)))) ∙ slots_in_turn (says (cell_of nodes place)) (c.granted refl);
    granted = λ e. absurd (omega arith);
    later = λ k a b. subst (IsLater nodes (place + k) (marks (place + k))) (sym (put_else says (cell_of nodes place) (change (says (cell_of nodes place))) (cell_of nodes (place + k)) (cells_apart (cells_for nodes) place k a b))) (c.later k a b);
  },
)

pub takes : (nodes : ℕ) (place n : ℕ) (change : ℕ → ℕ) → ((word : ℕ) → word ≡ granted_word place → change word / NUMBER_UNIT ≡ number place) → Takes (cells_for nodes) (TicketCells nodes) is_other place n change
takes nodes place n change = takes_by nodes is_other place n change (λ other. other (sym (granted_ticket place)))

-- the word as a poll finds it, or a withdrawal after the grant
pub looked : (place word : ℕ) → word ≡ granted_word place → word / NUMBER_UNIT ≡ number place
looked place word e = number_of_granted place word e

pub written : (place n new : ℕ) → n ≤ MAX_NODES → new ≡ withdrawn_word (ticket_of place) n → new / NUMBER_UNIT ≡ number place
written place n new high e = number_of_withdrawn place n new high (e ∙ withdrawn_ticket place n)

-- behind the turn a cell is a later one
later_at : (nodes : ℕ) (ended holder place : ℕ) (cleared : Bool) (marks says : ℕ → ℕ) → ended < place → place < ended + cells_for nodes → TicketCells nodes ended holder cleared marks says → IsLater nodes place (marks place) (says (cell_of nodes place))
later_at nodes ended holder place cleared marks says below near c = let k : ended + (place - ended) ≡ place = omega arith in
    subst (λ q. IsLater nodes q (marks q) (says (cell_of nodes q))) k (c.later (place - ended) (omega arith) (omega arith))

-- neither the word nor its lower half therefore shows a grant
pub stays_half : (nodes : ℕ) (place : ℕ) → StaysBehind (cells_for nodes) (TicketCells nodes) is_granted_half place
stays_half nodes place ended holder cleared marks says below near free c e = not_granted_half nodes place (marks place) (says (cell_of nodes place)) (later_at nodes ended holder place cleared marks says below near c) free (e ∙ ap (λ k. k % 2 ^ 32) (granted_ticket place))

pub stays : (nodes : ℕ) (place : ℕ) → StaysBehind (cells_for nodes) (TicketCells nodes) is_granted place
stays nodes place ended holder cleared marks says below near free c e = not_granted nodes place (marks place) (says (cell_of nodes place)) (later_at nodes ended holder place cleared marks says below near c) free (e ∙ granted_ticket place)

-- the node's own number is written into its own cell, together with the node
pub withdraws : (nodes : ℕ) (place n new : ℕ) → new ≡ withdrawn_word (ticket_of place) n → Withdraws (cells_for nodes) (TicketCells nodes) place n (λ _. new)
withdraws nodes place n new add ended holder cleared marks says low high below near free c = record {
  kept = c.kept;
  turn = ap (λ q. q / NUMBER_UNIT) at_turn ∙ c.turn;
  granted = λ e. at_turn ∙ c.granted e;
  later = λ k a b. dite (ℕ_discrete (ended + k) place)
      (λ e. subst (λ p. IsLater nodes p (put marks place n p) (put says (cell_of nodes place) new (cell_of nodes p))) (sym e) own_cell)
      (λ ne. subst (λ (z : ℕ × ℕ). IsLater nodes (ended + k) z.0 z.1) (λ j. (sym (put_else marks place n (ended + k) ne) j, sym (put_else says (cell_of nodes place) new (cell_of nodes (ended + k)) (apart (ended + k) (omega arith) (omega arith) ne)) j)) (c.later k a b));
}
  where
    apart : (p : ℕ) → ended ≤ p → p < ended + cells_for nodes → p ≢ place → cell_of nodes p ≢ cell_of nodes place
    apart p a b ne e = dite (dec_le p place) (λ l. ne (one_turn p place (cells_for nodes) l (omega arith) e)) (λ g. ne (sym (one_turn place p (cells_for nodes) (omega arith) (omega arith) (sym e))))

    at_turn : put says (cell_of nodes place) new (cell_of nodes ended) ≡ says (cell_of nodes ended)
    at_turn = put_else says (cell_of nodes place) new (cell_of nodes ended) (apart ended (omega arith) (omega arith) (λ z. omega arith))

    -- the node's own cell names the node
    own_cell : IsLater nodes place (put marks place n place) (put says (cell_of nodes place) new (cell_of nodes place))
    own_cell = record {
      withdrawn = λ _. put_here says (cell_of nodes place) new ∙ add ∙ withdrawn_ticket place n ∙ ap (withdrawn_word place) (sym (put_here marks place n));
      before = λ none. absurd (let k = put_here marks place n in omega arith);
    }

-- the next number is written into the next cell
pub grants : (nodes : ℕ) (ended new : ℕ) (cleared : Bool) → new ≡ granted_word (ticket_of (ended + 1)) → GrantsNext (cells_for nodes) (TicketCells nodes) withdrawn_by withdrawn_by ended cleared (λ _. new)
grants nodes ended new cleared is holder marks says far c = (
  (λ free. (
    by_nobody nodes (ended + 1) (marks (ended + 1)) (says (cell_of nodes (ended + 1))) found free,
    record {
      kept = refl;
      turn = number_of_granted (ended + 1) _ granted_cell;
      granted = λ _. granted_cell;
      later = later_cells;
    },
  )),
  (λ rolled high held. let by = by_node nodes (ended + 1) (marks (ended + 1)) (says (cell_of nodes (ended + 1))) found rolled high in (
    (λ z. absurd (above (sym by ∙ z) rolled)),
    by,
    record {
      kept = refl;
      turn = number_of_granted (ended + 1) _ granted_cell;
      granted = λ e. absurd (omega arith);
      later = later_cells;
    },
  )),
)
  where
    above : marks (ended + 1) ≡ 0 → 0 < marks (ended + 1) → ⊥
    above z low = omega arith

    found : IsLater nodes (ended + 1) (marks (ended + 1)) (says (cell_of nodes (ended + 1)))
    found = c.later 1 (omega arith) (let two = two_cells nodes in omega arith)

    granted_cell : put says (cell_of nodes (ended + 1)) new (cell_of nodes (ended + 1)) ≡ granted_word (ended + 1)
    granted_cell = put_here says (cell_of nodes (ended + 1)) new ∙ is ∙ granted_ticket (ended + 1)

    -- the last cell is the one that the turn has left
    left : (p : ℕ) → p ≡ ended + cells_for nodes → IsLater nodes p (marks p) (says (cell_of nodes p))
    left p n = record {
      withdrawn = λ m. absurd (let z : marks p ≡ 0 = ap marks n ∙ far in omega arith);
      before = λ _. ap (λ q. says q / NUMBER_UNIT) (ap (cell_of nodes) n ∙ add-mod_right ended (cells_for nodes)) ∙ c.turn ∙ ap (λ q. q % NUMBERS) (let w : ended + 1 ≡ p + 1 - cells_for nodes = omega arith in w);
    }

    old : (k : ℕ) → 0 < k → k < cells_for nodes → Dec (k + 1 ≡ cells_for nodes) → IsLater nodes (ended + 1 + k) (marks (ended + 1 + k)) (says (cell_of nodes (ended + 1 + k)))
    old k a b (yes last) = left (ended + 1 + k) (omega arith)
    old k a b (no ne) = let n : ended + (k + 1) ≡ ended + 1 + k = omega arith in subst (λ q. IsLater nodes q (marks q) (says (cell_of nodes q))) n (c.later (k + 1) (omega arith) (omega arith))

    later_cells : (k : ℕ) → 0 < k → k < cells_for nodes → IsLater nodes (ended + 1 + k) (marks (ended + 1 + k)) (put says (cell_of nodes (ended + 1)) new (cell_of nodes (ended + 1 + k)))
    later_cells k a b = subst (IsLater nodes (ended + 1 + k) (marks (ended + 1 + k))) (sym (put_else says (cell_of nodes (ended + 1)) new (cell_of nodes (ended + 1 + k)) (cells_apart (cells_for nodes) (ended + 1) k a b))) (old k a b (ℕ_discrete (k + 1) (cells_for nodes)))
