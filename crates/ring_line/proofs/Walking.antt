-- Lemmas about a release that skips withdrawn requests. The release clears each cell before it grants the next cell.
use Rattle.std.proofs.Common.{◌≡◌, ◌≢◌, ℕ, ◌+◌, ◌*◌, ◌≤◌, List, [], ◌∷◌, ◌++◌, length, sym, ap, ◌∙◌, subst, arith, refl, length-append}
use Rattle.qolb_model.specs.declared.config.TheConstants.{MAX_NODES}
use Rattle.qolb_model.specs.PortStates.{state_after}
use Rattle.line_generic.specs.declared.table.Payload.{Payload}
use Rattle.line_generic.specs.Steps.{IsSameSeat, HasSlot, HasNoSlot}
use Rattle.ring_line.specs.Layout.{cell_of}
use Rattle.line_cells.specs.SlotLayout.{one_slot}
use Rattle.line_cells.specs.Array.{ArrayGhost}
use Rattle.line_cells.specs.Steps.{ArraySeat, SeatContents, ghost_of, single, IsNextPayload, Ended, IsHandedOver, Passes, Advances}
use Rattle.line_cells.specs.Releases.{MatchesEnds}
use Rattle.line_cells.proofs.Turning.{goes_trans, goes_same}
use Rattle.line_cells.proofs.Walking as walk
use Rattle.ring_line.specs.Layout.{withdrawn_by}
use Rattle.ring_line.specs.Steps.{turn_cell, after_clear}

-- the step that clears a cell
pub goes_clear : (allows : List ℕ → List ℕ → Type 0) (a b : SeatContents) → b ≡ (after_clear (single a.0) ∷ [], a.1) → Advances allows a b 1
goes_clear allows a b is = subst (λ m. Advances allows a m 1) (sym is) (goes_same allows a (after_clear (single a.0)) refl refl)

-- what the seat has once the cell is cleared
abbrev pub IsCleared : ArraySeat → ArraySeat → Type 0
IsCleared t d = d.me ≡ (after_clear (ghost_of t) ∷ [], t.me.1)

pub cleared_entry : (t d : ArraySeat) → IsCleared t d → ghost_of d ≡ after_clear (ghost_of t)
cleared_entry t d e = ap (λ m. single m.0) e

pub cleared_slot : (t d : ArraySeat) → IsCleared t d → d.me.1 ≡ t.me.1
cleared_slot t d e = ap (λ m. m.1) e

-- clearing the cell changes neither what the line carries nor what a grant tells
cleared_carries : (allows : List ℕ → List ℕ → Type 0) (v : ArrayGhost) (y : Payload) → IsNextPayload allows v y → IsNextPayload allows (after_clear v) y
cleared_carries allows v y c = record { bytes = c.bytes; closed = c.closed; turns = c.turns; may_end = c.may_end; allowed = c.allowed }

pub cleared_ended : (v w : ArrayGhost) (y : Payload) → Ended (after_clear v) w y → Ended v w y
cleared_ended v w y e = record { known = e.known; ends = e.ends; state = e.state; count = e.count; own_turn = e.own_turn }

cleared_home : (v w : ArrayGhost) → IsHandedOver (after_clear v) w → IsHandedOver v w
cleared_home v w h = record { point = h.point; passed = h.passed; unmarked = h.unmarked; clear = h.clear }

cleared_passes : (v w : ArrayGhost) (node : ℕ) → Passes (after_clear v) node w → Passes v node w
cleared_passes v w node p = record { point = p.point; passed = p.passed; request = p.request; at = p.at; is_by = p.is_by; high = p.high; others = p.others; few = p.few; nodes = p.nodes }

-- what a walk that began at the seat s has done so far: two steps for each request that it passed
pub record IsWalking (allows : List ℕ → List ℕ → Type 0) (s : ArraySeat) (nodes : List ℕ) (cell found : ℕ) (t : ArraySeat) : Type 0 where
  pub cell_is : cell ≡ turn_cell t
  pub walking : walk.IsWalking one_slot allows s nodes (2 * length nodes) found (withdrawn_by found) t

-- what the next grant requires, once the cell is cleared
pub walk_carries : (allows : List ℕ → List ℕ → Type 0) (s t d : ArraySeat) (nodes : List ℕ) (cell found : ℕ) (y : Payload) → IsWalking allows s nodes cell found t → found ≢ 0 → IsCleared t d → HasSlot s y → MatchesEnds (ghost_of s) y
    → HasSlot d y × IsNextPayload allows (ghost_of d) y
walk_carries allows s t d nodes cell found y k more cleared slot bare =
    let both = walk.walk_carries one_slot allows s t nodes (2 * length nodes) found (withdrawn_by found) y k.walking more slot bare in
    (cleared_slot t d cleared ∙ both.0, subst (λ e. IsNextPayload allows e y) (sym (cleared_entry t d cleared)) (cleared_carries allows (ghost_of t) y both.1))

-- what the walk has done after that grant
pub walk_step : (allows : List ℕ → List ℕ → Type 0) (s t d u : ArraySeat) (nodes : List ℕ) (cell found after next : ℕ) (y : Payload) → IsWalking allows s nodes cell found t → found ≢ 0 → (ghost_of s).view.config.nodes ≤ MAX_NODES → IsSameSeat t d → IsCleared t d
    → HasSlot s y → (ghost_of s).view.state ≡ state_after y.closed → IsSameSeat d u → Advances allows d.me u.me 1 → ((x : Payload) → HasSlot d x → Ended (ghost_of d) (ghost_of u) x)
    → (next ≡ 0 → HasNoSlot u × IsHandedOver (ghost_of d) (ghost_of u)) → (next ≢ 0 → ((x : Payload) → HasSlot d x → HasSlot u x) × Passes (ghost_of d) (withdrawn_by next) (ghost_of u)) → after ≡ cell_of (cell + 1)
    → IsWalking allows s (nodes ++ withdrawn_by found ∷ []) after next u
walk_step allows s t d u nodes cell found after next y k more low same cleared slot state same' advances end home passes step =
    let entry = cleared_entry t d cleared in
    let carried : d.me.1 ≡ t.me.1 = cleared_slot t d cleared in
    let ended : Ended (ghost_of t) (ghost_of u) y = cleared_ended (ghost_of t) (ghost_of u) y (subst (λ e. Ended e (ghost_of u) y) entry (end y (carried ∙ (k.walking.stands more).0 y slot))) in
    let longer = walk.ended_longer (ghost_of t) (ghost_of u) y ended in
    record {
      cell_is = omega (arith, step, k.cell_is, longer);
      walking = walk.walk_step one_slot allows s t u nodes (2 * length nodes) 2 (2 * length (nodes ++ withdrawn_by found ∷ [])) found (withdrawn_by found) next (withdrawn_by next) y k.walking more low state
          (same'.0 ∙ same.0, same'.1 ∙ same.1) (goes_trans allows t.me d.me u.me 1 1 (goes_clear allows t.me d.me cleared) advances) ended
          (λ z. ((home z).0, cleared_home (ghost_of t) (ghost_of u) (subst (λ e. IsHandedOver e (ghost_of u)) entry (home z).1)))
          (λ z. ((λ x has. (passes z).0 x (carried ∙ has)), cleared_passes (ghost_of t) (ghost_of u) (withdrawn_by next) (subst (λ e. Passes e (withdrawn_by next) (ghost_of u)) entry (passes z).1)))
          (omega (arith, length-append nodes (withdrawn_by found ∷ [])));
    }
