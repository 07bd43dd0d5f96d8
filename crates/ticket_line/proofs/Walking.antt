-- Lemmas about a release that skips withdrawn requests, one ticket after another.
use Rattle.std.proofs.Common.{◌≡◌, ◌≢◌, ℕ, ◌+◌, ◌≤◌, List, [], ◌∷◌, ◌++◌, length, sym, ap, ◌∙◌, subst, length-append}
use Rattle.qolb_model.specs.declared.config.TheConstants.{MAX_NODES}
use Rattle.qolb_model.specs.PortStates.{state_after}
use Rattle.qolb_model.specs.Sound.{Continues}
use Rattle.qolb_model.specs.Views.{Extends}
use Rattle.line_generic.specs.declared.table.Payload.{Payload}
use Rattle.line_generic.specs.Steps.{IsSameSeat, HasNoSlot}
use Rattle.line_cells.specs.Layout.{ticket_of}
use Rattle.line_cells.specs.Array.{ArrayGhost}
use Rattle.line_cells.specs.Steps.{ArraySeat, SeatContents, ghost_of, single, IsNextPayload, Ended, IsHandedOver, Passes, Advances}
use Rattle.line_cells.specs.Releases.{MatchesEnds}
use Rattle.line_cells.proofs.Walking as walk
use Rattle.ticket_line.specs.Layout.{ticket_after}
use Rattle.ticket_line.specs.Slots.{slot_layout}
use Rattle.ticket_line.specs.Steps.{turn_ticket, SlotsAtGrant, SlotsAtRelease}
use Rattle.ticket_line.proofs.Numbers.{ticket_next}

-- In a line of m nodes, what a walk that began at the seat s has done so far. It has taken one step for each request
-- that it passed, and its last grant found this node, or 0.
pub record IsWalking (m : ℕ) (allows : List ℕ → List ℕ → Type 0) (s : ArraySeat) (nodes : List ℕ) (ticket found : ℕ) (t : ArraySeat) : Type 0 where
  pub ticket_is : ticket ≡ turn_ticket t
  pub walking : walk.IsWalking (slot_layout m) allows s nodes (length nodes) found found t

-- the line is copied into the next slot, and nothing else is changed
pub record IsLaid (m ticket : ℕ) (t d : ArraySeat) : Type 0 where
  pub seat : IsSameSeat t d
  pub entries : d.me.0 ≡ t.me.0
  pub stored : (y : Payload) → SlotsAtGrant m ticket t y → SlotsAtRelease m ticket d y

goes_from : (allows : List ℕ → List ℕ → Type 0) (a b m : SeatContents) (n : ℕ) → b.0 ≡ a.0 → Advances allows b m n → Advances allows a m n
goes_from allows a b m n same g = record {
  of_one_node = g.of_one_node;
  extends = subst (λ es. Extends (single es).view (single m.0).view) same g.extends;
  continues = λ v before. g.continues v (subst (λ es. Continues allows v (single es).view) (sym same) before);
  steps = subst (λ es. (single m.0).steps ≡ (single es).steps + n) same g.steps;
}

-- the line is granted to the ticket that the walk has reached
pub walk_has : (m : ℕ) (allows : List ℕ → List ℕ → Type 0) (s t : ArraySeat) (nodes : List ℕ) (first ticket found : ℕ) (y : Payload) → IsWalking m allows s nodes ticket found t → found ≢ 0 → first ≡ turn_ticket s → SlotsAtGrant m first s y → SlotsAtGrant m ticket t y
walk_has m allows s t nodes first ticket found y k more begins slot = subst (λ n. SlotsAtGrant m n t y) (sym k.ticket_is) ((k.walking.stands more).0 y (subst (λ n. SlotsAtGrant m n s y) begins slot))

-- what the next grant requires
pub walk_carries : (m : ℕ) (allows : List ℕ → List ℕ → Type 0) (s t d : ArraySeat) (nodes : List ℕ) (first ticket found : ℕ) (y : Payload) → IsWalking m allows s nodes ticket found t → found ≢ 0 → IsLaid m ticket t d → first ≡ turn_ticket s → SlotsAtGrant m first s y → MatchesEnds (ghost_of s) y
    → SlotsAtRelease m (turn_ticket d) d y × IsNextPayload allows (ghost_of d) y
walk_carries m allows s t d nodes first ticket found y k more laid begins slot bare =
    let both = walk.walk_carries (slot_layout m) allows s t nodes (length nodes) found found y k.walking more (subst (λ n. SlotsAtGrant m n s y) begins slot) bare in
    let entry : ghost_of d ≡ ghost_of t = ap single laid.entries in
    let turn : turn_ticket d ≡ turn_ticket t = ap (λ (e : ArrayGhost). ticket_of (length e.view.ends)) entry in (
      subst (λ n. SlotsAtRelease m n d y) (k.ticket_is ∙ sym turn) (laid.stored y (subst (λ n. SlotsAtGrant m n t y) (sym k.ticket_is) both.0)),
      subst (λ e. IsNextPayload allows e y) (sym entry) both.1,
    )

-- what the walk has done after that grant
pub walk_step : (m : ℕ) (allows : List ℕ → List ℕ → Type 0) (s t d u : ArraySeat) (nodes : List ℕ) (first ticket found after next : ℕ) (y : Payload) → IsWalking m allows s nodes ticket found t → found ≢ 0 → (ghost_of s).view.config.nodes ≤ MAX_NODES → IsLaid m ticket t d
    → first ≡ turn_ticket s → SlotsAtGrant m first s y → MatchesEnds (ghost_of s) y → (ghost_of s).view.state ≡ state_after y.closed → IsSameSeat d u → Advances allows d.me u.me 1 → ((x : Payload) → SlotsAtRelease m (turn_ticket d) d x → Ended (ghost_of d) (ghost_of u) x)
    → (next ≡ 0 → HasNoSlot u × IsHandedOver (ghost_of d) (ghost_of u)) → (next ≢ 0 → ((x : Payload) → SlotsAtRelease m (turn_ticket d) d x → SlotsAtGrant m after u x) × Passes (ghost_of d) next (ghost_of u)) → after ≡ ticket_after ticket
    → IsWalking m allows s (nodes ++ found ∷ []) after next u
walk_step m allows s t d u nodes first ticket found after next y k more low laid begins slot bare state same advances end home passes step =
    let entry : ghost_of d ≡ ghost_of t = ap single laid.entries in
    let turn : turn_ticket d ≡ turn_ticket t = ap (λ (e : ArrayGhost). ticket_of (length e.view.ends)) entry in
    let ended : Ended (ghost_of t) (ghost_of u) y = subst (λ e. Ended e (ghost_of u) y) entry (end y (walk_carries m allows s t d nodes first ticket found y k more laid begins slot bare).0) in
    let place : after ≡ turn_ticket u = step ∙ ap ticket_after k.ticket_is ∙ ticket_next (length (ghost_of t).view.ends) ∙ ap ticket_of (sym (walk.ended_longer (ghost_of t) (ghost_of u) y ended)) in
    record {
      ticket_is = place;
      walking = walk.walk_step (slot_layout m) allows s t u nodes (length nodes) 1 (length (nodes ++ found ∷ [])) found found next next y k.walking more low state
          (same.0 ∙ laid.seat.0, same.1 ∙ laid.seat.1) (goes_from allows t.me d.me u.me 1 laid.entries advances) ended
          (λ z. ((home z).0, subst (λ e. IsHandedOver e (ghost_of u)) entry (home z).1))
          (λ z. (
            (λ x has. subst (λ n. SlotsAtGrant m n u x) place ((passes z).0 x (subst (λ n. SlotsAtRelease m n d x) (k.ticket_is ∙ sym turn) (laid.stored x (subst (λ n. SlotsAtGrant m n t x) (sym k.ticket_is) has))))),
            subst (λ e. Passes e next (ghost_of u)) entry (passes z).1,
          ))
          (sym (length-append nodes (found ∷ [])));
    }
