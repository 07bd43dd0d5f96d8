-- Lemmas about the state in which a release begins, and the state in which it is over.
use Rattle.std.proofs.Common.{◌≡◌, inl, inr, ℕ, suc, ◌+◌, ◌≤◌, Bool, false, length, List, [], ◌∷◌, ◌++◌, sym, refl, ap, ◌∙◌, subst, Some, arith, replicate, append_assoc, length-append}
use Rattle.std.proofs.lemmas.Bool.{cases_Bool}
use Rattle.qolb_model.specs.declared.answer.PortState.TheVariants as port_state
use Rattle.qolb_model.specs.declared.end.End.{End}
use Rattle.qolb_model.specs.declared.end.End.TheVariants.{Served, Gone}
use Rattle.qolb_model.specs.Ends.{is_closed, bytes_after, written, MayEnd}
use Rattle.qolb_model.specs.Kept.{AreAllowed}
use Rattle.qolb_model.specs.Leases.{is_last_turn, turns_left}
use Rattle.qolb_model.specs.Releasing.{AfterRelease}
use Rattle.qolb_model.specs.PortStates.{state_after}
use Rattle.qolb_model.specs.Views.{own, bytes_of, Extends}
use Rattle.qolb_model.proofs.Going.{same_own}
use Rattle.qolb_model.proofs.Once.{once_alone, once_behind}
use Rattle.qolb_model.specs.Requests.{AreOfDifferentNodes}
use Rattle.qolb_model.proofs.Leases.{turns_left-served}
use Rattle.qolb_model.proofs.Prefixes.{prefix_get}
use Rattle.qolb_model.proofs.Writes.{bytes_after-release}
use Rattle.line_generic.specs.declared.table.Payload.{Payload}
use Rattle.line_generic.specs.Steps as shared
use Rattle.line_generic.specs.Steps.{HasNoSlot, HoldsPayload, write_of, own_end}
use Rattle.link_line.specs.Ghost.{LinkGhost, no_line}
use Rattle.link_line.specs.BetweenCalls.{holds_open, holds_closed}
use Rattle.link_line.specs.Steps.{end_of, next_end, point_by, after_release, left_in, TurnIsOver, MayHandOff, Ended, IsHandedOver, IsLeftForLinker, Passes}
use Rattle.link_line.specs.Releases.{with_line, ReleasesLine, FinishesWalk}

-- a node that has passed no request ends its own next
ends_own : (w : LinkGhost) (y : Payload) (closed : Bool) → w.own.passed ≡ [] → is_closed w.view.ends ≡ closed → next_end w y ≡ own_end closed y
ends_own w y closed none is = (λ i. end_of (none i) (is i) y)

-- the release of the line y by v, which has passed none
module _ (v : LinkGhost) (y : Payload) (none : v.own.passed ≡ []) where
  ends_now : (w : LinkGhost) → Ended v w y → w.view.ends ≡ v.view.ends ++ own_end (is_closed v.view.ends) y ∷ []
  ends_now w e = e.ends ∙ ap (λ x. v.view.ends ++ x ∷ []) (ends_own v y (is_closed v.view.ends) none refl)

  pub one_more : (w : LinkGhost) → Ended v w y → length w.view.ends ≡ length v.view.ends + 1
  one_more w e = omega (arith, ap length (ends_now w e), length-append v.view.ends (own_end (is_closed v.view.ends) y ∷ []))

  -- the release is over if the line goes home or to the next request
  pub lets_out : (w : LinkGhost) → Ended v w y → IsHandedOver v w y → ReleasesLine v y (state_after y.closed) w
  lets_out w e o = record {
    point = o.point ∙ ap (after_release (state_after y.closed)) none;
    state_is = o.state;
    ends_turn = record {
      passed = 0;
      ends = ends_now w e;
      at_turn = e.own_turn none;
      count = e.count;
      once = once_alone w.view.order (length v.view.ends) (length w.view.ends) (omega (arith, one_more w e));
      releases = record {
        known = e.known;
        unmarked = o.unmarked;
        freed = λ p r low high at. absurd (omega (arith, low, high, one_more w e));
        cleared = λ p r low high at. absurd (omega (arith, low, high, one_more w e));
        state = inr (o.state, o.clear none);
      };
    };
  }

  -- the release is over if the line is left for a late linker
  pub lets_left : (w : LinkGhost) → Ended v w y → IsLeftForLinker v w y → ReleasesLine v y port_state.Left w
  lets_left w e l = let state : w.view.state ≡ port_state.Left = l.state ∙ ap (λ ps. left_in ps y.closed) none in record {
    point = l.point ∙ (λ i. after_release (left_in (none i) y.closed) (none i));
    state_is = state;
    ends_turn = record {
      passed = 0;
      ends = ends_now w e;
      at_turn = e.own_turn none;
      count = e.count;
      once = once_alone w.view.order (length v.view.ends) (length w.view.ends) (omega (arith, one_more w e));
      releases = record {
        known = e.known;
        unmarked = l.unmarked;
        freed = λ p r low high at. absurd (omega (arith, low, high, one_more w e));
        cleared = λ p r low high at. absurd (omega (arith, low, high, one_more w e));
        state = inl (state, l.short, one_more w e);
      };
    };
  }

  -- the release is over if it walked on over withdrawn requests
  pub lets_on : (u t : LinkGhost) (next : ℕ) → Ended v u y → Passes (with_line v y) u next → Extends u.view t.view → FinishesWalk u t → ReleasesLine v y (state_after y.closed) t
  lets_on u t next e p more w = let mine = prefix_get u.view.order t.view.order (length v.view.ends) (own u.view) more.order (e.own_turn none) ∙ ap Some (sym (same_own u.view t.view more w.count)) in record {
    point = w.point ∙ ap point_by p.state;
    state_is = w.state ∙ p.state;
    ends_turn = record {
      passed = suc w.passed;
      ends = w.ends ∙ (ap (λ es. es ++ replicate (suc w.passed) Gone) (ends_now u e) ∙ append_assoc v.view.ends (own_end (is_closed v.view.ends) y ∷ []) (replicate (suc w.passed) Gone));
      at_turn = mine;
      count = w.count ∙ e.count;
      once = once_behind t.view.order (length v.view.ends) (length t.view.ends) (own t.view) mine
          (λ q r low high at same. w.others q r (omega (arith, one_more u e, low)) high at (same ∙ more.node))
          (subst (λ n. AreOfDifferentNodes t.view.order n (length t.view.ends)) (one_more u e) w.once);
      releases = subst (λ n. AfterRelease n (state_after y.closed) t.view) (one_more u e) (subst (λ leaves. AfterRelease (length u.view.ends) leaves t.view) p.state w.releases);
    };
  }

-- what the walk requires
pub walk_nodes : (v u : LinkGhost) (y : Payload) (next : ℕ) → v.own.passed ≡ [] → Passes (with_line v y) u next → 2 ≤ u.view.config.nodes
walk_nodes v u y next none p = omega (arith, p.few, ap length p.passed, length-append v.own.passed (length u.view.ends ∷ []))

-- what holds of a node that has the line, and whose turn on it is over
module _ (allows : List ℕ → List ℕ → Type 0) (v : LinkGhost) (y : Payload) (token : ℕ) (has : HoldsPayload holds_open holds_closed token v y) (c : shared.IsNextPayload allows v.view y) where
  -- an open line
  module _ (unclosed : is_closed v.view.ends ≡ false) where
    what : own_end (is_closed v.view.ends) y ≡ Served (write_of y) y.closed
    what = ap (λ k. own_end k y) unclosed

    bytes : written (bytes_of v.view) (write_of y) ≡ y.bytes.bytes
    bytes = sym (bytes_after-release v.view.config.opening.bytes v.view.ends (write_of y) y.closed 0) ∙ ap (λ (e : End). bytes_after v.view.config.opening.bytes (v.view.ends ++ e ∷ [])) (sym what) ∙ c.bytes

    turn_over : TurnIsOver allows v y
    turn_over = record {
      bytes = bytes;
      turns = sym c.turns ∙ ap (λ (e : End). turns_left v.view.config.lease (v.view.ends ++ e ∷ [])) what ∙ turns_left-served v.view.config.lease v.view.ends (write_of y) y.closed;
      last = (subst (MayEnd (is_closed v.view.ends) (is_last_turn v.view.config.lease v.view.ends)) what c.may_end).1;
      allowed = subst (allows (bytes_of v.view)) bytes (subst (λ (e : End). AreAllowed allows (bytes_of v.view) (e ∷ [])) what c.allowed).0;
    }

  -- a holder may release a closed line
  pub may_let_go : MayHandOff allows v y v.view.node × (v.own.passed ≡ [])
  may_let_go = elim (cases_Bool (is_closed v.view.ends)) [
    | inl closed ↦ let r = has.refuses closed in (inr (r.0, sym r.1), r.2)
    | inr unclosed ↦ let h = has.holds unclosed in (inl (h.0, refl, turn_over unclosed), h.1)
  ]

-- the line in a hand
line_in : List (ℕ × Payload) → Payload
line_in [] = no_line
line_in (x ∷ xs) = x.1

pub same_slot : (slots : List (ℕ × Payload)) (y z : Payload) → slots ≡ (0, y) ∷ [] → slots ≡ (0, z) ∷ [] → y ≡ z
unfolding line_in
same_slot slots y z a b = ap line_in (sym a ∙ b)
