-- Lemmas about the end of a turn: how the request ends (served, withdrawn, or notified that the line is closed), and
-- what remains true.
use Rattle.qolb_model.specs.declared.config.LineConfig.{LineConfig}
use Rattle.std.proofs.Common.{◌≡◌, ◌≢◌, ℕ, ◌+◌, ◌<◌, Bool, true, false, ◌||◌, List, [], ◌∷◌, ◌++◌, length, Some, slice_get, refl, sym, ◌∙◌, ap, subst, inl, inr, arith}
use Rattle.link_core.specs.declared.point.Point.TheVariants.{Holding}
use Rattle.link_core.specs.declared.place.Place.TheVariants.{Mailbox, Hand}
use Rattle.link_core.specs.declared.seat.ReleaseCause.{ReleaseCause}
use Rattle.link_core.specs.declared.seat.ReleaseCause.TheVariants.{Own, Closing, Refused}
use Rattle.link_core.specs.Places.{request, requester_at, IsLast}
use Rattle.qolb_model.specs.Ends.{is_closed, bytes_after}
use Rattle.qolb_model.specs.Queue.{Queue, EndsAs}
use Rattle.qolb_model.specs.Requests.{has}
use Rattle.qolb_model.specs.declared.end.End.{End}
use Rattle.qolb_model.specs.declared.end.End.TheVariants.{Gone, Told}
use Rattle.link_core.specs.State.{State, seat, point, IsNode, last_or, current}
use Rattle.link_core.specs.Shown.{is_rolled, has_line, ByReason, EndedBy, IsWhole, IsCarried, HasReached, Matches}
use Rattle.std.proofs.Common.{length-append}
use mathlib.Core.List.{IsPrefix}
use Rattle.qolb_model.proofs.Histories.{bytes_after-append, is_closed-append}
use Rattle.qolb_model.proofs.Lists.{never, slice_get-push}
use Rattle.qolb_model.proofs.Prefixes.{prefix_append, prefix_get}
use Rattle.link_core.proofs.Orders.{has_ended}
use Rattle.qolb_model.specs.Leases.{is_last_turn, turns_left}
use Rattle.qolb_model.specs.Steps.{decrement}
use Rattle.qolb_model.proofs.Leases.{turns_left-served, turns_left-same}
use Rattle.link_core.specs.Steps.{left_after, turns_after}
use Rattle.link_core.specs.Moves.{end_by}
use Rattle.link_core.proofs.Follows.{lined_unrolled, in_its_hand, hand_lies, current_cases}

or_false : (a : Bool) → (a || false) ≡ a
or_false true = refl
or_false false = refl

module _ {config : LineConfig} {c : State} {h : Queue} {n : ℕ} (s : Matches config c h) (is : IsNode c n) (lined : has_line (point c n) ≡ true) where
  abbrev pub x : End
  x = end_by c (seat c n).reason (seat c n).passed

  abbrev pub fs : List End
  fs = h.ends ++ x ∷ []

  pub longer : length fs ≡ length h.ends + 1
  longer = length-append h.ends (x ∷ [])

  pub facts : (length h.ends < length h.order) × (IsNode c n) × (has_line (point c n) ≡ true) × (requester_at h.order (length h.ends) ≡ current c n) × (IsCarried config c h.order h.ends n (seat c n).reason (seat c n).passed)
  facts = hand_lies s n (in_its_hand s n is lined) s.lies

  -- the current node's last request is the one at its turn
  pub its : IsLast h.order (current c n) (length h.ends)
  its = subst (λ (m : ℕ). IsLast h.order m (length h.ends)) facts.3 (s.distinct (length h.ends) (omega arith) facts.0)

  mark : has h.marked (request h.order (length h.ends)) ≡ is_rolled (point c (current c n))
  mark = s.marks (length h.ends) (omega arith) facts.0 ∙ ap (λ (m : ℕ). is_rolled (point c m)) facts.3

  unpassed_mark : (seat c n).passed ≡ [] → has h.marked (request h.order (length h.ends)) ≡ false
  unpassed_mark e = mark ∙ ap (λ (ps : List ℕ). is_rolled (point c (last_or n ps))) e ∙ lined_unrolled (point c n) lined

  passed_mark : (m : ℕ) (ms : List ℕ) → (seat c n).passed ≡ m ∷ ms → has h.marked (request h.order (length h.ends)) ≡ true
  passed_mark m ms e = mark ∙ elim (current_cases s n is) [
    | inl k ↦ let z : [] ≡ m ∷ ms = sym k.0 ∙ e in cc
    | inr k ↦ ap is_rolled k.point
  ]

  -- a holder that releases at the last turn of a lease closes the line before
  pub may : (point c n ≡ Holding → is_last_turn config.lease h.ends ≡ false) → EndsAs config.lease h (request h.order (length h.ends)) x
  may early = go (seat c n).reason (seat c n).passed refl facts.4
    where
      go : (r : ReleaseCause) (ps : List ℕ) → (seat c n).passed ≡ ps → IsCarried config c h.order h.ends n r ps → EndsAs config.lease h (request h.order (length h.ends)) (end_by c r ps)
      go Own [] e k = (unpassed_mark e, k.1, λ last. absurd (never last (elim k.3 [ inl y ↦ early y | inr y ↦ y ])))
      go Closing [] e k = (unpassed_mark e, k.1, λ _. refl)
      go Refused [] e k = (unpassed_mark e, k.1)
      go Own (m ∷ ms) e k = passed_mark m ms e
      go Closing (m ∷ ms) e k = passed_mark m ms e
      go Refused (m ∷ ms) e k = passed_mark m ms e

  -- the turns that are left
  pub turns : turns_after n c ≡ turns_left config.lease fs
  turns = go (seat c n).reason (seat c n).passed
    where
      go : (r : ReleaseCause) (ps : List ℕ) → left_after c.left r ps ≡ turns_left config.lease (h.ends ++ end_by c r ps ∷ [])
      go Own [] = ap decrement s.turns ∙ sym (turns_left-served config.lease h.ends _ false)
      go Closing [] = ap decrement s.turns ∙ sym (turns_left-served config.lease h.ends _ true)
      go Refused [] = s.turns ∙ sym (turns_left-same config.lease h.ends (Told ∷ []) refl)
      go Own (m ∷ ms) = s.turns ∙ sym (turns_left-same config.lease h.ends (Gone ∷ []) refl)
      go Closing (m ∷ ms) = s.turns ∙ sym (turns_left-same config.lease h.ends (Gone ∷ []) refl)
      go Refused (m ∷ ms) = s.turns ∙ sym (turns_left-same config.lease h.ends (Gone ∷ []) refl)

  -- the line is as all ends left it
  pub whole : IsWhole config c fs
  whole = record { bytes = b (seat c n).reason (seat c n).passed facts.4 ∙ sym (bytes_after-append config.opening.bytes h.ends (x ∷ [])); closed = mk (seat c n).reason (seat c n).passed facts.4 ∙ sym (is_closed-append h.ends (x ∷ [])) }
    where
      b : (r : ReleaseCause) (ps : List ℕ) → IsCarried config c h.order h.ends n r ps → c.bytes.bytes ≡ bytes_after (bytes_after config.opening.bytes h.ends) (end_by c r ps ∷ [])
      b Own [] k = sym k.2
      b Closing [] k = sym k.2
      b Refused [] k = k.2
      b Own (m ∷ ms) k = k.0.bytes
      b Closing (m ∷ ms) k = k.0.bytes
      b Refused (m ∷ ms) k = k.0.bytes

      mk : (r : ReleaseCause) (ps : List ℕ) → IsCarried config c h.order h.ends n r ps → c.closed ≡ (is_closed h.ends || is_closed (end_by c r ps ∷ []))
      mk Own [] k = rw (k.0, k.1) refl
      mk Closing [] k = rw (k.0, k.1) refl
      mk Refused [] k = rw (k.0, k.1) refl
      mk Own (m ∷ ms) k = k.0.closed ∙ sym (or_false (is_closed h.ends))
      mk Closing (m ∷ ms) k = k.0.closed ∙ sym (or_false (is_closed h.ends))
      mk Refused (m ∷ ms) k = k.0.closed ∙ sym (or_false (is_closed h.ends))

  pub grows : IsPrefix h.ends fs
  grows = prefix_append h.ends (x ∷ [])

  -- n's own last request has ended, for its cause
  pub ended : EndedBy h.order fs n (seat c n).reason
  ended = go (seat c n).reason (seat c n).passed refl refl facts.4
    where
      now : (r : ReleaseCause) → (seat c n).passed ≡ [] → x ≡ end_by c r [] → ByReason r (end_by c r []) → EndedBy h.order fs n r
      now r e f k = record {
        at = length h.ends;
        end = x;
        last = subst (λ (ps : List ℕ). IsLast h.order (last_or n ps) (length h.ends)) e its;
        ended = slice_get-push h.ends x;
        how = subst (λ (y : End). ByReason r y) (sym f) k;
      }

      before : (r : ReleaseCause) → EndedBy h.order h.ends n r → EndedBy h.order fs n r
      before r k = record { at = k.at; end = k.end; last = k.last; ended = prefix_get h.ends fs k.at k.end grows k.ended; how = k.how }

      go : (r : ReleaseCause) (ps : List ℕ) → (seat c n).reason ≡ r → (seat c n).passed ≡ ps → IsCarried config c h.order h.ends n r ps → EndedBy h.order fs n r
      go Own [] f e k = now Own e (rw (f, e) refl) refl
      go Closing [] f e k = now Closing e (rw (f, e) refl) refl
      go Refused [] f e k = now Refused e (rw (f, e) refl) tt
      go r (m ∷ ms) f e k = before r k.1

  -- the later requests are of others
  pub later_other : (p : ℕ) → length h.ends < p → p < length h.order → requester_at h.order p ≢ n
  later_other p a l e = let k = has_ended ended p (subst (λ (m : ℕ). IsLast h.order m p) e (s.distinct p (omega arith) l)) in let j = longer in absurd (omega arith)

  -- a line about which a node was told that it is closed is closed
  pub told_closed : (seat c n).reason ≡ Refused → is_closed fs ≡ true
  told_closed e = is_closed-append h.ends (x ∷ []) ∙ ap (λ b. b || is_closed (x ∷ [])) (old (seat c n).reason (seat c n).passed e facts.4)
    where
      old : (r : ReleaseCause) (ps : List ℕ) → r ≡ Refused → IsCarried config c h.order h.ends n r ps → is_closed h.ends ≡ true
      old Own [] e k = cc
      old Closing [] e k = cc
      old Refused [] e k = k.1
      old r (m ∷ ms) e k = k.2 e

  -- the line is in no mailbox
  pub unboxed : (q : ℕ) → c.place ≢ Mailbox q
  unboxed q e = let f : Hand n ≡ Mailbox q = sym (in_its_hand s n is lined) ∙ e in cc

  -- the request of a passed node has the end Gone, and an end Gone stays so
  pub gone : (m i p : ℕ) → i < length (seat c m).passed → HasReached c h.ends m p → slice_get fs p ≡ Some Gone
  gone m i p l (inl e) = prefix_get h.ends fs p Gone grows e
  gone m i p l (inr e) =
      let f : Hand m ≡ Hand n = sym e.1 ∙ in_its_hand s n is lined in
      let g : m ≡ n = cc in
      ap (slice_get fs) e.0 ∙ slice_get-push h.ends x ∙ ap Some (at (seat c n).reason (seat c n).passed (subst (λ (m : ℕ). i < length (seat c m).passed) g l))
    where
      at : (r : ReleaseCause) (ps : List ℕ) → i < length ps → end_by c r ps ≡ Gone
      at r [] l = absurd (omega arith)
      at Own (m ∷ ms) l = refl
      at Closing (m ∷ ms) l = refl
      at Refused (m ∷ ms) l = refl
