-- Proof about the step with which a node prepends itself to an empty queue. The node takes the line at once.
use Rattle.qolb_model.specs.declared.config.LineConfig.{LineConfig}
use Rattle.std.proofs.Common.{◌≡◌, ◌≢◌, ℕ, ◌+◌, ◌-◌, ◌<◌, true, false, List, length, Some, refl, sym, ◌∙◌, ap, inl, inr, arith}
use Rattle.link_core.specs.declared.point.Point.TheVariants.{Ready}
use Rattle.link_core.specs.declared.place.Place.TheVariants.{Home, Mailbox, Hand}
use Rattle.link_core.specs.Places.{requester_at, IsLast}
use Rattle.qolb_model.specs.Histories.{none}
use Rattle.qolb_model.specs.Queue.{Queue, ask}
use Rattle.qolb_model.specs.Requests.{count_of}
use Rattle.qolb_model.specs.declared.request.Request.{Request}
use Rattle.link_core.specs.State.{State, NodeCall, entry, point, IsNode}
use Rattle.link_core.specs.Shown.{has_line, IsWhole, Lies, at_home, in_hand, granted, left, HasReached, Matches}
use Rattle.std.proofs.lemmas.Bool.{cases_lt}
use Rattle.link_core.specs.State.{no_mask}
use Rattle.link_core.specs.Steps.{seat_at_arrival, told_at_arrival}
use Rattle.link_core.proofs.Deeds.{Advances}
use Rattle.link_core.proofs.Orders.{pushed, length_pushed, requester_new, last_kept, last_back, last_new}
use Rattle.qolb_model.proofs.Prefixes.{prefix_self}
use Rattle.link_core.proofs.Changes.{Changed}
use Rattle.link_core.proofs.Asks.{asks_shows}
use Rattle.link_core.proofs.Handoff.{arrival_lies, arrival_sits, arrival_says, arrival_unrolled, arrival_unclear, arrival_unpassed}
use Rattle.link_core.proofs.Follows.{in_its_hand, hand_lies}
use Rattle.link_core.proofs.Kept.{Spares, rests_held}

module _ (config : LineConfig) (c : State) (h : Queue) (n : ℕ) (sts : List NodeCall) (s : Matches config c h) (is : IsNode c n) (ready : point c n ≡ Ready) (free : c.home ≡ 0)
    (ch : Changed c (record c { home = n; place = Hand n; mask = no_mask; seats = sts }) n (seat_at_arrival n c.closed) n (entry c n)) where
  abbrev d : State
  d = record c { home = n; place = Hand n; mask = no_mask; seats = sts }

  abbrev new : Request
  new = record { node = n; number = count_of n h.order + 1 }

  abbrev o2 : List Request
  o2 = pushed h.order new

  abbrev after : Queue
  after = record h { order = o2 }

  all_ended : length h.ends ≡ length h.order
  all_ended = elim (cases_lt (length h.ends) (length h.order)) [
    | inl l ↦
        let p : ℕ = length h.order - 1 in
        let e = s.home_last p (omega arith) (omega arith) in
        let i = s.nodes p (omega arith) in
        let z : requester_at h.order p ≡ 0 = sym e ∙ free in
        absurd (omega arith)
    | inr g ↦ let k = s.known in omega arith
  ]

  whole : Lies config c h.order h.ends → IsWhole config c h.ends
  whole (at_home a b w) = w
  whole (in_hand r a b e f g y) = let k = all_ended in absurd (omega arith)
  whole (granted t a b e f g w) = w
  whole (left t q a b e f g i j w) = w

  no_hand : (m : ℕ) → c.place ≢ Hand m
  no_hand m e = let k = (hand_lies s m e s.lies).0 in let j = all_ended in omega arith

  unlined : (m : ℕ) → IsNode c m → has_line (point c m) ≡ true → ⊥
  unlined m a e = no_hand m (in_its_hand s m a e)

  last : IsLast o2 n (length h.ends)
  last = rw all_ended (last_new h.order new)

  its : requester_at o2 (length h.ends) ≡ n
  its = ap (requester_at o2) all_ended ∙ requester_new h.order new

  spares : (m : ℕ) → IsNode c m → m ≢ n → Spares c d h.order o2 h.ends h.ends m
  spares m im ne = record {
    nodes = refl;
    seat = ch.seat_other m ne;
    rolled = refl;
    ready = λ _. refl;
    fwd = λ p. last_kept h.order new m p ne;
    back = λ p. last_back h.order new m p ne;
    ended = prefix_self h.ends;
    later = λ p _ _ l. l;
    behind = λ q p e a b w. let k = b.known in let j = all_ended in absurd (omega arith);
    line = λ e. absurd (unlined m im e);
  }

  come : (m p : ℕ) → HasReached c h.ends m p → HasReached d h.ends m p
  come m p (inl e) = inl e
  come m p (inr e) = absurd (no_hand m e.1)

  at_home' : c.place ≡ Home
  at_home' = go s.lies
    where
      go : Lies config c h.order h.ends → c.place ≡ Home
      go (at_home a b w) = b
      go (in_hand r a b e f g y) = let k = all_ended in absurd (omega arith)
      go (granted t a b e f g w) = let k = all_ended in absurd (omega arith)
      go (left t q a b e f g i j w) = let k = all_ended in absurd (omega arith)

  turn_known : length h.ends < length o2
  turn_known = let k = length_pushed h.order new in let j = all_ended in omega arith

  pub prepend_first_keeps : Advances config d h n (told_at_arrival c.closed) (Some (ask n)) false
  prepend_first_keeps = record {
    after = after;
    makes = refl;
    clears = none;
    uncleared = λ _. refl;
    shows = asks_shows s is ready ch (arrival_unrolled n c.closed) (arrival_unclear n c.closed (entry c n)) (arrival_unpassed n c.closed)
        (arrival_lies config c d o2 h.ends n turn_known its (whole s.lies) s.opened is refl refl refl refl ch.seat_own)
        (arrival_sits config c d o2 h.ends n turn_known its (whole s.lies) s.opened is refl refl refl refl ch.seat_own)
        spares come (λ g. absurd (no_hand g.by g.place)) (λ p a e. let k = all_ended in absurd (omega arith))
        (λ x e. let z : Home ≡ Mailbox x = sym at_home' ∙ e in cc) (rests_held d n o2 h.ends h.clear refl);
    says = arrival_says after n c.closed (whole s.lies).closed last;
  }
