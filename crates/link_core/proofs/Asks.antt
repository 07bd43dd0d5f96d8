-- Lemmas shared by the proofs of the two steps that make a request, one for an empty queue and one for a queue with
-- other requests.
use Rattle.std.proofs.Common.{◌≡◌, ◌≢◌, ℕ, ◌+◌, ◌<◌, ◌≤◌, true, false, ◌||◌, List, [], length, refl, sym, ◌∙◌, ap, subst, inl, inr, arith}
use Rattle.std.proofs.lemmas.Bool.{cases_eq, cases_Bool}
use Rattle.line_lanes.specs.declared.line.Mask.{Mask}
use Rattle.qolb_model.specs.declared.config.LineConfig.{LineConfig}
use Rattle.qolb_model.specs.declared.request.Request.{Request}
use Rattle.qolb_model.specs.Queue.{Queue}
use Rattle.qolb_model.specs.Requests.{count_of, has, next_of}
use Rattle.qolb_model.proofs.Requests.{count_of-push_le, count_of-push_same}
use Rattle.link_core.specs.declared.point.Point.{Point}
use Rattle.link_core.specs.declared.point.Point.TheVariants.{Ready, Linking, Rolled}
use Rattle.link_core.specs.declared.place.Place.{Place}
use Rattle.link_core.specs.declared.place.Place.TheVariants.{Mailbox}
use Rattle.link_core.specs.declared.entry.Entry.{Entry}
use Rattle.link_core.specs.Places.{request, requester_at, IsLast}
use Rattle.link_core.specs.State.{State, NodeCall, empty, entry, seat, point, IsNode, is_clear}
use Rattle.link_core.specs.Shown.{is_rolled, has_line, is_freeing, HasEnded, Lies, IsLinked, Sits, HasReached, IsGranting, IsFresh, Rests, Matches}
use Rattle.link_core.proofs.Orders.{pushed, length_pushed, request_old, request_new, requester_old, requester_new, place_cases, last_kept, last_back, last_new, last_is_new}
use Rattle.link_core.proofs.Changes.{Changed, point_other, point_own, at_other, passes_kept, once_kept, unpassed_kept}
use Rattle.link_core.proofs.Follows.{sits_at}
use Rattle.link_core.proofs.Kept.{Spares, sits_kept, fresh_kept, settled_by}

module _ {config : LineConfig} {c : State} {h : Queue} {n : ℕ} (s : Matches config c h) (is : IsNode c n) (ready : point c n ≡ Ready) where
  abbrev new : Request
  new = next_of n h.order

  abbrev o2 : List Request
  o2 = pushed h.order new

  pub at_ready : HasEnded h.order h.ends n × (entry c n ≡ empty)
  at_ready = sits_at s n Ready is ready

  -- no open request is of n
  pub not_open : (p : ℕ) → length h.ends ≤ p → p < length h.order → requester_at h.order p ≢ n
  not_open p a b e = let k = at_ready.0 p (subst (λ (m : ℕ). IsLast h.order m p) e (s.distinct p a b)) in absurd (omega arith)

  -- the new request is in no list yet
  unheld : (rs : List Request) → ((r : Request) → has rs r ≡ true → r.number ≤ count_of r.node h.order) → has rs new ≡ false
  unheld rs f = elim (cases_Bool (has rs new)) [ inl t ↦ let k = f new t in absurd (omega arith) | inr e ↦ e ]

  numbered : (p : ℕ) → p < length o2 → (request o2 p).number ≤ count_of (requester_at o2 p) o2
  numbered p l = elim (place_cases h.order new p l) [
    | inl old ↦ rw (request_old h.order new p old, requester_old h.order new p old) (let a = s.numbered p old in let b = count_of-push_le (requester_at h.order p) h.order new in omega arith)
    | inr e ↦ subst (λ (q : ℕ). (request o2 q).number ≤ count_of (requester_at o2 q) o2) (sym e) (rw (request_new h.order new, requester_new h.order new) (let a = count_of-push_same n h.order new refl in omega arith))
  ]

  distinct : (p : ℕ) → length h.ends ≤ p → p < length o2 → IsLast o2 (requester_at o2 p) p
  distinct p a l = elim (place_cases h.order new p l) [
    | inl old ↦ rw (requester_old h.order new p old) (last_kept h.order new (requester_at h.order p) p (not_open p a old) (s.distinct p a old))
    | inr e ↦ subst (λ (q : ℕ). IsLast o2 (requester_at o2 q) q) (sym e) (rw (requester_new h.order new) (last_new h.order new))
  ]

  home_last : (p : ℕ) → p + 1 ≡ length o2 → n ≡ requester_at o2 p
  home_last p e = let k = length_pushed h.order new in let q : p ≡ length h.order = omega arith in sym (ap (requester_at o2) q ∙ requester_new h.order new)

  module _ {pl : Place} {mk : Mask} {sts : List NodeCall} {st : NodeCall} (ch : Changed c (record c { home = n; place = pl; mask = mk; seats = sts }) n st n (entry c n))
      (unrolled : is_rolled st.point ≡ false) (unclear : is_clear st.point (entry c n) ≡ false) (none_passed : st.passed ≡ []) where
    abbrev d : State
    d = record c { home = n; place = pl; mask = mk; seats = sts }

    was_none : (seat c n).passed ≡ []
    was_none = s.unpassed n is (ap (λ (p : Point). has_line p || is_freeing p) ready)

    nodes : (p : ℕ) → p < length o2 → IsNode d (requester_at o2 p)
    nodes p l = elim (place_cases h.order new p l) [
      | inl old ↦ rw (requester_old h.order new p old) (s.nodes p old)
      | inr e ↦ subst (λ (q : ℕ). IsNode d (requester_at o2 q)) (sym e) (rw (requester_new h.order new) is)
    ]

    links : ((p : ℕ) → length h.ends ≤ p → p + 1 ≡ length h.order → point d n ≡ Linking (requester_at h.order p)) → (p : ℕ) → length h.ends ≤ p → p + 1 < length o2 → IsLinked d (requester_at o2 p) (requester_at o2 (p + 1))
    links f p a l = elim (place_cases h.order new (p + 1) l) [
      | inl old ↦ rw (requester_old h.order new p (omega arith), requester_old h.order new (p + 1) old) (elim (s.links p a old) [
        | inl e ↦ inl e
        | inr e ↦ inr (e.0, point_other ch (requester_at h.order (p + 1)) (not_open (p + 1) (omega arith) old) ∙ e.1)
      ])
      | inr e ↦ rw (requester_old h.order new p (omega arith), ap (requester_at o2) e, requester_new h.order new) (inr (s.last_link p a e, f p a e))
    ]

    marks : (p : ℕ) → length h.ends ≤ p → p < length o2 → has h.marked (request o2 p) ≡ is_rolled (point d (requester_at o2 p))
    marks p a l = elim (place_cases h.order new p l) [
      | inl old ↦ rw (request_old h.order new p old, requester_old h.order new p old) (s.marks p a old ∙ ap is_rolled (sym (point_other ch (requester_at h.order p) (not_open p a old))))
      | inr e ↦ subst (λ (q : ℕ). has h.marked (request o2 q) ≡ is_rolled (point d (requester_at o2 q))) (sym e) (rw (request_new h.order new, requester_new h.order new, point_own ch) (unheld h.marked s.marked_known ∙ sym unrolled))
    ]

    clears : (m p : ℕ) → IsNode d m → IsLast o2 m p → has h.clear (request o2 p) ≡ is_clear (point d m) (entry d m)
    clears m p a l = elim (cases_eq m n) [
      | inl e ↦ let q = last_is_new h.order new p (subst (λ (m : ℕ). IsLast o2 m p) e l) in
          rw (e, q, request_new h.order new, point_own ch) (unheld h.clear s.clear_known ∙ sym unclear)
      | inr ne ↦ let b = last_back h.order new m p ne l in
          rw (request_old h.order new p b.known, point_other ch m ne) (s.clears m p a b)
    ]

    fresh : (IsGranting c → IsGranting d) → (p : ℕ) → length h.ends ≤ p → p < length o2 → IsFresh d (length h.ends) (requester_at o2 p) p
    fresh f p a l = elim (place_cases h.order new p l) [
      | inl old ↦ rw (requester_old h.order new p old) (fresh_kept c d (length h.ends) (length h.ends) (requester_at h.order p) p refl refl refl (λ e. e) f (s.fresh p a old))
      | inr e ↦ subst (λ (q : ℕ). IsFresh d (length h.ends) (requester_at o2 q) q) (sym e) (rw (requester_new h.order new) (record {
        freed = ap (λ (w : Entry). w.freed) at_ready.1;
        granted = λ y. let x : false ≡ true = sym (ap (λ (w : Entry). w.granted) at_ready.1) ∙ y in cc;
        done = λ y. let x : false ≡ true = sym (ap (λ (w : Entry). w.done) at_ready.1) ∙ y in cc;
      }))
    ]

    pub asks_shows : Lies config d o2 h.ends → Sits d o2 h.ends n st.point → ((m : ℕ) → IsNode c m → m ≢ n → Spares c d h.order o2 h.ends h.ends m)
        → ((m q : ℕ) → HasReached c h.ends m q → HasReached d h.ends m q) → (IsGranting c → IsGranting d) → ((p : ℕ) → length h.ends ≤ p → p + 1 ≡ length h.order → point d n ≡ Linking (requester_at h.order p))
        → ((x : ℕ) → c.place ≡ Mailbox x → pl ≡ Mailbox x) → Rests d o2 h.ends h.clear → Matches config d (record h { order = o2 })
    asks_shows lies own spares come granting linking boxes rests = record {
      opened = s.opened;
      size = s.size;
      turns = s.turns;
      known = let k = length_pushed h.order new in let l = s.known in omega arith;
      nodes = nodes;
      numbered = numbered;
      marked_known = λ r e. let k = s.marked_known r e in let l = count_of-push_le r.node h.order new in omega arith;
      clear_known = λ r e. let k = s.clear_known r e in let l = count_of-push_le r.node h.order new in omega arith;
      distinct = distinct;
      home_idle = λ e. let k = length_pushed h.order new in let l = s.known in absurd (omega arith);
      home_last = λ p a e. home_last p e;
      links = links linking;
      last_link = λ p a e. rw (← home_last p e) (ap (λ (w : Entry). w.link) at_ready.1);
      lies = lies;
      marks = marks;
      clears = clears;
      sits = λ m a. elim (cases_eq m n) [
        | inl e ↦ rw (e, point_own ch) own
        | inr ne ↦ sits_kept (spares m a ne) (s.sits m a)
      ];
      fresh = fresh granting;
      passes = passes_kept ch (none_passed ∙ sym was_none) h.order o2 h.ends h.ends (λ x p at kept l. let ne : x ≢ n = at_other ch x Ready Rolled ready at (λ e. cc) in (ne, refl, last_kept h.order new x p ne l)) (λ m i p l. come m p) s.passes;
      once = once_kept ch (none_passed ∙ sym was_none) s.once;
      unpassed = unpassed_kept ch (none_passed ∙ sym was_none) (λ _. was_none) s.unpassed;
      settled = settled_by ch h.order o2 h.ends h.ends h.clear h.clear is s.settled (λ x ne e. boxes x e) (λ dn un. boxes n (s.settled.boxed n is dn un)) (λ l. l) rests;
    }
