-- Proofs about the steps of a release that do not yet end the turn.
use Rattle.qolb_model.specs.declared.config.LineConfig.{LineConfig}
use Rattle.std.proofs.Common.{◌≡◌, ◌≢◌, ℕ, ◌+◌, ◌<◌, ◌≤◌, Bool, true, false, ◌||◌, List, [], ◌∷◌, ◌⊎◌, length, None, refl, sym, ◌∙◌, ap, subst, inl, inr, arith}
use Rattle.link_core.specs.declared.point.Point.{Point}
use Rattle.link_core.specs.declared.point.Point.TheVariants.{Ready, Linking, Holding, Leaving, Marking, Granting, Rolled}
use Rattle.link_core.specs.declared.seat.ReleaseCause.{ReleaseCause}
use Rattle.link_core.specs.declared.seat.ReleaseCause.TheVariants.{Own, Closing, Refused}
use Rattle.link_core.specs.declared.entry.Entry.{Entry}
use Rattle.link_core.specs.Places.{requester_at, IsLast}
use Rattle.qolb_model.specs.Histories.{none}
use Rattle.qolb_model.specs.Queue.{Queue}
use Rattle.qolb_model.specs.declared.end.End.{End}
use Rattle.qolb_model.specs.declared.request.Request.{Request}
use Rattle.link_core.specs.State.{State, NodeCall, entry, seat, point, IsNode, last_or, is_clear}
use Rattle.link_core.specs.Shown.{is_rolled, has_line, is_freeing, IsHeld, IsCarried, Lies, in_hand, Sits, IsPassed, IsGranting, Matches}
use Rattle.link_core.specs.declared.told.Told.TheVariants as told
use Rattle.link_core.specs.Steps.{Releases, holding, leaving}
use Rattle.link_core.proofs.Deeds.{Advances}
use Rattle.link_core.proofs.Orders.{last_once}
use Rattle.link_core.proofs.Changes.{Changed}
use Rattle.link_core.proofs.Follows.{lined_unclear, lined_unrolled, rolled_unfreed, sits_at, in_its_hand, hand_lies, current_cases}
use Rattle.link_core.proofs.Ending.{facts, its}
use Rattle.qolb_model.specs.Leases.{is_last_turn}
use Rattle.qolb_model.specs.Steps.{is_one}
use Rattle.qolb_model.proofs.Leases.{last-is_one}
use Rattle.link_core.proofs.Leave.{releases_line, releases_at, done, marked_node}
use Rattle.link_core.proofs.Kept.{rests_held}
use Rattle.link_core.specs.declared.place.Place.TheVariants.{Mailbox}
use Rattle.link_core.proofs.Quiet.{IsQuiet, quiet_shows}

held_again : (config : LineConfig) (c : State) (es : List End) (n : ℕ) (ents : List Entry) (sts : List NodeCall) → (point c n ≡ Holding → is_last_turn config.lease es ≡ false) → (r : ReleaseCause) → IsHeld config c es n r → IsHeld config (record c { entries = ents; seats = sts }) es n r
held_again config c es n ents sts early Own h = (h.0, h.1, h.2, inr (elim h.3 [ inl y ↦ early y | inr y ↦ y ]))
held_again config c es n ents sts early Closing h = h
held_again config c es n ents sts early Refused h = h

carried_again : (config : LineConfig) (c : State) (o : List Request) (es : List End) (n : ℕ) (ents : List Entry) (sts : List NodeCall) → (point c n ≡ Holding → is_last_turn config.lease es ≡ false) → (r : ReleaseCause) (ps : List ℕ) → IsCarried config c o es n r ps → IsCarried config (record c { entries = ents; seats = sts }) o es n r ps
carried_again config c o es n ents sts early r [] h = held_again config c es n ents sts early r h
carried_again config c o es n ents sts early r (m ∷ ms) h = (record { bytes = h.0.bytes; closed = h.0.closed }, h.1, h.2)

lined_points : (p q : Point) → has_line p ≡ true → has_line q ≡ false → p ≢ q
lined_points p q a b e = let z : true ≡ false = sym a ∙ ap has_line e ∙ b in cc

-- from one point with the line in n's hand to another
module _ (config : LineConfig) (c : State) (h : Queue) (n : ℕ) (s : Matches config c h) (is : IsNode c n) (lined : has_line (point c n) ≡ true) (pt : Point) (has2 : has_line pt ≡ true)
    (ents : List Entry) (sts : List NodeCall) (k : ℕ) (w : Entry) (ch : Changed c (record c { entries = ents; seats = sts }) n (record (seat c n) { point = pt }) k w) where
  abbrev pub d : State
  d = record c { entries = ents; seats = sts }

  pub held_lies : (config : LineConfig) → Matches config c h → (point c n ≡ Holding → is_last_turn config.lease h.ends ≡ false) → Lies config d h.order h.ends
  held_lies config s early =
      let f = hand_lies s n (in_its_hand s n is lined) s.lies in
      in_hand n f.0 is (in_its_hand s n is lined) (ap (λ (s : NodeCall). has_line s.point) ch.seat_own ∙ has2)
      (f.3 ∙ sym (ap (λ (s : NodeCall). last_or n s.passed) ch.seat_own))
      (subst (λ (s : NodeCall). IsCarried config d h.order h.ends n s.reason s.passed) (sym ch.seat_own) (carried_again config c h.order h.ends n ents sts early (seat c n).reason (seat c n).passed f.4))

  pub held_quiet : w.link ≡ (entry c k).link → w.freed ≡ (entry c k).freed → w.granted ≡ (entry c k).granted → w.rolled ≡ (entry c k).rolled
      → ((w.done ≡ (entry c k).done) ⊎ ((p : ℕ) → length h.ends ≤ p → p < length h.order → requester_at h.order p ≡ k → (p ≡ length h.ends) × IsGranting d))
      → (k ≢ n → point c k ≢ Ready) → (k ≢ n → is_clear (point c k) w ≡ is_clear (point c k) (entry c k)) → ((m : ℕ) → point c n ≢ Granting m)
      → ((config : LineConfig) → Matches config c h → point c n ≡ Holding → is_last_turn config.lease h.ends ≡ false) → IsNode c k → (w.done ≡ true → w.link ≡ 0 → c.place ≡ Mailbox k) → Sits d h.order h.ends n pt → IsQuiet c d h h.marked n (record (seat c n) { point = pt }) k w
  held_quiet lk fr gr ro dn re cl ng early node box own = record {
    link = lk;
    freed = fr;
    granted = gr;
    rolled = λ _. ro;
    done = dn;
    ready = re;
    clear = cl;
    clear_own = lined_unclear pt (entry d n) has2 ∙ sym (lined_unclear (point c n) (entry c n) lined);
    passed = refl;
    hands = λ m e. e;
    marks = λ p a l e. s.marks p a l ∙ ap (λ (m : ℕ). is_rolled (point c m)) e ∙ lined_unrolled (point c n) lined ∙ sym (lined_unrolled pt has2);
    marks_other = λ p ne. refl;
    marked_known = s.marked_known;
    not_granting = ng;
    not_linking = λ q. lined_points (point c n) (Linking q) lined refl;
    not_passed = λ e. absurd (lined_points (point c n) Rolled lined refl e);
    unpassed = λ e. absurd (lined_free pt has2 e);
    node = node;
    boxes = λ x ne e. e;
    box = box;
    rests = rests_held d n h.order h.ends h.clear (in_its_hand s n is lined);
    lies = λ config s. held_lies config s (early config s);
    own = own;
  }
    where
      lined_free : (p : Point) → has_line p ≡ true → has_line p || is_freeing p ≡ false → ⊥
      lined_free p a e = let z : true || is_freeing p ≡ false = subst (λ (b : Bool). b || is_freeing p ≡ false) a e in cc

module _ (config : LineConfig) (c : State) (h : Queue) (n e : ℕ) (s : Matches config c h) (is : IsNode c n) where
  pub home_failed_keeps : (r : Releases c n e) → c.home ≢ e → (sts : List NodeCall) → Changed c (record c { seats = sts }) n (record (seat c n) { point = Marking e }) n (entry c n) → Advances config (record c { seats = sts }) h n told.Went None false
  home_failed_keeps r ne sts ch =
      let lined = releases_line s is e r in
      let cur = releases_at s is e r in
      let f = facts s is lined in
      let more : length h.ends + 1 ≢ length h.order = λ last. ne (s.home_last (length h.ends) (omega arith) last ∙ f.3 ∙ cur) in
      let l = f.0 in
      record {
        after = h;
        makes = refl;
        clears = none;
        uncleared = λ _. refl;
        shows = quiet_shows config c h n s is c.place c.bytes c.closed c.mask c.entries sts h.marked (record (seat c n) { point = Marking e }) n (entry c n) ch
            (held_quiet config c h n s is lined (Marking e) refl c.entries sts n (entry c n) ch refl refl refl refl (inl refl) (λ x. absurd (x refl)) (λ x. absurd (x refl)) (not_granting r) (early r) is (s.settled.boxed n is)
            (record { place = in_its_hand s n is lined; is = ap (λ (s : NodeCall). last_or n s.passed) ch.seat_own ∙ cur }, grind arith));
        says = tt;
      }
    where
      early : Releases c n e → (config : LineConfig) → Matches config c h → point c n ≡ Holding → is_last_turn config.lease h.ends ≡ false
      early (holding a f l) config s at = sym (last-is_one config.lease h.ends) ∙ ap is_one (sym s.turns) ∙ l
      early (leaving a) config s at = let z : Leaving e ≡ Holding = sym a ∙ at in cc

      not_granting : Releases c n e → (m : ℕ) → point c n ≢ Granting m
      not_granting (holding a f l) m g = let z : Holding ≡ Granting m = sym a ∙ g in cc
      not_granting (leaving a) m g = let z : Leaving e ≡ Granting m = sym a ∙ g in cc

  pub done_linked_keeps : (at : point c n ≡ Marking e) → (entry c e).link ≢ 0 → (ents : List Entry) (sts : List NodeCall) → Changed c (record c { entries = ents; seats = sts }) n (record (seat c n) { point = Granting (entry c e).link }) e (done (entry c e)) → Advances config (record c { entries = ents; seats = sts }) h n told.Went None false
  done_linked_keeps at linked ents sts ch =
      let lined : has_line (point c n) ≡ true = ap has_line at in
      let y = sits_at s n (Marking e) is at in
      let more = y.1 in
      let at_e : IsLast h.order e (length h.ends) = subst (λ (m : ℕ). IsLast h.order m (length h.ends)) y.0.is (its s is lined) in
      let next : requester_at h.order (length h.ends + 1) ≡ (entry c e).link = elim (s.links (length h.ends) (omega arith) more) [
        | inl f ↦ sym f ∙ ap (λ (m : ℕ). (entry c m).link) at_e.its
        | inr f ↦ absurd (linked (sym (ap (λ (m : ℕ). (entry c m).link) at_e.its) ∙ f.0))
      ] in
      let place = in_its_hand s n is lined in
      record {
        after = h;
        makes = refl;
        clears = none;
        uncleared = λ _. refl;
        shows = quiet_shows config c h n s is c.place c.bytes c.closed c.mask ents sts h.marked (record (seat c n) { point = Granting (entry c e).link }) e (done (entry c e)) ch
            (held_quiet config c h n s is lined (Granting (entry c e).link) refl ents sts e (done (entry c e)) ch refl refl refl refl
            (inr (λ p a l f. (
              last_once h.order e p (length h.ends) (subst (λ (m : ℕ). IsLast h.order m p) f (s.distinct p a l)) at_e,
              record { by = n; to = (entry c e).link; node = is; place = place; point = ap (λ (s : NodeCall). s.point) ch.seat_own },
            )))
            (unready at) (unclear at)
            (λ m g. let z : Marking e ≡ Granting m = sym at ∙ g in cc) (λ config s g. let z : Marking e ≡ Holding = sym at ∙ g in cc) (marked_node s is at) (λ _ un. absurd (linked un)) (
              record { place = place; is = refl },
              more,
              next,
              ap (λ (x : ℕ). (entry (record c { entries = ents; seats = sts }) x).link) (ap (λ (s : NodeCall). last_or n s.passed) ch.seat_own ∙ y.0.is) ∙ ap (λ (w : Entry). w.link) ch.entry_own,
            ));
        says = tt;
      }
    where
      e_cases : point c n ≡ Marking e → (n ≡ e) ⊎ IsPassed c h.order h.ends n e
      e_cases at =
          let cur = (sits_at s n (Marking e) is at).0.is in
          elim (current_cases s n is) [
            | inl j ↦ inl (sym j.1 ∙ cur)
            | inr j ↦ inr (subst (λ (x : ℕ). IsPassed c h.order h.ends n x) cur j)
          ]

      unready : point c n ≡ Marking e → e ≢ n → point c e ≢ Ready
      unready at ne f = elim (e_cases at) [ inl j ↦ ne (sym j) | inr j ↦ let z : Rolled ≡ Ready = sym j.point ∙ f in cc ]

      unclear : point c n ≡ Marking e → e ≢ n → is_clear (point c e) (done (entry c e)) ≡ is_clear (point c e) (entry c e)
      unclear at ne = elim (e_cases at) [ inl j ↦ absurd (ne (sym j)) | inr j ↦ rw j.point (rolled_unfreed (done (entry c e)) j.kept ∙ sym (rolled_unfreed (entry c e) j.kept)) ]
