-- Proof about the step with which a node resets its entry, which is the word on which the node waits.
use Rattle.qolb_model.specs.declared.config.LineConfig.{LineConfig}
use Rattle.std.proofs.Common.{◌≡◌, ◌≢◌, ℕ, ◌+◌, ◌<◌, ◌≤◌, true, false, ◌||◌, List, [], ◌⊎◌, length, None, refl, sym, ◌∙◌, ap, subst, inl, inr, arith}
use Rattle.link_core.specs.declared.point.Point.{Point}
use Rattle.link_core.specs.declared.point.Point.TheVariants.{Idle, Ready, Linking, Queued, Granting, Left, Rolled, Shut}
use Rattle.link_core.specs.declared.entry.Entry.{Entry}
use Rattle.link_core.specs.Places.{requester_at, IsLast}
use Rattle.qolb_model.specs.Histories.{none}
use Rattle.qolb_model.specs.Queue.{Queue}
use Rattle.link_core.specs.State.{State, NodeCall, empty, entry, seat, point, IsNode, current, is_clear}
use Rattle.link_core.specs.Shown.{is_rolled, has_line, is_freeing, HasEnded, IsGranting, IsFresh, Matches}
use Rattle.std.proofs.lemmas.Bool.{cases_eq}
use Rattle.link_core.specs.declared.told.Told.TheVariants as told
use Rattle.link_core.proofs.Deeds.{Advances}
use Rattle.qolb_model.proofs.Prefixes.{prefix_self}
use Rattle.link_core.proofs.Changes.{Changed, point_other, point_own, passes_kept, once_kept, unpassed_kept}
use Rattle.link_core.proofs.Follows.{sits_at, behind_unclear, current_cases}
use Rattle.link_core.proofs.Kept.{Spares, spares_by, sits_kept, fresh_kept, Leaves, lies_kept, rests_kept, settled_by}

module _ (config : LineConfig) (c : State) (h : Queue) (n : ℕ) (s : Matches config c h) (is : IsNode c n) (at : (point c n ≡ Idle) ⊎ (point c n ≡ Shut))
    (ents : List Entry) (sts : List NodeCall) (ch : Changed c (record c { entries = ents; seats = sts }) n (record (seat c n) { point = Ready }) n empty) where
  abbrev d : State
  d = record c { entries = ents; seats = sts }

  over : HasEnded h.order h.ends n
  over = elim at [ inl e ↦ sits_at s n Idle is e | inr e ↦ sits_at s n Shut is e ]

  was_clear : is_clear (point c n) (entry c n) ≡ true
  was_clear = elim at [ inl e ↦ ap (λ (p : Point). is_clear p (entry c n)) e | inr e ↦ ap (λ (p : Point). is_clear p (entry c n)) e ]

  none_passed : (seat c n).passed ≡ []
  none_passed = s.unpassed n is (elim at [ inl e ↦ ap (λ (p : Point). has_line p || is_freeing p) e | inr e ↦ ap (λ (p : Point). has_line p || is_freeing p) e ])

  -- a node at another point is not n
  not_n : (m : ℕ) (q : Point) → point c m ≡ q → (Idle ≡ q → ⊥) → (Shut ≡ q → ⊥) → m ≢ n
  not_n m q e a b f = elim at [ inl g ↦ a (sym g ∙ ap (point c) (sym f) ∙ e) | inr g ↦ b (sym g ∙ ap (point c) (sym f) ∙ e) ]

  not_lined : (m : ℕ) → has_line (point c m) ≡ true → m ≢ n
  not_lined m e f = elim at [
    | inl g ↦ let z : has_line Idle ≡ true = ap has_line (sym g) ∙ ap (λ (x : ℕ). has_line (point c x)) (sym f) ∙ e in cc
    | inr g ↦ let z : has_line Shut ≡ true = ap has_line (sym g) ∙ ap (λ (x : ℕ). has_line (point c x)) (sym f) ∙ e in cc
  ]

  open_n : (p : ℕ) → length h.ends ≤ p → p < length h.order → requester_at h.order p ≢ n
  open_n p a l e = let k = over p (subst (λ (m : ℕ). IsLast h.order m p) e (s.distinct p a l)) in absurd (omega arith)

  -- no node must still link to n
  unlinked : (m q : ℕ) → IsNode c m → point c m ≡ Linking q → q ≢ n
  unlinked m q a e f =
      let k = behind_unclear s m q a e in
      let z : true ≡ false = sym was_clear ∙ ap (λ (x : ℕ). is_clear (point c x) (entry c x)) (sym f) ∙ k in cc

  current_other : (m : ℕ) → IsNode c m → m ≢ n → current c m ≢ n
  current_other m a ne f = elim (current_cases s m a) [
    | inl j ↦ ne (sym j.1 ∙ f)
    | inr j ↦ not_n (current c m) Rolled j.point (λ e. cc) (λ e. cc) f
  ]

  spares : (m : ℕ) → IsNode c m → m ≢ n → Spares c d h.order h.order h.ends h.ends m
  spares m a ne = spares_by ch h.order h.ends h.ends m ne (λ ne. absurd (ne refl)) (λ ne. absurd (ne refl)) (prefix_self h.ends) (λ p _ _ l. l)
      (λ y p e l j. ap (λ (w : Entry). w.link) (ch.entry_other y (unlinked m y a e)))
      (λ e. (refl, refl, λ x e. ap (λ (w : Entry). w.link) (ch.entry_other (current c m) (current_other m a ne))))

  granting : IsGranting c → IsGranting d
  granting g = record { by = g.by; to = g.to; node = g.node; place = g.place; point = point_other ch g.by (not_n g.by (Granting g.to) g.point (λ e. cc) (λ e. cc)) ∙ g.point }

  fresh : (p : ℕ) → length h.ends ≤ p → p < length h.order → IsFresh d (length h.ends) (requester_at h.order p) p
  fresh p a l = let e = ch.entry_other (requester_at h.order p) (open_n p a l) in
      fresh_kept c d (length h.ends) (length h.ends) (requester_at h.order p) p (ap (λ (w : Entry). w.freed) e) (ap (λ (w : Entry). w.granted) e) (ap (λ (w : Entry). w.done) e) (λ e. e) granting (s.fresh p a l)

  leaves : Leaves c d h.order h.order h.ends
  leaves = record {
    place = refl;
    bytes = refl;
    closed = refl;
    mask = refl;
    nodes = refl;
    home = λ e. e;
    turn = λ l. (l, refl);
    fwd = λ m q e l. l;
    hand = λ m f. ch.seat_other m (not_lined m f);
    box = λ t l a q g. let ne = not_n t Queued q (λ e. cc) (λ e. cc) in (point_other ch t ne ∙ q, ap (λ (w : Entry). w.granted) (ch.entry_other t ne) ∙ g);
    linking = λ t q l a f. point_other ch t (not_n t (Linking q) f (λ e. cc) (λ e. cc)) ∙ f;
    tail = λ q a f g. let ne : q ≢ n = elim a [ inl i ↦ not_n q Left i (λ e. cc) (λ e. cc) | inr i ↦ not_n q Rolled i (λ e. cc) (λ e. cc) ] in
        (point_other ch q ne, ap (λ (w : Entry). w.link) (ch.entry_other q ne), ap (λ (w : Entry). w.done) (ch.entry_other q ne));
  }

  pub reset_keeps : Advances config d h n told.Went None false
  reset_keeps = record {
    after = h;
    makes = refl;
    clears = none;
    uncleared = λ _. refl;
    shows = record {
      opened = s.opened;
      size = s.size;
      turns = s.turns;
      known = s.known;
      nodes = s.nodes;
      numbered = s.numbered;
      marked_known = s.marked_known;
      clear_known = s.clear_known;
      distinct = s.distinct;
      home_idle = s.home_idle;
      home_last = s.home_last;
      links = λ p a l. elim (s.links p a l) [
        | inl f ↦ inl (ap (λ (w : Entry). w.link) (ch.entry_other (requester_at h.order p) (open_n p a (omega arith))) ∙ f)
        | inr f ↦ inr (ap (λ (w : Entry). w.link) (ch.entry_other (requester_at h.order p) (open_n p a (omega arith))) ∙ f.0, point_other ch (requester_at h.order (p + 1)) (open_n (p + 1) (omega arith) l) ∙ f.1)
      ];
      last_link = λ p a e. ap (λ (w : Entry). w.link) (ch.entry_other (requester_at h.order p) (open_n p a (omega arith))) ∙ s.last_link p a e;
      lies = lies_kept leaves config s.lies;
      marks = λ p a l. s.marks p a l ∙ ap is_rolled (sym (point_other ch (requester_at h.order p) (open_n p a l)));
      clears = λ m q a l. s.clears m q a l ∙ elim (cases_eq m n) [
        | inl e ↦ rw (e, point_own ch) was_clear
        | inr ne ↦ rw (point_other ch m ne, ch.entry_other m ne) refl
      ];
      sits = λ m a. elim (cases_eq m n) [
        | inl e ↦ rw (e, point_own ch) (over, ch.entry_own)
        | inr ne ↦ sits_kept (spares m a ne) (s.sits m a)
      ];
      fresh = fresh;
      passes = passes_kept ch refl h.order h.order h.ends h.ends (λ x p at kept l. let ne = not_n x Rolled at (λ e. cc) (λ e. cc) in (ne, ap (λ (w : Entry). w.freed) (ch.entry_other x ne), l)) (λ m i p l e. e) s.passes;
      once = once_kept ch refl s.once;
      unpassed = unpassed_kept ch refl (λ _. none_passed) s.unpassed;
      settled = settled_by ch h.order h.order h.ends h.ends h.clear h.clear is s.settled (λ x ne e. e) (λ dn. cc) (λ _. omega arith) (rests_kept leaves h.clear h.clear s.known (prefix_self h.order) (prefix_self h.clear) s.settled.rests);
    };
    says = tt;
  }
