-- Proof that each step preserves this property: every entry that a release has moved past contains a link.
use Rattle.qolb_model.specs.declared.config.LineConfig.{LineConfig}
use Rattle.std.proofs.Common.{◌≡◌, ◌≢◌, ℕ, zero, suc, ◌+◌, ◌<◌, ◌≤◌, ◌⊎◌, Bool, true, false, ◌||◌, List, [], ◌∷◌, ◌++◌, length, refl, sym, ◌∙◌, ap, subst, inl, inr, arith, length-append}
use Rattle.std.specs.Prelude.{slice_index_or}
use Rattle.std.proofs.Math.ListN.{get_or-append}
use Rattle.std.proofs.lemmas.Bool.{cases_eq}
use Rattle.qolb_model.specs.Queue.{Queue}
use Rattle.link_core.specs.declared.point.Point.{Point}
use Rattle.link_core.specs.declared.point.Point.TheVariants.{Idle, Ready, Linking, Queued, Holding, Leaving, Marking, Granting, Freeing, Left, Rolled, Shut}
use Rattle.link_core.specs.declared.place.Place.TheVariants.{Home, Mailbox, Hand}
use Rattle.link_core.specs.declared.seat.ReleaseCause.{ReleaseCause}
use Rattle.link_core.specs.declared.seat.ReleaseCause.TheVariants.{Own, Closing, Refused}
use Rattle.link_core.specs.declared.entry.Entry.{Entry}
use Rattle.link_core.specs.declared.told.Told.{Told as Answer}
use Rattle.link_core.specs.declared.event.Event.{Event}
use Rattle.link_core.specs.State.{State, IsWide, NodeCall, no_mask, empty, entry, seat, point, IsNode, last_or, current}
use Rattle.link_core.specs.Steps.{closed_by, turns_after, Step, seat_at_arrival, seat_at_close, seat_with, point_at_end}
use Rattle.link_core.specs.Steps as row
use Rattle.link_core.specs.Shown.{has_line, is_freeing, IsChained, Matches}
use Rattle.link_core.proofs.Changes.{Changed, changed_both, changed_seat, moved_both, moved_seat}
use Rattle.link_core.proofs.Follows.{sits_at, current_cases}
use Rattle.link_core.proofs.Link.{linked}
use Rattle.link_core.proofs.AtTurn.{rolls}
use Rattle.link_core.proofs.Leave.{done, grants}
use Rattle.link_core.proofs.Grant.{node_m, seat_passing}
use Rattle.link_core.proofs.Free.{frees}
use Rattle.link_core.proofs.Leave.{marked_node}
use Rattle.link_core.proofs.All.{freed_node, closed_wide}

-- the entries of a release: that of the node, and those of the nodes that it has passed
abbrev on_way : ℕ → List ℕ → ℕ → ℕ
on_way n ps i = slice_index_or (n ∷ ps) i 0

-- the last of these is the node that the release has reached
on_way_last : (n : ℕ) (ps : List ℕ) → on_way n ps (length ps) ≡ last_or n ps
on_way_last n [] = refl
on_way_last n (p ∷ ps) = on_way_last p ps

-- an entry after a step keeps what it had, unless it belongs to no release
pub record Grows (v w : Entry) : Type 0 where
  pub link : v.link ≢ 0 → w.link ≢ 0
  pub done : v.done ≡ true → w.done ≡ true

grows_same : (v : Entry) → Grows v v
grows_same v = record { link = λ f. f; done = λ f. f }

-- the seat of the acting node has its chain, over the entries of d
pub record IsOwn (c d : State) (n : ℕ) (s : NodeCall) : Type 0 where
  pub links : (i : ℕ) → i < length s.passed → (entry d (on_way n s.passed i)).link ≢ 0
  pub done : (m : ℕ) → s.point ≡ Granting m → (entry d (last_or n s.passed)).done ≡ true

module _ {c d : State} {n : ℕ} {s : NodeCall} {k : ℕ} {w : Entry} (ch : Changed c d n s k w) (is : IsNode c n) (a : IsChained c) where
  along : (x : ℕ) → (x ≡ k → Grows (entry c x) w) → Grows (entry c x) (entry d x)
  along x f = elim (cases_eq x k) [
    | inl e ↦ subst (λ (y : Entry). Grows (entry c x) y) (sym (ap (entry d) e ∙ ch.entry_own)) (f e)
    | inr ne ↦ subst (λ (y : Entry). Grows (entry c x) y) (sym (ch.entry_other x ne)) (grows_same (entry c x))
  ]

  -- the other releases keep their chains
  chained_by : ((m i : ℕ) → IsNode c m → i < length (seat c m).passed → on_way m (seat c m).passed i ≡ k → Grows (entry c (on_way m (seat c m).passed i)) w)
      → ((m x : ℕ) → IsNode c m → point c m ≡ Granting x → current c m ≡ k → Grows (entry c (current c m)) w)
      → IsOwn c d n s → IsChained d
  chained_by f g own = record {
    links = λ m i b l. elim (cases_eq m n) [
      | inl e ↦ subst (λ (x : ℕ). (i : ℕ) → i < length (seat d x).passed → (entry d (on_way x (seat d x).passed i)).link ≢ 0) (sym e)
          (subst (λ (t : NodeCall). (i : ℕ) → i < length t.passed → (entry d (on_way n t.passed i)).link ≢ 0) (sym ch.seat_own) own.links) i l
      | inr ne ↦ subst (λ (t : NodeCall). (i : ℕ) → i < length t.passed → (entry d (on_way m t.passed i)).link ≢ 0) (sym (ch.seat_other m ne))
          (λ i l. (along (on_way m (seat c m).passed i) (f m i (b.0, subst (λ (y : ℕ). m ≤ y) ch.nodes b.1) l)).link (a.links m i (b.0, subst (λ (y : ℕ). m ≤ y) ch.nodes b.1) l)) i l
    ];
    done = λ m x b e. elim (cases_eq m n) [
      | inl z ↦ subst (λ (y : ℕ). (seat d y).point ≡ Granting x → (entry d (last_or y (seat d y).passed)).done ≡ true) (sym z)
          (subst (λ (t : NodeCall). t.point ≡ Granting x → (entry d (last_or n t.passed)).done ≡ true) (sym ch.seat_own) (own.done x)) e
      | inr ne ↦ subst (λ (t : NodeCall). t.point ≡ Granting x → (entry d (last_or m t.passed)).done ≡ true) (sym (ch.seat_other m ne))
          (λ e. (along (current c m) (g m x (b.0, subst (λ (y : ℕ). m ≤ y) ch.nodes b.1) e)).done (a.done m x (b.0, subst (λ (y : ℕ). m ≤ y) ch.nodes b.1) e)) e
    ];
  }

  -- if the changed entry keeps its fields
  chained_grows : Grows (entry c k) w → IsOwn c d n s → IsChained d
  chained_grows f own = chained_by
      (λ m i b l e. subst (λ (x : ℕ). Grows (entry c x) w) (sym e) f)
      (λ m x b e z. subst (λ (x : ℕ). Grows (entry c x) w) (sym z) f)
      own

  -- the seat keeps the passed nodes
  own_same : Grows (entry c k) w → s.passed ≡ (seat c n).passed → ((m : ℕ) → s.point ≡ Granting m → (entry d (current c n)).done ≡ true) → IsOwn c d n s
  own_same f e g = record {
    links = subst (λ (ps : List ℕ). (i : ℕ) → i < length ps → (entry d (on_way n ps i)).link ≢ 0) (sym e)
        (λ i l. (along (on_way n (seat c n).passed i) (λ z. subst (λ (x : ℕ). Grows (entry c x) w) (sym z) f)).link (a.links n i is l));
    done = λ m z. subst (λ (ps : List ℕ). (entry d (last_or n ps)).done ≡ true) (sym e) (g m z);
  }

  -- the seat has no passed nodes
  own_none : s.passed ≡ [] → ((m : ℕ) → s.point ≢ Granting m) → IsOwn c d n s
  own_none e ne = record {
    links = λ i l. absurd (let k : length s.passed ≡ 0 = ap length e in omega arith);
    done = λ m z. absurd (ne m z);
  }

  -- the call goes on to its end
  own_close : Grows (entry c k) w → (p : Point) → ((m : ℕ) → p ≢ Granting m) → s ≡ seat_at_close p (seat c n) → IsOwn c d n s
  own_close f p ne e = by (seat c n).passed refl
    where
      by : (ps : List ℕ) → (seat c n).passed ≡ ps → IsOwn c d n s
      by [] z = own_none (ap (λ (t : NodeCall). t.passed) e ∙ ap (λ (ps : List ℕ). (seat_with ps p (seat c n).reason).passed) z)
          (λ m y. ne m (sym (ap (λ (t : NodeCall). t.point) e ∙ ap (λ (ps : List ℕ). (seat_with ps p (seat c n).reason).point) z) ∙ y))
      by (x ∷ xs) z = own_same f (ap (λ (t : NodeCall). t.passed) e ∙ ap (λ (ps : List ℕ). (seat_with ps p (seat c n).reason).passed) z ∙ sym z)
          (λ m y. let q : Freeing ≡ Granting m = sym (ap (λ (t : NodeCall). t.point) e ∙ ap (λ (ps : List ℕ). (seat_with ps p (seat c n).reason).point) z) ∙ y in cc)

  -- the chains are therefore kept if the seat keeps its passed nodes, has none, or its call goes on to its end
  pub chained_same : Grows (entry c k) w → s.passed ≡ (seat c n).passed → ((m : ℕ) → s.point ≢ Granting m) → IsChained d
  chained_same f e ne = chained_grows f (own_same f e (λ m z. absurd (ne m z)))

  pub chained_none : Grows (entry c k) w → s.passed ≡ [] → ((m : ℕ) → s.point ≢ Granting m) → IsChained d
  chained_none f e ne = chained_grows f (own_none e ne)

  pub chained_close : Grows (entry c k) w → (p : Point) → ((m : ℕ) → p ≢ Granting m) → s ≡ seat_at_close p (seat c n) → IsChained d
  chained_close f p ne e = chained_grows f (own_close f p ne e)

grows_done : (v : Entry) → Grows v (done v)
grows_done v = record { link = λ f. f; done = λ f. refl }

grows_granted : (v : Entry) → Grows v (grants v)
grows_granted v = record { link = λ f. f; done = λ f. f }

grows_rolled : (v : Entry) → Grows v (rolls v)
grows_rolled v = record { link = λ f. f; done = λ f. f }

grows_freed : (v : Entry) → Grows v (frees v)
grows_freed v = record { link = λ f. f; done = λ f. f }

grows_linked : (v : Entry) (n : ℕ) → 0 < n → Grows v (linked v n)
grows_linked v n l = record { link = λ f e. omega arith; done = λ f. f }

arrival_point : (n : ℕ) (b : Bool) (m : ℕ) → (seat_at_arrival n b).point ≢ Granting m
arrival_point n true m e = let z : Leaving n ≡ Granting m = e in cc
arrival_point n false m e = let z : Holding ≡ Granting m = e in cc

arrival_passed : (n : ℕ) (b : Bool) → (seat_at_arrival n b).passed ≡ []
arrival_passed n true = refl
arrival_passed n false = refl

end_point : (r : ReleaseCause) (m : ℕ) → point_at_end r ≢ Granting m
end_point Own m e = let z : Idle ≡ Granting m = e in cc
end_point Closing m e = let z : Shut ≡ Granting m = e in cc
end_point Refused m e = let z : Shut ≡ Granting m = e in cc

module _ (config : LineConfig) (c : State) (h : Queue) (w : IsWide c) (s : Matches config c h) (a : IsChained c) where
  -- a node that rests is on the way of no release
  off_way : (n : ℕ) → IsNode c n → (point c n ≡ Idle) ⊎ (point c n ≡ Shut) → (m i : ℕ) → IsNode c m → i < length (seat c m).passed → on_way m (seat c m).passed i ≢ n
  off_way n is at m zero b l e =
      let none : (seat c m).passed ≡ [] = s.unpassed m b (elim at [
        | inl f ↦ ap (λ (p : Point). has_line p || is_freeing p) (ap (point c) e ∙ f)
        | inr f ↦ ap (λ (p : Point). has_line p || is_freeing p) (ap (point c) e ∙ f)
      ]) in
      let k : length (seat c m).passed ≡ 0 = ap length none in
      omega arith
  off_way n is at m (suc i) b l e = rolled_rests n at (sym (ap (point c) e) ∙ (s.passes m i b (omega arith)).point)
    where
      rolled_rests : (n : ℕ) → (point c n ≡ Idle) ⊎ (point c n ≡ Shut) → point c n ≡ Rolled → ⊥
      rolled_rests n (inl f) g = let z : Idle ≡ Rolled = sym f ∙ g in cc
      rolled_rests n (inr f) g = let z : Shut ≡ Rolled = sym f ∙ g in cc

  off_current : (n : ℕ) → IsNode c n → (point c n ≡ Idle) ⊎ (point c n ≡ Shut) → (m x : ℕ) → IsNode c m → point c m ≡ Granting x → current c m ≢ n
  off_current n is at m x b g e = elim (current_cases s m b) [
    | inl j ↦ rests at (sym (ap (point c) (sym j.1 ∙ e)) ∙ g)
    | inr j ↦ rolled at (sym (ap (point c) e) ∙ j.point)
  ]
    where
      rests : (point c n ≡ Idle) ⊎ (point c n ≡ Shut) → point c n ≡ Granting x → ⊥
      rests (inl f) g = let z : Idle ≡ Granting x = sym f ∙ g in cc
      rests (inr f) g = let z : Shut ≡ Granting x = sym f ∙ g in cc

      rolled : (point c n ≡ Idle) ⊎ (point c n ≡ Shut) → point c n ≡ Rolled → ⊥
      rolled (inl f) g = let z : Idle ≡ Rolled = sym f ∙ g in cc
      rolled (inr f) g = let z : Shut ≡ Rolled = sym f ∙ g in cc

  close_chained : (n : ℕ) → IsNode c n → IsChained (closed_by n c)
  close_chained n b = chained_same (moved_seat c c.home c.place true c.mask c.left n _ w b) b a (grows_same (entry c n)) refl (λ m e. let z : Leaving n ≡ Granting m = e in cc)

  pub step_chained : {e : Event} {t : Answer} {d : State} → Step c e t d → IsChained d
  step_chained (row.reset n b at) =
      let ch = changed_both c n (record (seat c n) { point = Ready }) n empty w b b in
      chained_by ch b a
      (λ m i k l e. absurd (off_way n b at m i k l e)) (λ m x k g e. absurd (off_current n b at m x k g e))
      (own_none ch b a (s.unpassed n b (elim at [
        | inl f ↦ ap (λ (p : Point). has_line p || is_freeing p) f
        | inr f ↦ ap (λ (p : Point). has_line p || is_freeing p) f
      ])) (λ m e. let z : Ready ≡ Granting m = e in cc))
  step_chained (row.prepend_first n b at e) = chained_none (moved_seat c n (Hand n) c.closed no_mask c.left n _ w b) b a (grows_same (entry c n)) (arrival_passed n c.closed) (arrival_point n c.closed)
  step_chained (row.prepend n b at ne) = chained_same (moved_seat c n c.place c.closed c.mask c.left n _ w b) b a (grows_same (entry c n)) refl (λ m e. let z : Linking c.home ≡ Granting m = e in cc)
  step_chained (row.link_done n p b at dn) = chained_none (moved_both c c.home (Hand n) c.closed no_mask c.left n _ p _ w b (sits_at s n (Linking p) b at).node) b a (grows_linked (entry c p) n b.0) (arrival_passed n c.closed) (arrival_point n c.closed)
  step_chained (row.link n p b at dn) = chained_same (changed_both c n _ p _ w b (sits_at s n (Linking p) b at).node) b a (grows_linked (entry c p) n b.0) refl (λ m e. let z : Queued ≡ Granting m = e in cc)
  step_chained (row.load_granted n b at gr) = chained_none (moved_seat c c.home (Hand n) c.closed no_mask c.left n _ w b) b a (grows_same (entry c n)) (arrival_passed n c.closed) (arrival_point n c.closed)
  step_chained (row.load_waiting n b at un) = a
  step_chained (row.load_free n b at fr) = chained_same (changed_seat c n _ w b) b a (grows_same (entry c n)) refl (λ m e. let z : Idle ≡ Granting m = e in cc)
  step_chained (row.load_busy n b at un) = a
  step_chained (row.home n x b r f) = chained_close (moved_seat c 0 Home c.closed c.mask (turns_after n c) n _ w b) b a (grows_same (entry c n)) (point_at_end (seat c n).reason) (end_point (seat c n).reason) refl
  step_chained (row.home_failed n x b r ne) = chained_same (changed_seat c n _ w b) b a (grows_same (entry c n)) refl (λ m e. let z : Marking x ≡ Granting m = e in cc)
  step_chained (row.home_last n b at l f) = chained_close (moved_seat (closed_by n c) 0 Home (closed_by n c).closed (closed_by n c).mask (turns_after n (closed_by n c)) n _ (closed_wide c n w) b) b (close_chained n b) (grows_same (entry c n)) (point_at_end (seat (closed_by n c) n).reason) (end_point (seat (closed_by n c) n).reason) refl
  step_chained (row.home_last_failed n b at l ne) = chained_same (changed_seat (closed_by n c) n _ (closed_wide c n w) b) b (close_chained n b) (grows_same (entry c n)) refl (λ m e. let z : Marking n ≡ Granting m = e in cc)
  step_chained (row.done_left n x b at un f) = chained_close (moved_both c c.home (Mailbox x) c.closed c.mask (turns_after n c) n _ x _ w b (marked_node s b at)) b a (grows_done (entry c x)) Left (λ m e. let z : Left ≡ Granting m = e in cc) refl
  step_chained (row.done_rolled n x b at un ne) = chained_close (moved_both c c.home (Mailbox x) c.closed c.mask (turns_after n c) n _ x _ w b (marked_node s b at)) b a (grows_done (entry c x)) (point_at_end (seat c n).reason) (end_point (seat c n).reason) refl
  step_chained {d = d} (row.done_linked n x b at ne) =
      let ch = changed_both c n (record (seat c n) { point = Granting (entry c x).link }) x (done (entry c x)) w b (marked_node s b at) in
      let cur : current c n ≡ x = (sits_at s n (Marking x) b at).0.is in
      chained_grows ch b a (grows_done (entry c x)) (own_same ch b a (grows_done (entry c x)) refl (λ m e. ap (λ (y : ℕ). (entry d y).done) cur ∙ ap (λ (v : Entry). v.done) ch.entry_own))
  step_chained (row.grant n m b at un) = chained_close (moved_both c c.home (Mailbox m) c.closed c.mask (turns_after n c) n _ m _ w b (node_m s b at)) b a (grows_granted (entry c m)) (point_at_end (seat c n).reason) (end_point (seat c n).reason) refl
  step_chained (row.grant_rolled n m b at ro) =
      let ch = moved_both c c.home c.place c.closed c.mask (turns_after n c) n (seat_passing c n m) m (grants (entry c m)) w b (node_m s b at) in
      let ps : List ℕ = (seat c n).passed in
      let sat = sits_at s n (Granting m) b at in
      let node = node_m s b at in
      let long : length (ps ++ m ∷ []) ≡ length ps + 1 = length-append ps (m ∷ []) in
      chained_grows ch b a (grows_granted (entry c m)) (record {
        links = λ i l. (along ch b a (on_way n (ps ++ m ∷ []) i) (λ z. subst (λ (x : ℕ). Grows (entry c x) (grants (entry c m))) (sym z) (grows_granted (entry c m)))).link
            (elim (cases_eq i (length ps)) [
              | inl e ↦ λ f. let g : m ≡ 0 = sym sat.3 ∙ sym (ap (λ (x : ℕ). (entry c x).link) (ap (on_way n (ps ++ m ∷ [])) e ∙ get_or-append (n ∷ ps) (m ∷ []) 0 (length ps) (omega arith) ∙ on_way_last n ps)) ∙ f in let j = node.0 in omega arith
              | inr ne ↦ subst (λ (x : ℕ). (entry c x).link ≢ 0) (sym (get_or-append (n ∷ ps) (m ∷ []) 0 i (omega arith))) (a.links n i b (omega arith))
            ]);
        done = λ x e. let z : Leaving m ≡ Granting x = e in cc;
      })
  step_chained (row.roll_granted n b at gr) = chained_none (moved_both c c.home (Hand n) c.closed no_mask c.left n _ n _ w b b) b a (grows_rolled (entry c n)) (arrival_passed n c.closed) (arrival_point n c.closed)
  step_chained (row.roll n b at un) = chained_same (changed_both c n _ n _ w b b) b a (grows_rolled (entry c n)) refl (λ m e. let z : Rolled ≡ Granting m = e in cc)
  step_chained (row.freed n x rest b at ps) =
      let ch = changed_both c n (seat_with rest (point_at_end (seat c n).reason) (seat c n).reason) x (frees (entry c x)) w b (freed_node n x rest s b ps) in
      chained_grows ch b a (grows_freed (entry c x)) (record {
        links = λ i l. (along ch b a (on_way n (seat_with rest (point_at_end (seat c n).reason) (seat c n).reason).passed i) (λ z. subst (λ (y : ℕ). Grows (entry c y) (frees (entry c x))) (sym z) (grows_freed (entry c x)))).link
            (subst (λ (ys : List ℕ). (entry c (on_way n ys i)).link ≢ 0) (sym (kept rest)) (rests rest ps i (subst (λ (ys : List ℕ). i < length ys) (kept rest) l)));
        done = λ m e. absurd (not_granting rest m e);
      })
    where
      kept : (rest : List ℕ) → (seat_with rest (point_at_end (seat c n).reason) (seat c n).reason).passed ≡ rest
      kept [] = refl
      kept (y ∷ ys) = refl

      not_granting : (rest : List ℕ) (m : ℕ) → (seat_with rest (point_at_end (seat c n).reason) (seat c n).reason).point ≢ Granting m
      not_granting [] m e = end_point (seat c n).reason m e
      not_granting (y ∷ ys) m e = let z : Freeing ≡ Granting m = e in cc

      rests : (rest : List ℕ) → (seat c n).passed ≡ x ∷ rest → (i : ℕ) → i < length rest → (entry c (on_way n rest i)).link ≢ 0
      rests rest ps zero l = a.links n 0 b (subst (λ (ys : List ℕ). 0 < length ys) (sym ps) (omega arith))
      rests rest ps (suc i) l =
          subst (λ (ys : List ℕ). (entry c (on_way n ys (suc (suc i)))).link ≢ 0) ps (a.links n (suc (suc i)) b (subst (λ (ys : List ℕ). suc (suc i) < length ys) (sym ps) (omega arith)))
  step_chained (row.write n mask bytes b at) = record { links = a.links; done = a.done }
  step_chained (row.close n b at) = close_chained n b
