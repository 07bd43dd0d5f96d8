-- Proof about the step with which a releasing node frees a withdrawn node that its release has skipped.
use Rattle.qolb_model.specs.declared.config.LineConfig.{LineConfig}
use Rattle.std.proofs.Common.{◌≡◌, ◌≢◌, ℕ, suc, ◌+◌, ◌<◌, ◌≤◌, true, false, ◌||◌, List, [], ◌∷◌, ◌⊎◌, length, None, refl, sym, ◌∙◌, ap, subst, inl, inr, arith}
use Rattle.std.specs.Prelude.{slice_index_or}
use Rattle.link_core.specs.declared.point.Point.{Point}
use Rattle.link_core.specs.declared.point.Point.TheVariants.{Ready, Linking, Queued, Granting, Freeing, Left, Rolled}
use Rattle.link_core.specs.declared.seat.ReleaseCause.{ReleaseCause}
use Rattle.link_core.specs.declared.seat.ReleaseCause.TheVariants.{Own, Closing, Refused}
use Rattle.link_core.specs.declared.entry.Entry.{Entry}
use Rattle.link_core.specs.Places.{requester_at, IsLast}
use Rattle.qolb_model.specs.Histories.{none}
use Rattle.qolb_model.specs.Queue.{Queue}
use Rattle.link_core.specs.State.{State, NodeCall, entry, seat, point, IsNode, current, is_clear}
use Rattle.link_core.specs.Shown.{is_rolled, has_line, is_freeing, EndedBy, HasEnded, Sits, IsPassed, ArePassed, IsOnce, IsGranting, IsFresh, passed, Matches}
use Rattle.std.proofs.lemmas.Bool.{cases_eq}
use Rattle.link_core.specs.Steps.{seat_with, told_with, point_at_end}
use Rattle.link_core.proofs.Deeds.{Advances}
use Rattle.std.proofs.lemmas.Option.{slice_get_within}
use Rattle.qolb_model.specs.declared.end.End.TheVariants.{Gone}
use Rattle.qolb_model.proofs.Prefixes.{prefix_self}
use Rattle.qolb_model.proofs.Clearing.{clears_begin}
use Rattle.link_core.proofs.Orders.{last_once, has_ended, ended_at}
use Rattle.link_core.proofs.Changes.{Changed, point_other, point_own, at_other, field}
use Rattle.link_core.proofs.Clearing.{Cleared, may_push_cleared}
use Rattle.link_core.proofs.Follows.{sits_at, hand_lies}
use Rattle.link_core.proofs.Kept.{Spares, spares_by, sits_kept, fresh_kept, passed_kept, Leaves, lies_kept, rests_kept, settled_by}
use Rattle.link_core.proofs.Close.{close_passed, close_reason, close_unpassed, close_says}

abbrev pub frees : Entry → Entry
frees w = record w { freed = true }

module _ (config : LineConfig) (c : State) (h : Queue) (n x : ℕ) (rest : List ℕ) (s : Matches config c h) (is : IsNode c n) (at : point c n ≡ Freeing) (ps : (seat c n).passed ≡ x ∷ rest)
    (ents : List Entry) (sts : List NodeCall) (ch : Changed c (record c { entries = ents; seats = sts }) n (seat_with rest (point_at_end (seat c n).reason) (seat c n).reason) x (frees (entry c x))) where
  abbrev d : State
  d = record c { entries = ents; seats = sts }

  abbrev st : NodeCall
  st = seat_with rest (point_at_end (seat c n).reason) (seat c n).reason

  ended : EndedBy h.order h.ends n (seat c n).reason
  ended = (sits_at s n Freeing is at).0

  over : HasEnded h.order h.ends n
  over = has_ended ended

  -- the nodes passed by n: x at first
  first : IsPassed c h.order h.ends n x
  first = subst (λ (y : ℕ). IsPassed c h.order h.ends n y) (ap (λ (ps : List ℕ). slice_index_or ps 0 0) ps) (s.passes n 0 is (subst (λ (ps : List ℕ). 0 < length ps) (sym ps) (omega arith)))

  -- a passed node's request has ended, because n does not have the line
  first_ended : first.at < length h.ends
  first_ended = elim first.come [
    | inl l ↦ slice_get_within h.ends first.at Gone l
    | inr g ↦ let y = (hand_lies s n g.1 s.lies).2 in let z : false ≡ true = ap has_line (sym at) ∙ y in cc
  ]

  x_over : HasEnded h.order h.ends x
  x_over p l = let k = last_once h.order x p first.at l first.last in let e = first_ended in omega arith

  apart : x ≢ n
  apart e = let z : Rolled ≡ Freeing = sym first.point ∙ ap (point c) e ∙ at in cc

  -- the open requests are of others
  open_n : (p : ℕ) → length h.ends ≤ p → p < length h.order → requester_at h.order p ≢ n
  open_n p a l e = let k = over p (subst (λ (m : ℕ). IsLast h.order m p) e (s.distinct p a l)) in absurd (omega arith)

  open_x : (p : ℕ) → length h.ends ≤ p → p < length h.order → requester_at h.order p ≢ x
  open_x p a l e = let k = x_over p (subst (λ (m : ℕ). IsLast h.order m p) e (s.distinct p a l)) in absurd (omega arith)

  -- first x is cleared, and then n
  cleared : Cleared c h.order (length h.ends) h.clear (λ m. is_clear (point d m) (entry d m))
  cleared =
      may_push_cleared c h.order (length h.ends) h.clear s.numbered (λ m. is_clear (point c m) (entry d m)) (λ m. is_clear (point d m) (entry d m)) n ended.at
      (may_push_cleared c h.order (length h.ends) h.clear s.numbered (λ m. is_clear (point c m) (entry c m)) (λ m. is_clear (point c m) (entry d m)) x first.at
      (record { clear = h.clear; grows = none; says = s.clears; known = s.clear_known })
      first.last first.node (rw first.point (kept (entry c x) first.kept)) (λ _. first_ended)
      (λ m q ne a l. ap (is_clear (point c m)) (ch.entry_other m ne)))
      ended.last is (ap (λ (p : Point). is_clear p (entry d n)) at) (λ _. ended_at ended)
      (λ m q ne a l. ap (λ (p : Point). is_clear p (entry d m)) (point_other ch m ne))
    where
      kept : (v : Entry) → v.freed ≡ false → is_clear Rolled v ≡ false
      kept v e = rw e refl

  spares : (m : ℕ) → IsNode c m → m ≢ n → Spares c d h.order h.order h.ends h.ends m
  spares m a ne = spares_by ch h.order h.ends h.ends m ne (λ _. refl) (λ _ e. let z : Rolled ≡ Ready = sym first.point ∙ e in cc) (prefix_self h.ends) (λ p _ _ l. l)
      (λ y p e l j. field ch (λ w. w.link) refl y) (λ e. (refl, refl, λ x e. field ch (λ w. w.link) refl (current c m)))

  granting : IsGranting c → IsGranting d
  granting g = record { by = g.by; to = g.to; node = g.node; place = g.place; point = point_other ch g.by (at_other ch g.by Freeing (Granting g.to) at g.point (λ e. cc)) ∙ g.point }

  fresh : (p : ℕ) → length h.ends ≤ p → p < length h.order → IsFresh d (length h.ends) (requester_at h.order p) p
  fresh p a l = fresh_kept c d (length h.ends) (length h.ends) (requester_at h.order p) p (ap (λ (w : Entry). w.freed) (ch.entry_other (requester_at h.order p) (open_x p a l))) (field ch (λ w. w.granted) refl (requester_at h.order p)) (field ch (λ w. w.done) refl (requester_at h.order p)) (λ e. e) granting (s.fresh p a l)

  own_passed : (seat d n).passed ≡ rest
  own_passed = ap (λ (s : NodeCall). s.passed) ch.seat_own ∙ close_passed rest (point_at_end (seat c n).reason) (seat c n).reason

  -- a request that is still passed was one place later at n, or is at its old place
  passed_cases : (m i : ℕ) → i < length (seat d m).passed → (j : ℕ) × (j < length (seat c m).passed) × (passed d m i ≡ passed c m j) × (((m ≡ n) × (j ≡ i + 1)) ⊎ ((m ≢ n) × (j ≡ i)))
  passed_cases m i l = elim (cases_eq m n) [
    | inl e ↦
        let q : (seat d m).passed ≡ rest = ap (λ (m : ℕ). (seat d m).passed) e ∙ own_passed in
        let r : (seat c m).passed ≡ x ∷ rest = ap (λ (m : ℕ). (seat c m).passed) e ∙ ps in
        let len : i < length rest = subst (λ (ps : List ℕ). i < length ps) q l in
        (suc i, subst (λ (ps : List ℕ). suc i < length ps) (sym r) (omega arith), ap (λ (ps : List ℕ). slice_index_or ps i 0) q ∙ ap (λ (ps : List ℕ). slice_index_or ps (suc i) 0) (sym r), inl (e, omega arith))
    | inr ne ↦ (i, subst (λ (s : NodeCall). i < length s.passed) (ch.seat_other m ne) l, ap (λ (s : NodeCall). slice_index_or s.passed i 0) (ch.seat_other m ne), inr (ne, refl))
  ]

  -- x is no longer passed
  not_x : (m i : ℕ) → IsNode c m → (l : i < length (seat d m).passed) → passed c m (passed_cases m i l).0 ≢ x
  not_x m i a l e =
      let y = passed_cases m i l in
      let z = s.once m n y.0 0 a is y.1 (subst (λ (ps : List ℕ). 0 < length ps) (sym ps) (omega arith)) (e ∙ ap (λ (ps : List ℕ). slice_index_or ps 0 0) (sym ps)) in
      elim y.3 [ inl f ↦ let g = f.1 in let k = z.1 in omega arith | inr f ↦ f.0 z.0 ]

  passes : ArePassed d h.order h.ends
  passes m i a l =
      let y = passed_cases m i l in
      let j = s.passes m y.0 a y.1 in
      subst (λ (x : ℕ). IsPassed d h.order h.ends m x) (sym y.2)
      (passed_kept c d h.order h.order h.ends h.ends m (passed c m y.0) refl (point_other ch (passed c m y.0) (at_other ch (passed c m y.0) Freeing Rolled at j.point (λ e. cc))) (ap (λ (w : Entry). w.freed) (ch.entry_other (passed c m y.0) (not_x m i a l))) (λ p l. l) (λ p _ w. w) j)

  once : IsOnce d
  once m y i j a b k l e =
      let f = passed_cases m i k in
      let g = passed_cases y j l in
      let z = s.once m y f.0 g.0 a b f.1 g.1 (sym f.2 ∙ e ∙ g.2) in (
        z.0,
        elim f.3 [
          | inl u ↦ elim g.3 [
            | inl v ↦ let p = u.1 in let q = v.1 in let r = z.1 in omega arith
            | inr v ↦ absurd (v.0 (sym z.0 ∙ u.0))
          ]
          | inr u ↦ elim g.3 [
            | inl v ↦ absurd (u.0 (z.0 ∙ v.0))
            | inr v ↦ let p = u.1 in let q = v.1 in let r = z.1 in omega arith
          ]
        ],
      )

  leaves : Leaves c d h.order h.order h.ends
  leaves = record {
    place = refl;
    bytes = refl;
    closed = refl;
    mask = refl;
    nodes = refl;
    home = λ e. e;
    turn = λ l. (l, refl);
    fwd = λ m q e l. l;
    hand = λ m f. ch.seat_other m (λ g. let x : has_line Freeing ≡ true = ap has_line (sym at) ∙ ap (λ (x : ℕ). has_line (point c x)) (sym g) ∙ f in cc);
    box = λ t l a q g. (point_other ch t (at_other ch t Freeing Queued at q (λ e. cc)) ∙ q, field ch (λ w. w.granted) refl t ∙ g);
    linking = λ t q l a f. point_other ch t (at_other ch t Freeing (Linking q) at f (λ e. cc)) ∙ f;
    tail = λ q a f g. (point_other ch q (elim a [ inl i ↦ at_other ch q Freeing Left at i (λ e. cc) | inr i ↦ at_other ch q Freeing Rolled at i (λ e. cc) ]), field ch (λ w. w.link) refl q, field ch (λ w. w.done) refl q);
  }

  own : (ps : List ℕ) (r : ReleaseCause) → (seat d n).passed ≡ ps → r ≡ (seat d n).reason → EndedBy h.order h.ends n r → Sits d h.order h.ends n (seat_with ps (point_at_end r) r).point
  own [] Own f e k = over
  own [] Closing f e k = over
  own [] Refused f e k = over
  own (m ∷ ms) r f e k = (subst (λ (r : ReleaseCause). EndedBy h.order h.ends n r) e k, λ g. let z : m ∷ ms ≡ [] = sym f ∙ g in cc)

  pub freed_keeps : Advances config d h n (told_with rest (seat c n).reason) None true
  freed_keeps = record {
    after = record h { clear = cleared.clear };
    makes = refl;
    clears = cleared.grows;
    uncleared = λ e. cc;
    shows = record {
      opened = s.opened;
      size = s.size;
      turns = s.turns;
      known = s.known;
      nodes = s.nodes;
      numbered = s.numbered;
      marked_known = s.marked_known;
      clear_known = cleared.known;
      distinct = s.distinct;
      home_idle = s.home_idle;
      home_last = s.home_last;
      links = λ p a l. elim (s.links p a l) [
        | inl f ↦ inl (field ch (λ w. w.link) refl (requester_at h.order p) ∙ f)
        | inr f ↦ inr (field ch (λ w. w.link) refl (requester_at h.order p) ∙ f.0, point_other ch (requester_at h.order (p + 1)) (open_n (p + 1) (omega arith) l) ∙ f.1)
      ];
      last_link = λ p a e. field ch (λ w. w.link) refl (requester_at h.order p) ∙ s.last_link p a e;
      lies = lies_kept leaves config s.lies;
      marks = λ p a l. s.marks p a l ∙ ap is_rolled (sym (point_other ch (requester_at h.order p) (open_n p a l)));
      clears = λ m q a l. cleared.says m q a l;
      sits = λ m a. elim (cases_eq m n) [
        | inl e ↦ rw (e, point_own ch) (own rest (seat c n).reason own_passed (sym (close_reason rest (point_at_end (seat c n).reason) (seat c n).reason) ∙ ap (λ (s : NodeCall). s.reason) (sym ch.seat_own)) ended)
        | inr ne ↦ sits_kept (spares m a ne) (s.sits m a)
      ];
      fresh = fresh;
      passes = passes;
      once = once;
      unpassed = λ m a e. elim (cases_eq m n) [
        | inl f ↦ rw (f, ch.seat_own) (close_unpassed rest (point_at_end (seat c n).reason) (seat c n).reason (ap (λ (p : Point). has_line p || is_freeing p) (sym (point_own ch) ∙ ap (point d) (sym f)) ∙ e))
        | inr ne ↦ ap (λ (s : NodeCall). s.passed) (ch.seat_other m ne) ∙ s.unpassed m a (ap (λ (p : Point). has_line p || is_freeing p) (sym (point_other ch m ne)) ∙ e)
      ];
      settled = settled_by ch h.order h.order h.ends h.ends h.clear cleared.clear first.node s.settled (λ x ne e. e) (s.settled.boxed x first.node) (λ l. l) (rests_kept leaves h.clear cleared.clear s.known (prefix_self h.order) (clears_begin cleared.grows) s.settled.rests);
    };
    says = close_says _ n rest (seat c n).reason ended;
  }
