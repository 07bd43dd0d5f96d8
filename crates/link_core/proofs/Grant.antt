-- Proof about the step with which a release grants the line to the next node. That node then has the line in its
-- mailbox, or the release skips it because it has withdrawn.
use Rattle.qolb_model.specs.declared.config.LineConfig.{LineConfig}
use Rattle.std.proofs.Common.{◌≡◌, ◌≢◌, ℕ, ◌+◌, ◌<◌, true, false, List, [], ◌∷◌, ◌++◌, ◌⊎◌, length, Some, refl, sym, ◌∙◌, ap, subst, inl, inr, arith}
use Rattle.std.specs.Prelude.{slice_index_or}
use Rattle.link_core.specs.declared.point.Point.{Point}
use Rattle.link_core.specs.declared.point.Point.TheVariants.{Idle, Ready, Linking, Queued, Holding, Leaving, Marking, Granting, Freeing, Left, Rolled, Shut}
use Rattle.link_core.specs.declared.seat.ReleaseCause.{ReleaseCause}
use Rattle.link_core.specs.declared.seat.ReleaseCause.TheVariants.{Refused}
use Rattle.link_core.specs.declared.place.Place.{Place}
use Rattle.link_core.specs.declared.place.Place.TheVariants.{Mailbox, Hand}
use Rattle.link_core.specs.declared.entry.Entry.{Entry}
use Rattle.link_core.specs.Places.{requester_at, IsLast}
use Rattle.qolb_model.specs.Ends.{is_closed}
use Rattle.qolb_model.specs.Queue.{Queue, finish}
use Rattle.link_core.specs.Moves.{end_of}
use Rattle.qolb_model.specs.declared.end.End.{End}
use Rattle.qolb_model.specs.declared.end.End.TheVariants.{Gone}
use Rattle.qolb_model.specs.declared.request.Request.{Request}
use Rattle.link_core.specs.State.{State, NodeCall, entry, seat, point, IsNode, last_or, current, is_clear}
use Rattle.link_core.specs.Shown.{has_line, EndedBy, HasEnded, IsWhole, IsCarried, Lies, in_hand, granted, IsReleasing, Sits, IsPassed, ArePassed, IsOnce, IsFresh, passed, Matches}
use Rattle.std.proofs.lemmas.Bool.{cases_eq, cases_lt, cases_Bool}
use Rattle.std.proofs.Common.{length-append}
use Rattle.std.proofs.Math.ListN.{get_or-append}
use Rattle.std.proofs.Math.Seq.{get_or-append_seam}
use Rattle.link_core.specs.declared.told.Told.TheVariants as told
use Rattle.link_core.specs.Steps.{turns_after, seat_at_close, told_with, point_at_end}
use Rattle.link_core.proofs.Deeds.{Advances}
use Rattle.link_core.proofs.Orders.{last_once, ended_at}
use Rattle.std.proofs.lemmas.Option.{slice_get_within}
use Rattle.link_core.proofs.Changes.{Changed, point_other, at_other, field}
use Rattle.link_core.proofs.Ending.{longer, facts, fs, whole, ended, later_other, told_closed, gone, unboxed}
use Rattle.link_core.proofs.Follows.{sits_at, granting_link, in_its_hand}
use Rattle.link_core.proofs.Close.{close_keeps}
use Rattle.link_core.proofs.Over.{IsOver, after_end, end_clears, end_shows}
use Rattle.link_core.proofs.Leave.{clear_same, grants, rests_at_end, clear_rest}

last_or_push : (n : ℕ) (ps : List ℕ) (m : ℕ) → last_or n (ps ++ m ∷ []) ≡ m
last_or_push n [] m = refl
last_or_push n (p ∷ ps) m = last_or_push p ps m

carried_push : (config : LineConfig) (c : State) (o : List Request) (es : List End) (n : ℕ) (r : ReleaseCause) (ps : List ℕ) (m : ℕ) → IsWhole config c es → EndedBy o es n r → (r ≡ Refused → is_closed es ≡ true) → IsCarried config c o es n r (ps ++ m ∷ [])
carried_push config c o es n r [] m w e t = (w, e, t)
carried_push config c o es n r (p ∷ ps) m w e t = (w, e, t)

module _ {config : LineConfig} {c : State} {h : Queue} {n m : ℕ} (s : Matches config c h) (is : IsNode c n) (at : point c n ≡ Granting m) where
  pub lined : has_line (point c n) ≡ true
  lined = ap has_line at

  pub sat : IsReleasing c n (current c n) × (length h.ends + 1 < length h.order) × (requester_at h.order (length h.ends + 1) ≡ m) × ((entry c (current c n)).link ≡ m)
  sat = sits_at s n (Granting m) is at

  more : length h.ends + 1 < length h.order
  more = sat.1

  pub last_m : IsLast h.order m (length h.ends + 1)
  last_m = subst (λ (x : ℕ). IsLast h.order x (length h.ends + 1)) sat.2 (let l = more in s.distinct (length h.ends + 1) (omega arith) l)

  pub node_m : IsNode c m
  node_m = subst (λ (x : ℕ). IsNode c x) sat.2 (s.nodes (length h.ends + 1) more)

  m_other : m ≢ n
  m_other e = let l = more in later_other s is lined (length h.ends + 1) (omega arith) l (sat.2 ∙ e)

  pub fresh_m : IsFresh c (length h.ends) m (length h.ends + 1)
  fresh_m = subst (λ (x : ℕ). IsFresh c (length h.ends) x (length h.ends + 1)) sat.2 (let l = more in s.fresh (length h.ends + 1) (omega arith) l)

  -- the next node waits or is withdrawn
  pub granted_point : (point c m ≡ Queued) ⊎ (point c m ≡ Rolled)
  granted_point = go (point c m) refl (s.sits m node_m)
    where
      over : HasEnded h.order h.ends m → ⊥
      over e = let k = e (length h.ends + 1) last_m in omega arith

      unlined : has_line (point c m) ≡ true → ⊥
      unlined e = let f : Hand n ≡ Hand m = sym (in_its_hand s n is lined) ∙ in_its_hand s m node_m e in let g : n ≡ m = cc in m_other (sym g)

      go : (q : Point) → point c m ≡ q → Sits c h.order h.ends m q → (point c m ≡ Queued) ⊎ (point c m ≡ Rolled)
      go Idle e y = absurd (over y)
      go Ready e y = absurd (over y.0)
      go Shut e y = absurd (over y)
      go Left e y = absurd (over y)
      go Freeing e y = let k = last_once h.order m y.0.at (length h.ends + 1) y.0.last last_m in let l = ended_at y.0 in absurd (omega arith)
      go (Linking q) e y =
          let k = last_once h.order m (y.at + 1) (length h.ends + 1) y.own last_m in
          let j : y.at ≡ length h.ends = omega arith in
          let f : q ≡ current c n = sym y.before.its ∙ ap (requester_at h.order) j ∙ (facts s is lined).3 in
          absurd (granting_link s n m is at (ap (λ (x : ℕ). (entry c x).link) (sym f) ∙ y.unlinked))
      go Queued e y = inl e
      go Rolled e y = inr e
      go Holding e y = absurd (unlined (ap has_line e))
      go (Leaving x) e y = absurd (unlined (ap has_line e))
      go (Marking x) e y = absurd (unlined (ap has_line e))
      go (Granting x) e y = absurd (unlined (ap has_line e))

  unready : m ≢ n → point c m ≢ Ready
  unready ne e = elim granted_point [
    | inl f ↦ let z : Ready ≡ Queued = sym e ∙ f in cc
    | inr f ↦ let z : Ready ≡ Rolled = sym e ∙ f in cc
  ]

  same_clear : m ≢ n → is_clear (point c m) (grants (entry c m)) ≡ is_clear (point c m) (entry c m)
  same_clear ne = clear_same (point c m) (grants (entry c m)) (entry c m) refl refl refl

  fresh_k : (p : ℕ) → length h.ends < p → p < length h.order → requester_at h.order p ≡ m → ((grants (entry c m)).granted ≡ true → p ≡ length h.ends + 1) × ((grants (entry c m)).done ≡ false)
  fresh_k p a l e =
      let k = last_once h.order m p (length h.ends + 1) (subst (λ (x : ℕ). IsLast h.order x p) e (s.distinct p (omega arith) l)) last_m in (
        λ _. k,
        elim (cases_Bool (entry c m).done) [
          | inl t ↦ let z = (fresh_m.done t).0 in absurd (omega arith)
          | inr f ↦ f
        ],
      )

  -- in both cases m's entry is granted, and n's request has ended
  grant_over : (pl : Place) → IsOver c h n c.home pl (turns_after n c) m (grants (entry c m))
  grant_over pl = record {
    link = refl;
    rolled = refl;
    freed = refl;
    ready = unready;
    clear = same_clear;
    fresh = fresh_k;
    home_idle = λ f. let k = more in absurd (omega arith);
    home_last = λ _. refl;
    turns = refl;
    node = node_m;
    box = λ dn un. absurd (unboxed s is lined m (s.settled.boxed m node_m dn un));
  }

  pub grant_keeps : {ents : List Entry} {sts : List NodeCall} → (entry c m).rolled ≡ false → Changed c (record c { place = Mailbox m; left = turns_after n c; entries = ents; seats = sts }) n (seat_at_close (point_at_end (seat c n).reason) (seat c n)) m (grants (entry c m))
      → Advances config (record c { place = Mailbox m; left = turns_after n c; entries = ents; seats = sts }) h n (told_with (seat c n).passed (seat c n).reason) (Some (finish (end_of c n))) true
  grant_keeps unrolled ch =
      let w = whole s is lined in
      let l = longer s is lined in
      let k = more in
      close_keeps s is lined (point_at_end (seat c n).reason) ch (grant_over (Mailbox m))
      (granted m (omega arith) (ap (requester_at h.order) l ∙ sat.2) refl (ap (λ (w : Entry). w.granted) ch.entry_own)
      (point_other ch m m_other ∙ queued) (record { bytes = w.bytes; closed = w.closed }))
      (λ g _. rests_at_end s is (seat c n).reason _ _ g) (clear_rest s is _ ch.seat_own)
    where
      queued : point c m ≡ Queued
      queued = elim granted_point [
        | inl f ↦ f
        | inr f ↦ let y = sits_at s m Rolled node_m f in cc
      ]

abbrev pub seat_passing : State → ℕ → ℕ → NodeCall
seat_passing c n m = record { point = Leaving m; passed = (seat c n).passed ++ m ∷ []; reason = (seat c n).reason }

module _ {config : LineConfig} {c : State} {h : Queue} {n m : ℕ} (s : Matches config c h) (is : IsNode c n) (at : point c n ≡ Granting m) {ents : List Entry} {sts : List NodeCall} (rolled : (entry c m).rolled ≡ true)
    (ch : Changed c (record c { left = turns_after n c; entries = ents; seats = sts }) n (seat_passing c n m) m (grants (entry c m))) where
  abbrev d : State
  d = record c { left = turns_after n c; entries = ents; seats = sts }

  hs : has_line (point c n) ≡ true
  hs = ap has_line at

  abbrev es : List End
  es = fs s is hs

  is_rolled_m : point c m ≡ Rolled
  is_rolled_m = elim (granted_point s is at) [
    | inl f ↦ let y = (sits_at s m Queued (node_m s is at) f).rolled in cc
    | inr f ↦ f
  ]

  place : c.place ≡ Hand n
  place = in_its_hand s n is hs

  own_passed : (seat d n).passed ≡ (seat c n).passed ++ m ∷ []
  own_passed = ap (λ (s : NodeCall). s.passed) ch.seat_own

  -- a node that is passed now was passed before, or is m
  passed_cases : (x i : ℕ) → i < length (seat d x).passed → ((i < length (seat c x).passed) × (passed d x i ≡ passed c x i)) ⊎ ((x ≡ n) × (i ≡ length (seat c n).passed) × (passed d x i ≡ m))
  passed_cases x i l = elim (cases_eq x n) [
    | inl e ↦
        let len : i < length ((seat c n).passed ++ m ∷ []) = subst (λ (ps : List ℕ). i < length ps) (ap (λ (x : ℕ). (seat d x).passed) e ∙ own_passed) l in
        let two = length-append (seat c n).passed (m ∷ []) in
        let val : passed d x i ≡ slice_index_or ((seat c n).passed ++ m ∷ []) i 0 = ap (λ (ps : List ℕ). slice_index_or ps i 0) (ap (λ (x : ℕ). (seat d x).passed) e ∙ own_passed) in
        elim (cases_lt i (length (seat c n).passed)) [
          | inl a ↦ inl (subst (λ (x : ℕ). i < length (seat c x).passed) (sym e) a, val ∙ get_or-append (seat c n).passed (m ∷ []) 0 i a ∙ ap (λ (x : ℕ). passed c x i) (sym e))
          | inr a ↦ let j : i ≡ length (seat c n).passed = omega arith in inr (e, j, val ∙ ap (λ (i : ℕ). slice_index_or ((seat c n).passed ++ m ∷ []) i 0) j ∙ get_or-append_seam (seat c n).passed m [] 0)
        ]
    | inr ne ↦ inl (subst (λ (s : NodeCall). i < length s.passed) (ch.seat_other x ne) l, ap (λ (s : NodeCall). slice_index_or s.passed i 0) (ch.seat_other x ne))
  ]

  passes : ArePassed d h.order es
  passes x i a l = elim (passed_cases x i l) [
    | inl e ↦
        let j = s.passes x i a e.0 in
        subst (λ (y : ℕ). IsPassed d h.order es x y) (sym e.1) (record {
          node = j.node;
          point = point_other ch (passed c x i) (at_other ch (passed c x i) (Granting m) Rolled at j.point (λ e. cc)) ∙ j.point;
          kept = field ch (λ w. w.freed) refl (passed c x i) ∙ j.kept;
          at = j.at;
          last = j.last;
          come = inl (gone s is hs x i j.at e.0 j.come);
        })
    | inr e ↦ rw (e.2) (record {
      node = node_m s is at;
      point = point_other ch m (m_other s is at) ∙ is_rolled_m;
      kept = field ch (λ w. w.freed) refl m ∙ (fresh_m s is at).freed;
      at = length h.ends + 1;
      last = last_m s is at;
      come = inr (sym (longer s is hs), place ∙ ap Hand (sym e.0));
    })
  ]

  -- m was not passed before
  new : (x i : ℕ) → IsNode c x → i < length (seat c x).passed → passed c x i ≢ m
  new x i a l e =
      let j = s.passes x i a l in
      let k = last_once h.order m j.at (length h.ends + 1) (subst (λ (y : ℕ). IsLast h.order y j.at) e j.last) (last_m s is at) in
      elim j.come [ inl b ↦ let z = slice_get_within h.ends j.at Gone b in omega arith | inr b ↦ let z = b.0 in omega arith ]

  once : IsOnce d
  once x y i j a b k l e = elim (passed_cases x i k) [
    | inl f ↦ elim (passed_cases y j l) [
      | inl g ↦ s.once x y i j a b f.0 g.0 (sym f.1 ∙ e ∙ g.1)
      | inr g ↦ absurd (new x i a f.0 (sym f.1 ∙ e ∙ g.2))
    ]
    | inr f ↦ elim (passed_cases y j l) [
      | inl g ↦ absurd (new y j b g.0 (sym g.1 ∙ sym e ∙ f.2))
      | inr g ↦ (f.0 ∙ sym g.0, f.1 ∙ sym g.1)
    ]
  ]

  pub grant_rolled_keeps : Advances config d h n told.Went (Some (finish (end_of c n))) true
  grant_rolled_keeps =
      let w = whole s is hs in
      let l = longer s is hs in
      let k = more s is at in
      let q = grant_over s is at c.place in
      let cur : current d n ≡ m = ap (λ (s : NodeCall). last_or n s.passed) ch.seat_own ∙ last_or_push n (seat c n).passed m in
      let lies : Lies config d h.order es = in_hand n (omega arith) is place (ap (λ (s : NodeCall). has_line s.point) ch.seat_own)
      (ap (requester_at h.order) l ∙ (sat s is at).2 ∙ sym cur)
      (subst (λ (s : NodeCall). IsCarried config d h.order es n s.reason s.passed) (sym ch.seat_own) (carried_push config d h.order es n (seat c n).reason (seat c n).passed m (record { bytes = w.bytes; closed = w.closed }) (ended s is hs) (told_closed s is hs))) in
      record {
        after = after_end s is hs ch q;
        makes = refl;
        clears = end_clears s is hs ch q;
        uncleared = λ e. cc;
        shows = end_shows s is hs ch q lies (record { place = place; is = cur }) passes once (λ e. cc) (λ nowhere. absurd (nowhere n place));
        says = tt;
      }
