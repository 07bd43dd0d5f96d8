-- Lemmas shared by the proofs of all steps that end a turn.
use Rattle.qolb_model.specs.declared.config.LineConfig.{LineConfig}
use Rattle.std.proofs.Common.{◌≡◌, ◌≢◌, ℕ, ◌+◌, ◌<◌, ◌≤◌, true, false, ◌||◌, List, [], ◌∷◌, ◌⊎◌, length, Option, slice_get, refl, sym, ◌∙◌, ap, subst, inl, inr, arith}
use Rattle.link_core.specs.declared.point.Point.{Point}
use Rattle.link_core.specs.declared.point.Point.TheVariants.{Ready}
use Rattle.link_core.specs.declared.place.Place.{Place}
use Rattle.link_core.specs.declared.place.Place.TheVariants.{Mailbox, Hand}
use Rattle.link_core.specs.declared.entry.Entry.{Entry}
use Rattle.link_core.specs.declared.seat.ReleaseCause.{ReleaseCause}
use Rattle.link_core.specs.declared.seat.ReleaseCause.TheVariants.{Own, Closing, Refused}
use Rattle.link_core.specs.Places.{request, requester_at, IsLast}
use Rattle.link_core.specs.Moves.{end_by}
use Rattle.qolb_model.specs.EndKinds.{is_gone}
use Rattle.qolb_model.specs.Requests.{has}
use Rattle.qolb_model.specs.declared.request.Request.{Request}
use Rattle.qolb_model.specs.Histories.{none, Clears}
use Rattle.qolb_model.specs.Queue.{Queue}
use Rattle.qolb_model.specs.declared.end.End.{End}
use Rattle.link_core.specs.State.{State, NodeCall, entry, seat, point, IsNode, last_or, current, is_clear}
use Rattle.link_core.specs.Shown.{is_rolled, has_line, is_freeing, Lies, IsLinked, Sits, ArePassed, IsOnce, IsFresh, HasLeft, Rests, Matches}
use Rattle.std.proofs.lemmas.Bool.{cases_eq}
use Rattle.qolb_model.proofs.Lists.{same_some, slice_get-push}
use Rattle.link_core.proofs.Orders.{request_got, ended_at}
use Rattle.link_core.proofs.Changes.{Changed, point_other, point_own, field}
use Rattle.link_core.proofs.Clearing.{Cleared, may_push_cleared}
use Rattle.link_core.proofs.Follows.{lined_unclear, in_its_hand, current_cases}
use Rattle.link_core.proofs.Kept.{Spares, spares_by, sits_kept, settled_by}
use Rattle.link_core.proofs.Ending.{fs, longer, facts, its, grows, ended, turns, later_other, unboxed}
use Rattle.link_core.specs.Steps.{turns_after}

-- what the step does to the home word, the line's place and the entry of k
pub record IsOver (c : State) (h : Queue) (n hm : ℕ) (pl : Place) (lf : Option ℕ) (k : ℕ) (w : Entry) : Type 0 where
  pub link : w.link ≡ (entry c k).link
  pub rolled : w.rolled ≡ (entry c k).rolled
  pub freed : w.freed ≡ (entry c k).freed
  pub ready : k ≢ n → point c k ≢ Ready
  pub clear : k ≢ n → is_clear (point c k) w ≡ is_clear (point c k) (entry c k)
  pub fresh : (p : ℕ) → length h.ends < p → p < length h.order → requester_at h.order p ≡ k → (w.granted ≡ true → p ≡ length h.ends + 1) × (w.done ≡ false)
  pub home_idle : length h.ends + 1 ≡ length h.order → hm ≡ 0
  pub home_last : length h.ends + 1 < length h.order → hm ≡ c.home
  pub turns : lf ≡ turns_after n c
  pub node : IsNode c k
  pub box : w.done ≡ true → w.link ≡ 0 → pl ≡ Mailbox k

module _ {config : LineConfig} {c : State} {h : Queue} {n : ℕ} (s : Matches config c h) (is : IsNode c n) (lined : has_line (point c n) ≡ true)
    {hm : ℕ} {pl : Place} {lf : Option ℕ} {ents : List Entry} {sts : List NodeCall} {st : NodeCall} {k : ℕ} {w : Entry}
    (ch : Changed c (record c { home = hm; place = pl; left = lf; entries = ents; seats = sts }) n st k w) (q : IsOver c h n hm pl lf k w) where
  abbrev d : State
  d = record c { home = hm; place = pl; left = lf; entries = ents; seats = sts }

  abbrev es : List End
  es = fs s is lined

  long : length es ≡ length h.ends + 1
  long = longer s is lined

  -- the nodes of later requests are not n
  later : (p : ℕ) → length es ≤ p → p < length h.order → requester_at h.order p ≢ n
  later p a l = let e = long in later_other s is lined p (omega arith) l

  links : (p : ℕ) → length es ≤ p → p + 1 < length h.order → IsLinked d (requester_at h.order p) (requester_at h.order (p + 1))
  links p a l = let e = long in elim (s.links p (omega arith) l) [
    | inl f ↦ inl (field ch (λ w. w.link) q.link (requester_at h.order p) ∙ f)
    | inr f ↦ inr (field ch (λ w. w.link) q.link (requester_at h.order p) ∙ f.0, point_other ch (requester_at h.order (p + 1)) (later (p + 1) (omega arith) l) ∙ f.1)
  ]

  -- no other node has the line
  alone : (m : ℕ) → IsNode c m → m ≢ n → has_line (point c m) ≡ true → ⊥
  alone m a ne e = let f : Hand n ≡ Hand m = sym (in_its_hand s n is lined) ∙ in_its_hand s m a e in let g : n ≡ m = cc in ne (sym g)

  spares : (m : ℕ) → IsNode c m → m ≢ n → Spares c d h.order h.order h.ends es m
  spares m a ne = spares_by ch h.order h.ends es m ne (λ _. q.rolled) q.ready (grows s is lined)
      (λ p r l t. let e = long in elim (cases_eq (length h.ends) p) [
        | inl f ↦
            let i = its s is lined in
            let y : current c n ≡ m = sym i.its ∙ ap (requester_at h.order) f ∙ l.its in
            absurd (unrolled m y ne r)
        | inr f ↦ grind arith
      ])
      (λ y p e l j. field ch (λ w. w.link) q.link y) (λ e. absurd (alone m a ne e))
    where
      unrolled : (m : ℕ) → current c n ≡ m → m ≢ n → is_rolled (point c m) ≡ false → ⊥
      unrolled m y ne r = elim (current_cases s n is) [
        | inl j ↦ ne (sym y ∙ j.1)
        | inr j ↦ let z : true ≡ false = sym (ap is_rolled j.point) ∙ ap (λ (m : ℕ). is_rolled (point c m)) y ∙ r in cc
      ]

  pub cleared : Cleared c h.order (length es) h.clear (λ m. is_clear (point d m) (entry d m))
  cleared = may_push_cleared c h.order (length es) h.clear s.numbered (λ m. is_clear (point c m) (entry c m)) (λ m. is_clear (point d m) (entry d m)) n (ended s is lined).at
      (record { clear = h.clear; grows = none; says = s.clears; known = s.clear_known })
      (ended s is lined).last is (lined_unclear (point c n) (entry c n) lined)
      (λ e. ended_at (ended s is lined))
      (λ m p ne a l. elim (cases_eq m k) [
        | inl f ↦ rw (point_other ch m ne, f, ch.entry_own) (q.clear (λ g. ne (f ∙ g)))
        | inr f ↦ rw (point_other ch m ne, ch.entry_other m f) refl
      ])

  fresh : (p : ℕ) → length es ≤ p → p < length h.order → IsFresh d (length es) (requester_at h.order p) p
  fresh p a l =
      let e = long in
      let old = s.fresh p (omega arith) l in
      record {
        freed = field ch (λ w. w.freed) q.freed (requester_at h.order p) ∙ old.freed;
        granted = λ y. elim (cases_eq (requester_at h.order p) k) [
          | inl f ↦ e' ((q.fresh p (omega arith) l f).0 (sym (ap (λ (w : Entry). w.granted) ch.entry_own) ∙ ap (λ (m : ℕ). (entry d m).granted) (sym f) ∙ y))
          | inr f ↦ let z = old.granted (sym (ap (λ (w : Entry). w.granted) (ch.entry_other (requester_at h.order p) f)) ∙ y) in absurd (omega arith)
        ];
        done = λ y. elim (cases_eq (requester_at h.order p) k) [
          | inl f ↦ let z = (q.fresh p (omega arith) l f).1 in let u = ap (λ (w : Entry). w.done) ch.entry_own in let v = ap (λ (m : ℕ). (entry d m).done) f in cc
          | inr f ↦ let z = old.done (sym (ap (λ (w : Entry). w.done) (ch.entry_other (requester_at h.order p) f)) ∙ y) in let i = z.0 in absurd (omega arith)
        ];
      }
    where
      e' : {p : ℕ} → p ≡ length h.ends + 1 → p ≡ length es
      e' f = f ∙ sym long

  abbrev pub after_end : Queue
  after_end = record h { ends = es; clear = cleared.clear }

  pub end_clears : Clears after_end.order (length after_end.ends) h.clear after_end.clear
  end_clears = cleared.grows

  -- the request that ended last is n's own, if n has passed none
  rests : (((m : ℕ) → pl ≢ Hand m) → (seat c n).passed ≡ [] → (is_clear (point d n) (entry d n) ≡ true) ⊎ HasLeft d n) → Rests d h.order es cleared.clear
  rests f nowhere p r e l at was ng =
      let here : p ≡ length h.ends = let k = long in omega arith in
      let last : IsLast h.order n p = subst (λ (y : ℕ). IsLast h.order n y) (sym here) (subst (λ (ps : List ℕ). IsLast h.order (last_or n ps) (length h.ends)) empty (its s is lined)) in
      let got : request h.order p ≡ r = request_got h.order p r at in
      elim (f nowhere empty) [
        | inl y ↦ inl (ap (has cleared.clear) (sym got) ∙ cleared.says n p is last ∙ y)
        | inr y ↦ inr (subst (λ (m : ℕ). HasLeft d m) (sym (ap (λ (x : Request). x.node) (sym got) ∙ last.its)) y)
      ]
    where
      none_gone : (r : ReleaseCause) (ps : List ℕ) → is_gone (end_by c r ps) ≡ false → ps ≡ []
      none_gone r [] e = refl
      none_gone Own (m ∷ ms) e = cc
      none_gone Closing (m ∷ ms) e = cc
      none_gone Refused (m ∷ ms) e = cc

      empty : (seat c n).passed ≡ []
      empty =
          let here : p ≡ length h.ends = let k = long in omega arith in
          let same : end_by c (seat c n).reason (seat c n).passed ≡ e = same_some (sym (slice_get-push h.ends _) ∙ ap (slice_get es) (sym here) ∙ was) in
          none_gone (seat c n).reason (seat c n).passed (ap is_gone same ∙ ng)

  pub end_shows : Lies config d h.order es → Sits d h.order es n st.point → ArePassed d h.order es → IsOnce d
      → (has_line st.point || is_freeing st.point ≡ false → st.passed ≡ [])
      → (((m : ℕ) → pl ≢ Hand m) → (seat c n).passed ≡ [] → (is_clear (point d n) (entry d n) ≡ true) ⊎ HasLeft d n)
      → Matches config d after_end
  end_shows lies own passes once unpassed rest = record {
    opened = s.opened;
    size = s.size;
    turns = q.turns ∙ turns s is lined;
    known = let e = long in let f = (facts s is lined).0 in omega arith;
    nodes = s.nodes;
    numbered = s.numbered;
    marked_known = s.marked_known;
    clear_known = cleared.known;
    distinct = λ p a l. let e = long in s.distinct p (omega arith) l;
    home_idle = λ e. q.home_idle (sym long ∙ e);
    home_last = λ p a e. let f = long in q.home_last (omega arith) ∙ s.home_last p (omega arith) e;
    links = links;
    last_link = λ p a e. let f = long in field ch (λ w. w.link) q.link (requester_at h.order p) ∙ s.last_link p (omega arith) e;
    lies = lies;
    marks = λ p a l. let e = long in s.marks p (omega arith) l ∙ ap is_rolled (sym (point_other ch (requester_at h.order p) (later p a l)));
    clears = λ m p a l. cleared.says m p a l;
    sits = λ m a. elim (cases_eq m n) [
      | inl e ↦ rw (e, point_own ch) own
      | inr ne ↦ sits_kept (spares m a ne) (s.sits m a)
    ];
    fresh = fresh;
    passes = passes;
    once = once;
    unpassed = λ m a e. elim (cases_eq m n) [
      | inl f ↦ rw (f, ch.seat_own) (unpassed (ap (λ (p : Point). has_line p || is_freeing p) (sym (point_own ch) ∙ ap (point d) (sym f)) ∙ e))
      | inr ne ↦ ap (λ (s : NodeCall). s.passed) (ch.seat_other m ne) ∙ s.unpassed m a (ap (λ (p : Point). has_line p || is_freeing p) (sym (point_other ch m ne)) ∙ e)
    ];
    settled = settled_by ch h.order h.order h.ends es h.clear cleared.clear q.node s.settled (λ x ne e. absurd (unboxed s is lined x e)) q.box (λ l. subst (λ (x : ℕ). x ≤ c.nodes) (sym q.link) l) (rests rest);
  }
