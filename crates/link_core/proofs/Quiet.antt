-- Lemmas shared by the proofs of all steps that neither end a turn nor add a request.
use Rattle.qolb_model.specs.declared.config.LineConfig.{LineConfig}
use Rattle.std.proofs.Common.{◌≡◌, ◌≢◌, ℕ, ◌+◌, ◌<◌, ◌≤◌, Bool, true, false, ◌||◌, List, [], ◌⊎◌, length, refl, sym, ◌∙◌, ap, subst, inl, inr}
use Rattle.line_lanes.specs.declared.line.Line64.{Line64}
use Rattle.line_lanes.specs.declared.line.Mask.{Mask}
use Rattle.link_core.specs.declared.point.Point.TheVariants.{Ready, Linking, Granting, Rolled}
use Rattle.link_core.specs.declared.place.Place.{Place}
use Rattle.link_core.specs.declared.place.Place.TheVariants.{Mailbox, Hand}
use Rattle.link_core.specs.declared.entry.Entry.{Entry}
use Rattle.link_core.specs.Places.{request, requester_at, IsLast}
use Rattle.qolb_model.specs.Queue.{Queue}
use Rattle.qolb_model.specs.Requests.{count_of, has}
use Rattle.qolb_model.specs.declared.request.Request.{Request}
use Rattle.link_core.specs.State.{State, NodeCall, entry, seat, point, IsNode, current, is_clear}
use Rattle.link_core.specs.Shown.{is_rolled, has_line, is_freeing, Lies, IsLinked, Sits, HasReached, IsGranting, IsFresh, Rests, Matches}
use Rattle.std.proofs.lemmas.Bool.{cases_eq}
use Rattle.qolb_model.proofs.Prefixes.{prefix_self}
use Rattle.link_core.proofs.Changes.{Changed, point_other, point_own, field, passes_kept, once_kept, unpassed_kept}
use Rattle.link_core.proofs.Follows.{in_its_hand}
use Rattle.link_core.proofs.Kept.{Spares, spares_by, sits_kept, settled_by}

-- what the step does to n, at its point before and at its seat after, and to the entry of k
pub record IsQuiet (c d : State) (h : Queue) (marked : List Request) (n : ℕ) (st : NodeCall) (k : ℕ) (w : Entry) : Type 0 where
  pub link : w.link ≡ (entry c k).link
  pub freed : w.freed ≡ (entry c k).freed
  pub granted : w.granted ≡ (entry c k).granted
  pub rolled : k ≢ n → w.rolled ≡ (entry c k).rolled
  pub done : (w.done ≡ (entry c k).done) ⊎ ((p : ℕ) → length h.ends ≤ p → p < length h.order → requester_at h.order p ≡ k → (p ≡ length h.ends) × IsGranting d)
  pub ready : k ≢ n → point c k ≢ Ready
  pub clear : k ≢ n → is_clear (point c k) w ≡ is_clear (point c k) (entry c k)
  pub clear_own : is_clear st.point (entry d n) ≡ is_clear (point c n) (entry c n)
  pub passed : st.passed ≡ (seat c n).passed
  pub hands : (m : ℕ) → c.place ≡ Hand m → d.place ≡ Hand m
  pub marks : (p : ℕ) → length h.ends ≤ p → p < length h.order → requester_at h.order p ≡ n → has marked (request h.order p) ≡ is_rolled st.point
  pub marks_other : (p : ℕ) → requester_at h.order p ≢ n → has marked (request h.order p) ≡ has h.marked (request h.order p)
  pub marked_known : (r : Request) → has marked r ≡ true → r.number ≤ count_of r.node h.order
  pub not_granting : (m : ℕ) → point c n ≢ Granting m
  pub not_linking : (q : ℕ) → point c n ≢ Linking q
  pub not_passed : point c n ≡ Rolled → (entry c n).freed ≡ true
  pub unpassed : has_line st.point || is_freeing st.point ≡ false → st.passed ≡ []
  pub node : IsNode c k
  pub boxes : (x : ℕ) → x ≢ k → c.place ≡ Mailbox x → d.place ≡ Mailbox x
  pub box : w.done ≡ true → w.link ≡ 0 → d.place ≡ Mailbox k
  pub rests : Rests d h.order h.ends h.clear
  pub lies : (config : LineConfig) → Matches config c h → Lies config d h.order h.ends
  pub own : Sits d h.order h.ends n st.point

module _ (config : LineConfig) (c : State) (h : Queue) (n : ℕ) (s : Matches config c h) (is : IsNode c n)
    (pl : Place) (bs : Line64) (cl : Bool) (mk : Mask) (ents : List Entry) (sts : List NodeCall) (marked : List Request) (st : NodeCall) (k : ℕ) (w : Entry)
    (ch : Changed c (record c { place = pl; bytes = bs; closed = cl; mask = mk; entries = ents; seats = sts }) n st k w)
    (q : IsQuiet c (record c { place = pl; bytes = bs; closed = cl; mask = mk; entries = ents; seats = sts }) h marked n st k w) where
  abbrev d : State
  d = record c { place = pl; bytes = bs; closed = cl; mask = mk; entries = ents; seats = sts }

  links : (p : ℕ) → length h.ends ≤ p → p + 1 < length h.order → IsLinked d (requester_at h.order p) (requester_at h.order (p + 1))
  links p a l = elim (s.links p a l) [
    | inl f ↦ inl (field ch (λ w. w.link) q.link (requester_at h.order p) ∙ f)
    | inr f ↦ inr (field ch (λ w. w.link) q.link (requester_at h.order p) ∙ f.0, point_other ch (requester_at h.order (p + 1)) (λ e. q.not_linking (requester_at h.order p) (ap (point c) (sym e) ∙ f.1)) ∙ f.1)
  ]

  marks : (p : ℕ) → length h.ends ≤ p → p < length h.order → has marked (request h.order p) ≡ is_rolled (point d (requester_at h.order p))
  marks p a l = elim (cases_eq (requester_at h.order p) n) [
    | inl e ↦ q.marks p a l e ∙ ap is_rolled (sym (point_own ch) ∙ ap (point d) (sym e))
    | inr ne ↦ q.marks_other p ne ∙ s.marks p a l ∙ ap is_rolled (sym (point_other ch (requester_at h.order p) ne))
  ]

  clears : (m p : ℕ) → IsNode d m → IsLast h.order m p → has h.clear (request h.order p) ≡ is_clear (point d m) (entry d m)
  clears m p a l = s.clears m p a l ∙ elim (cases_eq m n) [
    | inl e ↦ rw (e, point_own ch) (sym q.clear_own)
    | inr ne ↦ elim (cases_eq m k) [
      | inl f ↦ rw (point_other ch m ne, f, ch.entry_own) (sym (q.clear (λ g. ne (f ∙ g))))
      | inr f ↦ rw (point_other ch m ne, ch.entry_other m f) refl
    ]
  ]

  spares : (m : ℕ) → IsNode c m → m ≢ n → Spares c d h.order h.order h.ends h.ends m
  spares m a ne = spares_by ch h.order h.ends h.ends m ne q.rolled q.ready (prefix_self h.ends) (λ p _ _ l. l) (λ y p e l j. field ch (λ w. w.link) q.link y)
      (λ e. let y = in_its_hand s m a e in (q.hands m y ∙ sym y, refl, λ x e. field ch (λ w. w.link) q.link (current c m)))

  granting : IsGranting c → IsGranting d
  granting g = record { by = g.by; to = g.to; node = g.node; place = q.hands g.by g.place; point = point_other ch g.by (λ e. q.not_granting g.to (ap (point c) (sym e) ∙ g.point)) ∙ g.point }

  fresh : (p : ℕ) → length h.ends ≤ p → p < length h.order → IsFresh d (length h.ends) (requester_at h.order p) p
  fresh p a l =
      let old = s.fresh p a l in
      record {
        freed = field ch (λ w. w.freed) q.freed (requester_at h.order p) ∙ old.freed;
        granted = λ y. old.granted (sym (field ch (λ w. w.granted) q.granted (requester_at h.order p)) ∙ y);
        done = λ y. elim (cases_eq (requester_at h.order p) k) [
          | inl f ↦ elim q.done [
            | inl same ↦ let z = old.done (sym (field ch (λ w. w.done) same (requester_at h.order p)) ∙ y) in (z.0, granting z.1)
            | inr now ↦ now p a l f
          ]
          | inr f ↦ let z = old.done (sym (ap (λ (w : Entry). w.done) (ch.entry_other (requester_at h.order p) f)) ∙ y) in (z.0, granting z.1)
        ];
      }

  not_passed : (x : ℕ) → point c x ≡ Rolled → (entry c x).freed ≡ false → x ≢ n
  not_passed x at kept e = let y = q.not_passed (ap (point c) (sym e) ∙ at) in let z : false ≡ true = sym kept ∙ ap (λ (x : ℕ). (entry c x).freed) e ∙ y in cc

  come : (m p : ℕ) → HasReached c h.ends m p → HasReached d h.ends m p
  come m p (inl e) = inl e
  come m p (inr e) = inr (e.0, q.hands m e.1)

  pub quiet_shows : Matches config d (record h { marked = marked })
  quiet_shows = record {
    opened = s.opened;
    size = s.size;
    turns = s.turns;
    known = s.known;
    nodes = s.nodes;
    numbered = s.numbered;
    marked_known = q.marked_known;
    clear_known = s.clear_known;
    distinct = s.distinct;
    home_idle = s.home_idle;
    home_last = s.home_last;
    links = links;
    last_link = λ p a e. field ch (λ w. w.link) q.link (requester_at h.order p) ∙ s.last_link p a e;
    lies = q.lies config s;
    marks = marks;
    clears = clears;
    sits = λ m a. elim (cases_eq m n) [
      | inl e ↦ rw (e, point_own ch) q.own
      | inr ne ↦ sits_kept (spares m a ne) (s.sits m a)
    ];
    fresh = fresh;
    passes = passes_kept ch q.passed h.order h.order h.ends h.ends (λ x p at kept l. (not_passed x at kept, field ch (λ w. w.freed) q.freed x, l)) (λ m i p l. come m p) s.passes;
    once = once_kept ch q.passed s.once;
    unpassed = unpassed_kept ch q.passed (λ e. sym q.passed ∙ q.unpassed e) s.unpassed;
    settled = settled_by ch h.order h.order h.ends h.ends h.clear h.clear q.node s.settled q.boxes q.box (λ l. subst (λ (x : ℕ). x ≤ c.nodes) (sym q.link) l) q.rests;
  }
