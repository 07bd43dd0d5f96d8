-- Lemmas about what remains true of a node that an action does not affect.
use Rattle.qolb_model.specs.declared.config.LineConfig.{LineConfig}
use Rattle.std.proofs.Common.{◌≡◌, ◌≢◌, ℕ, ◌+◌, ◌<◌, ◌≤◌, true, false, List, [], ◌∷◌, ◌⊎◌, length, refl, sym, ◌∙◌, ap, subst, inl, inr, arith}
use mathlib.Core.List.{IsPrefix}
use Rattle.std.proofs.lemmas.Bool.{cases_eq}
use Rattle.qolb_model.specs.Requests.{Has}
use Rattle.qolb_model.proofs.Requests.{has_left}
use Rattle.qolb_model.proofs.Prefixes.{prefix_get, prefix_length}
use Rattle.qolb_model.proofs.Bounds.{prefix_get_back}
use Rattle.line_lanes.specs.declared.line.Line64.{Line64}
use Rattle.link_core.specs.declared.point.Point.{Point}
use Rattle.link_core.specs.declared.point.Point.TheVariants.{Idle, Ready, Linking, Queued, Holding, Leaving, Marking, Granting, Freeing, Left, Rolled, Shut}
use Rattle.link_core.specs.declared.seat.ReleaseCause.{ReleaseCause}
use Rattle.link_core.specs.declared.seat.ReleaseCause.TheVariants.{Own, Closing, Refused}
use Rattle.link_core.specs.declared.place.Place.TheVariants.{Mailbox, Hand}
use Rattle.link_core.specs.declared.entry.Entry.{Entry}
use Rattle.link_core.specs.Places.{requester_at, IsLast}
use Rattle.qolb_model.specs.declared.end.End.{End}
use Rattle.qolb_model.specs.declared.request.Request.{Request}
use Rattle.link_core.specs.State.{State, NodeCall, entry, seat, point, IsNode, last_or, current}
use Rattle.link_core.specs.Shown.{is_rolled, has_line, ByReason, HasEnded, IsWhole, IsHeld, IsCarried, Lies, at_home, in_hand, granted, left, IsReleasing, Sits, HasReached, IsPassed, IsGranting, IsFresh, HasLeft, Rests, IsSettled}
use Rattle.link_core.proofs.Changes.{Changed, is_node}

-- an act from c to d, which takes the order o to o2 and the ends es to fs, does not touch what x is in
pub record Spares (c d : State) (o o2 : List Request) (es fs : List End) (x : ℕ) : Type 0 where
  pub nodes : d.nodes ≡ c.nodes
  pub seat : seat d x ≡ seat c x
  pub rolled : (entry d x).rolled ≡ (entry c x).rolled
  pub ready : point c x ≡ Ready → entry d x ≡ entry c x
  pub fwd : (p : ℕ) → IsLast o x p → IsLast o2 x p
  pub back : (p : ℕ) → IsLast o2 x p → IsLast o x p
  pub ended : IsPrefix es fs
  pub later : (p : ℕ) → is_rolled (point c x) ≡ false → IsLast o x p → length es ≤ p → length fs ≤ p
  pub behind : (q p : ℕ) → point c x ≡ Linking q → IsLast o q p → IsLast o x (p + 1) → length es ≤ p + 1 → IsLast o2 q p × ((entry d q).link ≡ (entry c q).link)
  pub line : has_line (point c x) ≡ true → (d.place ≡ c.place) × (length fs ≡ length es) × (length es + 1 < length o → (length es + 1 < length o2) × (requester_at o2 (length es + 1) ≡ requester_at o (length es + 1))) × ((m : ℕ) → point c x ≡ Granting m → (entry d (current c x)).link ≡ (entry c (current c x)).link)

module _ {c d : State} {o o2 : List Request} {es fs : List End} {x : ℕ} (k : Spares c d o o2 es fs x) where
  ended_kept : HasEnded o es x → HasEnded o2 fs x
  ended_kept h p a = let l = h p (k.back p a) in let e = prefix_length es fs k.ended in omega arith

  current_kept : current d x ≡ current c x
  current_kept = ap (λ (s : NodeCall). last_or x s.passed) k.seat

  releasing_kept : (e : ℕ) → has_line (point c x) ≡ true → IsReleasing c x e → IsReleasing d x e
  releasing_kept e t r = record { place = (k.line t).0 ∙ r.place; is = current_kept ∙ r.is }

  point_kept : point d x ≡ point c x
  point_kept = ap (λ (s : NodeCall). s.point) k.seat

  at_point_kept : (p : Point) → point c x ≡ p → Sits c o es x p → Sits d o2 fs x p
  at_point_kept Idle e h = ended_kept h
  at_point_kept Ready e h = (ended_kept h.0, k.ready e ∙ h.1)
  at_point_kept Shut e h = ended_kept h
  at_point_kept Left e h = ended_kept h
  at_point_kept Freeing e h = (
    record {
      at = h.0.at;
      end = h.0.end;
      last = k.fwd h.0.at h.0.last;
      ended = prefix_get es fs h.0.at h.0.end k.ended h.0.ended;
      how = subst (λ (r : ReleaseCause). ByReason r h.0.end) (sym (ap (λ (s : NodeCall). s.reason) k.seat)) h.0.how;
    },
    λ f. h.1 (ap (λ (s : NodeCall). s.passed) (sym k.seat) ∙ f),
  )
  at_point_kept (Linking q) e h = record {
    at = h.at;
    node = (h.node.0, subst (λ (n : ℕ). q ≤ n) (sym k.nodes) h.node.1);
    before = (k.behind q h.at e h.before h.own h.waits).0;
    own = k.fwd (h.at + 1) h.own;
    waits = k.later (h.at + 1) (ap is_rolled e) h.own h.waits;
    unlinked = (k.behind q h.at e h.before h.own h.waits).1 ∙ h.unlinked;
    rolled = k.rolled ∙ h.rolled;
  }
  at_point_kept Queued e h = record {
    at = h.at;
    own = k.fwd h.at h.own;
    waits = k.later h.at (ap is_rolled e) h.own h.waits;
    rolled = k.rolled ∙ h.rolled;
  }
  at_point_kept Rolled e h = k.rolled ∙ h
  at_point_kept Holding e h = (releasing_kept x (ap has_line e) h.0, ap (λ (s : NodeCall). s.reason) k.seat ∙ h.1, ap (λ (s : NodeCall). s.passed) k.seat ∙ h.2)
  at_point_kept (Leaving n) e h = releasing_kept n (ap has_line e) h
  at_point_kept (Marking n) e h =
      let t = k.line (ap has_line e) in
      (releasing_kept n (ap has_line e) h.0, subst (λ (t : ℕ). t + 1 < length o2) (sym t.1) (t.2 h.1).0)
  at_point_kept (Granting m) e h =
      let t = k.line (ap has_line e) in
      let u = t.2 h.1 in (
        record { place = t.0 ∙ h.0.place; is = refl },
        subst (λ (t : ℕ). t + 1 < length o2) (sym t.1) u.0,
        ap (λ (t : ℕ). requester_at o2 (t + 1)) t.1 ∙ u.1 ∙ h.2,
        ap (λ (y : ℕ). (entry d y).link) current_kept ∙ t.3 m e ∙ h.3,
      )

  pub sits_kept : Sits c o es x (point c x) → Sits d o2 fs x (point d x)
  sits_kept h = subst (λ (p : Point). Sits d o2 fs x p) (sym point_kept) (at_point_kept (point c x) refl h)

-- what an act that makes no request does not touch: among the seats only n's changes, and among the entries only k's
pub spares_by : {c d : State} {n : ℕ} {s : NodeCall} {k : ℕ} {w : Entry} (ch : Changed c d n s k w) (o : List Request) (es fs : List End) (x : ℕ) → x ≢ n → (k ≢ n → w.rolled ≡ (entry c k).rolled) → (k ≢ n → point c k ≢ Ready) → IsPrefix es fs
    → ((p : ℕ) → is_rolled (point c x) ≡ false → IsLast o x p → length es ≤ p → length fs ≤ p)
    → ((q p : ℕ) → point c x ≡ Linking q → IsLast o q p → IsLast o x (p + 1) → (entry d q).link ≡ (entry c q).link)
    → (has_line (point c x) ≡ true → (d.place ≡ c.place) × (length fs ≡ length es) × ((m : ℕ) → point c x ≡ Granting m → (entry d (current c x)).link ≡ (entry c (current c x)).link))
    → Spares c d o o es fs x
spares_by {c} {d} {n} {s} {k} {w} ch o es fs x ne rolled ready ended later behind line = record {
  nodes = ch.nodes;
  seat = ch.seat_other x ne;
  rolled = elim (cases_eq x k) [
    | inl f ↦ ap (λ (y : ℕ). (entry d y).rolled) f ∙ ap (λ (v : Entry). v.rolled) ch.entry_own ∙ rolled (λ g. ne (f ∙ g)) ∙ ap (λ (y : ℕ). (entry c y).rolled) (sym f)
    | inr f ↦ ap (λ (v : Entry). v.rolled) (ch.entry_other x f)
  ];
  ready = λ e. elim (cases_eq x k) [
    | inl f ↦ absurd (ready (λ g. ne (f ∙ g)) (ap (point c) (sym f) ∙ e))
    | inr f ↦ ch.entry_other x f
  ];
  fwd = λ p l. l;
  back = λ p l. l;
  ended = ended;
  later = later;
  behind = λ q p e l j _. (l, behind q p e l j);
  line = λ e. let y = line e in (y.0, y.1, (λ l. (l, refl)), y.2);
}

-- a fresh request stays fresh
pub fresh_kept : (c d : State) (t t2 x p : ℕ) → (entry d x).freed ≡ (entry c x).freed → (entry d x).granted ≡ (entry c x).granted → (entry d x).done ≡ (entry c x).done → (p ≡ t → p ≡ t2) → (IsGranting c → IsGranting d) → IsFresh c t x p → IsFresh d t2 x p
fresh_kept c d t t2 x p a b e f g h = record {
  freed = a ∙ h.freed;
  granted = λ y. f (h.granted (sym b ∙ y));
  done = λ y. let z = h.done (sym e ∙ y) in (f z.0, g z.1);
}

-- a passed node stays passed
pub passed_kept : (c d : State) (o o2 : List Request) (es fs : List End) (n x : ℕ) → d.nodes ≡ c.nodes → point d x ≡ point c x → (entry d x).freed ≡ (entry c x).freed → ((p : ℕ) → IsLast o x p → IsLast o2 x p) → ((p : ℕ) → IsLast o x p → HasReached c es n p → HasReached d fs n p) → IsPassed c o es n x → IsPassed d o2 fs n x
passed_kept c d o o2 es fs n x ns a b e f h = record {
  node = (h.node.0, subst (λ (n : ℕ). x ≤ n) (sym ns) h.node.1);
  point = a ∙ h.point;
  kept = b ∙ h.kept;
  at = h.at;
  last = e h.at h.last;
  come = f h.at h.last h.come;
}

-- a longer list has what the list has
pub has_more : (old new : List Request) (r : Request) → IsPrefix old new → Has old r → Has new r
has_more old new r b h = subst (λ (rs : List Request). Has rs r) b.1 (has_left old b.0 r h)

-- an act that does not change the line leaves it at its place
pub record Leaves (c d : State) (o o2 : List Request) (es : List End) : Type 0 where
  pub place : d.place ≡ c.place
  pub bytes : d.bytes ≡ c.bytes
  pub closed : d.closed ≡ c.closed
  pub mask : d.mask ≡ c.mask
  pub nodes : d.nodes ≡ c.nodes
  pub home : length es ≡ length o → length es ≡ length o2
  pub turn : length es < length o → (length es < length o2) × (requester_at o2 (length es) ≡ requester_at o (length es))
  pub fwd : (n p : ℕ) → has_line (point c n) ≡ true → IsLast o n p → IsLast o2 n p
  pub hand : (n : ℕ) → has_line (point c n) ≡ true → seat d n ≡ seat c n
  pub box : (t : ℕ) → length es < length o → requester_at o (length es) ≡ t → point c t ≡ Queued → (entry c t).granted ≡ true → (point d t ≡ Queued) × ((entry d t).granted ≡ true)
  pub linking : (t q : ℕ) → length es < length o → requester_at o (length es) ≡ t → point c t ≡ Linking q → point d t ≡ Linking q
  pub tail : (q : ℕ) → (point c q ≡ Left) ⊎ (point c q ≡ Rolled) → (entry c q).link ≡ 0 → (entry c q).done ≡ true → (point d q ≡ point c q) × ((entry d q).link ≡ (entry c q).link) × ((entry d q).done ≡ (entry c q).done)

module _ {c d : State} {o o2 : List Request} {es : List End} (k : Leaves c d o o2 es) where
  same_bytes : d.bytes.bytes ≡ c.bytes.bytes
  same_bytes = ap (λ (l : Line64). l.bytes) k.bytes

  whole_kept : (config : LineConfig) → IsWhole config c es → IsWhole config d es
  whole_kept config w = record { bytes = same_bytes ∙ w.bytes; closed = k.closed ∙ w.closed }

  held_kept : (config : LineConfig) (n : ℕ) → seat d n ≡ seat c n → (r : ReleaseCause) → IsHeld config c es n r → IsHeld config d es n r
  held_kept config n e Own h = (k.closed ∙ h.0, h.1, rw (k.bytes, k.mask) h.2, elim h.3 [ inl y ↦ inl (ap (λ (s : NodeCall). s.point) e ∙ y) | inr y ↦ inr y ])
  held_kept config n e Closing h = (k.closed ∙ h.0, h.1, rw (k.bytes, k.mask) h.2)
  held_kept config n e Refused h = (k.closed ∙ h.0, h.1, same_bytes ∙ h.2)

  carried_kept : (config : LineConfig) (n : ℕ) → seat d n ≡ seat c n → (r : ReleaseCause) (ps : List ℕ) → ((p : ℕ) → IsLast o n p → IsLast o2 n p) → IsCarried config c o es n r ps → IsCarried config d o2 es n r ps
  carried_kept config n e r [] f h = held_kept config n e r h
  carried_kept config n e r (m ∷ ms) f h = (whole_kept config h.0, record { at = h.1.at; end = h.1.end; last = f h.1.at h.1.last; ended = h.1.ended; how = h.1.how }, h.2)

  pub lies_kept : (config : LineConfig) → Lies config c o es → Lies config d o2 es
  lies_kept config (at_home a b w) = at_home (k.home a) (k.place ∙ b) (whole_kept config w)
  lies_kept config (in_hand n a b e f g h) = in_hand n (k.turn a).0 (b.0, subst (λ (m : ℕ). n ≤ m) (sym k.nodes) b.1) (k.place ∙ e)
      (ap (λ (s : NodeCall). has_line s.point) (k.hand n f) ∙ f)
      ((k.turn a).1 ∙ g ∙ ap (λ (s : NodeCall). last_or n s.passed) (sym (k.hand n f)))
      (subst (λ (s : NodeCall). IsCarried config d o2 es n s.reason s.passed) (sym (k.hand n f)) (carried_kept config n (k.hand n f) (seat c n).reason (seat c n).passed (λ p. k.fwd n p f) h))
  lies_kept config (granted t a b e f g h) = let y = k.box t a b g f in granted t (k.turn a).0 ((k.turn a).1 ∙ b) (k.place ∙ e) y.1 y.0 (whole_kept config h)
  lies_kept config (left t q a b e f g h i j) =
      let y = k.tail q h g f in
      let stays : (point d q ≡ Left) ⊎ (point d q ≡ Rolled) = elim h [ inl v ↦ inl (y.0 ∙ v) | inr v ↦ inr (y.0 ∙ v) ] in
      left t q (k.turn a).0 ((k.turn a).1 ∙ b) (k.place ∙ e) (y.2 ∙ f) (y.1 ∙ g) stays (k.linking t q a b i) (whole_kept config j)

  -- a line that was left in an entry is still left there
  left_kept : (x : ℕ) → HasLeft c x → HasLeft d x
  left_kept x l = let y = k.tail x (inl l.point) l.unlinked l.done in record { point = y.0 ∙ l.point; done = y.2 ∙ l.done; unlinked = y.1 ∙ l.unlinked }

  pub rests_kept : (old new : List Request) → length es ≤ length o → IsPrefix o o2 → IsPrefix old new → Rests c o es old → Rests d o2 es new
  rests_kept old new known whole more f none p r e l at is ng = elim (f (λ m g. none m (k.place ∙ g)) p r e l (prefix_get_back o o2 p r whole (omega arith) at) is ng) [
    | inl y ↦ inl (has_more old new r more y)
    | inr y ↦ inr (left_kept r.node y)
  ]

-- while the line is in a hand, nothing is claimed of the last end
pub rests_held : (d : State) (n : ℕ) (o : List Request) (es : List End) (clear : List Request) → d.place ≡ Hand n → Rests d o es clear
rests_held d n o es clear a none = absurd (none n a)

-- among the entries only k's changes, to w, and the line may move
pub settled_by : {c d : State} {n : ℕ} {s : NodeCall} {k : ℕ} {w : Entry} (ch : Changed c d n s k w) (o o2 : List Request) (es fs : List End) (old new : List Request) → IsNode c k → IsSettled c o es old
    → ((x : ℕ) → x ≢ k → c.place ≡ Mailbox x → d.place ≡ Mailbox x) → (w.done ≡ true → w.link ≡ 0 → d.place ≡ Mailbox k) → ((entry c k).link ≤ c.nodes → w.link ≤ c.nodes)
    → Rests d o2 fs new → IsSettled d o2 fs new
settled_by {c} {d} {n} {s} {k} {w} ch o o2 es fs old new a was boxes box bound rests = record {
  boxed = λ x b dn un. elim (cases_eq x k) [
    | inl e ↦
        let same : w ≡ entry d x = sym ch.entry_own ∙ ap (entry d) (sym e) in
        box (ap (λ (v : Entry). v.done) same ∙ dn) (ap (λ (v : Entry). v.link) same ∙ un) ∙ ap Mailbox (sym e)
    | inr ne ↦
        let same : entry c x ≡ entry d x = sym (ch.entry_other x ne) in
        boxes x ne (was.boxed x (is_node ch x b) (ap (λ (v : Entry). v.done) same ∙ dn) (ap (λ (v : Entry). v.link) same ∙ un))
  ];
  rests = rests;
  bounded = λ x b. subst (λ (m : ℕ). (entry d x).link ≤ m) (sym ch.nodes) (elim (cases_eq x k) [
    | inl e ↦ subst (λ (v : Entry). v.link ≤ c.nodes) (sym (ap (entry d) e ∙ ch.entry_own)) (bound (was.bounded k a))
    | inr ne ↦ subst (λ (v : Entry). v.link ≤ c.nodes) (sym (ch.entry_other x ne)) (was.bounded x (is_node ch x b))
  ]);
}
