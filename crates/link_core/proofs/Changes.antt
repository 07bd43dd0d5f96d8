-- Lemmas about the parts of a state that one action of a node does not change.
use Rattle.std.proofs.Common.{◌≡◌, ◌≢◌, ℕ, ◌<◌, ◌≤◌, Bool, false, ◌||◌, Option, List, [], length, refl, sym, ◌∙◌, ap, subst, inl, inr, arith}
use Rattle.std.specs.Prelude.{slice_index_or}
use Rattle.std.proofs.Math.Seq.{get_or-set_same, get_or-set_other}
use Rattle.std.proofs.lemmas.Bool.{cases_eq}
use Rattle.line_lanes.specs.declared.line.Mask.{Mask}
use Rattle.link_core.specs.declared.entry.Entry.{Entry}
use Rattle.link_core.specs.declared.place.Place.{Place}
use Rattle.link_core.specs.declared.point.Point.{Point}
use Rattle.link_core.specs.declared.point.Point.TheVariants.{Rolled}
use Rattle.qolb_model.specs.declared.end.End.{End}
use Rattle.qolb_model.specs.declared.request.Request.{Request}
use Rattle.link_core.specs.Places.{IsLast}
use Rattle.link_core.specs.State.{State, IsWide, NodeCall, empty, unused, entry, seat, point, IsNode, put_entry, put_seat}
use Rattle.link_core.specs.Shown.{has_line, is_freeing, passed, HasReached, IsPassed, ArePassed, IsOnce, IsUnpassed}

-- among the seats only n's changes, to s, and among the entries only k's, to w
pub record Changed (c d : State) (n : ℕ) (s : NodeCall) (k : ℕ) (w : Entry) : Type 0 where
  pub nodes : d.nodes ≡ c.nodes
  pub seat_own : seat d n ≡ s
  pub seat_other : (m : ℕ) → m ≢ n → seat d m ≡ seat c m
  pub entry_own : entry d k ≡ w
  pub entry_other : (m : ℕ) → m ≢ k → entry d m ≡ entry c m

pub changed_both : (c : State) (n : ℕ) (s : NodeCall) (k : ℕ) (w : Entry) → IsWide c → IsNode c n → IsNode c k → Changed c (put_seat n s (put_entry k w c)) n s k w
changed_both c n s k w i a b = record {
  nodes = refl;
  seat_own = get_or-set_same c.seats n s unused (omega arith);
  seat_other = λ m ne. get_or-set_other c.seats n m s unused ne;
  entry_own = get_or-set_same c.entries k w empty (omega arith);
  entry_other = λ m ne. get_or-set_other c.entries k m w empty ne;
}

pub changed_seat : (c : State) (n : ℕ) (s : NodeCall) → IsWide c → IsNode c n → Changed c (put_seat n s c) n s n (entry c n)
changed_seat c n s i a = record {
  nodes = refl;
  seat_own = get_or-set_same c.seats n s unused (omega arith);
  seat_other = λ m ne. get_or-set_other c.seats n m s unused ne;
  entry_own = refl;
  entry_other = λ m ne. refl;
}

-- the same holds if the words and the line change, too
pub moved_both : (c : State) (hm : ℕ) (pl : Place) (cl : Bool) (mk : Mask) (lf : Option ℕ) (n : ℕ) (s : NodeCall) (k : ℕ) (w : Entry) → IsWide c → IsNode c n → IsNode c k → Changed c (put_seat n s (put_entry k w (record c { home = hm; place = pl; closed = cl; mask = mk; left = lf }))) n s k w
moved_both c hm pl cl mk lf n s k w i a b = record {
  nodes = refl;
  seat_own = get_or-set_same c.seats n s unused (omega arith);
  seat_other = λ m ne. get_or-set_other c.seats n m s unused ne;
  entry_own = get_or-set_same c.entries k w empty (omega arith);
  entry_other = λ m ne. get_or-set_other c.entries k m w empty ne;
}

pub moved_seat : (c : State) (hm : ℕ) (pl : Place) (cl : Bool) (mk : Mask) (lf : Option ℕ) (n : ℕ) (s : NodeCall) → IsWide c → IsNode c n → Changed c (put_seat n s (record c { home = hm; place = pl; closed = cl; mask = mk; left = lf })) n s n (entry c n)
moved_seat c hm pl cl mk lf n s i a = record {
  nodes = refl;
  seat_own = get_or-set_same c.seats n s unused (omega arith);
  seat_other = λ m ne. get_or-set_other c.seats n m s unused ne;
  entry_own = refl;
  entry_other = λ m ne. refl;
}

module _ {c d : State} {n : ℕ} {s : NodeCall} {k : ℕ} {w : Entry} (ch : Changed c d n s k w) where
  pub point_other : (m : ℕ) → m ≢ n → point d m ≡ point c m
  point_other m ne = ap (λ (t : NodeCall). t.point) (ch.seat_other m ne)

  pub point_own : point d n ≡ s.point
  point_own = ap (λ (t : NodeCall). t.point) ch.seat_own

  -- a node at another point is not n
  pub at_other : (m : ℕ) (p q : Point) → point c n ≡ p → point c m ≡ q → (p ≡ q → ⊥) → m ≢ n
  at_other m p q a b ne e = ne (sym a ∙ ap (point c) (sym e) ∙ b)

  pub is_node : (m : ℕ) → IsNode d m → IsNode c m
  is_node m a = (a.0, subst (λ (x : ℕ). m ≤ x) ch.nodes a.1)

  -- a field that the changed seat or entry keeps is kept everywhere
  pub seat_field : {A : Type 0} (f : NodeCall → A) → f s ≡ f (seat c n) → (m : ℕ) → f (seat d m) ≡ f (seat c m)
  seat_field f e m = elim (cases_eq m n) [
    | inl same ↦ ap (λ x. f (seat d x)) same ∙ ap f ch.seat_own ∙ e ∙ ap (λ x. f (seat c x)) (sym same)
    | inr other ↦ ap f (ch.seat_other m other)
  ]

  pub field : {A : Type 0} (f : Entry → A) → f w ≡ f (entry c k) → (m : ℕ) → f (entry d m) ≡ f (entry c m)
  field f e m = elim (cases_eq m k) [
    | inl same ↦ ap (λ x. f (entry d x)) same ∙ ap f ch.entry_own ∙ e ∙ ap (λ x. f (entry c x)) (sym same)
    | inr other ↦ ap f (ch.entry_other m other)
  ]

  -- the lists of passed nodes, if n's is unchanged
  module _ (same : s.passed ≡ (seat c n).passed) where
    pub passed_same : (m : ℕ) → (seat d m).passed ≡ (seat c m).passed
    passed_same = seat_field (λ (t : NodeCall). t.passed) same

    at_same : (m i : ℕ) → passed d m i ≡ passed c m i
    at_same m i = ap (λ (ps : List ℕ). slice_index_or ps i 0) (passed_same m)

    below_same : (m i : ℕ) → i < length (seat d m).passed → i < length (seat c m).passed
    below_same m i l = subst (λ (ps : List ℕ). i < length ps) (passed_same m) l

    pub once_kept : IsOnce c → IsOnce d
    once_kept f m x i j a b l k e = f m x i j (is_node m a) (is_node x b) (below_same m i l) (below_same x j k) (sym (at_same m i) ∙ e ∙ at_same x j)

    pub passes_kept : (o o2 : List Request) (es fs : List End)
        → ((x p : ℕ) → point c x ≡ Rolled → (entry c x).freed ≡ false → IsLast o x p → (x ≢ n) × ((entry d x).freed ≡ (entry c x).freed) × IsLast o2 x p)
        → ((m i p : ℕ) → i < length (seat c m).passed → HasReached c es m p → HasReached d fs m p)
        → ArePassed c o es → ArePassed d o2 fs
    passes_kept o o2 es fs f g old m i a l =
        let j = old m i (is_node m a) (below_same m i l) in
        let y = f (passed c m i) j.at j.point j.kept j.last in
        subst (λ (x : ℕ). IsPassed d o2 fs m x) (sym (at_same m i)) (record {
          node = (j.node.0, subst (λ (x : ℕ). passed c m i ≤ x) (sym ch.nodes) j.node.1);
          point = point_other (passed c m i) y.0 ∙ j.point;
          kept = y.1 ∙ j.kept;
          at = j.at;
          last = y.2;
          come = g m i j.at (below_same m i l) j.come;
        })

    pub unpassed_kept : (has_line s.point || is_freeing s.point ≡ false → (seat c n).passed ≡ []) → IsUnpassed c → IsUnpassed d
    unpassed_kept f old m a e = passed_same m ∙ elim (cases_eq m n) [
      | inl g ↦ ap (λ (x : ℕ). (seat c x).passed) g ∙ f (ap (λ (p : Point). has_line p || is_freeing p) (sym point_own ∙ ap (point d) (sym g)) ∙ e)
      | inr ne ↦ old m (is_node m a) (ap (λ (p : Point). has_line p || is_freeing p) (sym (point_other m ne)) ∙ e)
    ]
