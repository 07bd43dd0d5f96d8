-- Lemmas about the ports of a line after one port has made a call and has then exchanged its knowledge with all other
-- ports.
use Rattle.std.proofs.Common.{◌≡◌, ◌≢◌, ℕ, zero, suc, ◌+◌, ◌-◌, ◌<◌, ◌≤◌, inl, inr, List, [], ◌∷◌, ◌++◌, length, set, Some, slice_get, refl, ap, sym, ◌∙◌, subst, arith, length-append, length-set}
use Rattle.std.proofs.lemmas.Bool.{cases_eq, cases_order}
use Rattle.std.proofs.lemmas.Option.{slice_get_within}
use mathlib.Core.List.{IsPrefix}
use Rattle.qolb_model.specs.declared.config.LineConfig.{LineConfig}
use Rattle.qolb_model.specs.OneOwner.{OwnerState}
use Rattle.qolb_model.specs.Plain.{IsReached}
use Rattle.qolb_model.specs.Whole.{ViewAndTurn, KnowsWhole, AreSynced}
use Rattle.qolb_model.specs.Rounds.{MeetsOthers}
use Rattle.qolb_model.proofs.Lists.{element_at, same_some, slice_get-append_left, slice_get-middle}
use Rattle.qolb_model.proofs.Prefixes.{prefix_self}
use Rattle.qolb_model.proofs.Bounds.{Bounds, IsAfter}
use Rattle.qolb_model.proofs.Leaving.{Leaves}
use Rattle.qolb_model.proofs.Meetings.{AreOthers, round_whole, round_bounds}

-- an element that was put, and the others
get_set_same : {X : Type 0} (xs : List X) (i : ℕ) (x : X) → i < length xs → slice_get (set xs i x) i ≡ Some x
get_set_same [] i x lt = absurd (omega arith)
get_set_same (y ∷ xs) zero x lt = refl
get_set_same (y ∷ xs) (suc i) x lt = get_set_same xs i x (omega (arith, lt))

get_set_other : {X : Type 0} (xs : List X) (i k : ℕ) (x : X) → i ≢ k → slice_get (set xs i x) k ≡ slice_get xs k
get_set_other [] i k x ne = refl
get_set_other (y ∷ xs) zero zero x ne = absurd (ne refl)
get_set_other (y ∷ xs) zero (suc k) x ne = refl
get_set_other (y ∷ xs) (suc i) zero x ne = refl
get_set_other (y ∷ xs) (suc i) (suc k) x ne = get_set_other xs i k x (λ e. ne (ap suc e))

-- elements of a list before an element, at it, and behind it
get_before : {X : Type 0} (xs : List X) (x : X) (ys : List X) (i : ℕ) (y : X) → slice_get xs i ≡ Some y → slice_get (xs ++ x ∷ ys) i ≡ Some y
get_before xs x ys i y at = slice_get-append_left xs (x ∷ ys) i (slice_get_within xs i y at) ∙ at

get_behind : {X : Type 0} (xs : List X) (x : X) (ys : List X) (i : ℕ) → slice_get (xs ++ x ∷ ys) (length xs + 1 + i) ≡ slice_get ys i
get_behind [] x ys i = let e : 0 + 1 + i ≡ suc i = omega arith in ap (slice_get (x ∷ ys)) e
get_behind (z ∷ xs) x ys i = let e : length (z ∷ xs) + 1 + i ≡ suc (length xs + 1 + i) = omega arith in ap (slice_get (z ∷ xs ++ x ∷ ys)) e ∙ get_behind xs x ys i

-- the port at the place, and the others, which know the state's whole history
pub record Called (s : OwnerState) (place : ℕ) (a : ViewAndTurn) (ports : List ViewAndTurn) : Type 0 where
  pub many : length ports ≡ s.config.nodes
  pub node : (i : ℕ) (w : ViewAndTurn) → slice_get ports i ≡ Some w → w.view.node ≡ i + 1
  pub acting : slice_get ports place ≡ Some a
  pub others : (i : ℕ) (w : ViewAndTurn) → i ≢ place → slice_get ports i ≡ Some w → KnowsWhole s w

pub called : (s : OwnerState) (ports : List ViewAndTurn) → AreSynced s ports → (place : ℕ) (u a : ViewAndTurn) → slice_get ports place ≡ Some u → a.view.node ≡ u.view.node → Called s place a (set ports place a)
called s ports whole place u a at node = record {
  many = length-set ports place a ∙ whole.count;
  node = λ i w there. elim (cases_eq place i) [
    | inl e ↦ (let is : Some a ≡ Some w = sym (get_set_same ports place a (slice_get_within ports place u at)) ∙ (ap (slice_get (set ports place a)) e ∙ there) in
        sym (ap (λ x. x.view.node) (same_some is)) ∙ (node ∙ (whole.node place u at ∙ ap (λ k. k + 1) e)))
    | inr ne ↦ whole.node i w (sym (get_set_other ports place i a ne) ∙ there)
  ];
  acting = get_set_same ports place a (slice_get_within ports place u at);
  others = λ i w ne there. whole.knows i w (sym (get_set_other ports place i a (λ e. ne (sym e))) ∙ there);
}

module _ (allows : List ℕ → List ℕ → Type 0) (s : OwnerState) (place : ℕ) (a : ViewAndTurn) (ports new : List ViewAndTurn) (c : Called s place a ports) (m : MeetsOthers allows place ports new) where
  first_at : (i : ℕ) (w : ViewAndTurn) → slice_get m.before i ≡ Some w → slice_get ports i ≡ Some w
  first_at i w at = ap (λ xs. slice_get xs i) m.was ∙ get_before m.before m.port m.behind i w at

  second_at : (i : ℕ) (w : ViewAndTurn) → slice_get m.behind i ≡ Some w → slice_get ports (place + 1 + i) ≡ Some w
  second_at i w at = ap (λ xs. slice_get xs (place + 1 + i)) m.was ∙ (ap (λ k. slice_get (m.before ++ m.port ∷ m.behind) (k + 1 + i)) (sym m.at) ∙ (get_behind m.before m.port m.behind i ∙ at))

  acting_is : m.port ≡ a
  acting_is = same_some (sym (slice_get-middle m.before m.port m.behind) ∙ (ap (λ k. slice_get (m.before ++ m.port ∷ m.behind) k) m.at ∙ (ap (λ xs. slice_get xs place) (sym m.was) ∙ c.acting)))

  long : length ports ≡ place + 1 + length m.behind
  long = let x = ap length m.was in let y = length-append m.before (m.port ∷ m.behind) in let z = m.at in omega arith

  before_others : AreOthers s (place + 1) m.before
  before_others i w at =
      let lt = slice_get_within m.before i w at in
      let z = m.at in
      (λ e. absurd (let k = c.node i w (first_at i w at) in omega arith), c.others i w (λ e. absurd (omega arith)) (first_at i w at))

  behind_others : AreOthers s (place + 1) m.behind
  behind_others i w at = (λ e. absurd (let k = c.node (place + 1 + i) w (second_at i w at) in omega arith), c.others (place + 1 + i) w (λ e. absurd (omega arith)) (second_at i w at))

  a_node : a.view.node ≡ place + 1
  a_node = c.node place a c.acting

  -- what the round tells of the call
  pub tells : IsReached s → IsPrefix s.queue.order a.view.order → IsPrefix s.queue.ends a.view.ends → (k : ℕ) → 1 ≤ k → k ≤ s.config.nodes → k ≢ place + 1 → Bounds s a.view k
  tells reached order ends k low high ne =
      let start : IsAfter a.view m.port.view = subst (λ (x : ViewAndTurn). IsAfter a.view x.view) (sym acting_is) (record { order = refl; ends = refl; clear = prefix_self a.view.clear; marked = λ r h. h }) in
      let (after, told) = round_bounds allows (place + 1) s reached a.view m.port m.before m.now m.before_then m.meets_before start order ends before_others in
      let (rest, more) = round_bounds allows (place + 1) s reached a.view m.now m.behind m.port_then m.behind_then m.meets_behind after order ends behind_others in
      let x = c.many in
      let y = long in
      let z = m.at in
      elim (cases_order (k - 1) place) [
        | inl same ↦ absurd (ne (omega (arith, same, low)))
        | inr (inl less) ↦ (
            let (w, at) = element_at m.before (k - 1) (omega arith) in
            let is : w.view.node ≡ k = c.node (k - 1) w (first_at (k - 1) w at) ∙ omega arith in
            subst (λ n. Bounds s a.view n) is (told (k - 1) w at))
        | inr (inr greater) ↦ (
            let i : ℕ = k - 1 - place - 1 in
            let (w, at) = element_at m.behind i (omega arith) in
            let is : w.view.node ≡ k = c.node (place + 1 + i) w (second_at i w at) ∙ omega arith in
            subst (λ n. Bounds s a.view n) is (more i w at))
      ]

  -- what the ports then know
  pub spreads : (t : OwnerState) → Leaves (place + 1) s t → IsReached t → KnowsWhole t a → AreSynced t new
  spreads t leaves reached knows =
      let (node, now, then_) = round_whole allows (place + 1) s t leaves m.port m.before m.now m.before_then m.meets_before (ap (λ x. x.view.node) acting_is ∙ a_node) (subst (λ x. KnowsWhole t x) (sym acting_is) knows) before_others in
      let (last_node, last, rest) = round_whole allows (place + 1) s t leaves m.now m.behind m.port_then m.behind_then m.meets_behind node now behind_others in
      let at_then : length m.before_then ≡ place = then_.many ∙ m.at in
      let many : length new ≡ t.config.nodes = (let e = ap (λ (k : LineConfig). k.nodes) leaves.config in let x = c.many in let y = long in let z = ap length m.is in let q = length-append m.before_then (m.port_then ∷ m.behind_then) in let b = rest.many in omega arith) in
      let each : (i : ℕ) (w : ViewAndTurn) → slice_get new i ≡ Some w → (w.view.node ≡ i + 1) × KnowsWhole t w = λ i w at.
      elim (cases_order i place) [
        | inl same ↦ (
            let is : Some m.port_then ≡ Some w = sym (slice_get-middle m.before_then m.port_then m.behind_then) ∙ (ap (λ k. slice_get (m.before_then ++ m.port_then ∷ m.behind_then) k) (at_then ∙ sym same) ∙ (ap (λ xs. slice_get xs i) (sym m.is) ∙ at)) in
            (sym (ap (λ x. x.view.node) (same_some is)) ∙ (last_node ∙ ap (λ k. k + 1) (sym same)), subst (λ x. KnowsWhole t x) (same_some is) last))
        | inr (inl less) ↦ (
            let there : slice_get m.before_then i ≡ Some w = sym (slice_get-append_left m.before_then (m.port_then ∷ m.behind_then) i (omega (arith, less, at_then))) ∙ (ap (λ xs. slice_get xs i) (sym m.is) ∙ at) in
            let h = then_.each i w there in
            (h.2 ∙ c.node i h.0 (first_at i h.0 h.1), h.3))
        | inr (inr greater) ↦ (
            let j : ℕ = i - place - 1 in
            let e : length m.before_then + 1 + j ≡ i = omega (arith, greater, at_then) in
            let there : slice_get m.behind_then j ≡ Some w = sym (get_behind m.before_then m.port_then m.behind_then j) ∙ (ap (slice_get (m.before_then ++ m.port_then ∷ m.behind_then)) e ∙ (ap (λ xs. slice_get xs i) (sym m.is) ∙ at)) in
            let h = rest.each j w there in
            let back : place + 1 + j ≡ i = omega (arith, greater) in
            (h.2 ∙ (c.node (place + 1 + j) h.0 (second_at j h.0 h.1) ∙ ap (λ k. k + 1) back), h.3))
      ] in
      record {
        reached = reached;
        count = many;
        node = λ i w at. (each i w at).0;
        knows = λ i w at. (each i w at).1;
      }
