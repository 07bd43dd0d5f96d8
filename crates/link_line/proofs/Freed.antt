-- Proof that a release frees the nodes of all requests that the release has skipped.
use Rattle.std.proofs.Common.{◌≡◌, ◌≢◌, ℕ, zero, suc, ◌+◌, ◌≤◌, ◌<◌, ◌⊎◌, inl, inr, ⊎_elim, length, drop, List, [], ◌∷◌, sym, refl, ap, ◌∙◌, subst, get_or, slice_get, arith}
use Rattle.std.proofs.lemmas.Option.{slice_get_within, slice_get-get_or}
use Rattle.qolb_model.specs.declared.answer.PortState.{PortState}
use Rattle.qolb_model.specs.declared.request.Request.{Request}
use Rattle.qolb_model.specs.declared.view.View.{View}
use Rattle.qolb_model.specs.Requests.{Has, Lacks}
use Rattle.qolb_model.specs.Histories.{turn_of}
use Rattle.qolb_model.specs.Releasing.{SuccessorUnlinked}
use Rattle.qolb_model.specs.Views.{own, Extends}
use Rattle.qolb_model.proofs.Lists.{element_at, drop_with, same_some}
use Rattle.qolb_model.proofs.Requests.{has_prefix}
use Rattle.link_core.specs.declared.point.Point.TheVariants.{Freeing}
use Rattle.link_line.specs.Ghost.{LinkGhost}
use Rattle.link_line.specs.Links.{At}
use Rattle.link_line.specs.Layout.{IsWithin}
use Rattle.line_generic.specs.Steps.{IsSameSeat}
use Rattle.link_line.specs.Steps.{LinkSeat, ghost_of, after_release, Frees, Advances}
use Rattle.link_line.specs.Releases.{AreNodesAt, FreesAll}
use Rattle.link_line.proofs.Stepping.{goes_trans}

-- the request at the place is clear, unless the line was left behind it
abbrev IsClearOrLast : View → ℕ → Request → Type 0
IsClearOrLast v p r = Has v.clear r ⊎ ((p + 1 ≡ length v.ends) × SuccessorUnlinked v)

-- the first of the requests that were passed are freed
pub record FreesFirst (v : LinkGhost) (i : ℕ) (w : LinkGhost) : Type 0 where
  pub point : w.own.seat.point ≡ after_release v.view.state (drop i v.own.passed)
  pub passed : w.own.passed ≡ drop i v.own.passed
  pub state : w.view.state ≡ v.view.state
  pub count : w.view.count ≡ v.view.count
  pub order : w.view.order ≡ v.view.order
  pub ends : w.view.ends ≡ v.view.ends
  pub marked : w.view.marked ≡ v.view.marked
  pub joined : w.view.joined ≡ v.view.joined
  pub freed : (k p : ℕ) (r : Request) → k < i → At v.own.passed k p → At v.view.order p r → Has w.view.freed r
  pub clear : (k p : ℕ) (r : Request) → k < i → At v.own.passed k p → At v.view.order p r → IsClearOrLast w.view p r
  pub own_clear : drop i v.own.passed ≡ [] → Has w.view.clear (own w.view)

some_passed : (state : PortState) (ps : List ℕ) → ps ≢ [] → Freeing ≡ after_release state ps
some_passed state [] n = absurd (n refl)
some_passed state (q ∷ ps) n = refl

-- at first none of them is freed
pub frees_none : (v : LinkGhost) → v.own.seat.point ≡ Freeing → v.own.passed ≢ [] → FreesFirst v 0 v
frees_none v p some = record {
  point = p ∙ some_passed v.view.state v.own.passed some;
  passed = refl;
  state = refl;
  count = refl;
  order = refl;
  ends = refl;
  marked = refl;
  joined = refl;
  freed = λ k p r lt at is. absurd (omega (arith, lt));
  clear = λ k p r lt at is. absurd (omega (arith, lt));
  own_clear = λ none. absurd (some none);
}

-- the node that is freed next
pub frees_which : (v w : LinkGhost) (nodes : List ℕ) (i node : ℕ) → FreesFirst v i w → length nodes ≡ length v.own.passed → AreNodesAt v.view v.own.passed nodes → At nodes i node
    → (w.own.seat.point ≡ Freeing) × IsWithin v.view.config.nodes node × ((q : ℕ) × (ps : List ℕ) × (r : Request) × (w.own.passed ≡ q ∷ ps) × At w.view.order q r × (r.node ≡ node))
frees_which v w nodes i node f many are is =
    let here = element_at v.own.passed i (omega (arith, many, slice_get_within nodes i node is)) in
    let cut : drop i v.own.passed ≡ here.0 ∷ drop (i + 1) v.own.passed = drop_with v.own.passed i here.0 here.1 in
    let made = are.each i here.0 node here.1 is in
    (f.point ∙ ap (after_release v.view.state) cut, made.3, (here.0, drop (i + 1) v.own.passed, made.0, f.passed ∙ cut, subst (λ o. At o here.0 made.0) (sym f.order) made.1, made.2))

-- a release stays short while its nodes are freed
short_stays : (v w : View) → w.order ≡ v.order → w.ends ≡ v.ends → w.joined ≡ v.joined → SuccessorUnlinked v → SuccessorUnlinked w
short_stays v w orders ends joined s = (s.0, (λ i. turn_of (orders i) (ends i)) ∙ s.1, subst (λ rs. Lacks rs s.0) (sym joined) s.2)

-- one more node is freed
pub frees_next : (v w x : LinkGhost) (nodes : List ℕ) (i node : ℕ) → FreesFirst v i w → length nodes ≡ length v.own.passed → AreNodesAt v.view v.own.passed nodes → At nodes i node → Extends w.view x.view
    → ((p : ℕ) (ps : List ℕ) (r : Request) → w.own.passed ≡ p ∷ ps → At w.view.order p r → Frees w p ps r x) → FreesFirst v (i + 1) x
frees_next v w x nodes i node f many are is more frees =
    let here = element_at v.own.passed i (omega (arith, many, slice_get_within nodes i node is)) in
    let cut : drop i v.own.passed ≡ here.0 ∷ drop (i + 1) v.own.passed = drop_with v.own.passed i here.0 here.1 in
    let made = are.each i here.0 node here.1 is in
    let one = frees here.0 (drop (i + 1) v.own.passed) made.0 (f.passed ∙ cut) (subst (λ o. At o here.0 made.0) (sym f.order) made.1) in
    record {
      point = one.point ∙ ap (λ state. after_release state (drop (i + 1) v.own.passed)) (one.state ∙ f.state);
      passed = one.passed;
      state = one.state ∙ f.state;
      count = one.count ∙ f.count;
      order = one.order ∙ f.order;
      ends = one.ends ∙ f.ends;
      marked = one.marked ∙ f.marked;
      joined = one.joined ∙ f.joined;
      freed = λ k p r lt at on. elim (upto k i (omega (arith, lt))) [
        | inl early ↦ more.freed r (f.freed k p r early at on)
        | inr last ↦ subst (Has x.view.freed) (same v.view.order v.own.passed i k here.0 p made.0 r last here.1 at made.1 on).1 one.freed
      ];
      clear = λ k p r lt at on. elim (upto k i (omega (arith, lt))) [
        | inl early ↦ stays p r one.order one.ends one.joined (f.clear k p r early at on)
        | inr last ↦ let e = same v.view.order v.own.passed i k here.0 p made.0 r last here.1 at made.1 on in subst (λ (z : ℕ × Request). IsClearOrLast x.view z.0 z.1) (λ j. (e.0 j, e.1 j)) one.clear
      ];
      own_clear = one.own_clear;
    }
  where
    upto : (k i : ℕ) → k ≤ i → (k < i) ⊎ (k ≡ i)
    upto zero zero h = inr refl
    upto zero (suc i) h = inl (omega arith)
    upto (suc k) zero h = absurd (omega (arith, h))
    upto (suc k) (suc i) h = elim (upto k i (omega (arith, h))) [
      | inl lt ↦ inl (omega (arith, lt))
      | inr e ↦ inr (ap suc e)
    ]

    same : (order : List Request) (places : List ℕ) (i k q p : ℕ) (s r : Request) → k ≡ i → At places i q → At places k p → At order q s → At order p r → (q ≡ p) × (s ≡ r)
    same order places i k q p s r e a b c d =
        let places_same : q ≡ p = same_some (sym a ∙ (ap (slice_get places) (sym e) ∙ b)) in
        (places_same, same_some (sym c ∙ (ap (slice_get order) places_same ∙ d)))

    stays : (p : ℕ) (r : Request) → x.view.order ≡ w.view.order → x.view.ends ≡ w.view.ends → x.view.joined ≡ w.view.joined → IsClearOrLast w.view p r → IsClearOrLast x.view p r
    stays p r orders ends joined c = ⊎_elim (λ h. inl (has_prefix w.view.clear x.view.clear r more.clear h)) (λ l. inr (l.0 ∙ ap length (sym ends), short_stays w.view x.view orders ends joined l.1)) c

-- the node goes on until all are freed
pub frees_all : (v w : LinkGhost) (i : ℕ) → FreesFirst v i w → length v.own.passed ≤ i → FreesAll v w
frees_all v w i f le = let none : drop i v.own.passed ≡ [] = history i v.own.passed le in record {
  point = f.point ∙ ap (after_release v.view.state) none;
  state = f.state;
  count = f.count;
  order = f.order;
  ends = f.ends;
  marked = f.marked;
  joined = f.joined;
  freed = λ k p r at on. f.freed k p r (omega (arith, le, slice_get_within v.own.passed k p at)) at on;
  clear = λ k p r at on. f.clear k p r (omega (arith, le, slice_get_within v.own.passed k p at)) at on;
  own_clear = f.own_clear none;
}
  where
    history : (i : ℕ) (xs : List ℕ) → length xs ≤ i → drop i xs ≡ []
    history zero [] h = refl
    history zero (x ∷ xs) h = absurd (omega (arith, h))
    history (suc i) [] h = refl
    history (suc i) (x ∷ xs) h = history i xs (omega (arith, h))

-- what the freeing of the nodes of all passed requests has done so far, from the seat s on
pub record IsFreeing (allows : List ℕ → List ℕ → Type 0) (s : LinkSeat) (i : ℕ) (t : LinkSeat) : Type 0 where
  pub seat : IsSameSeat s t
  pub carried : t.me.1 ≡ s.me.1
  pub advances : Advances allows s.me t.me i
  pub within : i ≤ length (ghost_of s).own.passed
  pub frees : FreesFirst (ghost_of s) i (ghost_of t)

pub freeing_which : {allows : List ℕ → List ℕ → Type 0} (s t : LinkSeat) (nodes : List ℕ) (i : ℕ) → IsFreeing allows s i t → length nodes ≡ length (ghost_of s).own.passed → AreNodesAt (ghost_of s).view (ghost_of s).own.passed nodes → i < length nodes
    → ((ghost_of t).own.seat.point ≡ Freeing) × IsWithin (ghost_of s).view.config.nodes (get_or nodes i 0) × ((q : ℕ) × (ps : List ℕ) × (r : Request) × ((ghost_of t).own.passed ≡ q ∷ ps) × At (ghost_of t).view.order q r × (r.node ≡ get_or nodes i 0))
freeing_which s t nodes i f many are lt = frees_which (ghost_of s) (ghost_of t) nodes i (get_or nodes i 0) f.frees many are (slice_get-get_or nodes i 0 lt)

pub freeing_next : (allows : List ℕ → List ℕ → Type 0) (s t u : LinkSeat) (nodes : List ℕ) (i : ℕ) → IsFreeing allows s i t → length nodes ≡ length (ghost_of s).own.passed → AreNodesAt (ghost_of s).view (ghost_of s).own.passed nodes → i < length nodes
    → IsSameSeat t u → u.me.1 ≡ t.me.1 → Advances allows t.me u.me 1
    → ((p : ℕ) (ps : List ℕ) (r : Request) → (ghost_of t).own.passed ≡ p ∷ ps → At (ghost_of t).view.order p r → Frees (ghost_of t) p ps r (ghost_of u)) → IsFreeing allows s (i + 1) u
freeing_next allows s t u nodes i f many are lt same slot advances frees = record {
  seat = (same.0 ∙ f.seat.0, same.1 ∙ f.seat.1);
  carried = slot ∙ f.carried;
  advances = goes_trans allows s.me t.me u.me i 1 f.advances advances;
  within = omega (arith, many, lt);
  frees = frees_next (ghost_of s) (ghost_of t) (ghost_of u) nodes i (get_or nodes i 0) f.frees many are (slice_get-get_or nodes i 0 lt) advances.extends frees;
}

pub freed_steps : (allows : List ℕ → List ℕ → Type 0) (s t : LinkSeat) (nodes : List ℕ) (i : ℕ) → IsFreeing allows s i t → length nodes ≡ length (ghost_of s).own.passed → length nodes ≤ i → Advances allows s.me t.me (length nodes)
freed_steps allows s t nodes i f many all = let is : i ≡ length nodes = omega (arith, many, f.within) in subst (Advances allows s.me t.me) is f.advances
