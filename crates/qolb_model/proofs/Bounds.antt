-- Lemmas about what a port learns about its last call when it exchanges its knowledge with the other ports.
use Rattle.std.proofs.Common.{◌≡◌, ℕ, zero, suc, ◌+◌, ◌-◌, ◌<◌, ◌≤◌, inl, inr, Bool, true, false, List, [], ◌∷◌, ◌++◌, length, take, drop, Some, None, slice_get, refl, ap, sym, ◌∙◌, subst, arith}
use Rattle.std.proofs.lemmas.Bool.{cases_lt}
use Rattle.std.proofs.lemmas.Option.{slice_get_within}
use Rattle.std.proofs.lemmas.List.{take-append-drop}
use mathlib.Core.List.{IsPrefix}
use Rattle.qolb_model.specs.declared.request.Request.{Request}
use Rattle.qolb_model.specs.declared.end.End.{End}
use Rattle.qolb_model.specs.declared.view.View.{View}
use Rattle.qolb_model.specs.EndKinds.{is_gone}
use Rattle.qolb_model.specs.Requests.{Has, count_of}
use Rattle.qolb_model.specs.Histories.{turn_of, ended_of, open_of}
use Rattle.qolb_model.specs.Views.{IsSubset}
use Rattle.qolb_model.specs.OneHistory.{Knows, OneHistory}
use Rattle.qolb_model.specs.OneOwner.{OwnerState}
use Rattle.qolb_model.specs.Plain.{IsReached}
use Rattle.qolb_model.specs.Whole.{ViewAndTurn, KnowsWhole}
use Rattle.qolb_model.proofs.Lists.{never, element_at, slice_get-append_left, slice_get-take, slice_get-drop, take_with}
use Rattle.qolb_model.proofs.Requests.{has_prefix, has_at, place_of_request, count_of-push_same, count_of-append}
use Rattle.qolb_model.proofs.Clearing.{clears_ended}
use Rattle.qolb_model.proofs.Prefixes.{prefix_length, prefix_get, prefix_trans}
use Rattle.qolb_model.proofs.Agreeing.{among_first, among_second}

-- elements of the longer list, if the shorter one has the place
pub prefix_get_back : {X : Type 0} (xs ys : List X) (p : ℕ) (y : X) → IsPrefix xs ys → p < length xs → slice_get ys p ≡ Some y → slice_get xs p ≡ Some y
prefix_get_back xs ys p y begins lt at = sym (slice_get-append_left xs begins.0 p lt) ∙ (ap (λ zs. slice_get zs p) begins.1 ∙ at)

-- a prefix of a list has at most as many requests of each node as the list, and fewer if one of them is behind the
-- prefix
pub count_of-prefix : (n : ℕ) (xs ys : List Request) → IsPrefix xs ys → count_of n xs ≤ count_of n ys
count_of-prefix n xs ys begins = let e : count_of n (xs ++ begins.0) ≡ count_of n xs + count_of n begins.0 = count_of-append n xs begins.0 in
    subst (λ zs. count_of n xs ≤ count_of n zs) begins.1 (omega arith)

drop-append_at : {X : Type 0} (xs ys : List X) (p : ℕ) → length xs ≤ p → slice_get (xs ++ ys) p ≡ slice_get ys (p - length xs)
drop-append_at [] ys p le = let e : p ≡ p - 0 = omega arith in ap (slice_get ys) e
drop-append_at (x ∷ xs) ys zero le = absurd (omega arith)
drop-append_at (x ∷ xs) ys (suc p) le = let e : p - length xs ≡ suc p - suc (length xs) = omega arith in drop-append_at xs ys p (omega (arith, le)) ∙ ap (slice_get ys) e

pub count_at : (xs : List Request) (p : ℕ) (r : Request) → slice_get xs p ≡ Some r → 1 ≤ count_of r.node xs
count_at xs p r at =
    let one = count_of-push_same r.node (take p xs) r refl in
    let last : count_of r.node (take (suc p) xs) ≡ count_of r.node (take p xs) + 1 = ap (count_of r.node) (take_with xs p r at) ∙ one in
    let le = count_of-prefix r.node (take (suc p) xs) xs (drop (suc p) xs, take-append-drop (suc p) xs) in
    omega arith

pub count_of-behind : (xs ys : List Request) (p : ℕ) (r : Request) → IsPrefix xs ys → length xs ≤ p → slice_get ys p ≡ Some r → count_of r.node xs + 1 ≤ count_of r.node ys
count_of-behind xs ys p r begins le at =
    let there : slice_get begins.0 (p - length xs) ≡ Some r = sym (drop-append_at xs begins.0 p le) ∙ (ap (λ zs. slice_get zs p) begins.1 ∙ at) in
    let one : 1 ≤ count_of r.node begins.0 = count_at begins.0 (p - length xs) r there in
    let e : count_of r.node (xs ++ begins.0) ≡ count_of r.node xs + count_of r.node begins.0 = count_of-append r.node xs begins.0 in
    subst (λ zs. count_of r.node xs + 1 ≤ count_of r.node zs) begins.1 (omega arith)

-- open and ended requests by their places
pub open_at : (order : List Request) (ends : List End) (p : ℕ) (r : Request) → length ends ≤ p → slice_get order p ≡ Some r → Has (open_of order ends) r
open_at order ends p r le at =
    let e : length ends + (p - length ends) ≡ p = omega arith in
    has_at (open_of order ends) (p - length ends) r (slice_get-drop (length ends) order (p - length ends) ∙ (ap (slice_get order) e ∙ at))

pub ended_at : (order : List Request) (ends : List End) (p : ℕ) (r : Request) → p < length ends → slice_get order p ≡ Some r → Has (ended_of order ends) r
ended_at order ends p r lt at = has_at (ended_of order ends) p r (slice_get-take (length ends) order p lt ∙ at)

pub place_open : (order : List Request) (ends : List End) (r : Request) → Has (open_of order ends) r → (p : ℕ) × (length ends ≤ p) × (slice_get order p ≡ Some r)
place_open order ends r h = let (p, at) = place_of_request (open_of order ends) r h in (length ends + p, omega arith, sym (slice_get-drop (length ends) order p) ∙ at)

take_get : {X : Type 0} (n : ℕ) (xs : List X) (p : ℕ) (x : X) → slice_get (take n xs) p ≡ Some x → (p < n) × (slice_get xs p ≡ Some x)
take_get zero xs p x at = absurd (let no : None ≡ Some x = at in cc no)
take_get (suc n) [] p x at = absurd (let no : None ≡ Some x = at in cc no)
take_get (suc n) (y ∷ xs) zero x at = (omega arith, at)
take_get (suc n) (y ∷ xs) (suc p) x at = let h = take_get n xs p x at in (omega (arith, h.0), h.1)

pub place_ended : (order : List Request) (ends : List End) (r : Request) → Has (ended_of order ends) r → (p : ℕ) × (p < length ends) × (slice_get order p ≡ Some r)
place_ended order ends r h = let (p, at) = place_of_request (ended_of order ends) r h in let both = take_get (length ends) order p r at in (p, both.0, both.1)

-- What is known of a view after its port has met a port of the node m that knew the state's whole history. The view has
-- no more requests of that node. If an open request of the node has ended, it was marked and was passed. If such a
-- request is at its turn, nothing has ended, and only requests that had ended are clear. The view has no more marks.
pub record Bounds (s : OwnerState) (a : View) (m : ℕ) : Type 0 where
  pub counts : count_of m a.order ≤ count_of m s.queue.order
  pub passed : (p : ℕ) (r : Request) (e : End) → length s.queue.ends ≤ p → slice_get a.order p ≡ Some r → slice_get a.ends p ≡ Some e → r.node ≡ m → (is_gone e ≡ true) × Has s.queue.marked r
  pub stuck : (r : Request) → turn_of s.queue.order s.queue.ends ≡ Some r → r.node ≡ m
      → (length a.ends ≤ length s.queue.ends) × ((x : Request) → Has a.clear x → Has (ended_of s.queue.order s.queue.ends) x)
  pub marks : (r : Request) → Has (open_of s.queue.order s.queue.ends) r → r.node ≡ m → Has a.marked r → Has s.queue.marked r

-- the view b is the view a, except for what others told it of clear and withdrawn requests
pub record IsAfter (a b : View) : Type 0 where
  pub order : b.order ≡ a.order
  pub ends : b.ends ≡ a.ends
  pub clear : IsPrefix a.clear b.clear
  pub marked : IsSubset a.marked b.marked

module _ (s : OwnerState) (reached : IsReached s) (a b : View) (w : ViewAndTurn) (h : OneHistory (b ∷ w.view ∷ [])) (after : IsAfter a b) (knows : KnowsWhole s w) (begins : IsPrefix s.queue.order a.order) where
  of_b : Knows h.config h.order h.ends h.clear b
  of_b = h.known b (among_first b (w.view ∷ []))

  of_w : Knows h.config h.order h.ends h.clear w.view
  of_w = h.known w.view (among_second b w.view [])

  a_order : IsPrefix a.order h.order
  a_order = subst (λ xs. IsPrefix xs h.order) after.order of_b.order_begins

  a_ends : IsPrefix a.ends h.ends
  a_ends = subst (λ xs. IsPrefix xs h.ends) after.ends of_b.ends_begin

  few : count_of w.view.node a.order ≤ count_of w.view.node s.queue.order
  few = let le = count_of-prefix w.view.node a.order h.order a_order in let e = of_w.own_count in let k = knows.count in omega arith

  -- the node's requests are those that the state has
  old : (p : ℕ) (r : Request) → slice_get a.order p ≡ Some r → r.node ≡ w.view.node → slice_get s.queue.order p ≡ Some r
  old p r at mine = elim (cases_lt p (length s.queue.order)) [
    | inl lt ↦ prefix_get_back s.queue.order a.order p r begins lt at
    | inr le ↦ absurd (let more = subst (λ n. count_of n s.queue.order + 1 ≤ count_of n a.order) mine (count_of-behind s.queue.order a.order p r begins le at) in let k = few in omega arith)
  ]

  -- if one of the node's open requests has ended, it was marked
  gone : (p : ℕ) (r : Request) (e : End) → length s.queue.ends ≤ p → slice_get s.queue.order p ≡ Some r → slice_get h.order p ≡ Some r → slice_get h.ends p ≡ Some e → r.node ≡ w.view.node
      → (is_gone e ≡ true) × Has s.queue.marked r
  gone p r e le at_s at_h end mine =
      let is : is_gone e ≡ true = by (is_gone e) refl in
      (is, sym (knows.marked r (open_at s.queue.order s.queue.ends p r le at_s)) ∙ (of_w.own_marks p r e at_h end mine ∙ is))
    where
      by : (b : Bool) → is_gone e ≡ b → b ≡ true
      by true k = refl
      by false k = absurd (let there = slice_get_within w.view.ends p e (of_w.own_ends p r e at_h end mine k) in let long = ap length knows.ends in omega arith)

  pub bounds : Bounds s a w.view.node
  bounds = record {
    counts = few;
    passed = λ p r e le at end mine. gone p r e le (old p r at mine) (prefix_get a.order h.order p r a_order at) (prefix_get a.ends h.ends p e a_ends end) mine;
    stuck = λ r turn mine.
        let most : length h.ends ≤ length s.queue.ends = elim (cases_lt (length s.queue.ends) (length h.ends)) [
          | inl lt ↦ absurd (let (e, end) = element_at h.ends (length s.queue.ends) lt in
              let at_h = prefix_get a.order h.order (length s.queue.ends) r a_order (prefix_get s.queue.order a.order (length s.queue.ends) r begins turn) in
              never (gone (length s.queue.ends) r e (omega arith) turn at_h end mine).1 (reached.passed r turn))
          | inr le ↦ le
        ] in (
          (let le = prefix_length a.ends h.ends a_ends in omega arith),
          λ x clear.
              let (p, lt, at) = clears_ended h.cleared x (has_prefix a.clear h.clear x (prefix_trans a.clear b.clear h.clear after.clear of_b.clear_begins) clear) in
              let within : p < length s.queue.order = let le = reached.legal.ended in omega arith in
              ended_at s.queue.order s.queue.ends p x (omega arith) (prefix_get_back s.queue.order h.order p x (prefix_trans s.queue.order a.order h.order begins a_order) within at),
        );
    marks = λ r stands mine marked. sym (knows.marked r stands) ∙ (h.agreed b w.view (among_first b (w.view ∷ [])) (among_second b w.view [])).marked r mine (after.marked r marked);
  }
