-- Lemmas about a port that meets the other ports of a line one after another. Two ports that meet merge what they know
-- about the line's history.
use Rattle.std.proofs.Common.{◌≡◌, ℕ, zero, suc, ◌+◌, ◌<◌, ◌≤◌, inl, inr, List, [], ◌∷◌, ◌++◌, length, map, take, drop, get_or, set, All, Some, slice_get, refl, sym, ap, ◌∙◌, subst, arith, length-append, length-set, get_or-set_same, get_or-set_other}
use Rattle.std.proofs.lemmas.Bool.{cases_eq}
use Rattle.std.proofs.lemmas.List.{length-map, map-append, take_all}
use Rattle.std.proofs.lemmas.List.Elements.{All-append, All-cons, All-head, All-nil, All-same, All-tail}
use Rattle.qolb_model.specs.declared.view.View.{View}
use Rattle.qolb_model.specs.declared.write.Write.{Write}
use Rattle.qolb_model.specs.Rounds.{Meet, MeetsEach, MeetsOthers, nobody, another}
use Rattle.qolb_model.specs.Whole.{ViewAndTurn}
use Rattle.qolb_model.proofs.Lists.{take_with}
use Rattle.line_blocking.specs.ViewAndTurn.{view_and_turn}

pub get_of : {X : Type 0} (xs : List X) (i : ℕ) (d : X) → i < length xs → slice_get xs i ≡ Some (get_or xs i d)
get_of [] i d lt = absurd (omega arith)
get_of (x ∷ xs) zero d lt = refl
get_of (x ∷ xs) (suc i) d lt = get_of xs i d (omega (arith, lt))

set_take : {X : Type 0} (xs : List X) (i : ℕ) (x : X) → i < length xs → take (suc i) (set xs i x) ≡ take i xs ++ x ∷ []
set_take [] i x lt = absurd (omega arith)
set_take (y ∷ xs) zero x lt = refl
set_take (y ∷ xs) (suc i) x lt = ap (λ ys. y ∷ ys) (set_take xs i x (omega (arith, lt)))

set_drop : {X : Type 0} (xs : List X) (i : ℕ) (x : X) → drop (suc i) (set xs i x) ≡ drop (suc i) xs
set_drop [] i x = refl
set_drop (y ∷ xs) zero x = refl
set_drop (y ∷ xs) (suc i) x = set_drop xs i x

drop_one : {X : Type 0} (xs : List X) (i : ℕ) → drop (suc i) xs ≡ drop 1 (drop i xs)
drop_one xs zero = refl
drop_one [] (suc i) = refl
drop_one (x ∷ xs) (suc i) = drop_one xs i

get_drop : {X : Type 0} (xs : List X) (i : ℕ) → slice_get (drop i xs) 0 ≡ slice_get xs i
get_drop xs zero = refl
get_drop [] (suc i) = refl
get_drop (x ∷ xs) (suc i) = get_drop xs i

pub all_set : {X : Type 0} (P : X → Type 0) (xs : List X) (i : ℕ) (x : X) → All P xs → P x → All P (set xs i x)
all_set P xs i x all is = λ k d lt.
    let long = length-set xs i x in
    elim (cases_eq k i) [
      | inl e ↦ subst (λ j. P (get_or (set xs i x) j d)) (sym e) (subst P (sym (get_or-set_same xs i x d (omega arith))) is)
      | inr ne ↦ subst P (sym (get_or-set_other xs i k x d ne)) (all k d (omega arith))
    ]

-- the port has met the first ones of the others, in order
pub record Round {P : Type 0} (allows : List ℕ → List ℕ → Type 0) (belongs : P → Type 0) (view : P → View) (turn : P → Write) (first : P) (others : List P) (i : ℕ) (port : P) (now : List P) : Type 0 where
  pub of_line : belongs port
  pub all : All belongs now
  pub many : length now ≡ length others
  pub left : drop i now ≡ drop i others
  pub meets : MeetsEach allows (view_and_turn view turn first) (map (view_and_turn view turn) (take i others)) (view_and_turn view turn port) (map (view_and_turn view turn) (take i now))

module _ {P : Type 0} (allows : List ℕ → List ℕ → Type 0) (belongs : P → Type 0) (view : P → View) (turn : P → Write) where
  pub round_start : (port : P) (others : List P) → belongs port → All belongs others → Round allows belongs view turn port others 0 port others
  round_start port others of_line all = record { of_line = of_line; all = all; many = refl; left = refl; meets = nobody }

  pub round_step : (first : P) (others : List P) (i : ℕ) (port : P) (now : List P) (d port_then other_then : P) → Round allows belongs view turn first others i port now → i < length now
      → belongs port_then → belongs other_then → Meet allows (view_and_turn view turn port) (view_and_turn view turn (get_or now i d)) (view_and_turn view turn port_then) (view_and_turn view turn other_then)
      → Round allows belongs view turn first others (i + 1) port_then (set now i other_then)
  round_step first others i port now d port_then other_then r lt of_port of_other meet =
      let other : P = get_or now i d in
      let next : suc i ≡ i + 1 = omega arith in
      let here : slice_get now i ≡ Some other = get_of now i d lt in
      let there : slice_get others i ≡ Some other = sym (get_drop others i) ∙ (ap (λ xs. slice_get xs 0) (sym r.left) ∙ (get_drop now i ∙ here)) in
      record {
        of_line = of_port;
        all = all_set belongs now i other_then r.all of_other;
        many = length-set now i other_then ∙ r.many;
        left = subst (λ n. drop n (set now i other_then) ≡ drop n others) next (set_drop now i other_then ∙ (drop_one now i ∙ (ap (drop 1) r.left ∙ sym (drop_one others i))));
        meets = subst (λ n. MeetsEach allows (view_and_turn view turn first) (map (view_and_turn view turn) (take n others)) (view_and_turn view turn port_then) (map (view_and_turn view turn) (take n (set now i other_then)))) next
            (subst (λ xs. MeetsEach allows (view_and_turn view turn first) xs (view_and_turn view turn port_then) (map (view_and_turn view turn) (take (suc i) (set now i other_then))))
            (sym (ap (map (view_and_turn view turn)) (take_with others i other there) ∙ map-append (view_and_turn view turn) (take i others) (other ∷ [])))
            (subst (λ ys. MeetsEach allows (view_and_turn view turn first) (map (view_and_turn view turn) (take i others) ++ view_and_turn view turn other ∷ []) (view_and_turn view turn port_then) ys)
            (sym (ap (map (view_and_turn view turn)) (set_take now i other_then lt) ∙ map-append (view_and_turn view turn) (take i now) (other_then ∷ [])))
            (another (view_and_turn view turn (get_or now i d)) (view_and_turn view turn port_then) (view_and_turn view turn other_then) r.meets meet)));
      }

  pub round_end : (first : P) (others : List P) (i : ℕ) (port : P) (now : List P) → Round allows belongs view turn first others i port now → length now ≤ i
      → MeetsEach allows (view_and_turn view turn first) (map (view_and_turn view turn) others) (view_and_turn view turn port) (map (view_and_turn view turn) now)
  round_end first others i port now r le =
      let e = r.many in
      subst (λ xs. MeetsEach allows (view_and_turn view turn first) (map (view_and_turn view turn) xs) (view_and_turn view turn port) (map (view_and_turn view turn) now)) (take_all i others (omega arith))
      (subst (λ xs. MeetsEach allows (view_and_turn view turn first) (map (view_and_turn view turn) (take i others)) (view_and_turn view turn port) (map (view_and_turn view turn) xs)) (take_all i now le) r.meets)

-- the port at the place has met the ports before it, and then those behind it
pub meets_others :
    {P : Type 0} (allows : List ℕ → List ℕ → Type 0) (stance : P → ViewAndTurn) (place : ℕ) (old before rest : List P) (port : P) (behind before_then : List P) (now port_then : P) (behind_then : List P)
    → old ≡ before ++ rest → rest ≡ port ∷ behind → length before ≡ place
    → MeetsEach allows (stance port) (map stance before) (stance now) (map stance before_then) → MeetsEach allows (stance now) (map stance behind) (stance port_then) (map stance behind_then)
    → MeetsOthers allows place (map stance old) (map stance (before_then ++ port_then ∷ behind_then))
meets_others allows stance place old before rest port behind before_then now port_then behind_then is some at first second = record {
  before = map stance before;
  port = stance port;
  behind = map stance behind;
  was = ap (map stance) (is ∙ ap (λ ps. before ++ ps) some) ∙ map-append stance before (port ∷ behind);
  at = length-map before stance ∙ at;
  before_then = map stance before_then;
  now = stance now;
  meets_before = first;
  port_then = stance port_then;
  behind_then = map stance behind_then;
  meets_behind = second;
  is = map-append stance before_then (port_then ∷ behind_then);
}

-- each place of the ports has a port
pub some_port : {P X : Type 0} (old before rest : List P) (place : ℕ) → old ≡ before ++ rest → length before ≡ place → length rest ≡ 0 → place < length old → X
some_port old before rest place is at none low = absurd (omega (arith, ap length is, length-append before rest))

-- what holds of all ports holds of the port at the place, of those before it and of those behind it
module _ {P : Type 0} (Q : P → Type 0) where
  all_before : (before rest : List P) → All Q (before ++ rest) → All Q before
  all_before [] rest all = All-nil Q
  all_before (p ∷ before) rest all = All-cons Q p before (All-head Q p (before ++ rest) all) (all_before before rest (All-tail Q p (before ++ rest) all))

  all_after : (before rest : List P) → All Q (before ++ rest) → All Q rest
  all_after [] rest all = all
  all_after (p ∷ before) rest all = all_after before rest (All-tail Q p (before ++ rest) all)

  pub each_before : (old before rest : List P) → old ≡ before ++ rest → All Q old → All Q before
  each_before old before rest is all = all_before before rest (All-same Q (before ++ rest) old (sym is) all)

  at_last : (old before rest : List P) (port : P) (behind : List P) → old ≡ before ++ rest → rest ≡ port ∷ behind → All Q old → All Q (port ∷ behind)
  at_last old before rest port behind is some all = All-same Q (port ∷ behind) rest (sym some) (all_after before rest (All-same Q (before ++ rest) old (sym is) all))

  pub port_itself : (old before rest : List P) (port : P) (behind : List P) → old ≡ before ++ rest → rest ≡ port ∷ behind → All Q old → Q port
  port_itself old before rest port behind is some all = All-head Q port behind (at_last old before rest port behind is some all)

  pub each_behind : (old before rest : List P) (port : P) (behind : List P) → old ≡ before ++ rest → rest ≡ port ∷ behind → All Q old → All Q behind
  each_behind old before rest port behind is some all = All-tail Q port behind (at_last old before rest port behind is some all)

  pub all_of_them : (before : List P) (port : P) (behind : List P) → All Q before → Q port → All Q behind → All Q (before ++ port ∷ behind)
  all_of_them before port behind first own second = All-append Q before (port ∷ behind) first (All-cons Q port behind own second)
