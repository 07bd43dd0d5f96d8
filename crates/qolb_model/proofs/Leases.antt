-- Lemmas about leases, which limit the number of turns that a line serves.
use Rattle.std.proofs.Common.{◌≡◌, ℕ, zero, suc, ◌+◌, ◌-◌, ◌<◌, ◌≤◌, inl, inr, Bool, true, false, ◌||◌, cond, List, [], ◌∷◌, ◌++◌, length, take, Option, Some, None, refl, ap, sym, ◌∙◌, subst, arith}
use Rattle.std.proofs.Math.Bool.{or-true}
use Rattle.std.proofs.lemmas.Bool.{eq-eqb, ne_eqb, cases_eq, cases_lt}
use Rattle.std.proofs.lemmas.List.Sums.{sum_by-append}
use Rattle.std.proofs.lemmas.List.{take_all}
use Rattle.qolb_model.specs.declared.request.Request.{Request}
use Rattle.qolb_model.specs.declared.write.Write.{Write}
use Rattle.qolb_model.specs.declared.end.End.{End}
use Rattle.qolb_model.specs.declared.end.End.TheVariants.{Served, Gone, Told}
use Rattle.qolb_model.specs.Ends.{is_closed, MayEnd}
use Rattle.qolb_model.specs.EndKinds.{is_served}
use Rattle.qolb_model.specs.Leases.{served, IsLease, is_last_turn, turns_left, closes}
use Rattle.qolb_model.specs.Histories.{IsLegal}
use Rattle.qolb_model.specs.Steps.{is_one, decrement}
use Rattle.qolb_model.proofs.Lists.{element_at, take_with}
use Rattle.qolb_model.proofs.Histories.{gone_each, is_closed-append}

-- the services of two lists of ends, one after the other; passed requests add none
pub served-append : (xs ys : List End) → served (xs ++ ys) ≡ served xs + served ys
served-append xs ys = sum_by-append (λ e. cond (is_served e) 1 0) xs ys

pub served-gone : (xs : List Request) → served (gone_each xs) ≡ 0
served-gone [] = refl
served-gone (x ∷ xs) = served-gone xs

-- before all ends, the whole lease is left
pub turns_left-none : (lease : Option ℕ) → lease ≡ turns_left lease []
turns_left-none None = refl
turns_left-none (Some turns) = let all : turns ≡ turns - 0 = omega arith in ap Some all

-- passed requests use up no turn, and neither does a request that is told that the line is closed
pub turns_left-same : (lease : Option ℕ) (xs ys : List End) → served ys ≡ 0 → turns_left lease (xs ++ ys) ≡ turns_left lease xs
turns_left-same None xs ys e = refl
turns_left-same (Some turns) xs ys e = let same : served (xs ++ ys) ≡ served xs = served-append xs ys ∙ omega (arith, e) in ap (λ n. Some (turns - n)) same

-- a service uses up one turn
pub turns_left-served : (lease : Option ℕ) (ends : List End) (write : Write) (shut : Bool) → turns_left lease (ends ++ Served write shut ∷ []) ≡ decrement (turns_left lease ends)
turns_left-served None ends write shut = refl
turns_left-served (Some turns) ends write shut =
    let more : served (ends ++ Served write shut ∷ []) ≡ served ends + 1 = served-append ends (Served write shut ∷ []) in
    let fewer : turns - served (ends ++ Served write shut ∷ []) ≡ turns - served ends - 1 = omega (arith, more) in
    ap Some fewer

-- at the last turn, one turn is left
pub last-is_one : (lease : Option ℕ) (ends : List End) → is_one (turns_left lease ends) ≡ is_last_turn lease ends
last-is_one None ends = refl
last-is_one (Some turns) ends = elim (cases_eq (served ends + 1) turns) [
  | inl e ↦ (let left : turns - served ends ≡ 1 = omega (arith, e) in eq-eqb (turns - served ends) 1 left ∙ sym (eq-eqb (served ends + 1) turns e))
  | inr ne ↦ ne_eqb (turns - served ends) 1 (λ left. ne (omega (arith, left))) ∙ sym (ne_eqb (served ends + 1) turns ne)
]

-- a service then closes the line
pub last_closes : (lease : Option ℕ) (ends : List End) (shut : Bool) → is_last_turn lease ends ≡ true → closes lease ends shut ≡ true
last_closes lease ends true last = refl
last_closes lease ends false last = last

-- no more turns are served than a lease has, and once all are served the line is closed
abbrev IsWithin : ℕ → List End → Type 0
IsWithin turns ends = (served ends ≤ turns) × (served ends ≡ turns → is_closed ends ≡ true)

within_push : (turns : ℕ) (ends : List End) (e : End) → IsWithin turns ends → MayEnd (is_closed ends) (is_last_turn (Some turns) ends) e → IsWithin turns (ends ++ e ∷ [])
within_push turns ends (Served write shut) within may =
    let more : served (ends ++ Served write shut ∷ []) ≡ served ends + 1 = served-append ends (Served write shut ∷ []) in
    let few : served ends < turns = elim (cases_lt (served ends) turns) [
      | inl lt ↦ lt
      | inr ge ↦ absurd (let all : served ends ≡ turns = omega (arith, ge, within.0) in let no : true ≡ false = sym (within.1 all) ∙ may.0 in cc no)
    ] in (
      omega (arith, more, few),
      λ all. is_closed-append ends (Served write shut ∷ []) ∙ ap (λ b. is_closed ends || (b || false)) (may.1 (eq-eqb (served ends + 1) turns (sym more ∙ all))) ∙ or-true (is_closed ends),
    )
within_push turns ends Gone within may =
    let same : served (ends ++ Gone ∷ []) ≡ served ends = served-append ends (Gone ∷ []) ∙ omega arith in
    (omega (arith, same, within.0), λ all. is_closed-append ends (Gone ∷ []) ∙ ap (λ b. b || false) (within.1 (sym same ∙ all)))
within_push turns ends Told within may =
    let same : served (ends ++ Told ∷ []) ≡ served ends = served-append ends (Told ∷ []) ∙ omega arith in
    (omega (arith, same, within.0), λ all. is_closed-append ends (Told ∷ []) ∙ ap (λ b. b || false) (within.1 (sym same ∙ all)))

pub lease_bounds : (turns : ℕ) (order : List Request) (ends : List End) → 1 ≤ turns → IsLegal (Some turns) order ends → IsWithin turns ends
lease_bounds turns order ends some legal = subst (IsWithin turns) (take_all (length ends) ends (omega arith)) (up_to (length ends) (omega arith))
  where
    up_to : (p : ℕ) → p ≤ length ends → IsWithin turns (take p ends)
    up_to zero le = (omega arith, λ all. absurd (omega (arith, all, some)))
    up_to (suc p) le =
        let (e, at) = element_at ends p (omega (arith, le)) in
        subst (IsWithin turns) (sym (take_with ends p e at)) (within_push turns (take p ends) e (up_to p (omega (arith, le))) (legal.closing p e at))

-- an open line therefore has a turn left
pub open_has_turns : (lease : Option ℕ) (order : List Request) (ends : List End) → IsLease lease → IsLegal lease order ends → is_closed ends ≡ false → turns_left lease ends ≡ Some 0 → ⊥
open_has_turns None order ends some legal opens left = let no : None ≡ Some 0 = left in cc no
open_has_turns (Some turns) order ends some legal opens left =
    let within = lease_bounds turns order ends some legal in
    let none : turns - served ends ≡ 0 = let h : Some (turns - served ends) ≡ Some 0 = left in cc h in
    let no : true ≡ false = sym (within.1 (omega (arith, none, within.0))) ∙ opens in cc no
