-- Lemmas about which words of a script denote numbers.
use Rattle.std.proofs.Common.{◌≡◌, ℕ, ◌^◌, ◌<◌, ◌≤◌, ◌&&◌, nat_le, nat_lt, Bool, true, false, if◌then◌else◌, List, [], ◌∷◌, length, Some, None, Result, Ok, Err, MatchResult, inl, inr, refl, sym, ap, ◌∙◌, arith}
use Rattle.std.specs.Borrow.{Bor}
use Rattle.std.specs.Char.{is_ascii_digit}
use Rattle.std.specs.List.{list_all}
use Rattle.std.specs.Result.{result_ok, OkIff}
use Rattle.std.specs.Str.{IsUtf8, all_ascii_digits}
use Rattle.std.specs.Str.Parse.{digits_value, ParsesUnsigned}
use Rattle.std.proofs.lemmas.Bool.{cases_lt}
use Rattle.std.proofs.lemmas.Bool.Decides.{nat_tests}
use Rattle.std.proofs.lemmas.Fmt.{IsAscii-from_digits}
use Rattle.std.proofs.lemmas.Str.{IsUtf8-from_ascii}
use Rattle.std.proofs.lemmas.Str.Parse.{IsNumeralModel, numerals_by_value, tells_all_ascii_digits, parse_digits}
use Rattle.qolb_script.specs.Text.{number_of}

pub all_digits : (word : List ℕ) → list_all is_ascii_digit word ≡ all_ascii_digits word
all_digits [] = refl
all_digits (b ∷ bs) = ap (λ t. is_ascii_digit b && t) (all_digits bs)

-- a text that consists of digits denotes a number, and is UTF-8
digits : IsNumeralModel (λ ds. all_ascii_digits ds ≡ true) (digits_value 10)
digits = numerals_by_value _ tells_all_ascii_digits

IsUtf8-digits : (word : List ℕ) → all_ascii_digits word ≡ true → IsUtf8 word
IsUtf8-digits word h = IsUtf8-from_ascii word (IsAscii-from_digits word (digits.to word h))

-- a word that is too long or contains a byte that is not a digit does not denote a number
not_second : (a c d : Bool) (v : ℕ) → (if a && false && c && d then Some v else None) ≡ None
not_second true c d v = refl
not_second false c d v = refl

not_third : (a b d : Bool) (v : ℕ) → (if a && b && false && d then Some v else None) ≡ None
not_third true true d v = refl
not_third true false d v = refl
not_third false b d v = refl

not_fourth : (a b c : Bool) (v : ℕ) → (if a && b && c && false then Some v else None) ≡ None
not_fourth true true true v = refl
not_fourth true true false v = refl
not_fourth true false c v = refl
not_fourth false b c v = refl

pub number_of-long : (word : List ℕ) → 20 < length word → None ≡ number_of word
number_of-long word h =
    let long : nat_le (length word) 20 ≡ false = grind (arith, nat_tests) in
    sym (ap (λ b. if nat_le 1 (length word) && b && all_ascii_digits word && nat_lt (digits_value 10 word) (2 ^ 64) then Some (digits_value 10 word) else None) long
    ∙ not_second (nat_le 1 (length word)) (all_ascii_digits word) (nat_lt (digits_value 10 word) (2 ^ 64)) (digits_value 10 word))

pub number_of-other : (word : List ℕ) → all_ascii_digits word ≡ false → None ≡ number_of word
number_of-other word h =
    sym (ap (λ b. if nat_le 1 (length word) && nat_le (length word) 20 && b && nat_lt (digits_value 10 word) (2 ^ 64) then Some (digits_value 10 word) else None) h
    ∙ not_third (nat_le 1 (length word)) (nat_le (length word) 20) (nat_lt (digits_value 10 word) (2 ^ 64)) (digits_value 10 word))

-- parsing returns the number of a word, if the word is not too long and consists of digits
picked : {E : Type 0} (n v m : ℕ) (c : Bool) (r : Result ℕ E) → n ≤ 20 → c ≡ true → OkIff r ((0 < n) × (v < m)) v
    → result_ok r ≡ (if nat_le 1 n && nat_le n 20 && c && nat_lt v m then Some v else None)
picked n v m c (Ok x) short same h =
    let some : nat_le 1 n ≡ true = grind (arith, nat_tests, h.0.0) in
    let within : nat_le n 20 ≡ true = grind (arith, nat_tests) in
    let below : nat_lt v m ≡ true = grind (arith, nat_tests, h.0.1) in
    rw (some, within, same, below) (ap Some h.1)
picked n v m c (Err e) short same h = elim (cases_lt 0 n) [
  | inr none ↦ (let empty : nat_le 1 n ≡ false = grind (arith, nat_tests) in rw empty refl)
  | inl some ↦ elim (cases_lt v m) [
    | inl below ↦ absurd (h (some, below))
    | inr above ↦ (let high : nat_lt v m ≡ false = grind (arith, nat_tests) in rw high (sym (not_fourth (nat_le 1 n) (nat_le n 20) c v)))
  ]
]

pub number_parsed : {E : Type 0} (word : List ℕ) (r : Result ℕ E) → length word ≤ 20 → all_ascii_digits word ≡ true → ParsesUnsigned 64 10 word r
    → result_ok r ≡ number_of word
number_parsed word r short all h = picked (length word) (digits_value 10 word) (2 ^ 64) (all_ascii_digits word) r short all (parse_digits digits 64 word r h all)

-- digits are decoded to a text with the same bytes
pub text_read : {E : Type 0} (P : E → Type 0) (word : List ℕ) (r : Result (Bor (List ℕ)) E) → all_ascii_digits word ≡ true
    → MatchResult r (λ s. (s.now ≡ word) × IsUtf8 word) (λ e. (IsUtf8 word → ⊥) × P e) → result_ok r ≡ None → ⊥
text_read P word (Ok s) all h none = cc
text_read P word (Err e) all h none = h.0 (IsUtf8-digits word all)

pub text_same : {E : Type 0} (P : E → Type 0) (word : List ℕ) (r : Result (Bor (List ℕ)) E) (s : Bor (List ℕ))
    → MatchResult r (λ s. (s.now ≡ word) × IsUtf8 word) (λ e. (IsUtf8 word → ⊥) × P e) → result_ok r ≡ Some s → s.now ≡ word
text_same P word (Ok t) s h some = let same : t ≡ s = cc in ap (λ (r : Bor (List ℕ)). r.now) (sym same) ∙ h.0
text_same P word (Err e) s h some = cc
