-- Lemmas about texts that are written piece by piece, such as the digits of the numbers above columns.
use Rattle.std.proofs.Common.{◌≡◌, ℕ, ◌+◌, ◌<◌, ◌≤◌, cond, List, [], ◌∷◌, ◌++◌, length, map, take, get_or, map-id, refl, sym, ap, ◌∙◌, arith, append_assoc, append-nil, zero-add, nat_le, Bool, true, false}
use Rattle.std.specs.List.{filter, flat_map, range_with_len}
use Rattle.std.proofs.lemmas.List.Elements.{filter_more}
use Rattle.std.proofs.lemmas.Bool.Decides.{nat_tests}
use Rattle.std.proofs.lemmas.List.{flat_map_more, map_more, take_more}
use Rattle.std.proofs.lemmas.List.FromFn.{map-range_with_len_more}
use Rattle.std.proofs.lemmas.Grind.{flat_map-append}
use Rattle.qolb_draw.specs.Heads.{head_text}

-- the text with one more number
pub range_more : (a n : ℕ) → range_with_len a (n + 1) ≡ range_with_len a n ++ (a + n) ∷ []
range_more a n = sym (map-id (range_with_len a (n + 1))) ∙ map-range_with_len_more (λ k. k) a n (a + n) refl ∙ ap (λ xs. xs ++ (a + n) ∷ []) (map-id (range_with_len a n))

-- the text with one more row of digits if the last number has a digit at that place, and with no more rows otherwise
heads_cond : (margin numbers : List ℕ) (b : Bool) (v : ℕ) → flat_map (head_text margin numbers) (cond b (v ∷ []) []) ≡ cond b (head_text margin numbers v) []
heads_cond margin numbers true v = append-nil (head_text margin numbers v)
heads_cond margin numbers false v = refl

heads_more : (margin numbers : List ℕ) (last : ℕ) (values : List ℕ) (i d : ℕ) → i < length values
    → flat_map (head_text margin numbers) (filter (λ value. nat_le value last) (take (i + 1) values)) ≡ flat_map (head_text margin numbers) (filter (λ value. nat_le value last) (take i values)) ++ cond (nat_le (get_or values i d) last) (head_text margin numbers (get_or values i d)) []
heads_more margin numbers last values i d lt =
    ap (flat_map (head_text margin numbers)) (filter_more (λ value. nat_le value last) values i d lt)
    ∙ flat_map-append (head_text margin numbers) (filter (λ value. nat_le value last) (take i values)) (cond (nat_le (get_or values i d) last) (get_or values i d ∷ []) [])
    ∙ ap (λ t. flat_map (head_text margin numbers) (filter (λ value. nat_le value last) (take i values)) ++ t) (heads_cond margin numbers (nat_le (get_or values i d) last) (get_or values i d))

-- the text so far, with the rows of digits at the first i places
pub record HasHeads (margin numbers : List ℕ) (last : ℕ) (values : List ℕ) (before : List ℕ) (i : ℕ) (text : List ℕ) : Type 0 where
  pub text_is : text ≡ before ++ flat_map (head_text margin numbers) (filter (λ value. nat_le value last) (take i values))

pub head_pushed : (margin numbers : List ℕ) (last : ℕ) (values before : List ℕ) (i d : ℕ) (text after : List ℕ) → HasHeads margin numbers last values before i text → i < length values
    → get_or values i d ≤ last → after ≡ text ++ head_text margin numbers (get_or values i d) → HasHeads margin numbers last values before (i + 1) after
head_pushed margin numbers last values before i d text after had lt le pushed =
    let b : nat_le (get_or values i d) last ≡ true = grind (arith, nat_tests) in
    record {
      text_is = pushed ∙ ap (λ t. t ++ head_text margin numbers (get_or values i d)) had.text_is ∙ append_assoc before _ (head_text margin numbers (get_or values i d))
          ∙ ap (λ t. before ++ t) (sym (heads_more margin numbers last values i d lt ∙ ap (λ c. flat_map (head_text margin numbers) (filter (λ value. nat_le value last) (take i values)) ++ cond c (head_text margin numbers (get_or values i d)) []) b));
    }

pub head_left_out : (margin numbers : List ℕ) (last : ℕ) (values before : List ℕ) (i d : ℕ) (text after : List ℕ) → HasHeads margin numbers last values before i text → i < length values
    → last < get_or values i d → after ≡ text → HasHeads margin numbers last values before (i + 1) after
head_left_out margin numbers last values before i d text after had lt gt same =
    let b : nat_le (get_or values i d) last ≡ false = grind (arith, nat_tests) in
    record {
      text_is = same ∙ had.text_is
          ∙ ap (λ t. before ++ t) (sym (heads_more margin numbers last values i d lt ∙ ap (λ c. flat_map (head_text margin numbers) (filter (λ value. nat_le value last) (take i values)) ++ cond c (head_text margin numbers (get_or values i d)) []) b ∙ append-nil _));
    }

-- the text with one more piece
pub piece_pushed : (f : ℕ → List ℕ) (before : List ℕ) (k : ℕ) (text after piece : List ℕ) → text ≡ before ++ flat_map f (range_with_len 0 k) → piece ≡ f k → after ≡ text ++ piece → after ≡ before ++ flat_map f (range_with_len 0 (k + 1))
piece_pushed f before k text after piece was is pushed =
    pushed ∙ ap (λ t. t ++ piece) was ∙ ap (λ p. (before ++ flat_map f (range_with_len 0 k)) ++ p) is ∙ append_assoc before (flat_map f (range_with_len 0 k)) (f k)
    ∙ ap (λ t. before ++ t) (sym (ap (flat_map f) (range_more 0 k ∙ ap (λ m. range_with_len 0 k ++ m ∷ []) (zero-add k)) ∙ flat_map-append f (range_with_len 0 k) (k ∷ []) ∙ ap (λ t. flat_map f (range_with_len 0 k) ++ t) (append-nil (f k))))

-- the text with the text of one more element
pub element_pushed : {X : Type 0} (f : X → List ℕ) (before head : List ℕ) (xs : List X) (i : ℕ) (d : X) (text after : List ℕ) → i < length xs
    → text ≡ before ++ (head ++ flat_map f (take i xs)) → after ≡ text ++ f (get_or xs i d) → after ≡ before ++ (head ++ flat_map f (take (i + 1) xs))
element_pushed f before head xs i d text after lt was pushed =
    pushed ∙ ap (λ t. t ++ f (get_or xs i d)) was ∙ append_assoc before (head ++ flat_map f (take i xs)) (f (get_or xs i d))
    ∙ ap (λ t. before ++ t) (flat_map_more f head (take i xs) (get_or xs i d) ∙ ap (λ ys. head ++ flat_map f ys) (sym (take_more xs i d lt)))

-- the same, if each element becomes one number
pub number_pushed : {X : Type 0} (f : X → ℕ) (before head : List ℕ) (xs : List X) (i : ℕ) (d : X) (x : ℕ) (text after : List ℕ) → i < length xs
    → text ≡ before ++ (head ++ map f (take i xs)) → x ≡ f (get_or xs i d) → after ≡ text ++ x ∷ [] → after ≡ before ++ (head ++ map f (take (i + 1) xs))
number_pushed f before head xs i d x text after lt was is pushed =
    pushed ∙ ap (λ t. t ++ x ∷ []) was ∙ ap (λ y. (before ++ (head ++ map f (take i xs))) ++ y ∷ []) is ∙ append_assoc before (head ++ map f (take i xs)) (f (get_or xs i d) ∷ [])
    ∙ ap (λ t. before ++ t) (append_assoc head (map f (take i xs)) (f (get_or xs i d) ∷ []) ∙ ap (λ t. head ++ t) (sym (map_more f xs i d lt)))
