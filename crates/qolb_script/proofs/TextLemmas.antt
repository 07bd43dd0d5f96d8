-- Lemmas about how a text is split into lines and words.
use Rattle.std.proofs.Common.{◌≡◌, ℕ, suc, ◌+◌, ◌==◌, ◌<◌, Bool, true, false, not, cond, List, [], ◌∷◌, length, get_or, drop, filter, Option, Some, None, MatchOption, unwrap_or, refl, sym, ap, ◌∙◌, arith}
use Rattle.std.specs.Borrow.{Bor}
use Rattle.std.proofs.Math.Numerals.{one-add}
use Rattle.std.proofs.Math.Seq.{drop-cons}
use Rattle.std.proofs.lemmas.List.{drop_all}
use Rattle.std.proofs.lemmas.List.Sums.{passes_at_first}
use Rattle.std.specs.List.{slice_split, onto_first, list_all, position_or_len}
use Rattle.std.proofs.lemmas.List.Splits.{slice_split-cons_yes, slice_split-cons_no}
use Rattle.std.proofs.lemmas.Bool.Decides.{nat_tests}
use Rattle.qolb_script.specs.Text.{words_of}

abbrev pub is_space : ℕ → Bool
is_space b = b == 32

abbrev pub is_word : List ℕ → Bool
is_word word = not (length word == 0)

not_true : (b : Bool) → not b ≡ true → b ≡ false
not_true true e = cc
not_true false e = refl

suc_is_some : (n : ℕ) → (suc n == 0) ≡ false
suc_is_some n = grind (arith, nat_tests)

-- a space before a line adds no word
pub words_of-space : (x : ℕ) (xs : List ℕ) → (x == 32) ≡ true → words_of (x ∷ xs) ≡ words_of xs
words_of-space x xs e = ap (filter is_word) (slice_split-cons_yes is_space x xs e)

-- a part with at least one byte is kept
pub part_kept : (x : ℕ) (p : List ℕ) (ps : List (List ℕ)) → filter is_word ((x ∷ p) ∷ ps) ≡ (x ∷ p) ∷ filter is_word ps
part_kept x p ps = ap (λ b. cond (not b) ((x ∷ p) ∷ filter is_word ps) (filter is_word ps)) (suc_is_some (length p))

some_kept : (x : ℕ) (parts : List (List ℕ)) → (length (filter is_word (onto_first x parts)) == 0) ≡ false
some_kept x [] = ap (λ (l : List (List ℕ)). length l == 0) (part_kept x [] []) ∙ suc_is_some (length (filter is_word []))
some_kept x (p ∷ ps) = ap (λ (l : List (List ℕ)). length l == 0) (part_kept x p ps) ∙ suc_is_some (length (filter is_word ps))

-- a byte other than a space begins a word
words_of-byte : (x : ℕ) (xs : List ℕ) → (x == 32) ≡ false → (length (words_of (x ∷ xs)) == 0) ≡ false
words_of-byte x xs e =
    ap (λ parts. length (filter is_word parts) == 0) (slice_split-cons_no is_space x xs e) ∙ some_kept x (slice_split is_space xs)

all_step : (x : ℕ) (xs : List ℕ) (b : Bool) → (x == 32) ≡ b → list_all is_space xs ≡ (length (words_of xs) == 0)
    → list_all is_space (x ∷ xs) ≡ (length (words_of (x ∷ xs)) == 0)
all_step x xs true e h = rw (words_of-space x xs e, e) h
all_step x xs false e h = rw (words_of-byte x xs e, e) refl

-- a line has no word if and only if all its bytes are spaces
pub all_spaces : (line : List ℕ) → list_all (λ b. b == 32) line ≡ (length (words_of line) == 0)
all_spaces [] = refl
all_spaces (x ∷ xs) = all_step x xs (x == 32) refl (all_spaces xs)

drop_step : (x : ℕ) (xs : List ℕ) (b : Bool) → (x == 32) ≡ b → words_of (drop (position_or_len (λ b. not (b == 32)) xs) xs) ≡ words_of xs
    → words_of (drop (position_or_len (λ b. not (b == 32)) (x ∷ xs)) (x ∷ xs)) ≡ words_of (x ∷ xs)
drop_step x xs true e h =
    let first : drop (position_or_len (λ b. not (b == 32)) (x ∷ xs)) (x ∷ xs) ≡ drop (1 + position_or_len (λ b. not (b == 32)) xs) (x ∷ xs)
    = ap (λ b. drop (cond (not (not b)) (1 + position_or_len (λ b. not (b == 32)) xs) 0) (x ∷ xs)) e in
    let next : drop (1 + position_or_len (λ b. not (b == 32)) xs) (x ∷ xs) ≡ drop (position_or_len (λ b. not (b == 32)) xs) xs = rw one-add refl in
    ap words_of (first ∙ next) ∙ h ∙ sym (words_of-space x xs e)
drop_step x xs false e h = ap (λ b. words_of (drop (cond (not (not b)) (1 + position_or_len (λ b. not (b == 32)) xs) 0) (x ∷ xs))) e

-- a line that begins with spaces has the same words as its rest
pub words_of-drop : (line : List ℕ) → words_of (drop (position_or_len (λ b. not (b == 32)) line) line) ≡ words_of line
words_of-drop [] = refl
words_of-drop (x ∷ xs) = drop_step x xs (x == 32) refl (words_of-drop xs)

-- a line of spaces has no words
pub no_words : (line : List ℕ) → position_or_len (λ b. not (b == 32)) line ≡ length line → words_of line ≡ []
no_words line e = sym (words_of-drop line) ∙ ap words_of (ap (λ n. drop n line) e ∙ drop_all (length line) line (omega arith))

kept_first : (x : ℕ) (parts : List (List ℕ)) (word : List ℕ) (rest : List (List ℕ)) → onto_first x parts ≡ word ∷ rest
    → filter is_word (word ∷ rest) ≡ word ∷ filter is_word rest
kept_first x [] word rest e = let w : word ≡ x ∷ [] = cc in rw w (part_kept x [] rest)
kept_first x (p ∷ ps) word rest e = let w : word ≡ x ∷ p = cc in rw w (part_kept x p rest)

-- the first part from a byte that is not a space is the first word
pub first_word : (line : List ℕ) (i : ℕ) (word : List ℕ) (rest : List (List ℕ)) → position_or_len (λ b. not (b == 32)) line ≡ i → i < length line
    → slice_split (λ b. b == 32) (drop i line) ≡ word ∷ rest → words_of line ≡ word ∷ filter is_word rest
first_word line i word rest e h parts =
    let found : (get_or line i 0 == 32) ≡ false = not_true (get_or line i 0 == 32) (rw e at (passes_at_first (λ (b : ℕ). not (b == 32)) line 0 (rw e h))) in
    let cut = drop-cons line i 0 h in
    let onto = sym (slice_split-cons_no is_space (get_or line i 0) (drop (suc i) line) found) ∙ sym (ap (slice_split is_space) cut) ∙ parts in
    sym (words_of-drop line) ∙ ap (λ n. words_of (drop n line)) e ∙ ap (filter is_word) parts ∙ kept_first (get_or line i 0) _ word rest onto

-- the words that follow the first word
pub words_after : (o : Option (Bor (List ℕ))) (d u : Bor (List ℕ)) (bytes word : List ℕ) → u ≡ unwrap_or o d → d.now ≡ []
    → MatchOption o (slice_split (λ b. b == 32) bytes ≡ word ∷ []) (λ rest. slice_split (λ b. b == 32) bytes ≡ word ∷ slice_split (λ b. b == 32) rest.now)
    → (rest : List (List ℕ)) × (slice_split (λ b. b == 32) bytes ≡ word ∷ rest) × (filter is_word rest ≡ words_of u.now)
words_after None d u bytes word same e h = ([], h, sym (ap words_of (ap (λ (r : Bor (List ℕ)). r.now) same ∙ e)))
words_after (Some rest) d u bytes word same e h = (slice_split is_space rest.now, h, sym (ap (λ (r : Bor (List ℕ)). words_of r.now) same))
