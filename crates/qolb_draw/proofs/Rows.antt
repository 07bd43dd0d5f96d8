-- Lemmas about the rows of a picture: which nodes have a row, and which marks a row contains.
use Rattle.std.proofs.Common.{◌≡◌, length, get_or, suc, refl, ℕ, ◌+◌, ◌-◌, ◌*◌, ◌<◌, ◌≤◌, ◌==◌, cond, List, [], ◌∷◌, ◌++◌, map, sym, ap, ◌∙◌, arith, append-nil, Bool, true, false}
use Rattle.std.specs.List.{filter, list_any, range_with_len}
use Rattle.std.proofs.lemmas.List.Elements.{filter-append}
use Rattle.std.proofs.lemmas.Nat.{rows}
use Rattle.std.proofs.lemmas.Grind.{common_steps}
use Rattle.qolb_draw.specs.Grids.{shown_out_of}
use Rattle.qolb_draw.proofs.Pushing.{range_more}

-- the rows with one more node
pub shown_more : (n : ℕ) (called : List ℕ) → shown_out_of (n + 1) called ≡ shown_out_of n called ++ cond (list_any (λ m. m == n + 1) called) ((n + 1) ∷ []) []
shown_more n called =
    ap (filter (λ k. list_any (λ m. m == k) called)) (range_more 1 n)
    ∙ filter-append (λ k. list_any (λ m. m == k) called) (range_with_len 1 n) ((1 + n) ∷ [])
    ∙ ap (λ k. shown_out_of n called ++ cond (list_any (λ m. m == k) called) (k ∷ []) []) (omega arith)

pub node_shown : (n : ℕ) (called shown after : List ℕ) (b : Bool) → shown ≡ shown_out_of n called → b ≡ list_any (λ m. m == n + 1) called → b ≡ true → after ≡ shown ++ (n + 1) ∷ [] → after ≡ shown_out_of (n + 1) called
node_shown n called shown after b was is found pushed =
    pushed ∙ ap (λ xs. xs ++ (n + 1) ∷ []) was ∙ sym (shown_more n called ∙ ap (λ t. shown_out_of n called ++ cond t ((n + 1) ∷ []) []) (sym is ∙ found))

pub node_left_out : (n : ℕ) (called shown after : List ℕ) (b : Bool) → shown ≡ shown_out_of n called → b ≡ list_any (λ m. m == n + 1) called → b ≡ false → after ≡ shown → after ≡ shown_out_of (n + 1) called
node_left_out n called shown after b was is missed same =
    same ∙ was ∙ sym (shown_more n called ∙ ap (λ t. shown_out_of n called ++ cond t ((n + 1) ∷ []) []) (sym is ∙ missed) ∙ append-nil (shown_out_of n called))

-- the place of a mark
pub place_within : (k nodes n count : ℕ) → k < count → 1 ≤ n → n ≤ nodes → k * nodes + (n - 1) < count * nodes
place_within k nodes n count lt first last = let below : n - 1 < nodes = omega arith in grind (arith, common_steps, rows)

-- a list is determined by its elements
pub row_is : (g : ℕ → ℕ) (start : ℕ) (row : List ℕ) → ((k j : ℕ) → k < length row → start + k ≡ j → get_or row k 0 ≡ g j) → row ≡ map g (range_with_len start (length row))
row_is g start [] each = refl
row_is g start (x ∷ row) each =
    ap (λ y. y ∷ row) (each 0 start (omega arith) (omega arith)) ∙ ap (λ ys. g start ∷ ys) (row_is g (start + 1) row (λ k j lt e. each (suc k) j (omega (arith, lt)) (omega (arith, e))))
