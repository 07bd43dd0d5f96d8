-- Proof that a property holds for every byte of a line if it holds for every byte of both halves.
use Rattle.std.proofs.Common.{◌≡◌, ℕ, ◌+◌, ◌-◌, ◌<◌, List, ◌++◌, length, take, drop, ◌⊎◌, inl, inr, sym, ap, ◌∙◌, subst, arith}
use Rattle.std.specs.Prelude.{slice_index}
use Rattle.std.proofs.lemmas.List.{get_or_append_left, get_or-append_right, get_or-take, get_or-drop, length-append}
use Rattle.std.proofs.lemmas.List.FromFn.{fill_by_all}
use Rattle.std.proofs.lemmas.Bool.{cases_order}
use Rattle.line_lanes.specs.Line.{line_by}

pub low_byte : (line : List ℕ) (k : ℕ) → k < 32 → slice_index (take 32 line) k ≡ slice_index line k
low_byte line k h = get_or-take 32 line k 0 h

pub high_byte : (line : List ℕ) (k : ℕ) → slice_index (drop 32 line) k ≡ slice_index line (32 + k)
high_byte line k = get_or-drop 32 line k 0

-- a fact of each byte, from the low half and from the high half
pub each_half : (P : ℕ → Type 0) → ((k : ℕ) → k < 32 → P k) → ((k : ℕ) → k < 32 → P (32 + k)) → (k : ℕ) → k < 64 → P k
each_half P low high k h = go (cases_order k 32)
  where
    go : (k ≡ 32) ⊎ ((k < 32) ⊎ (32 < k)) → P k
    go (inl e) = subst P (sym e) (high 0 (omega arith))
    go (inr (inl lt)) = low k lt
    go (inr (inr gt)) = let e : 32 + (k - 32) ≡ k = omega arith in subst P e (high (k - 32) (omega arith))

-- two halves that are joined, by the byte at each place
pub joined_at : (byte : ℕ → ℕ) (low high : List ℕ) → length low ≡ 32 → ((k : ℕ) → k < 32 → slice_index low k ≡ byte k) → ((k : ℕ) → k < 32 → slice_index high k ≡ byte (32 + k)) → (k : ℕ) → k < 64 → slice_index (low ++ high) k ≡ byte k
joined_at byte low high long_low at_low at_high =
    each_half (λ k. slice_index (low ++ high) k ≡ byte k)
    (λ k h. get_or_append_left low high 0 k (omega (arith, long_low)) ∙ at_low k h)
    (λ k h. let back : 32 + k - 32 ≡ k = omega arith in get_or-append_right low high 32 (32 + k) 0 long_low (omega arith) ∙ ap (slice_index high) back ∙ at_high k h)

-- the line with that byte at each place
pub joined_by : (byte : ℕ → ℕ) (low high : List ℕ) → length low ≡ 32 → length high ≡ 32 → ((k : ℕ) → k < 32 → slice_index low k ≡ byte k) → ((k : ℕ) → k < 32 → slice_index high k ≡ byte (32 + k)) → low ++ high ≡ line_by byte
joined_by byte low high long_low long_high at_low at_high =
    fill_by_all byte (low ++ high) 64 0 (length-append low high ∙ omega (arith, long_low, long_high)) (joined_at byte low high long_low at_low at_high)
