use Rattle.std.proofs.Common.{ℕ, List, ◌≡◌, ◌<◌, ◌≤◌, ◌+◌, ◌-◌, ◌*◌, ◌/◌, ◌%◌, ◌^◌, ◌++◌, ap, ◌∙◌, arith, get_or, length, ◌⊎◌, inl, inr}
use Rattle.std.proofs.lemmas.Bool.{cases_order}
use Rattle.std.proofs.lemmas.List.{length-append, get_or_append_left, get_or-append_right}
use Rattle.std.proofs.lemmas.Simd.{pick_l_whole}
use lib.Pow.{shr-shr}
use Rattle.line_lanes.proofs.write.mask_bytes.Goals as goal

-- two bytes of the mask, followed by the next two, are four
four_bytes : (mask : ℕ) (low high : List ℕ) → length low ≡ 16 → ((k : ℕ) → k < 16 → get_or low k 0 ≡ mask / 2 ^ (8 * (k / 8)) % 256) → ((k : ℕ) → k < 16 → get_or high k 0 ≡ mask / 2 ^ 16 / 2 ^ (8 * (k / 8)) % 256) → (k : ℕ) → k < 32 → get_or (low ++ high) k 0 ≡ mask / 2 ^ (8 * (k / 8)) % 256
four_bytes mask low high long at_low at_high k h = go (cases_order k 16)
  where
    past : 16 ≤ k → get_or (low ++ high) k 0 ≡ mask / 2 ^ (8 * (k / 8)) % 256
    past le =
        let place : 16 + 8 * ((k - 16) / 8) ≡ 8 * (k / 8) = omega arith in
        get_or-append_right low high 16 k 0 long le
        ∙ at_high (k - 16) (omega arith)
        ∙ ap (λ n. n % 256) (shr-shr mask 16 (8 * ((k - 16) / 8)))
        ∙ ap (λ n. mask / 2 ^ n % 256) place

    go : (k ≡ 16) ⊎ ((k < 16) ⊎ (16 < k)) → get_or (low ++ high) k 0 ≡ mask / 2 ^ (8 * (k / 8)) % 256
    go (inl e) = past (omega arith)
    go (inr (inl lt)) = get_or_append_left low high 0 k (omega (arith, long)) ∙ at_low k lt
    go (inr (inr gt)) = past (omega arith)

pub returns : goal.returns
returns c k h =
    let low = c.two_bytes.result in
    let high = c.two_bytes-2.result in
    let whole : length (low ++ high) ≡ 32 = length-append low high ∙ omega (arith, c.two_bytes.ensures.len, c.two_bytes-2.ensures.len) in
    ap (λ t. get_or t k 0) (pick_l_whole 0 (low ++ high) 32 whole)
    ∙ four_bytes c.args.mask low high c.two_bytes.ensures.len c.two_bytes.ensures.bytes c.two_bytes-2.ensures.bytes k h
