use Rattle.std.proofs.Common.{rules, ℕ, ◌≡◌, ◌+◌, ◌-◌, ◌*◌, ◌%◌, ◌^◌, ◌||◌, ◌==◌, not, ap, ap₂, ◌∙◌, arith}
use Rattle.std.specs.Prelude.{bit_or, slice_index}
use Rattle.std.specs.Int.Bits.{or_lt}
use Rattle.std.proofs.Math.Bool.{or-false}
use Rattle.line_lanes.specs.Mask.{is_masked}
use Rattle.line_lanes.proofs.MaskBits.{is_masked-or, is_masked-above, bit_at-shl_below, bit_at-shl_from, mask_by-from_bits}
use Rattle.line_lanes.proofs.EachHalf.{each_half, low_byte, high_byte}
use Rattle.line_lanes.proofs.compare.changed.Goals as goal

pub returns : goal.returns
returns c =
    let a = c.args.a.now.bytes in
    let b = c.args.b.now.bytes in
    let low = c.differing.result in
    let high = c.differing-2.result in
    let shifted = high * 2 ^ 32 % 2 ^ 64 in
    let differ = λ (k : ℕ). not (slice_index a k == slice_index b k) in
    mask_by-from_bits differ (bit_or low shifted) (or_lt 64 low shifted (search rules) (search rules))
    (each_half (λ k. is_masked (bit_or low shifted) k ≡ differ k)
    (λ k h. is_masked-or low shifted k
    ∙ ap₂ (λ s t. s || t) (c.differing.ensures.bits k h) (ap (λ n. n == 1) (bit_at-shl_below high 32 k h (omega arith)))
    ∙ or-false _
    ∙ ap₂ (λ x y. not (x == y))
    (ap (λ half. slice_index half k) c.halves.ensures.low ∙ low_byte a k h)
    (ap (λ half. slice_index half k) c.halves-2.ensures.low ∙ low_byte b k h))
    (λ k h. let back : 32 + k - 32 ≡ k = omega arith in
    is_masked-or low shifted (32 + k)
    ∙ ap₂ (λ s t. s || t) (is_masked-above low 32 (32 + k) c.differing.ensures.bound (omega arith)) (ap (λ n. n == 1) (bit_at-shl_from high 32 (32 + k) (omega arith) (omega arith)) ∙ ap (is_masked high) back ∙ c.differing-2.ensures.bits k h)
    ∙ ap₂ (λ x y. not (x == y))
    (ap (λ half. slice_index half k) c.halves.ensures.high ∙ high_byte a k)
    (ap (λ half. slice_index half k) c.halves-2.ensures.high ∙ high_byte b k)))
