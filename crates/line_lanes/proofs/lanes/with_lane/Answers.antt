use Rattle.std.proofs.Common.{ℕ, ◌≡◌, ◌+◌, ◌/◌, ◌%◌, ◌^◌, ◌<◌, ◌==◌, ◌++◌, length, ap, ap₂, ◌∙◌, sym, arith, if◌then◌else◌}
use Rattle.std.specs.Prelude.{slice_index}
use Rattle.std.proofs.Math.Facts.{eqb_yes}
use Rattle.std.proofs.lemmas.List.{ext_get_or, length-append}
use Rattle.line_lanes.specs.Lane.{with_lane_of}
use Rattle.line_lanes.specs.declared.lanes.TheConstants.{LOW_LANES, HIGH_LANES}
use Rattle.line_lanes.proofs.MaskBits.{upto_sound}
use Rattle.line_lanes.proofs.EachHalf.{low_byte, high_byte, joined_at}
use Rattle.line_lanes.proofs.LaneBytes.{replaced_byte, with_lane-at, length-with_lane}
use Rattle.line_lanes.proofs.lanes.with_lane.Goals as goal

low_lane_of : (i : ℕ) → i < 32 → slice_index LOW_LANES i ≡ i / 8
low_lane_of i h = eqb_yes (upto_sound (λ j. slice_index LOW_LANES j == j / 8) 32 tt i h)

high_lane_of : (i : ℕ) → i < 32 → slice_index HIGH_LANES i ≡ (32 + i) / 8
high_lane_of i h = eqb_yes (upto_sound (λ j. slice_index HIGH_LANES j == (32 + j) / 8) 32 tt i h)

pub returns : goal.returns
returns c =
    let line = c.args.line.now.bytes in
    let k = c.args.k in
    let value = c.args.value in
    let byte = replaced_byte line k value in
    let low = c.replaced.result in
    let high = c.replaced-2.result in
    let long : length line ≡ 64 = omega arith in
    let small : value < 2 ^ 64 = c.ranges.value.fits in
    let whole : length (low ++ high) ≡ 64 = length-append low high ∙ omega (arith, c.replaced.ensures.len, c.replaced-2.ensures.len) in
    let at : (i : ℕ) → i < 64 → slice_index (low ++ high) i ≡ byte i =
    joined_at byte low high c.replaced.ensures.len
    (λ i h. c.replaced.ensures.bytes i h
    ∙ ap (λ n. if n == k then slice_index c.repeated-value.result i else slice_index c.halves.result.0 i) (low_lane_of i h)
    ∙ ap₂ (λ x y. if i / 8 == k then x else y) (c.repeated-value.ensures.bytes i h) (ap (λ half. slice_index half i) c.halves.ensures.low ∙ low_byte line i h))
    (λ i h. let place : i % 8 ≡ (32 + i) % 8 = omega arith in
    c.replaced-2.ensures.bytes i h
    ∙ ap (λ n. if n == k then slice_index c.repeated-value.result i else slice_index c.halves.result.1 i) (high_lane_of i h)
    ∙ ap₂ (λ x y. if (32 + i) / 8 == k then x else y) (c.repeated-value.ensures.bytes i h ∙ ap (λ j. value / 256 ^ j % 256) place) (ap (λ half. slice_index half i) c.halves.ensures.high ∙ high_byte line i)) in
    c.joined.ensures
    ∙ ext_get_or 0 (low ++ high) (with_lane_of line k value) (whole ∙ sym (length-with_lane line k value long c.requires))
    (λ i h. let h64 : i < 64 = omega (arith, h, whole) in at i h64 ∙ sym (with_lane-at line k value i long c.requires small h64))
