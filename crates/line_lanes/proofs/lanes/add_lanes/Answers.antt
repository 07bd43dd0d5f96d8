use Rattle.std.proofs.Common.{ℕ, List, ◌≡◌, ◌<◌, ◌≤◌, ◌+◌, ◌^◌, true, false, length, take, drop, ap, ap₂, ◌∙◌, sym, arith, refl}
use Rattle.std.specs.Prelude.{slice_index}
use Rattle.line_lanes.specs.Lane.{lane_of}
use Rattle.line_lanes.proofs.EachLane.{each_lane, low_lane, high_lane, joined_low_lane, joined_high_lane, lane_sums-by}
use Rattle.line_lanes.proofs.lanes.add_lanes.Goals as goal

-- the lanes of a half, as lanes of the line
read_low : (line half lanes : List ℕ) → length line ≡ 64 → half ≡ take 32 line → ((k : ℕ) → k < 4 → slice_index lanes k ≡ lane_of half k) → (k : ℕ) → k < 4 → slice_index lanes k ≡ lane_of line k
read_low line half lanes long e at k h = at k h ∙ ap (λ t. lane_of t k) e ∙ low_lane line k long h

read_high : (line half lanes : List ℕ) → length line ≡ 64 → half ≡ drop 32 line → ((k : ℕ) → k < 4 → slice_index lanes k ≡ lane_of half k) → (k : ℕ) → k < 4 → slice_index lanes k ≡ lane_of line (4 + k)
read_high line half lanes long e at k h = at k h ∙ ap (λ t. lane_of t k) e ∙ high_lane line k long

pub returns-clause-sums : goal.returns-clause-sums
returns-clause-sums c =
    let a = c.args.a.now.bytes in
    let b = c.args.b.now.bytes in
    let low = c.narrow.result in
    let high = c.narrow-2.result in
    let a_low = read_low a c.halves.result.0 c.wide-a_low.result (omega arith) c.halves.ensures.low c.wide-a_low.ensures in
    let b_low = read_low b c.halves-2.result.0 c.wide-b_low.result (omega arith) c.halves-2.ensures.low c.wide-b_low.ensures in
    let a_high = read_high a c.halves.result.1 c.wide-a_high.result (omega arith) c.halves.ensures.high c.wide-a_high.ensures in
    let b_high = read_high b c.halves-2.result.1 c.wide-b_high.result (omega arith) c.halves-2.ensures.high c.wide-b_high.ensures in
    lane_sums-by c.joined.result.bytes a b
    (each_lane (λ k. lane_of c.joined.result.bytes k ≡ lane_of a k + lane_of b k)
    (λ k h. ap (λ t. lane_of t k) c.joined.ensures ∙ joined_low_lane low high k c.narrow.ensures.len h ∙ c.narrow.ensures.lanes k h ∙ c.added.ensures k h ∙ ap₂ (λ x y. x + y) (a_low k h) (b_low k h))
    (λ k h. ap (λ t. lane_of t (4 + k)) c.joined.ensures ∙ joined_high_lane low high k c.narrow.ensures.len ∙ c.narrow-2.ensures.lanes k h ∙ c.added-2.ensures k h ∙ ap₂ (λ x y. x + y) (a_high k h) (b_high k h)))

pub returns-then-overflows-clause-none : goal.returns-then-overflows-clause-none
returns-then-overflows-clause-none c =
    let a_low = read_low c.args.a.now.bytes c.halves.result.0 c.wide-a_low.result (omega arith) c.halves.ensures.low c.wide-a_low.ensures in
    let b_low = read_low c.args.b.now.bytes c.halves-2.result.0 c.wide-b_low.result (omega arith) c.halves-2.ensures.low c.wide-b_low.ensures in (
      λ _. let (k, h, past) = c.overflows.ensures.0 c.if-overflows.true in (k, omega (arith, h), omega (arith, past, a_low k h, b_low k h)),
      λ _. refl,
    )

pub returns-then-overflows-2-clause-none : goal.returns-then-overflows-2-clause-none
returns-then-overflows-2-clause-none c =
    let a_high = read_high c.args.a.now.bytes c.halves.result.1 c.wide-a_high.result (omega arith) c.halves.ensures.high c.wide-a_high.ensures in
    let b_high = read_high c.args.b.now.bytes c.halves-2.result.1 c.wide-b_high.result (omega arith) c.halves-2.ensures.high c.wide-b_high.ensures in (
      λ _. let (k, h, past) = c.overflows-2.ensures.0 c.if-overflows-2.true in (4 + k, omega (arith, h), omega (arith, past, a_high k h, b_high k h)),
      λ _. refl,
    )

pub returns-clause-none : goal.returns-clause-none
returns-clause-none c =
    let a = c.args.a.now.bytes in
    let b = c.args.b.now.bytes in
    let a_low = read_low a c.halves.result.0 c.wide-a_low.result (omega arith) c.halves.ensures.low c.wide-a_low.ensures in
    let b_low = read_low b c.halves-2.result.0 c.wide-b_low.result (omega arith) c.halves-2.ensures.low c.wide-b_low.ensures in
    let a_high = read_high a c.halves.result.1 c.wide-a_high.result (omega arith) c.halves.ensures.high c.wide-a_high.ensures in
    let b_high = read_high b c.halves-2.result.1 c.wide-b_high.result (omega arith) c.halves-2.ensures.high c.wide-b_high.ensures in (
      λ e. let no : ⊥ = cc in absurd no,
      λ w. absurd (each_lane (λ k. 2 ^ 64 ≤ lane_of a k + lane_of b k → ⊥)
          (λ k h past. let no : true ≡ false = sym (c.overflows.ensures.1 (k, h, omega (arith, past, a_low k h, b_low k h))) ∙ c.if-overflows.false in cc)
          (λ k h past. let no : true ≡ false = sym (c.overflows-2.ensures.1 (k, h, omega (arith, past, a_high k h, b_high k h))) ∙ c.if-overflows-2.false in cc)
          w.0 w.1 w.2),
    )
