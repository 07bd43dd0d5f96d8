use Rattle.std.proofs.Common.{ℕ, ◌≡◌, ◌<◌, ◌-◌, ◌%◌, ◌^◌, ◌==◌, false, not, map, length, get_or, ltb, ap, ◌∙◌, sym, arith, w64, Fits, ltb-true, lt-ltb}
use Rattle.std.specs.Prelude.{slice_index}
use Rattle.std.proofs.lemmas.Simd.{tops_compared, get_or-zip2, length-zip2, mask_l-mod, Each1-get_or}
use Rattle.std.proofs.lemmas.List.{get_or-map, length-map}
use lib.Lanes.{zip2, mask_l}
use Rattle.line_lanes.proofs.LaneTests.{passed_from_mask, mask_from_passed}
use Rattle.line_lanes.proofs.lanes.overflows.Goals as goal

pub returns : goal.returns
returns c =
    let a = c.args.a in
    let b = c.args.b in
    let flip = λ (x : ℕ). 2 ^ 64 - 1 - x in
    let left = map flip b in
    let tests = zip2 ltb left a in
    let left_long : length left ≡ 4 = length-map b flip ∙ c.fits-b.0 in
    let long : length tests ≡ 4 = length-zip2 ltb left a (left_long ∙ sym c.fits-a.0) ∙ left_long in
    let is = ap (λ ms. mask_l ms % 2 ^ 64) (tops_compared w64 ltb left a) ∙ mask_l-mod tests 64 (omega (arith, long)) in
    let at : (k : ℕ) → k < 4 → get_or tests k false ≡ ltb (flip (slice_index b k)) (slice_index a k) = λ k h.
    get_or-zip2 ltb left a k 0 0 false (omega (arith, left_long)) (omega (arith, c.fits-a.0)) ∙ ap (λ x. ltb x (slice_index a k)) (get_or-map flip b k 0 0 (omega (arith, c.fits-b.0))) in (
      λ t.
          let (k, h, passed) = passed_from_mask tests (ap (λ n. not (n == 0)) (sym is) ∙ t) in
          let lt : k < 4 = omega (arith, h, long) in
          let more : flip (slice_index b k) < slice_index a k = ltb-true (flip (slice_index b k)) (slice_index a k) (sym (at k lt) ∙ passed) in
          (k, lt, omega (arith, more)),
      λ w.
          let fits = Each1-get_or (Fits w64) b w.0 0 (omega (arith, w.1, c.fits-b.0)) c.fits-b.1 in
          let more : flip (slice_index b w.0) < slice_index a w.0 = omega (arith, w.2, fits.fits) in
          ap (λ n. not (n == 0)) is ∙ mask_from_passed tests w.0 (omega (arith, w.1, long)) (at w.0 w.1 ∙ lt-ltb (flip (slice_index b w.0)) (slice_index a w.0) more),
    )
