-- Lemmas about the mask that selects the bytes of one lane.
use Rattle.std.proofs.Common.{◌≡◌, ℕ, ◌*◌, ◌/◌, ◌%◌, ◌^◌, ◌<◌, ◌==◌, Bool, true, false, List, length, ap, sym, ◌∙◌, arith, refl, if◌then◌else◌}
use Rattle.std.specs.Prelude.{slice_index}
use Rattle.line_lanes.specs.Lane.{with_lane_of}
use Rattle.line_lanes.specs.Line.{merged}
use Rattle.line_lanes.specs.Mask.{is_masked, is_within, placed_mask}
use Rattle.line_lanes.proofs.LaneBytes.{with_lane-at, length-with_lane}
use Rattle.line_lanes.proofs.MaskBits.{is_masked-mask_by}
use Rattle.line_lanes.proofs.Masked.{merged-by}

-- a place outside the mask of a lane belongs to another lane
of_another : (k i : ℕ) → is_within (8 * k) 8 i ≡ false → (i / 8 == k) ≡ false
of_another k i off = grind (arith, off)

where_off : (b : Bool) (x z : ℕ) → (b ≡ false → x ≡ z) → x ≡ (if b then x else z)
where_off true x z same = refl
where_off false x z same = same refl

-- under the mask of lane k, the line with that lane replaced writes all of it
pub lane_written :
    (old : List ℕ) (k value : ℕ) → length old ≡ 64 → k < 8 → value < 2 ^ 64
    → with_lane_of old k value ≡ merged old (with_lane_of old k value) (placed_mask (8 * k) 8)
lane_written old k value long low small =
    merged-by new old new mask (length-with_lane old k value long low) (λ i h.
    where_off (is_masked mask i) (slice_index new i) (slice_index old i) (λ off.
    with_lane-at old k value i long low small h
    ∙ ap (λ t. if t then value / 256 ^ (i % 8) % 256 else slice_index old i) (of_another k i (sym (is_masked-mask_by (is_within (8 * k) 8) i h) ∙ off))))
  where
    new : List ℕ
    new = with_lane_of old k value

    mask : ℕ
    mask = placed_mask (8 * k) 8
