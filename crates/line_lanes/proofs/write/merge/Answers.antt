use Rattle.std.proofs.Common.{◌+◌, ap, ap₂, ◌∙◌, if◌then◌else◌}
use Rattle.std.specs.Prelude.{slice_index}
use Rattle.line_lanes.specs.Mask.{is_masked}
use Rattle.line_lanes.proofs.MaskBits.{is_masked-shr}
use Rattle.line_lanes.proofs.EachHalf.{low_byte, high_byte, joined_by}
use Rattle.line_lanes.proofs.write.merge.Goals as goal

pub returns : goal.returns
returns c =
    let mask = c.args.mask.0 in
    let old = c.args.old.now.bytes in
    let new = c.args.new.now.bytes in
    let merged_low = c.merge_half.ensures in
    let merged_high = c.merge_half-2.ensures in
    c.joined.ensures
    ∙ joined_by (λ k. if is_masked mask k then slice_index new k else slice_index old k) c.merge_half.result c.merge_half-2.result merged_low.len merged_high.len
    (λ k h. merged_low.bytes k h
    ∙ ap₂ (λ x y. if is_masked mask k then x else y)
    (ap (λ half. slice_index half k) c.halves-2.ensures.low ∙ low_byte new k h)
    (ap (λ half. slice_index half k) c.halves.ensures.low ∙ low_byte old k h))
    (λ k h. merged_high.bytes k h
    ∙ ap (λ b. if b then slice_index c.halves-2.result.1 k else slice_index c.halves.result.1 k) (is_masked-shr mask 32 k)
    ∙ ap₂ (λ x y. if is_masked mask (32 + k) then x else y)
    (ap (λ half. slice_index half k) c.halves-2.ensures.high ∙ high_byte new k)
    (ap (λ half. slice_index half k) c.halves.ensures.high ∙ high_byte old k))
