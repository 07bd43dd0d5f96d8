use Rattle.std.proofs.Common.{ap, ◌∙◌, ◌%◌, if◌then◌else◌}
use Rattle.std.specs.Prelude.{slice_index}
use Rattle.line_lanes.specs.Mask.{is_masked}
use Rattle.line_lanes.proofs.MaskBits.{is_masked-byte}
use Rattle.line_lanes.proofs.write.merge_half.Goals as goal

pub returns-clause-bytes : goal.returns-clause-bytes
returns-clause-bytes c k h =
    c.blend.ensures k h
    ∙ ap (λ b. if b then slice_index c.args.new k else slice_index c.args.old k) (ap (λ x. is_masked x (k % 8)) (c.mask_bytes.ensures k h) ∙ is_masked-byte c.args.mask k)
