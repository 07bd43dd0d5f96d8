use Rattle.std.proofs.Common.{◌*◌, bit_or, refl, ap, ◌∙◌, arith}
use Rattle.line_lanes.specs.Lane.{with_lane_of}
use Rattle.line_lanes.specs.Mask.{placed_mask}
use Rattle.line_lanes.proofs.LaneMasks.{lane_written}
use Rattle.qolb_model.specs.OneOwner.{turn_after}
use Rattle.line_generic.specs.Ports.{PortModel}
use Rattle.line_generic.proofs.Calling.{written_port}
use Rattle.line_generic.proofs.line.Line.write_lane.Goals as goal

pub invariant_of-port : goal.invariant_of-port
invariant_of-port g c =
    let q = c.port.inside in
    let k = c.args.k in
    let old = q.payload.bytes.bytes in
    written_port q.seat q.payload q.token q.steps q.poll_count.count q.state c.port.invariant c.port.view_is _ (placed_mask (8 * k) 8) (with_lane_of old k c.args.value) c.requires.state
    (c.set_lane-mask.ensures.line ∙ lane_written old k c.args.value (omega arith) c.requires.lane c.ranges.value.fits)
    (c.with-port-inside.ensures ∙ ap (bit_or q.payload.mask.bits) c.set_lane-mask.ensures.mask) refl

pub returns-clause-turn : goal.returns-clause-turn
returns-clause-turn g c =
    let q = c.port.inside in
    let k = c.args.k in
    let old = q.payload.bytes.bytes in
    let written = c.set_lane-mask.ensures.line ∙ lane_written old k c.args.value (omega arith) c.requires.lane c.ranges.value.fits in
    (λ i. record { mask = record { 0 = (c.with-port-inside.ensures ∙ ap (bit_or q.payload.mask.bits) c.set_lane-mask.ensures.mask) i }; bytes = record { bytes = written i } })
    ∙ ap (λ (x : PortModel). turn_after x.turn (placed_mask (8 * k) 8) (with_lane_of x.turn.bytes.bytes k c.args.value)) c.port.view_is
