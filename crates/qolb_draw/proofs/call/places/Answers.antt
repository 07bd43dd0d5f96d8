use Rattle.std.proofs.Common.{ap, ◌∙◌, arith, eq-eqb, ne_eqb}
use Rattle.qolb_draw.proofs.Texts.{place_kept, place_left_out, all_places}
use Rattle.qolb_draw.proofs.call.places.Goals as goal
use Rattle.qolb_draw.proofs.call.places.Goals.{then-mask-place-eq1+in_ok-push, else-mask-place-eq1}

pub loop-place-preserved : goal.loop-place-preserved
loop-place-preserved g c = elim c.if-mask-place-eq1.branch [
  | then-mask-place-eq1+in_ok-push w ↦ place_kept c.args.mask.0 c.loop-place.place c.loop-place.places.items _ c.loop-place.invariant (eq-eqb _ _ w.if-mask-place-eq1.true) (ap (λ v. v.items) w.places-is ∙ w.in_ok-push.ensures.items)
  | else-mask-place-eq1 w ↦ place_left_out c.args.mask.0 c.loop-place.place c.loop-place.places.items _ c.loop-place.invariant (ne_eqb _ _ w.if-mask-place-eq1.false) (ap (λ v. v.items) w.places-is)
]

pub returns : goal.returns
returns g c = all_places c.args.mask.0 c.loop-place.place c.loop-place.places.items c.loop-place.invariant (omega arith)
