use Rattle.qolb_draw.proofs.svg.push_sign_end.Goals as goal

pub returns : goal.returns
returns g c = rw c.x.ensures.place at c.in_ok-push_all.ensures
