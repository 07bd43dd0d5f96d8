use Rattle.qolb_draw.proofs.step_svg.push_home.Goals as goal

pub returns : goal.returns
returns g c = rw c.x.ensures.place at c.in_ok-push_all.ensures
