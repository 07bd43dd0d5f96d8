use Rattle.qolb_draw.proofs.step_svg.push_lies.Goals as goal

pub returns : goal.returns
returns g c =
    rw (c.class_of_place.ensures, c.x.ensures.place, c.y.ensures.place, c.row_of_place.ensures, c.place_name.ensures, c.whose.ensures) at c.in_ok-push_all.ensures
