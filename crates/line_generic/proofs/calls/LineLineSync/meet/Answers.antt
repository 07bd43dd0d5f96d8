use Rattle.std.proofs.Common.{subst}
use Rattle.qolb_model.specs.Calls.{MergesViews}
use Rattle.qolb_model.proofs.Merging.{tell_swapped}
use Rattle.line_generic.specs.Ports.{PortModel}
use Rattle.line_generic.specs.Steps.{ghost_of}
use Rattle.line_generic.proofs.calls.LineLineSync.meet.Goals as goal

pub returns-then-not-holds-clause-tell : goal.returns-then-not-holds-clause-tell
returns-then-not-holds-clause-tell g c = let f = g.Q.DisciplineSpec.phases.initial in subst (λ (z : PortModel × PortModel). MergesViews g.K.Keep.allows z.0.view z.1.view (ghost_of f c.meet_seats.new.a).view (ghost_of f c.meet_seats.new.b).view) (λ i. (c.a.view_is i, c.b.view_is i)) c.meet_seats.ensures.tell

pub returns-then-not-holds-2-clause-tell : goal.returns-then-not-holds-2-clause-tell
returns-then-not-holds-2-clause-tell g c = let m = c.meet_seats-then-not-holds-2 in let f = g.Q.DisciplineSpec.phases.initial in
    subst (λ (z : PortModel × PortModel). MergesViews g.K.Keep.allows z.0.view z.1.view (ghost_of f m.new.b).view (ghost_of f m.new.a).view) (λ i. (c.a.view_is i, c.b.view_is i)) (tell_swapped m.ensures.tell)
