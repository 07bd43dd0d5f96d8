use Rattle.std.proofs.Common.{rules, arith, ap, ◌≡◌, ◌∙◌, [], ◌∷◌, ◌++◌}
use Rattle.line_generic.specs.NodeGhosts.{LineSeat}
use Rattle.line_generic.specs.Steps.{ghost_of}
use Rattle.line_generic.proofs.meeting.meet_seats.Goals as goal

-- the views of the seat that took in the other's
glued : {O : Type 0} (initial : O) (a b s o j : LineSeat O) → a.me.0 ≡ ghost_of initial a ∷ [] → b.me.0 ≡ ghost_of initial b ∷ [] → s.me ≡ a.me → o ≡ b → j.me ≡ (s.me.0 ++ o.me.0, s.me.1) → j.me ≡ (ghost_of initial a ∷ ghost_of initial b ∷ [], a.me.1)
glued initial a b s o j ea eb es eo ej = ej ∙ (λ i. ((es i).0 ++ (eo i).me.0, (es i).1)) ∙ (λ i. (ea i ++ eb i, a.me.1))

pub load-requires : goal.load-requires
load-requires g c =
    let all = glued g.Q.DisciplineSpec.phases.initial c.args.a.now c.args.b.now c.split_seat-empty_half.new.seat c.replace-other.result c.join_seat.new.seat c.requires.single.0 c.requires.single.1 c.split_seat-empty_half.ensures.2 c.replace-other.ensures.value c.join_seat.ensures.2 in
    (search rules, omega arith, g.met.Q.Discipline.meets c.args.table.now.key _ _ _ c.join_seat.new.seat.me (ghost_of g.Q.DisciplineSpec.phases.initial c.args.a.now) (ghost_of g.Q.DisciplineSpec.phases.initial c.args.b.now) (ap (λ m. m.0) all))
