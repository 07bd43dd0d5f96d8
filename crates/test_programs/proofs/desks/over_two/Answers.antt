use Rattle.std.proofs.Common.{List, [], ◌∷◌, sym, subst}
use Rattle.line_accounts.specs.Desks.{AreOver}
use Rattle.line_accounts.proofs.Accounted.{over_pair}
use Rattle.test_programs.proofs.desks.over_two.Goals as goal

pub returns-clause-over : goal.returns-clause-over
returns-clause-over g c =
    c.new.ensures.over c.in_ok-lines.lines.items
    (subst (λ (l : List g.row.L.Denot). AreOver g.L.LineSync.belongs l c.in_ok-ports.ports.items) (sym c.in_ok-lines.ensures)
    (subst (λ (p : List g.row.L-Port.Denot). AreOver g.L.LineSync.belongs (c.args.first ∷ c.args.second ∷ []) p) (sym c.in_ok-ports.ensures)
    (over_pair g.L.LineSync.belongs c.args.first c.args.second c.args.first_port c.args.second_port c.requires.first.of_line c.requires.second.of_line)))
