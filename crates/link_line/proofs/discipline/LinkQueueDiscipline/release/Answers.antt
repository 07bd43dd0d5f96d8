use Rattle.std.proofs.Common.{rules, ℕ, sym, subst}
use Rattle.link_line.specs.Steps.{ghost_of, MayHandOff}
use Rattle.link_line.proofs.Released.{may_let_go}
use Rattle.link_line.proofs.discipline.LinkQueueDiscipline.release.Goals as goal

pub release-requires : goal.release-requires
release-requires g c = record {
  seat = search rules;
  of_one_node = search rules;
  none_passed = search rules;
  nodes = search rules;
  payload = let l = c.requires.line in (
    l.0,
    l.1,
    subst (λ (n : ℕ). MayHandOff g.K.Keep.allows (ghost_of c.args.seat.now) l.0 n) (sym c.requires.seat.1.0) (may_let_go g.K.Keep.allows (ghost_of c.args.seat.now) l.0 c.args._token l.2 l.3).0,
    l.4,
  );
}
