use Rattle.std.proofs.Common.{rules}
use Rattle.line_generic.specs.Steps.{ghost_of}
use Rattle.line_generic.proofs.Releasing.{carries_told, told_by}
use Rattle.line_generic.proofs.accept.forward_closed.Goals as goal

pub release-requires : goal.release-requires
release-requires g c = record {
  seat = search rules;
  mask_fits = search rules;
  of_one_node = search rules;
  nodes = search rules;
  line = let y = c.requires.at_turn in (y.0, y.1, y.2.has, carries_told g.K.Keep.allows (ghost_of g.Q.DisciplineSpec.phases.initial c.args.seat.now) y.0 y.2 y.3, y.3);
}

pub returns : goal.returns
returns g c = record {
  advances = search rules;
  count = let y = c.requires.at_turn in (c.release.ensures.hands_over.releases y.0 y.1).count;
  told = let y = c.requires.at_turn in
      (c.release.ensures.hands_over.in_state, told_by (ghost_of g.Q.DisciplineSpec.phases.initial c.args.seat.now) (ghost_of g.Q.DisciplineSpec.phases.initial c.release.new.seat) y.0 y.2 y.3 c.release.ensures.advances.advances.extends (c.release.ensures.hands_over.releases y.0 y.1));
  not_held = search rules;
  unpark = search rules;
  names_wake_word = search rules;
  bound = search rules;
}
