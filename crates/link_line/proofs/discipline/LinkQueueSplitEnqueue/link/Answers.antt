use Rattle.std.proofs.Common.{rules, arith}
use Rattle.link_line.proofs.discipline.LinkQueueSplitEnqueue.link.Goals as goal

pub returns : goal.returns
returns g c = record {
  advances = search rules;
  links = record {
    links = c.link.ensures.links;
    queued = λ no'. let e = c.link.ensures.queued no' in (e.0, e.1 c.args.token);
    at_turn = λ yes'. let e = c.link.ensures.at_turn yes' in (e.0, e.1, e.2 c.args.token);
  };
}

pub link-requires-clause-in_range : goal.link-requires-clause-in_range
link-requires-clause-in_range g c = let high = c.requires.in_state.stands.1 in (high.0, omega (arith, high.1, c.requires.seat.1.3))
