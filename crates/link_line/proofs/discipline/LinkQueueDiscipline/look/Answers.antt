use Rattle.std.proofs.Common.{rules}
use Rattle.link_line.proofs.discipline.LinkQueueDiscipline.look.Goals as goal

pub returns : goal.returns
returns g c = record {
  advances = search rules;
  polls = record {
    count = c.load.ensures.count;
    queued = λ no'. let e = c.load.ensures.queued no' in (e.0, e.1 c.args._token);
    at_turn = λ yes'. let e = c.load.ensures.at_turn yes' in (e.0, e.1, e.2 c.args._token);
  };
}
