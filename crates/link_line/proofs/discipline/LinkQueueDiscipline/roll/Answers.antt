use Rattle.std.proofs.Common.{rules}
use Rattle.link_line.proofs.discipline.LinkQueueDiscipline.roll.Goals as goal

pub returns : goal.returns
returns g c = record {
  advances = search rules;
  rolls = record {
    count = c.roll.ensures.count;
    withdrawn = λ no'. let e = c.roll.ensures.withdrawn no' in (e.0, e.1 c.args._token);
    at_turn = λ yes'. let e = c.roll.ensures.at_turn yes' in (e.0, e.1, e.2 c.args._token);
  };
}
