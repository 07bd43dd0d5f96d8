use Rattle.std.proofs.Common.{rules}
use Rattle.link_line.proofs.discipline.LinkQueueSplitEnqueue.prepend.Goals as goal

pub returns : goal.returns
returns g c = record {
  advances = search rules;
  request = record {
    stays = search rules;
    busy = search rules;
    asks = search rules;
    joined = search rules;
    queued = search rules;
    at_turn = λ is_at_turn. let e = c.request.ensures.at_turn is_at_turn in (e.0, e.1, e.2 c.request.result.token);
  };
  steps_if_busy = search rules;
  steps = search rules;
  bound = search rules;
}
