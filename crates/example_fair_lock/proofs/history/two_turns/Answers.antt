use Rattle.example_fair_lock.proofs.Chains.{chain_begins}
use Rattle.example_fair_lock.proofs.Fronts.{prefix_get}
use Rattle.example_fair_lock.proofs.history.two_turns.Goals as goal

pub returns-clause-begins : goal.returns-clause-begins
returns-clause-begins g c = chain_begins 0 c.longer.result c.longer.ensures.chain

pub returns-clause-first : goal.returns-clause-first
returns-clause-first g c = let one = c.in_ok-one.one in prefix_get one.front c.longer.result one.place one.turn c.longer.ensures.this one.there

pub returns-clause-second : goal.returns-clause-second
returns-clause-second g c = let two = c.in_ok-two.two in prefix_get two.front c.longer.result two.place two.turn c.longer.ensures.that two.there
