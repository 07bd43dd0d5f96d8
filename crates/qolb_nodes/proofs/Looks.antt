-- Proof that a poll has the same effect as a wait that polls only once.
use Rattle.std.proofs.Common.{arith}
use Rattle.qolb_nodes.specs.declared.answer.Answer.{Answer}
use Rattle.qolb_nodes.specs.declared.any_node.AnyNode.{AnyNode}
use Rattle.qolb_nodes.specs.Calls.{Polls, Waits}

pub poll_of_wait : (was now : AnyNode) (a : Answer) → Waits 1 was now a → Polls was now a
poll_of_wait was now a waits = record {
  misuse = λ no. waits.misuse (λ both. no both.0);
  does = λ queued.
      let done = waits.does (queued, omega arith) in
      let within = done.2.1 in
      (done.0, done.1, (done.2.0, omega (arith, within.some, within.at_most), done.2.2, done.2.3));
  line = waits.line;
}
