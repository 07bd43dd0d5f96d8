use Rattle.std.proofs.Common.{◌≡◌}
use Rattle.test_model.proofs.tests.plain.expect_run.Given as goal

abbrev pub invariant-loop-node : goal.invariant-loop-node
invariant-loop-node g l = l.line.nodes ≡ l.nodes
