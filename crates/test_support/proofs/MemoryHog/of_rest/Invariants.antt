use Rattle.std.proofs.Common.{◌≤◌, length}
use Rattle.test_support.proofs.MemoryHog.of_rest.Given as goal

abbrev pub invariant-loop-power : goal.invariant-loop-power
invariant-loop-power l = length l.hog.blocks.items ≤ l.most

abbrev pub invariant-loop-grains : goal.invariant-loop-grains
invariant-loop-grains l = length l.hog.blocks.items ≤ l.most
