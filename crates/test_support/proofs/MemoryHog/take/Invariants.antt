use Rattle.std.proofs.Common.{◌≡◌, length}
use Rattle.test_support.proofs.MemoryHog.take.Given as goal

abbrev pub invariant-loop : goal.invariant-loop
invariant-loop l = length l.self.blocks.items ≡ l.counter
