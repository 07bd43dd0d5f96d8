use Rattle.std.proofs.Common.{◌≡◌, ℕ, ◌+◌, ◌%◌, ◌^◌, arith}
use Rattle.example_line.proofs.Exchanging.{takes_one}
use Rattle.example_line.proofs.mailbox.take_all.Goals as goal

-- the sum with one more value
one_more : (sum value taken : ℕ) → sum ≡ taken % 2 ^ 64 → (sum + value) % 2 ^ 64 ≡ (taken + value) % 2 ^ 64
one_more sum value taken is = omega (arith, is)

pub loop-count-preserved : goal.loop-count-preserved
loop-count-preserved g c = record {
  belongs = c.take-sum.ensures.belongs;
  state = c.take-sum.ensures.state;
  takes = λ known.
      let before = c.loop-count.invariant.takes known in (
        before.0 + c.take-sum.result,
        one_more c.loop-count.sum c.take-sum.result before.0 before.1,
        takes_one _ _ _ c.loop-count._count before.0 c.take-sum.result c.take-sum.ensures.value before.2 (c.take-sum.ensures.moves before.2.places),
      );
}
