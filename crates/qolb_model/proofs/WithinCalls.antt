-- Lemmas about the number of atomic steps that a port takes over several calls.
use Rattle.std.proofs.Common.{◌≡◌, ℕ, ◌+◌, ◌*◌, ◌≤◌, ap, sym, ◌∙◌, arith}
use Rattle.std.proofs.Math.Nat.{add-mul}
use Rattle.qolb_model.specs.Counting.{Counters, IsWithinCalls}

-- no call
pub no_call : (max_steps others : ℕ) (now : Counters) → IsWithinCalls max_steps others now now
no_call max_steps others now = record { polls = 0; poll_count = omega arith; total_steps = omega arith }

module _ (max_steps : ℕ) (old new : Counters) (total_steps : new.total_steps ≡ old.total_steps + new.steps) (bound : new.steps ≤ max_steps) where
  -- a call that is no poll
  pub one_call : new.poll_count ≡ old.poll_count → IsWithinCalls max_steps 1 old new
  one_call same = record { polls = 0; poll_count = omega arith; total_steps = omega arith }

  -- a poll
  pub one_poll : new.poll_count ≡ old.poll_count + 1 → IsWithinCalls max_steps 0 old new
  one_poll more = record { polls = 1; poll_count = more; total_steps = omega arith }

-- some calls, followed by others
pub calls_then : (max_steps a b : ℕ) (x y z : Counters) → IsWithinCalls max_steps a x y → IsWithinCalls max_steps b y z → IsWithinCalls max_steps (a + b) x z
calls_then max_steps a b x y z f s =
    let both : (f.polls + s.polls + (a + b)) * max_steps ≡ (f.polls + a) * max_steps + (s.polls + b) * max_steps
    = ap (λ n. n * max_steps) (let same : f.polls + s.polls + (a + b) ≡ f.polls + a + (s.polls + b) = omega arith in same) ∙ add-mul (f.polls + a) (s.polls + b) max_steps in
    let m : ℕ = (f.polls + a) * max_steps in
    let n : ℕ = (s.polls + b) * max_steps in
    record {
      polls = f.polls + s.polls;
      poll_count = omega (arith, f.poll_count, s.poll_count);
      total_steps = added x.total_steps y.total_steps z.total_steps ((f.polls + a) * max_steps) ((s.polls + b) * max_steps) ((f.polls + s.polls + (a + b)) * max_steps) f.total_steps s.total_steps both;
    }
  where
    added : (x y z m n k : ℕ) → y ≤ x + m → z ≤ y + n → k ≡ m + n → z ≤ x + k
    added x y z m n k first second is = omega arith
