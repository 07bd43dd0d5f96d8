-- Proof that a guard remains valid no matter what its thread writes to the lock's value.
use Rattle.std.proofs.Common.{◌≡◌, ℕ, List, [], ◌∷◌, ap, arith}
use Rattle.atomic_table.specs.Table.{rest}
use Rattle.fair_lock.specs.declared.guard.Guard.{Guard}
use Rattle.fair_lock.specs.Turns.{IsGuard, with_value}

pub kept_guard : {T : Type 0} (g : Guard T) → IsGuard g → (w : T) → IsGuard (with_value g w)
unfolding IsGuard
kept_guard {T} g is w = (
  (
    is.0.0,
    record {
      nothing = λ none_. absurd (let one = g.lock.now.sized.1 in omega arith);
      at_home = λ _ out. absurd (is.1.2 out);
      carries = λ one served. (w, ap (λ (l : List (ℕ × T)). (0, w) ∷ l) (ap rest (is.0.1.carries one served).1));
      timely = is.0.1.timely;
    },
    is.0.2,
  ),
  is.1,
)

pub guard_carries : {T : Type 0} (g : Guard T) → IsGuard g → (y : T) × (g.seat.me.1 ≡ (0, y) ∷ [])
unfolding IsGuard
guard_carries g is = is.0.1.carries g.lock.now.sized.1 is.1.2

pub guard_table : {T : Type 0} (g : Guard T) → IsGuard g → g.seat.table_id ≡ g.lock.now.table.shared.table_id
unfolding IsGuard
guard_table g is = is.0.0
