-- Proof that a board which was opened empty is a queue. The tasks that were put on the board are the tasks that were
-- taken from it, followed by the tasks that are still on it.
use Rattle.std.proofs.Common.{◌≡◌, ℕ, List, [], ◌∷◌, ◌++◌, zero, suc, replicate, refl, ap, sym, ◌∙◌, append-nil, append_assoc}
use Rattle.line_lanes.specs.Line.{zeros}
use Rattle.qolb_model.specs.declared.end.End.{End}
use Rattle.qolb_model.specs.declared.end.End.TheVariants.{Served, Gone, Told}
use Rattle.qolb_model.specs.Ends.{bytes_after, written}
use Rattle.qolb_model.specs.Kept.{AreAllowed}
use Rattle.qolb_model.proofs.Lists.{same_some}
use Rattle.line_board.specs.Board.{Stand}
use Rattle.line_board.specs.Law.{Changes}
use Rattle.line_board.specs.PutsAndTakes.{put_between, taken_between, standing, puts_of, takes_of, IsQueue}
use Rattle.line_board.proofs.Steps.{standing-stand, step_balances}

-- the puts and takes of two lists of ends, one after the other
pub puts-append : (bytes : List ℕ) (xs ys : List End) → puts_of bytes (xs ++ ys) ≡ puts_of bytes xs ++ puts_of (bytes_after bytes xs) ys
puts-append bytes [] ys = refl
puts-append bytes (Served write shut ∷ xs) ys =
    let put = put_between (standing bytes) (standing (written bytes write)) in
    ap (λ p. put ++ p) (puts-append (written bytes write) xs ys) ∙ sym (append_assoc put (puts_of (written bytes write) xs) (puts_of (bytes_after (written bytes write) xs) ys))
puts-append bytes (Gone ∷ xs) ys = puts-append bytes xs ys
puts-append bytes (Told ∷ xs) ys = puts-append bytes xs ys

pub takes-append : (bytes : List ℕ) (xs ys : List End) → takes_of bytes (xs ++ ys) ≡ takes_of bytes xs ++ takes_of (bytes_after bytes xs) ys
takes-append bytes [] ys = refl
takes-append bytes (Served write shut ∷ xs) ys =
    let taken = taken_between (standing bytes) (standing (written bytes write)) in
    ap (λ p. taken ++ p) (takes-append (written bytes write) xs ys) ∙ sym (append_assoc taken (takes_of (written bytes write) xs) (takes_of (bytes_after (written bytes write) xs) ys))
takes-append bytes (Gone ∷ xs) ys = takes-append bytes xs ys
takes-append bytes (Told ∷ xs) ys = takes-append bytes xs ys

-- passed requests put and take nothing
pub puts-passed : (bytes : List ℕ) (passed : ℕ) → puts_of bytes (replicate passed Gone) ≡ []
puts-passed bytes zero = refl
puts-passed bytes (suc passed) = puts-passed bytes passed

pub takes-passed : (bytes : List ℕ) (passed : ℕ) → takes_of bytes (replicate passed Gone) ≡ []
takes-passed bytes zero = refl
takes-passed bytes (suc passed) = takes-passed bytes passed

-- for a board with tasks: these and the puts are the takes and the tasks that are left
record Balances (tasks bytes : List ℕ) (ends : List End) : Type 0 where
  left : List ℕ
  stand : Stand (bytes_after bytes ends) left
  balance : tasks ++ puts_of bytes ends ≡ takes_of bytes ends ++ left

regroup : (tasks put puts taken takes after left : List ℕ) → tasks ++ put ≡ taken ++ after → after ++ puts ≡ takes ++ left → tasks ++ (put ++ puts) ≡ (taken ++ takes) ++ left
regroup tasks put puts taken takes after left e f =
    sym (append_assoc tasks put puts) ∙ (ap (λ p. p ++ puts) e ∙ (append_assoc taken after puts ∙ (ap (λ p. taken ++ p) f ∙ sym (append_assoc taken takes left))))

balances : (tasks bytes : List ℕ) (ends : List End) → Stand bytes tasks → AreAllowed Changes bytes ends → Balances tasks bytes ends
balances tasks bytes [] stand kept = record { left = tasks; stand = stand; balance = append-nil tasks }
balances tasks bytes (Served write shut ∷ ends) stand kept =
    let change = kept.0 in
    let was : change.before ≡ tasks = same_some (sym change.found ∙ stand) in
    let rest = balances change.after (written bytes write) ends change.left kept.1 in
    let found : standing bytes ≡ tasks = standing-stand bytes tasks stand in
    let leaves : standing (written bytes write) ≡ change.after = standing-stand (written bytes write) change.after change.left in
    let step : tasks ++ put_between tasks change.after ≡ taken_between tasks change.after ++ change.after = rw was at (step_balances change.before change.after change.step) in
    record {
      left = rest.left;
      stand = rest.stand;
      balance = rw (found, leaves) (regroup tasks (put_between tasks change.after) (puts_of (written bytes write) ends) (taken_between tasks change.after) (takes_of (written bytes write) ends) change.after rest.left step rest.balance);
    }
balances tasks bytes (Gone ∷ ends) stand kept =
    let rest = balances tasks bytes ends stand kept in
    record { left = rest.left; stand = rest.stand; balance = rest.balance }
balances tasks bytes (Told ∷ ends) stand kept =
    let rest = balances tasks bytes ends stand kept in
    record { left = rest.left; stand = rest.stand; balance = rest.balance }

-- the line of zeros has no task
pub zeros-stand : Stand zeros []
zeros-stand = refl

-- an empty board stays a queue under turns that keep the data invariant
pub board_queues : (ends : List End) → AreAllowed Changes zeros ends → IsQueue zeros ends (bytes_after zeros ends)
board_queues ends kept =
    let all = balances [] zeros ends zeros-stand kept in
    record { tasks = all.left; stand = all.stand; puts = all.balance }
