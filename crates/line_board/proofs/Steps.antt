-- Lemmas about which tasks are put on a board and taken from it in a single turn.
use Rattle.std.proofs.Common.{◌≡◌, inl, inr, ℕ, suc, ◌-◌, List, [], ◌∷◌, ◌++◌, length, take, drop, refl, ap, arith, append-nil, length-append}
use Rattle.std.proofs.Math.Nat.{sub_self}
use Rattle.std.proofs.Math.Seq.{drop-length, drop-append_seam}
use Rattle.line_board.specs.Board.{Stand}
use Rattle.line_board.specs.Law.{IsStep}
use Rattle.line_board.specs.PutsAndTakes.{put_between, taken_between, standing}

-- the tasks on the line are those that it is a board of
pub standing-stand : (bytes tasks : List ℕ) → Stand bytes tasks → standing bytes ≡ tasks
standing-stand bytes tasks e = rw e refl

take_none : (n : ℕ) (xs : List ℕ) → n ≡ 0 → take n xs ≡ []
take_none n xs e = rw e refl

-- if the tasks stay, nothing is put and nothing taken
pub put_same : (xs : List ℕ) → put_between xs xs ≡ []
put_same xs = drop-length xs

pub taken_same : (xs : List ℕ) → taken_between xs xs ≡ []
taken_same xs = take_none (length xs - length xs) xs (sub_self (length xs))

-- a task that is appended is put
pub put_last : (xs : List ℕ) (x : ℕ) → put_between xs (xs ++ x ∷ []) ≡ x ∷ []
put_last xs x = drop-append_seam xs (x ∷ [])

fewer : (xs : List ℕ) (x : ℕ) → length xs - length (xs ++ x ∷ []) ≡ 0
fewer xs x = omega (arith, length-append xs (x ∷ []))

pub taken_last : (xs : List ℕ) (x : ℕ) → taken_between xs (xs ++ x ∷ []) ≡ []
taken_last xs x = take_none (length xs - length (xs ++ x ∷ [])) xs (fewer xs x)

-- a first task that is removed is taken
past_end : (xs : List ℕ) → drop (suc (length xs)) xs ≡ []
past_end [] = refl
past_end (x ∷ xs) = past_end xs

pub put_first : (x : ℕ) (xs : List ℕ) → put_between (x ∷ xs) xs ≡ []
put_first x xs = past_end xs

one_more : (xs : List ℕ) → suc (length xs) - length xs ≡ 1
one_more xs = omega arith

pub taken_first : (x : ℕ) (xs : List ℕ) → taken_between (x ∷ xs) xs ≡ x ∷ []
taken_first x xs = ap (λ n. take n (x ∷ xs)) (one_more xs)

-- the tasks before and those put are the tasks taken and those after
pub step_balances : (before after : List ℕ) → IsStep before after → before ++ put_between before after ≡ taken_between before after ++ after
step_balances before after (inl e) = rw (e, put_same before, taken_same before) (append-nil before)
step_balances before after (inr (inl (task, e))) = rw (e, put_last before task, taken_last before task) refl
step_balances before after (inr (inr (task, e))) = rw (e, put_first task after, taken_first task after) (append-nil (task ∷ after))
