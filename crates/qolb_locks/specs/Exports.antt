-- The form of what exported functions guarantee: a statement about the lock to which the given reference refers, and
-- about the answer. The definitions in this file were made for this project; none is taken from the literature.
use Rattle.std.specs.Prelude.{◌≡◌, ℕ, Option, Some}
use Rattle.qolb_locks.specs.declared.answer.Answer.{Answer}
use Rattle.qolb_locks.specs.declared.answer.Answer.TheVariants as answer
use Rattle.qolb_locks.specs.declared.lock.Lock.{Lock}

-- C's number of an answer
abbrev pub number_of : Answer → ℕ
number_of answer.Done = 0
number_of answer.Granted = 1
number_of answer.Waiting = 3
number_of answer.Withdrawn = 5
number_of answer.Closed = 6
number_of answer.Busy = 7
number_of answer.Misuse = 8
number_of answer.NoMemory = 9
number_of answer.BadBargingLimit = 10
number_of answer.Far = 16
number_of answer.Asleep = 17
number_of answer.Full = 18
number_of answer.Unfinished = 19

-- the claim holds of the lock that the reference refers to
abbrev pub Of : Option Lock → (Lock → Type 0) → Type 0
Of lock P = (l : Lock) × (lock ≡ Some l) × P l

-- the number returned is that of an answer, and the claim holds of the lock and this answer
abbrev pub Answers : Option Lock → ℕ → (Lock → Answer → Type 0) → Type 0
Answers lock n P = (l : Lock) × (a : Answer) × (lock ≡ Some l) × (n ≡ number_of a) × P l a
