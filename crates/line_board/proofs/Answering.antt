-- Lemmas about the answers of the calls on a board, both if the line was granted and if it was not.
use Rattle.std.proofs.Common.{◌≡◌, ℕ, ◌+◌, true, length, ap, ◌∙◌, subst, refl}
use Rattle.qolb_model.specs.declared.view.View.{View}
use Rattle.qolb_model.specs.declared.write.Write.{Write}
use Rattle.qolb_model.specs.PortStates.{may_ask}
use Rattle.qolb_model.specs.Sound.{Continues}
use Rattle.qolb_model.specs.declared.acquire.Acquired.TheVariants as outcome
use Rattle.qolb_model.specs.Acquiring.{AcquiresBounded}
use Rattle.line_board.specs.declared.answer.Put.TheVariants as put
use Rattle.line_board.specs.declared.answer.Take.TheVariants as take
use Rattle.line_board.specs.declared.board.TheConstants.{MAX_TASKS}
use Rattle.line_board.specs.Law.{Changes}
use Rattle.line_board.specs.Calls.{HasPut, HasTaken, HasFound, Puts, Takes}
use Rattle.qolb_model.specs.declared.answer.PortState.TheVariants.{Shut}
use Rattle.qolb_model.proofs.Going.{continues_on, asks_goes, joined_goes}
use Rattle.qolb_model.proofs.OwnTurns.{quiet_after}

module _ (old mid new : View) (turn : Write) (acquired : AcquiresBounded Changes old mid turn outcome.Granted) (goes_on : Continues Changes mid new) (same : new.count ≡ mid.count) (quiet : may_ask new.state ≡ true) where
  pub stored : (task : ℕ) → HasPut task new → Puts task old new put.Stored
  stored task has = record {
    continues = continues_on Changes old mid new acquired.continues.extends goes_on;
    may_ask = quiet;
    asks = λ _. asks_goes old mid new (acquired.asks (λ e. cc e)) goes_on.extends same;
    joined = λ _. joined_goes mid new (acquired.joined (λ e. cc e)) goes_on.extends same;
    stored = λ _. has;
    full = λ e. absurd (cc e);
    late = λ e. absurd (cc e);
    told = λ e. absurd (cc e);
    busy = λ e. absurd (cc e);
    unserved = λ other _. absurd (other refl);
  }

  pub full : (task : ℕ) → HasFound MAX_TASKS new → Puts task old new put.Full
  full task has = record {
    continues = continues_on Changes old mid new acquired.continues.extends goes_on;
    may_ask = quiet;
    asks = λ _. asks_goes old mid new (acquired.asks (λ e. cc e)) goes_on.extends same;
    joined = λ _. joined_goes mid new (acquired.joined (λ e. cc e)) goes_on.extends same;
    stored = λ e. absurd (cc e);
    full = λ _. has;
    late = λ e. absurd (cc e);
    told = λ e. absurd (cc e);
    busy = λ e. absurd (cc e);
    unserved = λ _ other. absurd (other refl);
  }

  pub taken : (task : ℕ) → HasTaken task new → Takes old new (take.Task task)
  taken task has = record {
    continues = continues_on Changes old mid new acquired.continues.extends goes_on;
    may_ask = quiet;
    asks = λ _. asks_goes old mid new (acquired.asks (λ e. cc e)) goes_on.extends same;
    joined = λ _. joined_goes mid new (acquired.joined (λ e. cc e)) goes_on.extends same;
    task = λ other e. let same_task : task ≡ other = cc e in subst (λ t. HasTaken t new) same_task has;
    empty = λ e. absurd (cc e);
    late = λ e. absurd (cc e);
    told = λ e. absurd (cc e);
    busy = λ e. absurd (cc e);
    unserved = λ other _. absurd (other task refl);
  }

  pub empty : HasFound 0 new → Takes old new take.Empty
  empty has = record {
    continues = continues_on Changes old mid new acquired.continues.extends goes_on;
    may_ask = quiet;
    asks = λ _. asks_goes old mid new (acquired.asks (λ e. cc e)) goes_on.extends same;
    joined = λ _. joined_goes mid new (acquired.joined (λ e. cc e)) goes_on.extends same;
    task = λ task e. absurd (cc e);
    empty = λ _. has;
    late = λ e. absurd (cc e);
    told = λ e. absurd (cc e);
    busy = λ e. absurd (cc e);
    unserved = λ _ other. absurd (other refl);
  }

-- a port that was not granted the line
module _ (old new : View) (turn : Write) (acquired : AcquiresBounded Changes old new turn outcome.Late) where
  pub put_late : (task : ℕ) → Puts task old new put.Late
  put_late task = record {
    continues = acquired.continues;
    may_ask = ap may_ask (acquired.late refl).state;
    asks = λ _. acquired.asks (λ e. cc e);
    joined = λ _. acquired.joined (λ e. cc e);
    stored = λ e. absurd (cc e);
    full = λ e. absurd (cc e);
    late = λ _. acquired.late refl;
    told = λ e. absurd (cc e);
    busy = λ e. absurd (cc e);
    unserved = λ _ _. acquired.unserved (λ e. cc e);
  }

  pub take_late : Takes old new take.Late
  take_late = record {
    continues = acquired.continues;
    may_ask = ap may_ask (acquired.late refl).state;
    asks = λ _. acquired.asks (λ e. cc e);
    joined = λ _. acquired.joined (λ e. cc e);
    task = λ task e. absurd (cc e);
    empty = λ e. absurd (cc e);
    late = λ _. acquired.late refl;
    told = λ e. absurd (cc e);
    busy = λ e. absurd (cc e);
    unserved = λ _ _. acquired.unserved (λ e. cc e);
  }

module _ (old new : View) (turn : Write) (acquired : AcquiresBounded Changes old new turn outcome.Closed) where
  quiet_told : may_ask new.state ≡ true
  quiet_told = let told = acquired.told refl in quiet_after (length told.before + 1) Shut new refl told.releases

  pub put_closed : (task : ℕ) → Puts task old new put.Closed
  put_closed task = record {
    continues = acquired.continues;
    may_ask = quiet_told;
    asks = λ _. acquired.asks (λ e. cc e);
    joined = λ _. acquired.joined (λ e. cc e);
    stored = λ e. absurd (cc e);
    full = λ e. absurd (cc e);
    late = λ e. absurd (cc e);
    told = λ _. acquired.told refl;
    busy = λ e. absurd (cc e);
    unserved = λ _ _. acquired.unserved (λ e. cc e);
  }

  pub take_closed : Takes old new take.Closed
  take_closed = record {
    continues = acquired.continues;
    may_ask = quiet_told;
    asks = λ _. acquired.asks (λ e. cc e);
    joined = λ _. acquired.joined (λ e. cc e);
    task = λ task e. absurd (cc e);
    empty = λ e. absurd (cc e);
    late = λ e. absurd (cc e);
    told = λ _. acquired.told refl;
    busy = λ e. absurd (cc e);
    unserved = λ _ _. acquired.unserved (λ e. cc e);
  }

module _ (old new : View) (turn : Write) (acquired : AcquiresBounded Changes old new turn outcome.Busy) (quiet : may_ask old.state ≡ true) where
  pub put_busy : (task : ℕ) → Puts task old new put.Busy
  put_busy task = record {
    continues = acquired.continues;
    may_ask = ap may_ask (acquired.busy refl).state ∙ quiet;
    asks = λ other. absurd (other refl);
    joined = λ other. absurd (other refl);
    stored = λ e. absurd (cc e);
    full = λ e. absurd (cc e);
    late = λ e. absurd (cc e);
    told = λ e. absurd (cc e);
    busy = λ _. acquired.busy refl;
    unserved = λ _ _. acquired.unserved (λ e. cc e);
  }

  pub take_busy : Takes old new take.Busy
  take_busy = record {
    continues = acquired.continues;
    may_ask = ap may_ask (acquired.busy refl).state ∙ quiet;
    asks = λ other. absurd (other refl);
    joined = λ other. absurd (other refl);
    task = λ task e. absurd (cc e);
    empty = λ e. absurd (cc e);
    late = λ e. absurd (cc e);
    told = λ e. absurd (cc e);
    busy = λ _. acquired.busy refl;
    unserved = λ _ _. acquired.unserved (λ e. cc e);
  }

-- the answer of a granted turn is not `Late`
pub task_not_late : (task : ℕ) → take.Task task ≡ take.Late → ⊥
task_not_late task e = cc e

pub empty_not_late : take.Empty ≡ take.Late → ⊥
empty_not_late e = cc e
