-- Lemmas about a port that requests the line and waits for it.
use Rattle.std.proofs.Common.{◌≡◌, ◌≢◌, ℕ, ◌+◌, ◌<◌, ◌≤◌, List, refl, ◌∙◌, arith}
use Rattle.qolb_model.specs.declared.answer.Enq.{Enq}
use Rattle.qolb_model.specs.declared.answer.Enq.TheVariants as enq
use Rattle.qolb_model.proofs.Unserved.{unserved}
use Rattle.qolb_model.specs.declared.answer.Out.{Out}
use Rattle.qolb_model.specs.declared.answer.Out.TheVariants as out
use Rattle.qolb_model.specs.declared.view.View.{View}
use Rattle.qolb_model.specs.declared.write.Write.{Write}
use Rattle.qolb_model.specs.declared.answer.Poll.TheVariants as poll
use Rattle.qolb_model.specs.Views.{Extends}
use Rattle.qolb_model.specs.Calls.{Enqueues, Polls, Withdraws}
use Rattle.qolb_model.specs.declared.acquire.Acquired.{Acquired}
use Rattle.qolb_model.specs.declared.acquire.Acquired.TheVariants as outcome
use Rattle.qolb_model.specs.Acquiring.{AcquiresBounded}
use Rattle.qolb_model.proofs.Going.{continues_on, asks_goes, joined_goes}

-- the outcome of a request that was granted at once, told that the line is closed, or answered busy
asked_once :
    (allows : List ℕ → List ℕ → Type 0) (old new : View) (turn : Write) (answer : Acquired) (now : Enq)
    → Enqueues allows old new turn now
    → (answer ≡ outcome.Busy → now ≡ enq.Busy) → (answer ≢ outcome.Busy → now ≢ enq.Busy) → (answer ≡ outcome.Granted → now ≡ enq.Granted) → answer ≢ outcome.Late → (answer ≡ outcome.Closed → now ≡ enq.Closed)
    → AcquiresBounded allows old new turn answer
asked_once allows old new turn answer now e busy some granted late told = record {
  continues = e.continues;
  busy = λ is. e.busy (busy is);
  asks = λ is. e.asks (some is);
  joined = λ is. e.joined (some is);
  granted = λ is. e.granted (granted is);
  late = λ is. absurd (late is);
  told = λ is. e.told (told is);
  unserved = unserved old new e.continues.history answer (λ is. e.busy (busy is)) (λ is. e.asks (some is)) (λ is. absurd (late is)) (λ is. e.told (told is));
}

-- the outcome of a request that waited and then was withdrawn, granted, or told that the line is closed
acquired :
    (allows : List ℕ → List ℕ → Type 0) (old mid new : View) (first turn : Write) (answer : Acquired) (ended : Out)
    → Enqueues allows old mid first enq.Queued → Withdraws allows mid new turn ended
    → answer ≢ outcome.Busy → (answer ≡ outcome.Granted → ended ≡ out.Granted) → (answer ≡ outcome.Late → ended ≡ out.Withdrawn) → (answer ≡ outcome.Closed → ended ≡ out.Closed)
    → AcquiresBounded allows old new turn answer
acquired allows old mid new first turn answer ended e w some granted late told = record {
  continues = continues_on allows old mid new e.continues.extends w.continues;
  busy = λ is. absurd (some is);
  asks = λ _. asks_goes old mid new (e.asks (λ is. cc is)) w.continues.extends w.count;
  joined = λ _. joined_goes mid new (e.joined (λ is. cc is)) w.continues.extends w.count;
  granted = λ is. w.granted (granted is);
  late = λ is. w.withdrawn (late is);
  told = λ is. w.told (told is);
  unserved =
      unserved old new w.continues.history answer (λ is. absurd (some is)) (λ _. asks_goes old mid new (e.asks (λ is. cc is)) w.continues.extends w.count)
      (λ is. w.withdrawn (late is)) (λ is. w.told (told is));
}

-- the outcome of a request: an answer at once
module _ (allows : List ℕ → List ℕ → Type 0) (old new : View) (turn : Write) where
  pub granted_at_once : Enqueues allows old new turn enq.Granted → AcquiresBounded allows old new turn outcome.Granted
  granted_at_once e = asked_once allows old new turn outcome.Granted enq.Granted e (λ is. cc is) (λ _ is. cc is) (λ _. refl) (λ is. cc is) (λ is. cc is)

  pub told_at_once : Enqueues allows old new turn enq.Closed → AcquiresBounded allows old new turn outcome.Closed
  told_at_once e = asked_once allows old new turn outcome.Closed enq.Closed e (λ is. cc is) (λ _ is. cc is) (λ is. cc is) (λ is. cc is) (λ _. refl)

  pub found_busy : Enqueues allows old new turn enq.Busy → AcquiresBounded allows old new turn outcome.Busy
  found_busy e = asked_once allows old new turn outcome.Busy enq.Busy e (λ _. refl) (λ other _. other refl) (λ is. cc is) (λ is. cc is) (λ is. cc is)

-- the outcome of a request: an answer after a wait
module _ (allows : List ℕ → List ℕ → Type 0) (old mid new : View) (first turn : Write) (e : Enqueues allows old mid first enq.Queued) where
  pub granted_later : Withdraws allows mid new turn out.Granted → AcquiresBounded allows old new turn outcome.Granted
  granted_later w = acquired allows old mid new first turn outcome.Granted out.Granted e w (λ is. cc is) (λ _. refl) (λ is. cc is) (λ is. cc is)

  pub told_later : Withdraws allows mid new turn out.Closed → AcquiresBounded allows old new turn outcome.Closed
  told_later w = acquired allows old mid new first turn outcome.Closed out.Closed e w (λ is. cc is) (λ is. cc is) (λ is. cc is) (λ _. refl)

  pub withdrawn_later : Withdraws allows mid new turn out.Withdrawn → AcquiresBounded allows old new turn outcome.Late
  withdrawn_later w = acquired allows old mid new first turn outcome.Late out.Withdrawn e w (λ is. cc is) (λ is. cc is) (λ _. refl) (λ is. cc is)

-- the outcome of a wait: its polls changed nothing before the last call, which was a poll or a withdrawal
module _ (allows : List ℕ → List ℕ → Type 0) (old mid new : View) (turn : Write) (e : Extends old mid) (same : mid.count ≡ old.count) where
  pub granted_by_look : Polls allows mid new turn poll.Granted → Withdraws allows old new turn out.Granted
  granted_by_look p = record {
    continues = continues_on allows old mid new e p.continues;
    count = p.count ∙ same;
    withdrawn = λ is. cc is;
    granted = λ _. p.granted refl;
    told = λ is. cc is;
  }

  pub told_by_look : Polls allows mid new turn poll.Closed → Withdraws allows old new turn out.Closed
  told_by_look p = record {
    continues = continues_on allows old mid new e p.continues;
    count = p.count ∙ same;
    withdrawn = λ is. cc is;
    granted = λ is. cc is;
    told = λ _. p.told refl;
  }

  pub withdraws_later : (ended : Out) → Withdraws allows mid new turn ended → Withdraws allows old new turn ended
  withdraws_later ended w = record {
    continues = continues_on allows old mid new e w.continues;
    count = w.count ∙ same;
    withdrawn = w.withdrawn;
    granted = w.granted;
    told = w.told;
  }

pub granted_in_time : out.Granted ≢ out.Withdrawn
granted_in_time is = cc is

pub told_in_time : out.Closed ≢ out.Withdrawn
told_in_time is = cc is

-- how often a port has looked: once more, while that is allowed, or as often as is allowed
module _ (first now looked : ℕ) (before : now ≡ first + looked) where
  pub one_look_more : (last : ℕ) → last ≡ now + 1 → last ≡ first + (looked + 1)
  one_look_more last more = omega arith

  pub looks_allowed : (patience last : ℕ) → last ≡ now + 1 → looked < patience → last ≤ first + patience
  looks_allowed patience last more left = omega arith

  pub all_looks : (patience : ℕ) → patience ≤ looked → looked ≤ patience → now ≡ first + patience
  all_looks patience low high = omega arith
