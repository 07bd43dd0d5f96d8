-- Lemmas about a thread that waits for a line. The thread makes a single request, possibly after attempts that were
-- answered `Busy`.
use Rattle.std.proofs.Common.{◌≡◌, ◌≢◌, ◌⊎◌, inl, inr, ℕ, ◌+◌, ◌<◌, ◌≤◌, true, List, length, refl, sym, ap, ◌∙◌, arith}
use Rattle.qolb_model.specs.declared.answer.Enq.{Enq}
use Rattle.qolb_model.specs.declared.answer.Enq.TheVariants as enq
use Rattle.qolb_model.specs.declared.answer.Poll.{Poll}
use Rattle.qolb_model.specs.declared.answer.Poll.TheVariants as poll
use Rattle.qolb_model.specs.declared.answer.PortState.TheVariants.{Left, Rolled}
use Rattle.qolb_model.specs.declared.config.LineConfig.{LineConfig}
use Rattle.qolb_model.specs.declared.write.Write.{Write}
use Rattle.qolb_model.specs.declared.view.View.{View}
use Rattle.qolb_model.specs.PortStates.{may_ask}
use Rattle.qolb_model.specs.Views.{Extends}
use Rattle.qolb_model.specs.Sound.{Continues, IsSound}
use Rattle.qolb_model.specs.Enqueueing.{IsBusy}
use Rattle.qolb_model.specs.AtTurn.{IsGranted}
use Rattle.qolb_model.specs.Calls.{Enqueues, Polls}
use Rattle.qolb_model.specs.Counting.{Counters}
use Rattle.qolb_model.proofs.Going.{continues_on, extends_self, asks_goes, asks_from, joined_goes}
use Rattle.qolb_model.proofs.Nearness.{few_turns}
use Rattle.line_blocking.specs.declared.timed.TimedAcquire.{TimedAcquire}
use Rattle.line_blocking.specs.declared.timed.TimedAcquire.TheVariants as timed_acquire
use Rattle.line_blocking.specs.declared.spin.Got.{Got}
use Rattle.line_blocking.specs.declared.spin.Got.TheVariants.{Granted, Closed}
use Rattle.line_blocking.specs.Acquiring.{Acquires, AcquiresTimed, ComesSoon, EndsWait, EndsWaitTimed}

-- a line has a node
some_node : (v : View) (config : LineConfig) → v.config ≡ config → 1 ≤ v.node → v.node ≤ config.nodes → length v.ends < length v.ends + v.config.nodes
some_node v config is low high = let e = ap (λ (t : LineConfig). t.nodes) is in omega arith

-- a port that was busy may make another request
pub quiet_busy : (old new : View) → IsBusy old new → may_ask new.state ≡ true
quiet_busy old new b = by b.was
  where
    by : (old.state ≡ Left) ⊎ (old.state ≡ Rolled) → may_ask new.state ≡ true
    by (inl was) = ap may_ask (b.state ∙ was)
    by (inr was) = ap may_ask (b.state ∙ was)

-- the request is granted or told at once
acquired_once : (allows : List ℕ → List ℕ → Type 0) (old mid new : View) (turn : Write) (answer : Enq) (got : Got)
    → Extends old mid → mid.count ≡ old.count → Enqueues allows mid new turn answer → answer ≢ enq.Busy
    → (got ≡ Granted → answer ≡ enq.Granted) → (got ≡ Closed → answer ≡ enq.Closed) → Acquires allows old new turn got
acquired_once allows old mid new turn answer got e same q asked granted closed = record {
  continues = continues_on allows old mid new e q.continues;
  asks = asks_from old mid new e same (q.asks asked);
  joined = q.joined asked;
  granted = λ is. q.granted (granted is);
  told = λ is. q.told (closed is);
}

-- the request is granted or told after a wait
pub acquired_waiting : (allows : List ℕ → List ℕ → Type 0) (old mid now new : View) (first turn : Write) (got : Got)
    → Extends old mid → mid.count ≡ old.count → Enqueues allows mid now first enq.Queued
    → EndsWait allows now new turn got → Acquires allows old new turn got
acquired_waiting allows old mid now new first turn got e same q w =
    let some : enq.Queued ≢ enq.Busy = λ is. cc is in record {
      continues = continues_on allows old mid new e (continues_on allows mid now new q.continues.extends w.continues);
      asks = asks_from old mid new e same (asks_goes mid now new (q.asks some) w.continues.extends w.count);
      joined = joined_goes now new (q.joined some) w.continues.extends w.count;
      granted = w.granted;
      told = w.told;
    }

-- the request is granted or told at once, within a time
acquired_at_once : (allows : List ℕ → List ℕ → Type 0) (old mid new : View) (turn : Write) (answer : Enq) (got : TimedAcquire)
    → Extends old mid → mid.count ≡ old.count → Enqueues allows mid new turn answer → answer ≢ enq.Busy
    → (got ≡ timed_acquire.Granted → answer ≡ enq.Granted) → (got ≡ timed_acquire.Closed → answer ≡ enq.Closed) → got ≢ timed_acquire.TimedOut → AcquiresTimed allows old new turn got
acquired_at_once allows old mid new turn answer got e same q asked granted closed some = record {
  continues = continues_on allows old mid new e q.continues;
  asks = λ _. asks_from old mid new e same (q.asks asked);
  joined = λ _. q.joined asked;
  granted = λ is. q.granted (granted is);
  told = λ is. q.told (closed is);
  late = λ is. absurd (some is);
}

-- the request is granted, told or withdrawn after a wait
pub acquired_within : (allows : List ℕ → List ℕ → Type 0) (old mid now new : View) (first turn : Write) (got : TimedAcquire)
    → Extends old mid → mid.count ≡ old.count → Enqueues allows mid now first enq.Queued
    → EndsWaitTimed allows now new turn got → AcquiresTimed allows old new turn got
acquired_within allows old mid now new first turn got e same q w =
    let some : enq.Queued ≢ enq.Busy = λ is. cc is in
    let asks = asks_from old mid new e same (asks_goes mid now new (q.asks some) w.continues.extends w.count) in
    let joined = joined_goes now new (q.joined some) w.continues.extends w.count in record {
      continues = continues_on allows old mid new e (continues_on allows mid now new q.continues.extends w.continues);
      asks = λ _. asks;
      joined = λ _. joined;
      granted = w.granted;
      told = w.told;
      late = λ is. inl (asks, joined, w.late is);
    }

-- the request is granted or told at a poll, after polls that answered `Waiting`
polled : (allows : List ℕ → List ℕ → Type 0) (old mid new : View) (turn : Write) (answer : Poll) (got : Got)
    → Extends old mid → mid.count ≡ old.count → Polls allows mid new turn answer
    → (got ≡ Granted → answer ≡ poll.Granted) → (got ≡ Closed → answer ≡ poll.Closed) → EndsWait allows old new turn got
polled allows old mid new turn answer got e same p granted closed = record {
  continues = continues_on allows old mid new e p.continues;
  count = p.count ∙ same;
  granted = λ is. p.granted (granted is);
  told = λ is. p.told (closed is);
}

-- a wait without a timeout, as a wait that ended in time
in_time : (allows : List ℕ → List ℕ → Type 0) (old new : View) (turn : Write) (got : Got) (timed : TimedAcquire)
    → EndsWait allows old new turn got → (timed ≡ timed_acquire.Granted → got ≡ Granted) → (timed ≡ timed_acquire.Closed → got ≡ Closed)
    → timed ≢ timed_acquire.TimedOut → EndsWaitTimed allows old new turn timed
in_time allows old new turn got timed w granted closed some = record {
  continues = w.continues;
  count = w.count;
  granted = λ is. w.granted (granted is);
  told = λ is. w.told (closed is);
  late = λ is. absurd (some is);
}

-- an answer of a poll
module _ (allows : List ℕ → List ℕ → Type 0) (old mid new : View) (turn : Write) (e : Extends old mid) (same : mid.count ≡ old.count) where
  pub polled_granted : Polls allows mid new turn poll.Granted → EndsWait allows old new turn Granted
  polled_granted p = polled allows old mid new turn poll.Granted Granted e same p (λ _. refl) (λ is. cc is)

  pub polled_told : Polls allows mid new turn poll.Closed → EndsWait allows old new turn Closed
  polled_told p = polled allows old mid new turn poll.Closed Closed e same p (λ is. cc is) (λ _. refl)

  pub polled_granted_in_time : Polls allows mid new turn poll.Granted → EndsWaitTimed allows old new turn timed_acquire.Granted
  polled_granted_in_time p = in_time allows old new turn Granted timed_acquire.Granted (polled_granted p) (λ _. refl) (λ is. cc is) (λ is. cc is)

  pub polled_told_in_time : Polls allows mid new turn poll.Closed → EndsWaitTimed allows old new turn timed_acquire.Closed
  polled_told_in_time p = in_time allows old new turn Closed timed_acquire.Closed (polled_told p) (λ is. cc is) (λ _. refl) (λ is. cc is)

-- the request is withdrawn, granted or told after a poll that answered `Waiting`
pub waits_on : (allows : List ℕ → List ℕ → Type 0) (old mid now new : View) (polled turn : Write) (got : TimedAcquire) → Extends old mid → mid.count ≡ old.count
    → Polls allows mid now polled poll.Waiting → EndsWaitTimed allows now new turn got → EndsWaitTimed allows old new turn got
waits_on allows old mid now new polled turn got e same p w = record {
  continues = continues_on allows old mid new e (continues_on allows mid now new p.continues.extends w.continues);
  count = w.count ∙ (p.count ∙ same);
  granted = w.granted;
  told = w.told;
  late = w.late;
}

-- an answer at once
module _ (allows : List ℕ → List ℕ → Type 0) (old mid new : View) (turn : Write) (e : Extends old mid) (same : mid.count ≡ old.count) where
  pub granted_at_once : Enqueues allows mid new turn enq.Granted → Acquires allows old new turn Granted
  granted_at_once q = acquired_once allows old mid new turn enq.Granted Granted e same q (λ is. cc is) (λ _. refl) (λ is. cc is)

  pub told_at_once : Enqueues allows mid new turn enq.Closed → Acquires allows old new turn Closed
  told_at_once q = acquired_once allows old mid new turn enq.Closed Closed e same q (λ is. cc is) (λ is. cc is) (λ _. refl)

  pub granted_within : Enqueues allows mid new turn enq.Granted → AcquiresTimed allows old new turn timed_acquire.Granted
  granted_within q = acquired_at_once allows old mid new turn enq.Granted timed_acquire.Granted e same q (λ is. cc is) (λ _. refl) (λ is. cc is) (λ is. cc is)

  pub told_within : Enqueues allows mid new turn enq.Closed → AcquiresTimed allows old new turn timed_acquire.Closed
  told_within q = acquired_at_once allows old mid new turn enq.Closed timed_acquire.Closed e same q (λ is. cc is) (λ is. cc is) (λ _. refl) (λ is. cc is)

-- Bounded bypass of the wait.
module _ {Port : Type 0} (view : Port → View) (counters : Port → Counters) (old mid asked : Port) (first : Write) (allows : List ℕ → List ℕ → Type 0)
    (e : Extends (view old) (view mid)) (same : (view mid).count ≡ (view old).count)
    (unlooked : (counters mid).poll_count ≡ (counters old).poll_count) (still : (counters asked).poll_count ≡ (counters mid).poll_count) where
  -- granted at once: no request ended in between
  pub soon_at_once : (good : List ℕ → Type 0) (label : ℕ) (config : LineConfig) → Enqueues allows (view mid) (view asked) first enq.Granted
      → IsSound good allows label config (view asked) → ComesSoon view counters old asked
  soon_at_once good label config q sound = record {
    asked = asked;
    unlooked = still ∙ unlooked;
    asks = asks_from (view old) (view mid) (view asked) e same (q.asks (λ is. cc is));
    advances = extends_self (view asked);
    bounded_bypass = some_node (view asked) config sound.config_is sound.first_node sound.last_node;
  }

  -- the request was granted after a wait
  pub soon_waiting : (new : Port) (turn : Write) → Enqueues allows (view mid) (view asked) first enq.Queued
      → Continues allows (view asked) (view new) → (view new).count ≡ (view asked).count → IsGranted (view new) turn → ComesSoon view counters old new
  soon_waiting new turn q c count granted = record {
    asked = asked;
    unlooked = still ∙ unlooked;
    asks = asks_from (view old) (view mid) (view asked) e same (q.asks (λ is. cc is));
    advances = c.extends;
    bounded_bypass = few_turns (view asked) (view new) turn (q.queued refl) c.extends count c.history granted;
  }

-- the answers differ
pub closed_ungranted : Closed ≢ Granted
closed_ungranted is = cc is

pub closed_within : timed_acquire.Closed ≢ timed_acquire.Granted
closed_within is = cc is

pub granted_in_time : timed_acquire.Granted ≢ timed_acquire.TimedOut
granted_in_time is = cc is

pub closed_in_time : timed_acquire.Closed ≢ timed_acquire.TimedOut
closed_in_time is = cc is

-- a port that polls once more has polled
pub looked_first : (first now last : ℕ) → first ≤ now → last ≡ now + 1 → first + 1 ≤ last
looked_first first now last before more = omega arith

-- the port has polled as often as before, or more often
pub looked_more : (first now last : ℕ) → first ≤ now → last ≡ now + 1 → first ≤ last
looked_more first now last before more = omega arith

-- a wait with a timeout that is late is not granted
pub late_ungranted : timed_acquire.TimedOut ≢ timed_acquire.Granted
late_ungranted is = cc is

late_untold : timed_acquire.TimedOut ≢ timed_acquire.Closed
late_untold is = cc is

-- a port that was busy at every try is busy
pub busy_still : (old mid new : View) → mid.count ≡ old.count → mid.state ≡ old.state → IsBusy mid new → IsBusy old new
busy_still old mid new same still b = record { was = by b.was; unclear = b.unclear; state = b.state ∙ still; count = b.count ∙ same }
  where
    by : (mid.state ≡ Left) ⊎ (mid.state ≡ Rolled) → (old.state ≡ Left) ⊎ (old.state ≡ Rolled)
    by (inl was) = inl (sym still ∙ was)
    by (inr was) = inr (sym still ∙ was)

-- the port is late
pub busy_within : (allows : List ℕ → List ℕ → Type 0) (old mid new : View) (turn : Write) → Extends old mid → mid.count ≡ old.count → mid.state ≡ old.state
    → Enqueues allows mid new turn enq.Busy → AcquiresTimed allows old new turn timed_acquire.TimedOut
busy_within allows old mid new turn e same still q = record {
  continues = continues_on allows old mid new e q.continues;
  asks = λ some. absurd (some refl);
  joined = λ some. absurd (some refl);
  granted = λ is. absurd (late_ungranted is);
  told = λ is. absurd (late_untold is);
  late = λ _. inr (busy_still old mid new same still (q.busy refl));
}

-- a port that has polled since it made its request has polled
pub looked_meanwhile : (old mid asked new : ℕ) → mid ≡ old → asked ≡ mid → asked + 1 ≤ new → old + 1 ≤ new
looked_meanwhile old mid asked new same still more = omega arith
