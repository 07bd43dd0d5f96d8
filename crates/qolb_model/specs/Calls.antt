-- What each call on a port guarantees. Each call has a record, which contains one field for each answer of the call. In
-- these records, `old` and `new` are the port's views before and after the call, and `turn` is what the holder has
-- written in its turn. (The names of the calls are from Goodman, Vernon and Woest, 1989; their contracts are this
-- project's own.)
use Rattle.std.specs.Prelude.{◌≡◌, ◌≢◌, ◌⊎◌, ℕ, Bool, true, false, List, [], ◌∷◌}
use Rattle.qolb_model.specs.declared.answer.Enq.{Enq}
use Rattle.qolb_model.specs.declared.answer.Enq.TheVariants as enq
use Rattle.qolb_model.specs.declared.answer.Prep.{Prep}
use Rattle.qolb_model.specs.declared.answer.Prep.TheVariants as prep
use Rattle.qolb_model.specs.declared.answer.Poll.{Poll}
use Rattle.qolb_model.specs.declared.answer.Poll.TheVariants as poll
use Rattle.qolb_model.specs.declared.answer.Out.{Out}
use Rattle.qolb_model.specs.declared.answer.Out.TheVariants as out
use Rattle.qolb_model.specs.declared.answer.PortState.TheVariants.{Holding, Idle}
use Rattle.qolb_model.specs.declared.end.End.TheVariants.{Served}
use Rattle.qolb_model.specs.declared.view.View.{View}
use Rattle.qolb_model.specs.declared.write.Write.{Write}
use Rattle.qolb_model.specs.PortStates.{state_after}
use Rattle.qolb_model.specs.Leases.{closes}
use Rattle.qolb_model.specs.Views.{bytes_of}
use Rattle.qolb_model.specs.OneHistory.{OneHistory}
use Rattle.qolb_model.specs.Sound.{Continues}
use Rattle.qolb_model.specs.Enqueueing.{IsBusy, IsClear, Asks, IsJoined}
use Rattle.qolb_model.specs.AtTurn.{IsGranted, IsQueued, IsWithdrawn}
use Rattle.qolb_model.specs.Releasing.{EndsTurn, IsTold}
use Rattle.qolb_model.specs.Linking.{IsLinking, Links}
use Rattle.qolb_model.specs.Meeting.{Meets}

-- A port accepted the line, by this answer. If the line is open, the port was granted the line and holds it. If it is
-- closed, the port was told so and has forwarded the line.
abbrev pub IsGrantedOrTold : {A : Type 0} → A → A → A → View → Write → Type 0
IsGrantedOrTold granted closed answer new turn = ((answer ≡ granted) × IsGranted new turn) ⊎ ((answer ≡ closed) × IsTold new)

module _ (allows : List ℕ → List ℕ → Type 0) where
  -- what `enqolb` promises: the port makes a request, unless it is busy
  pub record Enqueues (old new : View) (turn : Write) (answer : Enq) : Type 0 where
    pub continues : Continues allows old new
    pub busy : answer ≡ enq.Busy → IsBusy old new
    pub asks : answer ≢ enq.Busy → Asks old new
    pub joined : answer ≢ enq.Busy → IsJoined new
    pub granted : answer ≡ enq.Granted → IsGranted new turn
    pub queued : answer ≡ enq.Queued → IsQueued new
    pub told : answer ≡ enq.Closed → IsTold new

  -- what `prepend` promises, the first half of `enqolb`: the port makes a request, unless it is busy; a request behind
  -- another one is not linked yet
  pub record Prepends (old new : View) (turn : Write) (answer : Prep) : Type 0 where
    pub continues : Continues allows old new
    pub busy : answer ≡ prep.Busy → IsBusy old new
    pub asks : answer ≢ prep.Busy → Asks old new
    pub joined : (answer ≡ prep.Granted) ⊎ (answer ≡ prep.Closed) → IsJoined new
    pub granted : answer ≡ prep.Granted → IsGranted new turn
    pub linking : answer ≡ prep.Linking → IsLinking new
    pub told : answer ≡ prep.Closed → IsTold new

  -- what `link` promises, the second half of `enqolb`: the port links its request to its predecessor's
  pub record LinksUp (old new : View) (turn : Write) (answer : Enq) : Type 0 where
    pub continues : Continues allows old new
    pub never_busy : answer ≢ enq.Busy
    pub links : Links old new
    pub granted : answer ≡ enq.Granted → IsGranted new turn
    pub queued : answer ≡ enq.Queued → IsQueued new
    pub told : answer ≡ enq.Closed → IsTold new

  -- what `poll` promises: the port polls whether its request is at its turn
  pub record Polls (old new : View) (turn : Write) (answer : Poll) : Type 0 where
    pub continues : Continues allows old new
    pub count : new.count ≡ old.count
    pub granted : answer ≡ poll.Granted → IsGranted new turn
    pub waiting : answer ≡ poll.Waiting → IsQueued new
    pub told : answer ≡ poll.Closed → IsTold new

  -- what `withdraw` promises: the port withdraws its request, unless the request is at its turn
  pub record Withdraws (old new : View) (turn : Write) (answer : Out) : Type 0 where
    pub continues : Continues allows old new
    pub count : new.count ≡ old.count
    pub withdrawn : answer ≡ out.Withdrawn → IsWithdrawn new
    pub granted : answer ≡ out.Granted → IsGranted new turn
    pub told : answer ≡ out.Closed → IsTold new

  -- What `is_clear` promises: the port polls whether its last request is clear, and makes no request. If the last
  -- request is clear, the next one is not answered busy, and the port may be idle again. Otherwise the port is as after
  -- a request that was answered busy.
  pub record LooksIfClear (old new : View) (answer : Bool) : Type 0 where
    pub continues : Continues allows old new
    pub count : new.count ≡ old.count
    pub state : (new.state ≡ old.state) ⊎ (new.state ≡ Idle)
    pub clear : answer ≡ true → IsClear new
    pub busy : answer ≡ false → IsBusy old new

  -- What `deqolb` promises, and what `shut` promises if `shut` is true: the port's request ends as served with what its
  -- turn wrote. That end closes the line if the holder shuts the line, or if the turn is the last of a lease.
  pub record Releases (shut : Bool) (old new : View) (turn : Write) : Type 0 where
    pub continues : Continues allows old new
    pub ends_turn : let closed = closes old.config.lease old.ends shut in EndsTurn old (Served turn closed) (state_after closed) new
    pub bytes : bytes_of new ≡ turn.bytes.bytes

  -- what `meet` promises: the ports of two nodes merge their views, but a holder learns of no end
  pub record MergesViews (a b a_then b_then : View) : Type 0 where
    pub apart : a.node ≢ b.node
    pub before : OneHistory (a ∷ b ∷ [])
    pub after : OneHistory (a_then ∷ b_then ∷ [])
    pub continues_a : Continues allows a a_then
    pub continues_b : Continues allows b b_then
    pub meets_a : Meets a b a_then
    pub meets_b : Meets b a b_then
    pub one_holds : a_then.state ≡ Holding → b_then.state ≢ Holding
    pub holds_a : a.state ≡ Holding → a_then.ends ≡ a.ends
    pub holds_b : b.state ≡ Holding → b_then.ends ≡ b.ends
