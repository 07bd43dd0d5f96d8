-- What each call on a node guarantees about the node's port, if the kind of the node's line is known. `was` and `now`
-- are the node before and after the call. The definitions in this file were made for this project; none is taken from
-- the literature.
use Rattle.std.specs.Prelude.{◌≡◌, ℕ, ◌+◌, ◌<◌, List, Bool, true}
use Rattle.line_lanes.specs.declared.line.Line64.{Line64}
use Rattle.qolb_model.specs.declared.answer.Enq.{Enq}
use Rattle.qolb_model.specs.declared.answer.Enq.TheVariants as enq
use Rattle.qolb_model.specs.declared.answer.Prep.{Prep}
use Rattle.qolb_model.specs.declared.answer.Prep.TheVariants as prep
use Rattle.qolb_model.specs.declared.answer.Poll.{Poll}
use Rattle.qolb_model.specs.declared.answer.Poll.TheVariants as poll
use Rattle.qolb_model.specs.declared.answer.Out.{Out}
use Rattle.qolb_model.specs.declared.answer.Out.TheVariants as out
use Rattle.qolb_model.specs.declared.answer.PortState.TheVariants as state
use Rattle.qolb_model.specs.declared.view.View.{View}
use Rattle.qolb_model.specs.Calls as line
use Rattle.qolb_model.specs.Leases.{turns_left}
use Rattle.qolb_model.specs.OneOwner.{turn_after}
use Rattle.qolb_model.specs.PortStates.{may_ask}
use Rattle.line_generic.specs.declared.discipline.Discipline as discipline
use Rattle.line_generic.specs.declared.discipline.DisciplineSpec as spec
use Rattle.line_generic.specs.declared.line.Line.{Line}
use Rattle.line_generic.specs.declared.wake.WakePolicy as wake
use Rattle.line_generic.specs.AtTurn.{Names, SeesTurn}
use Rattle.line_generic.specs.Ports.{PortModel}
use Rattle.link_line.specs.BetweenCalls as link_line
use Rattle.qolb_nodes.specs.declared.answer.Answer.{Answer}
use Rattle.qolb_nodes.specs.declared.answer.Answer.TheVariants as answer
use Rattle.qolb_nodes.specs.Answers.{enq_told, poll_told, out_told, prep_told, clear_told}
use Rattle.qolb_nodes.specs.Nodes.{NodeOf, anything, IsOneCall, PollsWithin, turns_number, with_lane}

-- the call was not allowed, and nothing changed
abbrev pub IsMisuse : {N : Type 0} → N → N → Answer → Type 0
IsMisuse was now a = (a ≡ answer.Misuse) × (now ≡ was)

-- two nodes of one line merge their ports' views, which are of one history
abbrev pub Meets : {L P : Type 0} → (P → View) → NodeOf L P → NodeOf L P → NodeOf L P → NodeOf L P → Type 0
Meets view a b a' b' = line.MergesViews anything (view a.port) (view b.port) (view a'.port) (view b'.port)

module _ {L : Type 0} where
  -- the node neither waits nor holds
  abbrev pub MayAsk : NodeOf L PortModel → Type 0
  MayAsk node = may_ask node.port.view.state ≡ true

  -- the node's request must still be linked
  abbrev pub IsLinking : NodeOf L PortModel → Type 0
  IsLinking node = node.port.view.state ≡ state.Linking

  -- the node waits
  abbrev pub IsQueued : NodeOf L PortModel → Type 0
  IsQueued node = node.port.view.state ≡ state.Queued

  -- the node waits, and is polled at least once
  abbrev pub MayPoll : ℕ → NodeOf L PortModel → Type 0
  MayPoll polls node = IsQueued node × (0 < polls)

  -- the node holds the line
  abbrev pub Holds : NodeOf L PortModel → Type 0
  Holds node = node.port.view.state ≡ state.Holding

  -- the node holds the line, which has these bytes
  abbrev pub HasBytes : NodeOf L PortModel → Line64 → Type 0
  HasBytes node bytes = Holds node × (bytes ≡ node.port.turn.bytes)

  -- C's number of the turns left
  abbrev pub turns_of : NodeOf L PortModel → ℕ
  turns_of node = turns_number (turns_left node.port.view.config.lease node.port.view.ends)

  -- the word on which the node waits, as its discipline says
  abbrev pub word_of : (ℕ → ℕ → ℕ → ℕ) → NodeOf L PortModel → ℕ
  word_of wait_word node = wait_word node.port.view.config.nodes node.port.view.node node.port.token

  -- the word of the node's turn, as any port knows it that sees the turn
  abbrev pub IsTurnWord : (View → ℕ) → NodeOf L PortModel → ℕ → Type 0
  IsTurnWord wake_word node word = (u : View) → SeesTurn u node.port.view → word ≡ wake_word u

  -- the node has released, and has noted the word of the node at its turn, as its view has it
  abbrev pub NamesNext : (View → ℕ) → NodeOf L PortModel → Type 0
  NamesNext wake_word node = Names (wake_word node.port.view) node.port.went_to

  -- What `wait` promises: it polls as often as it may while its request waits. If the line is closed, the node has
  -- forwarded it, and has noted the next word.
  abbrev pub Waits : (View → ℕ) → ℕ → NodeOf L PortModel → NodeOf L PortModel → Answer → Type 0
  Waits wake_word polls was now a =
      (made : Poll) × (a ≡ poll_told made) × line.Polls anything was.port.view now.port.view now.port.turn made
      × PollsWithin polls was.port.counters.poll_count now.port.counters.poll_count made × (made ≡ poll.Closed → NamesNext wake_word now)

  -- what `write` and `write_lane` promise
  abbrev pub Writes : ℕ → List ℕ → NodeOf L PortModel → NodeOf L PortModel → Answer → Type 0
  Writes mask bytes was now a = (a ≡ answer.Done) × (now.port.turn ≡ turn_after was.port.turn mask bytes)

  abbrev pub WritesLane : ℕ → ℕ → NodeOf L PortModel → NodeOf L PortModel → Answer → Type 0
  WritesLane k value was now a = (a ≡ answer.Done) × (now.port.turn ≡ with_lane was.port.turn k value)

-- a node of a line by the discipline `q`, with the wake policy `w`
abbrev pub Node : {K Q O W N : Type 0} → discipline.Ghosts Q K O → wake.Ghosts W N → Type 0
Node {K} {Q} {O} {W} {N} q w = NodeOf (Line K Q W O N q w) PortModel

module _ {K Q O W N : Type 0} {q : discipline.Ghosts Q K O} {w : wake.Ghosts W N} where
  -- the node made one call of its line, which did not poll, and took at most three atomic steps more than `max_steps`
  -- of its line's nodes
  abbrev pub CallsOnce : (ℕ → ℕ) → Node q w → Node q w → Type 0
  CallsOnce max_steps was now = IsOneCall (max_steps was.line.table.shared.key.config.nodes + 3) was.port.counters now.port.counters

  -- what `enqolb` promises: if the line is closed, the node has forwarded it, and has noted the next word
  abbrev pub Enqolbs : spec.Ghosts Q O → Node q w → Node q w → Answer → Type 0
  Enqolbs d was now a =
      (made : Enq) × (a ≡ enq_told made) × line.Enqueues anything was.port.view now.port.view now.port.turn made
      × CallsOnce d.max_steps was now × (made ≡ enq.Closed → NamesNext d.wake_word now)

  -- what `withdraw` promises
  abbrev pub Withdraws : spec.Ghosts Q O → Node q w → Node q w → Answer → Type 0
  Withdraws d was now a =
      (made : Out) × (a ≡ out_told made) × line.Withdraws anything was.port.view now.port.view now.port.turn made
      × CallsOnce d.max_steps was now × (made ≡ out.Closed → NamesNext d.wake_word now)

  -- what `is_clear` promises
  abbrev pub LooksIfClear : spec.Ghosts Q O → Node q w → Node q w → Answer → Type 0
  LooksIfClear d was now a =
      (clear : Bool) × (a ≡ clear_told clear) × line.LooksIfClear anything was.port.view now.port.view clear × CallsOnce d.max_steps was now

  -- what `release` promises: the node has noted the next holder's word
  abbrev pub Releases : spec.Ghosts Q O → Bool → Node q w → Node q w → Answer → Type 0
  Releases d shut was now a =
      (a ≡ answer.Done) × line.Releases anything shut was.port.view now.port.view was.port.turn
      × CallsOnce d.max_steps was now × NamesNext d.wake_word now

  -- what `prepend` and `link` promise, on a link line
  abbrev pub Prepends : Node q w → Node q w → Answer → Type 0
  Prepends was now a =
      (made : Prep) × (a ≡ prep_told made) × line.Prepends anything was.port.view now.port.view now.port.turn made
      × CallsOnce link_line.max_steps was now × (made ≡ prep.Closed → NamesNext link_line.wake_word now)

  abbrev pub LinksUp : Node q w → Node q w → Answer → Type 0
  LinksUp was now a =
      (made : Enq) × (a ≡ enq_told made) × line.LinksUp anything was.port.view now.port.view now.port.turn made
      × CallsOnce link_line.max_steps was now × (made ≡ enq.Closed → NamesNext link_line.wake_word now)
