-- What each call on a port requires and ensures. There is one record for each call. Its parameters are the data
-- invariant `k` of the line, the ghost state `d` of the queue algorithm, and the table `t`.
use Rattle.std.specs.Prelude.{◌≡◌, ◌≢◌, ◌⊎◌, ℕ, ◌+◌, ◌≤◌, List, map, Bool, Option, IsTrue}
use Rattle.std.specs.List.{All}
use Rattle.qolb_model.specs.declared.keep.Keep as keep
use Rattle.qolb_model.specs.declared.answer.Enq.{Enq}
use Rattle.qolb_model.specs.declared.answer.Enq.TheVariants as enq
use Rattle.qolb_model.specs.declared.answer.Poll.{Poll}
use Rattle.qolb_model.specs.declared.answer.Poll.TheVariants as poll
use Rattle.qolb_model.specs.declared.answer.Out.{Out}
use Rattle.qolb_model.specs.declared.answer.Out.TheVariants as out
use Rattle.qolb_model.specs.declared.answer.Prep.{Prep}
use Rattle.qolb_model.specs.declared.answer.Prep.TheVariants as prep
use Rattle.qolb_model.specs.declared.answer.PortState.{PortState}
use Rattle.qolb_model.specs.declared.answer.PortState.TheVariants as port_state
use Rattle.qolb_model.specs.declared.config.LineConfig.{LineConfig}
use Rattle.qolb_model.specs.declared.unfinished.FinishError.{FinishError}
use Rattle.line_lanes.specs.declared.line.Line64.{Line64}
use Rattle.qolb_model.specs.Calls.{Enqueues, Prepends, LinksUp, Polls, Withdraws, LooksIfClear, Releases}
use Rattle.qolb_model.specs.Counting as call
use Rattle.qolb_model.specs.Finishing.{MayRefuse, IsFinished}
use Rattle.qolb_model.specs.Kept.{MayRelease}
use Rattle.qolb_model.specs.Opening.{MayOpen}
use Rattle.qolb_model.specs.PortStates as states
use Rattle.line_generic.specs.declared.discipline.DisciplineSpec as spec
use Rattle.line_generic.specs.AtTurn.{Names}
use Rattle.line_generic.specs.Calls.{LineTable}
use Rattle.line_generic.specs.Ports.{PortModel, BelongsTo, CountsCall, IsOpened, AreUnused}

-- the configuration with this lease, if any
abbrev pub config_with : ℕ → Line64 → Option ℕ → LineConfig
config_with nodes opening lease = record { nodes = nodes; opening = opening; lease = lease }

module _ {X O P : Type 0} (k : keep.Ghosts X) (t : LineTable O P) where
  -- the port was opened with the line of this table
  abbrev pub IsPortOf : PortModel → Type 0
  IsPortOf p = BelongsTo k.good k.allows t.key t.table_id p

  -- after `meet`, the port still belongs to the line, with its turn, its counters and its note
  pub record HasMet (old new : PortModel) : Type 0 where
    pub belongs : IsPortOf new
    pub turn : new.turn ≡ old.turn
    pub counters : new.counters ≡ old.counters
    pub keeps_note : new.went_to ≡ old.went_to

  -- a port of the line that may make a request
  pub record IsRestingPort (p : PortModel) : Type 0 where
    pub belongs : IsPortOf p
    pub state : IsTrue (states.may_ask p.view.state)

  -- a port of the line whose request must still be linked
  pub record IsLinkingPort (p : PortModel) : Type 0 where
    pub belongs : IsPortOf p
    pub state : p.view.state ≡ port_state.Linking

  -- a port of the line that waits
  pub record IsWaitingPort (p : PortModel) : Type 0 where
    pub belongs : IsPortOf p
    pub state : p.view.state ≡ port_state.Queued

  -- a port that holds the line, and may release it with what it has written
  pub record IsHoldingPort (p : PortModel) : Type 0 where
    pub belongs : IsPortOf p
    pub state : p.view.state ≡ port_state.Holding
    pub allowed : MayRelease k.allows p.view p.turn

  -- those of these ports that have the line's label belong to the line
  abbrev pub AreOwnPorts : List PortModel → Type 0
  AreOwnPorts ports = All (λ p. p.view.label ≡ t.key.label → IsPortOf p) ports

  -- the line is finished with these bytes, by means of the ports of all nodes
  abbrev pub HasFinished : List PortModel → List ℕ → Type 0
  HasFinished ports bytes = IsFinished k.good k.allows t.key.label t.key.config (map (λ (p : PortModel). p.view) ports) bytes

  -- the new ports of a new line, none of which has taken a step
  pub record HasOpened (label : ℕ) (config : LineConfig) (ports : List PortModel) : Type 0 where
    pub opens : IsOpened k.good k.allows t.key t.table_id label config ports
    pub unused : AreUnused ports
    pub may_open : MayOpen config

-- this cause may prevent finishing with these ports
abbrev pub MayNotFinish : {O P : Type 0} → LineTable O P → List PortModel → FinishError → Type 0
MayNotFinish t ports why = MayRefuse t.key.label t.key.config.nodes (map (λ (p : PortModel). p.view) ports) why

module _ {X D O P : Type 0} (k : keep.Ghosts X) (d : spec.Ghosts D O) (t : LineTable O P) where
  -- what `enqolb` ensures: the port has its answer, and the steps are counted
  pub record HasEnqueued (old new : PortModel) (answer : Enq) : Type 0 where
    pub belongs : IsPortOf k t new
    pub enqueues : Enqueues k.allows old.view new.view new.turn answer
    pub counts : CountsCall d.enqueue_steps d.release_steps (d.max_steps t.key.config.nodes) (call.asks answer) old new
    pub went_to : answer ≡ enq.Closed → Names (d.wake_word new.view) new.went_to
    pub keeps_note : answer ≢ enq.Closed → new.went_to ≡ old.went_to

  -- what `poll` ensures: the port has its answer, with the token of its request
  pub record HasPolled (old new : PortModel) (answer : Poll) : Type 0 where
    pub belongs : IsPortOf k t new
    pub polls : Polls k.allows old.view new.view new.turn answer
    pub counts : CountsCall d.enqueue_steps d.release_steps (d.max_steps t.key.config.nodes) (call.polls answer) old new
    pub token : new.token ≡ old.token
    pub went_to : answer ≡ poll.Closed → Names (d.wake_word new.view) new.went_to
    pub keeps_note : answer ≢ poll.Closed → new.went_to ≡ old.went_to

  -- what `withdraw` ensures: the port has its answer, with the token of its request
  pub record HasWithdrawn (old new : PortModel) (answer : Out) : Type 0 where
    pub belongs : IsPortOf k t new
    pub withdraws : Withdraws k.allows old.view new.view new.turn answer
    pub counts : CountsCall d.enqueue_steps d.release_steps (d.max_steps t.key.config.nodes) (call.withdraws answer) old new
    pub token : new.token ≡ old.token
    pub went_to : answer ≡ out.Closed → Names (d.wake_word new.view) new.went_to
    pub keeps_note : answer ≢ out.Closed → new.went_to ≡ old.went_to

  -- what `is_clear` ensures: the port knows what it found, and keeps its note
  pub record HasLookedIfClear (old new : PortModel) (clear : Bool) : Type 0 where
    pub belongs : IsPortOf k t new
    pub found : LooksIfClear k.allows old.view new.view clear
    pub counts : CountsCall d.enqueue_steps d.release_steps (d.max_steps t.key.config.nodes) (call.looks_if_clear clear) old new
    pub keeps_note : new.went_to ≡ old.went_to

  -- what `deqolb` and `shut` ensure: the turn is over, and the next holder is noted
  pub record HasEndedTurn (shut : Bool) (old new : PortModel) : Type 0 where
    pub belongs : IsPortOf k t new
    pub releases : Releases k.allows shut old.view new.view old.turn
    pub counts : CountsCall d.enqueue_steps d.release_steps (d.max_steps t.key.config.nodes) call.releases old new
    pub went_to : Names (d.wake_word new.view) new.went_to

  -- what `prepend` ensures: the port has its answer, and the steps are counted
  pub record HasPutRequest (prepend_steps : PortState → ℕ) (old new : PortModel) (answer : Prep) : Type 0 where
    pub belongs : IsPortOf k t new
    pub prepends : Prepends k.allows old.view new.view new.turn answer
    pub total_steps : new.counters.total_steps ≡ old.counters.total_steps + new.counters.steps
    pub poll_count : new.counters.poll_count ≡ old.counters.poll_count
    pub steps_if_busy : answer ≡ prep.Busy → new.counters.steps ≡ 1
    pub steps : (answer ≡ prep.Granted) ⊎ (answer ≡ prep.Linking) → new.counters.steps ≡ prepend_steps old.view.state
    pub bound : new.counters.steps ≤ d.max_steps t.key.config.nodes + 2
    pub went_to : answer ≡ prep.Closed → Names (d.wake_word new.view) new.went_to
    pub keeps_note : answer ≢ prep.Closed → new.went_to ≡ old.went_to

  -- what `link` ensures: the port has its answer, and the steps are counted
  pub record HasLinkedRequest (old new : PortModel) (answer : Enq) : Type 0 where
    pub belongs : IsPortOf k t new
    pub links_up : LinksUp k.allows old.view new.view new.turn answer
    pub total_steps : new.counters.total_steps ≡ old.counters.total_steps + new.counters.steps
    pub poll_count : new.counters.poll_count ≡ old.counters.poll_count
    pub steps : answer ≢ enq.Closed → new.counters.steps ≡ 1
    pub bound : new.counters.steps ≤ d.max_steps t.key.config.nodes
    pub went_to : answer ≡ enq.Closed → Names (d.wake_word new.view) new.went_to
    pub keeps_note : answer ≢ enq.Closed → new.went_to ≡ old.went_to
