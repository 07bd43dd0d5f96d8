-- The work of one worker at a task board: the worker's critical sections (turns), and the job that was done in each of
-- them. The definitions in this file were made for this project; none is taken from the literature.
use Rattle.std.specs.Prelude.{◌≡◌, ℕ, ◌+◌, ◌<◌, ◌≤◌, ◌==◌, ◌&&◌, nat_lt, Bool, if◌then◌else◌, List, [], ◌∷◌, ◌++◌, length, count_by}
use Rattle.std.specs.List.{sum_by}
use Rattle.qolb_model.specs.declared.request.Request.{Request}
use Rattle.qolb_model.specs.declared.end.End.{End}
use Rattle.qolb_model.specs.declared.end.End.TheVariants.{Served, Gone, Told}
use Rattle.qolb_model.specs.declared.config.LineConfig.{LineConfig}
use Rattle.qolb_model.specs.declared.view.View.{View}
use Rattle.qolb_model.specs.Ends.{written}
use Rattle.qolb_model.specs.Releasing.{IsTold}
use Rattle.qolb_model.specs.Sums.{HasNotShut}
use Rattle.line_board.specs.declared.board.TheConstants.{MAX_TASKS}
use Rattle.line_board.specs.PutsAndTakes.{standing}
use Rattle.line_accounts.specs.Desks.{IsAtRest}
use Rattle.qolb_script.specs.declared.schedule.TheConstants.{MAX_COMMANDS}
use Rattle.qolb_script.specs.declared.job.Job.{Job}
use Rattle.qolb_script.specs.declared.report.Report.{Report}
use Rattle.qolb_script.specs.declared.report.Report.TheVariants.{Board, Bank}
use Rattle.qolb_script.specs.WorkScript.{WorkScript}
use Rattle.qolb_work.specs.declared.board.BoardHand.{BoardHand}
use Rattle.qolb_work.specs.declared.board.BoardCounts.{BoardCounts}
use Rattle.qolb_work.specs.Jobs.{IsBoardJob}
use Rattle.qolb_work.specs.BoardRuns.{tasks_after}
use Rattle.qolb_work.specs.JustOpened.{work_config}
use Rattle.qolb_work.specs.Workers.{AreDone}

-- One critical section at a board, here called a turn: the tasks that it found, and the tasks that it left.
pub record Turn : Type 0 where
  pub found : List ℕ
  pub left : List ℕ

abbrev pub turn_between : List ℕ → List ℕ → Turn
turn_between found left = record { found = standing found; left = standing left }

-- The turns of one node, in order. They are computed from the requests of a line and the ends of these requests.
-- `bytes` are the bytes before the first of these requests.
abbrev pub node_turns : ℕ → List ℕ → List Request → List End → List Turn
node_turns node bytes [] ends = []
node_turns node bytes (r ∷ order) [] = []
node_turns node bytes (r ∷ order) (Served write shut ∷ ends) = (if r.node == node then turn_between bytes (written bytes write) ∷ [] else []) ++ node_turns node (written bytes write) order ends
node_turns node bytes (r ∷ order) (Gone ∷ ends) = node_turns node bytes order ends
node_turns node bytes (r ∷ order) (Told ∷ ends) = node_turns node bytes order ends

-- the turns of the port's own node
abbrev pub turns_of : View → List Turn
turns_of v = node_turns v.node v.config.opening.bytes v.order v.ends

-- Between the two views, the node's port had the turns `more`. The port is now at rest, and shut the line in none of
-- these turns.
pub record HasTurns (old new : View) (more : List Turn) : Type 0 where
  pub node : new.node ≡ old.node
  pub at_rest : IsAtRest new
  pub turns : turns_of new ≡ turns_of old ++ more
  pub unshut : HasNotShut old → HasNotShut new

-- What a turn did. `HasStored`: it appended the task. `FoundFull`: it found as many tasks as a board can hold, and left
-- them as they were. `HasTakenOne`: it removed the first task. `FoundNone`: it found no task, and left none.
pub record HasStored (task : ℕ) (turn : Turn) : Type 0 where
  pub room : length turn.found < MAX_TASKS
  pub left : turn.left ≡ turn.found ++ task ∷ []

pub record FoundFull (turn : Turn) : Type 0 where
  pub full : length turn.found ≡ MAX_TASKS
  pub left : turn.left ≡ turn.found

pub record HasTakenOne (turn : Turn) : Type 0 where
  pub task : ℕ
  pub found : turn.found ≡ task ∷ turn.left
  pub few : length turn.found ≤ MAX_TASKS

pub record FoundNone (turn : Turn) : Type 0 where
  pub found : turn.found ≡ []
  pub left : turn.left ≡ []

-- The turn did this job of a board: of the tasks that it found, it left exactly those that the same job leaves on a
-- board with one owner.
pub record Does (job : Job) (turn : Turn) : Type 0 where
  pub of_board : IsBoardJob job
  pub few : length turn.found ≤ MAX_TASKS
  pub left : turn.left ≡ tasks_after job turn.found

-- The turns did these jobs, one job each, in order.
abbrev pub HasDoneJobs : List Turn → List Job → Type 0
HasDoneJobs [] [] = Unit {0}
HasDoneJobs [] (job ∷ jobs) = ⊥
HasDoneJobs (turn ∷ turns) [] = ⊥
HasDoneJobs (turn ∷ turns) (job ∷ jobs) = Does job turn × HasDoneJobs turns jobs

-- Tests of a turn: it stored a task, found the board full, took a task, or found none. The tests only compare the
-- numbers of tasks that the turn found and left.
abbrev pub stores : Turn → Bool
stores turn = nat_lt (length turn.found) (length turn.left)

abbrev pub finds_full : Turn → Bool
finds_full turn = (length turn.found == MAX_TASKS) && (length turn.left == MAX_TASKS)

abbrev pub takes : Turn → Bool
takes turn = nat_lt (length turn.left) (length turn.found)

abbrev pub finds_none : Turn → Bool
finds_none turn = (length turn.found == 0) && (length turn.left == 0)

-- how many of the turns stored a task, found the board full, took a task, and found none
abbrev pub counts_of : List Turn → BoardCounts
counts_of turns = record { stored = count_by stores turns; full = count_by finds_full turns; taken = count_by takes turns; empty = count_by finds_none turns }

-- The state of a worker of the board between two jobs. Each job was done by one turn of the worker's port, in order,
-- and the port had no other turn. The worker shut the line in none of its turns. The worker's counts are the counts of
-- these turns.
pub record HasWorked {Line Port : Type 0} (belongs : Line → Port → Type 0) (view : Port → View) (line : Line) (worker : ℕ) (hand : BoardHand Port) (jobs : List Job) : Type 0 where
  pub of_line : belongs line hand.port
  pub of_worker : (view hand.port).node ≡ worker
  pub at_rest : IsAtRest (view hand.port)
  pub unshut : HasNotShut (view hand.port)
  pub did : HasDoneJobs (turns_of (view hand.port)) jobs
  pub counts_are : hand.counts ≡ counts_of (turns_of (view hand.port))

-- Relations between counts. `AreWithin`: no count exceeds a limit. `AreAdded`: the new counts are the sums of the old
-- counts and of `more`. `AreSums`: the counts are the sums over all workers.
pub record AreWithin (most : ℕ) (counts : BoardCounts) : Type 0 where
  pub stored : counts.stored ≤ most
  pub full : counts.full ≤ most
  pub taken : counts.taken ≤ most
  pub empty : counts.empty ≤ most

pub record AreAdded (old more new : BoardCounts) : Type 0 where
  pub stored : new.stored ≡ old.stored + more.stored
  pub full : new.full ≡ old.full + more.full
  pub taken : new.taken ≡ old.taken + more.taken
  pub empty : new.empty ≡ old.empty + more.empty

pub record AreSums {Port : Type 0} (hands : List (BoardHand Port)) (counts : BoardCounts) : Type 0 where
  pub stored : counts.stored ≡ sum_by (λ hand. hand.counts.stored) hands
  pub full : counts.full ≡ sum_by (λ hand. hand.counts.full) hands
  pub taken : counts.taken ≡ sum_by (λ hand. hand.counts.taken) hands
  pub empty : counts.empty ≡ sum_by (λ hand. hand.counts.empty) hands

-- The worker was told that the line of the board is closed. The worker itself shut the line in none of its turns.
pub record WasTold {Line Port : Type 0} (belongs : Line → Port → Type 0) (view : Port → View) (line : Line) (worker : ℕ) (hand : BoardHand Port) : Type 0 where
  pub of_line : belongs line hand.port
  pub of_worker : (view hand.port).node ≡ worker
  pub at_rest : IsAtRest (view hand.port)
  pub unshut : HasNotShut (view hand.port)
  pub told : IsTold (view hand.port)
  pub few : AreWithin MAX_COMMANDS hand.counts

-- The work of a board was done in a line that was opened for it, with a port for each worker, whose turns did the
-- worker's jobs. `counts` are the sums of all workers' counts.
pub record AreBoarded {Line Port : Type 0} (belongs : Line → Port → Type 0) (view : Port → View) (config_of : Line → LineConfig) (work : WorkScript) (counts : BoardCounts) : Type 0 where
  pub line : Line
  pub hands : List (BoardHand Port)
  pub opened : config_of line ≡ work_config work.workers
  pub each : length hands ≡ work.workers
  pub done : AreDone (HasWorked belongs view) line work.jobs hands
  pub sums : AreSums hands counts

abbrev pub IsBoardedOver : {Line Port : Type 0} → (Line → Port → Type 0) → (Port → View) → (Line → LineConfig) → WorkScript → Report → Type 0
IsBoardedOver belongs view config_of work (Board stored full taken empty left) = AreBoarded belongs view config_of work (record { stored = stored; full = full; taken = taken; empty = empty })
IsBoardedOver belongs view config_of work (Bank paid_in paid_out total) = Unit {0}
