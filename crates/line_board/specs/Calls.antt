-- What each call on a board guarantees. There is one record for each call, with one field for each answer. In these
-- records, `old` and `new` are the port's view before and after the call. The definitions in this file were made for
-- this project; none is taken from the literature.
use Rattle.std.specs.Prelude.{◌≡◌, ◌≢◌, ℕ, ◌+◌, true, false, List, [], ◌∷◌, ◌++◌, length, replicate, slice_get, Some}
use Rattle.line_lanes.specs.Mask.{changed_mask}
use Rattle.qolb_model.specs.declared.write.Write.{Write}
use Rattle.qolb_model.specs.declared.end.End.{End}
use Rattle.qolb_model.specs.declared.end.End.TheVariants.{Served, Gone}
use Rattle.qolb_model.specs.declared.view.View.{View}
use Rattle.qolb_model.specs.PortStates.{may_ask, state_after}
use Rattle.qolb_model.specs.Leases.{closes}
use Rattle.qolb_model.specs.Ends.{is_closed, bytes_after}
use Rattle.qolb_model.specs.Views.{own, bytes_of}
use Rattle.qolb_model.specs.Sound.{Continues}
use Rattle.qolb_model.specs.Enqueueing.{IsBusy, Asks, IsJoined}
use Rattle.qolb_model.specs.AtTurn.{IsClearBefore, IsWithdrawn}
use Rattle.qolb_model.specs.Releasing.{AfterRelease, IsTold}
use Rattle.qolb_model.specs.Acquiring.{IsUnserved}
use Rattle.line_board.specs.declared.board.TheConstants.{MAX_TASKS}
use Rattle.line_board.specs.declared.answer.Put.{Put}
use Rattle.line_board.specs.declared.answer.Put.TheVariants as put
use Rattle.line_board.specs.declared.answer.Take.{Take}
use Rattle.line_board.specs.declared.answer.Take.TheVariants as take
use Rattle.line_board.specs.Board.{Stand}
use Rattle.line_board.specs.Law.{Changes}
use Rattle.line_board.specs.PutsAndTakes.{puts_of, takes_of}

-- The turn of the port's last request, which found `found` and left `left`. Its end comes after the ends that the port
-- knew, and only ends of withdrawn requests come after it. The line was open. The turn closes the line only if it is
-- the last of a lease, and writes exactly the bytes that it changed. Of all puts and takes that the port knows, `puts`
-- and `takes` are those of this turn.
pub record HadTurn (found left puts takes : List ℕ) (new : View) : Type 0 where
  pub before : List End
  pub write : Write
  pub passed : ℕ
  pub ends : new.ends ≡ before ++ Served write (closes new.config.lease before false) ∷ replicate passed Gone
  pub at_turn : slice_get new.order (length before) ≡ Some (own new)
  pub was_open : is_closed before ≡ false
  pub found_there : Stand (bytes_after new.config.opening.bytes before) found
  pub left_there : Stand (bytes_of new) left
  pub mask : write.mask.0 ≡ changed_mask (bytes_after new.config.opening.bytes before) (bytes_of new)
  pub put : puts_of new.config.opening.bytes new.ends ≡ puts_of new.config.opening.bytes before ++ puts
  pub taken : takes_of new.config.opening.bytes new.ends ≡ takes_of new.config.opening.bytes before ++ takes
  pub clear_before : IsClearBefore new (length before)
  pub releases : AfterRelease (length before + 1) (state_after (closes new.config.lease before false)) new

-- the task was appended to those that were there
pub record HasPut (task : ℕ) (new : View) : Type 0 where
  pub found : List ℕ
  pub turn : HadTurn found (found ++ task ∷ []) (task ∷ []) [] new

-- the task was the first, and was removed
pub record HasTaken (task : ℕ) (new : View) : Type 0 where
  pub left : List ℕ
  pub turn : HadTurn (task ∷ left) left [] (task ∷ []) new

-- `count` tasks were there, and all bytes are as they were
pub record HasFound (count : ℕ) (new : View) : Type 0 where
  pub tasks : List ℕ
  pub counted : length tasks ≡ count
  pub turn : HadTurn tasks tasks [] [] new
  pub same : bytes_of new ≡ bytes_after new.config.opening.bytes turn.before

-- what `put` promises: it appends a task if there is room
pub record Puts (task : ℕ) (old new : View) (answer : Put) : Type 0 where
  pub continues : Continues Changes old new
  pub may_ask : may_ask new.state ≡ true
  pub asks : answer ≢ put.Busy → Asks old new
  pub joined : answer ≢ put.Busy → IsJoined new
  pub stored : answer ≡ put.Stored → HasPut task new
  pub full : answer ≡ put.Full → HasFound MAX_TASKS new
  pub late : answer ≡ put.Late → IsWithdrawn new
  pub told : answer ≡ put.Closed → IsTold new
  pub busy : answer ≡ put.Busy → IsBusy old new
  pub unserved : answer ≢ put.Stored → answer ≢ put.Full → IsUnserved old new

-- what `take` promises: it removes the first task if there is one
pub record Takes (old new : View) (answer : Take) : Type 0 where
  pub continues : Continues Changes old new
  pub may_ask : may_ask new.state ≡ true
  pub asks : answer ≢ take.Busy → Asks old new
  pub joined : answer ≢ take.Busy → IsJoined new
  pub task : (task : ℕ) → answer ≡ take.Task task → HasTaken task new
  pub empty : answer ≡ take.Empty → HasFound 0 new
  pub late : answer ≡ take.Late → IsWithdrawn new
  pub told : answer ≡ take.Closed → IsTold new
  pub busy : answer ≡ take.Busy → IsBusy old new
  pub unserved : ((task : ℕ) → answer ≢ take.Task task) → answer ≢ take.Empty → IsUnserved old new
