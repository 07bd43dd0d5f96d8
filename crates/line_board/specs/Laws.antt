-- Statements that hold for every board that was opened empty. The theorems in this file were stated for this project;
-- none is taken from the literature.
use Rattle.std.specs.Prelude.{◌≡◌, ℕ, List}
use Rattle.line_lanes.specs.Line.{zeros}
use Rattle.qolb_model.specs.declared.config.LineConfig.{LineConfig}
use Rattle.qolb_model.specs.declared.view.View.{View}
use Rattle.qolb_model.specs.Views.{bytes_of}
use Rattle.qolb_model.specs.Kept.{IsKept}
use Rattle.qolb_model.specs.Finishing.{IsFinished}
use Rattle.line_board.specs.Board.{IsBoard}
use Rattle.line_board.specs.Law.{Changes}
use Rattle.line_board.specs.PutsAndTakes.{IsQueue}

-- A board is a queue, as far as a port knows: of its ends, the puts are the takes, followed by the tasks of its bytes.
abbrev pub BoardIsQueue : Type 0
BoardIsQueue = (v : View) → IsKept Changes v → v.config.opening.bytes ≡ zeros → IsQueue zeros v.ends (bytes_of v)

-- the same of the whole history of a finished line: the tasks of its last bytes are those that were put and not taken
abbrev pub FinishedBoardIsQueue : Type 0
FinishedBoardIsQueue = (label : ℕ) (config : LineConfig) (views : List View) (bytes : List ℕ) (finished : IsFinished IsBoard Changes label config views bytes)
    → config.opening.bytes ≡ zeros → IsQueue zeros finished.history.ends bytes
