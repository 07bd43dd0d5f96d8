-- The exit status of the program `qolb` for each error.
use Rattle.std.specs.Prelude.{ℕ}
use Rattle.qolb_run.specs.declared.task.TaskError.{TaskError}
use Rattle.qolb_run.specs.declared.task.TaskError.TheVariants.{Memory, Read, Long, Script, Write, Stalled}

-- the exit status of each error
abbrev pub status_of : TaskError → ℕ
status_of Memory = 3
status_of Read = 4
status_of Long = 1
status_of (Script fault) = 1
status_of Write = 4
status_of (Stalled worker) = 3
