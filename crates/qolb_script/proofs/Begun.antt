-- Proof that if a script is accepted as a whole, its header and the first line below the header are also accepted
-- without the rest of the script.
use Rattle.std.proofs.Common.{◌≡◌, ℕ, List, [], ◌∷◌, take, Result, Ok, Err, IsOk, refl}
use Rattle.qolb_script.specs.declared.job.WorkKind.{WorkKind}
use Rattle.qolb_script.specs.declared.reason.Refusal.{Refusal}
use Rattle.qolb_script.specs.declared.reason.ScriptKind.TheVariants.{Schedule, Steps}
use Rattle.qolb_script.specs.Text.{numbered_lines, worded}
use Rattle.qolb_script.specs.Refusals.{with_error}
use Rattle.qolb_script.specs.Headers.{header_at, script_kind}
use Rattle.qolb_script.specs.Commands.{header_of}
use Rattle.qolb_script.specs.Events.{step_header_of}
use Rattle.qolb_script.specs.Jobs.{work_header_of}
use Rattle.qolb_script.specs.Script as schedule
use Rattle.qolb_script.specs.Script.{IsBegun, Script, parsed_schedule, schedule_by, schedule_from, script_of}
use Rattle.qolb_script.specs.StepScript as steps
use Rattle.qolb_script.specs.StepScript.{AreBegun, StepScript, parsed_steps, steps_by, steps_from, steps_of}
use Rattle.qolb_script.specs.WorkScript as work
use Rattle.qolb_script.specs.WorkScript.{IsWorkBegun, WorkScript, parsed_work, work_by, work_from, work_of}
use Rattle.qolb_script.proofs.ScriptLemmas.{whole_begun}

is_read : {S : Type 0} (parsed : Result S Refusal) (script : S) → with_error parsed ≡ Ok script → IsOk parsed
is_read (Ok x) script e = refl
is_read (Err why) script e = cc

schedule_lines : (lines : List (ℕ × List ℕ)) → IsOk (schedule_from lines) → IsOk (schedule_from (take 2 lines))
schedule_lines [] ok = ok
schedule_lines (line ∷ rest) ok = whole_begun schedule.item_under schedule_by (header_at Schedule header_of line) rest ok

pub schedule_begun : (text : List ℕ) (script : Script) → script_of text ≡ Ok script → IsBegun text
schedule_begun text script e = schedule_lines (worded (numbered_lines text)) (is_read (parsed_schedule text) script e)

step_lines : (lines : List (ℕ × List ℕ)) → IsOk (steps_from lines) → IsOk (steps_from (take 2 lines))
step_lines [] ok = ok
step_lines (line ∷ rest) ok = whole_begun steps.item_under steps_by (header_at Steps step_header_of line) rest ok

pub steps_begun : (text : List ℕ) (script : StepScript) → steps_of text ≡ Ok script → AreBegun text
steps_begun text script e = step_lines (worded (numbered_lines text)) (is_read (parsed_steps text) script e)

work_lines : (kind : WorkKind) (lines : List (ℕ × List ℕ)) → IsOk (work_from kind lines) → IsOk (work_from kind (take 2 lines))
work_lines kind [] ok = ok
work_lines kind (line ∷ rest) ok = whole_begun (work.item_under kind) (work_by kind) (header_at (script_kind kind) (work_header_of kind) line) rest ok

pub work_begun : (kind : WorkKind) (text : List ℕ) (script : WorkScript) → work_of kind text ≡ Ok script → IsWorkBegun kind text
work_begun kind text script e = work_lines kind (worded (numbered_lines text)) (is_read (parsed_work kind text) script e)
