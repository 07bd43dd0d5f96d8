-- How the replay of given input bytes can end: with a reply or with an error.
use Rattle.std.specs.Prelude.{◌≡◌, ◌≢◌, ◌<◌, ◌≤◌, ◌⊎◌, ◌↔◌, ℕ, true, false, List, length, Option, Result, Ok, Err, OnOk, IfErr, IfSome}
use Rattle.std.specs.Io.KnownBytes.{Appends}
use Rattle.qolb_replay.specs.declared.replay.ReplayError.{ReplayError}
use Rattle.qolb_replay.specs.declared.replay.ReplayError.TheVariants as error
use Rattle.qolb_replay.specs.declared.input.TheConstants.{MAX_BYTES}
use Rattle.qolb_replay.specs.declared.steps.Detail.{Detail}
use Rattle.qolb_script.specs.declared.error.ScriptError.{ScriptError}
use Rattle.qolb_script.specs.declared.error.ScriptError.TheVariants as script
use Rattle.qolb_script.specs.Reply.{reply_to}
use Rattle.qolb_script.specs.declared.watched.Watched.{Watched}
use Rattle.qolb_script.specs.Watched.{inner_of, has_failed}
use Rattle.qolb_script.specs.StepScript.{steps_of}
use Rattle.qolb_replay.specs.StepRuns.{IsStepReplyTo}

-- the bytes are a script, and the text is the reply to it
pub record IsReply (input text : List ℕ) : Type 0 where
  pub fits : length input ≤ MAX_BYTES
  pub reply : reply_to input ≡ Ok text

-- this is the first fault in the bytes, read as a schedule or as a step script
abbrev pub HasReplayFault : List ℕ → ScriptError → Type 0
HasReplayFault input fault = reply_to input ≡ Err fault

abbrev pub HasStepFault : List ℕ → ScriptError → Type 0
HasStepFault input fault = steps_of input ≡ Err fault

-- Which errors are possible for these bytes. `Long` is possible only if there are too many bytes. `Script` is possible
-- only if there are not too many bytes and this is the first fault in them. `Write` is possible only if the bytes have
-- an answer.
abbrev pub MayFailBy : (List ℕ → List ℕ → Type 0) → (List ℕ → ScriptError → Type 0) → List ℕ → ReplayError → Type 0
MayFailBy IsAnswer HasFault input error.Memory = Unit {0}
MayFailBy IsAnswer HasFault input error.Read = Unit {0}
MayFailBy IsAnswer HasFault input error.Long = MAX_BYTES < length input
MayFailBy IsAnswer HasFault input (error.Script fault) = (length input ≤ MAX_BYTES) × HasFault input fault
MayFailBy IsAnswer HasFault input error.Write = (text : List ℕ) × IsAnswer input text

-- the errors that are possible for a schedule, and for a step script
abbrev pub ReplayMayFail : List ℕ → ReplayError → Type 0
ReplayMayFail input error = MayFailBy IsReply HasReplayFault input error

abbrev pub StepsMayFail : Detail → List ℕ → ReplayError → Type 0
StepsMayFail detail input error = MayFailBy (IsStepReplyTo detail) HasStepFault input error

-- A run read all bytes of a reader and wrote their answer to a writer, or ended with an error. `IsAnswer` says which
-- texts answer the bytes, and `MayFail` says when each error is possible.
pub record Runs {R W : Type 0} (remaining : R → Option (List ℕ)) (contents : W → Option (List ℕ)) (IsAnswer : List ℕ → List ℕ → Type 0) (MayFail : List ℕ → ReplayError → Type 0)
    (reader reader_after : Watched R) (writer writer_after : Watched W) (result : Result (Unit {0}) ReplayError) : Type 0 where
  pub ok : OnOk result (IfSome (remaining (inner_of reader)) (λ input. (text : List ℕ) × IsAnswer input text × Appends (contents (inner_of writer)) (contents (inner_of writer_after)) text))
  pub refused : IfErr result (λ why. IfSome (remaining (inner_of reader)) (λ input. MayFail input why))
  pub unwritten : IfErr result (λ why. why ≢ error.Write → writer_after ≡ writer)
  pub read_fault : (result ≡ Err error.Read) ↔ (has_failed reader_after ≡ true)
  pub write_fault : result ≡ Err error.Write → has_failed writer_after ≡ true
  pub written : OnOk result (has_failed writer_after ≡ false)
  pub memory : result ≢ Err (error.Script script.Memory)

-- the reason why bytes have no answer: an allocation failed, or this is the first fault in the bytes
abbrev pub HasNoAnswer : (List ℕ → ScriptError → Type 0) → List ℕ → ReplayError → Type 0
HasNoAnswer HasFault input why = (why ≡ error.Memory) ⊎ ((fault : ScriptError) × (why ≡ error.Script fault) × HasFault input fault × (fault ≢ script.Memory))

-- the same for a schedule, and for a step script
abbrev pub HasNoReply : List ℕ → ReplayError → Type 0
HasNoReply input why = HasNoAnswer HasReplayFault input why

abbrev pub HasNoStepReply : List ℕ → ReplayError → Type 0
HasNoStepReply input why = HasNoAnswer HasStepFault input why

-- the error of a replay whose input is not a script, or for which an allocation failed
abbrev pub script_error : ScriptError → ReplayError
script_error script.Memory = error.Memory
script_error (script.BadLine n) = error.Script (script.BadLine n)
script_error (script.Number n) = error.Script (script.Number n)
script_error (script.TooMany n) = error.Script (script.TooMany n)
