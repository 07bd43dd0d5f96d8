-- The reply to a schedule: an answer to each command, and after the last answer the counts of requests for each line (a
-- lock with 64 bytes of data). The definitions in this file were made for this project; none is taken from the
-- literature.
use Rattle.std.specs.Prelude.{ℕ, ◌==◌, ◌&&◌, ◌||◌, Bool, true, false, if◌then◌else◌, List, [], ◌∷◌, ◌++◌, map, fold, flat_map, count_by, replicate, slice_set, None, Result, Ok, Err}
use Rattle.std.specs.List.{slice_index_or, range_with_len}
use Rattle.line_lanes.specs.Line.{zeros}
use Rattle.qolb_model.specs.declared.answer.Enq.TheVariants as enq
use Rattle.qolb_model.specs.declared.answer.Poll.TheVariants as poll
use Rattle.qolb_model.specs.declared.answer.Out.TheVariants as out
use Rattle.qolb_model.specs.declared.answer.PortState.{PortState}
use Rattle.qolb_model.specs.declared.answer.PortState.TheVariants as port
use Rattle.qolb_model.specs.OneOwner.{OwnerState, opened, state_of, shown, enq_answer, after_enq, poll_answer, after_poll, out_answer, after_out, after_release, after_write}
use Rattle.qolb_model.specs.declared.config.LineConfig.{LineConfig}
use Rattle.qolb_model.specs.PortStates.{may_ask}
use Rattle.link_core.specs.declared.told.Told.TheVariants as told
use Rattle.qolb_script.specs.declared.command.Command.{Command}
use Rattle.qolb_script.specs.declared.command.Command.TheVariants.{Enq, Poll, Show, Deq, Out, Shut, Write}
use Rattle.qolb_script.specs.declared.reply_text.Said.{Said}
use Rattle.qolb_script.specs.declared.reply_text.Said.TheVariants as said
use Rattle.qolb_script.specs.Commands.{node_of, line_of}
use Rattle.qolb_script.specs.declared.error.ScriptError.{ScriptError}
use Rattle.qolb_script.specs.Script.{Script, script_of}
use Rattle.qolb_script.specs.Said.{said_text}

abbrev pub is_queued : PortState → Bool
is_queued port.Idle = false
is_queued port.Linking = false
is_queued port.Queued = true
is_queued port.Holding = false
is_queued port.Left = false
is_queued port.Rolled = false
is_queued port.Shut = false

abbrev pub is_holding : PortState → Bool
is_holding port.Idle = false
is_holding port.Linking = false
is_holding port.Queued = false
is_holding port.Holding = true
is_holding port.Left = false
is_holding port.Rolled = false
is_holding port.Shut = false

-- The state of the node allows the command. A node may request a line if it neither waits for the line nor holds it.
-- Polling and withdrawing need a waiting node, and the other commands need a holder.
abbrev pub is_allowed : PortState → Command → Bool
is_allowed state (Enq node line) = may_ask state
is_allowed state (Poll node line) = is_queued state
is_allowed state (Show node line) = is_holding state
is_allowed state (Deq node line) = is_holding state
is_allowed state (Out node line) = is_queued state
is_allowed state (Shut node line) = is_holding state
is_allowed state (Write node line mask bytes) = is_holding state

-- the answer to an allowed command, and the state after the command
abbrev pub answered : OwnerState → Command → Said
answered s (Enq node line) = said.Enq (enq_answer s node)
answered s (Poll node line) = said.Poll (poll_answer s node)
answered s (Show node line) = said.Bytes (record { bytes = shown s })
answered s (Deq node line) = said.Released
answered s (Out node line) = said.Out (out_answer s node)
answered s (Shut node line) = said.Shut
answered s (Write node line mask bytes) = said.Written

abbrev pub after_allowed : OwnerState → Command → OwnerState
after_allowed s (Enq node line) = after_enq s node
after_allowed s (Poll node line) = after_poll (poll_answer s node) s
after_allowed s (Show node line) = s
after_allowed s (Deq node line) = after_release s false
after_allowed s (Out node line) = after_out s node
after_allowed s (Shut node line) = after_release s true
after_allowed s (Write node line mask bytes) = after_write s mask.0 bytes.bytes

-- A command that is not allowed is misuse, and does not change anything.
abbrev pub said_of : OwnerState → Command → Said
said_of s c = if is_allowed (state_of s (node_of c)) c then answered s c else said.Misuse

abbrev pub after_command : OwnerState → Command → OwnerState
after_command s c = if is_allowed (state_of s (node_of c)) c then after_allowed s c else s

-- the state of every line, and the answers so far, each with the number of its line
pub record Replay : Type 0 where
  pub lines : List OwnerState
  pub said : List (ℕ × Said)

-- every line is opened with zeros, for the nodes of the script and with its lease
abbrev pub config_of : Script → LineConfig
config_of script = record { nodes = script.nodes; opening = record { bytes = zeros }; lease = script.lease }

-- the replay before its commands, after one more command, and after all commands in order
abbrev pub replay_start : LineConfig → ℕ → Replay
replay_start config lines = record { lines = replicate lines (opened config); said = [] }

-- the state that stands for a line that does not exist
abbrev pub no_line : OwnerState
no_line = opened (record { nodes = 0; opening = record { bytes = zeros }; lease = None })

abbrev pub line_at : List OwnerState → ℕ → OwnerState
line_at lines l = slice_index_or lines l no_line

abbrev pub replay_step : Replay → Command → Replay
replay_step r c = record {
  lines = slice_set r.lines (line_of c) (after_command (line_at r.lines (line_of c)) c);
  said = r.said ++ (line_of c, said_of (line_at r.lines (line_of c)) c) ∷ [];
}

abbrev pub replay_of : Script → Replay
replay_of script = fold replay_step (replay_start (config_of script) script.lines) script.commands

-- the number of answers of this kind that a line has given
abbrev pub times_said : (Said → Bool) → ℕ → List (ℕ × Said) → ℕ
times_said test line said = count_by (λ s. (s.0 == line) && test s.1) said

-- Tests of an answer to a call or an event: a request was served, was withdrawn, or was notified that the line is
-- closed.
abbrev pub is_served : Said → Bool
is_served said.Released = true
is_served said.Shut = true
is_served (said.Told told.Released) = true
is_served (said.Told told.Shut) = true
is_served what = false

abbrev pub is_withdrawn : Said → Bool
is_withdrawn (said.Out out.Withdrawn) = true
is_withdrawn (said.Told told.Withdrawn) = true
is_withdrawn what = false

abbrev pub is_told : Said → Bool
is_told (said.Enq enq.Closed) = true
is_told (said.Poll poll.Closed) = true
is_told (said.Out out.Closed) = true
is_told (said.Told told.Closed) = true
is_told what = false

-- the number of nodes that wait at a line or hold it
abbrev pub nodes_left : ℕ → OwnerState → ℕ
nodes_left nodes s = count_by (λ n. is_queued (state_of s n) || is_holding (state_of s n)) (range_with_len 1 nodes)

abbrev pub summary_of : ℕ → Replay → ℕ → Said
summary_of nodes r line =
    said.Summary line (times_said is_served line r.said) (times_said is_withdrawn line r.said) (times_said is_told line r.said) (nodes_left nodes (line_at r.lines line))

-- the text: the answers to the commands in order, followed by the summaries of the lines
abbrev pub text_of : List Said → List ℕ
text_of all = flat_map said_text all

abbrev pub reply_of : Script → List ℕ
reply_of script =
    text_of (map (λ s. s.1) (replay_of script).said) ++ text_of (map (summary_of script.nodes (replay_of script)) (range_with_len 0 script.lines))

-- the text that a replay of these bytes writes, or the first fault of the bytes
abbrev pub replied : Result Script ScriptError → Result (List ℕ) ScriptError
replied (Ok script) = Ok (reply_of script)
replied (Err error) = Err error

abbrev pub reply_to : List ℕ → Result (List ℕ) ScriptError
reply_to text = replied (script_of text)
