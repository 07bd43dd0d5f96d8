-- The commands of a schedule that consist of one word, a node and a line, such as `enq` and `poll`. The definitions in
-- this file were made for this project; none is taken from the literature.
use Rattle.std.specs.Prelude.{ℕ, List, codes}
use Rattle.qolb_script.specs.declared.command.Command.{Command}
use Rattle.qolb_script.specs.declared.command.Command.TheVariants as command
use Rattle.qolb_script.specs.declared.command_reader.Verb.{Verb}
use Rattle.qolb_script.specs.declared.command_reader.Verb.TheVariants.{Enq, Poll, Show, Deq, Out, Shut}

-- the first word of the commands of this kind
abbrev pub word_of : Verb → List ℕ
word_of Enq = codes "enq"
word_of Poll = codes "poll"
word_of Show = codes "show"
word_of Deq = codes "deq"
word_of Out = codes "out"
word_of Shut = codes "shut"

-- the command of this kind for a node and a line
abbrev pub made : Verb → ℕ → ℕ → Command
made Enq = command.Enq
made Poll = command.Poll
made Show = command.Show
made Deq = command.Deq
made Out = command.Out
made Shut = command.Shut
