-- How the answer of a call on a node follows from the answer of the same call on its line. The definitions in this file
-- were made for this project; none is taken from the literature.
use Rattle.std.specs.Prelude.{Bool, true, false}
use Rattle.qolb_model.specs.declared.answer.Enq.{Enq}
use Rattle.qolb_model.specs.declared.answer.Enq.TheVariants as enq
use Rattle.qolb_model.specs.declared.answer.Prep.{Prep}
use Rattle.qolb_model.specs.declared.answer.Prep.TheVariants as prep
use Rattle.qolb_model.specs.declared.answer.Poll.{Poll}
use Rattle.qolb_model.specs.declared.answer.Poll.TheVariants as poll
use Rattle.qolb_model.specs.declared.answer.Out.{Out}
use Rattle.qolb_model.specs.declared.answer.Out.TheVariants as out
use Rattle.qolb_nodes.specs.declared.answer.Answer.{Answer}
use Rattle.qolb_nodes.specs.declared.answer.Answer.TheVariants as answer

abbrev pub enq_told : Enq → Answer
enq_told enq.Granted = answer.Granted
enq_told enq.Queued = answer.Queued
enq_told enq.Closed = answer.Closed
enq_told enq.Busy = answer.Busy

abbrev pub poll_told : Poll → Answer
poll_told poll.Granted = answer.Granted
poll_told poll.Waiting = answer.Waiting
poll_told poll.Closed = answer.Closed

abbrev pub out_told : Out → Answer
out_told out.Withdrawn = answer.Withdrawn
out_told out.Granted = answer.Granted
out_told out.Closed = answer.Closed

abbrev pub prep_told : Prep → Answer
prep_told prep.Granted = answer.Granted
prep_told prep.Linking = answer.Linking
prep_told prep.Closed = answer.Closed
prep_told prep.Busy = answer.Busy

-- the answers of `clear`
abbrev pub clear_told : Bool → Answer
clear_told true = answer.Done
clear_told false = answer.Busy
