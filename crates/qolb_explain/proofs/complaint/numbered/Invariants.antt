use Rattle.std.proofs.Common.{◌≡◌}
use Rattle.qolb_script.specs.Text.{numbered_lines, worded}
use Rattle.qolb_script.specs.Reading.{lines_left}
use Rattle.qolb_explain.specs.Complaints.{line_at}
use Rattle.qolb_explain.proofs.complaint.numbered.Given as goal

abbrev pub invariant-loop-number : goal.invariant-loop-number
invariant-loop-number l = line_at l.wanted (worded (numbered_lines l.fn.script)) ≡ line_at l.wanted (lines_left l.number-iterator)
