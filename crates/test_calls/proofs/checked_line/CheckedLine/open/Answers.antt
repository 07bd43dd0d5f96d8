use Rattle.test_calls.proofs.Rows.{theirs_opened}
use Rattle.test_calls.proofs.checked_line.CheckedLine.open.Goals as goal

pub invariant_of-result : goal.invariant_of-result
invariant_of-result g c = theirs_opened g.L.LineSync.belongs g.L.LineSync.view g.L.LineSync.label_of c.in_ok-line.line c.in_ok-line.ports.items c.in_ok-line.ensures.opens.each_belongs
