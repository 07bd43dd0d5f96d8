use Rattle.std.proofs.Common.{rules}
use Rattle.test_calls.proofs.Rows.{theirs_taken}
use Rattle.test_calls.proofs.checked_line.CheckedLine.take.Goals as goal

pub invariant_of-self : goal.invariant_of-self
invariant_of-self g c = let s = c.self.inside in
    theirs_taken g.L.LineSync.belongs g.L.LineSync.view g.L.LineSync.label_of s.line s.ports.items c.swap_remove.new.self.items _ _ c.swap_remove.ensures.items (search rules) (search rules) c.self.invariant
