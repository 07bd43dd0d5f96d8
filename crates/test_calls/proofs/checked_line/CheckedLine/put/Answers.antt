use Rattle.std.proofs.Common.{sym, subst}
use Rattle.test_calls.specs.Rows.{IsTheirs}
use Rattle.test_calls.proofs.Rows.{theirs_put}
use Rattle.test_calls.proofs.checked_line.CheckedLine.put.Goals as goal

pub invariant_of-self : goal.invariant_of-self
invariant_of-self g c = let s = c.self.inside in
    theirs_put g.L.LineSync.belongs g.L.LineSync.view g.L.LineSync.label_of s.line _ s.ports.items c.push.new.self.items c.args.port c.push.ensures.items c.self.invariant
    (subst (λ (line : g.row.L.Denot). IsTheirs g.L.LineSync.belongs g.L.LineSync.view g.L.LineSync.label_of line c.args.port) (sym c.self.view_is) c.requires)
