use Rattle.qolb_model.proofs.Agreed.{when_holding}
use Rattle.qolb_model.proofs.Steps.{agrees_write}
use Rattle.qolb_model.proofs.plain.PlainLine.write.Goals as goal

pub returns-clause-agrees : goal.returns-clause-agrees
returns-clause-agrees c = λ s a.
    let h = agrees_write c.args.self.now s c.args.mask.0 c.args.bytes.now.bytes a (when_holding c.args.self.now s a c.args.node c.requires).1 in
    rw c.merge-self-inside.ensures (rw (← c.self.view_is) at h)
