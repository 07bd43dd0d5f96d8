use Rattle.std.proofs.Common.{true}
use Rattle.qolb_model.proofs.Calls.{releases-moves, releases-agrees}
use Rattle.qolb_model.proofs.plain.PlainLine.shut.Goals as goal

pub returns-clause-moves : goal.returns-clause-moves
returns-clause-moves c = λ s a. releases-moves c.args.self.now s c.args.node true a c.requires

pub returns-clause-agrees : goal.returns-clause-agrees
returns-clause-agrees c = λ s a. rw c.serve.ensures (releases-agrees c.args.self.now s c.args.node true a c.requires)
