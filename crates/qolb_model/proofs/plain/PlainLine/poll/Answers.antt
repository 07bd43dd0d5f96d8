use Rattle.qolb_model.proofs.Calls.{polls-answer, polls-moves, polls-agrees}
use Rattle.qolb_model.proofs.plain.PlainLine.poll.Goals as goal

pub returns-clause-answer : goal.returns-clause-answer
returns-clause-answer c = λ s a. polls-answer c.args.self.now s c.args.node a c.requires c.look.result c.look.ensures.answer

pub returns-clause-moves : goal.returns-clause-moves
returns-clause-moves c = λ s a. polls-moves c.args.self.now s c.args.node a c.requires c.look.result c.look.ensures.answer

pub returns-clause-agrees : goal.returns-clause-agrees
returns-clause-agrees c = λ s a. rw c.look.ensures.new (polls-agrees c.args.self.now s c.args.node a c.requires c.look.result c.look.ensures.answer)
