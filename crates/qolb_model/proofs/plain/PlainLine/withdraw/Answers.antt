use Rattle.std.proofs.Common.{map, sym, ◌∙◌, subst}
use Rattle.qolb_model.specs.declared.answer.Poll.TheVariants.{Granted, Waiting, Closed}
use Rattle.qolb_model.specs.Plain.{Agrees}
use Rattle.qolb_model.specs.OneOwner.{after_out}
use Rattle.qolb_model.specs.Steps.{withdrawn_at}
use Rattle.qolb_model.proofs.Waiting.{waiting_mark, written_back}
use Rattle.qolb_model.proofs.Calls.{gives_up-answer, gives_up-moves, gives_up-agrees, marks-moves, marks-agrees, look-granted, look-closed, look-waiting}
use Rattle.qolb_model.proofs.plain.PlainLine.withdraw.Goals as goal

pub invariant_of-self : goal.invariant_of-self
invariant_of-self c = (c.self.invariant.0, rw (c.mark.ensures, c.deref_mut.ensures.value, written_back (withdrawn_at c.args.node) c.self.inside.waiting.items) (waiting_mark c.self.inside.nodes c.args.node c.self.inside.waiting.items c.self.invariant.1))

pub returns-in-Granted-clause-answer : goal.returns-in-Granted-clause-answer
returns-in-Granted-clause-answer c = λ s a. gives_up-answer c.args.self.now s c.args.node a c.requires Granted c.in-Granted.ensures.answer

pub returns-in-Granted-clause-moves : goal.returns-in-Granted-clause-moves
returns-in-Granted-clause-moves c = λ s a. gives_up-moves c.args.self.now s c.args.node a c.requires Granted c.in-Granted.ensures.answer (look-granted c.args.self.now c.args.node c.in-Granted.ensures.answer)

pub returns-in-Granted-clause-agrees : goal.returns-in-Granted-clause-agrees
returns-in-Granted-clause-agrees c = λ s a. subst (λ l. Agrees l (after_out s c.args.node)) (sym c.in-Granted.ensures.new) (gives_up-agrees c.args.self.now s c.args.node a c.requires Granted c.in-Granted.ensures.answer (look-granted c.args.self.now c.args.node c.in-Granted.ensures.answer))

pub returns-in-Closed-clause-answer : goal.returns-in-Closed-clause-answer
returns-in-Closed-clause-answer c = λ s a. gives_up-answer c.args.self.now s c.args.node a c.requires Closed c.in-Closed.ensures.answer

pub returns-in-Closed-clause-moves : goal.returns-in-Closed-clause-moves
returns-in-Closed-clause-moves c = λ s a. gives_up-moves c.args.self.now s c.args.node a c.requires Closed c.in-Closed.ensures.answer (look-closed c.args.self.now c.args.node c.in-Closed.ensures.answer)

pub returns-in-Closed-clause-agrees : goal.returns-in-Closed-clause-agrees
returns-in-Closed-clause-agrees c = λ s a. subst (λ l. Agrees l (after_out s c.args.node)) (sym c.in-Closed.ensures.new) (gives_up-agrees c.args.self.now s c.args.node a c.requires Closed c.in-Closed.ensures.answer (look-closed c.args.self.now c.args.node c.in-Closed.ensures.answer))

pub returns-in-Waiting-clause-answer : goal.returns-in-Waiting-clause-answer
returns-in-Waiting-clause-answer c = λ s a. gives_up-answer c.args.self.now s c.args.node a c.requires Waiting c.in-Waiting.ensures.answer

pub returns-in-Waiting-clause-moves : goal.returns-in-Waiting-clause-moves
returns-in-Waiting-clause-moves c = λ s a. marks-moves c.args.self.now s c.args.node a c.requires (look-waiting c.args.self.now c.args.node c.in-Waiting.ensures.answer)

pub returns-in-Waiting-clause-agrees : goal.returns-in-Waiting-clause-agrees
returns-in-Waiting-clause-agrees c = λ s a.
    let h = marks-agrees c.args.self.now s c.args.node a c.requires (look-waiting c.args.self.now c.args.node c.in-Waiting.ensures.answer) in
    let is = c.self.view_is ∙ c.in-Waiting.ensures.new in
    rw (c.mark.ensures, c.deref_mut.ensures.value, written_back (withdrawn_at c.args.node) c.self.inside.waiting.items)
    (subst (λ l. Agrees (record l { waiting = map (withdrawn_at c.args.node) l.waiting }) (after_out s c.args.node)) (sym is) h)
