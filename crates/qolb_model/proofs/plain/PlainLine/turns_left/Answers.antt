use Rattle.std.proofs.Common.{ap, sym, ◌∙◌}
use Rattle.qolb_model.proofs.Agreed.{when_holding}
use Rattle.qolb_model.proofs.Leases.{open_has_turns}
use Rattle.qolb_model.proofs.plain.PlainLine.turns_left.Goals as goal

pub returns-clause-not_zero : goal.returns-clause-not_zero
returns-clause-not_zero c = λ s a none.
    let open_line = (a.reached.held (when_holding c.args.self.now s a c.args.node c.requires).1).1 in
    open_has_turns s.config.lease s.queue.order s.queue.ends a.reached.may_open.lease a.reached.legal open_line
    (sym a.left ∙ (sym (ap (λ l. l.left) c.self.view_is) ∙ none))
