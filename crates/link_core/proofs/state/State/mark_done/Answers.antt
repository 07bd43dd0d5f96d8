use Rattle.std.proofs.Common.{sym, ◌∙◌, ap}
use Rattle.link_core.specs.declared.entry.Entry.{Entry}
use Rattle.link_core.specs.Steps as row
use Rattle.link_core.proofs.state.State.mark_done.Goals as goal

pub returns-then-e-n-clause-step : goal.returns-then-e-n-clause-step
returns-then-e-n-clause-step c = rw (c.close_call.ensures.state, c.close_call.ensures.told, c.use_turn.ensures, c.put_entry.ensures, c.entry-word.ensures) (row.done_left c.args.n c.in-Marking.e c.requires.node (sym c.point.ensures ∙ c.in-Marking.is) (ap (λ (w : Entry). w.link) (sym c.entry-word.ensures) ∙ c.if-word-eq0.true) c.if-e-n.true)

pub returns-else-e-n-clause-step : goal.returns-else-e-n-clause-step
returns-else-e-n-clause-step c = rw (c.close_call-else-e-n.ensures.state, c.close_call-else-e-n.ensures.told, c.point_at_end-point.ensures, c.reason.ensures, c.use_turn.ensures, c.put_entry.ensures, c.entry-word.ensures) (row.done_rolled c.args.n c.in-Marking.e c.requires.node (sym c.point.ensures ∙ c.in-Marking.is) (ap (λ (w : Entry). w.link) (sym c.entry-word.ensures) ∙ c.if-word-eq0.true) c.if-e-n.false)

pub returns-else-word-eq0-clause-step : goal.returns-else-word-eq0-clause-step
returns-else-word-eq0-clause-step c = rw (c.go_to.ensures, c.put_entry.ensures, c.entry-word.ensures) (row.done_linked c.args.n c.in-Marking.e c.requires.node (sym c.point.ensures ∙ c.in-Marking.is) (λ f. c.if-word-eq0.false (ap (λ (w : Entry). w.link) c.entry-word.ensures ∙ f)))
