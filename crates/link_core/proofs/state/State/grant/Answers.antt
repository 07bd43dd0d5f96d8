use Rattle.std.proofs.Common.{sym, ◌∙◌, ap}
use Rattle.link_core.specs.declared.entry.Entry.{Entry}
use Rattle.link_core.specs.Steps as row
use Rattle.link_core.proofs.state.State.grant.Goals as goal

pub returns-then-word-clause-step : goal.returns-then-word-clause-step
returns-then-word-clause-step c = rw (c.pass.ensures, c.use_turn.ensures, c.put_entry.ensures, c.entry-word.ensures) (row.grant_rolled c.args.n c.in-Granting.m c.requires.node (sym c.point.ensures ∙ c.in-Granting.is) (ap (λ (w : Entry). w.rolled) (sym c.entry-word.ensures) ∙ c.if-word.true))

pub returns-else-word-clause-step : goal.returns-else-word-clause-step
returns-else-word-clause-step c = rw (c.close_call.ensures.state, c.close_call.ensures.told, c.point_at_end-point.ensures, c.reason.ensures, c.use_turn.ensures, c.put_entry.ensures, c.entry-word.ensures) (row.grant c.args.n c.in-Granting.m c.requires.node (sym c.point.ensures ∙ c.in-Granting.is) (ap (λ (w : Entry). w.rolled) (sym c.entry-word.ensures) ∙ c.if-word.false))
