use Rattle.std.proofs.Common.{sym, ◌∙◌}
use Rattle.qolb_serve.proofs.Answered.{answered_begun, denied}
use Rattle.qolb_serve.proofs.program.respond.Goals as goal

pub returns-in-Err-clause-refused : goal.returns-in-Err-clause-refused
returns-in-Err-clause-refused g c one = denied c.args.request.subcommand c.in-Err.error c.args.script.now c.in-Err.ensures.denied (sym c.refuse.ensures ∙ one)

pub returns-in_default-clause-memory : goal.returns-in_default-clause-memory
returns-in_default-clause-memory g c three = answered_begun _ c.args.request.subcommand c.args.script.now c.in-Ok.text.items c.in-Ok.ensures.granted
