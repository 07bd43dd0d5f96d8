use Rattle.std.proofs.Common.{rules, ◌≢◌, inr}
use Rattle.clap.specs.Words.{kind_of}
use Rattle.clap.specs.declared.error.kind.ErrorKind.TheVariants.{OutOfMemory}
use Rattle.qolb_serve.proofs.Answered.{known_answer, known_answered, known_denied}
use Rattle.qolb_serve.proofs.program.serve.Goals as goal

pub returns-in-Err-2-clause-usage : goal.returns-in-Err-2-clause-usage
returns-in-Err-2-clause-usage g c = λ _.
    let other : kind_of c.in-Err-2.error ≢ OutOfMemory = search rules in
    c.in-Err-2.ensures.usage other

pub returns-clause-done : goal.returns-clause-done
returns-clause-done g c zero = (
  c.in-Ok.request.subcommand,
  c.in-Ok.request.explain,
  c.in-Ok.ensures.subcommand,
  c.in-Ok.ensures.explain,
  known_answered _ c.in-Ok.request.subcommand c.in-Ok.request.explain _ _ c.in-Ok-read_all.script.items c.deref.result.now (g.R.Read.remaining c.args.reader.now)
      (rw c.new.ensures.inner at c.in-Ok-read_all.ensures.whole) c.deref.ensures.value (c.respond.ensures.done zero),
)

pub returns-clause-refused : goal.returns-clause-refused
returns-clause-refused g c one = (
  c.in-Ok.request.subcommand,
  c.in-Ok.ensures.subcommand,
  known_denied c.in-Ok.request.subcommand c.in-Ok-read_all.script.items c.deref.result.now (g.R.Read.remaining c.args.reader.now)
      (rw c.new.ensures.inner at c.in-Ok-read_all.ensures.whole) c.deref.ensures.value (c.respond.ensures.refused one),
)

pub returns-clause-fault : goal.returns-clause-fault
returns-clause-fault g c four = (
  c.in-Ok.request.subcommand,
  c.in-Ok.ensures.subcommand,
  inr (known_answer _ c.in-Ok.request.subcommand c.in-Ok-read_all.script.items c.deref.result.now (g.R.Read.remaining c.args.reader.now)
      (rw c.new.ensures.inner at c.in-Ok-read_all.ensures.whole) c.deref.ensures.value (c.respond.ensures.fault four)),
)
