use Rattle.std.proofs.Common.{ap, ap₂, codes, ◌∙◌}
use Rattle.clap.specs.Words.{first_of, found_of, rows_of}
use Rattle.clap.proofs.WalkLemmas.{first_value-rows}
use Rattle.qolb_serve.specs.CommandLine.{task_by, detail_of, waits_of}
use Rattle.qolb_serve.proofs.command_line.task_at.Goals as goal

pub returns : goal.returns
returns c =
    let kind = c.get_str.ensures ∙ first_value-rows (found_of c.args.arguments.now) (codes "kind") in
    let detail = c.detail_of.ensures ∙ ap detail_of (c.get_str-2.ensures ∙ first_value-rows (found_of c.args.arguments.now) (codes "rank")) in
    let waits = c.waits_of.ensures ∙ ap waits_of (c.get_str-3.ensures ∙ first_value-rows (found_of c.args.arguments.now) (codes "sleep")) in
    c.task_of.ensures ∙ (ap₂ (λ kind detail. task_by c.args.name.now kind detail c.waits_of.result) kind detail ∙ ap (task_by c.args.name.now (first_of (codes "kind") (rows_of (found_of c.args.arguments.now))) (detail_of (first_of (codes "rank") (rows_of (found_of c.args.arguments.now))))) waits)
