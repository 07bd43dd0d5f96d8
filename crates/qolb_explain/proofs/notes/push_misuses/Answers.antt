use Rattle.std.proofs.Common.{◌+◌, ◌≤◌, List, length, refl, subst}
use Rattle.std.proofs.lemmas.List.{drop_all}
use Rattle.qolb_script.specs.declared.command.Command.{Command}
use Rattle.qolb_script.specs.declared.command.Command.TheVariants.{Enq}
use Rattle.qolb_explain.proofs.Noting.{stands_first, stands_more, stands_last}
use Rattle.qolb_explain.proofs.notes.push_misuses.Goals as goal

pub loop-command-init : goal.loop-command-init
loop-command-init c = stands_first c.args.schedule.now c.args.line c.open-plain.result c.args.notes.now.items c.open-plain.ensures.nodes c.open-plain.ensures.opened

pub loop-command-preserved : goal.loop-command-preserved
loop-command-preserved c =
    stands_more c.args.schedule.now c.args.line c.loop-command.command-index c.loop-command.number (c.loop-command.number + 1) c.loop-command.plain c.push_if_misuse.new.plain
    c.args.notes.now.items c.loop-command.notes.items c.push_if_misuse.new.notes.items c.commands-command-items.result.now (Enq 0 0)
    c.loop-command.invariant c.commands-command-items.ensures.commands c.loop-command-test.true refl
    c.push_if_misuse.ensures.nodes c.push_if_misuse.ensures.agrees c.in_ok-push_if_misuse.ensures.note

pub returns : goal.returns
returns c =
    stands_last c.args.schedule.now c.args.line c.loop-command.command-index c.loop-command.number c.loop-command.plain c.args.notes.now.items c.loop-command.notes.items c.loop-command.invariant
    (drop_all c.loop-command.command-index c.args.schedule.now.commands
    (subst (λ (cs : List Command). length cs ≤ c.loop-command.command-index) c.commands-command-items.ensures.commands c.loop-command-test.false))
