use Rattle.std.proofs.Common.{rules}
use Rattle.qolb_nodes.proofs.Opened.{opened}
use Rattle.qolb_nodes.proofs.opening.open.Goals as goal

pub returns-in-Ok-clause-opened : goal.returns-in-Ok-clause-opened
returns-in-Ok-clause-opened c = λ _.
    opened c.args.kind c.args.label c.in-Some.field-0.now c.args.config c.args.out.now c.are_empty.new.handles c.fill.new.out c.in-Ok.nodes.items (search rules) c.in-Ok.ensures.nodes (c.are_empty.ensures.empty c.if-not-are_empty.false)
    c.are_empty.ensures.same c.fill.ensures
