use Rattle.std.proofs.Common.{arith, mod-lt, ◌<◌}
use Rattle.line_cells.specs.Counting.{cells_for}
use Rattle.line_cells.proofs.Counting.{few_cells, some_cells, masked}
use Rattle.ticket_line.specs.Layout.{cell_of}
use Rattle.ticket_line.proofs.layout.cell_of.Goals as goal

pub returns-clause-cell : goal.returns-clause-cell
returns-clause-cell g c = masked c.args._table.now.key.config.nodes c.args.ticket c.args.mask c.requires

pub returns-clause-low : goal.returns-clause-low
returns-clause-low g c =
    let nodes = c.args._table.now.key.config.nodes in
    let is = masked nodes c.args.ticket c.args.mask c.requires in
    let low : cell_of nodes c.args.ticket < cells_for nodes = mod-lt c.args.ticket (some_cells nodes) in
    let few = few_cells nodes in
    omega arith
