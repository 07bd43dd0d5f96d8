use Rattle.std.proofs.Common.{arith, ap, mod-lt, ◌<◌, ◌∙◌}
use Rattle.line_cells.specs.Counting.{cells_for}
use Rattle.line_cells.specs.Layout.{cell_at}
use Rattle.line_cells.proofs.Counting.{some_cells}
use Rattle.ticket_line.specs.Layout.{cell_of}
use Rattle.ticket_line.proofs.layout.cell_word.Goals as goal

pub returns : goal.returns
returns g c =
    let nodes = c.args.table.now.key.config.nodes in
    let low : cell_of nodes c.args.ticket < cells_for nodes = mod-lt c.args.ticket (some_cells nodes) in
    let is = c.cell_word.ensures ∙ ap cell_at c.cell_of.ensures.cell in
    (is, omega arith)
