use Rattle.line_cells.specs.Counting.{cells_for}
use Rattle.line_cells.proofs.layout.cell_count.Goals as goal

pub returns-clause-cells : goal.returns-clause-cells
unfolding cells_for
returns-clause-cells c = c.least_power.ensures.power
