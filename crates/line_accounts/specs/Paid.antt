-- The sums that a port has paid into its line and drawn from it, computed from how the port's own requests ended. The
-- definitions in this file were made for this project; none is taken from the literature.
use Rattle.std.specs.Prelude.{ℕ, ◌-◌, List}
use Rattle.line_lanes.specs.Lane.{lanes_total}
use Rattle.qolb_model.specs.declared.view.View.{View}
use Rattle.qolb_model.specs.Sums.{sum_of_own}

-- the amount by which a line's total rose; the amount by which it fell
abbrev pub rise : List ℕ → List ℕ → ℕ
rise old new = lanes_total new - lanes_total old

abbrev pub fall : List ℕ → List ℕ → ℕ
fall old new = lanes_total old - lanes_total new

-- the sum that the port's own turns paid in; the sum that they drew
abbrev pub paid_by : View → ℕ
paid_by v = sum_of_own rise v

abbrev pub drawn_by : View → ℕ
drawn_by v = sum_of_own fall v
