-- The theorems about the tables of array locks that are specific to the ring. This file is in `specs`, because the
-- proof of a theorem may not refer to anything in `proofs`.
use Rattle.std.proofs.Common.{◌≡◌, ℕ, ◌+◌, ◌^◌, ◌<◌, ◌≤◌, List, false, arith}
use Rattle.qolb_model.specs.declared.config.TheConstants.{MAX_NODES}
use Rattle.line_cells.specs.declared.layout.TheConstants.{CELLS}
use Rattle.line_cells.specs.BetweenCalls.{max_steps}
use Rattle.line_cells.specs.Layout.{cell_at, cells_in}
use Rattle.ring_line.specs.Layout.{cell_of}
use Rattle.ring_line.specs.Layout.{AreFirst}
use Rattle.ring_line.specs.Ring.{RingCells}
use Rattle.line_generic.specs.declared.table.TableKey.{TableKey}
use Rattle.qolb_model.specs.Opening.{MayOpen}

-- a release takes at most three steps for each node
pub max_steps_positive : (nodes : ℕ) → 1 ≤ nodes → 1 ≤ max_steps 3 nodes
max_steps_positive nodes some = omega arith

pub max_steps_fits : (nodes : ℕ) → nodes ≤ MAX_NODES → max_steps 3 nodes < 2 ^ 32
max_steps_fits nodes few = omega arith

-- the words of the cells of a new line
pub first_cells : (words : List ℕ) → AreFirst words → RingCells 0 0 false (λ _. 0) (cells_in words)
first_cells words first = record {
  blank = λ e. absurd (cc e);
  granted = λ _. first.0;
  later = λ k a b. blank_at k a b;
}
  where
    blank_at : (k : ℕ) → 0 < k → k < CELLS → cells_in words (cell_of (0 + k)) ≡ 0
    blank_at k a b = let same : cell_of (0 + k) ≡ k = omega arith in first.1 (cell_at (cell_of (0 + k))) (omega arith) (λ e. omega arith)

-- there are more cells than nodes
pub enough : (key : TableKey) → MayOpen key.config → key.config.nodes < CELLS
enough key may = let few = may.nodes.few in omega arith
