use Rattle.std.proofs.Common.{rules, arith, refl, sym, ap, subst, ◌+◌, ◌%◌, ◌^◌, ◌∙◌, ℕ, length}
use native.Mathlib.Nat.{mod-add-mod}
use Rattle.line_cells.specs.declared.layout.TheConstants.{CELLS}
use Rattle.line_cells.specs.Layout.{cell_at}
use Rattle.ring_line.specs.Layout.{cell_of}
use Rattle.line_cells.specs.Steps.{ghost_of}
use Rattle.line_cells.proofs.Slots.{one_give, one_keep, one_lays}
use Rattle.line_cells.proofs.Grant.{GrantsNext, grants_next}
use Rattle.line_cells.specs.Array.{has_line, is_cleared}
use Rattle.line_cells.specs.SlotLayout.{one_slot}
use Rattle.ring_line.specs.Ring.{RingCells}
use Rattle.ring_line.specs.Steps.{seen, withdrawn_by}
use Rattle.ring_line.proofs.Cells.{grants}
use Rattle.ring_line.proofs.steps.grant.Goals as goal

pub fetch_add-requires : goal.fetch_add-requires
fetch_add-requires g c = let y = c.requires.payload in let r = c.requires.point in let v = ghost_of c.args.seat.now in let change : ℕ → ℕ = λ w. (w + 1) % 2 ^ 64 in (
  search rules,
  omega arith,
  grants_next RingCells one_slot g.K.Keep.good g.K.Keep.allows c.args.table.now.key g.K.Keep.stays_good v (ap has_line r.1) y.0 y.2 seen withdrawn_by change one_give one_keep one_lays
      (subst (λ q. GrantsNext CELLS RingCells seen withdrawn_by (length v.view.ends) (is_cleared q) change) (sym r.1) (grants (length v.view.ends))) _ _ _ c.args.seat.now.me _ (λ i. (r.0 i, y.1 i)) refl
      (c.cell_word.ensures ∙ ap cell_at c.cell_after.ensures ∙ ap (λ (k : ℕ). cell_at (cell_of (k + 1))) c.requires.cell ∙ ap cell_at (mod-add-mod (length v.view.ends) CELLS 1)),
)
