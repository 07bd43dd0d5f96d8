use Rattle.std.proofs.Common.{rules, arith, ap, ◌∙◌, ◌+◌, ◌*◌, ◌%◌, ◌^◌, ℕ}
use Rattle.ring_line.specs.declared.layout.TheConstants.{WITHDRAWN_UNIT}
use Rattle.line_cells.specs.Layout.{cell_at}
use Rattle.ring_line.specs.Layout.{cell_of}
use Rattle.line_cells.specs.Steps.{ghost_of}
use Rattle.line_cells.proofs.Slots.{one_take}
use Rattle.line_cells.proofs.Roll.{rolls_next}
use Rattle.ring_line.specs.Steps.{is_blank, is_granted}
use Rattle.ring_line.proofs.Cells.{takes, stays, withdraws}
use Rattle.line_cells.specs.SlotLayout.{one_slot}
use Rattle.ring_line.specs.Ring.{RingCells}
use Rattle.ring_line.proofs.steps.roll.Goals as goal

pub fetch_add-requires : goal.fetch_add-requires
fetch_add-requires g c = let v = ghost_of c.args.seat.now in let d : ℕ = WITHDRAWN_UNIT * c.args.node in let change : ℕ → ℕ = λ w. (w + d) % 2 ^ 64 in (
  search rules,
  omega arith,
  rolls_next RingCells one_slot g.K.Keep.good g.K.Keep.allows c.args.table.now.key v c.requires.point.1 cell_of is_blank is_granted change one_take (takes v.own.place v.view.node change) (stays v.own.place)
      (withdraws v.own.place v.view.node d (ap (λ (k : ℕ). WITHDRAWN_UNIT * k) c.requires.seat.1.0)) _ _ _ c.args.seat.now.me (λ i. (c.requires.point.0 i, c.requires.no_slot i)) (c.cell_word.ensures ∙ ap cell_at c.requires.cell),
)
