use Rattle.std.proofs.Common.{rules, arith, ap, ◌∙◌, inl, inr, ⊎_elim}
use Rattle.line_cells.specs.Layout.{cell_at}
use Rattle.line_cells.specs.Steps.{ghost_of}
use Rattle.ring_line.proofs.Clear.{clears_next}
use Rattle.ring_line.proofs.steps.clear.Goals as goal

pub store-requires : goal.store-requires
store-requires g c = (search rules, omega arith, clears_next g.K.Keep.good g.K.Keep.allows c.args.table.now.key (ghost_of c.args.seat.now) (⊎_elim (λ a. inl a.1) (λ a. inr a.1) c.requires.point) _ _ _ c.args.seat.now.me (⊎_elim (λ a. a.0) (λ a. a.0) c.requires.point) (c.cell_word.ensures ∙ ap cell_at c.requires.cell))
