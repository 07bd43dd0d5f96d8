use Rattle.std.proofs.Common.{rules, arith, sym, ap, subst, ◌∙◌, ◌≤◌}
use Rattle.qolb_model.specs.declared.config.TheConstants.{MAX_NODES}
use Rattle.line_cells.specs.Layout.{node_at}
use Rattle.line_cells.specs.Steps.{ghost_of}
use Rattle.line_cells.proofs.Freeing.{frees_next}
use Rattle.line_cells.specs.SlotLayout.{one_slot}
use Rattle.ring_line.specs.Ring.{RingCells}
use Rattle.ring_line.proofs.steps.free.Goals as goal

pub store-requires : goal.store-requires
store-requires g c = let n = c.requires.next_to_free in let p = c.requires.point in
    (search rules, omega arith, frees_next RingCells one_slot g.K.Keep.good g.K.Keep.allows c.args.table.now.key (ghost_of c.args.seat.now) p.1 n.0 n.1 n.3 n.2 n.4 _ _ _ c.args.seat.now.me p.0 (c.node_word.ensures ∙ ap node_at (sym n.5)) (subst (λ k. k ≤ MAX_NODES) (sym n.5) c.requires.in_range))
