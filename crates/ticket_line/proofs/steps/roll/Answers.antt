use Rattle.std.proofs.Common.{rules, subst, ◌∙◌, ◌≤◌}
use Rattle.ticket_line.specs.Layout.{withdrawn_word}
use Rattle.qolb_model.specs.declared.config.TheConstants.{MAX_NODES}
use Rattle.line_cells.specs.Steps.{ghost_of}
use Rattle.ticket_line.proofs.Stepping.{ticket_rolls}
use Rattle.ticket_line.proofs.steps.roll.Goals as goal

pub swap-found-requires : goal.swap-found-requires
swap-found-requires g c = let own = c.requires.seat.1 in (
  search rules,
  search rules,
  ticket_rolls g.K.Keep.good g.K.Keep.allows c.args.table.now.key (ghost_of c.args.seat.now) _ _ _ c.args.seat.now.me own.3 c.requires.point.1 (λ i. (c.requires.point.0 i, c.requires.no_slot i)) c.args.ticket c.requires.ticket c.cell_word.ensures.0
      c.withdrawn_word.result (subst (λ n. n ≤ MAX_NODES) own.0 own.1) (c.withdrawn_word.ensures ∙ (λ j. withdrawn_word (c.requires.ticket j) (own.0 j))),
)
