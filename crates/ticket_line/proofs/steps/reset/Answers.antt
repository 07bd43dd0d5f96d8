use Rattle.std.proofs.Common.{rules, arith, ap, ◌∙◌}
use Rattle.line_cells.specs.Layout.{node_at}
use Rattle.line_cells.specs.Steps.{ghost_of}
use Rattle.line_cells.proofs.Counting.{node_below}
use Rattle.line_cells.proofs.Renewing.{resets_next}
use Rattle.ticket_line.specs.Slots.{slot_layout}
use Rattle.ticket_line.specs.Ticket.{TicketCells}
use Rattle.ticket_line.proofs.steps.reset.Goals as goal

pub store-requires : goal.store-requires
store-requires g c = (search rules, let low = node_below c.args.table.now.key.config.nodes c.args.node c.requires.seat.1.2 c.requires.seat.1.1 in omega arith, resets_next (TicketCells c.args.table.now.key.config.nodes) (slot_layout c.args.table.now.key.config.nodes) g.K.Keep.good g.K.Keep.allows c.args.table.now.key (ghost_of c.args.seat.now) c.requires.point.1 c.requires.clear _ _ _ c.args.seat.now.me c.requires.point.0 (c.node_word.ensures ∙ ap node_at c.requires.seat.1.0))
