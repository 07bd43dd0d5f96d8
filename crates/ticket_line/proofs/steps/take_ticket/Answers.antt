use Rattle.std.proofs.Common.{rules}
use Rattle.line_cells.specs.Steps.{ghost_of}
use Rattle.line_cells.proofs.Ask.{asks_next}
use Rattle.ticket_line.specs.Slots.{slot_layout}
use Rattle.ticket_line.specs.Ticket.{TicketCells}
use Rattle.ticket_line.proofs.steps.take_ticket.Goals as goal

pub fetch_add-requires : goal.fetch_add-requires
fetch_add-requires g c = (search rules, search rules, asks_next (TicketCells c.args.table.now.key.config.nodes) (slot_layout c.args.table.now.key.config.nodes) g.K.Keep.good g.K.Keep.allows c.args.table.now.key (ghost_of c.args.seat.now) c.requires.point.1 _ _ c.args.seat.now.me c.requires.point.0)
