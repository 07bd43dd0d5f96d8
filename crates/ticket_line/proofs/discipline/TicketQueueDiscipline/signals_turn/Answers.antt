use Rattle.std.proofs.Common.{◌≡◌, ◌%◌, ◌^◌, refl, sym, ap, ◌∙◌, subst}
use Rattle.std.proofs.lemmas.Bool.{eqb-true, eqb-false}
use Rattle.line_cells.specs.Counting.{cells_for}
use Rattle.line_cells.specs.BetweenCalls.{wait_word}
use Rattle.line_cells.specs.Layout.{cell_at, ticket_of}
use Rattle.ticket_line.specs.Layout.{cell_of}
use Rattle.line_cells.proofs.Load.{looks_next}
use Rattle.ticket_line.specs.Steps.{is_other_half, is_granted_half}
use Rattle.ticket_line.specs.Slots.{slot_layout, slots_at_grant, slots_in_turn, slots_at_release}
use Rattle.ticket_line.specs.Ticket.{TicketCells}
use Rattle.ticket_line.specs.Layout.{signals_turn, granted_word}
use Rattle.ticket_line.proofs.SlotLayout.{take}
use Rattle.ticket_line.proofs.Cells.{takes_by, looked, stays_half}
use Rattle.ticket_line.proofs.Numbers.{cell_ticket, granted_ticket}
use Rattle.ticket_line.proofs.discipline.TicketQueueDiscipline.signals_turn.Goals as goal

pub returns-clause-polls : goal.returns-clause-polls
returns-clause-polls g c key id slots v stands =
    let same : granted_word c.args.token % 2 ^ 32 ≡ granted_word (ticket_of v.own.place) % 2 ^ 32 = ap (λ t. granted_word t % 2 ^ 32) stands.1 in
    looks_next (TicketCells key.config.nodes) (slot_layout key.config.nodes) g.K.Keep.good g.K.Keep.allows key v stands.0 ticket_of is_other_half is_granted_half (take key.config.nodes) (takes_by key.config.nodes is_other_half v.own.place v.view.node (λ n. n) (λ other. other (ap (λ k. k % 2 ^ 32) (sym (granted_ticket v.own.place)))) (looked v.own.place)) (stays_half key.config.nodes v.own.place) cells_for refl slots_at_grant slots_in_turn slots_at_release signals_turn c.args.token stands.1
    (λ found not_yet e. eqb-false (found % 2 ^ 32) (granted_word c.args.token % 2 ^ 32) not_yet (e ∙ sym same)) (λ found now. eqb-true (found % 2 ^ 32) (granted_word c.args.token % 2 ^ 32) now ∙ same) (λ y k lies. subst (λ t. slots_at_grant key.config.nodes t y k) (sym stands.1) lies)
    id slots (wait_word cells_for v.view.config.nodes v.view.node c.args.token) (ap (λ t. cell_at (cell_of v.view.config.nodes t)) stands.1 ∙ ap cell_at (cell_ticket v.view.config.nodes v.own.place))
