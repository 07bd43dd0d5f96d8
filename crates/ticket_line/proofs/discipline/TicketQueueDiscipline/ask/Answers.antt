use Rattle.std.proofs.Common.{rules, ap, ◌∙◌}
use Rattle.qolb_model.specs.declared.config.LineConfig.{LineConfig}
use Rattle.qolb_model.proofs.Going.{asks_from, asks_goes}
use Rattle.line_cells.specs.Steps.{ghost_of}
use Rattle.line_cells.proofs.Turning.{goes_trans}
use Rattle.ticket_line.proofs.discipline.TicketQueueDiscipline.ask.Goals as goal

pub returns : goal.returns
returns g c = record {
  advances = record {
    seat = (c.load.ensures.advances.seat.0 ∙ c.take_ticket-ticket.ensures.advances.seat.0 ∙ c.in-Some.ensures.advances.seat.0, c.load.ensures.advances.seat.1 ∙ c.take_ticket-ticket.ensures.advances.seat.1 ∙ c.in-Some.ensures.advances.seat.1);
    advances = goes_trans g.K.Keep.allows c.args.seat.now.me c.try_reset.new.seat.me c.load.new.seat.me c.in-Some.renewing 2 c.in-Some.ensures.advances.advances
        (goes_trans g.K.Keep.allows c.try_reset.new.seat.me c.take_ticket-ticket.new.seat.me c.load.new.seat.me 1 1 c.take_ticket-ticket.ensures.advances.advances c.load.ensures.advances.advances);
  };
  request = record {
    stays = search rules;
    busy = search rules;
    asks = λ _.
        let asked = asks_from (ghost_of c.args.seat.now).view (ghost_of c.try_reset.new.seat).view (ghost_of c.take_ticket-ticket.new.seat).view c.in-Some.ensures.advances.advances.extends c.in-Some.ensures.is_reset.1 c.take_ticket-ticket.ensures.takes_ticket.asks in
        asks_goes (ghost_of c.args.seat.now).view (ghost_of c.take_ticket-ticket.new.seat).view (ghost_of c.load.new.seat).view asked c.load.ensures.advances.advances.extends c.load.ensures.count;
    joined = search rules;
    queued = search rules;
    at_turn = search rules;
  };
  steps = search rules;
}

pub load-requires-clause-nodes : goal.load-requires-clause-nodes
load-requires-clause-nodes g c = ap (λ (t : LineConfig). t.nodes) (c.take_ticket-ticket.ensures.advances.advances.extends.config ∙ c.in-Some.ensures.advances.advances.extends.config) ∙ c.requires.seat.1.3
