use Rattle.std.proofs.Common.{rules}
use Rattle.link_line.proofs.Stepping.{goes_trans, seat_goes}
use Rattle.link_line.proofs.enqueue.request.Goals as goal

pub returns-clause-advances : goal.returns-clause-advances
returns-clause-advances g c = record {
  seat = search rules;
  advances = goes_trans g.K.Keep.allows c.args.seat.now.me c.try_reset.new.seat.me c.prepend-predecessor.new.seat.me c.in-Some.renewing 1 c.in-Some.ensures.advances.advances c.prepend-predecessor.ensures.advances.advances;
}

pub prepend-predecessor-requires-clause-seat : goal.prepend-predecessor-requires-clause-seat
prepend-predecessor-requires-clause-seat g c = seat_goes c.args.seat.now c.try_reset.new.seat c.in-Some.ensures.advances c.requires.seat
