use Rattle.std.proofs.Common.{rules, ℕ, ◌+◌, sym, subst}
use Rattle.link_line.specs.Steps.{LinkSeat, Advances, IsSeatOfNode}
use Rattle.link_line.proofs.Stepping.{goes_trans, seat_goes}
use Rattle.link_line.proofs.enqueue.try_reset.Goals as goal
use Rattle.link_line.proofs.enqueue.try_reset.Goals.{then-eq+else-not-load_left, else-eq+then-eq-2+else-not-load_rolled, else-eq+else-eq-2}

pub returns-clause-advances : goal.returns-clause-advances
returns-clause-advances g c = record {
  seat = search rules;
  advances = elim c.if-eq.branch [
    | then-eq+else-not-load_left w ↦ subst (λ (n : ℕ). Advances g.K.Keep.allows c.args.seat.now.me c.reset.new.seat.me (n + 1)) (sym w.loads-is) (goes_trans g.K.Keep.allows c.args.seat.now.me w.load_left.new.seat.me c.reset.new.seat.me 1 1 w.load_left.ensures.advances.advances (subst (λ (s : LinkSeat). Advances g.K.Keep.allows s.me c.reset.new.seat.me 1) w.seat-is c.reset.ensures.advances.advances))
    | else-eq+then-eq-2+else-not-load_rolled w ↦ subst (λ (n : ℕ). Advances g.K.Keep.allows c.args.seat.now.me c.reset.new.seat.me (n + 1)) (sym w.loads-is) (goes_trans g.K.Keep.allows c.args.seat.now.me w.load_rolled.new.seat.me c.reset.new.seat.me 1 1 w.load_rolled.ensures.advances.advances (subst (λ (s : LinkSeat). Advances g.K.Keep.allows s.me c.reset.new.seat.me 1) w.seat-is c.reset.ensures.advances.advances))
    | else-eq+else-eq-2 w ↦ subst (λ (n : ℕ). Advances g.K.Keep.allows c.args.seat.now.me c.reset.new.seat.me (n + 1)) (sym w.loads-is) (subst (λ (s : LinkSeat). Advances g.K.Keep.allows s.me c.reset.new.seat.me 1) w.seat-is c.reset.ensures.advances.advances)
  ];
}

pub reset-requires-clause-seat : goal.reset-requires-clause-seat
reset-requires-clause-seat g c = elim c.if-eq.branch [
  | then-eq+else-not-load_left w ↦ subst (λ (s : LinkSeat). IsSeatOfNode c.args.table.now.key.config.nodes c.args.table.now.table_id c.args.node s) (sym w.seat-is) (seat_goes c.args.seat.now w.load_left.new.seat w.load_left.ensures.advances c.requires.seat)
  | else-eq+then-eq-2+else-not-load_rolled w ↦ subst (λ (s : LinkSeat). IsSeatOfNode c.args.table.now.key.config.nodes c.args.table.now.table_id c.args.node s) (sym w.seat-is) (seat_goes c.args.seat.now w.load_rolled.new.seat w.load_rolled.ensures.advances c.requires.seat)
  | else-eq+else-eq-2 w ↦ subst (λ (s : LinkSeat). IsSeatOfNode c.args.table.now.key.config.nodes c.args.table.now.table_id c.args.node s) (sym w.seat-is) c.requires.seat
]
