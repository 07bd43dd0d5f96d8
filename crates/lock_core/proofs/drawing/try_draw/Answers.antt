use Rattle.std.proofs.Common.{rules, arith, ◌∙◌, refl}
use Rattle.lock_core.proofs.Slots.{read_tail_slotted, read_cell_slotted, try_draw_slotted}
use Rattle.lock_core.proofs.drawing.try_draw.Goals as goal

pub load-ticket-requires : goal.load-ticket-requires
load-ticket-requires c = (search rules, (let e = c.requires.table.0 in omega arith), read_tail_slotted _ _ c.args.seat.now.me c.requires.seat.1 (λ t. (c.requires.idle t).1))

pub load-cell-requires : goal.load-cell-requires
load-cell-requires c = (search rules, (let k = c.cell_word.ensures in let e = c.requires.table.0 in omega arith), read_cell_slotted _ _ _ _ c.load-ticket.new.seat.me c.load-ticket.ensures.2.1 c.cell_word.ensures (λ timely. let e = c.load-ticket.ensures.2.0.1 in let k = e.1 in let fresh = c.requires.idle (let m = e.0.0.2 in omega arith) in ((k.0 ∙ fresh.0, k.3 ∙ fresh.1), (e.3 timely).0)))

pub compare_exchange-requires : goal.compare_exchange-requires
compare_exchange-requires c = (
  search rules,
  (let e = c.requires.table.0 in omega arith),
  try_draw_slotted _ _ _ _ c.load-cell.new.seat.me c.load-cell.ensures.2.1 c.requires.table.1 refl (λ timely.
      let e = c.load-cell.ensures.2.0.1 in
      let f = e.1 timely in
      let q = c.load-ticket.ensures.2.0.1.3 (let m = e.0.0.2 in omega arith) in
      let ticket = q.0 in
      let probe = f.1 in
      let go = c.rounds_to_go.ensures in
      let zero_ = c.if-rounds_to_go-ne0.false in (f.0, (omega arith), f.2 (omega arith))),
)
