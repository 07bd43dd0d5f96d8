use Rattle.std.proofs.Common.{rules, arith, refl, ◌∙◌}
use Rattle.lock_core.proofs.Slots.{look_slotted, announce_sleep_slotted}
use Rattle.lock_core.proofs.waiting.announce_sleep.Goals as goal

pub load-found-requires : goal.load-found-requires
load-found-requires g c = (search rules, (let k = c.cell_word.ensures in let e = c.requires.table in omega arith), look_slotted _ _ _ c.args.ticket c.args.seat.now.me c.requires.seat.1 c.requires.seat.2 c.cell_word.ensures c.requires.queued)

pub compare_exchange-cell-requires : goal.compare_exchange-cell-requires
compare_exchange-cell-requires g c = (
  search rules,
  (let k = c.cell_word-2.ensures in let e = c.requires.table in omega arith),
  announce_sleep_slotted _ _ _ c.args.ticket _ _ c.load-found.new.seat.me c.load-found.ensures.2.1 (c.load-found.ensures.2.0.1.0.0.1 ∙ c.requires.seat.2) c.cell_word-2.ensures (let k = c.sleepers.ensures in let n = c.if-sleepers-ge-MAX_SLEEPERS.false in omega arith) refl (λ timely.
      let e = c.load-found.ensures.2.0.1 in
      let f = e.1 timely in
      let q = c.requires.queued (let m = e.0.0.2 in omega arith) in
      let mine = q.1 in
      let number = f.0 in
      let go = c.rounds_to_go-rounds.ensures in
      let some_ = c.if-rounds-eq0.false in
      let h = f.4 (omega arith) in (h.0, (omega arith), h.1)),
)
