use Rattle.std.proofs.Common.{rules, arith}
use Rattle.lock_core.proofs.Slots.{read_lock_word_slotted, request_handoff_slotted}
use Rattle.lock_core.proofs.head.request_handoff.Goals as goal

pub load-lock_word-requires : goal.load-lock_word-requires
load-lock_word-requires g c = (search rules, (let e = c.requires.table in omega arith), read_lock_word_slotted _ _ c.args.seat.now.me c.requires.seat.1)

pub compare_exchange-requires : goal.compare_exchange-requires
compare_exchange-requires g c = (search rules, (let e = c.requires.table in omega arith), request_handoff_slotted _ _ _ _ c.load-lock_word.new.seat.me c.load-lock_word.ensures.2.1 (let n = c.if-lock_word-eq1.false in omega arith))
