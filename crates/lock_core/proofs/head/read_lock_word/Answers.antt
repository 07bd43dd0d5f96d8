use Rattle.std.proofs.Common.{rules, arith}
use Rattle.lock_core.proofs.Slots.{read_lock_word_slotted}
use Rattle.lock_core.proofs.head.read_lock_word.Goals as goal

pub load-lock_word-requires : goal.load-lock_word-requires
load-lock_word-requires g c = (search rules, (let e = c.requires.table in omega arith), read_lock_word_slotted _ _ c.args.seat.now.me c.requires.seat.1)
