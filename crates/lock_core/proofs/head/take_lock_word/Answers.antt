use Rattle.std.proofs.Common.{rules, arith, refl, subst, sym, ◌≤◌}
use Rattle.lock_core.specs.Views.{IsAtTurn}
use Rattle.lock_core.proofs.Slots.{read_lock_word_slotted, take_lock_word_slotted}
use Rattle.lock_core.proofs.head.take_lock_word.Goals as goal

pub load-lock_word-requires : goal.load-lock_word-requires
load-lock_word-requires g c = (search rules, (let e = c.requires.table in omega arith), read_lock_word_slotted _ _ c.args.seat.now.me c.requires.seat.1)

pub compare_exchange-found-requires : goal.compare_exchange-found-requires
compare_exchange-found-requires g c =
    let e = c.load-lock_word.ensures.2.0.1 in (
      search rules,
      (let k = c.requires.table in omega arith),
      take_lock_word_slotted _ _ c.args.ticket _ _ c.load-lock_word.new.seat.me c.load-lock_word.ensures.2.1 (let n = c.requires.barging in omega arith) (search rules) (let s = c.state.ensures in let n = c.if-state-eq1.false in λ z. omega arith) refl (λ timely. subst (IsAtTurn c.args.ticket) (sym e.1) (c.requires.at_turn (subst (λ v. v.most_open ≤ 1073741823) e.1 timely))),
    )
