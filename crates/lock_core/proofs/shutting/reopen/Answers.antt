use Rattle.std.proofs.Common.{rules, arith, ◌∙◌, ◌≡◌, ◌⊎◌, subst, sym}
use Rattle.lock_core.specs.declared.view.Phase.TheVariants.{AtTurn, HeadInside}
use Rattle.lock_core.specs.Views.{Timely}
use Rattle.lock_core.proofs.Slots.{read_tail_slotted}
use Rattle.lock_core.proofs.Slots.{reopen_slotted}
use Rattle.lock_core.proofs.shutting.reopen.Goals as goal

pub load-requires : goal.load-requires
load-requires g c = (search rules, (let e = c.requires.table in omega arith), read_tail_slotted _ _ c.args.seat.now.me c.requires.seat.1 (λ t. (c.requires.turn t).2))

pub fetch_sub-requires : goal.fetch_sub-requires
fetch_sub-requires g c =
    let e = c.load.ensures.2.0.1 in
    let before : Timely c.load.new.seat.me.0 → Timely c.args.seat.now.me.0 = λ timely. let m = e.0.0.2 in omega arith in (
      search rules,
      (let e = c.requires.table in omega arith),
      reopen_slotted _ _ c.load.new.seat.me c.load.ensures.2.1
          (λ timely. subst (λ p. (p ≡ AtTurn) ⊎ (p ≡ HeadInside)) (sym e.1.0) (c.requires.turn (before timely)).0)
          (λ timely. let turn = c.requires.turn (before timely) in (e.3 timely).1 turn.0 (let found = c.if-load-ticket.false in let mine = turn.1 in omega arith))
          (λ timely. e.2 ∙ c.requires.shut (before timely)),
    )
