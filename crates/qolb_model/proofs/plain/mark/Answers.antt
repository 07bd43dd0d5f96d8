use Rattle.std.proofs.Common.{map, false, sym, ◌∙◌, arith}
use Rattle.std.proofs.lemmas.List.{ext_get_or, length-map, get_or-map}
use Rattle.qolb_model.specs.declared.waiter.Waiter.{Waiter}
use Rattle.qolb_model.specs.Steps.{withdrawn_at}
use Rattle.qolb_model.proofs.plain.mark.Goals as goal

pub returns : goal.returns
returns c =
    let d : Waiter = record { node = 0; withdrawn = false } in
    let f = withdrawn_at c.args.node in
    let long = length-map c.args.waiting.now f in
    ext_get_or d c.loop-waiter.waiting (map f c.args.waiting.now) (c.loop-waiter.auto.waiting ∙ sym long)
    (λ k lt. c.loop-waiter.invariant.passed k d (omega (arith, lt)) ∙ sym (get_or-map f c.args.waiting.now k d d (omega (arith, lt))))
