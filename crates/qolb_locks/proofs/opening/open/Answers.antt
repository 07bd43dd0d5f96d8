use Rattle.std.proofs.Common.{ap, ◌∙◌, arith}
use Rattle.qolb_locks.specs.declared.lock.Lock.{Lock}
use Rattle.qolb_locks.proofs.opening.open.Goals as goal

pub returns-clause-does : goal.returns-clause-does
returns-clause-does c =
    let made = c.leak.ensures.value ∙ c.in-Ok-new.ensures.ok in
    ((c.leak.result.now, c.of.ensures, ap (λ (l : Lock). l.barging_limit) made ∙ c.new.ensures.barging_limit ∙ c.barging_limit.ensures.barging_limit ∙ c.kind_of-kind.ensures.kind, ap (λ (l : Lock). l.label) made ∙ c.new.ensures.label), omega arith, c.if-label-eq0.false)
