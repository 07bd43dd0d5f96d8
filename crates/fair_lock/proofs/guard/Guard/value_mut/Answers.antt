use Rattle.std.proofs.Common.{refl, ap, sym, ◌∙◌, ◌∷◌}
use Rattle.atomic_table.specs.Table.{rest}
use Rattle.fair_lock.proofs.Guards.{kept_guard, guard_carries, guard_table}
use Rattle.fair_lock.proofs.guard.Guard.value_mut.Goals as goal

pub slot_mut-requires : goal.slot_mut-requires
slot_mut-requires g c = let k = guard_carries c.args.self.now c.requires.guard in (guard_table c.args.self.now c.requires.guard, (k.0, k.1 ∙ sym (ap (λ l. (0, k.0) ∷ rest l) k.1)))

pub returns : goal.returns
returns g c = (
  (refl, (λ w. refl)),
  record {
    writes_back = tt;
    value = c.slot_mut.ensures.value ∙ ap (λ l. (0, c.slot_mut.result.now) ∷ l) (ap rest (guard_carries c.args.self.now c.requires.guard).1);
    kept = kept_guard c.args.self.now c.requires.guard;
  },
)
