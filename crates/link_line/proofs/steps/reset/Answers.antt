use Rattle.std.proofs.Common.{rules, arith, ap, ◌∙◌, inl, inr, ⊎_elim}
use Rattle.link_line.specs.Layout.{entry_at}
use Rattle.link_line.specs.Steps.{ghost_of}
use Rattle.link_line.proofs.Resting.{resets_next}
use Rattle.link_line.proofs.steps.reset.Goals as goal

pub store-requires : goal.store-requires
store-requires g c = (search rules, omega arith, resets_next g.K.Keep.good g.K.Keep.allows c.args.table.now.key (ghost_of c.args.seat.now) (⊎_elim (λ a. inl a.1) (λ a. inr a.1) c.requires.point) _ _ _ c.args.seat.now.me (⊎_elim (λ a. a.0) (λ a. a.0) c.requires.point) (c.entry_word.ensures ∙ ap entry_at c.requires.seat.1.0))
