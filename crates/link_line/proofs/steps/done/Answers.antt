use Rattle.std.proofs.Common.{rules, arith, sym, ◌∙◌, subst, ℕ}
use Rattle.link_core.specs.declared.point.Point.TheVariants.{Granting}
use Rattle.link_line.specs.Steps.{ghost_of, KeepsPayload}
use Rattle.link_line.specs.Layout.{IsWithin}
use Rattle.link_line.specs.Laws.PortModel.{names_short}
use Rattle.link_line.proofs.Marking.{marks_next}
use Rattle.link_line.proofs.steps.done.Goals as goal

pub fetch_add-requires : goal.fetch_add-requires
fetch_add-requires g c = let r = c.requires.point in let y = c.requires.payload in (search rules, omega arith, marks_next g.K.Keep.good g.K.Keep.allows c.args.table.now.key (ghost_of c.args.seat.now) _ r.1 _ _ _ c.args.seat.now.me (λ i. (r.0 i, y i)) c.entry_word.ensures)

pub returns-clause-left : goal.returns-clause-left
returns-clause-left g c = λ none. (c.fetch_add.ensures.2.1 _ c.requires.payload).0 (sym c.link_of.ensures ∙ none)

pub returns-clause-names_wake_word : goal.returns-clause-names_wake_word
returns-clause-names_wake_word g c = λ none. names_short (ghost_of c.fetch_add.new.seat).view ((c.fetch_add.ensures.2.1 _ c.requires.payload).0 (sym c.link_of.ensures ∙ none)).2.short

pub returns-clause-keeps : goal.returns-clause-keeps
returns-clause-keeps g c = λ more. let on = (c.fetch_add.ensures.2.1 _ c.requires.payload).1 (λ z. more (c.link_of.ensures ∙ z)) in (
  on.0,
  subst (λ (k : ℕ). IsWithin (ghost_of c.fetch_add.new.seat).view.config.nodes k) (sym c.link_of.ensures) on.2,
  subst (λ (k : ℕ). KeepsPayload (ghost_of c.args.seat.now) (ghost_of c.fetch_add.new.seat) (ghost_of c.args.seat.now).own.line (Granting k)) (sym c.link_of.ensures) on.1,
)
