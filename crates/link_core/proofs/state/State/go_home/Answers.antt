use Rattle.std.proofs.Common.{◌≡◌, ◌≢◌, ℕ, true, refl, inl, inr, sym, ◌∙◌, subst}
use Rattle.std.proofs.lemmas.Bool.{cases_eq}
use Rattle.qolb_model.specs.Steps.{is_one}
use Rattle.link_core.specs.declared.point.Point.TheVariants.{Holding, Marking}
use Rattle.link_core.specs.declared.told.Told.{Told as Answer}
use Rattle.link_core.specs.declared.told.Told.TheVariants as told
use Rattle.link_core.specs.declared.event.Event.TheVariants as event
use Rattle.link_core.specs.State.{State, IsNode, point, at_point}
use Rattle.link_core.specs.Steps.{Step, Releases, holding, leaving, told_home, gone_home, closed_by}
use Rattle.link_core.specs.Steps as row
use Rattle.link_core.proofs.state.State.go_home.Goals.{then-is_last_turn, else-is_last_turn}
use Rattle.link_core.proofs.state.State.go_home.Goals as goal

-- what the release does from a state, by the home word
abbrev GoesHome : State → ℕ → ℕ → Answer → State → Type 0
GoesHome c n e t d = (c.home ≡ e → (t ≡ told_home n c) × (d ≡ gone_home n c)) × (c.home ≢ e → (t ≡ told.Went) × (d ≡ at_point n (Marking e) c))

from : (c : State) (n e : ℕ) (t : Answer) (d : State) → IsNode c n → Releases c n e → GoesHome c n e t d → Step c (event.Home n) t d
from c n e t d a r g = elim (cases_eq c.home e) [
  | inl f ↦ let y = g.0 f in rw (y.0, y.1) (row.home n e a r f)
  | inr ne ↦ let y = g.1 ne in rw (y.0, y.1) (row.home_failed n e a r ne)
]

from_closed : (c : State) (n : ℕ) (t : Answer) (d : State) → IsNode c n → point c n ≡ Holding → is_one c.left ≡ true → GoesHome (closed_by n c) n n t d → Step c (event.Home n) t d
from_closed c n t d a at last g = elim (cases_eq c.home n) [
  | inl f ↦ let y = g.0 f in rw (y.0, y.1) (row.home_last n a at last f)
  | inr ne ↦ let y = g.1 ne in rw (y.0, y.1) (row.home_last_failed n a at last ne)
]

pub returns-after-is_last_turn-clause-step : goal.returns-after-is_last_turn-clause-step
returns-after-is_last_turn-clause-step c = elim c.if-is_last_turn.branch [
  | then-is_last_turn w ↦ from_closed c.args.self.now c.args.n _ _ c.requires.node (sym c.point.ensures ∙ c.in-Holding.is) (sym c.is_last_turn.ensures ∙ w.if-is_last_turn.true) (subst (λ (x : State). GoesHome x c.args.n c.args.n c.go_home_from.result c.go_home_from.new.self) (w.self-is ∙ w.shut_by.ensures) (c.go_home_from.ensures.home, c.go_home_from.ensures.failed))
  | else-is_last_turn w ↦ from c.args.self.now c.args.n c.args.n _ _ c.requires.node (holding (sym c.point.ensures ∙ c.in-Holding.is) refl (sym c.is_last_turn.ensures ∙ w.if-is_last_turn.false)) (subst (λ (x : State). GoesHome x c.args.n c.args.n c.go_home_from.result c.go_home_from.new.self) w.self-is (c.go_home_from.ensures.home, c.go_home_from.ensures.failed))
]

pub returns-in-Leaving-clause-step : goal.returns-in-Leaving-clause-step
returns-in-Leaving-clause-step c = from c.args.self.now c.args.n c.in-Leaving.e _ _ c.requires.node (leaving (sym c.point.ensures ∙ c.in-Leaving.is)) (c.go_home_from-in-Leaving.ensures.home, c.go_home_from-in-Leaving.ensures.failed)
