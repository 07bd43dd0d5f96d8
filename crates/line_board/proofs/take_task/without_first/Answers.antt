use Rattle.std.proofs.Common.{◌≡◌, ℕ, List, [], ◌∷◌, Some, None, slice_get, sym, ◌∙◌}
use Rattle.std.specs.Prelude.{remove}
use Rattle.qolb_model.proofs.Lists.{same_some}
use Rattle.line_board.proofs.Refusing.{of_none, none_or_some, none_first}
use Rattle.line_board.proofs.take_task.without_first.Goals as goal

first_and_rest : (xs : List ℕ) (x : ℕ) (rest : List ℕ) → slice_get xs 0 ≡ Some x → rest ≡ remove xs 0 → xs ≡ x ∷ rest
first_and_rest [] x rest e f = absurd (let h : None ≡ Some x = e in cc h)
first_and_rest (y ∷ ys) x rest e f = let same : y ≡ x = same_some e in let after : rest ≡ ys = f in cc (same, after)

pub returns : goal.returns
returns c = λ tasks stood.
    let same : tasks ≡ c.in_ok-tasks.tasks.items = same_some (sym stood ∙ c.in_ok-tasks.ensures) in
    let popped = c.in_ok-first.ensures in
    (c.pop_at.new.self.items, same ∙ first_and_rest c.in_ok-tasks.tasks.items c.in_ok-first.first c.pop_at.new.self.items (sym popped.value) popped.items, c.encode.ensures.tasks)

pub returns-in_err-tasks : goal.returns-in_err-tasks
returns-in_err-tasks c = λ tasks stood. absurd (none_or_some _ tasks c.in_err-tasks.ensures stood)

pub returns-in_err-first : goal.returns-in_err-first
returns-in_err-first c = λ tasks stood.
    let same : tasks ≡ c.in_ok-tasks.tasks.items = same_some (sym stood ∙ c.in_ok-tasks.ensures) in
    of_none _ c.from_residual-in_err-first.result c.from_residual-in_err-first.ensures (same ∙ none_first c.in_ok-tasks.tasks.items (sym c.pop_at.ensures.value ∙ c.in_err-first.was))
