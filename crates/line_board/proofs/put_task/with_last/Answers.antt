use Rattle.std.proofs.Common.{◌≡◌, ◌++◌, ◌∷◌, [], ℕ, List, Some, None, length, sym, ap, ◌∙◌, subst}
use Rattle.std.specs.Prelude.{OnOk}
use Rattle.std.specs.Result.{result_ok}
use Rattle.std.specs.declared.result.Result.{Result}
use Rattle.std.specs.declared.result.Result.TheVariants.{Ok, Err}
use Rattle.qolb_model.proofs.Lists.{same_some}
use Rattle.line_board.specs.Board.{Stand}
use Rattle.line_board.proofs.Refusing.{of_none, none_or_some, failed_with}
use Rattle.line_board.proofs.put_task.with_last.Goals as goal

-- a property of the value of a result that is fine
done_with : {T E P : Type 0} (r : Result T E) (x : T) → result_ok r ≡ Some x → OnOk r P → P
done_with (Ok y) x e h = h
done_with (Err y) x e h = absurd (let f : None ≡ Some x = e in cc f)

pub returns : goal.returns
returns c = λ tasks stood.
    let same : tasks ≡ c.in_ok-tasks.tasks.items = same_some (sym stood ∙ c.in_ok-tasks.ensures) in
    let pushed : c.try_push.new.self.items ≡ c.in_ok-tasks.tasks.items ++ c.args.task ∷ [] = done_with c.try_push.result c.in_ok-ok.field-0 (sym c.ok.ensures.value ∙ c.in_ok-ok.was) c.try_push.ensures.ok in
    subst (λ (left : List ℕ). Stand c.encode.result.bytes left) (pushed ∙ ap (λ (l : List ℕ). l ++ c.args.task ∷ []) (sym same)) c.encode.ensures.tasks

pub returns-in_err-tasks : goal.returns-in_err-tasks
returns-in_err-tasks c = λ tasks stood. absurd (none_or_some _ tasks c.in_err-tasks.ensures stood)

pub returns-in_err-ok : goal.returns-in_err-ok
returns-in_err-ok c = λ tasks stood.
    let same : tasks ≡ c.in_ok-tasks.tasks.items = same_some (sym stood ∙ c.in_ok-tasks.ensures) in
    of_none _ c.from_residual-in_err-ok.result c.from_residual-in_err-ok.ensures (ap length same ∙ failed_with c.try_push.result (sym c.ok.ensures.value ∙ c.in_err-ok.was) c.try_push.ensures.full)
