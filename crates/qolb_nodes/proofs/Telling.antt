-- Lemmas about exported functions: what each of them reports to C code about the call that it made on a node.
use Rattle.std.proofs.Common.{◌≡◌, ℕ, refl, sym, ap, ◌∙◌, subst}
use Rattle.std.specs.Prelude.{Option, Some, None}
use Rattle.qolb_nodes.specs.declared.answer.Answer.{Answer}
use Rattle.qolb_nodes.specs.declared.any_node.AnyNode.{AnyNode}
use Rattle.qolb_nodes.specs.Closing.{HasClosed}
use Rattle.qolb_nodes.specs.Exports.{Calls, Closes}
use Rattle.qolb_nodes.specs.Numbers.{number_of}

-- a call of a handle that has a node, by what its node did
pub called :
    (Does : AnyNode → AnyNode → Answer → Type 0) (held : Option AnyNode) (was now : AnyNode) (a : Answer) (n : ℕ)
    → held ≡ Some was → n ≡ number_of a → Does was now a → Calls Does held (Some now) n
called Does held was now a n had tells does = subst (λ (o : Option AnyNode). Calls Does o (Some now) n) (sym had) (now, a, refl, tells, does)

-- a handle that was closed, by what was answered
pub closed : (held now : Option AnyNode) (a : Answer) (n : ℕ) → n ≡ number_of a → HasClosed held now a → Closes held now n
closed None now a n tells done = (done.0, tells ∙ ap number_of done.1)
closed (Some was) now a n tells done = (
  λ rests. let freed = done.0 rests in (freed.0, tells ∙ ap number_of freed.1),
  λ busy. let stays = done.1 busy in (stays.0, tells ∙ ap number_of stays.1),
)
