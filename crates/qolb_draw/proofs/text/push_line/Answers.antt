use Rattle.std.proofs.Common.{◌∙◌, sym, subst, List, ℕ, ◌≤◌}
use Rattle.std.specs.List.{All}
use Rattle.qolb_draw.proofs.Outs.{shown_within}
use Rattle.qolb_draw.proofs.text.push_line.Goals as goal

pub push_blocks-requires-clause-nodes : goal.push_blocks-requires-clause-nodes
push_blocks-requires-clause-nodes g c = subst (λ (xs : List ℕ). All (λ n. (1 ≤ n) × (n ≤ c.args.grid.now.nodes)) xs) (sym (c.deref.ensures.value ∙ c.in_ok-nodes.ensures)) (shown_within c.args.grid.now.nodes c.args.grid.now.callers.items)
