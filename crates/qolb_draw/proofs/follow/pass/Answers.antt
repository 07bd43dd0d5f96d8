use Rattle.std.proofs.Common.{slice_get, inl, sym, ap, ◌∙◌}
use Rattle.qolb_draw.specs.Following.{state_ended}
use Rattle.qolb_draw.proofs.States.{one_passed}
use Rattle.qolb_draw.proofs.follow.pass.Goals as goal

pub loop-state-preserved : goal.loop-state-preserved
loop-state-preserved g c =
    let had = c.loop-state.invariant in
    let one = one_passed c.args.line.now c.args.waiting.now.items c.loop-state.waiting.items c.remove-node.new.self.items c.remove-node.result c.in-Some.state c.args.states.now.items c.loop-state.states.items c.keep.new.states.items
    (sym (c.state_ended.ensures ∙ ap (state_ended c.args.line.now) (c.first.ensures.value ∙ ap (λ xs. slice_get xs 0) c.deref.ensures.value)) ∙ c.in-Some.is) c.remove-node.ensures.value c.remove-node.ensures.items c.keep.ensures had.1 in
    (one.2 ∙ had.0, one.0, inl (c.is_shut-closed.ensures ∙ one.1))
