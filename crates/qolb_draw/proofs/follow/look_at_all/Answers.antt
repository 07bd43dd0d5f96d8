use Rattle.std.proofs.Common.{arith, ◌≡◌, ◌<◌, length, inl, inr, sym, ap, ◌∙◌}
use Rattle.std.proofs.lemmas.Bool.{cases_eq}
use Rattle.std.proofs.lemmas.List.{length-set, get_or-set_other}
use Rattle.std.proofs.lemmas.Grind.{get_or-set_at}
use Rattle.qolb_model.specs.Plain.{node_state}
use Rattle.qolb_model.specs.declared.answer.PortState.TheVariants as port
use Rattle.qolb_draw.proofs.follow.look_at_all.Goals as goal

pub loop-node-preserved : goal.loop-node-preserved
loop-node-preserved g c =
    let had = c.loop-node.invariant in
    let within : c.loop-node.node < length c.loop-node.states.items = omega (arith, c.loop-node-test.true, c.len-node-end.ensures, had.0) in
    let is : c.state.result ≡ node_state c.args.line.now c.loop-node.node = c.state.ensures.state in (
      length-set c.loop-node.states.items c.loop-node.node c.state.result ∙ had.0,
      λ n lt. elim (cases_eq n c.loop-node.node) [
        | inl here ↦ get_or-set_at c.loop-node.states.items c.loop-node.node n c.state.result port.Idle here within ∙ is ∙ sym (ap (node_state c.args.line.now) here)
        | inr other ↦ get_or-set_other c.loop-node.states.items c.loop-node.node n c.state.result port.Idle other ∙ had.1 n (omega (arith, lt, other))
      ],
    )
