use Rattle.std.proofs.Common.{rules, arith, ◌≡◌, suc, ◌+◌, ◌-◌, Bool, true, false, sym, ap, ◌∙◌}
use Rattle.qolb_model.specs.OneOwner.{state_of}
use Rattle.qolb_model.specs.Whole.{seen}
use Rattle.qolb_script.specs.Reply.{nodes_left}
use Rattle.qolb_replay.proofs.Tallying.{nodes_left_more, left_seen}
use Rattle.qolb_replay.proofs.line.nodes_left_at.Goals as goal
use Rattle.qolb_replay.proofs.line.nodes_left_at.Goals.{then-is_left, else-is_left}

pub loop-node-preserved : goal.loop-node-preserved
loop-node-preserved g c = record {
  few = elim c.if-is_left.branch [ then-is_left w ↦ omega arith | else-is_left w ↦ omega arith ];
  counted = λ s a.
      let place : c.loop-node.node ≡ suc (c.loop-node.node - 1) = omega arith in
      let next : c.loop-node.node + 1 - 1 ≡ suc (c.loop-node.node - 1) = omega arith in
      let same : seen c.state.result ≡ seen (state_of s (suc (c.loop-node.node - 1))) = c.state.ensures s a ∙ ap (λ n. seen (state_of s n)) place in
      let test = λ (b : Bool) (h : c.is_left.result ≡ b). sym (left_seen c.state.result (state_of s (suc (c.loop-node.node - 1))) same) ∙ sym c.is_left.ensures ∙ h in
      let known : c.loop-node.left ≡ nodes_left (c.loop-node.node - 1) s = c.loop-node.invariant.counted s a in
      (elim c.if-is_left.branch [
        | then-is_left w ↦
            let more : nodes_left (suc (c.loop-node.node - 1)) s ≡ nodes_left (c.loop-node.node - 1) s + 1 = nodes_left_more s (c.loop-node.node - 1) true (test true (search rules)) in
            let count : c.if-is_left.left ≡ nodes_left (suc (c.loop-node.node - 1)) s = omega arith in count
        | else-is_left w ↦
            let more : nodes_left (suc (c.loop-node.node - 1)) s ≡ nodes_left (c.loop-node.node - 1) s + 0 = nodes_left_more s (c.loop-node.node - 1) false (test false (search rules)) in
            let count : c.if-is_left.left ≡ nodes_left (suc (c.loop-node.node - 1)) s = omega arith in count
      ]) ∙ ap (λ n. nodes_left n s) (sym next);
}
