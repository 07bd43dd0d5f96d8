use Rattle.std.proofs.Common.{rules, arith, ◌≡◌, ◌+◌, Bool, true, false, sym, ap, ◌∙◌}
use Rattle.qolb_replay.specs.StepRuns.{is_busy, nodes_busy}
use Rattle.qolb_replay.proofs.StepsRun.{nodes_busy_more}
use Rattle.qolb_replay.proofs.steps.nodes_left.Goals as goal
use Rattle.qolb_replay.proofs.steps.nodes_left.Goals.{then-is_busy_at, else-is_busy_at}

pub loop-before-preserved : goal.loop-before-preserved
loop-before-preserved c = record {
  few = elim c.if-is_busy_at.branch [ then-is_busy_at w ↦ omega arith | else-is_busy_at w ↦ omega arith ];
  counted =
      let test = λ (b : Bool) (h : c.is_busy_at.result ≡ b). ap is_busy (sym c.point.ensures) ∙ sym c.is_busy_at.ensures ∙ h in
      let known : c.loop-before.left ≡ nodes_busy c.loop-before.before c.args.core.now = c.loop-before.invariant.counted in
      elim c.if-is_busy_at.branch [
        | then-is_busy_at w ↦
            let more : nodes_busy (c.loop-before.before + 1) c.args.core.now ≡ nodes_busy c.loop-before.before c.args.core.now + 1 = nodes_busy_more c.args.core.now c.loop-before.before true (test true (search rules)) in
            omega arith
        | else-is_busy_at w ↦
            let more : nodes_busy (c.loop-before.before + 1) c.args.core.now ≡ nodes_busy c.loop-before.before c.args.core.now + 0 = nodes_busy_more c.args.core.now c.loop-before.before false (test false (search rules)) in
            omega arith
      ];
}
