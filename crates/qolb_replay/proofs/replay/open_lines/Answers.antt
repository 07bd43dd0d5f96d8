use Rattle.std.proofs.Common.{arith, ◌≡◌, ℕ, ◌+◌, length, sym, ap, ◌∙◌, subst, length-append}
use Rattle.qolb_model.specs.OneOwner.{opened}
use Rattle.qolb_model.specs.Plain.{PlainView, Agrees}
use Rattle.qolb_script.specs.Reply.{replay_start}
use Rattle.qolb_replay.specs.Tallies.{AreLinesOf}
use Rattle.qolb_replay.specs.declared.line.CountingLine.{CountingLine}
use Rattle.qolb_replay.proofs.Replayed.{IsNew, none_opened, one_more_opened}
use Rattle.qolb_replay.proofs.replay.open_lines.Goals as goal

pub loop-init : goal.loop-init
loop-init g c = record {
  opened = subst (AreLinesOf Agrees (λ (l : PlainView). l.nodes) c.args.config.now.nodes (replay_start c.args.config.now 0)) (sym c.in_ok-all.ensures.items) (none_opened Agrees (λ (l : PlainView). l.nodes) c.args.config.now);
  many = ap length c.in_ok-all.ensures.items;
}

pub loop-preserved : goal.loop-preserved
loop-preserved g c =
    let line : CountingLine PlainView = c.new.result in
    let new : IsNew Agrees (λ (l : PlainView). l.nodes) c.args.config.now line = record {
      nodes_are = ap (λ (t : CountingLine PlainView). t.line.nodes) c.new.ensures ∙ c.in-Ok.ensures.nodes;
      agrees = subst (λ (t : CountingLine PlainView). Agrees t.line (opened c.args.config.now)) (sym c.new.ensures) c.in-Ok.ensures;
      nothing_said = ap (λ (t : CountingLine PlainView). t.counts) c.new.ensures;
    } in
    record {
      opened = subst (AreLinesOf Agrees (λ (l : PlainView). l.nodes) c.args.config.now.nodes (replay_start c.args.config.now (c.loop.counter + 1))) (sym c.in_ok-push.ensures.items)
          (one_more_opened Agrees (λ (l : PlainView). l.nodes) c.args.config.now c.loop.counter c.loop.all.items line c.loop.invariant.opened c.loop.invariant.many new);
      many = ap length c.in_ok-push.ensures.items ∙ length-append c.loop.all.items _ ∙ ap (λ n. n + 1) c.loop.invariant.many;
    }

pub returns : goal.returns
returns g c =
    let all : c.loop.counter ≡ c.args.lines = omega arith in
    subst (λ (n : ℕ). AreLinesOf Agrees (λ (l : PlainView). l.nodes) c.args.config.now.nodes (replay_start c.args.config.now n) c.loop.all.items) all c.loop.invariant.opened
