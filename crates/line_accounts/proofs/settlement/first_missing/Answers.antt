use Rattle.std.proofs.Common.{◌+◌, arith}
use Rattle.qolb_model.proofs.Finishing.{each_more}
use Rattle.line_accounts.specs.Settled.{HasPort}
use Rattle.line_accounts.proofs.settlement.first_missing.Goals as goal

pub loop-before-preserved : goal.loop-before-preserved
loop-before-preserved g c = each_more (HasPort g.L.LineSync.view c.args.desks.now c.args.i) (c.loop-before.before + 1) c.loop-before.invariant c.if-not-is_there.ensures

pub returns-then-not-is_there : goal.returns-then-not-is_there
returns-then-not-is_there g c = record {
  first = omega arith;
  last = omega (arith, c.loop-before-test.true, c.nodes-before-end.ensures);
  fails = c.if-not-is_there.ensures;
  before = c.loop-before.invariant;
}
