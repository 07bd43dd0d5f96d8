use Rattle.std.proofs.Common.{rules}
use Rattle.line_blocking.proofs.Rounds.{round_start, round_step, round_end}
use Rattle.line_blocking.proofs.meetings.meet_each.Goals as goal

pub loop-other-init : goal.loop-other-init
loop-other-init g c = round_start g.K.Keep.allows (g.L.LineSync.belongs c.args.line.now) g.L.LineSync.view g.L.LineSync.turn c.args.port.now c.args.others.now c.requires.belongs c.requires.others

pub loop-other-preserved : goal.loop-other-preserved
loop-other-preserved g c =
    round_step g.K.Keep.allows (g.L.LineSync.belongs c.args.line.now) g.L.LineSync.view g.L.LineSync.turn c.args.port.now c.args.others.now c.loop-other.other-index c.loop-other.port c.loop-other.others
    c.other-item.result c.meet.new.a c.meet.new.b c.loop-other.invariant (search rules) c.meet.ensures.belongs_a c.meet.ensures.belongs_b
    (record {
      tell = c.meet.ensures.tell;
      turn_a = c.meet.ensures.turn_a;
      turn_b = c.meet.ensures.turn_b;
    })

pub returns-clause-meets : goal.returns-clause-meets
returns-clause-meets g c =
    round_end g.K.Keep.allows (g.L.LineSync.belongs c.args.line.now) g.L.LineSync.view g.L.LineSync.turn c.args.port.now c.args.others.now c.loop-other.other-index c.loop-other.port c.loop-other.others c.loop-other.invariant (search rules)
