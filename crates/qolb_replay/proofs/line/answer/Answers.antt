use Rattle.std.proofs.Common.{rules, arith, ◌≡◌, ◌+◌, ◌-◌, ◌<◌, length}
use Rattle.qolb_script.specs.Commands.{node_of}
use Rattle.qolb_replay.proofs.Forcing.{answers_by}
use Rattle.qolb_replay.proofs.line.answer.Goals as goal

pub returns-clause-answers : goal.returns-clause-answers
returns-clause-answers g c =
    let n : c.node.result - 1 + 1 ≡ node_of c.args.command.now = omega (arith, c.node.ensures, c.requires.first) in
    let lt : c.node.result - 1 < length c.meet_others.new.ports = search rules in
    answers_by g.L.LineSync.view g.L.LineSync.turn c.args.ports.now c.meet_others.new.ports c.meet_others-2.new.ports c.args.command.now c.call-said.result (c.node.result - 1) c.index-ports-place.result c.call-said.new.port
    lt n c.meet_others.ensures.meets c.call-said.ensures.does c.meet_others-2.ensures.meets
