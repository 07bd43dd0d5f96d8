use Rattle.std.proofs.Common.{sym, subst}
use Rattle.line_accounts.specs.Moves.{IsRefusedEither, MovesBetween}
use Rattle.line_accounts.proofs.Visits.{balances_known}
use Rattle.line_accounts.proofs.Crossing.{crossed}
use Rattle.qolb_model.proofs.WithinCalls.{calls_then}
use Rattle.line_accounts.proofs.between_lines.move_between.Goals as goal

pub returns-then-up-clause-moves : goal.returns-then-up-clause-moves
returns-then-up-clause-moves g c =
    let view = g.L.LineSync.view in
    subst (λ up. MovesBetween up (view c.args.low_port.now) (view c.carry.new.source_port) (view c.args.high_port.now) (view c.carry.new.target_port) c.args.from c.args.to c.args.amount c.carry.result) (sym c.if-up.true)
    (crossed (IsRefusedEither (view c.args.low_port.now) (view c.carry.new.source_port) (view c.args.high_port.now) (view c.carry.new.target_port)) _ _ _ _ _ _ _ _ c.args.from c.args.to c.args.amount c.in_default.ensures.holds_first c.in_default.ensures.holds_second c.requires.from_lane c.requires.to_lane c.carry.ensures.long_source c.carry.ensures.long_target
    (balances_known _ _ _ (g.met.L.LineSync.sound c.args.low.now _ c.in_default.ensures.belongs_first))
    (balances_known _ _ _ (g.met.L.LineSync.sound c.args.high.now _ c.in_default.ensures.belongs_second))
    c.carry.result c.carry.ensures.carries)

pub returns-else-up-clause-moves : goal.returns-else-up-clause-moves
returns-else-up-clause-moves g c =
    let view = g.L.LineSync.view in
    subst (λ up. MovesBetween up (view c.args.low_port.now) (view c.carry-else-up.new.target_port) (view c.args.high_port.now) (view c.carry-else-up.new.source_port) c.args.from c.args.to c.args.amount c.carry-else-up.result) (sym c.if-up.false)
    (crossed (IsRefusedEither (view c.args.low_port.now) (view c.carry-else-up.new.target_port) (view c.args.high_port.now) (view c.carry-else-up.new.source_port)) _ _ _ _ _ _ _ _ c.args.from c.args.to c.args.amount c.in_default.ensures.holds_second c.in_default.ensures.holds_first c.requires.from_lane c.requires.to_lane c.carry-else-up.ensures.long_source c.carry-else-up.ensures.long_target
    (balances_known _ _ _ (g.met.L.LineSync.sound c.args.high.now _ c.in_default.ensures.belongs_second))
    (balances_known _ _ _ (g.met.L.LineSync.sound c.args.low.now _ c.in_default.ensures.belongs_first))
    c.carry-else-up.result c.carry-else-up.ensures.carries)

pub returns-then-up-clause-steps_low : goal.returns-then-up-clause-steps_low
returns-then-up-clause-steps_low g c = calls_then _ 2 1 _ _ _ (c.in_default.ensures.steps_first) c.carry.ensures.steps_source

pub returns-then-up-clause-steps_high : goal.returns-then-up-clause-steps_high
returns-then-up-clause-steps_high g c = calls_then _ 2 1 _ _ _ (c.in_default.ensures.steps_second) c.carry.ensures.steps_target

pub returns-else-up-clause-steps_low : goal.returns-else-up-clause-steps_low
returns-else-up-clause-steps_low g c = calls_then _ 2 1 _ _ _ (c.in_default.ensures.steps_first) c.carry-else-up.ensures.steps_target

pub returns-else-up-clause-steps_high : goal.returns-else-up-clause-steps_high
returns-else-up-clause-steps_high g c = calls_then _ 2 1 _ _ _ (c.in_default.ensures.steps_second) c.carry-else-up.ensures.steps_source
