use Rattle.std.proofs.Common.{◌≡◌, rules, arith, ap, ◌∙◌, subst, length, ◌≤◌, ◌<◌, ◌+◌, ◌^◌, get_or}
use Rattle.line_lanes.specs.Lane.{with_lane_of}
use Rattle.line_board.proofs.Boards.{stand-laid}
use Rattle.line_board.proofs.Encoding.{IsWritten, first_written, next_written, written_laid, written_only}
use Rattle.line_board.proofs.board.encode.Goals as goal

pub loop-k-init : goal.loop-k-init
loop-k-init c =
    let tasks = c.args.tasks.now.items in
    rw (c.with_lane-line.ensures, c.zero.ensures, c.len.ensures.value) (first_written tasks (omega (arith, c.len.ensures.value, c.len.ensures.fits)))

pub loop-k-preserved : goal.loop-k-preserved
loop-k-preserved c =
    let tasks = c.args.tasks.now.items in
    let few : length tasks ≤ 7 = omega (arith, c.len.ensures.value, c.len.ensures.fits) in
    let same : c.deref-task-items.result.now ≡ tasks = c.deref-task-items.ensures.0 in
    let more : c.loop-k.k < length tasks = omega (arith, ap length same) in
    let fits : get_or tasks c.loop-k.k 0 < 2 ^ 64 = search rules in
    let laid : c.with_lane-line-in-loop-k.result.bytes ≡ with_lane_of c.loop-k.line.bytes (c.loop-k.k + 1) (get_or tasks c.loop-k.k 0) =
    c.with_lane-line-in-loop-k.ensures ∙ ap (λ xs. with_lane_of c.loop-k.line.bytes (c.loop-k.k + 1) (get_or xs c.loop-k.k 0)) same in
    rw laid (next_written c.loop-k.line.bytes tasks c.loop-k.k few more fits c.loop-k.invariant)

pub returns-clause-tasks : goal.returns-clause-tasks
returns-clause-tasks c =
    let tasks = c.args.tasks.now.items in
    let all : c.loop-k.k ≡ length tasks = omega (arith, ap length c.deref-task-items.ensures.0) in
    stand-laid c.loop-k.line.bytes tasks (written_laid c.loop-k.line.bytes tasks (omega (arith, c.len.ensures.value, c.len.ensures.fits)) (subst (IsWritten c.loop-k.line.bytes tasks) all c.loop-k.invariant))

pub returns-clause-only : goal.returns-clause-only
returns-clause-only c = λ line long small stands.
    let tasks = c.args.tasks.now.items in
    let all : c.loop-k.k ≡ length tasks = omega (arith, ap length c.deref-task-items.ensures.0) in
    written_only c.loop-k.line.bytes tasks line (omega (arith, c.len.ensures.value, c.len.ensures.fits)) (subst (IsWritten c.loop-k.line.bytes tasks) all c.loop-k.invariant) long small stands
