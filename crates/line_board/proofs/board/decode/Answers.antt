use Rattle.std.proofs.Common.{◌≡◌, ◌≢◌, ℕ, subst, arith, ◌<◌, ◌≤◌, sym, ◌∙◌, length}
use Rattle.line_lanes.specs.Lane.{lane_of}
use Rattle.line_board.specs.Board.{count_of}
use Rattle.line_board.proofs.Boards.{stand-laid, not_few, not_blank, not_unused}
use Rattle.line_board.proofs.board.decode.Goals as goal
use Rattle.line_board.proofs.board.decode.Goals.{then-count-gt-MAX_TASKS-via-then-count-gt-MAX_TASKS, then-count-gt-MAX_TASKS-via-else-count-gt-MAX_TASKS+then-not-are_zeros}

pub returns-then-task-ne0 : goal.returns-then-task-ne0
returns-then-task-ne0 c =
    let bytes = c.args.line.now.bytes in
    let few : count_of bytes ≤ 7 = omega (arith, c.from-count.ensures) in
    let above : count_of bytes < c.loop-k.k = omega (arith, c.from-count.ensures) in
    let used : lane_of bytes c.loop-k.k ≢ 0 = λ e. c.if-task-ne0.true (c.lane-task.ensures ∙ e) in
    not_unused bytes few c.loop-k.k above c.loop-k-test.true used

pub returns : goal.returns
returns c =
    let bytes = c.args.line.now.bytes in
    let counted : length c.loop-k.tasks.items ≡ c.from-count.result = omega (arith, c.loop-k.invariant.counted) in
    stand-laid bytes c.loop-k.tasks.items
    record {
      few = omega arith;
      count = sym (counted ∙ c.from-count.ensures);
      blank = sym c.are_zeros.ensures ∙ c.if-not-are_zeros.false;
      each = c.loop-k.invariant.each;
      unused = λ j above below. c.loop-k.invariant.unused j (omega arith) (omega arith);
    }

pub returns-then-count-gt-MAX_TASKS : goal.returns-then-count-gt-MAX_TASKS
returns-then-count-gt-MAX_TASKS c =
    let bytes = c.args.line.now.bytes in
    elim c.then-count-gt-MAX_TASKS.branch [
      | then-count-gt-MAX_TASKS-via-then-count-gt-MAX_TASKS w ↦ not_few bytes (subst (λ (n : ℕ). 7 < n) c.from-count.ensures w.if-count-gt-MAX_TASKS.true)
      | then-count-gt-MAX_TASKS-via-else-count-gt-MAX_TASKS+then-not-are_zeros w ↦ not_blank bytes (sym w.are_zeros.ensures ∙ w.if-not-are_zeros.true)
    ]
