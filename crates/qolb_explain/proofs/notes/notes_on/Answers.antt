use Rattle.std.proofs.Common.{◌≡◌, ℕ, arith, flat_map, subst}
use Rattle.std.specs.List.{range_with_len}
use Rattle.qolb_explain.specs.Notes.{line_notes}
use Rattle.qolb_explain.proofs.Noting.{line_more}
use Rattle.qolb_explain.proofs.notes.notes_on.Goals as goal

pub loop-line-preserved : goal.loop-line-preserved
loop-line-preserved c =
    line_more c.args.schedule.now c.loop-line.line c.loop-line.notes.items c.push_misuses.new.notes.items c.loop-line.invariant c.in_ok-push_misuses.ensures

pub returns : goal.returns
returns c =
    let all : c.loop-line.line ≡ c.args.schedule.now.lines = omega (arith, c.lines-line-end.ensures.lines) in
    subst (λ (n : ℕ). c.loop-line.notes.items ≡ flat_map (line_notes c.args.schedule.now) (range_with_len 0 n)) all c.loop-line.invariant
