use Rattle.std.proofs.Common.{◌≡◌, flat_map}
use Rattle.std.specs.List.{range_with_len}
use Rattle.qolb_explain.specs.Notes.{line_notes}
use Rattle.qolb_explain.proofs.notes.notes_on.Given as goal

abbrev pub invariant-loop-line : goal.invariant-loop-line
invariant-loop-line l = l.notes.items ≡ flat_map (line_notes l.fn.schedule) (range_with_len 0 l.line)
