use Rattle.std.proofs.Common.{◌≡◌, ◌++◌, take}
use Rattle.std.specs.List.{flat_map}
use Rattle.qolb_words.specs.Words.{piece_text}
use Rattle.qolb_words.proofs.push_all.Given as goal

abbrev pub invariant-loop-piece : goal.invariant-loop-piece
invariant-loop-piece g l = l.text.items ≡ l.fn.text.items ++ flat_map piece_text (take l.piece-index l.pieces)
