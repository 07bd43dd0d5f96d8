use Rattle.std.proofs.Common.{◌≡◌, All, length, vec_len}
use Rattle.qolb_work.specs.JustOpened.{IsNewLine}
use Rattle.qolb_work.proofs.bank.open_lines.Given as goal

abbrev pub invariant-loop-label : goal.invariant-loop-label
invariant-loop-label g l =
    All (λ line. vec_len line.1 ≡ l.workers) l.all.items
    × All (λ line. IsNewLine g.L.LineSync.belongs g.L.LineSync.view g.L.LineSync.config_of l.workers line.0 line.1.items) l.all.items
    × (length l.all.items ≡ l.label)
