use Rattle.std.specs.Prelude.{◌*◌}
use Rattle.example_fair_lock.proofs.count.count.Given as goal

abbrev pub ghosts-run-N-Turns : goal.ghosts-run-N-Turns
ghosts-run-N-Turns g a = record { turns = a.threads * a.each }

abbrev pub ghosts-run-N-Ledger : goal.ghosts-run-N-Ledger
ghosts-run-N-Ledger g a = record { name = a.blank.name; parts = a.blank.parts }
