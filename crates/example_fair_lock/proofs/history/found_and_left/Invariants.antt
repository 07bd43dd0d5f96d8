use Rattle.example_fair_lock.proofs.history.found_and_left.Given as goal

-- the book that was just opened
abbrev pub ghosts-turns_of : goal.ghosts-turns_of
ghosts-turns_of g a = record { book = a.opened.seen.book }
