-- What a thread learns from an atomic step on a wake word, which is a word on which waiters sleep.
use Rattle.std.specs.Prelude.{◌≡◌, ℕ, ◌+◌, ◌%◌}
use Rattle.atomic_table.specs.Table.{Step, Me}
use Rattle.fair_lock.specs.declared.wake.Look.{Look}

abbrev pub nothing_shown : Look
nothing_shown = record { word = 0; found = 0; left = 0 }

-- the step found this in its word, and left it unchanged or added to it
abbrev pub reads : Step ℕ → Me ℕ Look → ℕ → Me ℕ Look → Type 0
reads st m n m' = m' ≡ (record { word = st.word; found = n; left = n }, m.1)

abbrev pub adds : Step ℕ → Me ℕ Look → ℕ → Me ℕ Look → Type 0
adds st m n m' = m' ≡ (record { word = st.word; found = n; left = (n + st.first) % 18446744073709551616 }, m.1)
