-- The value that a lock protects, which lies in the slot of the lock's table. This file defines the value's invariant,
-- and what a caller learns about the value from each step.
use Rattle.std.specs.Prelude.{◌≡◌, ◌≢◌, ℕ, List, [], map, length}
use mathlib.Core.Option.{Option, none, some}
use lib.ListN.{get_elem?}
use Rattle.atomic_table.specs.Table.{State, Step, step, Me}
use Rattle.lock_core.specs.declared.view.View.{View}
use Rattle.lock_core.specs.Views.{Carries}
use Rattle.lock_core.specs.Invariant.{Tickets}

module _ {T : Type 0} where
  -- the words and the views alone, without the slots
  abbrev pub blanks : List (Option T) → List (Option ℕ)
  blanks hs = map (λ _. none) hs

  abbrev pub bare : State T View → State ℕ View
  bare s = record { words = s.words; homes = blanks s.homes; views = s.views }

  abbrev pub bare_step : Step T → Step ℕ
  bare_step st = step st.slots st.word st.first st.second none

  -- the value is in its slot while no caller is served
  pub record Slotted (c : ℕ) (s : State T View) : Type 0 where
    pub lock : Tickets c (bare s)
    pub home : length s.homes ≡ 1 → ((id : ℕ) (v : View) → get_elem? s.views id ≡ some v → v.door ≡ 0) → (y : T) × (get_elem? s.homes 0 ≡ some (some y))

  -- a step tells the same as at a table without a slot, and the caller that is served has the value
  abbrev pub with_slot : (Step ℕ → Me ℕ View → ℕ → Me ℕ View → Type 0) → Step T → Me T View → ℕ → Me T View → Type 0
  with_slot tells st m n m' = tells (bare_step st) (m.0, []) n (m'.0, []) × Carries st.slots m' × (m.0.door ≢ 0 → m'.0.door ≢ 0 → m'.1 ≡ m.1)
