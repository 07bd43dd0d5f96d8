-- Proof that the words of a new lock satisfy the invariant.
use Rattle.std.proofs.Common.{◌≡◌, ℕ, zero, suc, ◌+◌, ◌-◌, ◌/◌, ◌%◌, ◌<◌, ◌≤◌, List, [], ◌∷◌, slice_index, sym, refl, ◌∙◌, subst, arith, ⊎_elim}
use Rattle.std.specs.Int.{bit_at}
use mathlib.Core.Option.{Option, some, some-ne-none}
use lib.ListN.{get_elem?}
use Rattle.std.proofs.lemmas.Nat.Bits.{bit_at-zero}
use Rattle.atomic_table.proofs.Lists.{at_snoc}
use Rattle.lock_core.specs.declared.view.View.{View}
use Rattle.lock_core.specs.Layout.{cell_at, bit_of, count_of}
use Rattle.lock_core.specs.Views.{initial_view}
use Rattle.lock_core.specs.Invariant.{tally, Ghost, Fits, Tickets}
use Rattle.lock_core.proofs.Words.{low_bit}
use Rattle.lock_core.proofs.Base.{idle_at_draw}
use Rattle.lock_core.proofs.Entering.{none_of}

abbrev pub first_words : List ℕ
first_words = 0 ∷ 0 ∷ 0 ∷ 0 ∷ 0 ∷ 0 ∷ 0 ∷ 0 ∷ 0 ∷ 0 ∷ 0 ∷ 0 ∷ 0 ∷ 0 ∷ 0 ∷ 0 ∷ 0 ∷ 17179869184 ∷ 0 ∷ 0 ∷ 0 ∷ []

cells : (P : ℕ → ℕ → Type 0) → P 0 17179869184 → P 1 0 → P 2 0 → P 3 0 → (k : ℕ) → k < 4 → P k (slice_index first_words (17 + k))
cells P a b c d zero low = a
cells P a b c d (suc zero) low = b
cells P a b c d (suc (suc zero)) low = c
cells P a b c d (suc (suc (suc zero))) low = d
cells P a b c d (suc (suc (suc (suc k)))) low = absurd (omega arith)

no_bits : (i : ℕ) → i < 16 → (t : ℕ) → bit_at (slice_index first_words (cell_at t)) i ≡ 0
no_bits i low t = cells (λ k z. bit_at z i ≡ 0) (low_bit 17179869184 i (omega arith) ∙ bit_at-zero i) (bit_at-zero i) (bit_at-zero i) (bit_at-zero i) (t % 4) (omega arith)

abbrev pub first_ghost : Ghost
first_ghost = record { turn = 0; head_inside = 0; heads = 0; since_head = 0; newcomers = 0; lock_word = 0; who_is_inside = 0; epoch = 0; withdrawn = λ _. 0; nobody_asleep = λ _. 0; newcomers_before = λ _. 0; left_quietly = λ _. 0; drawn_open = λ _. 0 }

none_first : (fl c : ℕ) → tally c ((initial_view fl) ∷ []) ≡ 0
none_first fl c = let z = none_of c (initial_view fl) refl in omega arith

pub first_state : (fl : ℕ) (homes : List (Option ℕ)) → fl < 1073741824 → Tickets fl record { words = first_words; homes = homes; views = initial_view fl ∷ [] }
first_state fl homes small = record {
  drawn = 0;
  most_open = 0;
  owner = λ _. 0;
  who = λ _. 0;
  g = first_ghost;
  tail = refl;
  lock_word = refl;
  wide = refl;
  guard = λ _. (omega arith, omega arith);
  seen = λ j b at. only (λ j b. b.most_open ≤ 0) (λ j. omega arith) j b at;
  heard = λ j b at. only (λ j b. b.newcomers_seen ≤ 0) (λ j. omega arith) j b at;
  granted = λ _. record {
    within = omega arith;
    few = omega arith;
    marks = record { far = λ t a. refl; future = λ t a. refl; unheard = λ t a. refl };
    counts = record { bounded = omega arith; all = omega arith; tallied = omega arith; single = omega arith; small = small; room = λ pos e. omega arith; awake = λ e. refl; later = λ n l. refl };
    crowd = λ c. let e = none_first fl c in omega arith;
    cells = λ t. record {
      high = cells (λ k z. z / 17179869184 ≡ (0 + 4 - k) / 4 % 1073741824) refl refl refl refl (t % 4) (omega arith);
      bits = λ a b. no_bits (bit_of t) (omega arith) t;
      spare = λ a b. no_bits (bit_of t) (omega arith) t;
      count = cells (λ k z. count_of z ≡ 0) refl refl refl refl (t % 4) (omega arith) ∙ sym (none_first fl (t % 4));
    };
    idle = λ _. refl;
    each = only (λ j b. Fits fl 0 (λ _. 0) (λ _. 0) first_ghost j b) (λ j. record { knows = omega arith; lowest = omega arith; mine = λ ne. absurd (ne refl); place = tt; told_nobody = λ e. absurd (omega arith); lock_word = record { turn_of = λ e. absurd (omega arith); occupant = λ e. absurd (omega arith); rests = record { takes_seen = omega arith; held = λ e. absurd (omega arith); lulls = λ e. absurd (omega arith); sleeps_at_lock_word = λ e. absurd (omega arith) }; dated = omega arith; barrier = λ e. absurd (omega arith) }; door = λ ne. absurd (ne refl); tail_seen = record { probed = omega arith; next_is_at_turn = λ e. absurd (omega arith) }; at_draw = idle_at_draw 0 first_ghost (initial_view fl) (omega arith) refl });
  };
}
  where
    only : (P : ℕ → View → Type 0) → ((j : ℕ) → P j (initial_view fl)) → (j : ℕ) (b : View) → get_elem? ((initial_view fl) ∷ []) j ≡ some b → P j b
    only P it j b at = ⊎_elim (λ t. absurd (some-ne-none b (sym t))) (λ t. subst (P j) t (it j)) (at_snoc [] (initial_view fl) b j at)
