-- Proof about the step with which a new caller gets its seat (the handle through which it uses the lock).
use Rattle.std.proofs.Common.{◌≡◌, ℕ, ◌%◌, ◌≤◌, [], ◌∷◌, ◌++◌, slice_index, sym, refl, ◌∙◌, subst, arith, ⊎_elim}
use mathlib.Core.Logic.{dite}
use mathlib.Core.Option.{none}
use native.Mathlib.Decide.{ℕ_discrete}
use Rattle.atomic_table.specs.Table.{step, Enters}
use Rattle.atomic_table.proofs.Lists.{at_snoc}
use Rattle.lock_core.specs.declared.view.View.{View}
use Rattle.lock_core.specs.Layout.{cell_at}
use Rattle.lock_core.specs.Looks.{looked}
use Rattle.lock_core.specs.Views.{initial_view}
use Rattle.lock_core.specs.Invariant.{tally, share, Fits, Cell, Tickets}
use Rattle.lock_core.specs.Steps.{comes}
use Rattle.lock_core.proofs.Base.{idle_at_draw}
use Rattle.lock_core.proofs.Tally.{tally_snoc, share_here, share_else}

pub none_of : (c : ℕ) (w : View) → w.counted ≡ 0 → share c w ≡ 0
none_of c w z = dite (ℕ_discrete (w.ticket % 4) c) (λ e. share_here c w e ∙ z) (λ ne. share_else c w ne)

pub come_enters : {fl : ℕ} (slots : ℕ) → Enters (Tickets fl) slots 8 (λ n w. comes (step slots 8 0 0 none) (initial_view fl, []) n (w, []))
come_enters {fl} slots s r sized low = (
  w,
  record {
    drawn = r.drawn;
    most_open = r.most_open;
    owner = r.owner;
    who = r.who;
    g = r.g;
    tail = r.tail;
    lock_word = r.lock_word;
    wide = r.wide;
    guard = r.guard;
    seen = λ j b at. ⊎_elim (λ t. r.seen j b t) (λ t. subst (λ (x : View). x.most_open ≤ r.most_open) t (omega arith)) (at_snoc s.views w b j at);
    heard = λ j b at. ⊎_elim (λ t. r.heard j b t) (λ t. subst (λ (x : View). x.newcomers_seen ≤ r.g.newcomers) t (omega arith)) (at_snoc s.views w b j at);
    granted = λ le.
        let o = r.granted le in
        let all : (c : ℕ) → tally c (s.views ++ w ∷ []) ≡ tally c s.views = λ c. let e = tally_snoc c s.views w in let z = none_of c w refl in omega arith in record {
          within = o.within;
          few = o.few;
          counts = o.counts;
          marks = o.marks;
          crowd = λ c. let e = all c in let k = o.crowd c in omega arith;
          cells = λ t. subst (λ z. Cell r.g z (slice_index s.words (cell_at t)) t) (sym (all (t % 4))) (o.cells t);
          idle = o.idle;
          each = λ j b at. ⊎_elim (λ t. o.each j b t)
              (λ t. subst (Fits fl r.drawn r.owner r.who r.g j) t record { knows = omega arith; lowest = omega arith; mine = λ ne. absurd (ne refl); place = tt; told_nobody = λ e. absurd (omega arith); lock_word = record { turn_of = λ e. absurd (omega arith); occupant = λ e. absurd (omega arith); rests = record { takes_seen = omega arith; held = λ e. absurd (omega arith); lulls = λ e. absurd (omega arith); sleeps_at_lock_word = λ e. absurd (omega arith) }; dated = omega arith; barrier = λ e. absurd (omega arith) }; door = λ ne. absurd (ne refl); tail_seen = record { probed = omega arith; next_is_at_turn = λ e. absurd (omega arith) }; at_draw = idle_at_draw r.drawn r.g w (omega arith) refl }) (at_snoc s.views w b j at);
        };
  },
  refl,
)
  where
    w : View
    w = record (initial_view fl) { looks = looked (step slots 8 0 0 none) (slice_index s.words 8) (slice_index s.words 8) (initial_view fl).looks }
