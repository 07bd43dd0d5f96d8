-- Proofs about four kinds of steps: shutting a lock, reopening it, reading at one's turn whether it is open, and
-- announcing the sleep of the queue head.
use Rattle.std.proofs.Common.{◌≡◌, ◌≢◌, ℕ, ◌+◌, ◌/◌, ◌%◌, ◌≤◌, inl, slice_index, sym, refl, ap, ◌∙◌, arith, eqb, eq-eqb, ne_eqb, ⊎_elim}
use mathlib.Core.Option.{none}
use mathlib.Core.Logic.{dite}
use native.Mathlib.Decide.{ℕ_discrete}
use prog.Atomic.{either}
use Rattle.atomic_table.specs.Table.{Act, step, keeps, Valid, stepped, carried_after, Allows, Me}
use Rattle.lock_core.specs.declared.view.View.{View}
use Rattle.lock_core.specs.declared.view.Phase.TheVariants.{Idle}
use Rattle.lock_core.specs.Layout.{state_of, came_of, shut_of, asleep_of}
use Rattle.lock_core.specs.Views.{max_open, Timely, IsAtTurn, ServedOpen, ServedShut, Awaits, HasTurn}
use Rattle.lock_core.specs.Invariant.{Tickets, takes_of}
use Rattle.lock_core.specs.Steps.{checks_open, shuts, reopens, announces_head_sleep}
use Rattle.lock_core.proofs.Base.{known, fits, other, door_apart, turn_of_place, busy_of}
use Rattle.lock_core.proofs.LockWord.{at_draw_kept, knowing, learned}

-- a caller at the door shuts the lock
pub shut_allowed : {fl : ℕ} (id slots : ℕ) (me : Me ℕ View) → (Timely me.0 → ServedOpen me.0) → Allows (Tickets fl) slots id me 0 (λ n. (n + 16) % 18446744073709551616) (shuts (step slots 0 16 0 none) me)
shut_allowed {fl} id slots me served s r sized at low =
    let v : View = me.0 in
    let lock_word : ℕ = slice_index s.words 0 in
    let x : ℕ = (lock_word + 16) % 18446744073709551616 in (
      knowing s r id v at x r.g.epoch 2 1 v.epoch v.takes_seen v.slept_in_take v.sleeps_at_lock_word 0,
      keeps,
      tt,
      learned s r id v at x r.g.epoch 2 1 v.epoch v.takes_seen v.slept_in_take v.sleeps_at_lock_word 0 (λ le.
          let is : lock_word ≡ r.g.lock_word = r.lock_word in
          let one = served (let k = known s r id v at in omega arith) in
          let f = fits s r id v at le in
          let door = f.door (λ e. omega arith) in
          let open_ : shut_of r.g.lock_word ≡ 0 = let d = door.0 in omega arith in
          let new : x ≡ r.g.lock_word + 16 = omega arith in
          let shut_ : shut_of x ≡ 1 = omega arith in record {
            came = omega arith;
            state = omega arith;
            asleep = λ e. omega arith;
            counts = (fits s r id v at le).lock_word.rests.takes_seen;
            own = λ one. let q = (fits s r id v at le).lock_word.rests.sleeps_at_lock_word one in (q.0, q.1, (λ e z. let a = q.2 e (omega arith) in omega arith));
            later = omega arith;
            keeps_shut = λ e z. shut_;
            doors = λ j b ne there told. absurd (door_apart s r id v at le j b ne door.2 there (((r.granted le).each j b there).door told).2);
            dated = f.lock_word.dated;
            barrier = λ one now. shut_;
            door = λ ne. (omega arith, door.1, door.2);
            at_draw = let k = (fits s r id v at le).at_draw in record { stamped = k.stamped; early = k.early; open_then = k.open_then; shut_then = λ q ne e. shut_; nobody_behind = λ one. absurd (omega arith) };
            others = λ j b ne there. at_draw_kept r.drawn r.g (record r.g { lock_word = x }) b b.nobody_behind b.phase refl (λ z. shut_) (λ e. e) ((r.granted le).each j b there).at_draw;
          }),
      ((refl, refl, known s r id v at, (omega arith)), (refl, refl, refl, refl, refl, refl, refl, (refl, refl, refl), (refl, refl)), (refl, refl), refl, refl, refl, refl),
    )

-- a caller at the door of a shut lock reopens it
pub reopen_allowed : {fl : ℕ} (id slots : ℕ) (me : Me ℕ View) → (Timely me.0 → HasTurn me.0) → (Timely me.0 → me.0.nobody_behind ≡ 1) → (Timely me.0 → ServedShut me.0) → Allows (Tickets fl) slots id me 0 (λ n. (n + 18446744073709551600) % 18446744073709551616) (reopens (step slots 0 16 0 none) me)
reopen_allowed {fl} id slots me turns is_alone served s r sized at low =
    let v : View = me.0 in
    let lock_word : ℕ = slice_index s.words 0 in
    let x : ℕ = (lock_word + 18446744073709551600) % 18446744073709551616 in (
      knowing s r id v at x (r.g.epoch + 1) 1 0 (v.epoch + 1) v.takes_seen v.slept_in_take v.sleeps_at_lock_word 0,
      keeps,
      tt,
      learned s r id v at x (r.g.epoch + 1) 1 0 (v.epoch + 1) v.takes_seen v.slept_in_take v.sleeps_at_lock_word 0 (λ le.
          let is : lock_word ≡ r.g.lock_word = r.lock_word in
          let two = served (let k = known s r id v at in omega arith) in
          let f = fits s r id v at le in
          let door = f.door (λ e. omega arith) in
          let shut_ : shut_of r.g.lock_word ≡ 1 = let d = door.0 in omega arith in
          let new : x + 16 ≡ r.g.lock_word = omega arith in
          let dated = f.lock_word.dated in record {
            came = omega arith;
            state = omega arith;
            asleep = λ e. omega arith;
            counts = (fits s r id v at le).lock_word.rests.takes_seen;
            own = λ one. let q = (fits s r id v at le).lock_word.rests.sleeps_at_lock_word one in (q.0, q.1, (λ e z. let a = q.2 e (omega arith) in omega arith));
            later = omega arith;
            keeps_shut = λ e. absurd (omega arith);
            doors = λ j b ne there told. absurd (door_apart s r id v at le j b ne door.2 there (((r.granted le).each j b there).door told).2);
            dated = omega arith;
            barrier = λ one. absurd (omega arith);
            door = λ ne. (omega arith, (let e = door.1 in omega arith), door.2);
            at_draw = record { stamped = f.at_draw.stamped; early = let e = f.at_draw.early in omega arith; open_then = λ q. absurd (still_at_turn le q); shut_then = λ q. absurd (still_at_turn le q); nobody_behind = λ one. absurd (omega arith) };
            others = λ j b ne there. let h = (r.granted le).each j b there in record {
              stamped = h.at_draw.stamped;
              early = let e = h.at_draw.early in omega arith;
              open_then = λ q one. absurd (
                  let busy : b.phase ≢ Idle = λ e. ⊎_elim (λ a. cc) (λ a. cc) q in
                  let turn = turns (let k = known s r id v at in omega arith) in
                  let t = turn_of_place fl r.g v turn f.place in
                  let m = h.mine busy in
                  let m0 = m.0 in
                  let apart = other s r id v at le j b ne (busy_of v turn) busy there in
                  let z = f.at_draw.nobody_behind (is_alone (let k = known s r id v at in omega arith)) two b.ticket (omega arith) m.1 in
                  let st = h.at_draw.stamped busy in
                  omega arith);
              shut_then = λ q n e. absurd (let a = h.at_draw.early in omega arith);
              nobody_behind = h.at_draw.nobody_behind;
            };
          }),
      ((refl, refl, known s r id v at, (omega arith)), (refl, refl, refl, refl, refl, refl, refl, (refl, refl, refl), (refl, refl)), (refl, refl), refl, refl),
    )
  where
    still_at_turn : r.most_open ≤ max_open → Awaits me.0.phase → ⊥
    still_at_turn le q = ⊎_elim (λ a. ⊎_elim (λ e. cc) (λ e. cc) q) (λ a. ⊎_elim (λ e. cc) (λ e. cc) q) (turns (let k = known s r id me.0 at in omega arith))

-- in a strict lock the caller at its turn looks at the lock word
pub check_open_allowed : {fl : ℕ} (id slots ticket : ℕ) (me : Me ℕ View) → fl ≡ 0 → (Timely me.0 → IsAtTurn ticket me.0) → Allows (Tickets fl) slots id me 0 (λ n. n) (checks_open (step slots 0 0 0 none) me)
check_open_allowed {fl} id slots ticket me strict has s r sized at low =
    let v : View = me.0 in
    let lock_word : ℕ = slice_index s.words 0 in
    let is : lock_word ≡ r.g.lock_word = r.lock_word in (
      knowing s r id v at lock_word r.g.epoch (1 + shut_of lock_word) (shut_of lock_word) r.g.epoch v.takes_seen v.slept_in_take v.sleeps_at_lock_word 0,
      keeps,
      tt,
      learned s r id v at lock_word r.g.epoch (1 + shut_of lock_word) (shut_of lock_word) r.g.epoch v.takes_seen v.slept_in_take v.sleeps_at_lock_word 0 (λ le.
          let h = has (let k = known s r id v at in omega arith) in record {
            came = omega arith;
            state = omega arith;
            asleep = λ e. omega arith;
            counts = (fits s r id v at le).lock_word.rests.takes_seen;
            own = λ one. let q = (fits s r id v at le).lock_word.rests.sleeps_at_lock_word one in (q.0, q.1, (λ e z. let a = q.2 e (omega arith) in omega arith));
            later = omega arith;
            keeps_shut = λ e z. omega arith;
            doors = λ j b ne there told. (omega arith, refl);
            dated = omega arith;
            barrier = λ one now. one;
            door = λ ne. (refl, refl, inl (strict, h.0));
            at_draw = let k = (fits s r id v at le).at_draw in record { stamped = k.stamped; early = k.early; open_then = k.open_then; shut_then = λ q ne e. ap shut_of is ∙ k.shut_then q ne e; nobody_behind = λ one. absurd (omega arith) };
            others = λ j b ne there. at_draw_kept r.drawn r.g (record r.g { lock_word = lock_word }) b b.nobody_behind b.phase refl (λ z. omega arith) (λ e. e) ((r.granted le).each j b there).at_draw;
          }),
      ((refl, refl, known s r id v at, (omega arith)), (refl, refl, refl, refl, refl, refl, refl, (refl, refl, refl), (refl, refl)), (refl, refl), (λ timely. (refl, refl, (fits s r id v at timely).lock_word.dated)), refl),
    )

-- the queue head notes at the lock word that it sleeps
pub announce_head_sleep_allowed : {fl : ℕ} (id slots old new : ℕ) (me : Me ℕ View) → state_of old ≡ 1 → new / 4 ≡ old / 4 → asleep_of new ≡ 1 → Allows (Tickets fl) slots id me 0 (λ n. either (eqb n old) new n) (announces_head_sleep (step slots 0 old new none) me)
announce_head_sleep_allowed {fl} id slots old new me held half sets s r sized at low = dite (ℕ_discrete lock_word old) notes stays
  where
    v : View
    v = me.0

    lock_word : ℕ
    lock_word = slice_index s.words 0

    x : ℕ
    x = either (eqb lock_word old) new lock_word

    Goal : Type 0
    Goal = (w : View) × (a : Act ℕ) × Valid s.homes me.1 a × Tickets fl (stepped s 0 x id me.1 w a) × announces_head_sleep (step slots 0 old new none) me lock_word (w, carried_after me.1 a)

    notes : lock_word ≡ old → Goal
    notes is =
        let x_is : x ≡ new = ap (λ b. either b new lock_word) (eq-eqb lock_word old is) in
        let old_is : old ≡ r.g.lock_word = sym is ∙ r.lock_word in
        let shut_ : shut_of x ≡ shut_of r.g.lock_word = omega arith in (
          knowing s r id v at x r.g.epoch v.door v.knows_shut v.epoch (takes_of r.g) (takes_of r.g) 1 v.nobody_behind,
          keeps,
          tt,
          learned s r id v at x r.g.epoch v.door v.knows_shut v.epoch (takes_of r.g) (takes_of r.g) 1 v.nobody_behind (λ le.
              let o = r.granted le in
              let f = fits s r id v at le in record {
                came = omega arith;
                state = omega arith;
                asleep = λ e. omega arith;
                counts = omega arith;
                own = λ one. (omega arith, o.counts.awake (omega arith), (λ e z. omega arith));
                later = omega arith;
                keeps_shut = λ e z. shut_ ∙ z;
                doors = λ j b ne there told. (shut_, refl);
                dated = f.lock_word.dated;
                barrier = λ one now. shut_ ∙ f.lock_word.barrier one now;
                door = λ ne. let k = f.door ne in (k.0 ∙ ap (λ z. 1 + z) (sym shut_), k.1, k.2);
                at_draw = at_draw_kept r.drawn r.g (record r.g { lock_word = x }) v v.nobody_behind v.phase refl (λ z. shut_ ∙ z) (λ e. e) (fits s r id v at le).at_draw;
                others = λ j b ne there. at_draw_kept r.drawn r.g (record r.g { lock_word = x }) b b.nobody_behind b.phase refl (λ z. shut_ ∙ z) (λ e. e) ((r.granted le).each j b there).at_draw;
              }),
          ((refl, refl, known s r id v at, (omega arith)), (refl, refl, refl, refl, refl, refl, refl, (refl, refl, refl), (refl, refl)), (refl, refl), refl, (λ _. refl), (λ timely _. ((fits s r id v at timely).lock_word.rests.takes_seen, refl))),
        )

    stays : lock_word ≢ old → Goal
    stays ne =
        let same_ : x ≡ lock_word = ap (λ b. either b new lock_word) (ne_eqb lock_word old ne) in
        let is : x ≡ r.g.lock_word = same_ ∙ r.lock_word in
        let shut_ : shut_of x ≡ shut_of r.g.lock_word = ap shut_of is in (
          knowing s r id v at x r.g.epoch v.door v.knows_shut v.epoch v.takes_seen v.slept_in_take v.sleeps_at_lock_word v.nobody_behind,
          keeps,
          tt,
          learned s r id v at x r.g.epoch v.door v.knows_shut v.epoch v.takes_seen v.slept_in_take v.sleeps_at_lock_word v.nobody_behind (λ le.
              let f = fits s r id v at le in record {
                came = ap came_of is;
                state = ap state_of is;
                asleep = λ e. ap asleep_of is ∙ e;
                counts = f.lock_word.rests.takes_seen;
                own = λ one. let q = f.lock_word.rests.sleeps_at_lock_word one in (q.0, q.1, (λ e z. ap asleep_of is ∙ q.2 e (ap state_of (sym is) ∙ z)));
                later = omega arith;
                keeps_shut = λ e z. shut_ ∙ z;
                doors = λ j b ne there told. (shut_, refl);
                dated = f.lock_word.dated;
                barrier = λ one now. shut_ ∙ f.lock_word.barrier one now;
                door = λ some_. let k = f.door some_ in (k.0 ∙ ap (λ z. 1 + z) (sym shut_), k.1, k.2);
                at_draw = at_draw_kept r.drawn r.g (record r.g { lock_word = x }) v v.nobody_behind v.phase refl (λ z. shut_ ∙ z) (λ e. e) (fits s r id v at le).at_draw;
                others = λ j b ne there. at_draw_kept r.drawn r.g (record r.g { lock_word = x }) b b.nobody_behind b.phase refl (λ z. shut_ ∙ z) (λ e. e) ((r.granted le).each j b there).at_draw;
              }),
          ((refl, refl, known s r id v at, (omega arith)), (refl, refl, refl, refl, refl, refl, refl, (refl, refl, refl), (refl, refl)), (refl, refl), refl, (λ e. absurd (ne e)), (λ _ e. absurd (ne e))),
        )
