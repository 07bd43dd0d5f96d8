-- Lemmas about the part of a caller's view that records what the caller's last steps found. The invariant does not
-- depend on these records.
use Rattle.std.proofs.Common.{◌≡◌, ◌≢◌, ℕ, zero, suc, ◌+◌, ◌*◌, ◌-◌, ◌/◌, ◌%◌, ◌^◌, ◌<◌, ◌≤◌, List, [], ◌∷◌, set, slice_index, sym, refl, subst, arith, eqb}
use mathlib.Core.Option.{none, some, some-ne-none}
use lib.ListN.{get_elem?}
use Rattle.atomic_table.specs.Table.{State, Act, step, keeps, Step, stepped, carried_after, Allows, Me}
use Rattle.atomic_table.proofs.Lists.{set_again}
use Rattle.lock_core.specs.declared.view.View.{View}
use Rattle.lock_core.specs.declared.view.Looks.{Looks}
use Rattle.lock_core.specs.declared.view.Phase.{Phase}
use Rattle.lock_core.specs.declared.view.Phase.TheVariants.{Idle, Queued, Asleep, AtTurn, Passing, HeadInside, Impossible}
use prog.Atomic.{either}
use Rattle.lock_core.specs.Layout.{cell_at, bit_of, count_of, state_of, came_of, shut_of, asleep_of}
use Rattle.lock_core.specs.Views.{Timely, IsIdle, IsQueued, IsQueuedWithin, IsAsleep, IsAtTurn, IsPassing, HasTurn, HasTurnOf, IsInside, ServedOpen, ServedShut}
use Rattle.lock_core.specs.Looks.{looked}
use Rattle.lock_core.specs.Invariant.{tally, Ghost, Place, Fits, Cell, Tickets}
use Rattle.lock_core.specs.Steps.{noting, kept_word, added_word, subtracted_word, exchanged_word, reads_lock_word, draws, reads, reads_cell, draws_granted, draws_near, looks, announces_sleep, sets_withdrawn, grants, clears_withdrawn, barges, takes_lock_word, leaves, checks_open, shuts, reopens, announces_head_sleep, requests_handoff}
use Rattle.lock_core.proofs.Base.{each_after}
use Rattle.lock_core.proofs.Tally.{tally_set}
use Rattle.lock_core.proofs.DrawingSteps.{IsFew, draw_allowed, read_tail_allowed, read_cell_allowed, try_draw_allowed, draw_near_allowed}
use Rattle.lock_core.proofs.Looking.{look_allowed, announce_sleep_allowed, retract_sleep_allowed}
use Rattle.lock_core.proofs.Marks.{withdraw_allowed, clear_allowed}
use Rattle.lock_core.proofs.NextGrant.{grant_allowed}
use Rattle.lock_core.proofs.LockWord.{request_handoff_allowed, barge_allowed, take_lock_word_allowed, leave_allowed}
use Rattle.lock_core.proofs.ShuttingSteps.{shut_allowed, reopen_allowed, check_open_allowed, announce_head_sleep_allowed}

pub set_there : {A : Type 0} (l : List A) (i : ℕ) (v w : A) → get_elem? l i ≡ some v → get_elem? (set l i w) i ≡ some w
set_there [] i v w at = absurd (some-ne-none v (sym at))
set_there (x ∷ xs) zero v w at = refl
set_there (x ∷ xs) (suc i) v w at = set_there xs i v w at

set_twice : {A : Type 0} (l : List A) (i : ℕ) (w u : A) → set (set l i w) i u ≡ set l i u
set_twice [] i w u = refl
set_twice (x ∷ xs) zero w u = refl
set_twice (x ∷ xs) (suc i) w u = λ k. x ∷ set_twice xs i w u k

place_noted : (fl : ℕ) (g : Ghost) (v : View) (l : Looks) (p : Phase) → Place fl g v p → Place fl g (record v { looks = l }) p
place_noted fl g v l Idle k = k
place_noted fl g v l Queued k = k
place_noted fl g v l Asleep k = k
place_noted fl g v l AtTurn k = k
place_noted fl g v l Passing k = k
place_noted fl g v l HeadInside k = k
place_noted fl g v l Impossible k = k

-- the state in which the view of one seat has another note
module _ {fl : ℕ} (s : State ℕ View) (r : Tickets fl s) (id : ℕ) (v : View) (at : get_elem? s.views id ≡ some v) (l : Looks) where
  abbrev noted_view : View
  noted_view = record v { looks = l }

  noted : Tickets fl record { words = s.words; homes = s.homes; views = set s.views id noted_view }
  noted = record {
    drawn = r.drawn;
    most_open = r.most_open;
    owner = r.owner;
    who = r.who;
    g = r.g;
    tail = r.tail;
    lock_word = r.lock_word;
    wide = r.wide;
    guard = r.guard;
    seen = each_after (λ j b. b.most_open ≤ r.most_open) s.views id noted_view (r.seen id v at) (λ j b ne there. r.seen j b there);
    heard = each_after (λ j b. b.newcomers_seen ≤ r.g.newcomers) s.views id noted_view (r.heard id v at) (λ j b ne there. r.heard j b there);
    granted = λ le.
        let o = r.granted le in
        let f = o.each id v at in
        let all : (k : ℕ) → tally k (set s.views id noted_view) ≡ tally k s.views = λ k. let e = tally_set k s.views id v noted_view at in omega arith in record {
          within = o.within;
          few = o.few;
          idle = o.idle;
          marks = o.marks;
          counts = o.counts;
          crowd = λ k. let e = all k in let q = o.crowd k in omega arith;
          cells = λ t. subst (λ z. Cell r.g z (slice_index s.words (cell_at t)) t) (sym (all (t % 4))) (o.cells t);
          each = each_after (Fits fl r.drawn r.owner r.who r.g) s.views id noted_view record {
            knows = f.knows;
            lowest = f.lowest;
            mine = f.mine;
            place = place_noted fl r.g v l v.phase f.place;
            told_nobody = f.told_nobody;
            lock_word = f.lock_word;
            door = f.door;
            tail_seen = f.tail_seen;
            at_draw = f.at_draw;
          } (λ j b ne there. o.each j b there);
        };
  }

-- a step that may be taken may be noted
pub notes : {fl : ℕ} (id i : ℕ) (me : Me ℕ View) (f : ℕ → ℕ) (st : Step ℕ) (left : Step ℕ → ℕ → ℕ) (tells : Step ℕ → Me ℕ View → ℕ → Me ℕ View → Type 0)
    → ((n : ℕ) (w : View) (c : List (ℕ × ℕ)) (l : Looks) → tells st me n (w, c) → tells st me n (record w { looks = l }, c))
    → Allows (Tickets fl) st.slots id me i f (tells st me) → Allows (Tickets fl) st.slots id me i f (noting left tells st me)
notes {fl} id i me f st left tells carries allowed s r sized at low =
    let n : ℕ = slice_index s.words i in
    let made = allowed s r sized at low in
    let w : View = made.0 in
    let a : Act ℕ = made.1 in
    let l : Looks = looked st n (left st n) me.0.looks in
    let there : get_elem? (set s.views id w) id ≡ some w = set_there s.views id me.0 w at in (
      record w { looks = l },
      a,
      made.2,
      subst (λ views. Tickets fl record { words = set s.words i (f n); homes = (stepped s i (f n) id me.1 w a).homes; views = views }) (set_twice s.views id w (record w { looks = l })) (noted (stepped s i (f n) id me.1 w a) made.3 id w there l),
      (refl, carries n w (carried_after me.1 a) l made.4),
    )

-- a caller reads the lock word
pub read_lock_word_allowed : {fl : ℕ} (id slots : ℕ) (me : Me ℕ View) → Allows (Tickets fl) slots id me 0 (λ n. n) (noting kept_word reads_lock_word (step slots 0 0 0 none) me)
read_lock_word_allowed {fl} id slots me = notes id 0 me (λ n. n) (step slots 0 0 0 none) kept_word reads_lock_word (λ n w c l told. (told.0, λ k. record (told.1 k) { looks = l })) (λ s r sized at low. (
  me.0,
  keeps,
  tt,
  subst (λ words. Tickets fl record { words = words; homes = s.homes; views = set s.views id me.0 }) (sym (same_word s.words)) (subst (λ views. Tickets fl record { words = s.words; homes = s.homes; views = views }) (sym (set_again s.views id me.0 at)) r),
  (refl, refl),
))
  where
    same_word : (words : List ℕ) → set words 0 (slice_index words 0) ≡ words
    same_word [] = refl
    same_word (x ∷ xs) = refl

-- each step, with its note
pub draw_noted : {fl : ℕ} (id slots : ℕ) (me : Me ℕ View) → slots ≡ 0 → (Timely me.0 → IsIdle me.0) → Allows (Tickets fl) slots id me 16 (λ n. (n + 1) % 18446744073709551616) (noting added_word draws (step slots 16 1 0 none) me)
draw_noted {fl} id slots me no_slot fresh = notes id 16 me (λ n. (n + 1) % 18446744073709551616) (step slots 16 1 0 none) added_word draws (λ n w c l told. told) (draw_allowed id slots me no_slot fresh)

pub read_tail_noted : {fl : ℕ} (id slots : ℕ) (me : Me ℕ View) → (Timely me.0 → me.0.counted ≡ 0) → Allows (Tickets fl) slots id me 16 (λ n. n) (noting kept_word reads (step slots 16 0 0 none) me)
read_tail_noted {fl} id slots me none_counted = notes id 16 me (λ n. n) (step slots 16 0 0 none) kept_word reads (λ n w c l told. told) (read_tail_allowed id slots me none_counted)

pub read_cell_noted : {fl : ℕ} (id slots i ticket : ℕ) (me : Me ℕ View) → i ≡ cell_at ticket → (Timely me.0 → IsIdle me.0 × (ticket ≡ me.0.tail_seen % 18446744073709551616)) → Allows (Tickets fl) slots id me i (λ n. n) (noting kept_word reads_cell (step slots i 0 0 none) me)
read_cell_noted {fl} id slots i ticket me is has = notes id i me (λ n. n) (step slots i 0 0 none) kept_word reads_cell (λ n w c l told. told) (read_cell_allowed id slots i ticket me is has)

pub try_draw_noted : {fl : ℕ} (id slots old new : ℕ) (me : Me ℕ View) → slots ≡ 0 → new ≡ (old + 1) % 18446744073709551616 → (Timely me.0 → IsIdle me.0 × (old ≡ me.0.tail_seen % 18446744073709551616) × (me.0.next_is_at_turn ≡ 1)) → Allows (Tickets fl) slots id me 16 (λ n. either (eqb n old) new n) (noting exchanged_word draws_granted (step slots 16 old new none) me)
try_draw_noted {fl} id slots old new me no_slot new_is has = notes id 16 me (λ n. either (eqb n old) new n) (step slots 16 old new none) exchanged_word draws_granted (λ n w c l told. told) (try_draw_allowed id slots old new me no_slot new_is has)

pub draw_near_noted : {fl : ℕ} (id slots old new : ℕ) (me : Me ℕ View) → (slots ≡ 1 → IsFew old me.0) → new ≡ (old + 1) % 18446744073709551616 → (Timely me.0 → IsIdle me.0 × (old ≡ me.0.tail_seen % 18446744073709551616) × (me.0.ticket ≡ me.0.tail_seen)) → Allows (Tickets fl) slots id me 16 (λ n. either (eqb n old) new n) (noting exchanged_word draws_near (step slots 16 old new none) me)
draw_near_noted {fl} id slots old new me few_ new_is has = notes id 16 me (λ n. either (eqb n old) new n) (step slots 16 old new none) exchanged_word draws_near (λ n w c l told. told) (draw_near_allowed id slots old new me few_ new_is has)

pub look_noted : {fl : ℕ} (id slots i ticket : ℕ) (me : Me ℕ View) → me.0.max_newcomers ≡ fl → i ≡ cell_at ticket → (Timely me.0 → IsQueued ticket me.0) → Allows (Tickets fl) slots id me i (λ n. n) (noting subtracted_word looks (step slots i 0 0 none) me)
look_noted {fl} id slots i ticket me same_newcomers is waits = notes id i me (λ n. n) (step slots i 0 0 none) subtracted_word looks (λ n w c l told. told) (look_allowed id slots i ticket me same_newcomers is waits)

pub request_handoff_noted : {fl : ℕ} (id slots old new : ℕ) (me : Me ℕ View) → new / 2 ≡ old / 2 → Allows (Tickets fl) slots id me 0 (λ n. either (eqb n old) new n) (noting exchanged_word requests_handoff (step slots 0 old new none) me)
request_handoff_noted {fl} id slots old new me half = notes id 0 me (λ n. either (eqb n old) new n) (step slots 0 old new none) exchanged_word requests_handoff (λ n w c l told. (told.0, λ k. record (told.1 k) { looks = l })) (request_handoff_allowed id slots old new me half)

pub barge_noted : {fl : ℕ} (id slots old new : ℕ) (me : Me ℕ View) → 0 < fl → me.0.max_newcomers ≡ fl → old / 4 % 8 ≡ 0 → new ≡ (old + 36) % 18446744073709551616 → (Timely me.0 → IsIdle me.0) → Allows (Tickets fl) slots id me 0 (λ n. either (eqb n old) new n) (noting exchanged_word barges (step slots 0 old new none) me)
barge_noted {fl} id slots old new me barging same_newcomers free new_is fresh = notes id 0 me (λ n. either (eqb n old) new n) (step slots 0 old new none) exchanged_word barges (λ n w c l told. told) (barge_allowed id slots old new me barging same_newcomers free new_is fresh)

pub take_lock_word_noted : {fl : ℕ} (id slots ticket old new : ℕ) (me : Me ℕ View) → 0 < fl → me.0.max_newcomers ≡ fl → state_of old ≢ 1 → new ≡ old / 16 % 2 * 16 + 4 → (Timely me.0 → IsAtTurn ticket me.0) → Allows (Tickets fl) slots id me 0 (λ n. either (eqb n old) new n) (noting exchanged_word takes_lock_word (step slots 0 old new none) me)
take_lock_word_noted {fl} id slots ticket old new me barging same_newcomers free new_is has = notes id 0 me (λ n. either (eqb n old) new n) (step slots 0 old new none) exchanged_word takes_lock_word (λ n w c l told. told) (take_lock_word_allowed id slots ticket old new me barging same_newcomers free new_is has)

pub leave_noted : {fl : ℕ} (id slots old new : ℕ) (me : Me ℕ View) → came_of new ≡ came_of old → state_of new ≢ 1 → (state_of new ≡ 0 → came_of old + 1 ≤ fl) → shut_of new ≡ shut_of old → (Timely me.0 → IsInside me.0) → Allows (Tickets fl) slots id me 0 (λ n. either (eqb n old) new n) (noting exchanged_word leaves (step slots 0 old new none) me)
leave_noted {fl} id slots old new me same_ free few still_shut has = notes id 0 me (λ n. either (eqb n old) new n) (step slots 0 old new none) exchanged_word leaves (λ n w c l told. told) (leave_allowed id slots old new me same_ free few still_shut has)

pub shut_noted : {fl : ℕ} (id slots : ℕ) (me : Me ℕ View) → (Timely me.0 → ServedOpen me.0) → Allows (Tickets fl) slots id me 0 (λ n. (n + 16) % 18446744073709551616) (noting added_word shuts (step slots 0 16 0 none) me)
shut_noted {fl} id slots me served = notes id 0 me (λ n. (n + 16) % 18446744073709551616) (step slots 0 16 0 none) added_word shuts (λ n w c l told. told) (shut_allowed id slots me served)

pub reopen_noted : {fl : ℕ} (id slots : ℕ) (me : Me ℕ View) → (Timely me.0 → HasTurn me.0) → (Timely me.0 → me.0.nobody_behind ≡ 1) → (Timely me.0 → ServedShut me.0) → Allows (Tickets fl) slots id me 0 (λ n. (n + 18446744073709551600) % 18446744073709551616) (noting subtracted_word reopens (step slots 0 16 0 none) me)
reopen_noted {fl} id slots me turns is_alone served = notes id 0 me (λ n. (n + 18446744073709551600) % 18446744073709551616) (step slots 0 16 0 none) subtracted_word reopens (λ n w c l told. told) (reopen_allowed id slots me turns is_alone served)

pub check_open_noted : {fl : ℕ} (id slots ticket : ℕ) (me : Me ℕ View) → fl ≡ 0 → (Timely me.0 → IsAtTurn ticket me.0) → Allows (Tickets fl) slots id me 0 (λ n. n) (noting kept_word checks_open (step slots 0 0 0 none) me)
check_open_noted {fl} id slots ticket me strict has = notes id 0 me (λ n. n) (step slots 0 0 0 none) kept_word checks_open (λ n w c l told. told) (check_open_allowed id slots ticket me strict has)

pub announce_head_sleep_noted : {fl : ℕ} (id slots old new : ℕ) (me : Me ℕ View) → state_of old ≡ 1 → new / 4 ≡ old / 4 → asleep_of new ≡ 1 → Allows (Tickets fl) slots id me 0 (λ n. either (eqb n old) new n) (noting exchanged_word announces_head_sleep (step slots 0 old new none) me)
announce_head_sleep_noted {fl} id slots old new me held half sets = notes id 0 me (λ n. either (eqb n old) new n) (step slots 0 old new none) exchanged_word announces_head_sleep (λ n w c l told. told) (announce_head_sleep_allowed id slots old new me held half sets)

pub grant_noted : {fl : ℕ} (id slots i ticket next : ℕ) (me : Me ℕ View) → me.0.max_newcomers ≡ fl → next ≡ (ticket + 1) % 18446744073709551616 → i ≡ cell_at next → (Timely me.0 → HasTurnOf ticket me.0)
    → Allows (Tickets fl) slots id me i (λ n. (n + 17179869184) % 18446744073709551616) (noting added_word grants (step slots i 17179869184 0 none) me)
grant_noted id slots i ticket next me same_newcomers behind is has = notes id i me (λ n. (n + 17179869184) % 18446744073709551616) (step slots i 17179869184 0 none) added_word grants (λ n w c l told. told) (grant_allowed id slots i ticket next me same_newcomers behind is has)

pub announce_sleep_noted : {fl : ℕ} (id slots i ticket old new : ℕ) (me : Me ℕ View) → me.0.max_newcomers ≡ fl → i ≡ cell_at ticket → count_of old < 65535 → new ≡ (old + 65536) % 18446744073709551616 → (Timely me.0 → IsQueued ticket me.0)
    → Allows (Tickets fl) slots id me i (λ n. either (eqb n old) new n) (noting exchanged_word announces_sleep (step slots i old new none) me)
announce_sleep_noted {fl} id slots i ticket old new me same_newcomers is few new_is waits = notes id i me (λ n. either (eqb n old) new n) (step slots i old new none) exchanged_word announces_sleep (λ n w c l told. told) (announce_sleep_allowed id slots i ticket old new me same_newcomers is few new_is waits)

pub retract_sleep_noted : {fl : ℕ} (id slots i ticket : ℕ) (me : Me ℕ View) → me.0.max_newcomers ≡ fl → i ≡ cell_at ticket → (Timely me.0 → IsAsleep ticket me.0)
    → Allows (Tickets fl) slots id me i (λ n. (n + 18446744073709486080) % 18446744073709551616) (noting subtracted_word looks (step slots i 65536 0 none) me)
retract_sleep_noted {fl} id slots i ticket me same_newcomers is sleeps = notes id i me (λ n. (n + 18446744073709486080) % 18446744073709551616) (step slots i 65536 0 none) subtracted_word looks (λ n w c l told. told) (retract_sleep_allowed id slots i ticket me same_newcomers is sleeps)

pub withdraw_noted : {fl : ℕ} (id slots i ticket k x : ℕ) (me : Me ℕ View) → me.0.max_newcomers ≡ fl → i ≡ cell_at ticket → x ≡ 2 ^ bit_of ticket → k ≤ 15 → (Timely me.0 → IsQueuedWithin k ticket me.0)
    → Allows (Tickets fl) slots id me i (λ n. (n + x) % 18446744073709551616) (noting added_word sets_withdrawn (step slots i x 0 none) me)
withdraw_noted {fl} id slots i ticket k x me same_newcomers is mask near waits = notes id i me (λ n. (n + x) % 18446744073709551616) (step slots i x 0 none) added_word sets_withdrawn (λ n w c l told. told) (withdraw_allowed id slots i ticket k x me same_newcomers is mask near waits)

pub clear_noted : {fl : ℕ} (id slots i ticket x : ℕ) (me : Me ℕ View) → i ≡ cell_at ticket → x ≡ 2 ^ bit_of ticket → (Timely me.0 → IsPassing ticket me.0)
    → Allows (Tickets fl) slots id me i (λ n. (n + (18446744073709551616 - x)) % 18446744073709551616) (noting subtracted_word clears_withdrawn (step slots i x 0 none) me)
clear_noted {fl} id slots i ticket x me is mask passes = notes id i me (λ n. (n + (18446744073709551616 - x)) % 18446744073709551616) (step slots i x 0 none) subtracted_word clears_withdrawn (λ n w c l told. told) (clear_allowed id slots i ticket x me is mask passes)
