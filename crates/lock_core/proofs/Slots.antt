-- Lemmas about the value that a lock protects, which lies in the slot of the lock's table. A step that is allowed on a
-- table without a slot is also allowed on a table with a slot. A caller takes the value from the slot with the step
-- that begins its critical section, and puts the value back with the step that ends the critical section.
use Rattle.std.proofs.Common.{◌≡◌, ◌≢◌, ℕ, suc, ◌+◌, ◌-◌, ◌*◌, ◌/◌, ◌%◌, ◌^◌, ◌<◌, ◌≤◌, List, [], ◌∷◌, map, length, set, slice_index, sym, refl, ap, ◌∙◌, subst, arith, eqb, length-set, ⊎_elim}
use mathlib.Core.Logic.{dite}
use mathlib.Core.Option.{Option, none, some, some-injective}
use native.Mathlib.Decide.{ℕ_discrete}
use lib.ListN.{get_elem?}
use prog.Atomic.{either}
use Rattle.atomic_table.specs.Table.{State, Act, Step, step, keeps, takes as act_takes, gives, chain, Valid, stepped, carried_after, homes_after, put_back, rest, Allows, Enters, Joins, Splits, Me, opening}
use Rattle.atomic_table.proofs.Lists.{set_here, set_else, set_again, at_longer}
use Rattle.lock_core.specs.declared.view.View.{View}
use Rattle.lock_core.specs.declared.view.Phase.TheVariants.{Impossible}
use Rattle.lock_core.specs.Layout.{asleep_of, bit_of, came_of, cell_at, count_of, shut_of, state_of}
use Rattle.lock_core.specs.Views.{max_open, Timely, Carries, initial_view, HasTurn, HasTurnAwake, HasTurnOf, IsNotServed, IsAsleep, IsAtTurn, IsIdle, IsInside, IsOutside, IsPassing, IsQueued, IsQueuedWithin, ServedOpen, ServedShut}
use Rattle.lock_core.specs.Looks.{looked}
use Rattle.lock_core.specs.Invariant.{Tickets}
use Rattle.lock_core.specs.Slots.{bare, bare_step, blanks, Slotted, with_slot}
use Rattle.lock_core.specs.Steps.{noting, kept_word, added_word, subtracted_word, exchanged_word, comes, reads_lock_word, draws, reads, reads_cell, draws_granted, draws_near, looks, announces_sleep, sets_withdrawn, grants, clears_withdrawn, barges, takes_lock_word, leaves, checks_open, shuts, reopens, announces_head_sleep, requests_handoff}
use Rattle.lock_core.specs.Meets.{meet, tells_of_two, told_of, learns, learns_ended, tells_order}
use Rattle.lock_core.proofs.Base.{fits, door_apart}
use Rattle.lock_core.proofs.Entering.{come_enters}
use Rattle.lock_core.proofs.FirstState.{first_words, first_state}
use Rattle.lock_core.proofs.DrawingSteps.{IsFew}
use Rattle.lock_core.proofs.Meeting.{meet_tells, tell_splits, learn_joins, learn_ended_joins, order_tells}
use Rattle.lock_core.proofs.Noting.{set_there, read_lock_word_allowed, draw_noted, read_tail_noted, read_cell_noted, try_draw_noted, draw_near_noted, look_noted, request_handoff_noted, barge_noted, take_lock_word_noted, leave_noted, shut_noted, reopen_noted, check_open_noted, announce_head_sleep_noted, grant_noted, announce_sleep_noted, retract_sleep_noted, withdraw_noted, clear_noted}

-- an act does not change the number of slots
length_after : {S : Type 0} (hs : List (Option S)) (c : List (ℕ × S)) (a : Act S) → length (homes_after hs c a) ≡ length hs
length_after hs c keeps = refl
length_after hs c (act_takes k y) = length-set hs k none
length_after hs [] gives = refl
length_after hs (x ∷ xs) gives = length-set hs x.0 (some x.1)
length_after hs c (chain a b) = length_after (homes_after hs c a) (carried_after c a) b ∙ length_after hs c a

-- the lock does not depend on what lies in the slots
rehomed : {fl : ℕ} (words : List ℕ) (hs ks : List (Option ℕ)) (views : List View) → length ks ≡ length hs → Tickets fl record { words = words; homes = hs; views = views } → Tickets fl record { words = words; homes = ks; views = views }
rehomed words hs ks views same_ r = record {
  drawn = r.drawn;
  most_open = r.most_open;
  owner = r.owner;
  who = r.who;
  g = r.g;
  tail = r.tail;
  lock_word = r.lock_word;
  wide = r.wide;
  seen = r.seen;
  heard = r.heard;
  granted = r.granted;
  guard = λ one. r.guard (sym same_ ∙ one);
}

bare_length : {T : Type 0} (hs : List (Option T)) → length (blanks hs) ≡ length hs
bare_length [] = refl
bare_length (x ∷ xs) = ap suc (bare_length xs)

pub carries_nothing : {T : Type 0} (slots : ℕ) (me : Me T View) → slots ≡ 0 → me.1 ≡ [] → Carries slots me
carries_nothing slots me none_ empty = record { nothing = λ _. empty; at_home = λ one. absurd (omega arith); carries = λ one. absurd (omega arith); timely = λ one. absurd (omega arith) }

-- a caller that learns which requests have ended has the value that it had
pub carries_learned : {T : Type 0} (slots : ℕ) (v w : View) (c : List (ℕ × T)) → Carries slots (v, c) → Carries slots (learns_ended v w, c)
carries_learned slots v w c k = record { nothing = k.nothing; at_home = k.at_home; carries = k.carries; timely = k.timely }

-- a caller that is outside, and has no request, is not served
outside_door : {fl : ℕ} (s : State ℕ View) (r : Tickets fl s) (id : ℕ) (v : View) (at : get_elem? s.views id ≡ some v) → r.most_open ≤ max_open → IsOutside v → v.door ≡ 0
outside_door s r id v at le out = dite (ℕ_discrete v.door 0) (λ e. e) (λ ne. absurd (⊎_elim (λ a. let p = a.1 in let q = out.1.0 in cc) (λ a. let z = out.0 in omega arith) ((fits s r id v at le).door ne).2))

module _ {T : Type 0} {fl : ℕ} where
  pub lifts : (id i : ℕ) (me : Me T View) (f : ℕ → ℕ) (st : Step T) (tells : Step ℕ → Me ℕ View → ℕ → Me ℕ View → Type 0)
      → ((n : ℕ) (w : View) (c : List (ℕ × ℕ)) → tells (bare_step st) (me.0, []) n (w, c) → c ≡ []) → Carries st.slots me
      → Allows (Tickets fl) st.slots id (me.0, []) i f (tells (bare_step st) (me.0, [])) → Allows (Slotted {T = T} fl) st.slots id me i f (with_slot tells st me)
  lifts id i me f st tells empty has allowed s r sized at low = dite (ℕ_discrete st.slots 1) (λ one. dite (ℕ_discrete v.door 0) (λ out. dite (ℕ_discrete w.door 0) (stays one out) (takes_it one out)) (λ in_. dite (ℕ_discrete w.door 0) (gives_it one in_) (has_it one in_))) alone
    where
      v : View
      v = me.0

      n : ℕ
      n = slice_index s.words i

      made : (w : View) × (a : Act ℕ) × Valid (bare s).homes [] a × Tickets fl (stepped (bare s) i (f n) id [] w a) × tells (bare_step st) (v, []) n (w, carried_after [] a)
      made = allowed (bare s) r.lock (bare_length s.homes ∙ sized) at low

      w : View
      w = made.0

      told : tells (bare_step st) (v, []) n (w, [])
      told = subst (λ (c : List (ℕ × ℕ)). tells (bare_step st) (v, []) n (w, c)) (empty n w (carried_after [] made.1) made.4) made.4

      at_w : get_elem? (set s.views id w) id ≡ some w
      at_w = set_there s.views id v w at

      lock_after : (a : Act T) → Tickets fl (bare (stepped s i (f n) id me.1 w a))
      lock_after a = rehomed (set s.words i (f n)) (homes_after (bare s).homes [] made.1) (blanks (homes_after s.homes me.1 a)) (set s.views id w)
          (bare_length (homes_after s.homes me.1 a) ∙ length_after s.homes me.1 a ∙ sym (bare_length s.homes) ∙ sym (length_after (bare s).homes [] made.1)) made.3

      Goal : Type 0
      Goal = (w : View) × (a : Act T) × Valid s.homes me.1 a × Slotted fl (stepped s i (f n) id me.1 w a) × with_slot tells st me n (w, carried_after me.1 a)

      -- the lock has no value
      alone : st.slots ≢ 1 → Goal
      alone ne = (
        w,
        keeps,
        tt,
        record { lock = lock_after keeps; home = λ one. absurd (ne (sym sized ∙ one)) },
        (told, record { nothing = has.nothing; at_home = λ one. absurd (ne one); carries = λ one. absurd (ne one); timely = λ one. absurd (ne one) }, (λ a b. refl)),
      )

      in_time : st.slots ≡ 1 → made.3.most_open ≤ max_open
      in_time one = (made.3.guard (length_after (bare s).homes [] made.1 ∙ bare_length s.homes ∙ sized ∙ one)).0

      timely : st.slots ≡ 1 → Timely w
      timely one = let k = made.3.seen id w at_w in let t = in_time one in omega arith

      -- if the caller is served now, nobody else is or was
      all_home : st.slots ≡ 1 → v.door ≡ 0 → w.door ≢ 0 → (j : ℕ) (b : View) → get_elem? s.views j ≡ some b → b.door ≡ 0
      all_home one out in_ j b there = dite (ℕ_discrete j id)
          (λ e. ap (λ (x : View). x.door) (some-injective b v (sym there ∙ ap (get_elem? s.views) e ∙ at)) ∙ out)
          (λ ne. dite (ℕ_discrete b.door 0) (λ e. e) (λ b_in.
          let r' = made.3 in
          let s' : State ℕ View = stepped (bare s) i (f n) id [] w made.1 in
          let there' : get_elem? (set s.views id w) j ≡ some b = set_else s.views id j w ne ∙ there in
          absurd (door_apart s' r' id w at_w (in_time one) j b ne ((fits s' r' id w at_w (in_time one)).door in_).2 there' (((r'.granted (in_time one)).each j b there').door b_in).2)))

      stays : st.slots ≡ 1 → v.door ≡ 0 → w.door ≡ 0 → Goal
      stays one out out' = (
        w,
        keeps,
        tt,
        record {
          lock = lock_after keeps;
          home = λ slot none_out. r.home slot (λ j b there. dite (ℕ_discrete j id)
              (λ e. ap (λ (x : View). x.door) (some-injective b v (sym there ∙ ap (get_elem? s.views) e ∙ at)) ∙ out)
              (λ ne. none_out j b (set_else s.views id j w ne ∙ there)));
        },
        (told, record { nothing = has.nothing; at_home = λ _ _. has.at_home one out; carries = λ _ ne. absurd (ne out'); timely = λ _. timely one }, (λ ne. absurd (ne out))),
      )

      has_it : st.slots ≡ 1 → v.door ≢ 0 → w.door ≢ 0 → Goal
      has_it one in_ in' = (
        w,
        keeps,
        tt,
        record { lock = lock_after keeps; home = λ slot none_out. absurd (in' (none_out id w at_w)) },
        (told, record { nothing = has.nothing; at_home = λ _ e. absurd (in' e); carries = λ _ _. has.carries one in_; timely = λ _. timely one }, (λ a b. refl)),
      )

      takes_it : st.slots ≡ 1 → v.door ≡ 0 → w.door ≢ 0 → Goal
      takes_it one out in' =
          let y = r.home (sized ∙ one) (all_home one out in') in (
            w,
            act_takes 0 y.0,
            y.1,
            record { lock = lock_after (act_takes 0 y.0); home = λ slot none_out. absurd (in' (none_out id w at_w)) },
            (
              told,
              record { nothing = λ none_. absurd (omega arith); at_home = λ _ e. absurd (in' e); carries = λ _ _. (y.0, ap (λ (c : List (ℕ × T)). (0, y.0) ∷ c) (has.at_home one out)); timely = λ _. timely one },
              (λ ne. absurd (ne out)),
            ),
          )

      gives_it : st.slots ≡ 1 → v.door ≢ 0 → w.door ≡ 0 → Goal
      gives_it one in_ out' =
          let y = has.carries one in_ in (
            w,
            gives,
            tt,
            record {
              lock = lock_after gives;
              home = λ slot none_out. (y.0, ap (λ c. get_elem? (put_back s.homes c) 0) y.1 ∙ set_here s.homes 0 (some y.0) (omega arith));
            },
            (told, record { nothing = λ none_. absurd (omega arith); at_home = λ _ _. ap rest y.1; carries = λ _ ne. absurd (ne out'); timely = λ _. timely one }, (λ a ne. absurd (ne out'))),
          )

  pub read_lock_word_slotted : (id slots : ℕ) (me : Me T View) → Carries slots me → Allows (Slotted {T = T} fl) slots id me 0 (λ n. n) (with_slot (noting kept_word reads_lock_word) (step slots 0 0 0 none) me)
  read_lock_word_slotted id slots me has = lifts id 0 me (λ n. n) (step slots 0 0 0 none) (noting kept_word reads_lock_word) (λ n w c told. told.1.0) has (read_lock_word_allowed id slots (me.0, []))

  pub draw_slotted : (id slots : ℕ) (me : Me T View) → Carries slots me → slots ≡ 0 → (Timely me.0 → IsIdle me.0) → Allows (Slotted {T = T} fl) slots id me 16 (λ n. (n + 1) % 18446744073709551616) (with_slot (noting added_word draws) (step slots 16 1 0 none) me)
  draw_slotted id slots me has_ no_slot fresh = lifts id 16 me (λ n. (n + 1) % 18446744073709551616) (step slots 16 1 0 none) (noting added_word draws) (λ n w c told. told.1.0.0.0) has_ (draw_noted id slots (me.0, []) no_slot fresh)

  pub read_tail_slotted : (id slots : ℕ) (me : Me T View) → Carries slots me → (Timely me.0 → me.0.counted ≡ 0) → Allows (Slotted {T = T} fl) slots id me 16 (λ n. n) (with_slot (noting kept_word reads) (step slots 16 0 0 none) me)
  read_tail_slotted id slots me has_ none_counted = lifts id 16 me (λ n. n) (step slots 16 0 0 none) (noting kept_word reads) (λ n w c told. told.1.0.0.0) has_ (read_tail_noted id slots (me.0, []) none_counted)

  pub read_cell_slotted : (id slots i ticket : ℕ) (me : Me T View) → Carries slots me → i ≡ cell_at ticket → (Timely me.0 → IsIdle me.0 × (ticket ≡ me.0.tail_seen % 18446744073709551616)) → Allows (Slotted {T = T} fl) slots id me i (λ n. n) (with_slot (noting kept_word reads_cell) (step slots i 0 0 none) me)
  read_cell_slotted id slots i ticket me has_ is has = lifts id i me (λ n. n) (step slots i 0 0 none) (noting kept_word reads_cell) (λ n w c told. told.1.0.0.0) has_ (read_cell_noted id slots i ticket (me.0, []) is has)

  pub try_draw_slotted : (id slots old new : ℕ) (me : Me T View) → Carries slots me → slots ≡ 0 → new ≡ (old + 1) % 18446744073709551616 → (Timely me.0 → IsIdle me.0 × (old ≡ me.0.tail_seen % 18446744073709551616) × (me.0.next_is_at_turn ≡ 1)) → Allows (Slotted {T = T} fl) slots id me 16 (λ n. either (eqb n old) new n) (with_slot (noting exchanged_word draws_granted) (step slots 16 old new none) me)
  try_draw_slotted id slots old new me has_ no_slot new_is has = lifts id 16 me (λ n. either (eqb n old) new n) (step slots 16 old new none) (noting exchanged_word draws_granted) (λ n w c told. told.1.0.0.0) has_ (try_draw_noted id slots old new (me.0, []) no_slot new_is has)

  pub draw_near_slotted : (id slots old new : ℕ) (me : Me T View) → Carries slots me → (slots ≡ 1 → IsFew old me.0) → new ≡ (old + 1) % 18446744073709551616 → (Timely me.0 → IsIdle me.0 × (old ≡ me.0.tail_seen % 18446744073709551616) × (me.0.ticket ≡ me.0.tail_seen)) → Allows (Slotted {T = T} fl) slots id me 16 (λ n. either (eqb n old) new n) (with_slot (noting exchanged_word draws_near) (step slots 16 old new none) me)
  draw_near_slotted id slots old new me has_ few_ new_is has = lifts id 16 me (λ n. either (eqb n old) new n) (step slots 16 old new none) (noting exchanged_word draws_near) (λ n w c told. told.1.0.0.0) has_ (draw_near_noted id slots old new (me.0, []) few_ new_is has)

  pub look_slotted : (id slots i ticket : ℕ) (me : Me T View) → Carries slots me → me.0.max_newcomers ≡ fl → i ≡ cell_at ticket → (Timely me.0 → IsQueued ticket me.0) → Allows (Slotted {T = T} fl) slots id me i (λ n. n) (with_slot (noting subtracted_word looks) (step slots i 0 0 none) me)
  look_slotted id slots i ticket me has_ same_newcomers is waits = lifts id i me (λ n. n) (step slots i 0 0 none) (noting subtracted_word looks) (λ n w c told. told.1.0.0.0) has_ (look_noted id slots i ticket (me.0, []) same_newcomers is waits)

  pub request_handoff_slotted : (id slots old new : ℕ) (me : Me T View) → Carries slots me → new / 2 ≡ old / 2 → Allows (Slotted {T = T} fl) slots id me 0 (λ n. either (eqb n old) new n) (with_slot (noting exchanged_word requests_handoff) (step slots 0 old new none) me)
  request_handoff_slotted id slots old new me has_ half = lifts id 0 me (λ n. either (eqb n old) new n) (step slots 0 old new none) (noting exchanged_word requests_handoff) (λ n w c told. told.1.0) has_ (request_handoff_noted id slots old new (me.0, []) half)

  pub barge_slotted : (id slots old new : ℕ) (me : Me T View) → Carries slots me → 0 < fl → me.0.max_newcomers ≡ fl → old / 4 % 8 ≡ 0 → new ≡ (old + 36) % 18446744073709551616 → (Timely me.0 → IsIdle me.0) → Allows (Slotted {T = T} fl) slots id me 0 (λ n. either (eqb n old) new n) (with_slot (noting exchanged_word barges) (step slots 0 old new none) me)
  barge_slotted id slots old new me has_ barging same_newcomers free new_is fresh = lifts id 0 me (λ n. either (eqb n old) new n) (step slots 0 old new none) (noting exchanged_word barges) (λ n w c told. told.1.0.0) has_ (barge_noted id slots old new (me.0, []) barging same_newcomers free new_is fresh)

  pub take_lock_word_slotted : (id slots ticket old new : ℕ) (me : Me T View) → Carries slots me → 0 < fl → me.0.max_newcomers ≡ fl → state_of old ≢ 1 → new ≡ old / 16 % 2 * 16 + 4 → (Timely me.0 → IsAtTurn ticket me.0) → Allows (Slotted {T = T} fl) slots id me 0 (λ n. either (eqb n old) new n) (with_slot (noting exchanged_word takes_lock_word) (step slots 0 old new none) me)
  take_lock_word_slotted id slots ticket old new me has_ barging same_newcomers free new_is has = lifts id 0 me (λ n. either (eqb n old) new n) (step slots 0 old new none) (noting exchanged_word takes_lock_word) (λ n w c told. told.1.0.0) has_ (take_lock_word_noted id slots ticket old new (me.0, []) barging same_newcomers free new_is has)

  pub leave_slotted : (id slots old new : ℕ) (me : Me T View) → Carries slots me → came_of new ≡ came_of old → state_of new ≢ 1 → (state_of new ≡ 0 → came_of old + 1 ≤ fl) → shut_of new ≡ shut_of old → (Timely me.0 → IsInside me.0) → Allows (Slotted {T = T} fl) slots id me 0 (λ n. either (eqb n old) new n) (with_slot (noting exchanged_word leaves) (step slots 0 old new none) me)
  leave_slotted id slots old new me has_ same_ free few still_shut has = lifts id 0 me (λ n. either (eqb n old) new n) (step slots 0 old new none) (noting exchanged_word leaves) (λ n w c told. told.1.0.0) has_ (leave_noted id slots old new (me.0, []) same_ free few still_shut has)

  pub shut_slotted : (id slots : ℕ) (me : Me T View) → Carries slots me → (Timely me.0 → ServedOpen me.0) → Allows (Slotted {T = T} fl) slots id me 0 (λ n. (n + 16) % 18446744073709551616) (with_slot (noting added_word shuts) (step slots 0 16 0 none) me)
  shut_slotted id slots me has_ served = lifts id 0 me (λ n. (n + 16) % 18446744073709551616) (step slots 0 16 0 none) (noting added_word shuts) (λ n w c told. told.1.0.0) has_ (shut_noted id slots (me.0, []) served)

  pub reopen_slotted : (id slots : ℕ) (me : Me T View) → Carries slots me → (Timely me.0 → HasTurn me.0) → (Timely me.0 → me.0.nobody_behind ≡ 1) → (Timely me.0 → ServedShut me.0) → Allows (Slotted {T = T} fl) slots id me 0 (λ n. (n + 18446744073709551600) % 18446744073709551616) (with_slot (noting subtracted_word reopens) (step slots 0 16 0 none) me)
  reopen_slotted id slots me has_ turns is_alone served = lifts id 0 me (λ n. (n + 18446744073709551600) % 18446744073709551616) (step slots 0 16 0 none) (noting subtracted_word reopens) (λ n w c told. told.1.0.0) has_ (reopen_noted id slots (me.0, []) turns is_alone served)

  pub check_open_slotted : (id slots ticket : ℕ) (me : Me T View) → Carries slots me → fl ≡ 0 → (Timely me.0 → IsAtTurn ticket me.0) → Allows (Slotted {T = T} fl) slots id me 0 (λ n. n) (with_slot (noting kept_word checks_open) (step slots 0 0 0 none) me)
  check_open_slotted id slots ticket me has_ strict has = lifts id 0 me (λ n. n) (step slots 0 0 0 none) (noting kept_word checks_open) (λ n w c told. told.1.0.0) has_ (check_open_noted id slots ticket (me.0, []) strict has)

  pub announce_head_sleep_slotted : (id slots old new : ℕ) (me : Me T View) → Carries slots me → state_of old ≡ 1 → new / 4 ≡ old / 4 → asleep_of new ≡ 1 → Allows (Slotted {T = T} fl) slots id me 0 (λ n. either (eqb n old) new n) (with_slot (noting exchanged_word announces_head_sleep) (step slots 0 old new none) me)
  announce_head_sleep_slotted id slots old new me has_ held half sets = lifts id 0 me (λ n. either (eqb n old) new n) (step slots 0 old new none) (noting exchanged_word announces_head_sleep) (λ n w c told. told.1.0.0) has_ (announce_head_sleep_noted id slots old new (me.0, []) held half sets)

  pub grant_slotted : (id slots i ticket next : ℕ) (me : Me T View) → Carries slots me → me.0.max_newcomers ≡ fl → next ≡ (ticket + 1) % 18446744073709551616 → i ≡ cell_at next → (Timely me.0 → HasTurnOf ticket me.0) → Allows (Slotted {T = T} fl) slots id me i (λ n. (n + 17179869184) % 18446744073709551616) (with_slot (noting added_word grants) (step slots i 17179869184 0 none) me)
  grant_slotted id slots i ticket next me has_ same_newcomers behind is has = lifts id i me (λ n. (n + 17179869184) % 18446744073709551616) (step slots i 17179869184 0 none) (noting added_word grants) (λ n w c told. told.1.0.0.0) has_ (grant_noted id slots i ticket next (me.0, []) same_newcomers behind is has)

  pub announce_sleep_slotted : (id slots i ticket old new : ℕ) (me : Me T View) → Carries slots me → me.0.max_newcomers ≡ fl → i ≡ cell_at ticket → count_of old < 65535 → new ≡ (old + 65536) % 18446744073709551616 → (Timely me.0 → IsQueued ticket me.0) → Allows (Slotted {T = T} fl) slots id me i (λ n. either (eqb n old) new n) (with_slot (noting exchanged_word announces_sleep) (step slots i old new none) me)
  announce_sleep_slotted id slots i ticket old new me has_ same_newcomers is few new_is waits = lifts id i me (λ n. either (eqb n old) new n) (step slots i old new none) (noting exchanged_word announces_sleep) (λ n w c told. told.1.0.0.0) has_ (announce_sleep_noted id slots i ticket old new (me.0, []) same_newcomers is few new_is waits)

  pub retract_sleep_slotted : (id slots i ticket : ℕ) (me : Me T View) → Carries slots me → me.0.max_newcomers ≡ fl → i ≡ cell_at ticket → (Timely me.0 → IsAsleep ticket me.0) → Allows (Slotted {T = T} fl) slots id me i (λ n. (n + 18446744073709486080) % 18446744073709551616) (with_slot (noting subtracted_word looks) (step slots i 65536 0 none) me)
  retract_sleep_slotted id slots i ticket me has_ same_newcomers is sleeps = lifts id i me (λ n. (n + 18446744073709486080) % 18446744073709551616) (step slots i 65536 0 none) (noting subtracted_word looks) (λ n w c told. told.1.0.0.0) has_ (retract_sleep_noted id slots i ticket (me.0, []) same_newcomers is sleeps)

  pub withdraw_slotted : (id slots i ticket k x : ℕ) (me : Me T View) → Carries slots me → me.0.max_newcomers ≡ fl → i ≡ cell_at ticket → x ≡ 2 ^ bit_of ticket → k ≤ 15 → (Timely me.0 → IsQueuedWithin k ticket me.0) → Allows (Slotted {T = T} fl) slots id me i (λ n. (n + x) % 18446744073709551616) (with_slot (noting added_word sets_withdrawn) (step slots i x 0 none) me)
  withdraw_slotted id slots i ticket k x me has_ same_newcomers is mask near waits = lifts id i me (λ n. (n + x) % 18446744073709551616) (step slots i x 0 none) (noting added_word sets_withdrawn) (λ n w c told. told.1.0.0.0) has_ (withdraw_noted id slots i ticket k x (me.0, []) same_newcomers is mask near waits)

  pub clear_slotted : (id slots i ticket x : ℕ) (me : Me T View) → Carries slots me → i ≡ cell_at ticket → x ≡ 2 ^ bit_of ticket → (Timely me.0 → IsPassing ticket me.0) → Allows (Slotted {T = T} fl) slots id me i (λ n. (n + (18446744073709551616 - x)) % 18446744073709551616) (with_slot (noting subtracted_word clears_withdrawn) (step slots i x 0 none) me)
  clear_slotted id slots i ticket x me has_ is mask passes = lifts id i me (λ n. (n + (18446744073709551616 - x)) % 18446744073709551616) (step slots i x 0 none) (noting subtracted_word clears_withdrawn) (λ n w c told. told.1.0.0.0) has_ (clear_noted id slots i ticket x (me.0, []) is mask passes)

  pub meet_slotted_tells : (id slots : ℕ) (me : Me T View) → Carries slots me → me.0.phase ≡ Impossible → me.0.counted ≡ 0 → Allows (Slotted {T = T} fl) slots id me 0 (λ n. n) (with_slot tells_of_two (step slots 0 0 0 none) me)
  meet_slotted_tells id slots me has_ met zero_ = lifts id 0 me (λ n. n) (step slots 0 0 0 none) tells_of_two (λ n w c told. told.0) has_ (meet_tells id slots (me.0, []) met zero_)

  pub order_slotted : (id slots : ℕ) (me : Me T View) → Carries slots me → (Timely me.0 → HasTurnAwake me.0) → Allows (Slotted {T = T} fl) slots id me 0 (λ n. n) (with_slot tells_order (step slots 0 0 0 none) me)
  order_slotted id slots me has_ has = lifts id 0 me (λ n. n) (step slots 0 0 0 none) tells_order (λ n w c told. told.0) has_ (order_tells id slots (me.0, []) has)

  pub come_slotted : (slots : ℕ) → Enters (Slotted {T = T} fl) slots 8 (λ n w. with_slot {T = T} comes (step slots 8 0 0 none) (initial_view fl, []) n (w, []))
  come_slotted slots s r sized low =
      let made = come_enters slots (bare s) r.lock (bare_length s.homes ∙ sized) low in
      let n : ℕ = slice_index s.words 8 in
      let first : made.0 ≡ record (initial_view fl) { looks = looked (step slots 8 0 0 none) n n (initial_view fl).looks } = ap (λ (m : Me ℕ View). m.0) made.2 in (
        made.0,
        record { lock = made.1; home = λ slot none_out. r.home slot (λ j b there. none_out j b (at_longer s.views (made.0 ∷ []) j b there)) },
        (
          made.2,
          record { nothing = λ _. refl; at_home = λ _ _. refl; carries = λ _ ne. absurd (ne (ap (λ (x : View). x.door) first)); timely = λ _. (let e : made.0.most_open ≡ 0 = ap (λ (x : View). x.most_open) first in omega arith) },
          (λ a b. refl),
        ),
      )

  -- a lock is opened without a value, or with one
  pub opens_alone : fl < 1073741824 → Slotted {T = T} fl (opening first_words [] (initial_view fl))
  opens_alone small = record { lock = first_state fl [] small; home = λ slot. absurd (omega arith) }

  pub opens_with : (xs : List T) → length xs ≡ 1 → fl < 1073741824 → Slotted {T = T} fl (opening first_words xs (initial_view fl))
  opens_with [] one small = absurd (omega arith)
  opens_with (x ∷ xs) one small = record { lock = first_state fl (blanks (map some (x ∷ xs))) small; home = λ _ _. (x, refl) }

  pub tell_slotted : (id : ℕ) (v : View) → Splits (Slotted {T = T} fl) id v v (told_of v)
  tell_slotted id v s r at = record {
    lock = tell_splits id v (bare s) r.lock at;
    home = λ slot none_out. r.home slot (λ j b there. none_out j b (at_longer (set s.views id v) (told_of v ∷ []) j b (ap (λ l. get_elem? l j) (set_again s.views id v at) ∙ there)));
  }

  pub meet_slotted : (id other : ℕ) (v w : View) → Joins (Tickets fl) id v other w (meet v w) (initial_view 0) → Joins (Slotted {T = T} fl) id v other w (meet v w) (initial_view 0)
  meet_slotted id other v w joins s r at apart at_other =
      let r' = joins (bare s) r.lock at apart at_other in record {
        lock = r';
        home = λ slot none_out. absurd (
            let le = (r'.guard (bare_length s.homes ∙ slot)).0 in
            ((r'.granted le).each id (meet v w) (set_else (set s.views id (meet v w)) other id (initial_view 0) (λ e. apart (sym e)) ∙ set_there s.views id v (meet v w) at)).place
            );
      }

  pub learn_slotted : (id other : ℕ) (v w : View) → (Timely v → IsOutside v) → (Timely w → IsOutside w) → Joins (Slotted {T = T} fl) id v other w (learns v w) (initial_view 0)
  learn_slotted id other v w a b s r at apart at_other = record {
    lock = learn_joins id other v w (λ t. (a t).1) (λ t. (b t).1) (bare s) r.lock at apart at_other;
    home = λ slot none_out.
        let le = (r.lock.guard (bare_length s.homes ∙ slot)).0 in
        let at_w : get_elem? s.views other ≡ some w = sym (set_else s.views id other (learns v w) apart) ∙ at_other in
        r.home slot (λ j x there. dite (ℕ_discrete j id)
        (λ e. outside_door (bare s) r.lock j x there le (subst IsOutside (some-injective v x (sym at ∙ ap (get_elem? s.views) (sym e) ∙ there)) (a (let k = r.lock.seen id v at in omega arith))))
        (λ ne. dite (ℕ_discrete j other)
        (λ e. outside_door (bare s) r.lock j x there le (subst IsOutside (some-injective w x (sym at_w ∙ ap (get_elem? s.views) (sym e) ∙ there)) (b (let k = r.lock.seen other w at_w in omega arith))))
        (λ ne'. none_out j x (set_else (set s.views id (learns v w)) other j (initial_view 0) ne' ∙ set_else s.views id j (learns v w) ne ∙ there))));
  }

  pub learn_ended_slotted : (id other : ℕ) (v w : View) → (Timely v → HasTurnAwake v) → (Timely w → IsIdle w) → (Timely w → IsNotServed w) → Joins (Slotted {T = T} fl) id v other w (learns_ended v w) (initial_view 0)
  learn_ended_slotted id other v w a b c s r at apart at_other = record {
    lock = learn_ended_joins id other v w a b (bare s) r.lock at apart at_other;
    home = λ slot none_out.
        let le = (r.lock.guard (bare_length s.homes ∙ slot)).0 in
        let at_w : get_elem? s.views other ≡ some w = sym (set_else s.views id other (learns_ended v w) apart) ∙ at_other in
        r.home slot (λ j x there. dite (ℕ_discrete j id)
        (λ e. ap (λ (z : View). z.door) (some-injective x v (sym there ∙ ap (get_elem? s.views) e ∙ at)) ∙ none_out id (learns_ended v w) (set_else (set s.views id (learns_ended v w)) other id (initial_view 0) (λ e'. apart (sym e')) ∙ set_there s.views id v (learns_ended v w) at))
        (λ ne. dite (ℕ_discrete j other)
        (λ e. ap (λ (z : View). z.door) (some-injective x w (sym there ∙ ap (get_elem? s.views) e ∙ at_w)) ∙ c (let k = r.lock.seen other w at_w in omega arith))
        (λ ne'. none_out j x (set_else (set s.views id (learns_ended v w)) other j (initial_view 0) ne' ∙ set_else s.views id j (learns_ended v w) ne ∙ there))));
  }
