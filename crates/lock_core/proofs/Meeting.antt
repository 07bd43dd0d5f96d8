-- Proof about the steps that combine the views of two callers, so that one caller learns what the other one knows.
use Rattle.std.proofs.Common.{◌≡◌, ◌≢◌, ℕ, ◌%◌, ◌<◌, ◌≤◌, List, [], ◌∷◌, ◌++◌, set, slice_index, sym, refl, ap, ◌∙◌, subst, arith, ⊎_elim, max}
use mathlib.Core.Option.{none, some}
use lib.ListN.{get_elem?}
use Rattle.atomic_table.specs.Table.{State, step, keeps, Allows, Joins, Splits, Me}
use Rattle.atomic_table.proofs.Lists.{at_snoc, set_else, set_again}
use Rattle.lock_core.specs.declared.view.View.{View}
use Rattle.lock_core.specs.declared.view.Phase.{Phase}
use Rattle.lock_core.specs.declared.view.Phase.TheVariants.{Idle, Queued, Asleep, AtTurn, Passing, HeadInside, Impossible}
use Rattle.lock_core.specs.Layout.{cell_at}
use Rattle.lock_core.specs.Views.{max_open, Timely, initial_view, IsIdle, KnowsShut, ServedOpen, HasTurn, HasTurnAwake, LeftQuietly, SleepsAtLockWord}
use Rattle.lock_core.specs.Invariant.{tally, Ghost, Place, Fits, Cell, Tickets}
use Rattle.lock_core.specs.Meets.{Served, IsWaiting, GrantedToNobodyAsleepAt, IsStillAsleep, HadPlaceOf, IsWaitingOpen, IsWaitingShut, meet, tells_of_two, told_of, learns, learns_ended, tells_order}
use Rattle.lock_core.proofs.Base.{idle_at_draw, each_after, tally_none, fits, place_of, turn_of_place, busy_of}
use Rattle.lock_core.proofs.Tally.{tally_snoc}
use Rattle.lock_core.proofs.Entering.{none_of}
use Rattle.lock_core.proofs.Base.{unchanged}

-- two callers that cannot meet
meet_joins : {fl : ℕ} (id other : ℕ) (v w : View) → ((s : State ℕ View) (r : Tickets fl s) → r.most_open ≤ max_open → get_elem? s.views id ≡ some v → get_elem? s.views other ≡ some w → other ≢ id → ⊥) → Joins (Tickets fl) id v other w (meet v w) (initial_view 0)
meet_joins {fl} id other v w never s r at apart at_other =
    let there : get_elem? s.views other ≡ some w = sym (set_else s.views id other (meet v w) apart) ∙ at_other in record {
      drawn = r.drawn;
      most_open = r.most_open;
      owner = r.owner;
      who = r.who;
      g = r.g;
      tail = r.tail;
      lock_word = r.lock_word;
      wide = r.wide;
      guard = r.guard;
      seen = each_after (λ j b. b.most_open ≤ r.most_open) (set s.views id (meet v w)) other (initial_view 0) (omega arith) (λ j b ne old. each_after (λ j b. b.most_open ≤ r.most_open) s.views id (meet v w) (r.seen id v at) (λ k c ne' old'. r.seen k c old') j b old);
      heard = each_after (λ j b. b.newcomers_seen ≤ r.g.newcomers) (set s.views id (meet v w)) other (initial_view 0) (omega arith) (λ j b ne old. each_after (λ j b. b.newcomers_seen ≤ r.g.newcomers) s.views id (meet v w) (omega arith) (λ k c ne' old'. r.heard k c old') j b old);
      granted = λ le. absurd (never s r le at there apart);
    }

pub meet_tells : {fl : ℕ} (id slots : ℕ) (me : Me ℕ View) → me.0.phase ≡ Impossible → me.0.counted ≡ 0 → Allows (Tickets fl) slots id me 0 (λ n. n) (tells_of_two (step slots 0 0 0 none) me)
meet_tells id slots me met zero_ s r sized at low =
    let v : View = me.0 in
    let no : r.most_open ≤ max_open → ⊥ = λ le. place_of s r id v at le Impossible met in
    let w : View = meet record v { most_open = r.most_open } v in (
      w,
      keeps,
      tt,
      unchanged s r id v at 0 (slice_index s.words 0) (omega arith) refl w refl (omega arith) (λ le. zero_) (λ _. refl) (λ le. absurd (no le)),
      (refl, no),
    )

two_heads : {fl : ℕ} (s : State ℕ View) (r : Tickets fl s) (id other : ℕ) (v w : View) → r.most_open ≤ max_open → get_elem? s.views id ≡ some v → get_elem? s.views other ≡ some w → other ≢ id → HasTurn v → HasTurn w → ⊥
two_heads {fl} s r id other v w le at there apart has_v has_w =
    let f = fits s r id v at le in
    let h = fits s r other w there le in
    let t = turn_of_place fl r.g v has_v f.place in
    let u = turn_of_place fl r.g w has_w h.place in
    apart (sym (h.mine (busy_of w has_w)).2 ∙ ap r.owner (u ∙ sym t) ∙ (f.mine (busy_of v has_v)).2)

pub never_two_joins : {fl : ℕ} (id other : ℕ) (v w : View) → v.max_newcomers ≡ fl → w.max_newcomers ≡ fl → (Timely v → Served v) → (Timely w → Served w) → Joins (Tickets fl) id v other w (meet v w) (initial_view 0)
never_two_joins id other v w of_v of_w a b = meet_joins id other v w (λ s r le at there apart.
    let f = fits s r id v at le in
    let h = fits s r other w there le in
    ⊎_elim
    (λ x. ⊎_elim (λ y. two_heads s r id other v w le at there apart x.1 y.1) (λ y. let z = (h.lock_word.occupant y).0 in let x0 = x.0 in omega arith) (b (let k = r.seen other w there in omega arith)))
    (λ x. ⊎_elim (λ y. let z = (f.lock_word.occupant x).0 in let y0 = y.0 in omega arith) (λ y. apart (sym (h.lock_word.occupant y).2 ∙ (f.lock_word.occupant x).2)) (b (let k = r.seen other w there in omega arith)))
    (a (let k = r.seen id v at in omega arith)))

pub never_two_heads_joins : {fl : ℕ} (id other : ℕ) (v w : View) → (Timely v → HasTurn v) → (Timely w → HasTurn w) → Joins (Tickets fl) id v other w (meet v w) (initial_view 0)
never_two_heads_joins id other v w a b = meet_joins id other v w (λ s r le at there apart. two_heads s r id other v w le at there apart (a (let k = r.seen id v at in omega arith)) (b (let k = r.seen other w there in omega arith)))

pub first_come_joins : {fl : ℕ} (id other : ℕ) (v w : View) → (Timely v → IsWaiting v) → (Timely w → HasTurn w) → v.ticket < w.ticket → Joins (Tickets fl) id v other w (meet v w) (initial_view 0)
first_come_joins {fl} id other v w a b before = meet_joins id other v w (λ s r le at there apart.
    let waits = a (let k = r.seen id v at in omega arith) in
    let has = b (let k = r.seen other w there in omega arith) in
    let f = fits s r id v at le in
    let m = (f.mine (λ e. ⊎_elim (λ e'. cc) (λ e'. cc) waits)).0 in
    let t = turn_of_place fl r.g w has (fits s r other w there le).place in
    omega arith)

pub no_lost_wake_joins : {fl : ℕ} (id other : ℕ) (v w : View) → (Timely v → GrantedToNobodyAsleepAt w.ticket v) → (Timely w → IsStillAsleep w) → Joins (Tickets fl) id v other w (meet v w) (initial_view 0)
no_lost_wake_joins id other v w a b = meet_joins id other v w (λ s r le at there apart.
    let quiet = a (let k = r.seen id v at in omega arith) in
    let sleeps = b (let k = r.seen other w there in omega arith) in
    let f = (fits s r id v at le).told_nobody quiet.0 in
    let p = place_of s r other w there le Asleep sleeps in
    let one : r.g.nobody_asleep w.ticket ≡ 1 = ap r.g.nobody_asleep (sym quiet.1) ∙ f.0 in
    let none_ = p.2 in
    omega arith)

pub none_served_after_shut_joins : {fl : ℕ} (id other : ℕ) (v w : View) → (Timely v → KnowsShut v) → (Timely w → ServedOpen w) → (Timely w → w.epoch ≤ v.epoch) → Joins (Tickets fl) id v other w (meet v w) (initial_view 0)
none_served_after_shut_joins id other v w a b epoch = meet_joins id other v w (λ s r le at there apart.
    let f = (fits s r id v at le).lock_word in
    let serves = b (let k = r.seen other w there in omega arith) in
    let before = epoch (let k = r.seen other w there in omega arith) in
    let q = (fits s r other w there le).door (λ e. omega arith) in
    let dated = f.dated in
    let q0 = q.0 in
    let q1 = q.1 in
    let knows = f.barrier (a (let k = r.seen id v at in omega arith)) (omega arith) in
    omega arith)

pub no_lost_wake_at_lock_word_joins : {fl : ℕ} (id other : ℕ) (v w : View) → (Timely v → LeftQuietly v) → (Timely w → SleepsAtLockWord w) → (Timely w → w.slept_in_take ≡ v.last_take) → Joins (Tickets fl) id v other w (meet v w) (initial_view 0)
no_lost_wake_at_lock_word_joins id other v w a b same_ = meet_joins id other v w (λ s r le at there apart.
    let quiet = (fits s r id v at le).lock_word.rests.lulls (a (let k = r.seen id v at in omega arith)) in
    let naps = (fits s r other w there le).lock_word.rests.sleeps_at_lock_word (b (let k = r.seen other w there in omega arith)) in
    let e : r.g.left_quietly w.slept_in_take ≡ r.g.left_quietly v.last_take = ap r.g.left_quietly (same_ (let k = r.seen other w there in omega arith)) in
    let none_ = naps.1 in
    omega arith)

pub none_left_at_reopening_joins : {fl : ℕ} (id other : ℕ) (v w : View) → (Timely w → IsWaitingOpen w) → (Timely w → w.drawn_in_epoch < v.epoch) → Joins (Tickets fl) id v other w (meet v w) (initial_view 0)
none_left_at_reopening_joins id other v w waits reopened = meet_joins id other v w (λ s r le at there apart.
    let q = waits (let k = r.seen other w there in omega arith) in
    let before = reopened (let k = r.seen other w there in omega arith) in
    let now = (fits s r other w there le).at_draw.open_then q.0 q.1 in
    let dated = (fits s r id v at le).lock_word.dated in
    omega arith)

pub drawn_while_open_joins : {fl : ℕ} (id other : ℕ) (v w : View) → (Timely v → ServedOpen v) → (Timely w → IsWaitingShut w) → (Timely w → w.drawn_in_epoch ≡ v.epoch) → Joins (Tickets fl) id v other w (meet v w) (initial_view 0)
drawn_while_open_joins id other v w served waits same_ = meet_joins id other v w (λ s r le at there apart.
    let one = served (let k = r.seen id v at in omega arith) in
    let q = waits (let k = r.seen other w there in omega arith) in
    let d = (fits s r id v at le).door (λ e. omega arith) in
    let d0 = d.0 in
    let z = (fits s r other w there le).at_draw.shut_then q.0 q.1 (same_ (let k = r.seen other w there in omega arith) ∙ d.1) in
    omega arith)

pub places_differ_joins : {fl : ℕ} (id other : ℕ) (v w : View) → (Timely v → HadPlaceOf v v) → (Timely w → HadPlaceOf v w) → Joins (Tickets fl) id v other w (meet v w) (initial_view 0)
places_differ_joins id other v w a b = meet_joins id other v w (λ s r le at there apart.
    let p = a (let k = r.seen id v at in omega arith) in
    let q = b (let k = r.seen other w there in omega arith) in
    let f = (fits s r id v at le).lock_word.turn_of p.0 in
    let h = (fits s r other w there le).lock_word.turn_of q.0 in
    let f2 = f.2 in
    let h2 = h.2 in
    let by_ = q.2 in
    let gap_ : r.g.newcomers_before w.heads_before ≡ r.g.newcomers_before v.heads_before = ap r.g.newcomers_before q.1 in
    let same_ : w.newcomer_number ≡ v.newcomer_number = omega arith in
    apart (sym h.1 ∙ ap r.who same_ ∙ f.1))

-- a view changes, and no word does
module _ {fl : ℕ} (s : State ℕ View) (r : Tickets fl s) (id : ℕ) (v : View) (at : get_elem? s.views id ≡ some v) (w : View) where
  viewed : w.most_open ≤ r.most_open → w.newcomers_seen ≤ r.g.newcomers → (r.most_open ≤ max_open → v.counted ≡ 0) → w.counted ≡ 0 → (r.most_open ≤ max_open → Fits fl r.drawn r.owner r.who r.g id w) → Tickets fl record { words = s.words; homes = s.homes; views = set s.views id w }
  viewed most begun none_before none_after fit = record {
    drawn = r.drawn;
    most_open = r.most_open;
    owner = r.owner;
    who = r.who;
    g = r.g;
    tail = r.tail;
    lock_word = r.lock_word;
    wide = r.wide;
    guard = r.guard;
    seen = each_after (λ j b. b.most_open ≤ r.most_open) s.views id w most (λ j b ne there. r.seen j b there);
    heard = each_after (λ j b. b.newcomers_seen ≤ r.g.newcomers) s.views id w begun (λ j b ne there. r.heard j b there);
    granted = λ le.
        let o = r.granted le in
        let all : (k : ℕ) → tally k (set s.views id w) ≡ tally k s.views = λ k. tally_none s id k v w at (none_before le) none_after in record {
          within = o.within;
          few = o.few;
          counts = o.counts;
          marks = o.marks;
          crowd = λ k. let e = all k in let q = o.crowd k in omega arith;
          cells = λ t. subst (λ z. Cell r.g z (slice_index s.words (cell_at t)) t) (sym (all (t % 4))) (o.cells t);
          idle = o.idle;
          each = each_after (Fits fl r.drawn r.owner r.who r.g) s.views id w (fit le) (λ j b ne there. o.each j b there);
        };
  }

-- what a caller has heard
pub tell_splits : {fl : ℕ} (id : ℕ) (v : View) → Splits (Tickets fl) id v v (told_of v)
tell_splits {fl} id v s r at = subst (λ (l : List View). Tickets fl record { words = s.words; homes = s.homes; views = l ++ told_of v ∷ [] }) (sym (set_again s.views id v at)) record {
  drawn = r.drawn;
  most_open = r.most_open;
  owner = r.owner;
  who = r.who;
  g = r.g;
  tail = r.tail;
  lock_word = r.lock_word;
  wide = r.wide;
  guard = r.guard;
  seen = λ j b there. ⊎_elim (λ t. r.seen j b t) (λ t. subst (λ (x : View). x.most_open ≤ r.most_open) t (r.seen id v at)) (at_snoc s.views (told_of v) b j there);
  heard = λ j b there. ⊎_elim (λ t. r.heard j b t) (λ t. subst (λ (x : View). x.newcomers_seen ≤ r.g.newcomers) t (r.heard id v at)) (at_snoc s.views (told_of v) b j there);
  granted = λ le.
      let o = r.granted le in
      let f = o.each id v at in
      let all : (c : ℕ) → tally c (s.views ++ told_of v ∷ []) ≡ tally c s.views = λ c. let e = tally_snoc c s.views (told_of v) in let z = none_of c (told_of v) refl in omega arith in record {
        within = o.within;
        few = o.few;
        counts = o.counts;
        marks = o.marks;
        crowd = λ c. let e = all c in let k = o.crowd c in omega arith;
        cells = λ t. subst (λ z. Cell r.g z (slice_index s.words (cell_at t)) t) (sym (all (t % 4))) (o.cells t);
        idle = o.idle;
        each = λ j b there. ⊎_elim (λ t. o.each j b t)
            (λ t. subst (Fits fl r.drawn r.owner r.who r.g j) t record { knows = f.knows; lowest = omega arith; mine = λ ne. absurd (ne refl); place = tt; told_nobody = λ e. absurd (omega arith); lock_word = record { turn_of = λ e. absurd (omega arith); occupant = λ e. absurd (omega arith); rests = record { takes_seen = f.lock_word.rests.takes_seen; held = λ e. absurd (omega arith); lulls = λ e. absurd (omega arith); sleeps_at_lock_word = λ e. absurd (omega arith) }; dated = f.lock_word.dated; barrier = f.lock_word.barrier }; door = λ ne. absurd (ne refl); tail_seen = record { probed = omega arith; next_is_at_turn = λ e. absurd (omega arith) }; at_draw = idle_at_draw r.drawn r.g (told_of v) (omega arith) refl }) (at_snoc s.views (told_of v) b j there);
      };
}

pub learn_joins : {fl : ℕ} (id other : ℕ) (v w : View) → (Timely v → IsIdle v) → (Timely w → IsIdle w) → Joins (Tickets fl) id v other w (learns v w) (initial_view 0)
learn_joins {fl} id other v w a b s r at apart at_other =
    let there : get_elem? s.views other ≡ some w = sym (set_else s.views id other (learns v w) apart) ∙ at_other in
    let sv = r.seen id v at in
    let sw = r.seen other w there in
    let hv = r.heard id v at in
    let hw = r.heard other w there in
    let one = viewed s r id v at (learns v w) (omega arith) (omega arith) (λ le. (a (omega arith)).1) refl (λ le. let f = fits s r id v at le in let h = fits s r other w there le in record { knows = let x = f.knows in let y = h.knows in omega arith; lowest = omega arith; mine = λ ne. absurd (ne refl); place = tt; told_nobody = f.told_nobody; lock_word = record { turn_of = f.lock_word.turn_of; occupant = λ e. absurd (omega arith); rests = record { takes_seen = let n = f.lock_word.rests.takes_seen in let m = h.lock_word.rests.takes_seen in omega arith; held = λ e. absurd (omega arith); lulls = f.lock_word.rests.lulls; sleeps_at_lock_word = f.lock_word.rests.sleeps_at_lock_word }; dated = f.lock_word.dated; barrier = f.lock_word.barrier }; door = λ ne. absurd (ne refl); tail_seen = f.tail_seen; at_draw = idle_at_draw r.drawn r.g (learns v w) f.at_draw.early refl }) in
    viewed record { words = s.words; homes = s.homes; views = set s.views id (learns v w) } one other w at_other (initial_view 0) (omega arith) (omega arith) (λ le. (b (let k = one.seen other w at_other in omega arith)).1) refl (λ le. record { knows = omega arith; lowest = omega arith; mine = λ ne. absurd (ne refl); place = tt; told_nobody = λ e. absurd (omega arith); lock_word = record { turn_of = λ e. absurd (omega arith); occupant = λ e. absurd (omega arith); rests = record { takes_seen = omega arith; held = λ e. absurd (omega arith); lulls = λ e. absurd (omega arith); sleeps_at_lock_word = λ e. absurd (omega arith) }; dated = omega arith; barrier = λ e. absurd (omega arith) }; door = λ ne. absurd (ne refl); tail_seen = record { probed = omega arith; next_is_at_turn = λ e. absurd (omega arith) }; at_draw = idle_at_draw one.drawn one.g (initial_view 0) (omega arith) refl })

-- What holds of a caller at its turn does not depend on which requests it knows to have ended.
place_learned : (fl : ℕ) (g : Ghost) (v : View) (ended most : ℕ) (p : Phase) → p ≢ Asleep → Place fl g v p → Place fl g (record v { ended = ended; counted = 0; most_open = most }) p
place_learned fl g v ended most Idle ne k = k
place_learned fl g v ended most Queued ne k = k
place_learned fl g v ended most Asleep ne k = absurd (ne refl)
place_learned fl g v ended most AtTurn ne k = k
place_learned fl g v ended most Passing ne k = k
place_learned fl g v ended most HeadInside ne k = k
place_learned fl g v ended most Impossible ne k = k

awake : (v : View) → HasTurn v → v.phase ≢ Asleep
awake v has sleeps = ⊎_elim (λ e. cc) (λ e. cc) has

-- a caller at its turn learns which requests have ended
pub learn_ended_joins : {fl : ℕ} (id other : ℕ) (v w : View) → (Timely v → HasTurnAwake v) → (Timely w → IsIdle w) → Joins (Tickets fl) id v other w (learns_ended v w) (initial_view 0)
learn_ended_joins {fl} id other v w a b s r at apart at_other =
    let there : get_elem? s.views other ≡ some w = sym (set_else s.views id other (learns_ended v w) apart) ∙ at_other in
    let sv = r.seen id v at in
    let sw = r.seen other w there in
    let one = viewed s r id v at (learns_ended v w) sv (r.heard id v at) (λ le. (a (omega arith)).1) refl (λ le. let f = fits s r id v at le in let h = fits s r other w there le in record { knows = let x = f.knows in let y = h.knows in omega arith; lowest = f.lowest; mine = f.mine; place = place_learned fl r.g v (max v.ended w.ended) v.most_open v.phase (awake v (a (omega arith)).0) f.place; told_nobody = f.told_nobody; lock_word = f.lock_word; door = f.door; tail_seen = f.tail_seen; at_draw = f.at_draw }) in
    viewed record { words = s.words; homes = s.homes; views = set s.views id (learns_ended v w) } one other w at_other (initial_view 0) (omega arith) (omega arith) (λ le. (b (let k = one.seen other w at_other in omega arith)).1) refl (λ le. record { knows = omega arith; lowest = omega arith; mine = λ ne. absurd (ne refl); place = tt; told_nobody = λ e. absurd (omega arith); lock_word = record { turn_of = λ e. absurd (omega arith); occupant = λ e. absurd (omega arith); rests = record { takes_seen = omega arith; held = λ e. absurd (omega arith); lulls = λ e. absurd (omega arith); sleeps_at_lock_word = λ e. absurd (omega arith) }; dated = omega arith; barrier = λ e. absurd (omega arith) }; door = λ ne. absurd (ne refl); tail_seen = record { probed = omega arith; next_is_at_turn = λ e. absurd (omega arith) }; at_draw = idle_at_draw one.drawn one.g (initial_view 0) (omega arith) refl })

-- the requests that the caller knows to have ended are before its own
pub order_tells : {fl : ℕ} (id slots : ℕ) (me : Me ℕ View) → (Timely me.0 → HasTurnAwake me.0) → Allows (Tickets fl) slots id me 0 (λ n. n) (tells_order (step slots 0 0 0 none) me)
order_tells {fl} id slots me has s r sized at low =
    let v : View = me.0 in
    let k = r.seen id v at in
    let w : View = record v { most_open = r.most_open; counted = 0 } in (
      w,
      keeps,
      tt,
      unchanged s r id v at 0 (slice_index s.words 0) (omega arith) refl w refl (r.heard id v at) (λ le. (has (omega arith)).1) (λ _. refl) (λ le. let f = fits s r id v at le in record { knows = f.knows; lowest = f.lowest; mine = f.mine; place = place_learned fl r.g v v.ended r.most_open v.phase (awake v (has (omega arith)).0) f.place; told_nobody = f.told_nobody; lock_word = f.lock_word; door = f.door; tail_seen = f.tail_seen; at_draw = f.at_draw }),
      (refl, refl, k, (λ timely. let f = fits s r id v at timely in let t = turn_of_place fl r.g v (has (omega arith)).0 f.place in let x = f.knows in omega arith)),
    )
