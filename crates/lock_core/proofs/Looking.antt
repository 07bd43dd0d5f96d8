-- Proofs about the steps of a waiter on its cell. The waiter reads the cell, adds itself to the cell's count of
-- sleepers, or subtracts itself again.
use Rattle.std.proofs.Common.{◌≡◌, ◌≢◌, ℕ, ◌+◌, ◌-◌, ◌*◌, ◌/◌, ◌%◌, ◌<◌, ◌≤◌, set, slice_index, sym, refl, ap, ◌∙◌, subst, arith, length-set, get_or-set_other, ⊎_elim, inl, inr, eqb, eq-eqb, ne_eqb}
use mathlib.Core.Logic.{dite}
use mathlib.Core.Option.{none, some}
use native.Mathlib.Decide.{ℕ_discrete}
use lib.ListN.{get_elem?}
use prog.Atomic.{either}
use Rattle.atomic_table.specs.Table.{State, Act, step, keeps, Valid, stepped, carried_after, Allows, Me}
use Rattle.lock_core.specs.declared.view.View.{View}
use Rattle.lock_core.specs.declared.view.Phase.{Phase}
use Rattle.lock_core.specs.declared.view.Phase.TheVariants.{Idle, Queued, Asleep, AtTurn}
use Rattle.lock_core.specs.Layout.{cell_at, rounds, rounds_of, count_of, to_go}
use Rattle.lock_core.specs.Views.{max_open, Timely, Awaits, IsQueued, IsAsleep}
use Rattle.lock_core.specs.Invariant.{tally, share, Waiter, Place, Fits, Cell, Tickets}
use Rattle.lock_core.specs.Steps.{finds, same, looks, announces_sleep}
use Rattle.lock_core.proofs.Base.{each_after, cells_after, Recounted, recount, tally_else, tally_here, known, heard, fits, place_of, door_on, at_draw_on, in_bounds}
use Rattle.lock_core.proofs.Tally.{share_here, tally_has}

-- The seat's view and the count in its cell change, and nothing else does.
module _ {fl : ℕ} (s : State ℕ View) (r : Tickets fl s) (id : ℕ) (v : View) (at : get_elem? s.views id ≡ some v) (i x ticket most c d : ℕ) (is : i ≡ cell_at ticket) (more : r.most_open ≡ most) where
  abbrev was : ℕ
  was = slice_index s.words i

  record Counts : Type 0 where
    mine : ticket ≡ v.ticket % 18446744073709551616
    before : v.counted ≡ c
    word : Recounted was x c d
    room : tally (v.ticket % 4) s.views + d ≤ 65535 + c

  recounted : (w : View) → w.most_open ≡ most → w.newcomers_seen ≤ r.g.newcomers → (most ≤ max_open → Counts) → (most ≤ max_open → w.ticket ≡ v.ticket) → (most ≤ max_open → w.counted ≡ d) → (most ≤ max_open → Fits fl r.drawn r.owner r.who r.g id w)
      → Tickets fl record { words = set s.words i x; homes = s.homes; views = set s.views id w }
  recounted w is_most begun counts number after fit = record {
    drawn = r.drawn;
    most_open = most;
    owner = r.owner;
    who = r.who;
    g = r.g;
    tail = get_or-set_other s.words i 16 x 0 (λ e. omega arith) ∙ r.tail;
    lock_word = get_or-set_other s.words i 0 x 0 (λ e. omega arith) ∙ r.lock_word;
    wide = length-set s.words i x ∙ r.wide;
    guard = λ one. let k = r.guard one in ((let m = k.0 in omega arith), k.1);
    seen = each_after (λ j b. b.most_open ≤ most) s.views id w (omega arith) (λ j b ne there. let k = r.seen j b there in omega arith);
    heard = each_after (λ j b. b.newcomers_seen ≤ r.g.newcomers) s.views id w begun (λ j b ne there. r.heard j b there);
    granted = λ le.
        let o = r.granted (omega arith) in
        let k = counts le in
        let n : w.ticket ≡ v.ticket = number le in
        let a : w.counted ≡ d = after le in
        let z = k.before in
        let here : (t : ℕ) → t % 4 ≡ v.ticket % 4 → tally (t % 4) (set s.views id w) + c ≡ tally (t % 4) s.views + d = λ t e. let q = tally_here s id (t % 4) v w at (sym e) (omega arith) in omega arith in
        let else : (t : ℕ) → t ≢ v.ticket % 4 → tally t (set s.views id w) ≡ tally t s.views = λ t ne. tally_else s id t v w at (λ e. ne (sym e)) (λ e. ne (omega arith)) in record {
          within = o.within;
          few = let f = o.few in omega arith;
          counts = o.counts;
          marks = o.marks;
          crowd = λ t. dite (ℕ_discrete t (v.ticket % 4))
              (λ e. let q = tally_here s id t v w at (sym e) (omega arith) in let m = k.room in let y : tally t s.views ≡ tally (v.ticket % 4) s.views = ap (λ z'. tally z' s.views) e in omega arith)
              (λ ne. let q = else t ne in let m = o.crowd t in omega arith);
          cells = cells_after s.words i x v.ticket (λ z' t. Cell r.g (tally (t % 4) (set s.views id w)) z' t) (let l = r.wide in omega arith) (let m = k.mine in omega arith)
              (λ t e. recount r.g (tally (t % 4) s.views) (tally (t % 4) (set s.views id w)) c d was x t (here t e) k.word (subst (λ z'. Cell r.g (tally (t % 4) s.views) z' t) (ap (slice_index s.words) (let m = k.mine in omega arith)) (o.cells t)))
              (λ t ne. subst (λ z'. Cell r.g z' (slice_index s.words (cell_at t)) t) (sym (else (t % 4) ne)) (o.cells t));
          idle = o.idle;
          each = each_after (Fits fl r.drawn r.owner r.who r.g) s.views id w (fit le) (λ j b ne there. o.each j b there);
        };
  }

-- A waiter looks at its cell, and its count becomes d.
module _ {fl : ℕ} (s : State ℕ View) (r : Tickets fl s) (id slots i x ticket most c d : ℕ) (p : Phase) (me : Me ℕ View) (same_newcomers : me.0.max_newcomers ≡ fl) (at : get_elem? s.views id ≡ some me.0) (is : i ≡ cell_at ticket) (more : r.most_open ≡ most) where
  abbrev v : View
  v = me.0

  abbrev found : ℕ
  found = slice_index s.words i

  record Waiting : Type 0 where
    counts : Counts s r id v at i x ticket most c d is more
    busy : v.phase ≢ Idle
    away : v.phase ≢ AtTurn
    awaits : Awaits v.phase
    waits : Waiter fl r.g v

  waited : (most ≤ max_open → Waiting) → ((w : View) → w.phase ≡ p → Waiter fl r.g w → w.counted ≡ d → r.g.nobody_asleep w.ticket ≡ 0 → Place fl r.g w w.phase)
      → (w : View) × (a : Act ℕ) × Valid s.homes me.1 a × Tickets fl (stepped s i x id me.1 w a) × (same me (w, carried_after me.1 a) × (Timely w → finds d p d v found w))
  waited waits placed = dite (ℕ_discrete go 0) granted waiting
    where
      go : ℕ
      go = to_go found v.ticket

      Goal : Type 0
      Goal = (w : View) × (a : Act ℕ) × Valid s.homes me.1 a × Tickets fl (stepped s i x id me.1 w a) × (same me (w, carried_after me.1 a) × (Timely w → finds d p d v found w))

      open_fits : (le : most ≤ max_open) → (r.g.turn ≤ v.ticket) × (v.ticket < r.drawn) × (r.owner v.ticket ≡ id)
      open_fits le = (fits s r id v at (omega arith)).mine (waits le).busy

      cell : (le : most ≤ max_open) → Cell r.g (tally (v.ticket % 4) s.views) found v.ticket
      cell le = subst (λ z. Cell r.g (tally (v.ticket % 4) s.views) z v.ticket) (ap (slice_index s.words) (let m = (waits le).counts.mine in omega arith)) ((r.granted (omega arith)).cells v.ticket)

      -- the rounds to go, if the lock is timely
      going : (le : most ≤ max_open) → rounds r.g.turn v.ticket + go ≡ v.ticket / 4 + 1
      going le =
          let m = open_fits le in
          let a = m.0 in
          let b = m.1 in
          let e = (r.granted (omega arith)).few in
          let h = (cell le).high in
          omega arith

      granted : go ≡ 0 → Goal
      granted is_granted =
          let w : View = record v { most_open = most; ended = v.ticket; phase = AtTurn; counted = d; newcomers_seen = r.g.newcomers; nobody_behind = 0 } in
          let turn : (le : most ≤ max_open) → v.ticket ≡ r.g.turn = λ le. let e = going le in let a = (open_fits le).0 in omega arith in (
            w,
            keeps,
            tt,
            recounted s r id v at i x ticket most c d is more w refl (let k = heard s r id v at in omega arith) (λ le. (waits le).counts) (λ le. refl) (λ le. refl) (λ le.
                let f = fits s r id v at (omega arith) in
                let q = (waits le).waits in
                let t = turn le in
                let calm = q.at_turn t in
                let k = cell le in record {
                  knows = omega arith;
                  lowest = f.lowest;
                  mine = λ _. open_fits le;
                  place = (record { turn = t; mark = q.unmarked; overtaking = q.overtaking }, calm);
                  told_nobody = f.told_nobody;
                  lock_word = f.lock_word;
                  door = door_on r.g v v.phase AtTurn (waits le).away f.door;
                  tail_seen = f.tail_seen;
                  at_draw = at_draw_on r.drawn r.g v v.phase AtTurn (waits le).busy (λ w. absurd (⊎_elim (λ e. cc) (λ e. cc) w)) f.at_draw;
                }),
            (
              ((refl, refl, (let k = known s r id v at in omega arith), (let k = heard s r id v at in omega arith)), ((refl, refl, refl), refl, (refl, refl), (refl, refl), (refl, refl), (λ _. refl))),
              (λ timely. (refl, refl, refl, (λ _. (refl, refl, refl, (let q = (waits timely).waits in let t = turn timely in let o = q.overtaking.came in let e : fl * (r.g.turn + r.g.head_inside) ≡ fl * v.ticket = ap (λ z. fl * z) (let c0 = q.at_turn t in omega arith) in let k = q.overtaking.overtaken in in_bounds fl v.max_newcomers r.g.newcomers v.newcomers_at_draw v.ticket v.first_pending r.g.since_head (v.ticket + 1 - v.first_pending) same_newcomers (let c0 = q.at_turn t in omega arith) (omega arith) (r.granted (omega arith)).counts.bounded))), (λ some_. absurd (omega arith)))),
            ),
          )

      waiting : go ≢ 0 → Goal
      waiting ne =
          let w : View = record v { most_open = most; rounds_seen = v.ticket / 4 + 1 - go; phase = p; counted = d; nobody_behind = 0 } in (
            w,
            keeps,
            tt,
            recounted s r id v at i x ticket most c d is more w refl (let k = heard s r id v at in omega arith) (λ le. (waits le).counts) (λ le. refl) (λ le. refl) (λ le.
                let f = fits s r id v at (omega arith) in
                let q = (waits le).waits in
                let e = going le in record {
                  knows = f.knows;
                  lowest = omega arith;
                  mine = λ _. open_fits le;
                  place = placed w refl record { unmarked = q.unmarked; overtaking = q.overtaking; at_turn = q.at_turn } refl ((r.granted (omega arith)).marks.unheard v.ticket (let a = (open_fits le).0 in omega arith));
                  told_nobody = f.told_nobody;
                  lock_word = f.lock_word;
                  door = door_on r.g v v.phase p (waits le).away f.door;
                  tail_seen = f.tail_seen;
                  at_draw = at_draw_on r.drawn r.g v v.phase p (waits le).busy (λ _. (waits le).awaits) f.at_draw;
                }),
            (((refl, refl, (let k = known s r id v at in omega arith), (let k = heard s r id v at in omega arith)), ((refl, refl, refl), refl, (refl, refl), (refl, refl), (refl, refl), (λ _. refl))), (λ timely. (refl, refl, refl, (λ is_. absurd (ne is_)), (λ _. (refl, refl, omega arith))))),
          )

pub look_allowed : {fl : ℕ} (id slots i ticket : ℕ) (me : Me ℕ View) → me.0.max_newcomers ≡ fl → i ≡ cell_at ticket → (Timely me.0 → IsQueued ticket me.0) → Allows (Tickets fl) slots id me i (λ n. n) (looks (step slots i 0 0 none) me)
look_allowed {fl} id slots i ticket me same_newcomers is waits s r sized at low = waited s r id slots i (slice_index s.words i) ticket r.most_open 0 0 Queued me same_newcomers at is (omega arith)
    (λ le. let q = waits (let k = known s r id me.0 at in omega arith) in record {
      counts = record { mine = q.1; before = q.2; word = record { rounds = refl; mask = refl; count = refl }; room = let k = (r.granted le).crowd (me.0.ticket % 4) in omega arith };
      busy = λ e. let z = q.0 in cc;
      away = λ e. let z = q.0 in cc;
      awaits = inl q.0;
      waits = place_of s r id me.0 at le Queued q.0;
    })
    (λ w e k a h. subst (Place fl r.g w) (sym e) k)

pub announce_sleep_allowed : {fl : ℕ} (id slots i ticket old new : ℕ) (me : Me ℕ View) → me.0.max_newcomers ≡ fl → i ≡ cell_at ticket → count_of old < 65535 → new ≡ (old + 65536) % 18446744073709551616 → (Timely me.0 → IsQueued ticket me.0)
    → Allows (Tickets fl) slots id me i (λ n. either (eqb n old) new n) (announces_sleep (step slots i old new none) me)
announce_sleep_allowed {fl} id slots i ticket old new me same_newcomers is few new_is waits s r sized at low = dite (ℕ_discrete found_ old) counted_ looked
  where
    found_ : ℕ
    found_ = slice_index s.words i

    x : ℕ
    x = either (eqb found_ old) new found_

    Goal : Type 0
    Goal = (w : View) × (a : Act ℕ) × Valid s.homes me.1 a × Tickets fl (stepped s i x id me.1 w a) × announces_sleep (step slots i old new none) me found_ (w, carried_after me.1 a)

    counted_ : found_ ≡ old → Goal
    counted_ e =
        let x_is : x ≡ new = ap (λ b. either b new found_) (eq-eqb found_ old e) in
        let q = waited s r id slots i x ticket r.most_open 0 1 Asleep me same_newcomers at is (omega arith)
        (λ le. let q = waits (let k = known s r id me.0 at in omega arith) in
        let o = r.granted le in
        let mine = q.1 in
        let k = (o.cells me.0.ticket).count in
        let same_ : slice_index s.words (cell_at me.0.ticket) ≡ found_ = ap (slice_index s.words) (omega arith) in record {
          counts = record { mine = q.1; before = q.2; word = record { rounds = omega arith; mask = omega arith; count = omega arith }; room = omega arith };
          busy = λ e. let z = q.0 in cc;
          away = λ e. let z = q.0 in cc;
          awaits = inl q.0;
          waits = place_of s r id me.0 at le Queued q.0;
        })
        (λ w e k a h. subst (Place fl r.g w) (sym e) (k, a, h)) in (q.0, q.1, q.2, q.3, (q.4.0, (λ timely. ((λ _. q.4.1 timely), (λ ne. absurd (ne e))))))

    looked : found_ ≢ old → Goal
    looked ne =
        let x_is : x ≡ found_ = ap (λ b. either b new found_) (ne_eqb found_ old ne) in
        let q = waited s r id slots i x ticket r.most_open 0 0 Queued me same_newcomers at is (omega arith)
        (λ le. let q = waits (let k = known s r id me.0 at in omega arith) in record {
          counts = record { mine = q.1; before = q.2; word = record { rounds = ap rounds_of x_is; mask = ap (λ z. z % 65536) x_is; count = ap (λ z. count_of z + 0) x_is }; room = let k = (r.granted le).crowd (me.0.ticket % 4) in omega arith };
          busy = λ e. let z = q.0 in cc;
          away = λ e. let z = q.0 in cc;
          awaits = inl q.0;
          waits = place_of s r id me.0 at le Queued q.0;
        })
        (λ w e k a h. subst (Place fl r.g w) (sym e) k) in (q.0, q.1, q.2, q.3, (q.4.0, (λ timely. ((λ is_. absurd (ne is_)), (λ _. q.4.1 timely)))))

pub retract_sleep_allowed : {fl : ℕ} (id slots i ticket : ℕ) (me : Me ℕ View) → me.0.max_newcomers ≡ fl → i ≡ cell_at ticket → (Timely me.0 → IsAsleep ticket me.0)
    → Allows (Tickets fl) slots id me i (λ n. (n + 18446744073709486080) % 18446744073709551616) (looks (step slots i 65536 0 none) me)
retract_sleep_allowed {fl} id slots i ticket me same_newcomers is sleeps s r sized at low = waited s r id slots i ((slice_index s.words i + 18446744073709486080) % 18446744073709551616) ticket r.most_open 1 0 Queued me same_newcomers at is (omega arith)
    (λ le. let q = sleeps (let k = known s r id me.0 at in omega arith) in
    let o = r.granted le in
    let mine = q.1 in
    let k = (o.cells me.0.ticket).count in
    let one = q.2 in
    let own : share (me.0.ticket % 4) me.0 ≡ me.0.counted = share_here (me.0.ticket % 4) me.0 refl in
    let some_ = tally_has (me.0.ticket % 4) s.views id me.0 at in
    let same_ : slice_index s.words (cell_at me.0.ticket) ≡ slice_index s.words i = ap (slice_index s.words) (omega arith) in
    let room : 0 < count_of (slice_index s.words i) = omega arith in record {
      counts = record { mine = q.1; before = q.2; word = record { rounds = omega arith; mask = omega arith; count = omega arith }; room = let c = o.crowd (me.0.ticket % 4) in omega arith };
      busy = λ e. let z = q.0 in cc;
      away = λ e. let z = q.0 in cc;
      awaits = inr q.0;
      waits = (place_of s r id me.0 at le Asleep q.0).0;
    })
    (λ w e k a h. subst (Place fl r.g w) (sym e) k)
