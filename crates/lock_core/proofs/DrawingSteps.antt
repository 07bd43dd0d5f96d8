-- Proofs about the steps with which a caller draws a ticket, either unconditionally or under a condition.
use Rattle.std.proofs.Common.{◌≡◌, ◌/◌, ◌≢◌, ℕ, ◌+◌, ◌*◌, ◌%◌, ◌<◌, ◌≤◌, max, length, set, slice_index, sym, refl, ap, ◌∙◌, subst, arith, length-set, get_or-set_same, get_or-set_other, eqb, eq-eqb, ne_eqb, ◌-◌, ⊎_elim}
use mathlib.Core.Logic.{dite}
use mathlib.Core.Option.{none, some}
use native.Mathlib.Decide.{ℕ_discrete, dec_le}
use prog.Atomic.{either}
use lib.ListN.{get_elem?}
use Rattle.atomic_table.specs.Table.{State, Act, step, keeps, Valid, stepped, carried_after, Allows, Me}
use Rattle.lock_core.specs.declared.view.View.{View}
use Rattle.lock_core.specs.declared.view.Phase.TheVariants.{Idle, Queued, AtTurn}
use Rattle.lock_core.specs.Layout.{cell_at, rounds, to_go, shut_of}
use Rattle.lock_core.specs.Views.{max_open, Timely, IsIdle}
use Rattle.lock_core.specs.Invariant.{tally, Cell, Fits, Tickets}
use Rattle.lock_core.specs.Steps.{draws, reads, reads_cell, draws_granted, draws_near}
use Rattle.lock_core.proofs.Base.{put, put_here, put_else, each_after, cells_same, tally_none, known, heard, fits, door_on, place_told, place_stamped, idle_at_draw, turn_of_place, busy_of, unchanged}

-- The seat draws the next ticket. Its view is then w, and the load is `most`.
module _ {fl : ℕ} (s : State ℕ View) (r : Tickets fl s) (id : ℕ) (v : View) (at : get_elem? s.views id ≡ some v) (x most : ℕ) (w : View) where
  abbrev stamp : ℕ → ℕ
  stamp = put r.g.drawn_open r.drawn (1 - shut_of r.g.lock_word)

  ticket_taken : (length s.homes ≡ 1 → (most ≤ max_open) × (r.drawn + 1 ≤ 9223372036854775808)) → x ≡ (slice_index s.words 16 + 1) % 18446744073709551616 → r.most_open ≤ most → w.most_open ≡ most → w.newcomers_seen ≤ r.g.newcomers → (most ≤ max_open → r.drawn + 1 ≤ r.g.turn + most) → (most ≤ max_open → IsIdle v) → w.counted ≡ 0
      → (most ≤ max_open → Fits fl (r.drawn + 1) (put r.owner r.drawn id) r.who (record r.g { drawn_open = stamp }) id w) → Tickets fl record { words = set s.words 16 x; homes = s.homes; views = set s.views id w }
  ticket_taken safe x_is more is_most begun few idle none_counted fit = record {
    drawn = r.drawn + 1;
    most_open = most;
    owner = put r.owner r.drawn id;
    who = r.who;
    g = record r.g { drawn_open = stamp };
    tail = get_or-set_same s.words 16 x 0 (let k = r.wide in omega arith) ∙ (let k = r.tail in omega arith);
    lock_word = get_or-set_other s.words 16 0 x 0 (λ e. omega arith) ∙ r.lock_word;
    wide = length-set s.words 16 x ∙ r.wide;
    guard = safe;
    seen = each_after (λ j b. b.most_open ≤ most) s.views id w (omega arith) (λ j b ne there. let k = r.seen j b there in omega arith);
    heard = each_after (λ j b. b.newcomers_seen ≤ r.g.newcomers) s.views id w begun (λ j b ne there. r.heard j b there);
    granted = λ le.
        let o = r.granted (omega arith) in
        let all : (c : ℕ) → tally c (set s.views id w) ≡ tally c s.views = λ c. tally_none s id c v w at (idle le).1 none_counted in record {
          within = let k = o.within in omega arith;
          few = few le;
          counts = o.counts;
          marks = record { far = o.marks.far; future = λ t a. o.marks.future t (omega arith); unheard = o.marks.unheard };
          crowd = λ c. let e = all c in let k = o.crowd c in omega arith;
          cells = cells_same s.words 16 x (λ z t. Cell r.g (tally (t % 4) (set s.views id w)) z t) (omega arith) (λ t. subst (λ z. Cell r.g z (slice_index s.words (cell_at t)) t) (sym (all (t % 4))) (o.cells t));
          idle = λ e. absurd (let k = o.within in omega arith);
          each = each_after (Fits fl (r.drawn + 1) (put r.owner r.drawn id) r.who (record r.g { drawn_open = stamp })) s.views id w (fit le) (λ j b ne there. let f = o.each j b there in record {
            knows = f.knows;
            lowest = f.lowest;
            mine = λ busy. let k = f.mine busy in (k.0, (let m = k.1 in omega arith), put_else r.owner r.drawn id b.ticket (let m = k.1 in λ e. omega arith) ∙ k.2);
            place = place_stamped fl r.g stamp b b.phase f.place;
            told_nobody = f.told_nobody;
            lock_word = f.lock_word;
            door = f.door;
            tail_seen = record { probed = let k = f.tail_seen.probed in omega arith; next_is_at_turn = λ one e. absurd (let k = f.tail_seen.probed in omega arith) };
            at_draw = record {
              stamped = λ busy. f.at_draw.stamped busy ∙ sym (put_else r.g.drawn_open r.drawn (1 - shut_of r.g.lock_word) b.ticket (let m = (f.mine busy).1 in λ e. omega arith));
              early = f.at_draw.early;
              open_then = f.at_draw.open_then;
              shut_then = f.at_draw.shut_then;
              nobody_behind = λ one two t low high. dite (ℕ_discrete t r.drawn) (λ e. put_here r.g.drawn_open r.drawn (1 - shut_of r.g.lock_word) t e ∙ (let d = (f.door (λ z. omega arith)).0 in omega arith)) (λ ne. put_else r.g.drawn_open r.drawn (1 - shut_of r.g.lock_word) t ne ∙ f.at_draw.nobody_behind one two t low (omega arith));
            };
          });
        };
  }

pub draw_allowed : {fl : ℕ} (id slots : ℕ) (me : Me ℕ View) → slots ≡ 0 → (Timely me.0 → IsIdle me.0) → Allows (Tickets fl) slots id me 16 (λ n. (n + 1) % 18446744073709551616) (draws (step slots 16 1 0 none) me)
draw_allowed {fl} id slots me no_slot fresh s r sized at low = (
  w,
  keeps,
  tt,
  ticket_taken s r id v at x new_load w (λ one. absurd (omega arith)) refl more.0 refl (omega arith) (λ le. let m = more.0 in let f = more.1 in let k = (r.granted (omega arith)).few in omega arith) idle refl (λ le.
      let m = more.0 in
      let o = r.granted (omega arith) in
      let f = o.each id v at in record {
        knows = f.knows;
        lowest = omega arith;
        mine = λ _. (o.within, omega arith, put_here r.owner r.drawn id r.drawn refl);
        place = record { unmarked = o.marks.future r.drawn (omega arith); overtaking = record { came = omega arith; overtaken = omega arith }; at_turn = λ e. o.idle (omega arith) };
        told_nobody = f.told_nobody;
        lock_word = f.lock_word;
        door = door_on r.g v v.phase Queued (λ e. let z = (idle le).0 in cc) f.door;
        tail_seen = record { probed = let k = f.tail_seen.probed in omega arith; next_is_at_turn = λ one e. absurd (let k = f.tail_seen.probed in omega arith) };
        at_draw = record { stamped = λ _. sym (put_here r.g.drawn_open r.drawn (1 - shut_of r.g.lock_word) r.drawn refl); early = omega arith; open_then = λ _ _. refl; shut_then = λ _ n _. (let z : shut_of r.g.lock_word < 2 = omega arith in dite (ℕ_discrete (shut_of r.g.lock_word) 1) (λ e. e) (λ ne. absurd (n (omega arith)))); nobody_behind = λ e. absurd (omega arith) };
      }),
  (((refl, refl, (let k = known s r id v at in let m = more.0 in omega arith), heard s r id v at), ((refl, refl, refl), refl, (refl, refl), (refl, refl), (refl, refl), (λ _. refl))), (λ timely. ((refl, r.tail, refl), ((let k = (fits s r id v at (let m = more.0 in omega arith)).knows in omega arith), first_low timely, heard s r id v at, refl, (fits s r id v at (let m = more.0 in omega arith)).lock_word.dated)))),
)
  where
    v : View
    v = me.0

    x : ℕ
    x = (slice_index s.words 16 + 1) % 18446744073709551616

    new_most : (m : ℕ) × ((r.most_open ≤ m) × (r.drawn ≤ r.g.turn + r.most_open → r.drawn + 1 ≤ r.g.turn + m))
    new_most = dite (dec_le (r.drawn + 1) (r.g.turn + r.most_open)) (λ le. (r.most_open, (omega arith, λ _. le))) (λ gt. (r.most_open + 1, (omega arith, λ h. omega arith)))

    new_load : ℕ
    new_load = new_most.0

    more : (r.most_open ≤ new_load) × (r.drawn ≤ r.g.turn + r.most_open → r.drawn + 1 ≤ r.g.turn + new_load)
    more = new_most.1

    idle : new_load ≤ max_open → IsIdle v
    idle le = fresh (let k = known s r id v at in let m = more.0 in omega arith)

    w : View
    w = record v { most_open = new_load; rounds_seen = 0; ticket = r.drawn; phase = Queued; counted = 0; newcomers_at_draw = r.g.newcomers; first_pending = r.g.turn + r.g.head_inside; newcomers_seen = r.g.newcomers; drawn_open = 1 - shut_of r.g.lock_word; drawn_in_epoch = r.g.epoch; nobody_behind = 0 }

    -- the tickets whose callers are done with the lock word
    first_low : new_load ≤ max_open → r.g.turn + r.g.head_inside ≤ r.drawn
    first_low le =
        let m = more.0 in
        let o = r.granted (omega arith) in
        let w = o.within in
        let one = o.counts.single in
        dite (dec_le r.drawn r.g.turn) (λ low. let z = o.idle low in omega arith) (λ high. omega arith)

-- a step of a caller that tries for a ticket; it changes no word
module _ {fl : ℕ} (s : State ℕ View) (r : Tickets fl s) (id : ℕ) (v : View) (at : get_elem? s.views id ≡ some v) (i x : ℕ) (low : i < 21) (x_is : x ≡ slice_index s.words i) (number floor probe ripe : ℕ) where
  abbrev probing : View
  probing = record v { most_open = r.most_open; rounds_seen = floor; ticket = number; phase = Idle; counted = 0; tail_seen = probe; next_is_at_turn = ripe; nobody_behind = 0 }

  probed : (r.most_open ≤ max_open → IsIdle v) → (r.most_open ≤ max_open → floor ≤ rounds r.g.turn number) → (r.most_open ≤ max_open → (probe ≤ r.drawn) × (ripe ≡ 1 → r.drawn ≡ probe → r.g.turn ≡ r.drawn)) → Tickets fl record { words = set s.words i x; homes = s.homes; views = set s.views id probing }
  probed idle low_ fact = unchanged s r id v at i x low x_is probing refl (heard s r id v at) (λ le. (idle le).1) (λ _. refl) (λ le. let f = fits s r id v at le in record {
    knows = f.knows;
    lowest = low_ le;
    mine = λ busy. absurd (busy refl);
    place = tt;
    told_nobody = f.told_nobody;
    lock_word = f.lock_word;
    door = door_on r.g v v.phase Idle (λ e. let z = (idle le).0 in cc) f.door;
    tail_seen = record { probed = (fact le).0; next_is_at_turn = (fact le).1 };
    at_draw = idle_at_draw r.drawn r.g probing f.at_draw.early refl;
  })

pub read_tail_allowed : {fl : ℕ} (id slots : ℕ) (me : Me ℕ View) → (Timely me.0 → me.0.counted ≡ 0) → Allows (Tickets fl) slots id me 16 (λ n. n) (reads (step slots 16 0 0 none) me)
read_tail_allowed {fl} id slots me none_counted s r sized at low =
    let v : View = me.0 in
    let alone : ℕ = either (eqb r.drawn (v.ticket + 1)) 1 0 in
    let w : View = record v { most_open = r.most_open; tail_seen = r.drawn; next_is_at_turn = 0; nobody_behind = alone } in
    let none_ : r.most_open ≤ max_open → v.counted ≡ 0 = λ le. none_counted (let k = known s r id v at in omega arith) in (
      w,
      keeps,
      tt,
      unchanged s r id v at 16 (slice_index s.words 16) (omega arith) refl w refl (heard s r id v at) none_ none_ (λ le. let f = fits s r id v at le in record {
        knows = f.knows;
        lowest = f.lowest;
        mine = f.mine;
        place = place_told fl r.g v r.most_open v.door v.knows_shut v.epoch v.takes_seen v.slept_in_take v.sleeps_at_lock_word r.drawn 0 alone v.phase f.place;
        told_nobody = f.told_nobody;
        lock_word = f.lock_word;
        door = f.door;
        tail_seen = record { probed = omega arith; next_is_at_turn = λ e. absurd (omega arith) };
        at_draw = record { stamped = f.at_draw.stamped; early = f.at_draw.early; open_then = f.at_draw.open_then; shut_then = f.at_draw.shut_then; nobody_behind = λ one two t a b. dite (ℕ_discrete r.drawn (v.ticket + 1)) (λ e. absurd (omega arith)) (λ ne. absurd (let z : alone ≡ 0 = ap (λ q. either q 1 0) (ne_eqb r.drawn (v.ticket + 1) ne) in omega arith)) };
      }),
      (
        ((refl, refl, known s r id v at, (omega arith)), ((refl, refl, refl), refl, (refl, refl), (refl, refl), (refl, refl), (λ _. refl))),
        (refl, refl, refl, refl, refl, refl, refl, (refl, refl, refl), (refl, refl)),
        refl,
        (λ timely. (
          r.tail,
          (λ turn.
              let f = fits s r id v at timely in
              let t = turn_of_place fl r.g v turn f.place in
              let m = (f.mine (busy_of v turn)).1 in
              let k = (r.granted timely).few in λ is. ap (λ q. either q 1 0) (eq-eqb r.drawn (v.ticket + 1) (let tail = r.tail in omega arith))),
        )),
      ),
    )

pub read_cell_allowed : {fl : ℕ} (id slots i ticket : ℕ) (me : Me ℕ View) → i ≡ cell_at ticket → (Timely me.0 → IsIdle me.0 × (ticket ≡ me.0.tail_seen % 18446744073709551616)) → Allows (Tickets fl) slots id me i (λ n. n) (reads_cell (step slots i 0 0 none) me)
read_cell_allowed {fl} id slots i ticket me is has s r sized at low = dite (ℕ_discrete (to_go found v.tail_seen) 0) (λ e. ripened 1 (λ _. refl) (λ pos. absurd (omega arith)) (λ le _ same_. turn le e same_)) (λ ne. ripened 0 (λ e. absurd (ne e)) (λ _. refl) (λ le one. absurd (omega arith)))
  where
    v : View
    v = me.0

    found : ℕ
    found = slice_index s.words i

    had : (le : r.most_open ≤ max_open) → IsIdle v × (ticket ≡ v.tail_seen % 18446744073709551616)
    had le = has (let k = known s r id v at in omega arith)

    turn : (le : r.most_open ≤ max_open) → to_go found v.tail_seen ≡ 0 → r.drawn ≡ v.tail_seen → r.g.turn ≡ r.drawn
    turn le zero_ same_ =
        let o = r.granted le in
        let m = (had le).1 in
        let here : slice_index s.words (cell_at v.tail_seen) ≡ found = ap (slice_index s.words) (omega arith) in
        let h = (subst (λ z. Cell r.g (tally (v.tail_seen % 4) s.views) z v.tail_seen) here (o.cells v.tail_seen)).high in
        let w = o.within in
        let k = o.few in
        omega arith

    reach : (le : r.most_open ≤ max_open) → v.tail_seen / 4 + 1 ≤ rounds r.g.turn v.tail_seen + to_go found v.tail_seen
    reach le =
        let o = r.granted le in
        let m = (had le).1 in
        let p = (fits s r id v at le).tail_seen.probed in
        let here : slice_index s.words (cell_at v.tail_seen) ≡ found = ap (slice_index s.words) (omega arith) in
        let h = (subst (λ z. Cell r.g (tally (v.tail_seen % 4) s.views) z v.tail_seen) here (o.cells v.tail_seen)).high in
        let w = o.within in
        let k = o.few in
        omega arith

    ripened : (ripe : ℕ) → (to_go found v.tail_seen ≡ 0 → ripe ≡ 1) → (0 < to_go found v.tail_seen → ripe ≡ 0) → ((le : r.most_open ≤ max_open) → ripe ≡ 1 → r.drawn ≡ v.tail_seen → r.g.turn ≡ r.drawn)
        → (w : View) × (a : Act ℕ) × Valid s.homes me.1 a × Tickets fl (stepped s i found id me.1 w a) × reads_cell (step slots i 0 0 none) me found (w, carried_after me.1 a)
    ripened ripe tells tells_not fact = (
      probing s r id v at i found (omega arith) refl v.tail_seen (rounds r.g.turn v.tail_seen) v.tail_seen ripe,
      keeps,
      tt,
      probed s r id v at i found (omega arith) refl v.tail_seen (rounds r.g.turn v.tail_seen) v.tail_seen ripe (λ le. (had le).0) (λ le. omega arith) (λ le. ((fits s r id v at le).tail_seen.probed, fact le)),
      (((refl, refl, known s r id v at, (omega arith)), ((refl, refl, refl), refl, (refl, refl), (refl, refl), (refl, refl), (λ _. refl))), (λ timely. ((refl, refl), refl, tells, tells_not, refl, reach timely, refl))),
    )

pub try_draw_allowed : {fl : ℕ} (id slots old new : ℕ) (me : Me ℕ View) → slots ≡ 0 → new ≡ (old + 1) % 18446744073709551616 → (Timely me.0 → IsIdle me.0 × (old ≡ me.0.tail_seen % 18446744073709551616) × (me.0.next_is_at_turn ≡ 1)) → Allows (Tickets fl) slots id me 16 (λ n. either (eqb n old) new n) (draws_granted (step slots 16 old new none) me)
try_draw_allowed {fl} id slots old new me no_slot new_is has s r sized at low = dite (ℕ_discrete tail old) (λ is. dite (ℕ_discrete r.drawn v.tail_seen) (wins is) (wraps is)) stays
  where
    v : View
    v = me.0

    tail : ℕ
    tail = slice_index s.words 16

    x : ℕ
    x = either (eqb tail old) new tail

    had : (le : r.most_open ≤ max_open) → IsIdle v × (old ≡ v.tail_seen % 18446744073709551616) × (v.next_is_at_turn ≡ 1)
    had le = has (let k = known s r id v at in omega arith)

    x_is : tail ≡ old → x ≡ (tail + 1) % 18446744073709551616
    x_is is = ap (λ b. either b new tail) (eq-eqb tail old is) ∙ new_is ∙ ap (λ z. (z + 1) % 18446744073709551616) (sym is)

    Goal : Type 0
    Goal = (w : View) × (a : Act ℕ) × Valid s.homes me.1 a × Tickets fl (stepped s 16 x id me.1 w a) × draws_granted (step slots 16 old new none) me tail (w, carried_after me.1 a)

    -- the next ticket is at its turn
    wins : tail ≡ old → r.drawn ≡ v.tail_seen → Goal
    wins is same_ =
        let most : ℕ = max r.most_open 1 in
        let w : View = record v { most_open = most; ended = r.drawn; rounds_seen = 0; ticket = r.drawn; phase = AtTurn; counted = 0; newcomers_at_draw = r.g.newcomers; first_pending = r.drawn; newcomers_seen = r.g.newcomers; drawn_open = 1 - shut_of r.g.lock_word; drawn_in_epoch = r.g.epoch; nobody_behind = 0 } in (
          w,
          keeps,
          tt,
          ticket_taken s r id v at x most w (λ one. absurd (omega arith)) (x_is is) (omega arith) refl (omega arith) (λ le. let t = (fits s r id v at (omega arith)).tail_seen.next_is_at_turn (had (omega arith)).2 same_ in omega arith) (λ le. (had (omega arith)).0) refl (λ le.
              let o = r.granted (omega arith) in
              let f = o.each id v at in
              let t = f.tail_seen.next_is_at_turn (had (omega arith)).2 same_ in
              let z = o.idle (omega arith) in record {
                knows = omega arith;
                lowest = omega arith;
                mine = λ _. (omega arith, omega arith, put_here r.owner r.drawn id r.drawn refl);
                place = (record { turn = sym t; mark = o.marks.future r.drawn (omega arith); overtaking = record { came = omega arith; overtaken = let e : fl * r.g.turn ≡ fl * r.drawn = ap (λ q. fl * q) t in omega arith } }, z);
                told_nobody = f.told_nobody;
                lock_word = f.lock_word;
                door = door_on r.g v v.phase AtTurn (λ e. let y = (had (omega arith)).0.0 in cc) f.door;
                tail_seen = record { probed = let k = f.tail_seen.probed in omega arith; next_is_at_turn = λ one e. absurd (let k = f.tail_seen.probed in omega arith) };
                at_draw = record { stamped = λ _. sym (put_here r.g.drawn_open r.drawn (1 - shut_of r.g.lock_word) r.drawn refl); early = omega arith; open_then = λ w. absurd (⊎_elim (λ e. cc) (λ e. cc) w); shut_then = λ w. absurd (⊎_elim (λ e. cc) (λ e. cc) w); nobody_behind = λ e. absurd (omega arith) };
              }),
          (((refl, refl, (let k = known s r id v at in omega arith), heard s r id v at), ((refl, refl, refl), refl, (refl, refl), (refl, refl), (refl, refl), (λ _. refl))), (λ timely. ((λ _. ((refl, r.tail, refl, refl), ((let k = (fits s r id v at (omega arith)).knows in let q = (r.granted (omega arith)).within in omega arith), (omega arith), heard s r id v at, refl, (fits s r id v at (omega arith)).lock_word.dated))), (λ ne. absurd (ne is))))),
        )

    -- 2 ^ 64 tickets were drawn since, and the tail has the same value again
    wraps : tail ≡ old → r.drawn ≢ v.tail_seen → Goal
    wraps is other =
        let most : ℕ = r.most_open + 1073741824 in
        let w : View = record v { most_open = most; counted = 0 } in (
          w,
          keeps,
          tt,
          ticket_taken s r id v at x most w (λ one. absurd (omega arith)) (x_is is) (omega arith) refl (let k = heard s r id v at in omega arith) (λ le. absurd (omega arith)) (λ le. absurd (omega arith)) refl (λ le. absurd (omega arith)),
          (((refl, refl, (let k = known s r id v at in omega arith), (omega arith)), ((refl, refl, refl), refl, (refl, refl), (refl, refl), (refl, refl), (λ _. refl))), (λ timely. absurd (omega arith))),
        )

    stays : tail ≢ old → Goal
    stays ne = (
      probing s r id v at 16 x (omega arith) (ap (λ b. either b new tail) (ne_eqb tail old ne)) v.ticket 0 v.tail_seen v.next_is_at_turn,
      keeps,
      tt,
      probed s r id v at 16 x (omega arith) (ap (λ b. either b new tail) (ne_eqb tail old ne)) v.ticket 0 v.tail_seen v.next_is_at_turn (λ le. (had le).0) (λ le. omega arith) (λ le. let f = fits s r id v at le in (f.tail_seen.probed, f.tail_seen.next_is_at_turn)),
      (((refl, refl, known s r id v at, (omega arith)), ((refl, refl, refl), refl, (refl, refl), (refl, refl), (refl, refl), (λ _. refl))), (λ timely. ((λ is. absurd (ne is)), (λ _. ((refl, refl), refl))))),
    )

-- few requests are open before the ticket that the caller is about to draw
abbrev pub IsFew : ℕ → View → Type 0
IsFew old v = (old < 9223372036854775808) × (v.ticket / 4 + 1 ≤ v.rounds_seen + 134217728)

-- the caller draws the next ticket if that is the one that it read; then it waits, or is at its turn
pub draw_near_allowed : {fl : ℕ} (id slots old new : ℕ) (me : Me ℕ View) → (slots ≡ 1 → IsFew old me.0) → new ≡ (old + 1) % 18446744073709551616 → (Timely me.0 → IsIdle me.0 × (old ≡ me.0.tail_seen % 18446744073709551616) × (me.0.ticket ≡ me.0.tail_seen)) → Allows (Tickets fl) slots id me 16 (λ n. either (eqb n old) new n) (draws_near (step slots 16 old new none) me)
draw_near_allowed {fl} id slots old new me few_ new_is has s r sized at low = dite (ℕ_discrete tail old) (λ is. dite (ℕ_discrete r.drawn v.tail_seen) (λ same_. dite (ℕ_discrete v.next_is_at_turn 1) (wins is same_) (queues is same_)) (wraps is)) stays
  where
    v : View
    v = me.0

    tail : ℕ
    tail = slice_index s.words 16

    x : ℕ
    x = either (eqb tail old) new tail

    had : (le : r.most_open ≤ max_open) → IsIdle v × (old ≡ v.tail_seen % 18446744073709551616) × (v.ticket ≡ v.tail_seen)
    had le = has (let k = known s r id v at in omega arith)

    x_is : tail ≡ old → x ≡ (tail + 1) % 18446744073709551616
    x_is is = ap (λ b. either b new tail) (eq-eqb tail old is) ∙ new_is ∙ ap (λ z. (z + 1) % 18446744073709551616) (sym is)

    lowest_ : r.drawn ≡ v.tail_seen → (le : r.most_open ≤ max_open) → v.rounds_seen ≤ rounds r.g.turn r.drawn
    lowest_ same_ le = subst (λ z. v.rounds_seen ≤ rounds r.g.turn z) ((had le).2 ∙ sym same_) (fits s r id v at le).lowest

    -- at a table with a slot the tail has not wrapped around
    old_is : length s.homes ≡ 1 → tail ≡ old → r.drawn + 1 ≤ 9223372036854775808
    old_is one is = let k = (r.guard one).1 in let f = (few_ (sym sized ∙ one)).0 in let t = r.tail in omega arith

    never_wraps : length s.homes ≡ 1 → tail ≡ old → r.drawn ≢ v.tail_seen → ⊥
    never_wraps one is other =
        let g = r.guard one in
        let le : r.most_open ≤ max_open = g.0 in
        let k = g.1 in
        let e = (had le).1 in
        let p = (fits s r id v at le).tail_seen.probed in
        let t = r.tail in
        other (omega arith)

    -- few requests are open, so one more is within `max_open`
    few_open : length s.homes ≡ 1 → tail ≡ old → r.drawn ≡ v.tail_seen → r.drawn ≤ r.g.turn + 536870912
    few_open one is same_ =
        let le : r.most_open ≤ max_open = (r.guard one).0 in
        let low_ = lowest_ same_ le in
        let n = (had le).2 in
        let f = (few_ (sym sized ∙ one)).1 in
        omega arith

    Goal : Type 0
    Goal = (w : View) × (a : Act ℕ) × Valid s.homes me.1 a × Tickets fl (stepped s 16 x id me.1 w a) × draws_near (step slots 16 old new none) me tail (w, carried_after me.1 a)

    -- the next ticket is at its turn
    wins : tail ≡ old → r.drawn ≡ v.tail_seen → v.next_is_at_turn ≡ 1 → Goal
    wins is same_ ripe =
        let most : ℕ = max r.most_open 1 in
        let w : View = record v { most_open = most; ended = r.drawn; ticket = r.drawn; phase = AtTurn; counted = 0; newcomers_at_draw = r.g.newcomers; first_pending = r.drawn; newcomers_seen = r.g.newcomers; drawn_open = 1 - shut_of r.g.lock_word; drawn_in_epoch = r.g.epoch; nobody_behind = 0 } in (
          w,
          keeps,
          tt,
          ticket_taken s r id v at x most w (λ one. let k = r.guard one in ((let m = k.0 in omega arith), old_is one is)) (x_is is) (omega arith) refl (omega arith) (λ le. let t = (fits s r id v at (omega arith)).tail_seen.next_is_at_turn ripe same_ in omega arith) (λ le. (had (omega arith)).0) refl (λ le.
              let o = r.granted (omega arith) in
              let f = o.each id v at in
              let t = f.tail_seen.next_is_at_turn ripe same_ in
              let z = o.idle (omega arith) in record {
                knows = omega arith;
                lowest = lowest_ same_ (omega arith);
                mine = λ _. (omega arith, omega arith, put_here r.owner r.drawn id r.drawn refl);
                place = (record { turn = sym t; mark = o.marks.future r.drawn (omega arith); overtaking = record { came = omega arith; overtaken = let e : fl * r.g.turn ≡ fl * r.drawn = ap (λ q. fl * q) t in omega arith } }, z);
                told_nobody = f.told_nobody;
                lock_word = f.lock_word;
                door = door_on r.g v v.phase AtTurn (λ e. let y = (had (omega arith)).0.0 in cc) f.door;
                tail_seen = record { probed = let k = f.tail_seen.probed in omega arith; next_is_at_turn = λ one e. absurd (let k = f.tail_seen.probed in omega arith) };
                at_draw = record { stamped = λ _. sym (put_here r.g.drawn_open r.drawn (1 - shut_of r.g.lock_word) r.drawn refl); early = omega arith; open_then = λ w. absurd (⊎_elim (λ e. cc) (λ e. cc) w); shut_then = λ w. absurd (⊎_elim (λ e. cc) (λ e. cc) w); nobody_behind = λ e. absurd (omega arith) };
              }),
          (
            ((refl, refl, (let k = known s r id v at in omega arith), heard s r id v at), ((refl, refl, refl), refl, (refl, refl), (refl, refl), (refl, refl), (λ _. refl))),
            (λ timely. (
              (λ _. (r.tail, same_, refl, refl, ((let k = (fits s r id v at (omega arith)).knows in let q = (r.granted (omega arith)).within in omega arith), (omega arith), heard s r id v at, refl, (fits s r id v at (omega arith)).lock_word.dated), (λ _. (refl, refl)), (λ none_. absurd (omega arith)))),
              (λ ne. absurd (ne is)),
            )),
          ),
        )

    -- the caller waits
    queues : tail ≡ old → r.drawn ≡ v.tail_seen → v.next_is_at_turn ≢ 1 → Goal
    queues is same_ unripe =
        let new_most : (m : ℕ) × ((r.most_open ≤ m) × (r.drawn ≤ r.g.turn + r.most_open → r.drawn + 1 ≤ r.g.turn + m) × (r.most_open ≤ max_open → r.drawn ≤ r.g.turn + 536870912 → m ≤ max_open)) = dite (dec_le (r.drawn + 1) (r.g.turn + r.most_open)) (λ le. (r.most_open, (omega arith, (λ _. le), (λ timely few. timely)))) (λ gt. (r.most_open + 1, (omega arith, (λ h. omega arith), (λ timely few. omega arith)))) in
        let most : ℕ = new_most.0 in
        let more : (r.most_open ≤ most) × (r.drawn ≤ r.g.turn + r.most_open → r.drawn + 1 ≤ r.g.turn + most) = (new_most.1.0, new_most.1.1) in
        let w : View = record v { most_open = most; ticket = r.drawn; phase = Queued; counted = 0; newcomers_at_draw = r.g.newcomers; first_pending = r.g.turn + r.g.head_inside; newcomers_seen = r.g.newcomers; drawn_open = 1 - shut_of r.g.lock_word; drawn_in_epoch = r.g.epoch; nobody_behind = 0 } in (
          w,
          keeps,
          tt,
          ticket_taken s r id v at x most w (λ one. (new_most.1.2 (r.guard one).0 (few_open one is same_), old_is one is)) (x_is is) more.0 refl (omega arith) (λ le. let m = more.0 in let f = more.1 in let k = (r.granted (omega arith)).few in omega arith) (λ le. (had (let m = more.0 in omega arith)).0) refl (λ le.
              let m = more.0 in
              let o = r.granted (omega arith) in
              let f = o.each id v at in record {
                knows = f.knows;
                lowest = lowest_ same_ (omega arith);
                mine = λ _. (o.within, omega arith, put_here r.owner r.drawn id r.drawn refl);
                place = record { unmarked = o.marks.future r.drawn (omega arith); overtaking = record { came = omega arith; overtaken = omega arith }; at_turn = λ e. o.idle (omega arith) };
                told_nobody = f.told_nobody;
                lock_word = f.lock_word;
                door = door_on r.g v v.phase Queued (λ e. let z = (had (omega arith)).0.0 in cc) f.door;
                tail_seen = record { probed = let k = f.tail_seen.probed in omega arith; next_is_at_turn = λ one e. absurd (let k = f.tail_seen.probed in omega arith) };
                at_draw = record { stamped = λ _. sym (put_here r.g.drawn_open r.drawn (1 - shut_of r.g.lock_word) r.drawn refl); early = omega arith; open_then = λ _ _. refl; shut_then = λ _ n _. (let z : shut_of r.g.lock_word < 2 = omega arith in dite (ℕ_discrete (shut_of r.g.lock_word) 1) (λ e. e) (λ ne. absurd (n (omega arith)))); nobody_behind = λ e. absurd (omega arith) };
              }),
          (
            ((refl, refl, (let k = known s r id v at in let m = more.0 in omega arith), heard s r id v at), ((refl, refl, refl), refl, (refl, refl), (refl, refl), (refl, refl), (λ _. refl))),
            (λ timely. (
              (λ _. let m = more.0 in let le : r.most_open ≤ max_open = omega arith in let f = fits s r id v at le in (r.tail, same_, refl, refl, ((let k = f.knows in omega arith), done_low le, heard s r id v at, refl, f.lock_word.dated), (λ one. absurd (unripe one)), (λ _. refl))),
              (λ ne. absurd (ne is)),
            )),
          ),
        )
      where
        -- the tickets whose callers are done with the lock word
        done_low : r.most_open ≤ max_open → r.g.turn + r.g.head_inside ≤ r.drawn
        done_low le =
            let o = r.granted le in
            let w = o.within in
            let one = o.counts.single in
            dite (dec_le r.drawn r.g.turn) (λ low. let z = o.idle low in omega arith) (λ high. omega arith)

    -- 2 ^ 64 tickets were drawn since, and the tail has the same value again
    wraps : tail ≡ old → r.drawn ≢ v.tail_seen → Goal
    wraps is other =
        let most : ℕ = r.most_open + 1073741824 in
        let w : View = record v { most_open = most; counted = 0 } in (
          w,
          keeps,
          tt,
          ticket_taken s r id v at x most w (λ one. absurd (never_wraps one is other)) (x_is is) (omega arith) refl (let k = heard s r id v at in omega arith) (λ le. absurd (omega arith)) (λ le. absurd (omega arith)) refl (λ le. absurd (omega arith)),
          (((refl, refl, (let k = known s r id v at in omega arith), (omega arith)), ((refl, refl, refl), refl, (refl, refl), (refl, refl), (refl, refl), (λ _. refl))), (λ timely. absurd (omega arith))),
        )

    stays : tail ≢ old → Goal
    stays ne = (
      probing s r id v at 16 x (omega arith) (ap (λ b. either b new tail) (ne_eqb tail old ne)) v.ticket 0 v.tail_seen v.next_is_at_turn,
      keeps,
      tt,
      probed s r id v at 16 x (omega arith) (ap (λ b. either b new tail) (ne_eqb tail old ne)) v.ticket 0 v.tail_seen v.next_is_at_turn (λ le. (had le).0) (λ le. omega arith) (λ le. let f = fits s r id v at le in (f.tail_seen.probed, f.tail_seen.next_is_at_turn)),
      (((refl, refl, known s r id v at, (omega arith)), ((refl, refl, refl), refl, (refl, refl), (refl, refl), (refl, refl), (λ _. refl))), (λ timely. ((λ is. absurd (ne is)), (λ _. ((refl, refl), refl))))),
    )
