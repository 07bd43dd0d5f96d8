-- Proofs about the two steps on the mark of a withdrawn request. A waiter sets the mark when it withdraws, and the
-- caller that later has the turn of this request clears the mark.
use Rattle.std.proofs.Common.{◌*◌, ◌-◌, ◌≡◌, ◌≢◌, ℕ, ◌+◌, ◌-◌, ◌/◌, ◌%◌, ◌^◌, ◌<◌, ◌≤◌, set, slice_index, sym, refl, ap, ◌∙◌, subst, arith, length-set, get_or-set_other, bit_or, ⊎_elim}
use Rattle.std.specs.Prelude.{bit_xor}
use Rattle.std.specs.Int.{bit_at}
use mathlib.Core.Logic.{dite}
use mathlib.Core.Option.{none, some}
use native.Mathlib.Decide.{ℕ_discrete}
use lib.ListN.{get_elem?}
use Rattle.atomic_table.specs.Table.{State, Act, step, keeps, Valid, stepped, carried_after, Allows, Me}
use Rattle.lock_core.specs.declared.view.View.{View}
use Rattle.lock_core.specs.declared.view.Phase.{Phase}
use Rattle.lock_core.specs.declared.view.Phase.TheVariants.{Idle, Queued, Asleep, AtTurn, Passing, HeadInside, Impossible}
use Rattle.lock_core.specs.Layout.{cell_at, bit_of, rounds, rounds_of}
use Rattle.lock_core.specs.Views.{max_open, Timely, IsQueuedWithin, IsPassing}
use Rattle.lock_core.specs.Invariant.{tally, Ghost, Waiter, Holder, Place, Fits, Cell, Tickets}
use Rattle.lock_core.specs.Steps.{sets_withdrawn, clears_withdrawn}
use Rattle.lock_core.proofs.Base.{put, put_here, put_else, each_after, cells_after, tally_none, known, heard, fits, place_of, other, door_on, idle_at_draw, at_draw_on, in_bounds}
use Rattle.lock_core.proofs.Words.{or_high, xor_high, or_same, or_other, xor_same, xor_other, or_is_sum, xor_is_less}

abbrev remark : Ghost → ℕ → ℕ → Ghost
remark g n y = record g { withdrawn = put g.withdrawn n y }

module _ (fl : ℕ) (g : Ghost) (n y : ℕ) (b : View) where
  waiter : b.ticket ≢ n → Waiter fl g b → Waiter fl (remark g n y) b
  waiter ne k = record { unmarked = put_else g.withdrawn n y b.ticket ne ∙ k.unmarked; overtaking = k.overtaking; at_turn = k.at_turn }

  holder : (m : ℕ) → b.ticket ≢ n → Holder fl g b m → Holder fl (remark g n y) b m
  holder m ne k = record { turn = k.turn; mark = put_else g.withdrawn n y b.ticket ne ∙ k.mark; overtaking = k.overtaking }

  elsewhere : (p : Phase) → (p ≢ Idle → b.ticket ≢ n) → Place fl g b p → Place fl (remark g n y) b p
  elsewhere Idle ne k = tt
  elsewhere Queued ne k = waiter (ne (λ e. cc)) k
  elsewhere Asleep ne k = (waiter (ne (λ e. cc)) k.0, k.1, k.2)
  elsewhere AtTurn ne k = (holder 0 (ne (λ e. cc)) k.0, k.1)
  elsewhere Passing ne k = (holder 1 (ne (λ e. cc)) k.0, k.1)
  elsewhere HeadInside ne k = (holder 0 (ne (λ e. cc)) k.0, k.1)
  elsewhere Impossible ne k = k

-- The mark of the seat's open request becomes y: the word of its cell, the marks and the view change.
module _ {fl : ℕ} (s : State ℕ View) (r : Tickets fl s) (id : ℕ) (v : View) (at : get_elem? s.views id ≡ some v) (i ticket new y : ℕ) (is : i ≡ cell_at ticket) where
  abbrev was : ℕ
  was = slice_index s.words i

  -- how the word changes, if the lock is timely
  record Flips : Type 0 where
    busy : v.phase ≢ Idle
    none_counted : v.counted ≡ 0
    mine : ticket ≡ v.ticket % 18446744073709551616
    near : v.ticket / 4 < rounds r.g.turn v.ticket + 15
    high : new / 65536 ≡ was / 65536
    own_bit : bit_at new (bit_of v.ticket) ≡ y
    other_bit : (k : ℕ) → k ≢ bit_of v.ticket → bit_at new k ≡ bit_at was k

  flipped : (w : View) → w.most_open ≡ r.most_open → w.newcomers_seen ≤ r.g.newcomers → w.counted ≡ 0 → (r.most_open ≤ max_open → Flips) → (r.most_open ≤ max_open → Fits fl r.drawn r.owner r.who (remark r.g v.ticket y) id w)
      → Tickets fl record { words = set s.words i new; homes = s.homes; views = set s.views id w }
  flipped w same_most begun none_counted_ flips fit = record {
    drawn = r.drawn;
    most_open = r.most_open;
    owner = r.owner;
    who = r.who;
    g = g;
    tail = get_or-set_other s.words i 16 new 0 (λ e. omega arith) ∙ r.tail;
    lock_word = get_or-set_other s.words i 0 new 0 (λ e. omega arith) ∙ r.lock_word;
    wide = length-set s.words i new ∙ r.wide;
    guard = r.guard;
    seen = each_after (λ j b. b.most_open ≤ r.most_open) s.views id w (omega arith) (λ j b ne there. r.seen j b there);
    heard = each_after (λ j b. b.newcomers_seen ≤ r.g.newcomers) s.views id w begun (λ j b ne there. r.heard j b there);
    granted = λ le.
        let o = r.granted le in
        let c = flips le in
        let m = (fits s r id v at le).mine c.busy in
        let a = m.0 in
        let z = m.1 in
        let n = c.near in
        let mine = c.mine in
        let all : (k : ℕ) → tally k (set s.views id w) ≡ tally k s.views = λ k. tally_none s id k v w at c.none_counted none_counted_ in record {
          within = o.within;
          few = o.few;
          counts = o.counts;
          marks = record { far = λ t beyond. put_else r.g.withdrawn v.ticket y t (λ tu. let k : rounds r.g.turn t ≡ rounds r.g.turn v.ticket = ap (rounds r.g.turn) tu in let l : t / 4 ≡ v.ticket / 4 = ap (λ q. q / 4) tu in omega arith) ∙ o.marks.far t beyond; future = λ t later. put_else r.g.withdrawn v.ticket y t (λ tu. omega arith) ∙ o.marks.future t later; unheard = o.marks.unheard };
          crowd = λ k. let e = all k in let q = o.crowd k in omega arith;
          cells = cells_after s.words i new v.ticket (λ q t. Cell g (tally (t % 4) (set s.views id w)) q t) (let k = r.wide in omega arith) (omega arith)
              (λ t e.
              let k = subst (λ q. Cell r.g (tally (t % 4) s.views) q t) (ap (slice_index s.words) (omega arith)) (o.cells t) in
              let h = c.high in record {
                high = (omega arith) ∙ k.high;
                bits = λ from near. dite (ℕ_discrete (bit_of t) (bit_of v.ticket))
                    (λ eq. let tu : t ≡ v.ticket = omega arith in ap (bit_at new) eq ∙ c.own_bit ∙ sym (put_here r.g.withdrawn v.ticket y t tu))
                    (λ ne. c.other_bit (bit_of t) ne ∙ k.bits from near ∙ sym (put_else r.g.withdrawn v.ticket y t (λ tu. ne (ap bit_of tu))));
                spare = λ just apart. let ne : bit_of t ≢ bit_of v.ticket = λ eq. apart (omega arith) in c.other_bit (bit_of t) ne ∙ k.spare just apart;
                count = (omega arith) ∙ k.count ∙ sym (all (t % 4));
              })
              (λ t ne. let k = o.cells t in record {
                high = k.high;
                bits = λ from near. k.bits from near ∙ sym (put_else r.g.withdrawn v.ticket y t (λ tu. ne (ap (λ q. q % 4) tu)));
                spare = k.spare;
                count = k.count ∙ sym (all (t % 4));
              });
          idle = λ e. absurd (omega arith);
          each = each_after (Fits fl r.drawn r.owner r.who g) s.views id w (fit le) (λ j b ne there. let f = o.each j b there in record {
            knows = f.knows;
            lowest = f.lowest;
            mine = f.mine;
            place = elsewhere fl r.g v.ticket y b b.phase (λ busy. other s r id v at le j b ne c.busy busy there) f.place;
            told_nobody = f.told_nobody;
            lock_word = f.lock_word;
            door = f.door;
            tail_seen = f.tail_seen;
            at_draw = f.at_draw;
          });
        };
  }
    where
      g : Ghost
      g = remark r.g v.ticket y

pub withdraw_allowed : {fl : ℕ} (id slots i ticket k x : ℕ) (me : Me ℕ View) → me.0.max_newcomers ≡ fl → i ≡ cell_at ticket → x ≡ 2 ^ bit_of ticket → k ≤ 15 → (Timely me.0 → IsQueuedWithin k ticket me.0)
    → Allows (Tickets fl) slots id me i (λ n. (n + x) % 18446744073709551616) (sets_withdrawn (step slots i x 0 none) me)
withdraw_allowed {fl} id slots i ticket k x me same_newcomers is mask near waits s r sized at low = dite (ℕ_discrete (rounds_of found) ((v.ticket / 4 + 1) % 1073741824)) granted withdrawn
  where
    v : View
    v = me.0

    found : ℕ
    found = slice_index s.words i

    queued : (le : r.most_open ≤ max_open) → IsQueuedWithin k ticket v
    queued le = waits (let k = known s r id v at in omega arith)

    open_fits : (le : r.most_open ≤ max_open) → (r.g.turn ≤ v.ticket) × (v.ticket < r.drawn) × (r.owner v.ticket ≡ id)
    open_fits le = (fits s r id v at le).mine (λ e. let p = (queued le).0.0 in cc)

    placed : (le : r.most_open ≤ max_open) → Waiter fl r.g v
    placed le = place_of s r id v at le Queued (queued le).0.0

    -- the request's cell, if the lock is timely
    cell : (le : r.most_open ≤ max_open) → Cell r.g (tally (v.ticket % 4) s.views) found v.ticket
    cell le = subst (λ z. Cell r.g (tally (v.ticket % 4) s.views) z v.ticket) (ap (slice_index s.words) (let m = (queued le).0.1 in omega arith)) ((r.granted le).cells v.ticket)

    flips : (le : r.most_open ≤ max_open) → Flips s r id v at i ticket ((found + x) % 18446744073709551616) 1 is
    flips le =
        let q = (queued le).0.1 in
        let p = (queued le).0.0 in
        let f = (fits s r id v at le).lowest in
        let g = (queued le).1 in
        let bit : bit_of ticket ≡ bit_of v.ticket = omega arith in
        let near_ : v.ticket / 4 < rounds r.g.turn v.ticket + 15 = omega arith in
        let off : bit_at found (bit_of v.ticket) ≡ 0 = (cell le).bits (open_fits le).0 near_ ∙ (placed le).unmarked in
        let new : (found + x) % 18446744073709551616 ≡ bit_or found (2 ^ bit_of v.ticket) = ap (λ z. (found + z) % 18446744073709551616) (mask ∙ ap (λ b. 2 ^ b) bit) ∙ or_is_sum found (bit_of v.ticket) (omega arith) low off in record {
          busy = λ e. cc;
          none_counted = (queued le).0.2;
          mine = q;
          near = omega arith;
          high = ap (λ z. z / 65536) new ∙ or_high found (bit_of v.ticket) (omega arith);
          own_bit = ap (λ z. bit_at z (bit_of v.ticket)) new ∙ or_same found (bit_of v.ticket);
          other_bit = λ j ne. ap (λ z. bit_at z j) new ∙ or_other found (bit_of v.ticket) j ne;
        }

    -- a request that was granted before was overtaken within the bound
    overtaken : (le : r.most_open ≤ max_open) → rounds_of found ≡ (v.ticket / 4 + 1) % 1073741824 → r.g.newcomers ≤ v.newcomers_at_draw + v.max_newcomers * (v.ticket + 1 - v.first_pending)
    overtaken le is_ =
        let m = open_fits le in
        let a = m.0 in
        let b = m.1 in
        let c = (r.granted le).few in
        let h = (cell le).high in
        let turn : v.ticket ≡ r.g.turn = omega arith in
        let q = placed le in
        let o = q.overtaking.came in
        let c0 = q.at_turn turn in
        let e : fl * (r.g.turn + r.g.head_inside) ≡ fl * v.ticket = ap (λ z. fl * z) (omega arith) in
        let k = q.overtaking.overtaken in
        in_bounds fl v.max_newcomers r.g.newcomers v.newcomers_at_draw v.ticket v.first_pending r.g.since_head (v.ticket + 1 - v.first_pending) same_newcomers (omega arith) (omega arith) (r.granted le).counts.bounded

    Goal : Type 0
    Goal = (w : View) × (a : Act ℕ) × Valid s.homes me.1 a × Tickets fl (stepped s i ((found + x) % 18446744073709551616) id me.1 w a) × sets_withdrawn (step slots i x 0 none) me found (w, carried_after me.1 a)

    granted : rounds_of found ≡ (v.ticket / 4 + 1) % 1073741824 → Goal
    granted is_ =
        let w : View = record v { most_open = r.most_open; ended = 0; rounds_seen = 0; phase = Passing; counted = 0; newcomers_seen = r.g.newcomers; nobody_behind = 0 } in (
          w,
          keeps,
          tt,
          flipped s r id v at i ticket ((found + x) % 18446744073709551616) 1 is w refl (let k = heard s r id v at in omega arith) refl flips (λ le.
              let m = open_fits le in
              let a = m.0 in
              let b = m.1 in
              let c = (r.granted le).few in
              let h = (cell le).high in
              let turn : v.ticket ≡ r.g.turn = omega arith in
              let now = (placed le).at_turn turn in
              let k = cell le in record {
                knows = omega arith;
                lowest = omega arith;
                mine = λ _. m;
                place = (record { turn = turn; mark = put_here r.g.withdrawn v.ticket 1 v.ticket refl; overtaking = (placed le).overtaking }, now);
                told_nobody = (fits s r id v at le).told_nobody;
                lock_word = (fits s r id v at le).lock_word;
                door = door_on r.g v v.phase Passing (λ e. let z = (queued le).0.0 in cc) (fits s r id v at le).door;
                tail_seen = (fits s r id v at le).tail_seen;
                at_draw = at_draw_on r.drawn r.g v v.phase Passing (λ e. let z = (queued le).0.0 in cc) (λ w. absurd (⊎_elim (λ e. cc) (λ e. cc) w)) (fits s r id v at le).at_draw;
              }),
          (((refl, refl, known s r id v at, (let k = heard s r id v at in omega arith)), ((refl, refl, refl), refl, (refl, refl), (refl, refl), (refl, refl), (λ _. refl))), (λ timely. (refl, refl, (λ _. (refl, (refl, refl, refl), overtaken timely is_)), (λ ne. absurd (ne is_))))),
        )

    withdrawn : rounds_of found ≢ (v.ticket / 4 + 1) % 1073741824 → Goal
    withdrawn ne =
        let w : View = record v { most_open = r.most_open; rounds_seen = 0; phase = Idle; counted = 0; newcomers_at_draw = 0; first_pending = 0; nobody_behind = 0 } in (
          w,
          keeps,
          tt,
          flipped s r id v at i ticket ((found + x) % 18446744073709551616) 1 is w refl (let k = heard s r id v at in omega arith) refl flips (λ le. let f = fits s r id v at le in record { knows = f.knows; lowest = omega arith; mine = λ busy. absurd (busy refl); place = tt; told_nobody = f.told_nobody; lock_word = f.lock_word; door = door_on r.g v v.phase Idle (λ e. let z = (queued le).0.0 in cc) f.door; tail_seen = f.tail_seen; at_draw = idle_at_draw r.drawn r.g w f.at_draw.early refl }),
          (((refl, refl, known s r id v at, (let k = heard s r id v at in omega arith)), ((refl, refl, refl), refl, (refl, refl), (refl, refl), (refl, refl), (λ _. refl))), (λ timely. (refl, refl, (λ is_. absurd (ne is_)), (λ _. refl)))),
        )

pub clear_allowed : {fl : ℕ} (id slots i ticket x : ℕ) (me : Me ℕ View) → i ≡ cell_at ticket → x ≡ 2 ^ bit_of ticket → (Timely me.0 → IsPassing ticket me.0)
    → Allows (Tickets fl) slots id me i (λ n. (n + (18446744073709551616 - x)) % 18446744073709551616) (clears_withdrawn (step slots i x 0 none) me)
clear_allowed {fl} id slots i ticket x me is mask passes s r sized at low =
    let w : View = record v { most_open = r.most_open; ended = v.ticket; rounds_seen = 0; phase = AtTurn; counted = 0; nobody_behind = 0 } in (
      w,
      keeps,
      tt,
      flipped s r id v at i ticket ((found + (18446744073709551616 - x)) % 18446744073709551616) 0 is w refl (let k = heard s r id v at in omega arith) refl flips (λ le.
          let p = passing le in
          let k = placed le in
          let f = fits s r id v at le in
          let now = k.1 in record {
            knows = let t = k.0.turn in omega arith;
            lowest = omega arith;
            mine = λ _. f.mine (λ e. let z = p.0 in cc);
            place = (record { turn = k.0.turn; mark = put_here r.g.withdrawn v.ticket 0 v.ticket refl; overtaking = k.0.overtaking }, now);
            told_nobody = f.told_nobody;
            lock_word = f.lock_word;
            door = door_on r.g v v.phase AtTurn (λ e. let z = p.0 in cc) f.door;
            tail_seen = f.tail_seen;
            at_draw = at_draw_on r.drawn r.g v v.phase AtTurn (λ e. let z = p.0 in cc) (λ w. absurd (⊎_elim (λ e. cc) (λ e. cc) w)) f.at_draw;
          }),
      (((refl, refl, known s r id v at, (let k = heard s r id v at in omega arith)), ((refl, refl, refl), refl, (refl, refl), (refl, refl), (refl, refl), (λ _. refl))), (λ timely. (refl, refl, refl, refl, (refl, refl, refl), refl))),
    )
  where
    v : View
    v = me.0

    found : ℕ
    found = slice_index s.words i

    passing : (le : r.most_open ≤ max_open) → IsPassing ticket v
    passing le = passes (let k = known s r id v at in omega arith)

    placed : (le : r.most_open ≤ max_open) → Place fl r.g v Passing
    placed le = place_of s r id v at le Passing (passing le).0

    flips : (le : r.most_open ≤ max_open) → Flips s r id v at i ticket ((found + (18446744073709551616 - x)) % 18446744073709551616) 0 is
    flips le =
        let p = passing le in
        let q = p.1 in
        let f = (placed le).0 in
        let t = f.turn in
        let near : v.ticket / 4 < rounds r.g.turn v.ticket + 15 = omega arith in
        let bit : bit_of ticket ≡ bit_of v.ticket = omega arith in
        let here : i ≡ cell_at v.ticket = is ∙ (omega arith) in
        let one : bit_at found (bit_of v.ticket) ≡ 1 = ap (λ z. bit_at z (bit_of v.ticket)) (ap (slice_index s.words) here) ∙ ((r.granted le).cells v.ticket).bits (omega arith) near ∙ f.mark in
        let new : (found + (18446744073709551616 - x)) % 18446744073709551616 ≡ bit_xor found (2 ^ bit_of v.ticket) = ap (λ z. (found + (18446744073709551616 - z)) % 18446744073709551616) (mask ∙ ap (λ b. 2 ^ b) bit) ∙ xor_is_less found (bit_of v.ticket) (omega arith) low one in record {
          busy = λ e. let z = p.0 in cc;
          none_counted = p.2;
          mine = q;
          near = near;
          high = ap (λ z. z / 65536) new ∙ xor_high found (bit_of v.ticket) (omega arith);
          own_bit = ap (λ z. bit_at z (bit_of v.ticket)) new ∙ xor_same found (bit_of v.ticket) one;
          other_bit = λ j ne. ap (λ z. bit_at z j) new ∙ xor_other found (bit_of v.ticket) j ne;
        }
