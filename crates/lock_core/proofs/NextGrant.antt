-- Proof about the step that ends a turn of the queue and grants the next ticket.
use Rattle.std.proofs.Common.{◌≡◌, ◌≢◌, ℕ, suc, ◌+◌, ◌/◌, ◌%◌, ◌<◌, ◌≤◌, ◌⊎◌, inl, inr, set, slice_index, sym, refl, ap, ◌∙◌, subst, arith, ⊎_elim, length-set, get_or-set_other, eqb, eq-eqb, ne_eqb}
use Rattle.std.specs.Int.{bit_at}
use mathlib.Core.Logic.{dite}
use mathlib.Core.Option.{none, some}
use native.Mathlib.Decide.{ℕ_discrete, dec_le}
use lib.ListN.{get_elem?}
use prog.Atomic.{either}
use Rattle.std.proofs.lemmas.Nat.{mul-le}
use Rattle.std.proofs.lemmas.Nat.Bits.{bit_at-lt}
use Rattle.atomic_table.specs.Table.{State, Act, step, keeps, Valid, stepped, carried_after, Allows, Me}
use Rattle.lock_core.specs.declared.view.View.{View}
use Rattle.lock_core.specs.declared.view.Phase.{Phase}
use Rattle.lock_core.specs.declared.view.Phase.TheVariants.{Idle, Queued, Asleep, AtTurn, Passing, HeadInside, Impossible}
use Rattle.lock_core.specs.Layout.{cell_at, bit_of, rounds, rounds_of, count_of}
use Rattle.lock_core.specs.Views.{max_open, Timely, HasTurnOf, SameOvertaking, IsNotServed}
use Rattle.lock_core.specs.Invariant.{tally, share, Ghost, Overtaking, Waiter, Holder, Place, Probe, Fits, Cell, Tickets}
use Rattle.lock_core.specs.Steps.{same, grants, grants_to}
use Rattle.lock_core.proofs.Base.{put, put_here, put_else, each_after, cells_after, tally_none, known, heard, fits, place_of, other, told_in, told_in_same, door_left, idle_at_draw}
use Rattle.lock_core.proofs.Tally.{share_here, tally_has}
use Rattle.lock_core.proofs.Words.{same_mask}

-- 1 if nobody is counted
abbrev pub nobody : ℕ → ℕ
nobody found = either (eqb (count_of found) 0) 1 0

pub nobody_is : (found : ℕ) → count_of found ≡ 0 → nobody found ≡ 1
nobody_is found e = ap (λ b. either b 1 0) (eq-eqb (count_of found) 0 e)

pub somebody_is : (found : ℕ) → count_of found ≢ 0 → nobody found ≡ 0
somebody_is found ne = ap (λ b. either b 1 0) (ne_eqb (count_of found) 0 ne)

-- the next ticket is at its turn
abbrev pub next_turn : Ghost → ℕ → Ghost
next_turn g quiet = record g { turn = g.turn + 1; head_inside = 0; nobody_asleep = put g.nobody_asleep (g.turn + 1) quiet }

module _ (fl : ℕ) (g : Ghost) (q : ℕ) (b : View) (single : g.head_inside ≤ 1) where
  waiter : Waiter fl g b → Waiter fl (next_turn g q) b
  waiter k = record { unmarked = k.unmarked; overtaking = record { came = let c = k.overtaking.came in omega arith; overtaken = let o = k.overtaking.overtaken in let m = mul-le fl g.head_inside fl 1 (omega arith) single in omega arith }; at_turn = λ e. refl }

  -- the other callers wait on
  waits_on : (p : Phase) → (p ≢ Idle → b.ticket ≢ g.turn) → (p ≡ Asleep → b.ticket ≡ g.turn + 1 → q ≡ 0) → Place fl g b p → Place fl (next_turn g q) b p
  waits_on Idle ne h k = tt
  waits_on Queued ne h k = waiter k
  waits_on Asleep ne h k = (waiter k.0, k.1, dite (ℕ_discrete b.ticket (g.turn + 1)) (λ e. put_here g.nobody_asleep (g.turn + 1) q b.ticket e ∙ h refl e) (λ e. put_else g.nobody_asleep (g.turn + 1) q b.ticket e ∙ k.2))
  waits_on AtTurn ne h k = absurd (ne (λ e. cc) k.0.turn)
  waits_on Passing ne h k = absurd (ne (λ e. cc) k.0.turn)
  waits_on HeadInside ne h k = absurd (ne (λ e. cc) k.0.turn)
  waits_on Impossible ne h k = k

-- a caller that is not done with its turn has a ticket without a mark
unmarked_of : (fl : ℕ) (g : Ghost) (v : View) (p : Phase) → p ≢ Idle → Place fl g v p → (g.withdrawn v.ticket ≡ 0) ⊎ (v.ticket ≡ g.turn)
unmarked_of fl g v Idle ne k = absurd (ne refl)
unmarked_of fl g v Queued ne k = inl k.unmarked
unmarked_of fl g v Asleep ne k = inl k.0.unmarked
unmarked_of fl g v AtTurn ne k = inr k.0.turn
unmarked_of fl g v Passing ne k = inr k.0.turn
unmarked_of fl g v HeadInside ne k = inr k.0.turn
unmarked_of fl g v Impossible ne k = absurd k

module _ {fl : ℕ} (s : State ℕ View) (r : Tickets fl s) (id slots i x ticket next : ℕ) (me : Me ℕ View) (at : get_elem? s.views id ≡ some me.0) (is : i ≡ cell_at next) (behind : next ≡ (ticket + 1) % 18446744073709551616) where
  abbrev pub v : View
  v = me.0

  abbrev pub n1 : ℕ
  n1 = v.ticket + 1

  abbrev pub found : ℕ
  found = slice_index s.words i

  -- the seat is at its turn, and the word is the next cell, which has one round more, if the lock is timely
  pub record Granting : Type 0 where
    pub mine : ticket ≡ v.ticket % 18446744073709551616
    pub none_counted : v.counted ≡ 0
    pub busy : v.phase ≢ Idle
    pub holder : Holder fl r.g v 0
    pub high : rounds_of x ≡ (rounds_of found + 1) % 1073741824
    pub mask : x % 65536 ≡ found % 65536
    pub count : count_of x ≡ count_of found

  pub granted_next : v.max_newcomers ≡ fl → (r.most_open ≤ max_open → Granting) → (w : View) × (a : Act ℕ) × Valid s.homes me.1 a × Tickets fl (stepped s i x id me.1 w a) × (same me (w, carried_after me.1 a) × (Timely w → grants_to v found w) × SameOvertaking v w × (v.max_newcomers ≡ 0 → Timely w → IsNotServed w))
  granted_next same_newcomers granting = dite (ℕ_discrete bit 0) left passes
    where
      bit : ℕ
      bit = bit_at found (bit_of n1)

      q : ℕ
      q = nobody found

      g : Ghost
      g = next_turn r.g q

      open_fits : (le : r.most_open ≤ max_open) → (r.g.turn ≤ v.ticket) × (v.ticket < r.drawn) × (r.owner v.ticket ≡ id)
      open_fits le = (fits s r id v at le).mine (granting le).busy

      is_next : (le : r.most_open ≤ max_open) → i ≡ cell_at n1
      is_next le = let t = (granting le).mine in is ∙ (let b = behind in omega arith)

      mark : (le : r.most_open ≤ max_open) → bit ≡ r.g.withdrawn n1
      mark le = let t = (granting le).holder.turn in ap (λ z. bit_at z (bit_of n1)) (ap (slice_index s.words) (is_next le)) ∙ ((r.granted le).cells n1).bits (omega arith) (omega arith)

      -- a sleeper of the next ticket is counted
      counted_there : (le : r.most_open ≤ max_open) (j : ℕ) (b : View) → get_elem? s.views j ≡ some b → b.phase ≡ Asleep → b.ticket ≡ n1 → q ≡ 0
      counted_there le j b there dozing e =
          let f = (r.granted le).each j b there in
          let p : Place fl r.g b Asleep = subst (Place fl r.g b) dozing f.place in
          let one = p.1 in
          let own : share (b.ticket % 4) b ≡ b.counted = share_here (b.ticket % 4) b refl in
          let some_ = tally_has (b.ticket % 4) s.views j b there in
          let c : count_of (slice_index s.words (cell_at b.ticket)) ≡ tally (b.ticket % 4) s.views = ((r.granted le).cells b.ticket).count in
          let here : slice_index s.words (cell_at b.ticket) ≡ found = ap (slice_index s.words) (ap cell_at e ∙ sym (is_next le)) in
          let c' : count_of found ≡ tally (b.ticket % 4) s.views = ap count_of (sym here) ∙ c in
          somebody_is found (λ z. let z' : tally (b.ticket % 4) s.views ≡ 0 = sym c' ∙ z in omega arith)

      after : (owner : ℕ → ℕ) (w : View) → w.most_open ≡ r.most_open → w.newcomers_seen ≤ r.g.newcomers → w.counted ≡ 0 → (r.most_open ≤ max_open → Fits fl r.drawn owner r.who g id w)
          → (r.most_open ≤ max_open → (j : ℕ) (b : View) → j ≢ id → get_elem? s.views j ≡ some b → b.phase ≢ Idle → owner b.ticket ≡ r.owner b.ticket)
          → Tickets fl record { words = set s.words i x; homes = s.homes; views = set s.views id w }
      after owner w same_most begun none_ fit keep = record {
        drawn = r.drawn;
        most_open = r.most_open;
        owner = owner;
        who = r.who;
        g = g;
        tail = get_or-set_other s.words i 16 x 0 (λ e. omega arith) ∙ r.tail;
        lock_word = get_or-set_other s.words i 0 x 0 (λ e. omega arith) ∙ r.lock_word;
        wide = length-set s.words i x ∙ r.wide;
        guard = r.guard;
        seen = each_after (λ j b. b.most_open ≤ r.most_open) s.views id w (omega arith) (λ j b ne there. r.seen j b there);
        heard = each_after (λ j b. b.newcomers_seen ≤ r.g.newcomers) s.views id w begun (λ j b ne there. r.heard j b there);
        granted = λ le.
            let o = r.granted le in
            let k = granting le in
            let m = open_fits le in
            let a = m.0 in
            let z = m.1 in
            let t0 = k.holder.turn in
            let is1 = is_next le in
            let all : (c : ℕ) → tally c (set s.views id w) ≡ tally c s.views = λ c. tally_none s id c v w at k.none_counted none_ in record {
              within = omega arith;
              few = let f = o.few in omega arith;
              counts = let c = o.counts in record { bounded = c.bounded; all = c.all; tallied = c.tallied; single = omega arith; room = c.room; small = c.small; awake = c.awake; later = c.later };
              marks = record { far = λ t beyond. o.marks.far t (omega arith); future = o.marks.future; unheard = λ t later. put_else r.g.nobody_asleep (r.g.turn + 1) q t (λ e. omega arith) ∙ o.marks.unheard t (omega arith) };
              crowd = λ c. let e = all c in let y = o.crowd c in omega arith;
              cells = cells_after s.words i x n1 (λ y t. Cell g (tally (t % 4) (set s.views id w)) y t) (let l = r.wide in omega arith) is1
                  (λ t e.
                  let c = subst (λ y. Cell r.g (tally (t % 4) s.views) y t) (ap (slice_index s.words) (omega arith)) (o.cells t) in
                  let h = c.high in
                  let h' = k.high in record {
                    high = omega arith;
                    bits = λ from near. same_mask x found (bit_of t) (omega arith) k.mask ∙ dite (dec_le (suc (t / 4)) (rounds r.g.turn t + 15))
                        (λ lt. c.bits (omega arith) lt)
                        (λ ge. let just : t / 4 ≡ rounds r.g.turn t + 15 = omega arith in c.spare just (λ e'. omega arith) ∙ sym (o.marks.far t (omega arith)));
                    spare = λ just apart. absurd (apart (omega arith));
                    count = k.count ∙ c.count ∙ sym (all (t % 4));
                  })
                  (λ t ne. let c = o.cells t in record {
                    high = c.high ∙ (let same_ : rounds r.g.turn t ≡ rounds (r.g.turn + 1) t = omega arith in ap (λ y. y % 1073741824) same_);
                    bits = λ from near. c.bits (omega arith) (omega arith);
                    spare = λ just apart. let just' : t / 4 ≡ rounds r.g.turn t + 15 = omega arith in dite (ℕ_discrete (t % 4) (r.g.turn % 4))
                        (λ eq. let c1 : cell_at t ≡ cell_at v.ticket = omega arith in let c2 : bit_of t ≡ bit_of v.ticket = omega arith in
                        ap (λ y. bit_at (slice_index s.words y) (bit_of t)) c1 ∙ ap (bit_at (slice_index s.words (cell_at v.ticket))) c2 ∙ (o.cells v.ticket).bits (omega arith) (omega arith) ∙ k.holder.mark)
                        (λ ne'. c.spare just' ne');
                    count = c.count ∙ sym (all (t % 4));
                  });
              idle = λ e. refl;
              each = each_after (Fits fl r.drawn owner r.who g) s.views id w (fit le) (λ j b ne there. let f = o.each j b there in
                  let apart : b.phase ≢ Idle → b.ticket ≢ v.ticket = λ busy. other s r id v at le j b ne k.busy busy there in record {
                    knows = let y = f.knows in omega arith;
                    lowest = let y = f.lowest in omega arith;
                    mine = λ busy. let y = f.mine busy in let b' = apart busy in ((let c = y.0 in omega arith), y.1, keep le j b ne there busy ∙ y.2);
                    place = waits_on fl r.g q b o.counts.single b.phase (λ busy e. apart busy (e ∙ sym t0)) (λ dozing e. counted_there le j b there dozing (omega arith)) f.place;
                    told_nobody = λ one. let y = f.told_nobody one in let y1 = y.1 in (put_else r.g.nobody_asleep (r.g.turn + 1) q b.granted (λ e. omega arith) ∙ y.0, omega arith);
                    lock_word = f.lock_word;
                    door = f.door;
                    at_draw = f.at_draw;
                    tail_seen = record { probed = f.tail_seen.probed; next_is_at_turn = λ one e. let q = f.tail_seen.next_is_at_turn one e in absurd (omega arith) };
                  });
            };
      }

      Goal : Type 0
      Goal = (w : View) × (a : Act ℕ) × Valid s.homes me.1 a × Tickets fl (stepped s i x id me.1 w a) × (same me (w, carried_after me.1 a) × (Timely w → grants_to v found w) × SameOvertaking v w × (v.max_newcomers ≡ 0 → Timely w → IsNotServed w))

      probe_on : (le : r.most_open ≤ max_open) → Probe r.drawn g v
      probe_on le =
          let f = (fits s r id v at le).tail_seen in
          let t0 = (granting le).holder.turn in
          let z = (open_fits le).1 in record { probed = f.probed; next_is_at_turn = λ one e. let q = f.next_is_at_turn one e in absurd (omega arith) }

      -- in a strict lock nobody is inside, so the end of a turn ends its service
      home : r.most_open ≤ max_open → v.max_newcomers ≡ 0 → told_in v ≡ 0
      home le none_ = ap (λ b. either b v.door 0) (ne_eqb v.inside 1 (λ one. let few = ((fits s r id v at le).lock_word.occupant one).0 in omega arith))

      -- the caller is overtaken as much as before
      late_on : r.most_open ≤ max_open → Overtaking fl g v
      late_on le =
          let l = (granting le).holder.overtaking in
          let single = (r.granted le).counts.single in record { came = let c = l.came in omega arith; overtaken = let o = l.overtaken in let m = mul-le fl r.g.head_inside fl 1 (omega arith) single in omega arith }

      left : bit ≡ 0 → Goal
      left is_ =
          let w : View = record v { most_open = r.most_open; ended = n1; rounds_seen = 0; phase = Idle; counted = 0; granted = n1; told_nobody = q; door = told_in v; nobody_behind = 0 } in (
            w,
            keeps,
            tt,
            after r.owner w refl (let k = heard s r id v at in omega arith) refl (λ le. let t = (granting le).holder.turn in record { knows = omega arith; lowest = omega arith; mine = λ busy. absurd (busy refl); place = tt; told_nobody = λ e. (put_here r.g.nobody_asleep (r.g.turn + 1) q n1 (omega arith) ∙ e, (omega arith)); lock_word = (fits s r id v at le).lock_word; door = door_left r.g v v.phase Idle (fits s r id v at le).door; tail_seen = probe_on le; at_draw = idle_at_draw r.drawn g w (fits s r id v at le).at_draw.early refl }) (λ le j b ne there busy. refl),
            (((refl, refl, known s r id v at, (let k = heard s r id v at in omega arith)), ((refl, refl, refl), refl, (refl, refl), (refl, refl), (refl, refl), told_in_same v)), (λ timely. ((λ _. (((refl, refl), refl, refl, refl), nobody_is found)), (λ one. absurd (omega arith)))), (refl, refl, refl), (λ none_ timely. home timely none_)),
          )

      passes : bit ≢ 0 → Goal
      passes ne =
          let w : View = record v { most_open = r.most_open; ended = n1; rounds_seen = 0; ticket = n1; phase = Passing; counted = 0; granted = n1; told_nobody = 0; door = told_in v; drawn_open = r.g.drawn_open n1; nobody_behind = 0 } in
          let one : bit ≡ 1 = (let lt = bit_at-lt found (bit_of n1) in omega arith) in (
            w,
            keeps,
            tt,
            after (put r.owner n1 id) w refl (let k = heard s r id v at in omega arith) refl
                (λ le. let t = (granting le).holder.turn in let m : r.g.withdrawn n1 ≡ 1 = sym (mark le) ∙ one in record {
                  knows = omega arith;
                  lowest = omega arith;
                  mine = λ _. (omega arith, (dite (dec_le r.drawn n1) (λ overtaking. absurd (let z = (r.granted le).marks.future n1 overtaking in omega arith)) (λ soon. omega arith)), put_here r.owner n1 id n1 refl);
                  place = (record { turn = omega arith; mark = m; overtaking = late_on le }, refl);
                  told_nobody = λ e. absurd (omega arith);
                  lock_word = (fits s r id v at le).lock_word;
                  door = door_left r.g v v.phase Passing (fits s r id v at le).door;
                  tail_seen = probe_on le;
                  at_draw = record { stamped = λ _. refl; early = (fits s r id v at le).at_draw.early; open_then = λ q. absurd (⊎_elim (λ e. cc) (λ e. cc) q); shut_then = λ q. absurd (⊎_elim (λ e. cc) (λ e. cc) q); nobody_behind = λ e. absurd (omega arith) };
                })
                (λ le j b ne' there busy. put_else r.owner n1 id b.ticket (λ e. owned le j b there busy ne' e)),
            (((refl, refl, known s r id v at, (let k = heard s r id v at in omega arith)), ((refl, refl, refl), refl, (refl, refl), (refl, refl), (refl, refl), told_in_same v)), (λ timely. ((λ zero_. absurd (ne zero_)), (λ _. (refl, refl, refl)))), (refl, refl, refl), (λ none_ timely. home timely none_)),
          )
        where
          -- no other open request has the marked ticket
          owned : (le : r.most_open ≤ max_open) (j : ℕ) (b : View) → get_elem? s.views j ≡ some b → b.phase ≢ Idle → j ≢ id → b.ticket ≢ n1
          owned le j b there busy ne' e =
              let f = (r.granted le).each j b there in
              let m : r.g.withdrawn b.ticket ≢ 0 = λ z. ne (mark le ∙ ap r.g.withdrawn (sym e) ∙ z) in
              let t = (granting le).holder.turn in
              ⊎_elim m (λ at_turn. omega arith) (unmarked_of fl r.g b b.phase busy f.place)

pub grant_allowed : {fl : ℕ} (id slots i ticket next : ℕ) (me : Me ℕ View) → me.0.max_newcomers ≡ fl → next ≡ (ticket + 1) % 18446744073709551616 → i ≡ cell_at next → (Timely me.0 → HasTurnOf ticket me.0)
    → Allows (Tickets fl) slots id me i (λ n. (n + 17179869184) % 18446744073709551616) (grants (step slots i 17179869184 0 none) me)
grant_allowed id slots i ticket next me same_newcomers behind is has s r sized at low = granted_next s r id slots i ((slice_index s.words i + 17179869184) % 18446744073709551616) ticket next me at is behind same_newcomers
    (λ le. let h = has (let k = known s r id me.0 at in omega arith) in record {
      mine = h.1;
      none_counted = h.2;
      busy = λ e. ⊎_elim (λ a. cc) (λ a. cc) h.0;
      holder = ⊎_elim (λ a. (place_of s r id me.0 at le AtTurn a).0) (λ a. (place_of s r id me.0 at le HeadInside a).0) h.0;
      high = omega arith;
      mask = omega arith;
      count = omega arith;
    })
