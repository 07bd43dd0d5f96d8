-- Proofs about the steps that take or leave the lock word. A newcomer (a thread that barges) takes the lock word
-- without a ticket, and a queue head takes it after its ticket has been granted.
use Rattle.std.proofs.Common.{◌≡◌, ◌≢◌, ℕ, ◌+◌, ◌*◌, ◌/◌, ◌%◌, ◌<◌, ◌≤◌, ◌-◌, inr, set, slice_index, sym, refl, ap, ◌∙◌, subst, arith, length-set, get_or-set_same, get_or-set_other, eqb, eq-eqb, ne_eqb, ⊎_elim}
use mathlib.Core.Option.{none, some}
use mathlib.Core.Logic.{dite}
use native.Mathlib.Decide.{ℕ_discrete}
use prog.Atomic.{either}
use lib.ListN.{get_elem?}
use Rattle.atomic_table.specs.Table.{State, Act, step, keeps, Valid, stepped, carried_after, Allows, Me}
use Rattle.atomic_table.proofs.Lists.{set_again, exchanged}
use Rattle.lock_core.specs.declared.view.View.{View}
use Rattle.lock_core.specs.declared.view.Phase.{Phase}
use Rattle.lock_core.specs.declared.view.Phase.TheVariants.{Idle, Queued, Asleep, AtTurn, Passing, HeadInside, Impossible}
use Rattle.lock_core.specs.Layout.{cell_at, state_of, came_of, shut_of, rounds, asleep_of}
use Rattle.lock_core.specs.Views.{max_open, Timely, IsAtTurn, IsIdle, IsInside}
use Rattle.lock_core.specs.Invariant.{tally, Ghost, Overtaking, Waiter, Holder, Occupant, Place, Door, Counts, Fits, Cell, Tickets, takes_of, Rests, AtLockWord, Probe, AtDraw}
use Rattle.lock_core.specs.Steps.{barges, takes_lock_word, leaves, requests_handoff}
use Rattle.lock_core.proofs.Base.{put, put_here, put_else, each_after, cells_same, tally_none, known, heard, fits, place_of, other, door_on, idle_at_draw, at_draw_on, place_told, in_bounds}
use Rattle.lock_core.proofs.Base.{unchanged}
use Rattle.lock_core.proofs.Tally.{tally_set}

-- the ghost state g with the lock word of h
abbrev pub gated : Ghost → Ghost → Ghost
gated g h = record h { turn = g.turn; withdrawn = g.withdrawn; drawn_open = g.drawn_open; nobody_asleep = g.nobody_asleep }

-- What holds of a request stays true: a newcomer that goes in is counted, and if the queue head takes the lock word,
-- one more ticket is done.
module _ (fl : ℕ) (g h : Ghost) (b : View) (sums : h.newcomers + fl * g.head_inside + g.since_head ≤ g.newcomers + fl * h.head_inside + h.since_head) (grows : g.head_inside ≤ h.head_inside) where
  pub late_after : Overtaking fl g b → Overtaking fl (gated g h) b
  late_after k = record { came = let c = k.came in omega arith; overtaken = let o = k.overtaken in omega arith }

  waiter : (b.ticket ≡ g.turn → h.head_inside ≡ g.head_inside) → Waiter fl g b → Waiter fl (gated g h) b
  waiter ne k = record { unmarked = k.unmarked; overtaking = late_after k.overtaking; at_turn = λ e. ne e ∙ k.at_turn e }

  holder : (m : ℕ) → Holder fl g b m → Holder fl (gated g h) b m
  holder m k = record { turn = k.turn; mark = k.mark; overtaking = late_after k.overtaking }

  pub place_after : (p : Phase) → (p ≢ Idle → b.ticket ≡ g.turn → h.head_inside ≡ g.head_inside) → Place fl g b p → Place fl (gated g h) b p
  place_after Idle ne k = tt
  place_after Queued ne k = waiter (ne (λ e. cc)) k
  place_after Asleep ne k = (waiter (ne (λ e. cc)) k.0, k.1, k.2)
  place_after AtTurn ne k = (holder 0 k.0, ne (λ e. cc) k.0.turn ∙ k.1)
  place_after Passing ne k = (holder 1 k.0, ne (λ e. cc) k.0.turn ∙ k.1)
  place_after HeadInside ne k = (holder 0 k.0, ne (λ e. cc) k.0.turn ∙ k.1)
  place_after Impossible ne k = k

module _ {fl : ℕ} (s : State ℕ View) (r : Tickets fl s) (id : ℕ) (h : Ghost) (who : ℕ → ℕ) (w : View) where
  abbrev pub after : Ghost
  after = gated r.g h

  -- what holds if the lock is timely
  pub record Turns : Type 0 where
    pub counts : Counts fl after
    pub sums : h.newcomers + fl * r.g.head_inside + r.g.since_head ≤ r.g.newcomers + fl * h.head_inside + h.since_head
    pub grows : r.g.head_inside ≤ h.head_inside
    pub idle : r.drawn ≤ r.g.turn → h.head_inside ≡ r.g.head_inside
    pub whose : (n : ℕ) → n ≤ r.g.newcomers → who n ≡ r.who n
    pub starts : (n : ℕ) → n ≤ r.g.heads → h.newcomers_before n ≡ r.g.newcomers_before n
    pub more_heads : r.g.heads ≤ h.heads
    pub later : r.g.epoch ≤ h.epoch
    pub keeps_shut : r.g.epoch ≡ h.epoch → shut_of r.g.lock_word ≡ 1 → shut_of h.lock_word ≡ 1
    pub counted : (k : ℕ) → tally k (set s.views id w) ≡ tally k s.views
    pub apart : (j : ℕ) (b : View) → j ≢ id → get_elem? s.views j ≡ some b → b.phase ≢ Idle → b.ticket ≡ r.g.turn → h.head_inside ≡ r.g.head_inside
    pub occupants : (j : ℕ) (b : View) → j ≢ id → get_elem? s.views j ≡ some b → b.inside ≡ 1 → Occupant fl after j
    pub rests : (j : ℕ) (b : View) → j ≢ id → get_elem? s.views j ≡ some b → Rests after b
    pub doors : (j : ℕ) (b : View) → j ≢ id → get_elem? s.views j ≡ some b → b.door ≢ 0 → (shut_of h.lock_word ≡ shut_of r.g.lock_word) × (h.epoch ≡ r.g.epoch)
    pub at_draw : (j : ℕ) (b : View) → j ≢ id → get_elem? s.views j ≡ some b → AtDraw r.drawn after b b.phase
    pub fit : Fits fl r.drawn r.owner who after id w

  pub gate_moved : w.most_open ≤ r.most_open → r.g.newcomers ≤ h.newcomers → w.newcomers_seen ≤ h.newcomers → (r.most_open ≤ max_open → Turns) → Tickets fl record { words = set s.words 0 h.lock_word; homes = s.homes; views = set s.views id w }
  gate_moved most grows begun turns = record {
    drawn = r.drawn;
    most_open = r.most_open;
    owner = r.owner;
    who = who;
    g = after;
    tail = get_or-set_other s.words 0 16 h.lock_word 0 (λ e. omega arith) ∙ r.tail;
    lock_word = get_or-set_same s.words 0 h.lock_word 0 (let l = r.wide in omega arith);
    wide = length-set s.words 0 h.lock_word ∙ r.wide;
    guard = r.guard;
    seen = each_after (λ j b. b.most_open ≤ r.most_open) s.views id w most (λ j b ne there. r.seen j b there);
    heard = each_after (λ j b. b.newcomers_seen ≤ h.newcomers) s.views id w begun (λ j b ne there. let k = r.heard j b there in omega arith);
    granted = λ le.
        let o = r.granted le in
        let m = turns le in record {
          within = o.within;
          few = o.few;
          counts = m.counts;
          marks = o.marks;
          crowd = λ k. let e = m.counted k in let q = o.crowd k in omega arith;
          cells = cells_same s.words 0 h.lock_word (λ z t. Cell after (tally (t % 4) (set s.views id w)) z t) (omega arith) (λ t. subst (λ z. Cell after z (slice_index s.words (cell_at t)) t) (sym (m.counted (t % 4))) (o.cells t));
          idle = λ e. m.idle e ∙ o.idle e;
          each = each_after (Fits fl r.drawn r.owner who after) s.views id w m.fit (λ j b ne there. let f = o.each j b there in record {
            knows = f.knows;
            lowest = f.lowest;
            mine = f.mine;
            place = place_after fl r.g h b m.sums m.grows b.phase (m.apart j b ne there) f.place;
            told_nobody = f.told_nobody;
            lock_word = record {
              turn_of = λ some_. let k = f.lock_word.turn_of some_ in let k0 = k.0 in let k3 = k.3 in let n = m.more_heads in ((omega arith), m.whose b.newcomer_number k.0 ∙ k.1, k.2 ∙ ap (λ z. z + b.place_after_head) (sym (m.starts b.heads_before k.3)), (omega arith));
              occupant = m.occupants j b ne there;
              rests = m.rests j b ne there;
              dated = let d = f.lock_word.dated in let n = m.later in omega arith;
              barrier = λ one now. let d = f.lock_word.dated in let n = m.later in m.keeps_shut (omega arith) (f.lock_word.barrier one (omega arith));
            };
            tail_seen = f.tail_seen;
            at_draw = m.at_draw j b ne there;
            door = λ told. let k = f.door told in let d = m.doors j b ne there told in (k.0 ∙ ap (λ z. 1 + z) (sym d.0), k.1 ∙ sym d.1, k.2);
          });
        };
  }

-- the sleep of a caller that sleeps at the lock word stays noted
pub rest_on : (g : Ghost) (x epoch : ℕ) (b : View) → (state_of x ≡ 1 → state_of g.lock_word ≡ 1) → (asleep_of g.lock_word ≡ 1 → asleep_of x ≡ 1) → Rests g b → Rests (record g { lock_word = x; epoch = epoch }) b
rest_on g x epoch b state asleep k = record { takes_seen = k.takes_seen; held = k.held; lulls = k.lulls; sleeps_at_lock_word = λ one. let n = k.sleeps_at_lock_word one in (n.0, n.1, (λ e z. asleep (n.2 e (state z)))) }

-- a request stays as it was while the epoch lasts
pub at_draw_kept : (drawn : ℕ) (g h : Ghost) (v : View) (alone : ℕ) (p : Phase) → h.epoch ≡ g.epoch → (shut_of g.lock_word ≡ 1 → shut_of h.lock_word ≡ 1) → (alone ≡ 1 → v.nobody_behind ≡ 1) → AtDraw drawn g v p → AtDraw drawn (gated g h) (record v { nobody_behind = alone }) p
at_draw_kept drawn g h v alone p same_ shut_ old k = record { stamped = k.stamped; early = let e = k.early in omega arith; open_then = λ w one. k.open_then w one ∙ sym same_; shut_then = λ w ne e. shut_ (k.shut_then w ne (e ∙ same_)); nobody_behind = λ one two. k.nobody_behind (old one) two }

-- The lock word changes to x, and nobody takes it.
module _ {fl : ℕ} (s : State ℕ View) (r : Tickets fl s) (id : ℕ) (v : View) (at : get_elem? s.views id ≡ some v) (x epoch : ℕ) (lulled : ℕ → ℕ) (w : View) where
  abbrev pub still : Ghost
  still = record r.g { lock_word = x; epoch = epoch; left_quietly = lulled }

  -- what holds if the lock is timely
  pub record Stays : Type 0 where
    pub came : came_of x ≡ came_of r.g.lock_word
    pub room : state_of x ≡ 0 → state_of r.g.lock_word ≢ 0 → came_of x + 1 ≤ fl
    pub later : r.g.epoch ≤ epoch
    pub keeps_shut : r.g.epoch ≡ epoch → shut_of r.g.lock_word ≡ 1 → shut_of x ≡ 1
    pub counted : (k : ℕ) → tally k (set s.views id w) ≡ tally k s.views
    pub occupants : (j : ℕ) (b : View) → j ≢ id → get_elem? s.views j ≡ some b → b.inside ≡ 1 → state_of x ≡ 1
    pub awake : state_of x ≡ 1 → lulled (takes_of r.g) ≡ 0
    pub dark : (n : ℕ) → takes_of r.g < n → lulled n ≡ 0
    pub rests : (j : ℕ) (b : View) → j ≢ id → get_elem? s.views j ≡ some b → Rests still b
    pub doors : (j : ℕ) (b : View) → j ≢ id → get_elem? s.views j ≡ some b → b.door ≢ 0 → (shut_of x ≡ shut_of r.g.lock_word) × (epoch ≡ r.g.epoch)
    pub knows : w.ended ≤ r.g.turn
    pub lowest : w.rounds_seen ≤ rounds r.g.turn w.ticket
    pub mine : w.phase ≢ Idle → (r.g.turn ≤ w.ticket) × (w.ticket < r.drawn) × (r.owner w.ticket ≡ id)
    pub place : Place fl r.g w w.phase
    pub told_nobody : w.told_nobody ≡ 1 → (r.g.nobody_asleep w.granted ≡ 1) × (w.granted ≤ r.g.turn)
    pub lock_word : AtLockWord fl r.who still id w
    pub door : Door fl still w w.phase
    pub tail_seen : Probe r.drawn r.g w
    pub at_draw : AtDraw r.drawn still w w.phase
    pub others : (j : ℕ) (b : View) → j ≢ id → get_elem? s.views j ≡ some b → AtDraw r.drawn still b b.phase

  pub still_moved : w.most_open ≤ r.most_open → w.newcomers_seen ≤ r.g.newcomers → (r.most_open ≤ max_open → Stays) → Tickets fl record { words = set s.words 0 x; homes = s.homes; views = set s.views id w }
  still_moved most begun stays = gate_moved s r id still r.who w most (omega arith) begun (λ le.
      let o = r.granted le in
      let m = stays le in
      let c = o.counts in record {
        counts = record { bounded = c.bounded; all = c.all; tallied = c.tallied ∙ sym m.came; single = c.single; small = c.small; room = λ pos e. let t = c.tallied in let q = m.came in dite (ℕ_discrete (state_of r.g.lock_word) 0) (λ z. c.room pos z) (λ nz. let y = m.room e nz in omega arith); awake = m.awake; later = m.dark };
        sums = omega arith;
        grows = omega arith;
        idle = λ e. refl;
        whose = λ n l. refl;
        starts = λ n l. refl;
        more_heads = omega arith;
        later = m.later;
        keeps_shut = m.keeps_shut;
        counted = m.counted;
        apart = λ j b ne there busy e. refl;
        occupants = λ j b ne there one. let h = (o.each j b there).lock_word.occupant one in (h.0, m.occupants j b ne there one, h.2);
        rests = m.rests;
        doors = m.doors;
        fit = record { knows = m.knows; lowest = m.lowest; mine = m.mine; place = place_after fl r.g still w (omega arith) (omega arith) w.phase (λ busy e. refl) m.place; told_nobody = m.told_nobody; lock_word = m.lock_word; door = m.door; tail_seen = m.tail_seen; at_draw = m.at_draw };
        at_draw = m.others;
      })

-- a step on the lock word that changes, of the seat, at most what it knows of the lock word
module _ {fl : ℕ} (s : State ℕ View) (r : Tickets fl s) (id : ℕ) (v : View) (at : get_elem? s.views id ≡ some v) (x epoch told barred era holds nap naps alone : ℕ) where
  abbrev pub knowing : View
  knowing = record v { most_open = r.most_open; door = told; knows_shut = barred; epoch = era; takes_seen = holds; slept_in_take = nap; sleeps_at_lock_word = naps; nobody_behind = alone }

  -- what holds if the lock is timely
  pub record Learns : Type 0 where
    pub came : came_of x ≡ came_of r.g.lock_word
    pub state : state_of x ≡ state_of r.g.lock_word
    pub asleep : asleep_of r.g.lock_word ≡ 1 → asleep_of x ≡ 1
    pub counts : holds ≤ takes_of r.g
    pub own : naps ≡ 1 → (nap ≤ takes_of r.g) × (r.g.left_quietly nap ≡ 0) × (nap ≡ takes_of r.g → state_of x ≡ 1 → asleep_of x ≡ 1)
    pub later : r.g.epoch ≤ epoch
    pub keeps_shut : r.g.epoch ≡ epoch → shut_of r.g.lock_word ≡ 1 → shut_of x ≡ 1
    pub doors : (j : ℕ) (b : View) → j ≢ id → get_elem? s.views j ≡ some b → b.door ≢ 0 → (shut_of x ≡ shut_of r.g.lock_word) × (epoch ≡ r.g.epoch)
    pub dated : era ≤ epoch
    pub barrier : barred ≡ 1 → era ≡ epoch → shut_of x ≡ 1
    pub door : Door fl (still s r id v at x epoch r.g.left_quietly knowing) knowing v.phase
    pub at_draw : AtDraw r.drawn (still s r id v at x epoch r.g.left_quietly knowing) knowing v.phase
    pub others : (j : ℕ) (b : View) → j ≢ id → get_elem? s.views j ≡ some b → AtDraw r.drawn (still s r id v at x epoch r.g.left_quietly knowing) b b.phase

  pub learned : (r.most_open ≤ max_open → Learns) → Tickets fl record { words = set s.words 0 x; homes = s.homes; views = set s.views id knowing }
  learned learns = still_moved s r id v at x epoch r.g.left_quietly knowing (omega arith) (heard s r id v at) (λ le.
      let o = r.granted le in
      let m = learns le in
      let f = fits s r id v at le in record {
        came = m.came;
        room = λ e ne. absurd (ne (sym m.state ∙ e));
        later = m.later;
        keeps_shut = m.keeps_shut;
        counted = λ k. let e = tally_set k s.views id v knowing at in omega arith;
        occupants = λ j b ne there one. m.state ∙ ((o.each j b there).lock_word.occupant one).1;
        awake = λ e. o.counts.awake (sym m.state ∙ e);
        dark = o.counts.later;
        rests = λ j b ne there. rest_on r.g x epoch b (λ e. sym m.state ∙ e) m.asleep (o.each j b there).lock_word.rests;
        doors = m.doors;
        knows = f.knows;
        lowest = f.lowest;
        mine = f.mine;
        place = place_told fl r.g v r.most_open told barred era holds nap naps v.tail_seen v.next_is_at_turn alone v.phase f.place;
        told_nobody = f.told_nobody;
        lock_word = record { turn_of = f.lock_word.turn_of; occupant = λ one. let h = f.lock_word.occupant one in (h.0, m.state ∙ h.1, h.2); rests = record { takes_seen = m.counts; held = f.lock_word.rests.held; lulls = f.lock_word.rests.lulls; sleeps_at_lock_word = m.own }; dated = m.dated; barrier = m.barrier };
        door = m.door;
        tail_seen = f.tail_seen;
        at_draw = m.at_draw;
        others = m.others;
      })

pub request_handoff_allowed : {fl : ℕ} (id slots old new : ℕ) (me : Me ℕ View) → new / 2 ≡ old / 2 → Allows (Tickets fl) slots id me 0 (λ n. either (eqb n old) new n) (requests_handoff (step slots 0 old new none) me)
request_handoff_allowed {fl} id slots old new me half s r sized at low =
    let v : View = me.0 in
    let lock_word : ℕ = slice_index s.words 0 in
    let x : ℕ = either (eqb lock_word old) new lock_word in
    let same_ : x / 2 ≡ lock_word / 2 = exchanged lock_word old new (λ z. z / 2 ≡ lock_word / 2) (λ e. half ∙ ap (λ z. z / 2) (sym e)) (λ ne. refl) in
    let g : x / 2 ≡ r.g.lock_word / 2 = same_ ∙ ap (λ z. z / 2) r.lock_word in
    let state : state_of x ≡ state_of r.g.lock_word = omega arith in
    let asleep : asleep_of x ≡ asleep_of r.g.lock_word = ap (λ z. z % 2) g in
    let shut_ : shut_of x ≡ shut_of r.g.lock_word = omega arith in (
      v,
      keeps,
      tt,
      still_moved s r id v at x r.g.epoch r.g.left_quietly v (known s r id v at) (heard s r id v at) (λ le.
          let o = r.granted le in
          let f = fits s r id v at le in record {
            came = omega arith;
            room = λ e ne. absurd (ne (sym state ∙ e));
            later = omega arith;
            keeps_shut = λ e z. shut_ ∙ z;
            counted = λ k. ap (tally k) (set_again s.views id v at);
            occupants = λ j b ne there one. state ∙ ((o.each j b there).lock_word.occupant one).1;
            awake = λ e. o.counts.awake (sym state ∙ e);
            dark = o.counts.later;
            rests = λ j b ne there. rest_on r.g x r.g.epoch b (λ e. sym state ∙ e) (λ e. asleep ∙ e) (o.each j b there).lock_word.rests;
            doors = λ j b ne there told. (shut_, refl);
            knows = f.knows;
            lowest = f.lowest;
            mine = f.mine;
            place = f.place;
            told_nobody = f.told_nobody;
            lock_word = record { turn_of = f.lock_word.turn_of; occupant = λ one. let h = f.lock_word.occupant one in (h.0, state ∙ h.1, h.2); rests = rest_on r.g x r.g.epoch v (λ e. sym state ∙ e) (λ e. asleep ∙ e) f.lock_word.rests; dated = f.lock_word.dated; barrier = λ one now. shut_ ∙ f.lock_word.barrier one now };
            door = λ told. let k = f.door told in (k.0 ∙ ap (λ z. 1 + z) (sym shut_), k.1, k.2);
            tail_seen = f.tail_seen;
            at_draw = at_draw_kept r.drawn r.g (record r.g { lock_word = x }) v v.nobody_behind v.phase refl (λ z. shut_ ∙ z) (λ e. e) f.at_draw;
            others = λ j b ne there. at_draw_kept r.drawn r.g (record r.g { lock_word = x }) b b.nobody_behind b.phase refl (λ z. shut_ ∙ z) (λ e. e) (o.each j b there).at_draw;
          }),
      (refl, refl),
    )

pub barge_allowed : {fl : ℕ} (id slots old new : ℕ) (me : Me ℕ View) → 0 < fl → me.0.max_newcomers ≡ fl → old / 4 % 8 ≡ 0 → new ≡ (old + 36) % 18446744073709551616 → (Timely me.0 → IsIdle me.0) → Allows (Tickets fl) slots id me 0 (λ n. either (eqb n old) new n) (barges (step slots 0 old new none) me)
barge_allowed {fl} id slots old new me barging same_newcomers free new_is fresh s r sized at low = dite (ℕ_discrete lock_word old) comes_in stays
  where
    v : View
    v = me.0

    lock_word : ℕ
    lock_word = slice_index s.words 0

    x : ℕ
    x = either (eqb lock_word old) new lock_word

    idle : (le : r.most_open ≤ max_open) → IsIdle v
    idle le = fresh (let k = known s r id v at in omega arith)

    Goal : Type 0
    Goal = (w : View) × (a : Act ℕ) × Valid s.homes me.1 a × Tickets fl (stepped s 0 x id me.1 w a) × barges (step slots 0 old new none) me lock_word (w, carried_after me.1 a)

    comes_in : lock_word ≡ old → Goal
    comes_in is =
        let w : View = record v { most_open = r.most_open; rounds_seen = 0; phase = Idle; counted = 0; newcomers_at_draw = 0; first_pending = 0; newcomers_seen = r.g.newcomers + 1; newcomer_number = r.g.newcomers + 1; heads_before = r.g.heads; place_after_head = r.g.since_head + 1; inside = 1; door = 1; knows_shut = 0; epoch = r.g.epoch; takes_seen = r.g.newcomers + 1 + r.g.heads; last_take = r.g.newcomers + 1 + r.g.heads; left_quietly = 0; nobody_behind = 0 } in
        let x_is : x ≡ new = ap (λ b. either b new lock_word) (eq-eqb lock_word old is) in
        let old_is : old ≡ r.g.lock_word = sym is ∙ r.lock_word in
        let was_free : state_of r.g.lock_word ≡ 0 = omega arith in (
          w,
          keeps,
          tt,
          gate_moved s r id (record r.g { since_head = r.g.since_head + 1; newcomers = r.g.newcomers + 1; lock_word = x; who_is_inside = id }) (put r.who (r.g.newcomers + 1) id) w (omega arith) (omega arith) (omega arith) (λ le.
              let o = r.granted le in
              let f = fits s r id v at le in
              let y = o.counts.room barging was_free in
              let t = o.counts.tallied in
              let a = o.counts.all in
              let small : x ≡ r.g.lock_word + 36 = let k = o.counts.small in omega arith in record {
                counts = record { bounded = omega arith; all = omega arith; tallied = omega arith; single = o.counts.single; small = o.counts.small; room = λ pos e. absurd (omega arith); awake = λ e. o.counts.later (r.g.newcomers + 1 + r.g.heads) (omega arith); later = λ n l. o.counts.later n (omega arith) };
                sums = omega arith;
                grows = omega arith;
                idle = λ e. refl;
                whose = λ n l. put_else r.who (r.g.newcomers + 1) id n (λ e. omega arith);
                starts = λ n l. refl;
                more_heads = omega arith;
                later = omega arith;
                keeps_shut = λ e z. absurd (omega arith);
                counted = λ k. tally_none s id k v w at (idle le).1 refl;
                apart = λ j b ne there busy e. refl;
                occupants = λ j b ne there one. let h = ((o.each j b there).lock_word.occupant one).1 in absurd (omega arith);
                rests = λ j b ne there. let k = (o.each j b there).lock_word in record { takes_seen = let n = k.rests.takes_seen in omega arith; held = λ one. let h = (k.occupant one).1 in absurd (omega arith); lulls = k.rests.lulls; sleeps_at_lock_word = λ one. let q = k.rests.sleeps_at_lock_word one in let q0 = q.0 in (omega arith, q.1, (λ e. absurd (omega arith))) };
                doors = λ j b ne there told. (omega arith, refl);
                at_draw = λ j b ne there. at_draw_kept r.drawn r.g (record r.g { lock_word = x }) b b.nobody_behind b.phase refl (λ z. omega arith) (λ e. e) (o.each j b there).at_draw;
                fit = record {
                  knows = f.knows;
                  lowest = omega arith;
                  mine = λ busy. absurd (busy refl);
                  place = tt;
                  told_nobody = f.told_nobody;
                  lock_word = record { turn_of = λ some_. (omega arith, put_here r.who (r.g.newcomers + 1) id (r.g.newcomers + 1) refl, omega arith, omega arith); occupant = λ one. (barging, omega arith, refl); rests = record { takes_seen = omega arith; held = λ one. refl; lulls = λ one. absurd (omega arith); sleeps_at_lock_word = λ one. let q = f.lock_word.rests.sleeps_at_lock_word one in let q0 = q.0 in (omega arith, q.1, (λ e. absurd (omega arith))) }; dated = omega arith; barrier = λ one. absurd (omega arith) };
                  door = λ ne. (omega arith, refl, inr refl);
                  tail_seen = f.tail_seen;
                  at_draw = idle_at_draw r.drawn (record r.g { lock_word = x }) w f.at_draw.early refl;
                };
              }),
          (
            (refl, refl, known s r id v at, (let k = heard s r id v at in omega arith)),
            (λ timely.
                let y = (r.granted timely).counts.room barging was_free in
                let d = (fits s r id v at timely).lock_word.dated in
                let n = (fits s r id v at timely).lock_word.rests.takes_seen in ((λ _. ((refl, (refl, refl)), (omega arith, omega arith, (let fl_is = same_newcomers in omega arith), refl), (let k = heard s r id v at in omega arith), refl, d, (omega arith, refl))), (λ ne. absurd (ne is)))),
          ),
        )

    stays : lock_word ≢ old → Goal
    stays ne =
        let w : View = record v { most_open = r.most_open; rounds_seen = 0; phase = Idle; counted = 0; newcomers_at_draw = 0; first_pending = 0; nobody_behind = 0 } in (
          w,
          keeps,
          tt,
          unchanged s r id v at 0 x (omega arith) (ap (λ b. either b new lock_word) (ne_eqb lock_word old ne)) w refl (heard s r id v at) (λ le. (idle le).1) (λ _. refl) (λ le. let f = fits s r id v at le in record { knows = f.knows; lowest = omega arith; mine = λ busy. absurd (busy refl); place = tt; told_nobody = f.told_nobody; lock_word = f.lock_word; door = door_on r.g v v.phase Idle (λ e. let z = (idle le).0 in cc) f.door; tail_seen = f.tail_seen; at_draw = idle_at_draw r.drawn r.g w f.at_draw.early refl }),
          ((refl, refl, known s r id v at, (let k = heard s r id v at in omega arith)), (λ timely. ((λ is. absurd (ne is)), (λ _. ((refl, refl), refl))))),
        )

pub take_lock_word_allowed : {fl : ℕ} (id slots ticket old new : ℕ) (me : Me ℕ View) → 0 < fl → me.0.max_newcomers ≡ fl → state_of old ≢ 1 → new ≡ old / 16 % 2 * 16 + 4 → (Timely me.0 → IsAtTurn ticket me.0) → Allows (Tickets fl) slots id me 0 (λ n. either (eqb n old) new n) (takes_lock_word (step slots 0 old new none) me)
take_lock_word_allowed {fl} id slots ticket old new me barging same_newcomers free new_is has s r sized at low = dite (ℕ_discrete lock_word old) takes_it stays
  where
    v : View
    v = me.0

    lock_word : ℕ
    lock_word = slice_index s.words 0

    x : ℕ
    x = either (eqb lock_word old) new lock_word

    had : (le : r.most_open ≤ max_open) → IsAtTurn ticket v
    had le = has (let k = known s r id v at in omega arith)

    placed : (le : r.most_open ≤ max_open) → Place fl r.g v AtTurn
    placed le = place_of s r id v at le AtTurn (had le).0

    mine : (le : r.most_open ≤ max_open) → (r.g.turn ≤ v.ticket) × (v.ticket < r.drawn) × (r.owner v.ticket ≡ id)
    mine le = (fits s r id v at le).mine (λ e. let z = (had le).0 in cc)

    Goal : Type 0
    Goal = (w : View) × (a : Act ℕ) × Valid s.homes me.1 a × Tickets fl (stepped s 0 x id me.1 w a) × takes_lock_word (step slots 0 old new none) me lock_word (w, carried_after me.1 a)

    takes_it : lock_word ≡ old → Goal
    takes_it is =
        let w : View = record v { most_open = r.most_open; phase = HeadInside; counted = 0; newcomers_seen = r.g.newcomers; inside = 1; door = 1 + shut_of lock_word; knows_shut = shut_of lock_word; epoch = r.g.epoch; takes_seen = r.g.newcomers + (r.g.heads + 1); last_take = r.g.newcomers + (r.g.heads + 1); left_quietly = 0; sleeps_at_lock_word = 0; nobody_behind = 0 } in
        let x_is : x ≡ new = ap (λ b. either b new lock_word) (eq-eqb lock_word old is) in
        let old_is : old ≡ r.g.lock_word = sym is ∙ r.lock_word in
        let start : ℕ → ℕ = put r.g.newcomers_before (r.g.heads + 1) r.g.newcomers in (
          w,
          keeps,
          tt,
          gate_moved s r id (record r.g { head_inside = 1; heads = r.g.heads + 1; since_head = 0; lock_word = x; who_is_inside = id; newcomers_before = start }) r.who w (omega arith) (omega arith) (omega arith) (λ le.
              let o = r.granted le in
              let f = fits s r id v at le in
              let p = placed le in
              let m = mine le in
              let m1 = m.1 in
              let t0 = p.0.turn in
              let fresh : fl * r.g.head_inside ≡ fl * 0 = ap (λ z. fl * z) p.1 in
              let none_taken = p.1 in
              let bound = o.counts.bounded in
              let c = p.0.overtaking.came in
              let q = p.0.overtaking.overtaken in record {
                counts = record { bounded = omega arith; all = let e = put_here r.g.newcomers_before (r.g.heads + 1) r.g.newcomers (r.g.heads + 1) refl in omega arith; tallied = omega arith; single = omega arith; small = o.counts.small; room = λ pos e. absurd (omega arith); awake = λ e. o.counts.later (r.g.newcomers + (r.g.heads + 1)) (omega arith); later = λ n l. o.counts.later n (omega arith) };
                sums = omega arith;
                grows = omega arith;
                idle = λ e. absurd (omega arith);
                whose = λ n l. refl;
                starts = λ n l. put_else r.g.newcomers_before (r.g.heads + 1) r.g.newcomers n (λ e. omega arith);
                more_heads = omega arith;
                later = omega arith;
                keeps_shut = λ e z. omega arith;
                counted = λ k. tally_none s id k v w at (had le).3 refl;
                apart = λ j b ne there busy e. absurd (other s r id v at le j b ne (λ e'. let z = (had le).0 in cc) busy there (e ∙ sym t0));
                occupants = λ j b ne there one. absurd (free (ap state_of old_is ∙ ((o.each j b there).lock_word.occupant one).1));
                rests = λ j b ne there. let k = (o.each j b there).lock_word in record { takes_seen = let n = k.rests.takes_seen in omega arith; held = λ one. absurd (free (ap state_of old_is ∙ (k.occupant one).1)); lulls = k.rests.lulls; sleeps_at_lock_word = λ one. let q = k.rests.sleeps_at_lock_word one in let q0 = q.0 in (omega arith, q.1, (λ e. absurd (omega arith))) };
                doors = λ j b ne there told. (omega arith, refl);
                at_draw = λ j b ne there. at_draw_kept r.drawn r.g (record r.g { lock_word = x }) b b.nobody_behind b.phase refl (λ z. omega arith) (λ e. e) (o.each j b there).at_draw;
                fit = record {
                  knows = f.knows;
                  lowest = f.lowest;
                  mine = λ _. m;
                  place = (record { turn = t0; mark = p.0.mark; overtaking = record { came = omega arith; overtaken = omega arith } }, refl);
                  told_nobody = f.told_nobody;
                  lock_word = record {
                    turn_of = λ some_. let k = f.lock_word.turn_of some_ in let k3 = k.3 in (k.0, k.1, k.2 ∙ ap (λ z. z + v.place_after_head) (sym (put_else r.g.newcomers_before (r.g.heads + 1) r.g.newcomers v.heads_before (λ e. omega arith))), (omega arith));
                    occupant = λ one. (barging, omega arith, refl);
                    rests = record { takes_seen = omega arith; held = λ one. refl; lulls = λ one. absurd (omega arith); sleeps_at_lock_word = λ one. absurd (omega arith) };
                    dated = omega arith;
                    barrier = λ one now. omega arith;
                  };
                  door = λ ne. (omega arith, refl, inr refl);
                  tail_seen = f.tail_seen;
                  at_draw = record { stamped = λ _. f.at_draw.stamped (λ e. let z = (had le).0 in cc); early = f.at_draw.early; open_then = λ q. absurd (⊎_elim (λ e. cc) (λ e. cc) q); shut_then = λ q. absurd (⊎_elim (λ e. cc) (λ e. cc) q); nobody_behind = λ one. absurd (omega arith) };
                };
              }),
          (
            (refl, refl, known s r id v at, (let k = heard s r id v at in omega arith)),
            (refl, refl, refl),
            (λ timely.
                let p = placed timely in
                let t0 = p.0.turn in
                let fresh : fl * r.g.head_inside ≡ fl * 0 = ap (λ z. fl * z) p.1 in
                let same_turn : fl * v.ticket ≡ fl * r.g.turn = ap (λ z. fl * z) p.0.turn in
                let none_taken = p.1 in
                let bound = (r.granted timely).counts.bounded in
                let c = p.0.overtaking.came in
                let q = p.0.overtaking.overtaken in (refl, refl, refl, refl, refl, (λ _. (refl, refl, in_bounds fl v.max_newcomers r.g.newcomers v.newcomers_at_draw v.ticket v.first_pending r.g.since_head (v.ticket + 1 - v.first_pending) same_newcomers (omega arith) (omega arith) bound, (refl, refl, (fits s r id v at timely).lock_word.dated), ((let n = (fits s r id v at timely).lock_word.rests.takes_seen in omega arith), refl))), (λ ne. absurd (ne is)))),
          ),
        )

    stays : lock_word ≢ old → Goal
    stays ne =
        let w : View = record v { most_open = r.most_open; phase = AtTurn; counted = 0; nobody_behind = 0 } in (
          w,
          keeps,
          tt,
          unchanged s r id v at 0 x (omega arith) (ap (λ b. either b new lock_word) (ne_eqb lock_word old ne)) w refl (heard s r id v at) (λ le. (had le).3) (λ _. refl) (λ le.
              let f = fits s r id v at le in record { knows = f.knows; lowest = f.lowest; mine = λ _. mine le; place = placed le; told_nobody = f.told_nobody; lock_word = f.lock_word; door = subst (Door fl r.g v) (had le).0 f.door; tail_seen = f.tail_seen; at_draw = at_draw_on r.drawn r.g v v.phase AtTurn (λ e. let z = (had le).0 in cc) (λ q. absurd (⊎_elim (λ e. cc) (λ e. cc) q)) f.at_draw }),
          ((refl, refl, known s r id v at, (let k = heard s r id v at in omega arith)), (refl, refl, refl), (λ timely. (refl, refl, refl, refl, refl, (λ is. absurd (ne is)), (λ _. (refl, (refl, refl), refl))))),
        )

pub leave_allowed : {fl : ℕ} (id slots old new : ℕ) (me : Me ℕ View) → came_of new ≡ came_of old → state_of new ≢ 1 → (state_of new ≡ 0 → came_of old + 1 ≤ fl) → shut_of new ≡ shut_of old → (Timely me.0 → IsInside me.0) → Allows (Tickets fl) slots id me 0 (λ n. either (eqb n old) new n) (leaves (step slots 0 old new none) me)
leave_allowed {fl} id slots old new me same_ free few still_shut has s r sized at low = dite (ℕ_discrete lock_word old) goes stays
  where
    v : View
    v = me.0

    lock_word : ℕ
    lock_word = slice_index s.words 0

    x : ℕ
    x = either (eqb lock_word old) new lock_word

    inside : (le : r.most_open ≤ max_open) → IsInside v
    inside le = has (let k = known s r id v at in omega arith)

    holds_low : (le : r.most_open ≤ max_open) → v.takes_seen ≤ v.last_take
    holds_low le = let f = (fits s r id v at le).lock_word.rests in let h = f.held (inside le).0 in let n = f.takes_seen in omega arith

    Goal : Type 0
    Goal = (w : View) × (a : Act ℕ) × Valid s.homes me.1 a × Tickets fl (stepped s 0 x id me.1 w a) × leaves (step slots 0 old new none) me lock_word (w, carried_after me.1 a)

    goes : lock_word ≡ old → Goal
    goes is =
        let w : View = record v { most_open = r.most_open; rounds_seen = 0; phase = Idle; counted = 0; newcomers_at_draw = 0; first_pending = 0; inside = 0; door = 0; left_quietly = 1 - asleep_of lock_word; nobody_behind = 0 } in
        let lulled : ℕ → ℕ = put r.g.left_quietly (takes_of r.g) (1 - asleep_of lock_word) in
        let x_is : x ≡ new = ap (λ b. either b new lock_word) (eq-eqb lock_word old is) in
        let old_is : old ≡ r.g.lock_word = sym is ∙ r.lock_word in
        let came : came_of x ≡ came_of r.g.lock_word = ap came_of x_is ∙ same_ ∙ ap came_of old_is in
        let shut_ : shut_of x ≡ shut_of r.g.lock_word = ap shut_of x_is ∙ still_shut ∙ ap shut_of old_is in (
          w,
          keeps,
          tt,
          still_moved s r id v at x r.g.epoch lulled w (omega arith) (heard s r id v at) (λ le.
              let o = r.granted le in
              let f = fits s r id v at le in
              let here = (f.lock_word.occupant (inside le).0).2 in
              let held = (f.lock_word.occupant (inside le).0).1 in
              let current = o.counts.awake held in record {
                came = came;
                room = λ e ne. let k = few (ap state_of (sym x_is) ∙ e) in let k' : came_of old ≡ came_of r.g.lock_word = ap came_of old_is in omega arith;
                later = omega arith;
                keeps_shut = λ e z. shut_ ∙ z;
                counted = λ k. tally_none s id k v w at (inside le).1.1 refl;
                occupants = λ j b ne there one. absurd (ne (sym ((o.each j b there).lock_word.occupant one).2 ∙ here));
                awake = λ e. absurd (free (ap state_of (sym x_is) ∙ e));
                dark = λ n l. put_else r.g.left_quietly (takes_of r.g) (1 - asleep_of lock_word) n (λ e. omega arith) ∙ o.counts.later n l;
                rests = λ j b ne there. let k = (o.each j b there).lock_word in record { takes_seen = k.rests.takes_seen; held = λ one. absurd (ne (sym (k.occupant one).2 ∙ here)); lulls = λ one. let q = k.rests.lulls one in put_else r.g.left_quietly (takes_of r.g) (1 - asleep_of lock_word) b.last_take (λ e. let z : r.g.left_quietly b.last_take ≡ r.g.left_quietly (takes_of r.g) = ap r.g.left_quietly e in omega arith) ∙ q; sleeps_at_lock_word = λ one. let q = k.rests.sleeps_at_lock_word one in (q.0, dite (ℕ_discrete b.slept_in_take (takes_of r.g)) (λ e. put_here r.g.left_quietly (takes_of r.g) (1 - asleep_of lock_word) b.slept_in_take e ∙ (let a = q.2 e held in let z : asleep_of lock_word ≡ asleep_of r.g.lock_word = ap asleep_of r.lock_word in omega arith)) (λ e. put_else r.g.left_quietly (takes_of r.g) (1 - asleep_of lock_word) b.slept_in_take e ∙ q.1), (λ e z. absurd (free (ap state_of (sym x_is) ∙ z)))) };
                doors = λ j b ne there told. (shut_, refl);
                knows = f.knows;
                lowest = omega arith;
                mine = λ busy. absurd (busy refl);
                place = tt;
                told_nobody = f.told_nobody;
                lock_word = record { turn_of = f.lock_word.turn_of; occupant = λ one. absurd (omega arith); rests = record { takes_seen = f.lock_word.rests.takes_seen; held = λ one. absurd (omega arith); lulls = λ one. put_here r.g.left_quietly (takes_of r.g) (1 - asleep_of lock_word) v.last_take (f.lock_word.rests.held (inside le).0) ∙ one; sleeps_at_lock_word = λ one. let q = f.lock_word.rests.sleeps_at_lock_word one in (q.0, dite (ℕ_discrete v.slept_in_take (takes_of r.g)) (λ e. put_here r.g.left_quietly (takes_of r.g) (1 - asleep_of lock_word) v.slept_in_take e ∙ (let a = q.2 e held in let z : asleep_of lock_word ≡ asleep_of r.g.lock_word = ap asleep_of r.lock_word in omega arith)) (λ e. put_else r.g.left_quietly (takes_of r.g) (1 - asleep_of lock_word) v.slept_in_take e ∙ q.1), (λ e z. absurd (free (ap state_of (sym x_is) ∙ z)))) }; dated = f.lock_word.dated; barrier = λ one now. shut_ ∙ f.lock_word.barrier one now };
                door = λ ne. absurd (ne refl);
                tail_seen = f.tail_seen;
                at_draw = idle_at_draw r.drawn (record r.g { lock_word = x; left_quietly = lulled }) w f.at_draw.early refl;
                others = λ j b ne there. at_draw_kept r.drawn r.g (record r.g { lock_word = x; left_quietly = lulled }) b b.nobody_behind b.phase refl (λ z. shut_ ∙ z) (λ e. e) (o.each j b there).at_draw;
              }),
          ((refl, refl, known s r id v at, (let k = heard s r id v at in omega arith)), (refl, refl, refl), (refl, refl), refl, (λ timely. (holds_low timely, (λ _. ((refl, (refl, refl)), (λ z. omega arith), refl)), (λ ne. absurd (ne is))))),
        )

    stays : lock_word ≢ old → Goal
    stays ne =
        let w : View = record v { most_open = r.most_open; rounds_seen = 0; phase = Idle; counted = 0; newcomers_at_draw = 0; first_pending = 0; nobody_behind = 0 } in (
          w,
          keeps,
          tt,
          unchanged s r id v at 0 x (omega arith) (ap (λ b. either b new lock_word) (ne_eqb lock_word old ne)) w refl (heard s r id v at) (λ le. (inside le).1.1) (λ _. refl) (λ le. let f = fits s r id v at le in record { knows = f.knows; lowest = omega arith; mine = λ busy. absurd (busy refl); place = tt; told_nobody = f.told_nobody; lock_word = f.lock_word; door = door_on r.g v v.phase Idle (λ e. let z = (inside le).1.0 in cc) f.door; tail_seen = f.tail_seen; at_draw = idle_at_draw r.drawn r.g w f.at_draw.early refl }),
          ((refl, refl, known s r id v at, (let k = heard s r id v at in omega arith)), (refl, refl, refl), (refl, refl), refl, (λ timely. (holds_low timely, (λ is. absurd (ne is)), (λ _. (((inside timely).0, (refl, refl)), refl))))),
        )
