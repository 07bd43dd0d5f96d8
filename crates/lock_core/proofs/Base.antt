-- Lemmas that the proofs of all atomic steps share.
use Rattle.std.proofs.Common.{◌≡◌, ◌≢◌, ℕ, ◌+◌, ◌%◌, ◌<◌, ◌≤◌, List, length, length-set, set, slice_index, sym, refl, ap, ◌∙◌, subst, arith, ⊎_elim, inr, ◌*◌, get_or-set_same, get_or-set_other, eqb, eq-eqb, ne_eqb}
use mathlib.Core.Logic.{dite}
use mathlib.Core.Option.{some}
use native.Mathlib.Decide.{ℕ_discrete}
use lib.ListN.{get_elem?}
use prog.Atomic.{either}
use Rattle.atomic_table.specs.Table.{State}
use Rattle.atomic_table.proofs.Lists.{at_set}
use Rattle.lock_core.specs.declared.view.View.{View}
use Rattle.lock_core.specs.declared.view.Phase.{Phase}
use Rattle.lock_core.specs.declared.view.Phase.TheVariants.{Idle, Queued, Asleep, AtTurn, Passing, HeadInside, Impossible}
use Rattle.lock_core.specs.Layout.{cell_at, bit_of, rounds_of, count_of}
use Rattle.lock_core.specs.Views.{max_open, Awaits, HasTurn}
use Rattle.lock_core.specs.Invariant.{tally, share, Ghost, Place, AtDoor, Door, AtDraw, Fits, Cell, Tickets}
use Rattle.lock_core.proofs.Words.{same_mask}
use Rattle.lock_core.proofs.Tally.{share_here, share_else, tally_set}

-- the function f with the value x at k
abbrev pub put : (ℕ → ℕ) → ℕ → ℕ → ℕ → ℕ
put f k x n = either (eqb n k) x (f n)

pub put_here : (f : ℕ → ℕ) (k x n : ℕ) → n ≡ k → put f k x n ≡ x
put_here f k x n e = ap (λ b. either b x (f n)) (eq-eqb n k e)

pub put_else : (f : ℕ → ℕ) (k x n : ℕ) → n ≢ k → put f k x n ≡ f n
put_else f k x n ne = ap (λ b. either b x (f n)) (ne_eqb n k ne)

-- what holds of each seat after a step of the seat `id`
pub each_after : (P : ℕ → View → Type 0) (views : List View) (id : ℕ) (w : View) → P id w → ((j : ℕ) (b : View) → j ≢ id → get_elem? views j ≡ some b → P j b)
    → (j : ℕ) (b : View) → get_elem? (set views id w) j ≡ some b → P j b
each_after P views id w mine others j b at = ⊎_elim (λ t. subst (λ (z : ℕ × View). P z.0 z.1) (λ i. (sym t.0 i, t.1 i)) mine) (λ t. others j b t.0 t.1) (at_set views id j w b at)

-- a word after a step on the word i
pub word_after : (words : List ℕ) (i j x : ℕ) (P : ℕ → Type 0) → i < length words → (j ≡ i → P x) → (j ≢ i → P (slice_index words j)) → P (slice_index (set words i x) j)
word_after words i j x P low here else = dite (ℕ_discrete j i)
    (λ e. subst P (sym (ap (slice_index (set words i x)) e ∙ get_or-set_same words i x 0 low)) (here e))
    (λ ne. subst P (sym (get_or-set_other words i j x 0 ne)) (else ne))

-- the cells after a step on the cell of the ticket n
pub cells_after : (words : List ℕ) (i x n : ℕ) (P : ℕ → ℕ → Type 0) → i < length words → i ≡ cell_at n → ((t : ℕ) → t % 4 ≡ n % 4 → P x t) → ((t : ℕ) → t % 4 ≢ n % 4 → P (slice_index words (cell_at t)) t)
    → (t : ℕ) → P (slice_index (set words i x) (cell_at t)) t
cells_after words i x n P low is here else t = word_after words i (cell_at t) x (λ z. P z t) low (λ e. here t (omega arith)) (λ ne. else t (λ e. ne (omega arith)))

-- the cells after a step on another word
pub cells_same : (words : List ℕ) (i x : ℕ) (P : ℕ → ℕ → Type 0) → i < 17 → ((t : ℕ) → P (slice_index words (cell_at t)) t) → (t : ℕ) → P (slice_index (set words i x) (cell_at t)) t
cells_same words i x P low old t = subst (λ z. P z t) (sym (get_or-set_other words i (cell_at t) x 0 (λ e. omega arith))) (old t)

-- a word in which only the count of sleepers has changed
pub record Recounted (found x c d : ℕ) : Type 0 where
  pub rounds : rounds_of x ≡ rounds_of found
  pub mask : x % 65536 ≡ found % 65536
  pub count : count_of x + c ≡ count_of found + d

pub recount : (g : Ghost) (n m c d found x t : ℕ) → m + c ≡ n + d → Recounted found x c d → Cell g n found t → Cell g m x t
recount g n m c d found x t e k old = record {
  high = k.rounds ∙ old.high;
  bits = λ a b. same_mask x found (bit_of t) (omega arith) k.mask ∙ old.bits a b;
  spare = λ a b. same_mask x found (bit_of t) (omega arith) k.mask ∙ old.spare a b;
  count = let a = k.count in let b = old.count in omega arith;
}

-- a step does not change the count of another cell
pub tally_else : (s : State ℕ View) (id n : ℕ) (v w : View) → get_elem? s.views id ≡ some v → v.ticket % 4 ≢ n → w.ticket % 4 ≢ n → tally n (set s.views id w) ≡ tally n s.views
tally_else s id n v w at a b = let e = tally_set n s.views id v w at in let x = share_else n v a in let y = share_else n w b in omega arith

-- how a step changes the count of the seat's own cell
pub tally_here : (s : State ℕ View) (id n : ℕ) (v w : View) → get_elem? s.views id ≡ some v → v.ticket % 4 ≡ n → w.ticket % 4 ≡ n → tally n (set s.views id w) + v.counted ≡ tally n s.views + w.counted
tally_here s id n v w at a b = let e = tally_set n s.views id v w at in let x = share_here n v a in let y = share_here n w b in omega arith

-- no count changes if the seat is not counted before and after the step
pub tally_none : (s : State ℕ View) (id n : ℕ) (v w : View) → get_elem? s.views id ≡ some v → v.counted ≡ 0 → w.counted ≡ 0 → tally n (set s.views id w) ≡ tally n s.views
tally_none s id n v w at a b = let e = tally_set n s.views id v w at in let x : share n v ≡ 0 = none v a in let y : share n w ≡ 0 = none w b in omega arith
  where
    none : (u : View) → u.counted ≡ 0 → share n u ≡ 0
    none u z = dite (ℕ_discrete (u.ticket % 4) n) (λ e. share_here n u e ∙ z) (λ ne. share_else n u ne)

-- what the invariant says of a seat's open request, if the lock is timely
module _ {fl : ℕ} (s : State ℕ View) (r : Tickets fl s) (id : ℕ) (v : View) (at : get_elem? s.views id ≡ some v) where
  pub known : v.most_open ≤ r.most_open
  known = r.seen id v at

  pub heard : v.newcomers_seen ≤ r.g.newcomers
  heard = r.heard id v at

  pub fits : (le : r.most_open ≤ max_open) → Fits fl r.drawn r.owner r.who r.g id v
  fits le = (r.granted le).each id v at

  -- another seat with an open request has another ticket
  pub other : (le : r.most_open ≤ max_open) (j : ℕ) (b : View) → j ≢ id → v.phase ≢ Idle → b.phase ≢ Idle → get_elem? s.views j ≡ some b → b.ticket ≢ v.ticket
  other le j b ne busy busy' there e = ne (sym (((r.granted le).each j b there).mine busy').2 ∙ ap r.owner e ∙ ((fits le).mine busy).2)

  pub place_of : (le : r.most_open ≤ max_open) (p : Phase) → v.phase ≡ p → Place fl r.g v p
  place_of le p e = subst (Place fl r.g v) e (fits le).place

  -- two seats at the door are the same seat
  pub door_apart : (le : r.most_open ≤ max_open) (j : ℕ) (b : View) → j ≢ id → AtDoor fl v.inside v.phase → get_elem? s.views j ≡ some b → AtDoor fl b.inside b.phase → ⊥
  door_apart le j b ne here there_at there =
      let f = fits le in
      let h = (r.granted le).each j b there_at in
      ⊎_elim
      (λ a. ⊎_elim
      (λ d.
      let p : Place fl r.g v AtTurn = subst (Place fl r.g v) a.1 f.place in
      let q : Place fl r.g b AtTurn = subst (Place fl r.g b) d.1 h.place in
      other le j b ne (λ e. let z = a.1 in cc) (λ e. let z = d.1 in cc) there_at (q.0.turn ∙ sym p.0.turn))
      (λ d. let z = (h.lock_word.occupant d).0 in let y = a.0 in omega arith)
      there)
      (λ a. ⊎_elim (λ d. let z = (f.lock_word.occupant a).0 in let y = d.0 in omega arith) (λ d. ne (sym (h.lock_word.occupant d).2 ∙ (f.lock_word.occupant a).2)) there)
      here

-- the ticket of a caller that has the turn
pub turn_of_place : (fl : ℕ) (g : Ghost) (v : View) → HasTurn v → Place fl g v v.phase → v.ticket ≡ g.turn
turn_of_place fl g v served k = ⊎_elim (λ e. let p : Place fl g v AtTurn = subst (Place fl g v) e k in p.0.turn) (λ e. let p : Place fl g v HeadInside = subst (Place fl g v) e k in p.0.turn) served

pub busy_of : (v : View) → HasTurn v → v.phase ≢ Idle
busy_of v served idle = ⊎_elim (λ e. cc) (λ e. cc) served

-- what a seat was told at the door stays true while the seat goes on
pub door_on : {fl : ℕ} (g : Ghost) (v : View) (p q : Phase) → p ≢ AtTurn → Door fl g v p → Door fl g v q
door_on g v p q ne d some_ = let k = d some_ in (k.0, k.1, ⊎_elim (λ h. absurd (ne h.1)) (λ h. inr h) k.2)

-- the same after its turn by a ticket: what the seat was told stays true while it holds the lock word
abbrev pub told_in : View → ℕ
told_in v = either (eqb v.inside 1) v.door 0

pub told_in_same : (v : View) → v.inside ≡ 1 → told_in v ≡ v.door
told_in_same v e = ap (λ b. either b v.door 0) (eq-eqb v.inside 1 e)

pub door_left : {fl : ℕ} (g : Ghost) (v : View) (p q : Phase) → Door fl g v p → Door fl g (record v { door = told_in v }) q
door_left g v p q d some_ = dite (ℕ_discrete v.inside 1)
    (λ one. let k = d (λ e. some_ (told_in_same v one ∙ e)) in (told_in_same v one ∙ k.0, k.1, inr one))
    (λ ne. absurd (some_ (ap (λ b. either b v.door 0) (ne_eqb v.inside 1 ne))))

-- what holds of the request does not depend on what the seat knows of the lock word
pub place_told : (fl : ℕ) (g : Ghost) (v : View) (most told barred era holds nap naps probe ripe alone : ℕ) (p : Phase) → Place fl g v p → Place fl g (record v { most_open = most; door = told; knows_shut = barred; epoch = era; takes_seen = holds; slept_in_take = nap; sleeps_at_lock_word = naps; tail_seen = probe; next_is_at_turn = ripe; nobody_behind = alone }) p
place_told fl g v most told barred era holds nap naps probe ripe alone Idle k = k
place_told fl g v most told barred era holds nap naps probe ripe alone Queued k = k
place_told fl g v most told barred era holds nap naps probe ripe alone Asleep k = k
place_told fl g v most told barred era holds nap naps probe ripe alone AtTurn k = k
place_told fl g v most told barred era holds nap naps probe ripe alone Passing k = k
place_told fl g v most told barred era holds nap naps probe ripe alone HeadInside k = k
place_told fl g v most told barred era holds nap naps probe ripe alone Impossible k = k

-- what holds of the request of a seat that has no request, and of a seat that goes on
pub idle_at_draw : (drawn : ℕ) (g : Ghost) (v : View) → v.drawn_in_epoch ≤ g.epoch → v.nobody_behind ≡ 0 → AtDraw drawn g v Idle
idle_at_draw drawn g v early none_ = record { stamped = λ ne. absurd (ne refl); early = early; open_then = λ waits. absurd (⊎_elim (λ e. cc) (λ e. cc) waits); shut_then = λ waits. absurd (⊎_elim (λ e. cc) (λ e. cc) waits); nobody_behind = λ one. absurd (omega arith) }

pub at_draw_on : (drawn : ℕ) (g : Ghost) (v : View) (p q : Phase) → p ≢ Idle → (Awaits q → Awaits p) → AtDraw drawn g v p → AtDraw drawn g (record v { nobody_behind = 0 }) q
at_draw_on drawn g v p q busy waits k = record { stamped = λ _. k.stamped busy; early = k.early; open_then = λ w. k.open_then (waits w); shut_then = λ w. k.shut_then (waits w); nobody_behind = λ one. absurd (omega arith) }

-- stamping tickets changes nothing about the requests
pub place_stamped : (fl : ℕ) (g : Ghost) (stamp : ℕ → ℕ) (v : View) (p : Phase) → Place fl g v p → Place fl (record g { drawn_open = stamp }) v p
place_stamped fl g stamp v Idle k = k
place_stamped fl g stamp v Queued k = k
place_stamped fl g stamp v Asleep k = k
place_stamped fl g stamp v AtTurn k = k
place_stamped fl g stamp v Passing k = k
place_stamped fl g stamp v HeadInside k = k
place_stamped fl g stamp v Impossible k = k

-- the most newcomers between two queue heads, where d is the number of tickets
pub in_bounds : (fl fellows total since number first by d : ℕ) → fellows ≡ fl → d + first ≡ number + 1 → total + fl * first ≤ since + fl * number + by → by ≤ fl → total ≤ since + fellows * d
in_bounds fl fellows total since number first by d same_ sum_ overtaking few =
    let e : fl * (d + first) ≡ fl * (number + 1) = ap (λ z. fl * z) sum_ in
    subst (λ z. total ≤ since + z * d) (sym same_) (omega arith)

-- a step that changes no word, and no view except the seat's own
module _ {fl : ℕ} (s : State ℕ View) (r : Tickets fl s) (id : ℕ) (v : View) (at : get_elem? s.views id ≡ some v) (i x : ℕ) (low : i < 21) (x_is : x ≡ slice_index s.words i) (w : View) where
  pub unchanged : w.most_open ≡ r.most_open → w.newcomers_seen ≤ r.g.newcomers → (r.most_open ≤ max_open → v.counted ≡ 0) → (r.most_open ≤ max_open → w.counted ≡ 0) → (r.most_open ≤ max_open → Fits fl r.drawn r.owner r.who r.g id w) → Tickets fl record { words = set s.words i x; homes = s.homes; views = set s.views id w }
  unchanged same_most begun none_before none_after fit = record {
    drawn = r.drawn;
    most_open = r.most_open;
    owner = r.owner;
    who = r.who;
    g = r.g;
    tail = old 16 ∙ r.tail;
    lock_word = old 0 ∙ r.lock_word;
    wide = length-set s.words i x ∙ r.wide;
    guard = r.guard;
    seen = each_after (λ j b. b.most_open ≤ r.most_open) s.views id w (omega arith) (λ j b ne there. r.seen j b there);
    heard = each_after (λ j b. b.newcomers_seen ≤ r.g.newcomers) s.views id w begun (λ j b ne there. r.heard j b there);
    granted = λ le.
        let o = r.granted le in
        let all : (k : ℕ) → tally k (set s.views id w) ≡ tally k s.views = λ k. tally_none s id k v w at (none_before le) (none_after le) in record {
          within = o.within;
          few = o.few;
          counts = o.counts;
          marks = o.marks;
          crowd = λ k. let e = all k in let q = o.crowd k in omega arith;
          cells = λ t. subst (λ z. Cell r.g (tally (t % 4) (set s.views id w)) z t) (sym (old (cell_at t))) (subst (λ z. Cell r.g z (slice_index s.words (cell_at t)) t) (sym (all (t % 4))) (o.cells t));
          idle = o.idle;
          each = each_after (Fits fl r.drawn r.owner r.who r.g) s.views id w (fit le) (λ j b ne there. o.each j b there);
        };
  }
    where
      old : (j : ℕ) → slice_index (set s.words i x) j ≡ slice_index s.words j
      old j = word_after s.words i j x (λ z. z ≡ slice_index s.words j) (let l = r.wide in omega arith) (λ e. x_is ∙ ap (slice_index s.words) (sym e)) (λ ne. refl)
