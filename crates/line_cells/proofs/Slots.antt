-- The theorems that must be proved about the slots of each queue algorithm. They are proved here for algorithms that
-- use a single slot.
use Rattle.std.proofs.Common.{◌≡◌, ℕ, zero, suc, ◌+◌, ◌<◌, List, [], ◌∷◌, length, set, slice_index, map, Bool, false, Option, replicate, refl, ap, sym, ◌∙◌, subst, arith, length-set}
use mathlib.Core.Option.{none, some, some-ne-none}
use mathlib.Core.Logic.{dite}
use native.Mathlib.Decide.{ℕ_discrete}
use lib.ListN.{get_elem?}
use Rattle.atomic_table.specs.Table.{Act, keeps, takes, gives, Valid, homes_after, carried_after}
use Rattle.atomic_table.proofs.Lists.{set_here, set_else}
use Rattle.line_generic.specs.declared.table.Payload.{Payload}
use Rattle.line_generic.specs.Slots.{Slots, open_in_single_slot}
use Rattle.line_cells.specs.Layout.{ticket_at, ticket_of}
use Rattle.line_cells.specs.SlotLayout.{SlotLayout, Homes, IsBehind, IsSpare, one_slot}

module _ (slot_layout : SlotLayout) where
  -- all slots are at home, except those that are out
  abbrev pub AreSpare : ℕ → Payload → Homes → Type 0
  AreSpare ended y homes = (k : ℕ) → k < slot_layout.count → (slot_layout.is_out ended k → ⊥) → IsSpare y.turns_left y.closed homes k

  -- if no node has the line, a node may take it, and then has it as if it had been granted
  abbrev pub MayTake : Type 0
  MayTake = (ended : ℕ) (homes : Homes) (y : Payload) → length homes ≡ slot_layout.count → get_elem? homes (slot_layout.home_slot ended) ≡ some (some y) → ((k : ℕ) → k < slot_layout.count → IsSpare y.turns_left y.closed homes k)
      → (act : Act Payload) × Valid homes [] act × (length (homes_after homes [] act) ≡ length homes) × slot_layout.slots_at_grant ended y (carried_after [] act) × AreSpare ended y (homes_after homes [] act)

  -- a node that has stored the line for its successor may return it: at the next turn no node has it
  abbrev pub MayGive : Type 0
  MayGive = (ended : ℕ) (homes : Homes) (slots : Slots) (y : Payload) → length homes ≡ slot_layout.count → slot_layout.slots_at_release ended y slots → AreSpare ended y homes
      → (act : Act Payload) × Valid homes slots act × (length (homes_after homes slots act) ≡ length homes) × (carried_after slots act ≡ [])
      × (get_elem? (homes_after homes slots act) (slot_layout.home_slot (ended + 1)) ≡ some (some y)) × ((k : ℕ) → k < slot_layout.count → IsSpare y.turns_left y.closed (homes_after homes slots act) k)

  -- the node may keep the line for the next turn, as if it had been granted then
  abbrev pub MayKeep : Type 0
  MayKeep = (ended : ℕ) (homes : Homes) (slots : Slots) (y : Payload) → length homes ≡ slot_layout.count → slot_layout.slots_at_release ended y slots → AreSpare ended y homes
      → (act : Act Payload) × Valid homes slots act × (length (homes_after homes slots act) ≡ length homes) × slot_layout.slots_at_grant (ended + 1) y (carried_after slots act) × AreSpare (ended + 1) y (homes_after homes slots act)

  -- no other line is laid there
  abbrev pub LaysOne : Type 0
  LaysOne = (ended : ℕ) (y z : Payload) (slots : Slots) → slot_layout.slots_at_release ended y slots → slot_layout.slots_at_release ended z slots → y ≡ z

  -- these slots may go home, and no other slot is moved
  abbrev pub MayReturnSlots : Option ℕ → Slots → Type 0
  MayReturnSlots left slots = (homes : Homes) → length homes ≡ slot_layout.count
      → (act : Act Payload) × Valid homes slots act × (length (homes_after homes slots act) ≡ length homes) × (carried_after slots act ≡ []) × ((k : ℕ) (closed : Bool) → IsSpare left closed homes k → IsSpare left closed (homes_after homes slots act) k)

pub elem_within : {A : Type 0} (xs : List A) (p : ℕ) (x : A) → get_elem? xs p ≡ some x → p < length xs
elem_within [] p x e = absurd (some-ne-none x (sym e))
elem_within (y ∷ ys) zero x e = omega arith
elem_within (y ∷ ys) (suc p) x e = let h = elem_within ys p x e in omega arith

-- slots that a table is opened with are at home
pub opened_slot : (n k : ℕ) (y : Payload) → k < n → get_elem? (map some (replicate n y)) k ≡ some (some y)
opened_slot zero k y h = absurd (omega arith)
opened_slot (suc n) zero y h = refl
opened_slot (suc n) (suc k) y h = opened_slot n k y (omega arith)

pub opened_count : (n : ℕ) (y : Payload) → length (map some (replicate n y)) ≡ n
opened_count zero y = refl
opened_count (suc n) y = ap suc (opened_count n y)

-- slots that go home move no other slot from there
pub stays_spare : (left : Option ℕ) (closed : Bool) (homes : Homes) (j k : ℕ) (y : Payload) → IsBehind left closed y → IsSpare left closed homes k → IsSpare left closed (set homes j (some y)) k
stays_spare left closed homes j k y b h = dite (ℕ_discrete k j)
    (λ e. (y, subst (λ q. get_elem? (set homes j (some y)) q ≡ some (some y)) (sym e) (set_here homes j (some y) (subst (λ q. q < length homes) e (elem_within homes k (some h.0) h.1))), b))
    (λ ne. (h.0, set_else homes j k (some y) ne ∙ h.1, h.2))

-- the line is not behind itself
pub itself : (y : Payload) → IsBehind y.turns_left y.closed y
itself y = record { turns = λ e. e; is_open = λ e. e }

-- a slot that is open is behind a closed line, too
pub open_behind : (left : Option ℕ) (y : Payload) → IsBehind left false y → (closed : Bool) → IsBehind left closed y
open_behind left y b closed = record { turns = b.turns; is_open = λ _. b.is_open refl }

-- one slot

abbrev first_payload : Payload → Slots → Payload
first_payload d [] = d
first_payload d (x ∷ xs) = x.1

-- the line lies in it at the beginning and at the end
pub one_first : one_slot.home_slot 0 < one_slot.count
one_first = omega arith

pub one_last : (words : List ℕ) (n : ℕ) → slice_index words ticket_at ≡ ticket_of n → 0 ≡ one_slot.home_slot n
one_last words n is = refl

pub one_take : MayTake one_slot
one_take ended homes y deep here all = (takes 0 y, here, length-set homes 0 none, refl, λ k b out. absurd (out tt))

pub one_lays : LaysOne one_slot
one_lays ended y z slots a b = ap (first_payload y) (sym a ∙ b)

given : (homes : Homes) (y : Payload) → length homes ≡ 1 → (left : Option ℕ) (closed : Bool) → IsBehind left closed y → (k : ℕ) → k < 1 → IsSpare left closed (homes_after homes ((0, y) ∷ []) gives) k
given homes y deep left closed is zero b = (y, set_here homes 0 (some y) (omega arith), is)
given homes y deep left closed is (suc k) b = absurd (omega arith)

pub one_give : MayGive one_slot
one_give ended homes slots y deep is spare = subst
    (λ (xs : Slots). (act : Act Payload) × Valid homes xs act × (length (homes_after homes xs act) ≡ length homes) × (carried_after xs act ≡ []) × (get_elem? (homes_after homes xs act) 0 ≡ some (some y)) × ((k : ℕ) → k < 1 → IsSpare y.turns_left y.closed (homes_after homes xs act) k))
    (sym is) (gives, tt, length-set homes 0 (some y), refl, set_here homes 0 (some y) (omega arith), given homes y deep y.turns_left y.closed (itself y))

pub one_keep : MayKeep one_slot
one_keep ended homes slots y deep is spare = (keeps, tt, refl, is, λ k b out. absurd (out tt))

pub one_returns : (left : Option ℕ) (slots : Slots) → open_in_single_slot 0 left slots → MayReturnSlots one_slot left slots
one_returns left slots kept homes deep =
    let y = kept.0 in
    let b : IsBehind left false y = record { turns = λ none. kept.3 ∙ none; is_open = λ _. kept.2 } in subst
    (λ (xs : Slots). (act : Act Payload) × Valid homes xs act × (length (homes_after homes xs act) ≡ length homes) × (carried_after xs act ≡ []) × ((k : ℕ) (closed : Bool) → IsSpare left closed homes k → IsSpare left closed (homes_after homes xs act) k))
    (sym kept.1) (gives, tt, length-set homes 0 (some y), refl, λ k closed h. let w = elem_within homes k (some h.0) h.1 in given homes y deep left closed (open_behind left y b closed) k (omega arith))
