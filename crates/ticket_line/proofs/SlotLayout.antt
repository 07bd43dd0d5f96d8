-- Proofs of the theorems that `line_cells` requires about the slots of an array lock, for the ticket line.
use Rattle.std.proofs.Common.{◌≡◌, ◌≢◌, ℕ, ◌+◌, ◌<◌, [], ◌∷◌, length, set, refl, sym, ap, ◌∙◌, subst, inl, inr, ⊎_elim, arith, length-set, mod-lt}
use mathlib.Core.Logic.{dite}
use mathlib.Core.Option.{none, some}
use native.Mathlib.Decide.{ℕ_discrete}
use lib.ListN.{get_elem?}
use Rattle.atomic_table.specs.Table.{Act, chain, takes, gives, Valid, homes_after, carried_after}
use Rattle.atomic_table.proofs.Lists.{set_here, set_else}
use Rattle.line_generic.specs.declared.table.Payload.{Payload}
use Rattle.line_generic.specs.Slots.{Slots}
use Rattle.line_cells.specs.Layout.{ticket_of}
use Rattle.line_cells.specs.SlotLayout.{Homes, IsBehind, IsSpare}
use Rattle.line_cells.proofs.Slots.{MayTake, MayGive, MayKeep, LaysOne, AreSpare, stays_spare, itself}
use Rattle.line_cells.specs.Counting.{cells_for}
use Rattle.line_cells.proofs.Counting.{two_cells, some_cells}
use Rattle.line_cells.proofs.Taking.{cells_apart}
use Rattle.ticket_line.specs.Layout.{ticket_after, cell_of}
use Rattle.ticket_line.specs.Slots.{slot_of, slot_count, slot_layout, slots_at_grant}
use Rattle.ticket_line.proofs.Numbers.{cell_ticket, ticket_next}

-- in a line of n nodes, the slots of a place, of the next place and of the one after that are distinct
slot_place : (nodes p : ℕ) → slot_of nodes (ticket_of p) ≡ slot_of nodes p
slot_place nodes p = cell_ticket nodes p

slot_next : (nodes p : ℕ) → slot_of nodes (ticket_after (ticket_of p)) ≡ slot_of nodes (p + 1)
slot_next nodes p = ap (slot_of nodes) (ticket_next p) ∙ slot_place nodes (p + 1)

two_apart : (nodes p : ℕ) → slot_of nodes (ticket_of p) ≢ slot_of nodes (ticket_after (ticket_of p))
two_apart nodes p e =
    let a = slot_place nodes p in
    let b = slot_next nodes p in
    let two = two_cells nodes in
    let same : cell_of nodes (p + 1) ≡ cell_of nodes p = omega arith in
    cells_apart (cells_for nodes) p 1 (omega arith) (omega arith) same

slot_low : (nodes ticket : ℕ) → slot_of nodes ticket < slot_count nodes
slot_low nodes ticket = let low : cell_of nodes ticket < cells_for nodes = mod-lt ticket (some_cells nodes) in omega arith

pub take : (nodes : ℕ) → MayTake (slot_layout nodes)
take nodes ended homes y deep lies home =
    let here : ℕ = slot_of nodes (ticket_of ended) in
    let next : ℕ = slot_of nodes (ticket_after (ticket_of ended)) in
    let z = home next (slot_low nodes (ticket_after (ticket_of ended))) in (
      chain (takes next z.0) (takes here y),
      (z.1, set_else homes next here none (two_apart nodes ended) ∙ lies),
      length-set (set homes next none) here none ∙ length-set homes next none,
      (z.0, refl, z.2),
      λ k few inside. let x = home k few in (x.0, set_else (set homes next none) here k none (λ e. inside (inl e)) ∙ set_else homes next k none (λ e. inside (inr e)) ∙ x.1, x.2),
    )

abbrev first_payload : Payload → Slots → Payload
first_payload d [] = d
first_payload d (x ∷ xs) = x.1

pub lays_one : (nodes : ℕ) → LaysOne (slot_layout nodes)
lays_one nodes ended y z slots a b = ap (first_payload y) (sym a.1 ∙ b.1)

-- the homes once both slots are given back
abbrev given : ℕ → ℕ → Homes → Payload → Payload → Homes
given nodes ended homes y x = set (set homes (slot_of nodes (ticket_after (ticket_of ended))) (some y)) (slot_of nodes (ticket_of ended)) (some x)

module _ (nodes ended : ℕ) (homes : Homes) (y x : Payload) (deep : length homes ≡ slot_count nodes) where
  abbrev here : ℕ
  here = slot_of nodes (ticket_of ended)

  abbrev next : ℕ
  next = slot_of nodes (ticket_after (ticket_of ended))

  given_length : length (given nodes ended homes y x) ≡ length homes
  given_length = length-set (set homes next (some y)) here (some x) ∙ length-set homes next (some y)

  given_next : get_elem? (given nodes ended homes y x) next ≡ some (some y)
  given_next = set_else (set homes next (some y)) here next (some x) (λ e. two_apart nodes ended (sym e)) ∙ set_here homes next (some y) (let low = slot_low nodes (ticket_after (ticket_of ended)) in omega arith)

  given_here : get_elem? (given nodes ended homes y x) here ≡ some (some x)
  given_here = set_here (set homes next (some y)) here (some x) (let low = slot_low nodes (ticket_of ended) in let same = length-set homes next (some y) in omega arith)

  given_home : IsBehind y.turns_left y.closed x → AreSpare (slot_layout nodes) ended y homes → (k : ℕ) → k < slot_count nodes → IsSpare y.turns_left y.closed (given nodes ended homes y x) k
  given_home b spare k few = dite (ℕ_discrete k here)
      (λ e. (x, subst (λ q. get_elem? (given nodes ended homes y x) q ≡ some (some x)) (sym e) given_here, b))
      (λ ne. dite (ℕ_discrete k next)
      (λ e. (y, subst (λ q. get_elem? (given nodes ended homes y x) q ≡ some (some y)) (sym e) given_next, itself y))
      (λ nf. stays_spare y.turns_left y.closed (set homes next (some y)) here k x b (stays_spare y.turns_left y.closed homes next k y (itself y) (spare k few (λ out. ⊎_elim (λ e. ne e) (λ e. nf e) out)))))

  give_both : IsBehind y.turns_left y.closed x → AreSpare (slot_layout nodes) ended y homes → (act : Act Payload) × Valid homes ((next, y) ∷ (here, x) ∷ []) act × (length (homes_after homes ((next, y) ∷ (here, x) ∷ []) act) ≡ length homes) × (carried_after ((next, y) ∷ (here, x) ∷ []) act ≡ [])
      × (get_elem? (homes_after homes ((next, y) ∷ (here, x) ∷ []) act) (slot_of nodes (ticket_of (ended + 1))) ≡ some (some y)) × ((k : ℕ) → k < slot_count nodes → IsSpare y.turns_left y.closed (homes_after homes ((next, y) ∷ (here, x) ∷ []) act) k)
  give_both b spare = (
    chain gives gives,
    (tt, tt),
    given_length,
    refl,
    subst (λ q. get_elem? (given nodes ended homes y x) q ≡ some (some y)) (ap (slot_of nodes) (ticket_next ended)) given_next,
    given_home b spare,
  )

  abbrev far : ℕ
  far = slot_of nodes (ticket_after (ticket_of (ended + 1)))

  abbrev after : ℕ
  after = slot_of nodes (ticket_of (ended + 1))

  keep_both : IsBehind y.turns_left y.closed x → AreSpare (slot_layout nodes) ended y homes → (act : Act Payload) × Valid homes ((next, y) ∷ (here, x) ∷ []) act × (length (homes_after homes ((next, y) ∷ (here, x) ∷ []) act) ≡ length homes)
      × slots_at_grant nodes (ticket_of (ended + 1)) y (carried_after ((next, y) ∷ (here, x) ∷ []) act) × AreSpare (slot_layout nodes) (ended + 1) y (homes_after homes ((next, y) ∷ (here, x) ∷ []) act)
  keep_both b spare =
      let z = given_home b spare far (slot_low nodes (ticket_after (ticket_of (ended + 1)))) in
      let at_after : get_elem? (given nodes ended homes y x) after ≡ some (some y) = subst (λ q. get_elem? (given nodes ended homes y x) q ≡ some (some y)) (ap (slot_of nodes) (ticket_next ended)) given_next in (
        chain (chain gives gives) (chain (takes far z.0) (takes after y)),
        ((tt, tt), (z.1, set_else (given nodes ended homes y x) far after none (two_apart nodes (ended + 1)) ∙ at_after)),
        length-set (set (given nodes ended homes y x) far none) after none ∙ length-set (given nodes ended homes y x) far none ∙ given_length,
        (z.0, refl, z.2),
        λ k few inside. let u = given_home b spare k few in (u.0, set_else (set (given nodes ended homes y x) far none) after k none (λ e. inside (inl e)) ∙ set_else (given nodes ended homes y x) far k none (λ e. inside (inr e)) ∙ u.1, u.2),
      )

pub give : (nodes : ℕ) → MayGive (slot_layout nodes)
give nodes ended homes slots y deep laid spare = subst (λ (xs : Slots). (act : Act Payload) × Valid homes xs act × (length (homes_after homes xs act) ≡ length homes) × (carried_after xs act ≡ [])
    × (get_elem? (homes_after homes xs act) (slot_of nodes (ticket_of (ended + 1))) ≡ some (some y)) × ((k : ℕ) → k < slot_count nodes → IsSpare y.turns_left y.closed (homes_after homes xs act) k)) (sym laid.1) (give_both nodes ended homes y laid.0 deep laid.2 spare)

pub keep : (nodes : ℕ) → MayKeep (slot_layout nodes)
keep nodes ended homes slots y deep laid spare = subst (λ (xs : Slots). (act : Act Payload) × Valid homes xs act × (length (homes_after homes xs act) ≡ length homes)
    × slots_at_grant nodes (ticket_of (ended + 1)) y (carried_after xs act) × AreSpare (slot_layout nodes) (ended + 1) y (homes_after homes xs act)) (sym laid.1) (keep_both nodes ended homes y laid.0 deep laid.2 spare)
