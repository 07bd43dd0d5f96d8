-- Lemmas about the numbers of tickets, and about the ticket number that a cell contains.
use Rattle.std.proofs.Common.{◌≡◌, ◌≢◌, ℕ, ◌+◌, ◌-◌, ◌*◌, ◌/◌, ◌%◌, ◌^◌, ◌<◌, ◌≤◌, Bool, if◌then◌else◌, sym, ap, ◌∙◌, arith, eq-eqb, ne_eqb}
use native.Mathlib.Nat.{mod-add-mod}
use lib.Pow.{mod-mod-pow}
use Rattle.atomic_table.proofs.Lists.{one_turn}
use Rattle.qolb_model.specs.declared.config.TheConstants.{MAX_NODES}
use Rattle.line_cells.specs.Counting.{cells_for}
use Rattle.line_cells.proofs.Counting.{some_cells, few_cells, wraps}
use Rattle.line_cells.specs.Layout.{ticket_of}
use Rattle.ticket_line.specs.Layout.{cell_of}
use Rattle.ticket_line.specs.declared.layout.TheConstants.{NUMBER_UNIT, NUMBERS}
use Rattle.ticket_line.specs.Layout.{ticket_after, number, granted_word, withdrawn_word, withdrawn_by, number_before}
use Rattle.ticket_line.specs.Ticket.{IsLater}

-- a place has the cell and the number of its ticket
pub cell_ticket : (nodes p : ℕ) → cell_of nodes (ticket_of p) ≡ cell_of nodes p
cell_ticket nodes p = wraps nodes p

pub number_ticket : (p : ℕ) → number (ticket_of p) ≡ number p
number_ticket p = sym (mod-add-mod (ticket_of p) NUMBERS 1) ∙ ap (λ k. (k + 1) % NUMBERS) (mod-mod-pow p 8 56) ∙ mod-add-mod p NUMBERS 1

-- the ticket after that of a place is the ticket of the next place
pub ticket_next : (p : ℕ) → ticket_after (ticket_of p) ≡ ticket_of (p + 1)
ticket_next p = mod-add-mod p (2 ^ 64) 1

pub granted_ticket : (p : ℕ) → granted_word (ticket_of p) ≡ granted_word p
granted_ticket p = ap (λ k. NUMBER_UNIT * k) (number_ticket p)

pub withdrawn_ticket : (p n : ℕ) → withdrawn_word (ticket_of p) n ≡ withdrawn_word p n
withdrawn_ticket p n = ap (λ k. NUMBER_UNIT * k + n) (number_ticket p)

-- a cell that is granted to a place has the number of that place, and so has a cell where a node withdrew
pub number_of_granted : (p word : ℕ) → word ≡ granted_word p → word / NUMBER_UNIT ≡ number p
number_of_granted p word e = omega arith

pub number_of_withdrawn : (p n word : ℕ) → n ≤ MAX_NODES → word ≡ withdrawn_word p n → word / NUMBER_UNIT ≡ number p
number_of_withdrawn p n word high e = omega arith

-- the number of a place differs from the number of the place before it with the same cell
numbers_differ : (nodes p : ℕ) → number_before nodes p ≢ number p
numbers_differ nodes p e = let some = some_cells nodes in let few = few_cells nodes in let same = one_turn (p + 1 - cells_for nodes) (p + 1) NUMBERS (omega arith) (omega arith) e in omega arith

-- a cell that is not granted yet is therefore not taken for granted
pub not_granted : (nodes p token word : ℕ) → IsLater nodes p token word → token ≡ 0 → word ≢ granted_word p
not_granted nodes p token word l none e = numbers_differ nodes p (sym (l.before none) ∙ number_of_granted p word e)

-- neither is its lower half, in which the numbers differ too
pub not_granted_half : (nodes p token word : ℕ) → IsLater nodes p token word → token ≡ 0 → word % 2 ^ 32 ≢ granted_word p % 2 ^ 32
not_granted_half nodes p token word l none e = let b = l.before none in let some = some_cells nodes in let few = few_cells nodes in absurd (omega arith)

-- a grant therefore finds the node that had withdrawn there, or 0 if none had
pub by_nobody : (nodes p token word : ℕ) → IsLater nodes p token word → token ≡ 0 → withdrawn_by (ticket_of p) word ≡ 0
by_nobody nodes p token word l none = ap (λ (b : Bool). if b then word % NUMBER_UNIT else 0) (ne_eqb (word / NUMBER_UNIT) (number (ticket_of p)) (λ e. numbers_differ nodes p (sym (l.before none) ∙ e ∙ number_ticket p)))

pub by_node : (nodes p token word : ℕ) → IsLater nodes p token word → 0 < token → token ≤ MAX_NODES → withdrawn_by (ticket_of p) word ≡ token
by_node nodes p token word l some high = let is = l.withdrawn some in
    ap (λ (b : Bool). if b then word % NUMBER_UNIT else 0) (eq-eqb (word / NUMBER_UNIT) (number (ticket_of p)) (number_of_withdrawn p token word high is ∙ sym (number_ticket p))) ∙ (let low : word % NUMBER_UNIT ≡ token = omega arith in low)
