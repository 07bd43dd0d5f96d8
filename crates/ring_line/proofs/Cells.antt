-- Lemmas about how each atomic step on a cell changes the contents of the cell.
use Rattle.std.proofs.Common.{◌≡◌, ◌≢◌, ℕ, ◌+◌, ◌-◌, ◌*◌, ◌/◌, ◌%◌, ◌^◌, ◌<◌, ◌≤◌, Bool, true, sym, refl, ap, ◌∙◌, subst, arith}
use mathlib.Core.Logic.{dite}
use native.Mathlib.Decide.{ℕ_discrete, dec_le}
use Rattle.atomic_table.proofs.Lists.{one_turn}
use Rattle.qolb_model.proofs.Updates.{put, put_here, put_else}
use Rattle.line_cells.specs.declared.layout.TheConstants.{CELLS}
use Rattle.ring_line.specs.Layout.{cell_of}
use Rattle.line_cells.proofs.Taking.{Takes, StaysBehind, cells_apart}
use Rattle.line_cells.proofs.Roll.{Withdraws}
use Rattle.line_cells.proofs.Grant.{GrantsNext}
use Rattle.ring_line.specs.declared.layout.TheConstants.{WITHDRAWN_UNIT}
use Rattle.ring_line.specs.Ring.{RingCells}
use Rattle.ring_line.specs.Steps.{is_blank, is_granted, seen, withdrawn_by}

-- a granted cell has 1, which no node reads as waiting, and a node that takes the line may leave any word there
pub takes_by : (waits : ℕ → ℕ → Type 0) (place n : ℕ) (change : ℕ → ℕ) → (waits place 1 → ⊥) → Takes CELLS RingCells waits place n change
takes_by waits place n change granted cleared marks says low free c = (
  (λ w. granted (subst (waits place) (c.granted refl) w)),
  record {
    blank = λ e. absurd (cc e);
    granted = λ e. absurd (omega arith);
    later = λ k a b. put_else says (cell_of place) (change (says (cell_of place))) (cell_of (place + k)) (cells_apart CELLS place k a b) ∙ c.later k a b;
  },
)

pub takes : (place n : ℕ) (change : ℕ → ℕ) → Takes CELLS RingCells is_blank place n change
takes place n change = takes_by is_blank place n change (λ z. absurd (omega arith))

-- behind the turn a cell with no mark is blank
blank_behind : (ended holder place : ℕ) (cleared : Bool) (marks says : ℕ → ℕ) → ended < place → place < ended + CELLS → marks place ≡ 0 → RingCells ended holder cleared marks says → says (cell_of place) ≡ 0
blank_behind ended holder place cleared marks says below near free c = let k : ended + (place - ended) ≡ place = omega arith in
    ap (λ q. says (cell_of q)) (sym k) ∙ c.later (place - ended) (omega arith) (omega arith) ∙ ap (λ q. WITHDRAWN_UNIT * marks q) k ∙ ap (λ m. WITHDRAWN_UNIT * m) free

pub stays_by : (shows_turn : ℕ → ℕ → Type 0) (place : ℕ) → (shows_turn place 0 → ⊥) → StaysBehind CELLS RingCells shows_turn place
stays_by shows_turn place blank ended holder cleared marks says below near free c some = blank (subst (shows_turn place) (blank_behind ended holder place cleared marks says below near free c) some)

pub stays : (place : ℕ) → StaysBehind CELLS RingCells is_granted place
stays place = stays_by is_granted place (λ some. some refl)

-- what a word becomes when a number is added to it
abbrev pub added : ℕ → ℕ → ℕ
added word d = (word + d) % 2 ^ 64

-- a number is added to a blank cell
pub withdraws : (place n d : ℕ) → d ≡ WITHDRAWN_UNIT * n → Withdraws CELLS RingCells place n (λ w. added w d)
withdraws place n d add ended holder cleared marks says low high below near free c = record {
  blank = λ e. put_else says (cell_of place) (added (says (cell_of place)) d) (cell_of ended) (apart ended (omega arith) (omega arith) (λ z. omega arith)) ∙ c.blank e;
  granted = λ e. put_else says (cell_of place) (added (says (cell_of place)) d) (cell_of ended) (apart ended (omega arith) (omega arith) (λ z. omega arith)) ∙ c.granted e;
  later = λ k a b. dite (ℕ_discrete (ended + k) place)
      (λ e. ap (λ q. put says (cell_of place) (added (says (cell_of place)) d) (cell_of q)) e ∙ put_here says (cell_of place) (added (says (cell_of place)) d) ∙ sum ∙ ap (λ q. WITHDRAWN_UNIT * q) (sym (ap (put marks place n) e ∙ put_here marks place n)))
      (λ ne. put_else says (cell_of place) (added (says (cell_of place)) d) (cell_of (ended + k)) (apart (ended + k) (omega arith) (omega arith) ne) ∙ c.later k a b ∙ ap (λ q. WITHDRAWN_UNIT * q) (sym (put_else marks place n (ended + k) ne)));
}
  where
    apart : (p : ℕ) → ended ≤ p → p < ended + CELLS → p ≢ place → cell_of p ≢ cell_of place
    apart p a b ne e = dite (dec_le p place) (λ l. ne (one_turn p place CELLS l (omega arith) e)) (λ g. ne (sym (one_turn place p CELLS (omega arith) (omega arith) (sym e))))

    sum : added (says (cell_of place)) d ≡ WITHDRAWN_UNIT * n
    sum = let blank = blank_behind ended holder place cleared marks says below near free c in omega arith

-- once the cell at its turn is cleared, the next one is granted
pub grants : (ended : ℕ) → GrantsNext CELLS RingCells seen withdrawn_by ended true (λ w. added w 1)
grants ended holder marks says far c = (
  (λ free. (
    (let f = found in omega arith),
    record {
      blank = λ e. absurd (cc e);
      granted = λ _. put_here says (cell_of (ended + 1)) (added (says (cell_of (ended + 1))) 1) ∙ (let f = found in let one : added (says (cell_of (ended + 1))) 1 ≡ 1 = omega arith in one);
      later = later_cells;
    },
  )),
  (λ rolled high held. (
    (λ z. let f = found in absurd (omega arith)),
    (let f = found in let by : says (cell_of (ended + 1)) / WITHDRAWN_UNIT ≡ marks (ended + 1) = omega arith in by),
    record {
      blank = λ e. absurd (cc e);
      granted = λ e. absurd (omega arith);
      later = later_cells;
    },
  )),
)
  where
    found : says (cell_of (ended + 1)) ≡ WITHDRAWN_UNIT * marks (ended + 1)
    found = c.later 1 (omega arith) (omega arith)

    -- the last cell is the one that was cleared
    old : (k : ℕ) → 0 < k → k < CELLS → Dec (k + 1 ≡ CELLS) → says (cell_of (ended + 1 + k)) ≡ WITHDRAWN_UNIT * marks (ended + 1 + k)
    old k a b (yes last) = let n : ended + 1 + k ≡ ended + CELLS = omega arith in let w : cell_of (ended + 1 + k) ≡ cell_of ended = omega arith in
        let m : marks (ended + 1 + k) ≡ 0 = ap marks n ∙ far in ap says w ∙ c.blank refl ∙ (let z : 0 ≡ WITHDRAWN_UNIT * marks (ended + 1 + k) = omega arith in z)
    old k a b (no ne) = let n : ended + (k + 1) ≡ ended + 1 + k = omega arith in subst (λ q. says (cell_of q) ≡ WITHDRAWN_UNIT * marks q) n (c.later (k + 1) (omega arith) (omega arith))

    later_cells : (k : ℕ) → 0 < k → k < CELLS → put says (cell_of (ended + 1)) (added (says (cell_of (ended + 1))) 1) (cell_of (ended + 1 + k)) ≡ WITHDRAWN_UNIT * marks (ended + 1 + k)
    later_cells k a b = put_else says (cell_of (ended + 1)) (added (says (cell_of (ended + 1))) 1) (cell_of (ended + 1 + k)) (cells_apart CELLS (ended + 1) k a b) ∙ old k a b (ℕ_discrete (k + 1) CELLS)
