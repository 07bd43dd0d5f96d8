-- Lemmas about `cells_for`, which gives the least power of two that is greater than the number of nodes.
use Rattle.std.proofs.Common.{◌≡◌, ℕ, zero, suc, ◌+◌, ◌-◌, ◌%◌, ◌^◌, ◌<◌, ◌≤◌, Bool, if◌then◌else◌, inl, inr, sym, ap, ◌∙◌, subst, arith}
use Rattle.std.proofs.Math.Nat.{pow-le-pow_right}
use Rattle.std.proofs.lemmas.Bool.{lt-ltb, le-ltb, cases_lt}
use Rattle.std.proofs.lemmas.Nat.{pow_pos, and_mask}
use lib.Bits.{bit_and}
use lib.Pow.{mod-mod-pow}
use Rattle.qolb_model.specs.declared.config.TheConstants.{MAX_NODES}
use Rattle.line_cells.specs.Counting.{least, cells_for, mask_for}
use Rattle.line_cells.specs.Layout.{cell_of, ticket_of}

-- the least number with one more bit, if `bits` are not enough
least_more : (more bits nodes : ℕ) → 2 ^ bits ≤ nodes → least (suc more) bits nodes ≡ least more (bits + 1) nodes
least_more more bits nodes h = ap (λ (b : Bool). if b then bits else least more (bits + 1) nodes) (le-ltb nodes (2 ^ bits) h)

least_here : (more bits nodes : ℕ) → nodes < 2 ^ bits → least (suc more) bits nodes ≡ bits
least_here more bits nodes h = ap (λ (b : Bool). if b then bits else least more (bits + 1) nodes) (lt-ltb nodes (2 ^ bits) h)

-- the least number of bits is enough for each number of nodes up to the one that it was computed for
enough : (more bits nodes n : ℕ) → n ≤ nodes → n < 2 ^ (bits + more) → n < 2 ^ least more bits nodes
enough zero bits nodes n low h = let e : bits + 0 ≡ bits = omega arith in subst (λ (k : ℕ). n < 2 ^ k) e h
enough (suc more) bits nodes n low h = elim (cases_lt nodes (2 ^ bits)) [
  | inl few ↦ subst (λ (k : ℕ). n < 2 ^ k) (sym (least_here more bits nodes few)) (omega arith)
  | inr many ↦ subst (λ (k : ℕ). n < 2 ^ k) (sym (least_more more bits nodes many)) (enough more (bits + 1) nodes n low (let e : bits + suc more ≡ bits + 1 + more = omega arith in subst (λ (k : ℕ). n < 2 ^ k) e h))
]

-- the number of bits is within its limits
near : (more bits nodes : ℕ) → (bits ≤ least more bits nodes) × (least more bits nodes ≤ bits + more)
near zero bits nodes = (omega arith, omega arith)
near (suc more) bits nodes = elim (cases_lt nodes (2 ^ bits)) [
  | inl few ↦ let e = least_here more bits nodes few in (omega arith, omega arith)
  | inr many ↦ let e = least_more more bits nodes many in let n = near more (bits + 1) nodes in (omega arith, omega arith)
]

-- there are more cells than nodes, from 2 to 256
pub node_below : (nodes n : ℕ) → n ≤ nodes → n ≤ MAX_NODES → n < cells_for nodes
unfolding cells_for
node_below nodes n low few = enough 7 1 nodes n low (omega arith)

pub two_cells : (nodes : ℕ) → 2 ≤ cells_for nodes
unfolding cells_for
two_cells nodes = let h : 2 ^ 1 ≤ 2 ^ least 7 1 nodes = pow-le-pow_right {n = 2} (omega arith) (near 7 1 nodes).0 in h

pub few_cells : (nodes : ℕ) → cells_for nodes ≤ 256
unfolding cells_for
few_cells nodes = pow-le-pow_right {n = 2} (omega arith) (near 7 1 nodes).1

pub some_cells : (nodes : ℕ) → 0 < cells_for nodes
unfolding cells_for
some_cells nodes = pow_pos (least 7 1 nodes)

-- a place has the cell of its ticket
pub wraps : (nodes place : ℕ) → cell_of (cells_for nodes) (ticket_of place) ≡ cell_of (cells_for nodes) place
unfolding cells_for
wraps nodes place =
    let bits = least 7 1 nodes in
    let few = (near 7 1 nodes).1 in
    let e : 64 - bits + bits ≡ 64 = omega arith in
    subst (λ (k : ℕ). place % 2 ^ k % 2 ^ bits ≡ place % 2 ^ bits) e (mod-mod-pow place (64 - bits) bits)

-- the mask finds the cell
pub masked : (nodes ticket mask : ℕ) → mask ≡ mask_for nodes → bit_and ticket mask ≡ cell_of (cells_for nodes) ticket
unfolding cells_for
masked nodes ticket mask is = ap (bit_and ticket) is ∙ and_mask ticket (least 7 1 nodes)
