use Rattle.std.proofs.Common.{ℕ, ◌≡◌, ◌-◌, ◌*◌, ◌/◌, ◌%◌, ◌^◌, ap, ◌∙◌, arith}
use Rattle.std.proofs.lemmas.Nat.Bits.{ones_shr}
use Rattle.line_lanes.specs.Mask.{placed_mask}
use Rattle.line_lanes.proofs.Placing.{shifted_ones}
use Rattle.line_lanes.proofs.write.run_of_bits.Goals as goal

no_bits : (off : ℕ) → 0 ≡ placed_mask off 0
no_bits off = let none : 0 ≡ 0 * 2 ^ off % 2 ^ 64 = omega arith in none ∙ shifted_ones off 0

pub returns-then-len-eq0 : goal.returns-then-len-eq0
returns-then-len-eq0 c = no_bits c.args.off ∙ ap (placed_mask c.args.off) (omega arith)

pub returns : goal.returns
returns c =
    let off = c.args.off in
    let len = c.args.len in
    let ones : (2 ^ 64 - 1) / 2 ^ (64 - len) ≡ 2 ^ len - 1 = ones_shr 64 (64 - len) (omega arith) ∙ ap (λ n. 2 ^ n - 1) (omega arith) in
    ap (λ n. n * 2 ^ off % 2 ^ 64) ones ∙ shifted_ones off len
