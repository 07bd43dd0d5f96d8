-- Lemmas about the word of an entry, in which several fields are packed, and about how an addition changes these
-- fields.
use Rattle.std.proofs.Common.{◌≡◌, ℕ, ◌+◌, ◌*◌, ◌%◌, ◌^◌, ◌<◌, ◌≤◌, Bool, true, false, refl, ap, arith, eq-eqb, ne_eqb}
use Rattle.std.specs.Prelude.{◌==◌}
use Rattle.qolb_model.specs.declared.config.TheConstants.{MAX_NODES}
use Rattle.link_core.specs.declared.entry.Entry.{Entry}
use Rattle.link_core.specs.State.{empty}
use Rattle.link_line.specs.declared.layout.TheConstants.{GRANTED, ROLLED, DONE, FREED, LINK_UNIT}
use Rattle.link_line.specs.Layout.{one_if, pack, is_granted, is_rolled, is_done, is_freed, link_of}

pub one_if_low : (b : Bool) → one_if b ≤ 1
one_if_low true = omega arith
one_if_low false = omega arith

-- the test of a bit is the bit
bit_is : (b : Bool) (k : ℕ) → k ≡ one_if b → (k == 1) ≡ b
bit_is true k e = eq-eqb k 1 e
bit_is false k e = ne_eqb k 1 (λ z. omega arith)

pub granted_is : (e : Entry) → is_granted (pack e) ≡ e.granted
granted_is e = bit_is e.granted _ (let a = one_if_low e.granted in omega arith)

pub rolled_is : (e : Entry) → is_rolled (pack e) ≡ e.rolled
rolled_is e = bit_is e.rolled _ (let a = one_if_low e.granted in let b = one_if_low e.rolled in omega arith)

pub done_is : (e : Entry) → is_done (pack e) ≡ e.done
done_is e = bit_is e.done _ (let a = one_if_low e.granted in let b = one_if_low e.rolled in let c = one_if_low e.done in omega arith)

pub freed_is : (e : Entry) → is_freed (pack e) ≡ e.freed
freed_is e = bit_is e.freed _ (let a = one_if_low e.granted in let b = one_if_low e.rolled in let c = one_if_low e.done in let d = one_if_low e.freed in omega arith)

pub link_is : (e : Entry) → link_of (pack e) ≡ e.link
link_is e = let a = one_if_low e.granted in let b = one_if_low e.rolled in let c = one_if_low e.done in let d = one_if_low e.freed in omega arith

pub pack_empty : pack empty ≡ 0
pack_empty = refl

-- each field is added while it is unset
module _ (e : Entry) (small : pack e < 18446744073709551616) where
  bits : (one_if e.granted ≤ 1) × (one_if e.rolled ≤ 1) × (one_if e.done ≤ 1) × (one_if e.freed ≤ 1)
  bits = (one_if_low e.granted, one_if_low e.rolled, one_if_low e.done, one_if_low e.freed)

  pub add_granted : e.granted ≡ false → (pack e + GRANTED) % 2 ^ 64 ≡ pack (record e { granted = true })
  add_granted u = let z : one_if e.granted ≡ 0 = ap one_if u in let b = bits in let s = small in omega arith

  pub add_rolled : e.rolled ≡ false → (pack e + ROLLED) % 2 ^ 64 ≡ pack (record e { rolled = true })
  add_rolled u = let z : one_if e.rolled ≡ 0 = ap one_if u in let b = bits in let s = small in omega arith

  pub add_done : e.done ≡ false → (pack e + DONE) % 2 ^ 64 ≡ pack (record e { done = true })
  add_done u = let z : one_if e.done ≡ 0 = ap one_if u in let b = bits in let s = small in omega arith

  pub add_freed : e.freed ≡ false → (pack e + FREED) % 2 ^ 64 ≡ pack (record e { freed = true })
  add_freed u = let z : one_if e.freed ≡ 0 = ap one_if u in let b = bits in let s = small in omega arith

  pub add_link : (n : ℕ) → n ≤ MAX_NODES → e.link ≡ 0 → (pack e + LINK_UNIT * n) % 2 ^ 64 ≡ pack (record e { link = n })
  add_link n l u = let z : e.link ≡ 0 = u in let b = bits in let s = small in omega arith
