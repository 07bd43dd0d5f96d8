-- Lemmas about the hexadecimal bytes of a `write` command: when they are refused, and where they are placed in the 64
-- bytes of data that the lock protects.
use Rattle.std.proofs.Common.{◌≡◌, ℕ, ◌+◌, ◌*◌, ◌/◌, ◌<◌, ◌≤◌, nat_le, false, true, is_err, List, length, Result, Ok, Err, MatchResult, refl, sym, ap, ◌∙◌, arith}
use Rattle.hex.specs.Hex.{decode_of, decode_sized}
use Rattle.hex.specs.declared.error.FromHexError.{FromHexError}
use Rattle.hex.proofs.HexLemmas.{decode_of-ok, decode_sized-ok, decode_sized-twice}
use Rattle.std.proofs.lemmas.Bool.Decides.{nat_tests}
use Rattle.line_lanes.specs.Mask.{placed_mask}
use Rattle.line_lanes.specs.Line.{placed_line}
use Rattle.line_lanes.specs.declared.line.Mask.{Mask}
use Rattle.line_lanes.specs.declared.line.Line64.{Line64}
use Rattle.qolb_script.specs.Commands.{placed_at}
use Rattle.qolb_script.specs.declared.reason.Reason.TheVariants.{Hex, Fit}

too_many : (place off : ℕ) (hex : List ℕ) (d : Result (List ℕ) FromHexError) → decode_of hex ≡ d → 64 < length hex / 2 → Err (Fit place) ≡ placed_at place off hex d
too_many place off hex (Err e) same long =
    let many : nat_le (length hex / 2) 64 ≡ false = grind (arith, nat_tests) in
    rw many refl
too_many place off hex (Ok bytes) same long =
    let twice : length hex ≡ 2 * length bytes = (decode_of-ok hex bytes same).2 in
    let past : nat_le (off + length bytes) 64 ≡ false = grind (arith, nat_tests) in
    rw past refl

-- a word for more bytes than a line has is refused
pub placed_at-long : (place off : ℕ) (hex : List ℕ) → 64 < length hex / 2 → Err (Fit place) ≡ placed_at place off hex (decode_of hex)
placed_at-long place off hex long = too_many place off hex (decode_of hex) refl long

-- a short word that does not decode is not hex
no_hex : (place off : ℕ) (hex : List ℕ) (d : Result (List ℕ) FromHexError) → length hex / 2 ≤ 64 → is_err d ≡ true → Err (Hex place) ≡ placed_at place off hex d
no_hex place off hex (Ok bytes) short bad = cc
no_hex place off hex (Err e) short bad =
    let few : nat_le (length hex / 2) 64 ≡ true = grind (arith, nat_tests) in
    rw few refl

not_sized : (hex : List ℕ) (d : Result (List ℕ) FromHexError) → decode_of hex ≡ d → is_err (decode_sized hex (length hex / 2)) ≡ true → is_err d ≡ true
not_sized hex (Err e) same bad = refl
not_sized hex (Ok bytes) same bad =
    let twice : length hex ≡ 2 * length bytes = (decode_of-ok hex bytes same).2 in
    let half : length hex ≡ 2 * (length hex / 2) = omega arith in
    let sized : is_err (decode_sized hex (length hex / 2)) ≡ false = ap is_err (decode_sized-twice hex (length hex / 2) half ∙ same) in
    cc

not_decoded : (d : Result (List ℕ) FromHexError) (r : Result (Unit {0}) FromHexError) (out : List ℕ)
    → MatchResult d (λ bytes. (r ≡ Ok tt) × (out ≡ bytes)) (λ e. r ≡ Err e) → is_err r ≡ true → is_err d ≡ true
not_decoded (Ok bytes) r out h bad = let ok : is_err r ≡ false = ap is_err h.0 in cc
not_decoded (Err e) r out h bad = refl

pub placed_at-no_hex : (place off : ℕ) (hex : List ℕ) (r : Result (Unit {0}) FromHexError) (out : List ℕ) → length hex / 2 ≤ 64
    → MatchResult (decode_sized hex (length hex / 2)) (λ bytes. (r ≡ Ok tt) × (out ≡ bytes)) (λ e. r ≡ Err e) → is_err r ≡ true
    → Err (Hex place) ≡ placed_at place off hex (decode_of hex)
placed_at-no_hex place off hex r out short h bad =
    no_hex place off hex (decode_of hex) short (not_sized hex (decode_of hex) refl (not_decoded (decode_sized hex (length hex / 2)) r out h bad))

decoded_so : (d : Result (List ℕ) FromHexError) (r : Result (Unit {0}) FromHexError) (out : List ℕ)
    → MatchResult d (λ bytes. (r ≡ Ok tt) × (out ≡ bytes)) (λ e. r ≡ Err e) → is_err r ≡ false → d ≡ Ok out
decoded_so (Ok bytes) r out h ok = ap Ok (sym h.1)
decoded_so (Err e) (Ok u) out h ok = cc
decoded_so (Err e) (Err f) out h ok = cc

-- decoding into a buffer of the right size returns the decoded bytes
pub decoded : (hex : List ℕ) (n : ℕ) (r : Result (Unit {0}) FromHexError) (out : List ℕ)
    → MatchResult (decode_sized hex n) (λ bytes. (r ≡ Ok tt) × (out ≡ bytes)) (λ e. r ≡ Err e) → is_err r ≡ false → decode_of hex ≡ Ok out
decoded hex n r out h ok =
    let sized = decoded_so (decode_sized hex n) r out h ok in
    sym (decode_sized-twice hex n (decode_sized-ok hex n out sized)) ∙ sized

-- bytes that fit are placed into the line
pub placed_at-fits : (place off : ℕ) (mask : Mask) (bytes : Line64) (hex «data» : List ℕ) → decode_of hex ≡ Ok «data» → off + length «data» ≤ 64
    → mask.0 ≡ placed_mask off (length «data») → bytes.bytes ≡ placed_line off «data» → Ok (mask, bytes) ≡ placed_at place off hex (decode_of hex)
placed_at-fits place off mask bytes hex «data» same fits m b =
    let within : nat_le (off + length «data») 64 ≡ true = grind (arith, nat_tests) in
    let masks : mask ≡ record { 0 = placed_mask off (length «data») } = ap (λ (n : ℕ). let r : Mask = record { 0 = n } in r) m in
    let lines : bytes ≡ record { bytes = placed_line off «data» } = ap (λ (n : List ℕ). let r : Line64 = record { bytes = n } in r) b in
    rw (same, within, masks, lines) refl
