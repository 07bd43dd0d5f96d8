use Rattle.std.proofs.Common.{ℕ, ◌==◌, ◌<◌, length, rules}
use Rattle.std.proofs.lemmas.List.{take_rest}
use Rattle.std.proofs.lemmas.List.Sums.{position_or_len_is}
use Rattle.std.proofs.lemmas.List.Splits.{slice_split_none, slice_split_first}
use Rattle.std.specs.List.{position_or_len}
use Rattle.qolb_script.proofs.text.split_once.Goals as goal

pub returns-in-Some-clause-parts : goal.returns-in-Some-clause-parts
returns-in-Some-clause-parts c =
    let bytes = c.args.bytes.now in
    let found = position_or_len_is (λ (b : ℕ). b == c.args.separator) bytes c.in-Some.end 0 (search rules) (search rules) (search rules) in
    let within : position_or_len (λ (b : ℕ). b == c.args.separator) bytes < length bytes = rw found (search rules) in
    let cut = slice_split_first (λ (b : ℕ). b == c.args.separator) bytes 0 within in
    rw take_rest (rw found at cut)

pub returns-in-None-clause-parts : goal.returns-in-None-clause-parts
returns-in-None-clause-parts c = slice_split_none (λ (b : ℕ). b == c.args.separator) c.args.bytes.now (λ k d h. search rules)
