use Rattle.std.proofs.Common.{◌≡◌, ◌≤◌, ◌+◌, length, false, is_err, arith, rules}
use Rattle.qolb_script.proofs.CommandLemmas.{placed_at-long, decoded, placed_at-fits}
use Rattle.qolb_script.proofs.command_reader.placed_at.Goals as goal

pub returns-then-len-gt-MAX_BYTES : goal.returns-then-len-gt-MAX_BYTES
returns-then-len-gt-MAX_BYTES c = placed_at-long c.args.place c.args.off c.args.hex.now (omega arith)

pub returns : goal.returns
returns c =
    let ok : is_err c.decode_to_slice.result ≡ false = search rules in
    let fits : c.args.off + length c.decode_to_slice.new.out ≤ 64 = search rules in
    let same = decoded c.args.hex.now _ c.decode_to_slice.result c.decode_to_slice.new.out c.decode_to_slice.ensures.value ok in
    placed_at-fits c.args.place c.args.off c.in-Some.mask c.in-Some.bytes c.args.hex.now c.decode_to_slice.new.out same fits c.in-Some.ensures.mask c.in-Some.ensures.line
