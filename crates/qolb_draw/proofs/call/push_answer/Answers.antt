use Rattle.std.proofs.Common.{◌≡◌, ◌-◌, ◌++◌, ◌∷◌, [], length, ap, arith, length-append}
use Rattle.std.specs.Vec.{vec_len}
use Rattle.qolb_script.specs.Said.{said_words}
use Rattle.qolb_draw.proofs.Texts.{last_taken}
use Rattle.qolb_draw.proofs.call.push_answer.Goals as goal

pub returns : goal.returns
returns g c =
    let long = ap length c.in_ok-push_said.ensures.ok in
    let whole = length-append c.args.text.now.items (said_words c.args.said.now ++ 10 ∷ []) in
    let last = length-append (said_words c.args.said.now) (10 ∷ []) in
    let front = length-append c.args.text.now.items (said_words c.args.said.now) in
    let count : vec_len c.push_said.new.text - 1 ≡ length (c.args.text.now.items ++ said_words c.args.said.now) = omega (arith, c.push_said.new.text.ok) in
    last_taken c.args.text.now.items (said_words c.args.said.now) c.push_said.new.text.items c.pop.new.self.items (vec_len c.push_said.new.text - 1) c.in_ok-push_said.ensures.ok count c.pop.ensures.rest
