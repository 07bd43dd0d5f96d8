use Rattle.std.proofs.Common.{◌≡◌, ◌<◌, ◌+◌, length, Ok, IsOk, take, arith, rules}
use Rattle.qolb_script.specs.Commands.{read_line}
use Rattle.qolb_script.specs.Script.{items_of}
use Rattle.qolb_script.specs.Reading.{lines_left}
use Rattle.qolb_script.proofs.ScriptLemmas.{all_read, begun, item_read, longer}
use Rattle.qolb_script.proofs.text.NumberedLines.read_items.Goals as goal

pub loop-number-preserved : goal.loop-number-preserved
loop-number-preserved g c =
    let few : length c.loop-number.items.items < 100000 = search rules in
    let found : read_line (g.R.ReadItem.item_of c.args.reader.now) c.in-Some.line.now ≡ Ok c.in-Ok.item = search rules in
    let fits : g.R.ReadItem.in_range c.args.reader.now c.in-Ok.item = search rules in
    let one_more : length c.push.new.self.items ≡ length c.loop-number.items.items + 1 = longer c.loop-number.items.items c.push.new.self.items c.in-Ok.item c.in-Ok-push.ensures.items in
    record {
      read = item_read (g.R.ReadItem.item_of c.args.reader.now) (items_of (g.R.ReadItem.item_of c.args.reader.now) 0 (lines_left c.args.self)) c.loop-number.items.items c.push.new.self.items (lines_left c.loop-number.number-iterator) (lines_left c.next.new.self) c.in-Some.number c.in-Some.line.now c.in-Ok.item c.loop-number.invariant.read few c.in-Some.ensures.steps found c.in-Ok-push.ensures.items;
      most = omega arith;
      range = all_read (g.R.ReadItem.in_range c.args.reader.now) c.loop-number.items.items c.push.new.self.items c.in-Ok.item c.loop-number.invariant.range fits c.in-Ok-push.ensures.items;
      first = λ none. absurd (omega (arith, one_more));
      begun = λ _. begun (g.R.ReadItem.item_of c.args.reader.now) c.loop-number.items.items (lines_left c.args.self) (lines_left c.loop-number.number-iterator) (lines_left c.next.new.self) c.in-Some.number c.in-Some.line.now c.in-Ok.item c.loop-number.invariant.first c.loop-number.invariant.begun c.in-Some.ensures.steps found;
    }
