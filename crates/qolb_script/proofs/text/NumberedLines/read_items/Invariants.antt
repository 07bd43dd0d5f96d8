use Rattle.std.proofs.Common.{◌≡◌, ◌<◌, ◌≤◌, All, IsOk, length, take}
use Rattle.qolb_script.specs.Script.{items_of}
use Rattle.qolb_script.specs.Reading.{lines_left}
use Rattle.qolb_script.proofs.ScriptLemmas.{onto}
use Rattle.qolb_script.proofs.text.NumberedLines.read_items.Given as goal

abbrev pub invariant-loop-number : goal.invariant-loop-number
invariant-loop-number g l = record {
  read : items_of (g.R.ReadItem.item_of l.reader) 0 (lines_left l.fn.self)
      ≡ onto l.items.items (items_of (g.R.ReadItem.item_of l.reader) (length l.items.items) (lines_left l.number-iterator));
  most : length l.items.items ≤ 100000;
  range : All (g.R.ReadItem.in_range l.reader) l.items.items;
  first : length l.items.items ≡ 0 → lines_left l.number-iterator ≡ lines_left l.fn.self;
  begun : 0 < length l.items.items → IsOk (items_of (g.R.ReadItem.item_of l.reader) 0 (take 1 (lines_left l.fn.self)));
}
