use Rattle.std.proofs.Common.{append_assoc}
use Rattle.qolb_script.proofs.reply_text.push_summary.Goals as goal

pub returns-clause-ok : goal.returns-clause-ok
returns-clause-ok g c =
    rw (c.push_reserved.ensures.items, c.put_number-5.ensures.items, c.put_number-4.ensures.items, c.put_number-3.ensures.items, c.put_number-2.ensures.items, c.put_number.ensures.items, c.in_ok-reserve.ensures.items)
    (simp append_assoc)
