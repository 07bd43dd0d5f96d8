use Rattle.std.proofs.Common.{not, sym, refl, ◌∙◌}
use Rattle.qolb_model.proofs.Waiting.{entry_says}
use Rattle.qolb_model.proofs.Calls.{not-not, clear-answer}
use Rattle.qolb_model.proofs.plain.PlainLine.is_clear.Goals as goal

pub returns : goal.returns
returns c = λ s a.
    let stands = not c.is_none.result in
    let waits = entry_says c.args.node _ _ stands stands c.entry.ensures (sym c.is_none.ensures) refl in
    sym (not-not c.is_none.result) ∙ clear-answer c.args.self.now s c.args.node a c.requires.may_ask c.requires.first c.requires.last stands waits
