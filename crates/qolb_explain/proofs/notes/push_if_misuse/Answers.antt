use Rattle.std.proofs.Common.{◌≡◌, arith, true, false, ap, sym, ◌∙◌}
use Rattle.qolb_model.specs.OneOwner.{state_of}
use Rattle.qolb_script.specs.Commands.{line_of, node_of}
use Rattle.qolb_script.specs.Reply.{said_of}
use Rattle.qolb_words.specs.Words.{is_misuse}
use Rattle.qolb_explain.proofs.Noting.{misuse_noted, none_noted}
use Rattle.qolb_explain.proofs.notes.push_if_misuse.Goals as goal

pub returns-in_ok-push_misuse-clause-note : goal.returns-in_ok-push_misuse-clause-note
returns-in_ok-push_misuse-clause-note c s a =
    let here : line_of c.args.command.now ≡ c.args.line = omega arith in
    let said : c.answer.result ≡ said_of s c.args.command.now = c.answer.ensures.said s a in
    let misuse : is_misuse (said_of s c.args.command.now) ≡ true = ap is_misuse (sym said) ∙ sym c.is_misuse.ensures ∙ c.if-is_misuse.true in
    let at : c.state-state.result ≡ state_of s (node_of c.args.command.now) = c.state-state.ensures.agrees s a ∙ ap (state_of s) c.node.ensures in
    misuse_noted c.args.line c.args.number s c.args.command.now c.state-state.result c.args.notes.now.items c.push_misuse.new.notes.items here misuse at c.in_ok-push_misuse.ensures

pub returns-else-is_misuse-clause-note : goal.returns-else-is_misuse-clause-note
returns-else-is_misuse-clause-note c s a =
    let here : line_of c.args.command.now ≡ c.args.line = omega arith in
    let said : c.answer.result ≡ said_of s c.args.command.now = c.answer.ensures.said s a in
    let lawful : is_misuse (said_of s c.args.command.now) ≡ false = ap is_misuse (sym said) ∙ sym c.is_misuse.ensures ∙ c.if-is_misuse.false in
    none_noted c.args.line c.args.number s c.args.command.now c.args.notes.now.items here lawful
