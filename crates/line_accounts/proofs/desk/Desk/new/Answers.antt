use Rattle.std.proofs.Common.{sym, ap, ◌∙◌}
use Rattle.std.proofs.lemmas.Option.{slice_get_within, get_or_from_slice_get}
use Rattle.qolb_model.specs.PortStates.{may_ask}
use Rattle.line_accounts.proofs.Accounted.{new_desk}
use Rattle.line_accounts.proofs.desk.Desk.new.Goals as goal

pub returns-clause-over : goal.returns-clause-over
returns-clause-over g c = λ lines over.
    new_desk g.L.LineSync.belongs g.L.LineSync.view lines c.args.ports.items over
    (λ i port at.
    let h = c.requires i port (slice_get_within _ _ _ at) in
    let is = get_or_from_slice_get c.args.ports.items i port port at in
    (ap may_ask (ap (λ p. (g.L.LineSync.view p).state) (sym is) ∙ h.0), ap (λ p. (g.L.LineSync.view p).count) (sym is) ∙ h.1))
    (λ i line port at_line at_port. (g.met.L.LineSync.sound line port (over.each_belongs i line port at_line at_port)).history)
