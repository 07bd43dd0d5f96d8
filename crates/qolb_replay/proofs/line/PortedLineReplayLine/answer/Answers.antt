use Rattle.std.proofs.Common.{rules, List, map, ap, sym, ◌∙◌, subst}
use Rattle.std.proofs.lemmas.List.{with_items_is, places}
use Rattle.qolb_model.specs.Whole.{AreSynced}
use Rattle.qolb_script.specs.Reply.{after_command}
use Rattle.line_blocking.specs.ViewAndTurn.{view_and_turn}
use Rattle.qolb_replay.proofs.Forcing.{answers_forced}
use Rattle.qolb_replay.proofs.line.PortedLineReplayLine.answer.Goals as goal

pub returns-clause-said : goal.returns-clause-said
returns-clause-said g c = λ s whole.
    let was : AreSynced s (map (view_and_turn g.L.LineSync.view g.L.LineSync.turn) c.deref_mut.result.now) = subst (AreSynced s) (sym (ap (map (view_and_turn g.L.LineSync.view g.L.LineSync.turn)) c.deref_mut.ensures.value ∙ c.self.view_is)) whole in
    (answers_forced s _ _ c.args.command.now c.answer.result was c.answer.ensures.answers).0

pub returns-clause-represents : goal.returns-clause-represents
returns-clause-represents g c = λ s whole.
    let was : AreSynced s (map (view_and_turn g.L.LineSync.view g.L.LineSync.turn) c.deref_mut.result.now) = subst (AreSynced s) (sym (ap (map (view_and_turn g.L.LineSync.view g.L.LineSync.turn)) c.deref_mut.ensures.value ∙ c.self.view_is)) whole in
    subst (λ (ports : List (g.row.L-Port.Denot)). AreSynced (after_command s c.args.command.now) (map (view_and_turn g.L.LineSync.view g.L.LineSync.turn) ports)) (sym (with_items_is c.self.inside.ports c.answer.new.ports (search (rules, places))))
    (answers_forced s _ _ c.args.command.now c.answer.result was c.answer.ensures.answers).1
