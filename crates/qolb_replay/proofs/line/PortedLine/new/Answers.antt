use Rattle.std.proofs.Common.{◌∙◌, sym}
use Rattle.std.proofs.lemmas.List.{length-map}
use Rattle.line_blocking.specs.ViewAndTurn.{view_and_turn}
use Rattle.qolb_replay.proofs.Forcing.{new_whole}
use Rattle.qolb_replay.proofs.line.PortedLine.new.Goals as goal

pub returns-clause-nodes : goal.returns-clause-nodes
returns-clause-nodes g c = length-map c.args.ports.items (view_and_turn g.L.LineSync.view g.L.LineSync.turn) ∙ (sym (length-map c.args.ports.items g.L.LineSync.view) ∙ c.requires.new.count)

pub returns-clause-represents : goal.returns-clause-represents
returns-clause-represents g c =
    new_whole g.L.LineSync.view g.L.LineSync.turn (g.L.LineSync.label_of c.args.line) (g.L.LineSync.config_of c.args.line) c.args.ports.items c.requires.may_open c.requires.bytes c.requires.new
