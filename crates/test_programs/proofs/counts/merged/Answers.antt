use Rattle.std.proofs.Common.{ap, ◌∙◌}
use Rattle.qolb_model.specs.PortStates.{may_ask}
use Rattle.test_programs.specs.declared.counts.Racer.{Racer}
use Rattle.test_programs.specs.Ports.{MayAskFor}
use Rattle.test_programs.proofs.NewPorts.{of_last, of_front}
use Rattle.test_programs.proofs.counts.merged.Goals as goal

pub returns-clause-first : goal.returns-clause-first
returns-clause-first g c =
    let first = of_last (λ (racer : Racer g.row.L-Port.Denot). MayAskFor g.L.LineSync.belongs g.L.LineSync.view c.args.line.now racer.port) c.pop.new.self.items c.pop-2.new.self.items c.in_ok-first.first c.in_ok-first.ensures.items
    (of_front (λ (racer : Racer g.row.L-Port.Denot). MayAskFor g.L.LineSync.belongs g.L.LineSync.view c.args.line.now racer.port) c.args.back.items c.pop.new.self.items c.in_ok-second.second c.in_ok-second.ensures.items
    c.requires) in
    (c.meet.ensures.belongs_a, ap may_ask c.meet.ensures.tell.meets_a.state ∙ first.1)

pub returns-clause-second : goal.returns-clause-second
returns-clause-second g c =
    let second = of_last (λ (racer : Racer g.row.L-Port.Denot). MayAskFor g.L.LineSync.belongs g.L.LineSync.view c.args.line.now racer.port) c.args.back.items c.pop.new.self.items c.in_ok-second.second c.in_ok-second.ensures.items
    c.requires in
    (c.meet.ensures.belongs_b, ap may_ask c.meet.ensures.tell.meets_b.state ∙ second.1)
