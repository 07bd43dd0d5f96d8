use Rattle.std.proofs.Common.{◌∙◌}
use Rattle.line_generic.proofs.Calling.{call_nodes, own_word, held_word}
use Rattle.line_generic.proofs.line.Line.wait_word.Goals as goal

pub returns-clause-word : goal.returns-clause-word
returns-clause-word g c = let q = c.port.inside in
    c.wait_word.ensures.wait_word
    ∙ own_word q.seat q.payload q.token q.steps q.poll_count.count q.state c.port.invariant c.port.view_is g.Q.DisciplineSpec.wait_word c.args.self.now.table.shared.key.config.nodes
    (call_nodes g.Q.DisciplineSpec.phases.initial q.seat q.payload q.steps q.poll_count.count c.requires c.port.view_is)

pub returns-clause-turn : goal.returns-clause-turn
returns-clause-turn g c held u sees = let q = c.port.inside in
    c.wait_word.ensures.wait_word
    ∙ held_word q.seat q.payload q.token q.steps q.poll_count.count q.state c.port.invariant c.port.view_is g.Q.DisciplineSpec.wait_word g.Q.DisciplineSpec.wake_word c.args.self.now.table.shared.key.config.nodes
    (call_nodes g.Q.DisciplineSpec.phases.initial q.seat q.payload q.steps q.poll_count.count c.requires c.port.view_is) g.Q.DisciplineSpec.holder_waits_there held u sees
