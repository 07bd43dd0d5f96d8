use Rattle.std.proofs.Common.{◌≡◌, ◌≤◌, subst}
use Rattle.qolb_model.proofs.Finishing.{finishes_so, refuses_so, all_that, all_quiet, some_port, all_at_rest, is_finished}
use Rattle.line_generic.specs.Ports.{PortModel, BelongsTo}
use Rattle.line_generic.specs.NodeGhosts.{AtRest, view_of}
use Rattle.line_generic.proofs.line.Line.finish_in.Goals as goal

pub returns-in-Some-clause-why : goal.returns-in-Some-clause-why
returns-in-Some-clause-why g c = let l = c.args.self in refuses_so (λ (p : PortModel). p.view) l.labelled l.steps c.deref.ensures.value _ c.in-Some.ensures

pub returns-in_default-with_capacity-clause-why : goal.returns-in_default-with_capacity-clause-why
returns-in_default-with_capacity-clause-why g c = let l = c.args.self in finishes_so (λ (p : PortModel). p.view) l.labelled l.steps c.deref.ensures.value c.in_default.ensures

pub gather-whole-requires-clause-table : goal.gather-whole-requires-clause-table
gather-whole-requires-clause-table g c = let l = c.args.self in
    all_that (λ (p : PortModel). p.view) (BelongsTo g.K.Keep.good g.K.Keep.allows l.table.shared.key l.table.shared.table_id) (λ p b. b.sound) c.args.ports.items c.sort_by_node.result.items c.sort_by_node.ensures.all
    (finishes_so (λ (p : PortModel). p.view) l.labelled l.steps c.deref.ensures.value c.in_default.ensures) c.requires.belongs (λ (p : PortModel). p.table ≡ l.table.shared.table_id) (λ p b. b.table_is)

pub gather-whole-requires-clause-quiet : goal.gather-whole-requires-clause-quiet
gather-whole-requires-clause-quiet g c = let l = c.args.self in
    all_quiet (λ (p : PortModel). p.view) (BelongsTo g.K.Keep.good g.K.Keep.allows l.table.shared.key l.table.shared.table_id) (λ p b. b.sound) c.args.ports.items c.sort_by_node.result.items c.sort_by_node.ensures.all
    (finishes_so (λ (p : PortModel). p.view) l.labelled l.steps c.deref.ensures.value c.in_default.ensures) c.requires.belongs

pub gather-whole-requires-clause-not_empty : goal.gather-whole-requires-clause-not_empty
gather-whole-requires-clause-not_empty g c = let l = c.args.self in
    some_port (λ (p : PortModel). p.view) (BelongsTo g.K.Keep.good g.K.Keep.allows l.table.shared.key l.table.shared.table_id) (λ p b. b.sound) c.args.ports.items c.sort_by_node.result.items c.sort_by_node.ensures.all
    (finishes_so (λ (p : PortModel). p.view) l.labelled l.steps c.deref.ensures.value c.in_default.ensures) c.requires.belongs (subst (λ n. 1 ≤ n) l.steps l.some_nodes)

pub close-requires-clause-at_rest : goal.close-requires-clause-at_rest
close-requires-clause-at_rest g c = let l = c.args.self in let key = l.table.shared.key in
    all_at_rest (λ (p : PortModel). p.view) view_of key.label key.config c.args.ports.items c.sort_by_node.result.items c.gather-whole.result.me.0 c.sort_by_node.ensures.all c.gather-whole.ensures.views
    (finishes_so (λ (p : PortModel). p.view) l.labelled l.steps c.deref.ensures.value c.in_default.ensures) (AtRest g.Q.DisciplineSpec.phases.in_state) c.gather-whole.ensures.at_rest

pub returns-clause-finished : goal.returns-clause-finished
returns-clause-finished g c = let l = c.args.self in let key = l.table.shared.key in
    is_finished (λ (p : PortModel). p.view) view_of key.label key.config c.args.ports.items c.sort_by_node.result.items c.gather-whole.result.me.0 c.sort_by_node.ensures.all c.gather-whole.ensures.views
    (finishes_so (λ (p : PortModel). p.view) l.labelled l.steps c.deref.ensures.value c.in_default.ensures) _ c.close.ensures
