use Rattle.std.proofs.Common.{◌≡◌, ℕ, ◌≤◌, ◌+◌, ◌-◌, List, length, length-drop, take, take_all, drop, get_or, sym, ap, ◌∙◌, subst, arith}
use Rattle.qolb_model.specs.declared.config.TheConstants.{MAX_NODES}
use Rattle.link_core.specs.declared.event.Event.{Event}
use Rattle.link_core.specs.declared.event.Event.TheVariants.{Reset}
use Rattle.link_core.specs.declared.state.State.{State}
use Rattle.qolb_draw.proofs.Watching.{entry_count, node_there, nodes_kept, shapes_end, shapes_on, shapes_start}
use Rattle.qolb_draw.proofs.steps.push_shapes.Goals as goal

few : (n m k : ℕ) → n ≡ m → k ≡ m → k ≤ MAX_NODES → n ≤ MAX_NODES
few n m k e f le = omega arith

-- the rest of a list after a place
rest_is : (events : List Event) (i : ℕ) → take (length events - (i + 1)) (drop (i + 1) events) ≡ drop (i + 1) events
rest_is events i = take_all (length events - (i + 1)) (drop (i + 1) events) (omega (arith, length-drop (i + 1) events))

pub loop-column-init : goal.loop-column-init
loop-column-init g c = shapes_start c.args.steps.now c.opened-core.result _ _ c.args.svg.now.items c.opened-core.ensures.core c.in_ok-words.ensures.home c.in_ok-words.ensures.entries

pub push_event_shapes-requires-clause-node : goal.push_event_shapes-requires-clause-node
push_event_shapes-requires-clause-node g c =
    let kept : c.step.new.self.nodes ≡ c.loop-column.core.nodes = nodes_kept c.loop-column.core c.step.new.self (get_or c.events-events.result.now c.loop-column.column (Reset 0)) c.step.result c.step.ensures.step c.step.ensures.unchanged in
    node_there c.args.steps.now c.events-events.result.now c.loop-column.column (Reset 0) c.step.new.self c.events-events.ensures.range c.events-events.ensures.events c.loop-column-test.true (kept ∙ c.loop-column.invariant.sees.nodes_are)

pub push_event_shapes-requires-clause-nodes : goal.push_event_shapes-requires-clause-nodes
push_event_shapes-requires-clause-nodes g c =
    let kept : c.step.new.self.nodes ≡ c.loop-column.core.nodes = nodes_kept c.loop-column.core c.step.new.self (get_or c.events-events.result.now c.loop-column.column (Reset 0)) c.step.result c.step.ensures.step c.step.ensures.unchanged in
    let ours : c.step.new.self.nodes ≡ c.args.steps.now.nodes = kept ∙ c.loop-column.invariant.sees.nodes_are in
    few c.step.new.self.nodes c.args.steps.now.nodes c.opened-core.result.nodes ours (ap (λ (core : State). core.nodes) c.opened-core.ensures.core) c.opened-core.ensures.nodes

pub push_event_shapes-requires-clause-size : goal.push_event_shapes-requires-clause-size
push_event_shapes-requires-clause-size g c =
    let kept : c.step.new.self.nodes ≡ c.loop-column.core.nodes = nodes_kept c.loop-column.core c.step.new.self (get_or c.events-events.result.now c.loop-column.column (Reset 0)) c.step.result c.step.ensures.step c.step.ensures.unchanged in
    ap length c.loop-column.invariant.entries_are ∙ entry_count c.loop-column.core ∙ sym kept

pub loop-column-preserved : goal.loop-column-preserved
loop-column-preserved g c =
    shapes_on c.args.steps.now c.loop-column.column c.loop-column.core c.step.new.self _ _ _ _ c.args.svg.now.items c.loop-column.svg.items c.push_event_shapes.new.svg.items c.events-events.result.now _ (Reset 0) c.step.result c.ok-told.result
    c.loop-column.invariant c.events-events.ensures.events c.loop-column-test.true c.step.ensures.step c.step.ensures.refused c.step.ensures.unchanged c.ok-told.ensures.value
    (rest_is c.events-events.result.now c.loop-column.column) c.in_ok-push_event_shapes.ensures.svg c.in_ok-push_event_shapes.ensures.home c.in_ok-push_event_shapes.ensures.entries

pub returns : goal.returns
returns g c =
    let end : length c.args.steps.now.events ≤ c.loop-column.column = subst (λ (es : List Event). length es ≤ c.loop-column.column) c.events-events.ensures.events c.loop-column-test.false in
    shapes_end c.args.steps.now c.loop-column.column c.loop-column.core _ _ c.args.svg.now.items c.loop-column.svg.items c.loop-column.invariant end
