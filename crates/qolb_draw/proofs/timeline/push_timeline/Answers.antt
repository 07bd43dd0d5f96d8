use Rattle.std.proofs.Common.{◌≡◌, ◌≤◌, ◌++◌, ℕ, List, length, get_or, sym, ap, ◌∙◌, subst, arith}
use Rattle.std.specs.Prelude.{codes}
use Rattle.std.specs.List.{All, flat_map, range_with_len}
use Rattle.qolb_model.specs.declared.config.TheConstants.{MAX_NODES}
use Rattle.qolb_draw.specs.declared.event.Event.{Event}
use Rattle.qolb_draw.specs.Grids.{row_shapes_out_of, shown_out_of}
use Rattle.qolb_draw.specs.Svg.{line_begin, texts}
use Rattle.qolb_draw.specs.Timelines.{column_shapes, no_event}
use Rattle.qolb_draw.proofs.Outs.{length-shown, shown_within}
use Rattle.qolb_draw.proofs.Shapes.{line_whole}
use Rattle.qolb_draw.proofs.timeline.push_timeline.Goals as goal

pub push_rows-requires-clause-shown : goal.push_rows-requires-clause-shown
push_rows-requires-clause-shown g c =
    let few = length-shown c.args.grid.now.nodes c.args.grid.now.callers.items in
    subst (λ (xs : List ℕ). length xs ≤ MAX_NODES) (sym (c.deref.ensures.value ∙ c.in_ok-nodes.ensures)) (omega (arith, few, c.requires.nodes))

pub push_rows-requires-clause-nodes : goal.push_rows-requires-clause-nodes
push_rows-requires-clause-nodes g c = subst (λ (xs : List ℕ). All (λ n. (1 ≤ n) × (n ≤ c.args.grid.now.nodes)) xs) (sym (c.deref.ensures.value ∙ c.in_ok-nodes.ensures)) (shown_within c.args.grid.now.nodes c.args.grid.now.callers.items)

pub push_columns-requires-clause-shown : goal.push_columns-requires-clause-shown
push_columns-requires-clause-shown g c =
    let few = length-shown c.args.grid.now.nodes c.args.grid.now.callers.items in
    subst (λ (xs : List ℕ). length xs ≤ MAX_NODES) (sym (c.deref-3.ensures.value ∙ c.in_ok-nodes.ensures)) (omega (arith, few, c.requires.nodes))

pub returns-clause-in_range : goal.returns-clause-in_range
returns-clause-in_range g c =
    let few = length-shown c.args.grid.now.nodes c.args.grid.now.callers.items in
    omega (arith, few, c.requires.nodes, ap length c.in_ok-nodes.ensures, c.len.ensures, c.in_ok-nodes.nodes.ok)

pub returns-clause-svg : goal.returns-clause-svg
returns-clause-svg g c =
    let shown : List ℕ = shown_out_of c.args.grid.now.nodes c.args.grid.now.callers.items in
    let columns : ℕ = length c.args.grid.now.numbers.items in
    line_whole c.args.svg.now.items (line_begin c.args.top c.args.number) (codes "</g>\n") (row_shapes_out_of shown c.args.grid.now.nodes c.args.grid.now.marks.items columns)
    (λ k. column_shapes shown k (get_or c.args.grid.now.events.items k no_event)) shown (length c.args.grid.now.events.items) _ _ _ _
    c.in_ok-push_line_begin.ensures
    (subst (λ (xs : List ℕ). c.push_rows.new.svg.items ≡ c.push_line_begin.new.svg.items ++ flat_map (λ n. texts (row_shapes_out_of xs c.args.grid.now.nodes c.args.grid.now.marks.items columns n)) xs) (c.deref.ensures.value ∙ c.in_ok-nodes.ensures) c.in_ok-push_rows.ensures)
    (subst (λ (xs : List ℕ). c.push_columns.new.svg.items ≡ c.push_rows.new.svg.items ++ flat_map (λ k. texts (column_shapes xs k (get_or c.args.grid.now.events.items k no_event))) (range_with_len 0 (length c.args.grid.now.events.items))) (c.deref-3.ensures.value ∙ c.in_ok-nodes.ensures)
    (subst (λ (es : List Event). c.push_columns.new.svg.items ≡ c.push_rows.new.svg.items ++ flat_map (λ k. texts (column_shapes c.deref-3.result.now k (get_or es k no_event))) (range_with_len 0 (length es))) c.deref-2.ensures.value c.in_ok-push_columns.ensures))
    c.in_ok-extend_from_slice.ensures.items
