use Rattle.std.proofs.Common.{◌≡◌, ◌<◌, ℕ, ◌+◌, ◌-◌, ◌*◌, ◌∷◌, ◌++◌, length, sym, ap, ◌∙◌, subst, arith}
use Rattle.std.proofs.lemmas.List.{get_or_default}
use Rattle.qolb_draw.specs.declared.symbol.Symbol.TheVariants as symbol
use Rattle.qolb_draw.specs.Grids.{bars_out_of, stands_out_of}
use Rattle.qolb_draw.specs.Svg.{texts}
use Rattle.qolb_draw.specs.Shapes.{stand_of}
use Rattle.qolb_draw.proofs.Rows.{place_within}
use Rattle.qolb_draw.proofs.Shapes.{bars_begun, bar_goes_on, bar_ends, bars_are, bars_ended, stands_next, stands_ended}
use Rattle.qolb_draw.proofs.timeline.push_bars.Goals as goal
use Rattle.qolb_draw.proofs.timeline.push_bars.Goals.{then-ends_at+in_ok-push_stand, else-ends_at}

pub loop-column-init : goal.loop-column-init
loop-column-init g c =
    let whole : c.len-end.result - 0 ≡ c.len-end.result = omega arith in
    bars_begun _ _ _ _ _ (ap (stands_out_of c.args.grid.now.nodes c.args.grid.now.marks.items c.args.node 0) whole)

pub loop-column-preserved : goal.loop-column-preserved
loop-column-preserved g c =
    let nodes : ℕ = c.args.grid.now.nodes in
    let lt : c.loop-column.column < c.len-end.result = c.loop-column-test.true in
    let below : c.loop-column.column < length c.args.grid.now.numbers.items = omega (arith, c.len-end.ensures, c.args.grid.now.numbers.ok) in
    let there : c.loop-column.column * nodes + (c.args.node - 1) < length c.args.grid.now.marks.items = subst (λ (n : ℕ). c.loop-column.column * nodes + (c.args.node - 1) < n) (sym c.requires.size) (place_within _ _ _ _ below c.requires.first c.requires.last) in
    let now = stands_next nodes c.args.grid.now.marks.items c.args.node c.loop-column.column c.len-end.result lt
    ∙ ap (λ s. s ∷ stands_out_of nodes c.args.grid.now.marks.items c.args.node (c.loop-column.column + 1) (c.len-end.result - (c.loop-column.column + 1)))
    (sym (ap stand_of (c.index-mark.ensures ∙ get_or_default _ _ _ symbol.Idle there))) in
    elim c.if-ends_at.branch [
      | then-ends_at+in_ok-push_stand w ↦
          bars_are _ _ _ _ _ _ _ _ _ _ _ (bar_ends _ _ _ _ _ _ _ _ _ _ _ _ c.loop-column.invariant now (sym c.ends_at.ensures ∙ w.if-ends_at.true) (ap (λ v. v.items) w.svg-is ∙ w.in_ok-push_stand.ensures)) (w.stand-is ∙ w.of-stand.ensures) w.start-is
      | else-ends_at w ↦
          bars_are _ _ _ _ _ _ _ _ _ _ _ (bar_goes_on _ _ _ _ _ _ _ _ _ _ _ _ c.loop-column.invariant now (sym c.ends_at.ensures ∙ w.if-ends_at.false) (ap (λ v. v.items) w.svg-is)) w.stand-is w.start-is
    ]

pub returns : goal.returns
returns g c =
    let long : c.len-end.result ≡ length c.args.grid.now.numbers.items = omega (arith, c.len-end.ensures, c.args.grid.now.numbers.ok) in
    let at : c.loop-column.column ≡ c.len-end.result = omega arith in
    bars_ended _ _ _ _ _ _ _ _ _ _ _ c.loop-column.invariant (stands_ended _ _ _ _ _ c.loop-column-test.false) at c.in_ok-push_stand-2.ensures
    ∙ ap (λ n. c.args.svg.now.items ++ texts (bars_out_of c.args.grid.now.nodes c.args.grid.now.marks.items n c.args.row c.args.node)) long
