use Rattle.std.proofs.Common.{◌≡◌, ◌+◌, ◌-◌, ◌∷◌, [], ◌++◌, ℕ, List, length, map, get_or, sym, ap, ◌∙◌, append_assoc, arith}
use Rattle.std.specs.List.{range_with_len}
use Rattle.std.proofs.lemmas.List.FromFn.{map-range_with_len_more}
use Rattle.qolb_model.specs.declared.answer.PortState.{PortState}
use Rattle.qolb_model.specs.declared.answer.PortState.TheVariants as port
use Rattle.qolb_draw.specs.declared.symbol.Symbol.{Symbol}
use Rattle.qolb_draw.specs.Marks.{mark_of}
use Rattle.qolb_draw.proofs.grid.push_column.Goals as goal

pub loop-node-preserved : goal.loop-node-preserved
loop-node-preserved g c =
    let before : List Symbol = c.args.marks.now.items in
    let mark : ℕ → Symbol = λ n. mark_of c.args.change.now (get_or c.args.states.now n port.Idle) n in
    let node : ℕ = c.loop-node.node in
    let k : ℕ = node - 1 in
    let next : 1 + k ≡ node = omega arith in
    let more : (node + 1) - 1 ≡ k + 1 = omega arith in
    record {
      marks_are = c.in_ok-push.ensures.items ∙ ap (λ xs. xs ++ c.mark.result ∷ []) c.loop-node.invariant.marks_are
          ∙ ap (λ m. (before ++ map mark (range_with_len 1 k)) ++ m ∷ []) c.mark.ensures ∙ append_assoc before (map mark (range_with_len 1 k)) (mark node ∷ [])
          ∙ ap (λ xs. before ++ xs) (sym (map-range_with_len_more mark 1 k node next))
          ∙ ap (λ n. before ++ map mark (range_with_len 1 n)) (sym more);
      within = omega arith;
    }

pub returns : goal.returns
returns g c =
    let at : c.loop-node.node - 1 ≡ length c.args.states.now - 1 = omega arith in
    c.loop-node.invariant.marks_are ∙ ap (λ n. c.args.marks.now.items ++ map (λ n. mark_of c.args.change.now (get_or c.args.states.now n port.Idle) n) (range_with_len 1 n)) at
