use Rattle.std.proofs.Common.{◌≡◌, ◌+◌, ◌<◌, ℕ, List, length, inl, inr, slice_get, Some, sym, ap, ◌∙◌, subst, refl, arith}
use Rattle.std.proofs.lemmas.Bool.{cases_eq}
use Rattle.std.proofs.lemmas.Option.{slice_get_read}
use Rattle.qolb_model.specs.declared.config.LineConfig.{LineConfig}
use Rattle.qolb_model.specs.declared.view.View.{View}
use Rattle.qolb_model.specs.Finishing.{EachNode}
use Rattle.qolb_model.proofs.Lists.{same_some}
use Rattle.line_accounts.specs.Desks.{DeskOf}
use Rattle.line_accounts.specs.Settled.{HasPort}
use Rattle.line_accounts.proofs.settlement.find_missing.Goals as goal

-- one more line has all its ports
there_more : {Line Port : Type 0} (view : Port → View) (config_of : Line → LineConfig) (lines : List Line) (desks : List (DeskOf Port)) (index : ℕ) (here : Line) → slice_get lines index ≡ Some here → EachNode (config_of here).nodes (HasPort view desks index)
    → ((j : ℕ) (line : Line) → j < index → slice_get lines j ≡ Some line → EachNode (config_of line).nodes (HasPort view desks j))
    → (j : ℕ) (line : Line) → j < index + 1 → slice_get lines j ≡ Some line → EachNode (config_of line).nodes (HasPort view desks j)
there_more {Line} view config_of lines desks index here at_here found before j line below at = elim (cases_eq j index) [
  | inl e ↦
      let same : here ≡ line = same_some (sym at_here ∙ (ap (slice_get lines) (sym e) ∙ at)) in
      subst (λ (l : Line). EachNode (config_of l).nodes (HasPort view desks j)) same (subst (λ (n : ℕ). EachNode (config_of here).nodes (HasPort view desks n)) (sym e) found)
  | inr ne ↦ before j line (omega (arith, below, ne)) at
]

pub loop-i-preserved : goal.loop-i-preserved
loop-i-preserved g c =
    let lt : c.loop-i.i < length c.args.lines.now = c.loop-i-test.true in
    there_more g.L.LineSync.view g.L.LineSync.config_of c.args.lines.now c.args.desks.now c.loop-i.i c.index-lines-i.result
    (slice_get_read c.args.lines.now (length c.args.lines.now) c.loop-i.i c.index-lines-i.result refl lt c.index-lines-i.is) c.in_default.ensures c.loop-i.invariant

pub returns-in-Some : goal.returns-in-Some
returns-in-Some g c =
    let lt : c.loop-i.i < length c.args.lines.now = c.loop-i-test.true in record {
      line = c.index-lines-i.result;
      at = slice_get_read c.args.lines.now (length c.args.lines.now) c.loop-i.i c.index-lines-i.result refl lt c.index-lines-i.is;
      least = c.in-Some.ensures;
      before = c.loop-i.invariant;
    }
