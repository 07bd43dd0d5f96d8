use Rattle.std.proofs.Common.{◌≡◌, ◌≢◌, ◌+◌, ◌<◌, ℕ, List, length, inl, inr, slice_get, Some, sym, ap, ◌∙◌, subst, refl, arith}
use Rattle.std.proofs.lemmas.Bool.{cases_eq}
use Rattle.std.proofs.lemmas.Option.{slice_get_read, slice_get_within}
use Rattle.qolb_model.specs.declared.view.View.{View}
use Rattle.qolb_model.proofs.Lists.{same_some}
use Rattle.line_accounts.specs.Desks.{DeskOf}
use Rattle.line_accounts.proofs.settlement.is_there.Goals as goal

-- one more desk lacks the port
lacks_more : {Port : Type 0} (view : Port → View) (desks : List (DeskOf Port)) (i node index : ℕ) (here : DeskOf Port) (seen : Port) → slice_get desks index ≡ Some here → slice_get here.ports i ≡ Some seen → (view seen).node ≢ node
    → ((k : ℕ) (desk : DeskOf Port) (port : Port) → k < index → slice_get desks k ≡ Some desk → slice_get desk.ports i ≡ Some port → (view port).node ≢ node)
    → (k : ℕ) (desk : DeskOf Port) (port : Port) → k < index + 1 → slice_get desks k ≡ Some desk → slice_get desk.ports i ≡ Some port → (view port).node ≢ node
lacks_more {Port} view desks i node index here seen at_here at_seen other before k desk port below at at_port = elim (cases_eq k index) [
  | inl e ↦
      let same : here ≡ desk = same_some (sym at_here ∙ (ap (slice_get desks) (sym e) ∙ at)) in
      let one : seen ≡ port = same_some (sym at_seen ∙ (ap (λ (d : DeskOf Port). slice_get d.ports i) same ∙ at_port)) in
      subst (λ (p : Port). (view p).node ≢ node) one other
  | inr ne ↦ before k desk port (omega (arith, below, ne)) at at_port
]

pub loop-desk-preserved : goal.loop-desk-preserved
loop-desk-preserved g c =
    let lt : c.loop-desk.desk-index < length c.args.desks.now = c.loop-desk-test.true in
    lacks_more g.L.LineSync.view c.args.desks.now c.args.i c.args.node c.loop-desk.desk-index c.desk-item.result c.port.result.now
    (slice_get_read c.args.desks.now (length c.args.desks.now) c.loop-desk.desk-index c.desk-item.result refl lt c.desk-item.is) c.port.ensures (λ e. c.if-node.false (c.node.ensures ∙ e)) c.loop-desk.invariant

pub returns-then-node : goal.returns-then-node
returns-then-node g c =
    let lt : c.loop-desk.desk-index < length c.args.desks.now = c.loop-desk-test.true in record {
      place = c.loop-desk.desk-index;
      desk = c.desk-item.result;
      port = c.port.result.now;
      desk_at = slice_get_read c.args.desks.now (length c.args.desks.now) c.loop-desk.desk-index c.desk-item.result refl lt c.desk-item.is;
      port_at = c.port.ensures;
      of_node = sym c.node.ensures ∙ c.if-node.true;
    }

pub returns : goal.returns
returns g c = λ k desk port at at_port.
    let within = slice_get_within c.args.desks.now k desk at in
    c.loop-desk.invariant k desk port (omega (arith, within, c.loop-desk-test.false)) at at_port
