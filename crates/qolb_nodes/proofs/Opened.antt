-- Lemmas about a line that was just opened, and about the handles that received its nodes.
use Rattle.std.proofs.Common.{◌≡◌, ℕ, zero, suc, ◌<◌, List, [], ◌∷◌, ◌++◌, map, length, drop, get_or, Option, Some, None, slice_get, refl, sym, ap, ◌∙◌, subst, arith}
use Rattle.std.specs.Prelude.{Result, Ok, Err, IfOk}
use Rattle.qolb_model.specs.declared.config.LineConfig.{LineConfig}
use Rattle.qolb_model.specs.declared.view.View.{View}
use Rattle.qolb_model.specs.Opening.{AreNew}
use Rattle.line_kinds.specs.declared.Lock.{Lock}
use Rattle.qolb_nodes.specs.declared.any_node.AnyNode.{AnyNode}
use Rattle.qolb_nodes.specs.declared.handle.Handle.{Handle}
use Rattle.qolb_nodes.specs.Calls.{view_of, kind_of, AreOfOneLine}
use Rattle.qolb_nodes.specs.Nodes.{NodeOf}
use Rattle.qolb_nodes.specs.Opens.{held_by, AreEmpty, AreOfLine, AreNewNodes, AreOpened, lines_at}
use Rattle.qolb_nodes.proofs.Filling.{Boxes, values, held_values, node_at}

pub if_ok_then : {A E : Type 0} {P Q : A → Type 0} (r : Result A E) → ((a : A) → P a → Q a) → IfOk r P → IfOk r Q
if_ok_then (Ok a) f p = f a p
if_ok_then (Err e) f p = tt

module _ {Line Port : Type 0} (view : Port → View) (make : NodeOf Line Port → AnyNode) (line : Line) where
  abbrev nodes_of : List Port → List AnyNode
  nodes_of ports = map make (map (node_at line) ports)

  views_are : ((n : NodeOf Line Port) → view_of (make n) ≡ view n.port) → (ports : List Port) → map view_of (nodes_of ports) ≡ map view ports
  views_are each [] = refl
  views_are each (p ∷ ports) = ap (λ (v : View). v ∷ map view_of (nodes_of ports)) (each (node_at line p)) ∙ ap (λ (vs : List View). view p ∷ vs) (views_are each ports)

  kinds_are : (kind : Lock) → ((n : NodeOf Line Port) → kind_of (make n) ≡ kind) → (ports : List Port) (k : ℕ) (d : AnyNode) → k < length (nodes_of ports) → kind_of (get_or (nodes_of ports) k d) ≡ kind
  kinds_are kind each [] k d low = absurd (omega arith)
  kinds_are kind each (p ∷ ports) zero d low = each (node_at line p)
  kinds_are kind each (p ∷ ports) (suc k) d low = kinds_are kind each ports k d (omega arith)

  none_is : {C : Type 0} (a : AnyNode) → None ≡ Some a → C
  none_is a e = cc e

  some_is : (a b : AnyNode) → Some a ≡ Some b → b ≡ a
  some_is a b e = sym (cc e)

  at_port : (ports : List Port) (i : ℕ) (a : AnyNode) → slice_get (nodes_of ports) i ≡ Some a → (p : Port) × (a ≡ make (node_at line p))
  at_port [] i a e = none_is a e
  at_port (p ∷ ports) zero a e = (p, some_is (make (node_at line p)) a e)
  at_port (p ∷ ports) (suc i) a e = at_port ports i a e

  one_line_is : ((p q : Port) → AreOfOneLine (make (node_at line p)) (make (node_at line q))) → (ports : List Port) (i j : ℕ) (a b : AnyNode)
      → slice_get (nodes_of ports) i ≡ Some a → slice_get (nodes_of ports) j ≡ Some b → AreOfOneLine a b
  one_line_is each ports i j a b e f =
      let x = at_port ports i a e in
      let y = at_port ports j b f in
      subst (λ (n : AnyNode). AreOfOneLine n b) (sym x.1) (subst (λ (n : AnyNode). AreOfOneLine (make (node_at line x.0)) n) (sym y.1) (each x.0 y.0))

-- the new nodes of one line, as nodes of any kind
pub new_nodes_of : {Line Port : Type 0} (view : Port → View) (make : NodeOf Line Port → AnyNode) (kind : Lock) (label : ℕ) (config : LineConfig) (nodes : List (NodeOf Line Port)) (anys : List AnyNode)
    → ((n : NodeOf Line Port) → view_of (make n) ≡ view n.port) → ((n : NodeOf Line Port) → kind_of (make n) ≡ kind)
    → ((line : Line) (p q : Port) → AreOfOneLine (make (node_at line p)) (make (node_at line q)))
    → AreOfLine view label config nodes → anys ≡ map make nodes → AreNewNodes kind label config anys
new_nodes_of {Line} {Port} view make kind label config nodes anys views kinds lines of_line is =
    subst (λ (ns : List AnyNode). AreNewNodes kind label config ns) (sym (is ∙ ap (λ (ns : List (NodeOf Line Port)). map make ns) of_line.of_line)) (record {
      new = subst (λ (vs : List View). AreNew label config vs) (sym (views_are view make of_line.line views of_line.ports)) of_line.new;
      of_kind = kinds_are view make of_line.line kind kinds of_line.ports;
      one_line = one_line_is view make of_line.line (lines of_line.line) of_line.ports;
    })

views_of_boxes : (bs : Boxes) → length (map view_of (values bs)) ≡ length bs
views_of_boxes [] = refl
views_of_boxes (b ∷ bs) = ap (λ (n : ℕ). suc n) (views_of_boxes bs)

held_are : (bs : Boxes) → held_values bs ≡ map (λ (node : AnyNode). Some node) (values bs)
held_are [] = refl
held_are (b ∷ bs) = ap (λ (os : List (Option AnyNode)). Some b.value ∷ os) (held_are bs)

-- the handles, once they are filled
pub opened : (kind label : ℕ) (lines : Lock) (config : LineConfig) (old mid new : List Handle) (bs : Boxes)
    → lines_at kind ≡ Some lines → AreNewNodes lines label config (values bs) → AreEmpty config.nodes old → held_by mid ≡ held_by old
    → held_by new ≡ held_values bs ++ drop (length bs) (held_by mid) → AreOpened kind label config old new
opened kind label lines config old mid new bs of_number are empty same filled = record {
  lines = lines;
  of_number = of_number;
  nodes = values bs;
  are_new = are;
  were_empty = empty;
  filled =
      filled ∙ ap (λ (os : List (Option AnyNode)). os ++ drop (length bs) (held_by mid)) (held_are bs)
      ∙ ap (λ (os : List (Option AnyNode)). map (λ (node : AnyNode). Some node) (values bs) ++ drop (length bs) os) same
      ∙ ap (λ (n : ℕ). map (λ (node : AnyNode). Some node) (values bs) ++ drop n (held_by old)) (sym (views_of_boxes bs) ∙ are.new.count);
}
