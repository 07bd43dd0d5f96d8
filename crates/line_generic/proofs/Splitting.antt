-- Lemmas about opening a line: the ghost states of all nodes are distributed over the ports of these nodes.
use Rattle.std.proofs.Common.{◌≡◌, ℕ, ◌+◌, ◌-◌, ◌<◌, Option, List, [], ◌∷◌, ◌++◌, sym, ap, ◌∙◌, subst, ⊎_elim, length-append}
use Rattle.std.proofs.lemmas.Option.{get_or_from_slice_get}
use Rattle.atomic_table.specs.Seated.{TableId}
use Rattle.qolb_model.specs.declared.answer.PortState.TheVariants as port_state
use Rattle.qolb_model.specs.Opening.{MayOpen, new_view}
use Rattle.qolb_model.specs.Entries.{front, behind}
use Rattle.qolb_model.proofs.Lists.{push_cases, element_at}
use Rattle.qolb_model.proofs.Agreeing.{opens_new}
use Rattle.qolb_model.proofs.Seats.{each_from_more}
use Rattle.line_generic.specs.declared.table.NodeGhost.{NodeGhost}
use Rattle.line_generic.specs.declared.table.TableKey.{TableKey}
use Rattle.line_generic.specs.declared.table.LocalCopy.{LocalCopy}
use Rattle.line_generic.specs.declared.elsewhere.TheConstants.{NO_WORD}
use Rattle.line_generic.specs.AtTurn.{Names}
use Rattle.line_generic.specs.NodeGhosts.{LineSeat, initial_node, initial_nodes_from}
use Rattle.line_generic.specs.PortPhases.{PortPhases}
use Rattle.line_generic.specs.Steps.{single}
use Rattle.line_generic.specs.Ports.{PortModel, port_model, IsPort, AreSplit, IsUnused, AreUnused, IsOpened, BelongsTo}

module _ {O : Type 0} (q : PortPhases O) (key : TableKey) (n : ℕ) (old first rest : LineSeat O) (more : n < key.config.nodes) (whole : old.me ≡ (initial_nodes_from q.initial key n (key.config.nodes - n), [])) where
  pub first_me : first.me ≡ (front old.me.0, old.me.1) → first.me ≡ (initial_node q.initial key (n + 1) ∷ [], [])
  first_me e = e ∙ (λ i. (front (whole i).0, (whole i).1)) ∙ (λ i. (front (each_from_more (initial_node q.initial key) n key.config.nodes more i), []))

  pub rest_me : rest.me ≡ (behind old.me.0, []) → rest.me ≡ (initial_nodes_from q.initial key (n + 1) (key.config.nodes - (n + 1)), [])
  rest_me e = e ∙ (λ i. (behind (whole i).0, [])) ∙ (λ i. (behind (each_from_more (initial_node q.initial key) n key.config.nodes more i), []))

  pub first_port : ((nodes : ℕ) → q.in_state nodes port_state.Idle 0 q.initial) → (y : LocalCopy) → first.me ≡ (front old.me.0, old.me.1) → IsPort q key.label (n + 1) first y 0 port_state.Idle
  first_port new y e = let is = first_me e in record {
    of_one_node = ap (λ m. m.0) is ∙ (λ i. single q.initial (sym is i).0 ∷ []);
    rests_so = λ _. (subst (λ (e : NodeGhost O). q.in_state e.view.config.nodes port_state.Idle 0 e.own) (ap (λ m. single q.initial m.0) (sym is)) (new key.config.nodes), ap (λ m. m.1) is);
    holds_so = λ e. absurd (cc e);
    shows_state = ap (λ m. (single q.initial m.0).view.state) is;
    label_is = ap (λ m. (single q.initial m.0).view.label) is;
    node_is = ap (λ m. (single q.initial m.0).view.node) is;
  }

pub one_more : {O : Type 0} (initial : O) (table_id : TableId) (key : TableKey) (n : ℕ) (ports : List PortModel) (first : LineSeat O) (y : LocalCopy) (poll_count token : ℕ) (went_to : Option ℕ) → poll_count ≡ 0 → Names NO_WORD went_to → AreSplit table_id key n ports → first.table_id ≡ table_id → first.me ≡ (initial_node initial key (n + 1) ∷ [], []) → AreSplit table_id key (n + 1) (ports ++ port_model initial first y 0 poll_count token went_to ∷ [])
one_more initial table_id key n ports first y poll_count token went_to none blank d t is = record {
  many = length-append ports (port_model initial first y 0 poll_count token went_to ∷ []) ∙ ap (λ k. k + 1) d.many;
  each = λ k p at. ⊎_elim (λ z. d.each k p z.1)
      (λ z. subst (λ (q : ℕ × PortModel). (q.1.table ≡ table_id) × (q.1.view ≡ new_view key.label key.config (q.0 + 1)) × IsUnused q.1) (λ i. (sym (z.0 ∙ d.many) i, sym z.1 i)) (t, ap (λ m. (single initial m.0).view) is, record { counters = λ i. record { steps = 0; total_steps = (single initial (is i).0).steps; poll_count = none i }; note = blank }))
      (push_cases ports (port_model initial first y 0 poll_count token went_to) k p at);
}

-- the ports of a new line, which took no step
module _ (good : List ℕ → Type 0) (allows : List ℕ → List ℕ → Type 0) (table_id : TableId) (key : TableKey) (ports : List PortModel) (d : AreSplit table_id key key.config.nodes ports) where
  pub split_opens : MayOpen key.config → good key.config.opening.bytes → IsOpened good allows key table_id key.label key.config ports
  split_opens = opens_new (λ (p : PortModel). p.view) (BelongsTo good allows key table_id) key.label key.config ports d.many (λ k p at. (d.each k p at).1) (λ k p at sound. record { table_is = (d.each k p at).0; sound = sound })

  pub split_unused : AreUnused ports
  split_unused = λ k x l. let (p, at) = element_at ports k l in subst (λ (q : PortModel). IsUnused q) (sym (get_or_from_slice_get ports k p x at)) (d.each k p at).2

-- the seat stays the same
pub same_me : {O : Type 0} {a b : LineSeat O} → a ≡ b → a.me ≡ b.me
same_me e = ap (λ p. p.me) e

pub same_table : {O : Type 0} {a b : LineSeat O} → a ≡ b → a.table_id ≡ b.table_id
same_table e = ap (λ p. p.table_id) e
