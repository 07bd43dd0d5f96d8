-- Lemmas about a port that has checked whether its last request is clear. A port whose last request is not clear cannot
-- make another request yet.
use Rattle.std.proofs.Common.{◌≡◌, ◌≢◌, ℕ, List, Option, Bool, true, false, inl, inr, sym, ap, ◌∙◌, ⊎_elim}
use Rattle.atomic_table.specs.Seated.{TableId}
use Rattle.qolb_model.specs.declared.answer.PortState.{PortState}
use Rattle.qolb_model.specs.declared.answer.PortState.TheVariants as port_state
use Rattle.qolb_model.specs.PortStates.{may_ask}
use Rattle.qolb_model.specs.Calls.{LooksIfClear}
use Rattle.line_generic.specs.declared.table.LocalCopy.{LocalCopy}
use Rattle.line_generic.specs.declared.table.TableKey.{TableKey}
use Rattle.line_generic.specs.NodeGhosts.{LineSeat}
use Rattle.line_generic.specs.PortPhases.{PortPhases}
use Rattle.line_generic.specs.Steps.{ghost_of, IsInState, SeatAdvances}
use Rattle.line_generic.specs.Answers.{LooksAtRest}
use Rattle.line_generic.specs.Ports.{PortModel, port_model, IsPort, BelongsTo}
use Rattle.line_generic.proofs.Calling.{own_state, call_continues, same_count, call_busy}

module _ {O : Type 0} {q : PortPhases O} {label node : ℕ} {p : PortModel} (s : LineSeat O) (y : LocalCopy) (token steps poll_count : ℕ) {went_to : Option ℕ} (state : PortState) (between : IsPort q label node s y token state) (is : port_model q.initial s y steps poll_count token went_to ≡ p)
    (quiet : may_ask p.view.state ≡ true) {allows : List ℕ → List ℕ → Type 0} {t : LineSeat O} {n : ℕ} (advances : SeatAdvances allows q.initial s t n) {left : PortState} {clear : Bool} (looked : LooksAtRest q state s t left clear) where
  state_is : p.view.state ≡ state
  state_is = own_state s y token steps poll_count state between is

  not_held : state ≢ port_state.Holding
  not_held held = let e : true ≡ false = sym quiet ∙ ap may_ask (state_is ∙ held) in cc e

  before : IsInState q state token s
  before = record {
    of_one_node = between.of_one_node;
    stands = (between.rests_so not_held).0;
    shows_state = between.shows_state;
    slot = (between.rests_so not_held).1;
  }

  -- the port is still at rest, in the state that the look has left
  after : IsInState q left token t
  after = looked.stays token before

  still_not_held : left ≢ port_state.Holding
  still_not_held held = ⊎_elim (λ same. not_held (sym same ∙ held)) (λ idle. let e : port_state.Idle ≡ port_state.Holding = sym idle ∙ held in cc e) looked.leaves

  pub looked_port : IsPort q label node t y token left
  looked_port = record {
    of_one_node = after.of_one_node;
    rests_so = λ _. (after.stands, after.slot);
    holds_so = λ held. absurd (still_not_held held);
    shows_state = after.shows_state;
    label_is = advances.advances.extends.label ∙ between.label_is;
    node_is = advances.advances.extends.node ∙ between.node_is;
  }

  -- what the look found is true
  pub looked_found : {good : List ℕ → Type 0} {key : TableKey} {table_id : TableId} → BelongsTo good allows key table_id p → LooksIfClear allows p.view (ghost_of q.initial t).view clear
  looked_found b = record {
    continues = call_continues s y steps poll_count b is advances;
    count = same_count q.initial (ghost_of q.initial t).view s y steps poll_count is looked.count;
    state = ⊎_elim (λ same. inl (after.shows_state ∙ same ∙ sym state_is)) (λ idle. inr (after.shows_state ∙ idle)) looked.leaves;
    clear = looked.clears;
    busy = λ e. call_busy q.initial s y steps poll_count is (looked.busy e);
  }
