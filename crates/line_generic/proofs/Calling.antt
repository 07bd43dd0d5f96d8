-- Lemmas which relate the fields of a port after a call to what the call's contract states about the port.
use Rattle.std.proofs.Common.{◌≡◌, ◌≢◌, ℕ, length, List, Option, None, Some, refl, true, false, sym, ap, ◌∙◌, subst, Bool, ◌||◌, bit_or}
use lib.Dec.{eqb}
use Rattle.std.specs.Option.{option_eq}
use Rattle.line_lanes.specs.Line.{merged}
use Rattle.atomic_table.specs.Seated.{TableId}
use Rattle.qolb_model.specs.declared.answer.PortState.{PortState}
use Rattle.qolb_model.specs.declared.answer.PortState.TheVariants as port_state
use Rattle.qolb_model.specs.declared.end.End.TheVariants.{Served}
use Rattle.qolb_model.specs.declared.config.LineConfig.{LineConfig}
use Rattle.qolb_model.specs.declared.view.View.{View}
use Rattle.qolb_model.specs.PortStates.{state_after}
use Rattle.qolb_model.specs.Leases.{closes}
use Rattle.qolb_model.specs.Steps.{is_one}
use Rattle.qolb_model.specs.Ends.{is_closed, bytes_after, written}
use Rattle.qolb_model.specs.Views.{bytes_of, Extends}
use Rattle.qolb_model.specs.Enqueueing.{IsBusy, Asks}
use Rattle.qolb_model.specs.Linking.{Links}
use Rattle.qolb_model.specs.Kept.{MayRelease}
use Rattle.qolb_model.specs.Sound.{Continues}
use Rattle.qolb_model.specs.Releasing.{EndsTurn}
use Rattle.qolb_model.specs.Calls.{Releases}
use Rattle.qolb_model.proofs.Leases.{last-is_one}
use Rattle.qolb_model.proofs.Writes.{bytes_after-release}
use Rattle.qolb_model.proofs.Going.{continues_sound, sound_goes, asks_goes, joined_goes}
use Rattle.line_generic.specs.declared.discipline.Enqueued.{Enqueued}
use Rattle.line_generic.specs.declared.discipline.Enqueued.TheVariants as enqueued
use Rattle.line_generic.specs.declared.table.LocalCopy.{LocalCopy}
use Rattle.line_generic.specs.declared.table.Payload.{Payload}
use Rattle.line_generic.specs.declared.table.TableKey.{TableKey}
use Rattle.line_generic.specs.NodeGhosts.{LineSeat}
use Rattle.line_generic.specs.PortPhases.{PortPhases}
use Rattle.line_generic.specs.Steps.{IsSameSeat, ghost_of, nodes_of, single, HoldsPayload, own_end, IsNextPayload, SeatAdvances}
use Rattle.line_generic.specs.Ports.{PortModel, port_model, write_in, Holds, IsPort, BelongsTo, IsSeated, IsStored}
use Rattle.line_generic.specs.AtTurn.{SeesTurn}
use Rattle.line_generic.proofs.Releasing.{carries_served, holds_written}

-- whether a lease's last turn is left, as the code compares it
pub equal-is_one : (left : Option ℕ) → option_eq eqb left (Some 1) ≡ is_one left
equal-is_one None = refl
equal-is_one (Some _) = refl

-- a request that is at its turn, or behind another one, was not busy
pub came_asked : {answer : Enqueued} → answer ≡ enqueued.AtTurn → answer ≢ enqueued.Busy
came_asked is busy = cc (is, busy)

pub behind_asked : {answer : Enqueued} → answer ≡ enqueued.Queued → answer ≢ enqueued.Busy
behind_asked is busy = cc (is, busy)

-- after n steps of a port of the line
module _ {O : Type 0} {initial : O} {good : List ℕ → Type 0} {allows : List ℕ → List ℕ → Type 0} {key : TableKey} {table_id : TableId} {p : PortModel} (s : LineSeat O) (y : LocalCopy) (steps poll_count : ℕ) {token : ℕ} {went_to : Option ℕ} (b : BelongsTo good allows key table_id p) (is : port_model initial s y steps poll_count token went_to ≡ p) {t : LineSeat O} {n : ℕ} (w : SeatAdvances allows initial s t n) where
  -- the port's view goes on from what it knew
  pub call_continues : Continues allows p.view (ghost_of initial t).view
  call_continues = w.advances.continues p.view (subst (λ (x : PortModel). Continues allows p.view x.view) (sym is) (continues_sound good allows key.label key.config p.view b.sound))

  -- the port belongs to the line
  pub call_belongs : (z : LocalCopy) (steps : ℕ) {poll_count token : ℕ} {went_to : Option ℕ} → BelongsTo good allows key table_id (port_model initial t z steps poll_count token went_to)
  call_belongs z steps {poll_count = poll_count} = record {
    table_is = w.seat.0 ∙ (ap (λ (x : PortModel). x.table) is ∙ b.table_is);
    sound = sound_goes good allows key.label key.config p.view (ghost_of initial t).view b.sound call_continues;
  }

  -- the port's seat is that of its node
  pub call_seat : (node : ℕ) → (ghost_of initial s).view.node ≡ node → IsSeated good allows key table_id initial node t
  call_seat node node_is = record {
    of_one_node = w.advances.of_one_node;
    node_is = w.advances.extends.node ∙ node_is;
    table_is = w.seat.0 ∙ (ap (λ (x : PortModel). x.table) is ∙ b.table_is);
    sound = sound_goes good allows key.label key.config p.view (ghost_of initial t).view b.sound call_continues;
  }

-- the count of a port's requests, as its contract shows it
pub same_count : {O : Type 0} (initial : O) {p : PortModel} (w : View) (s : LineSeat O) (y : LocalCopy) (steps poll_count : ℕ) {token : ℕ} {went_to : Option ℕ} → port_model initial s y steps poll_count token went_to ≡ p → w.count ≡ (ghost_of initial s).view.count → w.count ≡ p.view.count
same_count initial w s y steps poll_count is e = e ∙ ap (λ (x : PortModel). x.view.count) is

-- what a port made of its last request, as its contract shows it
module _ {O : Type 0} (initial : O) {p : PortModel} (s : LineSeat O) (y : LocalCopy) (steps poll_count : ℕ) {token : ℕ} {went_to : Option ℕ} (is : port_model initial s y steps poll_count token went_to ≡ p) where
  pub call_busy : {v : View} → IsBusy (ghost_of initial s).view v → IsBusy p.view v
  call_busy {v = v} busy = subst (λ (x : PortModel). IsBusy x.view v) is busy

  pub call_asks : {v : View} → Asks (ghost_of initial s).view v → Asks p.view v
  call_asks {v = v} asks = subst (λ (x : PortModel). Asks x.view v) is asks

  pub call_asks_on : {v w : View} → Asks (ghost_of initial s).view v → Extends v w → w.count ≡ v.count → Asks p.view w
  call_asks_on {v = v} {w = w} asks more same = call_asks (asks_goes (ghost_of initial s).view v w asks more same)

  pub call_links : {v : View} → Links (ghost_of initial s).view v → Links p.view v
  call_links {v = v} links = subst (λ (x : PortModel). Links x.view v) is links

  pub call_links_on : {v w : View} → Links (ghost_of initial s).view v → Extends v w → w.count ≡ v.count → Links p.view w
  call_links_on {v = v} {w = w} links more same = call_links (record { count = same ∙ links.count; joined = joined_goes v w links.joined more same })

-- the port knows how many nodes the line has
pub call_nodes : {O : Type 0} (initial : O) {good : List ℕ → Type 0} {allows : List ℕ → List ℕ → Type 0} {key : TableKey} {table_id : TableId} {p : PortModel} (s : LineSeat O) (y : LocalCopy) (steps poll_count : ℕ) {token : ℕ} {went_to : Option ℕ} → BelongsTo good allows key table_id p → port_model initial s y steps poll_count token went_to ≡ p
    → nodes_of initial s ≡ key.config.nodes
call_nodes initial s y steps poll_count b is = ap (λ (t : LineConfig). t.nodes) (ap (λ (x : PortModel). x.view.config) is ∙ b.sound.config_is)

-- a port between calls
module _ {O : Type 0} {q : PortPhases O} {label node : ℕ} {p : PortModel} (s : LineSeat O) (y : LocalCopy) (token steps poll_count : ℕ) {went_to : Option ℕ} (state : PortState) (between : IsPort q label node s y token state) (is : port_model q.initial s y steps poll_count token went_to ≡ p) where
  -- the state that the port shows is its own
  pub own_state : p.view.state ≡ state
  own_state = ap (λ (x : PortModel). x.view.state) (sym is) ∙ between.shows_state

  pub holds_of : p.view.state ≡ port_state.Holding → Holds q s y token
  holds_of held = between.holds_so (sym own_state ∙ held)

  -- the word at which its node waits, by what its contract shows
  pub own_word : (wait_word : ℕ → ℕ → ℕ → ℕ) (nodes : ℕ) → nodes_of q.initial s ≡ nodes → wait_word nodes node token ≡ wait_word p.view.config.nodes p.view.node p.token
  own_word wait_word nodes many = λ i. wait_word ((sym many ∙ ap (λ (x : PortModel). x.view.config.nodes) is) i) ((sym between.node_is ∙ ap (λ (x : PortModel). x.view.node) is) i) (is i).token

  -- if the port holds the line, that word is the word of the turn, as any port knows it that sees the turn
  pub held_word : (wait_word : ℕ → ℕ → ℕ → ℕ) (wake_word : View → ℕ) (nodes : ℕ) → nodes_of q.initial s ≡ nodes
      → ((m : ℕ) (u v : View) (own : O) → q.holds_open m (length v.ends) own → SeesTurn u v → wait_word v.config.nodes v.node m ≡ wake_word u)
      → p.view.state ≡ port_state.Holding → (u : View) → SeesTurn u p.view → wait_word nodes node token ≡ wake_word u
  held_word wait_word wake_word nodes many law held u sees =
      (λ i. wait_word (sym many i) (sym between.node_is i) token) ∙ law token u (ghost_of q.initial s).view (ghost_of q.initial s).own (holds_of held).at (subst (λ (x : PortModel). SeesTurn u x.view) (sym is) sees)

  -- a port after its holder wrote
  pub written_port : (z : LocalCopy) (mask : ℕ) (bytes : List ℕ) → p.view.state ≡ port_state.Holding → z.bytes.bytes ≡ merged y.bytes.bytes bytes mask → z.mask.bits ≡ bit_or y.mask.bits mask → z.turns_left ≡ y.turns_left
      → IsPort q label node s z token state
  written_port z mask bytes held b m c = record {
    of_one_node = between.of_one_node;
    rests_so = between.rests_so;
    holds_so = λ e. holds_written q s y z token mask bytes (between.holds_so e) b m c;
    shows_state = between.shows_state;
    label_is = between.label_is;
    node_is = between.node_is;
  }

  -- the turns of a holder, when the line is put back, closed or not
  module _ {good : List ℕ → Type 0} {allows : List ℕ → List ℕ → Type 0} {key : TableKey} {table_id : TableId} (b : BelongsTo good allows key table_id p) (held : p.view.state ≡ port_state.Holding)
      (shut closed : Bool) (is_shut : closed ≡ (shut || is_one y.turns_left)) (u : LineSeat O) (same : IsSameSeat s u) (entries : u.me.0 ≡ s.me.0) (back : (z : Payload) × q.slots_at_release key.config.nodes token z u.me.1 × IsStored y closed z) where
    its : Holds q s y token
    its = holds_of held

    entry : ghost_of q.initial u ≡ ghost_of q.initial s
    entry = ap (single q.initial) entries

    pub put_closes : closed ≡ closes (ghost_of q.initial s).view.config.lease (ghost_of q.initial s).view.ends shut
    put_closes = is_shut ∙ ap (λ b. shut || b) (ap is_one its.turns ∙ last-is_one (ghost_of q.initial s).view.config.lease (ghost_of q.initial s).view.ends)

    pub put_has : (z : Payload) → HoldsPayload q.holds_open q.holds_closed token (ghost_of q.initial u) z
    put_has z = subst (λ e. HoldsPayload q.holds_open q.holds_closed token e z) (sym entry) (record { holds = λ _. its.at; refuses = λ shut. let e : true ≡ false = sym shut ∙ its.is_open in absurd (cc e) })

    pub put_carries : MayRelease allows p.view p.turn → (z : Payload) × q.slots_at_release key.config.nodes token z u.me.1 × HoldsPayload q.holds_open q.holds_closed token (ghost_of q.initial u) z × IsNextPayload allows (ghost_of q.initial u).view z × (z.closed ≡ closed)
    put_carries may = (
      back.0,
      back.1,
      put_has back.0,
      subst (λ e. IsNextPayload allows e.view back.0) (sym entry)
          (carries_served allows (ghost_of q.initial s).view y back.0 shut its.is_open its.turns its.merged (subst (λ (x : PortModel). MayRelease allows x.view x.turn) (sym is) may) (subst (λ c. IsStored y c back.0) put_closes back.2)),
      back.2.closed_is,
    )

    -- a port after its holder released the line
    pub released_with : {t : LineSeat O} {n : ℕ} → SeatAdvances allows q.initial s t n → EndsTurn (ghost_of q.initial u).view (own_end (is_closed (ghost_of q.initial u).view.ends) back.0) (state_after back.0.closed) (ghost_of q.initial t).view → Releases allows shut p.view (ghost_of q.initial t).view p.turn
    released_with {t = t} w l = record {
      continues = c;
      ends_turn = ends;
      bytes = (λ i. bytes_after (c.extends.config i).opening.bytes (ends.ends i)) ∙ (bytes_after-release p.view.config.opening.bytes p.view.ends p.turn (closes p.view.config.lease p.view.ends shut) ends.passed ∙ merged_now);
    }
      where
        c : Continues allows p.view (ghost_of q.initial t).view
        c = call_continues s y steps poll_count b is w

        merged_now : written (bytes_of p.view) p.turn ≡ p.turn.bytes.bytes
        merged_now = subst (λ (x : PortModel). written (bytes_of x.view) x.turn ≡ x.turn.bytes.bytes) is its.merged

        here : EndsTurn (ghost_of q.initial s).view (own_end (is_closed (ghost_of q.initial s).view.ends) back.0) (state_after back.0.closed) (ghost_of q.initial t).view
        here = subst (λ e. EndsTurn e.view (own_end (is_closed e.view.ends) back.0) (state_after back.0.closed) (ghost_of q.initial t).view) entry l

        what : own_end (is_closed (ghost_of q.initial s).view.ends) back.0 ≡ Served (write_in y) (closes (ghost_of q.initial s).view.config.lease (ghost_of q.initial s).view.ends shut)
        what = ap (λ k. own_end k back.0) its.is_open ∙ (λ i. Served (record { mask = record { 0 = (back.2.mask i).bits }; bytes = back.2.bytes i }) ((back.2.closed_is ∙ put_closes) i))

        leaves : state_after back.0.closed ≡ state_after (closes (ghost_of q.initial s).view.config.lease (ghost_of q.initial s).view.ends shut)
        leaves = ap state_after (back.2.closed_is ∙ put_closes)

        ends : let closing = closes p.view.config.lease p.view.ends shut in EndsTurn p.view (Served p.turn closing) (state_after closing) (ghost_of q.initial t).view
        ends = subst (λ (x : PortModel). EndsTurn x.view (Served x.turn (closes x.view.config.lease x.view.ends shut)) (state_after (closes x.view.config.lease x.view.ends shut)) (ghost_of q.initial t).view) is
            (subst (λ e. EndsTurn (ghost_of q.initial s).view e (state_after (closes (ghost_of q.initial s).view.config.lease (ghost_of q.initial s).view.ends shut)) (ghost_of q.initial t).view) what
            (subst (λ k. EndsTurn (ghost_of q.initial s).view (own_end (is_closed (ghost_of q.initial s).view.ends) back.0) k (ghost_of q.initial t).view) leaves here))
