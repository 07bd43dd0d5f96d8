-- Proof about an atomic step with which a node accepts the line. The event that belongs to this step takes the line out
-- of the slot.
use Rattle.std.proofs.Common.{◌≡◌, ◌≢◌, ℕ, ◌≤◌, Bool, true, false, List, [], ◌∷◌, length, sym, refl, ap, ◌∙◌, subst, arith}
use mathlib.Core.Option.{some}
use lib.ListN.{get_elem?}
use Rattle.line_lanes.specs.declared.line.Line64.{Line64}
use Rattle.qolb_model.specs.declared.request.Request.{Request}
use Rattle.qolb_model.specs.declared.config.LineConfig.{LineConfig}
use Rattle.qolb_model.specs.Ends.{is_closed, bytes_after}
use Rattle.qolb_model.specs.Kept.{AreAllowed}
use Rattle.qolb_model.specs.Leases.{turns_left}
use Rattle.qolb_model.specs.Requests.{count_of}
use Rattle.qolb_model.specs.AtTurn.{IsQueued, IsWithdrawn}
use Rattle.qolb_model.proofs.Agreed.{length-bytes_after}
use Rattle.qolb_model.proofs.Leases.{open_has_turns}
use Rattle.link_core.specs.declared.point.Point.{Point}
use Rattle.link_core.specs.declared.point.Point.TheVariants.{Queued, Rolled}
use Rattle.link_core.specs.declared.seat.NodeCall.{NodeCall}
use Rattle.link_core.specs.declared.place.Place.TheVariants.{Hand}
use Rattle.link_core.specs.declared.state.State.{State as Core}
use Rattle.link_core.specs.declared.told.Told.{Told as Answer}
use Rattle.link_core.specs.declared.event.Event.{Event}
use Rattle.link_core.specs.State.{seat, point, IsNode, last_or, no_mask}
use Rattle.link_core.specs.Steps.{Step, node_of, seat_at_arrival, left_after}
use Rattle.link_core.specs.Places.{IsLast}
use Rattle.link_core.specs.Promise.{Waits}
use Rattle.link_core.specs.Shown.{has_line, is_rolled, Shows}
use Rattle.link_core.proofs.Handoff.{arrival_unrolled}
use Rattle.link_core.proofs.Found.{found}
use Rattle.link_line.specs.Ghost.{LinkGhost}
use Rattle.line_generic.specs.declared.table.Payload.{Payload}
use Rattle.line_generic.specs.declared.table.TableKey.{TableKey}
use Rattle.link_line.specs.Links.{History, NodeInv, IsInHand, Represents, SlotHasLine, Homes, MayServe, is_leaving, is_shut_by, state_of, state_at}
use Rattle.link_line.specs.Steps.{IsAtTurn}
use Rattle.link_line.proofs.Window.{few_open}
use Rattle.link_line.proofs.Going.{SetsGrow, next, on}
use Rattle.link_line.specs.Laws.Nodes.{St, Rule, mine_ok, is_node}
use Rattle.link_line.proofs.Turning.{Joins, whole, passes_none, arrival_lined, arrival_state, arrival_passed, arrival_unserved, arrival_unlinked, arrival_unqueued, arrival_unfreeing, Owes, via_none, Turned, turned, own_at, own_marked}

-- the line of a node that it reached closed
arrival_carries : (d : Core) (n : ℕ) (line : Payload) (b : Bool) → line.bytes ≡ d.bytes → line.closed ≡ d.closed → line.turns_left ≡ d.left → line.closed ≡ b → seat d n ≡ seat_at_arrival n b → is_leaving (point d n) ≡ true → IsInHand d n (seat d n) line
arrival_carries d n line false a c t shut own leaves = let z : false ≡ true = ap (λ (s : NodeCall). is_leaving s.point) (sym own) ∙ leaves in cc
arrival_carries d n line true a c t shut own leaves = record {
  bytes = a;
  closed = c;
  turns = t ∙ ap (λ (s : NodeCall). left_after d.left s.reason s.passed) (sym own);
  mask = λ s. absurd (arrival_unserved n true (subst MayServe own s));
  shut = shut ∙ ap (λ (s : NodeCall). is_shut_by s.reason) (sym own);
}

module _ (good : List ℕ → Type 0) (allows : List ℕ → List ℕ → Type 0) (key : TableKey) where
  -- a port whose request waits, and one whose request was withdrawn
  pub queued_at : (y : History) (v : LinkGhost) (count : ℕ) (joins : List Request) (passed : List ℕ) (line : Payload) → Shows key.config y.core y.queue → v.view.config ≡ key.config → count_of v.view.node y.queue.order ≡ count → Waits y.queue v.view.node → point y.core v.view.node ≡ Queued → IsQueued (whole y v count joins passed line).view
  queued_at y v count joins passed line s config c w e = record {
    state = ap (λ (p : Point). state_at p (seat y.core v.view.node).reason (seat y.core v.view.node).passed) e;
    waits = (w.at, w.behind, own_at good allows key y v count w.at s c w.last);
    near = few_open key.config y.core y.queue s v.view.config config;
    unmarked = own_marked good allows key y v count w.at s c w.last (let l = w.behind in omega arith) ∙ ap is_rolled e;
  }

  pub withdrawn_at : (y : History) (v : LinkGhost) (count : ℕ) (joins : List Request) (passed : List ℕ) (line : Payload) → Shows key.config y.core y.queue → v.view.config ≡ key.config → count_of v.view.node y.queue.order ≡ count → Waits y.queue v.view.node → point y.core v.view.node ≡ Rolled → IsWithdrawn (whole y v count joins passed line).view
  withdrawn_at y v count joins passed line s config c w e = record {
    state = ap (λ (p : Point). state_at p (seat y.core v.view.node).reason (seat y.core v.view.node).passed) e;
    waits = (w.at, w.behind, own_at good allows key y v count w.at s c w.last);
    near = few_open key.config y.core y.queue s v.view.config config;
    marked = own_marked good allows key y v count w.at s c w.last (let l = w.behind in omega arith) ∙ ap is_rolled e;
  }

  module _ (s : St good allows key) (r : Rule good allows key s) (me : ℕ) (v : LinkGhost) (at : get_elem? s.views me ≡ some (v ∷ [])) where
    module _ {e : Event} {t : Answer} {d : Core} (k : Step r.history.core e t d) (is : node_of e ≡ v.view.node) (joined : List Request) (count : ℕ) (joins : List Request) (h : SlotHasLine r.history.core s.homes) where
      abbrev pub after_arrival : History
      after_arrival = next allows key r.may_open.nodes.few r.history r.history_inv k joined r.history.early r.history.late

      abbrev pub view_come : LinkGhost
      view_come = whole after_arrival v count joins [] h.line

      -- what the event does to the core, and to the queue
      pub record Arrives : Type 0 where
        pub seat_is : seat d v.view.node ≡ seat_at_arrival v.view.node r.history.core.closed
        pub place : d.place ≡ Hand v.view.node
        pub mask : d.mask ≡ no_mask
        pub bytes : d.bytes ≡ r.history.core.bytes
        pub closed : d.closed ≡ r.history.core.closed
        pub left : d.left ≡ r.history.core.left
        pub nodes : d.nodes ≡ r.history.core.nodes
        pub nowhere : (m : ℕ) → r.history.core.place ≢ Hand m
        pub ends : after_arrival.queue.ends ≡ r.history.queue.ends
        pub counts : count_of v.view.node after_arrival.queue.order ≡ count
        pub grows : SetsGrow r.history after_arrival (node_of e)
        pub joins_are : Joins after_arrival v joins

      module _ (a : Arrives) where
        abbrev b : Bool
        b = r.history.core.closed

        ok : NodeInv key r.history v.view.node v
        ok = mine_ok good allows key s r me v at

        shows : Shows key.config d after_arrival.queue
        shows = (on allows key r.may_open.nodes.few r.history r.history_inv k).shows

        node : IsNode d v.view.node
        node = let n = is_node good allows key s r me v at in (n.0, subst (λ (q : ℕ). v.view.node ≤ q) (sym a.nodes) n.1)

        owes : Owes good allows key after_arrival v count joins [] h.line
        owes = record {
          kept = subst (AreAllowed allows key.config.opening.bytes) (sym a.ends) r.history_inv.kept;
          lawful = λ z. absurd (arrival_unserved v.view.node b (subst MayServe a.seat_is z));
          unjoined = λ q z. absurd (arrival_unlinked v.view.node q b (ap (λ (s : NodeCall). s.point) (sym a.seat_is) ∙ z));
          waiting = λ z. absurd (arrival_unqueued v.view.node b (ap (λ (s : NodeCall). s.point) (sym a.seat_is) ∙ z));
          counts = a.counts;
          joins = a.joins_are;
          unwritten = λ _. a.mask;
          carries = arrival_carries d v.view.node h.line b (h.bytes ∙ sym a.bytes) (h.closed ∙ sym a.closed) (h.turns ∙ sym a.left) h.closed a.seat_is;
          left = λ z. absurd (arrival_unfreeing v.view.node b (ap (λ (s : NodeCall). s.point) (sym a.seat_is) ∙ z));
          passes = passes_none after_arrival.queue.order view_come (ap (λ (s : NodeCall). s.passed) a.seat_is ∙ arrival_passed v.view.node b) refl;
        }

        last : IsLast after_arrival.queue.order v.view.node (length after_arrival.queue.ends)
        last = subst (λ (ps : List ℕ). IsLast after_arrival.queue.order (last_or v.view.node ps) (length after_arrival.queue.ends)) (ap (λ (s : NodeCall). s.passed) a.seat_is ∙ arrival_passed v.view.node b)
            ((found shows).turn v.view.node node (ap (λ (s : NodeCall). has_line s.point) a.seat_is ∙ arrival_lined v.view.node b))

        is_whole : (r.history.core.bytes.bytes ≡ bytes_after key.config.opening.bytes after_arrival.queue.ends) × (b ≡ is_closed after_arrival.queue.ends)
        is_whole = let w = (found r.history_inv.shown).whole a.nowhere in (w.bytes ∙ ap (bytes_after key.config.opening.bytes) (sym a.ends), w.closed ∙ ap is_closed (sym a.ends))

        bytes_are : h.line.bytes.bytes ≡ bytes_after key.config.opening.bytes after_arrival.queue.ends
        bytes_are = ap (λ (z : Line64). z.bytes) h.bytes ∙ is_whole.0

        turns_are : h.line.turns_left ≡ turns_left key.config.lease after_arrival.queue.ends
        turns_are = h.turns ∙ r.history_inv.shown.matches.turns ∙ ap (turns_left key.config.lease) (sym a.ends)

        point_by : {k : Bool} → is_closed after_arrival.queue.ends ≡ k → point d v.view.node ≡ (seat_at_arrival v.view.node k).point
        point_by e = ap (λ (s : NodeCall). s.point) a.seat_is ∙ ap (λ (k : Bool). (seat_at_arrival v.view.node k).point) (is_whole.1 ∙ e)

        pub at_turn : IsAtTurn view_come h.line
        at_turn = λ token. record {
          has = record { holds = λ unclosed. (point_by unclosed, refl); refuses = λ shut. (point_by shut, refl, refl) };
          state = ap state_of a.seat_is ∙ arrival_state v.view.node b;
          turn = own_at good allows key after_arrival v count (length after_arrival.queue.ends) shows a.counts last;
          unmarked = own_marked good allows key after_arrival v count (length after_arrival.queue.ends) shows a.counts last (omega arith) ∙ ap (λ (s : NodeCall). is_rolled s.point) a.seat_is ∙ arrival_unrolled v.view.node b;
          clear = (on allows key r.may_open.nodes.few r.history r.history_inv k).comes v.view.node a.place a.nowhere;
          bytes = bytes_are ∙ ap (λ (t : LineConfig). bytes_after t.opening.bytes after_arrival.queue.ends) (sym ok.who.config);
          closed = h.closed ∙ is_whole.1;
          turns = turns_are ∙ ap (λ (t : LineConfig). turns_left t.lease after_arrival.queue.ends) (sym ok.who.config);
          some_left = λ unclosed none. open_has_turns key.config.lease after_arrival.queue.order after_arrival.queue.ends r.may_open.lease shows.legal unclosed (sym turns_are ∙ none);
          line = ap (λ (bs : List ℕ). length bs) bytes_are ∙ length-bytes_after key.config.opening.bytes after_arrival.queue.ends r.history_inv.shown.matches.opened;
        }

        pub come_turned : (words : List ℕ) (homes : Homes) → Represents d words homes → Turned good allows key s r me v at r.history (via_none good allows key r.history v r.history_inv) after_arrival view_come words homes
        come_turned words homes laid = turned good allows key s r me v at r.history (via_none good allows key r.history v r.history_inv) k is joined r.history.early r.history.late a.grows count joins [] h.line owes words homes laid
