-- Theorems about the table of a line that is being finished. One seat then has the views of all nodes, and no request
-- is open.
use Rattle.std.proofs.Common.{◌≡◌, ℕ, ◌≤◌, List, length, Bool, true, false, sym, refl, ap, ◌∙◌, subst}
use mathlib.Core.Option.{some}
use lib.ListN.{get_elem?}
use Rattle.atomic_table.specs.Table.{Final}
use Rattle.line_lanes.specs.declared.line.Line64.{Line64}
use Rattle.qolb_model.specs.declared.view.View.{View}
use Rattle.qolb_model.specs.Ends.{bytes_after}
use Rattle.qolb_model.specs.OneHistory.{IsAmong}
use Rattle.qolb_model.specs.Finishing.{IsFinalLine}
use Rattle.qolb_model.proofs.Writes.{good_after}
use Rattle.qolb_model.proofs.Agreeing.{among_map_port}
use Rattle.qolb_model.proofs.Finishing.{once_map}
use Rattle.qolb_model.proofs.Seats.{once_each}
use Rattle.link_core.specs.declared.point.Point.{Point}
use Rattle.link_core.specs.declared.point.Point.TheVariants.{Idle, Ready, Linking, Queued, Holding, Leaving, Marking, Granting, Freeing, Left, Rolled, Shut}
use Rattle.link_core.specs.declared.place.Place.TheVariants.{Home}
use Rattle.link_core.specs.State.{IsNode, point}
use Rattle.link_core.specs.Shown.{has_line, Lies, at_home, in_hand, granted, left, IsWhole}
use Rattle.link_line.specs.Ghost.{LinkGhost}
use Rattle.line_generic.specs.declared.table.TableKey.{TableKey}
use Rattle.line_generic.specs.declared.table.Payload.{Payload}
use Rattle.line_generic.specs.NodeGhosts.{node_of}
use Rattle.qolb_model.specs.declared.answer.PortState.{PortState}
use Rattle.qolb_model.specs.declared.answer.PortState.TheVariants as port_state
use Rattle.qolb_model.specs.PortStates.{may_ask}
use Rattle.link_line.specs.declared.local.LinkLocal.{LinkLocal}
use Rattle.link_line.specs.BetweenCalls.{in_state}
use Rattle.link_line.specs.Links.{At, NodeInv, InSlot, SlotHasLine}
use Rattle.line_generic.specs.NodeGhosts.{AllInState, views_of}
use Rattle.link_line.specs.Laws.Histories.{one_history, at_point}
use Rattle.link_line.specs.Laws.Nodes.{St}
use Rattle.link_line.specs.Laws.Seats.{Rule}

-- the node is in no call, and neither waits nor holds
abbrev is_at_rest : Point → Bool
is_at_rest Idle = true
is_at_rest Left = true
is_at_rest Rolled = true
is_at_rest Shut = true
is_at_rest _ = false

-- a port that may make a request is at rest
may_ask_rests : (nodes : ℕ) (state : PortState) (token : ℕ) (own : LinkLocal) → may_ask state ≡ true → in_state nodes state token own → is_at_rest own.seat.point ≡ true
may_ask_rests nodes port_state.Idle token own may at = ap is_at_rest at
may_ask_rests nodes port_state.Linking token own may at = absurd (cc may)
may_ask_rests nodes port_state.Queued token own may at = absurd (cc may)
may_ask_rests nodes port_state.Holding token own may at = absurd at
may_ask_rests nodes port_state.Left token own may at = ap is_at_rest at
may_ask_rests nodes port_state.Rolled token own may at = ap is_at_rest at
may_ask_rests nodes port_state.Shut token own may at = ap is_at_rest at

-- the node does not have the line
rests_without : (p : Point) → is_at_rest p ≡ true → has_line p ≡ true → ⊥
rests_without Idle e l = cc l
rests_without Ready e l = cc l
rests_without (Linking q) e l = cc l
rests_without Queued e l = cc l
rests_without Holding e l = cc e
rests_without (Leaving q) e l = cc e
rests_without (Marking q) e l = cc e
rests_without (Granting q) e l = cc e
rests_without Freeing e l = cc l
rests_without Left e l = cc l
rests_without Rolled e l = cc l
rests_without Shut e l = cc l

module _ (good : List ℕ → Type 0) (allows : List ℕ → List ℕ → Type 0) (stays : (old new : List ℕ) → good old → allows old new → good new) (key : TableKey) (entries : List LinkGhost) (at_rest : AllInState in_state key.config.nodes entries) where
  module _ (id : ℕ) (s : St good allows key) (r : Rule good allows key s) (at : get_elem? s.views id ≡ some entries) where
    -- a view of the seat is the view of its node
    view_ok : (i : ℕ) (v : LinkGhost) → At entries i v → IsNode r.history.core v.view.node × NodeInv key r.history v.view.node v
    view_ok i v e = let m = r.members id i entries v at e in
        ((m.low, subst (λ (q : ℕ). v.view.node ≤ q) (sym r.history_inv.shown.matches.size) m.high), subst (NodeInv key r.history v.view.node) m.is (r.each v.view.node m.low m.high))

    -- the node n is at rest
    resting : (n : ℕ) → IsNode r.history.core n → is_at_rest (point r.history.core n) ≡ true
    resting n node =
        let (i, v, here, is, (state, token, may, rest)) = at_rest n node.0 (subst (λ (q : ℕ). n ≤ q) r.history_inv.shown.matches.size node.1) in
        let (own, ok) = view_ok i v here in
        ap is_at_rest (ap (point r.history.core) (sym is) ∙ at_point allows key r.history r.history_inv v.view.node v own ok) ∙ may_ask_rests v.view.config.nodes state token v.own may rest

    -- The line is therefore at home, and all requests have ended.
    pub record IsHome : Type 0 where
      pub ended : length r.history.queue.ends ≡ length r.history.queue.order
      pub place : r.history.core.place ≡ Home
      pub whole : IsWhole key.config r.history.core r.history.queue.ends

    is_home : Lies key.config r.history.core r.history.queue.order r.history.queue.ends → IsHome
    is_home (at_home e p w) = record { ended = e; place = p; whole = w }
    is_home (in_hand n l node p has asks c) = absurd (rests_without (point r.history.core n) (resting n node) has)
    is_home (granted t l asks p g q w) = absurd (let node = subst (IsNode r.history.core) asks (r.history_inv.shown.matches.nodes (length r.history.queue.ends) l) in let z = sym (ap is_at_rest q) ∙ resting t node in cc z)
    is_home (left t q l asks p d k out link w) = absurd (let node = subst (IsNode r.history.core) asks (r.history_inv.shown.matches.nodes (length r.history.queue.ends) l) in let z = sym (ap is_at_rest link) ∙ resting t node in cc z)

    home : IsHome
    home = is_home r.history_inv.shown.matches.lies

    slot : SlotHasLine r.history.core s.homes
    slot = subst (InSlot r.history.core s.homes) home.place r.represents.slot

    result : slot.line.bytes.bytes ≡ bytes_after key.config.opening.bytes r.history.queue.ends
    result = ap (λ (l : Line64). l.bytes) slot.bytes ∙ home.whole.bytes

    among : (v : View) → IsAmong (views_of entries) v → (n : ℕ) × (e : LinkGhost) × (e.view ≡ v) × IsNode r.history.core n × NodeInv key r.history n e
    among v i = let (k, e, here, is) = among_map_port (λ (e : LinkGhost). e.view) entries v i in let (node, ok) = view_ok k e here in (e.view.node, e, sym is, node, ok)

    pub finishes : (y : Payload) × (get_elem? s.homes 0 ≡ some (some y)) × IsFinalLine good allows key.config (views_of entries) y.bytes.bytes
    finishes = (
      slot.line,
      slot.at,
      record {
        may_open = r.may_open;
        once = once_map (λ (e : LinkGhost). e.view) entries (once_each node_of key.config.nodes r.who r.owner s.views r.members id entries at);
        history = one_history allows key r.history r.history_inv (views_of entries) among;
        config_is = refl;
        all_ended = home.ended;
        kept = r.history_inv.kept;
        result = result;
        is_good = subst good (sym result) (good_after good allows stays key.config.opening.bytes r.history.queue.ends r.opened_good r.history_inv.kept);
      },
    )

  final_line : (id : ℕ) (words : List ℕ) (xs : List Payload) → Final (λ s. Rule good allows key s × (get_elem? s.views id ≡ some entries)) words xs → (y : Payload) × (get_elem? xs 0 ≡ some y) × IsFinalLine good allows key.config (views_of entries) y.bytes.bytes
  final_line id words xs f = let s = f.0 in let h = f.1 in let t = finishes id s h.0 h.1 in (t.0, f.4 0 t.0 t.1, t.2)

pub lasts : (good : List ℕ → Type 0) (allows : List ℕ → List ℕ → Type 0) (stays : (old new : List ℕ) → good old → allows old new → good new) (key : TableKey) (es : List LinkGhost) (id : ℕ) (words : List ℕ) (xs : List Payload) → AllInState in_state key.config.nodes es
    → Final (λ s. Rule good allows key s × (get_elem? s.views id ≡ some es)) words xs → (y : Payload) × (get_elem? xs 0 ≡ some y) × IsFinalLine good allows key.config (views_of es) y.bytes.bytes
lasts good allows stays key es id words xs at_rest f = final_line good allows stays key es at_rest id words xs f
