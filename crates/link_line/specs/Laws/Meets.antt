-- Theorems about two ports whose views are in the same seat. They state what the view of one port implies about the
-- view of the other port.
use Rattle.std.proofs.Common.{◌≡◌, ◌≢◌, ℕ, ◌≤◌, inl, inr, List, [], ◌∷◌, ◌++◌, set, slice_index, sym, refl, ap, ◌∙◌, subst, arith, length-set}
use mathlib.Core.List.{IsPrefix}
use mathlib.Core.Option.{none, some}
use lib.ListN.{get_elem?}
use lib.Seq.{set-get_or}
use Rattle.atomic_table.specs.Table.{step, keeps, gives, put_back, rest, Allows}
use Rattle.atomic_table.proofs.Lists.{set_again}
use Rattle.qolb_model.specs.declared.answer.PortState.TheVariants as port_state
use Rattle.qolb_model.specs.declared.end.End.{End}
use Rattle.qolb_model.specs.OneHistory.{OneHistory}
use Rattle.qolb_model.specs.Sound.{Continues}
use Rattle.qolb_model.specs.Requests.{has}
use Rattle.qolb_model.specs.Meeting.{longer, merged_view}
use Rattle.qolb_model.specs.Calls.{MergesViews}
use Rattle.qolb_model.proofs.Lists.{same_test}
use Rattle.qolb_model.proofs.Prefixes.{prefix_length}
use Rattle.qolb_model.proofs.Requests.{has_left, either_has, has_prefix}
use Rattle.qolb_model.proofs.Agreeing.{among_first, among_second, among_two, one_holder}
use Rattle.qolb_model.proofs.Longer.{longer_begins, begins_longer, begins_longer_too, longer_whole}
use Rattle.qolb_model.proofs.Merging.{meets_view}
use Rattle.qolb_model.proofs.Seats.{two_differ, both_put, pair_each, pair_members}
use Rattle.link_core.specs.declared.place.Place.{Place}
use Rattle.link_core.specs.declared.place.Place.TheVariants.{Hand}
use Rattle.link_core.specs.State.{IsNode}
use Rattle.link_core.specs.Shown.{has_line}
use Rattle.link_core.proofs.Found.{found}
use Rattle.link_line.specs.Ghost.{LinkGhost}
use Rattle.line_generic.specs.declared.table.TableKey.{TableKey}
use Rattle.line_generic.specs.declared.table.Payload.{Payload}
use Rattle.line_generic.specs.NodeGhosts.{node_of}
use Rattle.link_line.specs.Links.{History, NodeInv, HistoryInv, InSlot}
use Rattle.link_line.specs.BetweenCalls.{initial}
use Rattle.link_line.specs.Steps.{SeatContents}
use Rattle.line_generic.specs.Steps.{merged_ghost, after_meet, slots_returned}
use Rattle.link_line.specs.Laws.Histories.{one_history, continues, at_point, holding_of}
use Rattle.link_line.specs.Laws.Nodes.{St, mine_ok, is_node}
use Rattle.link_line.specs.Laws.Seats.{Rule}

module _ (key : TableKey) (x : History) (n m : ℕ) (v u : LinkGhost) (ok : NodeInv key x n v) (other : NodeInv key x m u) where
  orders : IsPrefix v.view.order (longer v.view.order u.view.order)
  orders = begins_longer v.view.order u.view.order x.queue.order ok.knows.orders other.knows.orders

  endings : IsPrefix v.view.ends (longer v.view.ends u.view.ends)
  endings = begins_longer v.view.ends u.view.ends x.queue.ends ok.knows.endings other.knows.endings

  clears : IsPrefix v.view.clear (longer v.view.clear u.view.clear)
  clears = begins_longer v.view.clear u.view.clear x.queue.clear ok.knows.clears other.knows.clears

  clears_too : IsPrefix u.view.clear (longer v.view.clear u.view.clear)
  clears_too = begins_longer_too v.view.clear u.view.clear x.queue.clear ok.knows.clears other.knows.clears

  pub merged_inv : NodeInv key x n (merged_ghost v u)
  merged_inv = record {
    who = record { node = ok.who.node; label = ok.who.label; config = ok.who.config };
    knows = record {
      orders = longer_begins v.view.order u.view.order x.queue.order ok.knows.orders other.knows.orders;
      endings = longer_begins v.view.ends u.view.ends x.queue.ends ok.knows.endings other.knows.endings;
      clears = longer_begins v.view.clear u.view.clear x.queue.clear ok.knows.clears other.knows.clears;
      counts = ok.knows.counts;
      placed = λ p l. let a = ok.knows.placed p l in let b = prefix_length v.view.order (longer v.view.order u.view.order) orders in omega arith;
      own_ends = λ p r e at mine en kind. let a = ok.knows.own_ends p r e at mine en kind in let b = prefix_length v.view.ends (longer v.view.ends u.view.ends) endings in omega arith;
      own_marks = λ r mine. same_test (has (v.view.marked ++ u.view.marked) r) (has x.queue.marked r)
          (λ h. elim (either_has v.view.marked u.view.marked r h) [ inl a ↦ ok.knows.all_marked r a | inr b ↦ other.knows.all_marked r b ])
          (λ h. has_left v.view.marked u.view.marked r (ok.knows.own_marks r mine ∙ h));
      all_marked = λ r h. elim (either_has v.view.marked u.view.marked r h) [ inl a ↦ ok.knows.all_marked r a | inr b ↦ other.knows.all_marked r b ];
    };
    joins = record {
      own_joined = λ r mine h. has_left v.view.joined u.view.joined r (ok.joins.own_joined r mine h);
      all_joined = λ r h. elim (either_has v.view.joined u.view.joined r h) [ inl a ↦ ok.joins.all_joined r a | inr b ↦ other.joins.all_joined r b ];
      all_freed = λ r h. elim (either_has v.view.freed u.view.freed r h) [ inl a ↦ ok.joins.all_freed r a | inr b ↦ other.joins.all_freed r b ];
      joined_last = λ p r next at behind early h. elim (either_has v.view.joined u.view.joined next h) [
        | inl a ↦ has_prefix v.view.clear (longer v.view.clear u.view.clear) r clears (ok.joins.joined_last p r next at behind early a)
        | inr b ↦ has_prefix u.view.clear (longer v.view.clear u.view.clear) r clears_too (other.joins.joined_last p r next at behind early b)
      ];
      freed_last = λ r h late. elim (either_has v.view.freed u.view.freed r h) [
        | inl a ↦ has_prefix v.view.clear (longer v.view.clear u.view.clear) r clears (ok.joins.freed_last r a late)
        | inr b ↦ has_prefix u.view.clear (longer v.view.clear u.view.clear) r clears_too (other.joins.freed_last r b late)
      ];
    };
    stands = record {
      seat = ok.stands.seat;
      state = ok.stands.state;
      holds = λ e. longer_whole v.view.ends u.view.ends x.queue.ends (ok.stands.holds e) other.knows.endings;
      unwritten = ok.stands.unwritten;
      carries = ok.stands.carries;
      left = λ f i m p at here done unlinked. let a = ok.stands.left f i m p at here done unlinked in let b = prefix_length v.view.order (longer v.view.order u.view.order) orders in omega arith;
    };
    passes = record {
      places = ok.passes.places;
      last = ok.passes.last;
      known = λ i p at. let a = ok.passes.known i p at in let b = prefix_length v.view.order (longer v.view.order u.view.order) orders in omega arith;
      within = λ i p at. let a = ok.passes.within i p at in let b = prefix_length v.view.ends (longer v.view.ends u.view.ends) endings in omega arith;
      ended = λ e i p at. let a = ok.passes.ended e i p at in let b = prefix_length v.view.ends (longer v.view.ends u.view.ends) endings in omega arith;
    };
  }

  -- a node's view advances by what another knows
  pub merged_advances : (allows : List ℕ → List ℕ → Type 0) → HistoryInv allows key x → IsNode x.core n → Continues allows v.view (merged_view v.view u.view)
  merged_advances allows f node = continues allows key x x f n v (merged_ghost v u) node ok merged_inv orders endings clears
      (λ r h. has_left v.view.joined u.view.joined r h) (λ r h. has_left v.view.marked u.view.marked r h) (λ r h. has_left v.view.freed u.view.freed r h)

pub pair_history : (allows : List ℕ → List ℕ → Type 0) (key : TableKey) (x : History) → HistoryInv allows key x → (n m : ℕ) (v u : LinkGhost) → IsNode x.core n → IsNode x.core m → NodeInv key x n v → NodeInv key x m u → OneHistory (v.view ∷ u.view ∷ [])
pair_history allows key x f n m v u p q a b = one_history allows key x f (v.view ∷ u.view ∷ []) (λ w i. elim (among_two v.view u.view w i) [ inl e ↦ (n, v, sym e, p, a) | inr e ↦ (m, u, sym e, q, b) ])

-- the line is in no slot
out_of_slot : {c : Place} (n : ℕ) → c ≡ Hand n → (P : Place → Type 0) → P (Hand n) → P c
out_of_slot n e P h = subst P (sym e) h

module _ (good : List ℕ → Type 0) (allows : List ℕ → List ℕ → Type 0) (key : TableKey) where
  -- two views of one seat, whose nodes merge them
  module _ (s : St good allows key) (r : Rule good allows key s) (me : ℕ) (v u : LinkGhost) (at : get_elem? s.views me ≡ some (v ∷ u ∷ [])) where
    first_ok : NodeInv key r.history v.view.node v
    first_ok = let m = r.members me 0 (v ∷ u ∷ []) v at refl in subst (NodeInv key r.history v.view.node) m.is (r.each v.view.node m.low m.high)

    first_node : IsNode r.history.core v.view.node
    first_node = let m = r.members me 0 (v ∷ u ∷ []) v at refl in (m.low, subst (λ (q : ℕ). v.view.node ≤ q) (sym r.history_inv.shown.matches.size) m.high)

    second_ok : NodeInv key r.history u.view.node u
    second_ok = let m = r.members me 1 (v ∷ u ∷ []) u at refl in subst (NodeInv key r.history u.view.node) m.is (r.each u.view.node m.low m.high)

    second_node : IsNode r.history.core u.view.node
    second_node = let m = r.members me 1 (v ∷ u ∷ []) u at refl in (m.low, subst (λ (q : ℕ). u.view.node ≤ q) (sym r.history_inv.shown.matches.size) m.high)

    first_merged : NodeInv key r.history v.view.node (merged_ghost v u)
    first_merged = merged_inv key r.history v.view.node u.view.node v u first_ok second_ok

    second_merged : NodeInv key r.history u.view.node (merged_ghost u v)
    second_merged = merged_inv key r.history u.view.node v.view.node u v second_ok first_ok

    differ : v.view.node ≢ u.view.node
    differ = two_differ node_of key.config.nodes r.who r.owner s.views r.members me v u at

    pair_rule : Rule good allows key record { words = s.words; homes = s.homes; views = set s.views me (merged_ghost v u ∷ merged_ghost u v ∷ []) }
    pair_rule = record {
      history = r.history;
      who = both_put node_of key.config.nodes r.who r.owner s.views r.members me v u at (merged_ghost v u) (merged_ghost u v);
      owner = r.owner;
      may_open = r.may_open;
      opened_good = r.opened_good;
      history_inv = r.history_inv;
      represents = r.represents;
      each = pair_each node_of key.config.nodes r.who r.owner s.views r.members me v u at (merged_ghost v u) (merged_ghost u v) (NodeInv key r.history) first_merged second_merged r.each;
      members = pair_members node_of key.config.nodes r.who r.owner s.views r.members me v u at (merged_ghost v u) (merged_ghost u v) refl refl;
    }

    before : OneHistory (v.view ∷ u.view ∷ [])
    before = pair_history allows key r.history r.history_inv v.view.node u.view.node v u first_node second_node first_ok second_ok

    -- a port that holds knows all ends
    knows_all : (n : ℕ) (w : LinkGhost) → NodeInv key r.history n w → w.view.state ≡ port_state.Holding → w.view.ends ≡ r.history.queue.ends
    knows_all n w ok held = ok.stands.holds (holding_of w.own.seat w.own.seat.point refl (sym ok.stands.state ∙ held)).0

    -- a port that holds the line learns of no end
    whole_stays : (xs ys : List End) → xs ≡ r.history.queue.ends → IsPrefix ys r.history.queue.ends → longer xs ys ≡ xs
    whole_stays xs ys all begins = longer_whole xs ys r.history.queue.ends all begins ∙ sym all

    pair_tells : MergesViews allows v.view u.view (merged_view v.view u.view) (merged_view u.view v.view)
    pair_tells = record {
      apart = differ;
      before = before;
      after = pair_history allows key r.history r.history_inv v.view.node u.view.node (merged_ghost v u) (merged_ghost u v) first_node second_node first_merged second_merged;
      continues_a = merged_advances key r.history v.view.node u.view.node v u first_ok second_ok allows r.history_inv first_node;
      continues_b = merged_advances key r.history u.view.node v.view.node u v second_ok first_ok allows r.history_inv second_node;
      meets_a = meets_view v.view u.view;
      meets_b = meets_view u.view v.view;
      one_holds = λ h k. differ (one_holder (v.view ∷ u.view ∷ []) v.view u.view before (among_first v.view (u.view ∷ [])) (among_second v.view u.view []) h k);
      holds_a = λ h. whole_stays v.view.ends u.view.ends (knows_all v.view.node v first_ok h) second_ok.knows.endings;
      holds_b = λ h. whole_stays u.view.ends v.view.ends (knows_all u.view.node u second_ok h) first_ok.knows.endings;
    }

  pub meets_next : (me slots i : ℕ) (m : SeatContents) (v u : LinkGhost) → m.0 ≡ v ∷ u ∷ [] → Allows (Rule good allows key) slots me m i (λ n. n) (after_meet allows initial (step slots i 0 0 none) m)
  meets_next me slots i m v u is s r deep at small =
      let at' : get_elem? s.views me ≡ some (v ∷ u ∷ []) = at ∙ ap some is in
      let a = first_ok s r me v u at' in let b = second_ok s r me v u at' in (
        merged_ghost v u ∷ merged_ghost u v ∷ [],
        keeps,
        tt,
        subst (λ ws. Rule good allows key record { words = ws; homes = s.homes; views = set s.views me (merged_ghost v u ∷ merged_ghost u v ∷ []) }) (sym (set-get_or s.words i 0)) (pair_rule s r me v u at'),
        subst (λ (vs : List LinkGhost). after_meet allows initial (step slots i 0 0 none) (vs, m.1) (slice_index s.words i) (merged_ghost v u ∷ merged_ghost u v ∷ [], m.1)) (sym is) (
          refl,
          pair_tells s r me v u at',
          (λ h. whole_stays s r me v u at' v.view.ends u.view.ends (knows_all s r me v u at' v.view.node v a h) b.knows.endings),
          (λ h. whole_stays s r me v u at' u.view.ends v.view.ends (knows_all s r me v u at' u.view.node u b h) a.knows.endings),
        ),
      )

  -- the holder returns its slot
  pub return_slots_next : (me slots i : ℕ) (m : SeatContents) (v : LinkGhost) (y : Payload) → m.0 ≡ v ∷ [] → v.view.state ≡ port_state.Holding → m.1 ≡ (0, y) ∷ [] → Allows (Rule good allows key) slots me m i (λ n. n) (slots_returned (step slots i 0 0 none) m)
  return_slots_next me slots i m v y is holds_open carried s r deep at small =
      let at' : get_elem? s.views me ≡ some (v ∷ []) = at ∙ ap some is in
      let node = is_node good allows key s r me v at' in
      let ok : NodeInv key r.history v.view.node v = mine_ok good allows key s r me v at' in
      let lined = ap has_line (at_point allows key r.history r.history_inv v.view.node v node ok) ∙ (holding_of v.own.seat v.own.seat.point refl (sym ok.stands.state ∙ holds_open)).0 in (
        m.0,
        gives,
        tt,
        subst (λ (z : List ℕ × List (ℕ × Payload) × List (List LinkGhost)). Rule good allows key record { words = z.0; homes = put_back s.homes z.1; views = z.2 })
            (λ j. (sym (set-get_or s.words i 0) j, sym carried j, sym (set_again s.views me m.0 at) j))
            record {
              history = r.history;
              who = r.who;
              owner = r.owner;
              may_open = r.may_open;
              opened_good = r.opened_good;
              history_inv = r.history_inv;
              represents = record { wide = r.represents.wide; deep = length-set s.homes 0 (some y) ∙ r.represents.deep; home = r.represents.home; entries = r.represents.entries; slot = out_of_slot v.view.node ((found r.history_inv.shown).hand v.view.node node lined) (InSlot r.history.core (set s.homes 0 (some y))) tt };
              each = r.each;
              members = r.members;
            },
        (refl, ap rest carried),
      )
