-- Lemmas about the ghost states of two nodes that are in the same seat, and about merging what the two nodes know.
use Rattle.std.proofs.Common.{◌≡◌, ◌≢◌, ℕ, inl, inr, Option, List, [], ◌∷◌, length, set, slice_index, sym, refl, ap, ◌∙◌, subst, ⊎_elim, arith}
use mathlib.Core.List.{IsPrefix}
use mathlib.Core.Option.{none, some}
use lib.ListN.{get_elem?}
use lib.Seq.{set-get_or}
use Rattle.atomic_table.specs.Table.{step, keeps, homes_after, Allows}
use Rattle.atomic_table.proofs.Lists.{set_again}
use Rattle.qolb_model.specs.declared.answer.PortState.TheVariants as port_state
use Rattle.qolb_model.specs.declared.end.End.{End}
use Rattle.qolb_model.specs.Views.{own}
use Rattle.qolb_model.specs.OneHistory.{OneHistory}
use Rattle.qolb_model.specs.Sound.{Continues}
use Rattle.qolb_model.specs.Meeting.{longer, merged_view}
use Rattle.qolb_model.specs.Calls.{MergesViews}
use Rattle.qolb_model.proofs.Prefixes.{prefix_get, prefix_length}
use Rattle.qolb_model.proofs.Requests.{has_left, either_has, has_prefix}
use Rattle.qolb_model.proofs.Agreeing.{among_two}
use Rattle.qolb_model.proofs.Longer.{longer_begins, begins_longer, begins_longer_too, longer_whole}
use Rattle.qolb_model.proofs.Merging.{meets_view}
use Rattle.qolb_model.proofs.Seats.{two_differ, both_put, pair_each, pair_members}
use Rattle.line_generic.specs.NodeGhosts.{node_of}
use Rattle.line_generic.specs.Steps.{merged_ghost, after_meet, slots_returned}
use Rattle.line_cells.specs.BetweenCalls.{initial}
use Rattle.line_generic.specs.declared.table.TableKey.{TableKey}
use Rattle.line_cells.specs.SlotLayout.{SlotLayout, IsSpare}
use Rattle.qolb_model.specs.Ends.{is_closed}
use Rattle.qolb_model.specs.Leases.{turns_left}
use Rattle.line_cells.proofs.Slots.{MayReturnSlots}
use Rattle.line_cells.specs.Array.{ArrayGhost, ArrayState, Cells, History, NodeInv, HistoryInv, ArrayRule}
use Rattle.line_cells.specs.Steps.{SeatContents}
use Rattle.line_cells.proofs.OneNode.{passed_goes}
use Rattle.line_cells.proofs.Histories.{one_history, continues}

module _ (good : List ℕ → Type 0) (allows : List ℕ → List ℕ → Type 0) (key : TableKey) where
  merged_inv : (x : History) (n m : ℕ) (v u : ArrayGhost) → NodeInv key x n v → NodeInv key x m u → NodeInv key x n (merged_ghost v u)
  merged_inv x n m v u ok other = record {
    who = record { node = ok.who.node; label = ok.who.label; config = ok.who.config };
    knows = record {
      orders = longer_begins v.view.order u.view.order x.order ok.knows.orders other.knows.orders;
      endings = longer_begins v.view.ends u.view.ends x.ends ok.knows.endings other.knows.endings;
      clears = longer_begins v.view.clear u.view.clear x.clear ok.knows.clears other.knows.clears;
      counts = ok.knows.counts;
      own_ends = λ p r end at mine en kind. let a = ok.knows.own_ends p r end at mine en kind in let b = prefix_length v.view.ends (longer v.view.ends u.view.ends) (begins_longer v.view.ends u.view.ends x.ends ok.knows.endings other.knows.endings) in omega arith;
      freed_clear = λ r h. ⊎_elim (λ t. has_prefix v.view.clear (longer v.view.clear u.view.clear) r clears (ok.knows.freed_clear r t))
          (λ t. has_prefix u.view.clear (longer v.view.clear u.view.clear) r (begins_longer_too v.view.clear u.view.clear x.clear ok.knows.clears other.knows.clears) (other.knows.freed_clear r t)) (either_has v.view.freed u.view.freed r h);
    };
    last_request = record {
      asked = ok.last_request.asked;
      placed = λ c. prefix_get v.view.order (longer v.view.order u.view.order) v.own.place (own v.view) orders (ok.last_request.placed c);
      last_open = ok.last_request.last_open;
      idle = λ e c. let h = ok.last_request.idle e c in (h.0, has_prefix v.view.clear (longer v.view.clear u.view.clear) (own v.view) clears h.1);
      queued = ok.last_request.queued;
      holds_open = ok.last_request.holds_open;
      freeing = ok.last_request.freeing;
      waits = ok.last_request.waits;
    };
    holder = record { holds = λ e. let h = ok.holder.holds e in (longer_whole v.view.ends u.view.ends x.ends h.0 other.knows.endings, h.1, h.2); lacks = ok.holder.lacks; is_holder = ok.holder.is_holder };
    passes = record {
      walking = ok.passes.walking;
      freeing = ok.passes.freeing;
      passed = λ i p at. let h = ok.passes.passed i p at in passed_goes n p v (merged_ghost v u) (length x.ends) (length x.ends) x.clear x.clear x.marks x.marks x.releaser_of x.releaser_of h h.in_release refl (omega arith) h.marked orders h.unclear;
      once = ok.passes.once;
    };
    marks = record {
      unmarked = ok.marks.unmarked;
      unclear = ok.marks.unclear;
      rolled = ok.marks.rolled;
      known = λ p r at mine h. has_left v.view.marked u.view.marked r (ok.marks.known p r at mine h);
      last = ok.marks.last;
      all = λ r h. ⊎_elim (λ t. ok.marks.all r t) (λ t. other.marks.all r t) (either_has v.view.marked u.view.marked r h);
    };
    flag = record { rolled = ok.flag.rolled; not_rolled = ok.flag.not_rolled };
    joins = record {
      known = λ p r at mine. has_left v.view.joined u.view.joined r (ok.joins.known p r at mine);
      all = λ r h. ⊎_elim (λ t. ok.joins.all r t) (λ t. other.joins.all r t) (either_has v.view.joined u.view.joined r h);
    };
  }
    where
      orders : IsPrefix v.view.order (longer v.view.order u.view.order)
      orders = begins_longer v.view.order u.view.order x.order ok.knows.orders other.knows.orders

      clears : IsPrefix v.view.clear (longer v.view.clear u.view.clear)
      clears = begins_longer v.view.clear u.view.clear x.clear ok.knows.clears other.knows.clears

  -- a node goes on knowing what another knows
  merged_advances : (x : History) → HistoryInv good allows key x → (n m : ℕ) (v u : ArrayGhost) → NodeInv key x n v → NodeInv key x m u → Continues allows v.view (merged_view v.view u.view)
  merged_advances x f n m v u ok other = continues good allows key x x f n n v (merged_ghost v u) ok (merged_inv x n m v u ok other) refl
      (begins_longer v.view.order u.view.order x.order ok.knows.orders other.knows.orders) (begins_longer v.view.ends u.view.ends x.ends ok.knows.endings other.knows.endings) (begins_longer v.view.clear u.view.clear x.clear ok.knows.clears other.knows.clears)
      (λ r h. has_left v.view.joined u.view.joined r h) (λ r h. has_left v.view.marked u.view.marked r h) (λ r h. has_left v.view.freed u.view.freed r h)

  pair_history : (x : History) → HistoryInv good allows key x → (n m : ℕ) (v u : ArrayGhost) → NodeInv key x n v → NodeInv key x m u → OneHistory (v.view ∷ u.view ∷ [])
  pair_history x f n m v u a b = one_history good allows key x f (v.view ∷ u.view ∷ []) (λ w i. elim (among_two v.view u.view w i) [ inl e ↦ (n, v, sym e, a) | inr e ↦ (m, u, sym e, b) ])

module _ (cells : Cells) (slot_layout : SlotLayout) (good : List ℕ → Type 0) (allows : List ℕ → List ℕ → Type 0) (key : TableKey) where
  abbrev Rule : ArrayState → Type 0
  Rule = ArrayRule cells slot_layout good allows key

  -- two entries of one seat tell each other what they know
  module _ (s : ArrayState) (r : Rule s) (me : ℕ) (v u : ArrayGhost) (at : get_elem? s.views me ≡ some (v ∷ u ∷ [])) where
    first_ok : NodeInv key r.history v.view.node v
    first_ok = let m = r.members me 0 (v ∷ u ∷ []) v at refl in subst (NodeInv key r.history v.view.node) m.is (r.each v.view.node m.low m.high)

    second_ok : NodeInv key r.history u.view.node u
    second_ok = let m = r.members me 1 (v ∷ u ∷ []) u at refl in subst (NodeInv key r.history u.view.node) m.is (r.each u.view.node m.low m.high)

    first_merged : NodeInv key r.history v.view.node (merged_ghost v u)
    first_merged = merged_inv good allows key r.history v.view.node u.view.node v u first_ok second_ok

    second_merged : NodeInv key r.history u.view.node (merged_ghost u v)
    second_merged = merged_inv good allows key r.history u.view.node v.view.node u v second_ok first_ok

    differ : v.view.node ≢ u.view.node
    differ = two_differ node_of key.config.nodes r.who r.owner s.views r.members me v u at

    pair_rule : Rule record { words = s.words; homes = s.homes; views = set s.views me (merged_ghost v u ∷ merged_ghost u v ∷ []) }
    pair_rule = record {
      history = r.history;
      who = both_put node_of key.config.nodes r.who r.owner s.views r.members me v u at (merged_ghost v u) (merged_ghost u v);
      owner = r.owner;
      may_open = r.may_open;
      line = r.line;
      history_inv = r.history_inv;
      shown = r.shown;
      each = pair_each node_of key.config.nodes r.who r.owner s.views r.members me v u at (merged_ghost v u) (merged_ghost u v) (NodeInv key r.history) first_merged second_merged r.each;
      members = pair_members node_of key.config.nodes r.who r.owner s.views r.members me v u at (merged_ghost v u) (merged_ghost u v) refl refl;
    }

    -- a node that knows all ends learns of none
    whole_stays : (xs ys : List End) → xs ≡ r.history.ends → IsPrefix ys r.history.ends → longer xs ys ≡ xs
    whole_stays xs ys whole begins = longer_whole xs ys r.history.ends whole begins ∙ sym whole

    pair_tells : MergesViews allows v.view u.view (merged_view v.view u.view) (merged_view u.view v.view)
    pair_tells = record {
      apart = differ;
      before = pair_history good allows key r.history r.history_inv v.view.node u.view.node v u first_ok second_ok;
      after = pair_history good allows key r.history r.history_inv v.view.node u.view.node (merged_ghost v u) (merged_ghost u v) first_merged second_merged;
      continues_a = merged_advances good allows key r.history r.history_inv v.view.node u.view.node v u first_ok second_ok;
      continues_b = merged_advances good allows key r.history r.history_inv u.view.node v.view.node u v second_ok first_ok;
      meets_a = meets_view v.view u.view;
      meets_b = meets_view u.view v.view;
      one_holds = λ h k. differ (sym (first_ok.holder.holds (first_ok.holder.is_holder h).0).1 ∙ (second_ok.holder.holds (second_ok.holder.is_holder k).0).1);
      holds_a = λ h. whole_stays v.view.ends u.view.ends (first_ok.holder.holds (first_ok.holder.is_holder h).0).0 second_ok.knows.endings;
      holds_b = λ h. whole_stays u.view.ends v.view.ends (second_ok.holder.holds (second_ok.holder.is_holder h).0).0 first_ok.knows.endings;
    }

  pub meets_next : (me slots i : ℕ) (m : SeatContents) (v u : ArrayGhost) → m.0 ≡ v ∷ u ∷ [] → Allows Rule slots me m i (λ n. n) (after_meet allows initial (step slots i 0 0 none) m)
  meets_next me slots i m v u is s r deep at small =
      let at' : get_elem? s.views me ≡ some (v ∷ u ∷ []) = at ∙ ap some is in
      let a = first_ok s r me v u at' in let b = second_ok s r me v u at' in (
        merged_ghost v u ∷ merged_ghost u v ∷ [],
        keeps,
        tt,
        subst (λ ws. Rule record { words = ws; homes = s.homes; views = set s.views me (merged_ghost v u ∷ merged_ghost u v ∷ []) }) (sym (set-get_or s.words i 0)) (pair_rule s r me v u at'),
        subst (λ (vs : List ArrayGhost). after_meet allows initial (step slots i 0 0 none) (vs, m.1) (slice_index s.words i) (merged_ghost v u ∷ merged_ghost u v ∷ [], m.1)) (sym is) (
          refl,
          pair_tells s r me v u at',
          (λ h. whole_stays s r me v u at' v.view.ends u.view.ends (a.holder.holds (a.holder.is_holder h).0).0 b.knows.endings),
          (λ h. whole_stays s r me v u at' u.view.ends v.view.ends (b.holder.holds (b.holder.is_holder h).0).0 a.knows.endings),
        ),
      )

  -- the holder's slots go home for a moment
  pub return_slots_next : (me slots i : ℕ) (m : SeatContents) (v : ArrayGhost) (left : Option ℕ) → left ≡ turns_left v.view.config.lease v.view.ends → m.0 ≡ v ∷ [] → v.view.state ≡ port_state.Holding → (v.view.config ≡ key.config → MayReturnSlots slot_layout left m.1) → Allows Rule slots me m i (λ n. n) (slots_returned (step slots i 0 0 none) m)
  return_slots_next me slots i m v left turns is holds_open may_return_slots s r deep at small =
      let at' : get_elem? s.views me ≡ some (v ∷ []) = at ∙ ap some is in
      let mb = r.members me 0 (v ∷ []) v at' refl in
      let ok : NodeInv key r.history v.view.node v = subst (NodeInv key r.history v.view.node) mb.is (r.each v.view.node mb.low mb.high) in
      let park = may_return_slots ok.who.config s.homes r.shown.deep in
      let mine = (ok.holder.holds (ok.holder.is_holder holds_open).0).1 in
      let same : left ≡ turns_left key.config.lease r.history.ends = turns ∙ (λ j. turns_left (ok.who.config j).lease ((ok.holder.holds (ok.holder.is_holder holds_open).0).0 j)) in
      let low = mb.low in (
        m.0,
        park.0,
        park.1,
        subst (λ (z : List ℕ × List (List ArrayGhost)). Rule record { words = z.0; homes = homes_after s.homes m.1 park.0; views = z.1 })
            (λ j. (sym (set-get_or s.words i 0) j, sym (set_again s.views me m.0 at) j))
            record {
              history = r.history;
              who = r.who;
              owner = r.owner;
              may_open = r.may_open;
              line = r.line;
              history_inv = r.history_inv;
              shown = record { more = r.shown.more; wide = r.shown.wide; deep = park.2 ∙ r.shown.deep; ticket = r.shown.ticket; said = r.shown.said; flags = r.shown.flags; home = λ e. let l = mine in absurd (omega arith); spare = λ k few out. subst (λ l. IsSpare l (is_closed r.history.ends) (homes_after s.homes m.1 park.0) k) same (park.4 k (is_closed r.history.ends) (subst (λ l. IsSpare l (is_closed r.history.ends) s.homes k) (sym same) (r.shown.spare k few out))) };
              each = r.each;
              members = r.members;
            },
        (refl, park.3),
      )
