-- Proof about the atomic step with which a release frees the first of the nodes whose requests it has skipped.
use Rattle.std.proofs.Common.{◌≡◌, ◌≢◌, ◌⊎◌, inl, inr, ℕ, suc, ◌+◌, ◌%◌, ◌^◌, ◌<◌, ◌≤◌, Bool, List, [], ◌∷◌, ◌++◌, length, map, set, slice_index, slice_get, true, false, sym, refl, ap, ◌∙◌, subst, arith, get_or-set_same, get_or-set_other, ne_eqb, drop}
use Rattle.std.specs.Prelude.{not, slice_index_or}
use mathlib.Core.Option.{some, none}
use mathlib.Core.List.{IsPrefix}
use mathlib.Core.Logic.{dite}
use native.Mathlib.Decide.{ℕ_discrete}
use lib.ListN.{get_elem?}
use Rattle.std.proofs.lemmas.Bool.{cases_Bool}
use Rattle.atomic_table.specs.Table.{step, Act, keeps, Valid, stepped, carried_after, Allows}
use Rattle.qolb_model.specs.declared.request.Request.{Request}
use Rattle.qolb_model.specs.declared.end.End.{End}
use Rattle.qolb_model.specs.declared.config.LineConfig.{LineConfig}
use Rattle.qolb_model.specs.declared.config.TheConstants.{MAX_NODES}
use Rattle.qolb_model.specs.Kept.{AreAllowed}
use Rattle.qolb_model.specs.PortStates.{state_after}
use Rattle.qolb_model.specs.Queue.{Queue}
use Rattle.qolb_model.specs.Requests.{Has, Lacks, has, count_of, last_of}
use Rattle.qolb_model.specs.Releasing.{SuccessorUnlinked}
use Rattle.qolb_model.specs.Views.{own}
use Rattle.qolb_model.proofs.Lists.{element_at, never}
use Rattle.qolb_model.proofs.Prefixes.{prefix_self, prefix_get, prefix_length, prefix_trans}
use Rattle.qolb_model.proofs.Requests.{has_push, has_left, has_last, has_prefix, lacks_from}
use Rattle.link_core.specs.declared.point.Point.{Point}
use Rattle.link_core.specs.declared.point.Point.TheVariants.{Linking, Queued, Freeing, Rolled}
use Rattle.link_core.specs.declared.place.Place.TheVariants.{Home, Mailbox, Hand}
use Rattle.link_core.specs.declared.seat.ReleaseCause.{ReleaseCause}
use Rattle.link_core.specs.declared.seat.ReleaseCause.TheVariants.{Own, Closing, Refused}
use Rattle.link_core.specs.declared.seat.NodeCall.{NodeCall}
use Rattle.link_core.specs.declared.entry.Entry.{Entry}
use Rattle.link_core.specs.declared.state.State.{State as Core}
use Rattle.link_core.specs.State.{unused, empty, entry, seat, point, IsNode, IsWide, is_clear, put_seat, put_entry}
use Rattle.link_core.specs.declared.event.Event.TheVariants as event
use Rattle.link_core.specs.Promise.{Keeps}
use Rattle.link_core.specs.Steps.{Step, seat_with, point_at_end, told_with}
use Rattle.link_core.specs.Steps as row
use Rattle.link_core.specs.Places.{request, requester_at, IsLast}
use Rattle.link_core.specs.Shown.{has_line, Lies, at_home, in_hand, granted, left, Shows}
use Rattle.link_core.proofs.Close.{close_passed}
use Rattle.link_core.proofs.Follows.{sits_at, rolled_unfreed}
use Rattle.link_core.proofs.Found.{found, unset}
use Rattle.link_core.proofs.Orders.{request_got, last_once, last_is}
use Rattle.link_core.proofs.Steady.{after_is}
use Rattle.link_line.specs.Ghost.{LinkGhost}
use Rattle.line_generic.specs.declared.table.Payload.{Payload}
use Rattle.line_generic.specs.declared.table.TableKey.{TableKey}
use Rattle.link_line.specs.declared.layout.TheConstants.{FREED}
use Rattle.link_line.specs.Layout.{entry_at, pack}
use Rattle.link_line.specs.Links.{At, History, NodeInv, HistoryInv, ViewInv, PassedInv, IsFreed, state_of, state_at, is_shut_by}
use Rattle.link_line.specs.Steps.{SeatContents, freed, Frees, after_release}
use Rattle.link_line.proofs.Going.{SetsGrow, next, on, wide, fine_next, leaving_lined}
use Rattle.link_line.specs.Laws.Histories.{at_point, clear_is}
use Rattle.link_line.specs.Laws.Histories.{at_same}
use Rattle.link_line.proofs.Packed.{add_freed}
use Rattle.link_line.specs.Laws.Nodes.{St, Rule, mine_ok, is_node}
use Rattle.link_line.proofs.Laying.{entry_laid, in_slot}
use Rattle.link_line.proofs.Turning.{goes_step, via_none, turned_by, between}
use Rattle.link_line.proofs.Releasing.{close_not, is_linking, is_queued, end_clear, out_state}

-- the node's point then, and its port's state
free_point : (g : ℕ → ℕ) (r : ReleaseCause) (ps : List ℕ) → (seat_with (map g ps) (point_at_end r) r).point ≡ after_release (state_after (is_shut_by r)) ps
free_point g Own [] = refl
free_point g Closing [] = refl
free_point g Refused [] = refl
free_point g r (p ∷ ps) = refl

end_lineless : (r : ReleaseCause) → has_line (point_at_end r) ≡ false
end_lineless Own = refl
end_lineless Closing = refl
end_lineless Refused = refl

end_linkless : (r : ReleaseCause) → is_linking (point_at_end r) ≡ false
end_linkless Own = refl
end_linkless Closing = refl
end_linkless Refused = refl

end_unqueued : (r : ReleaseCause) → is_queued (point_at_end r) ≡ false
end_unqueued Own = refl
end_unqueued Closing = refl
end_unqueued Refused = refl

-- a withdrawn request that is freed and not clear was left with the line, and the next request is about to link to it
module _ {config : LineConfig} {c : Core} {q : Queue} (s : Shows config c q) (joined : List Request) (unjoined : (n x : ℕ) → IsNode c n → point c n ≡ Linking x → Lacks joined (last_of n q.order)) (r : Request) (node : IsNode c r.node) (f : IsFreed c q.order r) (un : Lacks q.clear r) where
  parts : (b : Bool) (w : Entry) → w.freed ≡ true → w.done ≡ b → is_clear Rolled w ≡ false → (w.done ≡ true) × (w.link ≡ 0)
  parts false w fr d e = absurd (never (undone w fr d) e)
    where
      undone : (w : Entry) → w.freed ≡ true → w.done ≡ false → is_clear Rolled w ≡ true
      undone w fr d = rw (fr, d) refl
  parts true w fr d e = (d, dite (ℕ_discrete w.link 0) (λ z. z) (λ ne. absurd (never (linked w fr d ne) e)))
    where
      linked : (w : Entry) → w.freed ≡ true → w.done ≡ true → w.link ≢ 0 → is_clear Rolled w ≡ true
      linked w fr d ne = rw (fr, d) (ap not (ne_eqb w.link 0 ne))

  pub boxed_parts : ((entry c r.node).done ≡ true) × ((entry c r.node).link ≡ 0)
  boxed_parts = parts (entry c r.node).done (entry c r.node) f.freed refl (sym (clear_is s r node f) ∙ un)

  pub left_behind : (length q.ends ≡ f.at + 1) × ((next : Request) → At q.order (f.at + 1) next → Lacks joined next)
  left_behind = go s.matches.lies
    where
      box : c.place ≡ Mailbox r.node
      box = s.matches.settled.boxed r.node node boxed_parts.0 boxed_parts.1

      go : Lies config c q.order q.ends → (length q.ends ≡ f.at + 1) × ((next : Request) → At q.order (f.at + 1) next → Lacks joined next)
      go (at_home a b w) = let z : Home ≡ Mailbox r.node = sym b ∙ box in cc
      go (in_hand m a b e g h k) = let z : Hand m ≡ Mailbox r.node = sym e ∙ box in cc
      go (granted t a b e g k w) =
          let z : Mailbox t ≡ Mailbox r.node = sym e ∙ box in
          let it : t ≡ r.node = cc in
          let y : Queued ≡ Rolled = sym k ∙ ap (point c) it ∙ f.rolled in
          cc
      go (left t z a b e g k l i w) =
          let y : Mailbox z ≡ Mailbox r.node = sym e ∙ box in
          let it : z ≡ r.node = cc in
          let n : IsNode c t = subst (λ (m : ℕ). IsNode c m) b (s.matches.nodes (length q.ends) a) in
          let before = sits_at s.matches t (Linking z) n i in
          let at : before.at ≡ f.at = last_once q.order z before.at f.at before.before (subst (λ (m : ℕ). IsLast q.order m f.at) (sym it) f.last) in
          let turn : length q.ends ≡ before.at + 1 = last_once q.order t (length q.ends) (before.at + 1) (subst (λ (m : ℕ). IsLast q.order m (length q.ends)) b (s.matches.distinct (length q.ends) (omega arith) a)) before.own in
          let made = last_is config.lease q.order q.ends t (before.at + 1) s.legal before.own in (
            turn ∙ ap (λ k. k + 1) at,
            (λ next here. subst (λ (z : Request). Lacks joined z) (sym made ∙ ap (λ (k : ℕ). request q.order (k + 1)) at ∙ request_got q.order (f.at + 1) next here) (unjoined t z n i)),
          )

module _ (good : List ℕ → Type 0) (allows : List ℕ → List ℕ → Type 0) (key : TableKey) (v : LinkGhost) (freeing : v.own.seat.point ≡ Freeing) (p : ℕ) (ps : List ℕ) (a : Request) (first : v.own.passed ≡ p ∷ ps) (here : At v.view.order p a) where
  abbrev n : ℕ
  n = v.view.node

  abbrev x : ℕ
  x = a.node

  module _ (me slots : ℕ) (carried : List (ℕ × Payload)) (s : St good allows key) (r : Rule good allows key s) (at : get_elem? s.views me ≡ some (v ∷ [])) (small : slice_index s.words (entry_at x) < 18446744073709551616) where
    ok : NodeInv key r.history n v
    ok = mine_ok good allows key s r me v at

    node : IsNode r.history.core n
    node = is_node good allows key s r me v at

    at_core : point r.history.core n ≡ Freeing
    at_core = at_point allows key r.history r.history_inv n v node ok ∙ freeing

    inside : IsWide r.history.core
    inside = wide allows key r.may_open.nodes.few r.history r.history_inv

    few : r.history.core.nodes ≤ MAX_NODES
    few = subst (λ (n : ℕ). n ≤ MAX_NODES) (sym r.history_inv.shown.matches.size) r.may_open.nodes.few

    known : At r.history.queue.order p a
    known = prefix_get v.view.order r.history.queue.order p a ok.knows.orders here

    requester_is : requester_at r.history.queue.order p ≡ x
    requester_is = ap (λ (z : Request). z.node) (request_got r.history.queue.order p a known)

    abbrev rest : List ℕ
    rest = map (requester_at r.history.queue.order) ps

    first_at : At v.own.passed 0 p
    first_at = ap (λ (zs : List ℕ). slice_get zs 0) first

    passed_is : (seat r.history.core n).passed ≡ x ∷ rest
    passed_is = ap (λ (s : NodeCall). s.passed) (sym ok.stands.seat) ∙ ok.passes.places ∙ ap (map (requester_at r.history.queue.order)) first ∙ ap (λ (q : ℕ). q ∷ rest) requester_is

    passed_node : IsNode r.history.core x
    passed_node = ((found r.history_inv.shown).passed n x rest node passed_is).0

    rolled : point r.history.core x ≡ Rolled
    rolled = ((found r.history_inv.shown).passed n x rest node passed_is).1

    last : IsLast r.history.queue.order x p
    last = subst (λ (m : ℕ). IsLast r.history.queue.order m p) requester_is (ok.passes.last 0 p first_at)

    over : p < length v.view.ends
    over = ok.passes.ended freeing 0 p first_at

    unfreed : (entry r.history.core x).freed ≡ false
    unfreed = (unset r.history_inv.shown).freed n x rest node passed_is

    not_own : x ≢ n
    not_own e = let z : Rolled ≡ Freeing = sym rolled ∙ ap (point r.history.core) e ∙ at_core in cc

    -- the node was not freed before
    fresh : Has r.history.early a ⊎ Has r.history.late a → ⊥
    fresh h = elim (r.history_inv.freed a h) [
      | inl clear ↦ never clear (ap (has r.history.queue.clear) (sym (request_got r.history.queue.order p a known)) ∙ r.history_inv.shown.matches.clears x p passed_node last ∙ ap (λ (z : Point). is_clear z (entry r.history.core x)) rolled ∙ rolled_unfreed (entry r.history.core x) unfreed)
      | inr was ↦ never was.freed unfreed
    ]

    abbrev with_freed : Entry
    with_freed = record (entry r.history.core x) { freed = true }

    abbrev word : ℕ
    word = (slice_index s.words (entry_at x) + FREED) % 2 ^ 64

    found_word : slice_index s.words (entry_at x) ≡ pack (entry r.history.core x)
    found_word = r.represents.entries x passed_node

    new_word : word ≡ pack with_freed
    new_word = ap (λ (k : ℕ). (k + FREED) % 2 ^ 64) found_word ∙ add_freed (entry r.history.core x) (subst (λ (k : ℕ). k < 18446744073709551616) found_word small) unfreed

    abbrev reason : ReleaseCause
    reason = (seat r.history.core n).reason

    abbrev d : Core
    d = put_seat n (seat_with rest (point_at_end reason) reason) (put_entry x with_freed r.history.core)

    abbrev k : Step r.history.core (event.Freed n) (told_with rest reason) d
    k = row.freed n x rest node at_core passed_is

    abbrev advances : Keeps key.config r.history.core (event.Freed n) (told_with rest reason) d k r.history.queue
    advances = on allows key r.may_open.nodes.few r.history r.history_inv k

    abbrev q : Queue
    q = advances.after

    -- in the queue only the clear list has changed
    is : q ≡ record r.history.queue { clear = q.clear }
    is = after_is advances

    order : q.order ≡ r.history.queue.order
    order = ap (λ (z : Queue). z.order) is

    ends : q.ends ≡ r.history.queue.ends
    ends = ap (λ (z : Queue). z.ends) is

    own_seat : seat d n ≡ seat_with rest (point_at_end reason) reason
    own_seat = get_or-set_same r.history.core.seats n (seat_with rest (point_at_end reason) reason) unused (let w = inside.seats in let l = node.1 in omega arith)

    entry_x : entry d x ≡ with_freed
    entry_x = get_or-set_same r.history.core.entries x with_freed empty (let w = inside.entries in let l = passed_node.1 in omega arith)

    fields : (z : ℕ) → ((entry d z).done ≡ (entry r.history.core z).done) × ((entry d z).link ≡ (entry r.history.core z).link)
    fields z = dite (ℕ_discrete z x)
        (λ e. (ap (λ (q : ℕ). (entry d q).done) e ∙ ap (λ (w : Entry). w.done) entry_x ∙ ap (λ (q : ℕ). (entry r.history.core q).done) (sym e), ap (λ (q : ℕ). (entry d q).link) e ∙ ap (λ (w : Entry). w.link) entry_x ∙ ap (λ (q : ℕ). (entry r.history.core q).link) (sym e)))
        (λ ne. let o = get_or-set_other r.history.core.entries x z with_freed empty ne in (ap (λ (w : Entry). w.done) o, ap (λ (w : Entry). w.link) o))

    abbrev freed_now : IsFreed d q.order a
    freed_now = record {
      at = p;
      here = subst (λ (o : List Request). At o p a) (sym order) known;
      last = subst (λ (o : List Request). IsLast o x p) (sym order) last;
      rolled = ap (λ (z : NodeCall). z.point) (advances.spared.seats x not_own) ∙ rolled;
      freed = ap (λ (w : Entry). w.freed) entry_x;
    }

    lineless : has_line (point d n) ≡ false
    lineless = ap (λ (z : NodeCall). has_line z.point) own_seat ∙ close_not has_line rest (point_at_end reason) reason (end_lineless reason) refl

    linkless : is_linking (point d n) ≡ false
    linkless = ap (λ (z : NodeCall). is_linking z.point) own_seat ∙ close_not is_linking rest (point_at_end reason) reason (end_linkless reason) refl

    unqueued : is_queued (point d n) ≡ false
    unqueued = ap (λ (z : NodeCall). is_queued z.point) own_seat ∙ close_not is_queued rest (point_at_end reason) reason (end_unqueued reason) refl

    state_then : state_of (seat d n) ≡ state_after (is_shut_by reason)
    state_then = ap state_of own_seat ∙ out_state (requester_at r.history.queue.order) reason ps (is_shut_by reason) refl

    abbrev w : LinkGhost
    w = record v { view = record v.view { state = state_of (seat d n); clear = q.clear; freed = v.view.freed ++ a ∷ [] }; own = record v.own { seat = seat d n; passed = ps }; steps = v.steps + 1 }

    clear_grows : IsPrefix v.view.clear q.clear
    clear_grows = prefix_trans v.view.clear r.history.queue.clear q.clear ok.knows.clears advances.spared.clear

    at_rest : (i z : ℕ) → At ps i z → At v.own.passed (suc i) z
    at_rest i z b = subst (λ (zs : List ℕ). At zs (suc i) z) (sym first) b

    passing : PassedInv q.order w
    passing = record {
      places = ap (λ (z : NodeCall). z.passed) own_seat ∙ close_passed rest (point_at_end reason) reason ∙ ap (λ (o : List Request). map (requester_at o) ps) (sym order);
      last = λ i z b. subst (λ (o : List Request). IsLast o (requester_at o z) z) (sym order) (ok.passes.last (suc i) z (at_rest i z b));
      known = λ i z b. ok.passes.known (suc i) z (at_rest i z b);
      within = λ i z b. ok.passes.within (suc i) z (at_rest i z b);
      ended = λ _ i z b. ok.passes.ended freeing (suc i) z (at_rest i z b);
    }

    seat_passed : v.own.seat.passed ≡ x ∷ rest
    seat_passed = ap (λ (z : NodeCall). z.passed) ok.stands.seat ∙ passed_is

    own_left : (i z u : ℕ) → At (seat d n).passed i z → At ps i u → (entry d z).done ≡ true → (entry d z).link ≡ 0 → u + 1 < length v.view.order
    own_left i z u b c dn un = ok.stands.left freeing (suc i) z u
        (subst (λ (zs : List ℕ). At zs (suc i) z) (sym seat_passed) (subst (λ (zs : List ℕ). At zs i z) (ap (λ (y : NodeCall). y.passed) own_seat ∙ close_passed rest (point_at_end reason) reason) b))
        (at_rest i u c) (sym (fields z).0 ∙ dn) (sym (fields z).1 ∙ un)

    -- the freed request is in these sets
    module _ (early late : List Request) (grows : SetsGrow r.history (record { core = d; queue = q; joined = r.history.joined; early = early; late = late }) n) (in_sets : Has early a ⊎ Has late a) (was_late : (z : Request) → Has late z → Has r.history.late z ⊎ Has q.clear z) (cleared : HistoryInv allows key (record { core = d; queue = q; joined = r.history.joined; early = early; late = late }) → Has q.clear a ⊎ ((p + 1 ≡ length v.view.ends) × SuccessorUnlinked w.view)) where
      abbrev y : History
      y = next allows key r.may_open.nodes.few r.history r.history_inv k r.history.joined early late

      history_inv : HistoryInv allows key y
      history_inv = fine_next allows key r.may_open.nodes.few r.history r.history_inv k r.history.joined early late grows
          (subst (λ (es : List End). AreAllowed allows key.config.opening.bytes es) (sym ends) r.history_inv.kept)
          (λ m. absurd (never (leaving_lined (point d n) m.leaves) lineless))
          (λ z e. absurd (never (ap is_linking e) linkless))
          (λ e. absurd (never (ap is_queued e) unqueued))

      own_ok : NodeInv key y n w
      own_ok = record {
        who = record { node = refl; label = ok.who.label; config = ok.who.config };
        knows = subst (λ (z : Queue). ViewInv z n w.view) (sym is) (record {
          orders = ok.knows.orders;
          endings = ok.knows.endings;
          clears = prefix_self q.clear;
          counts = ok.knows.counts;
          placed = ok.knows.placed;
          own_ends = ok.knows.own_ends;
          own_marks = ok.knows.own_marks;
          all_marked = ok.knows.all_marked;
        });
        joins = record {
          own_joined = ok.joins.own_joined;
          all_joined = ok.joins.all_joined;
          all_freed = λ z h. elim (has_push v.view.freed a z h) [
            | inl old ↦ elim (ok.joins.all_freed z old) [ inl e ↦ inl (grows.early z e) | inr l ↦ inr (grows.late z l) ]
            | inr new ↦ subst (λ (c : Request). Has early c ⊎ Has late c) (sym new) in_sets
          ];
          joined_last = λ i b c hb hc e j. between good allows key s r me v at r.history (via_none good allows key r.history v r.history_inv) k refl r.history.joined early late grows history_inv i b c hb hc e (ok.joins.all_joined c j);
          freed_last = λ z h l. elim (was_late z l) [
            | inl old ↦ elim (has_push v.view.freed a z h) [
              | inl o ↦ has_prefix v.view.clear q.clear z clear_grows (ok.joins.freed_last z o old)
              | inr new ↦ absurd (fresh (inr (subst (Has r.history.late) new old)))
            ]
            | inr clear ↦ clear
          ];
        };
        stands = record {
          seat = refl;
          state = refl;
          holds = λ l. absurd (never l lineless);
          unwritten = λ e. absurd (never (ap has_line e) lineless);
          carries = λ l. absurd (never (leaving_lined (point d n) l) lineless);
          left = λ _ i z u b c dn un. own_left i z u b c dn un;
        };
        passes = passing;
      }

      own_clear : ps ≡ [] → Has q.clear (own v.view)
      own_clear all =
          let e = (sits_at r.history_inv.shown.matches n Freeing node at_core).0 in
          let l : IsLast q.order n e.at = subst (λ (o : List Request). IsLast o n e.at) (sym order) e.last in
          ap (has q.clear) (sym (last_is key.config.lease q.order q.ends n e.at advances.shows.legal l ∙ (λ i. record { node = n; number = (ap (count_of n) order ∙ ok.knows.counts) i })))
          ∙ advances.shows.matches.clears n e.at (node.0, subst (λ (c : ℕ). n ≤ c) (sym advances.spared.nodes) node.1) l
          ∙ ap (λ (z : Point). is_clear z (entry d n)) (ap (λ (z : NodeCall). z.point) own_seat ∙ ap (λ (zs : List ℕ). (seat_with (map (requester_at r.history.queue.order) zs) (point_at_end reason) reason).point) all)
          ∙ end_clear reason (entry d n)

      frees : Frees v p ps a w
      frees = record {
        point = ap (λ (z : NodeCall). z.point) own_seat ∙ free_point (requester_at r.history.queue.order) reason ps ∙ ap (λ st. after_release st ps) (sym state_then);
        passed = refl;
        state = state_then ∙ ap (λ (z : NodeCall). state_after (is_shut_by z.reason)) (sym ok.stands.seat) ∙ ap (λ (z : Point). state_at z v.own.seat.reason v.own.seat.passed) (sym freeing) ∙ sym ok.stands.state;
        count = refl;
        order = refl;
        ends = refl;
        marked = refl;
        joined = refl;
        freed = has_last v.view.freed a;
        clear = cleared history_inv;
        own_clear = own_clear;
      }

      freed_goal : (w' : List LinkGhost) × (act : Act Payload) × Valid s.homes carried act × Rule good allows key (stepped s (entry_at x) word me carried w' act) × freed allows (step slots (entry_at x) FREED 0 none) (v ∷ [], carried) (slice_index s.words (entry_at x)) (w', carried_after carried act)
      freed_goal =
          let t = turned_by good allows key s r me v at r.history (via_none good allows key r.history v r.history_inv) k refl r.history.joined early late grows history_inv w refl own_ok (prefix_self v.view.order) (prefix_self v.view.ends) clear_grows (λ z h. h) (λ z h. h) (λ z h. has_left v.view.freed (a ∷ []) z h)
          (set s.words (entry_at x) word) s.homes
          (entry_laid r.history.core d s.words s.homes s.homes x word with_freed r.represents passed_node few (let w = inside.entries in let l = passed_node.1 in omega arith) new_word refl refl refl r.represents.deep (in_slot r.history.core d s.homes r.history.core.place refl refl refl r.represents.slot)) in (
            w ∷ [],
            keeps,
            tt,
            t.rule,
            (
              refl,
              goes_step allows v w carried carried t.continues refl,
              (λ p' ps' a' first' here'. same p' ps' a' first' here'),
            ),
          )
        where
          same : (p' : ℕ) (ps' : List ℕ) (a' : Request) → v.own.passed ≡ p' ∷ ps' → At v.view.order p' a' → Frees v p' ps' a' w
          same p' ps' a' first' here' =
              let e : p ∷ ps ≡ p' ∷ ps' = sym first ∙ first' in
              let e0 : p ≡ p' = ap (λ (zs : List ℕ). slice_index_or zs 0 0) e in
              let e1 : ps ≡ ps' = ap (λ (zs : List ℕ). drop 1 zs) e in
              let e2 : a ≡ a' = at_same v.view.order p' a a' (subst (λ (u : ℕ). At v.view.order u a) e0 here) here' in
              subst (λ (u : ℕ). Frees v u ps' a' w) e0 (subst (λ (zs : List ℕ). Frees v p zs a' w) e1 (subst (λ (b : Request). Frees v p ps b w) e2 frees))

    -- the request is clear at once
    frees_last : Has q.clear a → (w' : List LinkGhost) × (act : Act Payload) × Valid s.homes carried act × Rule good allows key (stepped s (entry_at x) word me carried w' act) × freed allows (step slots (entry_at x) FREED 0 none) (v ∷ [], carried) (slice_index s.words (entry_at x)) (w', carried_after carried act)
    frees_last clear = freed_goal r.history.early (r.history.late ++ a ∷ [])
        (record {
          joined = λ z h. h;
          early = λ z h. h;
          late = λ z h. has_left r.history.late (a ∷ []) z h;
          new_joined = λ z h. inl h;
          new_early = λ z h. inl h;
          new_late = λ z h. elim (has_push r.history.late a z h) [ inl old ↦ inl old | inr new ↦ inr (subst (Has q.clear) (sym new) clear, λ f. fresh (subst (λ (c : Request). Has r.history.early c ⊎ Has r.history.late c) new f)) ];
        })
        (inr (has_last r.history.late a))
        (λ z h. elim (has_push r.history.late a z h) [ inl old ↦ inl old | inr new ↦ inr (subst (Has q.clear) (sym new) clear) ])
        (λ _. inl clear)

    -- the request becomes clear once the next request is linked
    frees_first : Lacks q.clear a → (w' : List LinkGhost) × (act : Act Payload) × Valid s.homes carried act × Rule good allows key (stepped s (entry_at x) word me carried w' act) × freed allows (step slots (entry_at x) FREED 0 none) (v ∷ [], carried) (slice_index s.words (entry_at x)) (w', carried_after carried act)
    frees_first un = freed_goal (r.history.early ++ a ∷ []) r.history.late
        (record {
          joined = λ z h. h;
          early = λ z h. has_left r.history.early (a ∷ []) z h;
          late = λ z h. h;
          new_joined = λ z h. inl h;
          new_early = λ z h. elim (has_push r.history.early a z h) [ inl old ↦ inl old | inr new ↦ inr (subst (λ (c : Request). IsFreed d q.order c × Lacks q.clear c) (sym new) (freed_now, un)) ];
          new_late = λ z h. inl h;
        })
        (inl (has_last r.history.early a))
        (λ z h. inl h)
        (λ history_inv. inr (short history_inv))
      where
        node_then : IsNode d x
        node_then = passed_node

        short : HistoryInv allows key (record { core = d; queue = q; joined = r.history.joined; early = r.history.early ++ a ∷ []; late = r.history.late }) → (p + 1 ≡ length v.view.ends) × SuccessorUnlinked w.view
        short history_inv =
            let parts = boxed_parts history_inv.shown r.history.joined history_inv.unjoined a node_then freed_now un in
            let behind = left_behind history_inv.shown r.history.joined history_inv.unjoined a node_then freed_now un in
            let more = ok.stands.left freeing 0 x p (ap (λ (zs : List ℕ). slice_get zs 0) seat_passed) first_at (sym (fields x).0 ∙ parts.0) (sym (fields x).1 ∙ parts.1) in
            let l = prefix_length v.view.ends r.history.queue.ends ok.knows.endings in
            let e = ap (λ (es : List End). length es) ends in
            let o = over in
            let b = behind.0 in
            let here : length v.view.ends ≡ p + 1 = omega arith in
            let z = element_at v.view.order (p + 1) more in (
              sym here,
              (
                z.0,
                ap (slice_get v.view.order) here ∙ z.1,
                lacks_from v.view.joined z.0 (λ j. never (ok.joins.all_joined z.0 j) (behind.1 z.0 (subst (λ (os : List Request). At os (p + 1) z.0) (sym order) (prefix_get v.view.order r.history.queue.order (p + 1) z.0 ok.knows.orders z.1)))),
              ),
            )

    pub frees_any : (w' : List LinkGhost) × (act : Act Payload) × Valid s.homes carried act × Rule good allows key (stepped s (entry_at x) word me carried w' act) × freed allows (step slots (entry_at x) FREED 0 none) (v ∷ [], carried) (slice_index s.words (entry_at x)) (w', carried_after carried act)
    frees_any = elim (cases_Bool (has q.clear a)) [ inl clear ↦ frees_last clear | inr un ↦ frees_first un ]

  pub frees_next : (me slots i : ℕ) (m : SeatContents) → m.0 ≡ v ∷ [] → i ≡ entry_at x → Allows (Rule good allows key) slots me m i (λ k. (k + FREED) % 2 ^ 64) (freed allows (step slots i FREED 0 none) m)
  frees_next me slots i m is word = subst (λ (z : ℕ × SeatContents). Allows (Rule good allows key) slots me z.1 z.0 (λ k. (k + FREED) % 2 ^ 64) (freed allows (step slots z.0 FREED 0 none) z.1)) (λ j. (sym word j, (sym is j, m.1)))
      (λ s r deep at small. frees_any me slots m.1 s r at small)
