-- Proof about the atomic step with which a node makes a request: the node swaps its number into the home word. If the
-- home word was 0, the turn of the request has come. Otherwise, the node must still link the request to the previous
-- one.
use Rattle.std.proofs.Common.{◌≡◌, ◌≢◌, ◌||◌, slice_get, ℕ, ◌+◌, ◌<◌, ◌≤◌, List, [], ◌∷◌, ◌++◌, length, set, slice_index, true, sym, refl, ap, ◌∙◌, subst, arith, Some, get_or-set_same}
use mathlib.Core.Option.{some, none}
use mathlib.Core.Logic.{dite}
use native.Mathlib.Decide.{ℕ_discrete}
use lib.ListN.{get_elem?}
use Rattle.atomic_table.specs.Table.{step, Act, keeps, takes, Valid, stepped, carried_after, Allows}
use Rattle.qolb_model.specs.declared.config.TheConstants.{MAX_NODES}
use Rattle.qolb_model.specs.declared.config.LineConfig.{LineConfig}
use Rattle.qolb_model.specs.declared.request.Request.{Request}
use Rattle.qolb_model.specs.declared.end.End.{End}
use Rattle.qolb_model.specs.Kept.{AreAllowed}
use Rattle.qolb_model.specs.Queue.{Queue}
use Rattle.qolb_model.specs.Requests.{Has, Lacks, has, count_of, next_of}
use Rattle.qolb_model.specs.Views.{own}
use Rattle.qolb_model.specs.Enqueueing.{Asks}
use Rattle.qolb_model.proofs.Lists.{slice_get-push}
use Rattle.qolb_model.proofs.Prefixes.{prefix_length}
use Rattle.qolb_model.proofs.Requests.{has_at, has_last, has_prefix, lacks_from, count_of-push_same, number_le_count_all}
use Rattle.link_core.specs.declared.point.Point.{Point}
use Rattle.link_core.specs.declared.point.Point.TheVariants.{Ready, Linking, Queued, Holding, Freeing}
use Rattle.link_core.specs.declared.place.Place.TheVariants.{Home, Hand}
use Rattle.link_core.specs.declared.seat.NodeCall.{NodeCall}
use Rattle.link_core.specs.declared.state.State.{State as Core}
use Rattle.link_core.specs.declared.told.Told.{Told as Answer}
use Rattle.link_core.specs.declared.event.Event.{Event}
use Rattle.link_core.specs.State.{unused, entry, seat, point, IsNode, IsWide, is_clear}
use Rattle.link_core.specs.Steps.{Step, node_of, seat_at_arrival, Names}
use Rattle.link_core.specs.Steps as row
use Rattle.link_core.specs.Places.{IsLast}
use Rattle.link_core.specs.Shown.{has_line, is_rolled, is_freeing}
use Rattle.link_core.proofs.Found.{found}
use Rattle.link_core.proofs.Orders.{last_new, last_place}
use Rattle.link_core.proofs.Steady.{after_is}
use Rattle.link_line.specs.Ghost.{LinkGhost}
use Rattle.line_generic.specs.declared.table.Payload.{Payload}
use Rattle.line_generic.specs.declared.table.TableKey.{TableKey}
use Rattle.link_line.specs.Layout.{home_at}
use Rattle.link_line.specs.Links.{At, History, NodeInv, InSlot, SlotHasLine, state_at, is_leaving}
use Rattle.link_line.specs.Steps.{SeatContents, prepended, MustLinkTo}
use Rattle.link_line.proofs.Window.{few_open}
use Rattle.link_line.proofs.Going.{next, on, wide}
use Rattle.link_line.specs.Laws.Histories.{at_point}
use Rattle.link_line.specs.Laws.Nodes.{St, Rule, mine_ok, is_node}
use Rattle.link_line.proofs.Laying.{home_laid, deep_taken, in_slot}
use Rattle.link_line.proofs.Turning.{whole, goes_step, grows_none, grows_joined, joins_same, joins_push, passes_none, Owes, via_none, turned, own_marked}
use Rattle.link_line.proofs.AtTurn.{view_come, Arrives, at_turn, come_turned}

module _ (good : List ℕ → Type 0) (allows : List ℕ → List ℕ → Type 0) (key : TableKey) (v : LinkGhost) (is_ready : v.own.seat.point ≡ Ready) where
  abbrev n : ℕ
  n = v.view.node

  abbrev asked : Request
  asked = record { node = v.view.node; number = v.view.count + 1 }

  module _ (me slots : ℕ) (carried : List (ℕ × Payload)) (s : St good allows key) (r : Rule good allows key s) (at : get_elem? s.views me ≡ some (v ∷ [])) where
    ok : NodeInv key r.history n v
    ok = mine_ok good allows key s r me v at

    node : IsNode r.history.core n
    node = is_node good allows key s r me v at

    here : point r.history.core n ≡ Ready
    here = at_point allows key r.history r.history_inv n v node ok ∙ is_ready

    inside : IsWide r.history.core
    inside = wide allows key r.may_open.nodes.few r.history r.history_inv

    own_seat : (st : NodeCall) → seat (record r.history.core { seats = set r.history.core.seats n st }) n ≡ st
    own_seat st = get_or-set_same r.history.core.seats n st unused (let w = inside.seats in let a = node.1 in omega arith)

    found_word : slice_index s.words home_at ≡ r.history.core.home
    found_word = r.represents.home

    abbrev q : Queue
    q = r.history.queue

    is_next : next_of n q.order ≡ asked
    is_next = λ i. record { node = n; number = ok.knows.counts i + 1 }

    module _ {e : Event} {t : Answer} {d : Core} (k : Step r.history.core e t d) (joined : List Request) where
      abbrev past_after : History
      past_after = next allows key r.may_open.nodes.few r.history r.history_inv k joined r.history.early r.history.late

      module _ (order : past_after.queue.order ≡ q.order ++ next_of n q.order ∷ []) where
        counts : count_of n past_after.queue.order ≡ v.view.count + 1
        counts = ap (count_of n) order ∙ count_of-push_same n q.order (next_of n q.order) refl ∙ ap (λ c. c + 1) ok.knows.counts

        asked_at : At past_after.queue.order (length q.order) asked
        asked_at = ap (λ (o : List Request). slice_get o (length q.order)) order ∙ slice_get-push q.order (next_of n q.order) ∙ ap Some is_next

        last : IsLast past_after.queue.order n (length q.order)
        last = subst (λ o. IsLast o n (length q.order)) (sym order) (last_new q.order (next_of n q.order))

        asks : (joins : List Request) (line : Payload) → Asks v.view (whole past_after v (v.view.count + 1) joins [] line).view
        asks joins line = record {
          was_clear = λ more.
              let p = last_place key.config.lease q.order q.ends n r.history_inv.shown.legal (subst (λ (c : ℕ). 1 ≤ c) (sym ok.knows.counts) more) in
              has_prefix q.clear past_after.queue.clear (own v.view) (on allows key r.may_open.nodes.few r.history r.history_inv k).spared.clear
              (ap (has q.clear) (λ i. record { node = n; number = sym ok.knows.counts i }) ∙ ap (has q.clear) (sym p.2) ∙ r.history_inv.shown.matches.clears n p.0 node p.1 ∙ ap (λ (z : Point). is_clear z (entry r.history.core n)) here);
          count = refl;
          behind = (length q.order, prefix_length v.view.order q.order ok.knows.orders, asked_at);
        }

    abbrev Goal : Type 0
    Goal = (w : List LinkGhost) × (a : Act Payload) × Valid s.homes carried a × Rule good allows key (stepped s home_at n me carried w a) × prepended allows (step slots home_at n 0 none) (v ∷ [], carried) (slice_index s.words home_at) (w, carried_after carried a)

    -- none of its requests that are joined is the new one
    not_joined : Has r.history.joined asked → ⊥
    not_joined h = let z = number_le_count_all q.order r.history_inv.shown.legal.numbered asked (r.history_inv.joined asked h) in let c = ok.knows.counts in omega arith

    prepend_comes : r.history.core.home ≡ 0 → Goal
    prepend_comes idle =
        let k = row.prepend_first n node here idle in
        let joined : List Request = r.history.joined ++ asked ∷ [] in
        let joins : List Request = v.view.joined ++ asked ∷ [] in
        let y : History = past_after k joined in
        let is = after_is (on allows key r.may_open.nodes.few r.history r.history_inv k) in
        let order = ap (λ (q : Queue). q.order) is in
        let home = (found r.history_inv.shown).idle idle in
        let line : SlotHasLine r.history.core s.homes = subst (InSlot r.history.core s.homes) home r.represents.slot in
        let a : Arrives good allows key s r me v at k refl joined (v.view.count + 1) joins line = record {
          seat_is = own_seat (seat_at_arrival n r.history.core.closed);
          place = refl;
          mask = refl;
          bytes = refl;
          closed = refl;
          left = refl;
          nodes = refl;
          nowhere = λ m e. let z : Home ≡ Hand m = sym home ∙ e in cc;
          ends = ap (λ (q : Queue). q.ends) is;
          counts = counts k joined order;
          grows = grows_joined r.history y n asked refl (has_at y.queue.order (length q.order) asked (asked_at k joined order)) refl refl refl;
          joins_are = joins_push key r.history y v asked ok refl;
        } in
        let t = come_turned good allows key s r me v at k refl joined (v.view.count + 1) joins line a (set s.words home_at n) (set s.homes 0 none)
        (home_laid r.history.core y.core s.words s.homes (set s.homes 0 none) n r.represents refl refl refl (deep_taken s.homes r.represents.deep) tt) in
        let w : LinkGhost = view_come good allows key s r me v at k refl joined (v.view.count + 1) joins line in (
          w ∷ [],
          takes 0 line.line,
          line.at,
          t.rule,
          (
            goes_step allows v w carried ((0, line.line) ∷ carried) t.continues refl,
            asks k joined order joins line.line,
            (λ _. (has_last v.view.joined asked, (line.line, refl, at_turn good allows key s r me v at k refl joined (v.view.count + 1) joins line a))),
            (λ busy. absurd (busy (found_word ∙ idle))),
          ),
        )

    prepend_links : r.history.core.home ≢ 0 → Goal
    prepend_links busy =
        let k = row.prepend n node here busy in
        let y : History = past_after k r.history.joined in
        let step' = on allows key r.may_open.nodes.few r.history r.history_inv k in
        let is = after_is step' in
        let order = ap (λ (q : Queue). q.order) is in
        let ends = ap (λ (q : Queue). q.ends) is in
        let own' : point y.core n ≡ Linking r.history.core.home = ap (λ (z : NodeCall). z.point) (own_seat (record (seat r.history.core n) { point = Linking r.history.core.home })) in
        let number = counts k r.history.joined order in
        let unjoined : Lacks r.history.joined asked = lacks_from r.history.joined asked not_joined in
        let behind : length y.queue.ends < length q.order = let e = ap (λ (es : List End). length es) ends in let l = r.history_inv.shown.matches.known in open' (λ z. busy (r.history_inv.shown.matches.home_idle z)) e l in
        let owes : Owes good allows key y v (v.view.count + 1) v.view.joined [] v.own.line = record {
          kept = subst (AreAllowed allows key.config.opening.bytes) (sym ends) r.history_inv.kept;
          lawful = λ z. let l : is_leaving (Linking r.history.core.home) ≡ true = ap is_leaving (sym own') ∙ z.leaves in cc;
          unjoined = λ _ _. ap (λ (c : ℕ). has r.history.joined (record { node = n; number = c })) number ∙ unjoined;
          waiting = λ z. let l : Linking r.history.core.home ≡ Queued = sym own' ∙ z in cc;
          counts = number;
          joins = joins_same key r.history y v ok refl;
          unwritten = λ z. let l : Linking r.history.core.home ≡ Holding = sym own' ∙ z in cc;
          carries = λ z. let l : is_leaving (Linking r.history.core.home) ≡ true = ap is_leaving (sym own') ∙ z in cc;
          left = λ z. let l : Linking r.history.core.home ≡ Freeing = sym own' ∙ z in cc;
          passes = passes_none y.queue.order _ (step'.shows.matches.unpassed n node (ap (λ (z : Point). has_line z || is_freeing z) own')) refl;
        } in
        let t = turned good allows key s r me v at r.history (via_none good allows key r.history v r.history_inv) k refl r.history.joined r.history.early r.history.late (grows_none r.history y n refl refl refl) (v.view.count + 1) v.view.joined [] v.own.line owes (set s.words home_at n) s.homes
        (home_laid r.history.core y.core s.words s.homes s.homes n r.represents refl refl refl r.represents.deep (in_slot r.history.core y.core s.homes r.history.core.place refl refl refl r.represents.slot)) in
        let w : LinkGhost = whole y v (v.view.count + 1) v.view.joined [] v.own.line in
        let links : MustLinkTo r.history.core.home w = record {
          stands = (own', (let z = subst (Names y.core) own' ((found step'.shows).names n node) in let f = few in let l = z.1 in let k = many in (omega arith, omega arith)));
          linking = record {
            state = ap (λ (p : Point). state_at p (seat y.core n).reason (seat y.core n).passed) own';
            waits = (length q.order, behind, asked_at k r.history.joined order);
            near = few_open key.config y.core y.queue step'.shows v.view.config ok.who.config;
            unjoined = lacks_from v.view.joined asked (λ h. not_joined (ok.joins.all_joined asked h));
            unmarked = own_marked good allows key y v (v.view.count + 1) (length q.order) step'.shows number (last k r.history.joined order) (omega arith) ∙ ap is_rolled own';
          };
        } in (
          w ∷ [],
          keeps,
          tt,
          t.rule,
          (
            goes_step allows v w carried carried t.continues refl,
            asks k r.history.joined order v.view.joined v.own.line,
            (λ idle. absurd (busy (sym found_word ∙ idle))),
            (λ _. (refl, subst (λ (predecessor : ℕ). MustLinkTo predecessor w) (sym found_word) links)),
          ),
        )
      where
        few : r.history.core.nodes ≤ MAX_NODES
        few = subst (λ (n : ℕ). n ≤ MAX_NODES) (sym r.history_inv.shown.matches.size) r.may_open.nodes.few

        many : v.view.config.nodes ≡ r.history.core.nodes
        many = ap (λ (t : LineConfig). t.nodes) ok.who.config ∙ sym r.history_inv.shown.matches.size

        open' : (length q.ends ≡ length q.order → ⊥) → {a : ℕ} → a ≡ length q.ends → length q.ends ≤ length q.order → a < length q.order
        open' ne e l = dite (ℕ_discrete (length q.ends) (length q.order)) (λ z. absurd (ne z)) (λ z. omega arith)

  pub prepends_next : (me slots node : ℕ) (m : SeatContents) → m.0 ≡ v ∷ [] → node ≡ v.view.node → Allows (Rule good allows key) slots me m home_at (λ _. node) (prepended allows (step slots home_at node 0 none) m)
  prepends_next me slots number m is its = subst (λ (z : ℕ × SeatContents). Allows (Rule good allows key) slots me z.1 home_at (λ _. z.0) (prepended allows (step slots home_at z.0 0 none) z.1)) (λ j. (sym its j, (sym is j, m.1)))
      (λ s r deep at small. dite (ℕ_discrete r.history.core.home 0) (λ idle. prepend_comes me slots m.1 s r at idle) (λ busy. prepend_links me slots m.1 s r at busy))
