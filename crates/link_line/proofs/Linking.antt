-- Proof about the atomic step with which a node links its request to the previous request. The node adds its own number
-- to the entry of the node that made the previous request.
use Rattle.std.proofs.Common.{◌≡◌, ℕ, ◌+◌, ◌*◌, ◌%◌, ◌^◌, ◌<◌, ◌≤◌, List, [], ◌∷◌, ◌++◌, length, set, slice_index, true, false, sym, refl, ap, ◌∙◌, subst, inl, inr, arith, get_or-set_same}
use mathlib.Core.Option.{some, none}
use lib.ListN.{get_elem?}
use Rattle.std.proofs.lemmas.Bool.{cases_Bool}
use Rattle.atomic_table.specs.Table.{step, Act, keeps, takes, Valid, stepped, carried_after, Allows}
use Rattle.qolb_model.specs.declared.config.TheConstants.{MAX_NODES}
use Rattle.qolb_model.specs.declared.request.Request.{Request}
use Rattle.qolb_model.specs.Queue.{Queue}
use Rattle.qolb_model.specs.Requests.{Has, has, count_of}
use Rattle.qolb_model.specs.Views.{own}
use Rattle.qolb_model.specs.Linking.{Links}
use Rattle.qolb_model.proofs.Requests.{has_at, has_last}
use Rattle.link_core.specs.declared.point.Point.TheVariants.{Linking, Queued}
use Rattle.link_core.specs.declared.place.Place.TheVariants.{Mailbox, Hand}
use Rattle.link_core.specs.declared.seat.NodeCall.{NodeCall}
use Rattle.link_core.specs.declared.entry.Entry.{Entry}
use Rattle.link_core.specs.declared.state.State.{State as Core}
use Rattle.link_core.specs.declared.told.Told.{Told as Answer}
use Rattle.link_core.specs.declared.event.Event.{Event}
use Rattle.link_core.specs.State.{unused, entry, seat, point, IsNode, IsWide}
use Rattle.link_core.specs.Steps.{Step, node_of, seat_at_arrival}
use Rattle.link_core.specs.Steps as row
use Rattle.link_core.specs.Shown.{IsBehind}
use Rattle.link_core.proofs.Found.{found, unset}
use Rattle.link_core.proofs.Steady.{after_is}
use Rattle.link_line.specs.Ghost.{LinkGhost}
use Rattle.line_generic.specs.declared.table.Payload.{Payload}
use Rattle.line_generic.specs.declared.table.TableKey.{TableKey}
use Rattle.link_line.specs.declared.layout.TheConstants.{LINK_UNIT}
use Rattle.link_line.specs.Layout.{entry_at, pack, is_done}
use Rattle.link_line.specs.Links.{History, NodeInv, Represents, InSlot, SlotHasLine, Homes}
use Rattle.link_line.specs.Steps.{SeatContents, linked}
use Rattle.link_line.proofs.Going.{SetsGrow, next, on, wide}
use Rattle.link_line.specs.Laws.Histories.{at_point, own_at}
use Rattle.link_line.proofs.Packed.{done_is, add_link}
use Rattle.link_line.specs.Laws.Nodes.{St, Rule, mine_ok, is_node}
use Rattle.link_line.proofs.Laying.{entry_laid, deep_taken, in_slot}
use Rattle.link_line.proofs.Turning.{whole, goes_step, grows_joined, joins_push, via_none, turned}
use Rattle.link_line.proofs.Quiet.{quiet_owes}
use Rattle.link_line.proofs.AtTurn.{view_come, Arrives, at_turn, come_turned, queued_at}

module _ (good : List ℕ → Type 0) (allows : List ℕ → List ℕ → Type 0) (key : TableKey) (v : LinkGhost) (p : ℕ) (linking : v.own.seat.point ≡ Linking p) where
  module _ (me slots : ℕ) (carried : List (ℕ × Payload)) (s : St good allows key) (r : Rule good allows key s) (at : get_elem? s.views me ≡ some (v ∷ [])) (small : slice_index s.words (entry_at p) < 18446744073709551616) where
    ok : NodeInv key r.history v.view.node v
    ok = mine_ok good allows key s r me v at

    node : IsNode r.history.core v.view.node
    node = is_node good allows key s r me v at

    here : point r.history.core v.view.node ≡ Linking p
    here = at_point allows key r.history r.history_inv v.view.node v node ok ∙ linking

    behind : IsBehind r.history.core r.history.queue.order r.history.queue.ends p v.view.node
    behind = (found r.history_inv.shown).link v.view.node p node here

    inside : IsWide r.history.core
    inside = wide allows key r.may_open.nodes.few r.history r.history_inv

    few : r.history.core.nodes ≤ MAX_NODES
    few = subst (λ (n : ℕ). n ≤ MAX_NODES) (sym r.history_inv.shown.matches.size) r.may_open.nodes.few

    own_seat : (st : NodeCall) → seat (record r.history.core { seats = set r.history.core.seats v.view.node st }) v.view.node ≡ st
    own_seat st = get_or-set_same r.history.core.seats v.view.node st unused (let w = inside.seats in let n = node.1 in omega arith)

    abbrev with_link : Entry
    with_link = record (entry r.history.core p) { link = v.view.node }

    abbrev word : ℕ
    word = (slice_index s.words (entry_at p) + LINK_UNIT * v.view.node) % 2 ^ 64

    found_word : slice_index s.words (entry_at p) ≡ pack (entry r.history.core p)
    found_word = r.represents.entries p behind.node

    done_as : is_done (slice_index s.words (entry_at p)) ≡ (entry r.history.core p).done
    done_as = ap is_done found_word ∙ done_is (entry r.history.core p)

    new_word : word ≡ pack with_link
    new_word = ap (λ (k : ℕ). (k + LINK_UNIT * v.view.node) % 2 ^ 64) found_word ∙ add_link (entry r.history.core p) (subst (λ (k : ℕ). k < 18446744073709551616) found_word small) v.view.node (let a = node.1 in let b = few in omega arith) ((unset r.history_inv.shown).link v.view.node p node here)

    laid : (d : Core) (homes : Homes) → d.nodes ≡ r.history.core.nodes → d.home ≡ r.history.core.home → d.entries ≡ set r.history.core.entries p with_link → length homes ≡ 1 → InSlot d homes d.place → Represents d (set s.words (entry_at p) word) homes
    laid d homes n h e deep slot = entry_laid r.history.core d s.words s.homes homes p word with_link r.represents behind.node few (let w = inside.entries in let a = behind.node.1 in omega arith) new_word n h e deep slot

    -- the node's own request is joined now
    abbrev joined : List Request
    joined = r.history.joined ++ own v.view ∷ []

    abbrev joins : List Request
    joins = v.view.joined ++ own v.view ∷ []

    abbrev past_after : {e : Event} {t : Answer} {d : Core} → Step r.history.core e t d → History
    past_after k = next allows key r.may_open.nodes.few r.history r.history_inv k joined r.history.early r.history.late

    own_known : Has r.history.queue.order (own v.view)
    own_known = has_at r.history.queue.order (behind.at + 1) (own v.view) (own_at allows key r.history r.history_inv v.view.node v node ok (behind.at + 1) behind.own)

    grows : {e : Event} {t : Answer} {d : Core} (k : Step r.history.core e t d) → v.view.node ≡ node_of e → (past_after k).queue.order ≡ r.history.queue.order → SetsGrow r.history (past_after k) (node_of e)
    grows {e} k is order = grows_joined r.history (past_after k) (node_of e) (own v.view) is (subst (λ o. Has o (own v.view)) (sym order) own_known) refl refl refl

    links : {e : Event} {t : Answer} {d : Core} (k : Step r.history.core e t d) (line : Payload) → Links v.view (whole (past_after k) v v.view.count joins [] line).view
    links k line = record { count = refl; joined = has_last v.view.joined (own v.view) }

    abbrev Goal : Type 0
    Goal = (w : List LinkGhost) × (a : Act Payload) × Valid s.homes carried a × Rule good allows key (stepped s (entry_at p) word me carried w a) × linked allows (step slots (entry_at p) (LINK_UNIT * v.view.node) 0 none) (v ∷ [], carried) (slice_index s.words (entry_at p)) (w, carried_after carried a)

    link_comes : (entry r.history.core p).done ≡ true → Goal
    link_comes dn =
        let k = row.link_done v.view.node p node here dn in
        let y : History = past_after k in
        let is = after_is (on allows key r.may_open.nodes.few r.history r.history_inv k) in
        let box = ((found r.history_inv.shown).link_done v.view.node p node here dn).0 in
        let line : SlotHasLine r.history.core s.homes = subst (InSlot r.history.core s.homes) box r.represents.slot in
        let a : Arrives good allows key s r me v at k refl joined v.view.count joins line = record {
          seat_is = own_seat (seat_at_arrival v.view.node r.history.core.closed);
          place = refl;
          mask = refl;
          bytes = refl;
          closed = refl;
          left = refl;
          nodes = refl;
          nowhere = λ m e. let z : Mailbox p ≡ Hand m = sym box ∙ e in cc;
          ends = ap (λ (q : Queue). q.ends) is;
          counts = ap (λ (q : Queue). count_of v.view.node q.order) is ∙ ok.knows.counts;
          grows = grows k refl (ap (λ (q : Queue). q.order) is);
          joins_are = joins_push key r.history y v (own v.view) ok refl;
        } in
        let t = come_turned good allows key s r me v at k refl joined v.view.count joins line a (set s.words (entry_at p) word) (set s.homes 0 none)
        (laid y.core (set s.homes 0 none) refl refl refl (deep_taken s.homes r.represents.deep) tt) in
        let w : LinkGhost = view_come good allows key s r me v at k refl joined v.view.count joins line in (
          w ∷ [],
          takes 0 line.line,
          line.at,
          t.rule,
          (
            goes_step allows v w carried ((0, line.line) ∷ carried) t.continues refl,
            links k line.line,
            (λ _. (line.line, refl, at_turn good allows key s r me v at k refl joined v.view.count joins line a)),
            (λ f. let z = sym f ∙ done_as ∙ dn in cc),
          ),
        )

    link_waits : (entry r.history.core p).done ≡ false → Goal
    link_waits un =
        let k = row.link v.view.node p node here un in
        let y : History = past_after k in
        let step' = on allows key r.may_open.nodes.few r.history r.history_inv k in
        let is = after_is step' in
        let own' = ap (λ (z : NodeCall). z.point) (own_seat (record (seat r.history.core v.view.node) { point = Queued })) in
        let order = ap (λ (q : Queue). q.order) is in
        let t = turned good allows key s r me v at r.history (via_none good allows key r.history v r.history_inv) k refl joined r.history.early r.history.late (grows k refl order) v.view.count joins [] v.own.line
        (quiet_owes good allows key r.history y v Queued joins r.history_inv ok step'.shows node own' refl order (ap (λ (q : Queue). q.ends) is) (joins_push key r.history y v (own v.view) ok refl)
        (λ _. ap (λ (c : ℕ). has joined (record { node = v.view.node; number = c })) (ap (λ (q : Queue). count_of v.view.node q.order) is ∙ ok.knows.counts) ∙ has_last r.history.joined (own v.view)))
        (set s.words (entry_at p) word) s.homes
        (laid y.core s.homes refl refl refl r.represents.deep (in_slot r.history.core y.core s.homes r.history.core.place refl refl refl r.represents.slot)) in (
          whole y v v.view.count joins [] v.own.line ∷ [],
          keeps,
          tt,
          t.rule,
          (
            goes_step allows v (whole y v v.view.count joins [] v.own.line) carried carried t.continues refl,
            links k v.own.line,
            (λ f. let z = sym f ∙ done_as ∙ un in cc),
            (λ _. (refl, λ token. record { stands = own'; queued = queued_at good allows key y v v.view.count joins [] v.own.line step'.shows ok.who.config (ap (λ (q : Queue). count_of v.view.node q.order) is ∙ ok.knows.counts) step'.says own' })),
          ),
        )

  pub links_next : (me slots i node : ℕ) (m : SeatContents) → m.0 ≡ v ∷ [] → i ≡ entry_at p → node ≡ v.view.node → Allows (Rule good allows key) slots me m i (λ k. (k + LINK_UNIT * node) % 2 ^ 64) (linked allows (step slots i (LINK_UNIT * node) 0 none) m)
  links_next me slots i number m is word its = subst (λ (z : ℕ × ℕ × SeatContents). Allows (Rule good allows key) slots me z.2 z.0 (λ k. (k + LINK_UNIT * z.1) % 2 ^ 64) (linked allows (step slots z.0 (LINK_UNIT * z.1) 0 none) z.2)) (λ j. (sym word j, sym its j, (sym is j, m.1)))
      (λ s r deep at small. elim (cases_Bool (entry r.history.core p).done) [
        | inl t ↦ link_comes me slots m.1 s r at small t
        | inr f ↦ link_waits me slots m.1 s r at small f
      ])
