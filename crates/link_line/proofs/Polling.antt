-- Proof about the atomic steps with which a waiting node polls its entry or withdraws its request. If the entry is
-- granted, the node accepts the line.
use Rattle.std.proofs.Common.{◌≡◌, ◌≢◌, ℕ, ◌+◌, ◌%◌, ◌^◌, ◌<◌, ◌≤◌, List, [], ◌∷◌, length, set, slice_index, true, false, sym, refl, ap, ◌∙◌, subst, inl, inr, arith, get_or-set_same}
use mathlib.Core.Option.{some, none}
use lib.ListN.{get_elem?}
use Rattle.std.proofs.lemmas.Bool.{cases_Bool}
use Rattle.atomic_table.specs.Table.{step, Act, keeps, takes, Valid, stepped, carried_after, Allows}
use Rattle.qolb_model.specs.declared.config.TheConstants.{MAX_NODES}
use Rattle.qolb_model.specs.declared.request.Request.{Request}
use Rattle.qolb_model.specs.Queue.{Queue}
use Rattle.qolb_model.specs.Requests.{count_of}
use Rattle.link_core.specs.declared.point.Point.TheVariants.{Queued, Rolled}
use Rattle.link_core.specs.declared.place.Place.TheVariants.{Mailbox, Hand}
use Rattle.link_core.specs.declared.seat.NodeCall.{NodeCall}
use Rattle.link_core.specs.declared.state.State.{State as Core}
use Rattle.link_core.specs.State.{unused, entry, seat, point, IsNode, IsWide, no_mask}
use Rattle.link_core.specs.declared.told.Told.{Told as Answer}
use Rattle.link_core.specs.declared.event.Event.{Event}
use Rattle.link_core.specs.Steps.{Step, node_of, seat_at_arrival}
use Rattle.link_core.specs.Steps as row
use Rattle.link_core.proofs.Found.{found, unset}
use Rattle.link_core.proofs.Steady.{after_is}
use Rattle.link_line.specs.Ghost.{LinkGhost}
use Rattle.line_generic.specs.declared.table.Payload.{Payload}
use Rattle.line_generic.specs.declared.table.TableKey.{TableKey}
use Rattle.link_line.specs.declared.layout.TheConstants.{ROLLED}
use Rattle.link_line.specs.Layout.{entry_at, pack, is_granted}
use Rattle.link_line.specs.Links.{History, NodeInv, InSlot, SlotHasLine}
use Rattle.link_line.specs.Steps.{SeatContents, loaded, rolled}
use Rattle.link_line.proofs.Going.{on, wide}
use Rattle.link_line.specs.Laws.Histories.{at_point}
use Rattle.link_line.proofs.Packed.{granted_is, add_rolled}
use Rattle.link_line.specs.Laws.Nodes.{St, Rule, mine_ok, is_node}
use Rattle.link_line.proofs.Laying.{entry_laid, same_laid, deep_taken, in_slot}
use Rattle.link_line.proofs.Turning.{goes_step, grows_none, joins_same}
use Rattle.link_line.proofs.Quiet.{after, view_after, quiet_turned}
use Rattle.link_line.proofs.AtTurn.{view_come, Arrives, at_turn, come_turned, queued_at, withdrawn_at}

module _ (good : List ℕ → Type 0) (allows : List ℕ → List ℕ → Type 0) (key : TableKey) (v : LinkGhost) (queued : v.own.seat.point ≡ Queued) where
  module _ (me slots : ℕ) (carried : List (ℕ × Payload)) (s : St good allows key) (r : Rule good allows key s) (at : get_elem? s.views me ≡ some (v ∷ [])) (small : slice_index s.words (entry_at v.view.node) < 18446744073709551616) where
    ok : NodeInv key r.history v.view.node v
    ok = mine_ok good allows key s r me v at

    node : IsNode r.history.core v.view.node
    node = is_node good allows key s r me v at

    here : point r.history.core v.view.node ≡ Queued
    here = at_point allows key r.history r.history_inv v.view.node v node ok ∙ queued

    inside : IsWide r.history.core
    inside = wide allows key r.may_open.nodes.few r.history r.history_inv

    few : r.history.core.nodes ≤ MAX_NODES
    few = subst (λ (n : ℕ). n ≤ MAX_NODES) (sym r.history_inv.shown.matches.size) r.may_open.nodes.few

    own_seat : (st : NodeCall) → seat (record r.history.core { seats = set r.history.core.seats v.view.node st }) v.view.node ≡ st
    own_seat st = get_or-set_same r.history.core.seats v.view.node st unused (let w = inside.seats in let n = node.1 in omega arith)

    abbrev word : ℕ
    word = entry_at v.view.node

    found_word : slice_index s.words word ≡ pack (entry r.history.core v.view.node)
    found_word = r.represents.entries v.view.node node

    granted_as : is_granted (slice_index s.words word) ≡ (entry r.history.core v.view.node).granted
    granted_as = ap is_granted found_word ∙ granted_is (entry r.history.core v.view.node)

    -- the word with the flag
    with_rolled : (slice_index s.words word + ROLLED) % 2 ^ 64 ≡ pack (record (entry r.history.core v.view.node) { rolled = true })
    with_rolled = ap (λ (k : ℕ). (k + ROLLED) % 2 ^ 64) found_word ∙ add_rolled (entry r.history.core v.view.node) (subst (λ (k : ℕ). k < 18446744073709551616) found_word small) ((unset r.history_inv.shown).rolled v.view.node node here)

    inside_entries : v.view.node < length r.history.core.entries
    inside_entries = let w = inside.entries in let n = node.1 in omega arith

    module _ (gr : (entry r.history.core v.view.node).granted ≡ true) where
      box : r.history.core.place ≡ Mailbox v.view.node
      box = ((found r.history_inv.shown).granted v.view.node node here gr).0

      nowhere : (m : ℕ) → r.history.core.place ≢ Hand m
      nowhere m e = let z : Mailbox v.view.node ≡ Hand m = sym box ∙ e in cc

      line : SlotHasLine r.history.core s.homes
      line = subst (InSlot r.history.core s.homes) box r.represents.slot

      arrives : {e : Event} {t : Answer} {d : Core} (k : Step r.history.core e t d) (is : node_of e ≡ v.view.node) → seat d v.view.node ≡ seat_at_arrival v.view.node r.history.core.closed → d.place ≡ Hand v.view.node → d.mask ≡ no_mask → d.bytes ≡ r.history.core.bytes → d.closed ≡ r.history.core.closed → d.left ≡ r.history.core.left → d.nodes ≡ r.history.core.nodes
          → (after good allows key s r me v at k).queue.order ≡ r.history.queue.order → (after good allows key s r me v at k).queue.ends ≡ r.history.queue.ends → Arrives good allows key s r me v at k is r.history.joined v.view.count v.view.joined line
      arrives k is seated placed masked bytes closed left nodes order ends = record {
        seat_is = seated;
        place = placed;
        mask = masked;
        bytes = bytes;
        closed = closed;
        left = left;
        nodes = nodes;
        nowhere = nowhere;
        ends = ends;
        counts = ap (λ (o : List Request). count_of v.view.node o) order ∙ ok.knows.counts;
        grows = grows_none r.history (after good allows key s r me v at k) _ refl refl refl;
        joins_are = joins_same key r.history (after good allows key s r me v at k) v ok refl;
      }

      load_comes : (w : List LinkGhost) × (a : Act Payload) × Valid s.homes carried a × Rule good allows key (stepped s word (slice_index s.words word) me carried w a) × loaded allows (step slots word 0 0 none) (v ∷ [], carried) (slice_index s.words word) (w, carried_after carried a)
      load_comes =
          let k = row.load_granted v.view.node node here gr in
          let y : History = after good allows key s r me v at k in
          let is = after_is (on allows key r.may_open.nodes.few r.history r.history_inv k) in
          let a = arrives k refl (own_seat (seat_at_arrival v.view.node r.history.core.closed)) refl refl refl refl refl refl (ap (λ (q : Queue). q.order) is) (ap (λ (q : Queue). q.ends) is) in
          let t = come_turned good allows key s r me v at k refl r.history.joined v.view.count v.view.joined line a (set s.words word (slice_index s.words word)) (set s.homes 0 none)
          (same_laid r.history.core y.core s.words s.homes (set s.homes 0 none) v.view.node r.represents node few refl refl refl (deep_taken s.homes r.represents.deep) tt) in
          let w : LinkGhost = view_come good allows key s r me v at k refl r.history.joined v.view.count v.view.joined line in (
            w ∷ [],
            takes 0 line.line,
            line.at,
            t.rule,
            (
              goes_step allows v w carried ((0, line.line) ∷ carried) t.continues refl,
              refl,
              (λ _. (line.line, refl, at_turn good allows key s r me v at k refl r.history.joined v.view.count v.view.joined line a)),
              (λ f. let z = sym f ∙ granted_as ∙ gr in cc),
            ),
          )

      roll_comes : (w : List LinkGhost) × (a : Act Payload) × Valid s.homes carried a × Rule good allows key (stepped s word ((slice_index s.words word + ROLLED) % 2 ^ 64) me carried w a) × rolled allows (step slots word ROLLED 0 none) (v ∷ [], carried) (slice_index s.words word) (w, carried_after carried a)
      roll_comes =
          let k = row.roll_granted v.view.node node here gr in
          let y : History = after good allows key s r me v at k in
          let is = after_is (on allows key r.may_open.nodes.few r.history r.history_inv k) in
          let a = arrives k refl (own_seat (seat_at_arrival v.view.node r.history.core.closed)) refl refl refl refl refl refl (ap (λ (q : Queue). q.order) is) (ap (λ (q : Queue). q.ends) is) in
          let t = come_turned good allows key s r me v at k refl r.history.joined v.view.count v.view.joined line a (set s.words word ((slice_index s.words word + ROLLED) % 2 ^ 64)) (set s.homes 0 none)
          (entry_laid r.history.core y.core s.words s.homes (set s.homes 0 none) v.view.node _ (record (entry r.history.core v.view.node) { rolled = true }) r.represents node few inside_entries with_rolled refl refl refl (deep_taken s.homes r.represents.deep) tt) in
          let w : LinkGhost = view_come good allows key s r me v at k refl r.history.joined v.view.count v.view.joined line in (
            w ∷ [],
            takes 0 line.line,
            line.at,
            t.rule,
            (
              goes_step allows v w carried ((0, line.line) ∷ carried) t.continues refl,
              refl,
              (λ _. (line.line, refl, at_turn good allows key s r me v at k refl r.history.joined v.view.count v.view.joined line a)),
              (λ f. let z = sym f ∙ granted_as ∙ gr in cc),
            ),
          )

    module _ (un : (entry r.history.core v.view.node).granted ≡ false) where
      load_waits : (w : List LinkGhost) × (a : Act Payload) × Valid s.homes carried a × Rule good allows key (stepped s word (slice_index s.words word) me carried w a) × loaded allows (step slots word 0 0 none) (v ∷ [], carried) (slice_index s.words word) (w, carried_after carried a)
      load_waits =
          let k = row.load_waiting v.view.node node here un in
          let y : History = after good allows key s r me v at k in
          let step' = on allows key r.may_open.nodes.few r.history r.history_inv k in
          let is = after_is step' in
          let t = quiet_turned good allows key s r me v at k refl Queued here refl (λ _. here) node (ap (λ (q : Queue). q.order) is) (ap (λ (q : Queue). q.ends) is) (set s.words word (slice_index s.words word)) s.homes
          (same_laid r.history.core y.core s.words s.homes s.homes v.view.node r.represents node few refl refl refl r.represents.deep r.represents.slot) in (
            view_after good allows key s r me v at k ∷ [],
            keeps,
            tt,
            t.rule,
            (
              goes_step allows v (view_after good allows key s r me v at k) carried carried t.continues refl,
              refl,
              (λ f. let z = sym f ∙ granted_as ∙ un in cc),
              (λ _. (refl, λ token. record { stands = here; queued = queued_at good allows key y v v.view.count v.view.joined [] v.own.line step'.shows ok.who.config (ap (λ (q : Queue). count_of v.view.node q.order) is ∙ ok.knows.counts) step'.says here })),
            ),
          )

      roll_withdraws : (w : List LinkGhost) × (a : Act Payload) × Valid s.homes carried a × Rule good allows key (stepped s word ((slice_index s.words word + ROLLED) % 2 ^ 64) me carried w a) × rolled allows (step slots word ROLLED 0 none) (v ∷ [], carried) (slice_index s.words word) (w, carried_after carried a)
      roll_withdraws =
          let k = row.roll v.view.node node here un in
          let y : History = after good allows key s r me v at k in
          let step' = on allows key r.may_open.nodes.few r.history r.history_inv k in
          let is = after_is step' in
          let own = ap (λ (z : NodeCall). z.point) (own_seat (record (seat r.history.core v.view.node) { point = Rolled })) in
          let t = quiet_turned good allows key s r me v at k refl Rolled own refl (λ z. cc z) node (ap (λ (q : Queue). q.order) is) (ap (λ (q : Queue). q.ends) is) (set s.words word ((slice_index s.words word + ROLLED) % 2 ^ 64)) s.homes
          (entry_laid r.history.core y.core s.words s.homes s.homes v.view.node _ (record (entry r.history.core v.view.node) { rolled = true }) r.represents node few inside_entries with_rolled refl refl refl r.represents.deep (in_slot r.history.core y.core s.homes r.history.core.place refl refl refl r.represents.slot)) in (
            view_after good allows key s r me v at k ∷ [],
            keeps,
            tt,
            t.rule,
            (
              goes_step allows v (view_after good allows key s r me v at k) carried carried t.continues refl,
              refl,
              (λ f. let z = sym f ∙ granted_as ∙ un in cc),
              (λ _. (refl, λ token. record { stands = own; withdrawn = withdrawn_at good allows key y v v.view.count v.view.joined [] v.own.line step'.shows ok.who.config (ap (λ (q : Queue). count_of v.view.node q.order) is ∙ ok.knows.counts) step'.says own })),
            ),
          )

  pub loads_next : (me slots i : ℕ) (m : SeatContents) → m.0 ≡ v ∷ [] → i ≡ entry_at v.view.node → Allows (Rule good allows key) slots me m i (λ k. k) (loaded allows (step slots i 0 0 none) m)
  loads_next me slots i m is word = subst (λ (z : ℕ × SeatContents). Allows (Rule good allows key) slots me z.1 z.0 (λ k. k) (loaded allows (step slots z.0 0 0 none) z.1)) (λ j. (sym word j, (sym is j, m.1)))
      (λ s r deep at small. elim (cases_Bool (entry r.history.core v.view.node).granted) [
        | inl t ↦ load_comes me slots m.1 s r at small t
        | inr f ↦ load_waits me slots m.1 s r at small f
      ])

  pub rolls_next : (me slots i : ℕ) (m : SeatContents) → m.0 ≡ v ∷ [] → i ≡ entry_at v.view.node → Allows (Rule good allows key) slots me m i (λ k. (k + ROLLED) % 2 ^ 64) (rolled allows (step slots i ROLLED 0 none) m)
  rolls_next me slots i m is word = subst (λ (z : ℕ × SeatContents). Allows (Rule good allows key) slots me z.1 z.0 (λ k. (k + ROLLED) % 2 ^ 64) (rolled allows (step slots z.0 ROLLED 0 none) z.1)) (λ j. (sym word j, (sym is j, m.1)))
      (λ s r deep at small. elim (cases_Bool (entry r.history.core v.view.node).granted) [
        | inl t ↦ roll_comes me slots m.1 s r at small t
        | inr f ↦ roll_withdraws me slots m.1 s r at small f
      ])
