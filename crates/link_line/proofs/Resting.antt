-- Proof about what a node does before its next request. The node checks whether its last request is clear, and sets its
-- entry back to 0.
use Rattle.std.proofs.Common.{◌≡◌, ◌⊎◌, ℕ, ◌≤◌, List, [], ◌∷◌, set, slice_index, true, false, sym, refl, ap, ◌∙◌, subst, inl, inr, arith, get_or-set_same}
use mathlib.Core.Option.{some, none}
use lib.ListN.{get_elem?}
use Rattle.std.proofs.lemmas.Bool.{cases_Bool, cases_lt}
use Rattle.atomic_table.specs.Table.{step, Act, keeps, Valid, stepped, carried_after, Allows}
use Rattle.qolb_model.specs.declared.config.TheConstants.{MAX_NODES}
use Rattle.qolb_model.specs.Queue.{Queue}
use Rattle.qolb_model.specs.Requests.{Lacks, has}
use Rattle.qolb_model.proofs.Clearing.{clears_ended}
use Rattle.qolb_model.proofs.Requests.{lacks_from}
use Rattle.link_core.specs.declared.point.Point.{Point}
use Rattle.link_core.specs.declared.point.Point.TheVariants.{Idle, Ready, Queued, Left, Rolled, Shut}
use Rattle.link_core.specs.declared.seat.NodeCall.{NodeCall}
use Rattle.link_core.specs.State.{unused, empty, entry, seat, point, IsNode, IsWide, is_clear}
use Rattle.link_core.specs.Steps.{Step}
use Rattle.link_core.specs.Steps as row
use Rattle.link_core.specs.Promise.{Says}
use Rattle.link_core.specs.declared.told.Told.TheVariants as told
use Rattle.link_core.proofs.Orders.{last_place}
use Rattle.link_core.proofs.Steady.{after_is}
use Rattle.link_line.specs.Ghost.{LinkGhost}
use Rattle.line_generic.specs.declared.table.Payload.{Payload}
use Rattle.line_generic.specs.declared.table.TableKey.{TableKey}
use Rattle.link_line.specs.Layout.{entry_at, pack}
use Rattle.link_line.specs.Links.{History, NodeInv, HistoryInv, state_of}
use Rattle.link_line.specs.Steps.{SeatContents, readied, loaded_last, is_free}
use Rattle.link_line.proofs.Going.{on, wide}
use Rattle.link_line.specs.Laws.Histories.{at_point}
use Rattle.link_line.proofs.Packed.{pack_empty, done_is, freed_is, link_is}
use Rattle.link_line.specs.Laws.Nodes.{St, Rule, mine_ok, is_node}
use Rattle.link_line.proofs.Laying.{entry_laid, same_laid, in_slot}
use Rattle.link_line.proofs.Turning.{goes_step}
use Rattle.link_line.proofs.Quiet.{is_quiet, after, view_after, quiet_turned}

module _ (good : List ℕ → Type 0) (allows : List ℕ → List ℕ → Type 0) (key : TableKey) (v : LinkGhost) where
  module _ (me slots : ℕ) (carried : List (ℕ × Payload)) (s : St good allows key) (r : Rule good allows key s) (at : get_elem? s.views me ≡ some (v ∷ [])) where
    ok : NodeInv key r.history v.view.node v
    ok = mine_ok good allows key s r me v at

    node : IsNode r.history.core v.view.node
    node = is_node good allows key s r me v at

    here : (p : Point) → v.own.seat.point ≡ p → point r.history.core v.view.node ≡ p
    here p e = at_point allows key r.history r.history_inv v.view.node v node ok ∙ e

    inside : IsWide r.history.core
    inside = wide allows key r.may_open.nodes.few r.history r.history_inv

    few : r.history.core.nodes ≤ MAX_NODES
    few = subst (λ (n : ℕ). n ≤ MAX_NODES) (sym r.history_inv.shown.matches.size) r.may_open.nodes.few

    own_seat : (st : NodeCall) → seat (record r.history.core { seats = set r.history.core.seats v.view.node st }) v.view.node ≡ st
    own_seat st = get_or-set_same r.history.core.seats v.view.node st unused (let w = inside.seats in let n = node.1 in omega arith)

    abbrev word : ℕ
    word = entry_at v.view.node

    resets : (v.own.seat.point ≡ Idle) ⊎ (v.own.seat.point ≡ Shut) → (w : List LinkGhost) × (a : Act Payload) × Valid s.homes carried a × Rule good allows key (stepped s word 0 me carried w a) × readied allows (step slots word 0 0 none) (v ∷ [], carried) 0 (w, carried_after carried a)
    resets rest =
        let k = row.reset v.view.node node (elim rest [ inl i ↦ inl (here Idle i) | inr i ↦ inr (here Shut i) ]) in
        let y : History = after good allows key s r me v at k in
        let is = after_is (on allows key r.may_open.nodes.few r.history r.history_inv k) in
        let st : NodeCall = record (seat r.history.core v.view.node) { point = Ready } in
        let own : seat y.core v.view.node ≡ st = own_seat st in
        let t = quiet_turned good allows key s r me v at k refl Ready (ap (λ (z : NodeCall). z.point) own) refl (λ z. cc z) node (ap (λ (q : Queue). q.order) is) (ap (λ (q : Queue). q.ends) is) (set s.words word 0) s.homes
        (entry_laid r.history.core y.core s.words s.homes s.homes v.view.node 0 empty r.represents node few (let w = inside.entries in let n = node.1 in omega arith) (sym pack_empty) refl refl refl r.represents.deep (in_slot r.history.core y.core s.homes r.history.core.place refl refl refl r.represents.slot)) in (
          view_after good allows key s r me v at k ∷ [],
          keeps,
          tt,
          t.rule,
          (
            refl,
            goes_step allows v (view_after good allows key s r me v at k) carried carried t.continues refl,
            record { point = ap (λ (z : NodeCall). z.point) own; state = ap state_of own; count = refl },
          ),
        )

    found : slice_index s.words word ≡ pack (entry r.history.core v.view.node)
    found = r.represents.entries v.view.node node

    -- the word tells what the clear list says
    free_is : (p : Point) → (p ≡ Left) ⊎ (p ≡ Rolled) → is_free p (slice_index s.words word) ≡ is_clear p (entry r.history.core v.view.node)
    free_is p (inl e) = rw (e, found, link_is (entry r.history.core v.view.node)) refl
    free_is p (inr e) = rw (e, found, link_is (entry r.history.core v.view.node), done_is (entry r.history.core v.view.node), freed_is (entry r.history.core v.view.node)) refl

    -- a last request that is not clear is not known to be clear
    unclear : (y : History) (w : LinkGhost) → HistoryInv allows key y → NodeInv key y v.view.node w → Says y.queue v.view.node told.Busy → Lacks y.queue.clear (record { node = v.view.node; number = w.view.count })
    unclear y w history_inv own says = elim (cases_lt 0 w.view.count) [
      | inl more ↦
          let p = last_place key.config.lease y.queue.order y.queue.ends v.view.node history_inv.shown.legal (subst (λ (c : ℕ). 1 ≤ c) (sym own.knows.counts) more) in
          ap (has y.queue.clear) (λ i. record { node = v.view.node; number = sym own.knows.counts i }) ∙ ap (has y.queue.clear) (sym p.2) ∙ says p.0 p.1
      | inr never ↦ lacks_from y.queue.clear (record { node = v.view.node; number = w.view.count }) (λ h.
          let z = clears_ended history_inv.cleared (record { node = v.view.node; number = w.view.count }) h in
          let n = history_inv.shown.legal.numbered z.0 (record { node = v.view.node; number = w.view.count }) z.2 in
          omega arith)
    ]

    abbrev Looks : Type 0
    Looks = (w : List LinkGhost) × (a : Act Payload) × Valid s.homes carried a × Rule good allows key (stepped s word (slice_index s.words word) me carried w a) × loaded_last allows (step slots word 0 0 none) (v ∷ [], carried) (slice_index s.words word) (w, carried_after carried a)

    module _ (rest : (v.own.seat.point ≡ Left) ⊎ (v.own.seat.point ≡ Rolled)) where
      at_core : (point r.history.core v.view.node ≡ Left) ⊎ (point r.history.core v.view.node ≡ Rolled)
      at_core = elim rest [ inl i ↦ inl (here Left i) | inr i ↦ inr (here Rolled i) ]

      clear_as : is_free v.own.seat.point (slice_index s.words word) ≡ is_clear (point r.history.core v.view.node) (entry r.history.core v.view.node)
      clear_as = free_is v.own.seat.point rest ∙ ap (λ (p : Point). is_clear p (entry r.history.core v.view.node)) (sym (here v.own.seat.point refl))

      looks_free : is_clear (point r.history.core v.view.node) (entry r.history.core v.view.node) ≡ true → Looks
      looks_free fr =
          let k = row.load_free v.view.node node at_core fr in
          let y : History = after good allows key s r me v at k in
          let is = after_is (on allows key r.may_open.nodes.few r.history r.history_inv k) in
          let st : NodeCall = record (seat r.history.core v.view.node) { point = Idle } in
          let own : seat y.core v.view.node ≡ st = own_seat st in
          let t = quiet_turned good allows key s r me v at k refl Idle (ap (λ (z : NodeCall). z.point) own) refl (λ z. cc z) node (ap (λ (q : Queue). q.order) is) (ap (λ (q : Queue). q.ends) is) (set s.words word (slice_index s.words word)) s.homes
          (same_laid r.history.core y.core s.words s.homes s.homes v.view.node r.represents node few refl refl refl r.represents.deep (in_slot r.history.core y.core s.homes r.history.core.place refl refl refl r.represents.slot)) in (
            view_after good allows key s r me v at k ∷ [],
            keeps,
            tt,
            t.rule,
            (
              refl,
              goes_step allows v (view_after good allows key s r me v at k) carried carried t.continues refl,
              record { count = refl; is_clear = λ _. (ap (λ (z : NodeCall). z.point) own, ap state_of own); unclear = λ no'. let z = sym no' ∙ clear_as ∙ fr in cc },
            ),
          )

      quiet_rest : (p : Point) → (p ≡ Left) ⊎ (p ≡ Rolled) → is_quiet p ≡ true
      quiet_rest p (inl e) = ap is_quiet e
      quiet_rest p (inr e) = ap is_quiet e

      rest_unqueued : {A : Type 0} (p : Point) → (p ≡ Left) ⊎ (p ≡ Rolled) → p ≡ Queued → A
      rest_unqueued p (inl e) z = let y : Left ≡ Queued = sym e ∙ z in cc
      rest_unqueued p (inr e) z = let y : Rolled ≡ Queued = sym e ∙ z in cc

      looks_busy : is_clear (point r.history.core v.view.node) (entry r.history.core v.view.node) ≡ false → Looks
      looks_busy un =
          let k = row.load_busy v.view.node node at_core un in
          let y : History = after good allows key s r me v at k in
          let step' = on allows key r.may_open.nodes.few r.history r.history_inv k in
          let is = after_is step' in
          let t = quiet_turned good allows key s r me v at k refl v.own.seat.point (here v.own.seat.point refl) (quiet_rest v.own.seat.point rest) (rest_unqueued v.own.seat.point rest) node (ap (λ (q : Queue). q.order) is) (ap (λ (q : Queue). q.ends) is) (set s.words word (slice_index s.words word)) s.homes
          (same_laid r.history.core y.core s.words s.homes s.homes v.view.node r.represents node few refl refl refl r.represents.deep r.represents.slot) in (
            view_after good allows key s r me v at k ∷ [],
            keeps,
            tt,
            t.rule,
            (
              refl,
              goes_step allows v (view_after good allows key s r me v at k) carried carried t.continues refl,
              record {
                count = refl;
                is_clear = λ yes'. let z = sym yes' ∙ clear_as ∙ un in cc;
                unclear = λ _. (here v.own.seat.point refl, ap state_of (sym ok.stands.seat) ∙ sym ok.stands.state, unclear y (view_after good allows key s r me v at k) t.history_inv t.own step'.says);
              },
            ),
          )

  pub resets_next : (v.own.seat.point ≡ Idle) ⊎ (v.own.seat.point ≡ Shut) → (me slots i : ℕ) (m : SeatContents) → m.0 ≡ v ∷ [] → i ≡ entry_at v.view.node → Allows (Rule good allows key) slots me m i (λ _. 0) (λ _. readied allows (step slots i 0 0 none) m 0)
  resets_next rest me slots i m is word = subst (λ (z : ℕ × SeatContents). Allows (Rule good allows key) slots me z.1 z.0 (λ _. 0) (λ _. readied allows (step slots z.0 0 0 none) z.1 0)) (λ j. (sym word j, (sym is j, m.1)))
      (λ s r deep at small. resets me slots m.1 s r at rest)

  pub loads_last_next : (v.own.seat.point ≡ Left) ⊎ (v.own.seat.point ≡ Rolled) → (me slots i : ℕ) (m : SeatContents) → m.0 ≡ v ∷ [] → i ≡ entry_at v.view.node → Allows (Rule good allows key) slots me m i (λ k. k) (loaded_last allows (step slots i 0 0 none) m)
  loads_last_next rest me slots i m is word = subst (λ (z : ℕ × SeatContents). Allows (Rule good allows key) slots me z.1 z.0 (λ k. k) (loaded_last allows (step slots z.0 0 0 none) z.1)) (λ j. (sym word j, (sym is j, m.1)))
      (λ s r deep at small. elim (cases_Bool (is_clear (point r.history.core v.view.node) (entry r.history.core v.view.node))) [
        | inl t ↦ looks_free me slots m.1 s r at rest t
        | inr f ↦ looks_busy me slots m.1 s r at rest f
      ])
