-- Proof about the atomic step with which a waiting node loads its cell, and finds out whether its turn has come.
use Rattle.std.proofs.Common.{◌≡◌, ◌≢◌, ℕ, ◌%◌, ◌^◌, Bool, true, false, Option, List, [], ◌∷◌, length, set, slice_index, sym, refl, ap, ◌∙◌, subst, arith}
use mathlib.Core.Logic.{dite}
use mathlib.Core.Option.{none, some}
use native.Mathlib.Decide.{ℕ_discrete}
use lib.ListN.{get_elem?}
use lib.Seq.{set-get_or}
use Rattle.atomic_table.specs.Table.{step, keeps, carried_after, Allows}
use Rattle.qolb_model.specs.declared.answer.PortState.TheVariants as port_state
use Rattle.qolb_model.specs.Sound.{Continues}
use Rattle.qolb_model.specs.declared.config.LineConfig.{LineConfig}
use Rattle.line_cells.specs.declared.local.Point.TheVariants.{Queued}
use Rattle.line_generic.specs.declared.table.TableKey.{TableKey}
use Rattle.line_generic.specs.declared.table.Payload.{Payload}
use Rattle.line_generic.specs.Slots.{Slots}
use Rattle.line_generic.specs.Steps.{PollOutcome}
use Rattle.line_cells.specs.BetweenCalls.{phases}
use Rattle.line_cells.specs.Layout.{cell_at, cells_in, cell_of}
use Rattle.line_cells.specs.SlotLayout.{SlotLayout}
use Rattle.line_cells.specs.Array.{ArrayGhost, ArrayState, Cells, NodeInv, ArrayRule, has_line, is_releasing, is_unfinished}
use Rattle.line_cells.specs.Steps.{SeatContents, IsStillQueued, IsAtTurn, single, loaded}
use Rattle.line_cells.proofs.Nodes.{learned, learned_ok}
use Rattle.line_cells.proofs.Histories.{not_withdrawn, continues}
use Rattle.line_cells.proofs.Keeping.{rule_step, mine_ok, few_open}
use Rattle.line_cells.proofs.Slots.{MayTake}
use Rattle.line_cells.proofs.Taking.{Takes, StaysBehind, take_entry, asked_at, near, behind, found_is, home, act, brought, shows_turn, learns_take, taken_not_waits, taken_rule}
use Rattle.line_cells.proofs.Turning.{goes_step}

module _ (cells : Cells) (slot_layout : SlotLayout) (good : List ℕ → Type 0) (allows : List ℕ → List ℕ → Type 0) (key : TableKey) (v : ArrayGhost) (queued : v.own.point ≡ Queued) where
  abbrev Rule : ArrayState → Type 0
  Rule = ArrayRule cells slot_layout good allows key

  module _ (s : ArrayState) (r : Rule s) (me i : ℕ) (at : get_elem? s.views me ≡ some (v ∷ [])) (word : i ≡ cell_at (cell_of slot_layout.cells v.own.place)) where
    pub ok : NodeInv key r.history v.view.node v
    ok = mine_ok cells slot_layout good allows key s r me v at

    abbrev pub wait_entry : ArrayGhost
    wait_entry = learned key r.history v.view.node v ok port_state.Queued

    wait_ok : NodeInv key r.history v.view.node wait_entry
    wait_ok = learned_ok key r.history v.view.node v ok port_state.Queued (λ e. cc) (ap is_releasing queued) (ap has_line queued) (λ _. refl)

    pub waits_rule : Rule record { words = set s.words i (slice_index s.words i); homes = s.homes; views = set s.views me (wait_entry ∷ []) }
    waits_rule = subst (λ ws. Rule record { words = ws; homes = s.homes; views = set s.views me (wait_entry ∷ []) }) (sym (set-get_or s.words i 0))
        (rule_step cells slot_layout good allows key s r me v wait_entry r.history s.words s.homes at refl r.history_inv r.shown wait_ok (λ n a b ne. r.each n a b))

    pub learns_wait : Continues allows v.view wait_entry.view
    learns_wait = continues good allows key r.history r.history r.history_inv v.view.node v.view.node v wait_entry ok wait_ok refl ok.knows.orders ok.knows.endings ok.knows.clears (λ q h. h) (λ q h. h) (λ q h. h)

    pub early : (token_of : ℕ → ℕ) → v.own.place ≢ length r.history.ends → IsStillQueued token_of (token_of v.own.place) wait_entry
    early token_of later = record {
      stands = (queued, refl);
      queued = record {
        state = refl;
        waits = (v.own.place, (let w = ok.last_request.queued queued in omega arith), asked_at cells slot_layout good allows key v queued r.history ok);
        near = few_open cells slot_layout good allows key s r v.view.config ok.who.config;
        unmarked = not_withdrawn good allows key r.history r.history_inv v.view.node v ok (ap is_unfinished queued);
      };
    }

  module _ (token_of : ℕ → ℕ) (waits comes_to : ℕ → ℕ → Type 0) (may_take : MayTake slot_layout) (takes_line : Takes slot_layout.cells cells waits v.own.place v.view.node (λ n. n)) (stays : StaysBehind slot_layout.cells cells comes_to v.own.place) where
    pub loads_next : (me slots i : ℕ) (m : SeatContents) → m ≡ (v ∷ [], []) → i ≡ cell_at (cell_of slot_layout.cells v.own.place) → Allows Rule slots me m i (λ n. n) (loaded allows token_of slot_layout waits comes_to (step slots i 0 0 none) m)
    loads_next me slots i m is word = subst (λ (z : SeatContents). Allows Rule slots me z i (λ n. n) (loaded allows token_of slot_layout waits comes_to (step slots i 0 0 none) z)) (sym is) (λ s r deep at small. dite (ℕ_discrete v.own.place (length r.history.ends))
        (λ here. let y = home cells slot_layout good allows key v queued s r me i at word may_take here in let taking = act cells slot_layout good allows key v queued s r me i at word may_take here in (
          take_entry cells slot_layout good allows key v queued r.history ∷ [],
          taking.0,
          taking.1,
          taken_rule cells slot_layout good allows key v queued s r me i at word may_take here waits (λ n. n) takes_line,
          (
            goes_step allows (v ∷ [], []) v (take_entry cells slot_layout good allows key v queued r.history) (carried_after [] taking.0) refl (learns_take cells slot_layout good allows key v queued s r me i at word may_take here) refl,
            refl,
            (λ w. absurd (taken_not_waits cells slot_layout good allows key v queued s r me i at word may_take here waits (λ n. n) takes_line w)),
            (λ _. (y.0, brought cells slot_layout good allows key v queued s r me i at word may_take here, shows_turn cells slot_layout good allows key v queued s r me i at word may_take here token_of)),
          ),
        ))
        (λ later. let b = behind cells slot_layout good allows key v queued s r me i at word later in (
          wait_entry s r me i at word ∷ [],
          keeps,
          tt,
          waits_rule s r me i at word,
          (
            goes_step allows (v ∷ [], []) v (wait_entry s r me i at word) [] refl (learns_wait s r me i at word) refl,
            refl,
            (λ _. (refl, early s r me i at word token_of later)),
            (λ c. absurd (stays (length r.history.ends) r.history.holder r.history.cleared r.history.marks (cells_in s.words) b.0 (near cells slot_layout good allows key v queued s r me i at word) b.1 r.shown.said
                (subst (comes_to v.own.place) (found_is cells slot_layout good allows key v queued s r me i at word) c))),
          ),
        )))

    -- what a look finds is decided by a token and the lower half of the word
    pub looks_next : (cells_for : ℕ → ℕ) → slot_layout.cells ≡ cells_for key.config.nodes
        → (slots_at_grant : ℕ → ℕ → Payload → Slots → Type 0) (kept : ℕ → ℕ → Option ℕ → Slots → Type 0) (laid : ℕ → ℕ → Payload → Slots → Type 0) (signals_turn : ℕ → ℕ → Bool) (token : ℕ) → token ≡ token_of v.own.place
        → ((found : ℕ) → signals_turn token (found % 2 ^ 32) ≡ false → waits v.own.place found) → ((found : ℕ) → signals_turn token (found % 2 ^ 32) ≡ true → comes_to v.own.place found)
        → ((y : Payload) (k : Slots) → slot_layout.slots_at_grant v.own.place y k → slots_at_grant key.config.nodes token y k)
        → (me slots i : ℕ) → i ≡ cell_at (cell_of (cells_for v.view.config.nodes) v.own.place) → Allows Rule slots me (v ∷ [], []) i (λ n. n) (PollOutcome (phases token_of slots_at_grant kept laid) signals_turn token)
    looks_next cells_for counted slots_at_grant kept laid signals_turn token is not_yet now brought_so me slots i word s r deep at small =
        let same : v.view.config ≡ key.config = (mine_ok cells slot_layout good allows key s r me v at).who.config in
        let here : i ≡ cell_at (cell_of slot_layout.cells v.own.place) = word ∙ (ap (λ (t : LineConfig). cell_at (cell_of (cells_for t.nodes) v.own.place)) same ∙ ap (λ (c : ℕ). cell_at (cell_of c v.own.place)) (sym counted)) in
        let a = loads_next me slots i (v ∷ [], []) refl here s r deep at small in
        let knows : (single a.0).view.config ≡ key.config = a.4.0.extends.config ∙ same in (
          a.0,
          a.1,
          a.2,
          a.3,
          record {
            queued = λ n. let w = a.4.2 (not_yet (slice_index s.words i) n) in (w.0, subst (λ k. IsStillQueued token_of k (single a.0)) (sym is) w.1);
            at_turn = λ c. let w = a.4.3 (now (slice_index s.words i) c) in (w.0, subst (λ (t : LineConfig). slots_at_grant t.nodes token w.0 (carried_after [] a.1)) (sym knows) (brought_so w.0 (carried_after [] a.1) w.1), subst (λ k. IsAtTurn token_of k (single a.0) w.0) (sym is) w.2);
          },
        )
