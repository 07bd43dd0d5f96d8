-- Lemmas about a node to which the line was granted, and about the call with which this node releases the line.
use Rattle.std.proofs.Common.{◌≡◌, ℕ, ◌+◌, ◌≤◌, Bool, true, false, ◌||◌, length, List, [], ◌∷◌, ◌++◌, sym, refl, ap, ◌∙◌, subst, Some, arith, replicate, bit_or}
use Rattle.std.proofs.Math.Bool.{or-false}
use Rattle.std.proofs.lemmas.Option.{slice_get_within}
use Rattle.line_lanes.specs.Line.{merged}
use Rattle.line_lanes.proofs.Masked.{merged-twice}
use Rattle.line_lanes.proofs.Masked.{merged-none}
use Rattle.qolb_model.specs.declared.end.End.TheVariants.{Served, Gone, Told}
use Rattle.qolb_model.specs.declared.view.View.{View}
use Rattle.qolb_model.specs.declared.write.Write.{Write}
use Rattle.qolb_model.specs.Ends.{is_closed, bytes_after, written, MayEnd}
use Rattle.qolb_model.specs.PortStates.{state_after}
use Rattle.qolb_model.specs.Leases.{turns_left, is_last_turn, closes}
use Rattle.qolb_model.specs.Steps.{decrement}
use Rattle.qolb_model.proofs.Leases.{turns_left-served, turns_left-same, last_closes}
use Rattle.qolb_model.specs.Views.{own, bytes_of, Extends}
use Rattle.qolb_model.specs.Kept.{AreAllowed, MayRelease}
use Rattle.qolb_model.specs.AtTurn.{IsClearBefore}
use Rattle.qolb_model.specs.Releasing.{AfterRelease, EndsTurn, IsTold}
use Rattle.qolb_model.proofs.Lists.{element_at, same_some}
use Rattle.qolb_model.proofs.Prefixes.{prefix_get}
use Rattle.qolb_model.proofs.Histories.{bytes_after-append, is_closed-append}
use Rattle.qolb_model.proofs.Requests.{has_prefix}
use Rattle.line_generic.specs.declared.table.NodeGhost.{NodeGhost}
use Rattle.line_generic.specs.declared.table.LocalCopy.{LocalCopy}
use Rattle.line_generic.specs.declared.table.Payload.{Payload}
use Rattle.line_generic.specs.NodeGhosts.{LineSeat}
use Rattle.line_generic.specs.Steps.{ghost_of, nodes_of, single, write_of, own_end, IsNextPayload, IsAtTurn}
use Rattle.line_generic.specs.Slots.{IsCopy}
use Rattle.line_generic.specs.PortPhases.{PortPhases}
use Rattle.line_generic.specs.Ports.{write_in, IsMerged, Holds, IsHeld, IsStored}

-- the payload that a holder stores and releases is the one after its turn
pub carries_served : (allows : List ℕ → List ℕ → Type 0) (v : View) (turn : LocalCopy) (y : Payload) (shut : Bool) → is_closed v.ends ≡ false → turn.turns_left ≡ turns_left v.config.lease v.ends → IsMerged v turn → MayRelease allows v (write_in turn)
    → IsStored turn (closes v.config.lease v.ends shut) y → IsNextPayload allows v y
carries_served allows v turn y shut unclosed left merged may back =
    let end : own_end (is_closed v.ends) y ≡ Served (write_of y) y.closed = ap (λ b. own_end b y) unclosed in
    let same : write_of y ≡ write_in turn = (λ i. record { mask = record { 0 = (back.mask i).bits }; bytes = back.bytes i }) in
    let mine : written (bytes_of v) (write_of y) ≡ y.bytes.bytes = subst (λ (z : Write). written (bytes_of v) z ≡ z.bytes.bytes) (sym same) merged in
    let allowed : MayRelease allows v (write_of y) = subst (MayRelease allows v) (sym same) may in
    record {
      bytes = ap (λ e. bytes_after v.config.opening.bytes (v.ends ++ e ∷ [])) end ∙ (bytes_after-append v.config.opening.bytes v.ends (Served (write_of y) y.closed ∷ []) ∙ mine);
      closed = ap (λ e. is_closed (v.ends ++ e ∷ [])) end ∙ (is_closed-append v.ends (Served (write_of y) y.closed ∷ []) ∙ (ap (λ b. b || (y.closed || false)) unclosed ∙ or-false y.closed));
      turns = ap (λ e. turns_left v.config.lease (v.ends ++ e ∷ [])) end ∙ (turns_left-served v.config.lease v.ends (write_of y) y.closed ∙ (ap decrement (sym left) ∙ sym back.turns));
      may_end = subst (MayEnd (is_closed v.ends) (is_last_turn v.config.lease v.ends)) (sym end) (unclosed, λ last. back.closed_is ∙ last_closes v.config.lease v.ends shut last);
      allowed = subst (λ e. AreAllowed allows (bytes_of v) (e ∷ [])) (sym end) (subst (allows (bytes_of v)) (sym mine) allowed, tt);
    }

-- a closed line that was granted is released as it is
pub carries_told : {O : Type 0} {holds_open : ℕ → ℕ → O → Type 0} {holds_closed : ℕ → View → O → Payload → Type 0} {token : ℕ} (allows : List ℕ → List ℕ → Type 0) (w : NodeGhost O) (y : Payload) → IsAtTurn holds_open holds_closed token w y → y.closed ≡ true → IsNextPayload allows w.view y
carries_told allows w y c closed =
    let end : own_end (is_closed w.view.ends) y ≡ Told = ap (λ b. own_end b y) (sym c.closed ∙ closed) in
    record {
      bytes = ap (λ e. bytes_after w.view.config.opening.bytes (w.view.ends ++ e ∷ [])) end ∙ (bytes_after-append w.view.config.opening.bytes w.view.ends (Told ∷ []) ∙ sym c.bytes);
      closed = ap (λ e. is_closed (w.view.ends ++ e ∷ [])) end ∙ (is_closed-append w.view.ends (Told ∷ []) ∙ (or-false (is_closed w.view.ends) ∙ sym c.closed));
      turns = ap (λ e. turns_left w.view.config.lease (w.view.ends ++ e ∷ [])) end ∙ (turns_left-same w.view.config.lease w.view.ends (Told ∷ []) refl ∙ sym c.turns);
      may_end = subst (MayEnd (is_closed w.view.ends) (is_last_turn w.view.config.lease w.view.ends)) (sym end) (sym c.closed ∙ closed);
      allowed = subst (λ e. AreAllowed allows (bytes_of w.view) (e ∷ [])) (sym end) tt;
    }

-- what was clear before a place is clear later
clear_goes : (v w : View) (place : ℕ) → place ≤ length v.order → place ≤ length v.ends → Extends v w → IsClearBefore v place → IsClearBefore w place
clear_goes v w place low ended more c = λ p r e next at end kept.
    let made = element_at v.order p (omega (arith, next, low)) in
    let was = element_at v.ends p (omega (arith, next, ended)) in
    let same : made.0 ≡ r = same_some (sym (prefix_get v.order w.order p made.0 more.order made.1) ∙ at) in
    let same_end : was.0 ≡ e = same_some (sym (prefix_get v.ends w.ends p was.0 more.ends was.1) ∙ end) in
    has_prefix v.clear w.clear r more.clear (c p r e next (made.1 ∙ ap Some same) (was.1 ∙ ap Some same_end) kept)

-- the node's port was told that the line is closed
pub told_by : {O : Type 0} {holds_open : ℕ → ℕ → O → Type 0} {holds_closed : ℕ → View → O → Payload → Type 0} {token : ℕ} (w t : NodeGhost O) (y : Payload) → IsAtTurn holds_open holds_closed token w y → y.closed ≡ true → Extends w.view t.view → EndsTurn w.view (own_end (is_closed w.view.ends) y) (state_after y.closed) t.view → IsTold t.view
told_by w t y c closed more l =
    let is : is_closed w.view.ends ≡ true = sym c.closed ∙ closed in
    record {
      before = w.view.ends;
      passed = l.passed;
      ends = l.ends ∙ ap (λ b. w.view.ends ++ own_end b y ∷ replicate l.passed Gone) is;
      at_turn = l.at_turn;
      closed = is;
      once = l.once;
      releases = subst (λ b. AfterRelease (length w.view.ends + 1) (state_after b) t.view) closed l.releases;
      clear_before = clear_goes w.view t.view (length w.view.ends) (omega (arith, slice_get_within w.view.order (length w.view.ends) (own w.view) c.turn)) (omega arith) more c.clear;
    }

-- an open line that was granted is in the port, and nothing is written to it
merged_fresh : (base : List ℕ) (z : LocalCopy) → length z.bytes.bytes ≡ 64 → z.mask.bits ≡ 0 → z.bytes.bytes ≡ base → written base (write_in z) ≡ z.bytes.bytes
merged_fresh base z line mask is = ap (λ m. merged base z.bytes.bytes m) mask ∙ merged-none base z.bytes.bytes (ap length (sym is) ∙ line) ∙ sym is

pub accepts : {O : Type 0} (q : PortPhases O) (nodes token : ℕ) (s t : LineSeat O) (y : Payload) (z : LocalCopy) → nodes_of q.initial s ≡ nodes → IsAtTurn q.holds_open q.holds_closed token (ghost_of q.initial s) y → t.me.0 ≡ s.me.0 → IsCopy z y → (y.closed ≡ false → q.slots_in_turn nodes token y.turns_left t.me.1) → z.closed ≡ false
    → IsHeld q t z token
accepts q nodes token s t y z many c same copied kept unclosed =
    let entry : ghost_of q.initial s ≡ ghost_of q.initial t = ap (single q.initial) (sym same) in
    let here : IsAtTurn q.holds_open q.holds_closed token (ghost_of q.initial t) y = subst (λ e. IsAtTurn q.holds_open q.holds_closed token e y) entry c in
    let base : z.bytes.bytes ≡ bytes_of (ghost_of q.initial t).view = ap (λ l. l.bytes) copied.bytes ∙ here.bytes in
    let unshut : is_closed (ghost_of q.initial t).view.ends ≡ false = sym here.closed ∙ (sym copied.closed ∙ unclosed) in (
      record {
        at = here.has.holds unshut;
        kept = subst (λ (n : ℕ). q.slots_in_turn n token z.turns_left t.me.1) (sym many ∙ ap (λ e. e.view.config.nodes) entry) (subst (λ left. q.slots_in_turn nodes token left t.me.1) (sym copied.turns) (kept (sym copied.closed ∙ unclosed)));
        merged = merged_fresh (bytes_of (ghost_of q.initial t).view) z (ap (λ l. length l.bytes) copied.bytes ∙ here.line) copied.no_mask base;
        is_open = unshut;
        turns = copied.turns ∙ here.turns;
        some_left = λ none. here.some_left unshut (sym copied.turns ∙ none);
      },
      here.state,
      record {
        state = here.state;
        at_turn = here.turn;
        unmarked = here.unmarked;
        is_open = unshut;
        no_mask = copied.no_mask;
        bytes = base;
        clear_before = here.clear;
      },
    )

-- the holder writes
pub holds_written : {O : Type 0} (q : PortPhases O) (s : LineSeat O) (y z : LocalCopy) (token mask : ℕ) (bytes : List ℕ) → Holds q s y token → z.bytes.bytes ≡ merged y.bytes.bytes bytes mask → z.mask.bits ≡ bit_or y.mask.bits mask → z.turns_left ≡ y.turns_left → Holds q s z token
holds_written q s y z token mask bytes h b k c = record {
  at = h.at;
  kept = subst (λ left. q.slots_in_turn (nodes_of q.initial s) token left s.me.1) (sym c) h.kept;
  merged = (λ i. merged (bytes_of (ghost_of q.initial s).view) (b i) (k i)) ∙ merged-twice (bytes_of (ghost_of q.initial s).view) y.bytes.bytes bytes y.mask.bits mask h.merged ∙ sym b;
  is_open = h.is_open;
  turns = c ∙ h.turns;
  some_left = λ none. h.some_left (sym c ∙ none);
}
