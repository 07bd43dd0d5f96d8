-- Lemmas about the part of `finish` that joins the seats of all ports into one. A seat is a port's access to the line's
-- table.
use Rattle.std.proofs.Common.{Option, Some, slice_get, ◌≡◌, ℕ, suc, List, [], ◌∷◌, ◌++◌, length, map, true, false, sym, ap, ◌∙◌, subst, ⊎_elim, arith, append_assoc, append-nil}
use Rattle.std.specs.List.{All}
use Rattle.std.proofs.lemmas.List.{map-append}
use Rattle.atomic_table.specs.Seated.{TableId}
use Rattle.qolb_model.specs.declared.view.View.{View}
use Rattle.qolb_model.specs.PortStates.{may_ask}
use Rattle.qolb_model.proofs.Lists.{at_either, at_one}
use Rattle.qolb_model.specs.declared.answer.PortState.{PortState}
use Rattle.qolb_model.specs.declared.answer.PortState.TheVariants as port_state
use Rattle.line_generic.specs.declared.table.LocalCopy.{LocalCopy}
use Rattle.line_generic.specs.declared.table.NodeGhost.{NodeGhost}
use Rattle.line_generic.specs.NodeGhosts.{LineSeat, AtRest, views_of}
use Rattle.line_generic.specs.PortPhases.{PortPhases}
use Rattle.line_generic.specs.Steps.{ghost_of, nodes_of}
use Rattle.line_generic.specs.Ports.{PortModel, port_model, IsPort}
use Rattle.line_generic.specs.Finish.{HasJoinedSome, IsGathered}

-- what the ports know
abbrev pub views : List PortModel → List View
views ports = map (λ (p : PortModel). p.view) ports

-- a port that may make a request does not hold the line
quiet_holds : (state : PortState) → may_ask state ≡ true → state ≡ port_state.Holding → ⊥
quiet_holds state quiet is = let e : may_ask state ≡ false = ap may_ask is in absurd (cc (quiet, e))

-- the first of the remaining ports is quiet
pub head_quiet : {O : Type 0} {in_state : ℕ → PortState → ℕ → O → Type 0} (table_id : TableId) (ports left rest : List PortModel) (whole : LineSeat O) (p : PortModel) → left ≡ p ∷ rest → HasJoinedSome in_state table_id ports left whole → may_ask p.view.state ≡ true
head_quiet table_id ports left rest whole p e h = subst (All (λ (q : PortModel). may_ask q.view.state ≡ true)) e h.quiet 0 p (omega arith)

-- what holds of each holds of the first, and of the others
pub all_first : {A : Type 0} (P : A → Type 0) (x : A) (xs : List A) → All P (x ∷ xs) → P x
all_first P x xs h = h 0 x (omega arith)

pub all_rest : {A : Type 0} (P : A → Type 0) (x : A) (xs : List A) → All P (x ∷ xs) → All P xs
all_rest P x xs h = λ k d l. h (suc k) d (omega arith)

-- the entries of one seat
module _ {O : Type 0} (q : PortPhases O) (label node : ℕ) (s : LineSeat O) (y : LocalCopy) (token steps poll_count : ℕ) {went_to : Option ℕ} (state : PortState) (p : PortModel) (is : port_model q.initial s y steps poll_count token went_to ≡ p) (ok : IsPort q label node s y token state) (quiet : may_ask p.view.state ≡ true) where
  same_view : (ghost_of q.initial s).view ≡ p.view
  same_view = ap (λ (o : PortModel). o.view) is

  own_state : may_ask state ≡ true
  own_state = ap may_ask (sym ok.shows_state) ∙ (ap (λ (v : View). may_ask v.state) same_view ∙ quiet)

  stands : q.in_state (nodes_of q.initial s) state token (ghost_of q.initial s).own × (s.me.1 ≡ [])
  stands = ok.rests_so (λ h. quiet_holds state own_state h)

  pub none_carried : s.me.1 ≡ []
  none_carried = stands.1

  only_at_rest : (i : ℕ) (e : NodeGhost O) → slice_get s.me.0 i ≡ Some e → AtRest q.in_state e
  only_at_rest i e at = subst (λ (x : NodeGhost O). AtRest q.in_state x) (at_one (ghost_of q.initial s) e i (subst (λ es. slice_get es i ≡ Some e) ok.of_one_node at)) (state, token, own_state, stands.0)

  -- the first seat
  pub gathers_first : (table_id : TableId) (rest : List PortModel) → All (λ (o : PortModel). o.table ≡ table_id) (p ∷ rest) → All (λ (o : PortModel). may_ask o.view.state ≡ true) (p ∷ rest)
      → HasJoinedSome q.in_state table_id (p ∷ rest) rest s
  gathers_first table_id rest tables quiets = record {
    table = ap (λ (o : PortModel). o.table) is ∙ all_first (λ (o : PortModel). o.table ≡ table_id) p rest tables;
    views = ap (λ es. map (λ (e : NodeGhost O). e.view) es ++ views rest) ok.of_one_node ∙ ap (λ v. v ∷ views rest) same_view;
    at_rest = only_at_rest;
    tables = all_rest (λ (o : PortModel). o.table ≡ table_id) p rest tables;
    quiet = all_rest (λ (o : PortModel). may_ask o.view.state ≡ true) p rest quiets;
  }

  -- the same for a list of ports with this one at its head
  pub gathers_head : (table_id : TableId) (ports rest : List PortModel) → ports ≡ p ∷ rest → All (λ (o : PortModel). o.table ≡ table_id) ports → All (λ (o : PortModel). may_ask o.view.state ≡ true) ports → HasJoinedSome q.in_state table_id ports rest s
  gathers_head table_id ports rest e tables quiets = subst (λ ps. HasJoinedSome q.in_state table_id ps rest s) (sym e)
      (gathers_first table_id rest (subst (All (λ (o : PortModel). o.table ≡ table_id)) e tables) (subst (All (λ (o : PortModel). may_ask o.view.state ≡ true)) e quiets))

  -- the seat is of the same table
  pub head_table : (table_id : TableId) (ports rest : List PortModel) (whole : LineSeat O) (left : List PortModel) → left ≡ p ∷ rest → HasJoinedSome q.in_state table_id ports left whole → s.table_id ≡ table_id
  head_table table_id ports rest whole left e h = ap (λ (o : PortModel). o.table) is ∙ all_first (λ (o : PortModel). o.table ≡ table_id) p rest (subst (All (λ (o : PortModel). o.table ≡ table_id)) e h.tables)

  -- one more seat
  pub gathers_more : (table_id : TableId) (ports rest : List PortModel) (old new : LineSeat O) → HasJoinedSome q.in_state table_id ports (p ∷ rest) old → new.table_id ≡ old.table_id → new.me ≡ (old.me.0 ++ s.me.0, old.me.1) → HasJoinedSome q.in_state table_id ports rest new
  gathers_more table_id ports rest old new h t m = record {
    table = t ∙ h.table;
    views =
        ap (λ z. map (λ (e : NodeGhost O). e.view) z.0 ++ views rest) m ∙ ap (λ vs. vs ++ views rest) (map-append (λ (e : NodeGhost O). e.view) old.me.0 s.me.0)
        ∙ append_assoc (map (λ (e : NodeGhost O). e.view) old.me.0) (map (λ (e : NodeGhost O). e.view) s.me.0) (views rest)
        ∙ ap (λ es. map (λ (e : NodeGhost O). e.view) old.me.0 ++ (map (λ (e : NodeGhost O). e.view) es ++ views rest)) ok.of_one_node
        ∙ ap (λ v. map (λ (e : NodeGhost O). e.view) old.me.0 ++ (v ∷ views rest)) same_view
        ∙ h.views;
    at_rest = λ i e at. ⊎_elim (λ z. h.at_rest i e z) (λ z. only_at_rest z.0 e z.2) (at_either old.me.0 s.me.0 i e (subst (λ z. slice_get z.0 i ≡ Some e) m at));
    tables = all_rest (λ (o : PortModel). o.table ≡ table_id) p rest h.tables;
    quiet = all_rest (λ (o : PortModel). may_ask o.view.state ≡ true) p rest h.quiet;
  }

-- the first seat, as the iterator over the ports gives it
pub gathers_start : {O : Type 0} (q : PortPhases O) (label node : ℕ) (s : LineSeat O) (y : LocalCopy) (token steps poll_count : ℕ) {went_to : Option ℕ} (state : PortState) (p : PortModel) → port_model q.initial s y steps poll_count token went_to ≡ p → IsPort q label node s y token state → (table_id : TableId) (ports items rest left : List PortModel) → items ≡ ports → items ≡ p ∷ rest → left ≡ rest
    → All (λ (o : PortModel). o.table ≡ table_id) ports → All (λ (o : PortModel). may_ask o.view.state ≡ true) ports → HasJoinedSome q.in_state table_id ports left s
gathers_start q label node s y token steps poll_count state p is ok table_id ports items rest left a b c tables quiets =
    let e : ports ≡ p ∷ rest = sym a ∙ b in
    subst (λ l. HasJoinedSome q.in_state table_id ports l s) (sym c)
    (gathers_head q label node s y token steps poll_count state p is ok (all_first (λ (o : PortModel). may_ask o.view.state ≡ true) p rest (subst (All (λ (o : PortModel). may_ask o.view.state ≡ true)) e quiets)) table_id ports rest e tables quiets)

-- no port remains
pub gathered : {O : Type 0} {in_state : ℕ → PortState → ℕ → O → Type 0} (table_id : TableId) (ports left : List PortModel) (n : ℕ) (whole : LineSeat O) → n ≡ length left → n ≡ 0 → HasJoinedSome in_state table_id ports left whole → IsGathered in_state table_id ports whole
gathered table_id ports [] n whole is none h = record { table = h.table; views = sym (append-nil (views_of whole.me.0)) ∙ h.views; at_rest = h.at_rest }
gathered table_id ports (p ∷ left) n whole is none h = absurd (omega arith)
