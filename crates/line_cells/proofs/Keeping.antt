-- Lemmas which show that an atomic step of one node preserves the invariant of the table.
use Rattle.std.proofs.Common.{◌≡◌, ◌≢◌, ℕ, ◌+◌, ◌<◌, ◌≤◌, List, [], ◌∷◌, length, drop, set, slice_index, Bool, sym, refl, ap, ◌∙◌, subst, arith, length-drop, length-set, get_or-set_same, get_or-set_other}
use mathlib.Core.Logic.{dite}
use mathlib.Core.Option.{some}
use native.Mathlib.Decide.{ℕ_discrete}
use lib.ListN.{get_elem?}
use Rattle.std.proofs.lemmas.Option.{slice_get_within}
use Rattle.qolb_model.specs.declared.request.Request.{Request}
use Rattle.qolb_model.specs.declared.config.LineConfig.{LineConfig}
use Rattle.qolb_model.specs.declared.end.End.{End}
use Rattle.qolb_model.specs.Ends.{is_closed, bytes_after}
use Rattle.qolb_model.specs.Leases.{turns_left}
use Rattle.qolb_model.specs.Requests.{count_of}
use Rattle.qolb_model.proofs.Lists.{at_drop}
use Rattle.qolb_model.proofs.Counts.{few_if_once, count_once}
use Rattle.qolb_model.proofs.Updates.{put, put_here, put_else}
use Rattle.qolb_model.proofs.Seats.{step_members}
use Rattle.line_generic.specs.NodeGhosts.{node_of}
use Rattle.line_cells.specs.Layout.{word_count, ticket_at, node_at, cell_at, cells_in}
use Rattle.line_generic.specs.declared.table.TableKey.{TableKey}
use Rattle.line_generic.specs.declared.table.Payload.{Payload}
use Rattle.line_cells.specs.SlotLayout.{SlotLayout, Homes, IsSpare}
use Rattle.line_cells.specs.Array.{ArrayGhost, ArrayState, At, Cells, History, NodeInv, HistoryInv, Represents, ArrayRule}

-- a change of a word that is no cell's changes no cell
pub cells_else : (words : List ℕ) (i z : ℕ) → ((c : ℕ) → cell_at c ≢ i) → cells_in (set words i z) ≡ cells_in words
cells_else words i z ne = λ j c. get_or-set_other words i (cell_at c) z 0 (ne c) j

-- a change of a cell's word changes that cell alone
pub cells_put : (count : ℕ) (words : List ℕ) (q z : ℕ) → length words ≡ word_count count → q < count → cells_in (set words (cell_at q) z) ≡ put (cells_in words) q z
cells_put count words q z wide small = λ j c. each c j
  where
    each : (c : ℕ) → slice_index (set words (cell_at q) z) (cell_at c) ≡ put (cells_in words) q z c
    each c = dite (ℕ_discrete c q)
        (λ e. ap (λ k. slice_index (set words (cell_at q) z) (cell_at k)) e ∙ get_or-set_same words (cell_at q) z 0 (omega arith) ∙ sym (ap (put (cells_in words) q z) e ∙ put_here (cells_in words) q z))
        (λ ne. get_or-set_other words (cell_at q) (cell_at c) z 0 (λ e. ne (omega arith)) ∙ sym (put_else (cells_in words) q z c ne))

module _ (cells : Cells) (slot_layout : SlotLayout) (good : List ℕ → Type 0) (allows : List ℕ → List ℕ → Type 0) (key : TableKey) where
  abbrev Rule : ArrayState → Type 0
  Rule = ArrayRule cells slot_layout good allows key

  -- the seat `me`, which has the entry v alone, gets w, and the history becomes x
  pub rule_step : (s : ArrayState) (r : Rule s) (me : ℕ) (v w : ArrayGhost) (x : History) (words : List ℕ) (homes : Homes) → get_elem? s.views me ≡ some (v ∷ []) → w.view.node ≡ v.view.node
      → HistoryInv good allows key x → Represents cells slot_layout good allows key x words homes → NodeInv key x v.view.node w
      → ((n : ℕ) → 0 < n → n ≤ key.config.nodes → n ≢ v.view.node → NodeInv key x n (r.who n))
      → Rule record { words = words; homes = homes; views = set s.views me (w ∷ []) }
  rule_step s r me v w x words homes at same history_inv shown mine others = record {
    history = x;
    who = put r.who v.view.node w;
    owner = r.owner;
    may_open = r.may_open;
    line = r.line;
    history_inv = history_inv;
    shown = shown;
    each = λ n a b. dite (ℕ_discrete n v.view.node)
        (λ e. subst (λ (z : ℕ × ArrayGhost). NodeInv key x z.0 z.1) (λ i. (sym e i, (sym (put_here r.who v.view.node w) ∙ ap (put r.who v.view.node w) (sym e)) i)) mine)
        (λ ne. subst (NodeInv key x n) (sym (put_else r.who v.view.node w n ne)) (others n a b ne));
    members = step_members node_of key.config.nodes r.who r.owner s.views r.members me v w at same;
  }

  -- the invariant's part for the seat's own entry
  pub mine_ok : (s : ArrayState) (r : Rule s) (me : ℕ) (v : ArrayGhost) → get_elem? s.views me ≡ some (v ∷ []) → NodeInv key r.history v.view.node v
  mine_ok s r me v at = let m = r.members me 0 (v ∷ []) v at refl in subst (NodeInv key r.history v.view.node) m.is (r.each v.view.node m.low m.high)

  pub mine_low : (s : ArrayState) (r : Rule s) (me : ℕ) (v : ArrayGhost) → get_elem? s.views me ≡ some (v ∷ []) → (0 < v.view.node) × (v.view.node ≤ key.config.nodes)
  mine_low s r me v at = let m = r.members me 0 (v ∷ []) v at refl in (m.low, m.high)

  -- no more requests are open than there are nodes
  pub window : (s : ArrayState) (r : Rule s) → length r.history.order ≤ length r.history.ends + key.config.nodes
  window s r = let few = few_if_once key.config.nodes (drop (length r.history.ends) r.history.order)
      (λ p q e. r.history_inv.nodes (length r.history.ends + p) q (at_drop (length r.history.ends) r.history.order p q e)) once in
      let d = length-drop (length r.history.ends) r.history.order in let i = r.history_inv.legal.ended in omega arith
    where
      place : (k : ℕ) → NodeInv key r.history k (r.who k) → (i : ℕ) (q : Request) → At (drop (length r.history.ends) r.history.order) i q → q.node ≡ k → length r.history.ends + i ≡ (r.who k).own.place
      place k ok i q at mine = (ok.last_request.last_open (length r.history.ends + i) q (at_drop (length r.history.ends) r.history.order i q at) mine (omega arith)).1

      once : (k : ℕ) → 0 < k → k ≤ key.config.nodes → count_of k (drop (length r.history.ends) r.history.order) ≤ 1
      once k a b = count_once k (drop (length r.history.ends) r.history.order) (λ i j q t at at' mine mine'. let ok = r.each k a b in let l = place k ok i q at mine in let m = place k ok j t at' mine' in omega arith)

  -- no more requests are open than a line with these terms has nodes
  pub few_open : (s : ArrayState) (r : Rule s) (config : LineConfig) → config ≡ key.config → length r.history.order ≤ length r.history.ends + config.nodes
  few_open s r config is = subst (λ (t : LineConfig). length r.history.order ≤ length r.history.ends + t.nodes) (sym is) (window s r)

  -- no request is marked far ahead
  pub blank : (s : ArrayState) (r : Rule s) → r.history.marks (length r.history.ends + slot_layout.cells) ≡ 0
  blank s r = dite (ℕ_discrete (r.history.marks (length r.history.ends + slot_layout.cells)) 0) (λ z. z)
      (λ ne. let k = r.history_inv.marked (length r.history.ends + slot_layout.cells) (omega arith) in let h = slice_get_within r.history.order (length r.history.ends + slot_layout.cells) k.0 k.1 in let w = window s r in let f = r.shown.more in absurd (omega arith))

  -- the word of a node changes
  pub flag_shown : (x : History) (clear : List Request) (words : List ℕ) (homes : Homes) (i n b : ℕ) → i ≡ node_at n → 0 < n → n ≤ key.config.nodes → Represents cells slot_layout good allows key x words homes → Represents cells slot_layout good allows key (record x { clear = clear; flags = put x.flags n b }) (set words i b) homes
  flag_shown x clear words homes i n b is low high h = record {
    more = h.more;
    wide = length-set words i b ∙ h.wide;
    deep = h.deep;
    ticket = get_or-set_other words i ticket_at b 0 (λ e. omega arith) ∙ h.ticket;
    said = subst (cells (length x.ends) x.holder x.cleared x.marks) (sym (cells_else words i b (λ c e. omega arith))) h.said;
    flags = λ k a c. dite (ℕ_discrete k n)
        (λ e. ap (λ q. slice_index (set words i b) q) (ap node_at e ∙ sym is) ∙ get_or-set_same words i b 0 (let w = h.wide in let m = h.more in omega arith) ∙ sym (ap (put x.flags n b) e ∙ put_here x.flags n b))
        (λ ne. get_or-set_other words i (node_at k) b 0 (λ q. ne (omega arith)) ∙ h.flags k a c ∙ sym (put_else x.flags n b k ne));
    home = h.home;
    spare = h.spare;
  }

  -- the word of a cell changes, and the history
  pub cell_shown : (x : History) (words : List ℕ) (homes homes' : Homes) (i c z : ℕ) → i ≡ cell_at c → c < slot_layout.cells → Represents cells slot_layout good allows key x words homes → length homes' ≡ length homes
      → (holder : ℕ) (cleared : Bool) (ends : List End) (clear : List Request) (marks releaser_of : ℕ → ℕ) → cells (length ends) holder cleared marks (put (cells_in words) c z)
      → (holder ≡ 0 → (y : Payload) × (get_elem? homes' (slot_layout.home_slot (length ends)) ≡ some (some y)) × (y.bytes.bytes ≡ bytes_after key.config.opening.bytes ends) × (y.closed ≡ is_closed ends) × (y.turns_left ≡ turns_left key.config.lease ends))
      → ((k : ℕ) → k < slot_layout.count → (holder ≢ 0 → slot_layout.is_out (length ends) k → ⊥) → IsSpare (turns_left key.config.lease ends) (is_closed ends) homes' k)
      → Represents cells slot_layout good allows key (record x { holder = holder; cleared = cleared; ends = ends; clear = clear; marks = marks; releaser_of = releaser_of }) (set words i z) homes'
  cell_shown x words homes homes' i c z is small h deep holder cleared ends clear marks releaser_of said home spare = record {
    more = h.more;
    wide = length-set words i z ∙ h.wide;
    deep = deep ∙ h.deep;
    ticket = get_or-set_other words i ticket_at z 0 (λ e. omega arith) ∙ h.ticket;
    said = subst (cells (length ends) holder cleared marks) (sym (ap (λ k. cells_in (set words k z)) is ∙ cells_put slot_layout.cells words c z h.wide small)) said;
    flags = λ n a b. get_or-set_other words i (node_at n) z 0 (λ e. omega arith) ∙ h.flags n a b;
    home = home;
    spare = spare;
  }
