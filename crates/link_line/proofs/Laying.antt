-- Lemmas which show that the words and the slot of the table still represent the state of the core after an atomic
-- step. The core is a state machine that models the link line.
use Rattle.std.proofs.Common.{◌≡◌, ◌≢◌, ℕ, ◌<◌, ◌≤◌, List, [], ◌∷◌, length, set, slice_index, sym, ap, ◌∙◌, subst, arith, length-set, get_or-set_same, get_or-set_other}
use mathlib.Core.Logic.{dite}
use mathlib.Core.Option.{some, none}
use native.Mathlib.Decide.{ℕ_discrete}
use lib.ListN.{get_elem?}
use Rattle.std.specs.Prelude.{slice_index_or}
use Rattle.qolb_model.specs.declared.config.TheConstants.{MAX_NODES}
use Rattle.link_core.specs.declared.state.State.{State as Core}
use Rattle.link_core.specs.declared.entry.Entry.{Entry}
use Rattle.link_core.specs.declared.place.Place.{Place}
use Rattle.link_core.specs.declared.place.Place.TheVariants.{Home, Mailbox, Hand}
use Rattle.link_core.specs.State.{empty, entry, IsNode}
use Rattle.link_line.specs.Ghost.{LinkGhost}
use Rattle.line_generic.specs.declared.table.TableKey.{TableKey}
use Rattle.link_line.specs.Layout.{home_at, entry_at, word_count, pack}
use Rattle.link_line.specs.Links.{History, NodeInv, HistoryInv, Represents, InSlot, Homes}
use Rattle.qolb_model.proofs.Updates.{put, put_here, put_else}
use Rattle.link_line.specs.Laws.Nodes.{St, Rule}
use Rattle.link_line.proofs.Lists.{members_step}

-- only the home word changes
pub home_laid : (c d : Core) (words : List ℕ) (homes homes2 : Homes) (w : ℕ) → Represents c words homes → w ≡ d.home → d.nodes ≡ c.nodes → d.entries ≡ c.entries → length homes2 ≡ 1 → InSlot d homes2 d.place → Represents d (set words home_at w) homes2
home_laid c d words homes homes2 w l e n f deep slot = record {
  wide = length-set words home_at w ∙ l.wide ∙ ap word_count (sym n);
  deep = deep;
  home = get_or-set_same words home_at w 0 (let k = l.wide in omega arith) ∙ e;
  entries = λ m a. get_or-set_other words home_at (entry_at m) w 0 (λ z. let p = a.0 in omega arith) ∙ l.entries m (a.0, subst (λ (q : ℕ). m ≤ q) n a.1) ∙ ap (λ (es : List Entry). pack (slice_index_or es m empty)) (sym f);
  slot = slot;
}

-- only the entry word of k changes
pub entry_laid : (c d : Core) (words : List ℕ) (homes homes2 : Homes) (k w : ℕ) (e : Entry) → Represents c words homes → IsNode c k → c.nodes ≤ MAX_NODES → k < length c.entries → w ≡ pack e → d.nodes ≡ c.nodes → d.home ≡ c.home → d.entries ≡ set c.entries k e → length homes2 ≡ 1 → InSlot d homes2 d.place → Represents d (set words (entry_at k) w) homes2
entry_laid c d words homes homes2 k w e l node few inside is n h changed deep slot = record {
  wide = length-set words (entry_at k) w ∙ l.wide ∙ ap word_count (sym n);
  deep = deep;
  home = get_or-set_other words (entry_at k) home_at w 0 (λ z. let p = node.0 in omega arith) ∙ l.home ∙ sym h;
  entries = λ m a. dite (ℕ_discrete m k)
      (λ same. ap (λ (q : ℕ). slice_index (set words (entry_at k) w) (entry_at q)) same ∙ get_or-set_same words (entry_at k) w 0 (let g = l.wide in let p = node.1 in omega arith) ∙ is ∙ ap pack (sym (own m same)))
      (λ ne. get_or-set_other words (entry_at k) (entry_at m) w 0 (λ z. ne (omega arith)) ∙ l.entries m (a.0, subst (λ (q : ℕ). m ≤ q) n a.1) ∙ ap pack (sym (other m ne)));
  slot = slot;
}
  where
    own : (m : ℕ) → m ≡ k → entry d m ≡ e
    own m same = ap (entry d) same ∙ ap (λ (es : List Entry). slice_index_or es k empty) changed ∙ get_or-set_same c.entries k e empty inside

    other : (m : ℕ) → m ≢ k → entry d m ≡ entry c m
    other m ne = ap (λ (es : List Entry). slice_index_or es m empty) changed ∙ get_or-set_other c.entries k m e empty ne

-- a word is read
pub same_laid : (c d : Core) (words : List ℕ) (homes homes2 : Homes) (k : ℕ) → Represents c words homes → IsNode c k → c.nodes ≤ MAX_NODES → d.nodes ≡ c.nodes → d.home ≡ c.home → d.entries ≡ c.entries → length homes2 ≡ 1 → InSlot d homes2 d.place → Represents d (set words (entry_at k) (slice_index words (entry_at k))) homes2
same_laid c d words homes homes2 k l node few n h same deep slot = record {
  wide = length-set words (entry_at k) _ ∙ l.wide ∙ ap word_count (sym n);
  deep = deep;
  home = get_or-set_other words (entry_at k) home_at _ 0 (λ z. let p = node.0 in omega arith) ∙ l.home ∙ sym h;
  entries = λ m a. dite (ℕ_discrete m k)
      (λ is. ap (λ (q : ℕ). slice_index (set words (entry_at k) (slice_index words (entry_at k))) (entry_at q)) is ∙ get_or-set_same words (entry_at k) (slice_index words (entry_at k)) 0 (let g = l.wide in let p = node.1 in omega arith) ∙ l.entries k node ∙ ap (λ (es : List Entry). pack (slice_index_or es k empty)) (sym same) ∙ ap (λ (q : ℕ). pack (entry d q)) (sym is))
      (λ ne. get_or-set_other words (entry_at k) (entry_at m) _ 0 (λ z. ne (omega arith)) ∙ l.entries m (a.0, subst (λ (q : ℕ). m ≤ q) n a.1) ∙ ap (λ (es : List Entry). pack (slice_index_or es m empty)) (sym same));
  slot = slot;
}

-- the slot is taken
pub deep_taken : (homes : Homes) → length homes ≡ 1 → length (set homes 0 none) ≡ 1
deep_taken homes e = length-set homes 0 none ∙ e

-- the line is in the slot if it is at home or in a mailbox
pub in_slot : (c d : Core) (homes : Homes) (p : Place) → d.bytes ≡ c.bytes → d.closed ≡ c.closed → d.left ≡ c.left → InSlot c homes p → InSlot d homes p
in_slot c d homes Home a b l s = record { line = s.line; at = s.at; bytes = s.bytes ∙ sym a; closed = s.closed ∙ sym b; turns = s.turns ∙ sym l }
in_slot c d homes (Mailbox q) a b l s = record { line = s.line; at = s.at; bytes = s.bytes ∙ sym a; closed = s.closed ∙ sym b; turns = s.turns ∙ sym l }
in_slot c d homes (Hand q) a b l s = tt

module _ (good : List ℕ → Type 0) (allows : List ℕ → List ℕ → Type 0) (key : TableKey) where
  -- the seat `me`, which has the view v alone, gets w, and the past becomes y
  pub rule_step : (s : St good allows key) (r : Rule good allows key s) (me : ℕ) (v w : LinkGhost) (y : History) (words : List ℕ) (homes : Homes) → get_elem? s.views me ≡ some (v ∷ []) → w.view.node ≡ v.view.node
      → HistoryInv allows key y → Represents y.core words homes → NodeInv key y v.view.node w
      → ((n : ℕ) (u : LinkGhost) → 0 < n → n ≤ key.config.nodes → n ≢ v.view.node → NodeInv key r.history n u → NodeInv key y n u)
      → Rule good allows key record { words = words; homes = homes; views = set s.views me (w ∷ []) }
  rule_step s r me v w y words homes at same history_inv laid mine others = record {
    history = y;
    who = put r.who v.view.node w;
    owner = r.owner;
    may_open = r.may_open;
    opened_good = r.opened_good;
    history_inv = history_inv;
    represents = laid;
    each = λ n a b. dite (ℕ_discrete n v.view.node)
        (λ e. subst (λ (z : ℕ × LinkGhost). NodeInv key y z.0 z.1) (λ i. (sym e i, (sym (put_here r.who v.view.node w) ∙ ap (put r.who v.view.node w) (sym e)) i)) mine)
        (λ ne. subst (NodeInv key y n) (sym (put_else r.who v.view.node w n ne)) (others n (r.who n) a b ne (r.each n a b)));
    members = members_step key.config.nodes r.who r.owner s.views me v w at same r.members;
  }
