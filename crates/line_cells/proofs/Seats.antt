-- Lemmas about how seats are created, split, and joined. A seat is a node's access to the line's table.
use Rattle.std.proofs.Common.{◌≡◌, ℕ, ◌-◌, ◌<◌, List, [], ◌++◌, length, replicate, refl, ◌∙◌, arith, false}
use Rattle.atomic_table.specs.Table.{Splits, Joins, opening}
use Rattle.qolb_model.specs.Histories.{none}
use Rattle.qolb_model.specs.Opening.{MayOpen}
use Rattle.qolb_model.specs.Entries.{AreMembers, front, behind}
use Rattle.qolb_model.proofs.Leases.{turns_left-none}
use Rattle.qolb_model.proofs.Lists.{at_none}
use Rattle.qolb_model.proofs.Seats.{first_members, cut_members, blank_members, join_members}
use Rattle.line_generic.specs.NodeGhosts.{node_of, initial_node, initial_nodes}
use Rattle.line_generic.specs.declared.table.TableKey.{TableKey}
use Rattle.line_generic.specs.declared.table.Payload.{Payload}
use Rattle.line_cells.specs.Layout.{word_count, AreFirst, ticket_at, node_at, cells_in}
use Rattle.line_cells.specs.SlotLayout.{SlotLayout}
use Rattle.line_cells.proofs.Slots.{opened_slot, opened_count}
use Rattle.line_cells.specs.Array.{ArrayGhost, ArrayState, Cells, ArrayRule}
use Rattle.line_cells.specs.BetweenCalls.{initial}
use Rattle.line_cells.proofs.OneNode.{knows_whole, hand_none}

module _ (cells : Cells) (slot_layout : SlotLayout) (good : List ℕ → Type 0) (allows : List ℕ → List ℕ → Type 0) (key : TableKey) where
  abbrev Rule : ArrayState → Type 0
  Rule = ArrayRule cells slot_layout good allows key

  -- the same entries, in other seats
  reseated : (s : ArrayState) (r : Rule s) (views : List (List ArrayGhost)) (owner : ℕ → ℕ × ℕ) → AreMembers node_of key.config.nodes r.who owner views → Rule record { words = s.words; homes = s.homes; views = views }
  reseated s r views owner all = record {
    history = r.history;
    who = r.who;
    owner = owner;
    may_open = r.may_open;
    line = r.line;
    history_inv = r.history_inv;
    shown = r.shown;
    each = r.each;
    members = all;
  }

  -- the entries of a seat are cut behind the first
  pub cuts : (me : ℕ) (vs : List ArrayGhost) → Splits Rule me vs (front vs) (behind vs)
  cuts me vs s r at = reseated s r _ _ (cut_members node_of key.config.nodes r.who r.owner s.views r.members me vs at)

  -- a new seat with no entry
  pub blanks : (me : ℕ) (vs : List ArrayGhost) → Splits Rule me vs vs []
  blanks me vs s r at = reseated s r _ r.owner (blank_members node_of key.config.nodes r.who r.owner s.views r.members me vs at)

  -- the entries of two seats are put into one
  pub joins : (me other : ℕ) (vs ws : List ArrayGhost) → Joins Rule me vs other ws (vs ++ ws) []
  joins me other vs ws s r at apart there = reseated s r _ _ (join_members node_of key.config.nodes r.who r.owner s.views r.members me other vs ws at apart there)

  -- how many slots the table has
  pub slot_count : (s : ArrayState) → Rule s → length s.homes ≡ slot_layout.count
  slot_count s r = r.shown.deep

  -- a new table, whose cells say what they say of an empty history
  pub starts : (granted : ℕ) → (MayOpen key.config → key.config.nodes < slot_layout.cells) → slot_layout.home_slot 0 < slot_layout.count → ((words : List ℕ) → AreFirst slot_layout.cells granted words → cells 0 0 false (λ _. 0) (cells_in words)) → (words : List ℕ) (y : Payload) → MayOpen key.config → length key.config.opening.bytes ≡ 64 → good key.config.opening.bytes → length words ≡ word_count slot_layout.cells → AreFirst slot_layout.cells granted words
      → y.bytes.bytes ≡ key.config.opening.bytes → y.closed ≡ false → y.turns_left ≡ key.config.lease → Rule (opening words (replicate slot_layout.count y) (initial_nodes initial key))
  starts granted enough first_slot say words y may line history_inv wide first same unclosed left = record {
    history = record { order = []; ends = []; clear = []; holder = 0; cleared = false; marks = λ _. 0; releaser_of = λ _. 0; flags = λ _. 0 };
    who = initial_node initial key;
    owner = λ n. (0, n - 1);
    may_open = may;
    line = line;
    history_inv = record {
      legal = record { numbered = λ p q e. absurd (at_none p q e); ended = omega arith; closing = λ p e at. absurd (at_none p e at) };
      nodes = λ p q e. absurd (at_none p q e);
      kept = tt;
      sound = history_inv;
      within = omega arith;
      cleared = none;
      nobody = λ _. (refl, refl);
      settled = λ _ p q e _ at. absurd (at_none p q at);
      marked = λ p h. absurd (omega arith);
      gone = λ p e at. absurd (at_none p e at);
    };
    shown = record { more = enough may; wide = wide; deep = opened_count slot_layout.count y; ticket = first.1 ticket_at (let m = enough may in omega arith) (λ e. omega arith); said = say words first; flags = λ n a b. first.1 (node_at n) (let m = enough may in omega arith) (λ e. omega arith); home = λ _. (y, opened_slot slot_layout.count (slot_layout.home_slot 0) y first_slot, same, unclosed, left ∙ turns_left-none key.config.lease); spare = λ k few _. (y, opened_slot slot_layout.count k y few, record { turns = λ e. left ∙ turns_left-none key.config.lease ∙ e; is_open = λ _. unclosed }) };
    each = λ n a b. record {
      who = record { node = refl; label = refl; config = refl };
      knows = knows_whole [] [] [] n (initial_node initial key n).view refl refl refl refl (λ q h. absurd (cc h));
      last_request = record {
        asked = λ ne. absurd (ne refl);
        placed = λ z. absurd (omega arith);
        last_open = λ p q e. absurd (at_none p q e);
        idle = λ _ z. absurd (omega arith);
        queued = λ e. cc;
        holds_open = λ e. cc;
        freeing = λ e. cc;
        waits = λ e. cc;
      };
      holder = hand_none [] 0 false n (initial_node initial key n) refl (λ e. omega arith) (λ e. cc);
      passes = record { walking = λ e. cc; freeing = λ e. cc; passed = λ i p at. absurd (at_none i p at); once = λ i j p at. absurd (at_none i p at) };
      marks = record {
        unmarked = λ e. cc;
        unclear = λ e. cc;
        rolled = λ e. cc;
        known = λ p q e. absurd (at_none p q e);
        last = λ p q e. absurd (at_none p q e);
        all = λ q h. absurd (cc h);
      };
      flag = record { rolled = λ e. cc; not_rolled = λ _. refl };
      joins = record { known = λ p q e. absurd (at_none p q e); all = λ q h. absurd (cc h) };
    };
    members = first_members node_of key.config.nodes (initial_node initial key) (λ n. refl);
  }
