-- Theorems about how seats are created when a line is opened, and how seats are split and joined.
use Rattle.std.proofs.Common.{◌≡◌, ℕ, ◌-◌, List, [], ◌∷◌, ◌++◌, length, false, inl, inr, sym, refl, ap, ◌∙◌, subst, arith}
use Rattle.std.proofs.lemmas.List.{length-replicate}
use Rattle.atomic_table.specs.Table.{Splits, Joins, opening}
use Rattle.qolb_model.specs.Histories.{none}
use Rattle.qolb_model.specs.Opening.{MayOpen}
use Rattle.qolb_model.specs.Queue.{empty_queue}
use Rattle.qolb_model.specs.Entries.{AreMembers, front, behind}
use Rattle.qolb_model.proofs.Lists.{at_none}
use Rattle.qolb_model.proofs.Seats.{first_members, cut_members, blank_members, join_members}
use Rattle.link_core.specs.declared.state.TheConstants.{PLACES}
use Rattle.link_core.specs.declared.seat.NodeCall.{NodeCall}
use Rattle.link_core.specs.State.{empty, unused, first}
use Rattle.link_core.proofs.Open.{seat_first, entry_first}
use Rattle.link_core.proofs.Steady.{first_shows}
use Rattle.link_line.specs.Ghost.{LinkGhost}
use Rattle.line_generic.specs.declared.table.TableKey.{TableKey}
use Rattle.line_generic.specs.declared.table.Payload.{Payload}
use Rattle.link_line.specs.BetweenCalls.{initial}
use Rattle.link_line.specs.Layout.{home_at, entry_at, word_count, pack, AreBlank}
use Rattle.line_generic.specs.NodeGhosts.{initial_node, initial_nodes, node_of}
use Rattle.link_line.specs.Links.{MayServe, LinkRule}
use Rattle.link_line.specs.Laws.Nodes.{St}

module _ (good : List ℕ → Type 0) (allows : List ℕ → List ℕ → Type 0) (key : TableKey) where
  abbrev pub Rule : St good allows key → Type 0
  Rule = LinkRule good allows key

  -- the table with equal views in other seats
  reseated : (s : St good allows key) (r : Rule s) (views : List (List LinkGhost)) (owner : ℕ → ℕ × ℕ) → AreMembers node_of key.config.nodes r.who owner views → Rule record { words = s.words; homes = s.homes; views = views }
  reseated s r views owner all = record {
    history = r.history;
    who = r.who;
    owner = owner;
    may_open = r.may_open;
    opened_good = r.opened_good;
    history_inv = r.history_inv;
    represents = r.represents;
    each = r.each;
    members = all;
  }

  -- the views of a seat are split behind the first
  pub cuts : (me : ℕ) (vs : List LinkGhost) → Splits Rule me vs (front vs) (behind vs)
  cuts me vs s r at = reseated s r _ _ (cut_members node_of key.config.nodes r.who r.owner s.views r.members me vs at)

  -- a new seat with no view
  pub blanks : (me : ℕ) (vs : List LinkGhost) → Splits Rule me vs vs []
  blanks me vs s r at = reseated s r _ r.owner (blank_members node_of key.config.nodes r.who r.owner s.views r.members me vs at)

  -- the views of two seats are joined
  pub joins : (me other : ℕ) (vs ws : List LinkGhost) → Joins Rule me vs other ws (vs ++ ws) []
  joins me other vs ws s r at apart there = reseated s r _ _ (join_members node_of key.config.nodes r.who r.owner s.views r.members me other vs ws at apart there)

  -- a table has one slot
  pub one_slot : (s : St good allows key) → Rule s → length s.homes ≡ 1
  one_slot s r = r.represents.deep

  -- a new table
  pub starts : (words : List ℕ) (y : Payload) → MayOpen key.config → length key.config.opening.bytes ≡ 64 → good key.config.opening.bytes → length words ≡ word_count key.config.nodes → AreBlank key.config.nodes words
      → y.bytes.bytes ≡ key.config.opening.bytes → y.closed ≡ false → y.turns_left ≡ key.config.lease → Rule (opening words (y ∷ []) (initial_nodes initial key))
  starts words y may long history_inv wide blank same unclosed left = record {
    history = record { core = first key.config; queue = empty_queue; joined = []; early = []; late = [] };
    who = initial_node initial key;
    owner = λ n. (0, n - 1);
    may_open = may;
    opened_good = history_inv;
    history_inv = record {
      entries = length-replicate PLACES empty;
      seats = length-replicate PLACES unused;
      shown = first_shows key.config long;
      cleared = none;
      kept = tt;
      lawful = λ n a s. absurd (let z = (subst MayServe (seat_first PLACES n) s).leaves in cc z);
      joined = λ r h. absurd (cc h);
      unjoined = λ n q a e. absurd (let z = sym (ap (λ (s : NodeCall). s.point) (seat_first PLACES n)) ∙ e in cc z);
      waiting = λ n a e. absurd (let z = sym (ap (λ (s : NodeCall). s.point) (seat_first PLACES n)) ∙ e in cc z);
      freed = λ r h. elim h [ inl a ↦ absurd (cc a) | inr b ↦ absurd (cc b) ];
    };
    represents = record {
      wide = wide;
      deep = refl;
      home = blank home_at (omega arith);
      entries = λ n a. blank (entry_at n) (let f = may.nodes.few in let l = a.1 in omega arith) ∙ ap pack (sym (entry_first PLACES n));
      slot = record { line = y; at = refl; bytes = λ i. record { bytes = same i }; closed = unclosed; turns = left };
    };
    each = λ n a b. record {
      who = record { node = refl; label = refl; config = refl };
      knows = record {
        orders = ([], refl);
        endings = ([], refl);
        clears = ([], refl);
        counts = refl;
        placed = λ p l. let k = l.known in absurd (omega arith);
        own_ends = λ p q e at. absurd (at_none p q at);
        own_marks = λ q of. refl;
        all_marked = λ q h. h;
      };
      joins = record {
        own_joined = λ q of h. h;
        all_joined = λ q h. h;
        all_freed = λ q h. absurd (cc h);
        joined_last = λ p q next at. absurd (at_none p q at);
        freed_last = λ q h. absurd (cc h);
      };
      stands = record { seat = sym (seat_first PLACES n); state = refl; holds = λ z. absurd (cc z); unwritten = λ z. absurd (cc z); carries = λ z. absurd (cc z); left = λ z. absurd (cc z) };
      passes = record {
        places = refl;
        last = λ i p at. absurd (at_none i p at);
        known = λ i p at. absurd (at_none i p at);
        within = λ i p at. absurd (at_none i p at);
        ended = λ _ i p at. absurd (at_none i p at);
      };
    };
    members = first_members node_of key.config.nodes (initial_node initial key) (λ n. refl);
  }
