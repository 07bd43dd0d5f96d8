-- Lemmas about the states of nodes: which states a command changes, and which marks the picture shows after the
-- command.
use Rattle.std.proofs.Common.{◌≡◌, ◌≢◌, ◌⊎◌, inl, inr, ℕ, suc, zero, ◌+◌, ◌-◌, ◌<◌, ◌≤◌, ◌==◌, ◌&&◌, ◌||◌, not, Bool, true, false, cond, is_some, List, [], ◌∷◌, ◌++◌, length, map, drop, get_or, Option, Some, None, slice_get, remove, replicate, refl, sym, ap, ◌∙◌, subst, arith, append-nil, length-append}
use Rattle.std.specs.List.{find, range_with_len}
use Rattle.std.proofs.lemmas.Bool.{cases_eq}
use Rattle.std.proofs.lemmas.Bool.Decides.{nat_tests}
use Rattle.std.proofs.lemmas.List.{length-map, length-drop, length-replicate}
use Rattle.std.proofs.lemmas.Option.{same_Some}
use Rattle.std.proofs.lemmas.List.Folds.{list_any-append}
use Rattle.qolb_model.specs.declared.answer.PortState.TheVariants as port
use Rattle.qolb_model.specs.declared.answer.PortState.{PortState}
use Rattle.qolb_model.specs.declared.answer.Enq.TheVariants as enq
use Rattle.qolb_model.specs.declared.answer.Poll.{Poll}
use Rattle.qolb_model.specs.declared.answer.Poll.TheVariants as poll
use Rattle.qolb_model.specs.declared.end.End.TheVariants.{Served, Told}
use Rattle.qolb_model.specs.declared.request.Request.{Request}
use Rattle.qolb_model.specs.declared.waiter.Waiter.{Waiter}
use Rattle.qolb_model.specs.Ends.{is_closed}
use Rattle.qolb_model.specs.Histories.{open_of}
use Rattle.qolb_model.specs.Leases.{closes}
use Rattle.qolb_model.specs.PortStates.{may_ask}
use Rattle.qolb_model.specs.Requests.{has, last_of}
use Rattle.qolb_model.specs.Whole.{seen}
use Rattle.qolb_model.specs.OneOwner.{OwnerState, state_of, is_open, is_rolled, is_first, after_ask, after_poll, after_moves, after_release, after_write, mark_last, poll_answer, as_enq, out_answer, after_out}
use Rattle.qolb_model.specs.Plain.{PlainView, is_at, is_oldest, node_state, waiter_state, Agrees}
use Rattle.qolb_model.proofs.Agreed.{node_state-state_of}
use Rattle.qolb_model.proofs.Prefixes.{prefix_same, prefix_self}
use Rattle.qolb_model.proofs.Leaving.{Leaves, leaves_so, leaves_through, leaves_ask, leaves_grant, leaves_mark, leaves_write, leaves_end}
use Rattle.qolb_script.specs.declared.command.Command.{Command}
use Rattle.qolb_script.specs.declared.command.Command.TheVariants as command
use Rattle.qolb_script.specs.declared.reply_text.Said.TheVariants as said
use Rattle.qolb_script.specs.Commands.{node_of}
use Rattle.qolb_script.specs.Reply.{is_queued, is_holding, said_of, after_command}
use Rattle.qolb_draw.specs.declared.symbol.Symbol.{Symbol}
use Rattle.qolb_draw.specs.declared.symbol.Change.{Change}
use Rattle.qolb_draw.specs.Marks.{mark_of}
use Rattle.qolb_draw.specs.LineRuns.{waiting_nodes}
use Rattle.qolb_draw.specs.Following as following
use Rattle.qolb_draw.specs.Following.{has_asked, state_ended, is_among, is_shut, differs, Follows, HasStates, ArePassed, AreLookedAt, IsKept}
use Rattle.qolb_draw.specs.Grids.{column_by, column_out_of}
use Rattle.qolb_draw.proofs.Turns.{Grew, grew, asked_if, open_entry, waits_so, entries}

-- it is the holder's turn
held_first : (s : OwnerState) (n : ℕ) → is_holding (state_of s n) ≡ true → is_first s.queue n ≡ true
held_first s n e = by (is_open s.queue n) (has s.queue.marked (last_of n s.queue.order)) s.granted (is_first s.queue n) (is_closed s.queue.ends) e
  where
    by : (b k g f c : Bool) → is_holding (cond b (cond k port.Rolled (cond (g && f) port.Holding port.Queued)) (cond c port.Shut port.Idle)) ≡ true → f ≡ true
    by true true g f c e = absurd (let no : false ≡ true = e in cc no)
    by true false true true c e = refl
    by true false true false c e = absurd (let no : false ≡ true = e in cc no)
    by true false false f c e = absurd (let no : false ≡ true = e in cc no)
    by false k g f true e = absurd (let no : false ≡ true = e in cc no)
    by false k g f false e = absurd (let no : false ≡ true = e in cc no)

-- a poll does not change the states of other nodes
leaves_poll : (s : OwnerState) (n : ℕ) → Leaves n s (after_poll (poll_answer s n) s)
leaves_poll s n = by (is_first s.queue n) (is_closed s.queue.ends) refl
  where
    by : (b c : Bool) → is_first s.queue n ≡ b → Leaves n s (after_poll (cond b (cond c poll.Closed poll.Granted) poll.Waiting) s)
    by true true e = leaves_end n s Told e
    by true false e = leaves_grant n s e
    by false c e = leaves_so n s

-- what a command does not change about the other nodes
leaves_command : (s : OwnerState) (c : Command) → Leaves (node_of c) s (after_command s c)
leaves_command s (command.Enq n l) = by (may_ask (state_of s n)) (is_rolled s.queue n)
  where
    by : (may rolled : Bool) → Leaves n s (cond may (cond rolled s (after_poll (poll_answer (after_ask s n) n) (after_ask s n))) s)
    by false rolled = leaves_so n s
    by true true = leaves_so n s
    by true false = leaves_through n s (after_ask s n) (after_poll (poll_answer (after_ask s n) n) (after_ask s n)) (leaves_ask n s) (leaves_poll (after_ask s n) n)
leaves_command s (command.Poll n l) = by (is_queued (state_of s n))
  where
    by : (b : Bool) → Leaves n s (cond b (after_poll (poll_answer s n) s) s)
    by true = leaves_poll s n
    by false = leaves_so n s
leaves_command s (command.Show n l) = by (is_holding (state_of s n))
  where
    by : (b : Bool) → Leaves n s (cond b s s)
    by true = leaves_so n s
    by false = leaves_so n s
leaves_command s (command.Deq n l) = by (is_holding (state_of s n)) refl
  where
    by : (b : Bool) → is_holding (state_of s n) ≡ b → Leaves n s (cond b (after_release s false) s)
    by true e = leaves_end n s (Served s.turn (closes s.config.lease s.queue.ends false)) (held_first s n e)
    by false e = leaves_so n s
leaves_command s (command.Out n l) = by (is_queued (state_of s n)) (is_first s.queue n)
  where
    by : (b first : Bool) → Leaves n s (cond b (cond first (after_poll (poll_answer s n) s) (after_moves (mark_last s n) s)) s)
    by false first = leaves_so n s
    by true true = leaves_poll s n
    by true false = leaves_mark n s
leaves_command s (command.Shut n l) = by (is_holding (state_of s n)) refl
  where
    by : (b : Bool) → is_holding (state_of s n) ≡ b → Leaves n s (cond b (after_release s true) s)
    by true e = leaves_end n s (Served s.turn (closes s.config.lease s.queue.ends true)) (held_first s n e)
    by false e = leaves_so n s
leaves_command s (command.Write n l mask bytes) = by (is_holding (state_of s n)) refl
  where
    by : (b : Bool) → is_holding (state_of s n) ≡ b → Leaves n s (cond b (after_write s mask.0 bytes.bytes) s)
    by true e = leaves_write n s mask.0 bytes.bytes (held_first s n e)
    by false e = leaves_so n s

-- a node has the same state as before if it waits exactly if it waited before, the line is closed exactly if it was
-- closed before, and the node may make the same calls
same_open : (k h k' h' : Bool) → seen (cond k' port.Rolled (cond h' port.Holding port.Queued)) ≡ seen (cond k port.Rolled (cond h port.Holding port.Queued))
    → cond k' port.Rolled (cond h' port.Holding port.Queued) ≡ cond k port.Rolled (cond h port.Holding port.Queued)
same_open true h true h' e = refl
same_open true h false true e = absurd (let no : port.Holding ≡ port.Idle = e in cc no)
same_open true h false false e = absurd (let no : port.Queued ≡ port.Idle = e in cc no)
same_open false true true h' e = absurd (let no : port.Idle ≡ port.Holding = e in cc no)
same_open false true false true e = refl
same_open false true false false e = absurd (let no : port.Queued ≡ port.Holding = e in cc no)
same_open false false true h' e = absurd (let no : port.Idle ≡ port.Queued = e in cc no)
same_open false false false true e = absurd (let no : port.Holding ≡ port.Queued = e in cc no)
same_open false false false false e = refl

same_state : (old new : PlainView) (n : ℕ) (o o' : Option Waiter) → new.closed ≡ old.closed → is_some o' ≡ is_some o → seen (waiter_state new n o') ≡ seen (waiter_state old n o) → waiter_state new n o' ≡ waiter_state old n o
same_state old new n None None same waits e = ap (λ b. cond b port.Shut port.Idle) same
same_state old new n None (Some w) same waits e = absurd (let no : true ≡ false = waits in cc no)
same_state old new n (Some w) None same waits e = absurd (let no : false ≡ true = waits in cc no)
same_state old new n (Some w) (Some v) same waits e = same_open w.withdrawn (old.granted && is_oldest old n) v.withdrawn (new.granted && is_oldest new n) e

-- the state of a node other than the one that makes the command
state_kept : (old new : PlainView) (s t : OwnerState) (m n : ℕ) → Agrees old s → Agrees new t → Leaves m s t → n ≢ m → new.closed ≡ old.closed → is_among n (waiting_nodes t) ≡ is_among n (waiting_nodes s)
    → node_state new n ≡ node_state old n
state_kept old new s t m n a b leaves ne same among =
    let was = find (is_at n) old.waiting in
    let is = find (is_at n) new.waiting in
    same_state old new n was is same
    (sym (open_entry new n is) ∙ waits_so new n ∙ ap (is_among n) (sym (entries new t b)) ∙ among ∙ ap (is_among n) (entries old s a) ∙ sym (waits_so old n) ∙ open_entry old n was)
    (ap seen (node_state-state_of new t b n) ∙ leaves.states n ne ∙ sym (ap seen (node_state-state_of old s a n)))

-- if no request on a line ends, the line is closed exactly if it was closed before
closed_kept : (old new : PlainView) (s t : OwnerState) (m : ℕ) (asked : List Request) → Agrees old s → Agrees new t → Leaves m s t → Grew s.queue t.queue asked → length (waiting_nodes t) ≡ length (waiting_nodes s) + length asked
    → new.closed ≡ old.closed
closed_kept old new s t m asked a b leaves g long =
    let was : length (waiting_nodes s) ≡ length s.queue.order - length s.queue.ends = length-map (open_of s.queue.order s.queue.ends) (λ (r : Request). r.node) ∙ length-drop (length s.queue.ends) s.queue.order in
    let is : length (waiting_nodes t) ≡ length t.queue.order - length t.queue.ends = length-map (open_of t.queue.order t.queue.ends) (λ (r : Request). r.node) ∙ length-drop (length t.queue.ends) t.queue.order in
    let order : length t.queue.order ≡ length s.queue.order + length asked = ap length g.order_is ∙ length-append s.queue.order asked in
    let first : length s.queue.ends ≤ length s.queue.order = a.reached.legal.ended in
    let last : length t.queue.ends ≤ length t.queue.order = b.reached.legal.ended in
    let more : length t.queue.ends ≡ length s.queue.ends + g.more = g.ends_are in
    let same : s.queue.ends ≡ t.queue.ends = prefix_same s.queue.ends t.queue.ends t.queue.ends leaves.ends (prefix_self t.queue.ends) (omega arith) in
    b.closed ∙ ap is_closed (sym same) ∙ sym a.closed

-- a node that is in a list is also in the list with one more node
among_more : (b : Bool) (n m : ℕ) (xs : List ℕ) → n ≢ m → is_among n (xs ++ cond b (m ∷ []) []) ≡ is_among n xs
among_more false n m xs ne = ap (is_among n) (append-nil xs)
among_more true n m xs ne =
    let other : (m == n) ≡ false = grind (arith, nat_tests) in
    list_any-append (λ k. k == n) xs (m ∷ []) ∙ ap (λ b. is_among n xs || (b || false)) other ∙ or_false (is_among n xs)
  where
    or_false : (b : Bool) → (b || false) ≡ b
    or_false true = refl
    or_false false = refl

asked_long : (b : Bool) (n : ℕ) (s : OwnerState) (xs : List ℕ) → length (xs ++ cond b (n ∷ []) []) ≡ length xs + length (asked_if b n s)
asked_long true n s xs = length-append xs (n ∷ [])
asked_long false n s xs = length-append xs []

same_if : (was is : Bool) → differs was is ≡ false → is ≡ was
same_if true true h = refl
same_if true false h = absurd (let no : true ≡ false = h in cc no)
same_if false true h = absurd (let no : true ≡ false = h in cc no)
same_if false false h = refl

-- the recorded states of a line after a command
pub states_kept : (old new : PlainView) (s : OwnerState) (c : Command) (waiting pushed after : List ℕ) (states passed last : List PortState) (was closed : Bool) → Follows old waiting s → HasStates old states was → Follows new after (after_command s c) → new.nodes ≡ old.nodes
    → pushed ≡ waiting ++ cond (has_asked (said_of s c)) (node_of c ∷ []) [] → ArePassed new pushed after states passed → (closed ≡ new.closed) ⊎ ((closed ≡ was) × (after ≡ pushed)) → AreLookedAt new (node_of c) (differs was closed) passed last → HasStates new last closed
states_kept old new s c waiting pushed after states passed last was closed f r g nodes push passes answer looks =
    let b : Bool = has_asked (said_of s c) in
    let t : OwnerState = after_command s c in
    let leaves : Leaves (node_of c) s t = leaves_command s c in
    let pushed_is : pushed ≡ waiting_nodes s ++ cond b (node_of c ∷ []) [] = push ∙ ap (λ xs. xs ++ cond b (node_of c ∷ []) []) f.waiting_are in
    let size : length last ≡ length states = looks.size ∙ passes.size in
    let kept : closed ≡ was → new.closed ≡ old.closed = λ same. elim answer [
      | inl is ↦ sym is ∙ same ∙ r.closed_is
      | inr (so, none) ↦ closed_kept old new s t (node_of c) (asked_if b (node_of c) s) f.agrees g.agrees leaves (grew s c) (ap length (sym g.waiting_are ∙ none ∙ pushed_is) ∙ asked_long b (node_of c) s (waiting_nodes s))
    ] in
    let same : (n : ℕ) → n ≢ node_of c → new.closed ≡ old.closed → is_among n (waiting_nodes t) ≡ is_among n (waiting_nodes s ++ cond b (node_of c ∷ []) []) → node_state new n ≡ node_state old n =
    λ n ne closes among. state_kept old new s t (node_of c) n f.agrees g.agrees leaves ne closes (among ∙ among_more b n (node_of c) (waiting_nodes s) ne) in
    record {
      size = size ∙ r.size ∙ ap (λ n. n + 1) (sym nodes);
      are = λ n lt. elim (looks.states n (subst (λ k. n < k) looks.size lt)) [
        | inl is ↦ is
        | inr (left, ne, some) ↦ elim (passes.states n (subst (λ k. n < k) size lt)) [
          | inl is ↦ left ∙ is
          | inr (stays, among) ↦ left ∙ stays ∙ r.are n (subst (λ k. n < k) size lt) ∙ sym (same n ne (kept (same_if was closed some)) (ap (is_among n) (sym g.waiting_are) ∙ among ∙ ap (is_among n) pushed_is))
        ]
      ];
      closed_is = elim answer [
        | inl is ↦ is
        | inr (so, none) ↦ so ∙ r.closed_is ∙ sym (kept so)
      ];
    }

-- the states of the nodes of a newly opened line
idle : (n k : ℕ) → get_or (replicate n port.Idle) k port.Idle ≡ port.Idle
idle zero k = refl
idle (suc n) zero = refl
idle (suc n) (suc k) = idle n k

pub opened_states : (line : PlainView) (nodes : ℕ) (states : List PortState) (closed : Bool) → line.waiting ≡ [] → line.closed ≡ false → nodes ≡ line.nodes → states ≡ replicate (nodes + 1) port.Idle → closed ≡ false → HasStates line states closed
opened_states line nodes states closed none opens same is not_closed = record {
  size = ap length is ∙ length-replicate (nodes + 1) port.Idle ∙ ap (λ n. n + 1) same;
  are = λ n lt. ap (λ xs. get_or xs n port.Idle) is ∙ idle (nodes + 1) n ∙ sym (ap (λ ws. waiter_state line n (find (is_at n) ws)) none ∙ ap (λ b. cond b port.Shut port.Idle) opens);
  closed_is = not_closed ∙ sym opens;
}

-- the first of the nodes was passed
is_shut_closed : (line : PlainView) (n : ℕ) (o : Option Waiter) → following.is_open (waiter_state line n o) ≡ false → is_shut (waiter_state line n o) ≡ line.closed
is_shut_closed line n None e = by line.closed
  where
    by : (b : Bool) → is_shut (cond b port.Shut port.Idle) ≡ b
    by true = refl
    by false = refl
is_shut_closed line n (Some w) e = absurd (let no : true ≡ false = sym (open_entry line n (Some w)) ∙ e in cc no)

ended_so : (line : PlainView) (n : ℕ) (state : PortState) → state_ended line (Some n) ≡ Some state → (following.is_open (node_state line n) ≡ false) × (state ≡ node_state line n)
ended_so line n state h = by (following.is_open (node_state line n)) h
  where
    by : (b : Bool) → cond b None (Some (node_state line n)) ≡ Some state → (b ≡ false) × (state ≡ node_state line n)
    by true h = absurd (let no : None ≡ Some state = h in cc no)
    by false h = (refl, sym (same_Some (node_state line n) state h))

pub one_passed : (line : PlainView) (waited waiting left : List ℕ) (x : ℕ) (state : PortState) (old now new : List PortState) → state_ended line (slice_get waiting 0) ≡ Some state → x ≡ get_or waiting 0 x → left ≡ remove waiting 0
    → IsKept x state now new → ArePassed line waited waiting old now → ArePassed line waited left old new × (is_shut state ≡ line.closed) × (following.after_ended line left ≡ following.after_ended line waiting)
one_passed line waited [] left x state old now new ended is rest kept had = absurd (let no : None ≡ Some state = ended in cc no)
one_passed line waited (y ∷ ys) left x state old now new ended is rest kept had =
    let so = ended_so line y state ended in
    let gone_y : following.is_open (node_state line y) ≡ false = so.0 in
    let gone : following.is_open (node_state line x) ≡ false = ap (λ k. following.is_open (node_state line k)) is ∙ gone_y in
    let its : state ≡ node_state line x = so.1 ∙ ap (node_state line) (sym is) in (
      record {
        size = kept.size ∙ had.size;
        states = λ n lt. elim (cases_eq n x) [
          | inl here ↦ inl (kept.states n (subst (λ k. n < k) (sym had.size) lt) ∙ ap (λ b. cond b state (get_or now n port.Idle)) (let t : (n == x) ≡ true = grind (arith, nat_tests) in t) ∙ its ∙ ap (node_state line) (sym here))
          | inr other ↦
              let same : get_or new n port.Idle ≡ get_or now n port.Idle = kept.states n (subst (λ k. n < k) (sym had.size) lt) ∙ ap (λ b. cond b state (get_or now n port.Idle)) (let t : (n == x) ≡ false = grind (arith, nat_tests) in t) in
              elim (had.states n lt) [
                | inl looked ↦ inl (same ∙ looked)
                | inr (stays, among) ↦ inr (same ∙ stays, ap (is_among n) rest ∙ sym (ap (λ b. b || is_among n ys) (let t : (y == n) ≡ false = grind (arith, nat_tests) in t)) ∙ among)
              ]
        ];
      },
      ap is_shut its ∙ is_shut_closed line x (find (is_at x) line.waiting) gone,
      ap (following.after_ended line) rest ∙ sym (ap (λ b. cond b (y ∷ ys) (following.after_ended line ys)) gone_y),
    )

-- the marks after a command, made from the recorded states
marks_are : (line : PlainView) (change : Change) (states : List PortState) (a n : ℕ) → ((k : ℕ) → k < a + n → get_or states k port.Idle ≡ node_state line k)
    → map (λ k. mark_of change (get_or states k port.Idle) k) (range_with_len a n) ≡ map (λ k. mark_of change (node_state line k) k) (range_with_len a n)
marks_are line change states a zero are = refl
marks_are line change states a (suc n) are =
    ap (λ p. mark_of change p a ∷ map (λ k. mark_of change (get_or states k port.Idle) k) (range_with_len (a + 1) n)) (are a (omega arith))
    ∙ ap (λ ms. mark_of change (node_state line a) a ∷ ms) (marks_are line change states (a + 1) n (λ k lt. are k (omega (arith, lt))))

pub column_is_by : (line : PlainView) (change : Change) (states : List PortState) (closed : Bool) (nodes : ℕ) → HasStates line states closed → nodes ≡ line.nodes → column_by change states ≡ column_out_of line change nodes
column_is_by line change states closed nodes has same =
    let size : length states ≡ line.nodes + 1 = has.size in
    let long : length states - 1 ≡ nodes = omega arith in
    ap (λ n. map (λ k. mark_of change (get_or states k port.Idle) k) (range_with_len 1 n)) long ∙ marks_are line change states 1 nodes (λ k lt. has.are k (omega (arith, lt, size, same)))
