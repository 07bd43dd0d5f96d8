-- Lemmas about how a command changes the list of nodes with open requests, and about which node's turn it is. The list
-- and the turn both follow from the states of the nodes.
use Rattle.std.proofs.Common.{◌≡◌, ℕ, zero, suc, ◌+◌, ◌≤◌, ◌==◌, ◌&&◌, ◌||◌, Bool, true, false, cond, is_some, take_while, List, [], ◌∷◌, ◌++◌, length, map, drop, Option, Some, None, slice_get, refl, sym, ap, ◌∙◌, subst, arith, append-nil, length-append}
use Rattle.std.specs.List.{list_any, find}
use Rattle.std.proofs.lemmas.List.{drop-append-le, drop-drop, drop-map, map-append}
use Rattle.std.proofs.lemmas.Simd.{map-map}
use Rattle.std.proofs.lemmas.List.Folds.{list_any-append}
use Rattle.std.proofs.lemmas.Bool.Decides.{nat_tests}
use Rattle.qolb_model.specs.declared.answer.PortState.TheVariants as port
use Rattle.qolb_model.specs.declared.answer.Enq.{Enq}
use Rattle.qolb_model.specs.declared.answer.Enq.TheVariants as enq
use Rattle.qolb_model.specs.declared.answer.Poll.{Poll}
use Rattle.qolb_model.specs.declared.answer.Poll.TheVariants as poll
use Rattle.qolb_model.specs.declared.end.End.{End}
use Rattle.qolb_model.specs.declared.end.End.TheVariants.{Served, Gone, Told}
use Rattle.qolb_model.specs.declared.request.Request.{Request}
use Rattle.qolb_model.specs.declared.waiter.Waiter.{Waiter}
use Rattle.qolb_model.specs.Requests.{has, last_of, next_of}
use Rattle.qolb_model.specs.Histories.{open_of}
use Rattle.qolb_model.specs.Queue.{Queue, finish, moved}
use Rattle.qolb_model.specs.Leases.{closes}
use Rattle.qolb_model.specs.PortStates.{may_ask}
use Rattle.qolb_model.specs.OneOwner.{OwnerState, state_of, is_open, is_rolled, is_first, moved_by, ends_with, shown, after_ask, after_poll, after_moves, after_release, after_write, mark_last, poll_answer, out_answer, as_enq}
use Rattle.qolb_model.specs.Plain as plain
use Rattle.qolb_model.specs.Plain.{PlainView, is_at, node_state, waiter_state, waiter_of, Agrees, IsReached}
use Rattle.qolb_model.proofs.Waiting.{entry_says}
use Rattle.qolb_model.proofs.Lists.{place_of, at_drop}
use Rattle.qolb_model.proofs.Histories.{same_place_legal}
use Rattle.qolb_model.proofs.Agreed.{waits-is_open, node_state-state_of, when_rolled}
use Rattle.qolb_script.specs.declared.command.Command.{Command}
use Rattle.qolb_script.specs.declared.command.Command.TheVariants as command
use Rattle.qolb_script.specs.declared.reply_text.Said.{Said}
use Rattle.qolb_script.specs.declared.reply_text.Said.TheVariants as said
use Rattle.qolb_script.specs.Commands.{node_of}
use Rattle.qolb_script.specs.Reply.{is_queued, is_holding, said_of, after_command}
use Rattle.qolb_draw.specs.declared.symbol.Change.{Change}
use Rattle.qolb_draw.specs.LineRuns.{waiting_nodes}
use Rattle.qolb_draw.specs.Following as following
use Rattle.qolb_draw.specs.Following.{has_asked, after_ended, Follows}
use Rattle.qolb_draw.proofs.Bars.{or_none}

-- these requests were made, and some further requests have ended
pub record Grew (old new : Queue) (asked : List Request) : Type 0 where
  pub order_is : new.order ≡ old.order ++ asked
  pub more : ℕ
  pub ends_are : length new.ends ≡ length old.ends + more

same_queue : (q : Queue) → Grew q q []
same_queue q = record { order_is = sym (append-nil q.order); more = 0; ends_are = omega arith }

-- passing a request and ending a request make no new request
passes : (q : Queue) (xs : List Request) → Grew q (moved_by q (map (λ (_ : Request). finish Gone) xs)) []
passes q [] = record { order_is = sym (append-nil q.order); more = 0; ends_are = omega arith }
passes q (x ∷ xs) =
    let rest = passes (moved q (finish Gone)) xs in
    record { order_is = rest.order_is; more = rest.more + 1; ends_are = rest.ends_are ∙ ap (λ n. n + rest.more) (length-append q.ends (Gone ∷ [])) ∙ omega arith }

ends : (q : Queue) (e : End) → Grew q (moved_by q (ends_with e q)) []
ends q e =
    let rest = passes (moved q (finish e)) (take_while (has q.marked) (drop (length q.ends + 1) q.order)) in
    record { order_is = rest.order_is; more = rest.more + 1; ends_are = rest.ends_are ∙ ap (λ n. n + rest.more) (length-append q.ends (e ∷ [])) ∙ omega arith }

then_ends : (q now new : Queue) (asked : List Request) → Grew q now asked → length now.ends ≡ length q.ends → Grew now new [] → Grew q new asked
then_ends q now new asked g same h = record { order_is = h.order_is ∙ append-nil now.order ∙ g.order_is; more = h.more; ends_are = h.ends_are ∙ ap (λ n. n + h.more) same }

polled : (s : OwnerState) (p : Poll) → Grew s.queue (after_poll p s).queue []
polled s poll.Granted = same_queue s.queue
polled s poll.Waiting = same_queue s.queue
polled s poll.Closed = ends s.queue Told

-- the request that a node with this answer has made
abbrev pub asked_if : Bool → ℕ → OwnerState → List Request
asked_if b n s = cond b (next_of n s.queue.order ∷ []) []

asks : (s : OwnerState) (n : ℕ) (p : Poll) → Grew s.queue (after_poll p (after_ask s n)).queue (asked_if (has_asked (said.Enq (as_enq p))) n s)
asks s n poll.Granted = record { order_is = refl; more = 0; ends_are = omega arith }
asks s n poll.Waiting = record { order_is = refl; more = 0; ends_are = omega arith }
asks s n poll.Closed = then_ends s.queue (after_ask s n).queue _ (next_of n s.queue.order ∷ []) (record { order_is = refl; more = 0; ends_are = omega arith }) refl (ends (after_ask s n).queue Told)

-- what each command does
pub grew : (s : OwnerState) (c : Command) → Grew s.queue (after_command s c).queue (asked_if (has_asked (said_of s c)) (node_of c) s)
grew s (command.Enq n l) = by (may_ask (state_of s n)) (is_rolled s.queue n)
  where
    by : (may rolled : Bool) → Grew s.queue (cond may (cond rolled s (after_poll (poll_answer (after_ask s n) n) (after_ask s n))) s).queue
        (asked_if (has_asked (cond may (said.Enq (cond rolled enq.Busy (as_enq (poll_answer (after_ask s n) n)))) said.Misuse)) n s)
    by false rolled = same_queue s.queue
    by true true = same_queue s.queue
    by true false = asks s n (poll_answer (after_ask s n) n)
grew s (command.Poll n l) = by (is_queued (state_of s n))
  where
    by : (b : Bool) → Grew s.queue (cond b (after_poll (poll_answer s n) s) s).queue (asked_if (has_asked (cond b (said.Poll (poll_answer s n)) said.Misuse)) n s)
    by true = polled s (poll_answer s n)
    by false = same_queue s.queue
grew s (command.Show n l) = by (is_holding (state_of s n))
  where
    by : (b : Bool) → Grew s.queue (cond b s s).queue (asked_if (has_asked (cond b (said.Bytes (record { bytes = shown s })) said.Misuse)) n s)
    by true = same_queue s.queue
    by false = same_queue s.queue
grew s (command.Deq n l) = by (is_holding (state_of s n))
  where
    by : (b : Bool) → Grew s.queue (cond b (after_release s false) s).queue (asked_if (has_asked (cond b said.Released said.Misuse)) n s)
    by true = ends s.queue (Served s.turn (closes s.config.lease s.queue.ends false))
    by false = same_queue s.queue
grew s (command.Out n l) = by (is_queued (state_of s n)) (is_first s.queue n)
  where
    by : (b first : Bool) → Grew s.queue (cond b (cond first (after_poll (poll_answer s n) s) (after_moves (mark_last s n) s)) s).queue (asked_if (has_asked (cond b (said.Out (out_answer s n)) said.Misuse)) n s)
    by false first = same_queue s.queue
    by true true = polled s (poll_answer s n)
    by true false = record { order_is = sym (append-nil s.queue.order); more = 0; ends_are = omega arith }
grew s (command.Shut n l) = by (is_holding (state_of s n))
  where
    by : (b : Bool) → Grew s.queue (cond b (after_release s true) s).queue (asked_if (has_asked (cond b said.Shut said.Misuse)) n s)
    by true = ends s.queue (Served s.turn (closes s.config.lease s.queue.ends true))
    by false = same_queue s.queue
grew s (command.Write n l mask bytes) = by (is_holding (state_of s n))
  where
    by : (b : Bool) → Grew s.queue (cond b (after_write s mask.0 bytes.bytes) s).queue (asked_if (has_asked (cond b said.Written said.Misuse)) n s)
    by true = same_queue s.queue
    by false = same_queue s.queue

-- the nodes of the open requests after a command
nodes_after : (s t : OwnerState) (asked : List Request) (g : Grew s.queue t.queue asked) → length s.queue.ends ≤ length s.queue.order
    → waiting_nodes t ≡ drop g.more (waiting_nodes s ++ map (λ r. r.node) asked)
nodes_after s t asked g le =
    ap (map (λ (r : Request). r.node))
    (ap (λ n. drop n t.queue.order) g.ends_are ∙ ap (drop (length s.queue.ends + g.more)) g.order_is
    ∙ sym (drop-drop g.more (length s.queue.ends) (s.queue.order ++ asked)) ∙ ap (drop g.more) (drop-append-le (length s.queue.ends) s.queue.order asked le))
    ∙ sym (drop-map (λ (r : Request). r.node) g.more (open_of s.queue.order s.queue.ends ++ asked))
    ∙ ap (drop g.more) (map-append (λ (r : Request). r.node) (open_of s.queue.order s.queue.ends) asked)

pub asked_nodes : (b : Bool) (n : ℕ) (s : OwnerState) → map (λ r. r.node) (asked_if b n s) ≡ cond b (n ∷ []) []
asked_nodes true n s = refl
asked_nodes false n s = refl

-- numbers of which none occurs twice
abbrev pub AreDistinct : List ℕ → Type 0
AreDistinct [] = Unit {0}
AreDistinct (n ∷ rest) = (list_any (λ m. m == n) rest ≡ false) × AreDistinct rest

any_map : (p : ℕ → Bool) (ws : List Waiter) → list_any p (map (λ w. w.node) ws) ≡ list_any (λ w. p w.node) ws
any_map p [] = refl
any_map p (w ∷ ws) = ap (λ b. p w.node || b) (any_map p ws)

any_drop : (p : ℕ → Bool) (j : ℕ) (xs : List ℕ) → list_any p xs ≡ false → list_any p (drop j xs) ≡ false
any_drop p zero xs h = h
any_drop p (suc j) [] h = refl
any_drop p (suc j) (x ∷ xs) h = any_drop p j xs (or_none (p x) (list_any p xs) h).1

any_request : (p : ℕ → Bool) (rs : List Request) → list_any p (map (λ r. r.node) rs) ≡ list_any (λ r. p r.node) rs
any_request p [] = refl
any_request p (r ∷ rs) = ap (λ b. p r.node || b) (any_request p rs)

same_number : (m n : ℕ) → (m == n) ≡ true → m ≡ n
same_number m n h = grind (arith, nat_tests)

-- no two of these requests belong to the same node
abbrev OneEach : List Request → Type 0
OneEach rs = (i j : ℕ) (r t : Request) → slice_get rs i ≡ Some r → slice_get rs j ≡ Some t → r.node ≡ t.node → i ≡ j

distinct_requests : (rs : List Request) → OneEach rs → AreDistinct (map (λ r. r.node) rs)
distinct_requests [] once = tt
distinct_requests (r ∷ rs) once =
    (any_request (λ m. m == r.node) rs ∙ by (list_any (λ t. t.node == r.node) rs) refl, distinct_requests rs (λ i j t u a b e. let next : suc i ≡ suc j = once (suc i) (suc j) t u a b e in omega arith))
  where
    by : (b : Bool) → list_any (λ t. t.node == r.node) rs ≡ b → b ≡ false
    by false e = refl
    by true e =
        let found = place_of (λ t. t.node == r.node) rs e in
        let same : 0 ≡ suc found.0 = once 0 (suc found.0) r found.1 refl found.2 (sym (same_number found.1.node r.node found.3)) in absurd (omega arith)

one_each : (s : OwnerState) → IsReached s → OneEach (open_of s.queue.order s.queue.ends)
one_each s reached i j r t at_i at_j same =
    let here = at_drop (length s.queue.ends) s.queue.order i r at_i in
    let there = at_drop (length s.queue.ends) s.queue.order j t at_j in
    let is : t ≡ r = reached.last_open (length s.queue.ends + j) t (omega arith) there ∙ ap (λ n. last_of n s.queue.order) (sym same) ∙ sym (reached.last_open (length s.queue.ends + i) r (omega arith) here) in
    let one : length s.queue.ends + i ≡ length s.queue.ends + j = same_place_legal s.config.lease s.queue.order s.queue.ends reached.legal (length s.queue.ends + i) (length s.queue.ends + j) r here (there ∙ ap Some is) in
    omega arith

turned : (m n : ℕ) → (m == n) ≡ false → (n == m) ≡ false
turned m n h = grind (arith, nat_tests)

distinct_push : (xs : List ℕ) (n : ℕ) → AreDistinct xs → list_any (λ m. m == n) xs ≡ false → AreDistinct (xs ++ n ∷ [])
distinct_push [] n d h = (refl, tt)
distinct_push (x ∷ xs) n d h =
    let parts = or_none (x == n) (list_any (λ m. m == n) xs) h in
    (list_any-append (λ m. m == x) xs (n ∷ []) ∙ ap (λ b. b || ((n == x) || false)) d.0 ∙ ap (λ b. b || false) (turned x n parts.0), distinct_push xs n d.1 parts.1)

itself : (n : ℕ) → (n == n) ≡ true
itself n = grind (arith, nat_tests)

-- a node has an open request if it has an entry
pub open_entry : (line : PlainView) (n : ℕ) (o : Option Waiter) → following.is_open (waiter_state line n o) ≡ is_some o
open_entry line n None = by line.closed
  where
    by : (b : Bool) → following.is_open (cond b port.Shut port.Idle) ≡ false
    by true = refl
    by false = refl
open_entry line n (Some w) = by w.withdrawn (line.granted && plain.is_oldest line n)
  where
    by : (b h : Bool) → following.is_open (cond b port.Rolled (cond h port.Holding port.Queued)) ≡ true
    by true h = refl
    by false true = refl
    by false false = refl

pub waits_so : (line : PlainView) (n : ℕ) → following.is_open (node_state line n) ≡ list_any (λ m. m == n) (map (λ w. w.node) line.waiting)
waits_so line n =
    open_entry line n (find (is_at n) line.waiting)
    ∙ sym (entry_says n line.waiting (find (is_at n) line.waiting) (is_some (find (is_at n) line.waiting)) (is_some (find (is_at n) line.waiting)) refl refl refl)
    ∙ sym (any_map (λ m. m == n) line.waiting)

-- the nodes before the entries are removed
pub passed : (line : PlainView) (xs : List ℕ) (j : ℕ) → AreDistinct xs → drop j xs ≡ map (λ w. w.node) line.waiting → after_ended line xs ≡ drop j xs
passed line [] zero d e = refl
passed line [] (suc j) d e = refl
passed line (x ∷ xs) zero d e =
    let stands : following.is_open (node_state line x) ≡ true = waits_so line x ∙ ap (list_any (λ m. m == x)) (sym e) ∙ ap (λ b. b || list_any (λ m. m == x) xs) (itself x) in
    ap (λ b. cond b (x ∷ xs) (after_ended line xs)) stands
passed line (x ∷ xs) (suc j) d e =
    let gone : following.is_open (node_state line x) ≡ false = waits_so line x ∙ ap (list_any (λ m. m == x)) (sym e) ∙ any_drop (λ m. m == x) j xs d.0 in
    ap (λ b. cond b (x ∷ xs) (after_ended line xs)) gone ∙ passed line xs j d.1 e

-- a line that agrees with a state has an entry for each open request of the state
pub entries : (line : PlainView) (s : OwnerState) → Agrees line s → waiting_nodes s ≡ map (λ w. w.node) line.waiting
entries line s a = sym (ap (map (λ (w : Waiter). w.node)) a.waiting ∙ map-map (λ (w : Waiter). w.node) (waiter_of s.queue.marked) (open_of s.queue.order s.queue.ends))

-- a node that has just made a request had no open request before
asks_by : (may stands marked : Bool) (answer : Enq) → (may ≡ true → stands ≡ true → marked ≡ true) → has_asked (cond may (said.Enq (cond (stands && marked) enq.Busy answer)) said.Misuse) ≡ true → stands ≡ false
asks_by false stands marked answer rolled h = absurd (let not_so : false ≡ true = h in cc not_so)
asks_by true false marked answer rolled h = refl
asks_by true true false answer rolled h = absurd (let not_so : false ≡ true = rolled refl refl in cc not_so)
asks_by true true true answer rolled h = absurd (let not_so : false ≡ true = h in cc not_so)

never : (b : Bool) (what : Said) → has_asked what ≡ false → has_asked (cond b what said.Misuse) ≡ true → ⊥
never true what e h = let not_so : false ≡ true = sym e ∙ h in cc not_so
never false what e h = let not_so : false ≡ true = h in cc not_so

stood_apart : (line : PlainView) (s : OwnerState) (c : Command) → Agrees line s → has_asked (said_of s c) ≡ true → is_open s.queue (node_of c) ≡ false
stood_apart line s (command.Enq n l) a h =
    asks_by (may_ask (state_of s n)) (is_open s.queue n) (has s.queue.marked (last_of n s.queue.order)) (as_enq (poll_answer (after_ask s n) n))
    (λ may stands. when_rolled line s a n (ap may_ask (node_state-state_of line s a n) ∙ may) stands) h
stood_apart line s (command.Poll n l) a h = absurd (never (is_queued (state_of s n)) (said.Poll (poll_answer s n)) refl h)
stood_apart line s (command.Show n l) a h = absurd (never (is_holding (state_of s n)) (said.Bytes (record { bytes = shown s })) refl h)
stood_apart line s (command.Deq n l) a h = absurd (never (is_holding (state_of s n)) said.Released refl h)
stood_apart line s (command.Out n l) a h = absurd (never (is_queued (state_of s n)) (said.Out (out_answer s n)) refl h)
stood_apart line s (command.Shut n l) a h = absurd (never (is_holding (state_of s n)) said.Shut refl h)
stood_apart line s (command.Write n l mask bytes) a h = absurd (never (is_holding (state_of s n)) said.Written refl h)

-- the nodes with open requests, followed by the node that has just made a request
all_distinct : (line : PlainView) (s : OwnerState) (c : Command) (b : Bool) → Agrees line s → has_asked (said_of s c) ≡ b → AreDistinct (waiting_nodes s ++ cond b (node_of c ∷ []) [])
all_distinct line s c false a e =
    subst AreDistinct (sym (append-nil (waiting_nodes s))) (distinct_requests (open_of s.queue.order s.queue.ends) (one_each s a.reached))
all_distinct line s c true a e =
    distinct_push (waiting_nodes s) (node_of c) (distinct_requests (open_of s.queue.order s.queue.ends) (one_each s a.reached))
    (ap (list_any (λ m. m == node_of c)) (entries line s a) ∙ any_map (λ m. m == node_of c) line.waiting ∙ waits-is_open line s a (node_of c) ∙ stood_apart line s c a e)

-- a command, and what is recorded about it
pub command_followed : (old new : PlainView) (s : OwnerState) (c : Command) (waiting pushed after : List ℕ) → Follows old waiting s → Agrees new (after_command s c)
    → pushed ≡ waiting ++ cond (has_asked (said_of s c)) (node_of c ∷ []) [] → after ≡ after_ended new pushed → Follows new after (after_command s c)
command_followed old new s c waiting pushed after f a push pass = record {
  agrees = a;
  waiting_are =
      let g = grew s c in
      let all : List ℕ = waiting_nodes s ++ cond (has_asked (said_of s c)) (node_of c ∷ []) [] in
      let known : pushed ≡ all = push ∙ ap (λ xs. xs ++ cond (has_asked (said_of s c)) (node_of c ∷ []) []) f.waiting_are in
      let left : waiting_nodes (after_command s c) ≡ drop g.more all = nodes_after s (after_command s c) (asked_if (has_asked (said_of s c)) (node_of c) s) g f.agrees.reached.legal.ended
      ∙ ap (λ xs. drop g.more (waiting_nodes s ++ xs)) (asked_nodes (has_asked (said_of s c)) (node_of c) s) in
      pass ∙ ap (after_ended new) known ∙ passed new all g.more (all_distinct old s c (has_asked (said_of s c)) f.agrees refl) (sym left ∙ entries new (after_command s c) a) ∙ sym left;
}

-- the node that has just made a request is behind the others
pub asked_behind : (b : Bool) (xs ys : List ℕ) (n m : ℕ) → b ≡ true → n ≡ m → ys ≡ xs ++ n ∷ [] → ys ≡ xs ++ cond b (m ∷ []) []
asked_behind b xs ys n m e same push = push ∙ ap (λ k. xs ++ k ∷ []) same ∙ ap (λ v. xs ++ cond v (m ∷ []) []) (sym e)

pub none_behind : (b : Bool) (xs ys : List ℕ) (m : ℕ) → b ≡ false → ys ≡ xs → ys ≡ xs ++ cond b (m ∷ []) []
none_behind b xs ys m e same = same ∙ sym (append-nil xs) ∙ ap (λ v. xs ++ cond v (m ∷ []) []) (sym e)

pub same_change : (a b : ℕ) (k l : Said) (t u : Bool) (x y z w : Option ℕ) → a ≡ b → k ≡ l → t ≡ u → x ≡ y → z ≡ w
    → let r : Change = record { node = a; said = k; told = t; before = x; after = z } in let q : Change = record { node = b; said = l; told = u; before = y; after = w } in r ≡ q
same_change a b k l t u x y z w p j q r v = cc
