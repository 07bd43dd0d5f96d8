-- Lemmas about a plain line that agrees with a state of the queue machine. They state what the line's entries say about
-- the queue.
use Rattle.std.proofs.Common.{◌≡◌, ℕ, suc, ◌+◌, ◌==◌, inl, inr, Bool, true, false, ◌||◌, ◌&&◌, cond, if◌then◌else◌, List, [], ◌∷◌, length, map, Option, Some, None, slice_get, refl, ap, sym, ◌∙◌, subst, arith}
use Rattle.std.specs.List.{list_any, find}
use Rattle.std.specs.Option.{option_map, option_map_or}
use Rattle.std.proofs.lemmas.Bool.{eq-eqb, ne_eqb, cases_eq}
use Rattle.std.proofs.lemmas.Option.{slice_get-map}
use Rattle.qolb_model.specs.declared.request.Request.{Request}
use Rattle.qolb_model.specs.declared.end.End.{End}
use Rattle.qolb_model.specs.declared.end.End.TheVariants.{Served, Gone, Told}
use Rattle.qolb_model.specs.declared.answer.PortState.{PortState}
use Rattle.qolb_model.specs.declared.answer.PortState.TheVariants as port
use Rattle.qolb_model.specs.Requests.{is_same, has, count_of, last_of}
use Rattle.qolb_model.specs.Ends.{is_closed, written, bytes_after}
use Rattle.qolb_model.specs.Histories.{turn_of, open_of}
use Rattle.qolb_model.specs.Queue.{Queue}
use Rattle.qolb_model.specs.OneOwner.{OwnerState, is_first, is_open, state_of}
use Rattle.qolb_model.specs.PortStates.{may_ask}
use Rattle.qolb_model.specs.Plain.{PlainView, is_at, is_oldest, waiter_state, node_state, waiter_of, Agrees}
use Rattle.qolb_model.proofs.Lists.{never, slice_get-drop}
use Rattle.qolb_model.proofs.Requests.{is_same-true, is_same-self}
use Rattle.line_lanes.proofs.Masked.{length-merged}
use Rattle.qolb_model.proofs.Runs.{IsTidy}

-- a line has 64 bytes after any ends
pub length-bytes_after : (opening : List ℕ) (ends : List End) → length opening ≡ 64 → length (bytes_after opening ends) ≡ 64
length-bytes_after opening [] e = e
length-bytes_after opening (Served write shut ∷ ends) e = length-bytes_after (written opening write) ends (length-merged opening write.bytes.bytes write.mask.0)
length-bytes_after opening (Gone ∷ ends) e = length-bytes_after opening ends e
length-bytes_after opening (Told ∷ ends) e = length-bytes_after opening ends e

-- each of these is its node's last request
abbrev pub AreLast : List Request → List Request → Type 0
AreLast order [] = Unit {0}
AreLast order (x ∷ xs) = (x ≡ last_of x.node order) × AreLast order xs

-- requests are their nodes' last ones if each request at a place is
are_last : (order xs : List Request) → ((p : ℕ) (r : Request) → slice_get xs p ≡ Some r → r ≡ last_of r.node order) → AreLast order xs
are_last order [] h = tt
are_last order (x ∷ xs) h = (h 0 x refl, are_last order xs (λ p r e. h (suc p) r e))

-- a node's last request is found by its node alone
is_at-last : (order : List Request) (node : ℕ) (r : Request) → r ≡ last_of r.node order → (r.node == node) ≡ is_same (last_of node order) r
is_at-last order node r last = elim (cases_eq r.node node) [
  | inl e ↦ eq-eqb r.node node e ∙ sym (subst (λ x. is_same (last_of node order) x ≡ true) (sym (last ∙ ap (λ n. last_of n order) e)) (is_same-self (last_of node order)))
  | inr ne ↦ ne_eqb r.node node ne ∙ sym (ap (λ b. b && (count_of node order == r.number)) (ne_eqb node r.node (λ e. ne (sym e))))
]

-- a node has an entry if its last request is open
waits-open : (marked order xs : List Request) (node : ℕ) → AreLast order xs → list_any (is_at node) (map (waiter_of marked) xs) ≡ has xs (last_of node order)
waits-open marked order [] node last = refl
waits-open marked order (x ∷ xs) node last =
    ap (λ b. b || list_any (is_at node) (map (waiter_of marked) xs)) (is_at-last order node x last.0)
    ∙ ap (λ b. is_same (last_of node order) x || b) (waits-open marked order xs node last.1)

-- the entry that is found is that of the node's last request
find-open : (marked order xs : List Request) (node : ℕ) → AreLast order xs → find (is_at node) (map (waiter_of marked) xs) ≡ (if has xs (last_of node order) then Some (waiter_of marked (last_of node order)) else None)
find-open marked order [] node last = refl
find-open marked order (x ∷ xs) node last =
    by (is_same (last_of node order) x) refl (is_at-last order node x last.0) (find-open marked order xs node last.1)
  where
    by :
        (b : Bool) → is_same (last_of node order) x ≡ b → (x.node == node) ≡ is_same (last_of node order) x
        → find (is_at node) (map (waiter_of marked) xs) ≡ (if has xs (last_of node order) then Some (waiter_of marked (last_of node order)) else None)
        → cond (x.node == node) (Some (waiter_of marked x)) (find (is_at node) (map (waiter_of marked) xs)) ≡ (if b || has xs (last_of node order) then Some (waiter_of marked (last_of node order)) else None)
    by true e same later =
        ap (λ c. cond c (Some (waiter_of marked x)) (find (is_at node) (map (waiter_of marked) xs))) (same ∙ e)
        ∙ ap (λ y. Some (waiter_of marked y)) (sym (is_same-true (last_of node order) x e))
    by false e same later = ap (λ c. cond c (Some (waiter_of marked x)) (find (is_at node) (map (waiter_of marked) xs))) (same ∙ e) ∙ later

-- what each state of a node says of its last request
abbrev pub state_from : Bool → Bool → Bool → Bool → PortState
state_from stands marked holds closed = if stands then (if marked then port.Rolled else (if holds then port.Holding else port.Queued)) else (if closed then port.Shut else port.Idle)

-- a queued request is open, not withdrawn and not granted
queued_parts : (b m h c : Bool) → state_from b m h c ≡ port.Queued → (b ≡ true) × (m ≡ false) × (h ≡ false)
queued_parts true true h c e = absurd (let no : port.Rolled ≡ port.Queued = e in cc no)
queued_parts true false true c e = absurd (let no : port.Holding ≡ port.Queued = e in cc no)
queued_parts true false false c e = (refl, refl, refl)
queued_parts false m h true e = absurd (let no : port.Shut ≡ port.Queued = e in cc no)
queued_parts false m h false e = absurd (let no : port.Idle ≡ port.Queued = e in cc no)

-- a holder's request is granted besides
holding_parts : (b m h c : Bool) → state_from b m h c ≡ port.Holding → (b ≡ true) × (m ≡ false) × (h ≡ true)
holding_parts true true h c e = absurd (let no : port.Rolled ≡ port.Holding = e in cc no)
holding_parts true false true c e = (refl, refl, refl)
holding_parts true false false c e = absurd (let no : port.Queued ≡ port.Holding = e in cc no)
holding_parts false m h true e = absurd (let no : port.Shut ≡ port.Holding = e in cc no)
holding_parts false m h false e = absurd (let no : port.Idle ≡ port.Holding = e in cc no)

-- if a node may make a request although its last one is open, that one was withdrawn
pub asking_parts : (b m h c : Bool) → may_ask (state_from b m h c) ≡ true → b ≡ true → m ≡ true
asking_parts true true h c e stands = refl
asking_parts true false true c e stands = absurd (let no : false ≡ true = e in cc no)
asking_parts true false false c e stands = absurd (let no : false ≡ true = e in cc no)
asking_parts false m h c e stands = absurd (let no : false ≡ true = stands in cc no)

-- two tests that both pass, and two tests of which one fails
both_true : (a b : Bool) → (a && b) ≡ true → (a ≡ true) × (b ≡ true)
both_true true b h = (refl, h)
both_true false b h = absurd (let no : false ≡ true = h in cc no)

pub not_both : (a b : Bool) → (a && b) ≡ false → b ≡ true → a ≡ false
not_both true b h k = absurd (never k h)
not_both false b h k = refl

-- which request is at its turn
pub first_turn : (q : Queue) (node : ℕ) → is_first q node ≡ true → turn_of q.order q.ends ≡ Some (last_of node q.order)
first_turn q node h = by (turn_of q.order q.ends) h
  where
    by : (o : Option Request) → option_map_or (is_same (last_of node q.order)) o false ≡ true → o ≡ Some (last_of node q.order)
    by None h = absurd (let no : false ≡ true = h in cc no)
    by (Some r) h = ap Some (sym (is_same-true (last_of node q.order) r h))

-- what agrees with a state
module _ (line : PlainView) (s : OwnerState) (a : Agrees line s) where
  -- each open request is its node's last
  pub last_each : AreLast s.queue.order (open_of s.queue.order s.queue.ends)
  last_each = are_last s.queue.order (open_of s.queue.order s.queue.ends) (λ p r e. a.reached.last_open (length s.queue.ends + p) r (omega arith) (sym (slice_get-drop (length s.queue.ends) s.queue.order p) ∙ e))

  -- a node has an entry if its last request is open
  pub waits-is_open : (node : ℕ) → list_any (is_at node) line.waiting ≡ is_open s.queue node
  waits-is_open node = ap (list_any (is_at node)) a.waiting ∙ waits-open s.queue.marked s.queue.order (open_of s.queue.order s.queue.ends) node last_each

  -- the first entry is that of the request at its turn
  pub first_waiter : slice_get line.waiting 0 ≡ option_map (waiter_of s.queue.marked) (turn_of s.queue.order s.queue.ends)
  first_waiter =
      let at : length s.queue.ends + 0 ≡ length s.queue.ends = omega arith in
      ap (λ ws. slice_get ws 0) a.waiting
      ∙ (slice_get-map (waiter_of s.queue.marked) (open_of s.queue.order s.queue.ends) 0
      ∙ ap (option_map (waiter_of s.queue.marked)) (slice_get-drop (length s.queue.ends) s.queue.order 0 ∙ ap (slice_get s.queue.order) at))

  -- the oldest entry is that of the node whose request is at its turn
  pub oldest-is_first : (node : ℕ) → is_oldest line node ≡ is_first s.queue node
  oldest-is_first node = ap (λ o. option_map_or (is_at node) o false) first_waiter ∙ by (turn_of s.queue.order s.queue.ends) refl
    where
      by : (o : Option Request) → turn_of s.queue.order s.queue.ends ≡ o → option_map_or (is_at node) (option_map (waiter_of s.queue.marked) o) false ≡ option_map_or (is_same (last_of node s.queue.order)) o false
      by None e = refl
      by (Some r) e = is_at-last s.queue.order node r (a.reached.last_open (length s.queue.ends) r (omega arith) e)

  -- the state of a node by its entry is the state by its last request
  pub node_state-state_of : (node : ℕ) → node_state line node ≡ state_of s node
  node_state-state_of node =
      ap (waiter_state line node) (ap (find (is_at node)) a.waiting ∙ find-open s.queue.marked s.queue.order (open_of s.queue.order s.queue.ends) node last_each)
      ∙ by (is_open s.queue node)
    where
      by : (b : Bool) → waiter_state line node (if b then Some (waiter_of s.queue.marked (last_of node s.queue.order)) else None)
          ≡ state_from b (has s.queue.marked (last_of node s.queue.order)) (s.granted && is_first s.queue node) (is_closed s.queue.ends)
      by true =
          ap (λ g. if has s.queue.marked (last_of node s.queue.order) then port.Rolled else (if g && is_oldest line node then port.Holding else port.Queued)) a.granted
          ∙ ap (λ f. if has s.queue.marked (last_of node s.queue.order) then port.Rolled else (if s.granted && f then port.Holding else port.Queued)) (oldest-is_first node)
      by false = ap (λ c. if c then port.Shut else port.Idle) a.closed

  -- what is known of a node that is queued, of a node that holds, and of a node that may make a request although its
  -- last one is open
  pub when_queued : (node : ℕ) → node_state line node ≡ port.Queued → (is_open s.queue node ≡ true) × (has s.queue.marked (last_of node s.queue.order) ≡ false) × ((s.granted && is_first s.queue node) ≡ false)
  when_queued node e = queued_parts (is_open s.queue node) (has s.queue.marked (last_of node s.queue.order)) (s.granted && is_first s.queue node) (is_closed s.queue.ends) (sym (node_state-state_of node) ∙ e)

  pub when_holding : (node : ℕ) → node_state line node ≡ port.Holding → (has s.queue.marked (last_of node s.queue.order) ≡ false) × (s.granted ≡ true) × (is_first s.queue node ≡ true)
  when_holding node e =
      let parts = holding_parts (is_open s.queue node) (has s.queue.marked (last_of node s.queue.order)) (s.granted && is_first s.queue node) (is_closed s.queue.ends) (sym (node_state-state_of node) ∙ e) in
      let both = both_true s.granted (is_first s.queue node) parts.2 in
      (parts.1, both.0, both.1)

  pub when_rolled : (node : ℕ) → may_ask (node_state line node) ≡ true → is_open s.queue node ≡ true → has s.queue.marked (last_of node s.queue.order) ≡ true
  when_rolled node e stands = asking_parts (is_open s.queue node) (has s.queue.marked (last_of node s.queue.order)) (s.granted && is_first s.queue node) (is_closed s.queue.ends) (sym (ap may_ask (node_state-state_of node)) ∙ e) stands

  -- all requests that have ended are clear
  pub is_tidy : IsTidy s.config.lease s.queue
  is_tidy = record { legal = a.reached.legal; ended = length s.queue.ends; within = omega arith; cleared = a.reached.cleared }
