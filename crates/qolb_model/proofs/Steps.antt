-- Proof that each step of a plain line preserves the line's agreement with a state of the queue machine, and that the
-- queue makes the moves of the step.
use Rattle.std.proofs.Common.{◌≡◌, ℕ, zero, suc, ◌+◌, ◌-◌, ◌<◌, ◌≤◌, ◌==◌, ◌⊎◌, inl, inr, Bool, true, false, ◌||◌, ◌&&◌, if◌then◌else◌, List, [], ◌∷◌, ◌++◌, length, drop, map, Option, Some, None, slice_get, refl, ap, ap₂, sym, ◌∙◌, subst, arith, length-append}
use Rattle.std.specs.Option.{option_map_or}
use Rattle.std.proofs.lemmas.List.Folds.{list_any-append}
use Rattle.std.proofs.lemmas.List.{take-append-le, drop-append-le, take-append-drop, map-append, length-map, length-drop, drop-drop}
use Rattle.std.proofs.Math.Bool.{or-false}
use Rattle.std.proofs.Math.Seq.{drop-append_seam}
use Rattle.std.proofs.lemmas.Bool.{eq-eqb, ne_eqb, or_cases, cases_eq}
use Rattle.std.proofs.lemmas.Option.{slice_get_within}
use Rattle.qolb_model.specs.declared.request.Request.{Request}
use Rattle.qolb_model.specs.declared.waiter.Waiter.{Waiter}
use Rattle.qolb_model.specs.declared.write.Write.{Write}
use Rattle.qolb_model.specs.declared.end.End.{End}
use Rattle.qolb_model.specs.declared.end.End.TheVariants.{Served, Gone, Told}
use Rattle.qolb_model.specs.declared.answer.Poll.{Poll}
use Rattle.qolb_model.specs.declared.answer.Poll.TheVariants as poll
use Rattle.qolb_model.specs.Requests.{is_same, has, Has, Lacks, count_of, last_of, next_of}
use Rattle.qolb_model.specs.declared.config.LineConfig.{LineConfig}
use Rattle.qolb_model.specs.Ends.{is_closed, bytes_after}
use Rattle.qolb_model.specs.Leases.{is_last_turn, turns_left, closes}
use Rattle.qolb_model.specs.Opening.{MayOpen}
use Rattle.qolb_model.specs.Histories.{turn_of, ended_of, open_of}
use Rattle.qolb_model.specs.Queue.{Queue, Move, ask, mark, finish, EndsAs, CanMove, moved, Runs}
use Rattle.qolb_model.specs.OneOwner.{OwnerState, opened, new_turn, is_first, is_open, moved_by, ends_with, after_moves, after_end, poll_answer, poll_moves, after_poll, after_ask, mark_last, release_moves, after_release, turn_after, after_write}
use Rattle.qolb_model.specs.Plain.{PlainView, IsReached, waiter_of, Agrees}
use Rattle.qolb_model.specs.Steps.{after_withdrawn, withdrawn_at, with_waiter, turn_ended, is_one, decrement, turn_served, look_answer, looked}
use Rattle.qolb_model.proofs.Lists.{never, push_cases, slice_get-append_left, slice_get-drop, drop_with}
use Rattle.qolb_model.proofs.Requests.{same_request, is_same-self, has_at, place_of_request, lacks_from, has_push, has_last, count_of-push_same, count_of-push_other, count_of-push_le, has_last_of_all}
use Rattle.qolb_model.proofs.Histories.{bytes_after-append, bytes_after-gone, gone_each, is_closed-append, is_closed-gone, legal_ask, legal_gone}
use Rattle.qolb_model.proofs.Leases.{turns_left-none, turns_left-same, turns_left-served, served-gone, last-is_one, last_closes}
use Rattle.line_lanes.proofs.Masked.{merged-self, merged-twice}
use Rattle.qolb_model.proofs.Runs.{IsTidy, tidy_end, clears_all, has_cleared_none, runs_cleared, passed, unpassed, take_while-passed, passed-unpassed, are_marked-passed, lacks_unpassed, passes_each, passed_by, moved_by-passes, rest_from, runs_passes}
use Rattle.qolb_model.proofs.Agreed.{AreLast, length-bytes_after, oldest-is_first, is_tidy, last_each, first_turn}

-- a test that fails does not pass
nothing : {P : Type 0} → false ≡ true → P
nothing e = absurd (let no : false ≡ true = e in cc no)

-- a line that was just opened
pub agrees_opened : (config : LineConfig) → MayOpen config → length config.opening.bytes ≡ 64 →
    let line : PlainView = record { nodes = config.nodes; waiting = []; granted = false; closed = false; left = config.lease; turn = new_turn config.opening.bytes [] } in Agrees line (opened config)
agrees_opened config may long = record {
  nodes = refl;
  waiting = refl;
  granted = refl;
  closed = refl;
  left = turns_left-none config.lease;
  turn = refl;
  reached = record {
    may_open = may;
    line = long;
    legal = record {
      numbered = λ p r e. absurd (let no : None ≡ Some r = e in cc no);
      ended = omega arith;
      closing = λ p x e. absurd (let no : None ≡ Some x = e in cc no);
    };
    cleared = refl;
    nodes_known = λ p r e. absurd (let no : None ≡ Some r = e in cc no);
    last_open = λ p r h e. absurd (let no : None ≡ Some r = e in cc no);
    marks_known = λ r h. nothing h;
    passed = λ r e. absurd (let no : None ≡ Some r = e in cc no);
    held = λ e. nothing e;
    resting = λ e. refl;
    turn = merged-self config.opening.bytes 0 long;
  };
}

-- the holder writes
pub agrees_write : (line : PlainView) (s : OwnerState) (mask : ℕ) (bytes : List ℕ) → Agrees line s → s.granted ≡ true
    → Agrees (record line { turn = turn_after line.turn mask bytes }) (after_write s mask bytes)
agrees_write line s mask bytes a holds = record {
  nodes = a.nodes;
  waiting = a.waiting;
  granted = a.granted;
  closed = a.closed;
  left = a.left;
  turn = ap (λ t. turn_after t mask bytes) a.turn;
  reached = record {
    may_open = a.reached.may_open;
    line = a.reached.line;
    legal = a.reached.legal;
    cleared = a.reached.cleared;
    nodes_known = a.reached.nodes_known;
    last_open = a.reached.last_open;
    marks_known = a.reached.marks_known;
    passed = a.reached.passed;
    held = a.reached.held;
    resting = λ e. absurd (never holds e);
    turn = merged-twice (bytes_after s.config.opening.bytes s.queue.ends) s.turn.bytes.bytes bytes s.turn.mask.0 mask a.reached.turn;
  };
}

-- a node that does not wait makes a request
module _ (line : PlainView) (s : OwnerState) (node : ℕ) (a : Agrees line s) (low : 1 ≤ node) (high : node ≤ s.config.nodes) (quiet : is_open s.queue node ≡ false) where
  -- the order with its request
  abbrev pub order_then : List Request
  order_then = s.queue.order ++ next_of node s.queue.order ∷ []

  -- the node's request is not marked
  unmarked : Lacks s.queue.marked (next_of node s.queue.order)
  unmarked = lacks_from s.queue.marked (next_of node s.queue.order) (λ h. omega (arith, a.reached.marks_known (next_of node s.queue.order) h))

  -- the request is the last of those that are open
  open_then : open_of order_then s.queue.ends ≡ open_of s.queue.order s.queue.ends ++ next_of node s.queue.order ∷ []
  open_then = drop-append-le (length s.queue.ends) s.queue.order (next_of node s.queue.order ∷ []) a.reached.legal.ended

  -- an open request is of another node
  other_node : (p : ℕ) (r : Request) → length s.queue.ends ≤ p → slice_get s.queue.order p ≡ Some r → r.node ≡ node → ⊥
  other_node p r from e same =
      let at : length s.queue.ends + (p - length s.queue.ends) ≡ p = omega arith in
      let there : slice_get (open_of s.queue.order s.queue.ends) (p - length s.queue.ends) ≡ Some r =
      slice_get-drop (length s.queue.ends) s.queue.order (p - length s.queue.ends) ∙ (ap (slice_get s.queue.order) at ∙ e) in
      let is : r ≡ last_of node s.queue.order = a.reached.last_open p r from e ∙ ap (λ n. last_of n s.queue.order) same in
      never (subst (λ x. Has (open_of s.queue.order s.queue.ends) x) is (has_at (open_of s.queue.order s.queue.ends) (p - length s.queue.ends) r there)) quiet

  -- the node may make a request, because its last one is clear
  pub can_ask : CanMove s.config s.queue (ask node)
  can_ask = (low, high, λ one. rw a.reached.cleared (past one))
    where
      past : 1 ≤ count_of node s.queue.order → Has (ended_of s.queue.order s.queue.ends) (last_of node s.queue.order)
      past one =
          let whole = take-append-drop (length s.queue.ends) s.queue.order in
          let h = subst (λ xs. Has xs (last_of node s.queue.order)) (sym whole) (has_last_of_all s.queue.order a.reached.legal.numbered node one) in
          elim (or_cases _ _ (sym (list_any-append (is_same (last_of node s.queue.order)) (ended_of s.queue.order s.queue.ends) (open_of s.queue.order s.queue.ends)) ∙ h)) [
            | inl old ↦ old
            | inr now ↦ absurd (never now quiet)
          ]

  tidy_ask : IsTidy s.config.lease (moved s.queue (ask node))
  tidy_ask = record {
    legal = legal_ask s.config.lease s.queue.order s.queue.ends node a.reached.legal;
    ended = length s.queue.ends;
    within = omega arith;
    cleared = a.reached.cleared ∙ sym (take-append-le (length s.queue.ends) s.queue.order (next_of node s.queue.order ∷ []) a.reached.legal.ended);
  }

  -- a run may begin with the node's request
  pub runs_ask : (moves : List Move) (new : Queue) → Runs s.config (after_ask s node).queue moves new → Runs s.config s.queue (ask node ∷ moves) new
  runs_ask moves new h = (s.queue, has_cleared_none s.queue, can_ask, runs_cleared s.config (moved s.queue (ask node)) (after_ask s node).queue new moves (clears_all s.config.lease (moved s.queue (ask node)) tidy_ask) h)

  -- what holds of reached states holds again
  pub reached_ask : IsReached (after_ask s node)
  reached_ask = record {
    may_open = a.reached.may_open;
    line = a.reached.line;
    legal = legal_ask s.config.lease s.queue.order s.queue.ends node a.reached.legal;
    cleared = refl;
    nodes_known = λ p r e. elim (push_cases s.queue.order (next_of node s.queue.order) p r e) [
      | inl old ↦ a.reached.nodes_known p r old.1
      | inr new ↦ subst (λ x. (1 ≤ x.node) × (x.node ≤ s.config.nodes)) (sym new.1) (low, high)
    ];
    last_open = λ p r from e. elim (push_cases s.queue.order (next_of node s.queue.order) p r e) [
      | inl old ↦
          a.reached.last_open p r from old.1
          ∙ ap (λ m. let x : Request = record { node = r.node; number = m } in x) (sym (count_of-push_other r.node s.queue.order (next_of node s.queue.order) (λ same. other_node p r from old.1 (sym same))))
      | inr new ↦ subst (λ x. x ≡ last_of x.node order_then) (sym new.1) (same_request node node _ _ refl (sym (count_of-push_same node s.queue.order (next_of node s.queue.order) refl)))
    ];
    marks_known = λ r h. omega (arith, a.reached.marks_known r h, count_of-push_le r.node s.queue.order (next_of node s.queue.order));
    passed = λ r e. elim (push_cases s.queue.order (next_of node s.queue.order) (length s.queue.ends) r e) [
      | inl old ↦ a.reached.passed r old.1
      | inr new ↦ subst (λ x. Lacks s.queue.marked x) (sym new.1) unmarked
    ];
    held = λ e. (omega (arith, (a.reached.held e).0, length-append s.queue.order (next_of node s.queue.order ∷ [])), (a.reached.held e).1);
    resting = a.reached.resting;
    turn = a.reached.turn;
  }

  -- the line agrees with that state
  pub agrees_ask : Agrees (with_waiter line node) (after_ask s node)
  agrees_ask = record {
    nodes = a.nodes;
    waiting =
        ap (λ ws. ws ++ record { node = node; withdrawn = false } ∷ []) a.waiting
        ∙ (ap (λ b. let w : Waiter = record { node = node; withdrawn = b } in map (waiter_of s.queue.marked) (open_of s.queue.order s.queue.ends) ++ w ∷ []) (sym unmarked)
        ∙ (sym (map-append (waiter_of s.queue.marked) (open_of s.queue.order s.queue.ends) (next_of node s.queue.order ∷ []))
        ∙ ap (map (waiter_of s.queue.marked)) (sym open_then)));
    granted = a.granted;
    closed = a.closed;
    left = a.left;
    turn = a.turn;
    reached = reached_ask;
  }

  -- if the request is at its turn at once, no node holds
  pub resting_ask : is_first (after_ask s node).queue node ≡ true → s.granted ≡ false
  resting_ask first = by s.granted refl
    where
      by : (b : Bool) → s.granted ≡ b → b ≡ false
      by false e = refl
      by true e =
          let lt = (a.reached.held e).0 in
          let turn : turn_of order_then s.queue.ends ≡ Some (last_of node order_then) = first_turn (after_ask s node).queue node first in
          absurd (other_node (length s.queue.ends) (last_of node order_then) (omega arith) (sym (slice_get-append_left s.queue.order (next_of node s.queue.order ∷ []) (length s.queue.ends) lt) ∙ turn) refl)

-- the entries that are left belong to the requests that are left
after_withdrawn-unpassed : (marked xs : List Request) → after_withdrawn (map (waiter_of marked) xs) ≡ map (waiter_of marked) (unpassed marked xs)
after_withdrawn-unpassed marked [] = refl
after_withdrawn-unpassed marked (x ∷ xs) = by (has marked x) (after_withdrawn-unpassed marked xs)
  where
    by : (b : Bool) → after_withdrawn (map (waiter_of marked) xs) ≡ map (waiter_of marked) (unpassed marked xs)
        → (if b then after_withdrawn (map (waiter_of marked) xs) else waiter_of marked x ∷ map (waiter_of marked) xs) ≡ map (waiter_of marked) (if b then unpassed marked xs else x ∷ xs)
    by true e = e
    by false e = refl

-- the request at its turn ends, and the withdrawn ones behind it are passed
module _ (line : PlainView) (s : OwnerState) (r : Request) (e : End) (a : Agrees line s) (turn : turn_of s.queue.order s.queue.ends ≡ Some r) (so : EndsAs s.config.lease s.queue r e) where
  -- the requests behind it, the withdrawn ones that are passed, the ones that are left, and all ends afterwards
  abbrev pub behind : List Request
  behind = drop (length s.queue.ends + 1) s.queue.order

  abbrev pub gone : List Request
  gone = passed s.queue.marked behind

  abbrev pub rest : List Request
  rest = unpassed s.queue.marked behind

  abbrev pub ends_then : List End
  ends_then = (s.queue.ends ++ e ∷ []) ++ gone_each gone

  -- the open requests before, and after
  front : open_of s.queue.order s.queue.ends ≡ r ∷ behind
  front = drop_with s.queue.order (length s.queue.ends) r turn

  behind_now : drop (length (s.queue.ends ++ e ∷ [])) s.queue.order ≡ gone ++ rest
  behind_now = rest_from s.queue r behind e front ∙ passed-unpassed s.queue.marked behind

  left_now : open_of s.queue.order ends_then ≡ rest
  left_now =
      let long : length ends_then ≡ length (s.queue.ends ++ e ∷ []) + length gone =
      length-append (s.queue.ends ++ e ∷ []) (gone_each gone) ∙ omega (arith, length-map gone (λ _. Gone)) in
      ap (λ n. drop n s.queue.order) long
      ∙ (sym (drop-drop (length gone) (length (s.queue.ends ++ e ∷ [])) s.queue.order)
      ∙ (ap (drop (length gone)) behind_now ∙ drop-append_seam gone rest))

  -- the moves that are made, and the queue that they make
  moves_are : ends_with e s.queue ≡ finish e ∷ passes_each gone
  moves_are = ap (λ xs. finish e ∷ passes_each xs) (take_while-passed s.queue.marked behind)

  queue_is : moved_by s.queue (ends_with e s.queue) ≡ passed_by (moved s.queue (finish e)) gone
  queue_is = ap (moved_by s.queue) moves_are ∙ moved_by-passes (moved s.queue (finish e)) gone

  tidy_then : IsTidy s.config.lease (moved s.queue (finish e))
  tidy_then = tidy_end s.config.lease s.queue r e (is_tidy line s a) turn so

  -- the queue makes these moves
  pub runs_end : Runs s.config s.queue (ends_with e s.queue) (moved_by s.queue (ends_with e s.queue))
  runs_end =
      subst (λ moves. Runs s.config s.queue moves (moved_by s.queue moves)) (sym moves_are)
      (s.queue, has_cleared_none s.queue, (r, turn, so), runs_passes s.config (moved s.queue (finish e)) gone rest tidy_then behind_now (are_marked-passed s.queue.marked behind))

  -- the passed requests do not close the line, and change no byte
  closed_then : is_closed ends_then ≡ is_closed (s.queue.ends ++ e ∷ [])
  closed_then = is_closed-append (s.queue.ends ++ e ∷ []) (gone_each gone) ∙ (ap (λ b. is_closed (s.queue.ends ++ e ∷ []) || b) (is_closed-gone gone) ∙ or-false (is_closed (s.queue.ends ++ e ∷ [])))

  bytes_then : bytes_after s.config.opening.bytes ends_then ≡ bytes_after s.config.opening.bytes (s.queue.ends ++ e ∷ [])
  bytes_then = bytes_after-append s.config.opening.bytes (s.queue.ends ++ e ∷ []) (gone_each gone) ∙ bytes_after-gone (bytes_after s.config.opening.bytes (s.queue.ends ++ e ∷ [])) gone

  left_then : turns_left s.config.lease ends_then ≡ turns_left s.config.lease (s.queue.ends ++ e ∷ [])
  left_then = turns_left-same s.config.lease (s.queue.ends ++ e ∷ []) (gone_each gone) (served-gone gone)

  more_ended : length s.queue.ends ≤ length ends_then
  more_ended = omega (arith, length-append (s.queue.ends ++ e ∷ []) (gone_each gone), length-append s.queue.ends (e ∷ []))

  -- the state that is left
  abbrev pub ended_state : OwnerState
  ended_state = record s { queue = passed_by (moved s.queue (finish e)) gone; granted = false; turn = new_turn s.config.opening.bytes ends_then }

  -- what holds of reached states holds of this state
  pub reached_end : IsReached ended_state
  reached_end = record {
    may_open = a.reached.may_open;
    line = a.reached.line;
    legal = legal_gone s.config.lease s.queue.order (s.queue.ends ++ e ∷ []) gone tidy_then.legal
        (omega (arith, length-drop (length (s.queue.ends ++ e ∷ [])) s.queue.order, ap length behind_now, length-append gone rest, tidy_then.legal.ended));
    cleared = refl;
    nodes_known = a.reached.nodes_known;
    last_open = λ p x from at. a.reached.last_open p x (omega (arith, from, more_ended)) at;
    marks_known = a.reached.marks_known;
    passed = λ x at.
        let zero_more : length ends_then + 0 ≡ length ends_then = omega arith in
        lacks_unpassed s.queue.marked behind x
        (ap (λ xs. slice_get xs 0) (sym left_now) ∙ (slice_get-drop (length ends_then) s.queue.order 0 ∙ (ap (slice_get s.queue.order) zero_more ∙ at)));
    held = λ h. nothing h;
    resting = λ h. refl;
    turn = merged-self (bytes_after s.config.opening.bytes ends_then) 0 (length-bytes_after s.config.opening.bytes ends_then a.reached.line);
  }

  -- the line agrees with that state
  pub agrees_end :
      (closed : Bool) (left : Option ℕ) → closed ≡ is_closed (s.queue.ends ++ e ∷ []) → left ≡ turns_left s.config.lease (s.queue.ends ++ e ∷ []) → bytes_after s.config.opening.bytes (s.queue.ends ++ e ∷ []) ≡ s.turn.bytes.bytes
      → Agrees (turn_ended (record line { closed = closed; left = left })) (after_end (after_moves (ends_with e s.queue) s))
  agrees_end closed left closing fewer bytes =
      subst (λ q. let t : OwnerState = record s { queue = q; granted = false; turn = new_turn s.config.opening.bytes q.ends } in Agrees (turn_ended (record line { closed = closed; left = left })) t) (sym queue_is)
      (record {
        nodes = a.nodes;
        waiting =
            ap (λ ws. after_withdrawn (drop 1 ws)) (a.waiting ∙ ap (map (waiter_of s.queue.marked)) front)
            ∙ (after_withdrawn-unpassed s.queue.marked behind ∙ ap (map (waiter_of s.queue.marked)) (sym left_now));
        granted = refl;
        closed = closing ∙ sym closed_then;
        left = fewer ∙ sym left_then;
        turn = ap (λ bs. let w : Write = record { mask = record { 0 = 0 }; bytes = record { bytes = bs } } in w) (ap (λ t. t.bytes.bytes) a.turn ∙ (sym bytes ∙ sym bytes_then));
        reached = reached_end;
      })

-- what an answer of `poll` says
abbrev pub Answered : Bool → Bool → Poll → Type 0
Answered first closed poll.Granted = (first ≡ true) × (closed ≡ false)
Answered first closed poll.Waiting = first ≡ false
Answered first closed poll.Closed = (first ≡ true) × (closed ≡ true)

-- what the answer says is true
answered : (first closed : Bool) → Answered first closed (if first then (if closed then poll.Closed else poll.Granted) else poll.Waiting)
answered true true = (refl, refl)
answered true false = (refl, refl)
answered false closed = refl

-- the answer of a look is that of `poll`
pub look_answer-poll_answer : (line : PlainView) (s : OwnerState) (node : ℕ) → Agrees line s → look_answer line node ≡ poll_answer s node
look_answer-poll_answer line s node a =
    ap (λ f. if f then (if line.closed then poll.Closed else poll.Granted) else poll.Waiting) (oldest-is_first line s a node)
    ∙ ap (λ c. if is_first s.queue node then (if c then poll.Closed else poll.Granted) else poll.Waiting) a.closed

-- a node that does not hold looks
pub looks : (line : PlainView) (s : OwnerState) (node : ℕ) (p : Poll) → Agrees line s → poll_answer s node ≡ p → (is_first s.queue node ≡ true → s.granted ≡ false)
    → Runs s.config s.queue (poll_moves p s) (after_poll p s).queue × Agrees (looked p line) (after_poll p s)
looks line s node p a is rest = by p (subst (λ x. Answered (is_first s.queue node) (is_closed s.queue.ends) x) is (answered (is_first s.queue node) (is_closed s.queue.ends)))
  where
    by : (x : Poll) → Answered (is_first s.queue node) (is_closed s.queue.ends) x → Runs s.config s.queue (poll_moves x s) (after_poll x s).queue × Agrees (looked x line) (after_poll x s)
    by poll.Granted h = (
      has_cleared_none s.queue,
      record {
        nodes = a.nodes;
        waiting = a.waiting;
        granted = refl;
        closed = a.closed;
        left = a.left;
        turn = a.turn ∙ a.reached.resting (rest h.0);
        reached = record {
          may_open = a.reached.may_open;
          line = a.reached.line;
          legal = a.reached.legal;
          cleared = a.reached.cleared;
          nodes_known = a.reached.nodes_known;
          last_open = a.reached.last_open;
          marks_known = a.reached.marks_known;
          passed = a.reached.passed;
          held = λ _. (slice_get_within s.queue.order (length s.queue.ends) (last_of node s.queue.order) (first_turn s.queue node h.0), h.1);
          resting = λ _. refl;
          turn = merged-self (bytes_after s.config.opening.bytes s.queue.ends) 0 (length-bytes_after s.config.opening.bytes s.queue.ends a.reached.line);
        };
      },
    )
    by poll.Waiting h = (has_cleared_none s.queue, a)
    by poll.Closed h =
        let turn = first_turn s.queue node h.0 in
        let so : EndsAs s.config.lease s.queue (last_of node s.queue.order) Told = (a.reached.passed (last_of node s.queue.order) turn, h.1) in (
          runs_end line s (last_of node s.queue.order) Told a turn so,
          agrees_end line s (last_of node s.queue.order) Told a turn so line.closed line.left
              (a.closed ∙ sym (is_closed-append s.queue.ends (Told ∷ []) ∙ or-false (is_closed s.queue.ends)))
              (a.left ∙ sym (turns_left-same s.config.lease s.queue.ends (Told ∷ []) refl))
              (bytes_after-append s.config.opening.bytes s.queue.ends (Told ∷ []) ∙ sym (ap (λ t. t.bytes.bytes) (a.reached.resting (rest h.0)))),
        )

-- the holder releases
pub releases : (line : PlainView) (s : OwnerState) (node : ℕ) (shut : Bool) → Agrees line s → s.granted ≡ true → is_first s.queue node ≡ true
    → Runs s.config s.queue (release_moves s shut) (after_release s shut).queue × Agrees (turn_served shut line) (after_release s shut)
releases line s node shut a holds first =
    let turn = first_turn s.queue node first in
    let open_line = (a.reached.held holds).1 in
    let closing : Bool = closes s.config.lease s.queue.ends shut in
    let e : End = Served s.turn closing in
    let so : EndsAs s.config.lease s.queue (last_of node s.queue.order) e =
    (a.reached.passed (last_of node s.queue.order) turn, open_line, last_closes s.config.lease s.queue.ends shut) in
    let last : is_one line.left ≡ is_last_turn s.config.lease s.queue.ends = ap is_one a.left ∙ last-is_one s.config.lease s.queue.ends in (
      runs_end line s (last_of node s.queue.order) e a turn so,
      agrees_end line s (last_of node s.queue.order) e a turn so (line.closed || (shut || is_one line.left)) (decrement line.left)
          ((λ i. a.closed i || (shut || last i)) ∙ sym (is_closed-append s.queue.ends (e ∷ []) ∙ ap (λ b. is_closed s.queue.ends || b) (or-false closing)))
          (ap decrement a.left ∙ sym (turns_left-served s.config.lease s.queue.ends s.turn closing))
          (bytes_after-append s.config.opening.bytes s.queue.ends (e ∷ []) ∙ a.reached.turn),
    )

-- a node that waits behind another withdraws
module _ (line : PlainView) (s : OwnerState) (node : ℕ) (a : Agrees line s) (stands : is_open s.queue node ≡ true) (unmarked : has s.queue.marked (last_of node s.queue.order) ≡ false) (behind_one : is_first s.queue node ≡ false) where
  -- the node's last request, and the marks with it
  abbrev pub last : Request
  last = last_of node s.queue.order

  abbrev pub marked_then : List Request
  marked_then = s.queue.marked ++ last ∷ []

  -- the request may be marked, because it waits behind the one at its turn
  can_mark : CanMove s.config s.queue (mark last)
  can_mark =
      let (p, there) = place_of_request (open_of s.queue.order s.queue.ends) last stands in
      let at : slice_get s.queue.order (length s.queue.ends + p) ≡ Some last = sym (slice_get-drop (length s.queue.ends) s.queue.order p) ∙ there in
      (length s.queue.ends + p, later p at, at, unmarked)
    where
      later : (p : ℕ) → slice_get s.queue.order (length s.queue.ends + p) ≡ Some last → length s.queue.ends < length s.queue.ends + p
      later zero at =
          let here : length s.queue.ends + 0 ≡ length s.queue.ends = omega arith in
          let turn : turn_of s.queue.order s.queue.ends ≡ Some last = ap (slice_get s.queue.order) (sym here) ∙ at in
          absurd (never (ap (λ o. option_map_or (is_same last) o false) turn ∙ is_same-self last) behind_one)
      later (suc p) at = omega arith

  -- the queue makes this move
  pub runs_mark : Runs s.config s.queue (mark_last s node) (after_moves (mark_last s node) s).queue
  runs_mark = (
    s.queue,
    has_cleared_none s.queue,
    can_mark,
    clears_all s.config.lease (moved s.queue (mark last)) (record { legal = a.reached.legal; ended = length s.queue.ends; within = omega arith; cleared = a.reached.cleared }),
  )

  -- each entry changes as the marks do
  entry_then : (x : Request) → x ≡ last_of x.node s.queue.order → withdrawn_at node (waiter_of s.queue.marked x) ≡ waiter_of marked_then x
  entry_then x is_last = by (cases_eq x.node node)
    where
      by : (x.node ≡ node) ⊎ (x.node ≡ node → ⊥) → withdrawn_at node (waiter_of s.queue.marked x) ≡ waiter_of marked_then x
      by (inl e) =
          let same : x ≡ last = is_last ∙ ap (λ n. last_of n s.queue.order) e in
          let now : has marked_then x ≡ true = subst (λ y. has marked_then y ≡ true) (sym same) (has_last s.queue.marked last) in
          ap (λ b. if b then record (waiter_of s.queue.marked x) { withdrawn = true } else waiter_of s.queue.marked x) (eq-eqb x.node node e)
          ∙ ap (λ b. let w : Waiter = record { node = x.node; withdrawn = b } in w) (sym now)
      by (inr ne) =
          let apart : is_same x last ≡ false = ap (λ b. b && (x.number == last.number)) (ne_eqb x.node node ne) in
          let kept : has marked_then x ≡ has s.queue.marked x =
          list_any-append (is_same x) s.queue.marked (last ∷ []) ∙ (ap (λ b. has s.queue.marked x || (b || false)) apart ∙ or-false (has s.queue.marked x)) in
          ap (λ b. if b then record (waiter_of s.queue.marked x) { withdrawn = true } else waiter_of s.queue.marked x) (ne_eqb x.node node ne)
          ∙ ap (λ b. let w : Waiter = record { node = x.node; withdrawn = b } in w) (sym kept)

  -- all entries therefore change as the marks do
  entries_then : (xs : List Request) → AreLast s.queue.order xs → map (withdrawn_at node) (map (waiter_of s.queue.marked) xs) ≡ map (waiter_of marked_then) xs
  entries_then [] h = refl
  entries_then (x ∷ xs) h = ap₂ (λ w ws. w ∷ ws) (entry_then x h.0) (entries_then xs h.1)

  -- the line agrees with that state
  pub agrees_mark : Agrees (record line { waiting = map (withdrawn_at node) line.waiting }) (after_moves (mark_last s node) s)
  agrees_mark = record {
    nodes = a.nodes;
    waiting = ap (map (withdrawn_at node)) a.waiting ∙ entries_then (open_of s.queue.order s.queue.ends) (last_each line s a);
    granted = a.granted;
    closed = a.closed;
    left = a.left;
    turn = a.turn;
    reached = record {
      may_open = a.reached.may_open;
      line = a.reached.line;
      legal = a.reached.legal;
      cleared = refl;
      nodes_known = a.reached.nodes_known;
      last_open = a.reached.last_open;
      marks_known = λ r h. elim (has_push s.queue.marked last r h) [
        | inl old ↦ a.reached.marks_known r old
        | inr is ↦ subst (λ x. x.number ≤ count_of x.node s.queue.order) (sym is) (omega arith)
      ];
      passed = λ r turn. lacks_from marked_then r (λ h. elim (has_push s.queue.marked last r h) [
        | inl old ↦ never old (a.reached.passed r turn)
        | inr is ↦ never (ap (λ o. option_map_or (is_same last) o false) (turn ∙ ap Some is) ∙ is_same-self last) behind_one
      ]);
      held = a.reached.held;
      resting = a.reached.resting;
      turn = a.reached.turn;
    };
  }
