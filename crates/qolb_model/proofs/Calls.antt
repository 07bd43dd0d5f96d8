-- Lemmas about each call on a plain line: the call's answer, the moves that it makes, and the state after it.
use Rattle.std.proofs.Common.{◌≡◌, ℕ, ◌≤◌, Bool, true, false, not, ◌&&◌, if◌then◌else◌, List, [], ◌∷◌, ◌++◌, map, refl, ap, sym, ◌∙◌, subst}
use Rattle.std.specs.List.{list_any}
use Rattle.qolb_model.specs.declared.answer.Poll.{Poll}
use Rattle.qolb_model.specs.declared.answer.Poll.TheVariants as poll
use Rattle.qolb_model.specs.declared.answer.Enq.TheVariants as enq
use Rattle.qolb_model.specs.declared.waiter.Waiter.{Waiter}
use Rattle.qolb_model.specs.declared.answer.PortState.TheVariants as port
use Rattle.qolb_model.specs.Requests.{has, last_of}
use Rattle.qolb_model.specs.Queue.{ask, Runs}
use Rattle.qolb_model.specs.OneOwner.{OwnerState, is_first, is_open, is_rolled, poll_answer, poll_moves, after_poll, as_enq, after_ask, enq_answer, enq_moves, after_enq, clear_answer, as_out, out_answer, mark_last, out_moves, after_out, after_moves, release_moves, after_release}
use Rattle.qolb_model.specs.Plain.{PlainView, is_at, is_oldest, node_state, Agrees}
use Rattle.qolb_model.specs.PortStates.{may_ask}
use Rattle.qolb_model.specs.Steps.{withdrawn_at, with_waiter, turn_served, look_answer, looked}
use Rattle.qolb_model.proofs.Agreed.{waits-is_open, oldest-is_first, when_queued, when_holding, when_rolled, not_both}
use Rattle.qolb_model.proofs.Steps.{runs_ask, agrees_ask, resting_ask, look_answer-poll_answer, looks, releases, runs_mark, agrees_mark}
use Rattle.qolb_model.proofs.Runs.{has_cleared_none}

-- a node makes a request while its entry is still in the queue
module _ (line : PlainView) (s : OwnerState) (node : ℕ) (a : Agrees line s) (may : may_ask (node_state line node) ≡ true) (waits : list_any (is_at node) line.waiting ≡ true) where
  -- the node's last request is open and was withdrawn
  stands : is_open s.queue node ≡ true
  stands = sym (waits-is_open line s a node) ∙ waits

  rolled : is_rolled s.queue node ≡ true
  rolled = ap (λ b. b && has s.queue.marked (last_of node s.queue.order)) stands ∙ when_rolled line s a node may stands

  -- the node is therefore busy, and nothing changes
  pub busy-answer : enq.Busy ≡ enq_answer s node
  busy-answer = ap (λ b. if b then enq.Busy else as_enq (poll_answer (after_ask s node) node)) (sym rolled)

  pub busy-moves : Runs s.config s.queue (enq_moves s node) (after_enq s node).queue
  busy-moves =
      subst
      (λ b. Runs s.config s.queue (if b then [] else ask node ∷ poll_moves (poll_answer (after_ask s node) node) (after_ask s node)) (if b then s else after_poll (poll_answer (after_ask s node) node) (after_ask s node)).queue)
      (sym rolled) (has_cleared_none s.queue)

  pub busy-agrees : Agrees line (after_enq s node)
  busy-agrees = subst (λ b. Agrees line (if b then s else after_poll (poll_answer (after_ask s node) node) (after_ask s node))) (sym rolled) a

-- a node that has no entry makes a request
module _ (line : PlainView) (s : OwnerState) (node : ℕ) (a : Agrees line s) (low : 1 ≤ node) (high : node ≤ line.nodes) (quiet : list_any (is_at node) line.waiting ≡ false) where
  -- the node's last request has ended
  no_open : is_open s.queue node ≡ false
  no_open = sym (waits-is_open line s a node) ∙ quiet

  not_rolled : is_rolled s.queue node ≡ false
  not_rolled = ap (λ b. b && has s.queue.marked (last_of node s.queue.order)) no_open

  of_line : node ≤ s.config.nodes
  of_line = subst (λ nodes. node ≤ nodes) a.nodes high

  abbrev pub asked_state : OwnerState
  asked_state = after_ask s node

  -- the line still agrees after the node made its request, and after it looked
  agrees_asked : Agrees (with_waiter line node) (after_ask s node)
  agrees_asked = agrees_ask line s node a low of_line no_open

  looks_asked : Runs s.config asked_state.queue (poll_moves (poll_answer asked_state node) asked_state) (after_poll (poll_answer asked_state node) asked_state).queue
      × Agrees (looked (poll_answer asked_state node) (with_waiter line node)) (after_poll (poll_answer asked_state node) asked_state)
  looks_asked = looks (with_waiter line node) asked_state node (poll_answer asked_state node) agrees_asked refl (resting_ask line s node a low of_line no_open)

  -- the moves that the node makes
  pub asks-moves : Runs s.config s.queue (enq_moves s node) (after_enq s node).queue
  asks-moves =
      subst
      (λ b. Runs s.config s.queue (if b then [] else ask node ∷ poll_moves (poll_answer asked_state node) asked_state) (if b then s else after_poll (poll_answer asked_state node) asked_state).queue)
      (sym not_rolled) (runs_ask line s node a low of_line no_open _ _ looks_asked.0)

  -- the node is put behind all others, and polls
  module _ (joined : PlainView) (as_joined : joined ≡ with_waiter line node) (p : Poll) (is : p ≡ look_answer joined node) where
    answered_so : p ≡ poll_answer asked_state node
    answered_so = is ∙ (ap (λ l. look_answer l node) as_joined ∙ look_answer-poll_answer (with_waiter line node) asked_state node agrees_asked)

    pub asks-answer : as_enq p ≡ enq_answer s node
    asks-answer = ap as_enq answered_so ∙ ap (λ b. if b then enq.Busy else as_enq (poll_answer asked_state node)) (sym not_rolled)

    pub asks-agrees : (new : PlainView) → new ≡ looked p joined → Agrees new (after_enq s node)
    asks-agrees new e =
        subst (λ l. Agrees l (after_enq s node)) (sym (e ∙ ap (looked p) as_joined))
        (subst (λ b. Agrees (looked p (with_waiter line node)) (if b then s else after_poll (poll_answer asked_state node) asked_state)) (sym not_rolled)
        (subst (λ x. Agrees (looked x (with_waiter line node)) (after_poll (poll_answer asked_state node) asked_state)) (sym answered_so) looks_asked.1))

-- a line with one more entry
pub is_joined : (line view : PlainView) (ws : List Waiter) (node : ℕ) → view ≡ line → ws ≡ view.waiting ++ record { node = node; withdrawn = false } ∷ []
    → let joined : PlainView = record view { waiting = ws } in joined ≡ with_waiter line node
is_joined line view ws node e items = ap (λ xs. let v : PlainView = record view { waiting = xs } in v) items ∙ ap (λ l. with_waiter l node) e

-- a node that waits looks
module _ (line : PlainView) (s : OwnerState) (node : ℕ) (a : Agrees line s) (waits : node_state line node ≡ port.Queued) (p : Poll) (is : p ≡ look_answer line node) where
  -- the node's answer, its moves and the state that it leaves
  pub polls-answer : p ≡ poll_answer s node
  polls-answer = is ∙ look_answer-poll_answer line s node a

  looks_so : Runs s.config s.queue (poll_moves p s) (after_poll p s).queue × Agrees (looked p line) (after_poll p s)
  looks_so = looks line s node p a (sym polls-answer) (not_both s.granted (is_first s.queue node) (when_queued line s a node waits).2)

  pub polls-moves : Runs s.config s.queue (poll_moves p s) (after_poll p s).queue
  polls-moves = looks_so.0

  pub polls-agrees : Agrees (looked p line) (after_poll p s)
  polls-agrees = looks_so.1

  -- the answer if the node withdraws
  pub gives_up-answer : as_out p ≡ out_answer s node
  gives_up-answer = ap as_out polls-answer

-- the node's request is at its turn
module _ (line : PlainView) (s : OwnerState) (node : ℕ) (a : Agrees line s) (waits : node_state line node ≡ port.Queued) (p : Poll) (is : p ≡ look_answer line node) (first : is_oldest line node ≡ true) where
  at_turn : is_first s.queue node ≡ true
  at_turn = sym (oldest-is_first line s a node) ∙ first

  -- giving up is therefore a look
  pub gives_up-moves : Runs s.config s.queue (out_moves s node) (after_out s node).queue
  gives_up-moves =
      subst (λ b. Runs s.config s.queue (if b then poll_moves (poll_answer s node) s else mark_last s node) (if b then after_poll (poll_answer s node) s else after_moves (mark_last s node) s).queue) (sym at_turn)
      (subst (λ x. Runs s.config s.queue (poll_moves x s) (after_poll x s).queue) (polls-answer line s node a waits p is) (polls-moves line s node a waits p is))

  pub gives_up-agrees : Agrees (looked p line) (after_out s node)
  gives_up-agrees =
      subst (λ b. Agrees (looked p line) (if b then after_poll (poll_answer s node) s else after_moves (mark_last s node) s)) (sym at_turn)
      (subst (λ x. Agrees (looked p line) (after_poll x s)) (polls-answer line s node a waits p is) (polls-agrees line s node a waits p is))

-- the node's request is not at its turn
module _ (line : PlainView) (s : OwnerState) (node : ℕ) (a : Agrees line s) (waits : node_state line node ≡ port.Queued) (later : is_oldest line node ≡ false) where
  behind_one : is_first s.queue node ≡ false
  behind_one = sym (oldest-is_first line s a node) ∙ later

  -- giving up is therefore a mark
  pub marks-moves : Runs s.config s.queue (out_moves s node) (after_out s node).queue
  marks-moves =
      let h = when_queued line s a node waits in
      subst (λ b. Runs s.config s.queue (if b then poll_moves (poll_answer s node) s else mark_last s node) (if b then after_poll (poll_answer s node) s else after_moves (mark_last s node) s).queue) (sym behind_one)
      (runs_mark line s node a h.0 h.1 behind_one)

  pub marks-agrees : Agrees (record line { waiting = map (withdrawn_at node) line.waiting }) (after_out s node)
  marks-agrees =
      let h = when_queued line s a node waits in
      subst (λ b. Agrees (record line { waiting = map (withdrawn_at node) line.waiting }) (if b then after_poll (poll_answer s node) s else after_moves (mark_last s node) s)) (sym behind_one)
      (agrees_mark line s node a h.0 h.1 behind_one)

-- what the answer of a look says of the line
pub look-granted : (line : PlainView) (node : ℕ) → poll.Granted ≡ look_answer line node → is_oldest line node ≡ true
look-granted line node e = by (is_oldest line node) line.closed e
  where
    by : (f c : Bool) → poll.Granted ≡ (if f then (if c then poll.Closed else poll.Granted) else poll.Waiting) → f ≡ true
    by true c e = refl
    by false c e = cc e

pub look-closed : (line : PlainView) (node : ℕ) → poll.Closed ≡ look_answer line node → is_oldest line node ≡ true
look-closed line node e = by (is_oldest line node) line.closed e
  where
    by : (f c : Bool) → poll.Closed ≡ (if f then (if c then poll.Closed else poll.Granted) else poll.Waiting) → f ≡ true
    by true c e = refl
    by false c e = cc e

pub look-waiting : (line : PlainView) (node : ℕ) → poll.Waiting ≡ look_answer line node → is_oldest line node ≡ false
look-waiting line node e = by (is_oldest line node) line.closed e
  where
    by : (f c : Bool) → poll.Waiting ≡ (if f then (if c then poll.Closed else poll.Granted) else poll.Waiting) → f ≡ false
    by true true e = cc e
    by true false e = cc e
    by false c e = refl

-- the holder releases, or shuts
module _ (line : PlainView) (s : OwnerState) (node : ℕ) (shut : Bool) (a : Agrees line s) (holds : node_state line node ≡ port.Holding) where
  ends_so : Runs s.config s.queue (release_moves s shut) (after_release s shut).queue × Agrees (turn_served shut line) (after_release s shut)
  ends_so = let h = when_holding line s a node holds in releases line s node shut a h.1 h.2

  pub releases-moves : Runs s.config s.queue (release_moves s shut) (after_release s shut).queue
  releases-moves = ends_so.0

  pub releases-agrees : Agrees (turn_served shut line) (after_release s shut)
  releases-agrees = ends_so.1

pub not-not : (b : Bool) → not (not b) ≡ b
not-not true = refl
not-not false = refl

-- a node that may make a request is clear if it has no entry
pub clear-answer : (line : PlainView) (s : OwnerState) (node : ℕ) → Agrees line s → may_ask (node_state line node) ≡ true → 1 ≤ node → node ≤ line.nodes → (b : Bool) → list_any (is_at node) line.waiting ≡ b → not b ≡ clear_answer s node
clear-answer line s node a may low high true waits = ap not (sym (rolled line s node a may waits))
clear-answer line s node a may low high false quiet = ap not (sym (not_rolled line s node a low high quiet))
