-- What each call on a node guarantees, whatever the kind of its line. `was` and `now` are the node before and after the
-- call. The definitions in this file were made for this project; none is taken from the literature.
use Rattle.std.specs.Prelude.{◌≡◌, ◌≢◌, ℕ, ◌+◌, ◌<◌, ◌≤◌, List, Bool, true}
use Rattle.line_lanes.specs.Lane.{lane_of}
use Rattle.qolb_model.specs.declared.answer.Enq.TheVariants as enq
use Rattle.qolb_model.specs.declared.answer.Prep.TheVariants as prep
use Rattle.qolb_model.specs.declared.answer.Poll.TheVariants as poll
use Rattle.qolb_model.specs.declared.answer.Out.TheVariants as out
use Rattle.qolb_model.specs.declared.answer.PortState.{PortState}
use Rattle.qolb_model.specs.declared.answer.PortState.TheVariants.{Linking, Queued, Holding}
use Rattle.qolb_model.specs.declared.view.View.{View}
use Rattle.qolb_model.specs.Counting.{Counters}
use Rattle.qolb_model.specs.declared.write.Write.{Write}
use Rattle.qolb_model.specs.Calls as line
use Rattle.qolb_model.specs.Leases.{turns_left}
use Rattle.qolb_model.specs.OneOwner.{turn_after}
use Rattle.qolb_model.specs.PortStates.{may_ask}
use Rattle.line_generic.specs.AtTurn.{Names, SeesTurn}
use Rattle.line_kinds.specs.declared.Lock.{Lock}
use Rattle.line_kinds.specs.declared.Lock.TheVariants as lines
use Rattle.qolb_nodes.specs.declared.answer.Answer.{Answer}
use Rattle.qolb_nodes.specs.declared.answer.Answer.TheVariants as answer
use Rattle.qolb_nodes.specs.declared.any_node.AnyNode.{AnyNode}
use Rattle.qolb_nodes.specs.Answers.{enq_told, poll_told, out_told, prep_told, clear_told}
use Rattle.qolb_nodes.specs.Nodes.{anything, IsOneCall, PollsWithin, turns_number, with_lane, with_added}
use Rattle.qolb_nodes.specs.NodeInfo.{info_of}
use Rattle.qolb_nodes.specs.Waits.{wait_word_of, wake_word_of, went_to_of}

-- the view of the node's port
abbrev pub view_of : AnyNode → View
view_of node = (info_of node).port.view

-- the write of the node, if it holds the line
abbrev pub turn_of : AnyNode → Write
turn_of node = (info_of node).port.turn

-- the node's counters of atomic steps and polls
abbrev pub counters_of : AnyNode → Counters
counters_of node = (info_of node).port.counters

abbrev pub poll_count_of : AnyNode → ℕ
poll_count_of node = (counters_of node).poll_count

-- the most atomic steps that one call of the node's line takes
abbrev pub max_steps_of : AnyNode → ℕ
max_steps_of node = (info_of node).max_steps (info_of node).nodes + 3

-- the node made one call of its line, which did not poll
abbrev pub CallsOnce : AnyNode → AnyNode → Type 0
CallsOnce was now = IsOneCall (max_steps_of was) (counters_of was) (counters_of now)

abbrev pub state_of : AnyNode → PortState
state_of node = (view_of node).state

-- the node has released, and has noted the word of the node at its turn, as its view has it
abbrev pub NamesNext : AnyNode → Type 0
NamesNext node = Names (wake_word_of node (view_of node)) (went_to_of node)

-- the word on which the node waits is the same as before
abbrev pub KeepsWord : AnyNode → AnyNode → Type 0
KeepsWord was now = wait_word_of now ≡ wait_word_of was

-- two nodes are of one line: one is the other, except for its port
abbrev pub AreOfOneLine : AnyNode → AnyNode → Type 0
AreOfOneLine a b = (info_of a).with_port (info_of b).port ≡ b

-- the kind of a node's line
abbrev pub kind_of : AnyNode → Lock
kind_of node = (info_of node).kind

-- A call that the node's state may forbid. If the state forbids it, the answer is misuse, and nothing changes. If the
-- state allows it, the line's call is made, with this promise for its own answer. The node is still of the same line.
pub record IsCall {A : Type 0} (Allowed : Type 0) (told : A → Answer) (Promise : A → Type 0) (was now : AnyNode) (a : Answer) : Type 0 where
  pub misuse : ¬ Allowed → (a ≡ answer.Misuse) × (now ≡ was)
  pub does : Allowed → (made : A) × (a ≡ told made) × Promise made
  pub line : AreOfOneLine was now

-- a call that is done if the node's state allows it
abbrev pub IsDone : Type 0 → Type 0 → AnyNode → AnyNode → Answer → Type 0
IsDone Allowed Promise was now a = IsCall Allowed (λ (made : Unit {0}). answer.Done) (λ _. Promise) was now a

-- What `enqolb` promises. It is allowed if the node neither waits nor holds the line, and it does not poll. If the line
-- is closed, the node has forwarded it, and has noted the next word.
abbrev pub Enqolbs : AnyNode → AnyNode → Answer → Type 0
Enqolbs was now a = IsCall (may_ask (state_of was) ≡ true) enq_told (λ made. line.Enqueues anything (view_of was) (view_of now) (turn_of now) made × CallsOnce was now × (made ≡ enq.Closed → NamesNext now)) was now a

-- What `poll` promises. It is allowed if the node waits, and it polls once.
abbrev pub Polls : AnyNode → AnyNode → Answer → Type 0
Polls was now a = IsCall (state_of was ≡ Queued) poll_told (λ made. line.Polls anything (view_of was) (view_of now) (turn_of now) made × (poll_count_of now ≡ poll_count_of was + 1) × (made ≡ poll.Closed → NamesNext now) × KeepsWord was now) was now a

-- What `wait` promises. It is allowed if the node waits and `polls` is at least 1. It promises what `poll` does, and
-- the number of its polls.
abbrev pub Waits : ℕ → AnyNode → AnyNode → Answer → Type 0
Waits polls was now a =
    IsCall ((state_of was ≡ Queued) × (0 < polls)) poll_told (λ made. line.Polls anything (view_of was) (view_of now) (turn_of now) made × PollsWithin polls (poll_count_of was) (poll_count_of now) made × (made ≡ poll.Closed → NamesNext now) × KeepsWord was now) was now a

-- What `prepend` and `link` promise, on a link line. `prepend` is allowed if the node neither waits nor holds the line,
-- and `link` if it is linking. Neither of them polls.
abbrev pub Prepends : AnyNode → AnyNode → Answer → Type 0
Prepends was now a = IsCall ((kind_of was ≡ lines.Link) × (may_ask (state_of was) ≡ true)) prep_told (λ made. line.Prepends anything (view_of was) (view_of now) (turn_of now) made × CallsOnce was now × (made ≡ prep.Closed → NamesNext now)) was now a

abbrev pub LinksUp : AnyNode → AnyNode → Answer → Type 0
LinksUp was now a = IsCall ((kind_of was ≡ lines.Link) × (state_of was ≡ Linking)) enq_told (λ made. line.LinksUp anything (view_of was) (view_of now) (turn_of now) made × CallsOnce was now × (made ≡ enq.Closed → NamesNext now)) was now a

-- What `withdraw` promises. It is allowed if the node waits, and it does not poll.
abbrev pub Withdraws : AnyNode → AnyNode → Answer → Type 0
Withdraws was now a = IsCall (state_of was ≡ Queued) out_told (λ made. line.Withdraws anything (view_of was) (view_of now) (turn_of now) made × CallsOnce was now × (made ≡ out.Closed → NamesNext now)) was now a

-- What `clear` promises. It is allowed if the node neither waits nor holds the line. It makes no request, and does not
-- poll.
abbrev pub LooksIfClear : AnyNode → AnyNode → Answer → Type 0
LooksIfClear was now a = IsCall (may_ask (state_of was) ≡ true) clear_told (λ clear. line.LooksIfClear anything (view_of was) (view_of now) clear × CallsOnce was now) was now a

-- what `read` promises: if the node holds the line, its bytes are written to `out`, and nothing else changes
abbrev pub Reads : List ℕ → List ℕ → AnyNode → AnyNode → Answer → Type 0
Reads out_was out_now was now a = IsDone (state_of was ≡ Holding) (out_now ≡ (turn_of was).bytes.bytes) was now a × (now ≡ was) × (state_of was ≢ Holding → out_now ≡ out_was)

-- what `write` promises: if the node holds the line, the bytes of the mask are written
abbrev pub Writes : ℕ → List ℕ → AnyNode → AnyNode → Answer → Type 0
Writes mask bytes was now a = IsDone (state_of was ≡ Holding) ((view_of now ≡ view_of was) × (turn_of now ≡ turn_after (turn_of was) mask bytes)) was now a

-- What `read_lane` and `write_lane` promise: the same as `read` and `write`, for one of the eight lanes.
abbrev pub ReadsLane : ℕ → ℕ → ℕ → AnyNode → AnyNode → Answer → Type 0
ReadsLane k out_was out_now was now a =
    IsDone ((state_of was ≡ Holding) × (k < 8)) (out_now ≡ lane_of (turn_of was).bytes.bytes k) was now a × (now ≡ was) × (((state_of was ≡ Holding) × (k < 8) → ⊥) → out_now ≡ out_was)

abbrev pub WritesLane : ℕ → ℕ → AnyNode → AnyNode → Answer → Type 0
WritesLane k value was now a =
    IsDone ((state_of was ≡ Holding) × (k < 8)) ((view_of now ≡ view_of was) × (turn_of now ≡ with_lane (turn_of was) k value)) was now a

-- what `write_lane` promises for one of the eight lanes
abbrev pub WritesLaneAt : ℕ → ℕ → AnyNode → AnyNode → Answer → Type 0
WritesLaneAt k value was now a = IsDone (state_of was ≡ Holding) ((view_of now ≡ view_of was) × (turn_of now ≡ with_lane (turn_of was) k value)) was now a

-- What `add_lane` promises: if the node holds the line, `by` is added to a lane modulo 2^64, and what the lane had
-- before is written to `out`. Otherwise `out` is unchanged.
abbrev pub AddsLane : ℕ → ℕ → ℕ → ℕ → AnyNode → AnyNode → Answer → Type 0
AddsLane k by out_was out_now was now a =
    IsDone ((state_of was ≡ Holding) × (k < 8)) ((view_of now ≡ view_of was) × (turn_of now ≡ with_added (turn_of was) k by) × (out_now ≡ lane_of (turn_of was).bytes.bytes k)) was now a
    × (((state_of was ≡ Holding) × (k < 8) → ⊥) → out_now ≡ out_was)

-- What `deqolb` promises, and `shut` if the argument is true. It is allowed if the node holds the line. The node has
-- noted the next holder's word.
abbrev pub Releases : Bool → AnyNode → AnyNode → Answer → Type 0
Releases shut was now a = IsDone (state_of was ≡ Holding) (line.Releases anything shut (view_of was) (view_of now) (turn_of was) × CallsOnce was now × NamesNext now) was now a

-- if the node holds the line, the number of turns left, including the holder's own, which is at least 1; otherwise 0
pub record TellsTurns (node : AnyNode) (n : ℕ) : Type 0 where
  pub holds : state_of node ≡ Holding → n ≡ turns_number (turns_left (view_of node).config.lease (view_of node).ends)
  pub some : state_of node ≡ Holding → 1 ≤ n
  pub none : state_of node ≢ Holding → n ≡ 0

-- the word on which the node waits, or, if it holds the line, the word of its turn, as any port knows it that sees the
-- turn
pub record TellsWord (node : AnyNode) (n : ℕ) : Type 0 where
  pub word : n ≡ wait_word_of node
  pub turn : state_of node ≡ Holding → (u : View) → SeesTurn u (view_of node) → n ≡ wake_word_of node u
