use Rattle.std.proofs.Common.{◌≡◌, ◌<◌, ℕ, length, get_or}
use Rattle.qolb_model.specs.Plain.{node_state}
use Rattle.qolb_model.specs.declared.answer.PortState.TheVariants as port
use Rattle.qolb_draw.proofs.follow.look_at_all.Given as goal

abbrev pub invariant-loop-node : goal.invariant-loop-node
invariant-loop-node g l = (length l.states.items ≡ length l.fn.states.items) × ((n : ℕ) → n < l.node → get_or l.states.items n port.Idle ≡ node_state l.line n)
