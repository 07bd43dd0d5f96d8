-- Proof that an event can occur only if the acting node's point allows it. (The point records how far the node's call
-- has got.)
use Rattle.std.proofs.Common.{◌≡◌, true, refl, inl, inr}
use Rattle.link_core.specs.State.{State, point, IsNode}
use Rattle.link_core.specs.declared.told.Told.{Told as Answer}
use Rattle.link_core.specs.declared.event.Event.{Event}
use Rattle.link_core.specs.Steps.{Step, Releases, holding, leaving, node_of, allows}
use Rattle.link_core.specs.Steps as row

pub step_allowed : (c : State) {e : Event} {t : Answer} {d : State} → Step c e t d → IsNode c (node_of e) × (allows e (point c (node_of e)) ≡ true)
step_allowed c (row.reset n a (inl at)) = (a, rw at refl)
step_allowed c (row.reset n a (inr at)) = (a, rw at refl)
step_allowed c (row.prepend_first n a at e) = (a, rw at refl)
step_allowed c (row.prepend n a at ne) = (a, rw at refl)
step_allowed c (row.link_done n p a at dn) = (a, rw at refl)
step_allowed c (row.link n p a at dn) = (a, rw at refl)
step_allowed c (row.load_granted n a at gr) = (a, rw at refl)
step_allowed c (row.load_waiting n a at un) = (a, rw at refl)
step_allowed c (row.load_free n a (inl at) fr) = (a, rw at refl)
step_allowed c (row.load_free n a (inr at) fr) = (a, rw at refl)
step_allowed c (row.load_busy n a (inl at) un) = (a, rw at refl)
step_allowed c (row.load_busy n a (inr at) un) = (a, rw at refl)
step_allowed c (row.home n e a (holding at i l) f) = (a, rw at refl)
step_allowed c (row.home n e a (leaving at) f) = (a, rw at refl)
step_allowed c (row.home_failed n e a (holding at i l) ne) = (a, rw at refl)
step_allowed c (row.home_failed n e a (leaving at) ne) = (a, rw at refl)
step_allowed c (row.home_last n a at l f) = (a, rw at refl)
step_allowed c (row.home_last_failed n a at l ne) = (a, rw at refl)
step_allowed c (row.done_left n e a at un f) = (a, rw at refl)
step_allowed c (row.done_rolled n e a at un ne) = (a, rw at refl)
step_allowed c (row.done_linked n e a at ne) = (a, rw at refl)
step_allowed c (row.grant n m a at un) = (a, rw at refl)
step_allowed c (row.grant_rolled n m a at ro) = (a, rw at refl)
step_allowed c (row.roll_granted n a at gr) = (a, rw at refl)
step_allowed c (row.roll n a at un) = (a, rw at refl)
step_allowed c (row.freed n x rest a at ps) = (a, rw at refl)
step_allowed c (row.write n mask bytes a at) = (a, rw at refl)
step_allowed c (row.close n a at) = (a, rw at refl)
