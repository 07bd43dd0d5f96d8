-- Proof that each step preserves the refinement relation between a state of the core and the abstract queue that the
-- state represents.
use Rattle.qolb_model.specs.declared.config.LineConfig.{LineConfig}
use Rattle.std.proofs.Common.{◌≡◌, ℕ, ◌<◌, true, List, ◌∷◌, length, refl, sym, ap, subst, arith}
use Rattle.std.specs.Prelude.{slice_index_or}
use Rattle.link_core.specs.declared.point.Point.TheVariants.{Linking, Holding, Leaving, Left, Rolled}
use Rattle.link_core.specs.declared.place.Place.TheVariants.{Home, Mailbox, Hand}
use Rattle.qolb_model.specs.Queue.{Queue}
use Rattle.link_core.specs.State.{State, IsWide, no_mask, empty, entry, seat, point, IsNode}
use Rattle.link_core.specs.Shown.{Matches}
use Rattle.link_core.specs.declared.told.Told.{Told as Answer}
use Rattle.link_core.specs.declared.event.Event.{Event}
use Rattle.qolb_model.specs.Histories.{IsLegal}
use Rattle.link_core.specs.Moves.{move_of, may_clear}
use Rattle.link_core.specs.Steps.{Step, node_of, leaving, closed_by, turns_after, point_at_end}
use Rattle.link_core.specs.Steps as row
use Rattle.link_core.proofs.Deeds.{Advances}
use Rattle.link_core.proofs.Changes.{changed_both, changed_seat, moved_both, moved_seat}
use Rattle.link_core.proofs.Follows.{sits_at}
use Rattle.link_core.proofs.Reset.{reset_keeps}
use Rattle.link_core.proofs.First.{prepend_first_keeps}
use Rattle.link_core.proofs.Prepend.{prepend_keeps}
use Rattle.link_core.proofs.Link.{link_keeps, link_done_keeps}
use Rattle.link_core.proofs.AtTurn.{come_keeps, load_waiting_keeps, load_busy_keeps, roll_keeps, rolls}
use Rattle.link_core.proofs.Rest.{write_keeps, close_line_keeps, closed_matches, load_free_keeps}
use Rattle.std.proofs.lemmas.List.{length-set}
use Rattle.link_core.specs.declared.seat.ReleaseCause.TheVariants.{Closing}
use Rattle.link_core.specs.State.{NodeCall}
use Rattle.link_core.proofs.Held.{home_failed_keeps, done_linked_keeps}
use Rattle.link_core.proofs.Leave.{home_keeps, done_left_keeps, done_rolled_keeps, marked_node}
use Rattle.link_core.proofs.Grant.{node_m, grant_keeps, grant_rolled_keeps}
use Rattle.link_core.proofs.Free.{freed_keeps}

-- a passed node that must be freed is a node
pub freed_node : {config : LineConfig} {c : State} {h : Queue} (n x : ℕ) (rest : List ℕ) (s : Matches config c h) → IsNode c n → (seat c n).passed ≡ x ∷ rest → IsNode c x
freed_node {c = c} n x rest s a ps =
    subst (λ (y : ℕ). IsNode c y) (ap (λ (ps : List ℕ). slice_index_or ps 0 0) ps) (s.passes n 0 a (subst (λ (ps : List ℕ). 0 < length ps) (sym ps) (omega arith))).node

pub freed_rolled : {config : LineConfig} {c : State} {h : Queue} (n x : ℕ) (rest : List ℕ) (s : Matches config c h) → IsNode c n → (seat c n).passed ≡ x ∷ rest → point c x ≡ Rolled
freed_rolled {c = c} n x rest s a ps =
    subst (λ (y : ℕ). point c y ≡ Rolled) (ap (λ (ps : List ℕ). slice_index_or ps 0 0) ps) (s.passes n 0 a (subst (λ (ps : List ℕ). 0 < length ps) (sym ps) (omega arith))).point

-- a holder that has closed the line
pub closed_wide : (c : State) (n : ℕ) → IsWide c → IsWide (closed_by n c)
closed_wide c n w = record { entries = w.entries; seats = let e = length-set c.seats n (record (seat c n) { point = Leaving n; reason = Closing }) in let k = w.seats in omega arith }

pub closed_point : (c : State) (n : ℕ) → IsWide c → IsNode c n → point (closed_by n c) n ≡ Leaving n
closed_point c n w a = ap (λ (s : NodeCall). s.point) (changed_seat c n (record (seat c n) { point = Leaving n; reason = Closing }) w a).seat_own

pub closed : {config : LineConfig} {c : State} {h : Queue} {n : ℕ} (s : Matches config c h) → IsWide c → IsNode c n → point c n ≡ Holding → Matches config (closed_by n c) h
closed {config} {c} {h} {n} s w a at = closed_matches config c h n s a at (moved_seat c c.home c.place true c.mask c.left n _ w a)

-- what each case does to the state and to the queue
module _ (config : LineConfig) (c : State) (h : Queue) (w : IsWide c) (s : Matches config c h) (l : IsLegal config.lease h.order h.ends) where
  pub step_keeps : {e : Event} {t : Answer} {d : State} (k : Step c e t d) → Advances config d h (node_of e) t (move_of k h.order) (may_clear e (move_of k h.order))
  step_keeps (row.reset n a at) = reset_keeps config c h n s a at _ _ (changed_both c n _ n empty w a a)
  step_keeps (row.prepend_first n a at e) = prepend_first_keeps config c h n _ s a at e (moved_seat c n (Hand n) c.closed no_mask c.left n _ w a)
  step_keeps (row.prepend n a at ne) = prepend_keeps config c h n _ s a at ne (moved_seat c n c.place c.closed c.mask c.left n _ w a)
  step_keeps (row.link_done n p a at dn) = link_done_keeps config c h n p _ _ s a at dn (moved_both c c.home (Hand n) c.closed no_mask c.left n _ p _ w a (sits_at s n (Linking p) a at).node)
  step_keeps (row.link n p a at dn) = link_keeps config c h n p _ _ s a at dn (changed_both c n _ p _ w a (sits_at s n (Linking p) a at).node)
  step_keeps (row.load_granted n a at gr) = come_keeps config c h n s a at gr c.entries _ (entry c n) (moved_seat c c.home (Hand n) c.closed no_mask c.left n _ w a) refl refl refl refl
  step_keeps (row.load_waiting n a at un) = load_waiting_keeps config c h n s a at un
  step_keeps (row.load_free n a at fr) = load_free_keeps config c h n s a at fr _ (changed_seat c n _ w a)
  step_keeps (row.load_busy n a at un) = load_busy_keeps config c h n s a un
  step_keeps (row.home n e a r f) = home_keeps s a e r _ f (moved_seat c 0 Home c.closed c.mask (turns_after n c) n _ w a)
  step_keeps (row.home_failed n e a r ne) = home_failed_keeps config c h n e s a r ne _ (changed_seat c n _ w a)
  step_keeps (row.home_last n a at last f) =
      let c1 : State = closed_by n c in
      home_keeps (closed s w a at) a n (leaving (closed_point c n w a)) _ f (moved_seat c1 0 Home c1.closed c1.mask (turns_after n c1) n _ (closed_wide c n w) a)
  step_keeps (row.home_last_failed n a at last ne) = home_failed_keeps config (closed_by n c) h n n (closed s w a at) a (leaving (closed_point c n w a)) ne _ (changed_seat (closed_by n c) n _ (closed_wide c n w) a)
  step_keeps (row.done_left n e a at un f) = done_left_keeps s a at un Left (moved_both c c.home (Mailbox e) c.closed c.mask (turns_after n c) n _ e _ w a (marked_node s a at)) f refl
  step_keeps (row.done_rolled n e a at un ne) = done_rolled_keeps s a at un (point_at_end (seat c n).reason) (moved_both c c.home (Mailbox e) c.closed c.mask (turns_after n c) n _ e _ w a (marked_node s a at)) ne refl
  step_keeps (row.done_linked n e a at ne) = done_linked_keeps config c h n e s a at ne _ _ (changed_both c n _ e _ w a (marked_node s a at))
  step_keeps (row.grant n m a at un) = grant_keeps s a at un (moved_both c c.home (Mailbox m) c.closed c.mask (turns_after n c) n _ m _ w a (node_m s a at))
  step_keeps (row.grant_rolled n m a at ro) = grant_rolled_keeps s a at ro (moved_both c c.home c.place c.closed c.mask (turns_after n c) n _ m _ w a (node_m s a at))
  step_keeps (row.roll_granted n a at gr) = come_keeps config c h n s a at gr _ _ (rolls (entry c n)) (moved_both c c.home (Hand n) c.closed no_mask c.left n _ n _ w a a) refl refl refl refl
  step_keeps (row.roll n a at un) = roll_keeps config c h n s a at un _ _ (changed_both c n _ n _ w a a) l
  step_keeps (row.freed n x rest a at ps) = freed_keeps config c h n x rest s a at ps _ _ (changed_both c n _ x _ w a (freed_node n x rest s a ps))
  step_keeps (row.write n mask bytes a at) = write_keeps config c h n s a at mask bytes
  step_keeps (row.close n a at) = close_line_keeps config c h n s a at (moved_seat c c.home c.place true c.mask c.left n _ w a)
