-- Lemmas about bounds on the states of the machine. For example, a node's point names only nodes of the line, and no
-- step changes the number of nodes.
use Rattle.qolb_model.specs.declared.config.LineConfig.{LineConfig}
use Rattle.std.proofs.Common.{◌≡◌, ℕ, length, refl, ◌∙◌, ap, subst, inl, inr, arith}
use Rattle.link_core.specs.declared.point.Point.{Point}
use Rattle.link_core.specs.declared.point.Point.TheVariants.{Idle, Ready, Linking, Queued, Holding, Leaving, Marking, Granting, Freeing, Left, Rolled, Shut}
use Rattle.qolb_model.specs.Queue.{Queue}
use Rattle.link_core.specs.State.{State, IsWide, point, IsNode, current}
use Rattle.link_core.specs.Shown.{has_line, Sits, Matches}
use Rattle.std.proofs.lemmas.List.{length-set}
use Rattle.link_core.specs.declared.told.Told.{Told as Answer}
use Rattle.link_core.specs.declared.event.Event.{Event}
use Rattle.link_core.proofs.Short.{none_follows}
use Rattle.link_core.specs.Steps.{closed_by, Step, Fits, Names, node_of}
use Rattle.link_core.specs.Steps as row
use Rattle.link_core.specs.Promise.{IsSound}
use Rattle.link_core.proofs.Follows.{sits_at, current_cases}
use Rattle.link_core.proofs.Grant.{node_m}

module _ {config : LineConfig} {c : State} {h : Queue} (s : Matches config c h) where
  pub names : (n : ℕ) → IsNode c n → Names c (point c n)
  names n a = go (point c n) refl (s.sits n a)
    where
      cur : IsNode c (current c n)
      cur = elim (current_cases s n a) [ inl j ↦ rw (j.1) a | inr j ↦ j.node ]

      go : (p : Point) → point c n ≡ p → Sits c h.order h.ends n p → Names c p
      go Idle e y = tt
      go Ready e y = tt
      go Shut e y = tt
      go Left e y = tt
      go Freeing e y = tt
      go Rolled e y = tt
      go Queued e y = tt
      go Holding e y = tt
      go (Linking q) e y = y.node
      go (Leaving x) e y = subst (λ (x : ℕ). IsNode c x) y.is cur
      go (Marking x) e y = subst (λ (x : ℕ). IsNode c x) y.0.is cur
      go (Granting x) e y = node_m s a e

pub sound_fits : (c : State) → IsSound c → Fits c
sound_fits c w = record {
  nodes = w.nodes;
  points = names w.shows.matches;
  passed = λ n i a l. (w.shows.matches.passes n i a l).node;
  room = λ n m a e. let k = none_follows w.shows.matches n a (ap has_line e) (sits_at w.shows.matches n (Granting m) a e).1 in let j = w.nodes in omega arith;
  freeing = λ n a e f. (sits_at w.shows.matches n Freeing a e).1 f;
}

pub sound_wide : (c : State) → IsSound c → IsWide c
sound_wide c w = record { entries = let a = w.nodes in let b = w.entries in omega arith; seats = let a = w.nodes in let b = w.seats in omega arith }

pub step_sizes : (c : State) {e : Event} {t : Answer} {d : State} → Step c e t d → (d.nodes ≡ c.nodes) × (length d.entries ≡ length c.entries) × (length d.seats ≡ length c.seats)
step_sizes c (row.reset n a at) = (refl, length-set c.entries n _, length-set c.seats n _)
step_sizes c (row.prepend_first n a at e) = (refl, refl, length-set c.seats n _)
step_sizes c (row.prepend n a at ne) = (refl, refl, length-set c.seats n _)
step_sizes c (row.link_done n p a at dn) = (refl, length-set c.entries p _, length-set c.seats n _)
step_sizes c (row.link n p a at dn) = (refl, length-set c.entries p _, length-set c.seats n _)
step_sizes c (row.load_granted n a at gr) = (refl, refl, length-set c.seats n _)
step_sizes c (row.load_waiting n a at un) = (refl, refl, refl)
step_sizes c (row.load_free n a at fr) = (refl, refl, length-set c.seats n _)
step_sizes c (row.load_busy n a at un) = (refl, refl, refl)
step_sizes c (row.home n e a r f) = (refl, refl, length-set c.seats n _)
step_sizes c (row.home_failed n e a r ne) = (refl, refl, length-set c.seats n _)
step_sizes c (row.home_last n a at l f) = (refl, refl, length-set (closed_by n c).seats n _ ∙ length-set c.seats n _)
step_sizes c (row.home_last_failed n a at l ne) = (refl, refl, length-set (closed_by n c).seats n _ ∙ length-set c.seats n _)
step_sizes c (row.done_left n e a at un f) = (refl, length-set c.entries e _, length-set c.seats n _)
step_sizes c (row.done_rolled n e a at un ne) = (refl, length-set c.entries e _, length-set c.seats n _)
step_sizes c (row.done_linked n e a at ne) = (refl, length-set c.entries e _, length-set c.seats n _)
step_sizes c (row.grant n m a at un) = (refl, length-set c.entries m _, length-set c.seats n _)
step_sizes c (row.grant_rolled n m a at ro) = (refl, length-set c.entries m _, length-set c.seats n _)
step_sizes c (row.roll_granted n a at gr) = (refl, length-set c.entries n _, length-set c.seats n _)
step_sizes c (row.roll n a at un) = (refl, length-set c.entries n _, length-set c.seats n _)
step_sizes c (row.freed n x rest a at ps) = (refl, length-set c.entries x _, length-set c.seats n _)
step_sizes c (row.write n mask bytes a at) = (refl, refl, refl)
step_sizes c (row.close n a at) = (refl, refl, length-set c.seats n _)

pub step_wide : (c : State) {e : Event} {t : Answer} {d : State} → IsWide c → Step c e t d → IsWide d
step_wide c w p = let z = step_sizes c p in record { entries = let a = w.entries in omega arith; seats = let a = w.seats in omega arith }
