-- Proof that the move of each event belongs to the acting node, and that the abstract queue allows this move.
use Rattle.qolb_model.specs.declared.config.LineConfig.{LineConfig}
use Rattle.std.proofs.Common.{◌≡◌, ℕ, ◌≤◌, true, false, List, [], ◌∷◌, length, Option, Some, None, refl, sym, ◌∙◌, ap, subst}
use Rattle.qolb_model.specs.declared.request.Request.{Request}
use Rattle.qolb_model.specs.EndKinds.{is_gone}
use Rattle.qolb_model.specs.Requests.{has, Has, last_of}
use Rattle.qolb_model.specs.Histories.{IsLegal, Clears}
use Rattle.qolb_model.specs.Queue.{Queue, Move, ask, mark, finish, CanMove}
use Rattle.link_core.specs.declared.point.Point.TheVariants.{Ready, Queued, Holding, Leaving, Marking, Granting}
use Rattle.link_core.specs.declared.seat.ReleaseCause.{ReleaseCause}
use Rattle.link_core.specs.declared.seat.ReleaseCause.TheVariants.{Own, Closing, Refused}
use Rattle.link_core.specs.declared.told.Told.{Told as Answer}
use Rattle.link_core.specs.declared.event.Event.{Event}
use Rattle.link_core.specs.Places.{request, requester_at}
use Rattle.link_core.specs.State.{State, IsWide, entry, seat, point, IsNode, last_or, is_clear}
use Rattle.link_core.specs.Steps.{Step, Releases, holding, leaving, node_of}
use Rattle.link_core.specs.Steps as row
use Rattle.link_core.specs.Shown.{is_rolled, has_line, Matches}
use Rattle.link_core.specs.Moves.{end_by, end_of, move_of, MayMake, made, Goes}
use Rattle.link_core.proofs.Orders.{get_request, last_is, last_place}
use Rattle.link_core.proofs.Follows.{sits_at, waits_behind}
use Rattle.link_core.proofs.Ending.{facts, may}
use Rattle.link_core.proofs.Leave.{releases_line}
use Rattle.link_core.proofs.All.{closed, closed_point}
use Rattle.qolb_model.specs.Leases.{is_last_turn}
use Rattle.qolb_model.specs.Steps.{is_one}
use Rattle.qolb_model.proofs.Leases.{last-is_one}

-- a move and what it makes, with the clear list that is made besides
pub goes_by : (config : LineConfig) (h g : Queue) (m : Option Move) → MayMake config h m → g ≡ record (made h m) { clear = g.clear } → Clears g.order (length g.ends) h.clear g.clear → Goes config h m g
goes_by config h g m a e k = record { may = a; cleared = (g.clear, cleared m e, e) }
  where
    cleared : (m : Option Move) → g ≡ record (made h m) { clear = g.clear } → Clears (made h m).order (length (made h m).ends) (made h m).clear g.clear
    cleared None e = along h e k
      where
        along : (y : Queue) → g ≡ record y { clear = g.clear } → Clears g.order (length g.ends) h.clear g.clear → Clears y.order (length y.ends) h.clear g.clear
        along y e k = subst (λ (z : Queue). Clears z.order (length z.ends) h.clear g.clear) e k
    cleared (Some (ask n)) e = subst (λ (z : Queue). Clears z.order (length z.ends) h.clear g.clear) e k
    cleared (Some (mark r)) e = subst (λ (z : Queue). Clears z.order (length z.ends) h.clear g.clear) e k
    cleared (Some (finish x)) e = subst (λ (z : Queue). Clears z.order (length z.ends) h.clear g.clear) e k

-- The move is one of n's. Either n makes a request, or it marks its own request, or, with the line in its hand, it ends
-- the request at its turn, which is its own unless the end is Gone.
abbrev pub IsMoveOf : State → Queue → ℕ → Option Move → Type 0
IsMoveOf c h n None = Unit {0}
IsMoveOf c h n (Some (ask m)) = m ≡ n
IsMoveOf c h n (Some (mark r)) = r.node ≡ n
IsMoveOf c h n (Some (finish x)) = IsNode c n × (has_line (point c n) ≡ true) × (is_gone x ≡ false → requester_at h.order (length h.ends) ≡ n)

module _ {config : LineConfig} {c : State} {h : Queue} (s : Matches config c h) where
  pub own_end : (n : ℕ) (a : IsNode c n) (f : has_line (point c n) ≡ true) → IsMoveOf c h n (Some (finish (end_of c n)))
  own_end n a f = (a, f, go (seat c n).reason (seat c n).passed refl)
    where
      go : (r : ReleaseCause) (ps : List ℕ) → (seat c n).passed ≡ ps → is_gone (end_by c r ps) ≡ false → requester_at h.order (length h.ends) ≡ n
      go r [] e ne = (facts s a f).3 ∙ ap (last_or n) e
      go Own (m ∷ ms) e ne = cc
      go Closing (m ∷ ms) e ne = cc
      go Refused (m ∷ ms) e ne = cc

  pub can_ask : (n : ℕ) → IsLegal config.lease h.order h.ends → IsNode c n → point c n ≡ Ready → CanMove config h (ask n)
  can_ask n l a at = (
    a.0,
    subst (λ (x : ℕ). n ≤ x) s.size a.1,
    λ some. let f = last_place config.lease h.order h.ends n l some in subst (λ (r : Request). Has h.clear r) f.2 (s.clears n f.0 a f.1 ∙ ap (λ p. is_clear p (entry c n)) at),
  )

  pub can_finish : (n : ℕ) → IsNode c n → has_line (point c n) ≡ true → (point c n ≡ Holding → is_last_turn config.lease h.ends ≡ false) → CanMove config h (finish (end_of c n))
  can_finish n a f early = (request h.order (length h.ends), get_request h.order (length h.ends) (facts s a f).0, may s a f early)

  pub can_mark : (n : ℕ) → IsLegal config.lease h.order h.ends → IsNode c n → point c n ≡ Queued → (entry c n).granted ≡ false → CanMove config h (mark (last_of n h.order))
  can_mark n l a at un =
      let b = sits_at s n Queued a at in
      let r = last_is config.lease h.order h.ends n b.at l b.own in (
        b.at,
        waits_behind s n a at un b,
        get_request h.order b.at b.own.known ∙ ap Some r,
        ap (has h.marked) (sym r) ∙ s.marks b.at b.waits b.own.known ∙ ap (λ (m : ℕ). is_rolled (point c m)) b.own.its ∙ ap is_rolled at,
      )

  -- a release from the holder's own entry is not of the last turn
  pub early : (n e : ℕ) → Releases c n e → point c n ≡ Holding → is_last_turn config.lease h.ends ≡ false
  early n e (holding a f l) at = sym (last-is_one config.lease h.ends) ∙ ap is_one (sym s.turns) ∙ l
  early n e (leaving a) at = let z : Leaving e ≡ Holding = sym a ∙ at in cc

module _ {config : LineConfig} {c : State} {h : Queue} (w : IsWide c) (s : Matches config c h) where
  pub step_of : {e : Event} {t : Answer} {d : State} (k : Step c e t d) → IsMoveOf c h (node_of e) (move_of k h.order)
  step_of (row.prepend_first n a at e) = refl
  step_of (row.prepend n a at ne) = refl
  step_of (row.home n e a r f) = own_end s n a (releases_line s a e r)
  step_of (row.home_last n a at last f) = (a, ap has_line at, (own_end (closed s w a at) n a (ap has_line (closed_point c n w a))).2)
  step_of (row.done_left n e a at un f) = own_end s n a (ap has_line at)
  step_of (row.done_rolled n e a at un ne) = own_end s n a (ap has_line at)
  step_of (row.grant n m a at un) = own_end s n a (ap has_line at)
  step_of (row.grant_rolled n m a at ro) = own_end s n a (ap has_line at)
  step_of (row.roll n a at un) = refl
  step_of _ = tt

  pub step_may : (l : IsLegal config.lease h.order h.ends) → {e : Event} {t : Answer} {d : State} (k : Step c e t d) → MayMake config h (move_of k h.order)
  step_may l (row.prepend_first n a at e) = can_ask s n l a at
  step_may l (row.prepend n a at ne) = can_ask s n l a at
  step_may l (row.home n e a r f) = can_finish s n a (releases_line s a e r) (early s n e r)
  step_may l (row.home_last n a at last f) = can_finish (closed s w a at) n a (ap has_line (closed_point c n w a)) (λ g. let z : Leaving n ≡ Holding = sym (closed_point c n w a) ∙ g in cc)
  step_may l (row.done_left n e a at un f) = can_finish s n a (ap has_line at) (λ g. let z : Marking e ≡ Holding = sym at ∙ g in cc)
  step_may l (row.done_rolled n e a at un ne) = can_finish s n a (ap has_line at) (λ g. let z : Marking e ≡ Holding = sym at ∙ g in cc)
  step_may l (row.grant n m a at un) = can_finish s n a (ap has_line at) (λ g. let z : Granting m ≡ Holding = sym at ∙ g in cc)
  step_may l (row.grant_rolled n m a at ro) = can_finish s n a (ap has_line at) (λ g. let z : Granting m ≡ Holding = sym at ∙ g in cc)
  step_may l (row.roll n a at un) = can_mark s n l a at un
  step_may l _ = tt
