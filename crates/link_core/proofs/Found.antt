-- Lemmas about what a node finds in a state at each point of its call. They also state that a closed line stays closed,
-- and that a run of events is a run of the queue.
use Rattle.qolb_model.specs.declared.config.LineConfig.{LineConfig}
use Rattle.std.proofs.Common.{◌≡◌, ◌≢◌, ℕ, zero, suc, ◌+◌, ◌-◌, ◌<◌, ◌≤◌, ◌⊎◌, Bool, true, false, ◌||◌, List, [], ◌∷◌, length, take, Option, Some, None, slice_get, refl, sym, ◌∙◌, ap, subst, inl, inr, arith}
use Rattle.std.proofs.lemmas.Bool.{or_right}
use Rattle.qolb_model.specs.declared.end.End.{End}
use Rattle.qolb_model.specs.declared.end.End.TheVariants.{Served, Gone, Told}
use Rattle.qolb_model.specs.Ends.{is_closed}
use Rattle.qolb_model.specs.Histories.{IsLegal}
use Rattle.qolb_model.specs.Queue.{Queue, empty_queue, Move, moved, Runs}
use Rattle.qolb_model.proofs.Runs.{has_cleared_none, has_cleared_twice}
use Rattle.link_core.specs.declared.point.Point.TheVariants.{Idle, Ready, Linking, Queued, Holding, Leaving, Marking, Granting, Freeing, Left, Rolled, Shut}
use Rattle.link_core.specs.declared.point.Point.{Point}
use Rattle.link_core.specs.declared.place.Place.TheVariants.{Home, Hand}
use Rattle.link_core.specs.declared.seat.ReleaseCause.{ReleaseCause}
use Rattle.link_core.specs.declared.seat.ReleaseCause.TheVariants.{Own, Closing, Refused}
use Rattle.link_core.specs.declared.event.Event.{Event}
use Rattle.link_core.specs.Places.{requester_at, IsLast}
use Rattle.link_core.specs.State.{State, entry, point, IsNode}
use Rattle.link_core.specs.Shown.{has_line, is_active, EndedBy, ByReason, IsWhole, Lies, at_home, in_hand, granted, left, Shows}
use Rattle.link_core.specs.Moves.{move_of, Goes}
use Rattle.link_core.specs.Promise.{Run, opened, event}
use Rattle.link_core.specs.Laws.{Unset, Found}
use Rattle.link_core.proofs.Follows.{sits_at, in_its_hand, granted_turn, done_turn, waits_behind}
use Rattle.qolb_model.proofs.Lists.{never}
use Rattle.link_core.proofs.Orders.{last_once}
use Rattle.link_core.proofs.Ending.{facts, its}
use Rattle.link_core.proofs.Leave.{releases_line, releases_at}
use Rattle.link_core.proofs.Leave as Leave
use Rattle.link_core.proofs.All.{freed_node, freed_rolled}
use Rattle.link_core.proofs.Grant.{sat, node_m, granted_point}
use Rattle.link_core.proofs.Sound.{names}
use Rattle.link_core.proofs.Others.{one_hand, linked_box, granted_box, idle_home}
use Rattle.link_core.proofs.Unset.{done_unset, granted_unset, rolled_unset, link_unset, freed_unset}

module _ {config : LineConfig} {c : State} {q : Queue} (s : Shows config c q) where
  pub unset : Unset c
  unset = record {
    link = link_unset s.matches;
    done = done_unset s.matches;
    granted = granted_unset s.matches;
    rolled = rolled_unset s.matches;
    freed = freed_unset s.matches;
  }

  next_by : (m : ℕ) (b : Bool) → (entry c m).rolled ≡ b → IsNode c m → (point c m ≡ Queued) ⊎ (point c m ≡ Rolled) → ((b ≡ false) × (point c m ≡ Queued)) ⊎ ((b ≡ true) × (point c m ≡ Rolled))
  next_by m b e i (inl f) = inl (sym e ∙ rolled_unset s.matches m i f, f)
  next_by m b e i (inr f) = inr (sym e ∙ sits_at s.matches m Rolled i f, f)

  next : (n m : ℕ) (b : Bool) → IsNode c n → point c n ≡ Granting m → (entry c m).rolled ≡ b → ((b ≡ false) × (point c m ≡ Queued)) ⊎ ((b ≡ true) × (point c m ≡ Rolled))
  next n m b a at e = next_by m b e (node_m s.matches a at) (granted_point s.matches a at)

  whole : ((n : ℕ) → c.place ≢ Hand n) → Lies config c q.order q.ends → IsWhole config c q.ends
  whole nowhere (at_home a b w) = w
  whole nowhere (in_hand n a b e f g h) = absurd (nowhere n e)
  whole nowhere (granted t a b e f g w) = w
  whole nowhere (left t x a b e f g h i w) = w

  -- the node at its turn, and the node that has the line, are active
  over : ((n : ℕ) → IsNode c n → is_active (point c n) ≡ false) → Lies config c q.order q.ends → (length q.ends ≡ length q.order) × (c.place ≡ Home)
  over rest (at_home a b w) = (a, b)
  over rest (in_hand n a b e f g h) = absurd (never (active (point c n) f) (rest n b))
    where
      active : (p : Point) → has_line p ≡ true → is_active p ≡ true
      active Holding e = refl
      active (Leaving x) e = refl
      active (Marking x) e = refl
      active (Granting x) e = refl
      active (Linking x) e = refl
      active Queued e = refl
      active Idle e = cc
      active Ready e = cc
      active Freeing e = cc
      active Left e = cc
      active Rolled e = cc
      active Shut e = cc
  over rest (granted t a b e f g w) = absurd (never (ap is_active g) (rest t (subst (λ (x : ℕ). IsNode c x) b (s.matches.nodes (length q.ends) a))))
  over rest (left t x a b e f g h i w) = absurd (never (ap is_active i) (rest t (subst (λ (x : ℕ). IsNode c x) b (s.matches.nodes (length q.ends) a))))

  -- home names the newest open request
  home_newest : (p : ℕ) → length q.ends ≤ p → p < length q.order → c.home ≡ requester_at q.order p → p + 1 ≡ length q.order
  home_newest p a l e =
      let z : ℕ = length q.order - 1 in
      let newest = s.matches.home_last z (omega arith) (omega arith) in
      let k = last_once q.order (requester_at q.order p) z p (subst (λ (m : ℕ). IsLast q.order m z) (sym newest ∙ e) (s.matches.distinct z (omega arith) (omega arith))) (s.matches.distinct p a l) in
      omega arith

  pub found : Found config c q
  found = record {
    names = names s.matches;
    hand = in_its_hand s.matches;
    one = one_hand s.matches;
    turn = λ n a f. its s.matches a f;
    carried = λ n a f. (facts s.matches a f).4;
    whole = λ nowhere. whole nowhere s.matches.lies;
    holds = λ n a at. let k = sits_at s.matches n Holding a at in (k.1, k.2);
    passed = λ n x rest a ps. (freed_node n x rest s.matches a ps, freed_rolled n x rest s.matches a ps);
    releases = λ n e a r. (releases_line s.matches a e r, releases_at s.matches a e r);
    marks = λ n e a at. let k = sits_at s.matches n (Marking e) a at in (k.0.is, k.1);
    late = λ n e a at un. Leave.next s.matches a at un;
    home = λ p a l. (home_newest p a l, λ last. s.matches.home_last p a last);
    grant = λ n m a at. let k = sat s.matches a at in (k.1, k.2);
    grant_waits = λ n m a at e. elim (next n m false a at e) [ inl k ↦ k.1 | inr k ↦ let z : false ≡ true = k.0 in cc ];
    grant_rolled = λ n m a at e. elim (next n m true a at e) [ inl k ↦ let z : true ≡ false = k.0 in cc | inr k ↦ k.1 ];
    link = λ n p a at. sits_at s.matches n (Linking p) a at;
    link_done = λ n p a at dn.
        let b = sits_at s.matches n (Linking p) a at in
        (linked_box s.matches n p a at dn, subst (λ (x : ℕ). IsLast q.order n x) (sym (done_turn s.matches n p a at dn b)) b.own);
    granted = λ n a at gr. (granted_box s.matches n a at gr, granted_turn s.matches n a at gr);
    waits = λ n a at un. let b = sits_at s.matches n Queued a at in (b.at, b.own, waits_behind s.matches n a at un b);
    idle = idle_home s.matches;
    over = λ rest. over rest s.matches.lies;
  }

-- ends that close the line
closed_with : (es : List End) (p : ℕ) (x : End) → slice_get es p ≡ Some x → ByReason Closing x → is_closed es ≡ true
closed_with [] p x e k = let z : None ≡ Some x = e in cc z
closed_with (y ∷ es) zero x e k = first y (subst (λ (v : End). ByReason Closing v) (let z : Some x ≡ Some y = sym e in cc z) k)
  where
    first : (y : End) → ByReason Closing y → is_closed (y ∷ es) ≡ true
    first (Served w shut) k = ap (λ b. b || is_closed es) k
    first Gone k = absurd k
    first Told k = absurd k
closed_with (Served w shut ∷ es) (suc p) x e k = or_right shut (is_closed es) (closed_with es p x e k)
closed_with (Gone ∷ es) (suc p) x e k = closed_with es p x e k
closed_with (Told ∷ es) (suc p) x e k = closed_with es p x e k

-- a line that was closed stays closed
closed_since : (es : List End) (p : ℕ) → is_closed (take p es) ≡ true → is_closed es ≡ true
closed_since [] zero e = e
closed_since [] (suc p) e = e
closed_since (y ∷ es) zero e = let z : false ≡ true = e in cc z
closed_since (Served w shut ∷ es) (suc p) e = by shut (closed_since es p) e
  where
    by : (b : Bool) → (is_closed (take p es) ≡ true → is_closed es ≡ true) → (b || is_closed (take p es)) ≡ true → (b || is_closed es) ≡ true
    by true f e = refl
    by false f e = f e
closed_since (Gone ∷ es) (suc p) e = closed_since es p e
closed_since (Told ∷ es) (suc p) e = closed_since es p e

pub ends_close : (lease : Option ℕ) (q : Queue) (n : ℕ) (r : ReleaseCause) → IsLegal lease q.order q.ends → r ≢ Own → EndedBy q.order q.ends n r → is_closed q.ends ≡ true
ends_close lease q n Own l ne e = absurd (ne refl)
ends_close lease q n Closing l ne e = closed_with q.ends e.at e.end e.ended e.how
ends_close lease q n Refused l ne e = told e.end e.ended e.how
  where
    told : (x : End) → slice_get q.ends e.at ≡ Some x → ByReason Refused x → is_closed q.ends ≡ true
    told (Served w shut) at k = absurd k
    told Gone at k = absurd k
    told Told at k = closed_since q.ends e.at (l.closing e.at Told at)

-- one more move at the end of a run
runs_more : (config : LineConfig) (a b g : Queue) (ms : List Move) (m : Option Move) → Runs config a ms b → Goes config b m g → (ns : List Move) × Runs config a ns g
runs_more config a b g [] None r k = ([], has_cleared_twice a b g r k.cleared)
runs_more config a b g [] (Some x) r k = (x ∷ [], (b, r, k.may, k.cleared))
runs_more config a b g (y ∷ ms) m r k = let rest = runs_more config (moved r.0 y) b g ms m r.3 k in (y ∷ rest.0, (r.0, r.1, r.2, rest.1))

pub runs_move : {config : LineConfig} {es : List Event} {c : State} {q : Queue} → Run config es c q → (moves : List Move) × Runs config empty_queue moves q
runs_move opened = ([], has_cleared_none empty_queue)
runs_move {config = config} (event {c = c} {q = q} r e t d g k goes s) = let before = runs_move r in runs_more config empty_queue q g before.0 (move_of k q.order) before.1 goes
