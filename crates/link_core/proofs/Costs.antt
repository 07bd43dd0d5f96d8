-- Lemmas that compare how many productive events the nodes can still make before an event and after it. (The productive
-- events are links, loads that bring the line, releases and freeings.)
use Rattle.qolb_model.specs.declared.config.LineConfig.{LineConfig}
use Rattle.std.proofs.Common.{◌≡◌, ◌≢◌, ℕ, ◌+◌, ◌<◌, ◌≤◌, ◌⊎◌, Bool, true, false, List, [], ◌∷◌, Option, Some, refl, sym, ◌∙◌, ap, subst, inl, inr, arith}
use Rattle.std.specs.Prelude.{cond}
use Rattle.std.proofs.lemmas.Bool.{cases_eq}
use Rattle.qolb_model.specs.declared.end.End.{End}
use Rattle.qolb_model.specs.Queue.{Queue, Move, ask, finish}
use Rattle.link_core.specs.declared.entry.Entry.{Entry}
use Rattle.link_core.specs.declared.event.Event.{Event}
use Rattle.link_core.specs.declared.place.Place.TheVariants.{Home, Mailbox, Hand}
use Rattle.link_core.specs.declared.point.Point.{Point}
use Rattle.link_core.specs.declared.point.Point.TheVariants.{Idle, Ready, Linking, Queued, Holding, Leaving, Marking, Granting, Freeing, Left, Rolled, Shut}
use Rattle.link_core.specs.declared.seat.ReleaseCause.{ReleaseCause}
use Rattle.link_core.specs.declared.seat.ReleaseCause.TheVariants.{Own, Closing, Refused}
use Rattle.link_core.specs.declared.told.Told.{Told as Answer}
use Rattle.link_core.specs.State.{State, IsWide, NodeCall, no_mask, empty, entry, seat, point, IsNode, is_clear}
use Rattle.link_core.specs.Steps.{Step, Releases, holding, leaving, node_of, closed_by, turns_after, gone_home, seat_at_arrival, seat_at_close, seat_with, point_at_end, told_at_arrival}
use Rattle.link_core.specs.Steps as row
use Rattle.link_core.specs.Shown.{has_line, Matches}
use Rattle.link_core.specs.Moves.{move_of, end_of}
use Rattle.link_core.specs.Progress.{asked_by, is_productive, brings_line, steps_left_linking, steps_left_rolled, steps_left_at, steps_left, one_if}
use Rattle.link_core.proofs.Changes.{Changed, changed_both, changed_seat, moved_both, moved_seat, point_other, point_own}
use Rattle.link_core.proofs.Follows.{sits_at, behind_unclear}
use Rattle.link_core.proofs.Grant.{node_m, seat_passing, fresh_m, granted_point}
use Rattle.link_core.proofs.Link.{linked}
use Rattle.link_core.proofs.AtTurn.{rolls}
use Rattle.link_core.proofs.Leave.{done, grants, marked_node, releases_line}
use Rattle.link_core.proofs.Free.{frees}
use Rattle.link_core.proofs.All.{freed_node, freed_rolled, closed_wide, closed_point}
use Rattle.link_core.proofs.Unset.{granted_unset, rolled_unset, freed_unset}
use Rattle.link_core.proofs.Others.{home_busy}

-- an entry after a step still has the flags that it had
pub record Grows (v w : Entry) : Type 0 where
  pub granted : v.granted ≡ true → w.granted ≡ true
  pub done : v.done ≡ true → w.done ≡ true
  pub freed : v.freed ≡ true → w.freed ≡ true

grows_same : (v : Entry) → Grows v v
grows_same v = record { granted = λ e. e; done = λ e. e; freed = λ e. e }

grows_done : (v : Entry) → Grows v (done v)
grows_done v = record { granted = λ e. e; done = λ e. refl; freed = λ e. e }

grows_granted : (v : Entry) → Grows v (grants v)
grows_granted v = record { granted = λ e. refl; done = λ e. e; freed = λ e. e }

grows_rolled : (v : Entry) → Grows v (rolls v)
grows_rolled v = record { granted = λ e. e; done = λ e. e; freed = λ e. e }

grows_freed : (v : Entry) → Grows v (frees v)
grows_freed v = record { granted = λ e. e; done = λ e. e; freed = λ e. refl }

grows_linked : (v : Entry) (n : ℕ) → Grows v (linked v n)
grows_linked v n = record { granted = λ e. e; done = λ e. e; freed = λ e. e }

-- no more events are therefore left after it
linking_least : (a b : Bool) → (a ≡ true → b ≡ true) → cond b 4 5 ≤ cond a 4 5
linking_least true b f = rw (f refl) (omega arith)
linking_least false true f = omega arith
linking_least false false f = omega arith

rolled_least : (a b x y : Bool) → (a ≡ true → b ≡ true) → (x ≡ true → y ≡ true) → cond b 0 (cond y 1 4) ≤ cond a 0 (cond x 1 4)
rolled_least true b x y f g = rw (f refl) (omega arith)
rolled_least false true x y f g = omega arith
rolled_least false false true y f g = rw (g refl) (omega arith)
rolled_least false false false true f g = omega arith
rolled_least false false false false f g = omega arith

-- the events that are left in the seat of an act: at an arrival, at the end of a release, and at most one for a load
pub arrival_steps_left : (c : State) (w : Entry) (n : ℕ) (b : Bool) → steps_left_at c w (seat_at_arrival n b).point ≡ 3
arrival_steps_left c w n true = refl
arrival_steps_left c w n false = refl

pub end_steps_left : (c : State) (w : Entry) (r : ReleaseCause) → steps_left_at c w (point_at_end r) ≡ 0
end_steps_left c w Own = refl
end_steps_left c w Closing = refl
end_steps_left c w Refused = refl

pub close_steps_left : (c : State) (w : Entry) (ps : List ℕ) (p : Point) (r : ReleaseCause) → steps_left_at c w p ≡ 0 → steps_left_at c w (seat_with ps p r).point ≡ 0
close_steps_left c w [] p r e = e
close_steps_left c w (m ∷ ms) p r e = refl

pub brings_arrival : (b : Bool) → brings_line (told_at_arrival b) ≡ true
brings_arrival true = refl
brings_arrival false = refl

-- a move of the queue that makes a request
abbrev pub is_asking : Option Move → Bool
is_asking (Some (ask n)) = true
is_asking _ = false

-- The productive events that are left after an act of n. There are five cases:
-- - the act takes only from n's own, and no other node's grow;
-- - n ends a request, and home names no node;
-- - n frees x;
-- - n passes m, and takes over those of m;
-- - n makes a request.
pub data Pays (c d : State) (n : ℕ) (prod : Bool) (asked : ℕ) (move : Option Move) : Type 0 where
  alone : is_asking move ≡ false → d.home ≡ c.home → ((m : ℕ) → IsNode c m → m ≢ n → steps_left d m ≤ steps_left c m) → steps_left d n + one_if prod ≤ steps_left c n → Pays c d n prod asked move
  ends : is_asking move ≡ false → d.home ≡ 0 → c.home ≢ 0 → ((m : ℕ) → IsNode c m → m ≢ n → steps_left d m ≤ steps_left c m) → steps_left d n + 3 ≤ steps_left c n → Pays c d n prod asked move
  unfastens : is_asking move ≡ false → (x : ℕ) (rest : List ℕ) → d.home ≡ c.home → IsNode c x → (seat c n).passed ≡ x ∷ rest → point c n ≡ Freeing → ((m : ℕ) → IsNode c m → steps_left d m ≤ steps_left c m) → steps_left d x < steps_left c x → Pays c d n prod asked move
  passes : (x : End) → move ≡ Some (finish x) → (m : ℕ) → d.home ≡ c.home → point c n ≡ Granting m → IsNode c m → n ≢ m → ((k : ℕ) → IsNode c k → k ≢ n → k ≢ m → steps_left d k ≤ steps_left c k) → steps_left d n ≤ steps_left c n + 2 → steps_left d m + 3 ≤ steps_left c m → Pays c d n prod asked move
  asks : asked ≡ 1 → move ≡ Some (ask n) → prod ≡ false → d.home ≢ 0 → ((m : ℕ) → IsNode c m → m ≢ n → steps_left d m ≤ steps_left c m) → steps_left d n ≤ steps_left c n + 5 → Pays c d n prod asked move

module _ {c d : State} {n : ℕ} {s : NodeCall} {k : ℕ} {w : Entry} (ch : Changed c d n s k w) where
  -- no other node has more events left
  others_by : (k ≢ n → Grows (entry c k) w) → ((m : ℕ) → IsNode c m → point c m ≡ Linking k → steps_left_linking w ≤ steps_left_linking (entry c k)) → (m : ℕ) → IsNode c m → m ≢ n → steps_left d m ≤ steps_left c m
  others_by f g m a ne = subst (λ (p : Point). steps_left_at d (entry d m) p ≤ steps_left c m) (sym (point_other ch m ne)) (go (point c m) refl)
    where
      linking : (q : ℕ) → point c m ≡ Linking q → steps_left_linking (entry d q) ≤ steps_left_linking (entry c q)
      linking q e = elim (cases_eq q k) [
        | inl z ↦ subst (λ (y : ℕ). steps_left_linking (entry d y) ≤ steps_left_linking (entry c y)) (sym z)
            (subst (λ (v : Entry). steps_left_linking v ≤ steps_left_linking (entry c k)) (sym ch.entry_own) (g m a (e ∙ ap Linking z)))
        | inr z ↦ subst (λ (v : Entry). steps_left_linking v ≤ steps_left_linking (entry c q)) (sym (ch.entry_other q z)) (omega arith)
      ]

      rolled : steps_left_rolled (entry d m) ≤ steps_left_rolled (entry c m)
      rolled = elim (cases_eq m k) [
        | inl z ↦
            let f = f (λ e. ne (z ∙ e)) in
            subst (λ (y : ℕ). steps_left_rolled (entry d y) ≤ steps_left_rolled (entry c y)) (sym z)
            (subst (λ (v : Entry). steps_left_rolled v ≤ steps_left_rolled (entry c k)) (sym ch.entry_own) (rolled_least (entry c k).freed w.freed (entry c k).granted w.granted f.freed f.granted))
        | inr z ↦ subst (λ (v : Entry). steps_left_rolled v ≤ steps_left_rolled (entry c m)) (sym (ch.entry_other m z)) (omega arith)
      ]

      go : (p : Point) → point c m ≡ p → steps_left_at d (entry d m) p ≤ steps_left_at c (entry c m) p
      go (Linking q) e = linking q e
      go Rolled e = rolled
      go Queued e = omega arith
      go Holding e = omega arith
      go (Leaving x) e = omega arith
      go (Marking x) e = omega arith
      go (Granting x) e = omega arith
      go Idle e = omega arith
      go Ready e = omega arith
      go Freeing e = omega arith
      go Left e = omega arith
      go Shut e = omega arith

  others : Grows (entry c k) w → (m : ℕ) → IsNode c m → m ≢ n → steps_left d m ≤ steps_left c m
  others f = others_by (λ _. f) (λ m a e. linking_least (entry c k).done w.done f.done)

  -- the events that n itself has left
  own : (a b : ℕ) → ((v : Entry) → steps_left_at d v s.point ≡ a) → steps_left c n ≡ b → (steps_left d n ≡ a) × (steps_left c n ≡ b)
  own a b f e = (ap (steps_left_at d (entry d n)) (point_own ch) ∙ f (entry d n), e)

-- the events that are left at a point
at_point_c : (c : State) (n : ℕ) (p : Point) → point c n ≡ p → steps_left c n ≡ steps_left_at c (entry c n) p
at_point_c c n p e = ap (steps_left_at c (entry c n)) e

releases_steps_left : (c : State) (n e : ℕ) → Releases c n e → steps_left c n ≡ 3
releases_steps_left c n e (holding at i l) = at_point_c c n Holding at
releases_steps_left c n e (leaving at) = at_point_c c n (Leaving e) at

-- the seat of a node that frees: freeing, or at rest
freed_steps_left : (c : State) (v : Entry) (rest : List ℕ) (r : ReleaseCause) → steps_left_at c v (seat_with rest (point_at_end r) r).point ≡ 0
freed_steps_left c v rest r = close_steps_left c v rest (point_at_end r) r (end_steps_left c v r)

-- a holder that closes the line has as many events left as before, and no other node has more
closed_others : (c : State) (n : ℕ) → IsWide c → IsNode c n → (m : ℕ) → IsNode c m → m ≢ n → steps_left (closed_by n c) m ≤ steps_left c m
closed_others c n w a = others (moved_seat c c.home c.place true c.mask c.left n _ w a) (grows_same (entry c n))

closed_own : (c : State) (n : ℕ) → IsWide c → IsNode c n → steps_left (closed_by n c) n ≡ 3
closed_own c n w a = at_point_c (closed_by n c) n (Leaving n) (closed_point c n w a)

-- a release goes home, and no node has more events left
home_own : (c : State) (n : ℕ) → IsWide c → IsNode c n → steps_left (gone_home n c) n ≡ 0
home_own c n w a = ap (steps_left_at (gone_home n c) (entry (gone_home n c) n)) (point_own (moved_seat c 0 Home c.closed c.mask (turns_after n c) n _ w a))
    ∙ close_steps_left (gone_home n c) (entry (gone_home n c) n) (seat c n).passed (point_at_end (seat c n).reason) (seat c n).reason (end_steps_left (gone_home n c) (entry (gone_home n c) n) (seat c n).reason)

home_others : (c : State) (n : ℕ) → IsWide c → IsNode c n → (m : ℕ) → IsNode c m → m ≢ n → steps_left (gone_home n c) m ≤ steps_left c m
home_others c n w a = others (moved_seat c 0 Home c.closed c.mask (turns_after n c) n _ w a) (grows_same (entry c n))

rolled_most : (a b : Bool) → cond a 0 (cond b 1 4) ≤ 4
rolled_most true b = omega arith
rolled_most false true = omega arith
rolled_most false false = omega arith

rolled_least_one : (b : Bool) → 1 ≤ cond b 1 4
rolled_least_one true = omega arith
rolled_least_one false = omega arith

module _ (config : LineConfig) (c : State) (h : Queue) (w : IsWide c) (s : Matches config c h) where
  -- no node still has to link to a node whose request has ended
  unlinked : (n m : ℕ) → (point c n ≡ Idle) ⊎ (point c n ≡ Shut) → IsNode c m → point c m ≡ Linking n → ⊥
  unlinked n m at a e =
      let k = behind_unclear s m n a e in
      let z : is_clear (point c n) (entry c n) ≡ true = elim at [ inl f ↦ ap (λ (p : Point). is_clear p (entry c n)) f | inr f ↦ ap (λ (p : Point). is_clear p (entry c n)) f ] in
      let y : true ≡ false = sym z ∙ k in
      cc

  rests_steps_left : (n : ℕ) → (point c n ≡ Idle) ⊎ (point c n ≡ Shut) → steps_left c n ≡ 0
  rests_steps_left n (inl e) = at_point_c c n Idle e
  rests_steps_left n (inr e) = at_point_c c n Shut e

  pub step_pays : {e : Event} {t : Answer} {d : State} → (k : Step c e t d) → Pays c d (node_of e) (is_productive e t) (asked_by e) (move_of k h.order)
  step_pays (row.reset n a at) =
      let ch = changed_both c n (record (seat c n) { point = Ready }) n empty w a a in
      let k = own ch 0 0 (λ v. refl) (rests_steps_left n at) in
      alone refl refl (others_by ch (λ ne. absurd (ne refl)) (λ m b e. absurd (unlinked n m at b e))) (omega arith)
  step_pays {d = d} (row.prepend_first n a at e) =
      let ch = moved_seat c n (Hand n) c.closed no_mask c.left n (seat_at_arrival n c.closed) w a in
      let k = own ch 3 0 (λ v. arrival_steps_left d v n c.closed) (at_point_c c n Ready at) in
      asks refl refl refl (λ z. let l = a.0 in omega arith) (others ch (grows_same (entry c n))) (omega arith)
  step_pays {d = d} (row.prepend n a at ne) =
      let ch = moved_seat c n c.place c.closed c.mask c.left n (record (seat c n) { point = Linking c.home }) w a in
      let k = own ch (steps_left_linking (entry c c.home)) 0 (λ v. refl) (at_point_c c n Ready at) in
      let most : steps_left_linking (entry c c.home) ≤ 5 = linking_least false (entry c c.home).done (λ z. cc) in
      asks refl refl refl (λ z. let l = a.0 in omega arith) (others ch (grows_same (entry c n))) (omega arith)
  step_pays {d = d} (row.link_done n p a at dn) =
      let ch = moved_both c c.home (Hand n) c.closed no_mask c.left n _ p _ w a (sits_at s n (Linking p) a at).node in
      let k = own ch 3 4 (λ v. arrival_steps_left d v n c.closed) (at_point_c c n (Linking p) at ∙ ap (λ b. cond b 4 5) dn) in
      alone refl refl (others ch (grows_linked (entry c p) n)) (omega arith)
  step_pays (row.link n p a at dn) =
      let ch = changed_both c n _ p _ w a (sits_at s n (Linking p) a at).node in
      let k = own ch 4 5 (λ v. refl) (at_point_c c n (Linking p) at ∙ ap (λ b. cond b 4 5) dn) in
      alone refl refl (others ch (grows_linked (entry c p) n)) (omega arith)
  step_pays {d = d} (row.load_granted n a at gr) =
      let ch = moved_seat c c.home (Hand n) c.closed no_mask c.left n _ w a in
      let k = own ch 3 4 (λ v. arrival_steps_left d v n c.closed) (at_point_c c n Queued at) in
      alone refl refl (others ch (grows_same (entry c n))) (rw (brings_arrival c.closed) (omega arith))
  step_pays (row.load_waiting n a at un) = alone refl refl (λ m b ne. omega arith) (omega arith)
  step_pays (row.load_free n a at fr) =
      let ch = changed_seat c n _ w a in
      let k = own ch 0 (steps_left c n) (λ v. refl) refl in
      alone refl refl (others ch (grows_same (entry c n))) (omega arith)
  step_pays (row.load_busy n a at un) = alone refl refl (λ m b ne. omega arith) (omega arith)
  step_pays (row.home n e a r f) =
      let k = home_own c n w a in
      let b = releases_steps_left c n e r in
      ends refl refl (home_busy s n a (releases_line s a e r)) (home_others c n w a) (omega arith)
  step_pays (row.home_failed n e a r ne) =
      let ch = changed_seat c n _ w a in
      let k = own ch 2 3 (λ v. refl) (releases_steps_left c n e r) in
      alone refl refl (others ch (grows_same (entry c n))) (omega arith)
  step_pays {d = d} (row.home_last n a at l f) =
      let wide = closed_wide c n w in
      let k = home_own (closed_by n c) n wide a in
      let b = at_point_c c n Holding at in
      ends refl refl (home_busy s n a (ap has_line at))
      (λ m i ne. let x = home_others (closed_by n c) n wide a m i ne in let y = closed_others c n w a m i ne in omega arith)
      (omega arith)
  step_pays (row.home_last_failed n a at l ne) =
      let ch = changed_seat (closed_by n c) n (record (seat (closed_by n c) n) { point = Marking n }) (closed_wide c n w) a in
      let k = own ch 2 3 (λ v. refl) (closed_own c n w a) in
      let b = at_point_c c n Holding at in
      alone refl refl
      (λ m i ne. let x = others ch (grows_same (entry c n)) m i ne in let y = closed_others c n w a m i ne in omega arith)
      (omega arith)
  step_pays {d = d} (row.done_left n e a at un f) =
      let ch = moved_both c c.home (Mailbox e) c.closed c.mask (turns_after n c) n _ e _ w a (marked_node s a at) in
      let k = own ch 0 2 (λ v. close_steps_left d v (seat c n).passed Left (seat c n).reason refl) (at_point_c c n (Marking e) at) in
      alone refl refl (others ch (grows_done (entry c e))) (omega arith)
  step_pays {d = d} (row.done_rolled n e a at un ne) =
      let ch = moved_both c c.home (Mailbox e) c.closed c.mask (turns_after n c) n _ e _ w a (marked_node s a at) in
      let k = own ch 0 2 (λ v. close_steps_left d v (seat c n).passed (point_at_end (seat c n).reason) (seat c n).reason (end_steps_left d v (seat c n).reason)) (at_point_c c n (Marking e) at) in
      alone refl refl (others ch (grows_done (entry c e))) (omega arith)
  step_pays (row.done_linked n e a at ne) =
      let ch = changed_both c n _ e _ w a (marked_node s a at) in
      let k = own ch 1 2 (λ v. refl) (at_point_c c n (Marking e) at) in
      alone refl refl (others ch (grows_done (entry c e))) (omega arith)
  step_pays {d = d} (row.grant n m a at un) =
      let ch = moved_both c c.home (Mailbox m) c.closed c.mask (turns_after n c) n _ m _ w a (node_m s a at) in
      let k = own ch 0 1 (λ v. close_steps_left d v (seat c n).passed (point_at_end (seat c n).reason) (seat c n).reason (end_steps_left d v (seat c n).reason)) (at_point_c c n (Granting m) at) in
      alone refl refl (others ch (grows_granted (entry c m))) (omega arith)
  step_pays {d = d} (row.grant_rolled n m a at ro) =
      let ch = moved_both c c.home c.place c.closed c.mask (turns_after n c) n (seat_passing c n m) m (grants (entry c m)) w a (node_m s a at) in
      let k = own ch 3 1 (λ v. refl) (at_point_c c n (Granting m) at) in
      let rolled : point c m ≡ Rolled = elim (granted_point s a at) [
        | inl f ↦ let z : false ≡ true = sym (rolled_unset s m (node_m s a at) f) ∙ ro in cc
        | inr f ↦ f
      ] in
      let ne : n ≢ m = λ z. let y : Granting m ≡ Rolled = sym at ∙ ap (point c) z ∙ rolled in cc in
      let was : steps_left c m ≡ 4 = at_point_c c m Rolled rolled ∙ ap (λ b. cond b 0 (cond (entry c m).granted 1 4)) (fresh_m s a at).freed ∙ ap (λ b. cond b 1 4) (granted_unset s n m a at) in
      let now : steps_left d m ≡ 1 =
      at_point_c d m Rolled (point_other ch m (λ z. ne (sym z)) ∙ rolled)
      ∙ ap steps_left_rolled ch.entry_own
      ∙ ap (λ b. cond b 0 1) (fresh_m s a at).freed in
      passes (end_of c n) refl m refl at (node_m s a at) ne (λ k b ne _. others ch (grows_granted (entry c m)) k b ne) (omega arith) (omega arith)
  step_pays {d = d} (row.roll_granted n a at gr) =
      let ch = moved_both c c.home (Hand n) c.closed no_mask c.left n _ n _ w a a in
      let k = own ch 3 4 (λ v. arrival_steps_left d v n c.closed) (at_point_c c n Queued at) in
      alone refl refl (others ch (grows_rolled (entry c n))) (omega arith)
  step_pays {d = d} (row.roll n a at un) =
      let ch = changed_both c n _ n _ w a a in
      let was = at_point_c c n Queued at in
      let now : steps_left d n ≡ steps_left_rolled (entry d n) = ap (steps_left_at d (entry d n)) (point_own ch) in
      let most = rolled_most (entry d n).freed (entry d n).granted in
      alone refl refl (others ch (grows_rolled (entry c n))) (omega arith)
  step_pays {d = d} (row.freed n x rest a at ps) =
      let node = freed_node n x rest s a ps in
      let rolled = freed_rolled n x rest s a ps in
      let ch = changed_both c n (seat_with rest (point_at_end (seat c n).reason) (seat c n).reason) x (frees (entry c x)) w a node in
      let k = own ch 0 0 (λ v. freed_steps_left d v rest (seat c n).reason) (at_point_c c n Freeing at) in
      let ne : x ≢ n = λ z. let y : Rolled ≡ Freeing = sym rolled ∙ ap (point c) z ∙ at in cc in
      let was : steps_left c x ≡ cond (entry c x).granted 1 4 = at_point_c c x Rolled rolled ∙ ap (λ b. cond b 0 (cond (entry c x).granted 1 4)) (freed_unset s n x rest a ps) in
      let now : steps_left d x ≡ 0 = at_point_c d x Rolled (point_other ch x ne ∙ rolled) ∙ ap steps_left_rolled ch.entry_own in
      let some = rolled_least_one (entry c x).granted in
      unfastens refl x rest refl node ps at
      (λ m b. elim (cases_eq m n) [
        | inl z ↦ subst (λ (y : ℕ). steps_left d y ≤ steps_left c y) (sym z) (omega arith)
        | inr z ↦ others ch (grows_freed (entry c x)) m b z
      ])
      (omega arith)
  step_pays (row.write n mask bytes a at) = alone refl refl (λ m b ne. omega arith) (omega arith)
  step_pays (row.close n a at) =
      let k = closed_own c n w a in
      let e = at_point_c c n Holding at in
      alone refl refl (closed_others c n w a) (omega arith)
