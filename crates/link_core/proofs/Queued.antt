-- Proof that each step preserves this property: a withdrawn request that has not been granted waits behind the request
-- that has the turn.
use Rattle.qolb_model.specs.declared.config.LineConfig.{LineConfig}
use Rattle.std.proofs.Common.{◌≡◌, ◌≢◌, ℕ, ◌+◌, ◌<◌, Bool, true, false, List, [], ◌∷◌, ◌++◌, length, refl, sym, ◌∙◌, ap, subst, inl, inr, arith, length-append}
use Rattle.std.proofs.lemmas.Bool.{cases_eq}
use Rattle.qolb_model.specs.declared.end.End.{End}
use Rattle.qolb_model.specs.declared.request.Request.{Request}
use Rattle.qolb_model.specs.Queue.{Queue}
use Rattle.qolb_model.specs.Requests.{next_of}
use Rattle.link_core.specs.declared.entry.Entry.{Entry}
use Rattle.link_core.specs.declared.event.Event.{Event}
use Rattle.link_core.specs.declared.place.Place.TheVariants.{Home, Mailbox, Hand}
use Rattle.link_core.specs.declared.point.Point.{Point}
use Rattle.link_core.specs.declared.point.Point.TheVariants.{Idle, Ready, Linking, Queued, Holding, Leaving, Marking, Granting, Freeing, Left, Rolled, Shut}
use Rattle.link_core.specs.declared.seat.ReleaseCause.{ReleaseCause}
use Rattle.link_core.specs.declared.seat.ReleaseCause.TheVariants.{Own, Closing, Refused}
use Rattle.link_core.specs.declared.told.Told.{Told as Answer}
use Rattle.link_core.specs.Places.{IsLast}
use Rattle.link_core.specs.State.{State, IsWide, NodeCall, no_mask, empty, entry, seat, point, IsNode, current}
use Rattle.link_core.specs.Steps.{Step, closed_by, turns_after, seat_at_arrival, seat_with, point_at_end}
use Rattle.link_core.specs.Steps as row
use Rattle.link_core.specs.Moves.{move_of, made, end_of}
use Rattle.link_core.specs.Shown.{has_line, AreBehind, Matches}
use Rattle.link_core.proofs.Changes.{Changed, changed_both, changed_seat, moved_both, moved_seat, point_other, point_own, is_node}
use Rattle.link_core.proofs.Follows.{sits_at, waits_behind}
use Rattle.link_core.proofs.Orders.{last_kept}
use Rattle.link_core.proofs.Leave.{done, grants, marked_node, releases_line, releases_at, home_is_last}
use Rattle.link_core.proofs.Leave as Leave
use Rattle.link_core.proofs.Grant.{node_m, last_m, seat_passing}
use Rattle.link_core.proofs.All.{freed_node, closed_wide}

module _ {c d : State} {n : ℕ} {s : NodeCall} {k : ℕ} {w : Entry} (ch : Changed c d n s k w) (kept : k ≢ n → (entry c k).granted ≡ true → w.granted ≡ true) where
  -- an entry that is not granted was not
  ungranted : (m : ℕ) → m ≢ n → (entry d m).granted ≡ false → (entry c m).granted ≡ false
  ungranted m ne f = elim (cases_eq m k) [
    | inl z ↦ subst (λ (x : ℕ). (entry c x).granted ≡ false) (sym z) (was (entry c k).granted (kept (λ y. ne (z ∙ y))) (sym (ap (λ (v : Entry). v.granted) (ap (entry d) z ∙ ch.entry_own)) ∙ f))
    | inr z ↦ sym (ap (λ (v : Entry). v.granted) (ch.entry_other m z)) ∙ f
  ]
    where
      was : (b : Bool) → (b ≡ true → w.granted ≡ true) → w.granted ≡ false → b ≡ false
      was true g f = let z : true ≡ false = sym (g refl) ∙ f in cc
      was false g f = refl

  behind_by : (o o2 : List Request) (es fs : List End) → (s.point ≡ Rolled → (p : ℕ) × IsLast o2 n p × (length fs < p)) → ((m p : ℕ) → m ≢ n → IsLast o m p → IsLast o2 m p)
      → ((m p : ℕ) → IsNode c m → point c m ≡ Rolled → (entry d m).granted ≡ false → IsLast o m p → length es < p → length fs < p) → AreBehind c o es → AreBehind d o2 fs
  behind_by o o2 es fs own f g old m a at un = elim (cases_eq m n) [
    | inl z ↦ let x = own (sym (point_own ch) ∙ ap (point d) (sym z) ∙ at) in (x.0, subst (λ (y : ℕ). IsLast o2 y x.0) (sym z) x.1, x.2)
    | inr z ↦
        let b = is_node ch m a in
        let was = sym (point_other ch m z) ∙ at in
        let x = old m b was (ungranted m z un) in
        (x.0, f m x.0 z x.1, g m x.0 b was un x.1 x.2)
  ]

  -- if no turn ends, and no node asks
  behind_quiet : (o : List Request) (es : List End) → s.point ≢ Rolled → AreBehind c o es → AreBehind d o es
  behind_quiet o es ne = behind_by o o es es (λ e. absurd (ne e)) (λ m p _ l. l) (λ m p a at un l b. b)

  -- if the turn ends, and no withdrawn node that was not granted follows
  behind_ended : (o : List Request) (es : List End) (x : End) → s.point ≢ Rolled
      → ((m : ℕ) → IsNode c m → point c m ≡ Rolled → (entry d m).granted ≡ false → IsLast o m (length es + 1) → ⊥) → AreBehind c o es → AreBehind d o (es ++ x ∷ [])
  behind_ended o es x ne f = behind_by o o es (es ++ x ∷ []) (λ e. absurd (ne e)) (λ m p _ l. l)
      (λ m p a at un l b. let long : length (es ++ x ∷ []) ≡ length es + 1 = length-append es (x ∷ []) in
      elim (cases_eq p (length es + 1)) [
        | inl z ↦ absurd (f m a at un (subst (λ (y : ℕ). IsLast o m y) z l))
        | inr z ↦ omega arith
      ])

arrival_other : (n : ℕ) (b : Bool) → (seat_at_arrival n b).point ≢ Rolled
arrival_other n true e = let z : Leaving n ≡ Rolled = e in cc
arrival_other n false e = let z : Holding ≡ Rolled = e in cc

end_other : (r : ReleaseCause) → point_at_end r ≢ Rolled
end_other Own e = let z : Idle ≡ Rolled = e in cc
end_other Closing e = let z : Shut ≡ Rolled = e in cc
end_other Refused e = let z : Shut ≡ Rolled = e in cc

close_other : (ps : List ℕ) (p : Point) (r : ReleaseCause) → p ≢ Rolled → (seat_with ps p r).point ≢ Rolled
close_other [] p r ne e = ne e
close_other (m ∷ ms) p r ne e = let z : Freeing ≡ Rolled = e in cc

module _ (config : LineConfig) (c : State) (q : Queue) (w : IsWide c) (s : Matches config c q) (old : AreBehind c q.order q.ends) where
  -- no request follows if the line goes home
  none_follows : (n m : ℕ) → IsNode c n → has_line (point c n) ≡ true → c.home ≡ current c n → IsLast q.order m (length q.ends + 1) → ⊥
  none_follows n m a f e l = let k = home_is_last s a f e in let b = l.known in omega arith

  -- if the line stays, a node follows that must still link
  linker_follows : (n e m : ℕ) → IsNode c n → point c n ≡ Marking e → (entry c e).link ≡ 0 → point c m ≡ Rolled → IsLast q.order m (length q.ends + 1) → ⊥
  linker_follows n e m a at un rolled l = let z : Linking e ≡ Rolled = sym (Leave.next s a at un) ∙ ap (point c) l.its ∙ rolled in cc

  closed_behind : (n : ℕ) → IsNode c n → AreBehind (closed_by n c) q.order q.ends
  closed_behind n a = behind_quiet (moved_seat c c.home c.place true c.mask c.left n (record (seat c n) { point = Leaving n; reason = Closing }) w a) (λ _ e. e) q.order q.ends (λ e. let z : Leaving n ≡ Rolled = e in cc) old

  pub step_behind : {e : Event} {t : Answer} {d : State} (k : Step c e t d) → AreBehind d (made q (move_of k q.order)).order (made q (move_of k q.order)).ends
  step_behind (row.reset n a at) = behind_by (changed_both c n (record (seat c n) { point = Ready }) n empty w a a) (λ ne. absurd (ne refl)) q.order q.order q.ends q.ends (λ e. let z : Ready ≡ Rolled = e in cc) (λ m p _ l. l) (λ m p a at un l b. b) old
  step_behind (row.prepend_first n a at e) = behind_by (moved_seat c n (Hand n) c.closed no_mask c.left n (seat_at_arrival n c.closed) w a) (λ _ e. e) q.order (q.order ++ next_of n q.order ∷ []) q.ends q.ends (λ e. absurd (arrival_other n c.closed e)) (λ m p ne l. last_kept q.order (next_of n q.order) m p ne l) (λ m p a at un l b. b) old
  step_behind (row.prepend n a at ne) = behind_by (moved_seat c n c.place c.closed c.mask c.left n (record (seat c n) { point = Linking c.home }) w a) (λ _ e. e) q.order (q.order ++ next_of n q.order ∷ []) q.ends q.ends (λ e. let z : Linking c.home ≡ Rolled = e in cc) (λ m p ne l. last_kept q.order (next_of n q.order) m p ne l) (λ m p a at un l b. b) old
  step_behind (row.link_done n p a at dn) = behind_quiet (moved_both c c.home (Hand n) c.closed no_mask c.left n (seat_at_arrival n c.closed) p (record (entry c p) { link = n }) w a (sits_at s n (Linking p) a at).node) (λ _ e. e) q.order q.ends (arrival_other n c.closed) old
  step_behind (row.link n p a at dn) = behind_quiet (changed_both c n (record (seat c n) { point = Queued }) p (record (entry c p) { link = n }) w a (sits_at s n (Linking p) a at).node) (λ _ e. e) q.order q.ends (λ e. let z : Queued ≡ Rolled = e in cc) old
  step_behind (row.load_granted n a at gr) = behind_quiet (moved_seat c c.home (Hand n) c.closed no_mask c.left n (seat_at_arrival n c.closed) w a) (λ _ e. e) q.order q.ends (arrival_other n c.closed) old
  step_behind (row.load_waiting n a at un) = old
  step_behind (row.load_free n a at fr) = behind_quiet (changed_seat c n (record (seat c n) { point = Idle }) w a) (λ _ e. e) q.order q.ends (λ e. let z : Idle ≡ Rolled = e in cc) old
  step_behind (row.load_busy n a at un) = old
  step_behind (row.home n e a r f) =
      behind_ended (moved_seat c 0 Home c.closed c.mask (turns_after n c) n (seat_with (seat c n).passed (point_at_end (seat c n).reason) (seat c n).reason) w a) (λ _ e. e) q.order q.ends (end_of c n)
      (close_other (seat c n).passed (point_at_end (seat c n).reason) (seat c n).reason (end_other (seat c n).reason))
      (λ m b at un l. none_follows n m a (releases_line s a e r) (f ∙ sym (releases_at s a e r)) l) old
  step_behind (row.home_failed n e a r ne) = behind_quiet (changed_seat c n (record (seat c n) { point = Marking e }) w a) (λ _ e. e) q.order q.ends (λ z. let y : Marking e ≡ Rolled = z in cc) old
  step_behind (row.home_last n a at l f) =
      behind_ended (moved_seat (closed_by n c) 0 Home true c.mask (turns_after n (closed_by n c)) n (seat_with (seat (closed_by n c) n).passed (point_at_end (seat (closed_by n c) n).reason) (seat (closed_by n c) n).reason) (closed_wide c n w) a) (λ _ e. e) q.order q.ends (end_of (closed_by n c) n)
      (close_other (seat (closed_by n c) n).passed (point_at_end (seat (closed_by n c) n).reason) (seat (closed_by n c) n).reason (end_other (seat (closed_by n c) n).reason))
      (λ m b _ un l. none_follows n m a (ap has_line at) (f ∙ sym (sits_at s n Holding a at).0.is) l) (closed_behind n a)
  step_behind (row.home_last_failed n a at l ne) = behind_quiet (changed_seat (closed_by n c) n (record (seat (closed_by n c) n) { point = Marking n }) (closed_wide c n w) a) (λ _ e. e) q.order q.ends (λ z. let y : Marking n ≡ Rolled = z in cc) (closed_behind n a)
  step_behind (row.done_left n e a at un f) =
      behind_ended (moved_both c c.home (Mailbox e) c.closed c.mask (turns_after n c) n (seat_with (seat c n).passed Left (seat c n).reason) e (done (entry c e)) w a (marked_node s a at)) (λ _ e. e) q.order q.ends (end_of c n)
      (close_other (seat c n).passed Left (seat c n).reason (λ z. let y : Left ≡ Rolled = z in cc))
      (λ m b r _ l. linker_follows n e m a at un r l) old
  step_behind (row.done_rolled n e a at un ne) =
      behind_ended (moved_both c c.home (Mailbox e) c.closed c.mask (turns_after n c) n (seat_with (seat c n).passed (point_at_end (seat c n).reason) (seat c n).reason) e (done (entry c e)) w a (marked_node s a at)) (λ _ e. e) q.order q.ends (end_of c n)
      (close_other (seat c n).passed (point_at_end (seat c n).reason) (seat c n).reason (end_other (seat c n).reason))
      (λ m b r _ l. linker_follows n e m a at un r l) old
  step_behind (row.done_linked n e a at ne) = behind_quiet (changed_both c n (record (seat c n) { point = Granting (entry c e).link }) e (done (entry c e)) w a (marked_node s a at)) (λ _ e. e) q.order q.ends (λ z. let y : Granting (entry c e).link ≡ Rolled = z in cc) old
  step_behind (row.grant n m a at un) =
      behind_ended (moved_both c c.home (Mailbox m) c.closed c.mask (turns_after n c) n (seat_with (seat c n).passed (point_at_end (seat c n).reason) (seat c n).reason) m (grants (entry c m)) w a (node_m s a at)) (λ _ e. refl) q.order q.ends (end_of c n)
      (close_other (seat c n).passed (point_at_end (seat c n).reason) (seat c n).reason (end_other (seat c n).reason))
      (λ x b r _ l. let same : x ≡ m = sym l.its ∙ (last_m s a at).its in let z : false ≡ true = sym un ∙ ap (λ (y : ℕ). (entry c y).rolled) (sym same) ∙ sits_at s x Rolled b r in cc) old
  step_behind {d = d} (row.grant_rolled n m a at ro) =
      let ch = moved_both c c.home c.place c.closed c.mask (turns_after n c) n (seat_passing c n m) m (grants (entry c m)) w a (node_m s a at) in
      behind_ended ch (λ _ e. refl) q.order q.ends (end_of c n)
      (λ z. let y : Leaving m ≡ Rolled = z in cc)
      (λ x b r un l. let same : x ≡ m = sym l.its ∙ (last_m s a at).its in let z : true ≡ false = sym (ap (λ (v : Entry). v.granted) (ap (entry d) same ∙ ch.entry_own)) ∙ un in cc) old
  step_behind (row.roll_granted n a at gr) = behind_quiet (moved_both c c.home (Hand n) c.closed no_mask c.left n (seat_at_arrival n c.closed) n (record (entry c n) { rolled = true }) w a a) (λ _ e. e) q.order q.ends (arrival_other n c.closed) old
  step_behind (row.roll n a at un) =
      let y = sits_at s n Queued a at in
      behind_by (changed_both c n (record (seat c n) { point = Rolled }) n (record (entry c n) { rolled = true }) w a a) (λ _ e. e) q.order q.order q.ends q.ends
      (λ _. (y.at, y.own, waits_behind s n a at un y)) (λ m p _ l. l) (λ m p a at un l b. b) old
  step_behind (row.freed n x rest a at ps) = behind_quiet (changed_both c n (seat_with rest (point_at_end (seat c n).reason) (seat c n).reason) x (record (entry c x) { freed = true }) w a (freed_node n x rest s a ps)) (λ _ e. e) q.order q.ends (close_other rest (point_at_end (seat c n).reason) (seat c n).reason (end_other (seat c n).reason)) old
  step_behind (row.write n mask bytes a at) = old
  step_behind (row.close n a at) = closed_behind n a
