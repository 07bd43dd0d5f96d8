-- Proof about the step with which a node prepends itself to a queue that is not empty.
use Rattle.qolb_model.specs.declared.config.LineConfig.{LineConfig}
use Rattle.std.proofs.Common.{◌≡◌, ◌≢◌, ℕ, ◌+◌, ◌-◌, ◌<◌, ◌≤◌, true, false, ◌||◌, List, [], ◌∷◌, length, Some, refl, sym, ◌∙◌, ap, subst, inl, inr, arith}
use Rattle.link_core.specs.declared.point.Point.{Point}
use Rattle.link_core.specs.declared.point.Point.TheVariants.{Ready, Linking, Queued, Granting, Left, Rolled}
use Rattle.link_core.specs.declared.entry.Entry.{Entry}
use Rattle.link_core.specs.Places.{requester_at, IsLast}
use Rattle.qolb_model.specs.Histories.{none}
use Rattle.qolb_model.specs.Queue.{Queue, ask}
use Rattle.qolb_model.specs.Requests.{count_of}
use Rattle.qolb_model.specs.declared.request.Request.{Request}
use Rattle.link_core.specs.State.{State, NodeCall, entry, seat, point, IsNode}
use Rattle.link_core.specs.Shown.{has_line, is_freeing, IsBehind, IsGranting, Matches}
use Rattle.std.proofs.lemmas.Bool.{cases_eq}
use Rattle.link_core.specs.declared.told.Told.TheVariants as told
use Rattle.link_core.proofs.Deeds.{Advances}
use Rattle.link_core.proofs.Orders.{pushed, length_pushed, requester_old, last_kept, last_back, last_new}
use Rattle.qolb_model.proofs.Prefixes.{prefix_self, prefix_append}
use Rattle.link_core.proofs.Changes.{Changed, point_other, point_own, at_other}
use Rattle.link_core.proofs.Asks.{at_ready, not_open, asks_shows}
use Rattle.link_core.proofs.Follows.{left_for}
use Rattle.link_core.proofs.Kept.{Spares, Leaves, lies_kept, rests_kept}

module _ (config : LineConfig) (c : State) (h : Queue) (n : ℕ) (sts : List NodeCall) (s : Matches config c h) (is : IsNode c n) (ready : point c n ≡ Ready) (busy : c.home ≢ 0) (ch : Changed c (record c { home = n; seats = sts }) n (record (seat c n) { point = Linking c.home }) n (entry c n)) where
  abbrev d : State
  d = record c { home = n; seats = sts }

  abbrev new : Request
  new = record { node = n; number = count_of n h.order + 1 }

  abbrev o2 : List Request
  o2 = pushed h.order new

  abbrev after : Queue
  after = record h { order = o2 }

  some : length h.ends < length h.order
  some = elim (cases_eq (length h.ends) (length h.order)) [
    | inl e ↦ absurd (busy (s.home_idle e))
    | inr ne ↦ let k = s.known in grind arith
  ]

  -- the place of the last request
  tail : (p : ℕ) × (p + 1 ≡ length h.order)
  tail = (length h.order - 1, let k = some in omega arith)

  predecessor : c.home ≡ requester_at h.order tail.0
  predecessor = let k = some in s.home_last tail.0 (let e = tail.1 in omega arith) tail.1

  -- no node must still link to n
  unlinked : (m q p : ℕ) → point c m ≡ Linking q → IsLast h.order q p → IsLast h.order m (p + 1) → length h.ends ≤ p + 1 → q ≢ n
  unlinked m q p e a b l f =
      let at = (at_ready s is ready).0 p (subst (λ (q : ℕ). IsLast h.order q p) f a) in
      let t : length h.ends ≡ p + 1 = omega arith in
      let k = b.known in
      let left = left_for s m q s.lies (omega arith) (ap (requester_at h.order) t ∙ b.its) e in
      elim left.2 [
        | inl g ↦ let x : Left ≡ Ready = sym g ∙ ap (point c) f ∙ ready in cc
        | inr g ↦ let x : Rolled ≡ Ready = sym g ∙ ap (point c) f ∙ ready in cc
      ]

  -- the node that made the last request has it as its last in the longer order
  older_last : IsLast o2 c.home tail.0
  older_last =
      let k = some in let t = tail.1 in
      let l : tail.0 < length h.order = omega arith in
      let m : length h.ends ≤ tail.0 = omega arith in
      subst (λ (q : ℕ). IsLast o2 q tail.0) (sym predecessor) (last_kept h.order new (requester_at h.order tail.0) tail.0 (not_open s is ready tail.0 m l) (s.distinct tail.0 m l))

  spares : (m : ℕ) → IsNode c m → m ≢ n → Spares c d h.order o2 h.ends h.ends m
  spares m im ne = record {
    nodes = refl;
    seat = ch.seat_other m ne;
    rolled = refl;
    ready = λ _. refl;
    fwd = λ p. last_kept h.order new m p ne;
    back = λ p. last_back h.order new m p ne;
    ended = prefix_self h.ends;
    later = λ p _ _ l. l;
    behind = λ q p e a b w. (last_kept h.order new q p (unlinked m q p e a b w) a, refl);
    line = λ e. (refl, refl, (λ l. (let k = length_pushed h.order new in omega arith, requester_old h.order new (length h.ends + 1) l)), λ _ _. refl);
  }

  sits : IsBehind d o2 h.ends c.home n
  sits = record {
    at = tail.0;
    node = rw predecessor (s.nodes tail.0 (let k = tail.1 in omega arith));
    before = older_last;
    own = rw tail.1 (last_new h.order new);
    waits = let k = tail.1 in let l = some in omega arith;
    unlinked = rw predecessor (s.last_link tail.0 (let k = tail.1 in let l = some in omega arith) tail.1);
    rolled = ap (λ (w : Entry). w.rolled) (at_ready s is ready).1;
  }

  granting : IsGranting c → IsGranting d
  granting g = record { by = g.by; to = g.to; node = g.node; place = g.place; point = point_other ch g.by (at_other ch g.by Ready (Granting g.to) ready g.point (λ e. cc)) ∙ g.point }

  leaves : Leaves c d h.order o2 h.ends
  leaves = record {
    place = refl;
    bytes = refl;
    closed = refl;
    mask = refl;
    nodes = refl;
    home = λ e. let k = some in absurd (omega arith);
    turn = λ l. (let k = length_pushed h.order new in omega arith, requester_old h.order new (length h.ends) l);
    fwd = λ m p e. last_kept h.order new m p (λ f. let x : has_line Ready ≡ true = ap has_line (sym ready) ∙ ap (λ (x : ℕ). has_line (point c x)) (sym f) ∙ e in cc);
    hand = λ m e. ch.seat_other m (λ f. let x : has_line Ready ≡ true = ap has_line (sym ready) ∙ ap (λ (x : ℕ). has_line (point c x)) (sym f) ∙ e in cc);
    box = λ t _ _ p g. (point_other ch t (at_other ch t Ready Queued ready p (λ e. cc)) ∙ p, g);
    linking = λ t q _ _ p. point_other ch t (at_other ch t Ready (Linking q) ready p (λ e. cc)) ∙ p;
    tail = λ q p e f. (point_other ch q (elim p [ inl g ↦ at_other ch q Ready Left ready g (λ e. cc) | inr g ↦ at_other ch q Ready Rolled ready g (λ e. cc) ]), refl, refl);
  }

  -- prepending behind another request: the queue machine's ask
  pub prepend_keeps : Advances config d h n told.Went (Some (ask n)) false
  prepend_keeps = record {
    after = after;
    makes = refl;
    clears = none;
    uncleared = λ _. refl;
    shows = asks_shows s is ready ch refl refl (s.unpassed n is (ap (λ (p : Point). has_line p || is_freeing p) ready)) (lies_kept leaves config s.lies) sits spares (λ m q e. e) granting
        (λ p a e. point_own ch ∙ ap Linking (s.home_last p a e)) (λ x e. e)
        (rests_kept leaves h.clear h.clear s.known (prefix_append h.order (new ∷ [])) (prefix_self h.clear) s.settled.rests);
    says = tt;
  }
