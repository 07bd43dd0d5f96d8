-- Proof about the step with which a node links itself to the node before it in the queue.
use Rattle.qolb_model.specs.declared.config.LineConfig.{LineConfig}
use Rattle.line_lanes.specs.declared.line.Mask.{Mask}
use Rattle.std.proofs.Common.{◌≡◌, ◌≢◌, ℕ, ◌+◌, ◌<◌, ◌≤◌, true, false, ◌||◌, List, [], ◌⊎◌, length, None, refl, sym, ◌∙◌, ap, subst, inl, inr, arith}
use Rattle.link_core.specs.declared.point.Point.{Point}
use Rattle.link_core.specs.declared.point.Point.TheVariants.{Ready, Linking, Queued, Granting, Left, Rolled}
use Rattle.link_core.specs.declared.place.Place.{Place}
use Rattle.link_core.specs.declared.place.Place.TheVariants.{Mailbox, Hand}
use Rattle.link_core.specs.declared.entry.Entry.{Entry}
use Rattle.link_core.specs.Places.{request, requester_at, IsLast}
use Rattle.qolb_model.specs.Histories.{none, Clears}
use Rattle.qolb_model.specs.Queue.{Queue}
use Rattle.qolb_model.specs.Requests.{has}
use Rattle.link_core.specs.State.{State, NodeCall, entry, seat, point, IsNode, current, is_clear}
use Rattle.link_core.specs.Shown.{is_rolled, has_line, is_freeing, IsWhole, Lies, IsLinked, IsBehind, Sits, HasReached, IsGranting, IsFresh, Rests, Matches}
use Rattle.std.proofs.lemmas.Bool.{cases_eq, cases_lt}
use Rattle.link_core.specs.declared.told.Told.TheVariants as told
use Rattle.link_core.specs.State.{no_mask}
use Rattle.link_core.specs.Steps.{seat_at_arrival, told_at_arrival}
use Rattle.link_core.proofs.Deeds.{Advances}
use Rattle.link_core.proofs.Orders.{last_once}
use Rattle.qolb_model.proofs.Prefixes.{prefix_self}
use Rattle.qolb_model.proofs.Clearing.{clears_begin}
use Rattle.link_core.proofs.Changes.{Changed, point_other, point_own, at_other, field, passes_kept, once_kept, unpassed_kept}
use Rattle.link_core.proofs.Clearing.{Cleared, may_push_cleared}
use Rattle.link_core.proofs.Follows.{left_for, sits_at, clear_ended, behind_unclear, in_its_hand, granting_link, done_turn}
use Rattle.link_core.proofs.Handoff.{arrival_lies, arrival_sits, arrival_says, arrival_unrolled, arrival_unclear, arrival_unpassed}
use Rattle.link_core.proofs.Kept.{Spares, spares_by, sits_kept, fresh_kept, Leaves, lies_kept, rests_kept, rests_held, settled_by}

abbrev pub linked : Entry → ℕ → Entry
linked w n = record w { link = n }

module _ (config : LineConfig) (c : State) (h : Queue) (n p : ℕ) (pl : Place) (mk : Mask) (ents : List Entry) (sts : List NodeCall) (st : NodeCall)
    (s : Matches config c h) (is : IsNode c n) (at : point c n ≡ Linking p)
    (ch : Changed c (record c { place = pl; mask = mk; entries = ents; seats = sts }) n st p (linked (entry c p) n))
    (unrolled : is_rolled st.point ≡ false) (unclear : (w : Entry) → is_clear st.point w ≡ false) (none_passed : st.passed ≡ []) (hands : (m : ℕ) → c.place ≡ Hand m → pl ≡ Hand m) where
  abbrev d : State
  d = record c { place = pl; mask = mk; entries = ents; seats = sts }

  behind : IsBehind c h.order h.ends p n
  behind = sits_at s n (Linking p) is at

  link_other : (m : ℕ) → m ≢ p → (entry d m).link ≡ (entry c m).link
  link_other m ne = ap (λ (w : Entry). w.link) (ch.entry_other m ne)

  link_own : (entry d p).link ≡ n
  link_own = ap (λ (w : Entry). w.link) ch.entry_own

  apart : p ≢ n
  apart e = let y = behind.before.newest (behind.at + 1) (omega arith) behind.own.known in y (behind.own.its ∙ sym e)

  -- the open request of p is the one before n's
  place_of_p : (q : ℕ) → length h.ends ≤ q → q < length h.order → requester_at h.order q ≡ p → q ≡ behind.at
  place_of_p q a l e = last_once h.order p q behind.at (subst (λ (x : ℕ). IsLast h.order x q) e (s.distinct q a l)) behind.before

  links : (q : ℕ) → length h.ends ≤ q → q + 1 < length h.order → IsLinked d (requester_at h.order q) (requester_at h.order (q + 1))
  links q a l = elim (cases_eq (requester_at h.order q) p) [
    | inl e ↦ let k = place_of_p q a (omega arith) e in
        inl (ap (λ (x : ℕ). (entry d x).link) e ∙ link_own ∙ sym behind.own.its ∙ ap (λ (x : ℕ). requester_at h.order (x + 1)) (sym k))
    | inr ne ↦ elim (s.links q a l) [
      | inl e ↦ inl (link_other (requester_at h.order q) ne ∙ e)
      | inr e ↦ inr (
        link_other (requester_at h.order q) ne ∙ e.0,
        point_other ch (requester_at h.order (q + 1)) (λ f.
            let k : Linking p ≡ Linking (requester_at h.order q) = sym at ∙ ap (point c) (sym f) ∙ e.1 in
            let j : p ≡ requester_at h.order q = cc in ne (sym j)) ∙ e.1,
      )
    ]
  ]

  last_link : (q : ℕ) → length h.ends ≤ q → q + 1 ≡ length h.order → (entry d (requester_at h.order q)).link ≡ 0
  last_link q a e = link_other (requester_at h.order q) (λ f.
      let k = place_of_p q a (omega arith) f in let j = behind.own.known in absurd (omega arith)) ∙ s.last_link q a e

  marks : (q : ℕ) → length h.ends ≤ q → q < length h.order → has h.marked (request h.order q) ≡ is_rolled (point d (requester_at h.order q))
  marks q a l = s.marks q a l ∙ elim (cases_eq (requester_at h.order q) n) [
    | inl e ↦ rw (e, point_own ch, at) (sym unrolled)
    | inr ne ↦ ap is_rolled (sym (point_other ch (requester_at h.order q) ne))
  ]

  pub cleared : Cleared c h.order (length h.ends) h.clear (λ m. is_clear (point d m) (entry d m))
  cleared = may_push_cleared c h.order (length h.ends) h.clear s.numbered (λ m. is_clear (point c m) (entry c m)) (λ m. is_clear (point d m) (entry d m)) p behind.at
      (record { clear = h.clear; grows = none; says = s.clears; known = s.clear_known })
      behind.before behind.node (behind_unclear s n p is at)
      (λ e. clear_ended s p (linked (entry c p) n) refl behind.node (rw (ch.entry_own, point_other ch p apart) at e) behind.at behind.before)
      (λ m q ne a l. elim (cases_eq m n) [
        | inl e ↦ rw (e, point_own ch, at) (unclear (entry d n))
        | inr ne2 ↦ rw (point_other ch m ne2, ch.entry_other m ne) refl
      ])

  spares : (m : ℕ) → IsNode c m → m ≢ n → Spares c d h.order h.order h.ends h.ends m
  spares m a ne = spares_by ch h.order h.ends h.ends m ne (λ _. refl) (λ _. ready_p) (prefix_self h.ends) (λ q _ _ l. l)
      (λ q x e l k. link_other q (λ f.
      let i = last_once h.order p x behind.at (subst (λ (q : ℕ). IsLast h.order q x) f l) behind.before in
      ne (sym k.its ∙ ap (λ (x : ℕ). requester_at h.order (x + 1)) i ∙ behind.own.its)))
      (λ e. let k = in_its_hand s m a e in (hands m k ∙ sym k, refl, λ x k. link_other (current c m) (λ f. granting_link s m x a k (ap (λ (x : ℕ). (entry c x).link) f ∙ behind.unlinked))))
    where
      ready_p : point c p ≡ Ready → ⊥
      ready_p e = let k = behind_unclear s n p is at in let j : is_clear (point c p) (entry c p) ≡ true = ap (λ (q : Point). is_clear q (entry c p)) e in cc

  granting : IsGranting c → IsGranting d
  granting g = record { by = g.by; to = g.to; node = g.node; place = hands g.by g.place; point = point_other ch g.by (at_other ch g.by (Linking p) (Granting g.to) at g.point (λ e. cc)) ∙ g.point }

  fresh : (q : ℕ) → length h.ends ≤ q → q < length h.order → IsFresh d (length h.ends) (requester_at h.order q) q
  fresh q a l = fresh_kept c d (length h.ends) (length h.ends) (requester_at h.order q) q (field ch (λ w. w.freed) refl (requester_at h.order q)) (field ch (λ w. w.granted) refl (requester_at h.order q)) (field ch (λ w. w.done) refl (requester_at h.order q)) (λ e. e) granting (s.fresh q a l)

  same_passed : st.passed ≡ (seat c n).passed
  same_passed = none_passed ∙ sym (s.unpassed n is (ap (λ (p : Point). has_line p || is_freeing p) at))

  come : (m q : ℕ) → HasReached c h.ends m q → HasReached d h.ends m q
  come m q (inl e) = inl e
  come m q (inr e) = inr (e.0, hands m e.1)

  abbrev pub after_link : Queue
  after_link = record h { clear = cleared.clear }

  box : n ≡ 0 → pl ≡ Mailbox p
  box e = let k = is.0 in absurd (omega arith)

  pub link_shows : Lies config d h.order h.ends → Sits d h.order h.ends n st.point
      → ((x : ℕ) → x ≢ p → c.place ≡ Mailbox x → pl ≡ Mailbox x) → Rests d h.order h.ends cleared.clear → Matches config d after_link
  link_shows lies own boxes rests = record {
    opened = s.opened;
    size = s.size;
    turns = s.turns;
    known = s.known;
    nodes = s.nodes;
    numbered = s.numbered;
    marked_known = s.marked_known;
    clear_known = cleared.known;
    distinct = s.distinct;
    home_idle = s.home_idle;
    home_last = s.home_last;
    links = links;
    last_link = last_link;
    lies = lies;
    marks = marks;
    clears = λ m q a l. cleared.says m q a l;
    sits = λ m a. elim (cases_eq m n) [
      | inl e ↦ rw (e, point_own ch) own
      | inr ne ↦ sits_kept (spares m a ne) (s.sits m a)
    ];
    fresh = fresh;
    passes = passes_kept ch same_passed h.order h.order h.ends h.ends (λ x q e kept l. (at_other ch x (Linking p) Rolled at e (λ e. cc), field ch (λ w. w.freed) refl x, l)) (λ m i q l. come m q) s.passes;
    once = once_kept ch same_passed s.once;
    unpassed = unpassed_kept ch same_passed (λ _. s.unpassed n is (ap (λ (p : Point). has_line p || is_freeing p) at)) s.unpassed;
    settled = settled_by ch h.order h.order h.ends h.ends h.clear cleared.clear behind.node s.settled boxes (λ _. box) (λ _. is.1) rests;
  }

  pub link_clears : Clears after_link.order (length after_link.ends) h.clear after_link.clear
  link_clears = cleared.grows

-- the older request is not done, so n waits
module _ (config : LineConfig) (c : State) (h : Queue) (n p : ℕ) (ents : List Entry) (sts : List NodeCall)
    (s : Matches config c h) (is : IsNode c n) (at : point c n ≡ Linking p) (undone : (entry c p).done ≡ false)
    (ch : Changed c (record c { entries = ents; seats = sts }) n (record (seat c n) { point = Queued }) p (linked (entry c p) n)) where
  abbrev e : State
  e = record c { entries = ents; seats = sts }

  b : IsBehind c h.order h.ends p n
  b = sits_at s n (Linking p) is at

  waits : length h.ends < b.at + 1
  waits = elim (cases_lt (length h.ends) (b.at + 1)) [
    | inl l ↦ l
    | inr g ↦
        let t : length h.ends ≡ b.at + 1 = let w = b.waits in omega arith in
        let k = b.own.known in
        let y = left_for s n p s.lies (omega arith) (ap (requester_at h.order) t ∙ b.own.its) at in
        let z = y.1 in cc
  ]

  not_turn : length h.ends < length h.order → requester_at h.order (length h.ends) ≢ n
  not_turn l f = let k = last_once h.order n (length h.ends) (b.at + 1) (subst (λ (x : ℕ). IsLast h.order x (length h.ends)) f (s.distinct (length h.ends) (omega arith) l)) b.own in let w = waits in absurd (omega arith)

  leaves : Leaves c e h.order h.order h.ends
  leaves = record {
    place = refl;
    bytes = refl;
    closed = refl;
    mask = refl;
    nodes = refl;
    home = λ e. e;
    turn = λ l. (l, refl);
    fwd = λ m q e l. l;
    hand = λ m f. ch.seat_other m (λ g. let x : has_line (Linking p) ≡ true = ap has_line (sym at) ∙ ap (λ (x : ℕ). has_line (point c x)) (sym g) ∙ f in cc);
    box = λ t _ _ q g. (point_other ch t (at_other ch t (Linking p) Queued at q (λ e. cc)) ∙ q, field ch (λ w. w.granted) refl t ∙ g);
    linking = λ t q l a f. point_other ch t (λ g. not_turn l (a ∙ g)) ∙ f;
    tail = λ q a f g. (
      point_other ch q (elim a [ inl i ↦ at_other ch q (Linking p) Left at i (λ e. cc) | inr i ↦ at_other ch q (Linking p) Rolled at i (λ e. cc) ]),
      ap (λ (w : Entry). w.link) (ch.entry_other q (not_p q g)),
      ap (λ (w : Entry). w.done) (ch.entry_other q (not_p q g)),
    );
  }
    where
      not_p : (q : ℕ) → (entry c q).done ≡ true → q ≢ p
      not_p q g k = let x : false ≡ true = sym undone ∙ ap (λ (m : ℕ). (entry c m).done) (sym k) ∙ g in cc

  pub link_keeps : Advances config e h n told.Queued None true
  link_keeps =
      let none = s.unpassed n is (ap (λ (p : Point). has_line p || is_freeing p) at) in
      let clears = link_clears config c h n p c.place c.mask ents sts (record (seat c n) { point = Queued }) s is at ch refl (λ _. refl) none (λ _ e. e) in
      record {
        after = after_link config c h n p c.place c.mask ents sts (record (seat c n) { point = Queued }) s is at ch refl (λ _. refl) none (λ _ e. e);
        makes = refl;
        clears = clears;
        uncleared = λ e. cc;
        shows = link_shows config c h n p c.place c.mask ents sts (record (seat c n) { point = Queued }) s is at ch refl (λ _. refl) none (λ _ e. e)
            (lies_kept leaves config s.lies)
            (record { at = b.at + 1; own = b.own; waits = b.waits; rolled = field ch (λ w. w.rolled) refl n ∙ b.rolled })
            (λ x ne e. e) (rests_kept leaves h.clear _ s.known (prefix_self h.order) (clears_begin clears) s.settled.rests);
        says = record { at = b.at + 1; last = b.own; behind = waits };
      }

-- the older request is done, and left the line: the linking node takes it
module _ (config : LineConfig) (c : State) (h : Queue) (n p : ℕ) (ents : List Entry) (sts : List NodeCall)
    (s : Matches config c h) (is : IsNode c n) (at : point c n ≡ Linking p) (done : (entry c p).done ≡ true)
    (ch : Changed c (record c { place = Hand n; mask = no_mask; entries = ents; seats = sts }) n (seat_at_arrival n c.closed) p (linked (entry c p) n)) where
  abbrev f : State
  f = record c { place = Hand n; mask = no_mask; entries = ents; seats = sts }

  bb : IsBehind c h.order h.ends p n
  bb = sits_at s n (Linking p) is at

  turn : length h.ends ≡ bb.at + 1
  turn = done_turn s n p is at done bb

  some : length h.ends < length h.order
  some = let k = bb.own.known in let t = turn in omega arith

  its : requester_at h.order (length h.ends) ≡ n
  its = ap (requester_at h.order) turn ∙ bb.own.its

  found : (c.place ≡ Mailbox p) × ((entry c p).done ≡ true) × ((point c p ≡ Left) ⊎ (point c p ≡ Rolled)) × IsWhole config c h.ends
  found = left_for s n p s.lies some its at

  no_hand : (m : ℕ) → c.place ≡ Hand m → Hand n ≡ Hand m
  no_hand m e = let x : Mailbox p ≡ Hand m = sym found.0 ∙ e in cc

  pub link_done_keeps : Advances config f h n (told_at_arrival c.closed) None true
  link_done_keeps = record {
    after = after_link config c h n p (Hand n) no_mask ents sts (seat_at_arrival n c.closed) s is at ch (arrival_unrolled n c.closed) (arrival_unclear n c.closed) (arrival_unpassed n c.closed) no_hand;
    makes = refl;
    clears = link_clears config c h n p (Hand n) no_mask ents sts (seat_at_arrival n c.closed) s is at ch (arrival_unrolled n c.closed) (arrival_unclear n c.closed) (arrival_unpassed n c.closed) no_hand;
    uncleared = λ e. cc;
    shows = link_shows config c h n p (Hand n) no_mask ents sts (seat_at_arrival n c.closed) s is at ch (arrival_unrolled n c.closed) (arrival_unclear n c.closed) (arrival_unpassed n c.closed) no_hand
        (arrival_lies config c f h.order h.ends n some its found.3 s.opened is refl refl refl refl ch.seat_own)
        (arrival_sits config c f h.order h.ends n some its found.3 s.opened is refl refl refl refl ch.seat_own)
        (λ x ne e. let z : Mailbox p ≡ Mailbox x = sym found.0 ∙ e in let y : p ≡ x = cc in absurd (ne (sym y))) (rests_held f n h.order h.ends _ refl);
    says = arrival_says _ n c.closed found.3.closed (rw turn bb.own);
  }
