-- Lemmas about what holds in a state that represents a history of the queue.
use Rattle.qolb_model.specs.declared.config.LineConfig.{LineConfig}
use Rattle.std.proofs.Common.{◌≡◌, ◌≢◌, ℕ, suc, ◌+◌, ◌<◌, Bool, true, false, ◌&&◌, List, [], ◌∷◌, ◌⊎◌, length, refl, sym, ◌∙◌, ap, subst, inl, inr, arith, eqb}
use Rattle.std.specs.Prelude.{slice_index_or}
use Rattle.link_core.specs.declared.point.Point.{Point}
use Rattle.link_core.specs.declared.point.Point.TheVariants.{Idle, Ready, Linking, Queued, Holding, Leaving, Marking, Granting, Freeing, Left, Rolled, Shut}
use Rattle.link_core.specs.declared.place.Place.TheVariants.{Home, Mailbox, Hand}
use Rattle.link_core.specs.declared.entry.Entry.{Entry}
use Rattle.link_core.specs.Places.{requester_at, IsLast}
use Rattle.qolb_model.specs.Queue.{Queue}
use Rattle.link_core.specs.State.{State, entry, seat, point, IsNode, last_or, current, is_clear}
use Rattle.link_core.specs.Shown.{is_rolled, has_line, IsWhole, IsCarried, Lies, at_home, in_hand, granted, left, IsBehind, IsWaiting, Sits, IsPassed, Matches}
use Rattle.std.proofs.lemmas.Bool.{cases_lt, cases_Bool}
use Rattle.std.specs.Prelude.{not}

-- the current node of a release is its own, or the last that it passed
pub last_or_cases : (n : ℕ) (ps : List ℕ) → ((ps ≡ []) × (last_or n ps ≡ n)) ⊎ ((i : ℕ) × (i < length ps) × (last_or n ps ≡ slice_index_or ps i 0))
last_or_cases n [] = inl (refl, refl)
last_or_cases n (m ∷ ms) = elim (last_or_cases m ms) [
  | inl e ↦ inr (0, omega arith, e.1)
  | inr e ↦ inr (suc e.0, omega arith, e.2)
]

and_left : (a b : Bool) → (a && b) ≡ true → a ≡ true
and_left true b e = refl
and_left false b e = e

and_false : (a : Bool) → (a && false) ≡ false
and_false true = refl
and_false false = refl

-- A withdrawn request that is not freed is not clear. Neither is the request of a node with the line in its hand, which
-- is not withdrawn.
pub rolled_unfreed : (w : Entry) → w.freed ≡ false → is_clear Rolled w ≡ false
rolled_unfreed w e = rw e refl

pub lined_unclear : (p : Point) (w : Entry) → has_line p ≡ true → is_clear p w ≡ false
lined_unclear Holding w e = refl
lined_unclear (Leaving x) w e = refl
lined_unclear (Marking x) w e = refl
lined_unclear (Granting x) w e = refl
lined_unclear Idle w e = cc
lined_unclear Ready w e = cc
lined_unclear Shut w e = cc
lined_unclear Left w e = cc
lined_unclear Freeing w e = cc
lined_unclear Rolled w e = cc
lined_unclear Queued w e = cc
lined_unclear (Linking x) w e = cc

pub lined_unrolled : (p : Point) → has_line p ≡ true → is_rolled p ≡ false
lined_unrolled Rolled e = cc
lined_unrolled _ e = refl

rolled_unclear : (w : Entry) → w.done ≡ true → w.link ≡ 0 → is_clear Rolled w ≡ false
rolled_unclear w a b = rw (a, b) (and_false w.freed)

module _ {config : LineConfig} {c : State} {h : Queue} (s : Matches config c h) where
  pub current_cases : (n : ℕ) → IsNode c n → (((seat c n).passed ≡ []) × (current c n ≡ n)) ⊎ IsPassed c h.order h.ends n (current c n)
  current_cases n a = elim (last_or_cases n (seat c n).passed) [
    | inl e ↦ inl e
    | inr e ↦ inr (subst (λ (x : ℕ). IsPassed c h.order h.ends n x) (sym e.2) (s.passes n e.0 a e.1))
  ]

  -- the node whose turn it is, with the line in a hand, has the line or was passed
  pub turn_in_hand : (n : ℕ) → IsNode c n → has_line (point c n) ≡ true → (has_line (point c (current c n)) ≡ true) ⊎ (point c (current c n) ≡ Rolled)
  turn_in_hand n a e = elim (current_cases n a) [
    | inl k ↦ inl (ap (λ (x : ℕ). has_line (point c x)) k.1 ∙ e)
    | inr k ↦ inr k.point
  ]

  pub sits_at : (n : ℕ) (p : Point) → IsNode c n → point c n ≡ p → Sits c h.order h.ends n p
  sits_at n p a e = subst (λ (p : Point). Sits c h.order h.ends n p) e (s.sits n a)

  -- a node that still has to link when its turn has come finds the line left for it
  pub left_for : (x q : ℕ) → Lies config c h.order h.ends → length h.ends < length h.order → requester_at h.order (length h.ends) ≡ x → point c x ≡ Linking q → (c.place ≡ Mailbox q) × ((entry c q).done ≡ true) × ((point c q ≡ Left) ⊎ (point c q ≡ Rolled)) × IsWhole config c h.ends
  left_for x q (at_home e b w) l t p = absurd (omega arith)
  left_for x q (in_hand r a i b f g y) l t p = elim (turn_in_hand r i f) [
    | inl k ↦ let e : has_line (Linking q) ≡ true = ap has_line (sym p) ∙ ap (λ (n : ℕ). has_line (point c n)) (sym t ∙ g) ∙ k in cc
    | inr k ↦ let e : Linking q ≡ Rolled = sym p ∙ ap (point c) (sym t ∙ g) ∙ k in cc
  ]
  left_for x q (granted y a b e f g w) l t p = let e : Linking q ≡ Queued = sym p ∙ ap (point c) (sym t ∙ b) ∙ g in cc
  left_for x q (left y z a b e f g i j w) l t p =
      let same : Linking q ≡ Linking z = sym p ∙ ap (point c) (sym t ∙ b) ∙ j in
      let k : q ≡ z = cc in
      rw k (e, f, i, w)

  -- a clear request has ended, whatever its entry's link
  pub clear_ended : (n : ℕ) (w : Entry) → w.freed ≡ (entry c n).freed → IsNode c n → is_clear (point c n) w ≡ true → (p : ℕ) → IsLast h.order n p → p < length h.ends
  clear_ended n w f a e p l = go (point c n) refl e (s.sits n a)
    where
      go : (q : Point) → point c n ≡ q → is_clear q w ≡ true → Sits c h.order h.ends n q → p < length h.ends
      go Idle k e y = y p l
      go Ready k e y = y.0 p l
      go Shut k e y = y p l
      go Left k e y = y p l
      go (Linking x) k e y = cc
      go Queued k e y = cc
      go Holding k e y = cc
      go (Leaving x) k e y = cc
      go (Marking x) k e y = cc
      go (Granting x) k e y = cc
      go Freeing k e y = cc
      go Rolled k e y = elim (cases_lt p (length h.ends)) [
        | inl b ↦ b
        | inr b ↦
            let z : (entry c n).freed ≡ false = subst (λ (m : ℕ). (entry c m).freed ≡ false) l.its (s.fresh p b l.known).freed in
            let v : w.freed ≡ true = and_left w.freed _ e in
            cc
      ]

  -- the request before one that must still be linked is not clear
  pub behind_unclear : (x q : ℕ) → IsNode c x → point c x ≡ Linking q → is_clear (point c q) (entry c q) ≡ false
  behind_unclear x q a e =
      let b = sits_at x (Linking q) a e in
      elim (cases_lt (length h.ends) (b.at + 1)) [
        | inl l ↦ elim (cases_Bool (is_clear (point c q) (entry c q))) [
          | inl t ↦ let k = clear_ended q (entry c q) refl b.node t b.at b.before in absurd (omega arith)
          | inr f ↦ f
        ]
        | inr g ↦
            let t : length h.ends ≡ b.at + 1 = let w = b.waits in omega arith in
            let k = b.own.known in
            let y = left_for x q s.lies (omega arith) (ap (requester_at h.order) t ∙ b.own.its) e in
            elim y.2 [
              | inl z ↦ ap (λ (p : Point). is_clear p (entry c q)) z ∙ ap (λ (n : ℕ). not (eqb n 0)) b.unlinked
              | inr z ↦ ap (λ (p : Point). is_clear p (entry c q)) z ∙ rolled_unclear (entry c q) y.1 b.unlinked
            ]
      ]

  -- a node with the line in its hand
  pub in_its_hand : (n : ℕ) → IsNode c n → has_line (point c n) ≡ true → c.place ≡ Hand n
  in_its_hand n a e = go (point c n) e (s.sits n a)
    where
      go : (q : Point) → has_line q ≡ true → Sits c h.order h.ends n q → c.place ≡ Hand n
      go Holding e y = y.0.place
      go (Leaving x) e y = y.place
      go (Marking x) e y = y.0.place
      go (Granting x) e y = y.0.place
      go Idle e y = cc
      go Ready e y = cc
      go Shut e y = cc
      go Left e y = cc
      go Freeing e y = cc
      go Rolled e y = cc
      go Queued e y = cc
      go (Linking x) e y = cc

  -- a node that grants has a link from its current node
  pub granting_link : (n m : ℕ) → IsNode c n → point c n ≡ Granting m → (entry c (current c n)).link ≢ 0
  granting_link n m a e z =
      let y = sits_at n (Granting m) a e in
      let i = s.nodes (length h.ends + 1) y.1 in
      let k : requester_at h.order (length h.ends + 1) ≡ 0 = y.2 ∙ sym y.3 ∙ z in
      omega arith

  -- the line in a hand
  pub hand_lies : (n : ℕ) → c.place ≡ Hand n → Lies config c h.order h.ends → (length h.ends < length h.order) × (IsNode c n) × (has_line (point c n) ≡ true) × (requester_at h.order (length h.ends) ≡ current c n) × (IsCarried config c h.order h.ends n (seat c n).reason (seat c n).passed)
  hand_lies n e (at_home a b w) = let k : Hand n ≡ Home = sym e ∙ b in cc
  hand_lies n e (in_hand r a i b f g y) =
      let k : Hand n ≡ Hand r = sym e ∙ b in
      let j : n ≡ r = cc in
      rw j (a, i, f, g, y)
  hand_lies n e (granted y a b k f g w) = let j : Hand n ≡ Mailbox y = sym e ∙ k in cc
  hand_lies n e (left y z a b k f g i j w) = let x : Hand n ≡ Mailbox z = sym e ∙ k in cc

  -- if the request before one that must still be linked is done, the later one is at its turn
  pub done_turn : (x q : ℕ) → IsNode c x → point c x ≡ Linking q → (entry c q).done ≡ true → (b : IsBehind c h.order h.ends q x) → length h.ends ≡ b.at + 1
  done_turn x q a e f b = elim (cases_lt (length h.ends) (b.at + 1)) [
    | inl l ↦
        let y = (s.fresh b.at (omega arith) b.before.known).done (ap (λ (m : ℕ). (entry c m).done) b.before.its ∙ f) in
        let g = y.1 in
        let t = hand_lies g.by g.place s.lies in
        let k : current c g.by ≡ q = sym t.3 ∙ ap (requester_at h.order) (sym y.0) ∙ b.before.its in
        absurd (granting_link g.by g.to g.node g.point (ap (λ (m : ℕ). (entry c m).link) k ∙ b.unlinked))
    | inr g ↦ let w = b.waits in omega arith
  ]

  -- a node that waits at its turn finds the line granted
  pub granted_for : (x : ℕ) → Lies config c h.order h.ends → length h.ends < length h.order → requester_at h.order (length h.ends) ≡ x → point c x ≡ Queued → (c.place ≡ Mailbox x) × ((entry c x).granted ≡ true) × IsWhole config c h.ends
  granted_for x (at_home e b w) l t p = absurd (omega arith)
  granted_for x (in_hand r a i b f g y) l t p = elim (turn_in_hand r i f) [
    | inl k ↦ let e : has_line Queued ≡ true = ap has_line (sym p) ∙ ap (λ (n : ℕ). has_line (point c n)) (sym t ∙ g) ∙ k in cc
    | inr k ↦ let e : Queued ≡ Rolled = sym p ∙ ap (point c) (sym t ∙ g) ∙ k in cc
  ]
  granted_for x (granted y a b e f g w) l t p = let same : y ≡ x = sym b ∙ t in rw (← same) (e, f, w)
  granted_for x (left y z a b e f g i j w) l t p = let same : Queued ≡ Linking z = sym p ∙ ap (point c) (sym t ∙ b) ∙ j in cc

  -- a waiting request that is granted is at its turn
  pub granted_turn : (x : ℕ) → IsNode c x → point c x ≡ Queued → (entry c x).granted ≡ true → IsLast h.order x (length h.ends)
  granted_turn x a e g =
      let b = sits_at x Queued a e in
      let t = (s.fresh b.at b.waits b.own.known).granted (ap (λ (m : ℕ). (entry c m).granted) b.own.its ∙ g) in
      subst (λ (p : ℕ). IsLast h.order x p) t b.own

  -- a node that is not granted waits behind the turn
  pub waits_behind : (x : ℕ) (a : IsNode c x) (e : point c x ≡ Queued) → (entry c x).granted ≡ false → (b : IsWaiting c h.order h.ends x) → length h.ends < b.at
  waits_behind x a e g b = elim (cases_lt (length h.ends) b.at) [
    | inl l ↦ l
    | inr l ↦
        let t : length h.ends ≡ b.at = let w = b.waits in omega arith in
        let k = b.own.known in
        let y = granted_for x s.lies (omega arith) (ap (requester_at h.order) t ∙ b.own.its) e in
        let z = y.1 in cc
  ]
