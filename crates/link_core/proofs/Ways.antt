-- Proof that some productive event is possible while a request is open, and that the rank is bounded. (A productive
-- event is one that lowers the rank.)
use Rattle.qolb_model.specs.declared.config.LineConfig.{LineConfig}
use Rattle.std.proofs.Common.{◌≡◌, ℕ, zero, suc, ◌+◌, ◌*◌, ◌<◌, ◌≤◌, Bool, true, false, length, refl, sym, ◌∙◌, ap, subst, inl, inr, arith}
use Rattle.std.specs.Prelude.{cond}
use Rattle.std.proofs.lemmas.Bool.{cases_eq, cases_lt, cases_Bool}
use Rattle.qolb_model.specs.Queue.{Queue}
use Rattle.qolb_model.specs.Steps.{is_one}
use Rattle.link_core.specs.declared.entry.Entry.{Entry}
use Rattle.link_core.specs.declared.event.Event.{Event}
use Rattle.link_core.specs.declared.event.Event.TheVariants as event
use Rattle.link_core.specs.declared.place.Place.TheVariants.{Hand}
use Rattle.link_core.specs.declared.point.Point.{Point}
use Rattle.link_core.specs.declared.point.Point.TheVariants.{Idle, Ready, Linking, Queued, Holding, Leaving, Marking, Granting, Freeing, Left, Rolled, Shut}
use Rattle.link_core.specs.declared.told.Told.{Told as Answer}
use Rattle.link_core.specs.Places.{requester_at, IsLast}
use Rattle.link_core.specs.State.{State, entry, point, IsNode}
use Rattle.link_core.specs.Steps.{Step, holding, leaving, node_of}
use Rattle.link_core.specs.Steps as row
use Rattle.link_core.specs.Shown.{has_line, AreBehind, Sits, Lies, at_home, in_hand, granted, left, Matches}
use Rattle.link_core.specs.Progress.{sum_over, is_productive, steps_left, steps_left_at, all_steps_left, rank_at, asks_behind, is_pending_at, pending, ActsNext, holds, leaves, marks, grants, loads, links, HasWay, IsNear}
use Rattle.link_core.proofs.Sums.{sum_le, sum_one, sum_has, sum_times}
use Rattle.link_core.proofs.Costs.{brings_arrival}
use Rattle.link_core.proofs.Ranks.{not_behind, last_not_behind}
use Rattle.link_core.proofs.Falls.{rank_idle, rank_busy, open_by_home, home_by_open, busy_has_three}
use Rattle.link_core.proofs.Ending.{facts, later_other}

-- an event of n that is enabled, and productive
pub record Enabled (c : State) (e : Event) : Type 0 where
  pub told : Answer
  pub next : State
  pub step : Step c e told next
  pub productive : is_productive e told ≡ true

module _ (c : State) (n : ℕ) (a : IsNode c n) where
  home_enabled : (e : ℕ) → row.Releases c n e → Enabled c (event.Home n)
  home_enabled e r = elim (cases_eq c.home e) [
    | inl z ↦ record { told = _; next = _; step = row.home n e a r z; productive = refl }
    | inr z ↦ record { told = _; next = _; step = row.home_failed n e a r z; productive = refl }
  ]

  last_enabled : point c n ≡ Holding → is_one c.left ≡ true → Enabled c (event.Home n)
  last_enabled at l = elim (cases_eq c.home n) [
    | inl z ↦ record { told = _; next = _; step = row.home_last n a at l z; productive = refl }
    | inr z ↦ record { told = _; next = _; step = row.home_last_failed n a at l z; productive = refl }
  ]

  holder_enabled : point c n ≡ Holding → Enabled c (event.Home n)
  holder_enabled at = elim (cases_Bool (is_one c.left)) [
    | inl z ↦ last_enabled at z
    | inr z ↦ home_enabled n (holding at refl z)
  ]

  done_enabled : (e : ℕ) → point c n ≡ Marking e → Enabled c (event.Done n)
  done_enabled e at = elim (cases_eq (entry c e).link 0) [
    | inl z ↦ elim (cases_eq e n) [
      | inl y ↦ record { told = _; next = _; step = row.done_left n e a at z y; productive = refl }
      | inr y ↦ record { told = _; next = _; step = row.done_rolled n e a at z y; productive = refl }
    ]
    | inr z ↦ record { told = _; next = _; step = row.done_linked n e a at z; productive = refl }
  ]

  grant_enabled : (m : ℕ) → point c n ≡ Granting m → Enabled c (event.Grant n)
  grant_enabled m at = elim (cases_Bool (entry c m).rolled) [
    | inl z ↦ record { told = _; next = _; step = row.grant_rolled n m a at z; productive = refl }
    | inr z ↦ record { told = _; next = _; step = row.grant n m a at z; productive = refl }
  ]

  load_enabled : point c n ≡ Queued → (entry c n).granted ≡ true → Enabled c (event.Load n)
  load_enabled at gr = record { told = _; next = _; step = row.load_granted n a at gr; productive = brings_arrival c.closed }

  link_enabled : (e : ℕ) → point c n ≡ Linking e → (entry c e).done ≡ true → Enabled c (event.Link n)
  link_enabled e at dn = record { told = _; next = _; step = row.link_done n e a at dn; productive = refl }

module _ {config : LineConfig} {c : State} {q : Queue} (s : Matches config c q) where
  way : (e : Event) → IsNode c (node_of e) → ActsNext c e → ((p : ℕ) → length q.ends ≤ p → asks_behind q.order p (node_of e) ≡ false) → Enabled c e → HasWay c q
  way e a w b k = record { event = e; node = a; who = w; before = b; told = k.told; next = k.next; step = k.step; productive = k.productive }

  held_before : (n : ℕ) → IsNode c n → has_line (point c n) ≡ true → (p : ℕ) → length q.ends ≤ p → asks_behind q.order p n ≡ false
  held_before n a f p l = not_behind q.order p n (λ i b k. later_other s a f i (omega arith) k)

  turn_before : (t : ℕ) → length q.ends < length q.order → requester_at q.order (length q.ends) ≡ t → (p : ℕ) → length q.ends ≤ p → asks_behind q.order p t ≡ false
  turn_before t l e p b = last_not_behind q.order p t (length q.ends) (subst (λ (x : ℕ). IsLast q.order x (length q.ends)) e (s.distinct (length q.ends) (omega arith) l)) b

  pub turn_node : (t : ℕ) → length q.ends < length q.order → requester_at q.order (length q.ends) ≡ t → IsNode c t
  turn_node t l e = subst (λ (x : ℕ). IsNode c x) e (s.nodes (length q.ends) l)

  held_way : (n : ℕ) (a : IsNode c n) → c.place ≡ Hand n → has_line (point c n) ≡ true → (x : Point) → point c n ≡ x → HasWay c q
  held_way n a h f Holding e = way (event.Home n) a (holds n h e) (held_before n a f) (holder_enabled c n a e)
  held_way n a h f (Leaving x) e = way (event.Home n) a (leaves n x h e) (held_before n a f) (home_enabled c n a x (leaving e))
  held_way n a h f (Marking x) e = way (event.Done n) a (marks n x h e) (held_before n a f) (done_enabled c n a x e)
  held_way n a h f (Granting x) e = way (event.Grant n) a (grants n x h e) (held_before n a f) (grant_enabled c n a x e)
  held_way n a h f Idle e = let z : false ≡ true = sym (ap has_line e) ∙ f in cc
  held_way n a h f Ready e = let z : false ≡ true = sym (ap has_line e) ∙ f in cc
  held_way n a h f Shut e = let z : false ≡ true = sym (ap has_line e) ∙ f in cc
  held_way n a h f Left e = let z : false ≡ true = sym (ap has_line e) ∙ f in cc
  held_way n a h f Freeing e = let z : false ≡ true = sym (ap has_line e) ∙ f in cc
  held_way n a h f Rolled e = let z : false ≡ true = sym (ap has_line e) ∙ f in cc
  held_way n a h f Queued e = let z : false ≡ true = sym (ap has_line e) ∙ f in cc
  held_way n a h f (Linking x) e = let z : false ≡ true = sym (ap has_line e) ∙ f in cc

  pub has_way : length q.ends < length q.order → Lies config c q.order q.ends → HasWay c q
  has_way l (at_home e b w) = absurd (omega arith)
  has_way l (in_hand n _ a b f g h) = held_way n a b f (point c n) refl
  has_way l (granted t _ b h f g w) = let a = turn_node t l b in way (event.Load t) a (loads t h g f) (turn_before t l b) (load_enabled c t a g f)
  has_way l (left t x _ b h f g y i w) = let a = turn_node t l b in way (event.Link t) a (links t x h i f) (turn_before t l b) (link_enabled c t a x i f)

-- a pending node has at most five events left, and any other node has none
steps_left_most : (c : State) (w : Entry) (p : Point) → steps_left_at c w p ≤ 5 * cond (is_pending_at w p) 1 0
steps_left_most c w Idle = omega arith
steps_left_most c w Ready = omega arith
steps_left_most c w Shut = omega arith
steps_left_most c w Left = omega arith
steps_left_most c w Freeing = omega arith
steps_left_most c w (Linking x) = most (entry c x).done
  where
    most : (b : Bool) → cond b 4 5 ≤ 5
    most true = omega arith
    most false = omega arith
steps_left_most c w Queued = omega arith
steps_left_most c w Holding = omega arith
steps_left_most c w (Leaving x) = omega arith
steps_left_most c w (Marking x) = omega arith
steps_left_most c w (Granting x) = omega arith
steps_left_most c w Rolled = most w.freed w.granted
  where
    most : (a b : Bool) → cond a 0 (cond b 1 4) ≤ 5 * cond (cond a false true) 1 0
    most true b = omega arith
    most false true = omega arith
    most false false = omega arith

one_most : (b : Bool) → cond b 1 0 ≤ 1
one_most true = omega arith
one_most false = omega arith

left_out_most : (b : Bool) (x : ℕ) → cond b 0 x ≤ x
left_out_most true x = omega arith
left_out_most false x = omega arith

module _ {config : LineConfig} {c : State} {q : Queue} (s : Matches config c q) where
  abbrev one : ℕ → ℕ
  one k = cond (is_pending_at (entry c k) (point c k)) 1 0

  all_most : all_steps_left c ≤ 5 * pending c
  all_most = let a = sum_le c.nodes (steps_left c) (λ k. 5 * one k) (λ k _ _. steps_left_most c (entry c k) (point c k)) in let b = sum_times c.nodes 5 one in omega arith

  -- the node that is next to act has at most four events left
  all_fewer : (n : ℕ) → IsNode c n → steps_left c n + 1 ≤ 5 * one n → all_steps_left c + 1 ≤ 5 * pending c
  all_fewer n a l =
      let x = sum_one c.nodes n (steps_left c) (λ k. 5 * one k) a.0 a.1 (λ k _ _ _. steps_left_most c (entry c k) (point c k)) in
      let b = sum_times c.nodes 5 one in
      omega arith

  fewer_at : (n : ℕ) → IsNode c n → (x : Point) → point c n ≡ x → steps_left_at c (entry c n) x + 1 ≤ 5 * cond (is_pending_at (entry c n) x) 1 0 → all_steps_left c + 1 ≤ 5 * pending c
  fewer_at n a x e l = all_fewer n a (subst (λ (x : Point). steps_left_at c (entry c n) x + 1 ≤ 5 * cond (is_pending_at (entry c n) x) 1 0) (sym e) l)

  held_fewer : (n : ℕ) → IsNode c n → (x : Point) → point c n ≡ x → has_line x ≡ true → all_steps_left c + 1 ≤ 5 * pending c
  held_fewer n a Holding e f = fewer_at n a Holding e (omega arith)
  held_fewer n a (Leaving x) e f = fewer_at n a (Leaving x) e (omega arith)
  held_fewer n a (Marking x) e f = fewer_at n a (Marking x) e (omega arith)
  held_fewer n a (Granting x) e f = fewer_at n a (Granting x) e (omega arith)
  held_fewer n a Idle e f = cc
  held_fewer n a Ready e f = cc
  held_fewer n a Shut e f = cc
  held_fewer n a Left e f = cc
  held_fewer n a Freeing e f = cc
  held_fewer n a (Linking x) e f = cc
  held_fewer n a Queued e f = cc
  held_fewer n a Rolled e f = cc

  open_fewer : length q.ends < length q.order → Lies config c q.order q.ends → all_steps_left c + 1 ≤ 5 * pending c
  open_fewer l (at_home e b w) = absurd (omega arith)
  open_fewer l (in_hand n _ a b f g h) = held_fewer n a (point c n) refl f
  open_fewer l (granted t _ b h f g w) = fewer_at t (turn_node s t l b) Queued g (omega arith)
  open_fewer l (left t x _ b h f g y i w) = fewer_at t (turn_node s t l b) (Linking x) i (rw f (omega arith))

  pending_most : pending c ≤ c.nodes
  pending_most = let a = sum_le c.nodes one (λ _. 1) (λ k _ _. one_most (is_pending_at (entry c k) (point c k))) in let b = ones c.nodes in omega arith
    where
      ones : (n : ℕ) → sum_over n (λ _. 1) ≡ n
      ones zero = refl
      ones (suc n) = let e = ones n in omega arith

  rank_at_most : (p : ℕ) → rank_at c q.order p ≤ all_steps_left c
  rank_at_most p = sum_le c.nodes (λ k. cond (asks_behind q.order p k) 0 (steps_left c k)) (steps_left c) (λ k _ _. left_out_most (asks_behind q.order p k) (steps_left c k))

  -- while a request is open, the node that is next to act has some event left
  some_at : (n : ℕ) → IsNode c n → ((p : ℕ) → length q.ends ≤ p → asks_behind q.order p n ≡ false) → 0 < steps_left c n → (p : ℕ) → length q.ends ≤ p → 0 < rank_at c q.order p
  some_at n a f l p b =
      let k = sum_has c.nodes n (λ k. cond (asks_behind q.order p k) 0 (steps_left c k)) a.0 a.1 in
      let e : cond (asks_behind q.order p n) 0 (steps_left c n) ≡ steps_left c n = ap (λ b. cond b 0 (steps_left c n)) (f p b) in
      omega arith

  held_some : (n : ℕ) → (x : Point) → point c n ≡ x → has_line x ≡ true → 0 < steps_left c n
  held_some n Holding e f = let k : steps_left c n ≡ 3 = ap (steps_left_at c (entry c n)) e in omega arith
  held_some n (Leaving x) e f = let k : steps_left c n ≡ 3 = ap (steps_left_at c (entry c n)) e in omega arith
  held_some n (Marking x) e f = let k : steps_left c n ≡ 2 = ap (steps_left_at c (entry c n)) e in omega arith
  held_some n (Granting x) e f = let k : steps_left c n ≡ 1 = ap (steps_left_at c (entry c n)) e in omega arith
  held_some n Idle e f = cc
  held_some n Ready e f = cc
  held_some n Shut e f = cc
  held_some n Left e f = cc
  held_some n Freeing e f = cc
  held_some n (Linking x) e f = cc
  held_some n Queued e f = cc
  held_some n Rolled e f = cc

  open_some : length q.ends < length q.order → Lies config c q.order q.ends → (p : ℕ) → length q.ends ≤ p → 0 < rank_at c q.order p
  open_some l (at_home e b w) = absurd (omega arith)
  open_some l (in_hand n _ a b f g h) = some_at n a (held_before s n a f) (held_some n (point c n) refl f)
  open_some l (granted t _ b h f g w) = some_at t (turn_node s t l b) (turn_before s t l b) (let k : steps_left c t ≡ 4 = ap (steps_left_at c (entry c t)) g in omega arith)
  open_some l (left t x _ b h f g y i w) = some_at t (turn_node s t l b) (turn_before s t l b) (let k : steps_left c t ≡ 4 = ap (steps_left_at c (entry c t)) i ∙ ap (λ b. cond b 4 5) f in omega arith)

  -- while no request is open, only freeings are left
  module _ (behind : AreBehind c q.order q.ends) (over : length q.ends ≡ length q.order) where
    held_over : (n : ℕ) → IsNode c n → (x : Point) → point c n ≡ x → has_line x ≡ true → ⊥
    held_over n a x e f = let k = (facts s a (ap has_line e ∙ f)).0 in omega arith

    rolled_over : (n : ℕ) → IsNode c n → point c n ≡ Rolled → (b g : Bool) → (entry c n).granted ≡ g → cond b 0 (cond g 1 4) ≤ cond (cond b false true) 1 0
    rolled_over n a e true g f = omega arith
    rolled_over n a e false true f = omega arith
    rolled_over n a e false false f = let k = behind n a e f in let l = k.1.known in let m = k.2 in absurd (omega arith)

    over_most : (n : ℕ) → IsNode c n → (x : Point) → point c n ≡ x → Sits c q.order q.ends n x → steps_left_at c (entry c n) x ≤ cond (is_pending_at (entry c n) x) 1 0
    over_most n a Idle e y = omega arith
    over_most n a Ready e y = omega arith
    over_most n a Shut e y = omega arith
    over_most n a Left e y = omega arith
    over_most n a Freeing e y = omega arith
    over_most n a (Linking x) e y = let k = y.own.known in let l = y.waits in absurd (omega arith)
    over_most n a Queued e y = let k = y.own.known in let l = y.waits in absurd (omega arith)
    over_most n a Rolled e y = rolled_over n a e (entry c n).freed (entry c n).granted refl
    over_most n a Holding e y = absurd (held_over n a Holding e refl)
    over_most n a (Leaving x) e y = absurd (held_over n a (Leaving x) e refl)
    over_most n a (Marking x) e y = absurd (held_over n a (Marking x) e refl)
    over_most n a (Granting x) e y = absurd (held_over n a (Granting x) e refl)

    all_over : all_steps_left c ≤ pending c
    all_over = sum_le c.nodes (steps_left c) one (λ k a b. over_most k (a, b) (point c k) refl (s.sits k (a, b)))

  over_at_home : c.home ≡ 0 → length q.ends ≡ length q.order
  over_at_home e = elim (cases_lt (length q.ends) (length q.order)) [
    | inl l ↦ absurd (home_by_open s l e)
    | inr l ↦ let k = s.known in omega arith
  ]

  pub is_near : AreBehind c q.order q.ends → IsNear c q
  is_near behind = record {
    most = λ some. elim (cases_eq c.home 0) [
      | inl z ↦ let a = rank_idle c z in let b = all_over behind (over_at_home z) in omega arith
      | inr z ↦ let a = rank_busy c z in let b = open_fewer (open_by_home s z) s.lies in let m = busy_has_three s z in omega arith
    ];
    none = λ e. let m = all_most in elim (cases_eq c.home 0) [
      | inl z ↦ let a = rank_idle c z in omega arith
      | inr z ↦ let a = rank_busy c z in omega arith
    ];
    some = λ p l k. open_some (omega arith) s.lies p l;
    at = λ p l k. let a = rank_at_most p in let b = open_fewer (omega arith) s.lies in let m = pending_most in omega arith;
  }
