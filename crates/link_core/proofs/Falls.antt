-- Lemmas about how an event changes the rank of the state and the ranks of the open requests. (A rank is a number that
-- each productive event lowers.)
use Rattle.qolb_model.specs.declared.config.LineConfig.{LineConfig}
use Rattle.std.proofs.Common.{◌≡◌, ◌≢◌, ℕ, ◌+◌, ◌-◌, ◌*◌, ◌<◌, ◌≤◌, Bool, true, false, List, [], ◌∷◌, ◌++◌, length, eqb, Option, Some, None, refl, sym, ◌∙◌, ap, subst, inl, inr, arith, length-append}
use Rattle.std.specs.Prelude.{cond, slice_index_or}
use Rattle.std.proofs.lemmas.Bool.{cases_eq, cases_Bool, cases_lt}
use Rattle.std.proofs.lemmas.Bool.Decides.{nat_tests}
use Rattle.std.proofs.lemmas.Option.{slice_get_within}
use Rattle.qolb_model.specs.declared.end.End.{End}
use Rattle.qolb_model.specs.declared.end.End.TheVariants.{Gone}
use Rattle.qolb_model.specs.declared.request.Request.{Request}
use Rattle.qolb_model.specs.Queue.{Queue, Move, ask, mark, finish}
use Rattle.qolb_model.specs.Requests.{next_of}
use Rattle.link_core.specs.declared.event.Event.{Event}
use Rattle.link_core.specs.declared.point.Point.{Point}
use Rattle.link_core.specs.declared.point.Point.TheVariants.{Idle, Ready, Linking, Queued, Holding, Leaving, Marking, Granting, Freeing, Left, Rolled, Shut}
use Rattle.link_core.specs.declared.told.Told.{Told as Answer}
use Rattle.link_core.specs.Places.{requester_at, IsLast}
use Rattle.link_core.specs.State.{State, IsWide, entry, seat, point, IsNode}
use Rattle.link_core.specs.Steps.{Step, node_of}
use Rattle.link_core.specs.Moves.{move_of, made, Goes}
use Rattle.link_core.specs.Shown.{has_line, Sits, Lies, at_home, in_hand, granted, left, Matches}
use Rattle.link_core.specs.Progress.{sum_over, is_productive, asked_by, steps_left, steps_left_at, all_steps_left, rank, rank_at, asks_behind, GoesDown}
use Rattle.link_core.proofs.Sums.{sum_le, sum_has}
use Rattle.link_core.proofs.Costs.{is_asking, Pays, alone, ends, unfastens, passes, asks, step_pays}
use Rattle.link_core.proofs.Ranks.{last_not_behind, behind_own, behind_other, least_by, over_all, by_own, own_falls, sum_most, sum_falls}
use Rattle.link_core.proofs.Cases.{step_allowed}
use Rattle.link_core.proofs.Ending.{later_other}
use Rattle.link_core.proofs.Grant.{last_m}
use Rattle.link_core.proofs.Orders.{has_ended}
use Rattle.link_core.proofs.Sound.{step_sizes}

linking_some : (b : Bool) → 4 ≤ cond b 4 5
linking_some true = omega arith
linking_some false = omega arith

module _ {config : LineConfig} {c : State} {q : Queue} (s : Matches config c q) where
  -- a request behind the one at its turn has its whole way to go
  waits_steps_left : (m p : ℕ) → IsNode c m → IsLast q.order m p → length q.ends < p → p < length q.order → requester_at q.order p ≡ m → (x : Point) → point c m ≡ x → Sits c q.order q.ends m x → 4 ≤ steps_left_at c (entry c m) x
  waits_steps_left m p a last b l f Idle e y = let k = y p last in absurd (omega arith)
  waits_steps_left m p a last b l f Ready e y = let k = y.0 p last in absurd (omega arith)
  waits_steps_left m p a last b l f Shut e y = let k = y p last in absurd (omega arith)
  waits_steps_left m p a last b l f Left e y = let k = y p last in absurd (omega arith)
  waits_steps_left m p a last b l f Freeing e y = let k = has_ended y.0 p last in absurd (omega arith)
  waits_steps_left m p a last b l f (Linking x) e y = linking_some (entry c x).done
  waits_steps_left m p a last b l f Queued e y = omega arith
  waits_steps_left m p a last b l f Rolled e y =
      let k = s.fresh p (omega arith) l in
      let free : (entry c m).freed ≡ false = ap (λ (x : ℕ). (entry c x).freed) (sym f) ∙ k.freed in
      rw free (elim (cases_Bool (entry c m).granted) [
        | inl z ↦ let g = k.granted (ap (λ (x : ℕ). (entry c x).granted) f ∙ z) in absurd (omega arith)
        | inr z ↦ rw z (omega arith)
      ])
  waits_steps_left m p a last b l f Holding e y = absurd (later_other s a (ap has_line e) p b l f)
  waits_steps_left m p a last b l f (Leaving x) e y = absurd (later_other s a (ap has_line e) p b l f)
  waits_steps_left m p a last b l f (Marking x) e y = absurd (later_other s a (ap has_line e) p b l f)
  waits_steps_left m p a last b l f (Granting x) e y = absurd (later_other s a (ap has_line e) p b l f)

  later_steps_left : (p : ℕ) → length q.ends < p → p < length q.order → 4 ≤ steps_left c (requester_at q.order p)
  later_steps_left p b l = let a = s.nodes p l in waits_steps_left (requester_at q.order p) p a (s.distinct p (omega arith) l) b l refl (point c (requester_at q.order p)) refl (s.sits (requester_at q.order p) a)

  -- home names a node exactly if a request is open
  pub open_by_home : c.home ≢ 0 → length q.ends < length q.order
  open_by_home ne = elim (cases_lt (length q.ends) (length q.order)) [
    | inl l ↦ l
    | inr l ↦ absurd (ne (s.home_idle (let k = s.known in omega arith)))
  ]

  pub home_by_open : length q.ends < length q.order → c.home ≢ 0
  home_by_open l e =
      let p : ℕ = length q.order - 1 in
      let j = s.home_last p (omega arith) (omega arith) in
      let i = (s.nodes p (omega arith)).0 in
      omega arith

  -- at least three events are then left
  has_three : (n : ℕ) → IsNode c n → 3 ≤ steps_left c n → 3 ≤ all_steps_left c
  has_three n a l = let k = sum_has c.nodes n (steps_left c) a.0 a.1 in omega arith

  held_three : (n : ℕ) → IsNode c n → (x : Point) → point c n ≡ x → has_line x ≡ true → Sits c q.order q.ends n x → 3 ≤ all_steps_left c
  held_three n a Holding e f y = has_three n a (let k : steps_left c n ≡ 3 = ap (steps_left_at c (entry c n)) e in omega arith)
  held_three n a (Leaving x) e f y = has_three n a (let k : steps_left c n ≡ 3 = ap (steps_left_at c (entry c n)) e in omega arith)
  held_three n a (Marking x) e f y = let l = y.1 in has_three (requester_at q.order (length q.ends + 1)) (s.nodes (length q.ends + 1) l) (let k = later_steps_left (length q.ends + 1) (omega arith) l in omega arith)
  held_three n a (Granting x) e f y = let l = y.1 in has_three (requester_at q.order (length q.ends + 1)) (s.nodes (length q.ends + 1) l) (let k = later_steps_left (length q.ends + 1) (omega arith) l in omega arith)
  held_three n a Idle e f y = cc
  held_three n a Ready e f y = cc
  held_three n a Shut e f y = cc
  held_three n a Left e f y = cc
  held_three n a Freeing e f y = cc
  held_three n a (Linking x) e f y = cc
  held_three n a Queued e f y = cc
  held_three n a Rolled e f y = cc

  turn_node : (t : ℕ) → length q.ends < length q.order → requester_at q.order (length q.ends) ≡ t → IsNode c t
  turn_node t l e = subst (λ (x : ℕ). IsNode c x) e (s.nodes (length q.ends) l)

  three_left : length q.ends < length q.order → Lies config c q.order q.ends → 3 ≤ all_steps_left c
  three_left l (at_home e b w) = absurd (omega arith)
  three_left l (in_hand n _ a b f g h) = held_three n a (point c n) refl f (s.sits n a)
  three_left l (granted t _ b e f g w) = has_three t (turn_node t l b) (let k : steps_left c t ≡ 4 = ap (steps_left_at c (entry c t)) g in omega arith)
  three_left l (left t x _ b e f g h i w) = has_three t (turn_node t l b) (let k : steps_left c t ≡ cond (entry c x).done 4 5 = ap (steps_left_at c (entry c t)) i in let j = linking_some (entry c x).done in omega arith)

  pub busy_has_three : c.home ≢ 0 → 3 ≤ all_steps_left c
  busy_has_three ne = three_left (open_by_home ne) s.lies

-- the rank, in terms of home
pub rank_idle : (c : State) → c.home ≡ 0 → rank c ≡ all_steps_left c
rank_idle c e = ap (λ (h : ℕ). cond (eqb h 0) (all_steps_left c) (all_steps_left c - 2)) e

pub rank_busy : (c : State) → c.home ≢ 0 → rank c ≡ all_steps_left c - 2
rank_busy c ne = let e : eqb c.home 0 ≡ false = let t = ne in grind (arith, nat_tests) in ap (λ b. cond b (all_steps_left c) (all_steps_left c - 2)) e

-- the order and the ends after a move
made_order : (q : Queue) (m : Option Move) → is_asking m ≡ false → (made q m).order ≡ q.order
made_order q None e = refl
made_order q (Some (ask n)) e = cc
made_order q (Some (mark r)) e = refl
made_order q (Some (finish x)) e = refl

made_ends : (q : Queue) (m : Option Move) → length q.ends ≤ length (made q m).ends
made_ends q None = omega arith
made_ends q (Some (ask n)) = omega arith
made_ends q (Some (mark r)) = omega arith
made_ends q (Some (finish x)) = omega (arith, length-append q.ends (x ∷ []))

module _ {config : LineConfig} {c : State} {q : Queue} (w : IsWide c) (s : Matches config c q) {e : Event} {t : Answer} {d : State} (k : Step c e t d) (r : Queue) (goes : Goes config q (move_of k q.order) r) where
  abbrev n : ℕ
  n = node_of e

  abbrev move : Option Move
  move = move_of k q.order

  is : IsNode c n
  is = (step_allowed c k).0

  nodes : d.nodes ≡ c.nodes
  nodes = (step_sizes c k).0

  pays : Pays c d n (is_productive e t) (asked_by e) move
  pays = step_pays config c q w s k

  pub ends_more : length q.ends ≤ length r.ends
  ends_more = let a = made_ends q move in let b : length r.ends ≡ length (made q move).ends = ap (λ (g : Queue). length g.ends) goes.cleared.2 in omega arith

  ends_one : (x : End) → move ≡ Some (finish x) → length r.ends ≡ length q.ends + 1
  ends_one x f = ap (λ (g : Queue). length g.ends) goes.cleared.2 ∙ ap (λ (m : Option Move). length (made q m).ends) f ∙ length-append q.ends (x ∷ [])

  order_same : is_asking move ≡ false → r.order ≡ q.order
  order_same f = ap (λ (g : Queue). g.order) goes.cleared.2 ∙ made_order q move f

  order_asked : move ≡ Some (ask n) → r.order ≡ q.order ++ next_of n q.order ∷ []
  order_asked f = ap (λ (g : Queue). g.order) goes.cleared.2 ∙ ap (λ (m : Option Move). (made q m).order) f

  -- for the request at a place that stays open
  module _ (p : ℕ) (l : p < length q.order) (o : length r.ends ≤ p) where
    abbrev v : ℕ → Bool
    v = asks_behind q.order p

    next : (m : ℕ) (x : End) → move ≡ Some (finish x) → point c n ≡ Granting m → v m ≡ false
    next m x f at = last_not_behind q.order p m (length q.ends + 1) (last_m s is at) (let z = ends_one x f in omega arith)

    first : (x : ℕ) (rest : List ℕ) → point c n ≡ Freeing → (seat c n).passed ≡ x ∷ rest → v x ≡ false
    first x rest at ps =
        let j = s.passes n 0 is (subst (λ (ps : List ℕ). 0 < length ps) (sym ps) (omega arith)) in
        let z : slice_index_or (seat c n).passed 0 0 ≡ x = ap (λ (ps : List ℕ). slice_index_or ps 0 0) ps in
        let m = ends_more in
        let come : j.at ≤ p = elim j.come [ inl f ↦ let g = slice_get_within q.ends j.at Gone f in omega arith | inr f ↦ let g = f.0 in omega arith ] in
        last_not_behind q.order p x j.at (subst (λ (y : ℕ). IsLast q.order y j.at) z j.last) come

    to_same : (o2 : List Request) → r.order ≡ o2 → sum_over c.nodes (λ (m : ℕ). cond (asks_behind o2 p m) 0 (steps_left d m)) ≡ rank_at d r.order p
    to_same o2 f =
        ap (λ (z : ℕ). sum_over z (λ (m : ℕ). cond (asks_behind o2 p m) 0 (steps_left d m))) (sym nodes)
        ∙ ap (λ (o : List Request). sum_over d.nodes (λ (m : ℕ). cond (asks_behind o p m) 0 (steps_left d m))) (sym f)

    quiet : is_asking move ≡ false → rank_at d r.order p ≤ rank_at c q.order p
    quiet f = let a = sum_most c d n is v (λ m x f at _. next m x f at) f pays in let b = to_same q.order (order_same f) in omega arith

    asking : move ≡ Some (ask n) → ((m : ℕ) → IsNode c m → m ≢ n → steps_left d m ≤ steps_left c m) → rank_at d r.order p ≤ rank_at c q.order p
    asking f g =
        let o2 = q.order ++ next_of n q.order ∷ [] in
        let a = sum_le c.nodes (λ (m : ℕ). cond (asks_behind o2 p m) 0 (steps_left d m)) (over_all c v) each in
        let b = to_same o2 (order_asked f) in
        omega arith
      where
        each : (m : ℕ) → 0 < m → m ≤ c.nodes → cond (asks_behind (q.order ++ next_of n q.order ∷ []) p m) 0 (steps_left d m) ≤ over_all c v m
        each m a b = elim (cases_eq m n) [
          | inl z ↦ rw (ap (asks_behind (q.order ++ next_of n q.order ∷ []) p) z ∙ behind_own q.order (next_of n q.order) p l) (omega arith)
          | inr z ↦ rw (behind_other q.order (next_of n q.order) p m l z) (least_by (v m) (steps_left d m) (steps_left c m) (g m (a, b) z))
        ]

    most_by : Pays c d n (is_productive e t) (asked_by e) move → rank_at d r.order p ≤ rank_at c q.order p
    most_by (alone u h f l) = quiet u
    most_by (ends u h b f l) = quiet u
    most_by (unfastens u x rest h a ps at f l) = quiet u
    most_by (passes x f m h at a ne g l j) = quiet (ap is_asking f)
    most_by (asks a f y h g l) = asking f g

    not_asking : Pays c d n (is_productive e t) (asked_by e) move → is_productive e t ≡ true → is_asking move ≡ false
    not_asking (alone u h f l) y = u
    not_asking (ends u h b f l) y = u
    not_asking (unfastens u x rest h a ps at f l) y = u
    not_asking (passes x f m h at a ne g l j) y = ap is_asking f
    not_asking (asks a f z h g l) y = let x : false ≡ true = sym z ∙ y in cc

    falls_by : is_productive e t ≡ true → v n ≡ false → rank_at d r.order p < rank_at c q.order p
    falls_by y f = let a = sum_falls c d n is v next first f y pays in let b = to_same q.order (order_same (not_asking pays y)) in omega arith

  -- the same for all requests
  abbrev none : ℕ → Bool
  none _ = false

  all_same : sum_over c.nodes (steps_left d) ≡ all_steps_left d
  all_same = ap (λ (z : ℕ). sum_over z (steps_left d)) (sym nodes)

  ends_all : ((m : ℕ) → IsNode c m → m ≢ n → steps_left d m ≤ steps_left c m) → steps_left d n + 3 ≤ steps_left c n → all_steps_left d + 3 ≤ all_steps_left c
  ends_all f l = let a = own_falls c d n is none 3 refl f l in let b = all_same in omega arith

  asks_all : ((m : ℕ) → IsNode c m → m ≢ n → steps_left d m ≤ steps_left c m) → steps_left d n ≤ steps_left c n + 5 → all_steps_left d ≤ all_steps_left c + 5
  asks_all f l = let a = by_own c d n is none f in let b = all_same in omega arith

  most_all : is_asking move ≡ false → all_steps_left d ≤ all_steps_left c
  most_all f = let a = sum_most c d n is none (λ m x f at _. refl) f pays in let b = all_same in omega arith

  falls_all : is_productive e t ≡ true → all_steps_left d < all_steps_left c
  falls_all y = let a = sum_falls c d n is none (λ m x f at. refl) (λ x rest at ps. refl) refl y pays in let b = all_same in omega arith

  by_home : d.home ≡ c.home → all_steps_left d ≤ all_steps_left c → rank d ≤ rank c
  by_home h l = elim (cases_eq c.home 0) [
    | inl z ↦ let a = rank_idle c z in let b = rank_idle d (h ∙ z) in omega arith
    | inr z ↦ let a = rank_busy c z in let b = rank_busy d (λ y. z (sym h ∙ y)) in omega arith
  ]

  falls_by_home : d.home ≡ c.home → all_steps_left d < all_steps_left c → rank d < rank c
  falls_by_home h l = elim (cases_eq c.home 0) [
    | inl z ↦ let a = rank_idle c z in let b = rank_idle d (h ∙ z) in omega arith
    | inr z ↦ let a = rank_busy c z in let b = rank_busy d (λ y. z (sym h ∙ y)) in let m = busy_has_three s z in omega arith
  ]

  most : Pays c d n (is_productive e t) (asked_by e) move → rank d ≤ rank c + 5 * asked_by e
  most (alone u h f l) = let a = by_home h (most_all u) in omega arith
  most (ends u h b f l) = let x = ends_all f l in let y = rank_idle d h in let z = rank_busy c b in omega arith
  most (unfastens u x rest h a ps at f l) = let a = by_home h (most_all u) in omega arith
  most (passes x f m h at a ne g l j) = let a = by_home h (most_all (ap is_asking f)) in omega arith
  most (asks a f y h g l) = let x = asks_all g l in let z = rank_busy d h in elim (cases_eq c.home 0) [
    | inl i ↦ let b = rank_idle c i in omega arith
    | inr i ↦ let b = rank_busy c i in let m = busy_has_three s i in omega arith
  ]

  falls : is_productive e t ≡ true → Pays c d n (is_productive e t) (asked_by e) move → rank d < rank c
  falls y (alone u h f l) = falls_by_home h (falls_all y)
  falls y (ends u h b f l) = let x = ends_all f l in let y = rank_idle d h in let z = rank_busy c b in omega arith
  falls y (unfastens u x rest h a ps at f l) = falls_by_home h (falls_all y)
  falls y (passes x f m h at a ne g l j) = falls_by_home h (falls_all y)
  falls y (asks a f z h g l) = let x : false ≡ true = sym z ∙ y in cc

  pub goes_down : GoesDown c d q r e t
  goes_down = record {
    most = most pays;
    falls = λ y. falls y pays;
    most_at = λ p l o. most_by p l o pays;
    falls_at = λ p l o y f. falls_by p l o y f;
  }
