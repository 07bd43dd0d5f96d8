-- Proof that each productive event lowers the rank. (The productive events are links, loads that bring the line,
-- releases and freeings.)
use Rattle.std.proofs.Common.{◌≡◌, ◌≢◌, ℕ, zero, suc, ◌+◌, ◌<◌, ◌≤◌, Bool, true, false, ◌||◌, List, [], ◌∷◌, ◌++◌, length, eqb, Option, Some, refl, sym, ◌∙◌, ap, inl, inr, arith}
use Rattle.std.specs.Prelude.{cond}
use Rattle.std.specs.List.{list_any}
use Rattle.std.proofs.lemmas.Bool.{cases_Bool, or_right}
use Rattle.std.proofs.lemmas.Bool.Decides.{nat_tests}
use Rattle.qolb_model.specs.declared.end.End.{End}
use Rattle.qolb_model.specs.declared.request.Request.{Request}
use Rattle.qolb_model.specs.Queue.{Move, finish}
use Rattle.link_core.specs.declared.point.Point.TheVariants.{Granting, Freeing}
use Rattle.link_core.specs.Places.{requester_at, IsLast}
use Rattle.link_core.specs.State.{State, seat, point, IsNode}
use Rattle.link_core.specs.Progress.{sum_over, steps_left, asks_behind, one_if}
use Rattle.link_core.proofs.Sums.{sum_le, sum_one, sum_two}
use Rattle.link_core.proofs.Costs.{is_asking, Pays, alone, ends, unfastens, passes, asks}

-- a node that asks behind a place
none_asks : (o : List Request) (m : ℕ) → ((i : ℕ) → i < length o → requester_at o i ≢ m) → list_any (λ (r : Request). eqb r.node m) o ≡ false
none_asks [] m f = refl
none_asks (x ∷ o) m f =
    let a : eqb x.node m ≡ false = let t : x.node ≢ m = f 0 (omega arith) in grind (arith, nat_tests) in
    let b = none_asks o m (λ i l. f (suc i) (omega arith)) in
    ap (λ b. b || list_any (λ (r : Request). eqb r.node m) o) a ∙ b

pub not_behind : (o : List Request) (p m : ℕ) → ((i : ℕ) → p < i → i < length o → requester_at o i ≢ m) → asks_behind o p m ≡ false
not_behind [] p m f = refl
not_behind (x ∷ o) zero m f = none_asks o m (λ i l. f (suc i) (omega arith) (omega arith))
not_behind (x ∷ o) (suc p) m f = not_behind o p m (λ i l k. f (suc i) (omega arith) (omega arith))

-- a node whose last place is no later
pub last_not_behind : (o : List Request) (p m at : ℕ) → IsLast o m at → at ≤ p → asks_behind o p m ≡ false
last_not_behind o p m at l b = not_behind o p m (λ i k j. l.newest i (omega arith) j)

any_pushed : (f : Request → Bool) (o : List Request) (r : Request) → list_any f (o ++ r ∷ []) ≡ (list_any f o || f r)
any_pushed f [] r = by (f r)
  where
    by : (b : Bool) → (b || false) ≡ b
    by true = refl
    by false = refl
any_pushed f (x ∷ o) r = by (f x) (any_pushed f o r)
  where
    by : (b : Bool) → list_any f (o ++ r ∷ []) ≡ (list_any f o || f r) → (b || list_any f (o ++ r ∷ [])) ≡ ((b || list_any f o) || f r)
    by true e = refl
    by false e = e

behind_pushed : (o : List Request) (r : Request) (p m : ℕ) → p < length o → asks_behind (o ++ r ∷ []) p m ≡ (asks_behind o p m || eqb r.node m)
behind_pushed [] r p m l = absurd (omega arith)
behind_pushed (x ∷ o) r zero m l = any_pushed (λ (y : Request). eqb y.node m) o r
behind_pushed (x ∷ o) r (suc p) m l = behind_pushed o r p m (omega arith)

-- the requester is behind; nothing changes for the others
pub behind_own : (o : List Request) (r : Request) (p : ℕ) → p < length o → asks_behind (o ++ r ∷ []) p r.node ≡ true
behind_own o r p l = behind_pushed o r p r.node l ∙ or_right (asks_behind o p r.node) (eqb r.node r.node) (grind (arith, nat_tests))

pub behind_other : (o : List Request) (r : Request) (p m : ℕ) → p < length o → m ≢ r.node → asks_behind (o ++ r ∷ []) p m ≡ asks_behind o p m
behind_other o r p m l ne =
    let e : eqb r.node m ≡ false = let t : r.node ≢ m = λ z. ne (sym z) in grind (arith, nat_tests) in
    behind_pushed o r p m l ∙ by (asks_behind o p m) (eqb r.node m) e
  where
    by : (a b : Bool) → b ≡ false → (a || b) ≡ a
    by true b e = refl
    by false b e = e

-- a term that is left out or not
pub least_by : (b : Bool) (x y : ℕ) → x ≤ y → cond b 0 x ≤ cond b 0 y
least_by true x y l = omega arith
least_by false x y l = l

-- The sums over the nodes that v does not leave out.
abbrev pub over_all : State → (ℕ → Bool) → ℕ → ℕ
over_all c v k = cond (v k) 0 (steps_left c k)

module _ (c d : State) (n : ℕ) (is : IsNode c n) (v : ℕ → Bool) where
  least : ((m : ℕ) → IsNode c m → m ≢ n → steps_left d m ≤ steps_left c m) → (k : ℕ) → 0 < k → k ≤ c.nodes → k ≢ n → over_all d v k ≤ over_all c v k
  least f k a b ne = least_by (v k) (steps_left d k) (steps_left c k) (f k (a, b) ne)

  -- if only n's own changes
  pub by_own : ((m : ℕ) → IsNode c m → m ≢ n → steps_left d m ≤ steps_left c m) → sum_over c.nodes (over_all d v) + over_all c v n ≤ sum_over c.nodes (over_all c v) + over_all d v n
  by_own f = sum_one c.nodes n (over_all d v) (over_all c v) is.0 is.1 (least f)

  own_most : (a : ℕ) → ((m : ℕ) → IsNode c m → m ≢ n → steps_left d m ≤ steps_left c m) → steps_left d n + a ≤ steps_left c n → sum_over c.nodes (over_all d v) ≤ sum_over c.nodes (over_all c v)
  own_most a f l = let x = by_own f in let y = least_by (v n) (steps_left d n) (steps_left c n) (omega arith) in omega arith

  pub own_falls : (a : ℕ) → v n ≡ false → ((m : ℕ) → IsNode c m → m ≢ n → steps_left d m ≤ steps_left c m) → steps_left d n + a ≤ steps_left c n → sum_over c.nodes (over_all d v) + a ≤ sum_over c.nodes (over_all c v)
  own_falls a e f l =
      let x = by_own f in
      let y : over_all d v n ≡ steps_left d n = ap (λ b. cond b 0 (steps_left d n)) e in
      let z : over_all c v n ≡ steps_left c n = ap (λ b. cond b 0 (steps_left c n)) e in
      omega arith

  -- no act but an ask raises the sum
  pub sum_most : {prod : Bool} {asked : ℕ} {move : Option Move} → ((m : ℕ) (x : End) → move ≡ Some (finish x) → point c n ≡ Granting m → v n ≡ false → v m ≡ false) → is_asking move ≡ false → Pays c d n prod asked move → sum_over c.nodes (over_all d v) ≤ sum_over c.nodes (over_all c v)
  sum_most {prod = prod} next quiet (alone u h f l) = own_most (one_if prod) f l
  sum_most next quiet (ends u h b f l) = own_most 3 f l
  sum_most next quiet (unfastens u x rest h a ps at f l) = sum_le c.nodes (over_all d v) (over_all c v) (λ k a b. least_by (v k) (steps_left d k) (steps_left c k) (f k (a, b)))
  sum_most next quiet (passes x e m h at a ne f l j) =
      let two = sum_two c.nodes n m (over_all d v) (over_all c v) is.0 is.1 a.0 a.1 ne (λ k a b u w. least_by (v k) (steps_left d k) (steps_left c k) (f k (a, b) u w)) in
      elim (cases_Bool (v n)) [
        | inl t ↦
            let y : over_all d v n ≡ 0 = ap (λ b. cond b 0 (steps_left d n)) t in
            let z : over_all c v n ≡ 0 = ap (λ b. cond b 0 (steps_left c n)) t in
            let w = least_by (v m) (steps_left d m) (steps_left c m) (omega arith) in
            omega arith
        | inr t ↦
            let i = next m x e at t in
            let y : over_all d v n ≡ steps_left d n = ap (λ b. cond b 0 (steps_left d n)) t in
            let z : over_all c v n ≡ steps_left c n = ap (λ b. cond b 0 (steps_left c n)) t in
            let u : over_all d v m ≡ steps_left d m = ap (λ b. cond b 0 (steps_left d m)) i in
            let w : over_all c v m ≡ steps_left c m = ap (λ b. cond b 0 (steps_left c m)) i in
            omega arith
      ]
  sum_most next quiet (asks k e p h f l) = let z : false ≡ true = sym quiet ∙ ap is_asking e in cc

  -- a productive event lowers the rank
  pub sum_falls : {prod : Bool} {asked : ℕ} {move : Option Move} → ((m : ℕ) (x : End) → move ≡ Some (finish x) → point c n ≡ Granting m → v m ≡ false) → ((x : ℕ) (rest : List ℕ) → point c n ≡ Freeing → (seat c n).passed ≡ x ∷ rest → v x ≡ false) → v n ≡ false → prod ≡ true → Pays c d n prod asked move → sum_over c.nodes (over_all d v) < sum_over c.nodes (over_all c v)
  sum_falls {prod = prod} next first e p (alone u h f l) = let k = own_falls (one_if prod) e f l in let j : one_if prod ≡ 1 = ap one_if p in omega arith
  sum_falls next first e p (ends u h b f l) = let k = own_falls 3 e f l in omega arith
  sum_falls next first e p (unfastens u x rest h a ps at f l) =
      let one = sum_one c.nodes x (over_all d v) (over_all c v) a.0 a.1 (λ k a b _. least_by (v k) (steps_left d k) (steps_left c k) (f k (a, b))) in
      let y : over_all d v x ≡ steps_left d x = ap (λ b. cond b 0 (steps_left d x)) (first x rest at ps) in
      let z : over_all c v x ≡ steps_left c x = ap (λ b. cond b 0 (steps_left c x)) (first x rest at ps) in
      omega arith
  sum_falls next first e p (passes x k m h at a ne f l j) =
      let two = sum_two c.nodes n m (over_all d v) (over_all c v) is.0 is.1 a.0 a.1 ne (λ k a b u w. least_by (v k) (steps_left d k) (steps_left c k) (f k (a, b) u w)) in
      let i = next m x k at in
      let y : over_all d v n ≡ steps_left d n = ap (λ b. cond b 0 (steps_left d n)) e in
      let z : over_all c v n ≡ steps_left c n = ap (λ b. cond b 0 (steps_left c n)) e in
      let u : over_all d v m ≡ steps_left d m = ap (λ b. cond b 0 (steps_left d m)) i in
      let w : over_all c v m ≡ steps_left c m = ap (λ b. cond b 0 (steps_left c m)) i in
      omega arith
  sum_falls next first e p (asks k y q h f l) = let z : false ≡ true = sym q ∙ p in cc
