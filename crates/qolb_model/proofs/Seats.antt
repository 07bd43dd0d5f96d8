-- Proof that the seats of a table still contain the entries of all nodes after seats are created, split or joined, and
-- after entries change.
use Rattle.std.proofs.Common.{◌≡◌, ◌≢◌, ◌⊎◌, ℕ, zero, suc, ◌+◌, ◌-◌, ◌<◌, ◌≤◌, List, [], ◌∷◌, ◌++◌, length, set, slice_get, sym, refl, ap, ◌∙◌, subst, inl, inr, ⊎_elim, arith, length-set, Some}
use mathlib.Core.Logic.{dite}
use mathlib.Core.Option.{some, some-injective, some-ne-none}
use native.Mathlib.Decide.{ℕ_discrete}
use lib.ListN.{get_elem?}
use Rattle.qolb_model.specs.Entries.{Member, AreMembers, each_from, front, behind}
use Rattle.qolb_model.proofs.Lists.{same_some, at_one, at_none, at_either}
use Rattle.qolb_model.proofs.Updates.{pick, put, put_here, put_else}

-- after one seat has changed, a seat is that one, or another one as it was
seat_set : {A : Type 0} (xs : List A) (i j : ℕ) (a b : A) → get_elem? (set xs i a) j ≡ some b → ((j ≡ i) × (a ≡ b)) ⊎ ((j ≢ i) × (get_elem? xs j ≡ some b))
seat_set [] i j a b e = absurd (some-ne-none b (sym e))
seat_set (x ∷ xs) zero zero a b e = inl (refl, some-injective a b e)
seat_set (x ∷ xs) zero (suc j) a b e = inr ((λ h. omega arith), e)
seat_set (x ∷ xs) (suc i) zero a b e = inr ((λ h. omega arith), e)
seat_set (x ∷ xs) (suc i) (suc j) a b e = ⊎_elim (λ t. inl (ap suc t.0, t.1)) (λ t. let n = t.0 in inr ((λ h. n (omega arith)), t.1)) (seat_set xs i j a b e)

-- an element of a list with one more element is an old one, or the new one
seat_more : {A : Type 0} (xs : List A) (x y : A) (p : ℕ) → get_elem? (xs ++ x ∷ []) p ≡ some y → (get_elem? xs p ≡ some y) ⊎ ((p ≡ length xs) × (x ≡ y))
seat_more [] x y zero e = inr (refl, some-injective x y e)
seat_more [] x y (suc p) e = absurd (some-ne-none y (sym e))
seat_more (z ∷ zs) x y zero e = inl e
seat_more (z ∷ zs) x y (suc p) e = ⊎_elim (λ t. inl t) (λ t. let a = t.0 in inr (omega arith, t.1)) (seat_more zs x y p e)

abbrev pick_place : {P : Type 0} → Dec P → ℕ × ℕ → ℕ × ℕ → ℕ × ℕ
pick_place d a b = pick d a b

-- the place in the seats after a cut of the seat `me`
abbrev pub cut_place : ℕ → ℕ → ℕ × ℕ → ℕ × ℕ
cut_place me fresh (j, zero) = (j, zero)
cut_place me fresh (j, suc i) = pick_place (ℕ_discrete j me) (fresh, i) (j, suc i)

cut_here : (me fresh i : ℕ) → cut_place me fresh (me, suc i) ≡ (fresh, i)
cut_here me fresh i = go (ℕ_discrete me me)
  where
    go : (d : Dec (me ≡ me)) → pick_place d (fresh, i) (me, suc i) ≡ (fresh, i)
    go (yes _) = refl
    go (no n) = absurd (n refl)

cut_else : (me fresh j i : ℕ) → j ≢ me → cut_place me fresh (j, i) ≡ (j, i)
cut_else me fresh j zero ne = refl
cut_else me fresh j (suc i) ne = go (ℕ_discrete j me)
  where
    go : (d : Dec (j ≡ me)) → pick_place d (fresh, i) (j, suc i) ≡ (j, suc i)
    go (yes e) = absurd (ne e)
    go (no n) = refl

-- the place in the seats after the seat `me`, of n entries, took in those of the seat `other`
abbrev pub join_place : ℕ → ℕ → ℕ → ℕ × ℕ → ℕ × ℕ
join_place me other n (j, i) = pick_place (ℕ_discrete j other) (me, n + i) (j, i)

join_here : (me other n i : ℕ) → join_place me other n (other, i) ≡ (me, n + i)
join_here me other n i = go (ℕ_discrete other other)
  where
    go : (d : Dec (other ≡ other)) → pick_place d (me, n + i) (other, i) ≡ (me, n + i)
    go (yes _) = refl
    go (no ne) = absurd (ne refl)

join_else : (me other n j i : ℕ) → j ≢ other → join_place me other n (j, i) ≡ (j, i)
join_else me other n j i ne = go (ℕ_discrete j other)
  where
    go : (d : Dec (j ≡ other)) → pick_place d (me, n + i) (j, i) ≡ (j, i)
    go (yes e) = absurd (ne e)
    go (no _) = refl

two_places : (me : ℕ) (x : ℕ × ℕ) → x ≡ (me, 0) → x ≡ (me, 1) → ⊥
two_places me x p q = let a : x.1 ≡ 0 = ap (λ (z : ℕ × ℕ). z.1) p in let b : x.1 ≡ 1 = ap (λ (z : ℕ × ℕ). z.1) q in absurd (omega arith)

-- the first of the entries that are left is the next node's
pub each_from_more : {E : Type 0} (entry : ℕ → E) (n nodes : ℕ) → n < nodes → each_from entry n (nodes - n) ≡ entry (n + 1) ∷ each_from entry (n + 1) (nodes - (n + 1))
each_from_more entry n nodes l = let j = nodes - (n + 1) in let e : nodes - n ≡ suc j = omega arith in let f : suc n ≡ n + 1 = omega arith in
    ap (each_from entry n) e ∙ (λ i. entry (f i) ∷ each_from entry (f i) j)

module _ {E : Type 0} (node : E → ℕ) (nodes : ℕ) where
  -- all entries of a new table are in its first seat
  module _ (entry : ℕ → E) (own : (n : ℕ) → node (entry n) ≡ n) where
    entry_at : (k n i : ℕ) (e : E) → slice_get (each_from entry k n) i ≡ Some e → (e ≡ entry (k + i + 1)) × (i < n)
    entry_at k zero i e at = absurd (at_none i e at)
    entry_at k (suc n) zero e at = (sym (same_some at) ∙ ap entry (omega arith), omega arith)
    entry_at k (suc n) (suc i) e at = let h = entry_at (suc k) n i e at in let l = h.1 in (h.0 ∙ ap entry (omega arith), omega arith)

    pub first_members : AreMembers node nodes entry (λ n. (0, n - 1)) (each_from entry 0 nodes ∷ [])
    first_members zero i es e a b = one i e (subst (λ z. slice_get z i ≡ Some e) (sym (some-injective (each_from entry 0 nodes) es a)) b)
      where
        one : (i : ℕ) (e : E) → slice_get (each_from entry 0 nodes) i ≡ Some e → Member node nodes entry (λ n. (0, n - 1)) 0 i e
        one i e at = let h = entry_at 0 nodes i e at in let l = h.1 in let n = own (0 + i + 1) in subst (Member node nodes entry (λ n. (0, n - 1)) 0 i) (sym h.0)
            record { low = omega arith; high = omega arith; is = ap entry n; at = λ j. (0, back i j) }
          where
            back : (k : ℕ) → node (entry (0 + k + 1)) - 1 ≡ k
            back k = let m = own (0 + k + 1) in omega arith
    first_members (suc j) i es e a b = absurd (some-ne-none es (sym a))

  module _ (who : ℕ → E) (owner : ℕ → ℕ × ℕ) (seats : List (List E)) (all : AreMembers node nodes who owner seats) where
    moves_to : (owner' : ℕ → ℕ × ℕ) (j i j' i' : ℕ) (e : E) → Member node nodes who owner j i e → owner' (node e) ≡ (j', i') → Member node nodes who owner' j' i' e
    moves_to owner' j i j' i' e m is = record { low = m.low; high = m.high; is = m.is; at = is }

    -- a seat is cut behind its first entry
    pub cut_members : (me : ℕ) (es : List E) → get_elem? seats me ≡ some es → AreMembers node nodes who (λ n. cut_place me (length seats) (owner n)) (set seats me (front es) ++ behind es ∷ [])
    cut_members me es at j i us e a b = ⊎_elim
        (λ t. ⊎_elim
        (λ (c : (j ≡ me) × (front es ≡ us)). subst (λ q. Member node nodes who moved q i e) (sym c.0) (first es i e at (subst (λ z. slice_get z i ≡ Some e) (sym c.1) b)))
        (λ (c : (j ≢ me) × (get_elem? seats j ≡ some us)). old j i us e c.1 b c.0)
        (seat_set seats me j (front es) us t))
        (λ t. subst (λ q. Member node nodes who moved q i e) (sym (t.0 ∙ length-set seats me (front es))) (later es i e at (subst (λ z. slice_get z i ≡ Some e) (sym t.1) b)))
        (seat_more (set seats me (front es)) (behind es) us j a)
      where
        moved : ℕ → ℕ × ℕ
        moved n = cut_place me (length seats) (owner n)

        old : (j i : ℕ) (us : List E) (e : E) → get_elem? seats j ≡ some us → slice_get us i ≡ Some e → j ≢ me → Member node nodes who moved j i e
        old j i us e a b ne = let m = all j i us e a b in moves_to moved j i j i e m (ap (cut_place me (length seats)) m.at ∙ cut_else me (length seats) j i ne)

        first : (us : List E) (i : ℕ) (e : E) → get_elem? seats me ≡ some us → slice_get (front us) i ≡ Some e → Member node nodes who moved me i e
        first [] i e a b = absurd (at_none i e b)
        first (u ∷ us) zero e a b = let m = all me 0 (u ∷ us) e a b in moves_to moved me 0 me 0 e m (ap (cut_place me (length seats)) m.at)
        first (u ∷ us) (suc i) e a b = absurd (at_none i e b)

        later : (us : List E) (i : ℕ) (e : E) → get_elem? seats me ≡ some us → slice_get (behind us) i ≡ Some e → Member node nodes who moved (length seats) i e
        later [] i e a b = absurd (at_none i e b)
        later (u ∷ us) i e a b = let m = all me (suc i) (u ∷ us) e a b in moves_to moved me (suc i) (length seats) i e m (ap (cut_place me (length seats)) m.at ∙ cut_here me (length seats) i)

    -- a new seat has no entry
    pub blank_members : (me : ℕ) (es : List E) → get_elem? seats me ≡ some es → AreMembers node nodes who owner (set seats me es ++ [] ∷ [])
    blank_members me es at j i us e a b = ⊎_elim
        (λ t. ⊎_elim
        (λ (c : (j ≡ me) × (es ≡ us)). all j i us e (subst (λ q. get_elem? seats q ≡ some us) (sym c.0) (at ∙ ap some c.1)) b)
        (λ (c : (j ≢ me) × (get_elem? seats j ≡ some us)). all j i us e c.1 b)
        (seat_set seats me j es us t))
        (λ t. absurd (at_none i e (subst (λ z. slice_get z i ≡ Some e) (sym t.1) b)))
        (seat_more (set seats me es) [] us j a)

    -- a seat takes in the entries of another, which is then spent
    pub join_members : (me other : ℕ) (es fs : List E) → get_elem? seats me ≡ some es → other ≢ me → get_elem? (set seats me (es ++ fs)) other ≡ some fs
        → AreMembers node nodes who (λ n. join_place me other (length es) (owner n)) (set (set seats me (es ++ fs)) other [])
    join_members me other es fs at apart there j i us e a b = ⊎_elim
        (λ (t : (j ≡ other) × ([] ≡ us)). absurd (at_none i e (subst (λ z. slice_get z i ≡ Some e) (sym t.1) b)))
        (λ (t : (j ≢ other) × (get_elem? (set seats me (es ++ fs)) j ≡ some us)). ⊎_elim
        (λ (c : (j ≡ me) × (es ++ fs ≡ us)). subst (λ q. Member node nodes who moved q i e) (sym c.0) (both i e (subst (λ z. slice_get z i ≡ Some e) (sym c.1) b)))
        (λ (c : (j ≢ me) × (get_elem? seats j ≡ some us)). stays j i us e c.1 b t.0)
        (seat_set seats me j (es ++ fs) us t.1))
        (seat_set (set seats me (es ++ fs)) other j [] us a)
      where
        moved : ℕ → ℕ × ℕ
        moved n = join_place me other (length es) (owner n)

        theirs : get_elem? seats other ≡ some fs
        theirs = ⊎_elim (λ (t : (other ≡ me) × (es ++ fs ≡ fs)). absurd (apart t.0)) (λ (t : (other ≢ me) × (get_elem? seats other ≡ some fs)). t.1) (seat_set seats me other (es ++ fs) fs there)

        stays : (j i : ℕ) (us : List E) (e : E) → get_elem? seats j ≡ some us → slice_get us i ≡ Some e → j ≢ other → Member node nodes who moved j i e
        stays j i us e a b ne = let m = all j i us e a b in moves_to moved j i j i e m (ap (join_place me other (length es)) m.at ∙ join_else me other (length es) j i ne)

        comes : (i : ℕ) (e : E) → slice_get fs i ≡ Some e → Member node nodes who moved me (length es + i) e
        comes i e b = let m = all other i fs e theirs b in moves_to moved other i me (length es + i) e m (ap (join_place me other (length es)) m.at ∙ join_here me other (length es) i)

        both : (i : ℕ) (e : E) → slice_get (es ++ fs) i ≡ Some e → Member node nodes who moved me i e
        both i e b = ⊎_elim (λ t. stays me i es e at t (λ q. apart (sym q)))
            (λ (t : (k : ℕ) × (i ≡ length es + k) × (slice_get fs k ≡ Some e)). subst (λ q. Member node nodes who moved me q e) (sym t.1) (comes t.0 e t.2))
            (at_either es fs i e b)

    -- the entries of one seat are of different nodes
    pub once_each : (me : ℕ) (es : List E) → get_elem? seats me ≡ some es → (i j : ℕ) (v w : E) → slice_get es i ≡ Some v → slice_get es j ≡ Some w → node v ≡ node w → i ≡ j
    once_each me es at i j v w a b same = ap (λ (z : ℕ × ℕ). z.1) (sym (all me i es v at a).at ∙ ap owner same ∙ (all me j es w at b).at)

    -- the seat `me`, which has only the entry v, gets the entry w of the same node
    module _ (me : ℕ) (v w : E) (at : get_elem? seats me ≡ some (v ∷ [])) (same : node w ≡ node v) where
      pub step_members : AreMembers node nodes (put who (node v) w) owner (set seats me (w ∷ []))
      step_members j i es e there here = ⊎_elim
          (λ (t : (j ≡ me) × (w ∷ [] ≡ es)). subst (λ (z : ℕ × List E). slice_get z.1 i ≡ Some e → Member node nodes (put who (node v) w) owner z.0 i e) (λ c. (sym t.0 c, t.1 c)) (changed i e) here)
          (λ (t : (j ≢ me) × (get_elem? seats j ≡ some es)). let m = all j i es e t.1 here in record {
            low = m.low;
            high = m.high;
            is = put_else who (node v) w (node e) (λ q. t.0 (ap (λ (z : ℕ × ℕ). z.0) (sym m.at ∙ ap owner q ∙ mine.at))) ∙ m.is;
            at = m.at;
          })
          (seat_set seats me j (w ∷ []) es there)
        where
          mine : Member node nodes who owner me 0 v
          mine = all me 0 (v ∷ []) v at refl

          changed : (i : ℕ) (e : E) → slice_get (w ∷ []) i ≡ Some e → Member node nodes (put who (node v) w) owner me i e
          changed zero e h = subst (Member node nodes (put who (node v) w) owner me 0) (at_one w e 0 h) record {
            low = subst (λ q. 0 < q) (sym same) mine.low;
            high = subst (λ q. q ≤ nodes) (sym same) mine.high;
            is = ap (put who (node v) w) same ∙ put_here who (node v) w;
            at = ap owner same ∙ mine.at;
          }
          changed (suc i) e h = absurd (at_none i e h)

    -- two entries of one seat are told apart, and are replaced by others of the same nodes
    module _ (me : ℕ) (v u : E) (at : get_elem? seats me ≡ some (v ∷ u ∷ [])) where
      of_first : Member node nodes who owner me 0 v
      of_first = all me 0 (v ∷ u ∷ []) v at refl

      of_second : Member node nodes who owner me 1 u
      of_second = all me 1 (v ∷ u ∷ []) u at refl

      pub two_differ : node v ≢ node u
      two_differ e = two_places me (owner (node v)) of_first.at (ap owner e ∙ of_second.at)

      abbrev pub both_put : E → E → ℕ → E
      both_put v' u' = put (put who (node v) v') (node u) u'

      put_first : (v' u' : E) → both_put v' u' (node v) ≡ v'
      put_first v' u' = put_else (put who (node v) v') (node u) u' (node v) two_differ ∙ put_here who (node v) v'

      put_second : (v' u' : E) → both_put v' u' (node u) ≡ u'
      put_second v' u' = put_here (put who (node v) v') (node u) u'

      both_else : (v' u' : E) (n : ℕ) → n ≢ node v → n ≢ node u → both_put v' u' n ≡ who n
      both_else v' u' n a b = put_else (put who (node v) v') (node u) u' n b ∙ put_else who (node v) v' n a

      -- what holds of each node still holds if it holds of these two
      pub pair_each : (v' u' : E) (P : ℕ → E → Type 0) → P (node v) v' → P (node u) u' → ((n : ℕ) → 0 < n → n ≤ nodes → P n (who n)) → (n : ℕ) → 0 < n → n ≤ nodes → P n (both_put v' u' n)
      pair_each v' u' P p q each n a b = dite (ℕ_discrete n (node v))
          (λ e. subst (λ (z : ℕ × E). P z.0 z.1) (λ i. (sym e i, (sym (put_first v' u') ∙ ap (both_put v' u') (sym e)) i)) p)
          (λ ne. dite (ℕ_discrete n (node u))
          (λ e. subst (λ (z : ℕ × E). P z.0 z.1) (λ i. (sym e i, (sym (put_second v' u') ∙ ap (both_put v' u') (sym e)) i)) q)
          (λ ne'. subst (P n) (sym (both_else v' u' n ne ne')) (each n a b)))

      pub pair_members : (v' u' : E) → node v' ≡ node v → node u' ≡ node u → AreMembers node nodes (both_put v' u') owner (set seats me (v' ∷ u' ∷ []))
      pair_members v' u' same same' j i es e there here = ⊎_elim
          (λ (t : (j ≡ me) × (v' ∷ u' ∷ [] ≡ es)). subst (λ q. Member node nodes (both_put v' u') owner q i e) (sym t.0) (mine i e (subst (λ z. slice_get z i ≡ Some e) (sym t.1) here)))
          (λ (t : (j ≢ me) × (get_elem? seats j ≡ some es)). let m = all j i es e t.1 here in
          record { low = m.low; high = m.high; is = both_else v' u' (node e) (apart m.at t.0 (node v) 0 of_first.at) (apart m.at t.0 (node u) 1 of_second.at) ∙ m.is; at = m.at })
          (seat_set seats me j (v' ∷ u' ∷ []) es there)
        where
          mine : (i : ℕ) (e : E) → slice_get (v' ∷ u' ∷ []) i ≡ Some e → Member node nodes (both_put v' u') owner me i e
          mine zero e h = subst (Member node nodes (both_put v' u') owner me 0) (at_one v' e 0 h)
              record { low = subst (λ q. 0 < q) (sym same) of_first.low; high = subst (λ q. q ≤ nodes) (sym same) of_first.high; is = ap (both_put v' u') same ∙ put_first v' u'; at = ap owner same ∙ of_first.at }
          mine (suc zero) e h = subst (Member node nodes (both_put v' u') owner me 1) (at_one u' e 0 h)
              record { low = subst (λ q. 0 < q) (sym same') of_second.low; high = subst (λ q. q ≤ nodes) (sym same') of_second.high; is = ap (both_put v' u') same' ∙ put_second v' u'; at = ap owner same' ∙ of_second.at }
          mine (suc (suc i)) e h = absurd (at_none i e h)

          apart : {k i' : ℕ} → owner (node e) ≡ (k, i') → k ≢ me → (n l : ℕ) → owner n ≡ (me, l) → node e ≢ n
          apart o ne n l p q = ne (ap (λ (z : ℕ × ℕ). z.0) (sym o ∙ ap owner q ∙ p))
