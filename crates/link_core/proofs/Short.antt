-- Proof that a release skips each other node at most once, and that the line returns home if the release has skipped
-- all of them.
use Rattle.qolb_model.specs.declared.config.LineConfig.{LineConfig}
use Rattle.std.proofs.Common.{◌≡◌, ◌≢◌, ℕ, zero, suc, ◌+◌, ◌<◌, ◌≤◌, Bool, true, false, ◌||◌, List, [], ◌∷◌, length, refl, sym, ◌∙◌, ap, subst, inl, inr, arith, eqb}
use Rattle.std.specs.Prelude.{slice_index_or}
use Rattle.std.proofs.lemmas.Bool.{cases_eq, cases_lt}
use Rattle.std.proofs.lemmas.Map.Steps.{length-le_from_distinct_below}
use Rattle.std.proofs.lemmas.Bool.Decides.{nat_tests}
use Rattle.std.specs.List.{IsDistinct, list_any, AllByRecursion}
use Rattle.std.proofs.lemmas.Option.{slice_get_within}
use Rattle.qolb_model.specs.declared.end.End.TheVariants.{Gone}
use Rattle.qolb_model.specs.Queue.{Queue}
use Rattle.link_core.specs.declared.point.Point.{Point}
use Rattle.link_core.specs.declared.point.Point.TheVariants.{Rolled}
use Rattle.link_core.specs.Places.{requester_at, IsLast}
use Rattle.link_core.specs.State.{State, seat, point, IsNode}
use Rattle.link_core.specs.Shown.{has_line, is_freeing, passed, Matches}
use Rattle.link_core.specs.Laws.{Short}
use Rattle.link_core.proofs.Orders.{last_once}
use Rattle.link_core.proofs.Ending.{facts, later_other}

-- distinct nodes, none of them 0 or n
apart_from : (x : ℕ) (ps : List ℕ) → ((i : ℕ) → i < length ps → slice_index_or ps i 0 ≢ x) → AllByRecursion (λ y. eqb x y ≡ false) ps
apart_from x [] f = tt
apart_from x (p ∷ ps) f = (let e = f 0 (omega arith) in grind (arith, nat_tests), apart_from x ps (λ i l. f (suc i) (omega arith)))

distinct_by_place : (ps : List ℕ) → ((i j : ℕ) → i < length ps → j < length ps → slice_index_or ps i 0 ≡ slice_index_or ps j 0 → i ≡ j) → IsDistinct eqb ps
unfolding IsDistinct
distinct_by_place [] f = tt
distinct_by_place (p ∷ ps) f = (
  apart_from p ps (λ i l e. let k = f (suc i) 0 (omega arith) (omega arith) e in omega arith),
  distinct_by_place ps (λ i j a b e. let k = f (suc i) (suc j) (omega arith) (omega arith) e in omega arith),
)

all_below : (ps : List ℕ) (n : ℕ) → ((i : ℕ) → i < length ps → slice_index_or ps i 0 < n) → (q : ℕ) → list_any (eqb q) ps ≡ true → q < n
all_below [] n f q e = cc
all_below (p ∷ ps) n f q e = elim (cases_eq q p) [
  | inl s ↦ let k = f 0 (omega arith) in omega arith
  | inr ne ↦ all_below ps n (λ i l. f (suc i) (omega arith)) q (rest (eqb q p) (list_any (eqb q) ps) (let t = ne in grind (arith, nat_tests)) e)
]
  where
    rest : (a b : Bool) → a ≡ false → (a || b) ≡ true → b ≡ true
    rest true b s e = cc
    rest false b s e = e

-- distinct numbers from 1 to k, without n, are fewer than k
pub few : (ps : List ℕ) (n k : ℕ) → n ≤ k → 0 < n → ((i : ℕ) → i < length ps → (0 < slice_index_or ps i 0) × (slice_index_or ps i 0 ≤ k) × (slice_index_or ps i 0 ≢ n)) → ((i j : ℕ) → i < length ps → j < length ps → slice_index_or ps i 0 ≡ slice_index_or ps j 0 → i ≡ j) → length ps < k
unfolding IsDistinct
few ps n k a b f g =
    let y = length-le_from_distinct_below (0 ∷ n ∷ ps) (k + 1) (
      (let t = b in grind (arith, nat_tests), apart_from 0 ps (λ i l e. let z = (f i l).0 in omega arith)),
      (apart_from n ps (λ i l. (f i l).2), distinct_by_place ps g),
    )
    (all_below (0 ∷ n ∷ ps) (k + 1) below) in
    omega arith
  where
    below : (i : ℕ) → i < length (0 ∷ n ∷ ps) → slice_index_or (0 ∷ n ∷ ps) i 0 < k + 1
    below zero l = omega arith
    below (suc zero) l = omega arith
    below (suc (suc i)) l = let z = (f i (omega arith)).1 in omega arith

module _ {config : LineConfig} {c : State} {h : Queue} (s : Matches config c h) where
  -- no node has passed itself
  not_own : (n i : ℕ) → IsNode c n → i < length (seat c n).passed → passed c n i ≢ n
  not_own n i a l e =
      let at : point c n ≡ Rolled = sym (ap (point c) e) ∙ (s.passes n i a l).point in
      let none : (seat c n).passed ≡ [] = s.unpassed n a (ap (λ (p : Point). has_line p || is_freeing p) at) in
      let k : length (seat c n).passed ≡ 0 = ap length none in
      omega arith

  pub own : (n i : ℕ) → IsNode c n → i < length (seat c n).passed → (0 < passed c n i) × (passed c n i ≤ c.nodes) × (passed c n i ≢ n)
  own n i a l = let j = s.passes n i a l in (j.node.0, j.node.1, not_own n i a l)

  passed_short : (n : ℕ) → IsNode c n → length (seat c n).passed < c.nodes
  passed_short n a = few (seat c n).passed n c.nodes a.1 a.0 (λ i l. own n i a l) (λ i j k l e. (s.once n n i j a a k l e).1)

  -- a node whose request follows was not passed
  next_unpassed : (n i m : ℕ) → IsNode c n → i < length (seat c n).passed → IsLast h.order m (length h.ends + 1) → passed c n i ≢ m
  next_unpassed n i m a l last e =
      let j = s.passes n i a l in
      let k = last_once h.order m j.at (length h.ends + 1) (subst (λ (x : ℕ). IsLast h.order x j.at) e j.last) last in
      elim j.come [ inl f ↦ let g = slice_get_within h.ends j.at Gone f in omega arith | inr f ↦ let g = f.0 in omega arith ]

  -- if all others are passed, no request therefore follows
  pub none_follows : (n : ℕ) → IsNode c n → has_line (point c n) ≡ true → length h.ends + 1 < length h.order → length (seat c n).passed + 1 < c.nodes
  none_follows n a lined more =
      let last = s.distinct (length h.ends + 1) (omega arith) more in
      let few_more = few (requester_at h.order (length h.ends + 1) ∷ (seat c n).passed) n c.nodes a.1 a.0 (each last) (apart last) in
      omega arith
    where
      each : IsLast h.order (requester_at h.order (length h.ends + 1)) (length h.ends + 1) → (i : ℕ) → i < length (requester_at h.order (length h.ends + 1) ∷ (seat c n).passed) → (0 < slice_index_or (requester_at h.order (length h.ends + 1) ∷ (seat c n).passed) i 0) × (slice_index_or (requester_at h.order (length h.ends + 1) ∷ (seat c n).passed) i 0 ≤ c.nodes) × (slice_index_or (requester_at h.order (length h.ends + 1) ∷ (seat c n).passed) i 0 ≢ n)
      each last zero l = let j = s.nodes (length h.ends + 1) more in (j.0, j.1, later_other s a lined (length h.ends + 1) (omega arith) more)
      each last (suc i) l = own n i a (omega arith)

      apart : IsLast h.order (requester_at h.order (length h.ends + 1)) (length h.ends + 1) → (i j : ℕ) → i < length (requester_at h.order (length h.ends + 1) ∷ (seat c n).passed) → j < length (requester_at h.order (length h.ends + 1) ∷ (seat c n).passed) → slice_index_or (requester_at h.order (length h.ends + 1) ∷ (seat c n).passed) i 0 ≡ slice_index_or (requester_at h.order (length h.ends + 1) ∷ (seat c n).passed) j 0 → i ≡ j
      apart last zero zero k l e = refl
      apart last zero (suc j) k l e = absurd (next_unpassed n j (requester_at h.order (length h.ends + 1)) a (omega arith) last (sym e))
      apart last (suc i) zero k l e = absurd (next_unpassed n i (requester_at h.order (length h.ends + 1)) a (omega arith) last e)
      apart last (suc i) (suc j) k l e = ap suc (s.once n n i j a a (omega arith) (omega arith) e).1

  pub short : Short c
  short = record {
    passed = passed_short;
    home = λ n a lined all. elim (cases_lt (length h.ends + 1) (length h.order)) [
      | inl more ↦ let k = none_follows n a lined more in absurd (omega arith)
      | inr done ↦
          let f = facts s a lined in
          let l = f.0 in
          s.home_last (length h.ends) (omega arith) (omega arith) ∙ f.3
    ];
  }
