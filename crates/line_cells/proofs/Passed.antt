-- Proof that a release skips fewer requests than the line has nodes. Therefore the number of atomic steps of a release
-- is bounded.
use Rattle.std.proofs.Common.{◌≡◌, ℕ, zero, suc, ◌+◌, ◌<◌, ◌≤◌, List, [], ◌∷◌, length, true, sym, refl, ap, ◌∙◌, subst, arith}
use mathlib.Core.Option.{some}
use lib.ListN.{get_elem?}
use Rattle.qolb_model.specs.declared.request.Request.{Request}
use Rattle.qolb_model.specs.Requests.{Lacks, AreOfOthers}
use Rattle.qolb_model.proofs.Lists.{same_some, never, at_same, at_none}
use Rattle.qolb_model.proofs.Prefixes.{prefix_get}
use Rattle.qolb_model.proofs.Counts.{few_if_once, count_once}
use Rattle.line_generic.specs.NodeGhosts.{node_of}
use Rattle.line_cells.specs.declared.local.Point.TheVariants.{Rolled}
use Rattle.line_generic.specs.declared.table.TableKey.{TableKey}
use Rattle.qolb_model.specs.Entries.{Member}
use Rattle.line_cells.specs.SlotLayout.{SlotLayout}
use Rattle.line_cells.specs.Array.{ArrayGhost, ArrayState, At, Cells, NodeInv, ArrayRule, is_releasing}
use Rattle.line_cells.proofs.Keeping.{mine_ok}

abbrev by_node : ℕ → Request
by_node n = record { node = n; number = 0 }

-- the node of a place, read off its mark
abbrev passers : (ℕ → ℕ) → List ℕ → List Request
passers marks [] = []
passers marks (p ∷ ps) = by_node (marks p) ∷ passers marks ps

passers_at : (marks : ℕ → ℕ) (ps : List ℕ) (i : ℕ) (r : Request) → At (passers marks ps) i r → (p : ℕ) × At ps i p × (r.node ≡ marks p)
passers_at marks [] i r e = absurd (at_none i r e)
passers_at marks (p ∷ ps) zero r e = (p, refl, ap (λ (q : Request). q.node) (sym (same_some e)))
passers_at marks (p ∷ ps) (suc i) r e = passers_at marks ps i r e

passers_length : (marks : ℕ → ℕ) (ps : List ℕ) → length (passers marks ps) ≡ length ps
passers_length marks [] = refl
passers_length marks (p ∷ ps) = ap suc (passers_length marks ps)

module _ (cells : Cells) (slot_layout : SlotLayout) (good : List ℕ → Type 0) (allows : List ℕ → List ℕ → Type 0) (key : TableKey) (s : ArrayState) (r : ArrayRule cells slot_layout good allows key s) (me : ℕ) (v : ArrayGhost) (at : get_elem? s.views me ≡ some (v ∷ [])) where
  member : Member node_of key.config.nodes r.who r.owner me 0 v
  member = r.members me 0 (v ∷ []) v at refl

  ok : NodeInv key r.history v.view.node v
  ok = mine_ok cells slot_layout good allows key s r me v at

  -- the node of a passed place
  marked : (i p : ℕ) → At v.own.passed i p → (q : Request) × At r.history.order p q × (q.node ≡ r.history.marks p) × Lacks r.history.clear q
  marked i p e = let h = ok.passes.passed i p e in let m = r.history_inv.marked p h.marked in
      (m.0, m.1, m.2, subst (Lacks r.history.clear) (at_same r.history.order p h.request m.0 (prefix_get v.view.order r.history.order p h.request ok.knows.orders h.at) m.1) h.unclear)

  -- a passed request is the last one of a node that is rolled
  last : (i p k : ℕ) → At v.own.passed i p → r.history.marks p ≡ k → 0 < k → k ≤ key.config.nodes → ((r.who k).own.point ≡ Rolled) × ((r.who k).own.place ≡ p)
  last i p k e is a b = let h = ok.passes.passed i p e in let m = marked i p e in (r.each k a b).marks.last p m.0 m.1 (m.2 ∙ is) h.marked m.3

  -- what the node knows of a place is what is there
  known : (i p : ℕ) (q : Request) → At v.own.passed i p → At v.view.order p q → (q.node ≡ r.history.marks p) × (0 < q.node) × (q.node ≤ key.config.nodes)
  known i p q e has = let m = marked i p e in
      let same : m.0 ≡ q = at_same r.history.order p m.0 q m.1 (prefix_get v.view.order r.history.order p q ok.knows.orders has) in
      let within = r.history_inv.nodes p m.0 m.1 in
      (ap (λ (z : Request). z.node) (sym same) ∙ m.2, subst (λ (z : Request). 0 < z.node) same within.0, subst (λ (z : Request). z.node ≤ key.config.nodes) same within.1)

  -- the passed requests are of other nodes, each of a different one
  pub others_passed : is_releasing v.own.point ≡ true → AreOfOthers v.view.node v.view.order v.own.passed
  others_passed walks = record {
    others = λ i p q e has mine. let k = known i p q e has in
        let h = last i p v.view.node e (sym k.0 ∙ mine) member.low member.high in
        never walks (sym (ap (λ (u : ArrayGhost). is_releasing u.own.point) member.is) ∙ ap is_releasing h.0);
    apart = λ i j p q a b lt e f here there same. let k = known i p a e here in let l = known j q b f there in
        let m = last i p a.node e (sym k.0) k.1 k.2 in let n = last j q a.node f (sym l.0 ∙ sym same) k.1 k.2 in
        let one : i ≡ j = ok.passes.once i j p e (subst (At v.own.passed j) (sym n.1 ∙ m.1) f) in
        omega (arith, one, lt);
  }

  pub few_passed : is_releasing v.own.point ≡ true → length v.own.passed + 1 ≤ key.config.nodes
  few_passed walks = let few = few_if_once key.config.nodes (by_node v.view.node ∷ passers r.history.marks v.own.passed) nodes (λ k a b. count_once k (by_node v.view.node ∷ passers r.history.marks v.own.passed) (once k a b)) in
      let l = passers_length r.history.marks v.own.passed in omega arith
    where
      nodes : (i : ℕ) (q : Request) → At (by_node v.view.node ∷ passers r.history.marks v.own.passed) i q → (0 < q.node) × (q.node ≤ key.config.nodes)
      nodes zero q e = subst (λ (z : Request). (0 < z.node) × (z.node ≤ key.config.nodes)) (same_some e) (member.low, member.high)
      nodes (suc i) q e = let t = passers_at r.history.marks v.own.passed i q e in let m = marked i t.0 t.1 in
          subst (λ k. (0 < k) × (k ≤ key.config.nodes)) (m.2 ∙ sym t.2) (r.history_inv.nodes t.0 m.0 m.1)

      mine_not : (i : ℕ) (q : Request) (k : ℕ) → At (passers r.history.marks v.own.passed) i q → q.node ≡ k → v.view.node ≡ k → 0 < k → k ≤ key.config.nodes → ⊥
      mine_not i q k e is mine a b = let t = passers_at r.history.marks v.own.passed i q e in let h = last i t.0 k t.1 (sym t.2 ∙ is) a b in
          let me_is : r.who k ≡ v = ap r.who (sym mine) ∙ member.is in
          never walks (sym (ap (λ (u : ArrayGhost). is_releasing u.own.point) me_is) ∙ ap is_releasing h.0)

      once : (k : ℕ) → 0 < k → k ≤ key.config.nodes → (i j : ℕ) (q t : Request) → At (by_node v.view.node ∷ passers r.history.marks v.own.passed) i q → At (by_node v.view.node ∷ passers r.history.marks v.own.passed) j t → q.node ≡ k → t.node ≡ k → i ≡ j
      once k a b zero zero q t c d u w = refl
      once k a b zero (suc j) q t c d u w = absurd (mine_not j t k d w (ap (λ (z : Request). z.node) (same_some c) ∙ u) a b)
      once k a b (suc i) zero q t c d u w = absurd (mine_not i q k c u (ap (λ (z : Request). z.node) (same_some d) ∙ w) a b)
      once k a b (suc i) (suc j) q t c d u w =
          let f = passers_at r.history.marks v.own.passed i q c in let g = passers_at r.history.marks v.own.passed j t d in
          let m = last i f.0 k f.1 (sym f.2 ∙ u) a b in let n = last j g.0 k g.1 (sym g.2 ∙ w) a b in
          ap suc (ok.passes.once i j f.0 f.1 (subst (At v.own.passed j) (sym n.1 ∙ m.1) g.1))
