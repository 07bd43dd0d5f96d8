-- Proof that when a step adds a field to an entry, the field was not set before.
use Rattle.qolb_model.specs.declared.config.LineConfig.{LineConfig}
use Rattle.std.proofs.Common.{◌≡◌, ℕ, ◌<◌, true, false, List, ◌∷◌, length, sym, ◌∙◌, ap, subst, inl, inr, arith}
use Rattle.std.specs.Prelude.{slice_index_or}
use Rattle.link_core.specs.declared.point.Point.TheVariants.{Linking, Queued, Marking, Granting}
use Rattle.link_core.specs.declared.place.Place.TheVariants.{Hand}
use Rattle.qolb_model.specs.Queue.{Queue}
use Rattle.link_core.specs.State.{State, entry, seat, point, IsNode}
use Rattle.link_core.specs.Shown.{has_line, Matches}
use Rattle.std.proofs.lemmas.Bool.{cases_Bool}
use Rattle.link_core.proofs.Follows.{sits_at, in_its_hand}
use Rattle.link_core.proofs.Ending.{facts}
use Rattle.link_core.proofs.Grant.{fresh_m}

module _ {config : LineConfig} {c : State} {h : Queue} (s : Matches config c h) where
  pub done_unset : (n e : ℕ) → IsNode c n → point c n ≡ Marking e → (entry c e).done ≡ false
  done_unset n e a at = elim (cases_Bool (entry c e).done) [
    | inl t ↦
        let lined : has_line (point c n) ≡ true = ap has_line at in
        let f = facts s a lined in
        let cur = (sits_at s n (Marking e) a at).0.is in
        let y = s.fresh (length h.ends) (omega arith) f.0 in
        let g = (y.done (ap (λ (m : ℕ). (entry c m).done) (f.3 ∙ cur) ∙ t)).1 in
        let place : Hand n ≡ Hand g.by = sym (in_its_hand s n a lined) ∙ g.place in
        let same : n ≡ g.by = cc in
        let z : Marking e ≡ Granting g.to = sym at ∙ ap (point c) same ∙ g.point in
        cc
    | inr f ↦ f
  ]

  pub granted_unset : (n m : ℕ) → IsNode c n → point c n ≡ Granting m → (entry c m).granted ≡ false
  granted_unset n m a at = elim (cases_Bool (entry c m).granted) [
    | inl t ↦ let k = (fresh_m s a at).granted t in absurd (omega arith)
    | inr f ↦ f
  ]

  pub rolled_unset : (n : ℕ) → IsNode c n → point c n ≡ Queued → (entry c n).rolled ≡ false
  rolled_unset n a at = (sits_at s n Queued a at).rolled

  pub link_unset : (n p : ℕ) → IsNode c n → point c n ≡ Linking p → (entry c p).link ≡ 0
  link_unset n p a at = (sits_at s n (Linking p) a at).unlinked

  pub freed_unset : (n x : ℕ) (rest : List ℕ) → IsNode c n → (seat c n).passed ≡ x ∷ rest → (entry c x).freed ≡ false
  freed_unset n x rest a ps =
      subst (λ (y : ℕ). (entry c y).freed ≡ false) (ap (λ (ps : List ℕ). slice_index_or ps 0 0) ps)
      (s.passes n 0 a (subst (λ (ps : List ℕ). 0 < length ps) (sym ps) (omega arith))).kept
