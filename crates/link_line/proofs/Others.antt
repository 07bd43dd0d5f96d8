-- Proof that the requests which a release has skipped belong to different nodes, none of which is the releasing node.
use Rattle.std.proofs.Common.{◌≡◌, ℕ, zero, suc, ◌<◌, List, [], ◌∷◌, length, map, sym, ap, ◌∙◌, Some, slice_get, arith}
use Rattle.std.specs.Prelude.{slice_index_or}
use Rattle.std.proofs.lemmas.Option.{slice_get_within}
use Rattle.std.proofs.lemmas.List.{length-map}
use Rattle.qolb_model.specs.declared.request.Request.{Request}
use Rattle.qolb_model.specs.declared.config.LineConfig.{LineConfig}
use Rattle.qolb_model.specs.Requests.{AreOfOthers}
use Rattle.qolb_model.specs.Queue.{Queue}
use Rattle.qolb_model.proofs.Lists.{same_some, at_none}
use Rattle.link_core.specs.declared.state.State.{State as Core}
use Rattle.link_core.specs.State.{seat, IsNode}
use Rattle.link_core.specs.Places.{requester_at}
use Rattle.link_core.specs.Shown.{Matches, passed}
use Rattle.link_core.proofs.Orders.{request_got}
use Rattle.link_core.proofs.Short.{own}

mapped_at : (f : ℕ → ℕ) (places : List ℕ) (i p : ℕ) → slice_get places i ≡ Some p → slice_index_or (map f places) i 0 ≡ f p
mapped_at f [] i p e = absurd (at_none i p e)
mapped_at f (x ∷ places) zero p e = ap f (same_some e)
mapped_at f (x ∷ places) (suc i) p e = mapped_at f places i p e

pub others_of : {config : LineConfig} {c : Core} {q : Queue} → Matches config c q → (n : ℕ) → IsNode c n → (places : List ℕ) → (seat c n).passed ≡ map (requester_at q.order) places → AreOfOthers n q.order places
others_of {config} {c} {q} s n node places same = record {
  others = λ i p r here at mine. (own s n i node (inside i p here)).2 (is i p r here at ∙ mine);
  apart = λ i j p k r t lt here there at and alike.
      let one : i ≡ j = (s.once n n i j node node (inside i p here) (inside j k there) (is i p r here at ∙ (alike ∙ sym (is j k t there and)))).1 in
      omega (arith, one, lt);
}
  where
    inside : (i p : ℕ) → slice_get places i ≡ Some p → i < length (seat c n).passed
    inside i p here = omega (arith, slice_get_within places i p here, ap (λ (ps : List ℕ). length ps) same, length-map places (requester_at q.order))

    is : (i p : ℕ) (r : Request) → slice_get places i ≡ Some p → slice_get q.order p ≡ Some r → passed c n i ≡ r.node
    is i p r here at = ap (λ (ps : List ℕ). slice_index_or ps i 0) same ∙ (mapped_at (requester_at q.order) places i p here ∙ ap (λ (z : Request). z.node) (request_got q.order p r at))
