-- Lemmas about appending a request to the order of requests. They describe the place of each request and the last
-- request of each node.
use Rattle.std.proofs.Common.{◌≡◌, ◌≢◌, ℕ, ◌+◌, ◌<◌, ◌≤◌, zero, suc, Some, None, slice_get, List, [], ◌∷◌, ◌++◌, ◌⊎◌, length, take, Option, refl, sym, ◌∙◌, ap, subst, inl, inr, arith, length-append}
use Rattle.std.proofs.lemmas.Bool.{cases_order}
use Rattle.std.proofs.lemmas.Option.{slice_get_within}
use Rattle.std.proofs.Math.ListN.{get_or-append}
use Rattle.std.proofs.Math.Seq.{get_or-append_seam}
use Rattle.link_core.specs.declared.seat.ReleaseCause.{ReleaseCause}
use Rattle.link_core.specs.Places.{nobody, request, requester_at, IsLast}
use Rattle.link_core.specs.Shown.{EndedBy, HasEnded}
use Rattle.qolb_model.specs.Requests.{count_of, last_of}
use Rattle.qolb_model.specs.Histories.{IsLegal}
use Rattle.qolb_model.specs.declared.end.End.{End}
use Rattle.qolb_model.specs.declared.request.Request.{Request}
use Rattle.qolb_model.proofs.Lists.{slice_get-take}
use Rattle.qolb_model.proofs.Requests.{place_of_request, has_at, number_le_count, number_le_count_all, has_last_of_all}

-- a request is appended
abbrev pub pushed : List Request → Request → List Request
pushed o r = o ++ r ∷ []

pub length_pushed : (o : List Request) (r : Request) → length (pushed o r) ≡ length o + 1
length_pushed o r = length-append o (r ∷ [])

pub request_old : (o : List Request) (r : Request) (p : ℕ) → p < length o → request (pushed o r) p ≡ request o p
request_old o r p l = get_or-append o (r ∷ []) nobody p l

pub request_new : (o : List Request) (r : Request) → request (pushed o r) (length o) ≡ r
request_new o r = get_or-append_seam o r [] nobody

pub requester_old : (o : List Request) (r : Request) (p : ℕ) → p < length o → requester_at (pushed o r) p ≡ requester_at o p
requester_old o r p l = ap (λ (s : Request). s.node) (request_old o r p l)

pub requester_new : (o : List Request) (r : Request) → requester_at (pushed o r) (length o) ≡ r.node
requester_new o r = ap (λ (s : Request). s.node) (request_new o r)

-- a place in the longer order is an old one or the new one
pub place_cases : (o : List Request) (r : Request) (p : ℕ) → p < length (pushed o r) → (p < length o) ⊎ (p ≡ length o)
place_cases o r p l = let e = length_pushed o r in grind arith

-- a node's last request has only one place
pub last_once : (o : List Request) (n p q : ℕ) → IsLast o n p → IsLast o n q → p ≡ q
last_once o n p q a b =
    let f : p < q → ⊥ = λ l. a.newest q l b.known b.its in
    let g : q < p → ⊥ = λ l. b.newest p l a.known a.its in
    grind arith

newer : (o : List Request) (r : Request) (n p : ℕ) → n ≢ r.node → IsLast o n p → (q : ℕ) → p < q → q < length (pushed o r) → requester_at (pushed o r) q ≢ n
newer o r n p ne a q l m e = elim (place_cases o r q m) [
  | inl old ↦ a.newest q l old (sym (requester_old o r q old) ∙ e)
  | inr new ↦ ne (sym e ∙ ap (requester_at (pushed o r)) new ∙ requester_new o r)
]

-- another node's last request stays its last
pub last_kept : (o : List Request) (r : Request) (n p : ℕ) → n ≢ r.node → IsLast o n p → IsLast (pushed o r) n p
last_kept o r n p ne a = record {
  known = let e = length_pushed o r in let k = a.known in omega arith;
  its = requester_old o r p a.known ∙ a.its;
  newest = newer o r n p ne a;
}

was_newer : (o : List Request) (r : Request) (n p : ℕ) → IsLast (pushed o r) n p → (q : ℕ) → p < q → q < length o → requester_at o q ≢ n
was_newer o r n p a q l m e = a.newest q l (let f = length_pushed o r in omega arith) (requester_old o r q m ∙ e)

-- another node's last request had the same place before
pub last_back : (o : List Request) (r : Request) (n p : ℕ) → n ≢ r.node → IsLast (pushed o r) n p → IsLast o n p
last_back o r n p ne a = elim (place_cases o r p a.known) [
  | inl old ↦ record { known = old; its = sym (requester_old o r p old) ∙ a.its; newest = was_newer o r n p a }
  | inr new ↦ absurd (ne (sym a.its ∙ ap (requester_at (pushed o r)) new ∙ requester_new o r))
]

-- the new request is its node's last
pub last_new : (o : List Request) (r : Request) → IsLast (pushed o r) r.node (length o)
last_new o r = record {
  known = let e = length_pushed o r in omega arith;
  its = requester_new o r;
  newest = λ q l m e. let f = length_pushed o r in absurd (omega arith);
}

pub last_is_new : (o : List Request) (r : Request) (p : ℕ) → IsLast (pushed o r) r.node p → p ≡ length o
last_is_new o r p a = last_once (pushed o r) r.node p (length o) a (last_new o r)

-- the place of a request, and the request at a place
pub get_request : (o : List Request) (p : ℕ) → p < length o → slice_get o p ≡ Some (request o p)
get_request [] p l = absurd (omega arith)
get_request (x ∷ xs) zero l = refl
get_request (x ∷ xs) (suc p) l = get_request xs p (omega arith)

pub request_got : (o : List Request) (p : ℕ) (r : Request) → slice_get o p ≡ Some r → request o p ≡ r
request_got [] p r e = let z : None ≡ Some r = e in cc z
request_got (x ∷ xs) zero r e = cc
request_got (x ∷ xs) (suc p) r e = request_got xs p r e

-- a request that has ended for some cause has ended
pub ended_at : {o : List Request} {es : List End} {n : ℕ} {r : ReleaseCause} (e : EndedBy o es n r) → e.at < length es
ended_at {es = es} e = slice_get_within es e.at e.end e.ended

pub has_ended : {o : List Request} {es : List End} {n : ℕ} {r : ReleaseCause} → EndedBy o es n r → HasEnded o es n
has_ended {o} {es} {n} e p l = let k = last_once o n p e.at l e.last in let b = ended_at e in omega arith

-- in a legal order, a node's last request is at its last place
pub last_is : (lease : Option ℕ) (o : List Request) (es : List End) (n p : ℕ) → IsLegal lease o es → IsLast o n p → request o p ≡ last_of n o
last_is lease o es n p l a =
    let r : Request = request o p in
    let got : slice_get o p ≡ Some (request o p) = get_request o p a.known in
    let number = l.numbered p (request o p) got in
    let its : (request o p).node ≡ n = a.its in
    let before : (request o p).number ≡ count_of n (take p o) + 1 = number ∙ ap (λ (m : ℕ). count_of m (take p o) + 1) its in
    let least = subst (λ (m : ℕ). (request o p).number ≤ count_of m o) its (number_le_count_all o l.numbered (request o p) (has_at o p (request o p) got)) in
    let some : 1 ≤ count_of n o = omega arith in
    let (q, at) = place_of_request o (last_of n o) (has_last_of_all o l.numbered n some) in
    elim (cases_order p q) [
      | inl e ↦ request_got o p (last_of n o) (ap (slice_get o) e ∙ at)
      | inr (inl lt) ↦ absurd (a.newest q lt (slice_get_within o q (last_of n o) at) (ap (λ (x : Request). x.node) (request_got o q (last_of n o) at)))
      | inr (inr gt) ↦
          let k = number_le_count o l.numbered p (let w = a.known in omega arith) (last_of n o) (has_at (take p o) q (last_of n o) (slice_get-take p o q gt ∙ at)) in
          absurd (omega arith)
    ]

-- a node that has made requests has a last place
pub last_place : (lease : Option ℕ) (o : List Request) (es : List End) (n : ℕ) → IsLegal lease o es → 1 ≤ count_of n o → (p : ℕ) × IsLast o n p × (request o p ≡ last_of n o)
last_place lease o es n l some =
    let (q, at) = place_of_request o (last_of n o) (has_last_of_all o l.numbered n some) in
    let got : request o q ≡ last_of n o = request_got o q (last_of n o) at in
    let lt = slice_get_within o q (last_of n o) at in (
      q,
      record {
        known = lt;
        its = ap (λ (x : Request). x.node) got;
        newest = λ r gt le e.
            let y = get_request o r le in
            let j = l.numbered r (request o r) y in
            let f : count_of (request o r).node (take r o) ≡ count_of n (take r o) = ap (λ (m : ℕ). count_of m (take r o)) e in
            let k = number_le_count o l.numbered r (omega arith) (last_of n o) (has_at (take r o) q (last_of n o) (slice_get-take r o q gt ∙ at)) in
            let i = subst (λ (m : ℕ). (request o r).number ≤ count_of m o) e (number_le_count_all o l.numbered (request o r) (has_at o r (request o r) y)) in
            absurd (omega arith);
      },
      got,
    )
