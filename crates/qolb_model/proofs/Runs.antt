-- Lemmas about runs of the queue machine, which are sequences of its moves.
use Rattle.std.proofs.Common.{◌≡◌, ℕ, zero, suc, ◌+◌, ◌-◌, ◌≤◌, Bool, true, false, cond, if◌then◌else◌, List, [], ◌∷◌, ◌++◌, length, take, drop, map, Option, Some, None, slice_get, refl, ap, sym, ◌∙◌, subst, arith, append_assoc, append-nil, length-append}
use Rattle.std.specs.List.{take_while}
use Rattle.std.proofs.lemmas.List.Sums.{take_while-cons}
use Rattle.std.proofs.lemmas.Option.{slice_get_within}
use Rattle.qolb_model.specs.declared.request.Request.{Request}
use Rattle.qolb_model.specs.declared.end.End.{End}
use Rattle.qolb_model.specs.declared.end.End.TheVariants.{Gone}
use Rattle.qolb_model.specs.Requests.{has, Has, Lacks}
use Rattle.qolb_model.specs.declared.config.LineConfig.{LineConfig}
use Rattle.qolb_model.specs.Histories.{IsLegal, turn_of, ended_of, Clears, none, more}
use Rattle.qolb_model.specs.Queue.{Queue, Move, finish, EndsAs, moved, HasCleared, Runs}
use Rattle.qolb_model.specs.OneOwner.{moved_by}
use Rattle.qolb_model.proofs.Lists.{same_some, element_at, slice_get-drop, take_with, drop_with}
use Rattle.qolb_model.proofs.Requests.{IsNumbered, lacks_before}
use Rattle.qolb_model.proofs.Histories.{gone_each, legal_end, may_end}

-- the clear list grows step by step
pub clears_twice : (order : List Request) (ended : ℕ) (a b c : List Request) → Clears order ended a b → Clears order ended b c → Clears order ended a c
clears_twice order ended a b c h none = h
clears_twice order ended a b c h (more p r k lt at lacks) = more p r (clears_twice order ended a b _ h k) lt at lacks

-- the list grows up to the first `j` more of the requests that have ended
pub clears_to : (order : List Request) (ended : ℕ) → IsNumbered order → ended ≤ length order → (k j : ℕ) → k + j ≤ ended → Clears order ended (take k order) (take (k + j) order)
clears_to order ended numbered le k zero room = let e : k ≡ k + 0 = omega arith in subst (λ n. Clears order ended (take k order) (take n order)) e none
clears_to order ended numbered le k (suc j) room =
    let at = element_at order (k + j) (omega (arith, le, room)) in
    let e : suc (k + j) ≡ k + suc j = omega arith in
    subst (λ xs. Clears order ended (take k order) xs) (sym (take_with order (k + j) at.0 at.1) ∙ ap (λ n. take n order) e)
    (more (k + j) at.0 (clears_to order ended numbered le k j (omega (arith, room))) (omega (arith, room)) at.1 (lacks_before order numbered (k + j) at.0 at.1))

-- nothing needs to be cleared, and what is cleared in two steps is cleared
pub has_cleared_none : (q : Queue) → HasCleared q q
has_cleared_none q = (q.clear, none, refl)

pub has_cleared_twice : (a b c : Queue) → HasCleared a b → HasCleared b c → HasCleared a c
has_cleared_twice a b c h k =
    let k' = subst (λ z. HasCleared z c) h.2 k in
    (k'.0, clears_twice a.order (length a.ends) a.clear h.0 k'.0 h.1 k'.1, k'.2)

-- requests may be cleared before a run
pub runs_cleared : (config : LineConfig) (a b c : Queue) (moves : List Move) → HasCleared a b → Runs config b moves c → Runs config a moves c
runs_cleared config a b c [] h k = has_cleared_twice a b c h k
runs_cleared config a b c (move ∷ moves) h k = (k.0, has_cleared_twice a b k.0 h k.1, k.2, k.3)

-- the history is legal, and all requests that had ended at some time are clear
pub record IsTidy (lease : Option ℕ) (q : Queue) : Type 0 where
  pub legal : IsLegal lease q.order q.ends
  pub ended : ℕ
  pub within : ended ≤ length q.ends
  pub cleared : q.clear ≡ take ended q.order

-- then all requests that have ended may be cleared
pub clears_all : (lease : Option ℕ) (q : Queue) → IsTidy lease q → HasCleared q (record q { clear = ended_of q.order q.ends })
clears_all lease q tidy =
    let e : tidy.ended + (length q.ends - tidy.ended) ≡ length q.ends = omega (arith, tidy.within) in (
      ended_of q.order q.ends,
      subst (λ xs. Clears q.order (length q.ends) xs (ended_of q.order q.ends)) (sym tidy.cleared)
          (subst (λ n. Clears q.order (length q.ends) (take tidy.ended q.order) (take n q.order)) e
          (clears_to q.order (length q.ends) tidy.legal.numbered tidy.legal.ended tidy.ended (length q.ends - tidy.ended) (omega (arith, tidy.within)))),
      refl,
    )

-- the requests at the front that are marked, and what is left after them
abbrev pub passed : List Request → List Request → List Request
passed marked [] = []
passed marked (x ∷ xs) = if has marked x then x ∷ passed marked xs else []

abbrev pub unpassed : List Request → List Request → List Request
unpassed marked [] = []
unpassed marked (x ∷ xs) = if has marked x then unpassed marked xs else x ∷ xs

-- together the two are the whole, and the first part is what a run of tests takes
pub take_while-passed : (marked xs : List Request) → take_while (has marked) xs ≡ passed marked xs
take_while-passed marked [] = refl
take_while-passed marked (x ∷ xs) = take_while-cons (has marked) x xs ∙ ap (λ ys. cond (has marked x) (x ∷ ys) []) (take_while-passed marked xs)

pub passed-unpassed : (marked xs : List Request) → xs ≡ passed marked xs ++ unpassed marked xs
passed-unpassed marked [] = refl
passed-unpassed marked (x ∷ xs) = by (has marked x) (passed-unpassed marked xs)
  where
    by : (b : Bool) → xs ≡ passed marked xs ++ unpassed marked xs → x ∷ xs ≡ (if b then x ∷ passed marked xs else []) ++ (if b then unpassed marked xs else x ∷ xs)
    by true e = ap (λ ys. x ∷ ys) e
    by false e = refl

-- each of these requests is marked
abbrev pub AreMarked : List Request → List Request → Type 0
AreMarked marked [] = Unit {0}
AreMarked marked (x ∷ xs) = Has marked x × AreMarked marked xs

pub are_marked-passed : (marked xs : List Request) → AreMarked marked (passed marked xs)
are_marked-passed marked [] = tt
are_marked-passed marked (x ∷ xs) = by (has marked x) refl (are_marked-passed marked xs)
  where
    by : (b : Bool) → has marked x ≡ b → AreMarked marked (passed marked xs) → AreMarked marked (if b then x ∷ passed marked xs else [])
    by true e rest = (e, rest)
    by false e rest = tt

-- the first request that is left is not marked
pub lacks_unpassed : (marked xs : List Request) (r : Request) → slice_get (unpassed marked xs) 0 ≡ Some r → Lacks marked r
lacks_unpassed marked [] r e = absurd (let h : None ≡ Some r = e in cc h)
lacks_unpassed marked (x ∷ xs) r e = by (has marked x) refl (lacks_unpassed marked xs r) e
  where
    by : (b : Bool) → has marked x ≡ b → (slice_get (unpassed marked xs) 0 ≡ Some r → Lacks marked r) → slice_get (if b then unpassed marked xs else x ∷ xs) 0 ≡ Some r → Lacks marked r
    by true e rest at = rest at
    by false e rest at = subst (λ y. Lacks marked y) (same_some at) e

-- the moves that pass requests
abbrev pub passes_each : List Request → List Move
passes_each xs = map (λ _. finish Gone) xs

-- the queue once these requests have ended as withdrawn, and all ended requests are clear
abbrev pub passed_by : Queue → List Request → Queue
passed_by q xs = record q { ends = q.ends ++ gone_each xs; clear = take (length (q.ends ++ gone_each xs)) q.order }

-- the queue after those moves
pub moved_by-passes : (q : Queue) (xs : List Request) → moved_by q (passes_each xs) ≡ passed_by q xs
moved_by-passes q [] = ap (λ es. let z : Queue = record q { ends = es; clear = take (length es) q.order } in z) (sym (append-nil q.ends))
moved_by-passes q (x ∷ xs) =
    moved_by-passes (moved q (finish Gone)) xs
    ∙ ap (λ es. let z : Queue = record q { ends = es; clear = take (length es) q.order } in z) (append_assoc q.ends (Gone ∷ []) (gone_each xs))

-- a history stays tidy when the request at its turn ends
pub tidy_end : (lease : Option ℕ) (q : Queue) (r : Request) (e : End) → IsTidy lease q → turn_of q.order q.ends ≡ Some r → EndsAs lease q r e → IsTidy lease (moved q (finish e))
tidy_end lease q r e tidy turn ends = record {
  legal = legal_end lease q.order q.ends e tidy.legal (slice_get_within q.order (length q.ends) r turn) (may_end lease q r e ends);
  ended = tidy.ended;
  within = omega (arith, tidy.within, length-append q.ends (e ∷ []));
  cleared = tidy.cleared;
}

-- the request at its turn is the first of those that are open
pub turn_from : (q : Queue) (x : Request) (xs : List Request) → drop (length q.ends) q.order ≡ x ∷ xs → turn_of q.order q.ends ≡ Some x
turn_from q x xs e =
    let at : length q.ends + 0 ≡ length q.ends = omega arith in
    ap (slice_get q.order) (sym at) ∙ (sym (slice_get-drop (length q.ends) q.order 0) ∙ ap (λ ys. slice_get ys 0) e)

-- once a request has ended, the others are open
pub rest_from : (q : Queue) (x : Request) (xs : List Request) (end : End) → drop (length q.ends) q.order ≡ x ∷ xs → drop (length (q.ends ++ end ∷ [])) q.order ≡ xs
rest_from q x xs end e =
    let long : length (q.ends ++ end ∷ []) ≡ length q.ends + 1 = length-append q.ends (end ∷ []) ∙ omega arith in
    let h : x ∷ drop (length q.ends + 1) q.order ≡ x ∷ xs = sym (drop_with q.order (length q.ends) x (turn_from q x xs e)) ∙ e in
    ap (λ n. drop n q.order) long ∙ cc h

-- withdrawn requests that reach their turn are passed, one after another
pub runs_passes : (config : LineConfig) (q : Queue) (xs rest : List Request) → IsTidy config.lease q → drop (length q.ends) q.order ≡ xs ++ rest → AreMarked q.marked xs
    → Runs config q (passes_each xs) (moved_by q (passes_each xs))
runs_passes config q [] rest tidy front marks = clears_all config.lease q tidy
runs_passes config q (x ∷ xs) rest tidy front marks =
    let turn : turn_of q.order q.ends ≡ Some x = turn_from q x (xs ++ rest) front in (
      q,
      has_cleared_none q,
      (x, turn, marks.0),
      runs_passes config (moved q (finish Gone)) xs rest (tidy_end config.lease q x Gone tidy turn marks.0) (rest_from q x (xs ++ rest) Gone front) marks.1,
    )
