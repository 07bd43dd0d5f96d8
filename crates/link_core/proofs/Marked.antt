-- Proof of two properties that every move of the queue preserves. Among the requests that have ended, exactly the
-- marked ones have the end `Gone` (withdrawn). Every request that is not its node's last one is clear.
use Rattle.qolb_model.specs.declared.config.LineConfig.{LineConfig}
use Rattle.std.proofs.lemmas.Bool.{cases_eq, cases_lt}
use Rattle.std.proofs.Common.{◌≡◌, ℕ, ◌+◌, ◌<◌, ◌⊎◌, List, [], ◌∷◌, ◌++◌, length, Option, Some, None, slice_get, refl, sym, ◌∙◌, ap, subst, inl, inr, arith, length-append}
use Rattle.std.proofs.lemmas.Option.{slice_get_within}
use Rattle.qolb_model.specs.declared.request.Request.{Request}
use Rattle.qolb_model.specs.declared.end.End.{End}
use Rattle.qolb_model.specs.declared.end.End.TheVariants.{Served, Gone, Told}
use Rattle.qolb_model.specs.Requests.{Has, count_of, next_of}
use Rattle.qolb_model.specs.Histories.{IsLegal}
use Rattle.qolb_model.specs.Queue.{Queue, Move, ask, mark, finish, EndsAs, CanMove, moved}
use Rattle.qolb_model.proofs.Lists.{never, same_some, push_cases, slice_get-append_left, slice_get-push}
use Rattle.qolb_model.proofs.Requests.{has_push, has_left, place_of_request, same_request, count_of-push_same, count_of-push_other}
use Rattle.qolb_model.proofs.Clearing.{clears_begin}
use Rattle.qolb_model.proofs.Histories.{same_place_legal}
use Rattle.link_core.specs.Moves.{MayMake, made, Goes}
use Rattle.link_core.specs.Shown.{AreMarked, AreEarlierClear}
use Rattle.link_core.proofs.Kept.{has_more}

-- an old place of an order with one more request
old_place : (o : List Request) (x : Request) (p : ℕ) (r : Request) → p < length o → slice_get (o ++ x ∷ []) p ≡ Some r → slice_get o p ≡ Some r
old_place o x p r l e = sym (slice_get-append_left o (x ∷ []) p l) ∙ e

-- a marked request can end in one way
gone_only : (lease : Option ℕ) (q : Queue) (r : Request) (x : End) → EndsAs lease q r x → Has q.marked r → x ≡ Gone
gone_only lease q r (Served w shut) a h = absurd (never h a.0)
gone_only lease q r Gone a h = refl
gone_only lease q r Told a h = absurd (never h a.0)

gone_marked : (lease : Option ℕ) (q : Queue) (r : Request) (x : End) → EndsAs lease q r x → x ≡ Gone → Has q.marked r
gone_marked lease q r x a e = subst (λ (y : End). EndsAs lease q r y) e a

marked_move : (config : LineConfig) (q : Queue) (m : Move) → CanMove config q m → IsLegal config.lease q.order q.ends → AreMarked q → AreMarked (moved q m)
marked_move config q (ask n) can l a = record {
  gone = λ p r at e. let k = slice_get_within q.ends p Gone e in a.gone p r (old_place q.order (next_of n q.order) p r (omega (arith, l.ended, k)) at) e;
  marked = λ p r at lt h. a.marked p r (old_place q.order (next_of n q.order) p r (omega (arith, l.ended, lt)) at) lt h;
}
marked_move config q (mark x) can l a = record {
  gone = λ p r at e. has_left q.marked (x ∷ []) r (a.gone p r at e);
  marked = λ p r at lt h. elim (has_push q.marked x r h) [
    | inl old ↦ a.marked p r at lt old
    | inr is ↦ let k = same_place_legal config.lease q.order q.ends l p can.0 x (at ∙ ap Some is) can.2 in let j = can.1 in absurd (omega arith)
  ];
}
marked_move config q (finish x) can l a = record {
  gone = λ p r at e. elim (push_cases q.ends x p Gone e) [
    | inl old ↦ a.gone p r at old.1
    | inr new ↦ gone_marked config.lease q r x (subst (λ (y : Request). EndsAs config.lease q y x) (turn p r at new.0) can.2) (sym new.1)
  ];
  marked = λ p r at lt h. elim (below p lt) [
    | inl old ↦ slice_get-append_left q.ends (x ∷ []) p old ∙ a.marked p r at old h
    | inr new ↦ ap (slice_get (q.ends ++ x ∷ [])) new ∙ slice_get-push q.ends x ∙ ap Some (gone_only config.lease q r x (subst (λ (y : Request). EndsAs config.lease q y x) (turn p r at new) can.2) h)
  ];
}
  where
    turn : (p : ℕ) (r : Request) → slice_get q.order p ≡ Some r → p ≡ length q.ends → can.0 ≡ r
    turn p r at e = same_some (sym can.1 ∙ ap (slice_get q.order) (sym e) ∙ at)

    below : (p : ℕ) → p < length (q.ends ++ x ∷ []) → (p < length q.ends) ⊎ (p ≡ length q.ends)
    below p lt = let k = length-append q.ends (x ∷ []) in grind arith

marked_made : (config : LineConfig) (q : Queue) (m : Option Move) → MayMake config q m → IsLegal config.lease q.order q.ends → AreMarked q → AreMarked (made q m)
marked_made config q None may l a = a
marked_made config q (Some x) may l a = marked_move config q x may l a

pub marked_goes : (config : LineConfig) (q : Queue) (m : Option Move) (g : Queue) → Goes config q m g → IsLegal config.lease q.order q.ends → AreMarked q → AreMarked g
marked_goes config q m g k l a =
    let b = marked_made config q m k.may l a in
    subst (λ (y : Queue). AreMarked y) (sym k.cleared.2) (record { gone = b.gone; marked = b.marked })

-- a node makes a request if its last one is clear
earlier_move : (config : LineConfig) (q : Queue) (m : Move) → CanMove config q m → IsLegal config.lease q.order q.ends → AreEarlierClear q → AreEarlierClear (moved q m)
earlier_move config q (mark x) can l a r h lt = a r h lt
earlier_move config q (finish x) can l a r h lt = a r h lt
earlier_move config q (ask n) can l a r h lt = elim (has_push q.order (next_of n q.order) r h) [
  | inl old ↦ elim (cases_eq r.node n) [
    | inl same ↦
        let (p, at) = place_of_request q.order r old in
        let first = l.numbered p r at in
        let more = count_of-push_same n q.order (next_of n q.order) refl in
        let low = subst (λ (m : ℕ). r.number < count_of m (q.order ++ next_of n q.order ∷ [])) same lt in
        elim (cases_lt r.number (count_of n q.order)) [
          | inl below ↦ a r old (subst (λ (m : ℕ). r.number < count_of m q.order) (sym same) below)
          | inr least ↦
              let number : r.number ≡ count_of n q.order = omega arith in
              subst (λ (x : Request). Has q.clear x) (same_request n r.node (count_of n q.order) r.number (sym same) (sym number)) (can.2 (omega arith))
        ]
    | inr other ↦ a r old (subst (λ (m : ℕ). r.number < m) (count_of-push_other r.node q.order (next_of n q.order) (λ e. other (sym e))) lt)
  ]
  | inr new ↦
      let is : r.node ≡ n = ap (λ (x : Request). x.node) new in
      let number : r.number ≡ count_of n q.order + 1 = ap (λ (x : Request). x.number) new in
      let more = count_of-push_same n q.order (next_of n q.order) refl in
      let low = subst (λ (m : ℕ). r.number < count_of m (q.order ++ next_of n q.order ∷ [])) is lt in
      absurd (omega arith)
]

earlier_made : (config : LineConfig) (q : Queue) (m : Option Move) → MayMake config q m → IsLegal config.lease q.order q.ends → AreEarlierClear q → AreEarlierClear (made q m)
earlier_made config q None may l a = a
earlier_made config q (Some x) may l a = earlier_move config q x may l a

pub earlier_goes : (config : LineConfig) (q : Queue) (m : Option Move) (g : Queue) → Goes config q m g → IsLegal config.lease q.order q.ends → AreEarlierClear q → AreEarlierClear g
earlier_goes config q m g k l a =
    let b = earlier_made config q m k.may l a in
    subst (λ (y : Queue). AreEarlierClear y) (sym k.cleared.2) (λ r h lt. has_more (made q m).clear k.cleared.0 r (clears_begin k.cleared.1) (b r h lt))
