-- Lemmas about histories: lists of ends that are appended to each other, and moves that keep a history legal.
use Rattle.std.proofs.Common.{◌≡◌, ℕ, ◌+◌, ◌<◌, ◌≤◌, inl, inr, Bool, true, false, ◌||◌, List, [], ◌∷◌, ◌++◌, length, take, map, refl, ap, sym, ◌∙◌, subst, arith, append_assoc, append-nil, length-append, slice_get, Option, Some}
use Rattle.std.proofs.lemmas.List.{take_all, take-append-le}
use Rattle.std.proofs.lemmas.Option.{slice_get_within}
use Rattle.qolb_model.specs.declared.request.Request.{Request}
use Rattle.qolb_model.specs.declared.end.End.{End}
use Rattle.qolb_model.specs.declared.end.End.TheVariants.{Served, Gone, Told}
use Rattle.qolb_model.specs.Requests.{count_of, next_of}
use Rattle.qolb_model.specs.Ends.{is_closed, MayEnd, written, bytes_after}
use Rattle.qolb_model.specs.declared.config.LineConfig.{LineConfig}
use Rattle.qolb_model.specs.Leases.{is_last_turn}
use Rattle.qolb_model.specs.Histories.{IsLegal}
use Rattle.qolb_model.specs.Queue.{Queue, Move, ask, mark, finish, EndsAs, CanMove, moved}
use Rattle.qolb_model.proofs.Lists.{push_cases}
use Rattle.qolb_model.proofs.Requests.{IsNumbered, same_place}

-- the bytes after two lists of ends, one after the other
pub bytes_after-append : (bytes : List ℕ) (xs ys : List End) → bytes_after bytes (xs ++ ys) ≡ bytes_after (bytes_after bytes xs) ys
bytes_after-append bytes [] ys = refl
bytes_after-append bytes (Served write shut ∷ xs) ys = bytes_after-append (written bytes write) xs ys
bytes_after-append bytes (Gone ∷ xs) ys = bytes_after-append bytes xs ys
bytes_after-append bytes (Told ∷ xs) ys = bytes_after-append bytes xs ys

-- withdrawn requests, as ends
abbrev pub gone_each : List Request → List End
gone_each xs = map (λ _. Gone) xs

-- passed requests change no byte
pub bytes_after-gone : (bytes : List ℕ) (xs : List Request) → bytes_after bytes (gone_each xs) ≡ bytes
bytes_after-gone bytes [] = refl
bytes_after-gone bytes (x ∷ xs) = bytes_after-gone bytes xs

-- a line is closed by the first or by the second of two lists of ends
pub is_closed-append : (xs ys : List End) → is_closed (xs ++ ys) ≡ (is_closed xs || is_closed ys)
is_closed-append [] ys = refl
is_closed-append (Served write shut ∷ xs) ys = ap (λ b. shut || b) (is_closed-append xs ys) ∙ by shut
  where
    by : (b : Bool) → (b || (is_closed xs || is_closed ys)) ≡ ((b || is_closed xs) || is_closed ys)
    by true = refl
    by false = refl
is_closed-append (Gone ∷ xs) ys = is_closed-append xs ys
is_closed-append (Told ∷ xs) ys = is_closed-append xs ys

-- passed requests do not close the line
pub is_closed-gone : (xs : List Request) → is_closed (gone_each xs) ≡ false
is_closed-gone [] = refl
is_closed-gone (x ∷ xs) = is_closed-gone xs

-- an order stays numbered when a node makes its next request
pub numbered_push : (order : List Request) (node : ℕ) → IsNumbered order → IsNumbered (order ++ next_of node order ∷ [])
numbered_push order node numbered = λ p r e. elim (push_cases order (next_of node order) p r e) [
  | inl old ↦ numbered p r old.1 ∙ ap (λ xs. count_of r.node xs + 1) (sym (take-append-le p order (next_of node order ∷ []) (omega (arith, old.0))))
  | inr new ↦
      let cut : take p (order ++ next_of node order ∷ []) ≡ order =
      take-append-le p order (next_of node order ∷ []) (omega (arith, new.0)) ∙ take_all p order (omega (arith, new.0)) in
      subst (λ x. x.number ≡ count_of x.node (take p (order ++ next_of node order ∷ [])) + 1) (sym new.1) (ap (λ xs. count_of node xs + 1) (sym cut))
]

-- a history stays legal when a node makes its next request
pub legal_ask : (lease : Option ℕ) (order : List Request) (ends : List End) (node : ℕ) → IsLegal lease order ends → IsLegal lease (order ++ next_of node order ∷ []) ends
legal_ask lease order ends node legal = record {
  numbered = numbered_push order node legal.numbered;
  ended = omega (arith, legal.ended, length-append order (next_of node order ∷ []));
  closing = legal.closing;
}

-- the request at its turn ends as it may
pub legal_end : (lease : Option ℕ) (order : List Request) (ends : List End) (e : End) → IsLegal lease order ends → length ends < length order → MayEnd (is_closed ends) (is_last_turn lease ends) e → IsLegal lease order (ends ++ e ∷ [])
legal_end lease order ends e legal more may = record {
  numbered = legal.numbered;
  ended = omega (arith, more, length-append ends (e ∷ []));
  closing = λ p x at. elim (push_cases ends e p x at) [
    | inl old ↦ subst (λ xs. MayEnd (is_closed xs) (is_last_turn lease xs) x) (sym (take-append-le p ends (e ∷ []) (omega (arith, old.0)))) (legal.closing p x old.1)
    | inr new ↦
        let cut : take p (ends ++ e ∷ []) ≡ ends = take-append-le p ends (e ∷ []) (omega (arith, new.0)) ∙ take_all p ends (omega (arith, new.0)) in
        subst (λ y. MayEnd (is_closed (take p (ends ++ e ∷ []))) (is_last_turn lease (take p (ends ++ e ∷ []))) y) (sym new.1) (subst (λ xs. MayEnd (is_closed xs) (is_last_turn lease xs) e) (sym cut) may)
  ];
}

-- withdrawn requests are passed
pub legal_gone : (lease : Option ℕ) (order : List Request) (ends : List End) (xs : List Request) → IsLegal lease order ends → length ends + length xs ≤ length order → IsLegal lease order (ends ++ gone_each xs)
legal_gone lease order ends [] legal room = rw append-nil legal
legal_gone lease order ends (x ∷ xs) legal room =
    subst (λ es. IsLegal lease order es) (append_assoc ends (Gone ∷ []) (gone_each xs))
    (legal_gone lease order (ends ++ Gone ∷ []) xs (legal_end lease order ends Gone legal (omega (arith, room)) tt) (omega (arith, room, length-append ends (Gone ∷ []))))

-- an end that a move gives to a request may be its end in a history
pub may_end : (lease : Option ℕ) (q : Queue) (r : Request) (e : End) → EndsAs lease q r e → MayEnd (is_closed q.ends) (is_last_turn lease q.ends) e
may_end lease q r (Served write shut) h = (h.1, h.2)
may_end lease q r Gone h = tt
may_end lease q r Told h = h.1

-- each move that may be made keeps a history legal
pub legal_moved : (config : LineConfig) (q : Queue) (move : Move) → CanMove config q move → IsLegal config.lease q.order q.ends → IsLegal config.lease (moved q move).order (moved q move).ends
legal_moved config q (ask node) can legal = legal_ask config.lease q.order q.ends node legal
legal_moved config q (mark r) can legal = legal
legal_moved config q (finish e) can legal = legal_end config.lease q.order q.ends e legal (slice_get_within q.order (length q.ends) can.0 can.1) (may_end config.lease q can.0 e can.2)

-- in a legal history no request occurs twice: two places that have the same request are the same place
pub same_place_legal : (lease : Option ℕ) (order : List Request) (ends : List End) → IsLegal lease order ends → (p q : ℕ) (r : Request) → slice_get order p ≡ Some r → slice_get order q ≡ Some r → p ≡ q
same_place_legal lease order ends legal = same_place order legal.numbered
