-- Lemmas about what a call of one node does not change for the other nodes.
use Rattle.std.proofs.Common.{◌≡◌, ◌≢◌, ℕ, zero, suc, ◌+◌, ◌-◌, ◌<◌, inl, inr, Bool, true, false, ◌&&◌, if◌then◌else◌, List, [], ◌∷◌, ◌++◌, length, drop, Some, None, slice_get, refl, ap, sym, ◌∙◌, subst, arith, length-append}
use Rattle.std.specs.Option.{option_map_or}
use Rattle.std.proofs.Math.Bool.{and-false}
use Rattle.std.proofs.lemmas.Bool.{cases_lt, cases_eq}
use Rattle.std.proofs.lemmas.List.{length-map}
use mathlib.Core.List.{IsPrefix}
use Rattle.qolb_model.specs.declared.answer.PortState.TheVariants as port
use Rattle.qolb_model.specs.declared.request.Request.{Request}
use Rattle.qolb_model.specs.declared.end.End.{End}
use Rattle.qolb_model.specs.declared.end.End.TheVariants.{Gone}
use Rattle.qolb_model.specs.Requests.{is_same, Has, has, count_of, last_of, next_of}
use Rattle.qolb_model.specs.Ends.{is_closed}
use Rattle.qolb_model.specs.Histories.{turn_of, open_of}
use Rattle.qolb_model.specs.Queue.{Queue, moved, finish}
use Rattle.qolb_model.specs.OneOwner.{OwnerState, new_turn, is_first, is_open, state_of, ends_with, after_moves, after_grant, after_end, after_ask, mark_last, after_write}
use Rattle.qolb_model.specs.Whole.{seen}
use Rattle.qolb_model.proofs.Lists.{never, same_test, push_cases, same_some, slice_get-drop}
use Rattle.qolb_model.proofs.Requests.{is_same-self, has_left, count_of-push_other}
use Rattle.qolb_model.proofs.Prefixes.{prefix_self, prefix_append, prefix_get, prefix_trans}
use Rattle.qolb_model.proofs.Histories.{gone_each}
use Rattle.qolb_model.proofs.Runs.{passed, passed_by}
use Rattle.qolb_model.proofs.Bounds.{open_at, place_open}
use Rattle.qolb_model.proofs.Agreed.{state_from, first_turn}
use Rattle.qolb_model.proofs.Follows.{seen_holding, has_push_other}
use Rattle.qolb_model.proofs.Passing.{goes_queue}

-- The state goes on from s to t by a call of the node n. Nothing is forgotten, no other node makes a request or loses a
-- mark, and each other node may make the same calls as before. A holder's turn stays.
pub record Leaves (n : ℕ) (s t : OwnerState) : Type 0 where
  pub config : t.config ≡ s.config
  pub order : IsPrefix s.queue.order t.queue.order
  pub ends : IsPrefix s.queue.ends t.queue.ends
  pub counts : (m : ℕ) → m ≢ n → count_of m t.queue.order ≡ count_of m s.queue.order
  pub opens : (r : Request) → Has (open_of t.queue.order t.queue.ends) r → r.node ≢ n → Has (open_of s.queue.order s.queue.ends) r
  pub marks : (r : Request) → Has s.queue.marked r → Has t.queue.marked r
  pub states : (m : ℕ) → m ≢ n → seen (state_of t m) ≡ seen (state_of s m)
  pub turns : (m : ℕ) → m ≢ n → state_of s m ≡ port.Holding → t.turn ≡ s.turn

-- nothing is done
pub leaves_so : (n : ℕ) (s : OwnerState) → Leaves n s s
leaves_so n s = record {
  config = refl;
  order = prefix_self s.queue.order;
  ends = prefix_self s.queue.ends;
  counts = λ m ne. refl;
  opens = λ r h ne. h;
  marks = λ r h. h;
  states = λ m ne. refl;
  turns = λ m ne h. refl;
}

-- one call after another
pub leaves_through : (n : ℕ) (s t u : OwnerState) → Leaves n s t → Leaves n t u → Leaves n s u
leaves_through n s t u a b = record {
  config = b.config ∙ a.config;
  order = prefix_trans s.queue.order t.queue.order u.queue.order a.order b.order;
  ends = prefix_trans s.queue.ends t.queue.ends u.queue.ends a.ends b.ends;
  counts = λ m ne. b.counts m ne ∙ a.counts m ne;
  opens = λ r h ne. a.opens r (b.opens r h ne) ne;
  marks = λ r h. b.marks r (a.marks r h);
  states = λ m ne. b.states m ne ∙ a.states m ne;
  turns = λ m ne h. b.turns m ne (seen_holding (state_of t m) (a.states m ne ∙ ap seen h)) ∙ a.turns m ne h;
}

-- which request is at its turn
turn_first : (q : Queue) (m : ℕ) → turn_of q.order q.ends ≡ Some (last_of m q.order) → is_first q m ≡ true
turn_first q m e = ap (λ o. option_map_or (is_same (last_of m q.order)) o false) e ∙ is_same-self (last_of m q.order)

not_first : (q : Queue) (n m : ℕ) → is_first q n ≡ true → m ≢ n → is_first q m ≡ false
not_first q n m first ne = by (is_first q m) refl
  where
    by : (b : Bool) → is_first q m ≡ b → b ≡ false
    by true e = absurd (ne (let same : last_of m q.order ≡ last_of n q.order = same_some (sym (first_turn q m e) ∙ first_turn q n first) in ap (λ r. r.node) same))
    by false e = refl

holds_first : (s : OwnerState) (m : ℕ) → state_of s m ≡ port.Holding → is_first s.queue m ≡ true
holds_first s m e = by (is_open s.queue m) (has s.queue.marked (last_of m s.queue.order)) s.granted (is_first s.queue m) (is_closed s.queue.ends) e
  where
    by : (b k g f c : Bool) → state_from b k (g && f) c ≡ port.Holding → f ≡ true
    by true true g f c e = absurd (let no : port.Rolled ≡ port.Holding = e in cc no)
    by true false true true c e = refl
    by true false true false c e = absurd (let no : port.Queued ≡ port.Holding = e in cc no)
    by true false false f c e = absurd (let no : port.Queued ≡ port.Holding = e in cc no)
    by false k g f true e = absurd (let no : port.Shut ≡ port.Holding = e in cc no)
    by false k g f false e = absurd (let no : port.Idle ≡ port.Holding = e in cc no)

-- the node asks
pub leaves_ask : (n : ℕ) (s : OwnerState) → Leaves n s (after_ask s n)
leaves_ask n s = record {
  config = refl;
  order = prefix_append s.queue.order (next_of n s.queue.order ∷ []);
  ends = prefix_self s.queue.ends;
  counts = counts;
  opens = opens;
  marks = λ r h. h;
  states = λ m ne. ap seen (λ i. state_from (open_same m ne i) (has s.queue.marked (last_same m ne i)) (s.granted && first_same m ne i) (is_closed s.queue.ends));
  turns = λ m ne h. refl;
}
  where
    then_ : List Request
    then_ = s.queue.order ++ next_of n s.queue.order ∷ []

    counts : (m : ℕ) → m ≢ n → count_of m (s.queue.order ++ next_of n s.queue.order ∷ []) ≡ count_of m s.queue.order
    counts m ne = count_of-push_other m s.queue.order (next_of n s.queue.order) (λ e. ne (sym e))

    last_same : (m : ℕ) → m ≢ n → last_of m (s.queue.order ++ next_of n s.queue.order ∷ []) ≡ last_of m s.queue.order
    last_same m ne = ap (λ c. let r : Request = record { node = m; number = c } in r) (counts m ne)

    opens : (r : Request) → Has (open_of (s.queue.order ++ next_of n s.queue.order ∷ []) s.queue.ends) r → r.node ≢ n → Has (open_of s.queue.order s.queue.ends) r
    opens r h ne =
        let (p, le, at) = place_open (s.queue.order ++ next_of n s.queue.order ∷ []) s.queue.ends r h in
        elim (push_cases s.queue.order (next_of n s.queue.order) p r at) [
          | inl old ↦ open_at s.queue.order s.queue.ends p r le old.1
          | inr new ↦ absurd (ne (ap (λ x. x.node) new.1))
        ]

    open_same : (m : ℕ) → m ≢ n → is_open (after_ask s n).queue m ≡ is_open s.queue m
    open_same m ne =
        ap (has (open_of (s.queue.order ++ next_of n s.queue.order ∷ []) s.queue.ends)) (last_same m ne)
        ∙ same_test _ _ (λ h. opens (last_of m s.queue.order) h ne) (λ h.
        let (p, le, at) = place_open s.queue.order s.queue.ends (last_of m s.queue.order) h in
        open_at (s.queue.order ++ next_of n s.queue.order ∷ []) s.queue.ends p (last_of m s.queue.order) le (prefix_get s.queue.order (s.queue.order ++ next_of n s.queue.order ∷ []) p (last_of m s.queue.order) (prefix_append s.queue.order (next_of n s.queue.order ∷ [])) at))

    first_same : (m : ℕ) → m ≢ n → is_first (after_ask s n).queue m ≡ is_first s.queue m
    first_same m ne = same_test _ _
        (λ h.
        let turn : slice_get (s.queue.order ++ next_of n s.queue.order ∷ []) (length s.queue.ends) ≡ Some (last_of m s.queue.order) = first_turn (after_ask s n).queue m h ∙ ap Some (last_same m ne) in
        elim (push_cases s.queue.order (next_of n s.queue.order) (length s.queue.ends) (last_of m s.queue.order) turn) [
          | inl old ↦ turn_first s.queue m old.1
          | inr new ↦ absurd (ne (ap (λ x. x.node) new.1))
        ])
        (λ h. turn_first (after_ask s n).queue m
        (prefix_get s.queue.order (s.queue.order ++ next_of n s.queue.order ∷ []) (length s.queue.ends) (last_of m s.queue.order) (prefix_append s.queue.order (next_of n s.queue.order ∷ [])) (first_turn s.queue m h)
        ∙ ap Some (sym (last_same m ne))))

-- the node is granted
pub leaves_grant : (n : ℕ) (s : OwnerState) → is_first s.queue n ≡ true → Leaves n s (after_grant s)
leaves_grant n s first = record {
  config = refl;
  order = prefix_self s.queue.order;
  ends = prefix_self s.queue.ends;
  counts = λ m ne. refl;
  opens = λ r h ne. h;
  marks = λ r h. h;
  states = λ m ne. ap (λ h. seen (state_from (is_open s.queue m) (has s.queue.marked (last_of m s.queue.order)) h (is_closed s.queue.ends)))
      (not_first s.queue n m first ne ∙ sym (ap (λ f. s.granted && f) (not_first s.queue n m first ne) ∙ and-false s.granted));
  turns = λ m ne h. absurd (never (holds_first s m h) (not_first s.queue n m first ne));
}

-- the node withdraws
pub leaves_mark : (n : ℕ) (s : OwnerState) → Leaves n s (after_moves (mark_last s n) s)
leaves_mark n s = record {
  config = refl;
  order = prefix_self s.queue.order;
  ends = prefix_self s.queue.ends;
  counts = λ m ne. refl;
  opens = λ r h ne. h;
  marks = λ r h. has_left s.queue.marked (last_of n s.queue.order ∷ []) r h;
  states = λ m ne. ap (λ k. seen (state_from (is_open s.queue m) k (s.granted && is_first s.queue m) (is_closed s.queue.ends))) (has_push_other s.queue.marked (last_of n s.queue.order) (last_of m s.queue.order) ne);
  turns = λ m ne h. refl;
}

-- the holder writes
pub leaves_write : (n : ℕ) (s : OwnerState) (mask : ℕ) (bytes : List ℕ) → is_first s.queue n ≡ true → Leaves n s (after_write s mask bytes)
leaves_write n s mask bytes first = record {
  config = refl;
  order = prefix_self s.queue.order;
  ends = prefix_self s.queue.ends;
  counts = λ m ne. refl;
  opens = λ r h ne. h;
  marks = λ r h. h;
  states = λ m ne. refl;
  turns = λ m ne h. absurd (never (holds_first s m h) (not_first s.queue n m first ne));
}

-- a passed request was marked
passed_marked : (marked xs : List Request) (i : ℕ) (r : Request) → i < length (passed marked xs) → slice_get xs i ≡ Some r → Has marked r
passed_marked marked [] i r lt at = absurd (let no : None ≡ Some r = at in cc no)
passed_marked marked (x ∷ xs) i r lt at = by (passed_marked marked xs) (has marked x) refl i lt at
  where
    by : ((i : ℕ) (r : Request) → i < length (passed marked xs) → slice_get xs i ≡ Some r → Has marked r) → (b : Bool) → has marked x ≡ b → (i : ℕ) → i < length (if b then x ∷ passed marked xs else []) → slice_get (x ∷ xs) i ≡ Some r → Has marked r
    by rest true e zero lt at = subst (λ y. Has marked y) (same_some at) e
    by rest true e (suc i) lt at = rest i r (omega (arith, lt)) at
    by rest false e i lt at = absurd (omega (arith, lt))

marked_idle : (b h c : Bool) → seen (state_from b true h c) ≡ port.Idle
marked_idle true h c = refl
marked_idle false h true = refl
marked_idle false h false = refl

unmarked_same : (b c d : Bool) → seen (state_from b false false c) ≡ seen (state_from b false false d)
unmarked_same true c d = refl
unmarked_same false true true = refl
unmarked_same false true false = refl
unmarked_same false false true = refl
unmarked_same false false false = refl

-- the node's turn ends
module _ (n : ℕ) (s : OwnerState) (e : End) (first : is_first s.queue n ≡ true) where
  abbrev pub gone : List Request
  gone = passed s.queue.marked (drop (length s.queue.ends + 1) s.queue.order)

  abbrev pub ends_then : List End
  ends_then = (s.queue.ends ++ e ∷ []) ++ gone_each gone

  abbrev pub ended_state : OwnerState
  ended_state = record s { queue = passed_by (moved s.queue (finish e)) gone; granted = false; turn = new_turn s.config.opening.bytes ends_then }

  long : length ends_then ≡ length s.queue.ends + 1 + length gone
  long =
      let x = length-append (s.queue.ends ++ e ∷ []) (gone_each gone) in
      let y = length-append s.queue.ends (e ∷ []) in
      let z = length-map gone (λ _. Gone) in omega arith

  opens : (r : Request) → Has (open_of s.queue.order ends_then) r → Has (open_of s.queue.order s.queue.ends) r
  opens r h = let (p, le, at) = place_open s.queue.order ends_then r h in let l = long in open_at s.queue.order s.queue.ends p r (omega arith) at

  stays : (m : ℕ) → m ≢ n → has s.queue.marked (last_of m s.queue.order) ≡ false → is_open s.queue m ≡ true → has (open_of s.queue.order ends_then) (last_of m s.queue.order) ≡ true
  stays m ne unmarked h =
      let (p, le, at) = place_open s.queue.order s.queue.ends (last_of m s.queue.order) h in
      let l = long in
      elim (cases_lt p (length ends_then)) [
        | inr later ↦ open_at s.queue.order ends_then p (last_of m s.queue.order) later at
        | inl lt ↦ absurd (elim (cases_eq p (length s.queue.ends)) [
          | inl here ↦ (let is : Some (last_of m s.queue.order) ≡ Some (last_of n s.queue.order) = sym at ∙ (ap (slice_get s.queue.order) here ∙ first_turn s.queue n first) in ne (ap (λ r. r.node) (same_some is)))
          | inr behind ↦ (
              let i : ℕ = p - (length s.queue.ends + 1) in
              let place : length s.queue.ends + 1 + i ≡ p = omega arith in
              never (passed_marked s.queue.marked (drop (length s.queue.ends + 1) s.queue.order) i (last_of m s.queue.order) (omega arith) (slice_get-drop (length s.queue.ends + 1) s.queue.order i ∙ (ap (slice_get s.queue.order) place ∙ at))) unmarked)
        ])
      ]

  leaves_ended : Leaves n s ended_state
  leaves_ended = record {
    config = refl;
    order = prefix_self s.queue.order;
    ends = prefix_trans s.queue.ends (s.queue.ends ++ e ∷ []) ends_then (prefix_append s.queue.ends (e ∷ [])) (prefix_append (s.queue.ends ++ e ∷ []) (gone_each gone));
    counts = λ m ne. refl;
    opens = λ r h ne. opens r h;
    marks = λ r h. h;
    states = λ m ne. by m ne (has s.queue.marked (last_of m s.queue.order)) refl;
    turns = λ m ne h. absurd (never (holds_first s m h) (not_first s.queue n m first ne));
  }
    where
      by : (m : ℕ) → m ≢ n → (k : Bool) → has s.queue.marked (last_of m s.queue.order) ≡ k → seen (state_of ended_state m) ≡ seen (state_of s m)
      by m ne true k =
          ap (λ b. seen (state_from (has (open_of s.queue.order ends_then) (last_of m s.queue.order)) b false (is_closed ends_then))) k
          ∙ (marked_idle (has (open_of s.queue.order ends_then) (last_of m s.queue.order)) false (is_closed ends_then)
          ∙ sym (ap (λ b. seen (state_from (is_open s.queue m) b (s.granted && is_first s.queue m) (is_closed s.queue.ends))) k ∙ marked_idle (is_open s.queue m) (s.granted && is_first s.queue m) (is_closed s.queue.ends)))
      by m ne false k =
          let same : has (open_of s.queue.order ends_then) (last_of m s.queue.order) ≡ is_open s.queue m = same_test _ _ (opens (last_of m s.queue.order)) (stays m ne k) in
          let later : (s.granted && is_first s.queue m) ≡ false = ap (λ f. s.granted && f) (not_first s.queue n m first ne) ∙ and-false s.granted in
          (λ i. seen (state_from (same i) (k i) false (is_closed ends_then)))
          ∙ (unmarked_same (is_open s.queue m) (is_closed ends_then) (is_closed s.queue.ends) ∙ sym (λ i. seen (state_from (is_open s.queue m) (k i) (later i) (is_closed s.queue.ends))))

  pub leaves_end : Leaves n s (after_end (after_moves (ends_with e s.queue) s))
  leaves_end = subst (λ q. let t : OwnerState = record s { queue = q; granted = false; turn = new_turn s.config.opening.bytes q.ends } in Leaves n s t) (sym (goes_queue s e)) leaves_ended
