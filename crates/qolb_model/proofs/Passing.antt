-- Proof about a port that releases or forwards its line while all other ports know the line's whole history. (A port
-- forwards the line if the line is closed.) The release skips the same requests as the release of a single owner. After
-- the release, the port knows the state that the owner's release would lead to.
use Rattle.std.proofs.Common.{◌≡◌, ◌≢◌, ℕ, zero, suc, ◌+◌, ◌<◌, ◌≤◌, inl, inr, true, false, if◌then◌else◌, List, [], ◌∷◌, ◌++◌, length, drop, replicate, Some, slice_get, refl, ap, sym, ◌∙◌, subst, arith, append_assoc, length-append}
use Rattle.std.proofs.lemmas.Bool.{cases_eq, cases_order, false_from_ne_true}
use Rattle.std.proofs.lemmas.List.{length-replicate, length-drop}
use Rattle.std.proofs.lemmas.Option.{slice_get_within}
use Rattle.qolb_model.specs.declared.answer.PortState.{PortState}
use Rattle.qolb_model.specs.declared.answer.PortState.TheVariants as port
use Rattle.qolb_model.specs.declared.request.Request.{Request}
use Rattle.qolb_model.specs.declared.write.Write.{Write}
use Rattle.qolb_model.specs.declared.end.End.{End}
use Rattle.qolb_model.specs.declared.end.End.TheVariants.{Gone, Told}
use Rattle.qolb_model.specs.declared.view.View.{View}
use Rattle.qolb_model.specs.Requests.{Has, Lacks, has, count_of, last_of}
use Rattle.qolb_model.specs.Ends.{is_closed}
use Rattle.qolb_model.specs.Histories.{turn_of, open_of}
use Rattle.qolb_model.specs.Releasing.{SuccessorUnlinked, AfterRelease, IsTold}
use Rattle.qolb_model.specs.Queue.{moved, finish}
use Rattle.qolb_model.specs.OneOwner.{OwnerState, new_turn, is_open, state_of, ends_with, moved_by, after_moves, after_end}
use Rattle.qolb_model.specs.Plain.{IsReached}
use Rattle.qolb_model.specs.Whole.{KnowsWhole, seen}
use Rattle.qolb_model.proofs.Lists.{never, element_at, slice_get-drop}
use Rattle.qolb_model.proofs.Requests.{has_at}
use Rattle.qolb_model.proofs.Prefixes.{prefix_same}
use Rattle.qolb_model.proofs.Histories.{gone_each}
use Rattle.qolb_model.proofs.Runs.{passed, take_while-passed, passes_each, passed_by, moved_by-passes}
use Rattle.qolb_model.proofs.Bounds.{open_at, ended_at, place_open, place_ended}
use Rattle.qolb_model.proofs.Follows.{Follows, quiet_seen, mine, one_place, last_mine, own_at, still, others_marks, counted}

-- as many requests are passed as are marked before the first one that is not
passed_count : (marked xs : List Request) (k : ℕ) → k ≤ length xs → ((i : ℕ) (r : Request) → i < k → slice_get xs i ≡ Some r → Has marked r) → ((r : Request) → slice_get xs k ≡ Some r → Lacks marked r)
    → length (passed marked xs) ≡ k
passed_count marked [] zero le all next = refl
passed_count marked [] (suc k) le all next = absurd (omega arith)
passed_count marked (x ∷ xs) zero le all next = ap (λ b. length (if b then x ∷ passed marked xs else [])) (next x refl)
passed_count marked (x ∷ xs) (suc k) le all next =
    let e = passed_count marked xs k (omega (arith, le)) (λ i r lt at. all (suc i) r (omega (arith, lt)) at) next in
    ap (λ b. length (if b then x ∷ passed marked xs else [])) (all 0 x (omega arith) refl) ∙ ap suc e

gone_each_is : (xs : List Request) → gone_each xs ≡ replicate (length xs) Gone
gone_each_is [] = refl
gone_each_is (x ∷ xs) = ap (λ es. Gone ∷ es) (gone_each_is xs)

-- the queue once the request at its turn has ended, and the withdrawn requests behind it
pub goes_queue : (s : OwnerState) (e : End) → moved_by s.queue (ends_with e s.queue) ≡ passed_by (moved s.queue (finish e)) (passed s.queue.marked (drop (length s.queue.ends + 1) s.queue.order))
goes_queue s e =
    ap (λ xs. moved_by s.queue (finish e ∷ passes_each xs)) (take_while-passed s.queue.marked (drop (length s.queue.ends + 1) s.queue.order))
    ∙ moved_by-passes (moved s.queue (finish e)) (passed s.queue.marked (drop (length s.queue.ends + 1) s.queue.order))

module _ (s : OwnerState) (n : ℕ) (a : View) (reached : IsReached s) (f : Follows s n a)
    (e : End) (k : ℕ) (leaves : PortState) (ends : a.ends ≡ s.queue.ends ++ e ∷ replicate k Gone) (turn : turn_of s.queue.order s.queue.ends ≡ Some (last_of n s.queue.order))
    (go : AfterRelease (length s.queue.ends + 1) leaves a) (quiet : seen leaves ≡ port.Idle) where
  long : length a.ends ≡ length s.queue.ends + 1 + k
  long = let x = length-append s.queue.ends (e ∷ replicate k Gone) in let y = length-replicate k Gone in let z = ap length ends in omega arith

  -- the requests behind it, and those that are passed
  abbrev pub behind : List Request
  behind = drop (length s.queue.ends + 1) s.queue.order

  abbrev pub gone : List Request
  gone = passed s.queue.marked behind

  abbrev pub ends_then : List End
  ends_then = (s.queue.ends ++ e ∷ []) ++ gone_each gone

  within : length a.ends ≤ length s.queue.order
  within = let x = go.known in let y = ap length f.order in omega arith

  behind_at : (i : ℕ) (r : Request) → slice_get (drop (length s.queue.ends + 1) s.queue.order) i ≡ Some r → slice_get s.queue.order (length s.queue.ends + 1 + i) ≡ Some r
  behind_at i r at = sym (slice_get-drop (length s.queue.ends + 1) s.queue.order i) ∙ at

  -- a later open request is of another node
  other_node : (p : ℕ) (r : Request) → length s.queue.ends < p → slice_get s.queue.order p ≡ Some r → r.node ≢ n
  other_node p r lt at same =
      let is = last_mine s n a reached f p r (omega arith) at same in
      let here : length s.queue.ends ≡ p = one_place s n a reached f (length s.queue.ends) p r (subst (λ x. turn_of s.queue.order s.queue.ends ≡ Some x) (sym is) turn) at in
      absurd (omega arith)

  many : length (passed s.queue.marked (drop (length s.queue.ends + 1) s.queue.order)) ≡ k
  many = passed_count s.queue.marked behind k
      (let x = length-drop (length s.queue.ends + 1) s.queue.order in let y = within in let z = long in omega arith)
      (λ i r lt at.
      let p : ℕ = length s.queue.ends + 1 + i in
      let there = behind_at i r at in
      let l = long in
      let (x, end) = element_at a.ends (length s.queue.ends + 1 + i) (omega arith) in
      let known = reached.nodes_known (length s.queue.ends + 1 + i) r there in
      ((f.others r.node known.0 known.1 (other_node (length s.queue.ends + 1 + i) r (omega arith) there)).passed (length s.queue.ends + 1 + i) r x (omega arith) (ap (λ xs. slice_get xs (length s.queue.ends + 1 + i)) f.order ∙ there) end refl).1)
      (λ r at.
      let there = behind_at k r at in
      let l = long in
      let next : turn_of a.order a.ends ≡ Some r = (λ i. slice_get (f.order i) (l i)) ∙ there in
      false_from_ne_true _ (λ h. never (f.marked r (open_at s.queue.order s.queue.ends (length s.queue.ends + 1 + k) r (omega arith) there) h) (go.unmarked r next)))

  ends_are : a.ends ≡ (s.queue.ends ++ e ∷ []) ++ gone_each (passed s.queue.marked (drop (length s.queue.ends + 1) s.queue.order))
  ends_are = ends ∙ (sym (append_assoc s.queue.ends (e ∷ []) (replicate k Gone)) ∙ ap (λ es. (s.queue.ends ++ e ∷ []) ++ es) (ap (λ m. replicate m Gone) (sym many) ∙ sym (gone_each_is gone)))

  -- the next request is joined, so the release is not short
  not_short : SuccessorUnlinked a → ⊥
  not_short short =
      let at = ap (λ xs. slice_get xs (length a.ends)) (sym f.order) ∙ short.1 in
      never (f.joined short.0 (has_at s.queue.order (length a.ends) short.0 at)) short.2

  own_clear : (a.state ≡ leaves) × Has a.clear (last_of n s.queue.order)
  own_clear = elim (go.state) [
    | inl left ↦ absurd (not_short left.1)
    | inr right ↦ (right.0, subst (λ x. Has a.clear x) (mine s n a reached f) right.1)
  ]

  all_clear : (p : ℕ) (r : Request) → p < length a.ends → slice_get s.queue.order p ≡ Some r → Has a.clear r
  all_clear p r lt at = elim (cases_order p (length s.queue.ends)) [
    | inl same ↦ (let is : Some (last_of n s.queue.order) ≡ Some r = sym turn ∙ (ap (slice_get s.queue.order) (sym same) ∙ at) in subst (λ x. Has a.clear x) (cc is) own_clear.1)
    | inr (inl less) ↦ f.clear r (ended_at s.queue.order s.queue.ends p r less at)
    | inr (inr more) ↦ elim (go.cleared p r (omega (arith, more)) lt (ap (λ xs. slice_get xs p) f.order ∙ at)) [ inl clear ↦ clear | inr last ↦ absurd (not_short last.1) ]
  ]

  -- the state that is left
  abbrev pub ended_state : OwnerState
  ended_state = record s { queue = passed_by (moved s.queue (finish e)) gone; granted = false; turn = new_turn s.config.opening.bytes ends_then }

  closed_own : has (open_of s.queue.order ((s.queue.ends ++ e ∷ []) ++ gone_each (passed s.queue.marked (drop (length s.queue.ends + 1) s.queue.order)))) (last_of n s.queue.order) ≡ false
  closed_own = false_from_ne_true _ (λ h.
      let (p, le, at) = place_open s.queue.order ends_then (last_of n s.queue.order) h in
      let same : length s.queue.ends ≡ p = one_place s n a reached f (length s.queue.ends) p (last_of n s.queue.order) turn at in
      let l = long in let z = ap length ends_are in omega arith)

  knows_ended : (w : Write) → KnowsWhole ended_state (record { view = a; turn = w })
  knows_ended w = record {
    config = f.config;
    order = f.order;
    ends = ends_are;
    clear = λ r h. (let (p, lt, at) = place_ended s.queue.order ends_then r h in let z = ap length ends_are in all_clear p r (omega arith) at);
    joined = f.joined;
    marked = λ r h.
        let (p, le, at) = place_open s.queue.order ends_then r h in
        let l = long in
        let z = ap length ends_are in
        others_marks s n a reached f r (open_at s.queue.order s.queue.ends p r (omega arith) at) (other_node p r (omega arith) at);
    count = f.count ∙ ap (λ m. count_of m s.queue.order) (sym f.node);
    state = ap seen own_clear.0 ∙ (quiet ∙ (quiet_seen (is_closed ends_then) ∙ sym (ap (λ m. seen (state_of ended_state m)) f.node
        ∙ ap (λ b. seen (if b then (if has s.queue.marked (last_of n s.queue.order) then port.Rolled else port.Queued) else (if is_closed ends_then then port.Shut else port.Idle))) closed_own)));
    asked = λ _. counted s n a reached f (length s.queue.ends) turn;
    turn = λ h. absurd (let no : port.Holding ≡ port.Idle = ap seen (sym h ∙ own_clear.0) ∙ quiet in cc no);
  }

  -- released
  pub goes_whole : (w : Write) → KnowsWhole (after_end (after_moves (ends_with e s.queue) s)) (record { view = a; turn = w })
  goes_whole w =
      subst (λ q. let t : OwnerState = record s { queue = q; granted = false; turn = new_turn s.config.opening.bytes q.ends } in KnowsWhole t (record { view = a; turn = w })) (sym (goes_queue s e)) (knows_ended w)

-- told: none of the state's open requests had ended, and the line is closed
pub told_whole : (s : OwnerState) (n : ℕ) (a : View) → IsReached s → (f : Follows s n a) → is_open s.queue n ≡ true → IsTold a
    → (turn_of s.queue.order s.queue.ends ≡ Some (last_of n s.queue.order)) × (is_closed s.queue.ends ≡ true)
    × ((w : Write) → KnowsWhole (after_end (after_moves (ends_with Told s.queue) s)) (record { view = a; turn = w }))
told_whole s n a reached f stands is =
    let at : slice_get s.queue.order (length is.before) ≡ Some (last_of n s.queue.order) = own_at s n a reached f (length is.before) is.at_turn in
    let (p, le, there) = place_open s.queue.order s.queue.ends (last_of n s.queue.order) stands in
    let here : p ≡ length is.before = one_place s n a reached f p (length is.before) (last_of n s.queue.order) there at in
    let within = slice_get_within s.queue.order p (last_of n s.queue.order) there in
    let (r, turn) = element_at s.queue.order (length s.queue.ends) (omega arith) in
    let many : length a.ends ≡ length is.before + 1 + is.passed =
    (let x = length-append is.before (Told ∷ replicate is.passed Gone) in let y = length-replicate is.passed Gone in let z = ap length is.ends in omega arith) in
    let same : length is.before ≡ length s.queue.ends = elim (cases_eq r.node n) [
      | inl e ↦ (let l = last_mine s n a reached f (length s.queue.ends) r (omega arith) turn e in
          let q : length s.queue.ends ≡ p = one_place s n a reached f (length s.queue.ends) p r turn (subst (λ x. slice_get s.queue.order p ≡ Some x) (sym l) there) in omega arith)
      | inr ne ↦ absurd (let z = ap length (still s n a reached f r turn ne) in omega arith)
    ] in
    let before : is.before ≡ s.queue.ends = prefix_same is.before s.queue.ends a.ends (Told ∷ replicate is.passed Gone, sym is.ends) f.ends same in
    let turn_is : turn_of s.queue.order s.queue.ends ≡ Some (last_of n s.queue.order) = ap (slice_get s.queue.order) (sym same) ∙ at in (
      turn_is,
      ap is_closed (sym before) ∙ is.closed,
      λ w.
          goes_whole s n a reached f Told is.passed port.Shut (is.ends ∙ ap (λ es. es ++ Told ∷ replicate is.passed Gone) before) turn_is
          (subst (λ m. AfterRelease (m + 1) port.Shut a) same is.releases) refl w,
    )
