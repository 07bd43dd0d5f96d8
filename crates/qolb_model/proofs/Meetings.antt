-- Lemmas about rounds of meetings, in which ports exchange what they know. The lemmas state what a round reveals about
-- the call before the round, and that all ports know the same whole history after the round.
use Rattle.std.proofs.Common.{◌≡◌, ◌≢◌, ℕ, ◌+◌, ◌≤◌, ◌⊎◌, inl, inr, Bool, true, false, ◌||◌, List, [], ◌∷◌, ◌++◌, length, Some, None, slice_get, refl, ap, sym, ◌∙◌, subst, arith, length-append}
use Rattle.std.proofs.lemmas.Bool.{cases_eq}
use Rattle.std.proofs.lemmas.Option.{slice_get_within}
use mathlib.Core.List.{IsPrefix}
use Rattle.qolb_model.specs.declared.answer.PortState.TheVariants as port
use Rattle.qolb_model.specs.declared.request.Request.{Request}
use Rattle.qolb_model.specs.declared.view.View.{View}
use Rattle.qolb_model.specs.Requests.{Has, has, count_of}
use Rattle.qolb_model.specs.Histories.{open_of}
use Rattle.qolb_model.specs.OneHistory.{Knows}
use Rattle.qolb_model.specs.Meeting.{longer}
use Rattle.qolb_model.specs.OneOwner.{OwnerState, state_of}
use Rattle.qolb_model.specs.Plain.{IsReached}
use Rattle.qolb_model.specs.Whole.{ViewAndTurn, KnowsWhole, seen}
use Rattle.qolb_model.specs.Rounds.{Meet, MeetsEach, nobody, another}
use Rattle.qolb_model.proofs.Lists.{push_cases, slice_get-append_left, slice_get-push}
use Rattle.qolb_model.proofs.Requests.{has_prefix}
use Rattle.qolb_model.proofs.Prefixes.{prefix_length, prefix_trans}
use Rattle.qolb_model.proofs.Longer.{longer_first, longer_swap, begins_longer}
use Rattle.qolb_model.proofs.Agreeing.{among_first, among_second}
use Rattle.qolb_model.proofs.Bounds.{Bounds, IsAfter, bounds}
use Rattle.qolb_model.proofs.Follows.{seen_holding}
use Rattle.qolb_model.proofs.Leaving.{Leaves}

or_first : (x y z : Bool) → x ≡ z → (y ≡ true → z ≡ true) → (x || y) ≡ z
or_first true y z e f = e
or_first false true z e f = sym (f refl)
or_first false false z e f = e

or_second : (x y z : Bool) → x ≡ z → (y ≡ true → z ≡ true) → (y || x) ≡ z
or_second x true z e f = sym (f refl)
or_second x false z e f = e

left_of : (x y : Bool) → x ≡ true → (x || y) ≡ true
left_of true y e = refl
left_of false y e = absurd (let no : false ≡ true = e in cc no)

right_of : (x y : Bool) → x ≡ true → (y || x) ≡ true
right_of x true e = refl
right_of x false e = e

-- a port that knows the new state's whole history meets a port that knows the old state's; then both know the new one's
module _ (allows : List ℕ → List ℕ → Type 0) (n : ℕ) (s t : OwnerState) (leaves : Leaves n s t) (a w b u : ViewAndTurn) (meet : Meet allows a w b u) (node : a.view.node ≡ n) (apart : w.view.node ≢ n)
    (of_a : KnowsWhole t a) (of_w : KnowsWhole s w) where
  known_a : Knows meet.tell.before.config meet.tell.before.order meet.tell.before.ends meet.tell.before.clear a.view
  known_a = meet.tell.before.known a.view (among_first a.view (w.view ∷ []))

  known_w : Knows meet.tell.before.config meet.tell.before.order meet.tell.before.ends meet.tell.before.clear w.view
  known_w = meet.tell.before.known w.view (among_second a.view w.view [])

  shorter_order : length w.view.order ≤ length a.view.order
  shorter_order = let x = prefix_length s.queue.order t.queue.order leaves.order in let y = ap length of_a.order in let z = ap length of_w.order in omega arith

  shorter_ends : length w.view.ends ≤ length a.view.ends
  shorter_ends = let x = prefix_length s.queue.ends t.queue.ends leaves.ends in let y = ap length of_a.ends in let z = ap length of_w.ends in omega arith

  clear_then : (r : Request) → Has a.view.clear r → Has (longer a.view.clear w.view.clear) r
  clear_then r h = has_prefix a.view.clear (longer a.view.clear w.view.clear) r (begins_longer a.view.clear w.view.clear meet.tell.before.clear known_a.clear_begins known_w.clear_begins) h

  w_marks : (r : Request) → Has (open_of t.queue.order t.queue.ends) r → Has w.view.marked r → Has t.queue.marked r
  w_marks r stands h = elim (cases_eq r.node n) [
    | inl e ↦ sym (of_a.marked r stands) ∙ (meet.tell.before.agreed w.view a.view (among_second a.view w.view []) (among_first a.view (w.view ∷ []))).marked r (e ∙ sym node) h
    | inr ne ↦ leaves.marks r (sym (of_w.marked r (leaves.opens r stands ne)) ∙ h)
  ]

  pub first_whole : KnowsWhole t b
  first_whole = record {
    config = meet.tell.continues_a.extends.config ∙ of_a.config;
    order = meet.tell.meets_a.order ∙ (longer_first a.view.order w.view.order shorter_order ∙ of_a.order);
    ends = meet.tell.meets_a.ends ∙ (longer_first a.view.ends w.view.ends shorter_ends ∙ of_a.ends);
    clear = λ r h. subst (λ xs. Has xs r) (sym meet.tell.meets_a.clear) (clear_then r (of_a.clear r h));
    joined = λ r h. meet.tell.meets_a.joined r ∙ left_of (has a.view.joined r) (has w.view.joined r) (of_a.joined r h);
    marked = λ r h. meet.tell.meets_a.marked r ∙ or_first (has a.view.marked r) (has w.view.marked r) (has t.queue.marked r) (of_a.marked r h) (w_marks r h);
    count = meet.tell.meets_a.count ∙ (of_a.count ∙ ap (λ m. count_of m t.queue.order) (sym meet.tell.continues_a.extends.node));
    state = ap seen meet.tell.meets_a.state ∙ (of_a.state ∙ ap (λ m. seen (state_of t m)) (sym meet.tell.continues_a.extends.node));
    asked = λ h. subst (λ c. 1 ≤ c) (sym meet.tell.meets_a.count) (of_a.asked (subst (λ x. (x ≡ port.Left) ⊎ (x ≡ port.Rolled)) meet.tell.meets_a.state h));
    turn = λ h. meet.turn_a ∙ of_a.turn (sym meet.tell.meets_a.state ∙ h);
  }

  pub second_whole : KnowsWhole t u
  second_whole = record {
    config = meet.tell.continues_b.extends.config ∙ (of_w.config ∙ sym leaves.config);
    order = meet.tell.meets_b.order ∙ (longer_swap w.view.order a.view.order meet.tell.before.order known_w.order_begins known_a.order_begins ∙ (longer_first a.view.order w.view.order shorter_order ∙ of_a.order));
    ends = meet.tell.meets_b.ends ∙ (longer_swap w.view.ends a.view.ends meet.tell.before.ends known_w.ends_begin known_a.ends_begin ∙ (longer_first a.view.ends w.view.ends shorter_ends ∙ of_a.ends));
    clear = λ r h. subst (λ xs. Has xs r) (sym (meet.tell.meets_b.clear ∙ longer_swap w.view.clear a.view.clear meet.tell.before.clear known_w.clear_begins known_a.clear_begins)) (clear_then r (of_a.clear r h));
    joined = λ r h. meet.tell.meets_b.joined r ∙ right_of (has a.view.joined r) (has w.view.joined r) (of_a.joined r h);
    marked = λ r h. meet.tell.meets_b.marked r ∙ or_second (has a.view.marked r) (has w.view.marked r) (has t.queue.marked r) (of_a.marked r h) (w_marks r h);
    count = meet.tell.meets_b.count ∙ (of_w.count ∙ (sym (leaves.counts w.view.node apart) ∙ ap (λ m. count_of m t.queue.order) (sym meet.tell.continues_b.extends.node)));
    state = ap seen meet.tell.meets_b.state ∙ (of_w.state ∙ (sym (leaves.states w.view.node apart) ∙ ap (λ m. seen (state_of t m)) (sym meet.tell.continues_b.extends.node)));
    asked = λ h. subst (λ c. 1 ≤ c) (sym meet.tell.meets_b.count) (of_w.asked (subst (λ x. (x ≡ port.Left) ⊎ (x ≡ port.Rolled)) meet.tell.meets_b.state h));
    turn = λ h.
        let was = sym meet.tell.meets_b.state ∙ h in
        meet.turn_b ∙ (of_w.turn was ∙ sym (leaves.turns w.view.node apart (seen_holding (state_of s w.view.node) (sym of_w.state ∙ ap seen was))));
  }

-- the ports know the state's whole history, and are of other nodes
abbrev pub AreOthers : OwnerState → ℕ → List ViewAndTurn → Type 0
AreOthers s n ports = (i : ℕ) (w : ViewAndTurn) → slice_get ports i ≡ Some w → (w.view.node ≢ n) × KnowsWhole s w

-- the new ports are the same ports, and each of them knows the state's whole history
pub record AreThen (t : OwnerState) (old new : List ViewAndTurn) : Type 0 where
  pub many : length new ≡ length old
  pub each : (i : ℕ) (u : ViewAndTurn) → slice_get new i ≡ Some u → (w : ViewAndTurn) × (slice_get old i ≡ Some w) × (u.view.node ≡ w.view.node) × KnowsWhole t u

others_before : (s : OwnerState) (n : ℕ) (ws : List ViewAndTurn) (w : ViewAndTurn) → AreOthers s n (ws ++ w ∷ []) → AreOthers s n ws
others_before s n ws w all i x at = all i x (slice_get-append_left ws (w ∷ []) i (slice_get_within ws i x at) ∙ at)

-- after the round all ports know it
pub round_whole : (allows : List ℕ → List ℕ → Type 0) (n : ℕ) (s t : OwnerState) → Leaves n s t → (a : ViewAndTurn) (ws : List ViewAndTurn) (b : ViewAndTurn) (us : List ViewAndTurn) → MeetsEach allows a ws b us
    → a.view.node ≡ n → KnowsWhole t a → AreOthers s n ws → (b.view.node ≡ n) × KnowsWhole t b × AreThen t ws us
round_whole allows n s t leaves a ws b us nobody node knows others =
    (node, knows, record { many = refl; each = λ i u at. absurd (let no : None ≡ Some u = at in cc no) })
round_whole allows n s t leaves a ws b us (another {others = before} {others_then = after} {now} w later u met meet) node knows others =
    let rest = round_whole allows n s t leaves a before now after met node knows (others_before s n before w others) in
    let is = others (length before) w (slice_get-push before w) in (
      meet.tell.continues_a.extends.node ∙ rest.0,
      first_whole allows n s t leaves now w later u meet rest.0 is.0 rest.1 is.1,
      record {
        many = length-append after (u ∷ []) ∙ (ap (λ m. m + 1) rest.2.many ∙ sym (length-append before (w ∷ [])));
        each = λ i x at. elim (push_cases after u i x at) [
          | inl old ↦ (let h = rest.2.each i x old.1 in (h.0, slice_get-append_left before (w ∷ []) i (slice_get_within before i h.0 h.1) ∙ h.1, h.2, h.3))
          | inr new ↦ (
              let place : i ≡ length before = new.0 ∙ rest.2.many in (
                w,
                ap (slice_get (before ++ w ∷ [])) place ∙ slice_get-push before w,
                ap (λ y. y.view.node) new.1 ∙ meet.tell.continues_b.extends.node,
                subst (λ y. KnowsWhole t y) (sym new.1) (second_whole allows n s t leaves now w later u meet rest.0 is.0 rest.1 is.1),
              ))
        ];
      },
    )

-- the round tells what the port may have learned in the call before it
pub round_bounds : (allows : List ℕ → List ℕ → Type 0) (n : ℕ) (s : OwnerState) → IsReached s → (v : View) (a : ViewAndTurn) (ws : List ViewAndTurn) (b : ViewAndTurn) (us : List ViewAndTurn) → MeetsEach allows a ws b us
    → IsAfter v a.view → IsPrefix s.queue.order v.order → IsPrefix s.queue.ends v.ends → AreOthers s n ws
    → IsAfter v b.view × ((i : ℕ) (w : ViewAndTurn) → slice_get ws i ≡ Some w → Bounds s v w.view.node)
round_bounds allows n s reached v a ws b us nobody after order ends others = (after, λ i w at. absurd (let no : None ≡ Some w = at in cc no))
round_bounds allows n s reached v a ws b us (another {others = before} {others_then = then_} {now} w later u met meet) after order ends others =
    let (so_far, told) = round_bounds allows n s reached v a before now then_ met after order ends (others_before s n before w others) in
    let is = (others (length before) w (slice_get-push before w)).1 in
    let short_order : length w.view.order ≤ length now.view.order = let x = prefix_length s.queue.order v.order order in let y = ap length is.order in let z = ap length so_far.order in omega arith in
    let short_ends : length w.view.ends ≤ length now.view.ends = let x = prefix_length s.queue.ends v.ends ends in let y = ap length is.ends in let z = ap length so_far.ends in omega arith in (
      record {
        order = meet.tell.meets_a.order ∙ (longer_first now.view.order w.view.order short_order ∙ so_far.order);
        ends = meet.tell.meets_a.ends ∙ (longer_first now.view.ends w.view.ends short_ends ∙ so_far.ends);
        clear = prefix_trans v.clear now.view.clear later.view.clear so_far.clear meet.tell.continues_a.extends.clear;
        marked = λ r h. meet.tell.continues_a.extends.marked r (so_far.marked r h);
      },
      λ i x at. elim (push_cases before w i x at) [
        | inl old ↦ told i x old.1
        | inr new ↦ subst (λ y. Bounds s v y.view.node) (sym new.1) (bounds s reached v now.view w meet.tell.before so_far is order)
      ],
    )
