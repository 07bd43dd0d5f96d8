-- Lemmas about a release that skips withdrawn requests.
use Rattle.std.proofs.Common.{◌≡◌, ◌≢◌, ℕ, zero, suc, ◌+◌, ◌-◌, ◌*◌, ◌≤◌, ◌<◌, inl, inr, ⊎_elim, Bool, length, List, [], ◌∷◌, ◌++◌, sym, refl, ap, ◌∙◌, subst, Some, arith, replicate, append_assoc, length-append}
use Rattle.std.proofs.lemmas.List.{length-replicate}
use Rattle.qolb_model.specs.declared.answer.PortState.{PortState}
use Rattle.qolb_model.specs.declared.request.Request.{Request}
use Rattle.qolb_model.specs.declared.config.LineConfig.{LineConfig}
use Rattle.qolb_model.specs.declared.end.End.{End}
use Rattle.qolb_model.specs.declared.end.End.TheVariants.{Gone}
use Rattle.qolb_model.specs.PortStates.{state_after}
use Rattle.qolb_model.specs.Requests.{Lacks, AreOfOthers}
use Rattle.qolb_model.specs.Ends.{is_closed}
use Rattle.qolb_model.specs.Histories.{turn_of}
use Rattle.qolb_model.specs.Views.{Extends}
use Rattle.qolb_model.proofs.Lists.{element_at, push_cases}
use Rattle.qolb_model.proofs.Prefixes.{prefix_get}
use Rattle.qolb_model.proofs.Once.{others_longer, others_within, once_walked}
use Rattle.std.proofs.lemmas.Option.{slice_get_within}
use Rattle.link_core.specs.declared.point.Point.TheVariants.{Leaving, Freeing}
use Rattle.link_line.specs.Ghost.{LinkGhost}
use Rattle.line_generic.specs.declared.table.Payload.{Payload}
use Rattle.link_line.specs.declared.release.Handoff.{Handoff}
use Rattle.link_line.specs.declared.release.Handoff.TheVariants as handoff
use Rattle.link_line.specs.Links.{At}
use Rattle.link_line.specs.Layout.{IsWithin}
use Rattle.line_generic.specs.Steps.{IsSameSeat, HasSlot, HasNoSlot}
use Rattle.link_line.specs.Steps.{LinkSeat, ghost_of, after_release, left_in, end_of, next_end, point_by, Ended, HasUnpassedNode, Passes, Advances}
use Rattle.link_line.specs.Releases.{HandsOff, granted_word, NamesWakeWord, with_line, FinishesWalk, AreNodesAt, FreesAll}
use Rattle.link_line.specs.BetweenCalls.{word_of, wake_word}
use Rattle.link_line.proofs.Stepping.{goes_trans}

-- a walk that began at v has passed the requests of these nodes
pub record Walked (v : LinkGhost) (nodes : List ℕ) (w : LinkGhost) : Type 0 where
  pub config : w.view.config ≡ v.view.config
  pub state : w.view.state ≡ v.view.state
  pub count : w.view.count ≡ v.view.count
  pub ends : w.view.ends ≡ v.view.ends ++ replicate (length nodes) Gone
  pub run : (i p : ℕ) → At w.own.passed i p → p ≡ length v.view.ends + i
  pub made : AreNodesAt w.view w.own.passed nodes
  pub node : w.view.node ≡ v.view.node
  pub others : AreOfOthers v.view.node w.view.order w.own.passed
  pub few : length w.own.passed + 1 ≤ v.view.config.nodes

-- the walk is at the withdrawn request of one more node
pub record StandsAt (nodes : List ℕ) (node : ℕ) (w : LinkGhost) : Type 0 where
  pub point : w.own.seat.point ≡ Leaving node
  pub many : length w.own.passed ≡ length nodes + 1
  pub request : Request
  pub at : At w.view.order (length w.view.ends) request
  pub made_by : request.node ≡ node
  pub high : IsWithin w.view.config.nodes node

-- the line is away
pub record IsAway (nodes : List ℕ) (w : LinkGhost) : Type 0 where
  pub point : w.own.seat.point ≡ Freeing
  pub many : length w.own.passed ≡ length nodes
  pub some : w.own.passed ≢ []
  pub known : length w.view.ends ≤ length w.view.order
  pub unmarked : (r : Request) → turn_of w.view.order w.view.ends ≡ Some r → Lacks w.view.marked r

-- a node that has passed a request ends a withdrawn request next
ends_gone : (ps : List ℕ) (closed : Bool) (y : Payload) (k : ℕ) → length ps ≡ k + 1 → end_of ps closed y ≡ Gone
ends_gone [] closed y k e = absurd (omega (arith, e))
ends_gone (p ∷ ps) closed y k e = refl

some_passed : (ps : List ℕ) (k : ℕ) → length ps ≡ k + 1 → ps ≢ []
some_passed ps k e none = absurd (omega (arith, e, ap length none))

frees_after : (state : PortState) (ps : List ℕ) → ps ≢ [] → after_release state ps ≡ Freeing
frees_after state [] some = absurd (some refl)
frees_after state (p ∷ ps) some = refl

-- what letting the line go at an entry does to the places
record Grows (w x : LinkGhost) (first : ℕ) (max_steps : ℕ) : Type 0 where
  run : (i p : ℕ) → At x.own.passed i p → p ≡ first + i
  front : (i p : ℕ) → i < length w.own.passed → At x.own.passed i p → At w.own.passed i p
  others : AreOfOthers w.view.node x.view.order x.own.passed
  few : length x.own.passed + 1 ≤ max_steps

module _ (v w x : LinkGhost) (nodes : List ℕ) (k : Walked v nodes w) (more : Extends w.view x.view) where
  grows_none : (node : ℕ) → StandsAt nodes node w → x.own.passed ≡ w.own.passed → Grows w x (length v.view.ends) v.view.config.nodes
  grows_none node s same = record {
    run = λ i p at. k.run i p (subst (λ ps. At ps i p) same at);
    front = λ i p lt at. subst (λ ps. At ps i p) same at;
    others = subst (AreOfOthers w.view.node x.view.order) (sym same) (others_longer w.view.node w.view.order x.view.order w.own.passed more.order
        (λ i p at. omega (arith, k.run i p at, slice_get_within w.own.passed i p at, s.many, ap length k.ends, length-append v.view.ends (replicate (length nodes) Gone), length-replicate (length nodes) Gone, slice_get_within w.view.order (length w.view.ends) s.request s.at))
        (subst (λ n. AreOfOthers n w.view.order w.own.passed) (sym k.node) k.others));
    few = omega (arith, ap length same, k.few);
  }

  grows_more : (next : ℕ) (y : Payload) → length w.own.passed ≡ length nodes + 1 → length x.view.ends ≡ length v.view.ends + (length nodes + 1) → x.view.config.nodes ≡ v.view.config.nodes → Passes (with_line w y) x next → Grows w x (length v.view.ends) v.view.config.nodes
  grows_more next y many long n h = record {
    run = λ i p at. elim (push_cases w.own.passed (length x.view.ends) i p (subst (λ ps. At ps i p) h.passed at)) [
      | inl old ↦ k.run i p old.1
      | inr last ↦ omega (arith, last.0, last.1, many, long)
    ];
    front = λ i p lt at. elim (push_cases w.own.passed (length x.view.ends) i p (subst (λ ps. At ps i p) h.passed at)) [
      | inl old ↦ old.1
      | inr last ↦ absurd (omega (arith, last.0, lt))
    ];
    others = subst (λ m. AreOfOthers m x.view.order x.own.passed) more.node h.others;
    few = omega (arith, h.few, n);
  }

replicate-push : (n : ℕ) (e : End) → replicate n e ++ e ∷ [] ≡ replicate (suc n) e
replicate-push zero e = refl
replicate-push (suc n) e = ap (λ es. e ∷ es) (replicate-push n e)

-- one more withdrawn request ends, which the walk had reached
module _ (v w x : LinkGhost) (nodes : List ℕ) (node : ℕ) (y : Payload) (k : Walked v nodes w) (s : StandsAt nodes node w) (e : Ended w x y) (more : Extends w.view x.view) where
  gone : next_end w y ≡ Gone
  gone = ends_gone w.own.passed (is_closed w.view.ends) y (length nodes) s.many

  pushed : length (nodes ++ node ∷ []) ≡ suc (length nodes)
  pushed = omega (arith, length-append nodes (node ∷ []))

  ends_now : x.view.ends ≡ v.view.ends ++ replicate (length (nodes ++ node ∷ [])) Gone
  ends_now = e.ends ∙ ((λ i. k.ends i ++ gone i ∷ []) ∙ (append_assoc v.view.ends (replicate (length nodes) Gone) (Gone ∷ []) ∙ (ap (λ es. v.view.ends ++ es) (replicate-push (length nodes) Gone) ∙ ap (λ n. v.view.ends ++ replicate n Gone) (sym pushed))))

  ends_long : length x.view.ends ≡ length v.view.ends + (length nodes + 1)
  ends_long = ap length ends_now ∙ omega (arith, pushed, length-append v.view.ends (replicate (length (nodes ++ node ∷ [])) Gone), length-replicate (length (nodes ++ node ∷ [])) Gone)

  before : length w.view.ends ≡ length v.view.ends + length nodes
  before = ap length k.ends ∙ omega (arith, length-append v.view.ends (replicate (length nodes) Gone), length-replicate (length nodes) Gone)

  size : x.view.config.nodes ≡ w.view.config.nodes
  size = ap (λ (t : LineConfig). t.nodes) more.config

  walked_on : x.view.state ≡ v.view.state → Grows w x (length v.view.ends) v.view.config.nodes → Walked v (nodes ++ node ∷ []) x
  walked_on stays g = record {
    config = more.config ∙ k.config;
    state = stays;
    count = e.count ∙ k.count;
    ends = ends_now;
    run = g.run;
    made = record {
      each = λ j p n at is. elim (push_cases nodes node j n is) [
        | inl old ↦ let one = k.made.each j p n (g.front j p (omega (arith, old.0, s.many)) at) old.1 in (one.0, prefix_get w.view.order x.view.order p one.0 more.order one.1, one.2, (one.3.0, omega (arith, one.3.1, size)))
        | inr last ↦
            let place : length w.view.ends ≡ p = omega (arith, before, g.run j p at, last.0) in
            (s.request, prefix_get w.view.order x.view.order p s.request more.order (subst (λ q. At w.view.order q s.request) place s.at), s.made_by ∙ sym last.1, (omega (arith, last.1, s.high.0), omega (arith, last.1, s.high.1, size)))
      ];
    };
    node = more.node ∙ k.node;
    others = subst (λ n. AreOfOthers n x.view.order x.own.passed) k.node g.others;
    few = g.few;
  }

-- when the line is away and the passed requests are freed, the walk is over
pub walk_over : (v w x : LinkGhost) (nodes : List ℕ) → Walked v nodes w → IsAway nodes w → FreesAll w x → FinishesWalk v x
walk_over v w x nodes k h f =
    let last = nonempty w.own.passed h.some in
    let many : length nodes ≡ suc last.0 = sym h.many ∙ last.1 in
    let ends : x.view.ends ≡ v.view.ends ++ replicate (suc last.0) Gone = f.ends ∙ (k.ends ∙ ap (λ n. v.view.ends ++ replicate n Gone) many) in
    let long : length x.view.ends ≡ length v.view.ends + length w.own.passed = ap length ends ∙ omega (arith, last.1, length-append v.view.ends (replicate (suc last.0) Gone), length-replicate (suc last.0) Gone) in
    let others : AreOfOthers v.view.node x.view.order w.own.passed = subst (λ o. AreOfOthers v.view.node o w.own.passed) (sym f.order) k.others in
    record {
      point = f.point ∙ ap point_by k.state;
      state = f.state ∙ k.state;
      count = f.count ∙ k.count;
      passed = last.0;
      ends = ends;
      others = others_within v.view.node (length v.view.ends) (length x.view.ends) x.view.order w.own.passed k.run long others;
      once = once_walked v.view.node (length v.view.ends) (length x.view.ends) x.view.order w.own.passed k.run long others;
      releases = record {
        known = omega (arith, h.known, ap length f.order, ap length f.ends);
        unmarked = λ r is. subst (λ ms. Lacks ms r) (sym f.marked) (h.unmarked r (sym (λ i. turn_of (f.order i) (f.ends i)) ∙ is));
        freed = λ p r low high at. let one = passed_at v w nodes p k low (omega (arith, high, long)) in f.freed one.0 p r one.1 (subst (λ o. At o p r) f.order at);
        cleared = λ p r low high at. let one = passed_at v w nodes p k low (omega (arith, high, long)) in f.clear one.0 p r one.1 (subst (λ o. At o p r) f.order at);
        state = inr (f.state ∙ k.state, f.own_clear);
      };
    }
  where
    nonempty : (xs : List ℕ) → xs ≢ [] → (n : ℕ) × (length xs ≡ suc n)
    nonempty [] h = absurd (h refl)
    nonempty (x ∷ xs) h = (length xs, omega arith)

    passed_at : (v w : LinkGhost) (nodes : List ℕ) (p : ℕ) → Walked v nodes w → length v.view.ends ≤ p → p < length v.view.ends + length w.own.passed → (i : ℕ) × At w.own.passed i p
    passed_at v w nodes p k low high =
        let i = p - length v.view.ends in
        let one = element_at w.own.passed i (omega (arith, low, high)) in
        (i, subst (At w.own.passed i) (k.run i one.0 one.1 ∙ omega (arith, low)) one.1)

-- the walk made an end for each node that it passed
pub walked_long : (v w x : LinkGhost) (nodes : List ℕ) → Walked v nodes w → FreesAll w x → length x.view.ends ≡ length v.view.ends + length nodes
walked_long v w x nodes k f = ap length (f.ends ∙ k.ends) ∙ omega (arith, length-append v.view.ends (replicate (length nodes) Gone), length-replicate (length nodes) Gone)

-- The result of a walk from the seat s, by that of its last handoff, in `taken` atomic steps. Each passed request took
-- three steps. If the line is handed over, the last handoff took one to three, and one more step for each passed
-- request is within what a release may take.
abbrev pub StandsBy : LinkSeat → List ℕ → LinkSeat → ℕ → Handoff → Type 0
StandsBy s nodes t taken (handoff.HandedOver word behind) = HasNoSlot t × IsAway nodes (ghost_of t) × (taken + length nodes + 6 ≤ 4 * (ghost_of s).view.config.nodes) × (3 * length nodes ≤ taken + 2) × (taken ≤ 3 * length nodes)
StandsBy s nodes t taken handoff.Left = HasNoSlot t × IsAway nodes (ghost_of t) × (taken + length nodes + 6 ≤ 4 * (ghost_of s).view.config.nodes) × (3 * length nodes ≤ taken + 2) × (taken ≤ 3 * length nodes)
StandsBy s nodes t taken (handoff.Passed node) = (t.me.1 ≡ s.me.1) × StandsAt nodes node (ghost_of t) × ((ghost_of t).own.line ≡ (ghost_of s).own.line) × (taken ≡ 3 * length nodes)

-- what a walk that began at the seat s has done so far
pub record IsWalking (allows : List ℕ → List ℕ → Type 0) (s : LinkSeat) (before : ℕ) (nodes : List ℕ) (result : Handoff) (t : LinkSeat) (steps : ℕ) : Type 0 where
  pub seat : IsSameSeat s t
  pub taken : ℕ
  pub steps_are : steps ≡ before + taken
  pub advances : Advances allows s.me t.me taken
  pub walked : Walked (ghost_of s) nodes (ghost_of t)
  pub stands : StandsBy s nodes t taken result

-- what the walk has done when the line is handed over
module _ (allows : List ℕ → List ℕ → Type 0) (s t u : LinkSeat) (nodes : List ℕ) (taken node : ℕ) (n : ℕ) (k : Walked (ghost_of s) nodes (ghost_of t)) (b : StandsBy s nodes t taken (handoff.Passed node)) (slot : HasSlot s (ghost_of s).own.line) (state : (ghost_of s).view.state ≡ state_after (ghost_of s).own.line.closed)
    (advances : Advances allows t.me u.me n) where
  out_state : (ps : List ℕ) (closed : Bool) → ps ≢ [] → left_in ps closed ≡ state_after closed
  out_state [] closed some = absurd (some refl)
  out_state (p ∷ ps) closed some = refl

  longer : length (nodes ++ node ∷ []) ≡ length nodes + 1
  longer = length-append nodes (node ∷ [])

  some : (ghost_of t).own.passed ≢ []
  some = some_passed (ghost_of t).own.passed (length nodes) b.1.many

  -- the line is away, and as many are passed as before
  module _ (e : Ended (ghost_of t) (ghost_of u) (ghost_of s).own.line) (same : (ghost_of u).own.passed ≡ (ghost_of t).own.passed) (left : PortState) (at : (ghost_of u).own.seat.point ≡ after_release left (ghost_of t).own.passed) (is : (ghost_of u).view.state ≡ state_after (ghost_of s).own.line.closed)
      (unmarked : (r : Request) → turn_of (ghost_of u).view.order (ghost_of u).view.ends ≡ Some r → Lacks (ghost_of u).view.marked r) where
    out_walked : Walked (ghost_of s) (nodes ++ node ∷ []) (ghost_of u)
    out_walked = walked_on (ghost_of s) (ghost_of t) (ghost_of u) nodes node (ghost_of s).own.line k b.1 e advances.extends (is ∙ sym state) (grows_none (ghost_of s) (ghost_of t) (ghost_of u) nodes k advances.extends node b.1 same)

    out_away : IsAway (nodes ++ node ∷ []) (ghost_of u)
    out_away = record {
      point = at ∙ frees_after left (ghost_of t).own.passed some;
      many = omega (arith, ap length same, b.1.many, longer);
      some = λ none. some (sym same ∙ none);
      known = e.known;
      unmarked = unmarked;
    }

  steps_out : n ≤ 3 → HasUnpassedNode (ghost_of t) → taken + n + length (nodes ++ node ∷ []) + 6 ≤ 4 * (ghost_of s).view.config.nodes
  steps_out max_steps one = omega (arith, max_steps, one, b.3, b.1.many, longer, ap (λ (z : LineConfig). z.nodes) k.config)

  walks_out : (word behind : ℕ) → HandsOff t (ghost_of s).own.line u n (handoff.HandedOver word behind) → Walked (ghost_of s) (nodes ++ node ∷ []) (ghost_of u) × StandsBy s (nodes ++ node ∷ []) u (taken + n) (handoff.HandedOver word behind)
  walks_out word behind h = (
    out_walked h.1 h.2.passed (state_after (ghost_of s).own.line.closed) h.2.point h.2.state h.2.unmarked,
    (
      h.0,
      out_away h.1 h.2.passed (state_after (ghost_of s).own.line.closed) h.2.point h.2.state h.2.unmarked,
      ⊎_elim (λ one. omega (arith, one, k.few, b.3, b.1.many, longer)) (λ more. steps_out (omega (arith, more.0)) more.1) h.3,
      ⊎_elim (λ one. omega (arith, one, b.3, longer)) (λ more. omega (arith, more.0, b.3, longer)) h.3,
      ⊎_elim (λ one. omega (arith, one, b.3, longer)) (λ more. omega (arith, more.0, b.3, longer)) h.3,
    ),
  )

  walks_left : HandsOff t (ghost_of s).own.line u n handoff.Left → Walked (ghost_of s) (nodes ++ node ∷ []) (ghost_of u) × StandsBy s (nodes ++ node ∷ []) u (taken + n) handoff.Left
  walks_left h = let closed = h.2.state ∙ out_state (ghost_of t).own.passed (ghost_of s).own.line.closed some in (
    out_walked h.1 h.2.passed (left_in (ghost_of t).own.passed (ghost_of s).own.line.closed) h.2.point closed h.2.unmarked,
    (h.0, out_away h.1 h.2.passed (left_in (ghost_of t).own.passed (ghost_of s).own.line.closed) h.2.point closed h.2.unmarked, steps_out (omega (arith, h.3)) h.4, omega (arith, h.3, b.3, longer), omega (arith, h.3, b.3, longer)),
  )

  walks_passed : (to : ℕ) → HandsOff t (ghost_of s).own.line u n (handoff.Passed to) → Walked (ghost_of s) (nodes ++ node ∷ []) (ghost_of u) × StandsBy s (nodes ++ node ∷ []) u (taken + n) (handoff.Passed to)
  walks_passed to h = (
    walked_on (ghost_of s) (ghost_of t) (ghost_of u) nodes node (ghost_of s).own.line k b.1 h.1 advances.extends (h.2.state ∙ sym state)
        (grows_more (ghost_of s) (ghost_of t) (ghost_of u) nodes k advances.extends to (ghost_of s).own.line b.1.many (ends_long (ghost_of s) (ghost_of t) (ghost_of u) nodes node (ghost_of s).own.line k b.1 h.1 advances.extends) (ap (λ (z : LineConfig). z.nodes) (advances.extends.config ∙ k.config)) h.2),
    (
      h.0 ∙ sym slot,
      record {
        point = h.2.point;
        many = omega (arith, ap length h.2.passed, length-append (ghost_of t).own.passed (length (ghost_of u).view.ends ∷ []), b.1.many, longer);
        request = h.2.request;
        at = h.2.at;
        made_by = h.2.node;
        high = h.4;
      },
      h.2.line_is,
      omega (arith, h.3, b.3, longer),
    ),
  )

  pub walks : (result : Handoff) → HandsOff t (ghost_of s).own.line u n result → Walked (ghost_of s) (nodes ++ node ∷ []) (ghost_of u) × StandsBy s (nodes ++ node ∷ []) u (taken + n) result
  walks (handoff.HandedOver word behind) h = walks_out word behind h
  walks handoff.Left h = walks_left h
  walks (handoff.Passed to) h = walks_passed to h

-- one more turn of the loop therefore keeps it
pub walking_on : (allows : List ℕ → List ℕ → Type 0) (s t u : LinkSeat) (before : ℕ) (nodes : List ℕ) (node steps later n : ℕ) (result : Handoff) → IsWalking allows s before nodes (handoff.Passed node) t steps → HasSlot s (ghost_of s).own.line → (ghost_of s).view.state ≡ state_after (ghost_of s).own.line.closed
    → IsSameSeat t u → later ≡ steps + n → Advances allows t.me u.me n → ((y : Payload) → HasSlot t y → HandsOff t y u n result) → IsWalking allows s before (nodes ++ node ∷ []) result u later
walking_on allows s t u before nodes node steps later n result k slot state same is advances hands =
    let on = walks allows s t u nodes k.taken node n k.walked k.stands slot state advances result (hands (ghost_of s).own.line (k.stands.0 ∙ slot)) in
    record {
      seat = (same.0 ∙ k.seat.0, same.1 ∙ k.seat.1);
      taken = k.taken + n;
      steps_are = omega (arith, is, k.steps_are);
      advances = goes_trans allows s.me t.me u.me k.taken n k.advances advances;
      walked = on.0;
      stands = on.1;
    }

-- the line is away, and the word of the turn was named
pub names_away : (w : LinkGhost) (result : Handoff) → ((node : ℕ) → result ≢ handoff.Passed node) → NamesWakeWord w result → granted_word result ≡ wake_word w.view
names_away w (handoff.HandedOver word behind) none names = names
names_away w handoff.Left none names = names
names_away w (handoff.Passed node) none names = absurd (none node refl)

-- this stays true while the passed nodes are freed
pub turn_stays : (w x : LinkGhost) → FreesAll w x → wake_word x.view ≡ wake_word w.view
turn_stays w x f = λ i. word_of (f.joined i) (turn_of (f.order i) (f.ends i))

-- when the walk is over, the line is away
pub away_by : (allows : List ℕ → List ℕ → Type 0) (s t : LinkSeat) (before : ℕ) (nodes : List ℕ) (result : Handoff) (steps : ℕ) → ((node : ℕ) → result ≢ handoff.Passed node) → (k : IsWalking allows s before nodes result t steps) → HasNoSlot t × IsAway nodes (ghost_of t) × (k.taken + length nodes + 6 ≤ 4 * (ghost_of s).view.config.nodes) × (3 * length nodes ≤ k.taken + 2) × (k.taken ≤ 3 * length nodes)
away_by allows s t from nodes (handoff.HandedOver word behind) steps none k = k.stands
away_by allows s t from nodes handoff.Left steps none k = k.stands
away_by allows s t from nodes (handoff.Passed node) steps none k = absurd (none node refl)
