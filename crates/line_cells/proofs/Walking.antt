-- Lemmas about a release that skips withdrawn requests and then frees the nodes of these requests.
use Rattle.std.proofs.Common.{◌≡◌, ◌≢◌, ℕ, zero, suc, ◌+◌, ◌-◌, ◌≤◌, ◌<◌, ◌⊎◌, inl, inr, Bool, false, ◌||◌, length, drop, List, [], ◌∷◌, ◌++◌, sym, refl, ap, ◌∙◌, subst, Some, None, get_or, slice_get, arith, replicate, append-nil, append_assoc, length-append}
use Rattle.std.proofs.Math.Bool.{or-false}
use Rattle.qolb_model.specs.Kept.{AreAllowed}
use Rattle.qolb_model.specs.Views.{bytes_of}
use Rattle.std.proofs.lemmas.Option.{slice_get_within, slice_get-get_or}
use Rattle.std.proofs.lemmas.List.{length-replicate}
use Rattle.qolb_model.specs.declared.request.Request.{Request}
use Rattle.qolb_model.specs.declared.config.LineConfig.{LineConfig}
use Rattle.qolb_model.specs.PortStates.{state_after}
use Rattle.qolb_model.specs.Leases.{served, turns_left, is_last_turn}
use Rattle.qolb_model.proofs.Leases.{turns_left-same}
use Rattle.qolb_model.specs.declared.end.End.{End}
use Rattle.qolb_model.specs.declared.end.End.TheVariants.{Gone}
use Rattle.qolb_model.specs.Requests.{Has, Lacks, AreOfOthers}
use Rattle.qolb_model.specs.Ends.{is_closed, bytes_after, MayEnd}
use Rattle.qolb_model.specs.Histories.{turn_of}
use Rattle.qolb_model.specs.Views.{own, Extends}
use Rattle.qolb_model.proofs.Lists.{element_at, drop_with, push_cases, same_some}
use Rattle.qolb_model.proofs.Prefixes.{prefix_get}
use Rattle.qolb_model.proofs.Once.{others_longer, others_within, once_walked}
use Rattle.qolb_model.proofs.Histories.{bytes_after-append, is_closed-append}
use Rattle.qolb_model.proofs.Writes.{bytes_after-passed}
use Rattle.line_generic.specs.Steps.{IsSameSeat, HasNoSlot}
use Rattle.line_cells.specs.SlotLayout.{SlotLayout}
use Rattle.qolb_model.specs.declared.config.TheConstants.{MAX_NODES}
use Rattle.line_cells.specs.declared.local.Point.TheVariants.{Passing, Freeing}
use Rattle.line_generic.specs.declared.table.Payload.{Payload}
use Rattle.line_cells.specs.Array.{ArrayGhost, At}
use Rattle.line_cells.specs.Steps.{ArraySeat, ghost_of, after_walk, end_of, next_end, IsNextPayload, Ended, IsHandedOver, Passes, Frees, Advances}
use Rattle.line_cells.specs.Layout.{IsWithin}
use Rattle.line_cells.specs.Releases.{MatchesEnds, FinishesWalk, AreNodesAt, FreesAll}
use Rattle.line_cells.proofs.Turning.{goes_trans}
use Rattle.qolb_model.proofs.Requests.{has_prefix}

-- the first of the requests that were passed are freed
pub record FreesFirst (v : ArrayGhost) (i : ℕ) (w : ArrayGhost) : Type 0 where
  pub point : w.own.point ≡ after_walk (drop i v.own.passed)
  pub passed : w.own.passed ≡ drop i v.own.passed
  pub state : w.view.state ≡ v.view.state
  pub count : w.view.count ≡ v.view.count
  pub order : w.view.order ≡ v.view.order
  pub ends : w.view.ends ≡ v.view.ends
  pub marked : w.view.marked ≡ v.view.marked
  pub freed : (k p : ℕ) (r : Request) → k < i → At v.own.passed k p → At v.view.order p r → Has w.view.freed r
  pub clear : (k p : ℕ) (r : Request) → k < i → At v.own.passed k p → At v.view.order p r → Has w.view.clear r
  pub own_clear : drop i v.own.passed ≡ [] → Has w.view.clear (own w.view)

-- at first none of them is freed
pub frees_none : (v : ArrayGhost) → v.own.point ≡ Freeing → v.own.passed ≢ [] → FreesFirst v 0 v
frees_none v p some = record {
  point = p ∙ by v.own.passed some;
  passed = refl;
  state = refl;
  count = refl;
  order = refl;
  ends = refl;
  marked = refl;
  freed = λ k p r lt at is. absurd (omega (arith, lt));
  clear = λ k p r lt at is. absurd (omega (arith, lt));
  own_clear = λ none. absurd (some none);
}
  where
    by : (ps : List ℕ) → ps ≢ [] → Freeing ≡ after_walk ps
    by [] n = absurd (n refl)
    by (q ∷ ps) n = refl

-- the node that is freed next
pub frees_which : (v w : ArrayGhost) (nodes : List ℕ) (i node : ℕ) → FreesFirst v i w → length nodes ≡ length v.own.passed → AreNodesAt v.view v.own.passed nodes → At nodes i node
    → (w.own.point ≡ Freeing) × IsWithin v.view.config.nodes node × ((q : ℕ) × (ps : List ℕ) × (r : Request) × (w.own.passed ≡ q ∷ ps) × At w.view.order q r × (r.node ≡ node))
frees_which v w nodes i node f many are is =
    let here = element_at v.own.passed i (omega (arith, many, slice_get_within nodes i node is)) in
    let cut : drop i v.own.passed ≡ here.0 ∷ drop (i + 1) v.own.passed = drop_with v.own.passed i here.0 here.1 in
    let made = are.each i here.0 node here.1 is in
    (f.point ∙ ap after_walk cut, made.3, (here.0, drop (i + 1) v.own.passed, made.0, f.passed ∙ cut, subst (λ o. At o here.0 made.0) (sym f.order) made.1, made.2))

-- one more node is freed
pub frees_next : (v w x : ArrayGhost) (nodes : List ℕ) (i node : ℕ) → FreesFirst v i w → length nodes ≡ length v.own.passed → AreNodesAt v.view v.own.passed nodes → At nodes i node → Extends w.view x.view
    → ((q : ℕ) (ps : List ℕ) (r : Request) → w.own.passed ≡ q ∷ ps → At w.view.order q r → Frees w ps r x) → FreesFirst v (i + 1) x
frees_next v w x nodes i node f many are is more frees =
    let here = element_at v.own.passed i (omega (arith, many, slice_get_within nodes i node is)) in
    let cut : drop i v.own.passed ≡ here.0 ∷ drop (i + 1) v.own.passed = drop_with v.own.passed i here.0 here.1 in
    let made = are.each i here.0 node here.1 is in
    let one = frees here.0 (drop (i + 1) v.own.passed) made.0 (f.passed ∙ cut) (subst (λ o. At o here.0 made.0) (sym f.order) made.1) in
    record {
      point = one.point;
      passed = one.passed;
      state = one.state ∙ f.state;
      count = one.count ∙ f.count;
      order = one.order ∙ f.order;
      ends = one.ends ∙ f.ends;
      marked = one.marked ∙ f.marked;
      freed = λ k p r lt at on. elim (upto k i (omega (arith, lt))) [
        | inl early ↦ more.freed r (f.freed k p r early at on)
        | inr last ↦ subst (Has x.view.freed) (same v.view.order v.own.passed i k here.0 p made.0 r last here.1 at made.1 on) one.freed
      ];
      clear = λ k p r lt at on. elim (upto k i (omega (arith, lt))) [
        | inl early ↦ has_prefix w.view.clear x.view.clear r more.clear (f.clear k p r early at on)
        | inr last ↦ subst (Has x.view.clear) (same v.view.order v.own.passed i k here.0 p made.0 r last here.1 at made.1 on) one.clear
      ];
      own_clear = one.own_clear;
    }
  where
    upto : (k i : ℕ) → k ≤ i → (k < i) ⊎ (k ≡ i)
    upto zero zero h = inr refl
    upto zero (suc i) h = inl (omega arith)
    upto (suc k) zero h = absurd (omega (arith, h))
    upto (suc k) (suc i) h = elim (upto k i (omega (arith, h))) [
      | inl lt ↦ inl (omega (arith, lt))
      | inr e ↦ inr (ap suc e)
    ]

    same : (order : List Request) (places : List ℕ) (i k q p : ℕ) (s r : Request) → k ≡ i → At places i q → At places k p → At order q s → At order p r → s ≡ r
    same order places i k q p s r e a b c d =
        let places_same : q ≡ p = same_some (sym a ∙ (ap (slice_get places) (sym e) ∙ b)) in
        same_some (sym c ∙ (ap (slice_get order) places_same ∙ d))

-- the node goes on until all are freed
pub frees_all : (v w : ArrayGhost) (i : ℕ) → FreesFirst v i w → length v.own.passed ≤ i → FreesAll v w
frees_all v w i f le = let none : drop i v.own.passed ≡ [] = history i v.own.passed le in record {
  point = f.point ∙ ap after_walk none;
  state = f.state;
  count = f.count;
  order = f.order;
  ends = f.ends;
  marked = f.marked;
  freed = λ k p r at on. f.freed k p r (omega (arith, le, slice_get_within v.own.passed k p at)) at on;
  clear = λ k p r at on. f.clear k p r (omega (arith, le, slice_get_within v.own.passed k p at)) at on;
  own_clear = f.own_clear none;
}
  where
    history : (i : ℕ) (xs : List ℕ) → length xs ≤ i → drop i xs ≡ []
    history zero [] h = refl
    history zero (x ∷ xs) h = absurd (omega (arith, h))
    history (suc i) [] h = refl
    history (suc i) (x ∷ xs) h = history i xs (omega (arith, h))

-- what the freeing of the nodes of all passed requests has done so far, from the seat s on
pub record IsFreeing (allows : List ℕ → List ℕ → Type 0) (s : ArraySeat) (i : ℕ) (t : ArraySeat) : Type 0 where
  pub seat : IsSameSeat s t
  pub carried : t.me.1 ≡ s.me.1
  pub advances : Advances allows s.me t.me i
  pub within : i ≤ length (ghost_of s).own.passed
  pub frees : FreesFirst (ghost_of s) i (ghost_of t)

pub freeing_which : {allows : List ℕ → List ℕ → Type 0} (s t : ArraySeat) (nodes : List ℕ) (i : ℕ) → IsFreeing allows s i t → length nodes ≡ length (ghost_of s).own.passed → AreNodesAt (ghost_of s).view (ghost_of s).own.passed nodes → i < length nodes
    → ((ghost_of t).own.point ≡ Freeing) × IsWithin (ghost_of s).view.config.nodes (get_or nodes i 0) × ((q : ℕ) × (ps : List ℕ) × (r : Request) × ((ghost_of t).own.passed ≡ q ∷ ps) × At (ghost_of t).view.order q r × (r.node ≡ get_or nodes i 0))
freeing_which s t nodes i f many are lt = frees_which (ghost_of s) (ghost_of t) nodes i (get_or nodes i 0) f.frees many are (slice_get-get_or nodes i 0 lt)

pub freeing_next : (allows : List ℕ → List ℕ → Type 0) (s t u : ArraySeat) (nodes : List ℕ) (i : ℕ) → IsFreeing allows s i t → length nodes ≡ length (ghost_of s).own.passed → AreNodesAt (ghost_of s).view (ghost_of s).own.passed nodes → i < length nodes
    → IsSameSeat t u → u.me.1 ≡ t.me.1 → Advances allows t.me u.me 1
    → ((q : ℕ) (ps : List ℕ) (r : Request) → (ghost_of t).own.passed ≡ q ∷ ps → At (ghost_of t).view.order q r → Frees (ghost_of t) ps r (ghost_of u)) → IsFreeing allows s (i + 1) u
freeing_next allows s t u nodes i f many are lt same slot advances frees = record {
  seat = (same.0 ∙ f.seat.0, same.1 ∙ f.seat.1);
  carried = slot ∙ f.carried;
  advances = goes_trans allows s.me t.me u.me i 1 f.advances advances;
  within = omega (arith, many, lt);
  frees = frees_next (ghost_of s) (ghost_of t) (ghost_of u) nodes i (get_or nodes i 0) f.frees many are (slice_get-get_or nodes i 0 lt) advances.extends frees;
}

pub freed_steps : (allows : List ℕ → List ℕ → Type 0) (s t : ArraySeat) (nodes : List ℕ) (i : ℕ) → IsFreeing allows s i t → length nodes ≡ length (ghost_of s).own.passed → length nodes ≤ i → Advances allows s.me t.me (length nodes)
freed_steps allows s t nodes i f many all = let is : i ≡ length nodes = omega (arith, many, f.within) in subst (Advances allows s.me t.me) is f.advances

-- a walk that began at v has passed the requests of these nodes
pub record Walked (v : ArrayGhost) (nodes : List ℕ) (w : ArrayGhost) : Type 0 where
  pub config : w.view.config ≡ v.view.config
  pub state : w.view.state ≡ v.view.state
  pub count : w.view.count ≡ v.view.count
  pub ends : w.view.ends ≡ v.view.ends ++ replicate (length nodes) Gone
  pub run : (i p : ℕ) → At w.own.passed i p → p ≡ length v.view.ends + i
  pub made : AreNodesAt w.view w.own.passed nodes
  pub node : w.view.node ≡ v.view.node
  pub others : AreOfOthers v.view.node w.view.order w.own.passed
  pub few : length w.own.passed + 1 ≤ v.view.config.nodes

-- the walk is at one more withdrawn request, that of this node
pub record StandsAt (nodes : List ℕ) (node : ℕ) (w : ArrayGhost) : Type 0 where
  pub point : w.own.point ≡ Passing
  pub many : length w.own.passed ≡ length nodes + 1
  pub request : Request
  pub at : At w.view.order (length w.view.ends) request
  pub is_by : request.node ≡ node
  pub high : request.node ≤ w.view.config.nodes

-- the line is home
pub record IsHome (nodes : List ℕ) (w : ArrayGhost) : Type 0 where
  pub point : w.own.point ≡ Freeing
  pub many : length w.own.passed ≡ length nodes
  pub some : w.own.passed ≢ []
  pub known : length w.view.ends ≤ length w.view.order
  pub unmarked : (r : Request) → turn_of w.view.order w.view.ends ≡ Some r → Lacks w.view.marked r

-- the freeing therefore begins
pub walk_begins : (v : ArrayGhost) → v.own.passed ≡ length v.view.ends ∷ [] → AreOfOthers v.view.node v.view.order v.own.passed → 2 ≤ v.view.config.nodes → Walked v [] v
walk_begins v passed others two = record {
  config = refl;
  state = refl;
  count = refl;
  ends = sym (append-nil v.view.ends);
  run = λ i p at. by (length v.view.ends) i p (subst (λ ps. At ps i p) passed at);
  made = record { each = λ k p n at none. absurd (let h : None ≡ Some n = none in cc h) };
  node = refl;
  others = others;
  few = omega (arith, ap length passed, two);
}
  where
    by : (f i p : ℕ) → At (f ∷ []) i p → p ≡ f + i
    by f zero p at = omega (arith, same_some at)
    by f (suc i) p at = absurd (let h : None ≡ Some p = at in cc h)

pub stands_first : (v : ArrayGhost) (found : ℕ) → v.own.point ≡ Passing → v.own.passed ≡ length v.view.ends ∷ [] → (r : Request) × At v.view.order (length v.view.ends) r × (r.node ≡ found) × (r.node ≤ v.view.config.nodes) → StandsAt [] found v
stands_first v found passing passed first = record { point = passing; many = omega (arith, ap length passed); request = first.0; at = first.1; is_by = first.2; high = first.3 }

-- a node that has passed a request ends a withdrawn request next
ends_gone : (ps : List ℕ) (closed : Bool) (y : Payload) (k : ℕ) → length ps ≡ k + 1 → end_of ps closed y ≡ Gone
ends_gone [] closed y k e = absurd (omega (arith, e))
ends_gone (p ∷ ps) closed y k e = refl

pub carries_gone : (allows : List ℕ → List ℕ → Type 0) (v w : ArrayGhost) (nodes : List ℕ) (found : ℕ) (y : Payload) → Walked v nodes w → StandsAt nodes found w → MatchesEnds v y → IsNextPayload allows w y
carries_gone allows v w nodes found y k s b =
    let gone : next_end w y ≡ Gone = ends_gone w.own.passed (is_closed w.view.ends) y (length nodes) s.many in
    let bytes : bytes_after w.view.config.opening.bytes w.view.ends ≡ y.bytes.bytes = (λ i. bytes_after (k.config i).opening.bytes (k.ends i)) ∙ (bytes_after-append v.view.config.opening.bytes v.view.ends (replicate (length nodes) Gone) ∙ (bytes_after-passed (bytes_after v.view.config.opening.bytes v.view.ends) (length nodes) ∙ b.bytes)) in
    let left : turns_left w.view.config.lease w.view.ends ≡ y.turns_left = (λ i. turns_left (k.config i).lease (k.ends i)) ∙ (turns_left-same v.view.config.lease v.view.ends (replicate (length nodes) Gone) (served-gone (length nodes)) ∙ b.turns) in
    let closed : is_closed w.view.ends ≡ y.closed = ap is_closed k.ends ∙ (is_closed-append v.view.ends (replicate (length nodes) Gone) ∙ (ap (λ c. is_closed v.view.ends || c) (is_closed-passed (length nodes)) ∙ (or-false (is_closed v.view.ends) ∙ b.closed))) in
    record {
      bytes = ap (λ e. bytes_after w.view.config.opening.bytes (w.view.ends ++ e ∷ [])) gone ∙ (bytes_after-append w.view.config.opening.bytes w.view.ends (Gone ∷ []) ∙ bytes);
      closed = ap (λ e. is_closed (w.view.ends ++ e ∷ [])) gone ∙ (is_closed-append w.view.ends (Gone ∷ []) ∙ (or-false (is_closed w.view.ends) ∙ closed));
      turns = ap (λ e. turns_left w.view.config.lease (w.view.ends ++ e ∷ [])) gone ∙ (turns_left-same w.view.config.lease w.view.ends (Gone ∷ []) refl ∙ left);
      may_end = subst (MayEnd (is_closed w.view.ends) (is_last_turn w.view.config.lease w.view.ends)) (sym gone) tt;
      allowed = subst (λ e. AreAllowed allows (bytes_of w.view) (e ∷ [])) (sym gone) tt;
    }
  where
    served-gone : (n : ℕ) → served (replicate n Gone) ≡ 0
    served-gone zero = refl
    served-gone (suc n) = served-gone n

    is_closed-passed : (n : ℕ) → is_closed (replicate n Gone) ≡ false
    is_closed-passed zero = refl
    is_closed-passed (suc n) = is_closed-passed n

-- what a grant that passes one or goes home does to the places
record Grows (w x : ArrayGhost) (first : ℕ) : Type 0 where
  run : (i p : ℕ) → At x.own.passed i p → p ≡ first + i
  front : (i p : ℕ) → i < length w.own.passed → At x.own.passed i p → At w.own.passed i p
  others : AreOfOthers w.view.node x.view.order x.own.passed
  few : length x.own.passed + 1 ≤ w.view.config.nodes

grows : (v w x : ArrayGhost) (nodes : List ℕ) (found next by_node : ℕ) (y : Payload) → Walked v nodes w → StandsAt nodes found w → length w.view.ends ≡ length v.view.ends + length nodes → length x.view.ends ≡ length v.view.ends + (length nodes + 1) → Extends w.view x.view
    → (next ≡ 0 → IsHandedOver w x) → (next ≢ 0 → Passes w by_node x) → Grows w x (length v.view.ends)
grows v w x nodes found zero by_node y k s before many more home passes = let h = home refl in record {
  run = λ i p at. k.run i p (subst (λ ps. At ps i p) h.passed at);
  front = λ i p lt at. subst (λ ps. At ps i p) h.passed at;
  others = subst (AreOfOthers w.view.node x.view.order) (sym h.passed) (others_longer w.view.node w.view.order x.view.order w.own.passed more.order
      (λ i p at. omega (arith, k.run i p at, slice_get_within w.own.passed i p at, s.many, before, slice_get_within w.view.order (length w.view.ends) s.request s.at))
      (subst (λ n. AreOfOthers n w.view.order w.own.passed) (sym k.node) k.others));
  few = omega (arith, ap length h.passed, k.few, ap (λ (t : LineConfig). t.nodes) k.config);
}
grows v w x nodes found (suc next) by_node y k s before many more home passes = let h = passes (λ e. let f : suc next ≡ 0 = e in omega (arith, f)) in record {
  run = λ i p at. elim (push_cases w.own.passed (length x.view.ends) i p (subst (λ ps. At ps i p) h.passed at)) [
    | inl old ↦ k.run i p old.1
    | inr last ↦ omega (arith, last.0, last.1, s.many, many)
  ];
  front = λ i p lt at. elim (push_cases w.own.passed (length x.view.ends) i p (subst (λ ps. At ps i p) h.passed at)) [
    | inl old ↦ old.1
    | inr last ↦ absurd (omega (arith, last.0, lt))
  ];
  others = subst (λ n. AreOfOthers n x.view.order x.own.passed) more.node h.others;
  few = omega (arith, h.few, ap (λ (t : LineConfig). t.nodes) more.config);
}

replicate-push : (n : ℕ) (e : End) → replicate n e ++ e ∷ [] ≡ replicate (suc n) e
replicate-push zero e = refl
replicate-push (suc n) e = ap (λ es. e ∷ es) (replicate-push n e)

-- a grant ends one more withdrawn request
pub walked_on : (v w x : ArrayGhost) (nodes : List ℕ) (found next by_node : ℕ) (y : Payload) → v.view.config.nodes ≤ MAX_NODES → Walked v nodes w → StandsAt nodes found w → Ended w x y → Extends w.view x.view → x.view.state ≡ w.view.state
    → (next ≡ 0 → IsHandedOver w x) → (next ≢ 0 → Passes w by_node x) → Walked v (nodes ++ found ∷ []) x
walked_on v w x nodes found next by_node y low k s e more stays home passes =
    let gone : next_end w y ≡ Gone = ends_gone w.own.passed (is_closed w.view.ends) y (length nodes) s.many in
    let pushed : length (nodes ++ found ∷ []) ≡ suc (length nodes) = omega (arith, length-append nodes (found ∷ [])) in
    let ends : x.view.ends ≡ v.view.ends ++ replicate (length (nodes ++ found ∷ [])) Gone =
    e.ends ∙ ((λ i. k.ends i ++ gone i ∷ []) ∙ (append_assoc v.view.ends (replicate (length nodes) Gone) (Gone ∷ []) ∙ (ap (λ es. v.view.ends ++ es) (replicate-push (length nodes) Gone) ∙ ap (λ n. v.view.ends ++ replicate n Gone) (sym pushed)))) in
    let before : length w.view.ends ≡ length v.view.ends + length nodes = ap length k.ends ∙ omega (arith, length-append v.view.ends (replicate (length nodes) Gone), length-replicate (length nodes) Gone) in
    let many : length x.view.ends ≡ length v.view.ends + (length nodes + 1) = ap length ends ∙ omega (arith, pushed, length-append v.view.ends (replicate (length (nodes ++ found ∷ [])) Gone), length-replicate (length (nodes ++ found ∷ [])) Gone) in
    let g = grows v w x nodes found next by_node y k s before many more home passes in
    let size : x.view.config.nodes ≡ w.view.config.nodes = ap (λ (t : LineConfig). t.nodes) more.config in
    record {
      config = more.config ∙ k.config;
      state = stays ∙ k.state;
      count = e.count ∙ k.count;
      ends = ends;
      run = g.run;
      made = record {
        each = λ j p n at is. elim (push_cases nodes found j n is) [
          | inl old ↦ let one = k.made.each j p n (g.front j p (omega (arith, old.0, s.many)) at) old.1 in (one.0, prefix_get w.view.order x.view.order p one.0 more.order one.1, one.2, (one.3.0, omega (arith, one.3.1, size)))
          | inr last ↦
              let place : length w.view.ends ≡ p = omega (arith, before, g.run j p at, last.0) in
              (s.request, prefix_get w.view.order x.view.order p s.request more.order (subst (λ q. At w.view.order q s.request) place s.at), s.is_by ∙ sym last.1, (omega (arith, last.1, s.is_by, s.high, ap (λ (t : LineConfig). t.nodes) k.config, low), omega (arith, last.1, s.is_by, s.high, size)))
        ];
      };
      node = more.node ∙ k.node;
      others = subst (λ n. AreOfOthers n x.view.order x.own.passed) k.node g.others;
      few = omega (arith, g.few, ap (λ (t : LineConfig). t.nodes) k.config);
    }

pub stands_next : (w x : ArrayGhost) (nodes : List ℕ) (found next : ℕ) → StandsAt nodes found w → Passes w next x → StandsAt (nodes ++ found ∷ []) next x
stands_next w x nodes found next s p = record {
  point = p.point;
  many = omega (arith, ap length p.passed, length-append w.own.passed (length x.view.ends ∷ []), length-append nodes (found ∷ []), s.many);
  request = p.request;
  at = p.at;
  is_by = p.is_by;
  high = p.high;
}

pub is_home : (w x : ArrayGhost) (nodes : List ℕ) (found : ℕ) (y : Payload) → StandsAt nodes found w → Ended w x y → IsHandedOver w x → IsHome (nodes ++ found ∷ []) x
is_home w x nodes found y s e h = record {
  point = h.point ∙ by w.own.passed (length nodes) s.many;
  many = omega (arith, ap length h.passed, length-append nodes (found ∷ []), s.many);
  some = λ none. absurd (omega (arith, s.many, ap length (sym h.passed ∙ none)));
  known = e.known;
  unmarked = h.unmarked;
}
  where
    by : (ps : List ℕ) (k : ℕ) → length ps ≡ k + 1 → after_walk ps ≡ Freeing
    by [] k e = absurd (omega (arith, e))
    by (p ∷ ps) k e = refl

-- when the line is home and the passed requests are freed, the walk is over
pub walk_over : (v w x : ArrayGhost) (nodes : List ℕ) → Walked v nodes w → IsHome nodes w → FreesAll w x → FinishesWalk v x
walk_over v w x nodes k h f =
    let last = nonempty w.own.passed h.some in
    let many : length nodes ≡ suc last.0 = sym h.many ∙ last.1 in
    let ends : x.view.ends ≡ v.view.ends ++ replicate (suc last.0) Gone = f.ends ∙ (k.ends ∙ ap (λ n. v.view.ends ++ replicate n Gone) many) in
    let long : length x.view.ends ≡ length v.view.ends + length w.own.passed = ap length ends ∙ omega (arith, last.1, length-append v.view.ends (replicate (suc last.0) Gone), length-replicate (suc last.0) Gone) in
    let others : AreOfOthers v.view.node x.view.order w.own.passed = subst (λ o. AreOfOthers v.view.node o w.own.passed) (sym f.order) k.others in
    record {
      point = f.point;
      state = f.state ∙ k.state;
      count = f.count ∙ k.count;
      passed = last.0;
      ends = ends;
      others = others_within v.view.node (length v.view.ends) (length x.view.ends) x.view.order w.own.passed k.run long others;
      once = once_walked v.view.node (length v.view.ends) (length x.view.ends) x.view.order w.own.passed k.run long others;
      releases = record {
        known = omega (arith, h.known, ap length f.order, ap length f.ends);
        unmarked = λ r is. subst (λ ms. Lacks ms r) (sym f.marked) (h.unmarked r (sym (λ i. turn_of (f.order i) (f.ends i)) ∙ is));
        freed = λ p r low high at. let one = passed_at v w nodes p k low (omega (arith, high, long)) in f.freed one.0 p r one.1 (subst (λ o. At o p r) f.order at);
        cleared = λ p r low high at. let one = passed_at v w nodes p k low (omega (arith, high, long)) in inl (f.clear one.0 p r one.1 (subst (λ o. At o p r) f.order at));
        state = inr (f.state ∙ k.state, f.own_clear);
      };
    }
  where
    nonempty : (xs : List ℕ) → xs ≢ [] → (n : ℕ) × (length xs ≡ suc n)
    nonempty [] h = absurd (h refl)
    nonempty (x ∷ xs) h = (length xs, omega arith)

    passed_at : (v w : ArrayGhost) (nodes : List ℕ) (p : ℕ) → Walked v nodes w → length v.view.ends ≤ p → p < length v.view.ends + length w.own.passed → (i : ℕ) × At w.own.passed i p
    passed_at v w nodes p k low high =
        let i = p - length v.view.ends in
        let one = element_at w.own.passed i (omega (arith, low, high)) in
        (i, subst (At w.own.passed i) (k.run i one.0 one.1 ∙ omega (arith, low)) one.1)

-- a node that has passed a request has the line as if it had been granted for that request's turn
abbrev pub Carried : SlotLayout → ArraySeat → ArraySeat → Type 0
Carried slot_layout s t = (y : Payload) → slot_layout.slots_at_grant (length (ghost_of s).view.ends) y s.me.1 → slot_layout.slots_at_grant (length (ghost_of t).view.ends) y t.me.1

-- What a walk that began at the seat s has done so far, in `steps` atomic steps. Its last grant found a word that is 0
-- if the line went home, and otherwise says that this node withdrew.
pub record IsWalking (slot_layout : SlotLayout) (allows : List ℕ → List ℕ → Type 0) (s : ArraySeat) (nodes : List ℕ) (steps found node : ℕ) (t : ArraySeat) : Type 0 where
  pub seat : IsSameSeat s t
  pub advances : Advances allows s.me t.me steps
  pub walked : Walked (ghost_of s) nodes (ghost_of t)
  pub stands : found ≢ 0 → Carried slot_layout s t × StandsAt nodes node (ghost_of t)
  pub home : found ≡ 0 → HasNoSlot t × IsHome nodes (ghost_of t)

-- what the walk carries to the next grant
pub walk_carries : (slot_layout : SlotLayout) (allows : List ℕ → List ℕ → Type 0) (s t : ArraySeat) (nodes : List ℕ) (steps found node : ℕ) (y : Payload) → IsWalking slot_layout allows s nodes steps found node t → found ≢ 0 → slot_layout.slots_at_grant (length (ghost_of s).view.ends) y s.me.1 → MatchesEnds (ghost_of s) y
    → slot_layout.slots_at_grant (length (ghost_of t).view.ends) y t.me.1 × IsNextPayload allows (ghost_of t) y
walk_carries slot_layout allows s t nodes steps found node y k more slot bare =
    let here = k.stands more in (here.0 y slot, carries_gone allows (ghost_of s) (ghost_of t) nodes node y k.walked here.1 bare)

-- the turn moves on by a grant
pub ended_longer : (v w : ArrayGhost) (y : Payload) → Ended v w y → length w.view.ends ≡ length v.view.ends + 1
ended_longer v w y e = omega (arith, ap length e.ends, length-append v.view.ends (next_end v y ∷ []))

-- what the walk has done after that grant
pub walk_step : (slot_layout : SlotLayout) (allows : List ℕ → List ℕ → Type 0) (s t u : ArraySeat) (nodes : List ℕ) (steps more all found node next by_node : ℕ) (y : Payload) → IsWalking slot_layout allows s nodes steps found node t → found ≢ 0 → (ghost_of s).view.config.nodes ≤ MAX_NODES
    → (ghost_of s).view.state ≡ state_after y.closed → IsSameSeat t u → Advances allows t.me u.me more → Ended (ghost_of t) (ghost_of u) y
    → (next ≡ 0 → HasNoSlot u × IsHandedOver (ghost_of t) (ghost_of u)) → (next ≢ 0 → Carried slot_layout t u × Passes (ghost_of t) by_node (ghost_of u)) → steps + more ≡ all
    → IsWalking slot_layout allows s (nodes ++ node ∷ []) all next by_node u
walk_step slot_layout allows s t u nodes steps more all found node next by_node y k some low state same advances ended home passes sum =
    let here = k.stands some in
    record {
      seat = (same.0 ∙ k.seat.0, same.1 ∙ k.seat.1);
      advances = subst (Advances allows s.me u.me) sum (goes_trans allows s.me t.me u.me steps more k.advances advances);
      walked = walked_on (ghost_of s) (ghost_of t) (ghost_of u) nodes node next by_node y low k.walked here.1 ended advances.extends (ended.state ∙ (sym state ∙ sym k.walked.state)) (λ z. (home z).1) (λ z. (passes z).1);
      stands = λ z. ((λ x slot. (passes z).0 x (here.0 x slot)), stands_next (ghost_of t) (ghost_of u) nodes node by_node here.1 (passes z).1);
      home = λ z. ((home z).0, is_home (ghost_of t) (ghost_of u) nodes node y here.1 ended (home z).1);
    }

-- all steps of the walk, including one for each node that it freed
pub walked_steps : (slot_layout : SlotLayout) (allows : List ℕ → List ℕ → Type 0) (s t u : ArraySeat) (nodes : List ℕ) (steps found node freed all : ℕ) → IsWalking slot_layout allows s nodes steps found node t → Advances allows t.me u.me freed → freed ≡ length nodes → steps + length nodes ≡ all → Advances allows s.me u.me all
walked_steps slot_layout allows s t u nodes steps found node freed all k advances each sum = let whole : steps + freed ≡ all = omega arith in subst (Advances allows s.me u.me) whole (goes_trans allows s.me t.me u.me steps freed k.advances advances)
