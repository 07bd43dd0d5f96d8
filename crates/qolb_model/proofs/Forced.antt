-- Proof about a line whose ports all exchange their knowledge after each call. Each call gives the answer that a single
-- owner of the line would get, and the ports then know the history that the owner would know.
use Rattle.std.proofs.Common.{◌≡◌, ◌≢◌, ℕ, ◌+◌, ◌≤◌, inl, inr, Bool, true, false, ◌&&◌, if◌then◌else◌, List, [], ◌∷◌, ◌++◌, length, map, set, replicate, option_map, Some, slice_get, refl, ap, sym, ◌∙◌, subst, arith, append_assoc, length-append}
use Rattle.std.specs.Option.{option_map_or}
use Rattle.std.proofs.lemmas.Bool.{cases_lt, cases_eq}
use Rattle.std.proofs.lemmas.List.{length-map}
use Rattle.std.proofs.lemmas.Option.{slice_get_within, slice_get-map}
use mathlib.Core.List.{IsPrefix}
use Rattle.qolb_model.specs.declared.answer.Enq.{Enq}
use Rattle.qolb_model.specs.declared.answer.Enq.TheVariants as enq
use Rattle.qolb_model.specs.declared.answer.Poll.{Poll}
use Rattle.qolb_model.specs.declared.answer.Poll.TheVariants as poll
use Rattle.qolb_model.specs.declared.answer.Out.{Out}
use Rattle.qolb_model.specs.declared.answer.Out.TheVariants as out
use Rattle.qolb_model.specs.declared.answer.PortState.TheVariants as port
use Rattle.qolb_model.specs.declared.request.Request.{Request}
use Rattle.qolb_model.specs.declared.write.Write.{Write}
use Rattle.qolb_model.specs.declared.end.End.{End}
use Rattle.qolb_model.specs.declared.end.End.TheVariants.{Served, Gone, Told}
use Rattle.qolb_model.specs.declared.config.LineConfig.{LineConfig}
use Rattle.qolb_model.specs.declared.view.View.{View}
use Rattle.qolb_model.specs.Requests.{is_same, Has, has, count_of, last_of, next_of}
use Rattle.qolb_model.specs.Ends.{is_closed}
use Rattle.qolb_model.specs.Histories.{ended_of, open_of}
use Rattle.qolb_model.specs.Views.{own, Extends}
use Rattle.qolb_model.specs.OneHistory.{Knows, OneHistory}
use Rattle.qolb_model.specs.Enqueueing.{IsBusy, Asks, IsJoined}
use Rattle.qolb_model.specs.AtTurn.{IsGranted, IsQueued, IsWithdrawn}
use Rattle.qolb_model.specs.Releasing.{EndsTurn, AfterRelease, IsTold}
use Rattle.qolb_model.specs.Opening.{MayOpen, new_view, AreNew}
use Rattle.qolb_model.specs.OneOwner.{OwnerState, opened, shown, is_first, is_open, is_rolled, state_of, poll_answer, after_poll, as_enq, after_ask, enq_answer, after_enq, as_out, out_answer, after_out, mark_last, after_moves, after_grant, after_release, turn_after, after_write}
use Rattle.qolb_model.specs.Plain.{IsReached}
use Rattle.qolb_model.specs.PortStates.{may_ask, state_after}
use Rattle.qolb_model.specs.Leases.{closes}
use Rattle.qolb_model.specs.Whole.{ViewAndTurn, KnowsWhole, AreSynced, seen}
use Rattle.qolb_model.specs.Rounds.{MeetsOthers}
use Rattle.qolb_model.proofs.Lists.{element_at, same_some, push_cases, slice_get-push, slice_get-middle}
use Rattle.qolb_model.proofs.Requests.{same_request, is_same-self, has_prefix, has_push, count_of-push_same, count_of-push_le}
use Rattle.qolb_model.proofs.Histories.{same_place_legal}
use Rattle.qolb_model.proofs.Prefixes.{prefix_whole, prefix_get, prefix_append}
use Rattle.qolb_model.proofs.Agreeing.{among_first}
use Rattle.qolb_model.proofs.Steps.{agrees_opened}
use Rattle.qolb_model.proofs.Bounds.{Bounds, count_at, count_of-prefix, count_of-behind, prefix_get_back, open_at, ended_at, place_open, place_ended}
use Rattle.qolb_model.proofs.Follows.{Follows, rolled_behind, waits_whole, granted_whole, withdrawn_whole, busy_whole}
use Rattle.qolb_model.proofs.Passing.{goes_whole, told_whole}
use Rattle.qolb_model.proofs.Agreed.{first_turn}
use Rattle.qolb_model.proofs.Leaving.{Leaves, leaves_so, leaves_through, leaves_ask, leaves_grant, leaves_mark, leaves_end, leaves_write}
use Rattle.qolb_model.proofs.Reached.{queued_is, holding_is, reached_write, reached_poll, reached_release, reached_mark, reached_asked}
use Rattle.qolb_model.proofs.Whole.{Called, called, tells, spreads}

-- what is known of the other ports also bounds the view after a request
bounds_ask : (s : OwnerState) (n m : ℕ) (a : View) → m ≢ n → Bounds s a m → Bounds (after_ask s n) a m
bounds_ask s n m a ne b = record {
  counts = let k = b.counts in let more = count_of-push_le m s.queue.order (next_of n s.queue.order) in omega arith;
  passed = b.passed;
  stuck = λ r turn e. elim (push_cases s.queue.order (next_of n s.queue.order) (length s.queue.ends) r turn) [
    | inl old ↦ (let h = b.stuck r old.1 e in (
      h.0,
      λ x clear.
          let (p, lt, at) = place_ended s.queue.order s.queue.ends x (h.1 x clear) in
          ended_at (s.queue.order ++ next_of n s.queue.order ∷ []) s.queue.ends p x lt (prefix_get s.queue.order (s.queue.order ++ next_of n s.queue.order ∷ []) p x (prefix_append s.queue.order (next_of n s.queue.order ∷ [])) at),
    ))
    | inr new ↦ absurd (ne (sym e ∙ ap (λ x. x.node) new.1))
  ];
  marks = λ r stands e marked. b.marks r ((leaves_ask n s).opens r stands (λ same. ne (sym e ∙ same))) e marked;
}

left_quiet : (closed : Bool) → seen (state_after closed) ≡ port.Idle
left_quiet true = refl
left_quiet false = refl

-- a port's call, and the round of meets after it
module _ (allows : List ℕ → List ℕ → Type 0) (s : OwnerState) (ports : List ViewAndTurn) (whole : AreSynced s ports) (place : ℕ) (u a : ViewAndTurn) (at : slice_get ports place ≡ Some u)
    (extends : Extends u.view a.view) (alone : OneHistory (a.view ∷ [])) (new : List ViewAndTurn) (round : MeetsOthers allows place (set ports place a) new) where
  abbrev pub n : ℕ
  n = place + 1

  reached : IsReached s
  reached = whole.reached

  knew : KnowsWhole s u
  knew = whole.knows place u at

  u_node : u.view.node ≡ place + 1
  u_node = whole.node place u at

  pub a_node : a.view.node ≡ place + 1
  a_node = extends.node ∙ u_node

  low : 1 ≤ place + 1
  low = omega arith

  high : place + 1 ≤ s.config.nodes
  high = let many = whole.count in let lt = slice_get_within ports place u at in omega arith

  order_begins : IsPrefix s.queue.order a.view.order
  order_begins = subst (λ xs. IsPrefix xs a.view.order) knew.order extends.order

  ends_begin : IsPrefix s.queue.ends a.view.ends
  ends_begin = subst (λ xs. IsPrefix xs a.view.ends) knew.ends extends.ends

  call : Called s place a (set ports place a)
  call = called s ports whole place u a at extends.node

  told : (k : ℕ) → 1 ≤ k → k ≤ s.config.nodes → k ≢ place + 1 → Bounds s a.view k
  told = tells allows s place a (set ports place a) new call round reached order_begins ends_begin

  known : Knows alone.config alone.order alone.ends alone.clear a.view
  known = alone.known a.view (among_first a.view [])

  config_then : a.view.config ≡ s.config
  config_then = extends.config ∙ knew.config

  count_was : u.view.count ≡ count_of (place + 1) s.queue.order
  count_was = knew.count ∙ ap (λ m. count_of m s.queue.order) u_node

  -- a new request is the port's own
  new_mine : (p : ℕ) (r : Request) → length s.queue.order ≤ p → slice_get a.view.order p ≡ Some r → r.node ≡ place + 1
  new_mine p r le there = elim (cases_eq r.node (place + 1)) [
    | inl e ↦ e
    | inr ne ↦ absurd (
        let of = known.of_line p r (prefix_get a.view.order alone.order p r known.order_begins there) in
        let lines : alone.config ≡ s.config = sym known.config_is ∙ config_then in
        let k = (told r.node of.0 (subst (λ (k : LineConfig). r.node ≤ k.nodes) lines of.1) ne).counts in
        let more = count_of-behind s.queue.order a.view.order p r order_begins le there in omega arith)
  ]

  few : count_of (place + 1) a.view.order ≤ a.view.count
  few =
      let k = count_of-prefix (place + 1) a.view.order alone.order known.order_begins in
      let e : count_of (place + 1) alone.order ≡ a.view.count = ap (λ m. count_of m alone.order) (sym a_node) ∙ known.own_count in omega arith

  -- if the port made no request, it knows the same order
  same_order : a.view.count ≡ u.view.count → a.view.order ≡ s.queue.order
  same_order same = sym (prefix_whole s.queue.order a.view.order order_begins (elim (cases_lt (length s.queue.order) (length a.view.order)) [
    | inr le ↦ le
    | inl lt ↦ absurd (
        let (r, there) = element_at a.view.order (length s.queue.order) lt in
        let mine = new_mine (length s.queue.order) r (omega arith) there in
        let more = subst (λ m. count_of m s.queue.order + 1 ≤ count_of m a.view.order) mine (count_of-behind s.queue.order a.view.order (length s.queue.order) r order_begins (omega arith) there) in
        let k = few in let c = count_was in omega arith)
  ]))

  clear_then : (r : Request) → Has (ended_of s.queue.order s.queue.ends) r → Has a.view.clear r
  clear_then r h = has_prefix u.view.clear a.view.clear r extends.clear (knew.clear r h)

  pub follows : a.view.count ≡ u.view.count → Follows s (place + 1) a.view
  follows same = record {
    node = a_node;
    config = config_then;
    order = same_order same;
    ends = ends_begin;
    clear = clear_then;
    joined = λ r h. extends.joined r (knew.joined r h);
    marked = λ r stands h. extends.marked r (knew.marked r stands ∙ h);
    count = same ∙ count_was;
    others = told;
  }

  -- if the port made a request, it knows that request behind all others
  module _ (asks : Asks u.view a.view) where
    count_then : a.view.count ≡ count_of (place + 1) s.queue.order + 1
    count_then = let c = count_was in let k = asks.count in omega arith

    own_is : own a.view ≡ next_of (place + 1) s.queue.order
    own_is = same_request a.view.node (place + 1) a.view.count (count_of (place + 1) s.queue.order + 1) a_node count_then

    one_more : a.view.order ≡ s.queue.order ++ next_of (place + 1) s.queue.order ∷ []
    one_more = by order_begins.0 order_begins.1
      where
        by : (xs : List Request) → s.queue.order ++ xs ≡ a.view.order → a.view.order ≡ s.queue.order ++ next_of (place + 1) s.queue.order ∷ []
        by [] e = absurd (
            let lt = slice_get_within a.view.order asks.behind.0 (own a.view) asks.behind.2 in
            let le = subst (λ xs. length xs ≤ asks.behind.0) knew.order asks.behind.1 in
            let l : length a.view.order ≡ length s.queue.order = ap length (sym e) ∙ (length-append s.queue.order [] ∙ omega arith) in omega arith)
        by (x ∷ []) e =
            let lt = slice_get_within a.view.order asks.behind.0 (own a.view) asks.behind.2 in
            let le = subst (λ xs. length xs ≤ asks.behind.0) knew.order asks.behind.1 in
            let l : length a.view.order ≡ length s.queue.order + 1 = ap length (sym e) ∙ length-append s.queue.order (x ∷ []) in
            let here : asks.behind.0 ≡ length s.queue.order = omega arith in
            let is : Some x ≡ Some (own a.view) = sym (slice_get-push s.queue.order x) ∙ (ap (λ xs. slice_get xs (length s.queue.order)) e ∙ (ap (slice_get a.view.order) (sym here) ∙ asks.behind.2)) in
            sym e ∙ ap (λ r. s.queue.order ++ r ∷ []) (same_some is ∙ own_is)
        by (x ∷ y ∷ zs) e = absurd (
            let whole_ : (s.queue.order ++ x ∷ []) ++ y ∷ zs ≡ a.view.order = append_assoc s.queue.order (x ∷ []) (y ∷ zs) ∙ e in
            let at_x : slice_get a.view.order (length s.queue.order) ≡ Some x = ap (λ xs. slice_get xs (length s.queue.order)) (sym e) ∙ slice_get-middle s.queue.order x (y ∷ zs) in
            let long : length (s.queue.order ++ x ∷ []) ≡ length s.queue.order + 1 = length-append s.queue.order (x ∷ []) in
            let at_y : slice_get a.view.order (length (s.queue.order ++ x ∷ [])) ≡ Some y = ap (λ xs. slice_get xs (length (s.queue.order ++ x ∷ []))) (sym whole_) ∙ slice_get-middle (s.queue.order ++ x ∷ []) y zs in
            let x_mine = new_mine (length s.queue.order) x (omega arith) at_x in
            let y_mine = new_mine (length (s.queue.order ++ x ∷ [])) y (omega arith) at_y in
            let one : count_of (place + 1) (s.queue.order ++ x ∷ []) ≡ count_of (place + 1) s.queue.order + 1 = count_of-push_same (place + 1) s.queue.order x x_mine in
            let two = subst (λ m. count_of m (s.queue.order ++ x ∷ []) + 1 ≤ count_of m a.view.order) y_mine (count_of-behind (s.queue.order ++ x ∷ []) a.view.order (length (s.queue.order ++ x ∷ [])) y (y ∷ zs, whole_) (omega arith) at_y) in
            let k = few in let c = count_then in omega arith)

    pub follows_ask : IsJoined a.view → Follows (after_ask s (place + 1)) (place + 1) a.view
    follows_ask joined = record {
      node = a_node;
      config = config_then;
      order = one_more;
      ends = ends_begin;
      clear = λ r h.
          let (p, lt, there) = place_ended (s.queue.order ++ next_of (place + 1) s.queue.order ∷ []) s.queue.ends r h in
          let l = reached.legal.ended in
          clear_then r (ended_at s.queue.order s.queue.ends p r lt (prefix_get_back s.queue.order (s.queue.order ++ next_of (place + 1) s.queue.order ∷ []) p r (prefix_append s.queue.order (next_of (place + 1) s.queue.order ∷ [])) (omega arith) there));
      joined = λ r h. elim (has_push s.queue.order (next_of (place + 1) s.queue.order) r h) [
        | inl old ↦ extends.joined r (knew.joined r old)
        | inr is ↦ subst (λ x. Has a.view.joined x) (own_is ∙ sym is) joined
      ];
      marked = λ r stands h. elim (cases_eq r.node (place + 1)) [
        | inr ne ↦ (let was = (leaves_ask (place + 1) s).opens r stands ne in extends.marked r (knew.marked r was ∙ h))
        | inl e ↦ (
            let (p, le, there) = place_open (s.queue.order ++ next_of (place + 1) s.queue.order ∷ []) s.queue.ends r stands in
            elim (push_cases s.queue.order (next_of (place + 1) s.queue.order) p r there) [
              | inl old ↦ (let was = open_at s.queue.order s.queue.ends p r le old.1 in extends.marked r (knew.marked r was ∙ h))
              | inr is ↦ absurd (let k = subst (λ x. x.number ≤ count_of x.node s.queue.order) is.1 (reached.marks_known r h) in omega arith)
            ])
      ];
      count = count_then ∙ sym (count_of-push_same (place + 1) s.queue.order (next_of (place + 1) s.queue.order) refl);
      others = λ m one most ne. bounds_ask s (place + 1) m a.view ne (told m one most ne);
    }

    -- the port's last request had ended
    pub quiet : may_ask (state_of s (place + 1)) ≡ true → is_open s.queue (place + 1) ≡ false
    quiet may = by (is_open s.queue (place + 1)) refl
      where
        by : (b : Bool) → is_open s.queue (place + 1) ≡ b → b ≡ false
        by false e = refl
        by true e = absurd (
            let (marked, r, turn, ne) = rolled_behind s (place + 1) reached e may in
            let k = reached.nodes_known (length s.queue.ends) r turn in
            let (p, le, there) = place_open s.queue.order s.queue.ends (last_of (place + 1) s.queue.order) e in
            let one = count_at s.queue.order p (last_of (place + 1) s.queue.order) there in
            let c = count_was in
            let mine : own u.view ≡ last_of (place + 1) s.queue.order = same_request u.view.node (place + 1) u.view.count (count_of (place + 1) s.queue.order) u_node c in
            let clear = subst (λ x. Has a.view.clear x) mine (asks.was_clear (omega arith)) in
            let ended = ((told r.node k.0 k.1 ne).stuck r turn refl).1 (last_of (place + 1) s.queue.order) clear in
            let (q, lt, here) = place_ended s.queue.order s.queue.ends (last_of (place + 1) s.queue.order) ended in
            let same : p ≡ q = same_place_legal s.config.lease s.queue.order s.queue.ends reached.legal p q (last_of (place + 1) s.queue.order) there here in
            omega arith)

  -- a poll, if the state t is s, or s after the node's request
  look : (t : OwnerState) → IsReached t → Follows t (place + 1) a.view → is_open t.queue (place + 1) ≡ true → (is_first t.queue (place + 1) ≡ true → t.granted ≡ false) → Leaves (place + 1) s t
      → (p : Poll) → (p ≡ poll.Granted → IsGranted a.view a.turn) → (p ≡ poll.Waiting → IsQueued a.view) → (p ≡ poll.Closed → IsTold a.view)
      → (p ≡ poll_answer t (place + 1)) × AreSynced (after_poll p t) new
  look t reached_t f stands rest leaves poll.Granted granted queued closed =
      let h = granted_whole t (place + 1) a.view reached_t f a.turn (granted refl) in
      let is : poll.Granted ≡ poll_answer t (place + 1) = sym (λ i. if h.0 i then (if h.1 i then poll.Closed else poll.Granted) else poll.Waiting) in
      (is, spreads allows s place a (set ports place a) new call round (after_grant t) (leaves_through (place + 1) s t (after_grant t) leaves (leaves_grant (place + 1) t h.0)) (reached_poll t reached_t (place + 1) poll.Granted (sym is) rest) h.2)
  look t reached_t f stands rest leaves poll.Waiting granted queued closed =
      let h = waits_whole t (place + 1) a.view reached_t f a.turn (queued refl) in
      let is : poll.Waiting ≡ poll_answer t (place + 1) = sym (ap (λ b. if b then (if is_closed t.queue.ends then poll.Closed else poll.Granted) else poll.Waiting) h.0) in
      (is, spreads allows s place a (set ports place a) new call round t leaves reached_t h.1)
  look t reached_t f stands rest leaves poll.Closed granted queued closed =
      let h = told_whole t (place + 1) a.view reached_t f stands (closed refl) in
      let first : is_first t.queue (place + 1) ≡ true = ap (λ o. option_map_or (is_same (last_of (place + 1) t.queue.order)) o false) h.0 ∙ is_same-self (last_of (place + 1) t.queue.order) in
      let is : poll.Closed ≡ poll_answer t (place + 1) = sym (λ i. if first i then (if h.1 i then poll.Closed else poll.Granted) else poll.Waiting) in
      let after : OwnerState = after_poll poll.Closed t in
      (is, spreads allows s place a (set ports place a) new call round (after_poll poll.Closed t) (leaves_through (place + 1) s t (after_poll poll.Closed t) leaves (leaves_end (place + 1) t Told first)) (reached_poll t reached_t (place + 1) poll.Closed (sym is) rest) (h.2 a.turn))

  -- `poll`
  pub polled : state_of s (place + 1) ≡ port.Queued → a.view.count ≡ u.view.count
      → (p : Poll) → (p ≡ poll.Granted → IsGranted a.view a.turn) → (p ≡ poll.Waiting → IsQueued a.view) → (p ≡ poll.Closed → IsTold a.view)
      → (p ≡ poll_answer s (place + 1)) × AreSynced (after_poll p s) new
  polled waits same p granted queued closed =
      let h = queued_is s reached (place + 1) waits in
      look s reached (follows same) h.0 h.2 (leaves_so (place + 1) s) p granted queued closed

  -- a port that gives up at its turn only looks
  at_turn : (p : Poll) → (p ≡ poll.Waiting → ⊥) → (p ≡ poll_answer s (place + 1)) × AreSynced (after_poll p s) new → AreSynced (after_out s (place + 1)) new
  at_turn p ne h = by (is_first s.queue (place + 1)) refl
    where
      by : (b : Bool) → is_first s.queue (place + 1) ≡ b → AreSynced (if b then after_poll (poll_answer s (place + 1)) s else after_moves (mark_last s (place + 1)) s) new
      by true e = subst (λ x. AreSynced (after_poll x s) new) h.0 h.1
      by false e = absurd (ne (h.0 ∙ ap (λ b. if b then (if is_closed s.queue.ends then poll.Closed else poll.Granted) else poll.Waiting) e))

  -- `withdraw`
  pub withdrew : state_of s (place + 1) ≡ port.Queued → a.view.count ≡ u.view.count
      → (o : Out) → (o ≡ out.Granted → IsGranted a.view a.turn) → (o ≡ out.Withdrawn → IsWithdrawn a.view) → (o ≡ out.Closed → IsTold a.view)
      → (o ≡ out_answer s (place + 1)) × AreSynced (after_out s (place + 1)) new
  withdrew waits same out.Withdrawn granted withdrawn closed =
      let h = queued_is s reached (place + 1) waits in
      let w = withdrawn_whole s (place + 1) a.view reached (follows same) a.turn (withdrawn refl) in
      let is : out.Withdrawn ≡ out_answer s (place + 1) = sym (ap (λ b. as_out (if b then (if is_closed s.queue.ends then poll.Closed else poll.Granted) else poll.Waiting)) w.0) in (
        is,
        subst (λ b. AreSynced (if b then after_poll (poll_answer s (place + 1)) s else after_moves (mark_last s (place + 1)) s) new) (sym w.0)
            (spreads allows s place a (set ports place a) new call round (after_moves (mark_last s (place + 1)) s) (leaves_mark (place + 1) s) (reached_mark s reached (place + 1) h.0 h.1 w.0) w.1),
      )
  withdrew waits same out.Granted granted withdrawn closed =
      let h = polled waits same poll.Granted (λ e. granted refl) (λ e. absurd (let no : poll.Granted ≡ poll.Waiting = e in cc no)) (λ e. absurd (let no : poll.Granted ≡ poll.Closed = e in cc no)) in
      (ap as_out h.0, at_turn poll.Granted (λ e. cc e) h)
  withdrew waits same out.Closed granted withdrawn closed =
      let h = polled waits same poll.Closed (λ e. absurd (let no : poll.Closed ≡ poll.Granted = e in cc no)) (λ e. absurd (let no : poll.Closed ≡ poll.Waiting = e in cc no)) (λ e. closed refl) in
      (ap as_out h.0, at_turn poll.Closed (λ e. cc e) h)

  -- `enqolb`
  ask : may_ask (state_of s (place + 1)) ≡ true → Asks u.view a.view → IsJoined a.view
      → (p : Poll) → (p ≡ poll.Granted → IsGranted a.view a.turn) → (p ≡ poll.Waiting → IsQueued a.view) → (p ≡ poll.Closed → IsTold a.view)
      → (as_enq p ≡ enq_answer s (place + 1)) × AreSynced (after_enq s (place + 1)) new
  ask may asks joined p granted queued closed =
      let none = quiet asks may in
      let t : OwnerState = after_ask s (place + 1) in
      let r = reached_asked s reached (place + 1) low high none in
      let same_last : last_of (place + 1) (s.queue.order ++ next_of (place + 1) s.queue.order ∷ []) ≡ next_of (place + 1) s.queue.order =
      same_request (place + 1) (place + 1) _ _ refl (count_of-push_same (place + 1) s.queue.order (next_of (place + 1) s.queue.order) refl) in
      let stands : is_open (after_ask s (place + 1)).queue (place + 1) ≡ true =
      ap (has (open_of (s.queue.order ++ next_of (place + 1) s.queue.order ∷ []) s.queue.ends)) same_last
      ∙ open_at (s.queue.order ++ next_of (place + 1) s.queue.order ∷ []) s.queue.ends (length s.queue.order) (next_of (place + 1) s.queue.order) reached.legal.ended (slice_get-push s.queue.order (next_of (place + 1) s.queue.order)) in
      let h = look (after_ask s (place + 1)) r.0 (follows_ask asks joined) stands r.1 (leaves_ask (place + 1) s) p granted queued closed in
      let rolled : is_rolled s.queue (place + 1) ≡ false = ap (λ b. b && has s.queue.marked (last_of (place + 1) s.queue.order)) none in (
        ap as_enq h.0 ∙ sym (ap (λ b. if b then enq.Busy else as_enq (poll_answer (after_ask s (place + 1)) (place + 1))) rolled),
        subst (λ b. AreSynced (if b then s else after_poll (poll_answer (after_ask s (place + 1)) (place + 1)) (after_ask s (place + 1))) new) (sym rolled)
            (subst (λ x. AreSynced (after_poll x (after_ask s (place + 1))) new) h.0 h.1),
      )

  pub asked : may_ask u.view.state ≡ true → may_ask (state_of s (place + 1)) ≡ true
      → (e : Enq) → (e ≡ enq.Busy → IsBusy u.view a.view) → (e ≢ enq.Busy → Asks u.view a.view) → (e ≢ enq.Busy → IsJoined a.view)
      → (e ≡ enq.Granted → IsGranted a.view a.turn) → (e ≡ enq.Queued → IsQueued a.view) → (e ≡ enq.Closed → IsTold a.view)
      → (e ≡ enq_answer s (place + 1)) × AreSynced (after_enq s (place + 1)) new
  asked may_u may enq.Busy busy asks joined granted queued closed =
      let is = busy refl in
      let h = busy_whole s (place + 1) a.view reached (follows is.count) a.turn u.view may_u (knew.state ∙ ap (λ m. seen (state_of s m)) u_node) knew.asked is may in (
        sym (ap (λ b. if b then enq.Busy else as_enq (poll_answer (after_ask s (place + 1)) (place + 1))) h.0),
        subst (λ b. AreSynced (if b then s else after_poll (poll_answer (after_ask s (place + 1)) (place + 1)) (after_ask s (place + 1))) new) (sym h.0)
            (spreads allows s place a (set ports place a) new call round s (leaves_so (place + 1) s) reached h.1),
      )
  asked may_u may enq.Granted busy asks joined granted queued closed =
      ask may (asks (λ e. cc e)) (joined (λ e. cc e)) poll.Granted (λ e. granted refl) (λ e. absurd (let no : poll.Granted ≡ poll.Waiting = e in cc no)) (λ e. absurd (let no : poll.Granted ≡ poll.Closed = e in cc no))
  asked may_u may enq.Queued busy asks joined granted queued closed =
      ask may (asks (λ e. cc e)) (joined (λ e. cc e)) poll.Waiting (λ e. absurd (let no : poll.Waiting ≡ poll.Granted = e in cc no)) (λ e. queued refl) (λ e. absurd (let no : poll.Waiting ≡ poll.Closed = e in cc no))
  asked may_u may enq.Closed busy asks joined granted queued closed =
      ask may (asks (λ e. cc e)) (joined (λ e. cc e)) poll.Closed (λ e. absurd (let no : poll.Closed ≡ poll.Granted = e in cc no)) (λ e. absurd (let no : poll.Closed ≡ poll.Waiting = e in cc no)) (λ e. closed refl)

  -- `deqolb` and `shut`
  pub released : u.view.state ≡ port.Holding → state_of s (place + 1) ≡ port.Holding → (shut : Bool)
      → (let closed = closes u.view.config.lease u.view.ends shut in EndsTurn u.view (Served u.turn closed) (state_after closed) a.view) → AreSynced (after_release s shut) new
  released holds_u holds shut r =
      let h = holding_is s reached (place + 1) holds in
      let turn = first_turn s.queue (place + 1) h.1 in
      let closed : Bool = closes u.view.config.lease u.view.ends shut in
      let same : closed ≡ closes s.config.lease s.queue.ends shut = λ i. closes (knew.config i).lease (knew.ends i) shut in
      let e : End = Served s.turn (closes s.config.lease s.queue.ends shut) in
      let ends : a.view.ends ≡ s.queue.ends ++ e ∷ replicate r.passed Gone = r.ends ∙ (λ i. knew.ends i ++ Served (knew.turn holds_u i) (same i) ∷ replicate r.passed Gone) in
      let go : AfterRelease (length s.queue.ends + 1) (state_after closed) a.view = subst (λ es. AfterRelease (length es + 1) (state_after closed) a.view) knew.ends r.releases in
      let knows = goes_whole s (place + 1) a.view reached (follows r.count) e r.passed (state_after closed) ends turn go (left_quiet closed) a.turn in
      spreads allows s place a (set ports place a) new call round (after_release s shut) (leaves_end (place + 1) s e h.1) (reached_release s reached (place + 1) shut h.0 h.1) knows

-- the holder writes
pub wrote : (allows : List ℕ → List ℕ → Type 0) (s : OwnerState) (ports : List ViewAndTurn) → AreSynced s ports → (place : ℕ) (u a : ViewAndTurn) → slice_get ports place ≡ Some u → state_of s (place + 1) ≡ port.Holding → u.view.state ≡ port.Holding
    → (mask : ℕ) (bytes : List ℕ) → a.view ≡ u.view → a.turn ≡ turn_after u.turn mask bytes → (new : List ViewAndTurn) → MeetsOthers allows place (set ports place a) new → AreSynced (after_write s mask bytes) new
wrote allows s ports whole place u a at holds holds_u mask bytes view turn new round =
    let reached = whole.reached in
    let h = holding_is s whole.reached (place + 1) holds in
    let k = whole.knows place u at in
    let knows_u : KnowsWhole (after_write s mask bytes) (record { view = u.view; turn = a.turn }) = record {
      config = k.config;
      order = k.order;
      ends = k.ends;
      clear = k.clear;
      joined = k.joined;
      marked = k.marked;
      count = k.count;
      state = k.state;
      asked = k.asked;
      turn = λ e. turn ∙ ap (λ t. turn_after t mask bytes) (k.turn e);
    } in
    spreads allows s place a (set ports place a) new (called s ports whole place u a at (ap (λ v. v.node) view)) round (after_write s mask bytes)
    (leaves_write (place + 1) s mask bytes h.1) (reached_write s whole.reached mask bytes h.0)
    (subst (λ v. KnowsWhole (after_write s mask bytes) (record { view = v; turn = a.turn })) (sym view) knows_u)

-- a round alone changes nothing
pub met_whole : (allows : List ℕ → List ℕ → Type 0) (s : OwnerState) (ports : List ViewAndTurn) → AreSynced s ports → (place : ℕ) (u : ViewAndTurn) → slice_get ports place ≡ Some u → (new : List ViewAndTurn) → MeetsOthers allows place ports new → AreSynced s new
met_whole allows s ports whole place u at new round =
    spreads allows s place u ports new (record { many = whole.count; node = whole.node; acting = at; others = λ i w ne there. whole.knows i w there }) round s (leaves_so (place + 1) s) whole.reached (whole.knows place u at)

-- the holder sees the state's bytes
pub shows_bytes : (s : OwnerState) (ports : List ViewAndTurn) → AreSynced s ports → (place : ℕ) (u : ViewAndTurn) → slice_get ports place ≡ Some u → u.view.state ≡ port.Holding → u.turn.bytes.bytes ≡ shown s
shows_bytes s ports whole place u at holds = ap (λ t. t.bytes.bytes) ((whole.knows place u at).turn holds) ∙ sym whole.reached.turn

-- the ports of a line that was just opened know its whole history
pub opened_whole : (label : ℕ) (config : LineConfig) (ports : List ViewAndTurn) → MayOpen config → length config.opening.bytes ≡ 64 → AreNew label config (map (λ p. p.view) ports) → AreSynced (opened config) ports
opened_whole label config ports may long new = record {
  reached = (agrees_opened config may long).reached;
  count = many;
  node = λ i p at. ap (λ v. v.node) (view_is i p at);
  knows = λ i p at. knows p (i + 1) (view_is i p at);
}
  where
    many : length ports ≡ config.nodes
    many = sym (length-map ports (λ p. p.view)) ∙ new.count

    view_is : (i : ℕ) (p : ViewAndTurn) → slice_get ports i ≡ Some p → p.view ≡ new_view label config (i + 1)
    view_is i p at =
        let lt = slice_get_within ports i p at in
        let e = many in
        same_some (sym (slice_get-map (λ x. x.view) ports i ∙ ap (option_map (λ x. x.view)) at) ∙ new.each i (omega arith))

    of_new : (m : ℕ) (w : Write) → KnowsWhole (opened config) (record { view = new_view label config m; turn = w })
    of_new m w = record {
      config = refl;
      order = refl;
      ends = refl;
      clear = λ r h. absurd (let no : false ≡ true = h in cc no);
      joined = λ r h. absurd (let no : false ≡ true = h in cc no);
      marked = λ r h. refl;
      count = refl;
      state = refl;
      asked = λ h. elim h [ inl e ↦ absurd (let no : port.Idle ≡ port.Left = e in cc no) | inr e ↦ absurd (let no : port.Idle ≡ port.Rolled = e in cc no) ];
      turn = λ e. absurd (let no : port.Idle ≡ port.Holding = e in cc no);
    }

    knows : (p : ViewAndTurn) (m : ℕ) → p.view ≡ new_view label config m → KnowsWhole (opened config) p
    knows p m e = subst (λ v. KnowsWhole (opened config) (record { view = v; turn = p.turn })) (sym e) (of_new m p.turn)
