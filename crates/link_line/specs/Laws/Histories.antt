-- Proof that what the ports know about a line (their views) agrees with a single history of the line. The proof uses
-- the invariant of each node.
use Rattle.std.proofs.Common.{◌≡◌, ◌⊎◌, ℕ, ◌+◌, ◌<◌, ◌≤◌, inl, inr, ⊎_elim, Bool, true, false, List, [], ◌∷◌, length, sym, refl, ap, ◌∙◌, subst, Some, arith, ne_eqb}
use Rattle.std.specs.Prelude.{not}
use Rattle.std.proofs.lemmas.Bool.{cases_lt}
use Rattle.std.proofs.lemmas.Option.{slice_get_within}
use mathlib.Core.List.{IsPrefix}
use Rattle.qolb_model.specs.declared.request.Request.{Request}
use Rattle.qolb_model.specs.declared.end.End.{End}
use Rattle.qolb_model.specs.declared.end.End.TheVariants.{Served, Gone, Told}
use Rattle.qolb_model.specs.declared.view.View.{View}
use Rattle.qolb_model.specs.declared.config.LineConfig.{LineConfig}
use Rattle.qolb_model.specs.declared.answer.PortState.TheVariants as port_state
use Rattle.qolb_model.specs.EndKinds.{is_gone}
use Rattle.qolb_model.specs.PortStates.{may_ask}
use Rattle.qolb_model.specs.Requests.{Has, Lacks, has, count_of, last_of}
use Rattle.qolb_model.specs.Queue.{Queue}
use Rattle.qolb_model.specs.Views.{own, IsSubset}
use Rattle.qolb_model.specs.OneHistory.{IsAmong, Knows, OneHistory}
use Rattle.qolb_model.specs.Kept.{AreAllowed}
use Rattle.qolb_model.specs.Sound.{Continues, IsFreedClear, KnowsOwnHistory}
use Rattle.qolb_model.proofs.Lists.{element_at, never, same_some}
use Rattle.qolb_model.proofs.Prefixes.{prefix_get}
use Rattle.qolb_model.proofs.Requests.{same_place, lacks_from}
use Rattle.qolb_model.proofs.Writes.{allowed-begins}
use Rattle.qolb_model.proofs.Agreeing.{among_one}
use Rattle.link_core.specs.declared.point.Point.{Point}
use Rattle.link_core.specs.declared.point.Point.TheVariants.{Idle, Ready, Linking, Queued, Holding, Leaving, Marking, Granting, Freeing, Left, Rolled, Shut}
use Rattle.link_core.specs.declared.seat.NodeCall.{NodeCall}
use Rattle.link_core.specs.declared.seat.ReleaseCause.{ReleaseCause}
use Rattle.link_core.specs.declared.seat.ReleaseCause.TheVariants.{Own, Closing, Refused}
use Rattle.link_core.specs.declared.place.Place.TheVariants.{Home, Mailbox, Hand}
use Rattle.link_core.specs.declared.state.State.{State as Core}
use Rattle.link_core.specs.declared.entry.Entry.{Entry}
use Rattle.link_core.specs.State.{entry, seat, point, IsNode, last_or, is_clear}
use Rattle.link_core.specs.Places.{request, IsLast}
use Rattle.link_core.specs.Shown.{has_line, is_rolled, Lies, at_home, in_hand, granted, left, Sits, Shows, AreMarked, IsCarried}
use Rattle.link_core.proofs.Follows.{sits_at}
use Rattle.link_core.proofs.Found.{found}
use Rattle.link_core.proofs.Orders.{get_request, request_got, last_once, last_is, has_ended}
use Rattle.link_line.specs.Ghost.{LinkGhost}
use Rattle.line_generic.specs.declared.table.TableKey.{TableKey}
use Rattle.link_line.specs.Links.{At, History, NodeInv, HistoryInv, IsFreed, state_of, state_in_release}

-- a place of a list has only one member
pub at_same : {A : Type 0} (xs : List A) (p : ℕ) (x y : A) → At xs p x → At xs p y → x ≡ y
at_same xs p x y a b = same_some (sym a ∙ b)

-- a withdrawn request is clear if its entry says so, and only then
pub clear_is : {config : LineConfig} {c : Core} {q : Queue} (s : Shows config c q) (r : Request) → IsNode c r.node → IsFreed c q.order r → has q.clear r ≡ is_clear Rolled (entry c r.node)
clear_is {c = c} {q = q} s r node f = ap (has q.clear) (sym (request_got q.order f.at r f.here)) ∙ s.matches.clears r.node f.at node f.last ∙ ap (λ (z : Point). is_clear z (entry c r.node)) f.rolled

-- the requester of a request is a node
pub asked_by : {config : LineConfig} {c : Core} {q : Queue} (s : Shows config c q) (p : ℕ) (r : Request) → At q.order p r → IsNode c r.node
asked_by {c = c} {q = q} s p r here = subst (λ (z : Request). IsNode c z.node) (request_got q.order p r here) (s.matches.nodes p (slice_get_within q.order p r here))

-- a freed request is clear once the request behind it is joined
module _ {config : LineConfig} {c : Core} {q : Queue} (s : Shows config c q) (joined : List Request) (unjoined : (n x : ℕ) → IsNode c n → point c n ≡ Linking x → Lacks joined (last_of n q.order)) where
  module _ (p : ℕ) (r next : Request) (here : At q.order p r) (behind : At q.order (p + 1) next) (f : IsFreed c q.order r) (h : Has joined next) where
    node : IsNode c r.node
    node = asked_by s p r here

    same : f.at ≡ p
    same = same_place q.order s.legal.numbered f.at p r f.here here

    boxed : c.place ≡ Mailbox r.node → Lies config c q.order q.ends → ⊥
    boxed box (at_home a b w) = let z : Home ≡ Mailbox r.node = sym b ∙ box in cc
    boxed box (in_hand m a b e f g k) = let z : Hand m ≡ Mailbox r.node = sym e ∙ box in cc
    boxed box (granted t a b e g k w) =
        let z : Mailbox t ≡ Mailbox r.node = sym e ∙ box in
        let it : t ≡ r.node = cc in
        let y : Queued ≡ Rolled = sym k ∙ ap (point c) it ∙ f.rolled in
        cc
    boxed box (left t z a b e g k l i w) =
        let y : Mailbox z ≡ Mailbox r.node = sym e ∙ box in
        let it : z ≡ r.node = cc in
        let n : IsNode c t = subst (λ (m : ℕ). IsNode c m) b (s.matches.nodes (length q.ends) a) in
        let before = sits_at s.matches t (Linking z) n i in
        let at : before.at ≡ p = last_once q.order z before.at f.at before.before (subst (λ (m : ℕ). IsLast q.order m f.at) (sym it) f.last) ∙ same in
        let own : next ≡ last_of t q.order = sym (request_got q.order (p + 1) next behind) ∙ ap (λ (k : ℕ). request q.order (k + 1)) (sym at) ∙ last_is config.lease q.order q.ends t (before.at + 1) s.legal before.own in
        never (subst (Has joined) own h) (unjoined t z n i)

    unboxed : (b : Bool) (w : Entry) → w.freed ≡ true → w.done ≡ b → (w.done ≡ true → w.link ≡ 0 → ⊥) → is_clear Rolled w ≡ true
    unboxed false w fr d none = rw (fr, d) refl
    unboxed true w fr d none = rw (fr, d) (ap not (ne_eqb w.link 0 (none d)))

    pub joined_clear : Has q.clear r
    joined_clear = clear_is s r node f ∙ unboxed (entry c r.node).done (entry c r.node) f.freed refl (λ d l. boxed (s.matches.settled.boxed r.node node d l) s.matches.lies)

-- if a port shows that it holds the line, its node has the line and has passed no request
holding_in : (reason : ReleaseCause) (passed : List ℕ) → state_in_release reason passed ≡ port_state.Holding → passed ≡ []
holding_in r [] e = refl
holding_in Own (m ∷ ms) e = cc
holding_in Closing (m ∷ ms) e = cc
holding_in Refused (m ∷ ms) e = cc

pub holding_of : (s : NodeCall) (p : Point) → s.point ≡ p → state_of (record s { point = p }) ≡ port_state.Holding → (has_line p ≡ true) × ((p ≡ Holding) ⊎ (s.passed ≡ []))
holding_of s Holding i e = (refl, inl refl)
holding_of s (Leaving x) i e = (refl, inr (holding_in s.reason s.passed e))
holding_of s (Marking x) i e = (refl, inr (holding_in s.reason s.passed e))
holding_of s (Granting x) i e = (refl, inr (holding_in s.reason s.passed e))
holding_of s Freeing i e = absurd (not_left s.reason e)
  where
    not_left : (r : ReleaseCause) → state_of (record { point = Freeing; reason = r; passed = s.passed }) ≡ port_state.Holding → ⊥
    not_left Own e = cc
    not_left Closing e = cc
    not_left Refused e = cc
holding_of s Idle i e = cc
holding_of s Ready i e = cc
holding_of s (Linking x) i e = cc
holding_of s Queued i e = cc
holding_of s Left i e = cc
holding_of s Rolled i e = cc
holding_of s Shut i e = cc

-- an ended request is marked exactly if its end is Gone
pub marked_is : (q : Queue) → AreMarked q → (p : ℕ) (r : Request) (e : End) → At q.order p r → At q.ends p e → has q.marked r ≡ is_gone e
marked_is q m p r Gone at end = m.gone p r at end
marked_is q m p r (Served w s) at end = lacks_from q.marked r (λ h. let z : Some (Served w s) ≡ Some Gone = sym end ∙ m.marked p r at (slice_get_within q.ends p (Served w s) end) h in cc z)
marked_is q m p r Told at end = lacks_from q.marked r (λ h. let z : Some Told ≡ Some Gone = sym end ∙ m.marked p r at (slice_get_within q.ends p Told end) h in cc z)

module _ (allows : List ℕ → List ℕ → Type 0) (key : TableKey) (x : History) (f : HistoryInv allows key x) where
  module _ (n : ℕ) (v : LinkGhost) (node : IsNode x.core n) (ok : NodeInv key x n v) where
    -- the last request of the node
    pub own_at : (p : ℕ) → IsLast x.queue.order n p → At x.queue.order p (own v.view)
    own_at p l = get_request x.queue.order p l.known ∙ ap Some (last_is key.config.lease x.queue.order x.queue.ends n p f.shown.legal l ∙ (λ i. record { node = sym ok.who.node i; number = ok.knows.counts i }))

    -- the seat's point is the core's
    pub at_point : point x.core n ≡ v.own.seat.point
    at_point = sym (ap (λ (s : NodeCall). s.point) ok.stands.seat)

    turn_own : has_line (point x.core n) ≡ true → (seat x.core n).passed ≡ [] → At x.queue.order (length x.queue.ends) (own v.view)
    turn_own l e = own_at (length x.queue.ends) (subst (λ (ps : List ℕ). IsLast x.queue.order (last_or n ps) (length x.queue.ends)) e ((found f.shown).turn n node l))

    none_passed : (v.own.seat.point ≡ Holding) ⊎ (v.own.seat.passed ≡ []) → (seat x.core n).passed ≡ []
    none_passed (inl h) = ((found f.shown).holds n node (at_point ∙ h)).1
    none_passed (inr e) = sym (ap (λ (s : NodeCall). s.passed) ok.stands.seat) ∙ e

    pub knows_of : Knows key.config x.queue.order x.queue.ends x.queue.clear v.view
    knows_of = record {
      config_is = ok.who.config;
      of_line = λ p r at. subst (λ (z : Request × ℕ). (1 ≤ z.0.node) × (z.0.node ≤ z.1)) (λ i. (request_got x.queue.order p r at i, f.shown.matches.size i)) (f.shown.matches.nodes p (slice_get_within x.queue.order p r at));
      order_begins = ok.knows.orders;
      ends_begin = ok.knows.endings;
      clear_begins = ok.knows.clears;
      own_count = ap (λ k. count_of k x.queue.order) ok.who.node ∙ ok.knows.counts;
      own_ends = λ p r e at en mine gone.
          let here = element_at v.view.ends p (ok.knows.own_ends p r e at (mine ∙ ok.who.node) en gone) in
          here.1 ∙ ap Some (at_same x.queue.ends p here.0 e (prefix_get v.view.ends x.queue.ends p here.0 ok.knows.endings here.1) en);
      own_marks = λ p r e at en mine. ok.knows.own_marks r (mine ∙ ok.who.node) ∙ marked_is x.queue f.shown.gone p r e at en;
      own_open = λ p r l at mine. at_same x.queue.order p r (own v.view) at
          (own_at p (subst (λ (m : ℕ). IsLast x.queue.order m p) (ap (λ (z : Request). z.node) (request_got x.queue.order p r at) ∙ (mine ∙ ok.who.node)) (f.shown.matches.distinct p l (slice_get_within x.queue.order p r at))));
      holder = λ e. let h = holding_of v.own.seat v.own.seat.point refl (sym ok.stands.state ∙ e) in turn_own (ap has_line at_point ∙ h.0) (none_passed h.1);
    }

    pub freed_clear : IsFreedClear v.view
    freed_clear p r next at behind h j = ⊎_elim
        (λ e. ok.joins.joined_last p r next (prefix_get v.view.order x.queue.order p r ok.knows.orders at) (prefix_get v.view.order x.queue.order (p + 1) next ok.knows.orders behind) e j)
        (λ l. ok.joins.freed_last r h l)
        (ok.joins.all_freed r h)

    -- the outcome of each of the node's requests: a request without an end is its last, and waits or holds
    module _ (p : ℕ) (r : Request) (at : At x.queue.order p r) (mine : r.node ≡ n) where
      abbrev Outcome : Type 0
      Outcome = (p < length v.view.ends) ⊎ (Has v.view.marked r ⊎ ((r ≡ own v.view) × (may_ask v.view.state ≡ false)))

      ended : p < length x.queue.ends → Outcome
      ended l = let end = element_at x.queue.ends p l in go end.0 end.1 (is_gone end.0) refl
        where
          go : (e : End) → At x.queue.ends p e → (b : Bool) → is_gone e ≡ b → Outcome
          go e en false k = inl (ok.knows.own_ends p r e at mine en k)
          go e en true k = inr (inl (ok.knows.own_marks r mine ∙ marked_is x.queue f.shown.gone p r e at en ∙ k))

      module _ (later : length x.queue.ends ≤ p) where
        last : IsLast x.queue.order n p
        last = subst (λ (m : ℕ). IsLast x.queue.order m p) (ap (λ (z : Request). z.node) (request_got x.queue.order p r at) ∙ mine) (f.shown.matches.distinct p later (slice_get_within x.queue.order p r at))

        waits : (s : NodeCall) → seat x.core n ≡ s → may_ask (state_of s) ≡ false → Outcome
        waits s e k = inr (inr (at_same x.queue.order p r (own v.view) at (own_at p last), ap may_ask (ok.stands.state ∙ ap state_of (ok.stands.seat ∙ e)) ∙ k))

        over : (p < length x.queue.ends) → Outcome
        over l = absurd (omega arith)

        releasing : (z : Point) → point x.core n ≡ z → has_line z ≡ true → (ps : List ℕ) → (seat x.core n).passed ≡ ps → (ps ≡ [] → may_ask (state_of (record { point = z; passed = []; reason = (seat x.core n).reason })) ≡ false) → Outcome
        releasing z e l [] none k = waits (record { point = z; passed = []; reason = (seat x.core n).reason }) (λ i. record { point = e i; passed = none i; reason = (seat x.core n).reason }) (k refl)
        releasing z e l (m ∷ ms) some k = over (has_ended (subst (λ (ps : List ℕ). IsCarried key.config x.core x.queue.order x.queue.ends n (seat x.core n).reason ps) some ((found f.shown).carried n node (ap has_line e ∙ l))).1 p last)

        open' : (z : Point) → point x.core n ≡ z → Sits x.core x.queue.order x.queue.ends n z → Outcome
        open' Idle e y = over (y p last)
        open' Ready e y = over (y.0 p last)
        open' Shut e y = over (y p last)
        open' Left e y = over (y p last)
        open' Freeing e y = over (has_ended y.0 p last)
        open' Rolled e y = inr (inl (ok.knows.own_marks r mine ∙ ap (has x.queue.marked) (sym (request_got x.queue.order p r at)) ∙ f.shown.matches.marks p later last.known ∙ ap (λ (m : ℕ). is_rolled (point x.core m)) last.its ∙ ap is_rolled e))
        open' (Linking o) e y = waits (record (seat x.core n) { point = Linking o }) (λ i. record (seat x.core n) { point = e i }) refl
        open' Queued e y = waits (record (seat x.core n) { point = Queued }) (λ i. record (seat x.core n) { point = e i }) refl
        open' Holding e y = waits (record (seat x.core n) { point = Holding }) (λ i. record (seat x.core n) { point = e i }) refl
        open' (Leaving o) e y = releasing (Leaving o) e refl (seat x.core n).passed refl (λ _. refl)
        open' (Marking o) e y = releasing (Marking o) e refl (seat x.core n).passed refl (λ _. refl)
        open' (Granting o) e y = releasing (Granting o) e refl (seat x.core n).passed refl (λ _. refl)

      outcome : Outcome
      outcome = elim (cases_lt p (length x.queue.ends)) [ inl l ↦ ended l | inr later ↦ open' later (point x.core n) refl (f.shown.matches.sits n node) ]

    pub own_history : KnowsOwnHistory v.view
    own_history p r known mine = outcome p r (prefix_get v.view.order x.queue.order p r ok.knows.orders known) (mine ∙ ok.who.node)

  -- views of nodes of one table
  abbrev pub one_history : (views : List View) → ((v : View) → IsAmong views v → (n : ℕ) × (e : LinkGhost) × (e.view ≡ v) × IsNode x.core n × NodeInv key x n e) → OneHistory views
  one_history views all = record {
    config = key.config;
    order = x.queue.order;
    ends = x.queue.ends;
    clear = x.queue.clear;
    legal = f.shown.legal;
    cleared = f.cleared;
    known = λ v i. let a = all v i in subst (λ z. Knows key.config x.queue.order x.queue.ends x.queue.clear z) a.2 (knows_of a.0 a.1 a.3 a.4);
    agreed = λ v w i j. let a = all v i in let b = all w j in record {
      joined = λ r mine h. subst (λ (z : View). Has z.joined r) b.2 (b.4.joins.own_joined r (mine ∙ ap (λ (z : View). z.node) (sym b.2) ∙ b.4.who.node) (a.4.joins.all_joined r (subst (λ (z : View). Has z.joined r) (sym a.2) h)));
      marked = λ r mine h. subst (λ (z : View). Has z.marked r) b.2 (b.4.knows.own_marks r (mine ∙ ap (λ (z : View). z.node) (sym b.2) ∙ b.4.who.node) ∙ a.4.knows.all_marked r (subst (λ (z : View). Has z.marked r) (sym a.2) h));
    };
  }

  pub alone_history : (n : ℕ) (w : LinkGhost) → IsNode x.core n → NodeInv key x n w → OneHistory (w.view ∷ [])
  alone_history n w node ok = one_history (w.view ∷ []) (λ v i. (n, w, sym (among_one w.view v i), node, ok))

-- a node goes on from one history to a longer one
pub continues : (allows : List ℕ → List ℕ → Type 0) (key : TableKey) (x y : History) → HistoryInv allows key y → (n : ℕ) (v w : LinkGhost) → IsNode y.core n → NodeInv key x n v → NodeInv key y n w → IsPrefix v.view.order w.view.order → IsPrefix v.view.ends w.view.ends → IsPrefix v.view.clear w.view.clear
    → IsSubset v.view.joined w.view.joined → IsSubset v.view.marked w.view.marked → IsSubset v.view.freed w.view.freed → Continues allows v.view w.view
continues allows key x y f n v w node old new orders endings clears joined marked freed = record {
  extends = record {
    label = new.who.label ∙ sym old.who.label;
    config = new.who.config ∙ sym old.who.config;
    node = new.who.node ∙ sym old.who.node;
    order = orders;
    ends = endings;
    clear = clears;
    joined = joined;
    marked = marked;
    freed = freed;
  };
  history = alone_history allows key y f n w node new;
  kept = subst (λ (t : LineConfig). AreAllowed allows t.opening.bytes w.view.ends) (sym new.who.config)
      (allowed-begins allows key.config.opening.bytes w.view.ends new.knows.endings.0 (subst (AreAllowed allows key.config.opening.bytes) (sym new.knows.endings.1) f.kept));
  freed_clear = freed_clear allows key y f n w node new;
  own_history = own_history allows key y f n w node new;
}
