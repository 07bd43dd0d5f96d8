-- Lemmas that the proofs about the steps of a release share. After each of these steps, either the turn of the
-- releasing node has ended, or this node still has the line.
use Rattle.std.proofs.Common.{◌≡◌, ◌≢◌, ◌⊎◌, inl, inr, ℕ, ◌+◌, ◌<◌, ◌≤◌, Bool, true, false, List, [], ◌∷◌, ◌++◌, length, map, sym, refl, ap, ◌∙◌, subst, Some, slice_get, arith, length-append}
use mathlib.Core.Option.{some}
use lib.ListN.{get_elem?}
use Rattle.std.proofs.lemmas.List.{length-map}
use Rattle.std.proofs.lemmas.Option.{slice_get_within}
use Rattle.line_lanes.specs.declared.line.Line64.{Line64}
use Rattle.qolb_model.specs.declared.request.Request.{Request}
use Rattle.qolb_model.specs.declared.end.End.{End}
use Rattle.qolb_model.specs.declared.end.End.TheVariants.{Served}
use Rattle.qolb_model.specs.declared.config.LineConfig.{LineConfig}
use Rattle.qolb_model.specs.Ends.{is_closed, bytes_after}
use Rattle.qolb_model.specs.Histories.{turn_of}
use Rattle.qolb_model.specs.Kept.{AreAllowed}
use Rattle.qolb_model.specs.PortStates.{state_after}
use Rattle.qolb_model.specs.Queue.{Queue}
use Rattle.qolb_model.specs.Requests.{Has, Lacks, has, count_of}
use Rattle.qolb_model.specs.Releasing.{SuccessorUnlinked}
use Rattle.qolb_model.proofs.Lists.{never}
use Rattle.qolb_model.proofs.Requests.{lacks_from}
use Rattle.qolb_model.proofs.Writes.{allowed-append}
use Rattle.link_core.specs.declared.point.Point.{Point}
use Rattle.link_core.specs.declared.point.Point.TheVariants.{Idle, Ready, Linking, Queued, Holding, Leaving, Marking, Granting, Freeing, Left, Rolled, Shut}
use Rattle.link_core.specs.declared.place.Place.TheVariants.{Home, Mailbox, Hand}
use Rattle.link_core.specs.declared.seat.ReleaseCause.{ReleaseCause}
use Rattle.link_core.specs.declared.seat.ReleaseCause.TheVariants.{Own, Closing, Refused}
use Rattle.link_core.specs.declared.seat.NodeCall.{NodeCall}
use Rattle.link_core.specs.declared.entry.Entry.{Entry}
use Rattle.link_core.specs.declared.state.State.{State as Core}
use Rattle.link_core.specs.declared.told.Told.{Told as Answer}
use Rattle.link_core.specs.declared.event.Event.{Event}
use Rattle.link_core.specs.State.{entry, seat, point, IsNode, last_or, is_clear}
use Rattle.link_core.specs.Steps.{Step, node_of, seat_with, seat_at_close, point_at_end, turns_after, left_after}
use Rattle.link_core.specs.Moves.{end_by}
use Rattle.link_core.specs.Places.{request, requester_at, IsLast}
use Rattle.link_core.specs.Shown.{has_line, is_rolled, IsCarried, Lies, at_home, in_hand, granted, left, Shows}
use Rattle.link_core.proofs.Close.{close_passed}
use Rattle.link_core.proofs.Found.{found}
use Rattle.link_core.proofs.Orders.{get_request, request_got, last_is}
use Rattle.link_core.proofs.Short.{short}
use Rattle.link_line.specs.Ghost.{LinkGhost, mask_of}
use Rattle.line_generic.specs.declared.table.Payload.{Payload}
use Rattle.line_generic.specs.declared.table.TableKey.{TableKey}
use Rattle.link_line.specs.Links.{At, History, NodeInv, HistoryInv, PassedInv, Represents, Homes, MayServe, serves, is_leaving, is_shut_by, state_of, state_at, state_in_release}
use Rattle.link_line.specs.Steps.{Ended, IsHandedOver, IsLeftForLinker, KeepsPayload, end_of, next_end, after_release, left_in}
use Rattle.link_line.proofs.Going.{next, on, leaving_lined, map_get}
use Rattle.link_line.specs.Laws.Nodes.{St, Rule, mine_ok, is_node}
use Rattle.link_line.proofs.Turning.{whole, grows_none, joins_all, Owes, Via, via_none, Turned, turned, own_at}

-- while the line is in no hand, the request at its turn is not withdrawn
pub turn_unmarked : {config : LineConfig} {c : Core} {q : Queue} → Shows config c q → ((n : ℕ) → c.place ≢ Hand n) → (r : Request) → turn_of q.order q.ends ≡ Some r → Lacks q.marked r
turn_unmarked {config} {c} {q} s nowhere r here = go s.matches.lies
  where
    at_point : length q.ends < length q.order → (t : ℕ) (p : Point) → requester_at q.order (length q.ends) ≡ t → point c t ≡ p → is_rolled p ≡ false → Lacks q.marked r
    at_point l t p its at unrolled = ap (has q.marked) (sym (request_got q.order (length q.ends) r here)) ∙ s.matches.marks (length q.ends) (omega arith) l ∙ ap (λ (m : ℕ). is_rolled (point c m)) its ∙ ap is_rolled at ∙ unrolled

    go : Lies config c q.order q.ends → Lacks q.marked r
    go (at_home a b w) = let l = slice_get_within q.order (length q.ends) r here in absurd (omega arith)
    go (in_hand n a b e f g k) = absurd (nowhere n e)
    go (granted t a b e g k w) = at_point a t Queued b k refl
    go (left t z a b e g k l i w) = at_point a t (Linking z) b i refl

-- while it is at home, no request is at its turn
pub turn_none : {config : LineConfig} {c : Core} {q : Queue} → Shows config c q → c.place ≡ Home → (r : Request) → turn_of q.order q.ends ≡ Some r → ⊥
turn_none {config} {c} {q} s home r here = go s.matches.lies
  where
    go : Lies config c q.order q.ends → ⊥
    go (at_home a b w) = let l = slice_get_within q.order (length q.ends) r here in absurd (omega arith)
    go (in_hand n a b e f g k) = let z : Home ≡ Hand n = sym home ∙ e in cc
    go (granted t a b e g k w) = let z : Home ≡ Mailbox t = sym home ∙ e in cc
    go (left t y a b e g k l i w) = let z : Home ≡ Mailbox y = sym home ∙ e in cc

-- the end that a release puts, as the core has it and as the port does
end_is : (config : LineConfig) (c : Core) (order : List Request) (ends : List End) (n : ℕ) (r : ReleaseCause) (ps places : List ℕ) (g : ℕ → ℕ) (z : Payload) → ps ≡ map g places → IsCarried config c order ends n r ps → z.bytes ≡ c.bytes → (ps ≡ [] → serves r ≡ true → mask_of z ≡ c.mask) → z.closed ≡ is_shut_by r
    → end_by c r ps ≡ end_of places (is_closed ends) z
end_is config c order ends n r [] [] g z e k b m s = unpassed r k (m refl) s
  where
    unpassed : (r : ReleaseCause) → IsCarried config c order ends n r [] → (serves r ≡ true → mask_of z ≡ c.mask) → z.closed ≡ is_shut_by r → end_by c r [] ≡ end_of [] (is_closed ends) z
    unpassed Own k m s = rw (k.1) (λ i. Served (record { mask = sym (m refl) i; bytes = sym b i }) (sym s i))
    unpassed Closing k m s = rw (k.1) (λ i. Served (record { mask = sym (m refl) i; bytes = sym b i }) (sym s i))
    unpassed Refused k m s = rw (k.1) refl
end_is config c order ends n r [] (q ∷ qs) g z e k b m s = let y : [] ≡ g q ∷ map g qs = e in cc
end_is config c order ends n r (p ∷ ps) [] g z e k b m s = let y : p ∷ ps ≡ [] = e in cc
end_is config c order ends n Own (p ∷ ps) (q ∷ qs) g z e k b m s = refl
end_is config c order ends n Closing (p ∷ ps) (q ∷ qs) g z e k b m s = refl
end_is config c order ends n Refused (p ∷ ps) (q ∷ qs) g z e k b m s = refl

-- the end is allowed
end_may : (allows : List ℕ → List ℕ → Type 0) (config : LineConfig) (c : Core) (order : List Request) (ends : List End) (n : ℕ) (r : ReleaseCause) (ps : List ℕ) → IsCarried config c order ends n r ps → (ps ≡ [] → serves r ≡ true → allows (bytes_after config.opening.bytes ends) c.bytes.bytes) → AreAllowed allows (bytes_after config.opening.bytes ends) (end_by c r ps ∷ [])
end_may allows config c order ends n Own [] k f = (subst (allows (bytes_after config.opening.bytes ends)) (sym k.2) (f refl refl), tt)
end_may allows config c order ends n Closing [] k f = (subst (allows (bytes_after config.opening.bytes ends)) (sym k.2) (f refl refl), tt)
end_may allows config c order ends n Refused [] k f = tt
end_may allows config c order ends n Own (m ∷ ms) k f = tt
end_may allows config c order ends n Closing (m ∷ ms) k f = tt
end_may allows config c order ends n Refused (m ∷ ms) k f = tt

-- the node's point after it
pub close_not : (f : Point → Bool) (ps : List ℕ) (p : Point) (r : ReleaseCause) → f p ≡ false → f Freeing ≡ false → f (seat_with ps p r).point ≡ false
close_not f [] p r a b = a
close_not f (m ∷ ms) p r a b = b

abbrev pub is_linking : Point → Bool
is_linking (Linking q) = true
is_linking _ = false

abbrev pub is_queued : Point → Bool
is_queued Queued = true
is_queued _ = false

out_point : (g : ℕ → ℕ) (r : ReleaseCause) (places : List ℕ) (shut : Bool) → shut ≡ is_shut_by r → (seat_with (map g places) (point_at_end r) r).point ≡ after_release (state_after shut) places
out_point g Own [] shut e = rw e refl
out_point g Closing [] shut e = rw e refl
out_point g Refused [] shut e = rw e refl
out_point g r (p ∷ ps) shut e = refl

pub out_state : (g : ℕ → ℕ) (r : ReleaseCause) (places : List ℕ) (shut : Bool) → shut ≡ is_shut_by r → state_of (seat_with (map g places) (point_at_end r) r) ≡ state_after shut
out_state g Own [] shut e = rw e refl
out_state g Closing [] shut e = rw e refl
out_state g Refused [] shut e = rw e refl
out_state g r (p ∷ ps) shut e = ap state_after (sym e)

left_point : (g : ℕ → ℕ) (r : ReleaseCause) (places : List ℕ) (shut : Bool) (p : Point) → (places ≡ [] → p ≡ Left) → (seat_with (map g places) p r).point ≡ after_release (left_in places shut) places
left_point g r [] shut p e = e refl
left_point g r (q ∷ qs) shut p e = refl

left_state : (g : ℕ → ℕ) (r : ReleaseCause) (places : List ℕ) (shut : Bool) (p : Point) → shut ≡ is_shut_by r → (places ≡ [] → p ≡ Left) → state_of (seat_with (map g places) p r) ≡ left_in places shut
left_state g r [] shut p s e = ap (λ (z : Point). state_at z r []) (e refl)
left_state g r (q ∷ qs) shut p s e = ap state_after (sym s)

pub end_clear : (r : ReleaseCause) (w : Entry) → is_clear (point_at_end r) w ≡ true
end_clear Own w = refl
end_clear Closing w = refl
end_clear Refused w = refl

-- the points of a node whose turn has ended
abbrev pub is_over : Point → Bool
is_over Idle = true
is_over Left = true
is_over Shut = true
is_over _ = false

pub end_quiet : (r : ReleaseCause) → is_over (point_at_end r) ≡ true
end_quiet Own = refl
end_quiet Closing = refl
end_quiet Refused = refl

pub leaving_state : (p : Point) (r : ReleaseCause) (ps : List ℕ) → is_leaving p ≡ true → state_at p r ps ≡ state_in_release r ps
leaving_state (Leaving e) r ps a = refl
leaving_state (Marking e) r ps a = refl
leaving_state (Granting e) r ps a = refl
leaving_state Idle r ps a = cc
leaving_state Ready r ps a = cc
leaving_state (Linking q) r ps a = cc
leaving_state Queued r ps a = cc
leaving_state Holding r ps a = cc
leaving_state Freeing r ps a = cc
leaving_state Left r ps a = cc
leaving_state Rolled r ps a = cc
leaving_state Shut r ps a = cc

leaving_unlinking : (p : Point) → is_leaving p ≡ true → is_linking p ≡ false
leaving_unlinking (Leaving e) a = refl
leaving_unlinking (Marking e) a = refl
leaving_unlinking (Granting e) a = refl
leaving_unlinking Idle a = cc
leaving_unlinking Ready a = cc
leaving_unlinking (Linking q) a = cc
leaving_unlinking Queued a = cc
leaving_unlinking Holding a = cc
leaving_unlinking Freeing a = cc
leaving_unlinking Left a = cc
leaving_unlinking Rolled a = cc
leaving_unlinking Shut a = cc

-- The line z is in the hand of v's node. The history x is the invariant's x0, except for what that node did in its
-- hand.
pub record Holds (good : List ℕ → Type 0) (allows : List ℕ → List ℕ → Type 0) (key : TableKey) (x0 : History) (v : LinkGhost) (z : Payload) (x : History) : Type 0 where
  pub via : Via good allows key x0 v x
  pub home : x.core.home ≡ x0.core.home
  pub entries : x.core.entries ≡ x0.core.entries
  pub lined : has_line (point x.core v.view.node) ≡ true
  pub passed : (seat x.core v.view.node).passed ≡ v.own.seat.passed
  pub state : v.view.state ≡ state_in_release (seat x.core v.view.node).reason (seat x.core v.view.node).passed
  pub ends : v.view.ends ≡ x.queue.ends
  pub bytes : z.bytes ≡ x.core.bytes
  pub closed : z.closed ≡ x.core.closed
  pub turns : z.turns_left ≡ turns_after v.view.node x.core
  pub mask : (seat x.core v.view.node).passed ≡ [] → serves (seat x.core v.view.node).reason ≡ true → mask_of z ≡ x.core.mask
  pub shut : z.closed ≡ is_shut_by (seat x.core v.view.node).reason
  pub may : (seat x.core v.view.node).passed ≡ [] → serves (seat x.core v.view.node).reason ≡ true → allows (bytes_after key.config.opening.bytes x.queue.ends) x.core.bytes.bytes

module _ (good : List ℕ → Type 0) (allows : List ℕ → List ℕ → Type 0) (key : TableKey) (s : St good allows key) (r : Rule good allows key s) (me : ℕ) (v : LinkGhost) (at : get_elem? s.views me ≡ some (v ∷ [])) (z : Payload) (x : History) (h : Holds good allows key r.history v z x) where
  abbrev pub n : ℕ
  n = v.view.node

  abbrev pub st : NodeCall
  st = seat x.core n

  pub ok : NodeInv key r.history n v
  ok = mine_ok good allows key s r me v at

  pub node : IsNode x.core n
  node = let a = is_node good allows key s r me v at in (a.0, subst (λ (q : ℕ). n ≤ q) (sym h.via.nodes) a.1)

  abbrev pub sh : Shows key.config x.core x.queue
  sh = h.via.history_inv.shown

  pub places : st.passed ≡ map (requester_at x.queue.order) v.own.passed
  places = h.passed ∙ ok.passes.places ∙ ap (λ (q : Queue). map (requester_at q.order) v.own.passed) (sym h.via.queue)

  carried : IsCarried key.config x.core x.queue.order x.queue.ends n st.reason st.passed
  carried = (found sh).carried n node h.lined

  module _ {e : Event} {t : Answer} {d : Core} (k : Step x.core e t d) (is : node_of e ≡ n) where
    abbrev pub after : History
    after = next allows key r.may_open.nodes.few x h.via.history_inv k x.joined x.early x.late

    abbrev pub view_after : List ℕ → LinkGhost
    view_after passed = whole after v v.view.count x.joined passed z

    abbrev pub Done : List ℕ → List ℕ → Homes → Type 0
    Done passed words homes = Turned good allows key s r me v at x h.via after (view_after passed) words homes

    shows : Shows key.config d after.queue
    shows = (on allows key r.may_open.nodes.few x h.via.history_inv k).shows

    after_node : IsNode d n
    after_node = (node.0, subst (λ (q : ℕ). n ≤ q) (sym (on allows key r.may_open.nodes.few x h.via.history_inv k).spared.nodes) node.1)

    module _ (order : after.queue.order ≡ x.queue.order) where
      pub counts : count_of n after.queue.order ≡ v.view.count
      counts = ap (count_of n) (order ∙ ap (λ (q : Queue). q.order) h.via.queue) ∙ ok.knows.counts

      same_order : after.queue.order ≡ r.history.queue.order
      same_order = order ∙ ap (λ (q : Queue). q.order) h.via.queue

      -- the places that were passed stay those of their nodes' last requests
      passing : (passed : List ℕ) → passed ≡ v.own.passed → (seat d n).passed ≡ st.passed → length v.view.ends ≤ length after.queue.ends → ((seat d n).point ≡ Freeing → length v.view.ends < length after.queue.ends) → PassedInv after.queue.order (view_after passed)
      passing passed e same longer ended = record {
        places = same ∙ places ∙ ap (λ (o : List Request). map (requester_at o) v.own.passed) (sym order) ∙ ap (map (requester_at after.queue.order)) (sym e);
        last = λ i p a. last i p a;
        known = λ i p a. (last i p a).known;
        within = λ i p a. let l = ok.passes.within i p (was i p a) in omega arith;
        ended = λ f i p a. let l = ok.passes.within i p (was i p a) in let m = ended f in omega arith;
      }
        where
          was : (i p : ℕ) → At passed i p → At v.own.passed i p
          was i p a = subst (λ (ps : List ℕ). At ps i p) e a

          last : (i p : ℕ) → At passed i p → IsLast after.queue.order (requester_at after.queue.order p) p
          last i p a = subst (λ (o : List Request). IsLast o (requester_at o p) p) (sym same_order) (ok.passes.last i p (was i p a))

      -- the turn has ended
      module _ (ends : after.queue.ends ≡ x.queue.ends ++ end_by x.core st.reason st.passed ∷ []) where
        pub ends_are : after.queue.ends ≡ v.view.ends ++ next_end v z ∷ []
        ends_are = ends ∙ ap (λ (q : End). x.queue.ends ++ q ∷ []) (end_is key.config x.core x.queue.order x.queue.ends n st.reason st.passed v.own.passed (requester_at x.queue.order) z places carried h.bytes h.mask h.shut)
            ∙ ap (λ (es : List End). es ++ end_of v.own.passed (is_closed es) z ∷ []) (sym h.ends)

        pub longer : length after.queue.ends ≡ length x.queue.ends + 1
        longer = ap (λ (es : List End). length es) ends ∙ length-append x.queue.ends (end_by x.core st.reason st.passed ∷ [])

        view_longer : length after.queue.ends ≡ length v.view.ends + 1
        view_longer = longer ∙ ap (λ (es : List End). length es + 1) (sym h.ends)

        pub kept : AreAllowed allows key.config.opening.bytes after.queue.ends
        kept = subst (AreAllowed allows key.config.opening.bytes) (sym ends) (allowed-append allows key.config.opening.bytes x.queue.ends (end_by x.core st.reason st.passed ∷ []) h.via.history_inv.kept
            (end_may allows key.config x.core x.queue.order x.queue.ends n st.reason st.passed carried h.may))

        own_last : v.own.passed ≡ [] → IsLast after.queue.order n (length v.view.ends)
        own_last none = subst (λ (w : List Request × List ℕ × ℕ). IsLast w.0 (last_or n w.1) w.2) (λ i. (sym order i, (places ∙ ap (map (requester_at x.queue.order)) none) i, ap (λ (es : List End). length es) (sym h.ends) i)) ((found sh).turn n node h.lined)

        pub ended : (passed : List ℕ) → Ended v (view_after passed) z
        ended passed = record {
          known = shows.matches.known;
          ends = ends_are;
          count = refl;
          own_turn = λ none. own_at good allows key after v v.view.count (length v.view.ends) shows counts (own_last none);
        }

        own_cleared : v.own.passed ≡ [] → (p : Point) → point d n ≡ p → ((w : Entry) → is_clear p w ≡ true) → Has after.queue.clear (record { node = n; number = v.view.count })
        own_cleared none p here clear =
            ap (has after.queue.clear) (sym (last_is key.config.lease after.queue.order after.queue.ends n (length v.view.ends) shows.legal (own_last none) ∙ (λ i. record { node = n; number = counts i })))
            ∙ shows.matches.clears n (length v.view.ends) after_node (own_last none) ∙ ap (λ (q : Point). is_clear q (entry d n)) here ∙ clear (entry d n)

        -- the line has left the node
        module _ (p : Point) (quiet : is_over p ≡ true) (own_seat : seat d n ≡ seat_at_close p st) (behind : (d.place ≡ Home) ⊎ (length after.queue.ends < length after.queue.order)) where
          unlined : has_line (point d n) ≡ false
          unlined = ap (λ (s : NodeCall). has_line s.point) own_seat ∙ close_not has_line st.passed p st.reason (quiet_lineless p quiet) refl
            where
              quiet_lineless : (p : Point) → is_over p ≡ true → has_line p ≡ false
              quiet_lineless Holding a = cc
              quiet_lineless (Leaving e) a = cc
              quiet_lineless (Marking e) a = cc
              quiet_lineless (Granting m) a = cc
              quiet_lineless _ a = refl

          unlinking : is_linking (point d n) ≡ false
          unlinking = ap (λ (s : NodeCall). is_linking s.point) own_seat ∙ close_not is_linking st.passed p st.reason (quiet_linkless p quiet) refl
            where
              quiet_linkless : (p : Point) → is_over p ≡ true → is_linking p ≡ false
              quiet_linkless (Linking q) a = cc
              quiet_linkless _ a = refl

          unqueued : is_queued (point d n) ≡ false
          unqueued = ap (λ (s : NodeCall). is_queued s.point) own_seat ∙ close_not is_queued st.passed p st.reason (over_unqueued p quiet) refl
            where
              over_unqueued : (p : Point) → is_over p ≡ true → is_queued p ≡ false
              over_unqueued Queued a = cc
              over_unqueued _ a = refl

          -- the line is at home, or another request follows
          left_behind : (x p : ℕ) → IsNode d x → p < length after.queue.ends → (entry d x).done ≡ true → (entry d x).link ≡ 0 → p + 1 < length after.queue.order
          left_behind x p a l dn un = elim behind [
            | inl home ↦ let y : Home ≡ Mailbox x = sym home ∙ shows.matches.settled.boxed x a dn un in cc
            | inr more ↦ omega arith
          ]

          out_passing : PassedInv after.queue.order (view_after v.own.passed)
          out_passing = passing v.own.passed refl (ap (λ (s : NodeCall). s.passed) own_seat ∙ close_passed st.passed p st.reason) (let l = view_longer in omega arith) (λ _. let l = view_longer in omega arith)

          out_left : point d n ≡ Freeing → (i x p : ℕ) → At (seat d n).passed i x → At v.own.passed i p → (entry d x).done ≡ true → (entry d x).link ≡ 0 → p + 1 < length after.queue.order
          out_left fr i x p a b dn un =
              let same : x ≡ requester_at after.queue.order p = map_get (requester_at after.queue.order) v.own.passed i p x b (subst (λ (ps : List ℕ). At ps i x) out_passing.places a) in
              left_behind x p (subst (λ (m : ℕ). IsNode d m) (sym same) (shows.matches.nodes p (out_passing.last i p b).known)) (out_passing.ended fr i p b) dn un

          out_owes : Owes good allows key after v v.view.count x.joined v.own.passed z
          out_owes = record {
            kept = kept;
            lawful = λ m. absurd (never (leaving_lined (point d n) m.leaves) unlined);
            unjoined = λ q e. absurd (never (ap is_linking e) unlinking);
            waiting = λ e. absurd (never (ap is_queued e) unqueued);
            counts = counts;
            joins = joins_all key r.history after v ok h.via.joined;
            unwritten = λ e. absurd (never (ap has_line e) unlined);
            carries = λ e. absurd (never (leaving_lined (point d n) e) unlined);
            left = out_left;
            passes = out_passing;
          }

          pub out_turned : (words : List ℕ) (homes : Homes) → Represents d words homes → Done v.own.passed words homes
          out_turned words homes laid = turned good allows key s r me v at x h.via k is x.joined x.early x.late (grows_none x after (node_of e) refl refl refl) v.view.count x.joined v.own.passed z out_owes words homes laid

          seated : seat d n ≡ seat_with (map (requester_at x.queue.order) v.own.passed) p st.reason
          seated = own_seat ∙ ap (λ (ps : List ℕ). seat_with ps p st.reason) places

          pub goes_out : p ≡ point_at_end st.reason → ((m : ℕ) → d.place ≢ Hand m) → IsHandedOver v (view_after v.own.passed) z
          goes_out e nowhere = record {
            point = ap (λ (s : NodeCall). s.point) seated ∙ ap (λ (p : Point). (seat_with (map (requester_at x.queue.order) v.own.passed) p st.reason).point) e ∙ out_point (requester_at x.queue.order) st.reason v.own.passed z.closed h.shut;
            state = ap state_of seated ∙ ap (λ (p : Point). state_of (seat_with (map (requester_at x.queue.order) v.own.passed) p st.reason)) e ∙ out_state (requester_at x.queue.order) st.reason v.own.passed z.closed h.shut;
            passed = refl;
            unmarked = turn_unmarked shows nowhere;
            clear = λ none. own_cleared none (point_at_end st.reason) (ap (λ (s : NodeCall). s.point) seated ∙ ap (λ (ps : List ℕ). (seat_with (map (requester_at x.queue.order) ps) p st.reason).point) none ∙ e) (end_clear st.reason);
          }

          pub is_left : (v.own.passed ≡ [] → p ≡ Left) → ((m : ℕ) → d.place ≢ Hand m) → SuccessorUnlinked (view_after v.own.passed).view → IsLeftForLinker v (view_after v.own.passed) z
          is_left e nowhere short = record {
            point = ap (λ (s : NodeCall). s.point) seated ∙ left_point (requester_at x.queue.order) st.reason v.own.passed z.closed p e;
            state = ap state_of seated ∙ left_state (requester_at x.queue.order) st.reason v.own.passed z.closed p h.shut e;
            passed = refl;
            unmarked = turn_unmarked shows nowhere;
            short = short;
          }

      -- the node still has the line
      module _ (ends : after.queue.ends ≡ x.queue.ends) (p : Point) (leaving : is_leaving p ≡ true) (own_seat : seat d n ≡ record st { point = p }) (bytes : d.bytes ≡ x.core.bytes) (closed : d.closed ≡ x.core.closed) (mask : d.mask ≡ x.core.mask) (turns : d.left ≡ x.core.left) where
        stays_owes : Owes good allows key after v v.view.count x.joined v.own.passed z
        stays_owes = record {
          kept = subst (AreAllowed allows key.config.opening.bytes) (sym ends) h.via.history_inv.kept;
          lawful = λ m. let w : MayServe (record st { point = p }) = subst MayServe own_seat m in subst (λ (q : List End × Line64). allows (bytes_after key.config.opening.bytes q.0) q.1.bytes) (λ i. (sym ends i, sym bytes i)) (h.may w.passed w.serves);
          unjoined = λ q e. absurd (never (ap is_linking e) (ap (λ (s : NodeCall). is_linking s.point) own_seat ∙ leaving_unlinking p leaving));
          waiting = λ e. let w : is_leaving Queued ≡ true = ap is_leaving (sym e) ∙ ap (λ (s : NodeCall). is_leaving s.point) own_seat ∙ leaving in cc;
          counts = counts;
          joins = joins_all key r.history after v ok h.via.joined;
          unwritten = λ e. let w : is_leaving Holding ≡ true = ap is_leaving (sym e) ∙ ap (λ (s : NodeCall). is_leaving s.point) own_seat ∙ leaving in cc;
          carries = λ _. record {
            bytes = h.bytes ∙ sym bytes;
            closed = h.closed ∙ sym closed;
            turns = h.turns ∙ (λ i. left_after (sym turns i) (sym own_seat i).reason (sym own_seat i).passed);
            mask = λ m. let w : MayServe (record st { point = p }) = subst MayServe own_seat m in h.mask w.passed w.serves ∙ sym mask;
            shut = h.shut ∙ ap (λ (s : NodeCall). is_shut_by s.reason) (sym own_seat);
          };
          left = λ f. let w : is_leaving Freeing ≡ true = ap is_leaving (sym f) ∙ ap (λ (s : NodeCall). is_leaving s.point) own_seat ∙ leaving in cc;
          passes = passing v.own.passed refl (ap (λ (s : NodeCall). s.passed) own_seat) (let l = ap (λ (es : List End). length es) (ends ∙ sym h.ends) in omega arith) (λ f. let w : is_leaving Freeing ≡ true = ap is_leaving (sym f) ∙ ap (λ (s : NodeCall). is_leaving s.point) own_seat ∙ leaving in cc);
        }

        pub stays_turned : (words : List ℕ) (homes : Homes) → Represents d words homes → Done v.own.passed words homes
        stays_turned words homes laid = turned good allows key s r me v at x h.via k is x.joined x.early x.late (grows_none x after (node_of e) refl refl refl) v.view.count x.joined v.own.passed z stays_owes words homes laid

        pub carries_on : KeepsPayload v (view_after v.own.passed) z p
        carries_on = record {
          point_is = ap (λ (s : NodeCall). s.point) own_seat;
          state = ap state_of own_seat ∙ leaving_state p st.reason st.passed leaving ∙ sym h.state;
          count = refl;
          ends = ends ∙ sym h.ends;
          passed = refl;
          line_is = refl;
        }

  -- a release has passed fewer nodes than the line has
  pub few_passed : (length v.own.passed < key.config.nodes) × (length v.own.passed + 1 ≡ key.config.nodes → x.core.home ≡ last_or n st.passed)
  few_passed =
      let k = short sh.matches in
      let l : length st.passed ≡ length v.own.passed = ap (λ (ps : List ℕ). length ps) places ∙ length-map v.own.passed (requester_at x.queue.order) in
      let c = sh.matches.size in
      let a = k.passed n node in
      (omega arith, λ e. k.home n node h.lined (omega arith))

  -- if there is no link, the line is left for a late linker
  module _ {e : ℕ} (marking : point x.core n ≡ Marking e) (un : (entry x.core e).link ≡ 0) where
    pub left_short : (y : History) (w : LinkGhost) → HistoryInv allows key y → (seat y.core (requester_at x.queue.order (length x.queue.ends + 1)) ≡ seat x.core (requester_at x.queue.order (length x.queue.ends + 1)) × (y.queue.order ≡ x.queue.order) × (length y.queue.ends ≡ length x.queue.ends + 1)) → w.view.order ≡ y.queue.order → w.view.ends ≡ y.queue.ends → ((q : Request) → Has w.view.joined q → Has y.joined q) → SuccessorUnlinked w.view
    left_short y w history_inv same order ends joined =
        let t : ℕ = requester_at x.queue.order (length x.queue.ends + 1) in
        let more : length x.queue.ends + 1 < length x.queue.order = ((found sh).marks n e node marking).1 in
        let here : length y.queue.ends < length y.queue.order = let a = same.2 in let b = ap (λ (o : List Request). length o) same.1 in omega arith in
        let late : point y.core t ≡ Linking e = ap (λ (s : NodeCall). s.point) same.0 ∙ (found sh).late n e node marking un in
        let its : requester_at y.queue.order (length y.queue.ends) ≡ t = λ i. requester_at (same.1 i) (same.2 i) in
        let last : IsLast y.queue.order t (length y.queue.ends) = subst (λ (m : ℕ). IsLast y.queue.order m (length y.queue.ends)) its (history_inv.shown.matches.distinct (length y.queue.ends) (omega arith) here) in
        let made = last_is key.config.lease y.queue.order y.queue.ends t (length y.queue.ends) history_inv.shown.legal last in (
          request y.queue.order (length y.queue.ends),
          (λ i. slice_get (order i) (length (ends i))) ∙ get_request y.queue.order (length y.queue.ends) here,
          lacks_from w.view.joined (request y.queue.order (length y.queue.ends)) (λ j. never (subst (Has y.joined) made (joined (request y.queue.order (length y.queue.ends)) j)) (history_inv.unjoined t e (subst (λ (m : ℕ). IsNode y.core m) its (history_inv.shown.matches.nodes (length y.queue.ends) here)) late)),
        )

-- in the middle of a release, the line is as the view has it
pub holds_so : (good : List ℕ → Type 0) (allows : List ℕ → List ℕ → Type 0) (key : TableKey) (s : St good allows key) (r : Rule good allows key s) (me : ℕ) (v : LinkGhost) → get_elem? s.views me ≡ some (v ∷ []) → is_leaving v.own.seat.point ≡ true → Holds good allows key r.history v v.own.line r.history
holds_so good allows key s r me v at leaving =
    let ok : NodeInv key r.history v.view.node v = mine_ok good allows key s r me v at in
    let node = is_node good allows key s r me v at in
    let c = ok.stands.carries leaving in
    record {
      via = via_none good allows key r.history v r.history_inv;
      home = refl;
      entries = refl;
      lined = ap (λ (s : NodeCall). has_line s.point) (sym ok.stands.seat) ∙ leaving_lined v.own.seat.point leaving;
      passed = ap (λ (s : NodeCall). s.passed) (sym ok.stands.seat);
      state = ok.stands.state ∙ leaving_state v.own.seat.point v.own.seat.reason v.own.seat.passed leaving ∙ ap (λ (s : NodeCall). state_in_release s.reason s.passed) ok.stands.seat;
      ends = ok.stands.holds (leaving_lined v.own.seat.point leaving);
      bytes = c.bytes;
      closed = c.closed;
      turns = c.turns;
      mask = λ p w. c.mask (record { leaves = leaving; passed = ap (λ (s : NodeCall). s.passed) ok.stands.seat ∙ p; serves = ap (λ (s : NodeCall). serves s.reason) ok.stands.seat ∙ w });
      shut = c.shut ∙ ap (λ (s : NodeCall). is_shut_by s.reason) ok.stands.seat;
      may = λ p w. r.history_inv.lawful v.view.node node (record { leaves = ap (λ (s : NodeCall). is_leaving s.point) (sym ok.stands.seat) ∙ leaving; passed = p; serves = w });
    }

-- the slot in a hand has one line
abbrev line_in : Payload → List (ℕ × Payload) → Payload
line_in d [] = d
line_in d ((k, y) ∷ ys) = y

abbrev pub with_line : Payload → List (ℕ × Payload)
with_line z = (0, z) ∷ []

pub line_is : (z y : Payload) → with_line z ≡ with_line y → z ≡ y
line_is z y e = ap (line_in z) e
