-- Lemmas about what an event of one node leaves unchanged in the history of the line, and for the other nodes. An event
-- is a transition of the core, which is a state machine that models the link line.
use Rattle.std.proofs.Common.{◌≡◌, ◌≢◌, ◌⊎◌, ℕ, zero, suc, ◌+◌, ◌<◌, ◌≤◌, inl, inr, true, false, List, [], ◌∷◌, length, map, sym, refl, ap, ◌∙◌, subst, Option, Some, None, arith, get_or-set_other}
use Rattle.std.specs.Prelude.{slice_index_or, slice_set}
use Rattle.std.proofs.lemmas.Bool.{cases_lt}
use Rattle.std.proofs.lemmas.Option.{slice_get_within}
use mathlib.Core.Logic.{dite}
use native.Mathlib.Decide.{ℕ_discrete}
use Rattle.line_lanes.specs.declared.line.Line64.{Line64}
use Rattle.qolb_model.specs.declared.request.Request.{Request}
use Rattle.qolb_model.specs.declared.end.End.{End}
use Rattle.qolb_model.specs.declared.config.TheConstants.{MAX_NODES}
use Rattle.qolb_model.specs.EndKinds.{is_gone}
use Rattle.qolb_model.specs.Ends.{bytes_after}
use Rattle.qolb_model.specs.Histories.{Clears}
use Rattle.qolb_model.specs.Kept.{AreAllowed}
use Rattle.qolb_model.specs.Queue.{Queue, Move, ask, mark, finish}
use Rattle.qolb_model.specs.Requests.{Has, Lacks, has, last_of}
use Rattle.qolb_model.specs.Views.{IsSubset}
use Rattle.qolb_model.proofs.Clearing.{clears_later}
use Rattle.qolb_model.proofs.Lists.{never, same_some}
use Rattle.qolb_model.proofs.Prefixes.{prefix_trans, prefix_length, prefix_get}
use Rattle.qolb_model.proofs.Bounds.{prefix_get_back}
use Rattle.qolb_model.proofs.Requests.{has_left, has_prefix, place_of_request, same_place, lacks_from}
use Rattle.qolb_model.proofs.Runs.{clears_twice}
use Rattle.link_core.specs.declared.point.Point.{Point}
use Rattle.link_core.specs.declared.point.Point.TheVariants.{Idle, Ready, Linking, Queued, Holding, Leaving, Marking, Granting, Freeing, Left, Rolled, Shut}
use Rattle.link_core.specs.declared.seat.NodeCall.{NodeCall}
use Rattle.link_core.specs.declared.state.State.{State as Core}
use Rattle.link_core.specs.declared.entry.Entry.{Entry}
use Rattle.link_core.specs.declared.told.Told.{Told as Answer}
use Rattle.link_core.specs.declared.event.Event.{Event}
use Rattle.link_core.specs.State.{empty, entry, seat, point, IsNode, IsWide, is_clear}
use Rattle.link_core.specs.Steps.{Step, node_of, allows, left_after}
use Rattle.link_core.specs.Steps as row
use Rattle.link_core.specs.Moves.{move_of, made}
use Rattle.link_core.specs.Places.{request, requester_at, IsLast}
use Rattle.link_core.specs.Promise.{Keeps}
use Rattle.link_core.specs.Shown.{has_line, Shows}
use Rattle.link_core.proofs.Cases.{step_allowed}
use Rattle.link_core.proofs.Found.{found}
use Rattle.link_core.proofs.Orders.{get_request, request_got, last_once}
use Rattle.qolb_model.specs.declared.config.LineConfig.{LineConfig}
use Rattle.link_core.proofs.Sound.{step_sizes}
use Rattle.link_core.proofs.Steady.{step_shows, after_is}
use Rattle.link_line.specs.Ghost.{LinkGhost}
use Rattle.line_generic.specs.declared.table.TableKey.{TableKey}
use Rattle.link_line.specs.Links.{At, History, NodeInv, PointInv, PassedInv, JoinedInv, ViewInv, HistoryInv, IsFreed, MayServe, is_leaving}
use Rattle.link_line.specs.Laws.Histories.{clear_is, asked_by, joined_clear}

pub leaving_lined : (p : Point) → is_leaving p ≡ true → has_line p ≡ true
leaving_lined (Leaving e) a = refl
leaving_lined (Marking e) a = refl
leaving_lined (Granting e) a = refl
leaving_lined Idle a = cc
leaving_lined Ready a = cc
leaving_lined (Linking q) a = cc
leaving_lined Queued a = cc
leaving_lined Holding a = cc
leaving_lined Freeing a = cc
leaving_lined Left a = cc
leaving_lined Rolled a = cc
leaving_lined Shut a = cc

-- a node that has withdrawn only looks: its request is clear, or nothing changes
rolled_acts : {c d : Core} {e : Event} {t : Answer} (k : Step c e t d) → point c (node_of e) ≡ Rolled → (is_clear Rolled (entry c (node_of e)) ≡ true) ⊎ (d ≡ c)
rolled_acts {c = c} {e = e} k r = go k r (subst (λ (p : Point). allows e p ≡ true) r (step_allowed c k).1)
  where
    go : {d : Core} {e : Event} {t : Answer} (k : Step c e t d) → point c (node_of e) ≡ Rolled → allows e Rolled ≡ true → (is_clear Rolled (entry c (node_of e)) ≡ true) ⊎ (d ≡ c)
    go (row.load_free n a at fr) r z = inl (subst (λ (p : Point). is_clear p (entry c n) ≡ true) r fr)
    go (row.load_busy n a at un) r z = inr refl
    go (row.load_waiting n a at un) r z = inr refl
    go (row.load_granted n a at gr) r z = let q : Queued ≡ Rolled = sym at ∙ r in cc
    go _ r z = cc

-- a freed entry stays freed until it is cleared
freed_set : (es : List Entry) (k m : ℕ) (w : Entry) → ((slice_index_or es k empty).freed ≡ true → w.freed ≡ true) → (slice_index_or es m empty).freed ≡ true → (slice_index_or (slice_set es k w) m empty).freed ≡ true
freed_set [] k m w f e = e
freed_set (x ∷ xs) zero zero w f e = f e
freed_set (x ∷ xs) zero (suc m) w f e = e
freed_set (x ∷ xs) (suc k) zero w f e = e
freed_set (x ∷ xs) (suc k) (suc m) w f e = freed_set xs k m w f e

freed_stays : {c d : Core} {e : Event} {t : Answer} (k : Step c e t d) (m : ℕ) → m ≢ node_of e → (entry c m).freed ≡ true → (entry d m).freed ≡ true
freed_stays {c} (row.reset n a at) m ne f = ap (λ (w : Entry). w.freed) (get_or-set_other c.entries n m empty empty ne) ∙ f
freed_stays {c} (row.link_done n p a at dn) m ne f = freed_set c.entries p m _ (λ z. z) f
freed_stays {c} (row.link n p a at dn) m ne f = freed_set c.entries p m _ (λ z. z) f
freed_stays {c} (row.done_left n x a at un g) m ne f = freed_set c.entries x m _ (λ z. z) f
freed_stays {c} (row.done_rolled n x a at un g) m ne f = freed_set c.entries x m _ (λ z. z) f
freed_stays {c} (row.done_linked n x a at un) m ne f = freed_set c.entries x m _ (λ z. z) f
freed_stays {c} (row.grant n x a at un) m ne f = freed_set c.entries x m _ (λ z. z) f
freed_stays {c} (row.grant_rolled n x a at ro) m ne f = freed_set c.entries x m _ (λ z. z) f
freed_stays {c} (row.roll_granted n a at gr) m ne f = freed_set c.entries n m _ (λ z. z) f
freed_stays {c} (row.roll n a at un) m ne f = freed_set c.entries n m _ (λ z. z) f
freed_stays {c} (row.freed n x rest a at ps) m ne f = freed_set c.entries x m _ (λ z. refl) f
freed_stays _ m ne f = f

-- an entry that is done and has no link was so before, if its node has withdrawn and its request has ended
record IsBoxed (w : Entry) : Type 0 where
  done : w.done ≡ true
  unlinked : w.link ≡ 0

boxed_set : (es : List Entry) (k m : ℕ) (w : Entry) → (k ≡ m → IsBoxed w → IsBoxed (slice_index_or es m empty)) → IsBoxed (slice_index_or (slice_set es k w) m empty) → IsBoxed (slice_index_or es m empty)
boxed_set [] k m w f b = b
boxed_set (x ∷ xs) zero zero w f b = f refl b
boxed_set (x ∷ xs) zero (suc m) w f b = b
boxed_set (x ∷ xs) (suc k) zero w f b = b
boxed_set (x ∷ xs) (suc k) (suc m) w f b = boxed_set xs k m w (λ e. f (ap suc e)) b

-- if the entry's link and flag are unchanged
boxed_same : (c : Core) (k m : ℕ) (w : Entry) → w.done ≡ (entry c k).done → w.link ≡ (entry c k).link → k ≡ m → IsBoxed w → IsBoxed (entry c m)
boxed_same c k m w a b e o = subst (λ (q : ℕ). IsBoxed (entry c q)) e (record { done = sym a ∙ o.done; unlinked = sym b ∙ o.unlinked })

module _ {config : LineConfig} {c : Core} {q : Queue} (s : Shows config c q) (m p : ℕ) (rolled : point c m ≡ Rolled) (last : IsLast q.order m p) (over : p < length q.ends) where
  -- no release reaches it
  unmarked : {A : Type 0} (n e : ℕ) → IsNode c n → point c n ≡ Marking e → e ≡ m → A
  unmarked n e a at same =
      let turn = subst (λ (x : ℕ). IsLast q.order x (length q.ends)) (((found s).marks n e a at).0 ∙ same) ((found s).turn n a (ap has_line at)) in
      let here = last_once q.order m p (length q.ends) last turn in
      absurd (omega arith)

  boxed_back : {d : Core} {e : Event} {t : Answer} (k : Step c e t d) → IsBoxed (entry d m) → IsBoxed (entry c m)
  boxed_back (row.reset n a (inl at)) = boxed_set c.entries n m _ (λ e o. let z : Idle ≡ Rolled = sym at ∙ ap (point c) e ∙ rolled in cc)
  boxed_back (row.reset n a (inr at)) = boxed_set c.entries n m _ (λ e o. let z : Shut ≡ Rolled = sym at ∙ ap (point c) e ∙ rolled in cc)
  boxed_back (row.link_done n x a at dn) = boxed_set c.entries x m _ (λ e o. let l = o.unlinked in let b = a.0 in absurd (omega arith))
  boxed_back (row.link n x a at dn) = boxed_set c.entries x m _ (λ e o. let l = o.unlinked in let b = a.0 in absurd (omega arith))
  boxed_back (row.done_left n x a at un g) = boxed_set c.entries x m _ (λ e o. unmarked n x a at e)
  boxed_back (row.done_rolled n x a at un g) = boxed_set c.entries x m _ (λ e o. unmarked n x a at e)
  boxed_back (row.done_linked n x a at un) = boxed_set c.entries x m _ (λ e o. unmarked n x a at e)
  boxed_back (row.grant n x a at un) = boxed_set c.entries x m _ (boxed_same c x m _ refl refl)
  boxed_back (row.grant_rolled n x a at ro) = boxed_set c.entries x m _ (boxed_same c x m _ refl refl)
  boxed_back (row.roll_granted n a at gr) = boxed_set c.entries n m _ (boxed_same c n m _ refl refl)
  boxed_back (row.roll n a at un) = boxed_set c.entries n m _ (boxed_same c n m _ refl refl)
  boxed_back (row.freed n x rest a at ps) = boxed_set c.entries x m _ (boxed_same c x m _ refl refl)
  boxed_back _ = λ o. o

  pub was_boxed : {d : Core} {e : Event} {t : Answer} (k : Step c e t d) → (entry d m).done ≡ true → (entry d m).link ≡ 0 → ((entry c m).done ≡ true) × ((entry c m).link ≡ 0)
  was_boxed k a b = let o = boxed_back k (record { done = a; unlinked = b }) in (o.done, o.unlinked)

-- only a node that is ready makes a request
unasked : {c d : Core} {e : Event} {t : Answer} (k : Step c e t d) (q : Queue) → point c (node_of e) ≢ Ready → (made q (move_of k q.order)).order ≡ q.order
unasked (row.prepend_first n a at z) q ne = absurd (ne at)
unasked (row.prepend n a at z) q ne = absurd (ne at)
unasked _ q ne = refl

marks_made : (q : Queue) (m : Option Move) → IsSubset q.marked (made q m).marked
marks_made q None r h = h
marks_made q (Some (ask n)) r h = h
marks_made q (Some (mark x)) r h = has_left q.marked (x ∷ []) r h
marks_made q (Some (finish e)) r h = h

clears_made : (q : Queue) (m : Option Move) → (made q m).clear ≡ q.clear
clears_made q None = refl
clears_made q (Some (ask n)) = refl
clears_made q (Some (mark x)) = refl
clears_made q (Some (finish e)) = refl

-- lists of numbers that are read off a list of places
map_at : (g : ℕ → ℕ) (xs : List ℕ) (i p : ℕ) → At xs i p → (i < length (map g xs)) × (slice_index_or (map g xs) i 0 ≡ g p)
map_at g [] i p e = let z : None ≡ Some p = e in cc z
map_at g (x ∷ xs) zero p e = (omega arith, ap g (same_some e))
map_at g (x ∷ xs) (suc i) p e = let k = map_at g xs i p e in (let l = k.0 in omega arith, k.1)

pub map_get : (g : ℕ → ℕ) (xs : List ℕ) (i p z : ℕ) → At xs i p → At (map g xs) i z → z ≡ g p
map_get g [] i p z a b = let e : None ≡ Some p = a in cc e
map_get g (x ∷ xs) zero p z a b = sym (same_some b) ∙ ap g (same_some a)
map_get g (x ∷ xs) (suc i) p z a b = map_get g xs i p z a b

pub map_same : (g h : ℕ → ℕ) (xs : List ℕ) → ((i p : ℕ) → At xs i p → g p ≡ h p) → map g xs ≡ map h xs
map_same g h [] e = refl
map_same g h (x ∷ xs) e = λ j. e 0 x refl j ∷ map_same g h xs (λ i p at. e (suc i) p at) j

-- how the sets of a past grow by an act of n
pub record SetsGrow (x y : History) (n : ℕ) : Type 0 where
  pub joined : IsSubset x.joined y.joined
  pub early : IsSubset x.early y.early
  pub late : IsSubset x.late y.late
  pub new_joined : (r : Request) → Has y.joined r → Has x.joined r ⊎ ((r.node ≡ n) × Has y.queue.order r)
  pub new_early : (r : Request) → Has y.early r → Has x.early r ⊎ (IsFreed y.core y.queue.order r × Lacks y.queue.clear r)
  pub new_late : (r : Request) → Has y.late r → Has x.late r ⊎ (Has y.queue.clear r × (Has x.early r ⊎ Has x.late r → ⊥))

module _ (allows : List ℕ → List ℕ → Type 0) (key : TableKey) (few : key.config.nodes ≤ MAX_NODES) (x : History) (f : HistoryInv allows key x) where
  pub wide : IsWide x.core
  wide = let a = f.shown.matches.size in let b = few in let c = f.entries in let d = f.seats in record { entries = omega arith; seats = omega arith }

  module _ {e : Event} {t : Answer} {d : Core} (k : Step x.core e t d) where
    pub on : Keeps key.config x.core e t d k x.queue
    on = step_shows key.config x.core x.queue wide f.shown k

    -- the past after the event, with these sets
    abbrev pub next : List Request → List Request → List Request → History
    next joined early late = record { core = d; queue = on.after; joined = joined; early = early; late = late }

    pub marks_next : IsSubset x.queue.marked on.after.marked
    marks_next r h = subst (λ (q : Queue). Has q.marked r) (sym (after_is on)) (marks_made x.queue (move_of k x.queue.order) r h)

    pub order_same : point x.core (node_of e) ≢ Ready → on.after.order ≡ x.queue.order
    order_same ne = ap (λ (q : Queue). q.order) (after_is on) ∙ unasked k x.queue ne

    clears_next : Clears on.after.order (length on.after.ends) [] on.after.clear
    clears_next = clears_twice on.after.order (length on.after.ends) [] x.queue.clear on.after.clear
        (clears_later on.spared.order (prefix_length x.queue.ends on.after.ends on.spared.ends) f.cleared)
        (subst (λ (y : Queue). Clears y.order (length y.ends) x.queue.clear y.clear) (sym on.goes.cleared.2) (subst (λ (l : List Request). Clears (made x.queue (move_of k x.queue.order)).order (length (made x.queue (move_of k x.queue.order)).ends) l on.goes.cleared.0) (clears_made x.queue (move_of k x.queue.order)) on.goes.cleared.1))

    -- a request that was freed stays freed
    module _ (r : Request) where
      freed_other : r.node ≢ node_of e → IsFreed x.core x.queue.order r → IsFreed d on.after.order r
      freed_other ne i = record {
        at = i.at;
        here = prefix_get x.queue.order on.after.order i.at r on.spared.order i.here;
        last = on.spared.last r.node i.at ne i.last;
        rolled = ap (λ (s : NodeCall). s.point) (on.spared.seats r.node ne) ∙ i.rolled;
        freed = freed_stays k r.node ne i.freed;
      }

      freed_own : r.node ≡ node_of e → IsFreed x.core x.queue.order r → Has on.after.clear r ⊎ IsFreed d on.after.order r
      freed_own same i = elim (rolled_acts k (ap (point x.core) (sym same) ∙ i.rolled)) [
        | inl clear ↦ inl (has_prefix x.queue.clear on.after.clear r on.spared.clear (clear_is f.shown r (asked_by f.shown i.at r i.here) i ∙ ap (λ (n : ℕ). is_clear Rolled (entry x.core n)) same ∙ clear))
        | inr stays ↦ inr (subst (λ (z : Core × List Request). IsFreed z.0 z.1 r) (λ j. (sym stays j, sym (order_same (λ z. let w : Ready ≡ Rolled = sym z ∙ ap (point x.core) (sym same) ∙ i.rolled in cc)) j)) i)
      ]

      pub freed_next : Has x.queue.clear r ⊎ IsFreed x.core x.queue.order r → Has on.after.clear r ⊎ IsFreed d on.after.order r
      freed_next (inl h) = inl (has_prefix x.queue.clear on.after.clear r on.spared.clear h)
      freed_next (inr i) = dite (ℕ_discrete r.node (node_of e)) (λ same. freed_own same i) (λ ne. inr (freed_other ne i))

    lawful_else : (m : ℕ) → m ≢ node_of e → IsNode x.core m → MayServe (seat d m) → allows (bytes_after key.config.opening.bytes on.after.ends) d.bytes.bytes
    lawful_else m i a s =
        let was : MayServe (seat x.core m) = subst MayServe (on.spared.seats m i) s in
        let l = on.spared.line m i a (leaving_lined (point x.core m) was.leaves) in
        subst (λ (z : Line64 × List End). allows (bytes_after key.config.opening.bytes z.1) z.0.bytes) (λ j. (sym l.0 j, sym l.4 j)) (f.lawful m a was)

    module _ (joined early late : List Request) (grows : SetsGrow x (next joined early late) (node_of e)) where
      abbrev y : History
      y = next joined early late

      unjoined_else : (m q : ℕ) → m ≢ node_of e → IsNode d m → point d m ≡ Linking q → Lacks joined (last_of m on.after.order)
      unjoined_else m q ne a at = lacks_from joined (last_of m on.after.order) (λ h. elim (grows.new_joined (last_of m on.after.order) h) [
        | inl old ↦ never old (ap (λ (c : ℕ). has x.joined (record { node = m; number = c })) (on.spared.asks m ne) ∙ f.unjoined m q (a.0, subst (λ (z : ℕ). m ≤ z) (step_sizes x.core k).0 a.1) (ap (λ (s : NodeCall). s.point) (sym (on.spared.seats m ne)) ∙ at))
        | inr new ↦ absurd (ne new.0)
      ])

      waiting_else : (m : ℕ) → m ≢ node_of e → IsNode d m → point d m ≡ Queued → Has joined (last_of m on.after.order)
      waiting_else m ne a at = grows.joined (last_of m on.after.order) (ap (λ (c : ℕ). has x.joined (record { node = m; number = c })) (on.spared.asks m ne) ∙ f.waiting m (a.0, subst (λ (z : ℕ). m ≤ z) (step_sizes x.core k).0 a.1) (ap (λ (s : NodeCall). s.point) (sym (on.spared.seats m ne)) ∙ at))

      -- the invariant's part for the history alone
      pub fine_next : AreAllowed allows key.config.opening.bytes on.after.ends → (MayServe (seat d (node_of e)) → allows (bytes_after key.config.opening.bytes on.after.ends) d.bytes.bytes) → ((q : ℕ) → point d (node_of e) ≡ Linking q → Lacks joined (last_of (node_of e) on.after.order)) → (point d (node_of e) ≡ Queued → Has joined (last_of (node_of e) on.after.order)) → HistoryInv allows key y
      fine_next kept lawful unjoined waiting = record {
        entries = (step_sizes x.core k).1 ∙ f.entries;
        seats = (step_sizes x.core k).2 ∙ f.seats;
        shown = on.shows;
        cleared = clears_next;
        kept = kept;
        lawful = λ m a s. dite (ℕ_discrete m (node_of e))
            (λ i. lawful (subst (λ (m : ℕ). MayServe (seat d m)) i s))
            (λ i. lawful_else m i (a.0, subst (λ (q : ℕ). m ≤ q) (step_sizes x.core k).0 a.1) s);
        joined = λ r h. elim (grows.new_joined r h) [ inl old ↦ has_prefix x.queue.order on.after.order r on.spared.order (f.joined r old) | inr new ↦ new.1 ];
        unjoined = λ m q a at. dite (ℕ_discrete m (node_of e))
            (λ i. subst (λ (m : ℕ). Lacks joined (last_of m on.after.order)) (sym i) (unjoined q (ap (point d) (sym i) ∙ at)))
            (λ i. unjoined_else m q i a at);
        waiting = λ m a at. dite (ℕ_discrete m (node_of e))
            (λ i. subst (λ (m : ℕ). Has joined (last_of m on.after.order)) (sym i) (waiting (ap (point d) (sym i) ∙ at)))
            (λ i. waiting_else m i a at);
        freed = λ r h. elim h [
          | inl now ↦ elim (grows.new_early r now) [ inl old ↦ freed_next r (f.freed r (inl old)) | inr new ↦ inr new.0 ]
          | inr now ↦ elim (grows.new_late r now) [ inl old ↦ freed_next r (f.freed r (inr old)) | inr new ↦ inl new.0 ]
        ];
      }

      -- another node
      module _ (history_inv : HistoryInv allows key y) (m : ℕ) (v : LinkGhost) (node : IsNode x.core m) (ne : m ≢ node_of e) (ok : NodeInv key x m v) where
        line : has_line v.own.seat.point ≡ true → (d.bytes ≡ x.core.bytes) × (d.closed ≡ x.core.closed) × (d.mask ≡ x.core.mask) × (d.left ≡ x.core.left) × (on.after.ends ≡ x.queue.ends)
        line l = on.spared.line m ne node (ap (λ (s : NodeCall). has_line s.point) (sym ok.stands.seat) ∙ l)

        own_ends : (p : ℕ) (r : Request) (z : End) → At on.after.order p r → r.node ≡ m → At on.after.ends p z → is_gone z ≡ false → p < length v.view.ends
        own_ends p r z at mine en g = elim (cases_lt p (length x.queue.ends)) [
          | inl old ↦ ok.knows.own_ends p r z (prefix_get_back x.queue.order on.after.order p r on.spared.order (let w = f.shown.matches.known in omega arith) at) mine (prefix_get_back x.queue.ends on.after.ends p z on.spared.ends old en) g
          | inr new ↦ absurd (ne (sym mine ∙ on.spared.its p r z new at en g))
        ]

        knowing : ViewInv on.after m v.view
        knowing = record {
          orders = prefix_trans v.view.order x.queue.order on.after.order ok.knows.orders on.spared.order;
          endings = prefix_trans v.view.ends x.queue.ends on.after.ends ok.knows.endings on.spared.ends;
          clears = prefix_trans v.view.clear x.queue.clear on.after.clear ok.knows.clears on.spared.clear;
          counts = on.spared.asks m ne ∙ ok.knows.counts;
          placed = λ p l. ok.knows.placed p (on.spared.back m p ne l);
          own_ends = own_ends;
          own_marks = λ r mine. ok.knows.own_marks r mine ∙ sym (on.spared.marks r (λ z. ne (sym mine ∙ z)));
          all_marked = λ r h. marks_next r (ok.knows.all_marked r h);
        }

        -- a joined request that it knows stood in the order before
        last_joined : (p : ℕ) (r q : Request) → At on.after.order p r → At on.after.order (p + 1) q → Has early r → Has v.view.joined q → Has v.view.clear r
        last_joined p r q here behind h j =
            let known = place_of_request x.queue.order q (f.joined q (ok.joins.all_joined q j)) in
            let same : known.0 ≡ p + 1 = same_place on.after.order on.shows.legal.numbered known.0 (p + 1) q (prefix_get x.queue.order on.after.order known.0 q on.spared.order known.1) behind in
            let within = slice_get_within x.queue.order known.0 q known.1 in
            elim (grows.new_early r h) [
              | inl old ↦ ok.joins.joined_last p r q (prefix_get_back x.queue.order on.after.order p r on.spared.order (omega arith) here) (subst (λ (z : ℕ). At x.queue.order z q) same known.1) old j
              | inr new ↦ absurd (never (joined_clear on.shows joined history_inv.unjoined p r q here behind new.0 (grows.joined q (ok.joins.all_joined q j))) new.1)
            ]

        joining : JoinedInv y m v.view
        joining = record {
          own_joined = λ r mine h. elim (grows.new_joined r h) [ inl old ↦ ok.joins.own_joined r mine old | inr new ↦ absurd (ne (sym mine ∙ new.0)) ];
          all_joined = λ r h. grows.joined r (ok.joins.all_joined r h);
          all_freed = λ r h. elim (ok.joins.all_freed r h) [ inl z ↦ inl (grows.early r z) | inr z ↦ inr (grows.late r z) ];
          joined_last = last_joined;
          freed_last = λ r h now. elim (grows.new_late r now) [ inl old ↦ ok.joins.freed_last r h old | inr new ↦ absurd (new.1 (ok.joins.all_freed r h)) ];
        }

        -- a passed request stays its node's last
        module _ (i p : ℕ) (at : At v.own.passed i p) where
          was : IsLast x.queue.order (requester_at x.queue.order p) p
          was = ok.passes.last i p at

          same_requester : requester_at on.after.order p ≡ requester_at x.queue.order p
          same_requester = ap (λ (z : Request). z.node) (request_got on.after.order p (request x.queue.order p) (prefix_get x.queue.order on.after.order p (request x.queue.order p) on.spared.order (get_request x.queue.order p was.known)))

          still_last : point x.core (requester_at x.queue.order p) ≡ Rolled → IsLast on.after.order (requester_at on.after.order p) p
          still_last rolled = subst (λ (n : ℕ). IsLast on.after.order n p) (sym same_requester) (dite (ℕ_discrete (requester_at x.queue.order p) (node_of e))
              (λ same. subst (λ (o : List Request). IsLast o (requester_at x.queue.order p) p) (sym (order_same (λ z. let w : Ready ≡ Rolled = sym z ∙ ap (point x.core) (sym same) ∙ rolled in cc))) was)
              (λ other. on.spared.last (requester_at x.queue.order p) p other was))

          rolled : point x.core (requester_at x.queue.order p) ≡ Rolled
          rolled =
              let k = map_at (requester_at x.queue.order) v.own.passed i p at in
              let same : (seat x.core m).passed ≡ map (requester_at x.queue.order) v.own.passed = sym (ap (λ (s : NodeCall). s.passed) ok.stands.seat) ∙ ok.passes.places in
              subst (λ (n : ℕ). point x.core n ≡ Rolled) (ap (λ (ps : List ℕ). slice_index_or ps i 0) same ∙ k.1) (f.shown.matches.passes m i node (subst (λ (ps : List ℕ). i < length ps) (sym same) k.0)).point

        standing : PointInv d on.after.ends m v
        standing = record {
          seat = ok.stands.seat ∙ sym (on.spared.seats m ne);
          state = ok.stands.state;
          holds = λ l. ok.stands.holds l ∙ sym (line l).4;
          unwritten = λ h. (line (ap has_line h)).2 ∙ ok.stands.unwritten h;
          carries = λ l. let z = line (leaving_lined v.own.seat.point l) in let c = ok.stands.carries l in record {
            bytes = c.bytes ∙ sym z.0;
            closed = c.closed ∙ sym z.1;
            turns = c.turns ∙ (λ i. left_after (sym z.3 i) (sym (on.spared.seats m ne) i).reason (sym (on.spared.seats m ne) i).passed);
            mask = λ s. c.mask s ∙ sym z.2;
            shut = c.shut;
          };
          left = λ fr i z p a b dn un.
              let same : z ≡ requester_at x.queue.order p = map_get (requester_at x.queue.order) v.own.passed i p z b (subst (λ (ps : List ℕ). At ps i z) ok.passes.places a) in
              let e = ok.passes.ended fr i p b in
              let l = prefix_length v.view.ends x.queue.ends ok.knows.endings in
              let o = was_boxed f.shown (requester_at x.queue.order p) p (rolled i p b) (was i p b) (omega arith) k (ap (λ (n : ℕ). (entry d n).done) (sym same) ∙ dn) (ap (λ (n : ℕ). (entry d n).link) (sym same) ∙ un) in
              ok.stands.left fr i z p a b (ap (λ (n : ℕ). (entry x.core n).done) same ∙ o.0) (ap (λ (n : ℕ). (entry x.core n).link) same ∙ o.1);
        }

        passing : PassedInv on.after.order v
        passing = record {
          places = ok.passes.places ∙ map_same (requester_at x.queue.order) (requester_at on.after.order) v.own.passed (λ i p at. sym (same_requester i p at));
          last = λ i p at. still_last i p at (rolled i p at);
          known = ok.passes.known;
          within = ok.passes.within;
          ended = ok.passes.ended;
        }

        pub others_next : NodeInv key y m v
        others_next = record { who = ok.who; knows = knowing; joins = joining; stands = standing; passes = passing }
