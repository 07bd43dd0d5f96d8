-- Lemmas about how an event of the core changes the seat of the node to which the event belongs. The core is a state
-- machine that models the link line.
use Rattle.std.proofs.Common.{◌≡◌, ◌≢◌, ℕ, ◌+◌, ◌<◌, ◌≤◌, inl, inr, Bool, true, false, List, [], ◌∷◌, length, map, ◌++◌, set, sym, refl, ap, ◌∙◌, subst, Some, None, slice_get}
use mathlib.Core.Option.{some}
use mathlib.Core.List.{IsPrefix}
use lib.ListN.{get_elem?}
use Rattle.std.proofs.lemmas.Option.{slice_get_within}
use Rattle.qolb_model.specs.declared.request.Request.{Request}
use Rattle.qolb_model.specs.declared.config.TheConstants.{MAX_NODES}
use Rattle.qolb_model.specs.declared.answer.PortState.TheVariants as port_state
use Rattle.qolb_model.specs.Ends.{bytes_after}
use Rattle.qolb_model.specs.Kept.{AreAllowed}
use Rattle.qolb_model.specs.Queue.{Queue}
use Rattle.qolb_model.specs.Requests.{Has, Lacks, has, count_of, last_of}
use Rattle.qolb_model.specs.Sound.{Continues}
use Rattle.qolb_model.specs.Views.{own, IsSubset}
use Rattle.qolb_model.proofs.Agreeing.{extends_trans}
use Rattle.qolb_model.proofs.Prefixes.{prefix_self, prefix_trans}
use Rattle.qolb_model.proofs.Requests.{has_prefix, has_left, has_last, has_push}
use Rattle.link_core.specs.declared.point.Point.TheVariants.{Linking, Queued, Holding, Freeing}
use Rattle.link_core.specs.declared.state.State.{State as Core}
use Rattle.link_core.specs.declared.told.Told.{Told as Answer}
use Rattle.link_core.specs.declared.event.Event.{Event}
use Rattle.link_core.specs.State.{entry, seat, point, no_mask}
use Rattle.link_core.specs.Steps.{Step, node_of, seat_at_arrival}
use Rattle.link_core.specs.Places.{requester_at, IsLast}
use Rattle.link_core.specs.Shown.{has_line, is_rolled, Shows}
use Rattle.link_core.proofs.Orders.{get_request, last_is}
use Rattle.link_line.specs.Ghost.{LinkGhost}
use Rattle.line_generic.specs.declared.table.Payload.{Payload}
use Rattle.line_generic.specs.declared.table.TableKey.{TableKey}
use Rattle.link_line.specs.Links.{At, History, NodeInv, PassedInv, IsInHand, HistoryInv, Represents, Homes, MayServe, is_leaving, state_of}
use Rattle.link_line.specs.Steps.{Advances}
use Rattle.link_line.specs.Laws.Histories.{joined_clear, continues}
use Rattle.link_line.proofs.Going.{SetsGrow, next, on, fine_next, others_next, marks_next}
use Rattle.link_line.specs.Laws.Nodes.{St, Rule, low, mine_ok}
use Rattle.link_line.proofs.Laying.{rule_step}

-- the view of a node that learns all that there is
abbrev pub whole : History → LinkGhost → ℕ → List Request → List ℕ → Payload → LinkGhost
whole y v count joined passed line = record {
  view = record v.view { count = count; state = state_of (seat y.core v.view.node); order = y.queue.order; ends = y.queue.ends; clear = y.queue.clear; joined = joined; marked = y.queue.marked };
  own = record { seat = seat y.core v.view.node; passed = passed; line = line };
  steps = v.steps + 1;
}

-- nothing joined or freed
pub grows_none : (x y : History) (n : ℕ) → y.joined ≡ x.joined → y.early ≡ x.early → y.late ≡ x.late → SetsGrow x y n
grows_none x y n a b c = record {
  joined = λ r h. subst (λ rs. Has rs r) (sym a) h;
  early = λ r h. subst (λ rs. Has rs r) (sym b) h;
  late = λ r h. subst (λ rs. Has rs r) (sym c) h;
  new_joined = λ r h. inl (subst (λ rs. Has rs r) a h);
  new_early = λ r h. inl (subst (λ rs. Has rs r) b h);
  new_late = λ r h. inl (subst (λ rs. Has rs r) c h);
}

-- the request r, of n, is joined
pub grows_joined : (x y : History) (n : ℕ) (r : Request) → r.node ≡ n → Has y.queue.order r → y.joined ≡ x.joined ++ r ∷ [] → y.early ≡ x.early → y.late ≡ x.late → SetsGrow x y n
grows_joined x y n r its known a b c = record {
  joined = λ z h. subst (λ rs. Has rs z) (sym a) (has_left x.joined (r ∷ []) z h);
  early = λ z h. subst (λ rs. Has rs z) (sym b) h;
  late = λ z h. subst (λ rs. Has rs z) (sym c) h;
  new_joined = λ z h. elim (has_push x.joined r z (subst (λ rs. Has rs z) a h)) [ inl old ↦ inl old | inr new ↦ inr (ap (λ (q : Request). q.node) new ∙ its, subst (Has y.queue.order) (sym new) known) ];
  new_early = λ z h. inl (subst (λ rs. Has rs z) b h);
  new_late = λ z h. inl (subst (λ rs. Has rs z) c h);
}

-- of the node's own requests these are joined, and perhaps others; they are at least those of before
pub record Joins (y : History) (v : LinkGhost) (joins : List Request) : Type 0 where
  pub own_joined : (r : Request) → r.node ≡ v.view.node → Has y.joined r → Has joins r
  pub all_joined : IsSubset joins y.joined
  pub more_joined : IsSubset v.view.joined joins

pub joins_same : (key : TableKey) (x y : History) (v : LinkGhost) → NodeInv key x v.view.node v → y.joined ≡ x.joined → Joins y v v.view.joined
joins_same key x y v ok e = record {
  own_joined = λ r mine h. ok.joins.own_joined r mine (subst (λ rs. Has rs r) e h);
  all_joined = λ r h. subst (λ rs. Has rs r) (sym e) (ok.joins.all_joined r h);
  more_joined = λ r h. h;
}

-- all joined requests are
pub joins_all : (key : TableKey) (x y : History) (v : LinkGhost) → NodeInv key x v.view.node v → y.joined ≡ x.joined → Joins y v y.joined
joins_all key x y v ok e = record {
  own_joined = λ r mine h. h;
  all_joined = λ r h. h;
  more_joined = λ r h. subst (λ rs. Has rs r) (sym e) (ok.joins.all_joined r h);
}

pub joins_push : (key : TableKey) (x y : History) (v : LinkGhost) (own : Request) → NodeInv key x v.view.node v → y.joined ≡ x.joined ++ own ∷ [] → Joins y v (v.view.joined ++ own ∷ [])
joins_push key x y v own ok e = record {
  own_joined = λ r mine h. elim (has_push x.joined own r (subst (λ rs. Has rs r) e h)) [
    | inl old ↦ has_left v.view.joined (own ∷ []) r (ok.joins.own_joined r mine old)
    | inr new ↦ subst (Has (v.view.joined ++ own ∷ [])) (sym new) (has_last v.view.joined own)
  ];
  all_joined = λ r h. subst (λ rs. Has rs r) (sym e) (elim (has_push v.view.joined own r h) [
    | inl old ↦ has_left x.joined (own ∷ []) r (ok.joins.all_joined r old)
    | inr new ↦ subst (Has (x.joined ++ own ∷ [])) (sym new) (has_last x.joined own)
  ]);
  more_joined = λ r h. has_left v.view.joined (own ∷ []) r h;
}

-- nothing is passed
pub passes_none : (order : List Request) (w : LinkGhost) → w.own.seat.passed ≡ [] → w.own.passed ≡ [] → PassedInv order w
passes_none order w e f = record {
  places = e ∙ ap (λ (ps : List ℕ). map (requester_at order) ps) (sym f);
  last = λ i p at. none i p at;
  known = λ i p at. none i p at;
  within = λ i p at. none i p at;
  ended = λ _ i p at. none i p at;
}
  where
    none : {A : Type 0} (i p : ℕ) → At w.own.passed i p → A
    none i p at = let z : None ≡ Some p = sym (ap (λ (ps : List ℕ). slice_get ps i) f) ∙ at in cc z

-- one step, which is counted
pub goes_step : (allows : List ℕ → List ℕ → Type 0) (v w : LinkGhost) (before after : List (ℕ × Payload)) → Continues allows v.view w.view → w.steps ≡ v.steps + 1 → Advances allows (v ∷ [], before) (w ∷ [], after) 1
goes_step allows v w before after c n = record {
  of_one_node = refl;
  extends = c.extends;
  continues = λ u b. record { extends = extends_trans u v.view w.view b.extends c.extends; history = c.history; kept = c.kept; freed_clear = c.freed_clear; own_history = c.own_history };
  steps = n;
}

pub arrival_lined : (n : ℕ) (b : Bool) → has_line (seat_at_arrival n b).point ≡ true
arrival_lined n true = refl
arrival_lined n false = refl

pub arrival_state : (n : ℕ) (b : Bool) → state_of (seat_at_arrival n b) ≡ port_state.Holding
arrival_state n true = refl
arrival_state n false = refl

pub arrival_passed : (n : ℕ) (b : Bool) → (seat_at_arrival n b).passed ≡ []
arrival_passed n true = refl
arrival_passed n false = refl

pub arrival_unserved : (n : ℕ) (b : Bool) → MayServe (seat_at_arrival n b) → ⊥
arrival_unserved n true s = let z = s.serves in cc
arrival_unserved n false s = let z = s.leaves in cc

pub arrival_unlinked : (n q : ℕ) (b : Bool) → (seat_at_arrival n b).point ≡ Linking q → ⊥
arrival_unlinked n q true e = cc
arrival_unlinked n q false e = cc

pub arrival_unqueued : (n : ℕ) (b : Bool) → (seat_at_arrival n b).point ≡ Queued → ⊥
arrival_unqueued n true e = cc
arrival_unqueued n false e = cc

pub arrival_unfreeing : (n : ℕ) (b : Bool) → (seat_at_arrival n b).point ≡ Freeing → ⊥
arrival_unfreeing n true e = cc
arrival_unfreeing n false e = cc

module _ (good : List ℕ → Type 0) (allows : List ℕ → List ℕ → Type 0) (key : TableKey) where
  -- What an event must show if it leads to the past y, with its node's count of requests, the requests that it knows to
  -- be joined, the places that it has passed, and the line in its hand.
  pub record Owes (y : History) (v : LinkGhost) (count : ℕ) (joined : List Request) (passed : List ℕ) (line : Payload) : Type 0 where
    pub kept : AreAllowed allows key.config.opening.bytes y.queue.ends
    pub lawful : MayServe (seat y.core v.view.node) → allows (bytes_after key.config.opening.bytes y.queue.ends) y.core.bytes.bytes
    pub unjoined : (q : ℕ) → point y.core v.view.node ≡ Linking q → Lacks y.joined (last_of v.view.node y.queue.order)
    pub waiting : point y.core v.view.node ≡ Queued → Has y.joined (last_of v.view.node y.queue.order)
    pub counts : count_of v.view.node y.queue.order ≡ count
    pub joins : Joins y v joined
    pub unwritten : point y.core v.view.node ≡ Holding → y.core.mask ≡ no_mask
    pub carries : is_leaving (point y.core v.view.node) ≡ true → IsInHand y.core v.view.node (seat y.core v.view.node) line
    pub passes : PassedInv y.queue.order (whole y v count joined passed line)
    pub left : point y.core v.view.node ≡ Freeing → (i x p : ℕ) → At (seat y.core v.view.node).passed i x → At passed i p → (entry y.core x).done ≡ true → (entry y.core x).link ≡ 0 → p + 1 < length y.queue.order

  -- a history that differs from the invariant's by what the node did in its hand
  pub record Via (x0 : History) (v : LinkGhost) (x : History) : Type 0 where
    pub history_inv : HistoryInv allows key x
    pub queue : x.queue ≡ x0.queue
    pub joined : x.joined ≡ x0.joined
    pub early : x.early ≡ x0.early
    pub late : x.late ≡ x0.late
    pub nodes : x.core.nodes ≡ x0.core.nodes
    pub others : (n : ℕ) (u : LinkGhost) → 0 < n → n ≤ key.config.nodes → n ≢ v.view.node → NodeInv key x0 n u → NodeInv key x n u

  abbrev pub via_none : (x : History) (v : LinkGhost) → HistoryInv allows key x → Via x v x
  via_none x v f = record { history_inv = f; queue = refl; joined = refl; early = refl; late = refl; nodes = refl; others = λ n u a b ne ok. ok }

  module _ (s : St good allows key) (r : Rule good allows key s) (me : ℕ) (v : LinkGhost) (at : get_elem? s.views me ≡ some (v ∷ [])) (x : History) (via : Via r.history v x) where
    abbrev pub few : key.config.nodes ≤ MAX_NODES
    few = r.may_open.nodes.few

    pub ok : NodeInv key r.history v.view.node v
    ok = mine_ok good allows key s r me v at

    -- what is found after an event
    pub record Turned (y : History) (w : LinkGhost) (words : List ℕ) (homes : Homes) : Type 0 where
      pub rule : Rule good allows key record { words = words; homes = homes; views = set s.views me (w ∷ []) }
      pub history_inv : HistoryInv allows key y
      pub own : NodeInv key y v.view.node w
      pub continues : Continues allows v.view w.view

    module _ {e : Event} {t : Answer} {d : Core} (k : Step x.core e t d) (is : node_of e ≡ v.view.node) (joined early late : List Request) where
      abbrev pub y : History
      y = next allows key few x via.history_inv k joined early late

      module _ (grows : SetsGrow x y (node_of e)) (history_inv : HistoryInv allows key y) where
        order_grows : IsPrefix r.history.queue.order y.queue.order
        order_grows = subst (λ (q : Queue). IsPrefix q.order y.queue.order) via.queue (on allows key few x via.history_inv k).spared.order

        ends_grow : IsPrefix r.history.queue.ends y.queue.ends
        ends_grow = subst (λ (q : Queue). IsPrefix q.ends y.queue.ends) via.queue (on allows key few x via.history_inv k).spared.ends

        clear_grows : IsPrefix r.history.queue.clear y.queue.clear
        clear_grows = subst (λ (q : Queue). IsPrefix q.clear y.queue.clear) via.queue (on allows key few x via.history_inv k).spared.clear

        marks_grow : IsSubset r.history.queue.marked y.queue.marked
        marks_grow = subst (λ (q : Queue). IsSubset q.marked y.queue.marked) via.queue (marks_next allows key few x via.history_inv k)

        -- a view w that keeps what v knew
        pub turned_by : (w : LinkGhost) → w.view.node ≡ v.view.node → NodeInv key y v.view.node w → IsPrefix v.view.order w.view.order → IsPrefix v.view.ends w.view.ends → IsPrefix v.view.clear w.view.clear
            → IsSubset v.view.joined w.view.joined → IsSubset v.view.marked w.view.marked → IsSubset v.view.freed w.view.freed
            → (words : List ℕ) (homes : Homes) → Represents d words homes → Turned y w words homes
        turned_by w same own a b c joins marks frees words homes laid =
            let l = low good allows key s r me v at in record {
              rule = rule_step good allows key s r me v w y words homes at same history_inv laid own (λ n u p q ne old. others_next allows key few x via.history_inv k joined early late grows history_inv n u (p, subst (λ (z : ℕ). n ≤ z) (sym via.history_inv.shown.matches.size) q) (λ z. ne (z ∙ is)) (via.others n u p q ne old));
              history_inv = history_inv;
              own = own;
              continues = continues allows key r.history y history_inv v.view.node v w (l.0, subst (λ (z : ℕ). v.view.node ≤ z) (sym history_inv.shown.matches.size) l.1) ok own a b c joins marks frees;
            }

        pub whole_by : (w : LinkGhost) → IsPrefix v.view.order y.queue.order × IsPrefix v.view.ends y.queue.ends × IsPrefix v.view.clear y.queue.clear × IsSubset v.view.marked y.queue.marked
        whole_by w = (
          prefix_trans v.view.order r.history.queue.order y.queue.order ok.knows.orders order_grows,
          prefix_trans v.view.ends r.history.queue.ends y.queue.ends ok.knows.endings ends_grow,
          prefix_trans v.view.clear r.history.queue.clear y.queue.clear ok.knows.clears clear_grows,
          (λ z h. marks_grow z (ok.knows.all_marked z h)),
        )

        -- a freed request and the joined one behind it
        pub between : (p : ℕ) (a b : Request) → At y.queue.order p a → At y.queue.order (p + 1) b → Has early a → Has joined b → Has y.queue.clear a
        between p a b here behind h j = elim (history_inv.freed a (inl h)) [
          | inl clear ↦ clear
          | inr freed ↦ joined_clear history_inv.shown joined history_inv.unjoined p a b here behind freed j
        ]

      -- a view that learns all that there is
      pub turned : (grows : SetsGrow x y (node_of e)) (count : ℕ) (joins : List Request) (passed : List ℕ) (line : Payload) → Owes y v count joins passed line → (words : List ℕ) (homes : Homes) → Represents d words homes → Turned y (whole y v count joins passed line) words homes
      turned grows count joins passed line o words homes laid =
          let history_inv : HistoryInv allows key y = fine_next allows key few x via.history_inv k joined early late grows o.kept
          (λ z. o.lawful (subst (λ (n : ℕ). MayServe (seat d n)) is z))
          (λ q z. subst (λ (n : ℕ). Lacks joined (last_of n y.queue.order)) (sym is) (o.unjoined q (ap (point d) (sym is) ∙ z)))
          (λ z. subst (λ (n : ℕ). Has joined (last_of n y.queue.order)) (sym is) (o.waiting (ap (point d) (sym is) ∙ z))) in
          let z = whole_by grows history_inv (whole y v count joins passed line) in
          turned_by grows history_inv (whole y v count joins passed line) refl (own history_inv) z.0 z.1 z.2 o.joins.more_joined z.3 (λ q h. h) words homes laid
        where
          own : HistoryInv allows key y → NodeInv key y v.view.node (whole y v count joins passed line)
          own history_inv = record {
            who = record { node = refl; label = ok.who.label; config = ok.who.config };
            knows = record {
              orders = prefix_self y.queue.order;
              endings = prefix_self y.queue.ends;
              clears = prefix_self y.queue.clear;
              counts = o.counts;
              placed = λ p l. l.known;
              own_ends = λ p q z at mine en g. slice_get_within y.queue.ends p z en;
              own_marks = λ q mine. refl;
              all_marked = λ q h. h;
            };
            joins = record {
              own_joined = o.joins.own_joined;
              all_joined = o.joins.all_joined;
              all_freed = λ q h. elim (ok.joins.all_freed q h) [ inl z ↦ inl (grows.early q (subst (λ rs. Has rs q) (sym via.early) z)) | inr z ↦ inr (grows.late q (subst (λ rs. Has rs q) (sym via.late) z)) ];
              joined_last = λ p a b here behind h j. between grows history_inv p a b here behind h (o.joins.all_joined b j);
              freed_last = λ q h now. elim (grows.new_late q now) [
                | inl old ↦ has_prefix r.history.queue.clear y.queue.clear q (clear_grows grows history_inv) (has_prefix v.view.clear r.history.queue.clear q ok.knows.clears (ok.joins.freed_last q h (subst (λ rs. Has rs q) via.late old)))
                | inr new ↦ new.0
              ];
            };
            stands = record { seat = refl; state = refl; holds = λ _. refl; unwritten = o.unwritten; carries = o.carries; left = o.left };
            passes = o.passes;
          }

  -- the node with this number has the last request
  pub own_at : (y : History) (v : LinkGhost) (count p : ℕ) → Shows key.config y.core y.queue → count_of v.view.node y.queue.order ≡ count → IsLast y.queue.order v.view.node p → At y.queue.order p (record { node = v.view.node; number = count })
  own_at y v count p s c l = get_request y.queue.order p l.known ∙ ap Some (last_is key.config.lease y.queue.order y.queue.ends v.view.node p s.legal l ∙ (λ i. record { node = v.view.node; number = c i }))

  -- the request is marked if the point of its node says so
  pub own_marked : (y : History) (v : LinkGhost) (count p : ℕ) → Shows key.config y.core y.queue → count_of v.view.node y.queue.order ≡ count → IsLast y.queue.order v.view.node p → length y.queue.ends ≤ p → has y.queue.marked (record { node = v.view.node; number = count }) ≡ is_rolled (point y.core v.view.node)
  own_marked y v count p s c l open' =
      ap (has y.queue.marked) (sym (last_is key.config.lease y.queue.order y.queue.ends v.view.node p s.legal l ∙ (λ i. record { node = v.view.node; number = c i }))) ∙ s.matches.marks p open' l.known ∙ ap (λ (q : ℕ). is_rolled (point y.core q)) l.its
