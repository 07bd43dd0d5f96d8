-- Lemmas about an event after which the node of the event does not have the line, and is not about to link its request
-- or to free other nodes.
use Rattle.std.proofs.Common.{◌≡◌, ◌≢◌, ℕ, Bool, true, false, ◌||◌, List, [], ◌∷◌, sym, refl, ap, ◌∙◌, subst}
use mathlib.Core.Option.{some}
use lib.ListN.{get_elem?}
use Rattle.qolb_model.specs.declared.request.Request.{Request}
use Rattle.qolb_model.specs.Kept.{AreAllowed}
use Rattle.qolb_model.specs.Requests.{Has, has, count_of, last_of}
use Rattle.link_core.specs.declared.point.Point.{Point}
use Rattle.link_core.specs.declared.point.Point.TheVariants.{Idle, Ready, Linking, Queued, Holding, Leaving, Marking, Granting, Freeing, Left, Rolled, Shut}
use Rattle.link_core.specs.declared.state.State.{State as Core}
use Rattle.link_core.specs.declared.told.Told.{Told as Answer}
use Rattle.link_core.specs.declared.event.Event.{Event}
use Rattle.link_core.specs.State.{point, IsNode}
use Rattle.link_core.specs.Steps.{Step, node_of}
use Rattle.link_core.specs.Shown.{has_line, is_freeing, Shows}
use Rattle.link_line.specs.Ghost.{LinkGhost}
use Rattle.line_generic.specs.declared.table.TableKey.{TableKey}
use Rattle.link_line.specs.Links.{History, NodeInv, HistoryInv, Represents, Homes, is_leaving}
use Rattle.link_line.proofs.Going.{next, on}
use Rattle.link_line.specs.Laws.Nodes.{St, Rule, mine_ok, is_node}
use Rattle.link_line.proofs.Turning.{Joins, joins_same, whole, grows_none, passes_none, Owes, via_none, Turned, turned}

abbrev pub is_quiet : Point → Bool
is_quiet Idle = true
is_quiet Ready = true
is_quiet Queued = true
is_quiet Left = true
is_quiet Rolled = true
is_quiet Shut = true
is_quiet _ = false

pub quiet_unlined : (p : Point) → is_quiet p ≡ true → has_line p || is_freeing p ≡ false
quiet_unlined Idle a = refl
quiet_unlined Ready a = refl
quiet_unlined Queued a = refl
quiet_unlined Left a = refl
quiet_unlined Rolled a = refl
quiet_unlined Shut a = refl
quiet_unlined (Linking q) a = cc
quiet_unlined Holding a = cc
quiet_unlined (Leaving e) a = cc
quiet_unlined (Marking e) a = cc
quiet_unlined (Granting m) a = cc
quiet_unlined Freeing a = cc

pub quiet_not : (p q : Point) → is_quiet p ≡ true → is_quiet q ≡ false → p ≢ q
quiet_not p q a b e = let z : true ≡ false = sym a ∙ ap is_quiet e ∙ b in cc

pub quiet_unleaving : (p : Point) → is_quiet p ≡ true → is_leaving p ≡ true → ⊥
quiet_unleaving (Leaving e) a b = cc
quiet_unleaving (Marking e) a b = cc
quiet_unleaving (Granting e) a b = cc
quiet_unleaving Idle a b = cc
quiet_unleaving Ready a b = cc
quiet_unleaving (Linking q) a b = cc
quiet_unleaving Queued a b = cc
quiet_unleaving Holding a b = cc
quiet_unleaving Freeing a b = cc
quiet_unleaving Left a b = cc
quiet_unleaving Rolled a b = cc
quiet_unleaving Shut a b = cc

module _ (good : List ℕ → Type 0) (allows : List ℕ → List ℕ → Type 0) (key : TableKey) where
  pub quiet_owes : (x y : History) (v : LinkGhost) (p : Point) (joins : List Request) → HistoryInv allows key x → NodeInv key x v.view.node v → Shows key.config y.core y.queue → IsNode y.core v.view.node → point y.core v.view.node ≡ p → is_quiet p ≡ true → y.queue.order ≡ x.queue.order → y.queue.ends ≡ x.queue.ends → Joins y v joins → (p ≡ Queued → Has y.joined (last_of v.view.node y.queue.order)) → Owes good allows key y v v.view.count joins [] v.own.line
  quiet_owes x y v p joins f ok s node is quiet order ends j waits = record {
    kept = subst (AreAllowed allows key.config.opening.bytes) (sym ends) f.kept;
    lawful = λ z. absurd (quiet_unleaving p quiet (ap is_leaving (sym is) ∙ z.leaves));
    unjoined = λ q z. absurd (quiet_not p (Linking q) quiet refl (sym is ∙ z));
    waiting = λ z. waits (sym is ∙ z);
    counts = ap (λ (o : List Request). count_of v.view.node o) order ∙ ok.knows.counts;
    joins = j;
    unwritten = λ z. absurd (quiet_not p Holding quiet refl (sym is ∙ z));
    carries = λ z. absurd (quiet_unleaving p quiet (ap is_leaving (sym is) ∙ z));
    left = λ z. absurd (quiet_not p Freeing quiet refl (sym is ∙ z));
    passes = passes_none y.queue.order _ (s.matches.unpassed v.view.node node (ap (λ (z : Point). has_line z || is_freeing z) is ∙ quiet_unlined p quiet)) refl;
  }

  module _ (s : St good allows key) (r : Rule good allows key s) (me : ℕ) (v : LinkGhost) (at : get_elem? s.views me ≡ some (v ∷ [])) where
    abbrev pub after : {e : Event} {t : Answer} {d : Core} → Step r.history.core e t d → History
    after k = next allows key r.may_open.nodes.few r.history r.history_inv k r.history.joined r.history.early r.history.late

    abbrev pub view_after : {e : Event} {t : Answer} {d : Core} → Step r.history.core e t d → LinkGhost
    view_after k = whole (after k) v v.view.count v.view.joined [] v.own.line

    pub quiet_turned : {e : Event} {t : Answer} {d : Core} (k : Step r.history.core e t d) → node_of e ≡ v.view.node → (p : Point) → point d v.view.node ≡ p → is_quiet p ≡ true → (p ≡ Queued → point r.history.core v.view.node ≡ Queued) → IsNode d v.view.node → (after k).queue.order ≡ r.history.queue.order → (after k).queue.ends ≡ r.history.queue.ends → (words : List ℕ) (homes : Homes) → Represents d words homes
        → Turned good allows key s r me v at r.history (via_none good allows key r.history v r.history_inv) (after k) (view_after k) words homes
    quiet_turned {e} {t} {d} k is p here quiet was node order ends words homes laid =
        turned good allows key s r me v at r.history (via_none good allows key r.history v r.history_inv) k is r.history.joined r.history.early r.history.late (grows_none r.history (after k) (node_of e) refl refl refl) v.view.count v.view.joined [] v.own.line
        (quiet_owes r.history (after k) v p v.view.joined r.history_inv (mine_ok good allows key s r me v at) (on allows key r.may_open.nodes.few r.history r.history_inv k).shows node here quiet order ends (joins_same key r.history (after k) v (mine_ok good allows key s r me v at) refl)
        (λ z. ap (λ (o : List Request). has r.history.joined (last_of v.view.node o)) order ∙ r.history_inv.waiting v.view.node (is_node good allows key s r me v at) (was z))) words homes laid
