-- Proof about one attempt of a release to hand the line over from an entry. The attempt takes up to three atomic steps,
-- which are called home, done and grant.
use Rattle.std.proofs.Common.{ℕ, length, List, [], ◌∷◌, ◌++◌, refl, ap, ◌∙◌, subst, inr, arith}
use Rattle.qolb_model.specs.declared.config.LineConfig.{LineConfig}
use Rattle.qolb_model.specs.PortStates.{state_after}
use Rattle.qolb_model.specs.Ends.{is_closed}
use Rattle.qolb_model.specs.Views.{own, Extends}
use Rattle.link_core.specs.declared.point.Point.{Point}
use Rattle.link_core.specs.declared.point.Point.TheVariants.{Marking, Granting}
use Rattle.link_line.specs.Ghost.{LinkGhost}
use Rattle.line_generic.specs.declared.table.Payload.{Payload}
use Rattle.link_line.specs.declared.release.Handoff.TheVariants as handoff
use Rattle.link_line.specs.Links.{At}
use Rattle.link_line.specs.Layout.{IsWithin}
use Rattle.line_generic.specs.Steps.{HasSlot, HasNoSlot}
use Rattle.link_line.specs.Steps.{LinkSeat, ghost_of, Advances, KeepsPayload, HasUnpassedNode, Ended, IsHandedOver, IsLeftForLinker, Passes, end_of, after_release, left_in}
use Rattle.link_line.specs.Releases.{HandsOff, with_line}

-- the line was carried on from v to h; what a step then tells is true of the line and the node as they were before
module _ (v h w : LinkGhost) (y : Payload) (point : Point) (c : KeepsPayload v h y point) where
  pub carried_ended : Ended h w h.own.line → Ended v w y
  carried_ended e = record {
    known = e.known;
    ends = e.ends ∙ (λ i. c.ends i ++ end_of (c.passed i) (is_closed (c.ends i)) (c.line_is i) ∷ []);
    count = e.count ∙ c.count;
    own_turn = λ none. subst (λ es. At w.view.order (length es) (own w.view)) c.ends (e.own_turn (c.passed ∙ none));
  }

  pub carried_out : IsHandedOver h w h.own.line → IsHandedOver v w y
  carried_out o = record {
    point = o.point ∙ (λ i. after_release (state_after (c.line_is i).closed) (c.passed i));
    state = o.state ∙ (λ i. state_after (c.line_is i).closed);
    passed = o.passed ∙ c.passed;
    unmarked = o.unmarked;
    clear = λ none. o.clear (c.passed ∙ none);
  }

  pub carried_left : IsLeftForLinker h w h.own.line → IsLeftForLinker v w y
  carried_left l = record {
    point = l.point ∙ (λ i. after_release (left_in (c.passed i) (c.line_is i).closed) (c.passed i));
    state = l.state ∙ (λ i. left_in (c.passed i) (c.line_is i).closed);
    passed = l.passed ∙ c.passed;
    unmarked = l.unmarked;
    short = l.short;
  }

  pub carried_passes : (next : ℕ) → Passes h w next → Passes (with_line v y) w next
  carried_passes next p = record {
    point = p.point;
    state = p.state ∙ (λ i. state_after (c.line_is i).closed);
    passed = p.passed ∙ ap (λ ps. ps ++ length w.view.ends ∷ []) c.passed;
    line_is = p.line_is ∙ c.line_is;
    request = p.request;
    at = p.at;
    node = p.node;
    others = p.others;
    few = p.few;
  }

  pub carried_on : (next : Point) → KeepsPayload h w h.own.line next → KeepsPayload v w y next
  carried_on next d = record {
    point_is = d.point_is;
    state = d.state ∙ c.state;
    count = d.count ∙ c.count;
    ends = d.ends ∙ c.ends;
    passed = d.passed ∙ c.passed;
    line_is = d.line_is ∙ c.line_is;
  }

one_left : (v h : LinkGhost) (y : Payload) (point : Point) → KeepsPayload v h y point → Extends v.view h.view → HasUnpassedNode h → HasUnpassedNode v
one_left v h y point c e l = omega (arith, l, ap length c.passed, ap (λ (t : LineConfig). t.nodes) e.config)

-- home does not name the entry, and so it is marked as done; s, t and u are the seat before, between and after
module _ (allows : List ℕ → List ℕ → Type 0) (s t u : LinkSeat) (y : Payload) (at : ℕ) (first : Advances allows s.me t.me 1) (one : HasUnpassedNode (ghost_of t)) (c : KeepsPayload (ghost_of s) (ghost_of t) y (Marking at)) where
  pub hands_left : HasNoSlot u → Ended (ghost_of t) (ghost_of u) (ghost_of t).own.line → IsLeftForLinker (ghost_of t) (ghost_of u) (ghost_of t).own.line → HandsOff s y u 2 handoff.Left
  hands_left slot ended left = (
    slot,
    carried_ended (ghost_of s) (ghost_of t) (ghost_of u) y (Marking at) c ended,
    carried_left (ghost_of s) (ghost_of t) (ghost_of u) y (Marking at) c left,
    refl,
    one_left (ghost_of s) (ghost_of t) y (Marking at) c first.extends one,
  )

  -- a link is found there, and its request is granted
  module _ (w : LinkSeat) (next : ℕ) (d : KeepsPayload (ghost_of t) (ghost_of u) (ghost_of t).own.line (Granting next)) where
    both : KeepsPayload (ghost_of s) (ghost_of u) y (Granting next)
    both = carried_on (ghost_of s) (ghost_of t) (ghost_of u) y (Marking at) c (Granting next) d

    pub hands_out : (word behind : ℕ) → HasNoSlot w → Ended (ghost_of u) (ghost_of w) (ghost_of u).own.line → IsHandedOver (ghost_of u) (ghost_of w) (ghost_of u).own.line → HandsOff s y w 3 (handoff.HandedOver word behind)
    hands_out word behind slot ended out = (
      slot,
      carried_ended (ghost_of s) (ghost_of u) (ghost_of w) y (Granting next) both ended,
      carried_out (ghost_of s) (ghost_of u) (ghost_of w) y (Granting next) both out,
      inr (refl, one_left (ghost_of s) (ghost_of t) y (Marking at) c first.extends one),
    )

    pub hands_passed : HasSlot w y → IsWithin (ghost_of w).view.config.nodes next → Ended (ghost_of u) (ghost_of w) (ghost_of u).own.line → Passes (ghost_of u) (ghost_of w) next → HandsOff s y w 3 (handoff.Passed next)
    hands_passed slot high ended passes = (
      slot,
      carried_ended (ghost_of s) (ghost_of u) (ghost_of w) y (Granting next) both ended,
      carried_passes (ghost_of s) (ghost_of u) (ghost_of w) y (Granting next) both next passes,
      refl,
      high,
    )
