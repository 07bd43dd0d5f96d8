-- Lemmas about sequences of events: by how much a sequence lowers the rank, and which productive events are still
-- possible after an action of one node. (Productive events are those that lower the rank.)
use Rattle.qolb_model.specs.declared.config.LineConfig.{LineConfig}
use Rattle.qolb_model.specs.declared.config.TheConstants.{MAX_NODES}
use Rattle.std.proofs.Common.{◌≡◌, ◌≢◌, ℕ, zero, suc, ◌+◌, ◌*◌, ◌<◌, ◌≤◌, Bool, true, false, ◌&&◌, not, List, [], ◌∷◌, length, Option, Some, None, refl, sym, ◌∙◌, ap, subst, inl, inr, arith, length-append}
use Rattle.std.proofs.lemmas.Bool.{cases_Bool}
use Rattle.qolb_model.specs.Queue.{Queue, Move, ask, mark, finish}
use Rattle.qolb_model.specs.Requests.{next_of}
use Rattle.link_core.specs.declared.event.Event.{Event}
use Rattle.link_core.specs.declared.place.Place.TheVariants.{Hand}
use Rattle.link_core.specs.declared.point.Point.{Point}
use Rattle.link_core.specs.declared.point.Point.TheVariants.{Linking, Queued, Holding, Leaving, Marking, Granting}
use Rattle.link_core.specs.declared.told.Told.{Told as Answer}
use Rattle.link_core.specs.declared.state.TheConstants.{PLACES}
use Rattle.link_core.specs.Places.{IsLast}
use Rattle.link_core.specs.State.{State, IsWide, NodeCall, entry, point, IsNode, first}
use Rattle.link_core.specs.Steps.{Step, node_of}
use Rattle.link_core.specs.Moves.{move_of, made, Goes}
use Rattle.link_core.specs.Shown.{has_line, Shows}
use Rattle.link_core.specs.Promise.{Run, opened, event as run_event}
use Rattle.link_core.specs.Progress.{sum_over, is_productive, steps_left, steps_left_at, rank, rank_at, asks_behind, one_if, ActsNext, holds, leaves, marks, grants, loads, links, Path, here, then', productive_on, productive_for, asked_on, IsShort, productive_in, asked_in}
use Rattle.link_core.proofs.Sums.{sum_le}
use Rattle.link_core.proofs.Falls.{ends_more, goes_down}
use Rattle.link_core.proofs.Follows.{sits_at, in_its_hand, left_for, granted_for, granted_turn, done_turn}
use Rattle.link_core.proofs.Open.{seat_first}
use Rattle.link_core.proofs.Orders.{last_once}
use Rattle.link_core.proofs.Sound.{step_sizes, step_wide}
use Rattle.link_core.proofs.Steady.{step_shows, first_shows}

made_order_more : (q : Queue) (m : Option Move) → length q.order ≤ length (made q m).order
made_order_more q None = omega arith
made_order_more q (Some (ask n)) = omega (arith, length-append q.order (next_of n q.order ∷ []))
made_order_more q (Some (mark r)) = omega arith
made_order_more q (Some (finish x)) = omega arith

order_more : (config : LineConfig) (q r : Queue) (m : Option Move) → Goes config q m r → length q.order ≤ length r.order
order_more config q r m goes = let a = made_order_more q m in let b : length r.order ≡ length (made q m).order = ap (λ (g : Queue). length g.order) goes.cleared.2 in omega arith

module _ {config : LineConfig} {c : State} {q : Queue} (w : IsWide c) (s : Shows config c q) where
  path_wide : {d : State} {r : Queue} → Path config c q d r → IsWide d
  path_wide here = w
  path_wide (then' path e t f u step goes shows) = step_wide _ (path_wide path) step

  path_shows : {d : State} {r : Queue} → Path config c q d r → Shows config d r
  path_shows here = s
  path_shows (then' path e t f u step goes shows) = shows

  path_order : {d : State} {r : Queue} → Path config c q d r → length q.order ≤ length r.order
  path_order here = omega arith
  path_order (then' {r = r} path e t f u step goes shows) = let a = path_order path in let b = order_more config r u (move_of step r.order) goes in omega arith

  short_all : {d : State} {r : Queue} (path : Path config c q d r) → productive_on path + rank d ≤ rank c + 5 * asked_on path
  short_all here = omega arith
  short_all (then' {d = d} {r = r} path e t f u step goes shows) =
      let a = short_all path in
      let g = goes_down (path_wide path) (path_shows path).matches step u goes in
      let m = g.most in
      elim (cases_Bool (is_productive e t)) [
        | inl z ↦ let k = g.falls z in let o : one_if (is_productive e t) ≡ 1 = ap one_if z in omega arith
        | inr z ↦ let o : one_if (is_productive e t) ≡ 0 = ap one_if z in omega arith
      ]

  short_at : {d : State} {r : Queue} (path : Path config c q d r) (p : ℕ) → p < length q.order → length r.ends ≤ p → productive_for p path + rank_at d r.order p ≤ rank_at c q.order p
  short_at here p l o = omega arith
  short_at (then' {d = d} {r = r} path e t f u step goes shows) p l o =
      let more = ends_more (path_wide path) (path_shows path).matches step u goes in
      let a = short_at path p l (omega arith) in
      let g = goes_down (path_wide path) (path_shows path).matches step u goes in
      let longer = path_order path in
      let m = g.most_at p (omega arith) o in
      elim (cases_Bool (is_productive e t && not (asks_behind r.order p (node_of e)))) [
        | inl z ↦
            let b = both (is_productive e t) (asks_behind r.order p (node_of e)) z in
            let k = g.falls_at p (omega arith) o b.0 b.1 in
            let y : one_if (is_productive e t && not (asks_behind r.order p (node_of e))) ≡ 1 = ap one_if z in
            omega arith
        | inr z ↦ let y : one_if (is_productive e t && not (asks_behind r.order p (node_of e))) ≡ 0 = ap one_if z in omega arith
      ]
    where
      both : (a b : Bool) → (a && not b) ≡ true → (a ≡ true) × (b ≡ false)
      both true true e = cc
      both true false e = (refl, refl)
      both false b e = cc

  pub is_short : {d : State} {r : Queue} (path : Path config c q d r) → IsShort path
  is_short path = record { all = short_all path; at = short_at path }

-- a run from the opening
first_rank : (config : LineConfig) → rank (first config) ≡ 0
first_rank config =
    let a = sum_le config.nodes (steps_left (first config)) (λ _. 0) (λ k _ _. let e : steps_left (first config) k ≡ 0 = ap (λ (s : NodeCall). steps_left_at (first config) (entry (first config) k) s.point) (seat_first PLACES k) in omega arith) in
    let b = zeros config.nodes in
    omega arith
  where
    zeros : (n : ℕ) → sum_over n (λ _. 0) ≡ 0
    zeros zero = refl
    zeros (suc n) = let e = zeros n in omega arith

module _ {config : LineConfig} (few : config.nodes ≤ MAX_NODES) (long : length config.opening.bytes ≡ 64) where
  run_wide : {es : List Event} {c : State} {q : Queue} → Run config es c q → IsWide c
  run_wide opened = record { entries = omega arith; seats = omega arith }
  run_wide (run_event r e t d g step goes shows) = step_wide _ (run_wide r) step

  run_shows : {es : List Event} {c : State} {q : Queue} → Run config es c q → Shows config c q
  run_shows opened = first_shows config long
  run_shows (run_event r e t d g step goes shows) = shows

  pub run_short : {es : List Event} {c : State} {q : Queue} (run : Run config es c q) → productive_in run + rank c ≤ 5 * asked_in run
  run_short opened = let e = first_rank config in omega arith
  run_short (run_event {c = c} {q = q} r e t d u step goes shows) =
      let a = run_short r in
      let g = goes_down (run_wide r) (run_shows r).matches step u goes in
      let m = g.most in
      elim (cases_Bool (is_productive e t)) [
        | inl z ↦ let k = g.falls z in let o : one_if (is_productive e t) ≡ 1 = ap one_if z in omega arith
        | inr z ↦ let o : one_if (is_productive e t) ≡ 0 = ap one_if z in omega arith
      ]

-- no other node disables a productive event
module _ {config : LineConfig} {c : State} {q : Queue} (w : IsWide c) (s : Shows config c q) {e : Event} {t : Answer} {d : State} (k : Step c e t d) where
  abbrev after : Queue
  after = (step_shows config c q w s k).after

  now : Shows config d after
  now = (step_shows config c q w s k).shows

  same_point : (n : ℕ) (p : Point) → n ≢ node_of e → point c n ≡ p → point d n ≡ p
  same_point n p ne at = ap (λ (x : NodeCall). x.point) ((step_shows config c q w s k).spared.seats n ne) ∙ at

  node : (n : ℕ) → IsNode c n → IsNode d n
  node n a = (a.0, subst (λ (x : ℕ). n ≤ x) (sym (step_sizes c k).0) a.1)

  held : (n : ℕ) → IsNode c n → (p : Point) → n ≢ node_of e → point c n ≡ p → has_line p ≡ true → d.place ≡ Hand n
  held n a p ne at f = in_its_hand now.matches n (node n a) (ap has_line (same_point n p ne at) ∙ f)

  turn_stays : (n p : ℕ) → n ≢ node_of e → IsLast q.order n (length q.ends) → IsLast after.order n p → length after.ends ≤ p → (length after.ends ≡ length q.ends) × IsLast after.order n (length after.ends)
  turn_stays n p ne l m o =
      let same = last_once after.order n p (length q.ends) m ((step_shows config c q w s k).spared.last n (length q.ends) ne l) in
      let more = ends_more w s.matches k after (step_shows config c q w s k).goes in
      let z : length after.ends ≡ length q.ends = omega arith in
      (z, subst (λ (x : ℕ). IsLast after.order n x) (same ∙ sym z) m)

  pub way_stays : {f : Event} → IsNode c (node_of f) → node_of e ≢ node_of f → ActsNext c f → ActsNext d f
  way_stays a ne (holds n h at) = holds n (held n a Holding (λ z. ne (sym z)) at refl) (same_point n Holding (λ z. ne (sym z)) at)
  way_stays a ne (leaves n x h at) = leaves n x (held n a (Leaving x) (λ z. ne (sym z)) at refl) (same_point n (Leaving x) (λ z. ne (sym z)) at)
  way_stays a ne (marks n x h at) = marks n x (held n a (Marking x) (λ z. ne (sym z)) at refl) (same_point n (Marking x) (λ z. ne (sym z)) at)
  way_stays a ne (grants n x h at) = grants n x (held n a (Granting x) (λ z. ne (sym z)) at refl) (same_point n (Granting x) (λ z. ne (sym z)) at)
  way_stays a ne (loads n h at gr) =
      let at' = same_point n Queued (λ z. ne (sym z)) at in
      let b = sits_at now.matches n Queued (node n a) at' in
      let l = turn_stays n b.at (λ z. ne (sym z)) (granted_turn s.matches n a at gr) b.own b.waits in
      let g = granted_for now.matches n now.matches.lies l.1.known l.1.its at' in
      loads n g.0 at' g.1
  way_stays a ne (links n x h at dn) =
      let at' = same_point n (Linking x) (λ z. ne (sym z)) at in
      let old = sits_at s.matches n (Linking x) a at in
      let turn = done_turn s.matches n x a at dn old in
      let b = sits_at now.matches n (Linking x) (node n a) at' in
      let l = turn_stays n (b.at + 1) (λ z. ne (sym z)) (subst (λ (y : ℕ). IsLast q.order n y) (sym turn) old.own) b.own b.waits in
      let g = left_for now.matches n x now.matches.lies l.1.known l.1.its at' in
      links n x g.0 at' g.1
