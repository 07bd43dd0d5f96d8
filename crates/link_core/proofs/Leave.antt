-- Proof about the three ways in which a release gives up the line. The line returns home, is left for a successor that
-- has not linked itself yet, or is granted to the next node.
use Rattle.qolb_model.specs.declared.config.LineConfig.{LineConfig}
use Rattle.std.proofs.Common.{◌≡◌, ◌≢◌, ℕ, ◌+◌, ◌-◌, ◌<◌, ◌≤◌, true, List, [], ◌⊎◌, length, Some, refl, sym, ◌∙◌, ap, subst, inl, inr, arith}
use Rattle.link_core.specs.declared.point.Point.{Point}
use Rattle.link_core.specs.declared.point.Point.TheVariants.{Idle, Ready, Linking, Queued, Holding, Leaving, Marking, Granting, Freeing, Left, Rolled, Shut}
use Rattle.link_core.specs.declared.seat.ReleaseCause.{ReleaseCause}
use Rattle.link_core.specs.declared.seat.ReleaseCause.TheVariants.{Own, Closing, Refused}
use Rattle.link_core.specs.declared.place.Place.TheVariants.{Home, Mailbox}
use Rattle.link_core.specs.declared.entry.Entry.{Entry}
use Rattle.link_core.specs.Places.{requester_at, IsLast}
use Rattle.qolb_model.specs.Queue.{Queue, finish}
use Rattle.link_core.specs.Moves.{end_of}
use Rattle.qolb_model.specs.declared.end.End.{End}
use Rattle.link_core.specs.State.{State, NodeCall, entry, seat, point, IsNode, last_or, current, is_clear}
use Rattle.link_core.specs.Shown.{has_line, HasEnded, at_home, left, Sits, IsPassed, HasLeft, Matches}
use Rattle.link_core.specs.Steps.{turns_after, seat_with, seat_at_close, told_with, point_at_end, Releases, holding, leaving}
use Rattle.link_core.proofs.Deeds.{Advances}
use Rattle.link_core.proofs.Orders.{last_once}
use Rattle.link_core.proofs.Changes.{Changed, point_other, point_own}
use Rattle.link_core.proofs.Ending.{longer, facts, its, whole, later_other, unboxed}
use Rattle.link_core.proofs.Follows.{rolled_unfreed, sits_at, current_cases}
use Rattle.link_core.proofs.Close.{close_keeps}

module _ {config : LineConfig} {c : State} {h : Queue} {n : ℕ} (s : Matches config c h) (is : IsNode c n) where
  pub releases_line : (e : ℕ) → Releases c n e → has_line (point c n) ≡ true
  releases_line e (holding a f l) = ap has_line a
  releases_line e (leaving a) = ap has_line a

  pub releases_at : (e : ℕ) → Releases c n e → current c n ≡ e
  releases_at e (holding a f l) = (sits_at s n Holding is a).0.is ∙ sym f
  releases_at e (leaving a) = (sits_at s n (Leaving e) is a).is

  pub rests_at_end : (r : ReleaseCause) (d : State) (es : List End) → HasEnded h.order es n → Sits d h.order es n (point_at_end r)
  rests_at_end Own d es e = e
  rests_at_end Closing d es e = e
  rests_at_end Refused d es e = e

  -- home names the current node exactly if no other request follows
  pub home_is_last : (lined : has_line (point c n) ≡ true) → c.home ≡ current c n → length h.ends + 1 ≡ length h.order
  home_is_last lined e =
      let f = (facts s is lined).0 in
      let p : ℕ = length h.order - 1 in
      let a : length h.ends ≤ p = omega arith in
      let l : p < length h.order = omega arith in
      let k = s.home_last p a (omega arith) in
      let j = last_once h.order (current c n) p (length h.ends) (subst (λ (m : ℕ). IsLast h.order m p) (sym k ∙ e) (s.distinct p a l)) (its s is lined) in
      omega arith

  pub clear_at_end : (r : ReleaseCause) (w : Entry) → is_clear (point_at_end r) w ≡ true
  clear_at_end Own w = refl
  clear_at_end Closing w = refl
  clear_at_end Refused w = refl

  -- if n has passed none, its request is clear at the end of the call
  pub clear_rest : (d : State) → seat d n ≡ seat_at_close (point_at_end (seat c n).reason) (seat c n) → (seat c n).passed ≡ [] → (is_clear (point d n) (entry d n) ≡ true) ⊎ HasLeft d n
  clear_rest d e none = inl (
      ap (λ (t : NodeCall). is_clear t.point (entry d n)) e
      ∙ ap (λ (ps : List ℕ). is_clear (seat_with ps (point_at_end (seat c n).reason) (seat c n).reason).point (entry d n)) none
      ∙ clear_at_end (seat c n).reason (entry d n)
      )

  pub home_keeps : (e : ℕ) (r : Releases c n e) (sts : List NodeCall) → c.home ≡ e → Changed c (record c { home = 0; place = Home; left = turns_after n c; seats = sts }) n (seat_at_close (point_at_end (seat c n).reason) (seat c n)) n (entry c n)
      → Advances config (record c { home = 0; place = Home; left = turns_after n c; seats = sts }) h n (told_with (seat c n).passed (seat c n).reason) (Some (finish (end_of c n))) true
  home_keeps e r sts f ch =
      let lined = releases_line e r in
      let last = home_is_last lined (f ∙ sym (releases_at e r)) in
      let w = whole s is lined in
      let l = longer s is lined in
      close_keeps s is lined (point_at_end (seat c n).reason) ch (record {
        link = refl;
        rolled = refl;
        freed = refl;
        ready = λ ne. absurd (ne refl);
        clear = λ ne. absurd (ne refl);
        fresh = λ p a b e. absurd (later_other s is lined p a b e);
        home_idle = λ _. refl;
        home_last = λ g. absurd (omega arith);
        turns = refl;
        node = is;
        box = λ dn un. absurd (unboxed s is lined n (s.settled.boxed n is dn un));
      })
      (at_home (omega arith) refl (record { bytes = w.bytes; closed = w.closed }))
      (λ g _. rests_at_end (seat c n).reason _ _ g) (clear_rest _ ch.seat_own)

pub clear_same : (p : Point) (v w : Entry) → v.link ≡ w.link → v.freed ≡ w.freed → v.done ≡ w.done → is_clear p v ≡ is_clear p w
clear_same Idle v w a b e = refl
clear_same Ready v w a b e = refl
clear_same Shut v w a b e = refl
clear_same Left v w a b e = rw a refl
clear_same Rolled v w a b e = rw (a, b, e) refl
clear_same (Linking x) v w a b e = refl
clear_same Queued v w a b e = refl
clear_same Holding v w a b e = refl
clear_same (Leaving x) v w a b e = refl
clear_same (Marking x) v w a b e = refl
clear_same (Granting x) v w a b e = refl
clear_same Freeing v w a b e = refl

abbrev pub done : Entry → Entry
done w = record w { done = true }

abbrev pub grants : Entry → Entry
grants w = record w { granted = true }

-- the entry that a release marks is that of a node
pub marked_node : {config : LineConfig} {c : State} {h : Queue} {n e : ℕ} (s : Matches config c h) → IsNode c n → point c n ≡ Marking e → IsNode c e
marked_node {c = c} {n = n} {e = e} s a at =
    let cur = (sits_at s n (Marking e) a at).0.is in
    elim (current_cases s n a) [
      | inl j ↦ subst (λ (x : ℕ). IsNode c x) (sym j.1 ∙ cur) a
      | inr j ↦ subst (λ (x : ℕ). IsNode c x) cur j.node
    ]

module _ {config : LineConfig} {c : State} {h : Queue} {n e : ℕ} (s : Matches config c h) (is : IsNode c n) (at : point c n ≡ Marking e) (unlinked : (entry c e).link ≡ 0) where
  lined : has_line (point c n) ≡ true
  lined = ap has_line at

  more : length h.ends + 1 < length h.order
  more = (sits_at s n (Marking e) is at).1

  cur : current c n ≡ e
  cur = (sits_at s n (Marking e) is at).0.is

  -- e is n, which has passed none, or e was passed
  pub e_cases : (((seat c n).passed ≡ []) × (n ≡ e)) ⊎ IsPassed c h.order h.ends n e
  e_cases = elim (current_cases s n is) [
    | inl j ↦ inl (j.0, sym j.1 ∙ cur)
    | inr j ↦ inr (subst (λ (x : ℕ). IsPassed c h.order h.ends n x) cur j)
  ]

  at_e : IsLast h.order e (length h.ends)
  at_e = subst (λ (m : ℕ). IsLast h.order m (length h.ends)) cur (its s is lined)

  -- the next node must still link to e
  pub next : point c (requester_at h.order (length h.ends + 1)) ≡ Linking e
  next = elim (s.links (length h.ends) (omega arith) more) [
    | inl f ↦ let i = s.nodes (length h.ends + 1) more in let z : requester_at h.order (length h.ends + 1) ≡ 0 = sym f ∙ ap (λ (m : ℕ). (entry c m).link) at_e.its ∙ unlinked in absurd (omega arith)
    | inr f ↦ f.1 ∙ ap Linking at_e.its
  ]

  next_other : requester_at h.order (length h.ends + 1) ≢ n
  next_other = let l = more in later_other s is lined (length h.ends + 1) (omega arith) l

  module _ {ents : List Entry} {sts : List NodeCall} (pt : Point) (ch : Changed c (record c { place = Mailbox e; left = turns_after n c; entries = ents; seats = sts }) n (seat_at_close pt (seat c n)) e (done (entry c e))) where
    abbrev d : State
    d = record c { place = Mailbox e; left = turns_after n c; entries = ents; seats = sts }

    done_keeps : ((point d e ≡ Left) ⊎ (point d e ≡ Rolled)) → ((es : List End) → HasEnded h.order es n → (seat c n).passed ≡ [] → Sits d h.order es n pt)
        → ((seat c n).passed ≡ [] → (is_clear (point d n) (entry d n) ≡ true) ⊎ HasLeft d n)
        → Advances config d h n (told_with (seat c n).passed (seat c n).reason) (Some (finish (end_of c n))) true
    done_keeps stays rests rest =
        let w = whole s is lined in
        let l = longer s is lined in
        let m = more in
        close_keeps s is lined pt ch (record {
          link = refl;
          rolled = refl;
          freed = refl;
          ready = λ ne f. elim e_cases [ inl j ↦ ne (sym j.1) | inr j ↦ let z : Rolled ≡ Ready = sym j.point ∙ f in cc ];
          clear = λ ne. elim e_cases [ inl j ↦ absurd (ne (sym j.1)) | inr j ↦ rw j.point (rolled_unfreed (done (entry c e)) j.kept ∙ sym (rolled_unfreed (entry c e) j.kept)) ];
          fresh = λ p a b f. let k = last_once h.order e p (length h.ends) (subst (λ (m : ℕ). IsLast h.order m p) f (s.distinct p (omega arith) b)) at_e in absurd (omega arith);
          home_idle = λ f. absurd (omega arith);
          home_last = λ _. refl;
          turns = refl;
          node = marked_node s is at;
          box = λ _ _. refl;
        })
        (left (requester_at h.order (length h.ends + 1)) e (omega arith) (ap (requester_at h.order) l) refl
        (ap (λ (w : Entry). w.done) ch.entry_own) (ap (λ (w : Entry). w.link) ch.entry_own ∙ unlinked) stays
        (point_other ch (requester_at h.order (length h.ends + 1)) next_other ∙ next)
        (record { bytes = w.bytes; closed = w.closed }))
        (rests _) rest

    left_own : e ≡ n → pt ≡ Left → point d n ≡ Left
    left_own f g = point_own ch ∙ ap (λ (ps : List ℕ). (seat_with ps pt (seat c n).reason).point) none ∙ g
      where
        none : (seat c n).passed ≡ []
        none = elim e_cases [ inl j ↦ j.0 | inr j ↦ let z : Rolled ≡ Marking e = sym j.point ∙ ap (point c) f ∙ at in cc ]

    pub done_left_keeps : e ≡ n → pt ≡ Left → Advances config d h n (told_with (seat c n).passed (seat c n).reason) (Some (finish (end_of c n))) true
    done_left_keeps f g = done_keeps (inl (ap (point d) f ∙ left_own f g)) (λ es a _. rw g a) (λ _. inr (record {
      point = left_own f g;
      done = ap (λ (x : ℕ). (entry d x).done) (sym f) ∙ ap (λ (v : Entry). v.done) ch.entry_own;
      unlinked = ap (λ (x : ℕ). (entry d x).link) (sym f) ∙ ap (λ (v : Entry). v.link) ch.entry_own ∙ unlinked;
    }))

    pub done_rolled_keeps : e ≢ n → pt ≡ point_at_end (seat c n).reason → Advances config d h n (told_with (seat c n).passed (seat c n).reason) (Some (finish (end_of c n))) true
    done_rolled_keeps ne g = done_keeps
        (inr (point_other ch e ne ∙ elim e_cases [ inl j ↦ absurd (ne (sym j.1)) | inr j ↦ j.point ]))
        (λ es a _. rw g (rests_at_end s is (seat c n).reason d es a))
        (λ none. absurd (ne (sym cur ∙ ap (last_or n) none)))
