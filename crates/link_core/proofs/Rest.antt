-- Proofs about three remaining events: a holder writes to the line, a holder closes the line, and a node finds that its
-- last request is clear.
use Rattle.qolb_model.specs.declared.config.LineConfig.{LineConfig}
use Rattle.std.proofs.Common.{◌≡◌, ◌≢◌, ℕ, ◌<◌, ◌≤◌, Bool, true, false, ◌||◌, ◌&&◌, List, [], ◌⊎◌, length, None, refl, sym, ◌∙◌, ap, subst, inl, inr, arith}
use Rattle.link_core.specs.declared.point.Point.{Point}
use Rattle.link_core.specs.declared.point.Point.TheVariants.{Idle, Linking, Queued, Holding, Leaving, Granting, Left, Rolled}
use Rattle.link_core.specs.declared.seat.ReleaseCause.{ReleaseCause}
use Rattle.link_core.specs.declared.seat.ReleaseCause.TheVariants.{Own, Closing}
use Rattle.link_core.specs.declared.place.Place.TheVariants.{Hand}
use Rattle.link_core.specs.declared.entry.Entry.{Entry}
use Rattle.link_core.specs.Places.{request, requester_at, IsLast}
use Rattle.qolb_model.specs.Ends.{bytes_after}
use Rattle.qolb_model.specs.Histories.{none}
use Rattle.qolb_model.specs.Queue.{Queue}
use Rattle.qolb_model.specs.Requests.{has}
use Rattle.link_core.specs.State.{State, NodeCall, entry, seat, point, IsNode, last_or, is_clear}
use Rattle.link_core.specs.Shown.{is_rolled, has_line, is_freeing, HasEnded, IsHeld, IsCarried, in_hand, IsReleasing, Sits, Matches}
use Rattle.link_core.specs.declared.told.Told.TheVariants as told
use Rattle.link_core.specs.Steps.{either, write_line}
use Rattle.line_lanes.specs.declared.line.Line64.{Line64}
use Rattle.line_lanes.specs.declared.line.Mask.{Mask}
use Rattle.line_lanes.proofs.Masked.{merged-twice}
use Rattle.link_core.proofs.Deeds.{Advances}
use Rattle.qolb_model.proofs.Prefixes.{prefix_self}
use Rattle.link_core.proofs.Changes.{Changed, point_other, at_other}
use Rattle.link_core.proofs.Follows.{sits_at, in_its_hand, hand_lies, clear_ended}
use Rattle.link_core.proofs.Kept.{Leaves, lies_kept, rests_kept, rests_held}
use Rattle.link_core.proofs.Quiet.{quiet_shows}

-- the holder writes, or closes the line
module _ (config : LineConfig) (c : State) (h : Queue) (n : ℕ) (s : Matches config c h) (is : IsNode c n) (at : point c n ≡ Holding) where
  lined : has_line (point c n) ≡ true
  lined = ap has_line at

  place : c.place ≡ Hand n
  place = in_its_hand s n is lined

  sat : IsReleasing c n n × ((seat c n).reason ≡ Own) × ((seat c n).passed ≡ [])
  sat = sits_at s n Holding is at

  held : (config : LineConfig) → Matches config c h → (length h.ends < length h.order) × (requester_at h.order (length h.ends) ≡ n) × IsHeld config c h.ends n Own
  held config s =
      let f = hand_lies s n place s.lies in
      (f.0, f.3 ∙ sat.0.is, subst (λ (ps : List ℕ). IsCarried config c h.order h.ends n Own ps) sat.2 (subst (λ (r : ReleaseCause). IsCarried config c h.order h.ends n r (seat c n).passed) sat.1 f.4))

  same_marks : (p : ℕ) → length h.ends ≤ p → p < length h.order → requester_at h.order p ≡ n → has h.marked (request h.order p) ≡ false
  same_marks p a l e = s.marks p a l ∙ ap (λ (m : ℕ). is_rolled (point c m)) e ∙ ap is_rolled at

  pub write_keeps : (mask : Mask) (bytes : Line64) → Advances config (record c { bytes = write_line c.bytes mask bytes; mask = either c.mask mask }) h n told.Went None false
  write_keeps mask bytes =
      let d : State = record c { bytes = write_line c.bytes mask bytes; mask = either c.mask mask } in
      let ch : Changed c (record c { bytes = write_line c.bytes mask bytes; mask = either c.mask mask }) n (seat c n) n (entry c n) = record { nodes = refl; seat_own = refl; seat_other = λ _ _. refl; entry_own = refl; entry_other = λ _ _. refl } in
      record {
        after = h;
        makes = refl;
        clears = none;
        uncleared = λ _. refl;
        shows = quiet_shows config c h n s is c.place (write_line c.bytes mask bytes) c.closed (either c.mask mask) c.entries c.seats h.marked (seat c n) n (entry c n) ch (record {
          link = refl;
          freed = refl;
          granted = refl;
          rolled = λ _. refl;
          done = inl refl;
          ready = λ ne. absurd (ne refl);
          clear = λ ne. absurd (ne refl);
          clear_own = refl;
          passed = refl;
          hands = λ m e. e;
          marks = λ p a l e. same_marks p a l e ∙ ap is_rolled (sym at);
          marks_other = λ p ne. refl;
          marked_known = s.marked_known;
          not_granting = λ m g. let z : Holding ≡ Granting m = sym at ∙ g in cc;
          not_linking = λ q g. let z : Holding ≡ Linking q = sym at ∙ g in cc;
          not_passed = λ g. let z : Holding ≡ Rolled = sym at ∙ g in cc;
          unpassed = λ _. sat.2;
          node = is;
          boxes = λ x ne e. e;
          box = s.settled.boxed n is;
          rests = rests_held _ n h.order h.ends h.clear place;
          lies = λ config s. let f = held config s in in_hand n f.0 is place lined (f.1 ∙ sym sat.0.is)
              (subst (λ (ps : List ℕ). IsCarried config (record c { bytes = write_line c.bytes mask bytes; mask = either c.mask mask }) h.order h.ends n (seat c n).reason ps) (sym sat.2)
              (subst (λ (r : ReleaseCause). IsHeld config (record c { bytes = write_line c.bytes mask bytes; mask = either c.mask mask }) h.ends n r) (sym sat.1)
              (f.2.0, f.2.1, merged-twice (bytes_after config.opening.bytes h.ends) c.bytes.bytes bytes.bytes c.mask.0 mask.0 f.2.2, inl at)));
          own = subst (λ (p : Point). Sits (record c { bytes = write_line c.bytes mask bytes; mask = either c.mask mask }) h.order h.ends n p) (sym at) (record { place = place; is = sat.0.is }, sat.1, sat.2);
        });
        says = tt;
      }

  module _ {sts : List NodeCall} (ch : Changed c (record c { closed = true; seats = sts }) n (record (seat c n) { point = Leaving n; reason = Closing }) n (entry c n)) where
    pub closed_matches : Matches config (record c { closed = true; seats = sts }) h
    closed_matches = quiet_shows config c h n s is c.place c.bytes true c.mask c.entries sts h.marked (record (seat c n) { point = Leaving n; reason = Closing }) n (entry c n) ch (record {
      link = refl;
      freed = refl;
      granted = refl;
      rolled = λ _. refl;
      done = inl refl;
      ready = λ ne. absurd (ne refl);
      clear = λ ne. absurd (ne refl);
      clear_own = ap (λ (p : Point). is_clear p (entry c n)) (sym at);
      passed = refl;
      hands = λ m e. e;
      marks = λ p a l e. same_marks p a l e;
      marks_other = λ p ne. refl;
      marked_known = s.marked_known;
      not_granting = λ m g. let z : Holding ≡ Granting m = sym at ∙ g in cc;
      not_linking = λ q g. let z : Holding ≡ Linking q = sym at ∙ g in cc;
      not_passed = λ g. let z : Holding ≡ Rolled = sym at ∙ g in cc;
      unpassed = λ _. sat.2;
      node = is;
      boxes = λ x ne e. e;
      box = s.settled.boxed n is;
      rests = rests_held _ n h.order h.ends h.clear place;
      lies = λ config s. let f = held config s in in_hand n f.0 is place (ap (λ (s : NodeCall). has_line s.point) ch.seat_own) (f.1 ∙ sym sat.0.is ∙ sym (ap (λ (s : NodeCall). last_or n s.passed) ch.seat_own))
          (subst (λ (s : NodeCall). IsCarried config (record c { closed = true; seats = sts }) h.order h.ends n s.reason s.passed) (sym ch.seat_own)
          (subst (λ (ps : List ℕ). IsCarried config (record c { closed = true; seats = sts }) h.order h.ends n Closing ps) (sym sat.2) (refl, f.2.1, f.2.2)));
      own = record { place = place; is = ap (λ (s : NodeCall). last_or n s.passed) ch.seat_own ∙ sat.0.is };
    })

    pub close_line_keeps : Advances config (record c { closed = true; seats = sts }) h n told.Went None false
    close_line_keeps = record { after = h; makes = refl; clears = none; uncleared = λ _. refl; shows = closed_matches; says = tt }

-- a node that is found free
module _ (config : LineConfig) (c : State) (h : Queue) (n : ℕ) (s : Matches config c h) (is : IsNode c n) (at : (point c n ≡ Left) ⊎ (point c n ≡ Rolled)) (free : is_clear (point c n) (entry c n) ≡ true)
    (sts : List NodeCall) (ch : Changed c (record c { seats = sts }) n (record (seat c n) { point = Idle }) n (entry c n)) where
  abbrev e : State
  e = record c { seats = sts }

  over : HasEnded h.order h.ends n
  over = clear_ended s n (entry c n) refl is free

  elsewhere : (m : ℕ) (q : Point) → point c m ≡ q → (Left ≡ q → ⊥) → (Rolled ≡ q → ⊥) → m ≢ n
  elsewhere m q e a b = elim at [ inl g ↦ at_other ch m Left q g e a | inr g ↦ at_other ch m Rolled q g e b ]

  not_tail : (entry c n).link ≡ 0 → (entry c n).done ≡ true → ⊥
  not_tail a b = elim at [
    | inl g ↦ let z : is_clear Left (entry c n) ≡ true = ap (λ (p : Point). is_clear p (entry c n)) (sym g) ∙ free in left_no (entry c n) a z
    | inr g ↦ let z : is_clear Rolled (entry c n) ≡ true = ap (λ (p : Point). is_clear p (entry c n)) (sym g) ∙ free in rolled_no (entry c n) a b z
  ]
    where
      and_no : (a : Bool) → (a && false) ≡ true → ⊥
      and_no true e = cc
      and_no false e = cc

      left_no : (w : Entry) → w.link ≡ 0 → is_clear Left w ≡ true → ⊥
      left_no w a z = let y : false ≡ true = rw a at z in cc

      rolled_no : (w : Entry) → w.link ≡ 0 → w.done ≡ true → is_clear Rolled w ≡ true → ⊥
      rolled_no w a b z = and_no w.freed (rw (a, b) at z)

  freed_true : (w : Entry) → is_clear Rolled w ≡ true → w.freed ≡ true
  freed_true w z = go w.freed _ z
    where
      go : (a b : Bool) → (a && b) ≡ true → a ≡ true
      go true b e = refl
      go false b e = e

  leaves : Leaves c e h.order h.order h.ends
  leaves = record {
    place = refl;
    bytes = refl;
    closed = refl;
    mask = refl;
    nodes = refl;
    home = λ e. e;
    turn = λ l. (l, refl);
    fwd = λ m q e l. l;
    hand = λ m f. ch.seat_other m (λ g. elim at [
      | inl i ↦ let x : has_line Left ≡ true = ap has_line (sym i) ∙ ap (λ (x : ℕ). has_line (point c x)) (sym g) ∙ f in cc
      | inr i ↦ let x : has_line Rolled ≡ true = ap has_line (sym i) ∙ ap (λ (x : ℕ). has_line (point c x)) (sym g) ∙ f in cc
    ]);
    box = λ t l a q g. (point_other ch t (elsewhere t Queued q (λ e. cc) (λ e. cc)) ∙ q, g);
    linking = λ t q l a f. point_other ch t (elsewhere t (Linking q) f (λ e. cc) (λ e. cc)) ∙ f;
    tail = λ q a f g. (point_other ch q (λ i. not_tail (ap (λ (m : ℕ). (entry c m).link) (sym i) ∙ f) (ap (λ (m : ℕ). (entry c m).done) (sym i) ∙ g)), refl, refl);
  }

  pub load_free_keeps : Advances config e h n told.Free None false
  load_free_keeps = record {
    after = h;
    makes = refl;
    clears = none;
    uncleared = λ _. refl;
    shows = quiet_shows config c h n s is c.place c.bytes c.closed c.mask c.entries sts h.marked (record (seat c n) { point = Idle }) n (entry c n) ch (record {
      link = refl;
      freed = refl;
      granted = refl;
      rolled = λ _. refl;
      done = inl refl;
      ready = λ ne. absurd (ne refl);
      clear = λ ne. absurd (ne refl);
      clear_own = sym free;
      passed = refl;
      hands = λ m e. e;
      marks = λ p a l e. let k = over p (subst (λ (m : ℕ). IsLast h.order m p) e (s.distinct p a l)) in absurd (omega arith);
      marks_other = λ p ne. refl;
      marked_known = s.marked_known;
      not_granting = λ m g. elsewhere n (Granting m) g (λ e. cc) (λ e. cc) refl;
      not_linking = λ q g. elsewhere n (Linking q) g (λ e. cc) (λ e. cc) refl;
      not_passed = λ g. freed_true (entry c n) (ap (λ (p : Point). is_clear p (entry c n)) (sym g) ∙ free);
      unpassed = λ _. s.unpassed n is (elim at [ inl g ↦ ap (λ (p : Point). has_line p || is_freeing p) g | inr g ↦ ap (λ (p : Point). has_line p || is_freeing p) g ]);
      lies = λ config s. lies_kept leaves config s.lies;
      node = is;
      boxes = λ x ne e. e;
      box = s.settled.boxed n is;
      rests = rests_kept leaves h.clear h.clear s.known (prefix_self h.order) (prefix_self h.clear) s.settled.rests;
      own = over;
    });
    says = λ p l. s.clears n p is l ∙ free;
  }
