-- Proofs about the events of a node on its own entry. The node takes the line, learns that it must still wait or that
-- its last request is not clear, or withdraws its request.
use Rattle.qolb_model.specs.declared.config.LineConfig.{LineConfig}
use Rattle.std.proofs.Common.{◌≡◌, ◌≢◌, ℕ, ◌<◌, ◌≤◌, true, false, ◌||◌, List, [], ◌∷◌, ◌++◌, length, Some, None, refl, sym, ◌∙◌, ap, subst, inl, inr, arith}
use Rattle.link_core.specs.declared.point.Point.{Point}
use Rattle.link_core.specs.declared.point.Point.TheVariants.{Linking, Queued, Granting, Left, Rolled}
use Rattle.link_core.specs.declared.place.Place.TheVariants.{Mailbox, Hand}
use Rattle.link_core.specs.declared.entry.Entry.{Entry}
use Rattle.link_core.specs.Places.{request, requester_at, IsLast}
use Rattle.qolb_model.specs.Histories.{none, IsLegal}
use Rattle.qolb_model.specs.Queue.{Queue, mark}
use Rattle.qolb_model.specs.Requests.{count_of, last_of}
use Rattle.qolb_model.specs.declared.request.Request.{Request}
use Rattle.link_core.specs.State.{State, NodeCall, entry, seat, point, IsNode, is_clear}
use Rattle.link_core.specs.Shown.{is_rolled, has_line, is_freeing, IsWhole, IsWaiting, Matches}
use Rattle.link_core.specs.declared.told.Told.TheVariants as told
use Rattle.link_core.specs.State.{no_mask}
use Rattle.link_core.specs.Steps.{seat_at_arrival, told_at_arrival}
use Rattle.link_core.proofs.Deeds.{Advances}
use Rattle.qolb_model.proofs.Requests.{has_push, has_last}
use Rattle.qolb_model.proofs.Follows.{has_push_other}
use Rattle.qolb_model.proofs.Prefixes.{prefix_self}
use Rattle.link_core.proofs.Orders.{last_once, last_is}
use Rattle.link_core.proofs.Changes.{Changed, point_other, at_other}
use Rattle.link_core.proofs.Handoff.{arrival_lies, arrival_sits, arrival_says, arrival_unrolled, arrival_unclear, arrival_unpassed}
use Rattle.link_core.proofs.Follows.{sits_at, granted_for, granted_turn, waits_behind}
use Rattle.link_core.proofs.Kept.{Leaves, lies_kept, rests_kept, rests_held}
use Rattle.link_core.proofs.Quiet.{IsQuiet, quiet_shows}

-- a node takes the line by a load, or by a roll after the grant; w is n's entry afterwards
module _ (config : LineConfig) (c : State) (h : Queue) (n : ℕ) (s : Matches config c h) (is : IsNode c n) (at : point c n ≡ Queued) (gr : (entry c n).granted ≡ true)
    (ents : List Entry) (sts : List NodeCall) (w : Entry) (ch : Changed c (record c { place = Hand n; mask = no_mask; entries = ents; seats = sts }) n (seat_at_arrival n c.closed) n w) where
  abbrev d : State
  d = record c { place = Hand n; mask = no_mask; entries = ents; seats = sts }

  last : IsLast h.order n (length h.ends)
  last = granted_turn s n is at gr

  found : (config : LineConfig) → Matches config c h → (c.place ≡ Mailbox n) × ((entry c n).granted ≡ true) × IsWhole config c h.ends
  found config s = granted_for s n s.lies last.known last.its at

  none_passed : (seat c n).passed ≡ []
  none_passed = s.unpassed n is (ap (λ (p : Point). has_line p || is_freeing p) at)

  -- n's request is at its turn, and no release is at it
  undone : (entry c n).done ≡ true → ⊥
  undone e =
      let g = ((s.fresh (length h.ends) (omega arith) last.known).done (ap (λ (m : ℕ). (entry c m).done) last.its ∙ e)).1 in
      let z : Mailbox n ≡ Hand g.by = sym (found config s).0 ∙ g.place in cc

  quiet : w.link ≡ (entry c n).link → w.freed ≡ (entry c n).freed → w.granted ≡ (entry c n).granted → w.done ≡ (entry c n).done → IsQuiet c d h h.marked n (seat_at_arrival n c.closed) n w
  quiet lk fr gd dn = record {
    link = lk;
    freed = fr;
    granted = gd;
    rolled = λ ne. absurd (ne refl);
    done = inl dn;
    ready = λ ne. absurd (ne refl);
    clear = λ ne. absurd (ne refl);
    clear_own = arrival_unclear n c.closed (entry d n) ∙ ap (λ (p : Point). is_clear p (entry c n)) (sym at);
    passed = arrival_unpassed n c.closed ∙ sym none_passed;
    hands = λ m e. let z : Mailbox n ≡ Hand m = sym (found config s).0 ∙ e in cc;
    marks = λ p a l e. s.marks p a l ∙ ap (λ (m : ℕ). is_rolled (point c m)) e ∙ ap is_rolled at ∙ sym (arrival_unrolled n c.closed);
    marks_other = λ p ne. refl;
    marked_known = s.marked_known;
    not_granting = λ m g. let z : Queued ≡ Granting m = sym at ∙ g in cc;
    not_linking = λ q g. let z : Queued ≡ Linking q = sym at ∙ g in cc;
    not_passed = λ g. let z : Queued ≡ Rolled = sym at ∙ g in cc;
    unpassed = λ _. arrival_unpassed n c.closed;
    node = is;
    boxes = λ x ne e. let z : Mailbox n ≡ Mailbox x = sym (found config s).0 ∙ e in let y : n ≡ x = cc in absurd (ne (sym y));
    box = λ e _. absurd (undone (sym dn ∙ e));
    rests = rests_held d n h.order h.ends h.clear refl;
    lies = λ config s. arrival_lies config c d h.order h.ends n last.known last.its (found config s).2 s.opened is refl refl refl refl ch.seat_own;
    own = arrival_sits config c d h.order h.ends n last.known last.its (found config s).2 s.opened is refl refl refl refl ch.seat_own;
  }

  pub come_keeps : w.link ≡ (entry c n).link → w.freed ≡ (entry c n).freed → w.granted ≡ (entry c n).granted → w.done ≡ (entry c n).done → Advances config d h n (told_at_arrival c.closed) None false
  come_keeps lk fr gd dn = record {
    after = h;
    makes = refl;
    clears = none;
    uncleared = λ _. refl;
    shows = quiet_shows config c h n s is (Hand n) c.bytes c.closed no_mask ents sts h.marked (seat_at_arrival n c.closed) n w ch (quiet lk fr gd dn);
    says = arrival_says h n c.closed (found config s).2.closed last;
  }

pub load_waiting_keeps : (config : LineConfig) (c : State) (h : Queue) (n : ℕ) (s : Matches config c h) (is : IsNode c n) (at : point c n ≡ Queued) → (entry c n).granted ≡ false → Advances config c h n told.Waiting None false
load_waiting_keeps config c h n s is at un =
    let b = sits_at s n Queued is at in
    record { after = h; makes = refl; clears = none; uncleared = λ _. refl; shows = s; says = record { at = b.at; last = b.own; behind = waits_behind s n is at un b } }

pub load_busy_keeps : (config : LineConfig) (c : State) (h : Queue) (n : ℕ) (s : Matches config c h) (is : IsNode c n) → is_clear (point c n) (entry c n) ≡ false → Advances config c h n told.Busy None false
load_busy_keeps config c h n s is un =
    record { after = h; makes = refl; clears = none; uncleared = λ _. refl; shows = s; says = λ p l. s.clears n p is l ∙ un }

abbrev pub rolls : Entry → Entry
rolls w = record w { rolled = true }

-- the node withdraws
module _ (config : LineConfig) (c : State) (h : Queue) (n : ℕ) (s : Matches config c h) (is : IsNode c n) (at : point c n ≡ Queued) (un : (entry c n).granted ≡ false)
    (ents : List Entry) (sts : List NodeCall) (ch : Changed c (record c { entries = ents; seats = sts }) n (record (seat c n) { point = Rolled }) n (rolls (entry c n))) where
  abbrev e : State
  e = record c { entries = ents; seats = sts }

  b : IsWaiting c h.order h.ends n
  b = sits_at s n Queued is at

  behind : length h.ends < b.at
  behind = waits_behind s n is at un b

  not_turn : length h.ends < length h.order → requester_at h.order (length h.ends) ≢ n
  not_turn l f = let k = last_once h.order n (length h.ends) b.at (subst (λ (x : ℕ). IsLast h.order x (length h.ends)) f (s.distinct (length h.ends) (omega arith) l)) b.own in let w = behind in absurd (omega arith)

  leaves : Leaves c e h.order h.order h.ends
  leaves = record {
    place = refl;
    bytes = refl;
    closed = refl;
    mask = refl;
    nodes = refl;
    home = λ e. e;
    turn = λ l. (l, refl);
    fwd = λ m q e l. l;
    hand = λ m f. ch.seat_other m (λ g. let x : has_line Queued ≡ true = ap has_line (sym at) ∙ ap (λ (x : ℕ). has_line (point c x)) (sym g) ∙ f in cc);
    box = λ t l a q g. (point_other ch t (λ f. not_turn l (a ∙ f)) ∙ q, ap (λ (w : Entry). w.granted) (ch.entry_other t (λ f. not_turn l (a ∙ f))) ∙ g);
    linking = λ t q l a f. point_other ch t (λ g. not_turn l (a ∙ g)) ∙ f;
    tail = λ q a f g. let ne : q ≢ n = elim a [ inl i ↦ at_other ch q Queued Left at i (λ e. cc) | inr i ↦ at_other ch q Queued Rolled at i (λ e. cc) ] in
        (point_other ch q ne, ap (λ (w : Entry). w.link) (ch.entry_other q ne), ap (λ (w : Entry). w.done) (ch.entry_other q ne));
  }

  abbrev after_roll : List Request
  after_roll = h.marked ++ request h.order b.at ∷ []

  unfreed : (entry c n).freed ≡ false
  unfreed = subst (λ (m : ℕ). (entry c m).freed ≡ false) b.own.its (s.fresh b.at b.waits b.own.known).freed

  quiet_roll : IsQuiet c e h after_roll n (record (seat c n) { point = Rolled }) n (rolls (entry c n))
  quiet_roll = record {
    link = refl;
    freed = refl;
    granted = refl;
    rolled = λ ne. absurd (ne refl);
    done = inl refl;
    ready = λ ne. absurd (ne refl);
    clear = λ ne. absurd (ne refl);
    clear_own = rw ch.entry_own (rw unfreed refl) ∙ ap (λ (p : Point). is_clear p (entry c n)) (sym at);
    passed = refl;
    hands = λ m e. e;
    marks = λ p a l f. let k = last_once h.order n p b.at (subst (λ (m : ℕ). IsLast h.order m p) f (s.distinct p a l)) b.own in rw k (has_last h.marked (request h.order b.at));
    marks_other = λ p ne. has_push_other h.marked (request h.order b.at) (request h.order p) (λ f. ne (f ∙ b.own.its));
    marked_known = λ r y. elim (has_push h.marked (request h.order b.at) r y) [
      | inl z ↦ s.marked_known r z
      | inr z ↦ subst (λ (x : Request). x.number ≤ count_of x.node h.order) (sym z) (s.numbered b.at b.own.known)
    ];
    not_granting = λ m g. let z : Queued ≡ Granting m = sym at ∙ g in cc;
    not_linking = λ q g. let z : Queued ≡ Linking q = sym at ∙ g in cc;
    not_passed = λ g. let z : Queued ≡ Rolled = sym at ∙ g in cc;
    unpassed = λ _. s.unpassed n is (ap (λ (p : Point). has_line p || is_freeing p) at);
    lies = λ config s. lies_kept leaves config s.lies;
    own = ap (λ (w : Entry). w.rolled) ch.entry_own;
    node = is;
    boxes = λ x ne e. e;
    box = s.settled.boxed n is;
    rests = rests_kept leaves h.clear h.clear s.known (prefix_self h.order) (prefix_self h.clear) s.settled.rests;
  }

  pub roll_keeps : IsLegal config.lease h.order h.ends → Advances config e h n told.Withdrawn (Some (mark (last_of n h.order))) false
  roll_keeps legal = record {
    after = record h { marked = after_roll };
    makes = ap (λ (r : Request). record h { marked = h.marked ++ r ∷ [] }) (last_is config.lease h.order h.ends n b.at legal b.own);
    clears = none;
    uncleared = λ _. refl;
    shows = quiet_shows config c h n s is c.place c.bytes c.closed c.mask ents sts after_roll (record (seat c n) { point = Rolled }) n (rolls (entry c n)) ch quiet_roll;
    says = record { at = b.at; last = b.own; behind = behind };
  }
