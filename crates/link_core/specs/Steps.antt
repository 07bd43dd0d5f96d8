-- Defines the effect of each event as a relation between two states, case by case. The definitions in this file were
-- made for this project. (Handing the line over at the tail of the list is from Goodman, Vernon and Woest, 1989.)
use Rattle.std.specs.Prelude.{◌≡◌, ◌≢◌, ℕ, ◌<◌, ◌≤◌, Bool, true, false, Option, List, [], ◌∷◌, ◌++◌, ◌⊎◌, length, slice_index_or, bit_or}
use Rattle.link_core.specs.declared.point.Point.{Point}
use Rattle.link_core.specs.declared.point.Point.TheVariants.{Idle, Ready, Linking, Queued, Holding, Leaving, Marking, Granting, Freeing, Left, Rolled, Shut}
use Rattle.link_core.specs.declared.seat.ReleaseCause.{ReleaseCause}
use Rattle.link_core.specs.declared.seat.ReleaseCause.TheVariants.{Own, Closing, Refused}
use Rattle.link_core.specs.declared.place.Place.TheVariants.{Home, Mailbox, Hand}
use Rattle.link_core.specs.declared.told.Told.{Told}
use Rattle.link_core.specs.declared.told.Told.TheVariants as told
use Rattle.link_core.specs.declared.event.Event.{Event}
use Rattle.link_core.specs.declared.event.Event.TheVariants as event
use Rattle.link_core.specs.declared.told.NotEnabled.{NotEnabled}
use Rattle.link_core.specs.declared.told.NotEnabled.TheVariants as refusal
use Rattle.line_lanes.specs.declared.line.Line64.{Line64}
use Rattle.line_lanes.specs.declared.line.Mask.{Mask}
use Rattle.line_lanes.specs.Line.{merged}
use Rattle.qolb_model.specs.declared.config.TheConstants.{MAX_NODES}
use Rattle.qolb_model.specs.Steps.{is_one, decrement}
use Rattle.link_core.specs.declared.seat.TheConstants.{MAX_PASSED}
use Rattle.link_core.specs.State.{State, no_mask, NodeCall, empty, entry, seat, point, IsNode, is_clear, put_entry, put_seat, at_point}

-- a masked write of the line, and the places of two masks
abbrev pub write_line : Line64 → Mask → Line64 → Line64
write_line old mask new = record { bytes = merged old.bytes new.bytes mask.0 }

abbrev pub either : Mask → Mask → Mask
either a b = record { 0 = bit_or a.0 b.0 }

-- the seat of n when the line gets into its hand: an open one is held, a closed one released at once
abbrev pub seat_at_arrival : ℕ → Bool → NodeCall
seat_at_arrival n false = record { point = Holding; passed = []; reason = Own }
seat_at_arrival n true = record { point = Leaving n; passed = []; reason = Refused }

-- and the answer told then
abbrev pub told_at_arrival : Bool → Told
told_at_arrival false = told.Granted
told_at_arrival true = told.Went

-- the line gets into n's hand, without a write yet
abbrev pub arrive : ℕ → State → State
arrive n c = put_seat n (seat_at_arrival n c.closed) (record c { place = Hand n; mask = no_mask })

-- the end of a release, for each cause
abbrev pub told_at_end : ReleaseCause → Told
told_at_end Own = told.Released
told_at_end Closing = told.Shut
told_at_end Refused = told.Closed

abbrev pub point_at_end : ReleaseCause → Point
point_at_end Own = Idle
point_at_end Closing = Shut
point_at_end Refused = Shut

-- the seat of a node that has still to free these passed nodes
abbrev pub seat_with : List ℕ → Point → ReleaseCause → NodeCall
seat_with [] p r = record { point = p; passed = []; reason = r }
seat_with (m ∷ ms) p r = record { point = Freeing; passed = m ∷ ms; reason = r }

-- the line has left n's hand: n frees the nodes that it passed, or its call ends
abbrev pub seat_at_close : Point → NodeCall → NodeCall
seat_at_close p s = seat_with s.passed p s.reason

abbrev pub told_with : List ℕ → ReleaseCause → Told
told_with [] r = told_at_end r
told_with (m ∷ ms) r = told.Went

-- the number of turns left when the request at its turn has ended: one fewer, if that was the releasing node's own,
-- served
abbrev pub left_after : Option ℕ → ReleaseCause → List ℕ → Option ℕ
left_after left Own [] = decrement left
left_after left Closing [] = decrement left
left_after left Refused [] = left
left_after left _ (m ∷ ms) = left

abbrev pub turns_after : ℕ → State → Option ℕ
turns_after n c = left_after c.left (seat c n).reason (seat c n).passed

-- the line goes home from n's release
abbrev pub gone_home : ℕ → State → State
gone_home n c = put_seat n (seat_at_close (point_at_end (seat c n).reason) (seat c n)) (record c { home = 0; place = Home; left = turns_after n c })

abbrev pub told_home : ℕ → State → Told
told_home n c = told_with (seat c n).passed (seat c n).reason

-- the holder n closes the line, and its release starts
abbrev pub closed_by : ℕ → State → State
closed_by n c = put_seat n (record (seat c n) { point = Leaving n; reason = Closing }) (record c { closed = true })

-- n's release is at e, with the line in n's hand; a holder's is at its own entry, and not of the last turn
pub data Releases (c : State) (n e : ℕ) : Type 0 where
  holding : point c n ≡ Holding → e ≡ n → is_one c.left ≡ false → Releases c n e
  leaving : point c n ≡ Leaving e → Releases c n e

-- From c the event tells this and leads to that state.
pub data Step (c : State) : Event → Told → State → Type 0 where
  -- a node about to request stores 0 in its entry
  reset : (n : ℕ) → IsNode c n → (point c n ≡ Idle) ⊎ (point c n ≡ Shut) →
      Step c (event.Reset n) told.Went (at_point n Ready (put_entry n empty c))
  -- prepend: the node puts itself into the home word; if that was 0 it takes the line from home, otherwise it is to
  -- link to the node found there
  prepend_first : (n : ℕ) → IsNode c n → point c n ≡ Ready → c.home ≡ 0 →
      Step c (event.Prepend n) (told_at_arrival c.closed) (arrive n (record c { home = n }))
  prepend : (n : ℕ) → IsNode c n → point c n ≡ Ready → c.home ≢ 0 →
      Step c (event.Prepend n) told.Went (at_point n (Linking c.home) (record c { home = n }))
  -- link: if the older entry is done, the node takes the line from its mailbox, otherwise the request waits
  link_done : (n p : ℕ) → IsNode c n → point c n ≡ Linking p → (entry c p).done ≡ true →
      Step c (event.Link n) (told_at_arrival c.closed) (arrive n (put_entry p (record (entry c p) { link = n }) c))
  link : (n p : ℕ) → IsNode c n → point c n ≡ Linking p → (entry c p).done ≡ false →
      Step c (event.Link n) told.Queued (at_point n Queued (put_entry p (record (entry c p) { link = n }) c))
  -- a waiting node loads its entry: if that is granted, it takes the line
  load_granted : (n : ℕ) → IsNode c n → point c n ≡ Queued → (entry c n).granted ≡ true →
      Step c (event.Load n) (told_at_arrival c.closed) (arrive n c)
  load_waiting : (n : ℕ) → IsNode c n → point c n ≡ Queued → (entry c n).granted ≡ false →
      Step c (event.Load n) told.Waiting c
  -- a node that left the line, or has withdrawn, loads whether its last request has become clear
  load_free : (n : ℕ) → IsNode c n → (point c n ≡ Left) ⊎ (point c n ≡ Rolled) → is_clear (point c n) (entry c n) ≡ true →
      Step c (event.Load n) told.Free (at_point n Idle c)
  load_busy : (n : ℕ) → IsNode c n → (point c n ≡ Left) ⊎ (point c n ≡ Rolled) → is_clear (point c n) (entry c n) ≡ false →
      Step c (event.Load n) told.Busy c
  -- a release at the entry e: if home names e, no request follows, and the line goes home; otherwise e is to be marked
  -- as done
  home : (n e : ℕ) → IsNode c n → Releases c n e → c.home ≡ e → Step c (event.Home n) (told_home n c) (gone_home n c)
  home_failed : (n e : ℕ) → IsNode c n → Releases c n e → c.home ≢ e → Step c (event.Home n) told.Went (at_point n (Marking e) c)
  -- a holder at the last turn of a lease first closes the line
  home_last : (n : ℕ) → IsNode c n → point c n ≡ Holding → is_one c.left ≡ true → c.home ≡ n → Step c (event.Home n) (told_home n (closed_by n c)) (gone_home n (closed_by n c))
  home_last_failed : (n : ℕ) → IsNode c n → point c n ≡ Holding → is_one c.left ≡ true → c.home ≢ n → Step c (event.Home n) told.Went (at_point n (Marking n) (closed_by n c))
  -- e is marked as done: without a link the line stays in e's mailbox, which is n's own or that of a passed node;
  -- otherwise the next node is known
  done_left : (n e : ℕ) → IsNode c n → point c n ≡ Marking e → (entry c e).link ≡ 0 → e ≡ n →
      Step c (event.Done n) (told_with (seat c n).passed (seat c n).reason)
      (put_seat n (seat_at_close Left (seat c n)) (put_entry e (record (entry c e) { done = true }) (record c { place = Mailbox e; left = turns_after n c })))
  done_rolled : (n e : ℕ) → IsNode c n → point c n ≡ Marking e → (entry c e).link ≡ 0 → e ≢ n →
      Step c (event.Done n) (told_with (seat c n).passed (seat c n).reason)
      (put_seat n (seat_at_close (point_at_end (seat c n).reason) (seat c n)) (put_entry e (record (entry c e) { done = true }) (record c { place = Mailbox e; left = turns_after n c })))
  done_linked : (n e : ℕ) → IsNode c n → point c n ≡ Marking e → (entry c e).link ≢ 0 →
      Step c (event.Done n) told.Went (at_point n (Granting (entry c e).link) (put_entry e (record (entry c e) { done = true }) c))
  -- the next node is granted: the line is put into its mailbox; but if it has withdrawn it is passed, and the release
  -- goes on at its entry
  grant : (n m : ℕ) → IsNode c n → point c n ≡ Granting m → (entry c m).rolled ≡ false →
      Step c (event.Grant n) (told_with (seat c n).passed (seat c n).reason)
      (put_seat n (seat_at_close (point_at_end (seat c n).reason) (seat c n)) (put_entry m (record (entry c m) { granted = true }) (record c { place = Mailbox m; left = turns_after n c })))
  grant_rolled : (n m : ℕ) → IsNode c n → point c n ≡ Granting m → (entry c m).rolled ≡ true →
      Step c (event.Grant n) told.Went
      (put_seat n (record { point = Leaving m; passed = (seat c n).passed ++ m ∷ []; reason = (seat c n).reason }) (put_entry m (record (entry c m) { granted = true }) (record c { left = turns_after n c })))
  -- a waiting node withdraws: if it was granted before, it takes the line
  roll_granted : (n : ℕ) → IsNode c n → point c n ≡ Queued → (entry c n).granted ≡ true →
      Step c (event.Roll n) (told_at_arrival c.closed) (arrive n (put_entry n (record (entry c n) { rolled = true }) c))
  roll : (n : ℕ) → IsNode c n → point c n ≡ Queued → (entry c n).granted ≡ false →
      Step c (event.Roll n) told.Withdrawn (at_point n Rolled (put_entry n (record (entry c n) { rolled = true }) c))
  -- after its release a node frees the nodes that it passed, in their order
  freed : (n x : ℕ) (rest : List ℕ) → IsNode c n → point c n ≡ Freeing → (seat c n).passed ≡ x ∷ rest →
      Step c (event.Freed n) (told_with rest (seat c n).reason)
      (put_seat n (seat_with rest (point_at_end (seat c n).reason) (seat c n).reason) (put_entry x (record (entry c x) { freed = true }) c))
  -- the holder writes, and closes the line
  write : (n : ℕ) (mask : Mask) (bytes : Line64) → IsNode c n → point c n ≡ Holding →
      Step c (event.Write n mask bytes) told.Went (record c { bytes = write_line c.bytes mask bytes; mask = either c.mask mask })
  close : (n : ℕ) → IsNode c n → point c n ≡ Holding →
      Step c (event.Close n) told.Went (closed_by n c)

-- the node that acts
abbrev pub node_of : Event → ℕ
node_of (event.Reset n) = n
node_of (event.Prepend n) = n
node_of (event.Link n) = n
node_of (event.Load n) = n
node_of (event.Home n) = n
node_of (event.Done n) = n
node_of (event.Grant n) = n
node_of (event.Roll n) = n
node_of (event.Freed n) = n
node_of (event.Write n mask bytes) = n
node_of (event.Close n) = n

-- the points at which an event is enabled
abbrev pub allows : Event → Point → Bool
allows (event.Reset n) Idle = true
allows (event.Reset n) Shut = true
allows (event.Prepend n) Ready = true
allows (event.Link n) (Linking p) = true
allows (event.Load n) Queued = true
allows (event.Load n) Left = true
allows (event.Load n) Rolled = true
allows (event.Home n) Holding = true
allows (event.Home n) (Leaving e) = true
allows (event.Done n) (Marking e) = true
allows (event.Grant n) (Granting m) = true
allows (event.Roll n) Queued = true
allows (event.Freed n) Freeing = true
allows (event.Write n mask bytes) Holding = true
allows (event.Close n) Holding = true
allows _ _ = false

-- the cause of a refused event
abbrev pub IsRefused : State → Event → NotEnabled → Type 0
IsRefused c e refusal.Node = IsNode c (node_of e) → ⊥
IsRefused c e refusal.Point = IsNode c (node_of e) × (allows e (point c (node_of e)) ≡ false)

-- a point names nodes only
abbrev pub Names : State → Point → Type 0
Names c (Linking q) = IsNode c q
Names c (Leaving e) = IsNode c e
Names c (Marking e) = IsNode c e
Names c (Granting m) = IsNode c m
Names c _ = Unit {0}

-- the capacity of the arrays
pub record Fits (c : State) : Type 0 where
  pub nodes : c.nodes ≤ MAX_NODES
  pub points : (n : ℕ) → IsNode c n → Names c (point c n)
  pub passed : (n i : ℕ) → IsNode c n → i < length (seat c n).passed → IsNode c (slice_index_or (seat c n).passed i 0)
  pub room : (n m : ℕ) → IsNode c n → point c n ≡ Granting m → length (seat c n).passed < MAX_PASSED
  pub freeing : (n : ℕ) → IsNode c n → point c n ≡ Freeing → (seat c n).passed ≢ []
