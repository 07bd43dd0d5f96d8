-- The state of a line with reversed links, and how one action changes this state. With reversed links, a node's entry
-- names the next younger node. (A list of requesters at a line is from IEEE Std 1596-1992. Links from the tail towards
-- the head, which the younger of two nodes makes, and the words that contain these links are this project's own.)
use Rattle.std.specs.Prelude.{ℕ, ◌<◌, ◌≤◌, ◌==◌, Bool, true, false, ◌&&◌, not, List, [], ◌∷◌, length, replicate, slice_index_or, slice_set}
use Rattle.link_core.specs.declared.point.Point.{Point}
use Rattle.link_core.specs.declared.point.Point.TheVariants.{Idle, Ready, Linking, Queued, Holding, Leaving, Marking, Granting, Freeing, Left, Rolled, Shut}
use Rattle.link_core.specs.declared.place.Place.TheVariants.{Home}
use Rattle.link_core.specs.declared.seat.ReleaseCause.TheVariants.{Own}
use Rattle.qolb_model.specs.declared.config.LineConfig.{LineConfig}
use Rattle.link_core.specs.declared.state.TheConstants.{PLACES}
use Rattle.line_lanes.specs.declared.line.Mask.{Mask}
use Rattle.link_core.specs.declared.entry.Entry.{Entry}
pub use Rattle.link_core.specs.declared.seat.NodeCall.{NodeCall}
pub use Rattle.link_core.specs.declared.state.State.{State}

-- an entry after its reset
abbrev pub empty : Entry
empty = record { granted = false; rolled = false; done = false; freed = false; link = 0 }

-- the seat of a node that has made no call
abbrev pub unused : NodeCall
unused = record { point = Idle; passed = []; reason = Own }

-- the entry, the seat and the point of a node
abbrev pub entry : State → ℕ → Entry
entry c n = slice_index_or c.entries n empty

abbrev pub seat : State → ℕ → NodeCall
seat c n = slice_index_or c.seats n unused

abbrev pub point : State → ℕ → Point
point c n = (seat c n).point

-- nodes are numbered from 1
abbrev pub IsNode : State → ℕ → Type 0
IsNode c n = (0 < n) × (n ≤ c.nodes)

-- there is a place for each node
pub record IsWide (c : State) : Type 0 where
  pub entries : c.nodes < length c.entries
  pub seats : c.nodes < length c.seats

-- the node whose entry the release has reached, which is the last node that it passed, or itself
abbrev pub last_or : ℕ → List ℕ → ℕ
last_or n [] = n
last_or n (m ∷ ms) = last_or m ms

abbrev pub current : State → ℕ → ℕ
current c n = last_or n (seat c n).passed

-- the node at this point, with this entry, may make another request after its last one
abbrev pub is_clear : Point → Entry → Bool
is_clear Idle w = true
is_clear Ready w = true
is_clear Shut w = true
is_clear Left w = not (w.link == 0)
is_clear Rolled w = w.freed && not (w.done && (w.link == 0))
is_clear (Linking q) w = false
is_clear Queued w = false
is_clear Holding w = false
is_clear (Leaving e) w = false
is_clear (Marking e) w = false
is_clear (Granting m) w = false
is_clear Freeing w = false

-- a node's entry, seat or point is replaced
abbrev pub put_entry : ℕ → Entry → State → State
put_entry n w c = record c { entries = slice_set c.entries n w }

abbrev pub put_seat : ℕ → NodeCall → State → State
put_seat n s c = record c { seats = slice_set c.seats n s }

abbrev pub at_point : ℕ → Point → State → State
at_point n p c = put_seat n (record (seat c n) { point = p }) c

-- the mask without any byte
abbrev pub no_mask : Mask
no_mask = record { 0 = 0 }

-- the state of a new line; place 0 of both lists is not used
abbrev pub first : LineConfig → State
first config = record { nodes = config.nodes; home = 0; place = Home; bytes = config.opening; closed = false; mask = no_mask; left = config.lease; entries = replicate PLACES empty; seats = replicate PLACES unused }
