-- What a port knows while it waits for its turn, and while it has the turn. (Handing the line itself over to the next
-- node is from Goodman, Vernon and Woest, 1989.)
use Rattle.std.specs.Prelude.{◌≡◌, ℕ, ◌+◌, ◌<◌, ◌≤◌, false, length, slice_get, Some}
use Rattle.qolb_model.specs.declared.answer.PortState.TheVariants.{Holding, Queued, Rolled}
use Rattle.qolb_model.specs.declared.request.Request.{Request}
use Rattle.qolb_model.specs.declared.write.Write.{Write}
use Rattle.qolb_model.specs.declared.end.End.{End}
use Rattle.qolb_model.specs.declared.view.View.{View}
use Rattle.qolb_model.specs.Requests.{Has, Lacks}
use Rattle.qolb_model.specs.Ends.{is_closed, written}
use Rattle.qolb_model.specs.EndKinds.{is_gone}
use Rattle.qolb_model.specs.Histories.{turn_of}
use Rattle.qolb_model.specs.Views.{own, bytes_of}

-- the port's request is not at its turn, because fewer requests have ended than are before it
abbrev pub Waits : View → Type 0
Waits v = (p : ℕ) × (length v.ends < p) × (slice_get v.order p ≡ Some (own v))

-- Bounded bypass. As far as the port knows, no more requests are open than the line has nodes. At most one fewer than
-- that end before the port's own, whatever other nodes do later, because a later request is behind it.
abbrev pub IsBoundedBypass : View → Type 0
IsBoundedBypass v = length v.order ≤ length v.ends + v.config.nodes

-- the request just before this place is clear, if it was served or told that the line is closed
abbrev pub IsClearBefore : View → ℕ → Type 0
IsClearBefore v place = (p : ℕ) (r : Request) (e : End) → p + 1 ≡ place → slice_get v.order p ≡ Some r → slice_get v.ends p ≡ Some e → is_gone e ≡ false → Has v.clear r

-- Granted: the port holds the open line at its turn. Its request is not withdrawn, it has the bytes after all earlier
-- ends, and it has written nothing yet.
pub record IsGranted (new : View) (turn : Write) : Type 0 where
  pub state : new.state ≡ Holding
  pub at_turn : turn_of new.order new.ends ≡ Some (own new)
  pub unmarked : Lacks new.marked (own new)
  pub is_open : is_closed new.ends ≡ false
  pub no_mask : turn.mask.0 ≡ 0
  pub bytes : turn.bytes.bytes ≡ bytes_of new
  pub clear_before : IsClearBefore new (length new.ends)

-- queued, or waiting: the port's request is behind another request, and is not withdrawn
pub record IsQueued (new : View) : Type 0 where
  pub state : new.state ≡ Queued
  pub waits : Waits new
  pub near : IsBoundedBypass new
  pub unmarked : Lacks new.marked (own new)

-- withdrawn: the port's request was marked while it was behind another request, and a release will pass it
pub record IsWithdrawn (new : View) : Type 0 where
  pub state : new.state ≡ Rolled
  pub waits : Waits new
  pub near : IsBoundedBypass new
  pub marked : Has new.marked (own new)

-- A turn in progress: the line is open, and its bytes are those after all earlier ends, changed under the mask of what
-- the turn has written.
pub record IsTurn (v : View) (turn : Write) : Type 0 where
  pub is_open : is_closed v.ends ≡ false
  pub bytes : written (bytes_of v) turn ≡ turn.bytes.bytes
