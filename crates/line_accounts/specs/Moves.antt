-- How a call on a desk changes what a port knows about its line (the port's view). The definitions in this file were
-- made for this project; none is taken from the literature.
use Rattle.std.specs.Prelude.{◌≡◌, ◌⊎◌, ℕ, ◌+◌, ◌<◌, ◌≤◌, ◌^◌, Bool, true, false, List, take, slice_get, Some}
use Rattle.line_lanes.specs.Lane.{lane_of}
use Rattle.qolb_model.specs.declared.write.Write.{Write}
use Rattle.qolb_model.specs.declared.end.End.TheVariants.{Served}
use Rattle.qolb_model.specs.declared.view.View.{View}
use Rattle.qolb_model.specs.Ends.{bytes_after}
use Rattle.qolb_model.specs.Leases.{is_last_turn}
use Rattle.qolb_model.specs.Views.{own, bytes_of}
use Rattle.qolb_model.specs.Sound.{Continues}
use Rattle.qolb_model.specs.Enqueueing.{IsBusy, Asks}
use Rattle.qolb_model.specs.AtTurn.{IsGranted, IsWithdrawn}
use Rattle.qolb_model.specs.Releasing.{IsTold}
use Rattle.qolb_model.specs.Calls.{Releases}
use Rattle.line_accounts.specs.declared.answer.Reply.{Reply}
use Rattle.line_accounts.specs.declared.answer.Reply.TheVariants.{Done, Short, Over, Late, Closed, Busy, NoAccount, SameAccount}
use Rattle.line_accounts.specs.Accounts.{StayBalances, HasRoom, credited, debited}
use Rattle.qolb_model.specs.Sums.{KnowsOwnPlaces, HasNotShut}
use Rattle.line_accounts.specs.Paid.{rise, fall, paid_by, drawn_by}
use Rattle.line_accounts.specs.Desks.{IsAtRest}

-- the port has paid in `more` more than before, and drawn `drawn` more
pub record Pays (old new : View) (more drawn : ℕ) : Type 0 where
  pub paid_in : paid_by new ≡ paid_by old + more
  pub paid_out : drawn_by new ≡ drawn_by old + drawn

-- A turn served the port's last request; it found these bytes and left those. The turn closed the line only if it was
-- the last of a lease.
pub record IsServed (v : View) (found left : List ℕ) : Type 0 where
  pub place : ℕ
  pub write : Write
  pub shut : Bool
  pub at : slice_get v.order place ≡ Some (own v)
  pub served : slice_get v.ends place ≡ Some (Served write shut)
  pub shuts : shut ≡ is_last_turn v.config.lease (take place v.ends)
  pub before : bytes_after v.config.opening.bytes (take place v.ends) ≡ found
  pub after : bytes_after v.config.opening.bytes (take (place + 1) v.ends) ≡ left

-- a holder released the line, and left these bytes in it
abbrev pub Leaves : View → View → List ℕ → Type 0
Leaves held_line new left = (write : Write) × (write.bytes.bytes ≡ left) × Releases StayBalances false held_line new write

-- The port requested the line, and had a turn that found these bytes and left those. In that turn it did not shut the
-- line.
pub record TakesTurn (old new : View) (found left : List ℕ) : Type 0 where
  pub continues : Continues StayBalances old new
  pub at_rest : IsAtRest new
  pub asks : Asks old new
  pub served : IsServed new found left
  pub unshut : HasNotShut old → HasNotShut new
  pub pays : Pays old new (rise found left) (fall found left)

-- the port looked at the line in a turn, and changed nothing
abbrev pub Looks : View → View → List ℕ → Type 0
Looks old new found = TakesTurn old new found found

-- the port requested the line and holds it, and its turn has written nothing yet
pub record Holds (old new : View) (turn : Write) : Type 0 where
  pub continues : Continues StayBalances old new
  pub places : KnowsOwnPlaces new
  pub asks : Asks old new
  pub granted : IsGranted new turn
  pub unshut : HasNotShut old → HasNotShut new
  pub pays : Pays old new 0 0

-- the port requested the line, and had no turn
pub record AsksInVain (old new : View) : Type 0 where
  pub continues : Continues StayBalances old new
  pub at_rest : IsAtRest new
  pub unshut : HasNotShut old → HasNotShut new
  pub pays : Pays old new 0 0

-- Why the port had no turn: its request was withdrawn, was told that the line is closed, or could not be made. No other
-- answer is possible.
abbrev pub IsRefused : View → View → Reply → Type 0
IsRefused old new Late = AsksInVain old new × Asks old new × IsWithdrawn new
IsRefused old new Closed = AsksInVain old new × Asks old new × IsTold new
IsRefused old new Busy = AsksInVain old new × IsBusy old new
IsRefused old new Done = ⊥
IsRefused old new Short = ⊥
IsRefused old new Over = ⊥
IsRefused old new NoAccount = ⊥
IsRefused old new SameAccount = ⊥

-- a deposit at the lane; `sum` and `sum_then` are the sum of all that was paid in, before and after
abbrev pub PaysIn : View → View → ℕ → ℕ → ℕ → ℕ → Reply → Type 0
PaysIn old new lane amount sum sum_then Done = (found : List ℕ) × TakesTurn old new found (credited found lane amount) × HasRoom found lane amount × Pays old new amount 0 × (sum_then ≡ sum + amount)
PaysIn old new lane amount sum sum_then Over = (found : List ℕ) × Looks old new found × ((HasRoom found lane amount → ⊥) ⊎ (2 ^ 128 ≤ sum + amount)) × (sum_then ≡ sum)
PaysIn old new lane amount sum sum_then Short = ⊥
PaysIn old new lane amount sum sum_then Late = IsRefused old new Late × (sum_then ≡ sum)
PaysIn old new lane amount sum sum_then Closed = IsRefused old new Closed × (sum_then ≡ sum)
PaysIn old new lane amount sum sum_then Busy = IsRefused old new Busy × (sum_then ≡ sum)
PaysIn old new lane amount sum sum_then NoAccount = ⊥
PaysIn old new lane amount sum sum_then SameAccount = ⊥

-- a payment out of the lane; `sum` and `sum_then` are the sum of all that was paid out, before and after
abbrev pub PaysOut : View → View → ℕ → ℕ → ℕ → ℕ → Reply → Type 0
PaysOut old new lane amount sum sum_then Done = (found : List ℕ) × TakesTurn old new found (debited found lane amount) × (amount ≤ lane_of found lane) × Pays old new 0 amount × (sum_then ≡ sum + amount)
PaysOut old new lane amount sum sum_then Short = (found : List ℕ) × Looks old new found × (lane_of found lane < amount) × (sum_then ≡ sum)
PaysOut old new lane amount sum sum_then Over = (found : List ℕ) × Looks old new found × (amount ≤ lane_of found lane) × (2 ^ 128 ≤ sum + amount) × (sum_then ≡ sum)
PaysOut old new lane amount sum sum_then Late = IsRefused old new Late × (sum_then ≡ sum)
PaysOut old new lane amount sum sum_then Closed = IsRefused old new Closed × (sum_then ≡ sum)
PaysOut old new lane amount sum sum_then Busy = IsRefused old new Busy × (sum_then ≡ sum)
PaysOut old new lane amount sum sum_then NoAccount = ⊥
PaysOut old new lane amount sum sum_then SameAccount = ⊥

-- a transfer from one lane of the line to another
abbrev pub MovesWithin : View → View → ℕ → ℕ → ℕ → Reply → Type 0
MovesWithin old new source target amount Done = (found : List ℕ) × TakesTurn old new found (credited (debited found source amount) target amount) × (amount ≤ lane_of found source) × HasRoom found target amount × Pays old new 0 0
MovesWithin old new source target amount Short = (found : List ℕ) × Looks old new found × (lane_of found source < amount)
MovesWithin old new source target amount Over = (found : List ℕ) × Looks old new found × (amount ≤ lane_of found source) × (HasRoom found target amount → ⊥)
MovesWithin old new source target amount Late = IsRefused old new Late
MovesWithin old new source target amount Closed = IsRefused old new Closed
MovesWithin old new source target amount Busy = IsRefused old new Busy
MovesWithin old new source target amount NoAccount = ⊥
MovesWithin old new source target amount SameAccount = ⊥

-- A refusal at one of two lines. Either the port requested the first line, was not granted it, and did not request the
-- second; or it released the first unchanged, because it requested the second and was not granted it.
abbrev pub IsRefusedEither : View → View → View → View → Reply → Type 0
IsRefusedEither first first_then second second_then reply =
    (IsRefused first first_then reply × (second_then ≡ second)) ⊎ ((found : List ℕ) × Looks first first_then found × IsRefused second second_then reply)

-- two held lines were checked, then either both were written or neither was, and both were released
abbrev pub Carries : View → View → View → View → ℕ → ℕ → ℕ → Reply → Type 0
Carries source source_then target target_then from to amount Done =
    Leaves source source_then (debited (bytes_of source) from amount) × Leaves target target_then (credited (bytes_of target) to amount) × (amount ≤ lane_of (bytes_of source) from) × HasRoom (bytes_of target) to amount
Carries source source_then target target_then from to amount Short =
    Leaves source source_then (bytes_of source) × Leaves target target_then (bytes_of target) × (lane_of (bytes_of source) from < amount)
Carries source source_then target target_then from to amount Over =
    Leaves source source_then (bytes_of source) × Leaves target target_then (bytes_of target) × (amount ≤ lane_of (bytes_of source) from) × (HasRoom (bytes_of target) to amount → ⊥)
Carries source source_then target target_then from to amount Late = ⊥
Carries source source_then target target_then from to amount Closed = ⊥
Carries source source_then target target_then from to amount Busy = ⊥
Carries source source_then target target_then from to amount NoAccount = ⊥
Carries source source_then target target_then from to amount SameAccount = ⊥

-- a transfer from a lane of one line to a lane of another; `refused` is what holds if one of the lines is not granted
abbrev pub MovesAcross : (Reply → Type 0) → View → View → View → View → ℕ → ℕ → ℕ → Reply → Type 0
MovesAcross refused source source_then target target_then from to amount Done =
    (found : List ℕ) × TakesTurn source source_then found (debited found from amount) × (amount ≤ lane_of found from) × Pays source source_then 0 amount
    × (there : List ℕ) × TakesTurn target target_then there (credited there to amount) × HasRoom there to amount × Pays target target_then amount 0
MovesAcross refused source source_then target target_then from to amount Short =
    (found : List ℕ) × Looks source source_then found × (lane_of found from < amount) × (there : List ℕ) × Looks target target_then there
MovesAcross refused source source_then target target_then from to amount Over =
    (found : List ℕ) × Looks source source_then found × (amount ≤ lane_of found from) × (there : List ℕ) × Looks target target_then there × (HasRoom there to amount → ⊥)
MovesAcross refused source source_then target target_then from to amount Late = refused Late
MovesAcross refused source source_then target target_then from to amount Closed = refused Closed
MovesAcross refused source source_then target target_then from to amount Busy = refused Busy
MovesAcross refused source source_then target target_then from to amount NoAccount = ⊥
MovesAcross refused source source_then target target_then from to amount SameAccount = ⊥

-- The same, from the first of two lines to the second, or from the second to the first. The first line is requested
-- first.
abbrev pub MovesBetween : Bool → View → View → View → View → ℕ → ℕ → ℕ → Reply → Type 0
MovesBetween true low low_then high high_then from to amount reply = MovesAcross (IsRefusedEither low low_then high high_then) low low_then high high_then from to amount reply
MovesBetween false low low_then high high_then from to amount reply = MovesAcross (IsRefusedEither low low_then high high_then) high high_then low low_then from to amount reply
