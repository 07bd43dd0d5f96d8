-- What each call on a desk guarantees. There is one record for each call, which states how the call changes the desk.
-- The record has one field for each answer of the call, or for a part of an answer. The definitions in this file were
-- made for this project; none is taken from the literature.
use Rattle.std.specs.Prelude.{◌≡◌, ◌≢◌, ◌⊎◌, ℕ, ◌*◌, ◌<◌, ◌≤◌, List, slice_set, slice_get, Some}
use Rattle.qolb_model.specs.declared.view.View.{View}
use Rattle.line_accounts.specs.declared.answer.Reply.{Reply}
use Rattle.line_accounts.specs.declared.answer.Reply.TheVariants.{NoAccount, SameAccount}
use Rattle.line_accounts.specs.Accounts.{line_of, lane_in}
use Rattle.line_accounts.specs.Desks.{DeskOf}
use Rattle.line_accounts.specs.Moves.{PaysIn, PaysOut, MovesWithin, MovesAcross, IsRefusedEither}

-- both accounts exist over `lines` lines, and they are different
pub record AreTwo (lines source target : ℕ) : Type 0 where
  pub source_known : source < 8 * lines
  pub target_known : target < 8 * lines
  pub apart : source ≢ target

module _ {Port : Type 0} (view : Port → View) where
  -- the port at `place` changed in this way, and no other port was called
  pub record ChangesPort (place : ℕ) (Does : View → View → Type 0) (old new : List Port) : Type 0 where
    pub port : Port
    pub port_then : Port
    pub was : slice_get old place ≡ Some port
    pub is : new ≡ slice_set old place port_then
    pub does : Does (view port) (view port_then)

  -- the ports at the two places changed together in this way, and no other port was called
  pub record ChangesTwo (first second : ℕ) (Does : View → View → View → View → Type 0) (old new : List Port) : Type 0 where
    pub one : Port
    pub one_then : Port
    pub other : Port
    pub other_then : Port
    pub one_was : slice_get old first ≡ Some one
    pub other_was : slice_get old second ≡ Some other
    pub is : new ≡ slice_set (slice_set old first one_then) second other_then
    pub does : Does (view one) (view one_then) (view other) (view other_then)

  -- what `deposit` promises, over `lines` lines
  pub record Deposits (lines account amount : ℕ) (old new : DeskOf Port) (reply : Reply) : Type 0 where
    pub unknown : reply ≡ NoAccount → (8 * lines ≤ account) × (new ≡ old)
    pub known : reply ≢ NoAccount → account < 8 * lines
    pub pays : reply ≢ NoAccount → ChangesPort (line_of account) (λ v w. PaysIn v w (lane_in account) amount old.paid_in new.paid_in reply) old.ports new.ports
    pub paid_out : new.paid_out ≡ old.paid_out

  -- what `take_out` promises
  pub record TakesOut (lines account amount : ℕ) (old new : DeskOf Port) (reply : Reply) : Type 0 where
    pub unknown : reply ≡ NoAccount → (8 * lines ≤ account) × (new ≡ old)
    pub known : reply ≢ NoAccount → account < 8 * lines
    pub pays : reply ≢ NoAccount → ChangesPort (line_of account) (λ v w. PaysOut v w (lane_in account) amount old.paid_out new.paid_out reply) old.ports new.ports
    pub paid_in : new.paid_in ≡ old.paid_in

  -- what `transfer` promises: it takes one turn if both accounts are on one line, and otherwise one turn of each line,
  -- of which it requests the lower first
  pub record Transfers (lines source target amount : ℕ) (old new : DeskOf Port) (reply : Reply) : Type 0 where
    pub unknown : reply ≡ NoAccount → ((8 * lines ≤ source) ⊎ (8 * lines ≤ target)) × (new ≡ old)
    pub same : reply ≡ SameAccount → (source < 8 * lines) × (source ≡ target) × (new ≡ old)
    pub two : reply ≢ NoAccount → reply ≢ SameAccount → AreTwo lines source target
    pub within : AreTwo lines source target → line_of source ≡ line_of target
        → ChangesPort (line_of source) (λ v w. MovesWithin v w (lane_in source) (lane_in target) amount reply) old.ports new.ports
    pub up : AreTwo lines source target → line_of source < line_of target
        → ChangesTwo (line_of source) (line_of target) (λ s s' t t'. MovesAcross (IsRefusedEither s s' t t') s s' t t' (lane_in source) (lane_in target) amount reply) old.ports new.ports
    pub down : AreTwo lines source target → line_of target < line_of source
        → ChangesTwo (line_of source) (line_of target) (λ s s' t t'. MovesAcross (IsRefusedEither t t' s s') s s' t t' (lane_in source) (lane_in target) amount reply) old.ports new.ports
    pub paid_in : new.paid_in ≡ old.paid_in
    pub paid_out : new.paid_out ≡ old.paid_out
