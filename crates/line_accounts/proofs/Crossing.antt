-- Lemmas about transfers between two accounts that are on different lines.
use Rattle.std.proofs.Common.{◌≡◌, ◌<◌, ℕ, length}
use Rattle.qolb_model.specs.declared.view.View.{View}
use Rattle.qolb_model.specs.declared.write.Write.{Write}
use Rattle.qolb_model.specs.Views.{bytes_of}
use Rattle.line_accounts.specs.declared.answer.Reply.{Reply}
use Rattle.line_accounts.specs.declared.answer.Reply.TheVariants.{Done, Short, Over, Late, Closed, Busy, NoAccount, SameAccount}
use Rattle.line_accounts.specs.Accounts.{AreBalances}
use Rattle.line_accounts.specs.Moves.{Holds, Carries, MovesAcross}
use Rattle.line_accounts.proofs.Visits.{took}
use Rattle.line_accounts.proofs.Totals.{paid_in, paid_out}

module _ (refused : Reply → Type 0) (s hs s_then t ht t_then : View) (turn_s turn_t : Write) (from to amount : ℕ) (holds_s : Holds s hs turn_s) (holds_t : Holds t ht turn_t)
    (from8 : from < 8) (to8 : to < 8) (long_s : length (bytes_of hs) ≡ 64) (long_t : length (bytes_of ht) ≡ 64) (good_s : AreBalances (bytes_of hs)) (good_t : AreBalances (bytes_of ht)) where
  pub crossed : (reply : Reply) → Carries hs s_then ht t_then from to amount reply → MovesAcross refused s s_then t t_then from to amount reply
  crossed Done (left_s, left_t, enough, room) =
      let turn = took s hs s_then turn_s _ holds_s left_s in
      let there = took t ht t_then turn_t _ holds_t left_t in
      (bytes_of hs, turn, enough, paid_out (bytes_of hs) from amount long_s from8 good_s enough turn.pays, bytes_of ht, there, room, paid_in (bytes_of ht) to amount long_t to8 good_t room there.pays)
  crossed Short (left_s, left_t, less) =
      (bytes_of hs, took s hs s_then turn_s _ holds_s left_s, less, bytes_of ht, took t ht t_then turn_t _ holds_t left_t)
  crossed Over (left_s, left_t, enough, none) =
      (bytes_of hs, took s hs s_then turn_s _ holds_s left_s, enough, bytes_of ht, took t ht t_then turn_t _ holds_t left_t, none)
  crossed Late h = absurd h
  crossed Closed h = absurd h
  crossed Busy h = absurd h
  crossed NoAccount h = absurd h
  crossed SameAccount h = absurd h
