-- Lemmas about the sums that a port has paid into its line and drawn from it, after a call in which the port had a turn
-- or was refused one.
use Rattle.std.proofs.Common.{◌≡◌, ℕ, ◌+◌, ◌⊎◌, inl, inr, Bool, true, false, List, [], ◌∷◌, ◌++◌, length, take, replicate, Some, slice_get, refl, ap, sym, ◌∙◌, subst, arith}
use Rattle.std.proofs.Math.Seq.{take-append_seam, take-append-add}
use Rattle.qolb_model.specs.declared.answer.PortState.{PortState}
use Rattle.qolb_model.specs.declared.answer.PortState.TheVariants.{Left, Rolled, Shut}
use Rattle.qolb_model.specs.declared.end.End.{End}
use Rattle.qolb_model.specs.declared.end.End.TheVariants.{Served, Gone}
use Rattle.qolb_model.specs.declared.config.LineConfig.{LineConfig}
use Rattle.qolb_model.specs.declared.view.View.{View}
use Rattle.qolb_model.specs.declared.write.Write.{Write}
use Rattle.qolb_model.specs.Ends.{written, bytes_after}
use Rattle.qolb_model.specs.Leases.{is_last_turn, closes}
use Rattle.qolb_model.specs.PortStates.{may_ask, state_after}
use Rattle.qolb_model.specs.Views.{own, bytes_of}
use Rattle.qolb_model.specs.Sound.{KnowsOwnHistory, Continues, IsSound}
use Rattle.qolb_model.specs.Enqueueing.{IsBusy, Asks}
use Rattle.qolb_model.specs.AtTurn.{IsGranted, IsWithdrawn}
use Rattle.qolb_model.specs.Releasing.{IsTold}
use Rattle.qolb_model.specs.Calls.{Releases}
use Rattle.qolb_model.proofs.Lists.{slice_get-middle}
use Rattle.qolb_model.proofs.Histories.{bytes_after-append}
use Rattle.qolb_model.proofs.Writes.{good_after}
use Rattle.qolb_model.proofs.Agreeing.{extends_trans}
use Rattle.line_accounts.specs.Accounts.{AreBalances, StayBalances, balances_after}
use Rattle.qolb_model.specs.Sums.{HasNotShut}
use Rattle.line_accounts.specs.Paid.{rise, fall, paid_by, drawn_by}
use Rattle.line_accounts.specs.Desks.{IsAtRest}
use Rattle.line_accounts.specs.Moves.{Pays, IsServed, Holds, Leaves, TakesTurn, AsksInVain}
use Rattle.qolb_model.proofs.OwnTurns.{NoneServedBeyond, asks_later, places_same, places_asked, sums_kept, unshut_kept, unshut_released, granted_beyond, withdrawn_beyond, told_beyond, busy_beyond, quiet_after, may_ask-state_after, left_bytes, more_turns}

plus-zero : (a b : ℕ) → a ≡ b → a ≡ b + 0
plus-zero a b e = omega arith

-- a port that requested the line and whose request, if it made one, was not served
module _ (old new : View) (rest : IsAtRest old) (past : KnowsOwnHistory old) (go_on : Continues StayBalances old new) where
  pays_nothing : NoneServedBeyond old new → Pays old new 0 0
  pays_nothing beyond = record {
    paid_in = plus-zero (paid_by new) (paid_by old) (sums_kept old new go_on.extends go_on.history rest.quiet past beyond rise);
    paid_out = plus-zero (drawn_by new) (drawn_by old) (sums_kept old new go_on.extends go_on.history rest.quiet past beyond fall);
  }

  unshut_still : NoneServedBeyond old new → HasNotShut old → HasNotShut new
  unshut_still beyond = unshut_kept old new go_on.extends go_on.history rest.quiet past beyond

  at_rest_asked : Asks old new → may_ask new.state ≡ true → IsAtRest new
  at_rest_asked asks quiet = record { quiet = quiet; places = places_asked old new go_on.extends go_on.history asks rest.places }

  quiet_by : (state : PortState) → new.state ≡ state → may_ask state ≡ true → may_ask new.state ≡ true
  quiet_by state is quiet = ap may_ask is ∙ quiet

  pub late : Asks old new → IsWithdrawn new → AsksInVain old new
  late asks withdrawn = record {
    continues = go_on;
    at_rest = at_rest_asked asks (quiet_by Rolled withdrawn.state refl);
    unshut = unshut_still (withdrawn_beyond old new go_on.extends go_on.history asks rest.places withdrawn);
    pays = pays_nothing (withdrawn_beyond old new go_on.extends go_on.history asks rest.places withdrawn);
  }

  pub closed : Asks old new → IsTold new → AsksInVain old new
  closed asks told = record {
    continues = go_on;
    at_rest = at_rest_asked asks (quiet_after (length told.before + 1) Shut new refl told.releases);
    unshut = unshut_still (told_beyond old new go_on.extends go_on.history asks rest.places told);
    pays = pays_nothing (told_beyond old new go_on.extends go_on.history asks rest.places told);
  }

  pub busy : IsBusy old new → AsksInVain old new
  busy b = record {
    continues = go_on;
    at_rest = record { quiet = quiet_busy b.was; places = places_same old new go_on.extends go_on.history b.count rest.places };
    unshut = unshut_still (busy_beyond old new go_on.extends go_on.history rest.places b);
    pays = pays_nothing (busy_beyond old new go_on.extends go_on.history rest.places b);
  }
    where
      quiet_busy : (old.state ≡ Left) ⊎ (old.state ≡ Rolled) → may_ask new.state ≡ true
      quiet_busy (inl was) = quiet_by Left (b.state ∙ was) refl
      quiet_busy (inr was) = quiet_by Rolled (b.state ∙ was) refl

  pub holds : (turn : Write) → Asks old new → IsGranted new turn → Holds old new turn
  holds turn asks granted = record {
    continues = go_on;
    places = places_asked old new go_on.extends go_on.history asks rest.places;
    asks = asks;
    granted = granted;
    unshut = unshut_still (granted_beyond old new go_on.extends go_on.history turn asks rest.places granted);
    pays = pays_nothing (granted_beyond old new go_on.extends go_on.history turn asks rest.places granted);
  }

-- a port that held the line, and released it
module _ (held_line new : View) (write : Write) (releases : Releases StayBalances false held_line new write) (at_turn : slice_get held_line.order (length held_line.ends) ≡ Some (own held_line)) where
  abbrev shut : Bool
  shut = closes held_line.config.lease held_line.ends false

  abbrev passed : List End
  passed = replicate releases.ends_turn.passed Gone

  found_bytes : written (bytes_of held_line) write ≡ write.bytes.bytes
  found_bytes = left_bytes StayBalances held_line new write releases at_turn

  -- the turn, as the history has it
  served_so : IsServed new (bytes_of held_line) write.bytes.bytes
  served_so = record {
    place = length held_line.ends;
    write = write;
    shut = shut;
    at = releases.ends_turn.at_turn;
    served = ap (λ l. slice_get l (length held_line.ends)) releases.ends_turn.ends ∙ slice_get-middle held_line.ends (Served write shut) passed;
    shuts = sym (ap (is_last_turn new.config.lease) cut ∙ ap (λ (t : LineConfig). is_last_turn t.lease held_line.ends) releases.continues.extends.config);
    before = ap (bytes_after new.config.opening.bytes) cut ∙ ap (λ (t : LineConfig). bytes_after t.opening.bytes held_line.ends) releases.continues.extends.config;
    after = ap (bytes_after new.config.opening.bytes) cut_after ∙ (ap (λ (t : LineConfig). bytes_after t.opening.bytes (held_line.ends ++ Served write shut ∷ [])) releases.continues.extends.config ∙ (bytes_after-append held_line.config.opening.bytes held_line.ends (Served write shut ∷ []) ∙ found_bytes));
  }
    where
      cut : take (length held_line.ends) new.ends ≡ held_line.ends
      cut = ap (take (length held_line.ends)) releases.ends_turn.ends ∙ take-append_seam held_line.ends (Served write shut ∷ passed)

      cut_after : take (length held_line.ends + 1) new.ends ≡ held_line.ends ++ Served write shut ∷ []
      cut_after = ap (take (length held_line.ends + 1)) releases.ends_turn.ends ∙ take-append-add held_line.ends (Served write shut ∷ passed) 1

  -- the whole call, from its request on
  pub takes_turn : (old : View) (turn : Write) → Holds old held_line turn → TakesTurn old new (bytes_of held_line) write.bytes.bytes
  takes_turn old turn h = record {
    continues = record {
      extends = extends_trans old held_line new h.continues.extends releases.continues.extends;
      history = releases.continues.history;
      kept = releases.continues.kept;
      freed_clear = releases.continues.freed_clear;
      own_history = releases.continues.own_history;
    };
    at_rest = record {
      quiet = quiet_after (length held_line.ends + 1) (state_after shut) new (may_ask-state_after shut) releases.ends_turn.releases;
      places = places_same held_line new releases.continues.extends releases.continues.history releases.ends_turn.count h.places;
    };
    asks = asks_later old held_line new h.asks releases.continues.extends releases.ends_turn.count;
    served = served_so;
    unshut = λ unshut. unshut_released StayBalances held_line new write releases at_turn (h.unshut unshut);
    pays = record {
      paid_in = more_turns StayBalances held_line new write releases at_turn rise ∙ ap (λ n. n + rise (bytes_of held_line) write.bytes.bytes) (h.pays.paid_in ∙ zero-plus (paid_by old));
      paid_out = more_turns StayBalances held_line new write releases at_turn fall ∙ ap (λ n. n + fall (bytes_of held_line) write.bytes.bytes) (h.pays.paid_out ∙ zero-plus (drawn_by old));
    };
  }
    where
      zero-plus : (n : ℕ) → n + 0 ≡ n
      zero-plus n = omega arith

-- a port that held the line and left these bytes has had a turn
pub took : (old held_line new : View) (turn : Write) (left : List ℕ) → Holds old held_line turn → Leaves held_line new left → TakesTurn old new (bytes_of held_line) left
took old held_line new turn left h l = subst (λ (b : List ℕ). TakesTurn old new (bytes_of held_line) b) l.1 (takes_turn held_line new l.0 l.2 h.granted.at_turn old turn h)

-- a port of a line of accounts knows balances
pub balances_known : (label : ℕ) (config : LineConfig) (v : View) → IsSound AreBalances StayBalances label config v → AreBalances (bytes_of v)
balances_known label config v sound =
    good_after AreBalances StayBalances balances_after v.config.opening.bytes v.ends (subst (λ (t : LineConfig). AreBalances t.opening.bytes) (sym sound.config_is) sound.opened_good) sound.kept
