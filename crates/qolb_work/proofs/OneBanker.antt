-- Proof that the only worker of a bank sees the same balances as a single owner who has done the same jobs.
use Rattle.std.proofs.Common.{◌≡◌, ◌≢◌, inl, inr, ℕ, ◌+◌, ◌-◌, ◌*◌, ◌^◌, ◌<◌, ◌≤◌, nat_lt, true, false, if◌then◌else◌, List, length, Some, slice_get, slice_set, refl, ap, sym, ◌∙◌, subst, arith}
use Rattle.std.proofs.lemmas.Bool.{eq-eqb, ne_eqb, cases_eq, cases_lt, lt-ltb, le-ltb}
use Rattle.line_lanes.specs.Lane.{lane_of, with_lane_of}
use Rattle.line_lanes.proofs.LaneBytes.{lane-with_lane_same, lane-with_lane_other, length-with_lane}
use Rattle.qolb_model.specs.declared.view.View.{View}
use Rattle.qolb_model.specs.Views.{bytes_of}
use Rattle.line_accounts.specs.declared.law.TheConstants.{MAX_BALANCE}
use Rattle.line_accounts.specs.declared.answer.Reply.{Reply}
use Rattle.line_accounts.specs.declared.answer.Reply.TheVariants.{Done, Short, Over, Late, Closed, Busy, NoAccount, SameAccount}
use Rattle.line_accounts.specs.Accounts.{HasRoom, line_of, lane_in, credited, debited}
use Rattle.line_accounts.specs.Desks.{DeskOf}
use Rattle.line_accounts.specs.Moves.{TakesTurn, IsRefused, IsRefusedEither, PaysIn, PaysOut, MovesWithin, MovesAcross}
use Rattle.line_accounts.specs.Calls.{AreTwo}
use Rattle.line_accounts.proofs.Accounted.{slice_get-set_other}
use Rattle.qolb_script.specs.declared.job.Job.{Job}
use Rattle.qolb_script.specs.declared.job.Job.TheVariants.{Put, Take, PayIn, PayOut, Move}
use Rattle.qolb_work.specs.BankRuns.{is_outcome, with_balance, outcome_at, balances_after}
use Rattle.qolb_work.specs.BankWork.{IsAmount, is_again, Asks, Tries, not_yet, again}
use Rattle.qolb_work.proofs.Alone.{IsAlone, long, good, alone_then, vain_late, vain_busy, turn_found, turn_left}
use Rattle.qolb_work.proofs.Called.{each_set}

-- The bytes of line i hold these balances.
abbrev pub Shows : (ℕ → ℕ) → List ℕ → ℕ → Type 0
Shows balances bytes i = (lane : ℕ) → lane < 8 → balances (8 * i + lane) ≡ lane_of bytes lane

with_same : (f : ℕ → ℕ) (account balance other : ℕ) → other ≡ account → with_balance f account balance other ≡ balance
with_same f account balance other e = ap (λ b. if b then balance else f other) (eq-eqb other account e)

with_other : (f : ℕ → ℕ) (account balance other : ℕ) → other ≢ account → with_balance f account balance other ≡ f other
with_other f account balance other ne = ap (λ b. if b then balance else f other) (ne_eqb other account ne)

-- The account is stored in this lane of line i.
record IsAt (account i lane : ℕ) : Type 0 where
  pub is : account ≡ 8 * i + lane
  pub within : lane < 8

at_place : (account : ℕ) → IsAt account (line_of account) (lane_in account)
at_place account = record { is = omega arith; within = omega arith }

module _ (f : ℕ → ℕ) (account balance i lane : ℕ) (at : IsAt account i lane) where
  -- After the balance of an account was set, in this line or in another one, the bytes show the new balances.
  shows_set : (bytes : List ℕ) → length bytes ≡ 64 → balance < 2 ^ 64 → Shows f bytes i → Shows (with_balance f account balance) (with_lane_of bytes lane balance) i
  shows_set bytes wide small represents = λ l l8. elim (cases_eq l lane) [
    | inl e ↦
        let here = at.is in
        with_same f account balance (8 * i + l) (omega (arith, e, here))
        ∙ (sym (lane-with_lane_same bytes lane balance wide at.within small) ∙ ap (lane_of (with_lane_of bytes lane balance)) (sym e))
    | inr ne ↦
        let here = at.is in
        with_other f account balance (8 * i + l) (λ e. ne (omega (arith, e, here)))
        ∙ (represents l l8 ∙ sym (lane-with_lane_other bytes lane balance l wide at.within small l8 ne))
  ]

  shows_else : (bytes : List ℕ) (j : ℕ) → j ≢ i → Shows f bytes j → Shows (with_balance f account balance) bytes j
  shows_else bytes j ne represents = λ l l8.
      let here = at.is in
      let within = at.within in
      with_other f account balance (8 * j + l) (λ e. ne (omega (arith, e, here, within, l8))) ∙ represents l l8

shows_same : (f : ℕ → ℕ) (a b : List ℕ) (i : ℕ) → a ≡ b → Shows f a i → Shows f b i
shows_same f a b i e represents = subst (λ bytes. Shows f bytes i) e represents

pub none_true : {X : Type 0} → false ≡ true → X
none_true e = absurd (let no : false ≡ true = e in cc no)

-- If a reply is an outcome, the accounts of the job exist.
pub outcome_known : (reply : Reply) → is_outcome reply ≡ true → reply ≢ NoAccount
outcome_known Done is e = let no : Done ≡ NoAccount = e in cc no
outcome_known Short is e = let no : Short ≡ NoAccount = e in cc no
outcome_known Over is e = let no : Over ≡ NoAccount = e in cc no
outcome_known SameAccount is e = let no : SameAccount ≡ NoAccount = e in cc no
outcome_known Late is e = none_true is
outcome_known Busy is e = none_true is
outcome_known Closed is e = none_true is
outcome_known NoAccount is e = none_true is

-- The state of a line's port after a call: the port is alone at its line, and the line shows these balances.
pub record Then (f : ℕ → ℕ) (w : View) (i : ℕ) : Type 0 where
  pub alone : IsAlone w
  pub represents : Shows f (bytes_of w) i

module _ (f : ℕ → ℕ) (v w : View) (i : ℕ) (a : IsAlone v) (represents : Shows f (bytes_of v) i) where
  looked : (found : List ℕ) → TakesTurn v w found found → Then f w i
  looked found turn = record {
    alone = alone_then v w a turn.continues turn.at_rest;
    represents = shows_same f (bytes_of v) (bytes_of w) i (sym (turn_left v w a found found turn ∙ turn_found v w a found found turn)) represents;
  }

  refused : (reply : Reply) → is_again reply ≡ true → IsRefused v w reply → Then f w i
  refused Late is (vain, asks, withdrawn) = record {
    alone = alone_then v w a vain.continues vain.at_rest;
    represents = shows_same f (bytes_of v) (bytes_of w) i (sym (vain_late v w a vain.continues vain.at_rest asks withdrawn)) represents;
  }
  refused Busy is (vain, busy) = record {
    alone = alone_then v w a vain.continues vain.at_rest;
    represents = shows_same f (bytes_of v) (bytes_of w) i (sym (vain_busy v w a vain.continues vain.at_rest busy)) represents;
  }
  refused Closed is h = none_true is
  refused Done is h = absurd h
  refused Short is h = absurd h
  refused Over is h = absurd h
  refused NoAccount is h = absurd h
  refused SameAccount is h = absurd h

  module _ (account lane : ℕ) (at : IsAt account i lane) where
    -- the balance that the turn found in the account
    balance : (found left : List ℕ) → TakesTurn v w found left → f account ≡ lane_of found lane
    balance found left turn = ap f at.is ∙ (represents lane at.within ∙ ap (λ b. lane_of b lane) (sym (turn_found v w a found left turn)))

    low : f account ≤ MAX_BALANCE
    low = let all = good v a lane at.within in let e = ap f at.is ∙ represents lane at.within in omega (arith, all, e)

    -- The turn set the account to `value`.
    set : (value : ℕ) (found : List ℕ) → TakesTurn v w found (with_lane_of found lane value) → value ≤ MAX_BALANCE → Then (with_balance f account value) w i
    set value found turn few = record {
      alone = alone_then v w a turn.continues turn.at_rest;
      represents = shows_same (with_balance f account value) (with_lane_of (bytes_of v) lane value) (bytes_of w) i
          (ap (λ b. with_lane_of b lane value) (sym (turn_found v w a found _ turn)) ∙ sym (turn_left v w a found _ turn))
          (shows_set f account value i lane at (bytes_of v) (long v a) (omega (arith, few)) represents);
    }

    more : (amount : ℕ) (found : List ℕ) → TakesTurn v w found (credited found lane amount) → HasRoom found lane amount → Then (with_balance f account (f account + amount)) w i
    more amount found turn room =
        let e = balance found (credited found lane amount) turn in
        subst (λ n. Then (with_balance f account (n + amount)) w i) (sym e) (set (lane_of found lane + amount) found turn room)

    less : (amount : ℕ) (found : List ℕ) → TakesTurn v w found (debited found lane amount) → Then (with_balance f account (f account - amount)) w i
    less amount found turn =
        let e = balance found (debited found lane amount) turn in
        let few = low in
        subst (λ n. Then (with_balance f account (n - amount)) w i) (sym e) (set (lane_of found lane - amount) found turn (omega (arith, few, e)))

    -- If the line has no room for the amount, the balance and the amount together exceed the limit.
    is_over : (amount : ℕ) (found left : List ℕ) → TakesTurn v w found left → (HasRoom found lane amount → ⊥) → MAX_BALANCE < f account + amount
    is_over amount found left turn none =
        let e = balance found left turn in
        elim (cases_lt MAX_BALANCE (f account + amount)) [
          | inl lt ↦ lt
          | inr ge ↦ absurd (none (omega (arith, ge, e)))
        ]

-- payments in
module _ (f : ℕ → ℕ) (worker account amount : ℕ) where
  in_done : f account + amount ≤ MAX_BALANCE → Done ≡ outcome_at f (PayIn worker account amount)
  in_done le = sym (ap (λ b. if b then Over else Done) (le-ltb MAX_BALANCE (f account + amount) le))

  in_over : MAX_BALANCE < f account + amount → Over ≡ outcome_at f (PayIn worker account amount)
  in_over lt = sym (ap (λ b. if b then Over else Done) (lt-ltb MAX_BALANCE (f account + amount) lt))

  pays_in : (v w : View) (i lane sum sum_then : ℕ) (reply : Reply) → IsAlone v → Shows f (bytes_of v) i → IsAt account i lane → sum + amount < 2 ^ 128 → is_outcome reply ≡ true → PaysIn v w lane amount sum sum_then reply
      → (reply ≡ outcome_at f (PayIn worker account amount)) × Then (balances_after f (PayIn worker account amount) reply) w i
  pays_in v w i lane sum sum_then Done a represents at fits is (found, turn, room, pays, e) =
      let b = balance f v w i a represents account lane at found (credited found lane amount) turn in
      (in_done (omega (arith, room, b)), more f v w i a represents account lane at amount found turn room)
  pays_in v w i lane sum sum_then Over a represents at fits is (found, turn, why, e) = (
    in_over (elim why [
      | inl none ↦ is_over f v w i a represents account lane at amount found found turn none
      | inr much ↦ absurd (omega (arith, much, fits))
    ]),
    looked f v w i a represents found turn,
  )
  pays_in v w i lane sum sum_then Short a represents at fits is h = absurd h
  pays_in v w i lane sum sum_then Late a represents at fits is h = none_true is
  pays_in v w i lane sum sum_then Closed a represents at fits is h = none_true is
  pays_in v w i lane sum sum_then Busy a represents at fits is h = none_true is
  pays_in v w i lane sum sum_then NoAccount a represents at fits is h = absurd h
  pays_in v w i lane sum sum_then SameAccount a represents at fits is h = absurd h

  pays_in_again : (v w : View) (i lane sum sum_then : ℕ) (reply : Reply) → IsAlone v → Shows f (bytes_of v) i → is_again reply ≡ true → PaysIn v w lane amount sum sum_then reply → Then f w i
  pays_in_again v w i lane sum sum_then Late a represents is (r, e) = refused f v w i a represents Late is r
  pays_in_again v w i lane sum sum_then Busy a represents is (r, e) = refused f v w i a represents Busy is r
  pays_in_again v w i lane sum sum_then Done a represents is h = none_true is
  pays_in_again v w i lane sum sum_then Short a represents is h = none_true is
  pays_in_again v w i lane sum sum_then Over a represents is h = none_true is
  pays_in_again v w i lane sum sum_then Closed a represents is h = none_true is
  pays_in_again v w i lane sum sum_then NoAccount a represents is h = none_true is
  pays_in_again v w i lane sum sum_then SameAccount a represents is h = none_true is

  in_else : (bytes : List ℕ) (i lane j : ℕ) (reply : Reply) → IsAt account i lane → j ≢ i → Shows f bytes j → Shows (balances_after f (PayIn worker account amount) reply) bytes j
  in_else bytes i lane j Done at ne represents = shows_else f account (f account + amount) i lane at bytes j ne represents
  in_else bytes i lane j Short at ne represents = represents
  in_else bytes i lane j Over at ne represents = represents
  in_else bytes i lane j Late at ne represents = represents
  in_else bytes i lane j Closed at ne represents = represents
  in_else bytes i lane j Busy at ne represents = represents
  in_else bytes i lane j NoAccount at ne represents = represents
  in_else bytes i lane j SameAccount at ne represents = represents

-- payments out
module _ (f : ℕ → ℕ) (worker account amount : ℕ) where
  out_done : amount ≤ f account → Done ≡ outcome_at f (PayOut worker account amount)
  out_done le = sym (ap (λ b. if b then Short else Done) (le-ltb (f account) amount le))

  out_short : f account < amount → Short ≡ outcome_at f (PayOut worker account amount)
  out_short lt = sym (ap (λ b. if b then Short else Done) (lt-ltb (f account) amount lt))

  pays_out : (v w : View) (i lane sum sum_then : ℕ) (reply : Reply) → IsAlone v → Shows f (bytes_of v) i → IsAt account i lane → sum + amount < 2 ^ 128 → is_outcome reply ≡ true → PaysOut v w lane amount sum sum_then reply
      → (reply ≡ outcome_at f (PayOut worker account amount)) × Then (balances_after f (PayOut worker account amount) reply) w i
  pays_out v w i lane sum sum_then Done a represents at fits is (found, turn, enough, pays, e) =
      let b = balance f v w i a represents account lane at found (debited found lane amount) turn in
      (out_done (omega (arith, enough, b)), less f v w i a represents account lane at amount found turn)
  pays_out v w i lane sum sum_then Short a represents at fits is (found, turn, few, e) =
      let b = balance f v w i a represents account lane at found found turn in
      (out_short (omega (arith, few, b)), looked f v w i a represents found turn)
  pays_out v w i lane sum sum_then Over a represents at fits is (found, turn, enough, much, e) = absurd (omega (arith, much, fits))
  pays_out v w i lane sum sum_then Late a represents at fits is h = none_true is
  pays_out v w i lane sum sum_then Closed a represents at fits is h = none_true is
  pays_out v w i lane sum sum_then Busy a represents at fits is h = none_true is
  pays_out v w i lane sum sum_then NoAccount a represents at fits is h = absurd h
  pays_out v w i lane sum sum_then SameAccount a represents at fits is h = absurd h

  pays_out_again : (v w : View) (i lane sum sum_then : ℕ) (reply : Reply) → IsAlone v → Shows f (bytes_of v) i → is_again reply ≡ true → PaysOut v w lane amount sum sum_then reply → Then f w i
  pays_out_again v w i lane sum sum_then Late a represents is (r, e) = refused f v w i a represents Late is r
  pays_out_again v w i lane sum sum_then Busy a represents is (r, e) = refused f v w i a represents Busy is r
  pays_out_again v w i lane sum sum_then Done a represents is h = none_true is
  pays_out_again v w i lane sum sum_then Short a represents is h = none_true is
  pays_out_again v w i lane sum sum_then Over a represents is h = none_true is
  pays_out_again v w i lane sum sum_then Closed a represents is h = none_true is
  pays_out_again v w i lane sum sum_then NoAccount a represents is h = none_true is
  pays_out_again v w i lane sum sum_then SameAccount a represents is h = none_true is

  out_else : (bytes : List ℕ) (i lane j : ℕ) (reply : Reply) → IsAt account i lane → j ≢ i → Shows f bytes j → Shows (balances_after f (PayOut worker account amount) reply) bytes j
  out_else bytes i lane j Done at ne represents = shows_else f account (f account - amount) i lane at bytes j ne represents
  out_else bytes i lane j Short at ne represents = represents
  out_else bytes i lane j Over at ne represents = represents
  out_else bytes i lane j Late at ne represents = represents
  out_else bytes i lane j Closed at ne represents = represents
  out_else bytes i lane j Busy at ne represents = represents
  out_else bytes i lane j NoAccount at ne represents = represents
  out_else bytes i lane j SameAccount at ne represents = represents

-- moves
module _ (f : ℕ → ℕ) (worker source target amount : ℕ) (apart : source ≢ target) where
  abbrev moved : ℕ → ℕ
  moved = with_balance (with_balance f source (f source - amount)) target (f target + amount)

  of_two : (reply : Reply) → reply ≡ (if nat_lt (f source) amount then Short else if nat_lt MAX_BALANCE (f target + amount) then Over else Done) → reply ≡ outcome_at f (Move worker source target amount)
  of_two reply e = e ∙ sym (ap (λ b. if b then SameAccount else if nat_lt (f source) amount then Short else if nat_lt MAX_BALANCE (f target + amount) then Over else Done) (ne_eqb source target apart))

  move_done : amount ≤ f source → f target + amount ≤ MAX_BALANCE → Done ≡ outcome_at f (Move worker source target amount)
  move_done enough room = of_two Done (sym (
      ap (λ b. if b then Short else if nat_lt MAX_BALANCE (f target + amount) then Over else Done) (le-ltb (f source) amount enough)
      ∙ ap (λ b. if b then Over else Done) (le-ltb MAX_BALANCE (f target + amount) room)))

  move_over : amount ≤ f source → MAX_BALANCE < f target + amount → Over ≡ outcome_at f (Move worker source target amount)
  move_over enough much = of_two Over (sym (
      ap (λ b. if b then Short else if nat_lt MAX_BALANCE (f target + amount) then Over else Done) (le-ltb (f source) amount enough)
      ∙ ap (λ b. if b then Over else Done) (lt-ltb MAX_BALANCE (f target + amount) much)))

  move_short : f source < amount → Short ≡ outcome_at f (Move worker source target amount)
  move_short few = of_two Short (sym (ap (λ b. if b then Short else if nat_lt MAX_BALANCE (f target + amount) then Over else Done) (lt-ltb (f source) amount few)))

  move_else : (bytes : List ℕ) (i j from to k : ℕ) (reply : Reply) → IsAt source i from → IsAt target j to → k ≢ i → k ≢ j → Shows f bytes k → Shows (balances_after f (Move worker source target amount) reply) bytes k
  move_else bytes i j from to k Done at_source at_target ne_i ne_j represents =
      shows_else (with_balance f source (f source - amount)) target (f target + amount) j to at_target bytes k ne_j (shows_else f source (f source - amount) i from at_source bytes k ne_i represents)
  move_else bytes i j from to k Short at_source at_target ne_i ne_j represents = represents
  move_else bytes i j from to k Over at_source at_target ne_i ne_j represents = represents
  move_else bytes i j from to k Late at_source at_target ne_i ne_j represents = represents
  move_else bytes i j from to k Closed at_source at_target ne_i ne_j represents = represents
  move_else bytes i j from to k Busy at_source at_target ne_i ne_j represents = represents
  move_else bytes i j from to k NoAccount at_source at_target ne_i ne_j represents = represents
  move_else bytes i j from to k SameAccount at_source at_target ne_i ne_j represents = represents

  -- A move between two accounts of one line.
  module _ (v w : View) (i from to : ℕ) (a : IsAlone v) (represents : Shows f (bytes_of v) i) (at_source : IsAt source i from) (at_target : IsAt target i to) where
    other_lane : to ≢ from
    other_lane e = let s = at_source.is in let t = at_target.is in apart (omega (arith, e, s, t))

    moves_done : (found : List ℕ) → TakesTurn v w found (credited (debited found from amount) to amount) → amount ≤ lane_of found from → HasRoom found to amount → Then moved w i
    moves_done found turn enough room =
        let has = balance f v w i a represents source from at_source found _ turn in
        let there = balance f v w i a represents target to at_target found _ turn in
        let is = turn_found v w a found _ turn in
        let few = low f v w i a represents source from at_source in
        let once = shows_set f source (f source - amount) i from at_source (bytes_of v) (long v a) (omega (arith, few)) represents in
        let wide = length-with_lane (bytes_of v) from (f source - amount) (long v a) at_source.within in
        let twice = shows_set (with_balance f source (f source - amount)) target (f target + amount) i to at_target (with_lane_of (bytes_of v) from (f source - amount)) wide (omega (arith, room, there)) once in
        let same : lane_of (debited found from amount) to ≡ f target = lane-with_lane_other found from (lane_of found from - amount) to (ap length is ∙ long v a) at_source.within (omega (arith, few, has)) at_target.within other_lane ∙ sym there in
        record {
          alone = alone_then v w a turn.continues turn.at_rest;
          represents = shows_same moved (with_lane_of (with_lane_of (bytes_of v) from (f source - amount)) to (f target + amount)) (bytes_of w) i
              (ap (λ b. with_lane_of (with_lane_of b from (f source - amount)) to (f target + amount)) (sym is)
              ∙ (ap (λ n. with_lane_of (with_lane_of found from (n - amount)) to (f target + amount)) has
              ∙ (ap (λ n. with_lane_of (debited found from amount) to (n + amount)) (sym same)
              ∙ sym (turn_left v w a found _ turn))))
              twice;
        }

    moves_within : (reply : Reply) → is_outcome reply ≡ true → reply ≢ SameAccount → MovesWithin v w from to amount reply
        → (reply ≡ outcome_at f (Move worker source target amount)) × Then (balances_after f (Move worker source target amount) reply) w i
    moves_within Done is ne (found, turn, enough, room, pays) =
        let has = balance f v w i a represents source from at_source found _ turn in
        let there = balance f v w i a represents target to at_target found _ turn in
        (move_done (omega (arith, enough, has)) (omega (arith, room, there)), moves_done found turn enough room)
    moves_within Short is ne (found, turn, few) =
        let has = balance f v w i a represents source from at_source found found turn in
        (move_short (omega (arith, few, has)), looked f v w i a represents found turn)
    moves_within Over is ne (found, turn, enough, none) =
        let has = balance f v w i a represents source from at_source found found turn in
        (move_over (omega (arith, enough, has)) (is_over f v w i a represents target to at_target amount found found turn none), looked f v w i a represents found turn)
    moves_within Late is ne h = none_true is
    moves_within Closed is ne h = none_true is
    moves_within Busy is ne h = none_true is
    moves_within NoAccount is ne h = absurd h
    moves_within SameAccount is ne h = absurd h

    moves_again : (reply : Reply) → is_again reply ≡ true → MovesWithin v w from to amount reply → Then f w i
    moves_again Late is h = refused f v w i a represents Late is h
    moves_again Busy is h = refused f v w i a represents Busy is h
    moves_again Done is h = none_true is
    moves_again Short is h = none_true is
    moves_again Over is h = none_true is
    moves_again Closed is h = none_true is
    moves_again NoAccount is h = none_true is
    moves_again SameAccount is h = none_true is

  -- A move from one line to another.
  module _ (s s' t t' : View) (i j from to : ℕ) (ne : i ≢ j) (a : IsAlone s) (b : IsAlone t) (represents : Shows f (bytes_of s) i) (shows_there : Shows f (bytes_of t) j) (at_source : IsAt source i from) (at_target : IsAt target j to) where
    record Both (g : ℕ → ℕ) : Type 0 where
      pub source_then : Then g s' i
      pub target_then : Then g t' j

    moved_both : (found there : List ℕ) → TakesTurn s s' found (debited found from amount) → TakesTurn t t' there (credited there to amount) → HasRoom there to amount → Both moved
    moved_both found there turn turn_there room =
        let first = less f s s' i a represents source from at_source amount found turn in
        let few = with_other f source (f source - amount) target (λ e. apart (sym e)) in
        let second = more (with_balance f source (f source - amount)) t t' j b (shows_else f source (f source - amount) i from at_source (bytes_of t) j (λ e. ne (sym e)) shows_there) target to at_target amount there turn_there room in
        record {
          source_then = record { alone = first.alone; represents = shows_else (with_balance f source (f source - amount)) target (f target + amount) j to at_target (bytes_of s') i ne first.represents };
          target_then = subst (λ n. Then (with_balance (with_balance f source (f source - amount)) target (n + amount)) t' j) few second;
        }

    looked_both : (found there : List ℕ) → TakesTurn s s' found found → TakesTurn t t' there there → Both f
    looked_both found there turn turn_there = record { source_then = looked f s s' i a represents found turn; target_then = looked f t t' j b shows_there there turn_there }

    moves_across : (refusing : Reply → Type 0) (reply : Reply) → is_outcome reply ≡ true → MovesAcross refusing s s' t t' from to amount reply
        → (reply ≡ outcome_at f (Move worker source target amount)) × Both (balances_after f (Move worker source target amount) reply)
    moves_across refusing Done is (found, turn, enough, pays, there, turn_there, room, pays_there) =
        let has = balance f s s' i a represents source from at_source found _ turn in
        let held = balance f t t' j b shows_there target to at_target there _ turn_there in
        (move_done (omega (arith, enough, has)) (omega (arith, room, held)), moved_both found there turn turn_there room)
    moves_across refusing Short is (found, turn, few, there, turn_there) =
        let has = balance f s s' i a represents source from at_source found found turn in
        (move_short (omega (arith, few, has)), looked_both found there turn turn_there)
    moves_across refusing Over is (found, turn, enough, there, turn_there, none) =
        let has = balance f s s' i a represents source from at_source found found turn in
        (move_over (omega (arith, enough, has)) (is_over f t t' j b shows_there target to at_target amount there there turn_there none), looked_both found there turn turn_there)
    moves_across refusing Late is h = none_true is
    moves_across refusing Closed is h = none_true is
    moves_across refusing Busy is h = none_true is
    moves_across refusing NoAccount is h = absurd h
    moves_across refusing SameAccount is h = absurd h

    across_again : (refusing : Reply → Type 0) (reply : Reply) → is_again reply ≡ true → ((reply : Reply) → is_again reply ≡ true → refusing reply → Both f) → MovesAcross refusing s s' t t' from to amount reply → Both f
    across_again refusing Late is by h = by Late is h
    across_again refusing Busy is by h = by Busy is h
    across_again refusing Done is by h = none_true is
    across_again refusing Short is by h = none_true is
    across_again refusing Over is by h = none_true is
    across_again refusing Closed is by h = none_true is
    across_again refusing NoAccount is by h = none_true is
    across_again refusing SameAccount is by h = none_true is

    same_view : (v w : View) (k : ℕ) → w ≡ v → IsAlone v → Shows f (bytes_of v) k → Then f w k
    same_view v w k e alone shown = subst (λ (x : View). Then f x k) (sym e) (record { alone = alone; represents = shown })

    up_again : (reply : Reply) → is_again reply ≡ true → IsRefusedEither s s' t t' reply → Both f
    up_again reply is (inl (r, e)) = record { source_then = refused f s s' i a represents reply is r; target_then = same_view t t' j e b shows_there }
    up_again reply is (inr (found, turn, r)) = record { source_then = looked f s s' i a represents found turn; target_then = refused f t t' j b shows_there reply is r }

    down_again : (reply : Reply) → is_again reply ≡ true → IsRefusedEither t t' s s' reply → Both f
    down_again reply is (inl (r, e)) = record { source_then = same_view s s' i e a represents; target_then = refused f t t' j b shows_there reply is r }
    down_again reply is (inr (found, turn, r)) = record { source_then = refused f s s' i a represents reply is r; target_then = looked f t t' j b shows_there found turn }

module _ {Port : Type 0} (view : Port → View) (lines : ℕ) where
  -- Each port of the desk is alone at its line, and together the ports show these balances.
  abbrev pub AllShow : (ℕ → ℕ) → List Port → Type 0
  AllShow f ports = (i : ℕ) (port : Port) → slice_get ports i ≡ Some port → Then f (view port) i

  -- One port was called, or two ports were called.
  one_called : (f g : ℕ → ℕ) (old new : List Port) (place : ℕ) (port port_then : Port) → slice_get old place ≡ Some port → new ≡ slice_set old place port_then
      → ((bytes : List ℕ) (j : ℕ) → j ≢ place → Shows f bytes j → Shows g bytes j) → Then g (view port_then) place → AllShow f old → AllShow g new
  one_called f g old new place port port_then was is others here all =
      each_set (λ i (p : Port). Then g (view p) i) old new place port port_then was is
      (λ i p ne at. record { alone = (all i p at).alone; represents = others (bytes_of (view p)) i ne (all i p at).represents }) here

  two_called : (f g : ℕ → ℕ) (old new : List Port) (i j : ℕ) (one one_then other other_then : Port) → i ≢ j → slice_get old i ≡ Some one → slice_get old j ≡ Some other → new ≡ slice_set (slice_set old i one_then) j other_then
      → ((bytes : List ℕ) (k : ℕ) → k ≢ i → k ≢ j → Shows f bytes k → Shows g bytes k) → Then g (view one_then) i → Then g (view other_then) j → AllShow f old → AllShow g new
  two_called f g old new i j one one_then other other_then ne one_was other_was is others first second all =
      each_set (λ k (p : Port). Then g (view p) k) (slice_set old i one_then) new j other other_then
      (slice_get-set_other old i j one_then (λ e. ne (sym e)) ∙ other_was) is
      (λ k p ne_j at. each_set (λ k (p : Port). k ≢ j → Then g (view p) k) old (slice_set old i one_then) i one one_then one_was refl
      (λ k p ne_i at ne_j. record { alone = (all k p at).alone; represents = others (bytes_of (view p)) k ne_i ne_j (all k p at).represents })
      (λ ne_j. first) k p at ne_j)
      second

  again_known : (reply : Reply) → is_again reply ≡ true → (reply ≢ NoAccount) × (reply ≢ SameAccount)
  again_known Late is = (λ e. let no : Late ≡ NoAccount = e in cc no, λ e. let no : Late ≡ SameAccount = e in cc no)
  again_known Busy is = (λ e. let no : Busy ≡ NoAccount = e in cc no, λ e. let no : Busy ≡ SameAccount = e in cc no)
  again_known Done is = none_true is
  again_known Short is = none_true is
  again_known Over is = none_true is
  again_known Closed is = none_true is
  again_known NoAccount is = none_true is
  again_known SameAccount is = none_true is

  -- the ports that a move calls
  module _ (f : ℕ → ℕ) (worker source target amount : ℕ) (old new : DeskOf Port) (reply : Reply) (all : AllShow f old.ports) (asks : Asks view lines (Move worker source target amount) old new reply) (two : AreTwo lines source target) where
    moved_two : is_outcome reply ≡ true → reply ≢ SameAccount → (reply ≡ outcome_at f (Move worker source target amount)) × AllShow (balances_after f (Move worker source target amount) reply) new.ports
    moved_two is ne = elim (cases_eq (line_of source) (line_of target)) [
      | inl e ↦
          let p = asks.within two e in
          let here = all (line_of source) p.port p.was in
          let at_target = subst (λ n. IsAt target n (lane_in target)) (sym e) (at_place target) in
          let m = moves_within f worker source target amount two.apart (view p.port) (view p.port_then) (line_of source) (lane_in source) (lane_in target) here.alone here.represents (at_place source) at_target reply is ne p.does in (
            m.0,
            one_called f (balances_after f (Move worker source target amount) reply) old.ports new.ports (line_of source) p.port p.port_then p.was p.is
                (λ bytes k ne_k represents. move_else f worker source target amount two.apart bytes (line_of source) (line_of source) (lane_in source) (lane_in target) k reply (at_place source) at_target ne_k ne_k represents) m.1 all,
          )
      | inr apart ↦ elim (cases_lt (line_of source) (line_of target)) [
        | inl lt ↦
            let p = asks.up two lt in
            across (IsRefusedEither (view p.one) (view p.one_then) (view p.other) (view p.other_then)) p.one p.one_then p.other p.other_then p.one_was p.other_was p.is apart is p.does
        | inr ge ↦
            let p = asks.down two (omega (arith, ge, apart)) in
            across (IsRefusedEither (view p.other) (view p.other_then) (view p.one) (view p.one_then)) p.one p.one_then p.other p.other_then p.one_was p.other_was p.is apart is p.does
      ]
    ]
      where
        across : (refusing : Reply → Type 0) (one one_then other other_then : Port) → slice_get old.ports (line_of source) ≡ Some one → slice_get old.ports (line_of target) ≡ Some other
            → new.ports ≡ slice_set (slice_set old.ports (line_of source) one_then) (line_of target) other_then → line_of source ≢ line_of target → is_outcome reply ≡ true
            → MovesAcross refusing (view one) (view one_then) (view other) (view other_then) (lane_in source) (lane_in target) amount reply
            → (reply ≡ outcome_at f (Move worker source target amount)) × AllShow (balances_after f (Move worker source target amount) reply) new.ports
        across refusing one one_then other other_then one_was other_was set apart is does =
            let here = all (line_of source) one one_was in
            let there = all (line_of target) other other_was in
            let m = moves_across f worker source target amount two.apart (view one) (view one_then) (view other) (view other_then) (line_of source) (line_of target) (lane_in source) (lane_in target) apart here.alone there.alone here.represents there.represents (at_place source) (at_place target) refusing reply is does in (
              m.0,
              two_called f (balances_after f (Move worker source target amount) reply) old.ports new.ports (line_of source) (line_of target) one one_then other other_then apart one_was other_was set
                  (λ bytes k ne_i ne_j represents. move_else f worker source target amount two.apart bytes (line_of source) (line_of target) (lane_in source) (lane_in target) k reply (at_place source) (at_place target) ne_i ne_j represents) m.1.source_then m.1.target_then all,
            )

    tried_two : is_again reply ≡ true → AllShow f new.ports
    tried_two is = elim (cases_eq (line_of source) (line_of target)) [
      | inl e ↦
          let p = asks.within two e in
          let here = all (line_of source) p.port p.was in
          let at_target = subst (λ n. IsAt target n (lane_in target)) (sym e) (at_place target) in
          one_called f f old.ports new.ports (line_of source) p.port p.port_then p.was p.is (λ bytes k ne_k represents. represents)
          (moves_again f worker source target amount two.apart (view p.port) (view p.port_then) (line_of source) (lane_in source) (lane_in target) here.alone here.represents (at_place source) at_target reply is p.does) all
      | inr apart ↦ elim (cases_lt (line_of source) (line_of target)) [
        | inl lt ↦
            let p = asks.up two lt in
            let here = all (line_of source) p.one p.one_was in
            let there = all (line_of target) p.other p.other_was in
            let m = across_again f worker source target amount two.apart (view p.one) (view p.one_then) (view p.other) (view p.other_then) (line_of source) (line_of target) (lane_in source) (lane_in target) apart here.alone there.alone here.represents there.represents (at_place source) (at_place target)
            (IsRefusedEither (view p.one) (view p.one_then) (view p.other) (view p.other_then)) reply is
            (up_again f worker source target amount two.apart (view p.one) (view p.one_then) (view p.other) (view p.other_then) (line_of source) (line_of target) (lane_in source) (lane_in target) apart here.alone there.alone here.represents there.represents (at_place source) (at_place target)) p.does in
            two_called f f old.ports new.ports (line_of source) (line_of target) p.one p.one_then p.other p.other_then apart p.one_was p.other_was p.is (λ bytes k ne_i ne_j represents. represents) m.source_then m.target_then all
        | inr ge ↦
            let p = asks.down two (omega (arith, ge, apart)) in
            let here = all (line_of source) p.one p.one_was in
            let there = all (line_of target) p.other p.other_was in
            let m = across_again f worker source target amount two.apart (view p.one) (view p.one_then) (view p.other) (view p.other_then) (line_of source) (line_of target) (lane_in source) (lane_in target) apart here.alone there.alone here.represents there.represents (at_place source) (at_place target)
            (IsRefusedEither (view p.other) (view p.other_then) (view p.one) (view p.one_then)) reply is
            (down_again f worker source target amount two.apart (view p.one) (view p.one_then) (view p.other) (view p.other_then) (line_of source) (line_of target) (lane_in source) (lane_in target) apart here.alone there.alone here.represents there.represents (at_place source) (at_place target)) p.does in
            two_called f f old.ports new.ports (line_of source) (line_of target) p.one p.one_then p.other p.other_then apart p.one_was p.other_was p.is (λ bytes k ne_i ne_j represents. represents) m.source_then m.target_then all
      ]
    ]

  -- Both counters of the desk have room for one more amount.
  pub record HasRoomToCount (old : DeskOf Port) : Type 0 where
    pub paid_in : old.paid_in + 2 ^ 64 < 2 ^ 128
    pub paid_out : old.paid_out + 2 ^ 64 < 2 ^ 128

  pub made : (f : ℕ → ℕ) (job : Job) (old new : DeskOf Port) (reply : Reply) → AllShow f old.ports → IsAmount job → HasRoomToCount old → Asks view lines job old new reply → is_outcome reply ≡ true
      → (reply ≡ outcome_at f job) × AllShow (balances_after f job reply) new.ports
  made f (Put worker task) old new reply all amount room asks is = absurd asks
  made f (Take worker) old new reply all amount room asks is = absurd asks
  made f (PayIn worker account amount) old new reply all small room asks is =
      let p = asks.pays (outcome_known reply is) in
      let here = all (line_of account) p.port p.was in
      let counts = room.paid_in in
      let m = pays_in f worker account amount (view p.port) (view p.port_then) (line_of account) (lane_in account) old.paid_in new.paid_in reply here.alone here.represents (at_place account) (omega (arith, counts, small)) is p.does in (
        m.0,
        one_called f (balances_after f (PayIn worker account amount) reply) old.ports new.ports (line_of account) p.port p.port_then p.was p.is
            (λ bytes k ne represents. in_else f worker account amount bytes (line_of account) (lane_in account) k reply (at_place account) ne represents) m.1 all,
      )
  made f (PayOut worker account amount) old new reply all small room asks is =
      let p = asks.pays (outcome_known reply is) in
      let here = all (line_of account) p.port p.was in
      let counts = room.paid_out in
      let m = pays_out f worker account amount (view p.port) (view p.port_then) (line_of account) (lane_in account) old.paid_out new.paid_out reply here.alone here.represents (at_place account) (omega (arith, counts, small)) is p.does in (
        m.0,
        one_called f (balances_after f (PayOut worker account amount) reply) old.ports new.ports (line_of account) p.port p.port_then p.was p.is
            (λ bytes k ne represents. out_else f worker account amount bytes (line_of account) (lane_in account) k reply (at_place account) ne represents) m.1 all,
      )
  made f (Move worker source target amount) old new reply all small room asks is = by reply refl
    where
      go_on : reply ≢ SameAccount → (reply ≡ outcome_at f (Move worker source target amount)) × AllShow (balances_after f (Move worker source target amount) reply) new.ports
      go_on ne = moved_two f worker source target amount old new reply all asks (asks.two (outcome_known reply is) ne) is ne

      by : (r : Reply) → reply ≡ r → (reply ≡ outcome_at f (Move worker source target amount)) × AllShow (balances_after f (Move worker source target amount) reply) new.ports
      by SameAccount e =
          let (known, same, none) = asks.same e in (
            e ∙ sym (ap (λ b. if b then SameAccount else if nat_lt (f source) amount then Short else if nat_lt MAX_BALANCE (f target + amount) then Over else Done) (eq-eqb source target same)),
            subst (λ (d : DeskOf Port). AllShow (balances_after f (Move worker source target amount) reply) d.ports) (sym none)
                (subst (λ r. AllShow (balances_after f (Move worker source target amount) r) old.ports) (sym e) all),
          )
      by Done e = go_on (λ e'. let no : Done ≡ SameAccount = sym e ∙ e' in cc no)
      by Short e = go_on (λ e'. let no : Short ≡ SameAccount = sym e ∙ e' in cc no)
      by Over e = go_on (λ e'. let no : Over ≡ SameAccount = sym e ∙ e' in cc no)
      by Late e = go_on (λ e'. let no : Late ≡ SameAccount = sym e ∙ e' in cc no)
      by Busy e = go_on (λ e'. let no : Busy ≡ SameAccount = sym e ∙ e' in cc no)
      by Closed e = go_on (λ e'. let no : Closed ≡ SameAccount = sym e ∙ e' in cc no)
      by NoAccount e = go_on (λ e'. let no : NoAccount ≡ SameAccount = sym e ∙ e' in cc no)

  tried_once : (f : ℕ → ℕ) (job : Job) (old new : DeskOf Port) (reply : Reply) → AllShow f old.ports → Asks view lines job old new reply → is_again reply ≡ true → AllShow f new.ports
  tried_once f (Put worker task) old new reply all asks is = absurd asks
  tried_once f (Take worker) old new reply all asks is = absurd asks
  tried_once f (PayIn worker account amount) old new reply all asks is =
      let p = asks.pays (again_known reply is).0 in
      let here = all (line_of account) p.port p.was in
      one_called f f old.ports new.ports (line_of account) p.port p.port_then p.was p.is (λ bytes k ne represents. represents)
      (pays_in_again f worker account amount (view p.port) (view p.port_then) (line_of account) (lane_in account) old.paid_in new.paid_in reply here.alone here.represents is p.does) all
  tried_once f (PayOut worker account amount) old new reply all asks is =
      let p = asks.pays (again_known reply is).0 in
      let here = all (line_of account) p.port p.was in
      one_called f f old.ports new.ports (line_of account) p.port p.port_then p.was p.is (λ bytes k ne represents. represents)
      (pays_out_again f worker account amount (view p.port) (view p.port_then) (line_of account) (lane_in account) old.paid_out new.paid_out reply here.alone here.represents is p.does) all
  tried_once f (Move worker source target amount) old new reply all asks is =
      let known = again_known reply is in
      tried_two f worker source target amount old new reply all asks (asks.two known.0 known.1) is

  pub tried : (f : ℕ → ℕ) (job : Job) (from to : DeskOf Port) → AllShow f from.ports → Tries view lines job from to → AllShow f to.ports
  tried f job from to all not_yet = all
  tried f job from to all (again {mid = mid} reply tries asks is) = tried_once f job mid to reply (tried f job from mid all tries) asks is
