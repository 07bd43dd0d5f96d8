-- Lemmas about what one call at a desk did with each port of the desk. A desk is the handle through which a worker uses
-- a bank, and has a port for each line of the bank.
use Rattle.std.proofs.Common.{◌≡◌, ◌≢◌, ◌⊎◌, inl, inr, ℕ, ◌+◌, ◌≤◌, List, Some, slice_get, slice_set, refl, ap, sym, ◌∙◌, subst, arith}
use Rattle.std.proofs.lemmas.Bool.{cases_eq, cases_lt}
use Rattle.std.proofs.lemmas.Option.{slice_get_within}
use Rattle.qolb_model.specs.declared.view.View.{View}
use Rattle.qolb_model.specs.Views.{Extends}
use Rattle.qolb_model.specs.Releasing.{IsTold}
use Rattle.qolb_model.specs.Sums.{HasNotShut}
use Rattle.qolb_model.proofs.Agreeing.{extends_trans}
use Rattle.qolb_model.proofs.Going.{extends_self}
use Rattle.qolb_model.proofs.Lists.{same_some}
use Rattle.line_accounts.specs.declared.answer.Reply.{Reply}
use Rattle.line_accounts.specs.declared.answer.Reply.TheVariants.{Done, Short, Over, Late, Closed, Busy, NoAccount, SameAccount}
use Rattle.line_accounts.specs.Accounts.{line_of, lane_in}
use Rattle.line_accounts.specs.Paid.{paid_by}
use Rattle.line_accounts.specs.Desks.{DeskOf}
use Rattle.line_accounts.specs.Moves.{Pays, TakesTurn, Looks, IsRefused, IsRefusedEither, PaysIn, PaysOut, MovesWithin, MovesAcross}
use Rattle.line_accounts.specs.Calls.{AreTwo}
use Rattle.line_accounts.proofs.Accounted.{slice_get-set_same, slice_get-set_other, refused_in_vain}
use Rattle.line_accounts.proofs.Totals.{looked}
use Rattle.qolb_script.specs.declared.job.Job.{Job}
use Rattle.qolb_script.specs.declared.job.Job.TheVariants.{Put, Take, PayIn, PayOut, Move}
use Rattle.qolb_work.specs.BankRuns.{amount_in}
use Rattle.qolb_work.specs.BankWork.{Asks}

-- The port still knows all that it knew before. It has paid in at most `most` more, and has not shut its line.
pub record Goes (most : ℕ) (v w : View) : Type 0 where
  pub extends : Extends v w
  pub paid : paid_by w ≤ paid_by v + most
  pub unshut : HasNotShut v → HasNotShut w

goes_self : (v : View) (most : ℕ) → Goes most v v
goes_self v most = record { extends = extends_self v; paid = omega arith; unshut = λ unshut. unshut }

pub goes_then : (u v w : View) (a b : ℕ) → Goes a u v → Goes b v w → Goes (a + b) u w
goes_then u v w a b first second = let x = first.paid in let y = second.paid in record { extends = extends_trans u v w first.extends second.extends; paid = omega (arith, x, y); unshut = λ unshut. second.unshut (first.unshut unshut) }

-- The most that a job with this answer can add to an account: the amount of the job if it was done, and 0 otherwise.
abbrev pub most_in : Job → Reply → ℕ
most_in job Done = amount_in job
most_in job Short = 0
most_in job Over = 0
most_in job Late = 0
most_in job Closed = 0
most_in job Busy = 0
most_in job NoAccount = 0
most_in job SameAccount = 0

pub most_within : (job : Job) (reply : Reply) → most_in job reply ≤ amount_in job
most_within job Done = omega arith
most_within job Short = omega arith
most_within job Over = omega arith
most_within job Late = omega arith
most_within job Closed = omega arith
most_within job Busy = omega arith
most_within job NoAccount = omega arith
most_within job SameAccount = omega arith

-- a port that had a turn, looked at its line, or made a request that was refused
module _ (v w : View) (most : ℕ) where
  turn_goes : (found left : List ℕ) (more drawn : ℕ) → TakesTurn v w found left → Pays v w more drawn → more ≤ most → Goes most v w
  turn_goes found left more drawn turn pays le = let paid = pays.paid_in in record { extends = turn.continues.extends; paid = omega (arith, paid, le); unshut = turn.unshut }

  look_goes : (found : List ℕ) → Looks v w found → Goes most v w
  look_goes found turn = turn_goes found found 0 0 turn (looked found turn.pays) (omega arith)

  vain_goes : (reply : Reply) → IsRefused v w reply → Goes most v w
  vain_goes reply refused =
      let vain = refused_in_vain v w reply refused in
      let paid = vain.pays.paid_in in
      record { extends = vain.continues.extends; paid = omega (arith, paid); unshut = vain.unshut }

either_goes : (a b c d : View) (most : ℕ) (reply : Reply) → IsRefusedEither a b c d reply → Goes most a b × Goes most c d
either_goes a b c d most reply (inl (refused, same)) = (vain_goes a b most reply refused, subst (λ (v : View). Goes most c v) (sym same) (goes_self c most))
either_goes a b c d most reply (inr (found, turn, refused)) = (look_goes a b most found turn, vain_goes c d most reply refused)

in_goes : (v w : View) (worker account lane amount sum sum_then : ℕ) (reply : Reply) → PaysIn v w lane amount sum sum_then reply → Goes (most_in (PayIn worker account amount) reply) v w
in_goes v w worker account lane amount sum sum_then Done (found, turn, room, pays, e) = turn_goes v w amount found _ amount 0 turn pays (omega arith)
in_goes v w worker account lane amount sum sum_then Over (found, turn, why, e) = look_goes v w 0 found turn
in_goes v w worker account lane amount sum sum_then Short h = absurd h
in_goes v w worker account lane amount sum sum_then Late (r, e) = vain_goes v w 0 Late r
in_goes v w worker account lane amount sum sum_then Closed (r, e) = vain_goes v w 0 Closed r
in_goes v w worker account lane amount sum sum_then Busy (r, e) = vain_goes v w 0 Busy r
in_goes v w worker account lane amount sum sum_then NoAccount h = absurd h
in_goes v w worker account lane amount sum sum_then SameAccount h = absurd h

out_goes : (v w : View) (worker account lane amount sum sum_then : ℕ) (reply : Reply) → PaysOut v w lane amount sum sum_then reply → Goes (most_in (PayOut worker account amount) reply) v w
out_goes v w worker account lane amount sum sum_then Done (found, turn, enough, pays, e) = turn_goes v w 0 found _ 0 amount turn pays (omega arith)
out_goes v w worker account lane amount sum sum_then Short (found, turn, less, e) = look_goes v w 0 found turn
out_goes v w worker account lane amount sum sum_then Over (found, turn, enough, most, e) = look_goes v w 0 found turn
out_goes v w worker account lane amount sum sum_then Late (r, e) = vain_goes v w 0 Late r
out_goes v w worker account lane amount sum sum_then Closed (r, e) = vain_goes v w 0 Closed r
out_goes v w worker account lane amount sum sum_then Busy (r, e) = vain_goes v w 0 Busy r
out_goes v w worker account lane amount sum sum_then NoAccount h = absurd h
out_goes v w worker account lane amount sum sum_then SameAccount h = absurd h

within_goes : (v w : View) (worker source target from to amount : ℕ) (reply : Reply) → MovesWithin v w from to amount reply → Goes (most_in (Move worker source target amount) reply) v w
within_goes v w worker source target from to amount Done (found, turn, enough, room, pays) = turn_goes v w amount found _ 0 0 turn pays (omega arith)
within_goes v w worker source target from to amount Short (found, turn, less) = look_goes v w 0 found turn
within_goes v w worker source target from to amount Over (found, turn, enough, no_room) = look_goes v w 0 found turn
within_goes v w worker source target from to amount Late r = vain_goes v w 0 Late r
within_goes v w worker source target from to amount Closed r = vain_goes v w 0 Closed r
within_goes v w worker source target from to amount Busy r = vain_goes v w 0 Busy r
within_goes v w worker source target from to amount NoAccount h = absurd h
within_goes v w worker source target from to amount SameAccount h = absurd h

across_goes : (refused : Reply → Type 0) (a b c d : View) (worker source target from to amount : ℕ) (reply : Reply) → ((reply : Reply) → refused reply → Goes 0 a b × Goes 0 c d) → MovesAcross refused a b c d from to amount reply
    → Goes (most_in (Move worker source target amount) reply) a b × Goes (most_in (Move worker source target amount) reply) c d
across_goes refused a b c d worker source target from to amount Done by (found, turn, enough, pays, there, turn_there, room, pays_there) = (turn_goes a b amount found _ 0 amount turn pays (omega arith), turn_goes c d amount there _ amount 0 turn_there pays_there (omega arith))
across_goes refused a b c d worker source target from to amount Short by (found, turn, less, there, turn_there) = (look_goes a b 0 found turn, look_goes c d 0 there turn_there)
across_goes refused a b c d worker source target from to amount Over by (found, turn, enough, there, turn_there, no_room) = (look_goes a b 0 found turn, look_goes c d 0 there turn_there)
across_goes refused a b c d worker source target from to amount Late by r = by Late r
across_goes refused a b c d worker source target from to amount Closed by r = by Closed r
across_goes refused a b c d worker source target from to amount Busy by r = by Busy r
across_goes refused a b c d worker source target from to amount NoAccount by h = absurd h
across_goes refused a b c d worker source target from to amount SameAccount by h = absurd h

-- Every reply is either `NoAccount` or another reply.
pub is_no_account : (reply : Reply) → (reply ≡ NoAccount) ⊎ (reply ≢ NoAccount)
is_no_account Done = inr (λ e. let no : Done ≡ NoAccount = e in cc no)
is_no_account Short = inr (λ e. let no : Short ≡ NoAccount = e in cc no)
is_no_account Over = inr (λ e. let no : Over ≡ NoAccount = e in cc no)
is_no_account Late = inr (λ e. let no : Late ≡ NoAccount = e in cc no)
is_no_account Closed = inr (λ e. let no : Closed ≡ NoAccount = e in cc no)
is_no_account Busy = inr (λ e. let no : Busy ≡ NoAccount = e in cc no)
is_no_account NoAccount = inl refl
is_no_account SameAccount = inr (λ e. let no : SameAccount ≡ NoAccount = e in cc no)

is_same_account : (reply : Reply) → (reply ≡ SameAccount) ⊎ (reply ≢ SameAccount)
is_same_account Done = inr (λ e. let no : Done ≡ SameAccount = e in cc no)
is_same_account Short = inr (λ e. let no : Short ≡ SameAccount = e in cc no)
is_same_account Over = inr (λ e. let no : Over ≡ SameAccount = e in cc no)
is_same_account Late = inr (λ e. let no : Late ≡ SameAccount = e in cc no)
is_same_account Closed = inr (λ e. let no : Closed ≡ SameAccount = e in cc no)
is_same_account Busy = inr (λ e. let no : Busy ≡ SameAccount = e in cc no)
is_same_account SameAccount = inl refl
is_same_account NoAccount = inr (λ e. let no : NoAccount ≡ SameAccount = e in cc no)

-- A property of the element that was written, and of each other element, holds of all elements.
pub each_set : {Port : Type 0} (Q : ℕ → Port → Type 0) (old new : List Port) (place : ℕ) (port port_then : Port) → slice_get old place ≡ Some port → new ≡ slice_set old place port_then
    → ((i : ℕ) (p : Port) → i ≢ place → slice_get old i ≡ Some p → Q i p) → Q place port_then → (i : ℕ) (p : Port) → slice_get new i ≡ Some p → Q i p
each_set {Port} Q old new place port port_then was is others here i p at = elim (cases_eq i place) [
  | inl e ↦
      let same : port_then ≡ p = same_some (sym (slice_get-set_same old place port_then (slice_get_within old place port was)) ∙ (ap (slice_get (slice_set old place port_then)) (sym e) ∙ (ap (λ l. slice_get l i) (sym is) ∙ at))) in
      subst (λ n. Q n p) (sym e) (subst (λ (x : Port). Q place x) same here)
  | inr ne ↦ others i p ne (sym (slice_get-set_other old place i port_then ne) ∙ (ap (λ l. slice_get l i) (sym is) ∙ at))
]

module _ {Port : Type 0} (view : Port → View) where
  -- Each of these ports is a port of the old list, at the same place, after such a change.
  abbrev pub AllGo : ℕ → List Port → List Port → Type 0
  AllGo most old new = (i : ℕ) (port : Port) → slice_get new i ≡ Some port → (was : Port) × (slice_get old i ≡ Some was) × Goes most (view was) (view port)

  pub all_stay : (most : ℕ) (old new : List Port) → new ≡ old → AllGo most old new
  all_stay most old new e i port at = (port, ap (λ l. slice_get l i) (sym e) ∙ at, goes_self (view port) most)

  pub all_then : (a b : ℕ) (first second third : List Port) → AllGo a first second → AllGo b second third → AllGo (a + b) first third
  all_then a b first second third f h i port at =
      let (mid, at_mid, later) = h i port at in
      let (was, at_was, earlier) = f i mid at_mid in
      (was, at_was, goes_then (view was) (view mid) (view port) a b earlier later)

  -- One port was called, or two ports were called.
  one_goes : (most : ℕ) (old new : List Port) (place : ℕ) (port port_then : Port) → slice_get old place ≡ Some port → new ≡ slice_set old place port_then → Goes most (view port) (view port_then) → AllGo most old new
  one_goes most old new place port port_then was is goes =
      each_set (λ i (p : Port). (before : Port) × (slice_get old i ≡ Some before) × Goes most (view before) (view p)) old new place port port_then was is
      (λ i p ne at. (p, at, goes_self (view p) most)) (port, was, goes)

  two_go : (most : ℕ) (old new : List Port) (i j : ℕ) (one one_then other other_then : Port) → i ≢ j → slice_get old i ≡ Some one → slice_get old j ≡ Some other → new ≡ slice_set (slice_set old i one_then) j other_then
      → Goes most (view one) (view one_then) × Goes most (view other) (view other_then) → AllGo most old new
  two_go most old new i j one one_then other other_then ne one_was other_was is (first, second) =
      each_set (λ k (p : Port). (before : Port) × (slice_get old k ≡ Some before) × Goes most (view before) (view p)) (slice_set old i one_then) new j other other_then
      (slice_get-set_other old i j one_then (λ e. ne (sym e)) ∙ other_was) is
      (λ k p ne_j at. one_goes most old (slice_set old i one_then) i one one_then one_was refl first k p at) (other, other_was, second)

  module _ (lines : ℕ) where
    move_goes : (worker source target amount : ℕ) (old new : DeskOf Port) (reply : Reply) → Asks view lines (Move worker source target amount) old new reply → AreTwo lines source target → AllGo (most_in (Move worker source target amount) reply) old.ports new.ports
    move_goes worker source target amount old new reply asks two = elim (cases_eq (line_of source) (line_of target)) [
      | inl e ↦
          let p = asks.within two e in
          one_goes (most_in (Move worker source target amount) reply) old.ports new.ports (line_of source) p.port p.port_then p.was p.is
          (within_goes (view p.port) (view p.port_then) worker source target (lane_in source) (lane_in target) amount reply p.does)
      | inr ne ↦ elim (cases_lt (line_of source) (line_of target)) [
        | inl lt ↦
            let p = asks.up two lt in
            two_go (most_in (Move worker source target amount) reply) old.ports new.ports (line_of source) (line_of target) p.one p.one_then p.other p.other_then ne p.one_was p.other_was p.is
            (across_goes (IsRefusedEither (view p.one) (view p.one_then) (view p.other) (view p.other_then)) (view p.one) (view p.one_then) (view p.other) (view p.other_then) worker source target (lane_in source) (lane_in target) amount reply
            (λ r refused. either_goes (view p.one) (view p.one_then) (view p.other) (view p.other_then) 0 r refused) p.does)
        | inr ge ↦
            let p = asks.down two (omega (arith, ge, ne)) in
            two_go (most_in (Move worker source target amount) reply) old.ports new.ports (line_of source) (line_of target) p.one p.one_then p.other p.other_then ne p.one_was p.other_was p.is
            (across_goes (IsRefusedEither (view p.other) (view p.other_then) (view p.one) (view p.one_then)) (view p.one) (view p.one_then) (view p.other) (view p.other_then) worker source target (lane_in source) (lane_in target) amount reply
            (λ r refused. let e = either_goes (view p.other) (view p.other_then) (view p.one) (view p.one_then) 0 r refused in (e.1, e.0)) p.does)
      ]
    ]

    -- the ports after one call at the desk
    pub all_go : (job : Job) (old new : DeskOf Port) (reply : Reply) → Asks view lines job old new reply → AllGo (most_in job reply) old.ports new.ports
    all_go (Put worker task) old new reply asks = absurd asks
    all_go (Take worker) old new reply asks = absurd asks
    all_go (PayIn worker account amount) old new reply asks = elim (is_no_account reply) [
      | inl e ↦ all_stay (most_in (PayIn worker account amount) reply) old.ports new.ports (ap (λ (d : DeskOf Port). d.ports) (asks.unknown e).1)
      | inr ne ↦
          let p = asks.pays ne in
          one_goes (most_in (PayIn worker account amount) reply) old.ports new.ports (line_of account) p.port p.port_then p.was p.is
          (in_goes (view p.port) (view p.port_then) worker account (lane_in account) amount old.paid_in new.paid_in reply p.does)
    ]
    all_go (PayOut worker account amount) old new reply asks = elim (is_no_account reply) [
      | inl e ↦ all_stay (most_in (PayOut worker account amount) reply) old.ports new.ports (ap (λ (d : DeskOf Port). d.ports) (asks.unknown e).1)
      | inr ne ↦
          let p = asks.pays ne in
          one_goes (most_in (PayOut worker account amount) reply) old.ports new.ports (line_of account) p.port p.port_then p.was p.is
          (out_goes (view p.port) (view p.port_then) worker account (lane_in account) amount old.paid_out new.paid_out reply p.does)
    ]
    all_go (Move worker source target amount) old new reply asks = by (is_no_account reply) (is_same_account reply)
      where
        by : (reply ≡ NoAccount) ⊎ (reply ≢ NoAccount) → (reply ≡ SameAccount) ⊎ (reply ≢ SameAccount) → AllGo (most_in (Move worker source target amount) reply) old.ports new.ports
        by (inl e) same = all_stay (most_in (Move worker source target amount) reply) old.ports new.ports (ap (λ (d : DeskOf Port). d.ports) (asks.unknown e).1)
        by (inr ne) (inl e) = all_stay (most_in (Move worker source target amount) reply) old.ports new.ports (ap (λ (d : DeskOf Port). d.ports) (asks.same e).2)
        by (inr ne) (inr other) = move_goes worker source target amount old new reply asks (asks.two ne other)

    -- One port of the desk was told that its line is closed.
    abbrev pub IsOneTold : List Port → Type 0
    IsOneTold ports = (i : ℕ) × (port : Port) × (slice_get ports i ≡ Some port) × IsTold (view port)

    at_one : (old new : List Port) (place : ℕ) (port port_then : Port) → slice_get old place ≡ Some port → new ≡ slice_set old place port_then → slice_get new place ≡ Some port_then
    at_one old new place port port_then was is = ap (λ l. slice_get l place) is ∙ slice_get-set_same old place port_then (slice_get_within old place port was)

    two_told : (old new : List Port) (i j : ℕ) (one one_then other other_then : Port) → i ≢ j → slice_get old i ≡ Some one → slice_get old j ≡ Some other → new ≡ slice_set (slice_set old i one_then) j other_then
        → IsTold (view one_then) ⊎ IsTold (view other_then) → IsOneTold new
    two_told old new i j one one_then other other_then ne one_was other_was is told =
        let at_i : slice_get new i ≡ Some one_then = ap (λ l. slice_get l i) is ∙ (slice_get-set_other (slice_set old i one_then) j i other_then ne ∙ slice_get-set_same old i one_then (slice_get_within old i one one_was)) in
        let at_j : slice_get new j ≡ Some other_then = at_one (slice_set old i one_then) new j other other_then (slice_get-set_other old i j one_then (λ e. ne (sym e)) ∙ other_was) is in
        elim told [ inl first ↦ (i, one_then, at_i, first) | inr second ↦ (j, other_then, at_j, second) ]

    either_told : (a b c d : View) → IsRefusedEither a b c d Closed → IsTold b ⊎ IsTold d
    either_told a b c d (inl (refused, same)) = inl refused.2
    either_told a b c d (inr (found, turn, refused)) = inr refused.2

    pub one_told : (job : Job) (old new : DeskOf Port) → Asks view lines job old new Closed → IsOneTold new.ports
    one_told (Put worker task) old new asks = absurd asks
    one_told (Take worker) old new asks = absurd asks
    one_told (PayIn worker account amount) old new asks = let p = asks.pays (λ e. let no : Closed ≡ NoAccount = e in cc no) in (line_of account, p.port_then, at_one old.ports new.ports (line_of account) p.port p.port_then p.was p.is, p.does.0.2)
    one_told (PayOut worker account amount) old new asks = let p = asks.pays (λ e. let no : Closed ≡ NoAccount = e in cc no) in (line_of account, p.port_then, at_one old.ports new.ports (line_of account) p.port p.port_then p.was p.is, p.does.0.2)
    one_told (Move worker source target amount) old new asks =
        let two = asks.two (λ e. let no : Closed ≡ NoAccount = e in cc no) (λ e. let no : Closed ≡ SameAccount = e in cc no) in
        elim (cases_eq (line_of source) (line_of target)) [
          | inl e ↦ let p = asks.within two e in (line_of source, p.port_then, at_one old.ports new.ports (line_of source) p.port p.port_then p.was p.is, p.does.2)
          | inr ne ↦ elim (cases_lt (line_of source) (line_of target)) [
            | inl lt ↦
                let p = asks.up two lt in
                two_told old.ports new.ports (line_of source) (line_of target) p.one p.one_then p.other p.other_then ne p.one_was p.other_was p.is (either_told (view p.one) (view p.one_then) (view p.other) (view p.other_then) p.does)
            | inr ge ↦
                let p = asks.down two (omega (arith, ge, ne)) in
                two_told old.ports new.ports (line_of source) (line_of target) p.one p.one_then p.other p.other_then ne p.one_was p.other_was p.is (elim (either_told (view p.other) (view p.other_then) (view p.one) (view p.one_then) p.does) [ inl t ↦ inr t | inr t ↦ inl t ])
          ]
        ]
