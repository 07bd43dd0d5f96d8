use Rattle.std.proofs.Common.{◌≡◌, ◌+◌, ◌≤◌, ◌^◌, ℕ, List, length, inl, inr, refl, sym, subst, ap, ◌∙◌, arith}
use Rattle.std.proofs.lemmas.Bool.{cases_lt}
use Rattle.qolb_model.specs.Views.{bytes_of}
use Rattle.line_accounts.specs.Accounts.{StayBalances, HasRoom, credited}
use Rattle.line_accounts.specs.Moves.{TakesTurn}
use Rattle.line_accounts.proofs.Visits.{took, balances_known}
use Rattle.line_accounts.proofs.Totals.{credited_stays, long-credited, paid_in}
use Rattle.line_accounts.proofs.Replies.{done_not_late, over_not_late}
use Rattle.line_accounts.proofs.turn.pay_in.Goals as goal

pub returns-in_default-credited-clause-pays : goal.returns-in_default-credited-clause-pays
returns-in_default-credited-clause-pays g c =
    let v = g.L.LineSync.view c.ask.new.port in
    let h = c.in_default.ensures.holds in
    let held_line : c.held_line-found.result.bytes ≡ bytes_of v = c.held_line-found.ensures.bytes ∙ h.granted.bytes in
    (bytes_of v, took _ _ _ _ _ h c.release_unchanged.ensures.leaves, inl (subst (λ (b : List ℕ). HasRoom b c.args.k c.args.amount → ⊥) held_line c.in_default-credited.ensures), refl)

pub returns-in_default-checked_add-clause-pays : goal.returns-in_default-checked_add-clause-pays
returns-in_default-checked_add-clause-pays g c =
    let v = g.L.LineSync.view c.ask.new.port in
    let h = c.in_default.ensures.holds in
    let over : 2 ^ 128 ≤ c.args.paid_in.now + c.args.amount = elim (cases_lt (c.args.paid_in.now + c.from.result) (2 ^ 128)) [ inl lt ↦ absurd (c.in_default-checked_add.ensures lt) | inr ge ↦ omega (arith, ge, c.from.ensures) ] in
    (bytes_of v, took _ _ _ _ _ h c.release_unchanged-in_default-checked_add.ensures.leaves, inr over, refl)

pub write_and_release-requires-clause-long : goal.write_and_release-requires-clause-long
write_and_release-requires-clause-long g c =
    ap length c.in-Some.ensures.1 ∙ long-credited _ _ _ c.held_line-found.ensures.long c.requires.lane

pub write_and_release-requires-clause-allowed : goal.write_and_release-requires-clause-allowed
write_and_release-requires-clause-allowed g c =
    let v = g.L.LineSync.view c.ask.new.port in
    let h = c.in_default.ensures.holds in
    let held_line : c.held_line-found.result.bytes ≡ bytes_of v = c.held_line-found.ensures.bytes ∙ h.granted.bytes in
    let good = balances_known _ _ _ (g.met.L.LineSync.sound c.args.line.now c.ask.new.port c.ask.ensures.belongs) in
    let next : c.in-Some.next.bytes ≡ credited (bytes_of v) c.args.k c.args.amount = c.in-Some.ensures.1 ∙ ap (λ (b : List ℕ). credited b c.args.k c.args.amount) held_line in
    subst (λ (b : List ℕ). StayBalances (bytes_of v) b) (sym next)
    (credited_stays (bytes_of v) c.args.k c.args.amount (ap length (sym held_line) ∙ c.held_line-found.ensures.long) c.requires.lane good (subst (λ (b : List ℕ). HasRoom b c.args.k c.args.amount) held_line c.in-Some.ensures.0))

pub returns-clause-pays : goal.returns-clause-pays
returns-clause-pays g c =
    let v = g.L.LineSync.view c.ask.new.port in
    let h = c.in_default.ensures.holds in
    let held_line : c.held_line-found.result.bytes ≡ bytes_of v = c.held_line-found.ensures.bytes ∙ h.granted.bytes in
    let next : c.in-Some.next.bytes ≡ credited (bytes_of v) c.args.k c.args.amount = c.in-Some.ensures.1 ∙ ap (λ (b : List ℕ). credited b c.args.k c.args.amount) held_line in
    let sum : c.in-Some-checked_add.sum ≡ c.args.paid_in.now + c.args.amount = omega (arith, c.in-Some-checked_add.ensures.1, c.from.ensures) in
    let good = balances_known _ _ _ (g.met.L.LineSync.sound c.args.line.now c.ask.new.port c.ask.ensures.belongs) in
    let room = subst (λ (b : List ℕ). HasRoom b c.args.k c.args.amount) held_line c.in-Some.ensures.0 in
    let turn = subst (λ (b : List ℕ). TakesTurn (g.L.LineSync.view c.args.port.now) (g.L.LineSync.view c.write_and_release.new.port) (bytes_of v) b) next (took _ _ _ _ _ h c.write_and_release.ensures.leaves) in (
      bytes_of v,
      turn,
      room,
      paid_in (bytes_of v) c.args.k c.args.amount (ap length (sym held_line) ∙ c.held_line-found.ensures.long) c.requires.lane good room turn.pays,
      sum,
    )

pub returns-clause-late : goal.returns-clause-late
returns-clause-late g c late = absurd (done_not_late late)

pub returns-in_default-credited-clause-late : goal.returns-in_default-credited-clause-late
returns-in_default-credited-clause-late g c late = absurd (over_not_late late)

pub returns-in_default-checked_add-clause-late : goal.returns-in_default-checked_add-clause-late
returns-in_default-checked_add-clause-late g c late = absurd (over_not_late late)
