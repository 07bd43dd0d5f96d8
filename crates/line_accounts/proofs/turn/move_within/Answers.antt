use Rattle.std.proofs.Common.{◌≡◌, ◌≤◌, ◌<◌, ℕ, List, length, sym, subst, ap, ◌∙◌}
use Rattle.line_lanes.specs.Lane.{lane_of}
use Rattle.qolb_model.specs.Views.{bytes_of}
use Rattle.line_accounts.specs.Accounts.{StayBalances, HasRoom, credited, debited}
use Rattle.line_accounts.specs.Moves.{TakesTurn}
use Rattle.line_accounts.proofs.Visits.{took, balances_known}
use Rattle.line_accounts.proofs.Totals.{long-debited, long-credited, moved_stays, no_room, has_room, moved}
use Rattle.line_accounts.proofs.Replies.{done_not_late, short_not_late, over_not_late}
use Rattle.line_accounts.proofs.turn.move_within.Goals as goal

pub returns-in_default-debited-clause-moves : goal.returns-in_default-debited-clause-moves
returns-in_default-debited-clause-moves g c =
    let v = g.L.LineSync.view c.ask.new.port in
    let h = c.in_default.ensures.holds in
    let held_line : c.held_line-found.result.bytes ≡ bytes_of v = c.held_line-found.ensures.bytes ∙ h.granted.bytes in
    (bytes_of v, took _ _ _ _ _ h c.release_unchanged.ensures.leaves, subst (λ (b : List ℕ). lane_of b c.args.from < c.args.amount) held_line c.in_default-debited.ensures)

pub returns-in_default-credited-clause-moves : goal.returns-in_default-credited-clause-moves
returns-in_default-credited-clause-moves g c =
    let v = g.L.LineSync.view c.ask.new.port in
    let h = c.in_default.ensures.holds in
    let held_line : c.held_line-found.result.bytes ≡ bytes_of v = c.held_line-found.ensures.bytes ∙ h.granted.bytes in
    let good = balances_known _ _ _ (g.met.L.LineSync.sound c.args.line.now c.ask.new.port c.ask.ensures.belongs) in
    let less : c.in-Some.less.bytes ≡ debited (bytes_of v) c.args.from c.args.amount = c.in-Some.ensures.1 ∙ ap (λ (b : List ℕ). debited b c.args.from c.args.amount) held_line in (
      bytes_of v,
      took _ _ _ _ _ h c.release_unchanged-in_default-credited.ensures.leaves,
      subst (λ (b : List ℕ). c.args.amount ≤ lane_of b c.args.from) held_line c.in-Some.ensures.0,
      no_room (bytes_of v) c.args.from c.args.to c.args.amount (ap length (sym held_line) ∙ c.held_line-found.ensures.long) c.requires.source c.requires.target (λ e. c.requires.apart (sym e)) good
          (subst (λ (b : List ℕ). HasRoom b c.args.to c.args.amount → ⊥) less c.in_default-credited.ensures),
    )

pub write_and_release-requires-clause-long : goal.write_and_release-requires-clause-long
write_and_release-requires-clause-long g c =
    ap length c.in-Some-credited.ensures.1 ∙ long-credited _ _ _ (ap length c.in-Some.ensures.1 ∙ long-debited _ _ _ c.held_line-found.ensures.long c.requires.source) c.requires.target

pub write_and_release-requires-clause-allowed : goal.write_and_release-requires-clause-allowed
write_and_release-requires-clause-allowed g c =
    let v = g.L.LineSync.view c.ask.new.port in
    let h = c.in_default.ensures.holds in
    let held_line : c.held_line-found.result.bytes ≡ bytes_of v = c.held_line-found.ensures.bytes ∙ h.granted.bytes in
    let good = balances_known _ _ _ (g.met.L.LineSync.sound c.args.line.now c.ask.new.port c.ask.ensures.belongs) in
    let less : c.in-Some.less.bytes ≡ debited (bytes_of v) c.args.from c.args.amount = c.in-Some.ensures.1 ∙ ap (λ (b : List ℕ). debited b c.args.from c.args.amount) held_line in
    let next : c.in-Some-credited.next.bytes ≡ credited (debited (bytes_of v) c.args.from c.args.amount) c.args.to c.args.amount = c.in-Some-credited.ensures.1 ∙ ap (λ (b : List ℕ). credited b c.args.to c.args.amount) less in
    subst (λ (b : List ℕ). StayBalances (bytes_of v) b) (sym next)
    (moved_stays (bytes_of v) c.args.from c.args.to c.args.amount (ap length (sym held_line) ∙ c.held_line-found.ensures.long) c.requires.source c.requires.target (λ e. c.requires.apart (sym e)) good
    (subst (λ (b : List ℕ). HasRoom b c.args.to c.args.amount) less c.in-Some-credited.ensures.0))

pub returns-clause-moves : goal.returns-clause-moves
returns-clause-moves g c =
    let v = g.L.LineSync.view c.ask.new.port in
    let h = c.in_default.ensures.holds in
    let held_line : c.held_line-found.result.bytes ≡ bytes_of v = c.held_line-found.ensures.bytes ∙ h.granted.bytes in
    let good = balances_known _ _ _ (g.met.L.LineSync.sound c.args.line.now c.ask.new.port c.ask.ensures.belongs) in
    let less : c.in-Some.less.bytes ≡ debited (bytes_of v) c.args.from c.args.amount = c.in-Some.ensures.1 ∙ ap (λ (b : List ℕ). debited b c.args.from c.args.amount) held_line in
    let next : c.in-Some-credited.next.bytes ≡ credited (debited (bytes_of v) c.args.from c.args.amount) c.args.to c.args.amount = c.in-Some-credited.ensures.1 ∙ ap (λ (b : List ℕ). credited b c.args.to c.args.amount) less in
    let enough = subst (λ (b : List ℕ). c.args.amount ≤ lane_of b c.args.from) held_line c.in-Some.ensures.0 in
    let room = has_room (bytes_of v) c.args.from c.args.to c.args.amount (ap length (sym held_line) ∙ c.held_line-found.ensures.long) c.requires.source c.requires.target (λ e. c.requires.apart (sym e)) good
    (subst (λ (b : List ℕ). HasRoom b c.args.to c.args.amount) less c.in-Some-credited.ensures.0) in
    let turn = subst (λ (b : List ℕ). TakesTurn (g.L.LineSync.view c.args.port.now) (g.L.LineSync.view c.write_and_release.new.port) (bytes_of v) b) next (took _ _ _ _ _ h c.write_and_release.ensures.leaves) in (
      bytes_of v,
      turn,
      enough,
      room,
      moved (bytes_of v) c.args.from c.args.to c.args.amount (ap length (sym held_line) ∙ c.held_line-found.ensures.long) c.requires.source c.requires.target (λ e. c.requires.apart (sym e)) good enough room turn.pays,
    )

pub returns-clause-late : goal.returns-clause-late
returns-clause-late g c late = absurd (done_not_late late)

pub returns-in_default-debited-clause-late : goal.returns-in_default-debited-clause-late
returns-in_default-debited-clause-late g c late = absurd (short_not_late late)

pub returns-in_default-credited-clause-late : goal.returns-in_default-credited-clause-late
returns-in_default-credited-clause-late g c late = absurd (over_not_late late)
