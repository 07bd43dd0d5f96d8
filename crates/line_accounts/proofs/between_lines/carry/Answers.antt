use Rattle.std.proofs.Common.{◌≡◌, ◌≤◌, ◌<◌, List, ℕ, length, sym, subst, ap, ◌∙◌}
use Rattle.line_lanes.specs.Lane.{lane_of}
use Rattle.qolb_model.specs.Views.{bytes_of}
use Rattle.line_accounts.specs.Accounts.{StayBalances, HasRoom, credited, debited}
use Rattle.line_accounts.specs.Moves.{Leaves}
use Rattle.line_accounts.proofs.Replies.{done_not_late, short_not_late, over_not_late}
use Rattle.line_accounts.proofs.Visits.{balances_known}
use Rattle.line_accounts.proofs.Totals.{credited_stays, debited_stays}
use Rattle.line_accounts.proofs.between_lines.carry.Goals as goal

pub write_and_release-requires-clause-allowed : goal.write_and_release-requires-clause-allowed
write_and_release-requires-clause-allowed g c =
    let v = g.L.LineSync.view c.args.source_port.now in
    let held_line : c.held_line-paying.result.bytes ≡ bytes_of v = c.held_line-paying.ensures.bytes ∙ c.requires.granted_source.bytes in
    let good = balances_known _ _ _ (g.met.L.LineSync.sound c.args.source.now c.args.source_port.now c.requires.belongs_source) in
    let next : c.in-Some.less.bytes ≡ debited (bytes_of v) c.args.from c.args.amount = c.in-Some.ensures.1 ∙ ap (λ (b : List ℕ). debited b c.args.from c.args.amount) held_line in
    subst (λ (b : List ℕ). StayBalances (bytes_of v) b) (sym next)
    (debited_stays (bytes_of v) c.args.from c.args.amount (ap length (sym held_line) ∙ c.held_line-paying.ensures.long) c.requires.from_lane good)

pub write_and_release-requires-2-clause-allowed : goal.write_and_release-requires-2-clause-allowed
write_and_release-requires-2-clause-allowed g c =
    let v = g.L.LineSync.view c.args.target_port.now in
    let held_line : c.held_line-paid.result.bytes ≡ bytes_of v = c.held_line-paid.ensures.bytes ∙ c.requires.granted_target.bytes in
    let good = balances_known _ _ _ (g.met.L.LineSync.sound c.args.target.now c.args.target_port.now c.requires.belongs_target) in
    let next : c.in-Some-credited.more.bytes ≡ credited (bytes_of v) c.args.to c.args.amount = c.in-Some-credited.ensures.1 ∙ ap (λ (b : List ℕ). credited b c.args.to c.args.amount) held_line in
    subst (λ (b : List ℕ). StayBalances (bytes_of v) b) (sym next)
    (credited_stays (bytes_of v) c.args.to c.args.amount (ap length (sym held_line) ∙ c.held_line-paid.ensures.long) c.requires.to_lane good (subst (λ (b : List ℕ). HasRoom b c.args.to c.args.amount) held_line c.in-Some-credited.ensures.0))

pub returns-clause-carries : goal.returns-clause-carries
returns-clause-carries g c =
    let source = g.L.LineSync.view c.args.source_port.now in
    let target = g.L.LineSync.view c.args.target_port.now in
    let paying : c.held_line-paying.result.bytes ≡ bytes_of (g.L.LineSync.view c.args.source_port.now) = c.held_line-paying.ensures.bytes ∙ c.requires.granted_source.bytes in
    let paid : c.held_line-paid.result.bytes ≡ bytes_of (g.L.LineSync.view c.args.target_port.now) = c.held_line-paid.ensures.bytes ∙ c.requires.granted_target.bytes in
    let less : c.in-Some.less.bytes ≡ debited (bytes_of source) c.args.from c.args.amount = c.in-Some.ensures.1 ∙ ap (λ (b : List ℕ). debited b c.args.from c.args.amount) paying in
    let more : c.in-Some-credited.more.bytes ≡ credited (bytes_of target) c.args.to c.args.amount = c.in-Some-credited.ensures.1 ∙ ap (λ (b : List ℕ). credited b c.args.to c.args.amount) paid in (
      subst (λ (b : List ℕ). Leaves source (g.L.LineSync.view c.write_and_release.new.port) b) less c.write_and_release.ensures.leaves,
      subst (λ (b : List ℕ). Leaves target (g.L.LineSync.view c.write_and_release-2.new.port) b) more c.write_and_release-2.ensures.leaves,
      subst (λ (b : List ℕ). c.args.amount ≤ lane_of b c.args.from) paying c.in-Some.ensures.0,
      subst (λ (b : List ℕ). HasRoom b c.args.to c.args.amount) paid c.in-Some-credited.ensures.0,
    )

pub returns-in_default-credited-clause-carries : goal.returns-in_default-credited-clause-carries
returns-in_default-credited-clause-carries g c =
    let paying : c.held_line-paying.result.bytes ≡ bytes_of (g.L.LineSync.view c.args.source_port.now) = c.held_line-paying.ensures.bytes ∙ c.requires.granted_source.bytes in
    let paid : c.held_line-paid.result.bytes ≡ bytes_of (g.L.LineSync.view c.args.target_port.now) = c.held_line-paid.ensures.bytes ∙ c.requires.granted_target.bytes in (
      c.release_unchanged-in_default-credited.ensures.leaves,
      c.release_unchanged-in_default-credited-2.ensures.leaves,
      subst (λ (b : List ℕ). c.args.amount ≤ lane_of b c.args.from) paying c.in-Some.ensures.0,
      subst (λ (b : List ℕ). HasRoom b c.args.to c.args.amount → ⊥) paid c.in_default-credited.ensures,
    )

pub returns-in_default-clause-carries : goal.returns-in_default-clause-carries
returns-in_default-clause-carries g c =
    let paying : c.held_line-paying.result.bytes ≡ bytes_of (g.L.LineSync.view c.args.source_port.now) = c.held_line-paying.ensures.bytes ∙ c.requires.granted_source.bytes in (c.release_unchanged.ensures.leaves, c.release_unchanged-in_default.ensures.leaves, subst (λ (b : List ℕ). lane_of b c.args.from < c.args.amount) paying c.in_default.ensures)

pub returns-clause-long_source : goal.returns-clause-long_source
returns-clause-long_source g c = ap length (sym (c.held_line-paying.ensures.bytes ∙ c.requires.granted_source.bytes)) ∙ c.held_line-paying.ensures.long

pub returns-clause-long_target : goal.returns-clause-long_target
returns-clause-long_target g c = ap length (sym (c.held_line-paid.ensures.bytes ∙ c.requires.granted_target.bytes)) ∙ c.held_line-paid.ensures.long

pub returns-clause-not_late : goal.returns-clause-not_late
returns-clause-not_late g c = done_not_late

pub returns-in_default-credited-clause-long_source : goal.returns-in_default-credited-clause-long_source
returns-in_default-credited-clause-long_source g c = ap length (sym (c.held_line-paying.ensures.bytes ∙ c.requires.granted_source.bytes)) ∙ c.held_line-paying.ensures.long

pub returns-in_default-credited-clause-long_target : goal.returns-in_default-credited-clause-long_target
returns-in_default-credited-clause-long_target g c = ap length (sym (c.held_line-paid.ensures.bytes ∙ c.requires.granted_target.bytes)) ∙ c.held_line-paid.ensures.long

pub returns-in_default-credited-clause-not_late : goal.returns-in_default-credited-clause-not_late
returns-in_default-credited-clause-not_late g c = over_not_late

pub returns-in_default-clause-long_source : goal.returns-in_default-clause-long_source
returns-in_default-clause-long_source g c = ap length (sym (c.held_line-paying.ensures.bytes ∙ c.requires.granted_source.bytes)) ∙ c.held_line-paying.ensures.long

pub returns-in_default-clause-long_target : goal.returns-in_default-clause-long_target
returns-in_default-clause-long_target g c = ap length (sym (c.held_line-paid.ensures.bytes ∙ c.requires.granted_target.bytes)) ∙ c.held_line-paid.ensures.long

pub returns-in_default-clause-not_late : goal.returns-in_default-clause-not_late
returns-in_default-clause-not_late g c = short_not_late
