use Rattle.std.proofs.Common.{◌≡◌, ◌≢◌, sym, ◌∙◌}
use Rattle.qolb_model.specs.declared.acquire.Acquired.{Acquired}
use Rattle.qolb_model.specs.declared.acquire.Acquired.TheVariants.{Granted, Late, Closed, Busy}
use Rattle.line_accounts.proofs.Visits.{late, closed, busy, holds}
use Rattle.line_accounts.proofs.ask.ask.Goals as goal

not_busy : (answer other : Acquired) → answer ≡ other → other ≢ Busy → answer ≢ Busy
not_busy answer other is apart same = apart (sym is ∙ same)

pub returns-in-Granted-clause-holds : goal.returns-in-Granted-clause-holds
returns-in-Granted-clause-holds g c =
    let a = c.acquire_bounded.ensures.acquires in
    let past = (g.met.L.LineSync.sound c.args.line.now c.args.port.now c.requires.belongs).own_history in
    let asks = a.asks (not_busy _ Granted c.in-Granted.is (λ e. cc e)) in
    holds _ _ c.requires.at_rest past a.continues _ asks (a.granted c.in-Granted.is)

pub returns-in-Late-clause-refused : goal.returns-in-Late-clause-refused
returns-in-Late-clause-refused g c =
    let a = c.acquire_bounded.ensures.acquires in
    let past = (g.met.L.LineSync.sound c.args.line.now c.args.port.now c.requires.belongs).own_history in
    let asks = a.asks (not_busy _ Late c.in-Late.is (λ e. cc e)) in
    (late _ _ c.requires.at_rest past a.continues asks (a.late c.in-Late.is), asks, a.late c.in-Late.is)

pub returns-in-Late-clause-late : goal.returns-in-Late-clause-late
returns-in-Late-clause-late g c _ = record {
  looked = c.acquire_bounded.ensures.late c.in-Late.is;
  withdrawn = (c.acquire_bounded.ensures.acquires.late c.in-Late.is).state;
}

pub returns-in-Closed-clause-refused : goal.returns-in-Closed-clause-refused
returns-in-Closed-clause-refused g c =
    let a = c.acquire_bounded.ensures.acquires in
    let past = (g.met.L.LineSync.sound c.args.line.now c.args.port.now c.requires.belongs).own_history in
    let asks = a.asks (not_busy _ Closed c.in-Closed.is (λ e. cc e)) in
    (closed _ _ c.requires.at_rest past a.continues asks (a.told c.in-Closed.is), asks, a.told c.in-Closed.is)

pub returns-in-Busy-clause-refused : goal.returns-in-Busy-clause-refused
returns-in-Busy-clause-refused g c =
    let a = c.acquire_bounded.ensures.acquires in
    let past = (g.met.L.LineSync.sound c.args.line.now c.args.port.now c.requires.belongs).own_history in
    (busy _ _ c.requires.at_rest past a.continues (a.busy c.in-Busy.is), a.busy c.in-Busy.is)
