use Rattle.std.proofs.Common.{refl, inl, inr, ◌∙◌}
use Rattle.qolb_model.proofs.Going.{continues_on}
use Rattle.line_blocking.proofs.Acquiring.{granted_within, told_within, acquired_within, soon_at_once, soon_waiting, closed_within, granted_in_time, closed_in_time, quiet_busy, busy_still, busy_within, late_ungranted, looked_meanwhile}
use Rattle.line_blocking.proofs.timed.acquire_timeout.Goals as goal

pub returns-in-Granted-clause-acquires : goal.returns-in-Granted-clause-acquires
returns-in-Granted-clause-acquires g c = granted_within _ _ _ _ _ c.loop.invariant.extends c.loop.invariant.count c.in-Granted.ensures.enqueues

pub returns-in-Closed-clause-acquires : goal.returns-in-Closed-clause-acquires
returns-in-Closed-clause-acquires g c = told_within _ _ _ _ _ c.loop.invariant.extends c.loop.invariant.count c.in-Closed.ensures.enqueues

pub returns-in-Queued-clause-acquires : goal.returns-in-Queued-clause-acquires
returns-in-Queued-clause-acquires g c =
    acquired_within _ _ _ _ _ _ _ _ c.loop.invariant.extends c.loop.invariant.count c.in-Queued.ensures.enqueues c.wait_timeout.ensures.ends_wait

pub returns-in-Granted-clause-soon : goal.returns-in-Granted-clause-soon
returns-in-Granted-clause-soon g c _ =
    soon_at_once g.L.LineSync.view g.L.LineSync.counters c.args.port.now c.loop.port c.enqolb.new.port _ _ c.loop.invariant.extends c.loop.invariant.count c.loop.invariant.poll_count c.in-Granted.ensures.counts.poll_count _ _ _
    c.in-Granted.ensures.enqueues (g.met.L.LineSync.sound c.args.line.now c.enqolb.new.port c.in-Granted.ensures.belongs)

pub returns-in-Closed-clause-soon : goal.returns-in-Closed-clause-soon
returns-in-Closed-clause-soon g c granted = absurd (closed_within granted)

pub returns-in-Queued-clause-soon : goal.returns-in-Queued-clause-soon
returns-in-Queued-clause-soon g c granted =
    soon_waiting g.L.LineSync.view g.L.LineSync.counters c.args.port.now c.loop.port c.enqolb.new.port _ _ c.loop.invariant.extends c.loop.invariant.count c.loop.invariant.poll_count c.in-Queued.ensures.counts.poll_count _ _
    c.in-Queued.ensures.enqueues c.wait_timeout.ensures.ends_wait.continues c.wait_timeout.ensures.ends_wait.count (c.wait_timeout.ensures.ends_wait.granted granted)

pub loop-preserved : goal.loop-preserved
loop-preserved g c = record {
  belongs = c.in-Busy.ensures.belongs;
  state = quiet_busy _ _ (c.in-Busy.ensures.enqueues.busy refl);
  extends = (continues_on _ _ _ _ c.loop.invariant.extends c.in-Busy.ensures.enqueues.continues).extends;
  count = (c.in-Busy.ensures.enqueues.busy refl).count ∙ c.loop.invariant.count;
  poll_count = c.in-Busy.ensures.counts.poll_count ∙ c.loop.invariant.poll_count;
  same_state = (c.in-Busy.ensures.enqueues.busy refl).state ∙ c.loop.invariant.same_state;
}

pub loop-preserved-then-not-pause : goal.loop-preserved-then-not-pause
loop-preserved-then-not-pause g c = record {
  belongs = c.in-Busy.ensures.belongs;
  state = quiet_busy _ _ (c.in-Busy.ensures.enqueues.busy refl);
  extends = (continues_on _ _ _ _ c.loop.invariant.extends c.in-Busy.ensures.enqueues.continues).extends;
  count = (c.in-Busy.ensures.enqueues.busy refl).count ∙ c.loop.invariant.count;
  poll_count = c.in-Busy.ensures.counts.poll_count ∙ c.loop.invariant.poll_count;
  same_state = (c.in-Busy.ensures.enqueues.busy refl).state ∙ c.loop.invariant.same_state;
}

pub returns-in_default-clause-belongs : goal.returns-in_default-clause-belongs
returns-in_default-clause-belongs g c = c.in-Busy.ensures.belongs

pub returns-in_default-clause-acquires : goal.returns-in_default-clause-acquires
returns-in_default-clause-acquires g c = busy_within _ _ _ _ _ c.loop.invariant.extends c.loop.invariant.count c.loop.invariant.same_state c.in-Busy.ensures.enqueues

pub returns-in_default-clause-soon : goal.returns-in_default-clause-soon
returns-in_default-clause-soon g c = λ granted. absurd (late_ungranted granted)

pub returns-in_default-clause-looked : goal.returns-in_default-clause-looked
returns-in_default-clause-looked g c = λ _. inl (busy_still _ _ _ c.loop.invariant.count c.loop.invariant.same_state (c.in-Busy.ensures.enqueues.busy refl))

pub returns-in-Granted-clause-looked : goal.returns-in-Granted-clause-looked
returns-in-Granted-clause-looked g c = λ late. absurd (granted_in_time late)

pub returns-in-Closed-clause-looked : goal.returns-in-Closed-clause-looked
returns-in-Closed-clause-looked g c = λ late. absurd (closed_in_time late)

pub returns-in-Queued-clause-looked : goal.returns-in-Queued-clause-looked
returns-in-Queued-clause-looked g c = λ _. inr (looked_meanwhile _ _ _ _ c.loop.invariant.poll_count c.in-Queued.ensures.counts.poll_count c.wait_timeout.ensures.looked)
