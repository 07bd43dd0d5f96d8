use Rattle.std.proofs.Common.{◌≡◌, true, inl, inr, List, length, subst, ap}
use Rattle.line_accounts.specs.declared.answer.Reply.{Reply}
use Rattle.line_accounts.specs.Desks.{IsDeskOver}
use Rattle.qolb_work.specs.BankRuns.{is_outcome}
use Rattle.qolb_work.specs.BankWork.{Asks, is_again, not_yet, again}
use Rattle.qolb_work.proofs.Banking.{banked_more, banked_told, small_still}
use Rattle.qolb_work.proofs.bank.BankJobTarget.run_job.Goals as goal

pub loop-init : goal.loop-init
loop-init g c =
    let (worker, done, banked, few) = c.requires.done in
    record { over = banked.over; tries = not_yet }

pub loop-preserved : goal.loop-preserved
loop-preserved g c =
    let asks = subst (λ (ls : List g.row.L.Denot). Asks g.L.LineSync.view (length ls) c.args.job.now c.loop.desk c.try_once.new.desk c.try_once.result) c.deref.ensures.value c.try_once.ensures.asks in
    let over = subst (λ (ls : List g.row.L.Denot). IsDeskOver g.L.LineSync.belongs g.L.LineSync.view ls c.try_once.new.desk) c.deref.ensures.value c.try_once.ensures.over in
    let is : is_again c.try_once.result ≡ true = elim c.in-Late.is [ inl e ↦ ap is_again e | inr e ↦ ap is_again e ] in
    record { over = over; tries = again c.try_once.result c.loop.invariant.tries asks is }

pub returns-in-Done-clause-done : goal.returns-in-Done-clause-done
returns-in-Done-clause-done g c = λ _ worker done banked.
    let asks = subst (λ (ls : List g.row.L.Denot). Asks g.L.LineSync.view (length ls) c.args.job.now c.loop.desk c.try_once.new.desk c.try_once.result) c.deref.ensures.value c.try_once.ensures.asks in
    let over = subst (λ (ls : List g.row.L.Denot). IsDeskOver g.L.LineSync.belongs g.L.LineSync.view ls c.try_once.new.desk) c.deref.ensures.value c.try_once.ensures.over in
    let is : is_outcome c.try_once.result ≡ true = elim c.in-Done.is [
      | inl e ↦ ap is_outcome e
      | inr (inl e) ↦ ap is_outcome e
      | inr (inr (inl e)) ↦ ap is_outcome e
      | inr (inr (inr e)) ↦ ap is_outcome e
    ] in
    banked_more g.L.LineSync.belongs g.L.LineSync.view g.L.LineSync.config_of c.args.self.now.lines.items worker c.args.desk.now c.loop.desk c.try_once.new.desk done banked c.args.job.now c.try_once.result c.loop.invariant.tries asks is over c.try_once.ensures.pays c.try_once.ensures.amount

pub returns-in-Closed-clause-told : goal.returns-in-Closed-clause-told
returns-in-Closed-clause-told g c = λ _ worker done banked.
    let (own, before, had_banked, few) = c.requires.done in
    let asks = subst (λ (reply : Reply). Asks g.L.LineSync.view (length c.args.self.now.lines.items) c.args.job.now c.loop.desk c.try_once.new.desk reply) c.in-Closed.is
    (subst (λ (ls : List g.row.L.Denot). Asks g.L.LineSync.view (length ls) c.args.job.now c.loop.desk c.try_once.new.desk c.try_once.result) c.deref.ensures.value c.try_once.ensures.asks) in
    let over = subst (λ (ls : List g.row.L.Denot). IsDeskOver g.L.LineSync.belongs g.L.LineSync.view ls c.try_once.new.desk) c.deref.ensures.value c.try_once.ensures.over in
    banked_told g.L.LineSync.belongs g.L.LineSync.view g.L.LineSync.config_of c.args.self.now.lines.items worker c.args.desk.now c.loop.desk c.try_once.new.desk done banked c.args.job.now c.loop.invariant.tries asks over
    (small_still g.L.LineSync.belongs g.L.LineSync.view g.L.LineSync.config_of c.args.self.now.lines.items own c.args.desk.now before had_banked few)
