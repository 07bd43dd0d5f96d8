use Rattle.std.proofs.Common.{◌≡◌, ℕ, ◌+◌, ◌≤◌, List, length, All, ap, sym, subst, ◌∙◌, arith}
use Rattle.line_accounts.specs.Settled.{all_paid_in, all_paid_out, MayNotSettle}
use Rattle.qolb_script.specs.declared.schedule.TheConstants.{MAX_COMMANDS}
use Rattle.line_accounts.specs.Desks.{DeskOf}
use Rattle.qolb_work.specs.BankWork.{ArePaid, HasBanked}
use Rattle.qolb_work.specs.BankRuns.{ComesTo}
use Rattle.std.proofs.lemmas.List.Elements.{All-weaker}
use Rattle.qolb_script.specs.Jobs.{worker_of, IsOfKind}
use Rattle.qolb_work.specs.Jobs.{jobs_of}
use Rattle.qolb_work.specs.JustOpened.{work_config}
use Rattle.qolb_work.proofs.OneBank.{alone_report}
use Rattle.qolb_work.proofs.Unclosed.{all_done}
use Rattle.qolb_work.proofs.Fitting.{paid_in_full}
use Rattle.line_accounts.specs.declared.answer.SettleError.{SettleError}
use Rattle.qolb_work.proofs.Banking.{all_here, all_over, all_small, opened_empty, none_missing, comes_to}
use Rattle.qolb_work.proofs.bank.finish.Goals as goal

plus_one : (k : ℕ) → k + 1 ≡ 1 + k
plus_one k = omega arith

pub sum_up-paid_in-requires-clause-small : goal.sum_up-paid_in-requires-clause-small
sum_up-paid_in-requires-clause-small g c =
    let here = all_here g.L.LineSync.belongs g.L.LineSync.view g.L.LineSync.config_of c.args.bank.lines.items c.args.work.now.jobs c.args.desks.items c.requires.ended c.requires.limits.most in
    subst (λ (ds : List (DeskOf g.row.L-Port.Denot)). All (λ desk. ArePaid MAX_COMMANDS desk) ds) (sym c.as_slice.ensures.value)
    (all_small g.L.LineSync.belongs g.L.LineSync.view g.L.LineSync.config_of c.args.bank.lines.items c.args.work.now.jobs c.args.desks.items here)

pub settle-requires : goal.settle-requires
settle-requires g c =
    let here = all_here g.L.LineSync.belongs g.L.LineSync.view g.L.LineSync.config_of c.args.bank.lines.items c.args.work.now.jobs c.args.desks.items c.requires.ended c.requires.limits.most in
    record { over = all_over g.L.LineSync.belongs g.L.LineSync.view g.L.LineSync.config_of c.args.bank.lines.items c.args.work.now.jobs c.args.desks.items here }

pub unreachable-requires : goal.unreachable-requires
unreachable-requires g c =
    let many : length c.args.desks.items ≡ c.args.work.now.workers = sym c.args.desks.ok.0 ∙ c.requires.len in
    let why = subst (λ (why : SettleError). MayNotSettle g.L.LineSync.view g.L.LineSync.config_of c.args.bank.lines.items c.args.desks.items why) c.in-Missing.is c.in-Err.ensures.why in
    let here = all_here g.L.LineSync.belongs g.L.LineSync.view g.L.LineSync.config_of c.args.bank.lines.items c.args.work.now.jobs c.args.desks.items c.requires.ended c.requires.limits.most in
    none_missing g.L.LineSync.belongs g.L.LineSync.view g.L.LineSync.config_of c.args.bank.lines.items c.args.work.now.workers c.args.desks.items here many c.requires.config c.in-Missing.line c.in-Missing.node why

pub returns-clause-report : goal.returns-clause-report
returns-clause-report g c =
    let here = all_here g.L.LineSync.belongs g.L.LineSync.view g.L.LineSync.config_of c.args.bank.lines.items c.args.work.now.jobs c.args.desks.items c.requires.ended c.requires.limits.most in
    let done = all_done g.L.LineSync.belongs g.L.LineSync.view g.L.LineSync.label_of g.L.LineSync.config_of c.args.bank.lines.items c.args.desks.items here c.args.work.now.workers c.requires.config c.in-Ok.ensures.settled c.args.work.now.jobs c.requires.ended in
    let many : length c.args.desks.items ≡ c.args.work.now.workers = sym c.args.desks.ok.0 ∙ c.requires.len in
    let paid_in = c.sum_up-paid_in.ensures.0 ∙ ap (λ (ds : List (DeskOf g.row.L-Port.Denot)). all_paid_in ds) c.as_slice.ensures.value in
    let paid_out = c.sum_up-paid_in.ensures.1 ∙ ap (λ (ds : List (DeskOf g.row.L-Port.Denot)). all_paid_out ds) c.as_slice.ensures.value in
    let opened = opened_empty g.L.LineSync.config_of c.args.work.now.workers c.args.bank.lines.items c.requires.config in
    let settled = c.in-Ok.ensures.total in
    let kept : c.sum_up-paid_in.result.0 ≡ c.sum_up-paid_in.result.1 + c.in-Ok.total = omega (arith, paid_in, paid_out, opened, settled) in
    let comes = comes_to g.L.LineSync.belongs g.L.LineSync.view g.L.LineSync.config_of c.args.bank.lines.items c.args.work.now.jobs 1 c.args.desks.items
    (λ k desk at. subst (λ n. HasBanked g.L.LineSync.belongs g.L.LineSync.view g.L.LineSync.config_of c.args.bank.lines.items n desk (jobs_of n c.args.work.now.jobs)) (plus_one k) (done k desk at)) in
    record {
      of_bank = c.requires.kind;
      comes_to = subst (λ n. ComesTo 1 n c.args.work.now.jobs c.sum_up-paid_in.result.0 c.sum_up-paid_in.result.1) many
          (subst (λ n. ComesTo 1 (length c.args.desks.items) c.args.work.now.jobs n c.sum_up-paid_in.result.1) (sym paid_in) (subst (λ n. ComesTo 1 (length c.args.desks.items) c.args.work.now.jobs (all_paid_in c.args.desks.items) n) (sym paid_out) comes));
      kept = kept;
      in_full = λ fits.
          let its = All-weaker (λ job. (1 ≤ worker_of job) × (worker_of job ≤ c.args.work.now.workers) × IsOfKind c.args.work.now.kind c.args.work.now.lines job) (λ job. (1 ≤ worker_of job) × (worker_of job ≤ length c.args.desks.items))
          (λ job its. (its.0, omega (arith, its.1, many))) c.args.work.now.jobs c.requires.limits.its in
          paid_in ∙ paid_in_full g.L.LineSync.belongs g.L.LineSync.view g.L.LineSync.label_of g.L.LineSync.config_of c.args.bank.lines.items c.args.work.now.jobs c.args.desks.items c.args.work.now.workers here c.requires.config c.in-Ok.ensures.settled done its fits;
      alone = λ one.
          let config = subst (λ n. All (λ (line : g.row.L.Denot). g.L.LineSync.config_of line ≡ work_config n) c.args.bank.lines.items) one c.requires.config in
          let own = All-weaker (λ job. (1 ≤ worker_of job) × (worker_of job ≤ c.args.work.now.workers) × IsOfKind c.args.work.now.kind c.args.work.now.lines job) (λ job. worker_of job ≡ 1)
          (λ job its. omega (arith, its.0, its.1, one)) c.args.work.now.jobs c.requires.limits.its in
          alone_report g.L.LineSync.belongs g.L.LineSync.view g.L.LineSync.config_of c.args.bank.lines.items c.args.work.now.jobs config c.args.desks.items done (many ∙ one) own c.requires.limits.most
          c.sum_up-paid_in.result.0 c.sum_up-paid_in.result.1 c.in-Ok.total paid_in paid_out kept;
    }

pub returns-clause-banked : goal.returns-clause-banked
returns-clause-banked g c =
    let here = all_here g.L.LineSync.belongs g.L.LineSync.view g.L.LineSync.config_of c.args.bank.lines.items c.args.work.now.jobs c.args.desks.items c.requires.ended c.requires.limits.most in
    let done = all_done g.L.LineSync.belongs g.L.LineSync.view g.L.LineSync.label_of g.L.LineSync.config_of c.args.bank.lines.items c.args.desks.items here c.args.work.now.workers c.requires.config c.in-Ok.ensures.settled c.args.work.now.jobs c.requires.ended in
    record {
      lines = c.args.bank.lines.items;
      desks = c.args.desks.items;
      count = sym c.args.bank.lines.ok.0 ∙ c.requires.lines;
      opened = c.requires.config;
      each = sym c.args.desks.ok.0 ∙ c.requires.len;
      done = done;
      in_is = c.sum_up-paid_in.ensures.0 ∙ ap (λ (ds : List (DeskOf g.row.L-Port.Denot)). all_paid_in ds) c.as_slice.ensures.value;
      out_is = c.sum_up-paid_in.ensures.1 ∙ ap (λ (ds : List (DeskOf g.row.L-Port.Denot)). all_paid_out ds) c.as_slice.ensures.value;
    }
