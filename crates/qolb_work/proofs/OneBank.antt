-- Proof that a bank with a single worker ends with the same report as a bank whose only owner does the jobs one after
-- another.
use Rattle.std.proofs.Common.{◌≡◌, ℕ, zero, suc, ◌+◌, ◌-◌, ◌*◌, ◌^◌, ◌<◌, ◌≤◌, List, [], ◌∷◌, ◌++◌, length, All, Some, slice_get, lit≤, refl, ap, sym, ◌∙◌, subst, arith, length-append}
use Rattle.std.proofs.lemmas.List.Elements.{All-head, All-tail}
use Rattle.std.proofs.lemmas.List.Sums.{sum_by-cons}
use Rattle.std.proofs.lemmas.Option.{slice_get_within, get_or_from_slice_get}
use Rattle.line_lanes.specs.Line.{zeros}
use Rattle.line_lanes.specs.Lane.{lane_of}
use Rattle.qolb_model.specs.declared.config.LineConfig.{LineConfig}
use Rattle.qolb_model.specs.declared.view.View.{View}
use Rattle.qolb_model.specs.Opening.{new_view}
use Rattle.qolb_model.specs.Sound.{IsSound}
use Rattle.qolb_model.proofs.Lists.{slice_get-append_left, slice_get-push}
use Rattle.qolb_model.proofs.Agreeing.{new_is_sound}
use Rattle.line_accounts.specs.Accounts.{AreBalances, StayBalances}
use Rattle.line_accounts.specs.Desks.{DeskOf}
use Rattle.line_accounts.specs.Settled.{all_paid_in, all_paid_out}
use Rattle.line_accounts.specs.declared.answer.Reply.{Reply}
use Rattle.line_accounts.specs.declared.answer.Reply.TheVariants.{Done}
use Rattle.qolb_script.specs.declared.job.Job.{Job}
use Rattle.qolb_script.specs.declared.job.Job.TheVariants.{PayIn, PayOut}
use Rattle.qolb_script.specs.Jobs.{worker_of}
use Rattle.qolb_script.specs.declared.report.Report.TheVariants.{Bank}
use Rattle.qolb_script.specs.declared.schedule.TheConstants.{MAX_COMMANDS}
use Rattle.qolb_work.specs.Jobs.{jobs_of}
use Rattle.qolb_work.specs.JustOpened.{work_config}
use Rattle.qolb_work.specs.Workers.{AreDone}
use Rattle.qolb_work.specs.BankRuns.{paid_in_of, paid_out_of, BankRun, after_reply, after_job, after_jobs, empty_bank, report_of}
use Rattle.qolb_work.specs.BankWork.{IsAmount, Makes, nothing, another, HasBanked}
use Rattle.qolb_work.proofs.Alone.{IsAlone}
use Rattle.qolb_work.proofs.Banking.{effect, in_vain, no_money}
use Rattle.qolb_work.proofs.Merging.{jobs_own}
use Rattle.qolb_work.proofs.OneBanker.{Then, AllShow, made, tried}

after_push : (run : BankRun) (jobs : List Job) (job : Job) → after_jobs run (jobs ++ job ∷ []) ≡ after_job (after_jobs run jobs) job
after_push run [] job = refl
after_push run (j ∷ jobs) job = after_push (after_job run j) jobs job

-- No payment exceeds the largest amount.
few_in : (job : Job) (reply : Reply) → IsAmount job → paid_in_of job reply ≤ 2 ^ 64
few_in (PayIn worker account amount) Done small = omega (arith, small)
few_in job reply small = omega arith

few_out : (job : Job) (reply : Reply) → IsAmount job → paid_out_of job reply ≤ 2 ^ 64
few_out (PayOut worker account amount) Done small = omega (arith, small)
few_out job reply small = omega arith

-- After `jobs` jobs, the desk shows the same balances and sums as a bank with one owner.
record StandsAs {Port : Type 0} (view : Port → View) (lines : ℕ) (desk : DeskOf Port) (run : BankRun) (jobs : ℕ) : Type 0 where
  pub represents : AllShow view lines run.balances desk.ports
  pub paid_in : desk.paid_in ≡ run.paid_in
  pub paid_out : desk.paid_out ≡ run.paid_out
  pub few_in : desk.paid_in ≤ jobs * 2 ^ 64
  pub few_out : desk.paid_out ≤ jobs * 2 ^ 64

abbrev AreAmounts : List Job → Type 0
AreAmounts jobs = (k : ℕ) (job : Job) → slice_get jobs k ≡ Some job → IsAmount job

stands : {Port : Type 0} (view : Port → View) (lines : ℕ) (from to : DeskOf Port) (jobs : List Job) (replies : List Reply) → Makes view lines from jobs replies to → StandsAs view lines from empty_bank 0 → AreAmounts jobs → length jobs ≤ MAX_COMMANDS
    → StandsAs view lines to (after_jobs empty_bank jobs) (length jobs)
stands view lines from to [] [] nothing first amounts most = first
stands view lines from to jobs replies (another {jobs = before} {replies = others} {before = desk} {late = late} job reply makes tries asks is) first amounts most =
    let count = length-append before (job ∷ []) in
    let here = stands view lines from desk before others makes first (λ k j at. amounts k j (slice_get-append_left before (job ∷ []) k (slice_get_within before k j at) ∙ at)) (omega (arith, count, most)) in
    let small = amounts (length before) job (slice_get-push before job) in
    let run = after_jobs empty_bank before in
    let vain = in_vain view lines job desk late tries in
    let a = here.few_in in
    let b = here.few_out in
    let x = vain.paid_in in
    let y = vain.paid_out in
    let m = made view lines run.balances job late to reply (tried view lines run.balances job desk late here.represents tries) small (record { paid_in = omega (arith, a, x, count, most); paid_out = omega (arith, b, y, count, most) }) asks is in
    let e = effect view lines job late to reply asks in
    let u = few_in job reply small in
    let v = few_out job reply small in
    let i = e.paid_in in
    let o = e.paid_out in
    subst (λ r. StandsAs view lines to r (length (before ++ job ∷ []))) (sym (after_push empty_bank before job))
    (subst (λ r. StandsAs view lines to (after_reply run job r) (length (before ++ job ∷ []))) m.0 (record {
      represents = m.1;
      paid_in = i ∙ ap (λ n. n + paid_in_of job reply) (x ∙ here.paid_in);
      paid_out = o ∙ ap (λ n. n + paid_out_of job reply) (y ∙ here.paid_out);
      few_in = omega (arith, a, x, u, i, count);
      few_out = omega (arith, b, y, v, o, count);
    }))

-- A line of zeros shows balances that are all 0.
nothing_there : (lane : ℕ) → lane < 8 → 0 ≡ lane_of zeros lane
nothing_there zero lt = refl
nothing_there (suc zero) lt = refl
nothing_there (suc (suc zero)) lt = refl
nothing_there (suc (suc (suc zero))) lt = refl
nothing_there (suc (suc (suc (suc zero)))) lt = refl
nothing_there (suc (suc (suc (suc (suc zero))))) lt = refl
nothing_there (suc (suc (suc (suc (suc (suc zero)))))) lt = refl
nothing_there (suc (suc (suc (suc (suc (suc (suc zero))))))) lt = refl
nothing_there (suc (suc (suc (suc (suc (suc (suc (suc k)))))))) lt = absurd (omega arith)

new_alone : (label : ℕ) → IsAlone (new_view label (work_config 1) 1)
new_alone label =
    let sound : IsSound AreBalances StayBalances label (work_config 1) (new_view label (work_config 1) 1) = new_is_sound AreBalances StayBalances label (work_config 1) 1 (record { nodes = record { some = omega arith; few = lit≤ tt }; lease = tt }) no_money (omega arith) (omega arith) in
    record {
      node = refl;
      config = refl;
      rest = record { quiet = refl; places = refl };
      past = sound.own_history;
      history = sound.history;
      kept = sound.kept;
    }

-- If there is only one worker, all jobs are its own.
all_own : (jobs : List Job) → All (λ job. worker_of job ≡ 1) jobs → jobs_of 1 jobs ≡ jobs
all_own [] own = refl
all_own (job ∷ jobs) own =
    jobs_own 1 job jobs (All-head (λ job. worker_of job ≡ 1) job jobs own)
    ∙ ap (λ l. job ∷ l) (all_own jobs (All-tail (λ job. worker_of job ≡ 1) job jobs own))

module _ {Line Port : Type 0} (belongs : Line → Port → Type 0) (view : Port → View) (config_of : Line → LineConfig) (lines : List Line) (jobs : List Job) (config : All (λ line. config_of line ≡ work_config 1) lines) where
  first_stands : (desk : DeskOf Port) (done : List Job) (h : HasBanked belongs view config_of lines 1 desk done) → StandsAs view (length lines) h.fresh empty_bank 0
  first_stands desk done h =
      let none_in = h.unpaid.paid_in in
      let none_out = h.unpaid.paid_out in
      record {
        represents = λ i port at.
            let (line, at_line, (label, is)) = h.opened i port at in
            let of_line : config_of line ≡ work_config 1 = subst (λ (l : Line). config_of l ≡ work_config 1) (get_or_from_slice_get lines i line line at_line) (config i line (slice_get_within lines i line at_line)) in
            subst (λ (v : View). Then (λ account. 0) v i) (sym (is ∙ ap (λ (t : LineConfig). new_view label t 1) of_line)) (record { alone = new_alone label; represents = nothing_there });
        paid_in = none_in;
        paid_out = none_out;
        few_in = omega (arith, none_in);
        few_out = omega (arith, none_out);
      }

  pub alone_report : (desks : List (DeskOf Port)) → AreDone (HasBanked belongs view config_of) lines jobs desks → length desks ≡ 1 → All (λ job. worker_of job ≡ 1) jobs → length jobs ≤ MAX_COMMANDS
      → (paid_in paid_out total : ℕ) → paid_in ≡ all_paid_in desks → paid_out ≡ all_paid_out desks → paid_in ≡ paid_out + total → Bank paid_in paid_out total ≡ report_of (after_jobs empty_bank jobs)
  alone_report [] done one own most paid_in paid_out total is_in is_out kept = absurd (omega (arith, one))
  alone_report (desk ∷ other ∷ desks) done one own most paid_in paid_out total is_in is_out kept = absurd (omega (arith, one))
  alone_report (desk ∷ []) done one own most paid_in paid_out total is_in is_out kept =
      let h : HasBanked belongs view config_of lines 1 desk jobs = subst (λ js. HasBanked belongs view config_of lines 1 desk js) (all_own jobs own) (done 0 desk refl) in
      let s = stands view (length lines) h.fresh desk jobs h.replies h.made (first_stands desk jobs h)
      (λ k job at. subst IsAmount (get_or_from_slice_get jobs k job job at) (h.amounts k job (slice_get_within jobs k job at))) most in
      let a = sum_by-cons (λ (d : DeskOf Port). d.paid_in) desk [] in
      let b = sum_by-cons (λ (d : DeskOf Port). d.paid_out) desk [] in
      let here_in = s.paid_in in
      let here_out = s.paid_out in
      let e_in : paid_in ≡ (after_jobs empty_bank jobs).paid_in = omega (arith, is_in, a, here_in) in
      let e_out : paid_out ≡ (after_jobs empty_bank jobs).paid_out = omega (arith, is_out, b, here_out) in
      let e_total : total ≡ (after_jobs empty_bank jobs).paid_in - (after_jobs empty_bank jobs).paid_out = omega (arith, e_in, e_out, kept) in
      λ i. Bank (e_in i) (e_out i) (e_total i)
