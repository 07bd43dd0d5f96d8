-- Proof that no payment into an account fails for lack of room if all payments into accounts and all moves between
-- accounts together fit into one account.
use Rattle.std.proofs.Common.{◌≡◌, ◌⊎◌, inl, inr, ℕ, ◌+◌, ◌<◌, ◌≤◌, ◌^◌, true, List, [], ◌∷◌, ◌++◌, length, map, take, All, Some, slice_get, refl, ap, sym, ◌∙◌, subst, arith, length-append}
use Rattle.std.proofs.lemmas.Bool.{cases_lt}
use Rattle.std.proofs.lemmas.List.{take-append-le}
use Rattle.std.proofs.lemmas.List.Sums.{sum_by_push, sum_by-le-sum_by}
use Rattle.std.proofs.lemmas.Option.{slice_get_within}
use Rattle.line_lanes.specs.Lane.{lanes_total}
use Rattle.qolb_model.specs.declared.config.LineConfig.{LineConfig}
use Rattle.qolb_model.specs.declared.view.View.{View}
use Rattle.qolb_model.specs.Ends.{bytes_after}
use Rattle.qolb_model.specs.Views.{Extends}
use Rattle.qolb_model.proofs.Lists.{same_some, element_at}
use Rattle.line_accounts.specs.declared.law.TheConstants.{MAX_BALANCE}
use Rattle.line_accounts.specs.declared.answer.Reply.{Reply}
use Rattle.line_accounts.specs.declared.answer.Reply.TheVariants.{Done, Short, Over, Late, Closed, Busy, NoAccount, SameAccount}
use Rattle.line_accounts.specs.Accounts.{AreBalances, StayBalances, line_of, lane_in}
use Rattle.line_accounts.specs.Paid.{paid_by}
use Rattle.line_accounts.specs.Desks.{DeskOf}
use Rattle.line_accounts.specs.Moves.{PaysIn}
use Rattle.line_accounts.specs.Settled.{all_paid_in, AreSettled}
use Rattle.line_accounts.proofs.Accounted.{slice_get-set_same}
use Rattle.line_accounts.proofs.Settlements.{sum-of_map}
use Rattle.line_accounts.proofs.Totals.{lane_within}
use Rattle.line_accounts.proofs.Turns.{found_within}
use Rattle.qolb_script.specs.declared.job.Job.{Job}
use Rattle.qolb_script.specs.declared.job.Job.TheVariants.{Put, Take, PayIn, PayOut, Move}
use Rattle.qolb_script.specs.Jobs.{worker_of}
use Rattle.qolb_work.specs.Jobs.{jobs_of}
use Rattle.qolb_work.specs.JustOpened.{work_config}
use Rattle.qolb_work.specs.Workers.{AreDone}
use Rattle.qolb_work.specs.BankRuns.{is_outcome, payment_in, amount_in, payments_in, amounts_in, paid_in_of}
use Rattle.qolb_work.specs.BankWork.{Asks, Tries, Makes, nothing, another, HasBanked}
use Rattle.qolb_work.proofs.Called.{most_within}
use Rattle.qolb_work.proofs.Banking.{IsHere, effect, in_vain, all_went}
use Rattle.qolb_work.proofs.OneBanker.{none_true, outcome_known}
use Rattle.qolb_work.proofs.Shares.{share_within, sum_of_all, sum_with_less}
use Rattle.qolb_work.proofs.Unclosed.{places_known, view_at, config_at}

-- The amount that a job pays in is part of the amount that it adds to an account.
payment_within : (job : Job) → payment_in job ≤ amount_in job
payment_within (PayIn worker account amount) = omega arith
payment_within (PayOut worker account amount) = omega arith
payment_within (Move worker source target amount) = omega arith
payment_within (Put worker task) = omega arith
payment_within (Take worker) = omega arith

payments_within : (jobs : List Job) → payments_in jobs ≤ amounts_in jobs
payments_within jobs = sum_by-le-sum_by payment_in amount_in jobs payment_within

-- In one of the port's turns, its line had no room for the amount.
record HasFoundFull (amount : ℕ) (v : View) : Type 0 where
  pub place : ℕ
  pub known : place ≤ length v.ends
  pub full : MAX_BALANCE < lanes_total (bytes_after v.config.opening.bytes (take place v.ends)) + amount

-- A port that knows of such a turn still knows of it later.
found_later : (amount : ℕ) (v w : View) → Extends v w → HasFoundFull amount v → HasFoundFull amount w
found_later amount v w more f =
    let (ends, is) = more.ends in
    let known = f.known in
    let cut : take f.place w.ends ≡ take f.place v.ends = ap (take f.place) (sym is) ∙ take-append-le f.place v.ends ends known in
    let same : bytes_after v.config.opening.bytes (take f.place v.ends) ≡ bytes_after w.config.opening.bytes (take f.place w.ends) =
    ap (bytes_after v.config.opening.bytes) (sym cut) ∙ ap (λ (t : LineConfig). bytes_after t.opening.bytes (take f.place w.ends)) (sym more.config) in
    record {
      place = f.place;
      known = let long = ap length is in let both = length-append v.ends ends in omega (arith, known, long, both);
      full = subst (λ b. MAX_BALANCE < lanes_total b + amount) same f.full;
    }

-- If a payment in was `Over` although the counter had room, then the line had no room for the amount.
found_over : (v w : View) (lane amount sum sum_then : ℕ) → lane < 8 → sum + amount < 2 ^ 128 → PaysIn v w lane amount sum sum_then Over → HasFoundFull amount w
found_over v w lane amount sum sum_then within fits (found, turn, why, e) =
    let s = turn.served in
    let part = lane_within found lane within in
    record {
      place = s.place;
      known = let lt = slice_get_within w.ends s.place _ s.served in omega (arith, lt);
      full = subst (λ b. MAX_BALANCE < lanes_total b + amount) (sym s.before) (elim why [
        | inl none ↦ elim (cases_lt MAX_BALANCE (lanes_total found + amount)) [
          | inl lt ↦ lt
          | inr ge ↦ absurd (none (omega (arith, ge, part)))
        ]
        | inr much ↦ absurd (omega (arith, much, fits))
      ]);
    }

module _ {Port : Type 0} (view : Port → View) (lines : ℕ) where
  -- Either each payment in was done, and no port paid in more than the sum of what these jobs add to accounts,
  record IsInFull (desk : DeskOf Port) (jobs : List Job) : Type 0 where
    pub paid_in : desk.paid_in ≡ payments_in jobs
    pub low : (i : ℕ) (port : Port) → slice_get desk.ports i ≡ Some port → paid_by (view port) ≤ amounts_in jobs

  -- or one payment in was `Over`: its port found no room for the amount, and no port paid in more than the other jobs
  -- add to accounts.
  record IsOver (desk : DeskOf Port) (jobs : List Job) : Type 0 where
    pub place : ℕ
    pub within : place < lines
    pub amount : ℕ
    pub found : (port : Port) → slice_get desk.ports place ≡ Some port → HasFoundFull amount (view port)
    pub low : (i : ℕ) (port : Port) → slice_get desk.ports i ≡ Some port → paid_by (view port) + amount ≤ amounts_in jobs

  module _ (before late to : DeskOf Port) (jobs : List Job) (job : Job) (reply : Reply) (tries : Tries view lines job before late) (asks : Asks view lines job late to reply) where
    more : amounts_in (jobs ++ job ∷ []) ≡ amounts_in jobs + amount_in job
    more = sum_by_push amount_in jobs job

    -- If an earlier payment was `Over`, the same still holds after one more job.
    over_then : IsOver before jobs → IsOver to (jobs ++ job ∷ [])
    over_then o = record {
      place = o.place;
      within = o.within;
      amount = o.amount;
      found = λ port at.
          let (was, at_was, goes) = all_went view lines job before late to reply tries asks o.place port at in
          found_later o.amount (view was) (view port) goes.extends (o.found was at_was);
      low = λ i port at.
          let (was, at_was, goes) = all_went view lines job before late to reply tries asks i port at in
          let paid = goes.paid in
          let rest = o.low i was at_was in
          let most = most_within job reply in
          let sum = more in
          omega (arith, paid, rest, most, sum);
    }

    full_then : paid_in_of job reply ≡ payment_in job → IsInFull before jobs → IsInFull to (jobs ++ job ∷ [])
    full_then all f = record {
      paid_in =
          let here = (effect view lines job late to reply asks).paid_in in
          let vain = (in_vain view lines job before late tries).paid_in in
          let paid = f.paid_in in
          let sum = sum_by_push payment_in jobs job in
          omega (arith, here, vain, paid, sum, all);
      low = λ i port at.
          let (was, at_was, goes) = all_went view lines job before late to reply tries asks i port at in
          let paid = goes.paid in
          let rest = f.low i was at_was in
          let most = most_within job reply in
          let sum = more in
          omega (arith, paid, rest, most, sum);
    }

  -- the case of a payment in that is `Over`
  in_over : (before late to : DeskOf Port) (jobs : List Job) (worker account amount : ℕ) → Tries view lines (PayIn worker account amount) before late → Asks view lines (PayIn worker account amount) late to Over
      → amounts_in (jobs ++ PayIn worker account amount ∷ []) ≤ MAX_BALANCE → IsInFull before jobs → IsOver to (jobs ++ PayIn worker account amount ∷ [])
  in_over before late to jobs worker account amount tries asks fits f =
      let sum = sum_by_push amount_in jobs (PayIn worker account amount) in
      let p = asks.pays (λ e. let no : Over ≡ NoAccount = e in cc no) in
      let known = asks.known (λ e. let no : Over ≡ NoAccount = e in cc no) in
      let vain = (in_vain view lines (PayIn worker account amount) before late tries).paid_in in
      let paid = f.paid_in in
      let part = payments_within jobs in
      let small : late.paid_in + amount < 2 ^ 128 = omega (arith, vain, paid, part, sum, fits) in
      record {
        place = line_of account;
        within = omega (arith, known);
        amount = amount;
        found = λ port at.
            let there = slice_get-set_same late.ports (line_of account) p.port_then (slice_get_within late.ports (line_of account) p.port p.was) in
            let same : p.port_then ≡ port = same_some (sym there ∙ (ap (λ l. slice_get l (line_of account)) (sym p.is) ∙ at)) in
            subst (λ (q : Port). HasFoundFull amount (view q)) same (found_over (view p.port) (view p.port_then) (lane_in account) amount late.paid_in to.paid_in (omega arith) small p.does);
        low = λ i port at.
            let (was, at_was, goes) = all_went view lines (PayIn worker account amount) before late to Over tries asks i port at in
            let paid = goes.paid in
            let rest = f.low i was at_was in
            omega (arith, paid, rest, sum);
      }

  by_reply : (before late to : DeskOf Port) (jobs : List Job) (worker account amount : ℕ) (reply : Reply) → Tries view lines (PayIn worker account amount) before late → Asks view lines (PayIn worker account amount) late to reply → is_outcome reply ≡ true
      → amounts_in (jobs ++ PayIn worker account amount ∷ []) ≤ MAX_BALANCE → IsInFull before jobs → IsInFull to (jobs ++ PayIn worker account amount ∷ []) ⊎ IsOver to (jobs ++ PayIn worker account amount ∷ [])
  by_reply before late to jobs worker account amount Done tries asks is fits f = inl (full_then before late to jobs (PayIn worker account amount) Done tries asks refl f)
  by_reply before late to jobs worker account amount Over tries asks is fits f = inr (in_over before late to jobs worker account amount tries asks fits f)
  by_reply before late to jobs worker account amount Short tries asks is fits f = absurd (asks.pays (outcome_known Short is)).does
  by_reply before late to jobs worker account amount SameAccount tries asks is fits f = absurd (asks.pays (outcome_known SameAccount is)).does
  by_reply before late to jobs worker account amount Late tries asks is fits f = none_true is
  by_reply before late to jobs worker account amount Closed tries asks is fits f = none_true is
  by_reply before late to jobs worker account amount Busy tries asks is fits f = none_true is
  by_reply before late to jobs worker account amount NoAccount tries asks is fits f = none_true is

  by_job : (before late to : DeskOf Port) (jobs : List Job) (job : Job) (reply : Reply) → Tries view lines job before late → Asks view lines job late to reply → is_outcome reply ≡ true
      → amounts_in (jobs ++ job ∷ []) ≤ MAX_BALANCE → IsInFull before jobs → IsInFull to (jobs ++ job ∷ []) ⊎ IsOver to (jobs ++ job ∷ [])
  by_job before late to jobs (PayIn worker account amount) reply tries asks is fits f = by_reply before late to jobs worker account amount reply tries asks is fits f
  by_job before late to jobs (PayOut worker account amount) reply tries asks is fits f = inl (full_then before late to jobs (PayOut worker account amount) reply tries asks refl f)
  by_job before late to jobs (Move worker source target amount) reply tries asks is fits f = inl (full_then before late to jobs (Move worker source target amount) reply tries asks refl f)
  by_job before late to jobs (Put worker task) reply tries asks is fits f = absurd asks
  by_job before late to jobs (Take worker) reply tries asks is fits f = absurd asks

  -- One of the two cases holds after all jobs of a worker.
  in_full_or_over : (from to : DeskOf Port) (jobs : List Job) (replies : List Reply) → Makes view lines from jobs replies to → IsInFull from [] → amounts_in jobs ≤ MAX_BALANCE → IsInFull to jobs ⊎ IsOver to jobs
  in_full_or_over from to [] [] nothing first fits = inl first
  in_full_or_over from to jobs replies (another {jobs = before} {replies = others} {before = desk} {late = late} job reply makes tries asks is) first fits =
      let sum = sum_by_push amount_in before job in
      elim (in_full_or_over from desk before others makes first (omega (arith, sum, fits))) [
        | inl full ↦ by_job desk late to before job reply tries asks is fits full
        | inr over ↦ inr (over_then desk late to before job reply tries asks over)
      ]

-- the desks of all workers together
module _ {Line Port : Type 0} (belongs : Line → Port → Type 0) (view : Port → View) (label_of : Line → ℕ) (config_of : Line → LineConfig) (lines : List Line) (jobs : List Job) (desks : List (DeskOf Port)) (workers : ℕ)
    (here : (k : ℕ) (desk : DeskOf Port) → slice_get desks k ≡ Some desk → IsHere belongs view lines (k + 1) desk) (config : All (λ line. config_of line ≡ work_config workers) lines) (settled : AreSettled view label_of config_of lines desks)
    (done : AreDone (HasBanked belongs view config_of) lines jobs desks) (its : All (λ job. (1 ≤ worker_of job) × (worker_of job ≤ length desks)) jobs) (fits : amounts_in jobs ≤ MAX_BALANCE) where
  own : (k : ℕ) (desk : DeskOf Port) → slice_get desks k ≡ Some desk → IsInFull view (length lines) desk (jobs_of (k + 1) jobs) ⊎ IsOver view (length lines) desk (jobs_of (k + 1) jobs)
  own k desk at =
      let h = done k desk at in
      let part = share_within amount_in (k + 1) jobs in
      in_full_or_over view (length lines) h.fresh desk (jobs_of (k + 1) jobs) h.replies h.made (record {
        paid_in = h.unpaid.paid_in;
        low = λ i port at_port.
            let (line, at_line, (label, is)) = h.opened i port at_port in
            let none : paid_by (view port) ≡ 0 = ap paid_by is in
            omega (arith, none);
      }) (omega (arith, part, fits))

  low : (k : ℕ) (desk : DeskOf Port) → slice_get desks k ≡ Some desk → (i : ℕ) (port : Port) → slice_get desk.ports i ≡ Some port → paid_by (view port) ≤ amounts_in (jobs_of (k + 1) jobs)
  low k desk at i port at_port = elim (own k desk at) [
    | inl full ↦ full.low i port at_port
    | inr over ↦ let rest = over.low i port at_port in omega (arith, rest)
  ]

  -- No payment was `Over`, because all amounts that were ever paid into a line fit into it.
  none_over : (k : ℕ) (desk : DeskOf Port) → slice_get desks k ≡ Some desk → IsOver view (length lines) desk (jobs_of (k + 1) jobs) → ⊥
  none_over k desk at over =
      let count = (here k desk at).over.over.count in
      let within = over.within in
      let (port, at_port) = element_at desk.ports over.place (omega (arith, within, count)) in
      let (line, at_line) = element_at lines over.place within in
      let s = settled over.place line at_line in
      let found = over.found port at_port in
      let full = found.full in
      let among = view_at belongs view label_of config_of lines desks here over.place line s k desk port at at_port in
      let known = found_within AreBalances StayBalances (label_of line) (config_of line) (map view s.ports) s.bytes s.finished (λ j v at_v. places_known belongs view label_of config_of lines desks here over.place line s v (j, at_v))
      (view port) (k, among) found.place found.known in
      let opened : lanes_total (config_of line).opening.bytes ≡ 0 = ap (λ (t : LineConfig). lanes_total t.opening.bytes) (config_at belongs view label_of config_of lines desks here workers config settled over.place line at_line) in
      let mapped = sum-of_map paid_by view s.ports in
      let many = s.are.len in
      let sum = sum_with_less amount_in (λ port. paid_by (view port)) s.ports jobs
      (subst (λ n. All (λ job. (1 ≤ worker_of job) × (worker_of job ≤ n)) jobs) (sym many) its) k over.amount port (s.are.each k desk at ∙ at_port) (over.low over.place port at_port)
      (λ j p at_p.
      let lt = slice_get_within s.ports j p at_p in
      let (d, at_d) = element_at desks j (omega (arith, lt, many)) in
      low j d at_d over.place p (sym (s.are.each j d at_d) ∙ at_p)) in
      omega (arith, full, known, opened, mapped, sum, fits)

  pub paid_in_full : all_paid_in desks ≡ payments_in jobs
  paid_in_full = sum_of_all payment_in (λ (desk : DeskOf Port). desk.paid_in) desks jobs its (λ k desk at. elim (own k desk at) [
    | inl full ↦ full.paid_in
    | inr over ↦ absurd (none_over k desk at over)
  ])
