-- Lemmas about what one call at a bank changes, and about the sums that all workers together have paid in and out. A
-- desk is the handle through which a worker uses a bank.
use Rattle.std.proofs.Common.{◌≡◌, inl, inr, ℕ, zero, suc, ◌+◌, ◌*◌, ◌^◌, ◌<◌, ◌≤◌, ◌==◌, true, false, List, [], ◌∷◌, ◌++◌, length, take, lit≤, All, Vec, vec_len, Some, None, slice_get, get_or, map, refl, ap, sym, ◌∙◌, subst, arith, length-append}
use Rattle.std.specs.Global.{Global}
use Rattle.std.specs.List.{sum_by}
use Rattle.std.proofs.lemmas.List.{length-take-le}
use Rattle.std.proofs.lemmas.List.Sums.{sum_by-le, sum_by-cons, count_by-le-length, length-filter}
use Rattle.std.proofs.lemmas.List.Elements.{All-nil, All-push, All-append, All-take, All-head, All-tail}
use Rattle.qolb_work.proofs.Gathering.{come_from}
use Rattle.std.proofs.lemmas.Option.{slice_get-map, slice_get-get_or, slice_get_within, get_or_from_slice_get}
use Rattle.line_lanes.specs.Line.{zeros}
use Rattle.line_lanes.specs.Lane.{lanes_total}
use Rattle.qolb_model.specs.declared.config.LineConfig.{LineConfig}
use Rattle.qolb_model.specs.declared.config.TheConstants.{MAX_NODES}
use Rattle.qolb_model.specs.declared.view.View.{View}
use Rattle.qolb_model.specs.Sums.{HasNotShut}
use Rattle.qolb_model.proofs.Lists.{same_some, element_at}
use Rattle.line_accounts.specs.declared.answer.Reply.{Reply}
use Rattle.line_accounts.specs.declared.answer.Reply.TheVariants.{Done, Short, Over, Late, Closed, Busy, NoAccount, SameAccount}
use Rattle.line_accounts.specs.Accounts.{AreBalances, lane_in}
use Rattle.line_accounts.specs.Desks.{DeskOf, IsDeskOver}
use Rattle.line_accounts.specs.NewDesks.{IsNewPort, IsUnpaid, AreDealt, IsFirstShort, MayHaveNoDesks}
use Rattle.line_accounts.specs.declared.answer.OpenDesksError.{OpenDesksError}
use Rattle.line_accounts.specs.declared.answer.OpenDesksError.TheVariants.{Few}
use Rattle.line_accounts.specs.Moves.{PaysIn, PaysOut}
use Rattle.line_accounts.specs.Settled.{all_paid_in, all_paid_out, all_opened, LacksPort, IsFirstMissing}
use Rattle.qolb_script.specs.declared.job.Job.{Job}
use Rattle.qolb_script.specs.declared.job.Job.TheVariants.{Put, Take, PayIn, PayOut, Move}
use Rattle.qolb_script.specs.Jobs.{worker_of}
use Rattle.qolb_script.specs.declared.schedule.TheConstants.{MAX_COMMANDS}
use Rattle.qolb_work.specs.Jobs.{jobs_of}
use Rattle.qolb_work.specs.JustOpened.{IsJustOpened, IsNewLine, work_config}
use Rattle.qolb_work.specs.Workers.{AreDone, AreFresh, HasEnded}
use Rattle.qolb_work.specs.BankRuns.{is_outcome, paid_in_of, paid_out_of, paid_in_by, paid_out_by, ComesTo}
use Rattle.qolb_work.specs.BankWork.{ArePaid, PaysOneAmount, IsAmount, is_again, Asks, Tries, not_yet, again, Makes, nothing, another, HasBanked, WasTold}
use Rattle.qolb_work.proofs.Called.{AllGo, most_in, is_no_account, all_stay, all_then, all_go, one_told}

-- the sums of amounts over all desks
module _ {Port : Type 0} (desks : List (DeskOf Port)) (i : ℕ) (few : length desks ≤ MAX_NODES) (small : All (λ desk. ArePaid MAX_COMMANDS desk) desks) (le : i ≤ length desks) where
  sum_within : (f : DeskOf Port → ℕ) → All (λ desk. f desk ≤ MAX_COMMANDS * 2 ^ 64) desks → sum_by f (take i desks) ≤ MAX_NODES * (MAX_COMMANDS * 2 ^ 64)
  sum_within f low =
      let a = sum_by-le f (MAX_COMMANDS * 2 ^ 64) (take i desks) (All-take (λ desk. f desk ≤ MAX_COMMANDS * 2 ^ 64) i desks low) in
      let b = subst (λ n. sum_by f (take i desks) ≤ n * (MAX_COMMANDS * 2 ^ 64)) (length-take-le i desks le) a in
      omega (arith, b, le, few)

  -- The sum does not overflow when the amount of one more desk is added.
  fits : (f : DeskOf Port → ℕ) → All (λ desk. f desk ≤ MAX_COMMANDS * 2 ^ 64) desks → (total one : ℕ) → total ≡ sum_by f (take i desks) → one ≤ MAX_COMMANDS * 2 ^ 64 → total + one < 2 ^ 128
  fits f low total one is small = let most = sum_within f low in omega (arith, most, is, small)

  pub fits_in : (total one : ℕ) → total ≡ sum_by (λ desk. desk.paid_in) (take i desks) → one ≤ MAX_COMMANDS * 2 ^ 64 → total + one < 2 ^ 128
  fits_in = fits (λ desk. desk.paid_in) (λ k d below. (small k d below).paid_in)

  pub fits_out : (total one : ℕ) → total ≡ sum_by (λ desk. desk.paid_out) (take i desks) → one ≤ MAX_COMMANDS * 2 ^ 64 → total + one < 2 ^ 128
  fits_out = fits (λ desk. desk.paid_out) (λ k d below. (small k d below).paid_out)

-- the desk of a worker that has ended, whether or not the worker was told that a line is closed
pub record IsHere {Line Port : Type 0} (belongs : Line → Port → Type 0) (view : Port → View) (lines : List Line) (worker : ℕ) (desk : DeskOf Port) : Type 0 where
  pub over : IsDeskOver belongs view lines desk
  pub of_worker : (i : ℕ) (port : Port) → slice_get desk.ports i ≡ Some port → (view port).node ≡ worker
  pub unshut : (i : ℕ) (port : Port) → slice_get desk.ports i ≡ Some port → HasNotShut (view port)
  pub small : ArePaid MAX_COMMANDS desk

-- the desks of all workers
module _ {Line Port : Type 0} (belongs : Line → Port → Type 0) (view : Port → View) (config_of : Line → LineConfig) (lines : List Line) (jobs : List Job) (desks : List (DeskOf Port)) where
  pub all_here : AreDone (HasEnded (HasBanked belongs view config_of) (WasTold belongs view)) lines jobs desks → length jobs ≤ MAX_COMMANDS → (k : ℕ) (desk : DeskOf Port) → slice_get desks k ≡ Some desk → IsHere belongs view lines (k + 1) desk
  all_here ended most k desk at = elim (ended k desk at) [
    | inl done ↦
        let kept = length-filter (λ job. worker_of job == k + 1) jobs in
        let few = count_by-le-length (λ job. worker_of job == k + 1) jobs in
        let low_in = done.small.paid_in in
        let low_out = done.small.paid_out in record {
          over = done.over;
          of_worker = done.of_worker;
          unshut = done.unshut;
          small = record { paid_in = omega (arith, kept, few, low_in, most); paid_out = omega (arith, kept, few, low_out, most) };
        }
    | inr told ↦ record { over = told.over; of_worker = told.of_worker; unshut = told.unshut; small = told.small }
  ]

  module _ (here : (k : ℕ) (desk : DeskOf Port) → slice_get desks k ≡ Some desk → IsHere belongs view lines (k + 1) desk) where
    here_at : (k : ℕ) (d : DeskOf Port) → k < length desks → IsHere belongs view lines (k + 1) (get_or desks k d)
    here_at k d below = here k (get_or desks k d) (slice_get-get_or desks k d below)

    pub all_over : All (IsDeskOver belongs view lines) desks
    all_over = λ k d below. (here_at k d below).over

    pub all_small : All (λ desk. ArePaid MAX_COMMANDS desk) desks
    all_small = λ k d below. (here_at k d below).small

-- The balances of a line that was opened with zeros are 0.
pub opened_empty : {Line : Type 0} (config_of : Line → LineConfig) (workers : ℕ) (lines : List Line) → All (λ line. config_of line ≡ work_config workers) lines → all_opened config_of lines ≡ 0
opened_empty config_of workers [] all = refl
opened_empty {Line} config_of workers (line ∷ lines) all =
    let here : lanes_total (config_of line).opening.bytes ≡ 0 = ap (λ (t : LineConfig). lanes_total t.opening.bytes) (All-head (λ (l : Line). config_of l ≡ work_config workers) line lines all) in
    let rest = opened_empty config_of workers lines (All-tail (λ (l : Line). config_of l ≡ work_config workers) line lines all) in
    let whole = sum_by-cons (λ (l : Line). lanes_total (config_of l).opening.bytes) line lines in
    omega (arith, here, rest, whole)

-- The ports of a line that was just opened have not been used.
pub new_ports : {Line Port : Type 0} (belongs : Line → Port → Type 0) (view : Port → View) (config_of : Line → LineConfig) (workers : ℕ) (line : Line) (ports : List Port) → IsNewLine belongs view config_of workers line ports → All (IsNewPort belongs view line) ports
new_ports {Line} {Port} belongs view config_of workers line ports new = λ k d below.
    let (own, (label, is)) = new.own k (get_or ports k d) (slice_get-get_or ports k d below) in
    record { of_line = own; idle = ap (λ (v : View). v.state) is; never = ap (λ (v : View). v.count) is }

-- No job has been done at a new desk, and its ports are those of its worker's node.
pub banked_nothing : {Line Port : Type 0} (belongs : Line → Port → Type 0) (view : Port → View) (config_of : Line → LineConfig) (workers : ℕ) (opened : List (Line × Vec Port Global)) (lines : List Line) (desks : List (DeskOf Port)) → lines ≡ map (λ line. line.0) opened
    → All (λ (line : Line × Vec Port Global). IsNewLine belongs view config_of workers line.0 line.1.items) opened → AreDealt opened desks → All (IsDeskOver belongs view lines) desks → All IsUnpaid desks → AreFresh (HasBanked belongs view config_of) lines desks
banked_nothing {Line} {Port} belongs view config_of workers opened lines desks are new dealt over unpaid = λ k desk at.
    let below = slice_get_within desks k desk at in
    let is_over = subst (IsDeskOver belongs view lines) (get_or_from_slice_get desks k desk desk at) (over k desk below) in
    let none = subst (λ (d : DeskOf Port). IsUnpaid d) (get_or_from_slice_get desks k desk desk at) (unpaid k desk below) in record {
      over = is_over;
      of_worker = λ i port at_port.
          let (line, at_line, (label, is)) = opened_at k desk at is_over i port at_port in
          ap (λ (v : View). v.node) is;
      unshut = λ i port at_port.
          let (line, at_line, (label, is)) = opened_at k desk at is_over i port at_port in
          subst (λ (v : View). HasNotShut v) (sym is) (λ p r write shut at_r same at_end. absurd (let no : None ≡ Some r = at_r in cc no));
      fresh = desk;
      unpaid = none;
      opened = opened_at k desk at is_over;
      amounts = All-nil IsAmount;
      replies = [];
      len = refl;
      made = nothing;
      paid_in = none.paid_in;
      paid_out = none.paid_out;
      small = record {
        paid_in = let a = none.paid_in in omega (arith, a);
        paid_out = let b = none.paid_out in omega (arith, b);
      };
    }
  where
    opened_at : (k : ℕ) (desk : DeskOf Port) → slice_get desks k ≡ Some desk → IsDeskOver belongs view lines desk → (i : ℕ) (port : Port) → slice_get desk.ports i ≡ Some port
        → (line : Line) × (slice_get lines i ≡ Some line) × IsJustOpened (config_of line) (k + 1) (view port)
    opened_at k desk at is_over i port at_port =
        let there = slice_get_within desk.ports i port at_port in
        let count = is_over.over.count in
        let (line, at_line) = element_at lines i (omega (arith, there, count)) in
        let (pair, at_pair, is_line) = come_from (λ (l : Line × Vec Port Global). l.0) (slice_get opened i) line (sym (slice_get-map (λ (l : Line × Vec Port Global). l.0) opened i) ∙ (ap (λ l. slice_get l i) (sym are) ∙ at_line)) in
        let fresh = subst (λ (l : Line × Vec Port Global). IsNewLine belongs view config_of workers l.0 l.1.items) (get_or_from_slice_get opened i pair pair at_pair) (new i pair (slice_get_within opened i pair at_pair)) in
        (line, at_line, subst (λ (l : Line). IsJustOpened (config_of l) (k + 1) (view port)) is_line (fresh.own k port (sym (dealt k i desk pair at at_pair) ∙ at_port)).1)

-- The bytes of a line of zeros are balances.
pub no_money : AreBalances zeros
no_money zero lt = lit≤ tt
no_money (suc zero) lt = lit≤ tt
no_money (suc (suc zero)) lt = lit≤ tt
no_money (suc (suc (suc zero))) lt = lit≤ tt
no_money (suc (suc (suc (suc zero)))) lt = lit≤ tt
no_money (suc (suc (suc (suc (suc zero))))) lt = lit≤ tt
no_money (suc (suc (suc (suc (suc (suc zero)))))) lt = lit≤ tt
no_money (suc (suc (suc (suc (suc (suc (suc zero))))))) lt = lit≤ tt
no_money (suc (suc (suc (suc (suc (suc (suc (suc k)))))))) lt = absurd (omega arith)

-- the amount that a payment adds to the sum of its kind
pays_in_sum : (v w : View) (lane amount sum sum_then worker account : ℕ) (reply : Reply) → PaysIn v w lane amount sum sum_then reply → sum_then ≡ sum + paid_in_of (PayIn worker account amount) reply
pays_in_sum v w lane amount sum sum_then worker account Done (found, turn, room, pays, e) = e
pays_in_sum v w lane amount sum sum_then worker account Over (found, turn, why, e) = omega (arith, e)
pays_in_sum v w lane amount sum sum_then worker account Short h = absurd h
pays_in_sum v w lane amount sum sum_then worker account Late (r, e) = omega (arith, e)
pays_in_sum v w lane amount sum sum_then worker account Closed (r, e) = omega (arith, e)
pays_in_sum v w lane amount sum sum_then worker account Busy (r, e) = omega (arith, e)
pays_in_sum v w lane amount sum sum_then worker account NoAccount h = absurd h
pays_in_sum v w lane amount sum sum_then worker account SameAccount h = absurd h

pays_out_sum : (v w : View) (lane amount sum sum_then worker account : ℕ) (reply : Reply) → PaysOut v w lane amount sum sum_then reply → sum_then ≡ sum + paid_out_of (PayOut worker account amount) reply
pays_out_sum v w lane amount sum sum_then worker account Done (found, turn, enough, pays, e) = e
pays_out_sum v w lane amount sum sum_then worker account Short (found, turn, less, e) = omega (arith, e)
pays_out_sum v w lane amount sum sum_then worker account Over (found, turn, enough, most, e) = omega (arith, e)
pays_out_sum v w lane amount sum sum_then worker account Late (r, e) = omega (arith, e)
pays_out_sum v w lane amount sum sum_then worker account Closed (r, e) = omega (arith, e)
pays_out_sum v w lane amount sum sum_then worker account Busy (r, e) = omega (arith, e)
pays_out_sum v w lane amount sum sum_then worker account NoAccount h = absurd h
pays_out_sum v w lane amount sum sum_then worker account SameAccount h = absurd h

plus_none : (n : ℕ) → n ≡ n + 0
plus_none n = omega arith

-- The effect of one call at the desk: the amount of the job was paid if the job was done, and the ports changed
-- accordingly.
pub record Effect {Port : Type 0} (view : Port → View) (job : Job) (old new : DeskOf Port) (reply : Reply) : Type 0 where
  pub paid_in : new.paid_in ≡ old.paid_in + paid_in_of job reply
  pub paid_out : new.paid_out ≡ old.paid_out + paid_out_of job reply
  pub ports : AllGo view (most_in job reply) old.ports new.ports

module _ {Port : Type 0} (view : Port → View) (lines : ℕ) where
  pub effect : (job : Job) (old new : DeskOf Port) (reply : Reply) → Asks view lines job old new reply → Effect view job old new reply
  effect (Put worker task) old new reply asks = absurd asks
  effect (Take worker) old new reply asks = absurd asks
  effect (PayIn worker account amount) old new reply asks = elim (is_no_account reply) [
    | inl e ↦
        let same = (asks.unknown e).1 in record {
          paid_in = ap (λ (d : DeskOf Port). d.paid_in) same ∙ (plus_none old.paid_in ∙ ap (λ r. old.paid_in + paid_in_of (PayIn worker account amount) r) (sym e));
          paid_out = ap (λ (d : DeskOf Port). d.paid_out) same ∙ plus_none old.paid_out;
          ports = all_go view lines (PayIn worker account amount) old new reply asks;
        }
    | inr ne ↦
        let p = asks.pays ne in record {
          paid_in = pays_in_sum (view p.port) (view p.port_then) (lane_in account) amount old.paid_in new.paid_in worker account reply p.does;
          paid_out = asks.paid_out ∙ plus_none old.paid_out;
          ports = all_go view lines (PayIn worker account amount) old new reply asks;
        }
  ]
  effect (PayOut worker account amount) old new reply asks = elim (is_no_account reply) [
    | inl e ↦
        let same = (asks.unknown e).1 in record {
          paid_in = ap (λ (d : DeskOf Port). d.paid_in) same ∙ plus_none old.paid_in;
          paid_out = ap (λ (d : DeskOf Port). d.paid_out) same ∙ (plus_none old.paid_out ∙ ap (λ r. old.paid_out + paid_out_of (PayOut worker account amount) r) (sym e));
          ports = all_go view lines (PayOut worker account amount) old new reply asks;
        }
    | inr ne ↦
        let p = asks.pays ne in record {
          paid_in = asks.paid_in ∙ plus_none old.paid_in;
          paid_out = pays_out_sum (view p.port) (view p.port_then) (lane_in account) amount old.paid_out new.paid_out worker account reply p.does;
          ports = all_go view lines (PayOut worker account amount) old new reply asks;
        }
  ]
  effect (Move worker source target amount) old new reply asks = record {
    paid_in = asks.paid_in ∙ plus_none old.paid_in;
    paid_out = asks.paid_out ∙ plus_none old.paid_out;
    ports = all_go view lines (Move worker source target amount) old new reply asks;
  }

  -- An attempt that was answered `Late` or `Busy` paid nothing.
  not_paid : (job : Job) (reply : Reply) → is_again reply ≡ true → (paid_in_of job reply ≡ 0) × (paid_out_of job reply ≡ 0)
  not_paid job Late is = by job
    where
      by : (job : Job) → (paid_in_of job Late ≡ 0) × (paid_out_of job Late ≡ 0)
      by (Put worker task) = (refl, refl)
      by (Take worker) = (refl, refl)
      by (PayIn worker account amount) = (refl, refl)
      by (PayOut worker account amount) = (refl, refl)
      by (Move worker source target amount) = (refl, refl)
  not_paid job Busy is = by job
    where
      by : (job : Job) → (paid_in_of job Busy ≡ 0) × (paid_out_of job Busy ≡ 0)
      by (Put worker task) = (refl, refl)
      by (Take worker) = (refl, refl)
      by (PayIn worker account amount) = (refl, refl)
      by (PayOut worker account amount) = (refl, refl)
      by (Move worker source target amount) = (refl, refl)
  not_paid job Done is = absurd (let no : false ≡ true = is in cc no)
  not_paid job Short is = absurd (let no : false ≡ true = is in cc no)
  not_paid job Over is = absurd (let no : false ≡ true = is in cc no)
  not_paid job Closed is = absurd (let no : false ≡ true = is in cc no)
  not_paid job NoAccount is = absurd (let no : false ≡ true = is in cc no)
  not_paid job SameAccount is = absurd (let no : false ≡ true = is in cc no)

  none_put : (job : Job) (reply : Reply) → is_again reply ≡ true → most_in job reply ≡ 0
  none_put job Late is = refl
  none_put job Busy is = refl
  none_put job Done is = absurd (let no : false ≡ true = is in cc no)
  none_put job Short is = absurd (let no : false ≡ true = is in cc no)
  none_put job Over is = absurd (let no : false ≡ true = is in cc no)
  none_put job Closed is = absurd (let no : false ≡ true = is in cc no)
  none_put job NoAccount is = absurd (let no : false ≡ true = is in cc no)
  none_put job SameAccount is = absurd (let no : false ≡ true = is in cc no)

  pub record InVain (from to : DeskOf Port) : Type 0 where
    pub paid_in : to.paid_in ≡ from.paid_in
    pub paid_out : to.paid_out ≡ from.paid_out
    pub ports : AllGo view 0 from.ports to.ports

  pub in_vain : (job : Job) (from to : DeskOf Port) → Tries view lines job from to → InVain from to
  in_vain job from to not_yet = record { paid_in = refl; paid_out = refl; ports = all_stay view 0 from.ports from.ports refl }
  in_vain job from to (again {mid = mid} reply tries asks is) =
      let before = in_vain job from mid tries in
      let e = effect job mid to reply asks in
      let none = not_paid job reply is in
      let a = before.paid_in in
      let b = before.paid_out in
      record {
        paid_in = e.paid_in ∙ (ap (λ n. mid.paid_in + n) none.0 ∙ (sym (plus_none mid.paid_in) ∙ a));
        paid_out = e.paid_out ∙ (ap (λ n. mid.paid_out + n) none.1 ∙ (sym (plus_none mid.paid_out) ∙ b));
        ports = all_then view 0 0 from.ports mid.ports to.ports before.ports (subst (λ n. AllGo view n mid.ports to.ports) (none_put job reply is) e.ports);
      }

  -- a job that was tried several times, and then received this answer
  pub all_went : (job : Job) (from late to : DeskOf Port) (reply : Reply) → Tries view lines job from late → Asks view lines job late to reply → AllGo view (0 + most_in job reply) from.ports to.ports
  all_went job from late to reply tries asks = all_then view 0 (most_in job reply) from.ports late.ports to.ports (in_vain job from late tries).ports (all_go view lines job late to reply asks)

-- The sum over a list of jobs with outcomes grows by one more job.
by_more : (f : Job → Reply → ℕ) (jobs : List Job) (replies : List Reply) (job : Job) (reply : Reply) (by : List Job → List Reply → ℕ) → ((r : List Reply) → by [] r ≡ 0) → ((j : Job) (js : List Job) (r : Reply) (rs : List Reply) → by (j ∷ js) (r ∷ rs) ≡ f j r + by js rs)
    → length replies ≡ length jobs → by (jobs ++ job ∷ []) (replies ++ reply ∷ []) ≡ by jobs replies + f job reply
by_more f [] [] job reply by none one long = let a = one job [] reply [] in let b = none [] in omega (arith, a, b)
by_more f [] (r ∷ replies) job reply by none one long = absurd (omega (arith, long))
by_more f (j ∷ jobs) [] job reply by none one long = absurd (omega (arith, long))
by_more f (j ∷ jobs) (r ∷ replies) job reply by none one long =
    let a = one j (jobs ++ job ∷ []) r (replies ++ reply ∷ []) in
    let b = one j jobs r replies in
    let c = by_more f jobs replies job reply by none one (omega (arith, long)) in
    omega (arith, a, b, c)

-- The worker does one more job,
module _ {Line Port : Type 0} (belongs : Line → Port → Type 0) (view : Port → View) (config_of : Line → LineConfig) (lines : List Line) (worker : ℕ) (desk late new : DeskOf Port) (jobs : List Job) (h : HasBanked belongs view config_of lines worker desk jobs) where
  pub banked_more : (job : Job) (reply : Reply) → Tries view (length lines) job desk late → Asks view (length lines) job late new reply → is_outcome reply ≡ true → IsDeskOver belongs view lines new → PaysOneAmount late new → IsAmount job → HasBanked belongs view config_of lines worker new (jobs ++ job ∷ [])
  banked_more job reply tries asks outcome over pays amount =
      let vain = in_vain view (length lines) job desk late tries in
      let e = effect view (length lines) job late new reply asks in
      let went = all_went view (length lines) job desk late new reply tries asks in
      record {
        over = over;
        of_worker = λ i port at. let (was, at_was, goes) = went i port at in goes.extends.node ∙ h.of_worker i was at_was;
        unshut = λ i port at. let (was, at_was, goes) = went i port at in goes.unshut (h.unshut i was at_was);
        fresh = h.fresh;
        unpaid = h.unpaid;
        opened = h.opened;
        amounts = All-push IsAmount jobs job h.amounts amount;
        replies = h.replies ++ reply ∷ [];
        len = length-append h.replies (reply ∷ []) ∙ (ap (λ n. n + 1) h.len ∙ sym (length-append jobs (job ∷ [])));
        made = another job reply h.made tries asks outcome;
        paid_in = e.paid_in ∙ (ap (λ n. n + paid_in_of job reply) (vain.paid_in ∙ h.paid_in) ∙ sym (by_more paid_in_of jobs h.replies job reply paid_in_by (λ r. refl) (λ j js r rs. refl) h.len));
        paid_out = e.paid_out ∙ (ap (λ n. n + paid_out_of job reply) (vain.paid_out ∙ h.paid_out) ∙ sym (by_more paid_out_of jobs h.replies job reply paid_out_by (λ r. refl) (λ j js r rs. refl) h.len));
        small =
            let more = length-append jobs (job ∷ []) in
            let a = h.small.paid_in in
            let b = h.small.paid_out in
            let x = pays.paid_in in
            let y = pays.paid_out in
            let u = vain.paid_in in
            let v = vain.paid_out in
            record {
              paid_in = subst (λ n. new.paid_in ≤ n * 2 ^ 64) (sym more) (omega (arith, a, x, u));
              paid_out = subst (λ n. new.paid_out ≤ n * 2 ^ 64) (sym more) (omega (arith, b, y, v));
            };
      }

  -- or it is told that a line is closed.
  pub banked_told : (job : Job) → Tries view (length lines) job desk late → Asks view (length lines) job late new Closed → IsDeskOver belongs view lines new → ArePaid MAX_COMMANDS desk → WasTold belongs view lines worker new
  banked_told job tries asks over few =
      let vain = in_vain view (length lines) job desk late tries in
      let e = effect view (length lines) job late new Closed asks in
      let went = all_went view (length lines) job desk late new Closed tries asks in
      let (place, port, at, told) = one_told view (length lines) job late new asks in
      let none = none_paid job in
      let low_in = few.paid_in in
      let low_out = few.paid_out in
      let a = vain.paid_in in
      let b = vain.paid_out in
      let x = e.paid_in in
      let y = e.paid_out in
      record {
        over = over;
        of_worker = λ i p at_p. let (was, at_was, goes) = went i p at_p in goes.extends.node ∙ h.of_worker i was at_was;
        unshut = λ i p at_p. let (was, at_was, goes) = went i p at_p in goes.unshut (h.unshut i was at_was);
        place = place;
        port = port;
        at = at;
        told = told;
        small = record { paid_in = omega (arith, low_in, a, x, none.0); paid_out = omega (arith, low_out, b, y, none.1) };
      }
    where
      none_paid : (job : Job) → (paid_in_of job Closed ≡ 0) × (paid_out_of job Closed ≡ 0)
      none_paid (Put worker task) = (refl, refl)
      none_paid (Take worker) = (refl, refl)
      none_paid (PayIn worker account amount) = (refl, refl)
      none_paid (PayOut worker account amount) = (refl, refl)
      none_paid (Move worker source target amount) = (refl, refl)

-- A worker that has done fewer jobs than a script may have has not exceeded the bound on what it paid.
pub small_still : {Line Port : Type 0} (belongs : Line → Port → Type 0) (view : Port → View) (config_of : Line → LineConfig) (lines : List Line) (worker : ℕ) (desk : DeskOf Port) (jobs : List Job) → HasBanked belongs view config_of lines worker desk jobs → length jobs < MAX_COMMANDS → ArePaid MAX_COMMANDS desk
small_still belongs view config_of lines worker desk jobs h few =
    let low_in = h.small.paid_in in
    let low_out = h.small.paid_out in
    record { paid_in = omega (arith, low_in, few); paid_out = omega (arith, low_out, few) }

-- For each node of each line, the port is at the desk of the node's worker.
pub none_missing : {Line Port : Type 0} (belongs : Line → Port → Type 0) (view : Port → View) (config_of : Line → LineConfig) (lines : List Line) (workers : ℕ) (desks : List (DeskOf Port)) → ((k : ℕ) (desk : DeskOf Port) → slice_get desks k ≡ Some desk → IsHere belongs view lines (k + 1) desk) → length desks ≡ workers
    → All (λ line. config_of line ≡ work_config workers) lines → (i node : ℕ) → IsFirstMissing view config_of lines desks i node → ⊥
none_missing {Line} {Port} belongs view config_of lines workers desks here many config i node missing = by node missing.least.first missing.least.last missing.least.fails
  where
    of_line : (config_of missing.line).nodes ≡ workers
    of_line = ap (λ (t : LineConfig). t.nodes) (subst (λ (line : Line). config_of line ≡ work_config workers) (get_or_from_slice_get lines i missing.line missing.line missing.at) (config i missing.line (slice_get_within lines i missing.line missing.at)))

    by : (n : ℕ) → 1 ≤ n → n ≤ (config_of missing.line).nodes → LacksPort view desks i n → ⊥
    by zero first last lacks = omega (arith, first)
    by (suc k) first last lacks =
        let (desk, at) = element_at desks k (omega (arith, last, of_line, many)) in
        let h = here k desk at in
        let there = slice_get_within lines i missing.line missing.at in
        let count = h.over.over.count in
        let (port, at_port) = element_at desk.ports i (omega (arith, there, count)) in
        let name : k + 1 ≡ suc k = omega arith in
        lacks k desk port at at_port (h.of_worker i port at_port ∙ name)

-- Each job that was done had an outcome.
with_outcomes : {Port : Type 0} (view : Port → View) (lines : ℕ) (from to : DeskOf Port) (jobs : List Job) (replies : List Reply) → Makes view lines from jobs replies to → All (λ reply. is_outcome reply ≡ true) replies
with_outcomes view lines from to [] [] nothing = All-nil (λ reply. is_outcome reply ≡ true)
with_outcomes view lines from to jobs replies (another {jobs = before} {replies = others} {before = desk} job reply makes tries asks is) =
    All-append (λ reply. is_outcome reply ≡ true) others (reply ∷ []) (with_outcomes view lines from desk before others makes) (All-push (λ reply. is_outcome reply ≡ true) [] reply (All-nil (λ reply. is_outcome reply ≡ true)) is)

-- the sums over the jobs of all workers
pub comes_to : {Line Port : Type 0} (belongs : Line → Port → Type 0) (view : Port → View) (config_of : Line → LineConfig) (lines : List Line) (jobs : List Job) (first : ℕ) (desks : List (DeskOf Port))
    → ((k : ℕ) (desk : DeskOf Port) → slice_get desks k ≡ Some desk → HasBanked belongs view config_of lines (first + k) desk (jobs_of (first + k) jobs)) → ComesTo first (length desks) jobs (all_paid_in desks) (all_paid_out desks)
comes_to belongs view config_of lines jobs first [] done = record { replies = []; workers_are = refl; len = λ k own at. absurd (let no : None ≡ Some own = at in cc no); outcomes = λ k own at. absurd (let no : None ≡ Some own = at in cc no); in_is = refl; out_is = refl }
comes_to {Line} {Port} belongs view config_of lines jobs first (desk ∷ desks) done =
    let same : first + 0 ≡ first = omega arith in
    let here = subst (λ n. HasBanked belongs view config_of lines n desk (jobs_of n jobs)) same (done 0 desk refl) in
    let rest = comes_to belongs view config_of lines jobs (first + 1) desks (λ k d at. subst (λ n. HasBanked belongs view config_of lines n d (jobs_of n jobs)) (shift first k) (done (suc k) d at)) in
    let a = sum_by-cons (λ (d : DeskOf Port). d.paid_in) desk desks in
    let b = sum_by-cons (λ (d : DeskOf Port). d.paid_out) desk desks in
    record {
      replies = here.replies ∷ rest.replies;
      workers_are = ap suc rest.workers_are;
      len = own_many here.replies rest.replies here.len rest.len;
      outcomes = own_outcomes here.replies rest.replies (with_outcomes view (length lines) here.fresh desk (jobs_of first jobs) here.replies here.made) rest.outcomes;
      in_is = a ∙ (ap (λ n. n + all_paid_in desks) here.paid_in ∙ ap (λ n. paid_in_by (jobs_of first jobs) here.replies + n) rest.in_is);
      out_is = b ∙ (ap (λ n. n + all_paid_out desks) here.paid_out ∙ ap (λ n. paid_out_by (jobs_of first jobs) here.replies + n) rest.out_is);
    }
  where
    shift : (first k : ℕ) → first + suc k ≡ first + 1 + k
    shift first k = omega arith

    own_many : (replies : List Reply) (others : List (List Reply)) → length replies ≡ length (jobs_of first jobs) → ((k : ℕ) (own : List Reply) → slice_get others k ≡ Some own → length own ≡ length (jobs_of (first + 1 + k) jobs))
        → (k : ℕ) (own : List Reply) → slice_get (replies ∷ others) k ≡ Some own → length own ≡ length (jobs_of (first + k) jobs)
    own_many replies others mine rest zero own at = ap length (sym (same_some at)) ∙ (mine ∙ ap (λ n. length (jobs_of n jobs)) (start first))
      where
        start : (first : ℕ) → first ≡ first + 0
        start first = omega arith
    own_many replies others mine rest (suc k) own at = rest k own at ∙ ap (λ n. length (jobs_of n jobs)) (sym (shift first k))

    own_outcomes : (replies : List Reply) (others : List (List Reply)) → All (λ reply. is_outcome reply ≡ true) replies → ((k : ℕ) (own : List Reply) → slice_get others k ≡ Some own → All (λ reply. is_outcome reply ≡ true) own)
        → (k : ℕ) (own : List Reply) → slice_get (replies ∷ others) k ≡ Some own → All (λ reply. is_outcome reply ≡ true) own
    own_outcomes replies others mine rest zero own at = subst (All (λ reply. is_outcome reply ≡ true)) (same_some at) mine
    own_outcomes replies others mine rest (suc k) own at = rest k own at

-- Each of these lines has a port for each desk, so no line has too few ports.
pub none_short : {Line Port : Type 0} (count : ℕ) (opened : List (Line × Vec Port Global)) → All (λ line. vec_len line.1 ≡ count) opened → (why : OpenDesksError) (i : ℕ) → why ≡ Few i → MayHaveNoDesks count opened why → ⊥
none_short {Line} {Port} count opened many why i is may =
    let short : IsFirstShort count opened i = subst (λ (why : OpenDesksError). MayHaveNoDesks count opened why) is may in
    let own : vec_len short.line.1 ≡ count = subst (λ (line : Line × Vec Port Global). vec_len line.1 ≡ count) (get_or_from_slice_get opened i short.line short.line short.at) (many i short.line (slice_get_within opened i short.line short.at)) in
    let less = short.short in
    omega (arith, own, less)
