-- Proof that the workers' critical sections at a board have the same effect as if one owner did the workers' jobs one
-- after another.
use Rattle.std.proofs.Common.{◌≡◌, ◌≢◌, ℕ, suc, ◌+◌, ◌*◌, ◌<◌, ◌≤◌, ◌==◌, ◌&&◌, inl, inr, Bool, true, false, cond, if◌then◌else◌, nat_lt, List, [], ◌∷◌, ◌++◌, length, drop, Some, slice_get, refl, ap, sym, ◌∙◌, subst, arith, zero-add, length-append}
use Rattle.std.specs.List.{sum_by, count_by}
use Rattle.std.proofs.lemmas.Bool.{eq-eqb, ne_eqb, cases_eq, lt-ltb, ltb-true, ltb-false}
use Rattle.std.proofs.lemmas.List.Sums.{sum_by-cons}
use Rattle.line_board.specs.declared.board.TheConstants.{MAX_TASKS}
use Rattle.qolb_model.specs.declared.request.Request.{Request}
use Rattle.qolb_model.specs.declared.end.End.{End}
use Rattle.qolb_model.specs.declared.end.End.TheVariants.{Served, Gone, Told}
use Rattle.qolb_model.specs.declared.view.View.{View}
use Rattle.qolb_model.specs.Ends.{written, bytes_after}
use Rattle.qolb_model.proofs.Sums.{sum-plus, sum-zero, sum-each}
use Rattle.line_board.specs.PutsAndTakes.{standing}
use Rattle.qolb_script.specs.declared.job.Job.{Job}
use Rattle.qolb_script.specs.declared.job.Job.TheVariants.{Put, Take, PayIn, PayOut, Move}
use Rattle.qolb_script.specs.Jobs.{worker_of}
use Rattle.qolb_work.specs.Jobs.{is_put, is_take, puts_in, takes_in, jobs_of}
use Rattle.qolb_work.specs.declared.board.BoardCounts.{BoardCounts}
use Rattle.qolb_work.specs.BoardRuns.{counts_after, BoardRun, after_job, after_jobs, no_counts}
use Rattle.qolb_work.specs.BoardWork.{Turn, turn_between, node_turns, Does, HasDoneJobs, stores, finds_full, takes, finds_none, counts_of}
use Rattle.qolb_work.proofs.Turns.{node_turns-none}

-- the turns of all nodes, in the order of the line
abbrev pub all_turns : List ℕ → List End → List Turn
all_turns bytes [] = []
all_turns bytes (Served write shut ∷ ends) = turn_between bytes (written bytes write) ∷ all_turns (written bytes write) ends
all_turns bytes (Gone ∷ ends) = all_turns bytes ends
all_turns bytes (Told ∷ ends) = all_turns bytes ends

-- One list of jobs that all turns did, in their order. It contains the jobs of each worker in that worker's order.
pub record Merged (bytes : List ℕ) (ends : List End) (jobs : ℕ → List Job) : Type 0 where
  pub sequence : List Job
  pub each : (worker : ℕ) → jobs_of worker sequence ≡ jobs worker
  pub did : HasDoneJobs (all_turns bytes ends) sequence

-- Each list contains only jobs of its own worker.
abbrev pub AreOwn : (ℕ → List Job) → Type 0
AreOwn jobs = (worker k : ℕ) (job : Job) → slice_get (jobs worker) k ≡ Some job → worker_of job ≡ worker

pub jobs_own : (worker : ℕ) (job : Job) (jobs : List Job) → worker_of job ≡ worker → jobs_of worker (job ∷ jobs) ≡ job ∷ jobs_of worker jobs
jobs_own worker job jobs is = ap (λ b. cond b (job ∷ jobs_of worker jobs) (jobs_of worker jobs)) (eq-eqb (worker_of job) worker is)

jobs_other : (worker : ℕ) (job : Job) (jobs : List Job) → worker_of job ≢ worker → jobs_of worker (job ∷ jobs) ≡ jobs_of worker jobs
jobs_other worker job jobs ne = ap (λ b. cond b (job ∷ jobs_of worker jobs) (jobs_of worker jobs)) (ne_eqb (worker_of job) worker ne)

-- one turn, and the turns after it
module _ (bytes now : List ℕ) (node : ℕ) (jobs : ℕ → List Job) (own : AreOwn jobs) (ends : List End) (turns : ℕ → List Turn)
    (did : (worker : ℕ) → HasDoneJobs ((if node == worker then turn_between bytes now ∷ [] else []) ++ turns worker) (jobs worker))
    (rest : (jobs : ℕ → List Job) → AreOwn jobs → ((worker : ℕ) → HasDoneJobs (turns worker) (jobs worker)) → Merged now ends jobs) where
  -- the jobs that are left after one worker has done its first job
  abbrev jobs_then : List Job → ℕ → List Job
  jobs_then later worker = if node == worker then later else jobs worker

  then_own : (later : List Job) → jobs_then later node ≡ later
  then_own later = ap (λ b. if b then later else jobs node) (eq-eqb node node refl)

  then_other : (later : List Job) (worker : ℕ) → node ≢ worker → jobs_then later worker ≡ jobs worker
  then_other later worker ne = ap (λ b. if b then later else jobs worker) (ne_eqb node worker ne)

  did_other : (worker : ℕ) → node ≢ worker → HasDoneJobs (turns worker) (jobs worker)
  did_other worker ne = subst (λ b. HasDoneJobs ((if b then turn_between bytes now ∷ [] else []) ++ turns worker) (jobs worker)) (ne_eqb node worker ne) (did worker)

  with_first : (mine : List Job) → jobs node ≡ mine → HasDoneJobs (turn_between bytes now ∷ turns node) mine → (sequence : List Job) × ((worker : ℕ) → jobs_of worker sequence ≡ jobs worker) × HasDoneJobs (turn_between bytes now ∷ all_turns now ends) sequence
  with_first [] are none = absurd none
  with_first (job ∷ later) are (does, others) =
      let is_own : worker_of job ≡ node = own node 0 job (ap (λ l. slice_get l 0) are) in
      let m = rest (jobs_then later)
      (λ worker k x at. elim (cases_eq node worker) [
        | inl e ↦ own worker (suc k) x (ap (λ l. slice_get l (suc k)) (ap jobs (sym e) ∙ are) ∙ (ap (λ l. slice_get l k) (sym (then_own later) ∙ ap (jobs_then later) e) ∙ at))
        | inr ne ↦ own worker k x (ap (λ l. slice_get l k) (sym (then_other later worker ne)) ∙ at)
      ])
      (λ worker. elim (cases_eq node worker) [
        | inl e ↦ subst (λ w. HasDoneJobs (turns w) (jobs_then later w)) e (subst (HasDoneJobs (turns node)) (sym (then_own later)) others)
        | inr ne ↦ subst (HasDoneJobs (turns worker)) (sym (then_other later worker ne)) (did_other worker ne)
      ]) in (
        job ∷ m.sequence,
        λ worker. elim (cases_eq node worker) [
          | inl e ↦ jobs_own worker job m.sequence (is_own ∙ e) ∙ (ap (λ l. job ∷ l) (m.each worker ∙ (ap (jobs_then later) (sym e) ∙ then_own later)) ∙ (sym are ∙ ap jobs e))
          | inr ne ↦ jobs_other worker job m.sequence (λ e. ne (sym is_own ∙ e)) ∙ (m.each worker ∙ then_other later worker ne)
        ],
        (does, m.did),
      )

  turn_first : (sequence : List Job) × ((worker : ℕ) → jobs_of worker sequence ≡ jobs worker) × HasDoneJobs (turn_between bytes now ∷ all_turns now ends) sequence
  turn_first = with_first (jobs node) refl (subst (λ b. HasDoneJobs ((if b then turn_between bytes now ∷ [] else []) ++ turns node) (jobs node)) (eq-eqb node node refl) (did node))

-- If the turns of each node did the jobs of the node's worker, then all turns together did all jobs, in an order that
-- keeps the order of each worker's jobs.
pub merge : (bytes : List ℕ) (order : List Request) (ends : List End) (jobs : ℕ → List Job) → length ends ≤ length order → AreOwn jobs → ((worker : ℕ) → HasDoneJobs (node_turns worker bytes order ends) (jobs worker)) → Merged bytes ends jobs
merge bytes order [] jobs le own did = record {
  sequence = [];
  each = λ worker. nothing (jobs worker) (subst (λ ts. HasDoneJobs ts (jobs worker)) (node_turns-none worker bytes order) (did worker));
  did = tt;
}
  where
    nothing : (left : List Job) → HasDoneJobs [] left → [] ≡ left
    nothing [] d = refl
    nothing (job ∷ left) d = absurd d
merge bytes [] (e ∷ ends) jobs le own did = absurd (omega (arith, le))
merge bytes (r ∷ order) (Served write shut ∷ ends) jobs le own did =
    let t = turn_first bytes (written bytes write) r.node jobs own ends (λ worker. node_turns worker (written bytes write) order ends) did (λ jobs own did. merge (written bytes write) order ends jobs (omega (arith, le)) own did) in
    record { sequence = t.0; each = t.1; did = t.2 }
merge bytes (r ∷ order) (Gone ∷ ends) jobs le own did =
    let m = merge bytes order ends jobs (omega (arith, le)) own did in record { sequence = m.sequence; each = m.each; did = m.did }
merge bytes (r ∷ order) (Told ∷ ends) jobs le own did =
    let m = merge bytes order ends jobs (omega (arith, le)) own did in record { sequence = m.sequence; each = m.each; did = m.did }

-- adds each count to the count of the same kind
abbrev pub plus : BoardCounts → BoardCounts → BoardCounts
plus a b = record { stored = a.stored + b.stored; full = a.full + b.full; taken = a.taken + b.taken; empty = a.empty + b.empty }

plus_zero : (c : BoardCounts) → c ≡ plus c no_counts
plus_zero c = λ i. record { stored = none c.stored i; full = none c.full i; taken = none c.taken i; empty = none c.empty i }
  where
    none : (n : ℕ) → n ≡ n + 0
    none n = omega arith

-- The counts of a list of turns are the count of the first turn plus the counts of the others.
counts-first : (c : BoardCounts) (t : Turn) (ts : List Turn) → plus (plus c (counts_of (t ∷ []))) (counts_of ts) ≡ plus c (counts_of (t ∷ ts))
counts-first c t ts = λ i. record { stored = one stores c.stored i; full = one finds_full c.full i; taken = one takes c.taken i; empty = one finds_none c.empty i }
  where
    one : (p : Turn → Bool) (n : ℕ) → n + count_by p (t ∷ []) + count_by p ts ≡ n + count_by p (t ∷ ts)
    one p n =
        let a = sum_by-cons (λ x. cond (p x) 1 0) t [] in
        let b = sum_by-cons (λ x. cond (p x) 1 0) t ts in
        omega (arith, a, b)

-- What one owner counts for a job is what the turn that did the job counts.
counted_one : (n : ℕ) (b : Bool) → (t : Turn) (p : Turn → Bool) → p t ≡ b → n + cond b 1 0 ≡ n + count_by p (t ∷ [])
counted_one n b t p is = ap (λ b. n + cond b 1 0) (sym is) ∙ ap (λ m. n + m) (alone (cond (p t) 1 0) ∙ sym (sum_by-cons (λ x. cond (p x) 1 0) t []))
  where
    alone : (m : ℕ) → m ≡ m + 0
    alone m = omega arith

by_tests : (c : BoardCounts) (t : Turn) (s f k e : Bool) → stores t ≡ s → finds_full t ≡ f → takes t ≡ k → finds_none t ≡ e
    → (let sum : BoardCounts = record { stored = c.stored + cond s 1 0; full = c.full + cond f 1 0; taken = c.taken + cond k 1 0; empty = c.empty + cond e 1 0 } in sum) ≡ plus c (counts_of (t ∷ []))
by_tests c t s f k e h1 h2 h3 h4 = λ i. record {
  stored = counted_one c.stored s t stores h1 i;
  full = counted_one c.full f t finds_full h2 i;
  taken = counted_one c.taken k t takes h3 i;
  empty = counted_one c.empty e t finds_none h4 i;
}

fill : (n : ℕ) → n ≡ n + 0
fill n = omega arith

lt_false : (a b : ℕ) → b ≤ a → nat_lt a b ≡ false
lt_false a b le = elim (nat_lt a b) as (λ v. nat_lt a b ≡ v → nat_lt a b ≡ false) [ true ↦ λ e. absurd (let lt = ltb-true a b e in omega (arith, lt, le)) | false ↦ λ e. e ] refl

and_false : (b : Bool) → (b && false) ≡ false
and_false true = refl
and_false false = refl

both_false : (a b c d : ℕ) → a ≢ b → ((a == b) && (c == d)) ≡ false
both_false a b c d ne = ap (λ x. x && (c == d)) (ne_eqb a b ne)

not_both : (a b : ℕ) → a ≡ b + 1 → ((a == MAX_TASKS) && (b == MAX_TASKS)) ≡ false
not_both a b e = elim (cases_eq a MAX_TASKS) [
  | inl same ↦ ap (λ x. (a == MAX_TASKS) && x) (ne_eqb b MAX_TASKS (λ f. omega (arith, e, same, f))) ∙ and_false (a == MAX_TASKS)
  | inr ne ↦ both_false a MAX_TASKS b MAX_TASKS ne
]

both_true : (a b c d : ℕ) → a ≡ b → c ≡ d → ((a == b) && (c == d)) ≡ true
both_true a b c d e f = ap (λ x. x && (c == d)) (eq-eqb a b e) ∙ eq-eqb c d f

pub does_counted : (job : Job) (t : Turn) (c : BoardCounts) → Does job t → counts_after job t.found c ≡ plus c (counts_of (t ∷ []))
does_counted (Put worker task) t c d = by (nat_lt (length t.found) MAX_TASKS) refl
  where
    by : (b : Bool) → nat_lt (length t.found) MAX_TASKS ≡ b → counts_after (Put worker task) t.found c ≡ plus c (counts_of (t ∷ []))
    by true e =
        let room : length t.found < MAX_TASKS = ltb-true (length t.found) MAX_TASKS e in
        let left : t.left ≡ t.found ++ task ∷ [] = d.left ∙ ap (λ b. if b then t.found ++ task ∷ [] else t.found) e in
        let more = ap length left ∙ length-append t.found (task ∷ []) in
        ap (λ b. if b then record c { stored = c.stored + 1 } else record c { full = c.full + 1 }) e
        ∙ ((λ i. record c { full = fill c.full i; taken = fill c.taken i; empty = fill c.empty i; stored = c.stored + 1 })
        ∙ by_tests c t true false false false (lt-ltb (length t.found) (length t.left) (omega (arith, more))) (both_false (length t.found) MAX_TASKS (length t.left) MAX_TASKS (λ e. omega (arith, e, room))) (lt_false (length t.left) (length t.found) (omega (arith, more)))
        (ap (λ x. (length t.found == 0) && x) (ne_eqb (length t.left) 0 (λ e. omega (arith, e, more))) ∙ and_false (length t.found == 0)))
    by false e =
        let full : MAX_TASKS ≤ length t.found = ltb-false (length t.found) MAX_TASKS e in
        let left : t.left ≡ t.found = d.left ∙ ap (λ b. if b then t.found ++ task ∷ [] else t.found) e in
        let same = ap length left in
        let few = d.few in
        let is : length t.found ≡ MAX_TASKS = omega (arith, full, few) in
        ap (λ b. if b then record c { stored = c.stored + 1 } else record c { full = c.full + 1 }) e
        ∙ ((λ i. record c { stored = fill c.stored i; taken = fill c.taken i; empty = fill c.empty i; full = c.full + 1 })
        ∙ by_tests c t false true false false (lt_false (length t.found) (length t.left) (omega (arith, same))) (both_true (length t.found) MAX_TASKS (length t.left) MAX_TASKS is (same ∙ is)) (lt_false (length t.left) (length t.found) (omega (arith, same)))
        (both_false (length t.found) 0 (length t.left) 0 (λ e. omega (arith, e, is))))
does_counted (Take worker) t c d = by t.found refl
  where
    by : (found : List ℕ) → t.found ≡ found → counts_after (Take worker) found c ≡ plus c (counts_of (t ∷ []))
    by [] e =
        let left : t.left ≡ [] = d.left ∙ ap (drop 1) e in
        let a = ap length e in
        let b = ap length left in
        (λ i. record c { stored = fill c.stored i; full = fill c.full i; taken = fill c.taken i; empty = c.empty + 1 })
        ∙ by_tests c t false false false true (lt_false (length t.found) (length t.left) (omega (arith, a, b))) (both_false (length t.found) MAX_TASKS (length t.left) MAX_TASKS (λ e. omega (arith, e, a))) (lt_false (length t.left) (length t.found) (omega (arith, a, b)))
        (both_true (length t.found) 0 (length t.left) 0 a b)
    by (x ∷ xs) e =
        let left : t.left ≡ xs = d.left ∙ ap (drop 1) e in
        let a = ap length e in
        let b = ap length left in
        (λ i. record c { stored = fill c.stored i; full = fill c.full i; empty = fill c.empty i; taken = c.taken + 1 })
        ∙ by_tests c t false false true false (lt_false (length t.found) (length t.left) (omega (arith, a, b))) (not_both (length t.found) (length t.left) (omega (arith, a, b))) (lt-ltb (length t.left) (length t.found) (omega (arith, a, b)))
        (both_false (length t.found) 0 (length t.left) 0 (λ e. omega (arith, e, a)))
does_counted (PayIn worker account amount) t c d = absurd d.of_board
does_counted (PayOut worker account amount) t c d = absurd d.of_board
does_counted (Move worker source target amount) t c d = absurd d.of_board

-- If the turns did the jobs, there are as many turns as jobs.
pub did_long : (turns : List Turn) (jobs : List Job) → HasDoneJobs turns jobs → length turns ≡ length jobs
did_long [] [] did = refl
did_long [] (job ∷ jobs) did = absurd did
did_long (turn ∷ turns) [] did = absurd did
did_long (turn ∷ turns) (job ∷ jobs) did = ap suc (did_long turns jobs did.1)

-- the same with one more job
pub did_more : (turns : List Turn) (jobs : List Job) (turn : Turn) (job : Job) → HasDoneJobs turns jobs → Does job turn → HasDoneJobs (turns ++ turn ∷ []) (jobs ++ job ∷ [])
did_more [] [] turn job did does = (does, tt)
did_more [] (j ∷ jobs) turn job did does = absurd did
did_more (t ∷ turns) [] turn job did does = absurd did
did_more (t ∷ turns) (j ∷ jobs) turn job did does = (did.0, did_more turns jobs turn job did.1 does)

pub counts_more : (turns : List Turn) (turn : Turn) → counts_of (turns ++ turn ∷ []) ≡ plus (counts_of turns) (counts_of (turn ∷ []))
counts_more turns turn = λ i. record { stored = one stores turns i; full = one finds_full turns i; taken = one takes turns i; empty = one finds_none turns i }
  where
    one : (p : Turn → Bool) (ts : List Turn) → count_by p (ts ++ turn ∷ []) ≡ count_by p ts + count_by p (turn ∷ [])
    one p [] = sym (zero-add (count_by p (turn ∷ [])))
    one p (t ∷ ts) =
        let a = sum_by-cons (λ x. cond (p x) 1 0) t (ts ++ turn ∷ []) in
        let b = sum_by-cons (λ x. cond (p x) 1 0) t ts in
        let c = one p ts in
        omega (arith, a, b, c)

-- Each put that was done stored its task or found the board full, and each take that was done took a task or found
-- none.
puts_one : (job : Job) (found : List ℕ) (c : BoardCounts) → (counts_after job found c).stored + (counts_after job found c).full ≡ c.stored + c.full + cond (is_put job) 1 0
puts_one (Put worker task) found c = by (nat_lt (length found) MAX_TASKS)
  where
    by : (b : Bool) → (let now : BoardCounts = if b then record c { stored = c.stored + 1 } else record c { full = c.full + 1 } in now.stored + now.full ≡ c.stored + c.full + 1)
    by true = omega arith
    by false = omega arith
puts_one (Take worker) [] c = omega arith
puts_one (Take worker) (x ∷ found) c = omega arith
puts_one (PayIn worker account amount) found c = omega arith
puts_one (PayOut worker account amount) found c = omega arith
puts_one (Move worker source target amount) found c = omega arith

takes_one : (job : Job) (found : List ℕ) (c : BoardCounts) → (counts_after job found c).taken + (counts_after job found c).empty ≡ c.taken + c.empty + cond (is_take job) 1 0
takes_one (Put worker task) found c = by (nat_lt (length found) MAX_TASKS)
  where
    by : (b : Bool) → (let now : BoardCounts = if b then record c { stored = c.stored + 1 } else record c { full = c.full + 1 } in now.taken + now.empty ≡ c.taken + c.empty + 0)
    by true = omega arith
    by false = omega arith
takes_one (Take worker) [] c = omega arith
takes_one (Take worker) (x ∷ found) c = omega arith
takes_one (PayIn worker account amount) found c = omega arith
takes_one (PayOut worker account amount) found c = omega arith
takes_one (Move worker source target amount) found c = omega arith

pub did_puts : (turns : List Turn) (jobs : List Job) → HasDoneJobs turns jobs → (counts_of turns).stored + (counts_of turns).full ≡ puts_in jobs
did_puts [] [] did = refl
did_puts [] (job ∷ jobs) did = absurd did
did_puts (turn ∷ turns) [] did = absurd did
did_puts (turn ∷ turns) (job ∷ jobs) did =
    let here = sym (ap (λ (c : BoardCounts). c.stored + c.full) (does_counted job turn no_counts did.0)) ∙ puts_one job turn.found no_counts in
    let rest = did_puts turns jobs did.1 in
    let split = ap (λ (c : BoardCounts). c.stored + c.full) (counts-first no_counts turn turns) in
    let whole = sum_by-cons (λ j. cond (is_put j) 1 0) job jobs in
    omega (arith, here, rest, split, whole)

pub did_takes : (turns : List Turn) (jobs : List Job) → HasDoneJobs turns jobs → (counts_of turns).taken + (counts_of turns).empty ≡ takes_in jobs
did_takes [] [] did = refl
did_takes [] (job ∷ jobs) did = absurd did
did_takes (turn ∷ turns) [] did = absurd did
did_takes (turn ∷ turns) (job ∷ jobs) did =
    let here = sym (ap (λ (c : BoardCounts). c.taken + c.empty) (does_counted job turn no_counts did.0)) ∙ takes_one job turn.found no_counts in
    let rest = did_takes turns jobs did.1 in
    let split = ap (λ (c : BoardCounts). c.taken + c.empty) (counts-first no_counts turn turns) in
    let whole = sum_by-cons (λ j. cond (is_take j) 1 0) job jobs in
    omega (arith, here, rest, split, whole)

-- Each task that one owner stored was taken or is still on the board.
kept_one : (run : BoardRun) (job : Job) → (after_job run job).counts.stored + (run.counts.taken + length run.tasks) ≡ run.counts.stored + ((after_job run job).counts.taken + length (after_job run job).tasks)
kept_one run (Put worker task) = by (nat_lt (length run.tasks) MAX_TASKS)
  where
    more : (xs : List ℕ) → length (xs ++ task ∷ []) ≡ length xs + 1
    more xs = length-append xs (task ∷ [])

    by : (b : Bool)
        → (let now : BoardCounts = if b then record run.counts { stored = run.counts.stored + 1 } else record run.counts { full = run.counts.full + 1 } in
        now.stored + (run.counts.taken + length run.tasks) ≡ run.counts.stored + (now.taken + length (if b then run.tasks ++ task ∷ [] else run.tasks)))
    by true = omega (arith, more run.tasks)
    by false = omega arith
kept_one run (Take worker) = by run.tasks
  where
    by : (tasks : List ℕ) → (counts_after (Take worker) tasks run.counts).stored + (run.counts.taken + length tasks) ≡ run.counts.stored + ((counts_after (Take worker) tasks run.counts).taken + length (drop 1 tasks))
    by [] = omega arith
    by (x ∷ tasks) = omega arith
kept_one run (PayIn worker account amount) = omega arith
kept_one run (PayOut worker account amount) = omega arith
kept_one run (Move worker source target amount) = omega arith

pub kept_run : (run : BoardRun) (jobs : List Job) → (after_jobs run jobs).counts.stored + (run.counts.taken + length run.tasks) ≡ run.counts.stored + ((after_jobs run jobs).counts.taken + length (after_jobs run jobs).tasks)
kept_run run [] = refl
kept_run run (job ∷ jobs) =
    let here = kept_one run job in
    let rest = kept_run (after_job run job) jobs in
    omega (arith, here, rest)

-- The counts of all nodes add up to the count of all turns, because each turn belongs to exactly one node.
head_count : (p : Turn → Bool) (b : Bool) (t : Turn) (ts : List Turn) → count_by p ((if b then t ∷ [] else []) ++ ts) ≡ (if b then cond (p t) 1 0 else 0) + count_by p ts
head_count p true t ts = sum_by-cons (λ x. cond (p x) 1 0) t ts
head_count p false t ts = sym (zero-add (count_by p ts))

amount_at : (views : List View) (node amount : ℕ) → sum_by (λ (v : View). if node == v.node then amount else 0) views ≡ amount * count_by (λ (v : View). node == v.node) views
amount_at [] node amount = omega arith
amount_at (v ∷ views) node amount =
    sum_by-cons (λ (w : View). if node == w.node then amount else 0) v views
    ∙ (by (node == v.node) (amount_at views node amount) ∙ ap (λ n. amount * n) (sym (sum_by-cons (λ (w : View). cond (node == w.node) 1 0) v views)))
  where
    by : (b : Bool) → sum_by (λ (w : View). if node == w.node then amount else 0) views ≡ amount * count_by (λ (w : View). node == w.node) views
        → (if b then amount else 0) + sum_by (λ (w : View). if node == w.node then amount else 0) views ≡ amount * (cond b 1 0 + count_by (λ (w : View). node == w.node) views)
    by true e = grind arith
    by false e = grind arith

pub counts_whole : (p : Turn → Bool) (views : List View) (bytes : List ℕ) (order : List Request) (ends : List End) → length ends ≤ length order
    → ((k : ℕ) (r : Request) → slice_get order k ≡ Some r → count_by (λ (v : View). r.node == v.node) views ≡ 1)
    → sum_by (λ (v : View). count_by p (node_turns v.node bytes order ends)) views ≡ count_by p (all_turns bytes ends)
counts_whole p views bytes order [] le once = sum-zero (λ (v : View). count_by p (node_turns v.node bytes order [])) views (λ v. ap (count_by p) (node_turns-none v.node bytes order))
counts_whole p views bytes [] (e ∷ ends) le once = absurd (omega (arith, le))
counts_whole p views bytes (r ∷ order) (Served write shut ∷ ends) le once =
    let now = written bytes write in
    let t = turn_between bytes (written bytes write) in
    let rest = counts_whole p views (written bytes write) order ends (omega (arith, le)) (λ k x at. once (suc k) x at) in
    sum-each (λ (v : View). count_by p ((if r.node == v.node then turn_between bytes (written bytes write) ∷ [] else []) ++ node_turns v.node (written bytes write) order ends)) (λ (v : View). (if r.node == v.node then cond (p (turn_between bytes (written bytes write))) 1 0 else 0) + count_by p (node_turns v.node (written bytes write) order ends)) views
    (λ i v at. head_count p (r.node == v.node) (turn_between bytes (written bytes write)) (node_turns v.node (written bytes write) order ends))
    ∙ (sum-plus (λ (v : View). if r.node == v.node then cond (p (turn_between bytes (written bytes write))) 1 0 else 0) (λ (v : View). count_by p (node_turns v.node (written bytes write) order ends)) views
    ∙ (ap (λ n. n + sum_by (λ (v : View). count_by p (node_turns v.node (written bytes write) order ends)) views) (amount_at views r.node (cond (p (turn_between bytes (written bytes write))) 1 0) ∙ (ap (λ n. cond (p (turn_between bytes (written bytes write))) 1 0 * n) (once 0 r refl) ∙ times-one (cond (p (turn_between bytes (written bytes write))) 1 0)))
    ∙ (ap (λ n. cond (p (turn_between bytes (written bytes write))) 1 0 + n) rest
    ∙ sym (sum_by-cons (λ x. cond (p x) 1 0) (turn_between bytes (written bytes write)) (all_turns (written bytes write) ends)))))
  where
    times-one : (n : ℕ) → n * 1 ≡ n
    times-one n = omega arith
counts_whole p views bytes (r ∷ order) (Gone ∷ ends) le once = counts_whole p views bytes order ends (omega (arith, le)) (λ k x at. once (suc k) x at)
counts_whole p views bytes (r ∷ order) (Told ∷ ends) le once = counts_whole p views bytes order ends (omega (arith, le)) (λ k x at. once (suc k) x at)

-- All turns, one after another, leave the same tasks and the same counts as one owner who does the jobs.
pub one_owner : (bytes : List ℕ) (ends : List End) (sequence : List Job) (c : BoardCounts) → HasDoneJobs (all_turns bytes ends) sequence
    → after_jobs (record { tasks = standing bytes; counts = c }) sequence ≡ record { tasks = standing (bytes_after bytes ends); counts = plus c (counts_of (all_turns bytes ends)) }
one_owner bytes [] [] c did = λ i. record { tasks = standing bytes; counts = plus_zero c i }
one_owner bytes [] (job ∷ sequence) c did = absurd did
one_owner bytes (Served write shut ∷ ends) [] c did = absurd did
one_owner bytes (Served write shut ∷ ends) (job ∷ sequence) c (does, did) =
    let t = turn_between bytes (written bytes write) in
    let step : after_job (record { tasks = standing bytes; counts = c }) job ≡ record { tasks = standing (written bytes write); counts = plus c (counts_of (turn_between bytes (written bytes write) ∷ [])) } = λ i. record { tasks = sym does.left i; counts = does_counted job (turn_between bytes (written bytes write)) c does i } in
    ap (λ run. after_jobs run sequence) step
    ∙ (one_owner (written bytes write) ends sequence (plus c (counts_of (turn_between bytes (written bytes write) ∷ []))) did
    ∙ (λ i. record { tasks = standing (bytes_after (written bytes write) ends); counts = counts-first c (turn_between bytes (written bytes write)) (all_turns (written bytes write) ends) i }))
one_owner bytes (Gone ∷ ends) sequence c did = one_owner bytes ends sequence c did
one_owner bytes (Told ∷ ends) sequence c did = one_owner bytes ends sequence c did
