-- Lemmas about adding up the counts of all workers at a board, and about the report that is made from the sums.
use Rattle.std.proofs.Common.{◌≡◌, ℕ, zero, suc, ◌+◌, ◌*◌, ◌<◌, ◌≤◌, ◌==◌, inl, inr, Bool, true, false, cond, List, [], ◌∷◌, length, map, take, All, Some, None, slice_get, get_or, refl, ap, sym, ◌∙◌, subst, arith, zero-add}
use Rattle.std.specs.List.{sum_by, count_by}
use Rattle.std.proofs.lemmas.Bool.{cases_lt, eqb-true, eq-eqb, ne_eqb}
use Rattle.std.proofs.lemmas.List.{length-take-le}
use Rattle.std.proofs.lemmas.List.Sums.{sum_by-le, sum_by-cons, count_by-le-length, length-filter}
use Rattle.std.proofs.lemmas.List.Elements.{All-take, All-head, All-tail}
use Rattle.std.proofs.lemmas.Option.{slice_get-get_or}
use Rattle.line_lanes.specs.Line.{zeros}
use Rattle.qolb_model.specs.declared.request.Request.{Request}
use Rattle.qolb_model.specs.declared.end.End.{End}
use Rattle.qolb_model.specs.declared.config.LineConfig.{LineConfig}
use Rattle.qolb_model.specs.declared.config.TheConstants.{MAX_NODES}
use Rattle.qolb_model.specs.declared.view.View.{View}
use Rattle.qolb_model.specs.Ends.{bytes_after}
use Rattle.qolb_model.specs.Finishing.{IsFinished}
use Rattle.qolb_model.proofs.Lists.{never, same_some}
use Rattle.qolb_model.specs.Sums.{KnowsOwnPlaces, HasNotShut}
use Rattle.line_accounts.specs.Desks.{IsAtRest}
use Rattle.qolb_model.proofs.Sums.{sum-plus, sum-each, once_there}
use Rattle.line_accounts.proofs.Settlements.{sum-of_map}
use Rattle.line_board.specs.Board.{IsBoard, Stand}
use Rattle.line_board.specs.Law.{Changes}
use Rattle.line_board.specs.PutsAndTakes.{standing}
use Rattle.line_board.proofs.Steps.{standing-stand}
use Rattle.qolb_script.specs.declared.job.Job.{Job}
use Rattle.qolb_script.specs.declared.report.Report.TheVariants.{Board}
use Rattle.qolb_script.specs.declared.schedule.TheConstants.{MAX_COMMANDS}
use Rattle.qolb_script.specs.Jobs.{worker_of}
use Rattle.qolb_script.specs.WorkScript.{WorkScript, AreOfIts}
use Rattle.qolb_work.specs.Jobs.{is_put, is_take, puts_in, takes_in, jobs_of}
use Rattle.qolb_work.specs.JustOpened.{IsJustOpened, work_config}
use Rattle.qolb_work.specs.Workers.{AreDone, HasEnded}
use Rattle.qolb_work.specs.Reports.{IsDoneInTurn}
use Rattle.qolb_work.specs.declared.board.BoardCounts.{BoardCounts}
use Rattle.qolb_work.specs.declared.board.BoardHand.{BoardHand}
use Rattle.qolb_work.specs.BoardRuns.{BoardRun, after_jobs, no_counts, empty_board, report_of}
use Rattle.qolb_work.specs.BoardWork.{Turn, turns_of, node_turns, HasDoneJobs, HasWorked, WasTold, AreWithin, AreSums, counts_of, stores, finds_full, takes, finds_none}
use Rattle.qolb_work.proofs.Hands.{view_at, hand_at}
use Rattle.qolb_work.proofs.Shares.{counts_of_all}
use Rattle.qolb_work.proofs.Turns.{turns_whole, node_turns-unserved}
use Rattle.qolb_work.proofs.Merging.{Merged, all_turns, plus, merge, did_long, did_puts, did_takes, kept_run, counts_whole, one_owner}

-- The counts of the first `i` workers are small enough not to overflow.
module _ {Port : Type 0} (hands : List (BoardHand Port)) (i : ℕ) (all : BoardCounts) (few : length hands ≤ MAX_NODES) (small : All (λ hand. AreWithin MAX_COMMANDS hand.counts) hands) (lt : i < length hands) (sums : AreSums (take i hands) all) where
  each : (f : BoardHand Port → ℕ) → All (λ hand. f hand ≤ MAX_COMMANDS) hands → sum_by f (take i hands) ≤ MAX_NODES * MAX_COMMANDS
  each f low =
      let a = sum_by-le f MAX_COMMANDS (take i hands) (All-take (λ hand. f hand ≤ MAX_COMMANDS) i hands low) in
      let long = length-take-le i hands (omega (arith, lt)) in
      let b = subst (λ n. sum_by f (take i hands) ≤ n * MAX_COMMANDS) long a in
      omega (arith, b, lt, few)

  pub sums_small : AreWithin (MAX_NODES * MAX_COMMANDS) all
  sums_small = record {
    stored = subst (λ n. n ≤ MAX_NODES * MAX_COMMANDS) (sym sums.stored) (each (λ h. h.counts.stored) (λ k d below. (small k d below).stored));
    full = subst (λ n. n ≤ MAX_NODES * MAX_COMMANDS) (sym sums.full) (each (λ h. h.counts.full) (λ k d below. (small k d below).full));
    taken = subst (λ n. n ≤ MAX_NODES * MAX_COMMANDS) (sym sums.taken) (each (λ h. h.counts.taken) (λ k d below. (small k d below).taken));
    empty = subst (λ n. n ≤ MAX_NODES * MAX_COMMANDS) (sym sums.empty) (each (λ h. h.counts.empty) (λ k d below. (small k d below).empty));
  }

-- A port that was just opened has done no job.
pub worked_nothing : {Line Port : Type 0} (belongs : Line → Port → Type 0) (view : Port → View) (line : Line) (config : LineConfig) (worker : ℕ) (port : Port) → belongs line port → IsJustOpened config worker (view port) → HasWorked belongs view line worker (record { port = port; counts = no_counts }) []
worked_nothing belongs view line config worker port of_line (label, is) = record {
  of_line = of_line;
  of_worker = ap (λ (v : View). v.node) is;
  at_rest = subst IsAtRest (sym is) (record { quiet = refl; places = refl });
  unshut = subst (λ (v : View). HasNotShut v) (sym is) (λ p r write shut at same at_end. absurd (let no : None ≡ Some r = at in cc no));
  did = subst (λ (v : View). HasDoneJobs (turns_of v) []) (sym is) tt;
  counts_are = ap (λ (v : View). counts_of (turns_of v)) (sym is);
}

-- All jobs that a worker is given are its own.
own_jobs : (worker : ℕ) (jobs : List Job) (k : ℕ) (job : Job) → slice_get (jobs_of worker jobs) k ≡ Some job → worker_of job ≡ worker
own_jobs worker [] k job at = absurd (let no : None ≡ Some job = at in cc no)
own_jobs worker (j ∷ jobs) k job at = by (own_jobs worker jobs) (worker_of j == worker) refl k at
  where
    by : ((k : ℕ) (job : Job) → slice_get (jobs_of worker jobs) k ≡ Some job → worker_of job ≡ worker) → (b : Bool) → (worker_of j == worker) ≡ b → (k : ℕ) → slice_get (cond b (j ∷ jobs_of worker jobs) (jobs_of worker jobs)) k ≡ Some job → worker_of job ≡ worker
    by rest true e zero at = ap worker_of (sym (same_some at)) ∙ eqb-true (worker_of j) worker e
    by rest true e (suc k) at = rest k job at
    by rest false e k at = rest k job at

-- A worker that does not exist has no job.
no_jobs : (worker most : ℕ) (jobs : List Job) → All (λ job. (1 ≤ worker_of job) × (worker_of job ≤ most)) jobs → ((job : Job) → 1 ≤ worker_of job → worker_of job ≤ most → (worker_of job == worker) ≡ false) → jobs_of worker jobs ≡ []
no_jobs worker most [] all none = refl
no_jobs worker most (job ∷ jobs) all none =
    let here = All-head (λ j. (1 ≤ worker_of j) × (worker_of j ≤ most)) job jobs all in
    ap (λ b. cond b (job ∷ jobs_of worker jobs) (jobs_of worker jobs)) (none job here.0 here.1) ∙ no_jobs worker most jobs (All-tail (λ j. (1 ≤ worker_of j) × (worker_of j ≤ most)) job jobs all) none

-- The counts of a worker are at most the number of its jobs.
module _ {Line Port : Type 0} (belongs : Line → Port → Type 0) (view : Port → View) (line : Line) where
  few_turns : (p : Turn → Bool) (turns : List Turn) (worker : ℕ) (jobs : List Job) → length jobs ≤ MAX_COMMANDS → HasDoneJobs turns (jobs_of worker jobs) → count_by p turns ≤ MAX_COMMANDS
  few_turns p turns worker jobs most did =
      let a = count_by-le-length p turns in
      let b = did_long turns (jobs_of worker jobs) did in
      let c = length-filter (λ job. worker_of job == worker) jobs in
      let d = count_by-le-length (λ job. worker_of job == worker) jobs in
      omega (arith, a, b, c, d, most)

  pub counts_within : (hand : BoardHand Port) (jobs : List Job) (worker : ℕ) → length jobs ≤ MAX_COMMANDS → HasWorked belongs view line worker hand (jobs_of worker jobs) → AreWithin MAX_COMMANDS hand.counts
  counts_within hand jobs worker most h = subst (λ c. AreWithin MAX_COMMANDS c) (sym h.counts_are) (record {
    stored = few_turns stores (turns_of (view hand.port)) worker jobs most h.did;
    full = few_turns finds_full (turns_of (view hand.port)) worker jobs most h.did;
    taken = few_turns takes (turns_of (view hand.port)) worker jobs most h.did;
    empty = few_turns finds_none (turns_of (view hand.port)) worker jobs most h.did;
  })

  pub all_within : (hands : List (BoardHand Port)) (jobs : List Job) → length jobs ≤ MAX_COMMANDS → AreDone (HasEnded (HasWorked belongs view) (WasTold belongs view)) line jobs hands → All (λ hand. AreWithin MAX_COMMANDS hand.counts) hands
  all_within hands jobs most ended = λ k d below. elim (ended k (get_or hands k d) (slice_get-get_or hands k d below)) [
    | inl done ↦ counts_within (get_or hands k d) jobs (k + 1) most done
    | inr told ↦ told.few
  ]

  module _ (work : WorkScript) (hands : List (BoardHand Port)) (ports : List Port) (done : AreDone (HasWorked belongs view) line work.jobs hands) (are : ports ≡ map (λ hand. hand.port) hands) where
    abbrev Worked : ℕ → BoardHand Port → Type 0
    Worked worker hand = HasWorked belongs view line worker hand (jobs_of worker work.jobs)

    -- The ports of all workers know their own places in the order.
    pub places_all : (i : ℕ) (v : View) → slice_get (map view ports) i ≡ Some v → KnowsOwnPlaces v
    places_all i v at = let (hand, worked, is) = view_at view hands ports are Worked done i v at in subst (λ (w : View). KnowsOwnPlaces w) (sym is) worked.at_rest.places

    -- the counts of a board whose line is finished
    module _ (counts : BoardCounts) (label : ℕ) (config : LineConfig) (bytes tasks : List ℕ) (sums : AreSums hands counts) (many : length hands ≡ work.workers) (its : AreOfIts work) (config_is : config ≡ work_config work.workers)
        (f : IsFinished IsBoard Changes label config (map view ports) bytes) (stand : Stand bytes tasks) where
      abbrev order : List Request
      order = f.history.order

      abbrev ends : List End
      ends = f.history.ends

      abbrev opening : List ℕ
      opening = config.opening.bytes

      workers_are : All (λ job. (1 ≤ worker_of job) × (worker_of job ≤ length hands)) work.jobs
      workers_are = λ k d below. let h = its k d below in (h.0, subst (λ n. worker_of (get_or work.jobs k d) ≤ n) (sym many) h.1)

      nodes_are : config.nodes ≡ length hands
      nodes_are = ap (λ (t : LineConfig). t.nodes) config_is ∙ sym many

      of_line : (p : ℕ) (r : Request) → slice_get order p ≡ Some r → (1 ≤ r.node) × (r.node ≤ config.nodes)
      of_line p r at =
          let (w, among, is) = f.there 1 (omega arith) f.may_open.nodes.some in
          subst (λ (t : LineConfig). (1 ≤ r.node) × (r.node ≤ t.nodes)) f.config_is ((f.history.known w among).of_line p r at)

      -- The turns that a port knows are its node's turns in the history of the line.
      known_turns : (i : ℕ) (v : View) → slice_get (map view ports) i ≡ Some v → turns_of v ≡ node_turns v.node opening order ends
      known_turns i v at = turns_whole f.history.config order ends f.history.clear v (f.history.known v (i, at)) (places_all i v at) ∙ ap (λ (t : LineConfig). node_turns v.node t.opening.bytes order ends) f.config_is

      none_of : (worker : ℕ) → ((n : ℕ) → 1 ≤ n → n ≤ length hands → (n == worker) ≡ false) → HasDoneJobs (node_turns worker opening order ends) (jobs_of worker work.jobs)
      none_of worker none =
          let no_turn : node_turns worker opening order ends ≡ [] = node_turns-unserved worker opening order ends (λ p r e at at_e same.
          let within = of_line p r at in
          absurd (let yes : (r.node == worker) ≡ true = eq-eqb r.node worker same in never yes (none r.node within.0 (omega (arith, within.1, nodes_are))))) in
          let no_job = no_jobs worker (length hands) work.jobs workers_are (λ job first last. none (worker_of job) first last) in
          subst (λ ts. HasDoneJobs ts (jobs_of worker work.jobs)) (sym no_turn) (subst (HasDoneJobs []) (sym no_job) tt)

      node_did : (worker : ℕ) → HasDoneJobs (node_turns worker opening order ends) (jobs_of worker work.jobs)
      node_did zero = none_of 0 (λ n first last. ne_eqb n 0 (λ e. omega (arith, e, first)))
      node_did (suc k) = elim (cases_lt k (length hands)) [
        | inl lt ↦
            let (i, hand, at, worked) = hand_at view hands ports are Worked done (suc k) (omega arith) (omega (arith, lt)) in
            let is = known_turns i (view hand.port) at ∙ ap (λ n. node_turns n opening order ends) worked.of_worker in
            subst (λ ts. HasDoneJobs ts (jobs_of (suc k) work.jobs)) is worked.did
        | inr ge ↦ none_of (suc k) (λ n first last. ne_eqb n (suc k) (λ e. omega (arith, e, last, ge)))
      ]

      merged : Merged opening ends (λ worker. jobs_of worker work.jobs)
      merged = merge opening order ends (λ worker. jobs_of worker work.jobs) (omega (arith, f.all_ended)) (λ worker k job at. own_jobs worker work.jobs k job at) node_did

      once : (p : ℕ) (r : Request) → slice_get order p ≡ Some r → count_by (λ (v : View). r.node == v.node) (map view ports) ≡ 1
      once p r at = once_there (map view ports) r.node f.once (f.there r.node (of_line p r at).0 (of_line p r at).1)

      by_hands : (f : View → ℕ) (g : BoardHand Port → ℕ) → ((k : ℕ) (hand : BoardHand Port) → slice_get hands k ≡ Some hand → f (view hand.port) ≡ g hand) → sum_by f (map view ports) ≡ sum_by g hands
      by_hands f g each =
          sum-of_map f view ports
          ∙ (ap (sum_by (λ port. f (view port))) are
          ∙ (of_map (λ port. f (view port)) hands
          ∙ sum-each (λ hand. f (view hand.port)) g hands each))
        where
          of_map : (f : Port → ℕ) (hands : List (BoardHand Port)) → sum_by f (map (λ hand. hand.port) hands) ≡ sum_by (λ hand. f hand.port) hands
          of_map f [] = refl
          of_map f (h ∷ hands) = sum_by-cons f h.port (map (λ hand. hand.port) hands) ∙ (ap (λ n. f h.port + n) (of_map f hands) ∙ sym (sum_by-cons (λ hand. f hand.port) h hands))

      counted : (p : Turn → Bool) (g : BoardHand Port → ℕ) → ((k : ℕ) (hand : BoardHand Port) → slice_get hands k ≡ Some hand → count_by p (turns_of (view hand.port)) ≡ g hand) → sum_by g hands ≡ count_by p (all_turns opening ends)
      counted p g each =
          sym (by_hands (λ (v : View). count_by p (turns_of v)) g each)
          ∙ (sum-each (λ (v : View). count_by p (turns_of v)) (λ (v : View). count_by p (node_turns v.node opening order ends)) (map view ports) (λ i v at. ap (count_by p) (known_turns i v at))
          ∙ counts_whole p (map view ports) opening order ends (omega (arith, f.all_ended)) once)

      counts_all : counts ≡ counts_of (all_turns opening ends)
      counts_all = λ i. record {
        stored = (sums.stored ∙ counted stores (λ hand. hand.counts.stored) (λ k hand at. ap (λ (c : BoardCounts). c.stored) (sym (done k hand at).counts_are))) i;
        full = (sums.full ∙ counted finds_full (λ hand. hand.counts.full) (λ k hand at. ap (λ (c : BoardCounts). c.full) (sym (done k hand at).counts_are))) i;
        taken = (sums.taken ∙ counted takes (λ hand. hand.counts.taken) (λ k hand at. ap (λ (c : BoardCounts). c.taken) (sym (done k hand at).counts_are))) i;
        empty = (sums.empty ∙ counted finds_none (λ hand. hand.counts.empty) (λ k hand at. ap (λ (c : BoardCounts). c.empty) (sym (done k hand at).counts_are))) i;
      }

      opened_empty : standing opening ≡ []
      opened_empty = ap (λ (t : LineConfig). standing t.opening.bytes) config_is ∙ standing-stand zeros [] refl

      left_are : standing (bytes_after opening ends) ≡ tasks
      left_are = ap standing (sym f.result) ∙ standing-stand bytes tasks stand

      plus_none : (c : BoardCounts) → plus no_counts c ≡ c
      plus_none c = λ i. record { stored = zero-add c.stored i; full = zero-add c.full i; taken = zero-add c.taken i; empty = zero-add c.empty i }

      -- One owner who does the merged jobs has the same tasks and the same counts.
      run_is : after_jobs empty_board merged.sequence ≡ record { tasks = tasks; counts = counts }
      run_is =
          ap (λ (ts : List ℕ). after_jobs (record { tasks = ts; counts = no_counts }) merged.sequence) (sym opened_empty)
          ∙ (one_owner opening ends merged.sequence no_counts merged.did
          ∙ (λ i. record { tasks = left_are i; counts = (plus_none (counts_of (all_turns opening ends)) ∙ sym counts_all) i }))

      pub in_turn : IsDoneInTurn work (Board counts.stored counts.full counts.taken counts.empty (length tasks))
      in_turn = record { sequence = merged.sequence; interleaves = merged.each; report_is = ap report_of (sym run_is) }

      pub kept : counts.stored ≡ counts.taken + length tasks
      kept =
          let e = kept_run empty_board merged.sequence in
          let a = ap (λ (run : BoardRun). run.counts.stored) run_is in
          let b = ap (λ (run : BoardRun). run.counts.taken + length run.tasks) run_is in
          omega (arith, e, a, b)

      pub puts : counts.stored + counts.full ≡ puts_in work.jobs
      puts =
          let e = counts_of_all is_put (λ hand. hand.counts.stored + hand.counts.full) hands work.jobs workers_are (λ k hand at. ap (λ (c : BoardCounts). c.stored + c.full) (done k hand at).counts_are ∙ did_puts (turns_of (view hand.port)) (jobs_of (k + 1) work.jobs) (done k hand at).did) in
          let s = sum-plus (λ hand. hand.counts.stored) (λ hand. hand.counts.full) hands in
          let a = sums.stored in
          let b = sums.full in
          omega (arith, e, s, a, b)

      pub takes_are : counts.taken + counts.empty ≡ takes_in work.jobs
      takes_are =
          let e = counts_of_all is_take (λ hand. hand.counts.taken + hand.counts.empty) hands work.jobs workers_are (λ k hand at. ap (λ (c : BoardCounts). c.taken + c.empty) (done k hand at).counts_are ∙ did_takes (turns_of (view hand.port)) (jobs_of (k + 1) work.jobs) (done k hand at).did) in
          let s = sum-plus (λ hand. hand.counts.taken) (λ hand. hand.counts.empty) hands in
          let a = sums.taken in
          let b = sums.empty in
          omega (arith, e, s, a, b)
