-- Lemmas about the state of a board's worker after one more job.
use Rattle.std.proofs.Common.{◌≡◌, ℕ, ◌+◌, ◌<◌, ◌≤◌, Bool, true, false, if◌then◌else◌, nat_lt, List, [], ◌∷◌, ◌++◌, length, drop, refl, ap, sym, ◌∙◌, subst, arith}
use Rattle.std.specs.List.{count_by}
use Rattle.std.proofs.lemmas.Bool.{lt-ltb, ltb-true}
use Rattle.std.proofs.lemmas.List.Sums.{count_by-le-length}
use Rattle.line_board.specs.declared.board.TheConstants.{MAX_TASKS}
use Rattle.qolb_model.specs.declared.view.View.{View}
use Rattle.qolb_model.specs.Releasing.{IsTold}
use Rattle.qolb_script.specs.declared.schedule.TheConstants.{MAX_COMMANDS}
use Rattle.qolb_script.specs.declared.job.Job.{Job}
use Rattle.qolb_script.specs.declared.job.Job.TheVariants.{Put, Take}
use Rattle.qolb_work.specs.declared.board.BoardCounts.{BoardCounts}
use Rattle.qolb_work.specs.declared.board.BoardHand.{BoardHand}
use Rattle.qolb_work.specs.BoardRuns.{counts_after}
use Rattle.qolb_work.specs.BoardWork.{Turn, turns_of, HasTurns, HasStored, FoundFull, HasTakenOne, FoundNone, Does, HasDoneJobs, HasWorked, WasTold, AreWithin, counts_of, stores, finds_full, takes, finds_none}
use Rattle.qolb_work.proofs.Merging.{plus, did_long, did_more, counts_more, does_counted}

-- `nat_lt a b` is `false` if `a` equals `b`.
not_below : (a b : ℕ) → a ≡ b → nat_lt a b ≡ false
not_below a b e = go (nat_lt a b) refl
  where
    go : (v : Bool) → nat_lt a b ≡ v → nat_lt a b ≡ false
    go true h = absurd (let lt = ltb-true a b h in omega (arith, lt, e))
    go false h = h

-- The worker does one more job, with one more turn.
module _ {Line Port : Type 0} (belongs : Line → Port → Type 0) (view : Port → View) (line : Line) (worker : ℕ) (hand : BoardHand Port) (jobs : List Job) (h : HasWorked belongs view line worker hand jobs) where
  pub within_jobs : AreWithin (length jobs) hand.counts
  within_jobs = subst (λ c. AreWithin (length jobs) c) (sym h.counts_are) (record {
    stored = few stores;
    full = few finds_full;
    taken = few takes;
    empty = few finds_none;
  })
    where
      few : (p : Turn → Bool) → count_by p (turns_of (view hand.port)) ≤ length jobs
      few p =
          let a = count_by-le-length p (turns_of (view hand.port)) in
          let b = did_long (turns_of (view hand.port)) jobs h.did in
          omega (arith, a, b)

  pub few_in_all : length jobs < MAX_COMMANDS → AreWithin MAX_COMMANDS hand.counts
  few_in_all few =
      let w = within_jobs in record {
        stored = let n = w.stored in omega (arith, n, few);
        full = let n = w.full in omega (arith, n, few);
        taken = let n = w.taken in omega (arith, n, few);
        empty = let n = w.empty in omega (arith, n, few);
      }

  module _ (port : Port) (of_line : belongs line port) where
    pub then_told : HasTurns (view hand.port) (view port) [] → IsTold (view port) → AreWithin MAX_COMMANDS hand.counts → WasTold belongs view line worker (record { port = port; counts = hand.counts })
    then_told had told few = record {
      of_line = of_line;
      of_worker = had.node ∙ h.of_worker;
      at_rest = had.at_rest;
      unshut = had.unshut h.unshut;
      told = told;
      few = few;
    }

    worked_more : (job : Job) (turn : Turn) → HasTurns (view hand.port) (view port) (turn ∷ []) → Does job turn → HasWorked belongs view line worker (record { port = port; counts = counts_after job turn.found hand.counts }) (jobs ++ job ∷ [])
    worked_more job turn had does = record {
      of_line = of_line;
      of_worker = had.node ∙ h.of_worker;
      at_rest = had.at_rest;
      unshut = had.unshut h.unshut;
      did = subst (λ ts. HasDoneJobs ts (jobs ++ job ∷ [])) (sym had.turns) (did_more (turns_of (view hand.port)) jobs turn job h.did does);
      counts_are =
          does_counted job turn hand.counts does
          ∙ (ap (λ c. plus c (counts_of (turn ∷ []))) h.counts_are
          ∙ (sym (counts_more (turns_of (view hand.port)) turn)
          ∙ ap counts_of (sym had.turns)));
    }

    pub then_stored : (w task : ℕ) (job : Job) → job ≡ Put w task → (turn : Turn) → HasTurns (view hand.port) (view port) (turn ∷ []) → HasStored task turn → HasWorked belongs view line worker (record { port = port; counts = record hand.counts { stored = hand.counts.stored + 1 } }) (jobs ++ job ∷ [])
    then_stored w task job is turn had has =
        let test = lt-ltb (length turn.found) MAX_TASKS has.room in
        subst (λ (c : BoardCounts). HasWorked belongs view line worker (record { port = port; counts = c }) (jobs ++ job ∷ [])) (ap (λ b. if b then record hand.counts { stored = hand.counts.stored + 1 } else record hand.counts { full = hand.counts.full + 1 }) test)
        (subst (λ (j : Job). HasWorked belongs view line worker (record { port = port; counts = counts_after (Put w task) turn.found hand.counts }) (jobs ++ j ∷ [])) (sym is) (worked_more (Put w task) turn had (record { of_board = tt; few = let room = has.room in omega (arith, room); left = has.left ∙ ap (λ b. if b then turn.found ++ task ∷ [] else turn.found) (sym test) })))

    pub then_full : (w task : ℕ) (job : Job) → job ≡ Put w task → (turn : Turn) → HasTurns (view hand.port) (view port) (turn ∷ []) → FoundFull turn → HasWorked belongs view line worker (record { port = port; counts = record hand.counts { full = hand.counts.full + 1 } }) (jobs ++ job ∷ [])
    then_full w task job is turn had has =
        let test = not_below (length turn.found) MAX_TASKS has.full in
        subst (λ (c : BoardCounts). HasWorked belongs view line worker (record { port = port; counts = c }) (jobs ++ job ∷ [])) (ap (λ b. if b then record hand.counts { stored = hand.counts.stored + 1 } else record hand.counts { full = hand.counts.full + 1 }) test)
        (subst (λ (j : Job). HasWorked belongs view line worker (record { port = port; counts = counts_after (Put w task) turn.found hand.counts }) (jobs ++ j ∷ [])) (sym is) (worked_more (Put w task) turn had (record { of_board = tt; few = let full = has.full in omega (arith, full); left = has.left ∙ ap (λ b. if b then turn.found ++ task ∷ [] else turn.found) (sym test) })))

    pub then_taken : (w : ℕ) (job : Job) → job ≡ Take w → (turn : Turn) → HasTurns (view hand.port) (view port) (turn ∷ []) → HasTakenOne turn → HasWorked belongs view line worker (record { port = port; counts = record hand.counts { taken = hand.counts.taken + 1 } }) (jobs ++ job ∷ [])
    then_taken w job is turn had has =
        subst (λ (c : BoardCounts). HasWorked belongs view line worker (record { port = port; counts = c }) (jobs ++ job ∷ [])) (ap (λ found. counts_after (Take w) found hand.counts) has.found)
        (subst (λ (j : Job). HasWorked belongs view line worker (record { port = port; counts = counts_after (Take w) turn.found hand.counts }) (jobs ++ j ∷ [])) (sym is) (worked_more (Take w) turn had (record { of_board = tt; few = has.few; left = ap (drop 1) (sym has.found) })))

    pub then_none : (w : ℕ) (job : Job) → job ≡ Take w → (turn : Turn) → HasTurns (view hand.port) (view port) (turn ∷ []) → FoundNone turn → HasWorked belongs view line worker (record { port = port; counts = record hand.counts { empty = hand.counts.empty + 1 } }) (jobs ++ job ∷ [])
    then_none w job is turn had has =
        subst (λ (c : BoardCounts). HasWorked belongs view line worker (record { port = port; counts = c }) (jobs ++ job ∷ [])) (ap (λ found. counts_after (Take w) found hand.counts) has.found)
        (subst (λ (j : Job). HasWorked belongs view line worker (record { port = port; counts = counts_after (Take w) turn.found hand.counts }) (jobs ++ j ∷ [])) (sym is) (worked_more (Take w) turn had (record { of_board = tt; few = let none = ap length has.found in omega (arith, none); left = has.left ∙ ap (drop 1) (sym has.found) })))
