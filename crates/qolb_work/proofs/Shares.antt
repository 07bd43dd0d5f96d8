-- Proof that the sums over each worker's jobs add up to the sum over all jobs, because each job belongs to exactly one
-- worker.
use Rattle.std.proofs.Common.{◌≡◌, ◌≢◌, inl, inr, ℕ, zero, suc, ◌+◌, ◌<◌, ◌≤◌, ◌==◌, Bool, cond, List, [], ◌∷◌, length, All, None, Some, slice_get, refl, ap, sym, ◌∙◌, subst, arith}
use Rattle.std.specs.List.{sum_by, count_by}
use mathlib.Core.Bool.{not}
use Rattle.std.proofs.lemmas.Bool.{eq-eqb, ne_eqb, cases_eq}
use Rattle.std.proofs.lemmas.List.Sums.{sum_by-cons}
use Rattle.std.proofs.lemmas.List.Filters.{sum_by-filter_both}
use Rattle.std.proofs.lemmas.List.Elements.{All-head, All-tail}
use Rattle.qolb_model.proofs.Lists.{same_some}
use Rattle.qolb_script.specs.declared.job.Job.{Job}
use Rattle.qolb_script.specs.Jobs.{worker_of}
use Rattle.qolb_work.specs.Jobs.{jobs_of}

module _ (f : Job → ℕ) where
  -- the share of one worker: the sum over its jobs
  abbrev pub share : ℕ → List Job → ℕ
  share worker jobs = sum_by f (jobs_of worker jobs)

  -- the sum of the shares of the `n` workers that follow the first `from` workers
  abbrev pub shares : (from n : ℕ) → List Job → ℕ
  shares from zero jobs = 0
  shares from (suc n) jobs = share (from + 1) jobs + shares (from + 1) n jobs

  share_own : (worker : ℕ) (job : Job) (jobs : List Job) → worker_of job ≡ worker → share worker (job ∷ jobs) ≡ f job + share worker jobs
  share_own worker job jobs is =
      ap (λ b. sum_by f (cond b (job ∷ jobs_of worker jobs) (jobs_of worker jobs))) (eq-eqb (worker_of job) worker is)
      ∙ sum_by-cons f job (jobs_of worker jobs)

  share_other : (worker : ℕ) (job : Job) (jobs : List Job) → worker_of job ≢ worker → share worker (job ∷ jobs) ≡ share worker jobs
  share_other worker job jobs ne = ap (λ b. sum_by f (cond b (job ∷ jobs_of worker jobs) (jobs_of worker jobs))) (ne_eqb (worker_of job) worker ne)

  -- The share of a worker is at most the whole sum.
  pub share_within : (worker : ℕ) (jobs : List Job) → share worker jobs ≤ sum_by f jobs
  share_within worker jobs = let both = sum_by-filter_both (λ job. worker_of job == worker) (λ job. not (worker_of job == worker)) (λ job. refl) f jobs in omega (arith, both)

  -- A job that belongs to none of these workers adds nothing to their shares.
  shares_none : (from n : ℕ) (job : Job) (jobs : List Job) → worker_of job ≤ from → shares from n (job ∷ jobs) ≡ shares from n jobs
  shares_none from zero job jobs le = refl
  shares_none from (suc n) job jobs le =
      let a = share_other (from + 1) job jobs (λ e. omega (arith, e, le)) in
      let b = shares_none (from + 1) n job jobs (omega (arith, le)) in
      omega (arith, a, b)

  -- A job that belongs to one of these workers adds its value once.
  shares_one : (from n : ℕ) (job : Job) (jobs : List Job) → from < worker_of job → worker_of job ≤ from + n → shares from n (job ∷ jobs) ≡ f job + shares from n jobs
  shares_one from zero job jobs lt le = absurd (omega (arith, lt, le))
  shares_one from (suc n) job jobs lt le = elim (cases_eq (worker_of job) (from + 1)) [
    | inl e ↦
        let a = share_own (from + 1) job jobs e in
        let b = shares_none (from + 1) n job jobs (omega (arith, e)) in
        omega (arith, a, b)
    | inr ne ↦
        let a = share_other (from + 1) job jobs ne in
        let b = shares_one (from + 1) n job jobs (omega (arith, lt, ne)) (omega (arith, le)) in
        omega (arith, a, b)
  ]

  shares_nil : (from n : ℕ) → shares from n [] ≡ 0
  shares_nil from zero = refl
  shares_nil from (suc n) = let rest = shares_nil (from + 1) n in omega (arith, rest)

  -- The shares of all workers add up to the whole sum.
  pub shares_all : (n : ℕ) (jobs : List Job) → All (λ job. (1 ≤ worker_of job) × (worker_of job ≤ n)) jobs → shares 0 n jobs ≡ sum_by f jobs
  shares_all n [] all = shares_nil 0 n
  shares_all n (job ∷ jobs) all =
      let here = All-head (λ j. (1 ≤ worker_of j) × (worker_of j ≤ n)) job jobs all in
      let rest = shares_all n jobs (All-tail (λ j. (1 ≤ worker_of j) × (worker_of j ≤ n)) job jobs all) in
      shares_one 0 n job jobs (omega (arith, here.0)) (omega (arith, here.1)) ∙ (ap (λ m. f job + m) rest ∙ sym (sum_by-cons f job jobs))

  first : (from : ℕ) → from + 0 + 1 ≡ from + 1
  first from = omega arith

  shift : (from k : ℕ) → from + suc k + 1 ≡ from + 1 + k + 1
  shift from k = omega arith

  added : {H : Type 0} (g : H → ℕ) (hands : List H) (from : ℕ) (jobs : List Job) → ((k : ℕ) (h : H) → slice_get hands k ≡ Some h → g h ≡ share (from + k + 1) jobs) → sum_by g hands ≡ shares from (length hands) jobs
  added g [] from jobs each = refl
  added g (h ∷ hands) from jobs each =
      let here : g h ≡ share (from + 1) jobs = each 0 h refl ∙ ap (λ n. share n jobs) (first from) in
      let rest = added g hands (from + 1) jobs (λ k x at. each (suc k) x at ∙ ap (λ n. share n jobs) (shift from k)) in
      let whole = sum_by-cons g h hands in
      omega (arith, here, rest, whole)

  within : {H : Type 0} (g : H → ℕ) (hands : List H) (from : ℕ) (jobs : List Job) → ((k : ℕ) (h : H) → slice_get hands k ≡ Some h → g h ≤ share (from + k + 1) jobs) → sum_by g hands ≤ shares from (length hands) jobs
  within g [] from jobs each = omega arith
  within g (h ∷ hands) from jobs each =
      let here : g h ≤ share (from + 1) jobs = subst (λ n. g h ≤ share n jobs) (first from) (each 0 h refl) in
      let rest = within g hands (from + 1) jobs (λ k x at. subst (λ n. g x ≤ share n jobs) (shift from k) (each (suc k) x at)) in
      let whole = sum_by-cons g h hands in
      omega (arith, here, rest, whole)

  -- One of these workers has at least `more` less than its share.
  less : {H : Type 0} (g : H → ℕ) (hands : List H) (from : ℕ) (jobs : List Job) (place more : ℕ) (hand : H) → slice_get hands place ≡ Some hand → g hand + more ≤ share (from + place + 1) jobs
      → ((k : ℕ) (h : H) → slice_get hands k ≡ Some h → g h ≤ share (from + k + 1) jobs) → sum_by g hands + more ≤ shares from (length hands) jobs
  less {H} g [] from jobs place more hand at low each = absurd (let no : None ≡ Some hand = at in cc no)
  less g (h ∷ hands) from jobs zero more hand at low each =
      let here : g h + more ≤ share (from + 1) jobs = subst (λ n. g h + more ≤ share n jobs) (first from) (subst (λ x. g x + more ≤ share (from + 0 + 1) jobs) (sym (same_some at)) low) in
      let rest = within g hands (from + 1) jobs (λ k x at. subst (λ n. g x ≤ share n jobs) (shift from k) (each (suc k) x at)) in
      let whole = sum_by-cons g h hands in
      omega (arith, here, rest, whole)
  less g (h ∷ hands) from jobs (suc place) more hand at low each =
      let here : g h ≤ share (from + 1) jobs = subst (λ n. g h ≤ share n jobs) (first from) (each 0 h refl) in
      let rest = less g hands (from + 1) jobs place more hand at (subst (λ n. g hand + more ≤ share n jobs) (shift from place) low) (λ k x at. subst (λ n. g x ≤ share n jobs) (shift from k) (each (suc k) x at)) in
      let whole = sum_by-cons g h hands in
      omega (arith, here, rest, whole)

  module _ {H : Type 0} (g : H → ℕ) (hands : List H) (jobs : List Job) (all : All (λ job. (1 ≤ worker_of job) × (worker_of job ≤ length hands)) jobs) where
    start : (k : ℕ) → k + 1 ≡ 0 + k + 1
    start k = omega arith

    -- If each worker has its share, then all workers together have the whole sum.
    pub sum_of_all : ((k : ℕ) (h : H) → slice_get hands k ≡ Some h → g h ≡ sum_by f (jobs_of (k + 1) jobs)) → sum_by g hands ≡ sum_by f jobs
    sum_of_all each = added g hands 0 jobs (λ k h at. each k h at ∙ ap (λ n. share n jobs) (start k)) ∙ shares_all (length hands) jobs all

    -- If no worker has more than its share, and one worker has at least `more` less, then all workers together have at
    -- least `more` less than the whole sum.
    pub sum_with_less : (place more : ℕ) (hand : H) → slice_get hands place ≡ Some hand → g hand + more ≤ sum_by f (jobs_of (place + 1) jobs)
        → ((k : ℕ) (h : H) → slice_get hands k ≡ Some h → g h ≤ sum_by f (jobs_of (k + 1) jobs)) → sum_by g hands + more ≤ sum_by f jobs
    sum_with_less place more hand at low each =
        let sum = less g hands 0 jobs place more hand at (subst (λ n. g hand + more ≤ share n jobs) (start place) low) (λ k h at. subst (λ n. g h ≤ share n jobs) (start k) (each k h at)) in
        let whole = shares_all (length hands) jobs all in
        omega (arith, sum, whole)

-- If each worker's count is that of its own jobs, then the counts add up to the count of all jobs.
pub counts_of_all : (p : Job → Bool) {H : Type 0} (g : H → ℕ) (hands : List H) (jobs : List Job) → All (λ job. (1 ≤ worker_of job) × (worker_of job ≤ length hands)) jobs
    → ((k : ℕ) (h : H) → slice_get hands k ≡ Some h → g h ≡ count_by p (jobs_of (k + 1) jobs)) → sum_by g hands ≡ count_by p jobs
counts_of_all p g hands jobs all each = sum_of_all (λ job. cond (p job) 1 0) g hands jobs all each
