-- Lemmas about how the states of workers are created, collected from the threads, and added up.
use Rattle.std.proofs.Common.{◌≡◌, ℕ, zero, suc, ◌+◌, ◌<◌, ◌≤◌, ◌==◌, inl, inr, List, [], ◌∷◌, ◌++◌, length, map, take, All, option_map, Option, Some, None, slice_get, refl, ap, sym, ◌∙◌, subst, arith}
use Rattle.std.proofs.lemmas.List.{length-take-le}
use Rattle.std.proofs.lemmas.List.Sums.{length-filter, count_by-le-length}
use Rattle.std.proofs.lemmas.Option.{slice_get_within, get_or_from_slice_get}
use Rattle.std.specs.Prelude.{MatchOption}
use Rattle.qolb_model.proofs.Lists.{same_some}
use Rattle.qolb_script.specs.declared.job.Job.{Job}
use Rattle.qolb_script.specs.Jobs.{worker_of}
use Rattle.qolb_script.specs.declared.schedule.TheConstants.{MAX_COMMANDS}
use Rattle.qolb_model.specs.declared.config.LineConfig.{LineConfig}
use Rattle.qolb_model.specs.declared.view.View.{View}
use Rattle.qolb_model.specs.Opening.{AreNew, new_view}
use Rattle.line_blocking.specs.Places.{AllAt}
use Rattle.qolb_work.specs.JustOpened.{AreJustOpened}
use Rattle.qolb_work.specs.Jobs.{jobs_of}
use Rattle.qolb_work.specs.Workers.{AreBack, AreDone, AreFresh, AreRefused, HasEnded, IsFirstGone}
use Rattle.qolb_work.specs.declared.work.RunError.TheVariants.{Stalled}

-- An element of a mapped list is the image of the element at the same place.
pub come_from : {A B : Type 0} (f : A → B) (found : Option A) (b : B) → option_map f found ≡ Some b → (a : A) × (found ≡ Some a) × (f a ≡ b)
come_from f None b is = absurd (let no : None ≡ Some b = is in cc no)
come_from f (Some a) b is = (a, refl, same_some is)

-- As long as a worker has a job left, it has done fewer jobs than a script may have.
pub few_done : (worker : ℕ) (jobs : List Job) (i : ℕ) → i < length jobs → length jobs ≤ MAX_COMMANDS → length (jobs_of worker (take i jobs)) < MAX_COMMANDS
few_done worker jobs i lt most =
    let kept = length-filter (λ job. worker_of job == worker) (take i jobs) in
    let few = count_by-le-length (λ job. worker_of job == worker) (take i jobs) in
    let long = length-take-le i jobs (omega (arith, lt)) in
    omega (arith, kept, few, long, lt, most)

-- the first worker that gave up, after workers that did not
gone_at : {H : Type 0} (hands : List H) (rest : List (Option H)) → slice_get (map Some hands ++ None ∷ rest) (length hands) ≡ Some None
gone_at [] rest = refl
gone_at (h ∷ hands) rest = gone_at hands rest

there : {H : Type 0} (hands : List H) (rest : List (Option H)) (j : ℕ) → j < length hands → (hand : H) × (slice_get (map Some hands ++ rest) j ≡ Some (Some hand))
there [] rest j lt = absurd (omega (arith, lt))
there (h ∷ hands) rest zero lt = (h, refl)
there (h ∷ hands) rest (suc j) lt = there hands rest j (omega (arith, lt))

pub first_gone : {H : Type 0} (hands : List H) (rest back : List (Option H)) (number : ℕ) → map Some hands ++ None ∷ rest ≡ back → number ≡ length hands + 1 → IsFirstGone back (Stalled number)
first_gone {H} hands rest back number is e = (
  length hands,
  e,
  ap (λ b. slice_get b (length hands)) (sym is) ∙ gone_at hands rest,
  λ j lt. let t = there hands (None ∷ rest) j lt in (t.0, ap (λ b. slice_get b j) (sym is) ∙ t.1),
)

-- the worker at a place, if every worker came back
slice_get-map_some : {H : Type 0} (hands : List H) (k : ℕ) (hand : H) → slice_get hands k ≡ Some hand → slice_get (map Some hands) k ≡ Some (Some hand)
slice_get-map_some [] k hand at = absurd (let no : None ≡ Some hand = at in cc no)
slice_get-map_some (h ∷ hands) zero hand at = ap Some at
slice_get-map_some (h ∷ hands) (suc k) hand at = slice_get-map_some hands k hand at

pub done_of : {JobTarget WorkerState : Type 0} (has_done : JobTarget → ℕ → WorkerState → List Job → Type 0) (site : JobTarget) (jobs : List Job) (back : List (Option WorkerState)) (hands : List WorkerState)
    → map Some hands ≡ back → AreBack has_done site jobs back → AreDone has_done site jobs hands
done_of has_done site jobs back hands is all = λ k hand at. all k hand (ap (λ b. slice_get b k) (sym is) ∙ slice_get-map_some hands k hand at)

-- If no worker was told that a line is closed, every worker that has ended has done its jobs.
pub done_if_untold : {JobTarget WorkerState : Type 0} (has_done : JobTarget → ℕ → WorkerState → List Job → Type 0) (was_told : JobTarget → ℕ → WorkerState → Type 0) (site : JobTarget) (jobs : List Job) (hands : List WorkerState)
    → ((k : ℕ) (hand : WorkerState) → slice_get hands k ≡ Some hand → ¬ was_told site (k + 1) hand) → AreDone (HasEnded has_done was_told) site jobs hands → AreDone has_done site jobs hands
done_if_untold has_done was_told site jobs hands none ended = λ k hand at. elim (ended k hand at) [
  | inl done ↦ done
  | inr told ↦ absurd (none k hand at told)
]

-- A property of each element still holds after an element with this property was appended.
pub each_pushed : {X : Type 0} (P : ℕ → X → Type 0) (xs : List X) (x : X) → ((k : ℕ) (y : X) → slice_get xs k ≡ Some y → P k y) → P (length xs) x → (k : ℕ) (y : X) → slice_get (xs ++ x ∷ []) k ≡ Some y → P k y
each_pushed P [] x all own zero y at = subst (P 0) (same_some at) own
each_pushed P [] x all own (suc k) y at = absurd (let no : None ≡ Some y = at in cc no)
each_pushed P (z ∷ xs) x all own zero y at = all 0 y at
each_pushed P (z ∷ xs) x all own (suc k) y at = each_pushed (λ n. P (suc n)) xs x (λ j i. all (suc j) i) own k y at

-- the results of the threads, each at its place
module _ {JobTarget WorkerState : Type 0} (has_done : JobTarget → ℕ → WorkerState → List Job → Type 0) (may_refuse : ℕ → Type 0) (site : JobTarget) (jobs : List Job) where
  abbrev MayGiveBack : ℕ → Option WorkerState → Type 0
  MayGiveBack k back = MatchOption back (may_refuse (k + 1)) (λ hand. has_done site (k + 1) hand (jobs_of (k + 1) jobs))

  given_at : (all : List (Option WorkerState)) → AllAt MayGiveBack all → (k : ℕ) (back : Option WorkerState) → slice_get all k ≡ Some back → MayGiveBack k back
  given_at all each k back at = subst (λ (back : Option WorkerState). MayGiveBack k back) (get_or_from_slice_get all k back back at) (each k back (slice_get_within all k back at))

  pub back_at : (all : List (Option WorkerState)) → AllAt MayGiveBack all → AreBack has_done site jobs all
  back_at all each = λ k hand at. given_at all each k (Some hand) at

  pub refused_at : (all : List (Option WorkerState)) → AllAt MayGiveBack all → AreRefused may_refuse all
  refused_at all each = λ k at. given_at all each k None at

-- the ports in the state in which they were opened
get_map : {P V : Type 0} (view : P → V) (ports : List P) (k : ℕ) (port : P) → slice_get ports k ≡ Some port → slice_get (map view ports) k ≡ Some (view port)
get_map view [] k port at = absurd (let no : None ≡ Some port = at in cc no)
get_map view (p ∷ ports) zero port at = ap (λ q. Some (view q)) (same_some at)
get_map view (p ∷ ports) (suc k) port at = get_map view ports k port at

pub just_opened : {Line Port : Type 0} (belongs : Line → Port → Type 0) (view : Port → View) (config_of : Line → LineConfig) (line : Line) (label : ℕ) (config : LineConfig) (ports : List Port) → config_of line ≡ config → All (belongs line) ports → AreNew label config (map view ports) → AreJustOpened belongs view config_of line ports
just_opened {Line} {Port} belongs view config_of line label config ports are own new = λ k port at.
    let at_view = get_map view ports k port at in
    let within : k < config.nodes = subst (λ n. k < n) new.count (slice_get_within (map view ports) k (view port) at_view) in (
      subst (belongs line) (get_or_from_slice_get ports k port port at) (own k port (slice_get_within ports k port at)),
      (label, same_some (sym at_view ∙ new.each k within) ∙ ap (λ (t : LineConfig). new_view label t (k + 1)) (sym are)),
    )

-- `AreFresh` holds of an empty list of workers.
pub nobody : {JobTarget WorkerState : Type 0} (has_done : JobTarget → ℕ → WorkerState → List Job → Type 0) (site : JobTarget) → AreFresh has_done site []
nobody {JobTarget} {WorkerState} has_done site = λ k hand at. absurd (let no : None ≡ Some hand = at in cc no)
