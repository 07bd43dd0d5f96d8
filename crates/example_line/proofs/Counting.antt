-- Lemmas for the counter: the effect of one addition, the ports before the first addition, and the number at the end.
use Rattle.std.proofs.Common.{◌≡◌, ◌≢◌, ℕ, suc, ◌+◌, ◌-◌, ◌*◌, ◌%◌, ◌^◌, ◌<◌, inl, inr, true, false, refl, List, [], ◌∷◌, length, map, Some, None, option_map, slice_get, get_or, IsTrue, ap, sym, subst, ◌∙◌, arith}
use Rattle.std.specs.List.{sum_by}
use Rattle.std.proofs.lemmas.List.Sums.{sum_by-cons}
use Rattle.std.proofs.lemmas.Option.{slice_get_within, slice_get-get_or, slice_get-map, get_or_from_slice_get}
use Rattle.std.proofs.lemmas.List.{length-map}
use Rattle.std.specs.Prelude.{IfOk}
use Rattle.std.specs.Result.{result_ok}
use Rattle.std.specs.declared.result.Result.{Result}
use Rattle.std.specs.declared.result.Result.TheVariants.{Ok, Err}
use Rattle.line_lanes.specs.Lane.{lane_of}
use Rattle.line_lanes.specs.Line.{zeros}
use Rattle.qolb_model.specs.declared.end.End.{End}
use Rattle.qolb_model.specs.declared.end.End.TheVariants.{Served, Gone, Told}
use Rattle.qolb_model.specs.declared.config.LineConfig.{LineConfig}
use Rattle.qolb_model.specs.declared.view.View.{View}
use Rattle.qolb_model.specs.declared.write.Write.{Write}
use Rattle.qolb_model.specs.Ends.{written, bytes_after}
use Rattle.qolb_model.specs.Leases.{closes}
use Rattle.qolb_model.specs.PortStates.{may_ask, state_after}
use Rattle.qolb_model.specs.Views.{bytes_of}
use Rattle.qolb_model.specs.OneHistory.{OneHistory, IsAmong}
use Rattle.qolb_model.specs.Sound.{KnowsOwnHistory, Continues}
use Rattle.qolb_model.specs.Enqueueing.{Asks}
use Rattle.qolb_model.specs.AtTurn.{IsGranted}
use Rattle.qolb_model.specs.Releasing.{IsTold}
use Rattle.qolb_model.specs.Finishing.{IsFinished}
use Rattle.qolb_model.specs.Opening.{new_view, Opens}
use Rattle.qolb_model.specs.Calls.{Releases}
use Rattle.qolb_model.specs.Sums.{sum_of_all, sum_of_own, KnowsOwnPlaces, HasNotShut}
use Rattle.qolb_model.proofs.Lists.{same_some}
use Rattle.qolb_model.proofs.Agreeing.{among_map_port}
use Rattle.qolb_model.proofs.Sums.{sums_of_ports, sum-each}
use Rattle.qolb_model.proofs.OwnTurns.{quiet_after, may_ask-state_after, places_same, places_asked, NoneServedBeyond, sums_kept, unshut_kept, granted_beyond, withdrawn_beyond, told_beyond, busy_beyond, more_turns, unshut_released, unused_places, unused_sum, unused_unshut}
use Rattle.qolb_model.proofs.Unshut.{untold}
use Rattle.line_blocking.specs.declared.timed.TimedAcquire.{TimedAcquire}
use Rattle.line_blocking.specs.declared.timed.TimedAcquire.TheVariants as timed_acquire
use Rattle.line_blocking.specs.Acquiring.{IsLate, AcquiresTimed}
use Rattle.example_line.specs.Counter.{rise, added_by, Adds, AddsJust, HasAdded}

-- adding 1 modulo 2^64 is a rise by 1
one_more : (x y : ℕ) → y ≡ (x + 1) % 2 ^ 64 → (y + (2 ^ 64 - x % 2 ^ 64)) % 2 ^ 64 ≡ 1
one_more x y e = omega (arith, e)

-- a port that released the line may make a request
pub released_quiet : (allows : List ℕ → List ℕ → Type 0) (held new : View) (write : Write) → Releases allows false held new write → may_ask new.state ≡ true
released_quiet allows held new write releases =
    let shut = closes held.config.lease held.ends false in
    quiet_after (length held.ends + 1) (state_after shut) new (may_ask-state_after shut) releases.ends_turn.releases

module _ (allows : List ℕ → List ℕ → Type 0) (old mid : View) (quiet : may_ask old.state ≡ true) (past : KnowsOwnHistory old) (places : KnowsOwnPlaces old) (c : Continues allows old mid) (asks : Asks old mid) where
  -- a port that requested the line, holds it, and adds 1
  module _ (new : View) (turn write : Write) (granted : IsGranted mid turn) (releases : Releases allows false mid new write) (one : lane_of write.bytes.bytes 0 ≡ (lane_of (bytes_of mid) 0 + 1) % 2 ^ 64) where
    pub round_places : KnowsOwnPlaces new
    round_places = places_same mid new releases.continues.extends releases.continues.history releases.ends_turn.count (places_asked old mid c.extends c.history asks places)

    pub round_unshut : HasNotShut old → HasNotShut new
    round_unshut unshut = unshut_released allows mid new write releases granted.at_turn (unshut_kept old mid c.extends c.history quiet past (granted_beyond old mid c.extends c.history turn asks places granted) unshut)

    pub round_added : added_by new ≡ added_by old + 1
    round_added =
        more_turns allows mid new write releases granted.at_turn rise
        ∙ (ap (λ n. sum_of_own rise mid + n) (one_more (lane_of (bytes_of mid) 0) (lane_of write.bytes.bytes 0) one)
        ∙ ap (λ n. n + 1) (sums_kept old mid c.extends c.history quiet past (granted_beyond old mid c.extends c.history turn asks places granted) rise))

  -- a port that made a request and is told that the line is closed
  module _ (told : IsTold mid) where
    pub told_places : KnowsOwnPlaces mid
    told_places = places_asked old mid c.extends c.history asks places

    pub told_unshut : HasNotShut old → HasNotShut mid
    told_unshut = unshut_kept old mid c.extends c.history quiet past (told_beyond old mid c.extends c.history asks places told)

    pub told_added : added_by mid ≡ added_by old
    told_added = sums_kept old mid c.extends c.history quiet past (told_beyond old mid c.extends c.history asks places told) rise

-- a port that timed out: its request was withdrawn, or the port was busy and made none
module _ (allows : List ℕ → List ℕ → Type 0) (old new : View) (quiet : may_ask old.state ≡ true) (past : KnowsOwnHistory old) (places : KnowsOwnPlaces old) where
  none_added : Continues allows old new → KnowsOwnPlaces new → NoneServedBeyond old new → AddsJust 0 old new
  none_added c known beyond = record {
    places = known;
    unshut = unshut_kept old new c.extends c.history quiet past beyond;
    added = let kept = sums_kept old new c.extends c.history quiet past beyond rise in omega (arith, kept);
  }

  late_adds_nothing : Continues allows old new → IsLate old new → AddsJust 0 old new
  late_adds_nothing c (inl (asks, joined, withdrawn)) =
      none_added c (places_asked old new c.extends c.history asks places) (withdrawn_beyond old new c.extends c.history asks places withdrawn)
  late_adds_nothing c (inr busy) =
      none_added c (places_same old new c.extends c.history busy.count places) (busy_beyond old new c.extends c.history places busy)

  pub ungranted_adds_nothing : (turn : Write) (got : TimedAcquire) → AcquiresTimed allows old new turn got → got ≢ timed_acquire.Granted → AddsJust 0 old new
  ungranted_adds_nothing turn timed_acquire.Granted a other = absurd (other refl)
  ungranted_adds_nothing turn timed_acquire.TimedOut a other = late_adds_nothing a.continues (a.late refl)
  ungranted_adds_nothing turn timed_acquire.Closed a other =
      let asks = a.asks (λ e. cc e) in
      none_added a.continues (places_asked old new a.continues.extends a.continues.history asks places) (told_beyond old new a.continues.extends a.continues.history asks places (a.told refl))

-- the first lane after all ends, modulo 2^64
lane_step : (b n s l : ℕ) → l % 2 ^ 64 ≡ (n + s) % 2 ^ 64 → l % 2 ^ 64 ≡ (b + ((n + (2 ^ 64 - b % 2 ^ 64)) % 2 ^ 64 + s)) % 2 ^ 64
lane_step b n s l e = omega (arith, e)

lane_after : (bytes : List ℕ) (ends : List End) → lane_of (bytes_after bytes ends) 0 % 2 ^ 64 ≡ (lane_of bytes 0 + sum_of_all rise bytes ends) % 2 ^ 64
lane_after bytes [] = let e : lane_of bytes 0 ≡ lane_of bytes 0 + 0 = omega arith in ap (λ n. n % 2 ^ 64) e
lane_after bytes (Served write shut ∷ ends) =
    let now = written bytes write in
    lane_step (lane_of bytes 0) (lane_of now 0) (sum_of_all rise now ends) (lane_of (bytes_after now ends) 0) (lane_after now ends)
lane_after bytes (Gone ∷ ends) = lane_after bytes ends
lane_after bytes (Told ∷ ends) = lane_after bytes ends

pub sum-same : (n : ℕ) (views : List View) → sum_by (λ (v : View). n) views ≡ length views * n
sum-same n [] = omega arith
sum-same n (v ∷ views) = let rest = sum-same n views in sum_by-cons (λ (w : View). n) v views ∙ (ap (λ m. n + m) rest ∙ one-more (length views))
  where
    one-more : (k : ℕ) → n + k * n ≡ suc k * n
    one-more k = grind arith

-- the number on a finished line, if each port added `rounds` and the first lane began as 0
pub counted : (good : List ℕ → Type 0) (allows : List ℕ → List ℕ → Type 0) (label : ℕ) (config : LineConfig) (views : List View) (bytes : List ℕ) (rounds : ℕ)
    → IsFinished good allows label config views bytes → config.lease ≡ None → lane_of config.opening.bytes 0 ≡ 0 → ((v : View) → IsAmong views v → HasAdded rounds v)
    → lane_of bytes 0 % 2 ^ 64 ≡ (length views * rounds) % 2 ^ 64
counted good allows label config views bytes rounds f none opening all =
    let places = λ (v : View) (among : IsAmong views v). (all v among).places in
    let each : (i : ℕ) (v : View) → slice_get views i ≡ Some v → sum_of_own rise v ≡ rounds =
    λ i v at. elim ((all v (i, at)).added) [
      | inl e ↦ e
      | inr told ↦ absurd (untold good allows label config views bytes f places (λ w among. (all w among).unshut) none v (i, at) told)
    ] in
    let sum : sum_of_all rise config.opening.bytes f.history.ends ≡ length views * rounds =
    sums_of_ports good allows rise label config views bytes f places ∙ (sum-each (sum_of_own rise) (λ v. rounds) views each ∙ sum-same rounds views) in
    ap (λ b. lane_of b 0 % 2 ^ 64) f.result
    ∙ (lane_after config.opening.bytes f.history.ends
    ∙ (ap (λ n. (n + sum_of_all rise config.opening.bytes f.history.ends) % 2 ^ 64) opening
    ∙ (ap (λ n. (0 + n) % 2 ^ 64) sum
    ∙ from-zero (length views * rounds))))
  where
    from-zero : (n : ℕ) → (0 + n) % 2 ^ 64 ≡ n % 2 ^ 64
    from-zero n = let e : 0 + n ≡ n = omega arith in ap (λ m. m % 2 ^ 64) e

-- a port that had made no request before these additions
pub all_added : (rounds : ℕ) (old new : View) → OneHistory (old ∷ []) → old.count ≡ 0 → (KnowsOwnPlaces old → Adds rounds old new) → HasAdded rounds new
all_added rounds old new h unused adds =
    let a = adds (unused_places old h unused) in
    let none : added_by old ≡ 0 = unused_sum old h unused rise in record {
      places = a.places;
      unshut = a.unshut (unused_unshut old h unused);
      added = elim a.all [
        | inl e ↦ inl (let is = a.added in omega (arith, is, none, e))
        | inr told ↦ inr told
      ];
    }

-- the promise about the value of an `Ok`
pub of_ok : {T E : Type 0} (P : T → Type 0) (r : Result T E) (x : T) → result_ok r ≡ Some x → IfOk r P → P x
of_ok P (Ok y) x is h = subst P (same_some is) h
of_ok P (Err e) x is h = absurd (let no : None ≡ Some x = is in cc no)

-- the ports of an opened line satisfy the task's `pre`
module _ {Port : Type 0} (view : Port → View) (belongs : Port → Type 0) where
  pub opened_many : (label_of label : ℕ) (config_of config : LineConfig) (ports : List Port) → Opens view belongs label_of config_of label config ports → length ports ≡ config.nodes
  opened_many label_of label config_of config ports opens = sym (length-map ports view) ∙ opens.new.count

  pub fits_all : (label_of label : ℕ) (config_of config : LineConfig) (ports : List Port) → Opens view belongs label_of config_of label config ports
      → (i : ℕ) (d : Port) → i < length ports → belongs (get_or ports i d) × IsTrue (may_ask (view (get_or ports i d)).state) × ((view (get_or ports i d)).count ≡ 0)
  fits_all label_of label config_of config ports opens i d lt =
      let many = opened_many label_of label config_of config ports opens in
      let is : view (get_or ports i d) ≡ new_view label config (i + 1) = same_some (sym (slice_get-map view ports i ∙ ap (option_map view) (slice_get-get_or ports i d lt)) ∙ opens.new.each i (omega (arith, lt, many))) in
      (opens.each_belongs i d lt, ap (λ (v : View). may_ask v.state) is, ap (λ (v : View). v.count) is)

  -- the number of a line at the end, after all ports added
  pub number_at_last : (good : List ℕ → Type 0) (allows : List ℕ → List ℕ → Type 0) (label_of : ℕ) (config_of config : LineConfig) (ports : List Port) (bytes : List ℕ) (rounds number : ℕ)
      → IsFinished good allows label_of config_of (map view ports) bytes → config_of ≡ config → config.lease ≡ None → config.opening.bytes ≡ zeros → length ports ≡ config.nodes
      → ((i : ℕ) (d : Port) → i < length ports → HasAdded rounds (view (get_or ports i d))) → number ≡ lane_of bytes 0 → number < 2 ^ 64 → number ≡ (config.nodes * rounds) % 2 ^ 64
  number_at_last good allows label_of config_of config ports bytes rounds number f are none opening many all is few =
      let lane : lane_of config_of.opening.bytes 0 ≡ 0 = ap (λ (t : LineConfig). lane_of t.opening.bytes 0) are ∙ ap (λ b. lane_of b 0) opening in
      let each : (v : View) → IsAmong (map view ports) v → HasAdded rounds v =
      λ v among.
      let (i, port, at, same) = among_map_port view ports v among in
      let there : get_or ports i port ≡ port = get_or_from_slice_get ports i port port at in
      subst (λ (w : View). HasAdded rounds w) (ap view there ∙ sym same) (all i port (slice_get_within ports i port at)) in
      let e = counted good allows label_of config_of (map view ports) bytes rounds f (ap (λ (t : LineConfig). t.lease) are ∙ none) lane each in
      let long : length (map view ports) ≡ config.nodes = length-map ports view ∙ many in
      let whole = e ∙ ap (λ n. (n * rounds) % 2 ^ 64) long in
      below number (lane_of bytes 0) ((config.nodes * rounds) % 2 ^ 64) is few whole
    where
      below : (n l m : ℕ) → n ≡ l → n < 2 ^ 64 → l % 2 ^ 64 ≡ m → n ≡ m
      below n l m e lt f = omega (arith, e, lt, f)
