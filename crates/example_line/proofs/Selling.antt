-- Lemmas for the sale of seats: what a clerk sells in one turn, the ports before the first turn, and the total that is
-- sold at the end.
use Rattle.std.proofs.Common.{◌≡◌, ◌⊎◌, ℕ, ◌+◌, ◌*◌, ◌<◌, ◌≤◌, inl, inr, Bool, true, false, cond, List, [], ◌∷◌, length, map, None, slice_get, Some, get_or, min, ap, sym, subst, ◌∙◌, arith, eq-eqb, ne_eqb}
use Rattle.std.proofs.lemmas.Bool.{cases_lt}
use Rattle.std.proofs.lemmas.Bool.Decides.{nat_tests}
use Rattle.std.proofs.lemmas.Option.{slice_get_within, get_or_from_slice_get}
use Rattle.std.proofs.lemmas.List.{length-map}
use mathlib.Core.Logic.{dite}
use native.Mathlib.Decide.{ℕ_discrete}
use Rattle.line_lanes.specs.Lane.{lane_of}
use Rattle.line_lanes.specs.Line.{zeros}
use Rattle.qolb_model.specs.declared.end.End.{End}
use Rattle.qolb_model.specs.declared.end.End.TheVariants.{Served, Gone, Told}
use Rattle.qolb_model.specs.declared.config.LineConfig.{LineConfig}
use Rattle.qolb_model.specs.declared.view.View.{View}
use Rattle.qolb_model.specs.declared.write.Write.{Write}
use Rattle.qolb_model.specs.Ends.{written, bytes_after}
use Rattle.qolb_model.specs.PortStates.{may_ask}
use Rattle.qolb_model.specs.Views.{bytes_of}
use Rattle.qolb_model.specs.OneHistory.{OneHistory, IsAmong}
use Rattle.qolb_model.specs.Sound.{KnowsOwnHistory, Continues}
use Rattle.qolb_model.specs.Enqueueing.{Asks}
use Rattle.qolb_model.specs.AtTurn.{IsGranted}
use Rattle.qolb_model.specs.Releasing.{IsTold}
use Rattle.qolb_model.specs.Finishing.{IsFinished}
use Rattle.qolb_model.specs.Calls.{Releases}
use Rattle.qolb_model.specs.Sums.{sum_of_all, sum_of_own, KnowsOwnPlaces, HasNotShut}
use Rattle.qolb_model.proofs.Agreeing.{among_map_port}
use Rattle.qolb_model.proofs.Sums.{sums_of_ports, sum-each}
use Rattle.qolb_model.proofs.OwnTurns.{places_same, places_asked, sums_kept, unshut_kept, granted_beyond, told_beyond, more_turns, unshut_released, unused_places, unused_sum, unused_unshut}
use Rattle.qolb_model.proofs.Unshut.{untold}
use Rattle.example_line.specs.declared.capacity.TheConstants.{SEATS}
use Rattle.example_line.specs.Seats.{sold_after, serves, spoils, Serves, HasServed}
use Rattle.example_line.proofs.Counting.{sum-same}

-- a turn that leaves what one sale leaves serves a customer, and spoils nothing
serves_one : (old new : List ℕ) → lane_of new 0 ≡ sold_after (lane_of old 0) → serves old new ≡ 1
serves_one old new e = ap (λ (t : Bool). cond t 1 0) (eq-eqb (lane_of new 0) (sold_after (lane_of old 0)) e)

spoils_none : (old new : List ℕ) → lane_of new 0 ≡ sold_after (lane_of old 0) → spoils old new ≡ 0
spoils_none old new e = ap (λ (t : Bool). cond t 0 1) (eq-eqb (lane_of new 0) (sold_after (lane_of old 0)) e)

sold_unspoiled : (old new : List ℕ) → spoils old new ≡ 0 → lane_of new 0 ≡ sold_after (lane_of old 0)
sold_unspoiled old new none = dite (ℕ_discrete (lane_of new 0) (sold_after (lane_of old 0))) (λ e. e)
    (λ ne. let one : spoils old new ≡ 1 = ap (λ (t : Bool). cond t 0 1) (ne_eqb (lane_of new 0) (sold_after (lane_of old 0)) ne) in absurd (omega (arith, none, one)))

-- one more sale, or a house that is sold out
sale : (s : ℕ) → ((s < SEATS) × (sold_after s ≡ s + 1)) ⊎ ((SEATS ≤ s) × (sold_after s ≡ s))
sale s = elim (cases_lt s SEATS) [
  | inl lt ↦ inl (lt, grind (arith, nat_tests))
  | inr ge ↦ inr (ge, grind (arith, nat_tests))
]

module _ (allows : List ℕ → List ℕ → Type 0) (old mid : View) (quiet : may_ask old.state ≡ true) (past : KnowsOwnHistory old) (places : KnowsOwnPlaces old) (c : Continues allows old mid) (asks : Asks old mid) where
  -- a port that requested the line, holds it, and serves a customer
  module _ (new : View) (turn write : Write) (granted : IsGranted mid turn) (releases : Releases allows false mid new write) where
    pub turn_places : KnowsOwnPlaces new
    turn_places = places_same mid new releases.continues.extends releases.continues.history releases.ends_turn.count (places_asked old mid c.extends c.history asks places)

    pub turn_unshut : HasNotShut old → HasNotShut new
    turn_unshut unshut = unshut_released allows mid new write releases granted.at_turn (unshut_kept old mid c.extends c.history quiet past (granted_beyond old mid c.extends c.history turn asks places granted) unshut)

    turn_does : (does : List ℕ → List ℕ → ℕ) → sum_of_own does new ≡ sum_of_own does old + does (bytes_of mid) write.bytes.bytes
    turn_does does =
        more_turns allows mid new write releases granted.at_turn does
        ∙ ap (λ n. n + does (bytes_of mid) write.bytes.bytes) (sums_kept old mid c.extends c.history quiet past (granted_beyond old mid c.extends c.history turn asks places granted) does)

    module _ (sold : lane_of write.bytes.bytes 0 ≡ sold_after (lane_of (bytes_of mid) 0)) where
      pub turn_serves : sum_of_own serves new ≡ sum_of_own serves old + 1
      turn_serves = turn_does serves ∙ ap (λ n. sum_of_own serves old + n) (serves_one (bytes_of mid) write.bytes.bytes sold)

      pub turn_spoils_none : sum_of_own spoils new ≡ sum_of_own spoils old
      turn_spoils_none = turn_does spoils ∙ (ap (λ n. sum_of_own spoils old + n) (spoils_none (bytes_of mid) write.bytes.bytes sold) ∙ plus_none (sum_of_own spoils old))
        where
          plus_none : (n : ℕ) → n + 0 ≡ n
          plus_none n = omega arith

  -- a port that made a request and is told that the line is closed
  pub told_does_none : (told : IsTold mid) (does : List ℕ → List ℕ → ℕ) → sum_of_own does mid ≡ sum_of_own does old
  told_does_none told does = sums_kept old mid c.extends c.history quiet past (told_beyond old mid c.extends c.history asks places told) does

-- the seats sold after all ends, if no turn spoiled anything
all_sold : (bytes : List ℕ) (ends : List End) → lane_of bytes 0 ≤ SEATS → sum_of_all spoils bytes ends ≡ 0 → lane_of (bytes_after bytes ends) 0 ≡ min SEATS (lane_of bytes 0 + sum_of_all serves bytes ends)
all_sold bytes [] few none = none_sold (lane_of bytes 0) few
  where
    none_sold : (s : ℕ) → s ≤ SEATS → s ≡ min SEATS (s + 0)
    none_sold s few = omega arith
all_sold bytes (Served write shut ∷ ends) few none =
    let now = written bytes write in
    let own : spoils bytes now ≡ 0 = first_none (spoils bytes now) (sum_of_all spoils now ends) none in
    let rest : sum_of_all spoils now ends ≡ 0 = second_none (spoils bytes now) (sum_of_all spoils now ends) none in
    let sold : lane_of now 0 ≡ sold_after (lane_of bytes 0) = sold_unspoiled bytes now own in
    let one : serves bytes now ≡ 1 = serves_one bytes now sold in
    let few_now : lane_of now 0 ≤ SEATS = still_few (lane_of bytes 0) (lane_of now 0) few sold in
    one_sold (lane_of bytes 0) (lane_of now 0) (serves bytes now) (sum_of_all serves now ends) (lane_of (bytes_after now ends) 0) few sold one (all_sold now ends few_now rest)
  where
    first_none : (a b : ℕ) → a + b ≡ 0 → a ≡ 0
    first_none a b e = omega arith

    second_none : (a b : ℕ) → a + b ≡ 0 → b ≡ 0
    second_none a b e = omega arith

    still_few : (s n : ℕ) → s ≤ SEATS → n ≡ sold_after s → n ≤ SEATS
    still_few s n few is = elim (sale s) [
      | inl (lt, e) ↦ let f = is ∙ e in omega (arith, lt, f)
      | inr (ge, e) ↦ let f = is ∙ e in omega (arith, few, f)
    ]

    one_sold : (s n k r l : ℕ) → s ≤ SEATS → n ≡ sold_after s → k ≡ 1 → l ≡ min SEATS (n + r) → l ≡ min SEATS (s + (k + r))
    one_sold s n k r l few is one last = elim (sale s) [
      | inl (lt, e) ↦ let f = is ∙ e in omega (arith, lt, f, one, last)
      | inr (ge, e) ↦ let f = is ∙ e in omega (arith, few, ge, f, one, last)
    ]
all_sold bytes (Gone ∷ ends) few none = all_sold bytes ends few none
all_sold bytes (Told ∷ ends) few none = all_sold bytes ends few none

-- the seats sold on a finished line, if each port served its customers and the first lane began as 0
pub sold : (good : List ℕ → Type 0) (allows : List ℕ → List ℕ → Type 0) (label : ℕ) (config : LineConfig) (views : List View) (bytes : List ℕ) (customers : ℕ)
    → IsFinished good allows label config views bytes → config.lease ≡ None → lane_of config.opening.bytes 0 ≡ 0 → ((v : View) → IsAmong views v → HasServed customers v)
    → lane_of bytes 0 ≡ min SEATS (length views * customers)
sold good allows label config views bytes customers f none opening all =
    let places = λ (v : View) (among : IsAmong views v). (all v among).places in
    let each : (i : ℕ) (v : View) → slice_get views i ≡ Some v → sum_of_own serves v ≡ customers =
    λ i v at. elim ((all v (i, at)).served) [
      | inl e ↦ e
      | inr told ↦ absurd (untold good allows label config views bytes f places (λ w among. (all w among).unshut) none v (i, at) told)
    ] in
    let served : sum_of_all serves config.opening.bytes f.history.ends ≡ length views * customers =
    sums_of_ports good allows serves label config views bytes f places ∙ (sum-each (sum_of_own serves) (λ v. customers) views each ∙ sum-same customers views) in
    let clean : sum_of_all spoils config.opening.bytes f.history.ends ≡ 0 =
    sums_of_ports good allows spoils label config views bytes f places ∙ (sum-each (sum_of_own spoils) (λ v. 0) views (λ i v at. (all v (i, at)).unspoiled) ∙ sum-same 0 views ∙ times_none (length views)) in
    let last = all_sold config.opening.bytes f.history.ends (none_yet (lane_of config.opening.bytes 0) opening) clean in
    ap (λ b. lane_of b 0) f.result
    ∙ from_none (lane_of (bytes_after config.opening.bytes f.history.ends) 0) (lane_of config.opening.bytes 0) (sum_of_all serves config.opening.bytes f.history.ends) (length views * customers) last opening served
  where
    times_none : (n : ℕ) → n * 0 ≡ 0
    times_none n = omega arith

    none_yet : (s : ℕ) → s ≡ 0 → s ≤ SEATS
    none_yet s e = omega (arith, e)

    from_none : (l o s m : ℕ) → l ≡ min SEATS (o + s) → o ≡ 0 → s ≡ m → l ≡ min SEATS m
    from_none l o s m last o_is s_is = omega (arith, last, o_is, s_is)

-- a port that had made no request before it served these customers
pub all_served : (customers : ℕ) (old new : View) → OneHistory (old ∷ []) → old.count ≡ 0 → (KnowsOwnPlaces old → Serves customers old new) → HasServed customers new
all_served customers old new h unused turns =
    let a = turns (unused_places old h unused) in
    let none : sum_of_own serves old ≡ 0 = unused_sum old h unused serves in record {
      places = a.places;
      unshut = a.unshut (unused_unshut old h unused);
      served = elim a.all [
        | inl e ↦ inl (let is = a.served in omega (arith, is, none, e))
        | inr told ↦ inr told
      ];
      unspoiled = a.unspoiled ∙ unused_sum old h unused spoils;
    }

module _ {Port : Type 0} (view : Port → View) where
  -- the seats sold at the end, after all ports served their customers
  pub sold_at_last : (good : List ℕ → Type 0) (allows : List ℕ → List ℕ → Type 0) (label_of : ℕ) (config_of config : LineConfig) (ports : List Port) (bytes : List ℕ) (customers number : ℕ)
      → IsFinished good allows label_of config_of (map view ports) bytes → config_of ≡ config → config.lease ≡ None → config.opening.bytes ≡ zeros → length ports ≡ config.nodes
      → ((i : ℕ) (d : Port) → i < length ports → HasServed customers (view (get_or ports i d))) → number ≡ lane_of bytes 0 → number ≡ min SEATS (config.nodes * customers)
  sold_at_last good allows label_of config_of config ports bytes customers number f are none opening many all is =
      let lane : lane_of config_of.opening.bytes 0 ≡ 0 = ap (λ (t : LineConfig). lane_of t.opening.bytes 0) are ∙ ap (λ b. lane_of b 0) opening in
      let each : (v : View) → IsAmong (map view ports) v → HasServed customers v =
      λ v among.
      let (i, port, at, same) = among_map_port view ports v among in
      let there : get_or ports i port ≡ port = get_or_from_slice_get ports i port port at in
      subst (λ (w : View). HasServed customers w) (ap view there ∙ sym same) (all i port (slice_get_within ports i port at)) in
      let e = sold good allows label_of config_of (map view ports) bytes customers f (ap (λ (t : LineConfig). t.lease) are ∙ none) lane each in
      let long : length (map view ports) ≡ config.nodes = length-map ports view ∙ many in
      is ∙ (e ∙ ap (λ n. min SEATS (n * customers)) long)
