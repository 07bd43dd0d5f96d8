-- Proof that a request that was not granted does not end as served.
use Rattle.std.proofs.Common.{◌≡◌, ◌≢◌, ℕ, ◌+◌, ◌<◌, ◌≤◌, [], ◌∷◌, length, replicate, Some, slice_get, refl, ap, sym, ◌∙◌, arith}
use Rattle.std.proofs.lemmas.Option.{slice_get_within}
use Rattle.qolb_model.specs.declared.request.Request.{Request}
use Rattle.qolb_model.specs.declared.end.End.TheVariants.{Gone, Told}
use Rattle.qolb_model.specs.declared.view.View.{View}
use Rattle.qolb_model.specs.Requests.{count_of}
use Rattle.qolb_model.specs.EndKinds.{is_served}
use Rattle.qolb_model.specs.Views.{own}
use Rattle.qolb_model.specs.OneHistory.{OneHistory}
use Rattle.qolb_model.specs.Enqueueing.{IsBusy, Asks}
use Rattle.qolb_model.specs.AtTurn.{IsWithdrawn}
use Rattle.qolb_model.specs.Releasing.{IsTold}
use Rattle.qolb_model.proofs.Lists.{same_some, slice_get-middle}
use Rattle.qolb_model.proofs.Prefixes.{prefix_get}
use Rattle.qolb_model.proofs.Requests.{has_at, same_request, number_le_count_all}
use Rattle.qolb_model.proofs.Histories.{same_place_legal}
use Rattle.qolb_model.proofs.Agreeing.{among_first}
use Rattle.qolb_model.specs.declared.acquire.Acquired.{Acquired}
use Rattle.qolb_model.specs.declared.acquire.Acquired.TheVariants as outcome
use Rattle.qolb_model.specs.Acquiring.{IsUnserved}

module _ (old new : View) (history : OneHistory (new ∷ [])) where
  -- no request of the node has a higher number than its count
  numbered : (p : ℕ) (r : Request) → slice_get new.order p ≡ Some r → r.node ≡ new.node → r.number ≤ new.count
  numbered p r at its =
      let known = history.known new (among_first new []) in
      let there = prefix_get new.order history.order p r known.order_begins at in
      let few = number_le_count_all history.order history.legal.numbered r (has_at history.order p r there) in
      omega (arith, few, ap (λ n. count_of n history.order) its ∙ known.own_count)

  -- a request that the call made is the port's own
  is_own : (p : ℕ) (r : Request) → slice_get new.order p ≡ Some r → r.node ≡ new.node → old.count < r.number → new.count ≡ old.count + 1 → r ≡ own new
  is_own p r at its made once = same_request r.node new.node r.number new.count its (omega (arith, numbered p r at its, made, once))

  -- the request is at one place
  one_place : (p q : ℕ) (r : Request) → slice_get new.order p ≡ Some r → slice_get new.order q ≡ Some r → p ≡ q
  one_place p q r at there =
      let begins = (history.known new (among_first new [])).order_begins in
      same_place_legal history.config.lease history.order history.ends history.legal p q r (prefix_get new.order history.order p r begins at) (prefix_get new.order history.order q r begins there)

  busy_unserved : IsBusy old new → IsUnserved old new
  busy_unserved busy p r e at its made ended = absurd (omega (arith, numbered p r at its, made, busy.count))

  late_unserved : Asks old new → IsWithdrawn new → IsUnserved old new
  late_unserved asks late p r e at its made ended =
      let same : r ≡ own new = is_own p r at its made asks.count in
      let place : p ≡ late.waits.0 = one_place p late.waits.0 (own new) (at ∙ ap (λ x. Some x) same) late.waits.2 in
      let within : p < length new.ends = slice_get_within new.ends p e ended in
      absurd (omega (arith, place, within, late.waits.1))

  told_unserved : Asks old new → IsTold new → IsUnserved old new
  told_unserved asks told p r e at its made ended =
      let same : r ≡ own new = is_own p r at its made asks.count in
      let place : p ≡ length told.before = one_place p (length told.before) (own new) (at ∙ ap (λ x. Some x) same) told.at_turn in
      let end : slice_get new.ends p ≡ Some Told =
      ap (slice_get new.ends) place ∙ (ap (λ es. slice_get es (length told.before)) told.ends ∙ slice_get-middle told.before Told (replicate told.passed Gone)) in
      ap is_served (same_some (sym ended ∙ end))

  pub unserved :
      (answer : Acquired) → (answer ≡ outcome.Busy → IsBusy old new) → (answer ≢ outcome.Busy → Asks old new) → (answer ≡ outcome.Late → IsWithdrawn new) → (answer ≡ outcome.Closed → IsTold new)
      → answer ≢ outcome.Granted → IsUnserved old new
  unserved outcome.Granted busy asks late told other = absurd (other refl)
  unserved outcome.Late busy asks late told other = late_unserved (asks (λ e. cc e)) (late refl)
  unserved outcome.Closed busy asks late told other = told_unserved (asks (λ e. cc e)) (told refl)
  unserved outcome.Busy busy asks late told other = busy_unserved (busy refl)
