-- Lemmas about the number of polls that the ports of a desk have made.
use Rattle.std.proofs.Common.{◌≡◌, ◌≢◌, ◌⊎◌, ℕ, ◌+◌, ◌≤◌, List, set, slice_get, Some, sym, ap, ◌∙◌, ⊎_elim, arith}
use mathlib.Core.Logic.{dite}
use native.Mathlib.Decide.{ℕ_discrete}
use Rattle.std.proofs.lemmas.Option.{slice_get_within}
use Rattle.qolb_model.specs.declared.view.View.{View}
use Rattle.qolb_model.specs.Counting.{Counters}
use Rattle.line_accounts.specs.Desks.{ArePatient, HasWaited, HasOneWaited}
use Rattle.line_accounts.proofs.Accounted.{slice_get-set_same, slice_get-set_other}

module _ {Port : Type 0} (counters : Port → Counters) (patience : ℕ) where
  still : (o : Port) (before after : Port) → Some before ≡ Some after → (counters after).poll_count ≤ (counters before).poll_count + patience
  still o before after e = let same : before ≡ after = cc in let l = ap (λ (port : Port). (counters port).poll_count) same in omega arith

  module _ (ports : List Port) (i : ℕ) (old new : Port) (at : slice_get ports i ≡ Some old) where
    there : slice_get (set ports i new) i ≡ Some new
    there = slice_get-set_same ports i new (slice_get_within ports i old at)

    pub patient_one : (counters new).poll_count ≤ (counters old).poll_count + patience → ArePatient counters patience ports (set ports i new)
    patient_one few = record {
      each = λ k before after was is. dite (ℕ_discrete k i)
          (λ e. let same_old : before ≡ old = (let p : Some before ≡ Some old = sym was ∙ ap (slice_get ports) e ∙ at in cc) in
          let same_new : after ≡ new = (let p : Some after ≡ Some new = sym is ∙ ap (slice_get (set ports i new)) e ∙ there in cc) in
          let a = ap (λ (port : Port). (counters port).poll_count) same_old in let b = ap (λ (port : Port). (counters port).poll_count) same_new in omega arith)
          (λ ne. still old before after (sym was ∙ sym (slice_get-set_other ports i k new ne) ∙ is));
    }

    pub waited_one : (view : Port → View) → HasWaited counters view patience old new → HasOneWaited counters view patience ports (set ports i new)
    waited_one view waited = record { place = i; before = old; after = new; was = at; is = there; waited = waited }

    module _ (j : ℕ) (u w : Port) (apart : i ≢ j) (at_j : slice_get ports j ≡ Some u) where
      kept : slice_get (set ports i new) j ≡ Some u
      kept = slice_get-set_other ports i j new (λ e. apart (sym e)) ∙ at_j

      first : slice_get (set (set ports i new) j w) i ≡ Some new
      first = slice_get-set_other (set ports i new) j i w apart ∙ there

      second : slice_get (set (set ports i new) j w) j ≡ Some w
      second = slice_get-set_same (set ports i new) j w (slice_get_within (set ports i new) j u kept)

      pub patient_two : (counters new).poll_count ≤ (counters old).poll_count + patience → (counters w).poll_count ≤ (counters u).poll_count + patience → ArePatient counters patience ports (set (set ports i new) j w)
      patient_two few less = record {
        each = λ k before after was is. dite (ℕ_discrete k j)
            (λ e. let same_old : before ≡ u = (let p : Some before ≡ Some u = sym was ∙ ap (slice_get ports) e ∙ at_j in cc) in
            let same_new : after ≡ w = (let p : Some after ≡ Some w = sym is ∙ ap (slice_get (set (set ports i new) j w)) e ∙ second in cc) in
            let a = ap (λ (port : Port). (counters port).poll_count) same_old in let b = ap (λ (port : Port). (counters port).poll_count) same_new in omega arith)
            (λ ne. (patient_one few).each k before after was (sym (slice_get-set_other (set ports i new) j k w ne) ∙ is));
      }

      pub waited_two : (view : Port → View) → HasWaited counters view patience old new ⊎ HasWaited counters view patience u w → HasOneWaited counters view patience ports (set (set ports i new) j w)
      waited_two view one = ⊎_elim (λ e. record { place = i; before = old; after = new; was = at; is = first; waited = e }) (λ e. record { place = j; before = u; after = w; was = at_j; is = second; waited = e }) one
