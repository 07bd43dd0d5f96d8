-- Lemmas about the number of atomic steps that the ports of a desk have taken.
use Rattle.std.proofs.Common.{◌≡◌, ◌≢◌, ℕ, List, set, slice_get, Some, sym, ap, ◌∙◌, subst}
use mathlib.Core.Logic.{dite}
use native.Mathlib.Decide.{ℕ_discrete}
use Rattle.std.proofs.lemmas.Option.{slice_get_within}
use Rattle.qolb_model.specs.Counting.{Counters, IsWithinCalls}
use Rattle.qolb_model.proofs.WithinCalls.{no_call}
use Rattle.line_accounts.specs.Desks.{AreWithinCalls}
use Rattle.line_accounts.proofs.Accounted.{slice_get-set_same, slice_get-set_other}

module _ {Line Port : Type 0} (counters : Port → Counters) (max_steps : Line → ℕ) (lines : List Line) where
  still : (line : Line) (before after : Port) → Some before ≡ Some after → IsWithinCalls (max_steps line) 3 (counters before) (counters after)
  still line before after e = let same : before ≡ after = cc in subst (λ (port : Port). IsWithinCalls (max_steps line) 3 (counters before) (counters port)) same (no_call (max_steps line) 3 (counters before))

  called : (line line' : Line) (old before new after : Port) → Some line ≡ Some line' → Some old ≡ Some before → Some new ≡ Some after → IsWithinCalls (max_steps line) 3 (counters old) (counters new) → IsWithinCalls (max_steps line') 3 (counters before) (counters after)
  called line line' old before new after l o n few =
      let a : line ≡ line' = cc in let b : old ≡ before = cc in let c : new ≡ after = cc in
      subst (λ (t : Line × Port × Port). IsWithinCalls (max_steps t.0) 3 (counters t.1) (counters t.2)) (λ i. (a i, b i, c i)) few

  module _ (ports : List Port) (i : ℕ) (line : Line) (old new : Port) (line_at : slice_get lines i ≡ Some line) (at : slice_get ports i ≡ Some old) where
    there : slice_get (set ports i new) i ≡ Some new
    there = slice_get-set_same ports i new (slice_get_within ports i old at)

    pub calls_one : IsWithinCalls (max_steps line) 3 (counters old) (counters new) → AreWithinCalls counters max_steps lines ports (set ports i new)
    calls_one few = record {
      each = λ k line' before after is_line was is. dite (ℕ_discrete k i)
          (λ e. called line line' old before new after (sym line_at ∙ sym (ap (slice_get lines) e) ∙ is_line) (sym at ∙ sym (ap (slice_get ports) e) ∙ was) (sym there ∙ sym (ap (slice_get (set ports i new)) e) ∙ is) few)
          (λ ne. still line' before after (sym was ∙ sym (slice_get-set_other ports i k new ne) ∙ is));
    }

    module _ (j : ℕ) (line_j : Line) (u w : Port) (apart : i ≢ j) (line_at_j : slice_get lines j ≡ Some line_j) (at_j : slice_get ports j ≡ Some u) where
      kept : slice_get (set ports i new) j ≡ Some u
      kept = slice_get-set_other ports i j new (λ e. apart (sym e)) ∙ at_j

      second : slice_get (set (set ports i new) j w) j ≡ Some w
      second = slice_get-set_same (set ports i new) j w (slice_get_within (set ports i new) j u kept)

      pub calls_two : IsWithinCalls (max_steps line) 3 (counters old) (counters new) → IsWithinCalls (max_steps line_j) 3 (counters u) (counters w) → AreWithinCalls counters max_steps lines ports (set (set ports i new) j w)
      calls_two few less = record {
        each = λ k line' before after is_line was is. dite (ℕ_discrete k j)
            (λ e. called line_j line' u before w after (sym line_at_j ∙ sym (ap (slice_get lines) e) ∙ is_line) (sym at_j ∙ sym (ap (slice_get ports) e) ∙ was) (sym second ∙ sym (ap (slice_get (set (set ports i new) j w)) e) ∙ is) less)
            (λ ne. (calls_one few).each k line' before after is_line was (sym (slice_get-set_other (set ports i new) j k w ne) ∙ is));
      }
