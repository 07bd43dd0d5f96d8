-- Lemmas about how the turns of a line's ports change the sum of the balances in the line.
use Rattle.std.proofs.Common.{◌≡◌, ℕ, zero, suc, ◌+◌, ◌-◌, ◌≤◌, List, [], ◌∷◌, length, take, Some, slice_get, refl, ap, sym, ◌∙◌, arith}
use Rattle.std.proofs.lemmas.List.{take-append-le}
use Rattle.std.specs.List.{sum_by}
use Rattle.line_lanes.specs.Lane.{lanes_total}
use Rattle.qolb_model.specs.declared.end.End.{End}
use Rattle.qolb_model.specs.declared.end.End.TheVariants.{Served, Gone, Told}
use Rattle.qolb_model.specs.declared.config.LineConfig.{LineConfig}
use Rattle.qolb_model.specs.declared.view.View.{View}
use Rattle.qolb_model.specs.Ends.{written, bytes_after}
use Rattle.qolb_model.specs.OneHistory.{IsAmong}
use Rattle.qolb_model.specs.Finishing.{IsFinished}
use Rattle.qolb_model.specs.Sums.{sum_of_all, KnowsOwnPlaces}
use Rattle.qolb_model.proofs.Sums.{sums_of_ports}
use Rattle.line_accounts.specs.Paid.{rise, fall, paid_by, drawn_by}

-- after some ends, the total and all falls are together the total before and all rises
step : (before mid after falls rises : ℕ) → after + falls ≡ mid + rises → after + ((before - mid) + falls) ≡ before + ((mid - before) + rises)
step before mid after falls rises h = omega (arith, h)

turns-balance : (bytes : List ℕ) (ends : List End) → lanes_total (bytes_after bytes ends) + sum_of_all fall bytes ends ≡ lanes_total bytes + sum_of_all rise bytes ends
turns-balance bytes [] = refl
turns-balance bytes (Served write shut ∷ ends) =
    let now = written bytes write in
    step (lanes_total bytes) (lanes_total now) (lanes_total (bytes_after now ends)) (sum_of_all fall now ends) (sum_of_all rise now ends) (turns-balance now ends)
turns-balance bytes (Gone ∷ ends) = turns-balance bytes ends
turns-balance bytes (Told ∷ ends) = turns-balance bytes ends

-- for a finished line, the total of the bytes and all that was drawn are together the total of the opening and all that
-- was paid in
pub finished_total : (good : List ℕ → Type 0) (allows : List ℕ → List ℕ → Type 0) (label : ℕ) (config : LineConfig) (views : List View) (bytes : List ℕ)
    → IsFinished good allows label config views bytes → ((i : ℕ) (v : View) → slice_get views i ≡ Some v → KnowsOwnPlaces v)
    → lanes_total bytes + sum_by drawn_by views ≡ lanes_total config.opening.bytes + sum_by paid_by views
finished_total good allows label config views bytes f places =
    let whole = λ (does : List ℕ → List ℕ → ℕ). sums_of_ports good allows does label config views bytes f (λ v (i, at). places i v at) in
    ap (λ b. lanes_total b + sum_by drawn_by views) f.result
    ∙ (ap (λ n. lanes_total (bytes_after config.opening.bytes f.history.ends) + n) (sym (whole fall))
    ∙ (turns-balance config.opening.bytes f.history.ends
    ∙ ap (λ n. lanes_total config.opening.bytes + n) (whole rise)))

-- what the first turns did is a part of what all turns did
sum_of_first : (does : List ℕ → List ℕ → ℕ) (bytes : List ℕ) (p : ℕ) (ends : List End) → sum_of_all does bytes (take p ends) ≤ sum_of_all does bytes ends
sum_of_first does bytes zero ends = omega arith
sum_of_first does bytes (suc p) [] = omega arith
sum_of_first does bytes (suc p) (Served write shut ∷ ends) = let rest = sum_of_first does (written bytes write) p ends in omega (arith, rest)
sum_of_first does bytes (suc p) (Gone ∷ ends) = sum_of_first does bytes p ends
sum_of_first does bytes (suc p) (Told ∷ ends) = sum_of_first does bytes p ends

-- no port of a finished line has ever known of more than the opening's total and all that was paid in
pub found_within : (good : List ℕ → Type 0) (allows : List ℕ → List ℕ → Type 0) (label : ℕ) (config : LineConfig) (views : List View) (bytes : List ℕ)
    → IsFinished good allows label config views bytes → ((i : ℕ) (v : View) → slice_get views i ≡ Some v → KnowsOwnPlaces v) → (v : View) → IsAmong views v → (p : ℕ) → p ≤ length v.ends
    → lanes_total (bytes_after v.config.opening.bytes (take p v.ends)) ≤ lanes_total config.opening.bytes + sum_by paid_by views
found_within good allows label config views bytes f places v among p le =
    let h = f.history in
    let knows = h.known v among in
    let cut : take p h.ends ≡ take p v.ends = ap (take p) (sym knows.ends_begin.1) ∙ take-append-le p v.ends knows.ends_begin.0 le in
    let same : bytes_after v.config.opening.bytes (take p v.ends) ≡ bytes_after config.opening.bytes (take p h.ends) =
    ap (bytes_after v.config.opening.bytes) (sym cut) ∙ ap (λ (t : LineConfig). bytes_after t.opening.bytes (take p h.ends)) (knows.config_is ∙ f.config_is) in
    let balance = turns-balance config.opening.bytes (take p h.ends) in
    let part = sum_of_first rise config.opening.bytes p h.ends in
    let whole = sums_of_ports good allows rise label config views bytes f (λ v (i, at). places i v at) in
    let total = ap lanes_total same in
    sums _ _ _ _ _ _ _ total balance part whole
  where
    sums : (now same falls opened first all paid : ℕ) → now ≡ same → same + falls ≡ opened + first → first ≤ all → all ≡ paid → now ≤ opened + paid
    sums now same falls opened first all paid a b c d = omega (arith, a, b, c, d)
