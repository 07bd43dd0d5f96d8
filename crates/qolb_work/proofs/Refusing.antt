-- Proof that taking a line apart (`finish`) can fail only because memory runs out, if all ports of the line are present
-- and none of them has an open request.
use Rattle.std.proofs.Common.{◌≡◌, ℕ, zero, suc, List, refl}
use Rattle.qolb_model.specs.declared.unfinished.FinishError.{FinishError}
use Rattle.qolb_model.specs.declared.unfinished.FinishError.TheVariants.{Memory, Unquiet, Missing}
use Rattle.qolb_model.specs.declared.view.View.{View}
use Rattle.qolb_model.specs.Finishing.{MayFinish, MayRefuse}
use Rattle.qolb_model.proofs.Lists.{never}

pub only_memory : (label nodes : ℕ) (views : List View) (why : FinishError) → MayFinish label nodes views → MayRefuse label nodes views why → why ≡ Memory
only_memory label nodes views Memory may refused = refl
only_memory label nodes views (Missing zero) (of_line, there, quiet) (v, among, other) = absurd (other (of_line v among))
only_memory label nodes views (Missing (suc n)) (of_line, there, quiet) (same, least) =
    let (v, among, is) = there (suc n) least.first least.last in absurd (least.fails v among is)
only_memory label nodes views (Unquiet n) (of_line, there, quiet) (same, all, least) =
    let (v, among, is, busy) = least.fails in absurd (never (quiet n least.first least.last v among is) busy)
