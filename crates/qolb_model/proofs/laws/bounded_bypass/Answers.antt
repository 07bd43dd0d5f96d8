use Rattle.std.proofs.Common.{arith}
use Rattle.std.proofs.lemmas.Option.{slice_get_within}
use Rattle.qolb_model.specs.Views.{own}
use Rattle.qolb_model.proofs.laws.bounded_bypass.Goals as goal

pub returns : goal.returns
returns c asked later p near at goes unended = omega (arith, slice_get_within asked.order p (own asked) at)
