use Rattle.qolb_model.proofs.Histories.{same_place_legal}
use Rattle.qolb_model.proofs.laws.no_request_stands_twice.Goals as goal

pub returns : goal.returns
returns c = same_place_legal
