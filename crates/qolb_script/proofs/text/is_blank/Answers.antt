use Rattle.std.proofs.Common.{ℕ, ◌==◌, ◌∙◌, rules, tests}
use Rattle.std.proofs.lemmas.Iterator.{YieldsList-from_slice}
use Rattle.std.proofs.lemmas.Iterator.Search.{all_from_yields_List}
use Rattle.qolb_script.proofs.TextLemmas.{all_spaces}
use Rattle.qolb_script.proofs.text.is_blank.Goals as goal

pub returns : goal.returns
returns c =
    let all = all_from_yields_List (λ (b : ℕ). b == 32) _ _ c.all.result c.all.ensures.ran (YieldsList-from_slice c.args.line.now cc) (λ x b q k. search (rules, tests)) in
    all ∙ all_spaces c.args.line.now
