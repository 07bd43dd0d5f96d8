use Rattle.std.proofs.Common.{◌∙◌, rules, tests}
use Rattle.std.specs.Str.{bytes_eq}
use Rattle.std.proofs.lemmas.Iterator.{YieldsList-from_slice}
use Rattle.std.proofs.lemmas.Iterator.Search.{find_from_yields_List}
use Rattle.qolb_script.specs.Made.{word_of}
use Rattle.qolb_script.specs.declared.command_reader.TheConstants.{VERBS}
use Rattle.qolb_script.proofs.command_reader.Verb.named.Goals as goal

pub returns : goal.returns
returns c =
    let found = find_from_yields_List (λ v. bytes_eq c.args.word.now (word_of v)) _ _ c.find.result c.find.ensures.ran (YieldsList-from_slice VERBS cc) (λ x b q k. search (rules, tests)) in
    c.copied.ensures ∙ found
