use Rattle.std.proofs.Common.{◌≡◌, ◌∙◌, true, false, sym, rules, tests}
use Rattle.std.specs.Char.{is_ascii_digit}
use Rattle.std.specs.Str.{all_ascii_digits}
use Rattle.std.proofs.lemmas.Iterator.{YieldsList-from_slice}
use Rattle.std.proofs.lemmas.Iterator.Search.{all_from_yields_List}
use Rattle.qolb_script.proofs.NumberLemmas.{all_digits, number_of-long, number_of-other, number_parsed, text_read, text_same}
use Rattle.qolb_script.proofs.text.number.Goals as goal
use Rattle.qolb_script.proofs.text.number.Goals.{After-ok, then-word-gt-MAX_DIGITS-via-then-word-gt-MAX_DIGITS, then-word-gt-MAX_DIGITS-via-else-word-gt-MAX_DIGITS+then-not-all}

pub returns-then-word-gt-MAX_DIGITS : goal.returns-then-word-gt-MAX_DIGITS
returns-then-word-gt-MAX_DIGITS c = elim c.then-word-gt-MAX_DIGITS.branch [
  | then-word-gt-MAX_DIGITS-via-then-word-gt-MAX_DIGITS w ↦ number_of-long c.args.word.now (search rules)
  | then-word-gt-MAX_DIGITS-via-else-word-gt-MAX_DIGITS+then-not-all w ↦ (
      let all = all_from_yields_List is_ascii_digit _ _ w.all.result w.all.ensures.ran (YieldsList-from_slice c.args.word.now cc) (λ x b q k. search (rules, tests)) in
      let not_all : w.all.result ≡ false = search rules in
      number_of-other c.args.word.now (sym (all_digits c.args.word.now) ∙ sym all ∙ not_all))
]

digits : (c : After-ok) → all_ascii_digits c.args.word.now ≡ true
digits c =
    let all = all_from_yields_List is_ascii_digit _ _ c.all.result c.all.ensures.ran (YieldsList-from_slice c.args.word.now cc) (λ x b q k. search (rules, tests)) in
    let is_all : c.all.result ≡ true = search rules in
    sym (all_digits c.args.word.now) ∙ sym all ∙ is_all

pub returns-in_err-ok : goal.returns-in_err-ok
returns-in_err-ok c =
    absurd (text_read _ c.args.word.now c.from_utf8.result (digits (goal.at.returns-in_err-ok c).After-ok) c.from_utf8.ensures.cases (sym c.ok.ensures.value ∙ c.in_err-ok.was))

pub returns : goal.returns
returns c =
    let same = text_same _ c.args.word.now c.from_utf8.result c.in_ok-ok.field-0 c.from_utf8.ensures.cases (sym c.ok.ensures.value ∙ c.in_ok-ok.was) in
    c.ok-2.ensures.value ∙ number_parsed c.args.word.now c.parse.result (search rules) (digits (goal.at.returns c).After-ok) (rw same at c.parse.ensures.value.0)
