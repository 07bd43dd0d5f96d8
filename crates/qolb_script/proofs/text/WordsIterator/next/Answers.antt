use Rattle.std.proofs.Common.{◌≡◌, ℕ, ◌-◌, ◌==◌, ◌<◌, ◌∷◌, ◌∙◌, length, take, drop, not, ap, refl, sym, arith, rules}
use Rattle.std.proofs.lemmas.List.{take_rest}
use Rattle.std.proofs.lemmas.List.Sums.{position_or_len_is}
use Rattle.std.specs.List.{slice_split}
use Rattle.qolb_script.specs.Text.{words_of}
use Rattle.qolb_script.proofs.TextLemmas.{no_words, first_word, words_after}
use Rattle.qolb_script.proofs.text.WordsIterator.next.Goals as goal

pub returns-in_err-start-clause-steps : goal.returns-in_err-start-clause-steps
returns-in_err-start-clause-steps c =
    let line = c.args.self.now.rest.now in
    let none = no_words line (position_or_len_is (λ (b : ℕ). not (b == 32)) line (length line) 0 (omega arith) (search rules) (search rules)) in
    rw c.from_residual.ensures (none, none)

next_word : (c : goal.After-self-1) → words_of c.args.self.now.rest.now ≡ c.split_once.result.0.now ∷ words_of c.unwrap_or-self.result.now
next_word c =
    let line = c.args.self.now.rest.now in
    let found = position_or_len_is (λ (b : ℕ). not (b == 32)) line c.in_ok-start.start 0 (search rules) (search rules) (search rules) in
    let within : c.in_ok-start.start < length line = search rules in
    let after = words_after c.split_once.result.1 _ c.unwrap_or-self.result (take (length line - c.in_ok-start.start) (drop c.in_ok-start.start line)) c.split_once.result.0.now c.unwrap_or-self.ensures refl c.split_once.ensures.parts in
    let parts = ap (slice_split (λ b. b == 32)) (sym (take_rest line c.in_ok-start.start)) ∙ after.1 in
    first_word line c.in_ok-start.start c.split_once.result.0.now after.0 found within parts ∙ ap (λ rest. c.split_once.result.0.now ∷ rest) after.2

pub returns-clause-steps : goal.returns-clause-steps
returns-clause-steps c = next_word c

pub returns-clause-goes : goal.returns-clause-goes
returns-clause-goes c =
    let shorter = ap length (next_word c) in
    search rules
