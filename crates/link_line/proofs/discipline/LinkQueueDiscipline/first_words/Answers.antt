use Rattle.std.proofs.Common.{rules, ◌≡◌, ℕ, List, ap, ◌∙◌, replicate, slice_index}
use lib.ListN.{get_or-replicate}
use Rattle.std.specs.Result.{IfOk}
use Rattle.std.proofs.lemmas.Result.{IfOk-weaker}
use Rattle.link_line.specs.Layout.{word_count, AreBlank}
use Rattle.link_line.proofs.discipline.LinkQueueDiscipline.first_words.Goals as goal

blank : (nodes : ℕ) (words : List ℕ) → words ≡ replicate (word_count nodes) 0 → AreBlank nodes words
blank nodes words is i l = ap (λ ws. slice_index ws i) is ∙ get_or-replicate {A = ℕ} (word_count nodes) i 0 0 l

pub returns-clause-first : goal.returns-clause-first
returns-clause-first g c =
    let many = c.args.nodes in
    let zeros : IfOk c.vec.result (λ v. v.items ≡ replicate (word_count many) 0) = search rules in
    IfOk-weaker c.vec.result (λ v. v.items ≡ replicate (word_count many) 0) (λ v. AreBlank many v.items) (λ v is. blank many v.items is) zeros
