use Rattle.std.proofs.Common.{rules, ap₂, codes, ◌≡◌, ◌∙◌}
use Rattle.std.proofs.lemmas.Result.{IfOk-weaker}
use Rattle.clap.specs.Words.{app_of, new_app, with_rule}
use Rattle.qolb_serve.specs.CommandLine.{flag_rule}
use Rattle.qolb_serve.proofs.command_line.steps.Goals as goal

pub returns : goal.returns
returns c =
    let named_is : app_of c.after_help.result ≡ new_app (codes "steps") = search rules in
    let ranked_is : app_of c.in_ok-arg.field-0 ≡ with_rule (new_app (codes "steps")) (flag_rule (codes "rank")) = c.in_ok-arg.ensures.shape c.flag.ensures.local ∙ ap₂ with_rule named_is c.flag.ensures.rule in
    IfOk-weaker c.arg-2.result _ _ (λ r h. h.shape c.explain.ensures.local ∙ ap₂ with_rule ranked_is c.explain.ensures.rule) c.arg-2.ensures
