use Rattle.std.proofs.Common.{rules, ap₂, codes, ◌≡◌, ◌∙◌}
use Rattle.std.proofs.lemmas.Result.{IfOk-weaker}
use Rattle.clap.specs.Words.{app_of, new_app, with_rule}
use Rattle.qolb_serve.specs.CommandLine.{flag_rule}
use Rattle.qolb_serve.proofs.command_line.draw.Goals as goal

pub returns : goal.returns
returns c =
    let named_is : app_of c.after_help.result ≡ new_app (codes "draw") = search rules in
    let formed_is : app_of c.in_ok-arg.field-0 ≡ with_rule (new_app (codes "draw")) (flag_rule (codes "svg")) = c.in_ok-arg.ensures.shape c.flag.ensures.local ∙ ap₂ with_rule named_is c.flag.ensures.rule in
    let drawn_is : app_of c.in_ok-arg-2.field-0 ≡ with_rule (with_rule (new_app (codes "draw")) (flag_rule (codes "svg"))) (flag_rule (codes "steps")) = c.in_ok-arg-2.ensures.shape c.flag-2.ensures.local ∙ ap₂ with_rule formed_is c.flag-2.ensures.rule in
    IfOk-weaker c.arg-3.result _ _ (λ r h. h.shape c.explain.ensures.local ∙ ap₂ with_rule drawn_is c.explain.ensures.rule) c.arg-3.ensures
