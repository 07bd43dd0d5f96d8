use Rattle.std.proofs.Common.{rules, ap, ap₂, codes, true, false, ◌≡◌, ◌∙◌}
use Rattle.std.proofs.lemmas.Result.{IfOk-weaker}
use Rattle.clap.specs.Words.{Rule, app_of, new_app, rule_of, with_rule}
use Rattle.clap.specs.declared.builder.arg.Arg.{Arg}
use Rattle.qolb_serve.specs.CommandLine.{kind_rule}
use Rattle.qolb_serve.proofs.command_line.replay.Goals as goal

pub returns : goal.returns
returns c =
    let local_is : c.required.result.global ≡ false = ap (λ (a : Arg). a.global) c.required.ensures ∙ c.kind_argument.ensures.local in
    let rule_is : rule_of c.required.result ≡ record (kind_rule c.args.kinds) { required = true } = ap rule_of c.required.ensures ∙ ap (λ (r : Rule). record r { required = true }) c.kind_argument.ensures.rule in
    let named_is : app_of c.after_help.result ≡ new_app (codes "replay") = search rules in
    let kind_is : app_of c.in_ok-arg.field-0 ≡ with_rule (new_app (codes "replay")) (record (kind_rule c.args.kinds) { required = true }) = c.in_ok-arg.ensures.shape local_is ∙ ap₂ with_rule named_is rule_is in
    IfOk-weaker c.arg-2.result _ _ (λ r h. h.shape c.explain.ensures.local ∙ ap₂ with_rule kind_is c.explain.ensures.rule) c.arg-2.ensures
