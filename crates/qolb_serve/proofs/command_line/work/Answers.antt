use Rattle.std.proofs.Common.{rules, ap, ap₂, codes, [], ◌∷◌, false, ◌≡◌, ◌∙◌}
use Rattle.std.proofs.lemmas.Result.{IfOk-weaker}
use Rattle.clap.specs.Words.{Rule, app_of, new_app, rule_of, with_rule}
use Rattle.clap.specs.declared.builder.arg.Arg.{Arg}
use Rattle.qolb_serve.specs.CommandLine.{kind_rule, work_or_progress, work_or_sleep, work_over}
use Rattle.qolb_serve.proofs.command_line.work.Goals as goal

pub returns : goal.returns
returns c =
    let local_is : c.default_value.result.global ≡ false = ap (λ (a : Arg). a.global) c.default_value.ensures ∙ c.kind_argument.ensures.local in
    let rule_is : rule_of c.default_value.result ≡ record (kind_rule c.args.kinds) { defaults = codes "link" ∷ [] } =
    ap rule_of c.default_value.ensures ∙ ap (λ (r : Rule). record r { defaults = codes "link" ∷ [] }) c.kind_argument.ensures.rule in
    let named_is : app_of c.after_help.result ≡ new_app c.args.name.now = search rules in
    let over_is : app_of c.in_ok-arg.field-0 ≡ work_over c.args.name.now c.args.kinds = c.in_ok-arg.ensures.shape local_is ∙ ap₂ with_rule named_is rule_is in
    let asleep_is : app_of c.in_ok-arg-2.field-0 ≡ work_or_sleep c.args.name.now c.args.kinds = c.in_ok-arg-2.ensures.shape c.flag.ensures.local ∙ ap₂ with_rule over_is c.flag.ensures.rule in
    let progress_is : app_of c.in_ok-arg-3.field-0 ≡ work_or_progress c.args.name.now c.args.kinds = c.in_ok-arg-3.ensures.shape c.flag-2.ensures.local ∙ ap₂ with_rule asleep_is c.flag-2.ensures.rule in
    IfOk-weaker c.arg-4.result _ _ (λ r h. h.shape c.explain.ensures.local ∙ ap₂ with_rule progress_is c.explain.ensures.rule) c.arg-4.ensures
