use Rattle.std.proofs.Common.{◌≡◌, ap, ap₂, ◌∙◌, codes, rules}
use Rattle.std.proofs.lemmas.Result.{IfOk-weaker}
use Rattle.clap.specs.Words.{Rule, app_of, new_app, rule_of, with_rule}
use Rattle.clap.specs.Simple.{app_of_fields}
use Rattle.command_line.specs.Commands.{refusal_rule}
use Rattle.command_line.proofs.commands.explain_command.Goals as goal

pub returns : goal.returns
returns c =
    let refusal_is : rule_of c.help-refusal.result ≡ refusal_rule =
    rw (c.help-refusal.ensures, c.value_name.ensures) (ap (λ (r : Rule). record r { value_names = 1 }) c.new.ensures.rule) in
    let command_new : app_of c.after_help.result ≡ new_app (codes "explain") = ap app_of_fields c.after_help.ensures ∙ ap app_of_fields c.about.ensures ∙ c.new-2.ensures.app in
    IfOk-weaker c.arg.result _ _ (λ r h. h.shape (search rules) ∙ ap₂ with_rule command_new refusal_is) c.arg.ensures
