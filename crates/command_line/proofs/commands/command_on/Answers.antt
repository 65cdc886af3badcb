use Rattle.std.proofs.Common.{◌≡◌, ap, ap₂, ◌∙◌, rules}
use Rattle.std.proofs.lemmas.Result.{IfOk-weaker}
use Rattle.clap.specs.Words.{app_of, new_app, rule_of, with_rule}
use Rattle.clap.specs.Simple.{app_of_fields}
use Rattle.command_line.specs.Commands.{file_rule}
use Rattle.command_line.proofs.commands.command_on.Goals as goal

pub returns : goal.returns
returns c =
    let file_is : rule_of c.required-file.result ≡ file_rule = search rules in
    let command_new : app_of c.after_help.result ≡ new_app c.args.name.now = ap app_of_fields c.after_help.ensures ∙ ap app_of_fields c.about.ensures ∙ c.new-2.ensures.app in
    let with_file = IfOk-weaker c.arg-command.result _ _ (λ r h. h.shape (search rules) ∙ ap₂ with_rule command_new file_is) c.arg-command.ensures in
    c.with_arg.ensures _ _ c.flag_option-explain.ensures.local c.flag_option-explain.ensures.rule with_file
