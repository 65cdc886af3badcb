use Rattle.std.proofs.Common.{◌≡◌, ap, ap₂, ◌∙◌}
use Rattle.std.proofs.lemmas.Result.{IfOk-weaker}
use Rattle.clap.specs.Words.{app_of, rule_of, with_rule}
use Rattle.command_line.proofs.commands.with_arg.Goals as goal

pub returns : goal.returns
returns c = λ app rule local is_rule is_app.
    let app_is : app_of c.in_ok-command.field-0 ≡ app = rw c.in_ok-command.was at is_app in
    let rule_is : rule_of c.help.result ≡ rule = ap rule_of c.help.ensures ∙ is_rule in
    IfOk-weaker c.arg.result _ _ (λ r h. h.shape (ap (λ a. a.global) c.help.ensures ∙ local) ∙ ap₂ with_rule app_is rule_is) c.arg.ensures
