use Rattle.std.proofs.Common.{◌≡◌, ap, ap₂, ◌∙◌}
use Rattle.std.proofs.lemmas.Result.{IfOk-weaker}
use Rattle.clap.specs.Words.{App, app_of, with_subcommand}
use Rattle.command_line.proofs.Words.{plain_local}
use Rattle.command_line.proofs.commands.joined.Goals as goal

pub returns : goal.returns
returns c = λ app sub plain is_app is_sub.
    let app_is : app_of c.in_ok-program.field-0 ≡ app = rw c.in_ok-program.was at is_app in
    let sub_is : app_of c.in_ok-more.field-0 ≡ sub = rw c.in_ok-more.was at is_sub in
    IfOk-weaker c.subcommand.result _ _ (λ r h. h.shape (plain_local _ _ _ _ (ap (λ (a : App). a.top.is_plain) sub_is ∙ plain)) ∙ ap₂
    (λ (a b : App). with_subcommand a b.top) app_is sub_is) c.subcommand.ensures
