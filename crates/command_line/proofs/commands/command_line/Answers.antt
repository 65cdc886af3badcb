use Rattle.std.proofs.Common.{refl, ap, ◌∙◌}
use Rattle.std.proofs.lemmas.Result.{IfOk-weaker}
use Rattle.clap.specs.Simple.{app_of_fields}
use Rattle.command_line.proofs.commands.command_line.Goals as goal

pub returns : goal.returns
returns c =
    let one = c.joined-program.ensures _ _ refl c.bare_program.ensures c.run_command.ensures in
    let two = c.joined-program-2.ensures _ _ refl one c.trace_command.ensures in
    let three = c.joined-program-3.ensures _ _ refl two c.show_command.ensures in
    let four = c.joined-program-4.ensures _ _ refl three c.check_command.ensures in
    let five = c.joined-program-5.ensures _ _ refl four c.place_command.ensures in
    let six = c.joined-program-6.ensures _ _ refl five c.work_command.ensures in
    let seven = c.joined-program-7.ensures _ _ refl six c.post_command.ensures in
    let eight = c.in_ok-joined.ensures _ _ refl seven c.explain_command.ensures in
    IfOk-weaker c.bin_name.result _ _ (λ r h. ap app_of_fields h.0 ∙ eight) c.bin_name.ensures
