use Rattle.command_line.proofs.commands.run_command.Goals as goal

pub returns : goal.returns
returns c = c.with_arg.ensures _ _ c.flag_option-expand.ensures.local c.flag_option-expand.ensures.rule c.command_on-command.ensures
