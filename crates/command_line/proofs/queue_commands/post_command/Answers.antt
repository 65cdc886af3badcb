use Rattle.command_line.proofs.queue_commands.post_command.Goals as goal

pub returns : goal.returns
returns c = c.with_arg.ensures _ _ c.queue_option.ensures.local c.queue_option.ensures.rule c.command_on-command.ensures
