use Rattle.command_line.proofs.queue_commands.work_command.Goals as goal

pub returns : goal.returns
returns c =
    let one = c.with_arg-command.ensures _ _ c.number_option-workers.ensures.local c.number_option-workers.ensures.rule c.command_on-command.ensures in
    let two = c.with_arg-command-2.ensures _ _ c.queue_option.ensures.local c.queue_option.ensures.rule one in
    c.with_arg.ensures _ _ c.number_option-nodes.ensures.local c.number_option-nodes.ensures.rule two
