use Rattle.command_line.proofs.places.place_command.Goals as goal

pub returns : goal.returns
returns c =
    let one = c.with_arg-command.ensures _ _ c.number_option-room.ensures.local c.number_option-room.ensures.rule c.command_on-command.ensures in
    let two = c.with_arg-command-2.ensures _ _ c.flag_option-why.ensures.local c.flag_option-why.ensures.rule one in
    c.with_arg.ensures _ _ c.held_option.ensures.local c.held_option.ensures.rule two
