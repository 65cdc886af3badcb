use Rattle.command_line.proofs.show_options.show_command.Goals as goal

pub returns : goal.returns
returns c =
    let one = c.with_arg-command.ensures _ _ c.number_option-width.ensures.local c.number_option-width.ensures.rule c.command_on-command.ensures in
    let two = c.with_arg-command-2.ensures _ _ c.number_option-from.ensures.local c.number_option-from.ensures.rule one in
    let three = c.with_arg-command-3.ensures _ _ c.number_option-to.ensures.local c.number_option-to.ensures.rule two in
    let four = c.with_arg-command-4.ensures _ _ c.number_option-actor.ensures.local c.number_option-actor.ensures.rule three in
    let five = c.with_arg-command-5.ensures _ _ c.flag_option-history.ensures.local c.flag_option-history.ensures.rule four in
    let six = c.with_arg-command-6.ensures _ _ c.flag_option-page.ensures.local c.flag_option-page.ensures.rule five in
    let seven = c.with_arg-command-7.ensures _ _ c.flag_option-why.ensures.local c.flag_option-why.ensures.rule six in
    let eight = c.with_arg-command-8.ensures _ _ c.flag_option-lines.ensures.local c.flag_option-lines.ensures.rule seven in
    c.with_arg.ensures _ _ c.color_option.ensures.local c.color_option.ensures.rule eight
