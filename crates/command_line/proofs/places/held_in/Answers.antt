use Rattle.std.proofs.Common.{◌∙◌, sym, codes}
use Rattle.clap.specs.Words.{found_of, rows_of, subcommand_rows_of}
use Rattle.clap.proofs.WalkLemmas.{first_value-rows}
use Rattle.command_line.proofs.Words.{held_met-rows}
use Rattle.command_line.proofs.places.held_in.Goals as goal

pub returns : goal.returns
returns c =
    let found = found_of c.in_ok-_command.options.now in
    c.get_str.ensures ∙ first_value-rows found (codes "HOLDS") ∙ sym (held_met-rows (subcommand_rows_of c.args.matches.now) (rows_of found) (sym c.in_ok-_command.ensures.rows))
