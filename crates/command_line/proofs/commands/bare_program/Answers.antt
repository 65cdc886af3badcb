use Rattle.std.proofs.Common.{ap, true}
use Rattle.clap.specs.Words.{App}
use Rattle.command_line.proofs.commands.bare_program.Goals as goal

-- the program's command, from a new one
abbrev bare_of : App → App
bare_of a = record { top = record a.top { has_version = true; no_binary_name = true; subcommand_required = true }; subs = a.subs }

pub returns : goal.returns
returns c = rw (c.subcommand_required.ensures, c.no_binary_name.ensures, c.after_help.ensures, c.version.ensures, c.about.ensures) (ap bare_of c.new.ensures.app)
