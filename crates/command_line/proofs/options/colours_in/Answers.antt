use Rattle.std.proofs.Common.{◌∙◌, sym, codes}
use Rattle.clap.specs.Words.{found_of}
use Rattle.clap.proofs.WalkLemmas.{first_value-rows}
use Rattle.command_line.proofs.Words.{colours_named-none, colours_named-some}
use Rattle.command_line.proofs.options.colours_in.Goals as goal

pub returns-in-Some : goal.returns-in-Some
returns-in-Some c =
    rw (← first_value-rows (found_of c.args.options.now) (codes "COLOR"))
    (c.colours_of.ensures ∙ sym (colours_named-some c.get_str.result _ c.in-Some.name c.get_str.ensures c.in-Some.is))

pub returns-in-None : goal.returns-in-None
returns-in-None c =
    rw (← first_value-rows (found_of c.args.options.now) (codes "COLOR"))
    (sym (colours_named-none c.get_str.result _ c.get_str.ensures c.in-None.is))
