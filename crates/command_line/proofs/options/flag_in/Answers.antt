use Rattle.clap.specs.Words.{found_of, one_text}
use Rattle.clap.proofs.WalkLemmas.{one_text-rows}
use Rattle.command_line.proofs.Words.{SaysFlag-read}
use Rattle.command_line.proofs.options.flag_in.Goals as goal

pub returns : goal.returns
returns c =
    rw (← one_text-rows (found_of c.args.options.now) c.args.id.now)
    (SaysFlag-read (one_text (found_of c.args.options.now) c.args.id.now) c.get_flag.result c.get_flag.ensures.none c.get_flag.ensures.value c.get_flag.ensures.other)
