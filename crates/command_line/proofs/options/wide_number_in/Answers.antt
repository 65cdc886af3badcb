use Rattle.std.proofs.Common.{Option, subst}
use Rattle.std.specs.Prelude.{ℕ, unwrap_or}
use Rattle.std.specs.Str.Parse.{ParsesUnsigned, ExplainsUnsignedError, HasUnsignedDigitsIfOk}
use Rattle.clap.specs.Words.{found_of, one_text}
use Rattle.clap.proofs.WalkLemmas.{one_text-rows}
use Rattle.command_line.specs.Commands.{SaysNumberIn}
use Rattle.command_line.proofs.Words.{SaysNumberIn-read}
use Rattle.command_line.proofs.options.wide_number_in.Goals as goal

pub returns-in-Some : goal.returns-in-Some
returns-in-Some c =
    rw (← one_text-rows (found_of c.args.options.now) c.args.id.now)
    (subst (λ (r : Option ℕ). SaysNumberIn 64 (one_text (found_of c.args.options.now) c.args.id.now) c.args.other (unwrap_or r c.args.other)) c.in-Some.is
    (SaysNumberIn-read 64 (λ bs r. ParsesUnsigned 64 10 bs r × ExplainsUnsignedError 10 bs r × HasUnsignedDigitsIfOk bs r) (λ t r g. g.0) _
    c.get_one.result c.args.other c.get_one.ensures.none c.get_one.ensures.value))

pub returns-in-None : goal.returns-in-None
returns-in-None c =
    rw (← one_text-rows (found_of c.args.options.now) c.args.id.now)
    (subst (λ (r : Option ℕ). SaysNumberIn 64 (one_text (found_of c.args.options.now) c.args.id.now) c.args.other (unwrap_or r c.args.other)) c.in-None.is
    (SaysNumberIn-read 64 (λ bs r. ParsesUnsigned 64 10 bs r × ExplainsUnsignedError 10 bs r × HasUnsignedDigitsIfOk bs r) (λ t r g. g.0) _
    c.get_one.result c.args.other c.get_one.ensures.none c.get_one.ensures.value))
