use Rattle.std.proofs.Common.{◌≡◌, ◌≢◌, true, false}
use Rattle.history.specs.declared.text_causes.TextCause.TheVariants.{End}
use Rattle.text_io.proofs.Prefixes.{lasting-refusal}
use Rattle.text_io.proofs.parsed_sources.lasting_fault.Goals as goal

pub returns-clause-fault : goal.returns-clause-fault
returns-clause-fault g c =
    let lasting : c.in-Text.cause ≢ End = λ e. let same : false ≡ true = rw e at c.if-eq.ensures in cc in
    lasting-refusal g.P.Parser.grammar g.P.Parser.first c.args.prefix.now c.in-Err.refusal c.in-Text.number c.in-Text.cause c.in-Err.ensures.err c.in-Text.is lasting
