use Rattle.std.proofs.Common.{◌∙◌}
use Rattle.std.proofs.lemmas.List.Sorted.{searched}
use Rattle.show_engine.proofs.Lookups.{among_found}
use Rattle.show_engine.proofs.effects.is_among.Goals as goal

pub returns : goal.returns
returns c =
    let found = searched c.args.numbers.now c.args.number c.binary_search.result c.binary_search.ensures.position (λ i j le below. c.requires i j 0 le below) in
    c.is_ok.ensures.value ∙ among_found c.args.numbers.now c.args.number c.binary_search.result found
