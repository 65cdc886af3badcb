use Rattle.std.proofs.Common.{rules}
use Rattle.counted_ref.specs.Splits.{word_back}
use Rattle.counted_ref.proofs.reference.CountedRefOfPartialEq.eq.Goals as goal

pub returns : goal.returns
returns g c = search (rules, word_back)
