use Rattle.std.proofs.Common.{◌∙◌, ap, sym, map}
use Rattle.tasks.specs.Answered.{value_in}
use Rattle.split_sum.specs.Squares.{squares_of}
use Rattle.split_sum.proofs.Adding.{none_of, adds_all}
use Rattle.split_sum.proofs.sums.total.Goals as goal

pub returns : goal.returns
returns g c =
    let feed = c.in-Ok.fed.feed in
    let end = c.in-Ok.ensures in
    let told = end.told in
    let none = none_of c.in-Ok.fed.refused (sym c.is_some.ensures ∙ c.if-is_some.false) in
    adds_all feed.all feed.waiting.items feed.total told.given told.told _ (end.idle none) (ap (map value_in) (end.all none)) told.answered (told.so_far c.if-fed.false)
    ∙ ap squares_of end.kept
