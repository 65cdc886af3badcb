use Rattle.std.proofs.Common.{Err, nat_cmp, subst}
use Rattle.std.specs.List.Sorted.{IsBinarySearchResult}
use Rattle.placing.proofs.Ranks.{is_found}
use Rattle.placing.proofs.spread_stamps.Spread.rank.Goals as goal

pub returns-in-Err-clause-some : goal.returns-in-Err-clause-some
returns-in-Err-clause-some c = λ there.
    let missed = subst (λ numbers. IsBinarySearchResult (λ y. nat_cmp y c.args.number) numbers (Err c.in-Err.field-0)) c.deref.ensures.value c.in-Err.ensures.position in
    absurd (is_found c.args.self.now.numbers.items c.args.number c.in-Err.field-0 c.requires there missed)
