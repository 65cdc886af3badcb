use Rattle.std.proofs.Common.{ℕ, arith, tests}
use Rattle.std.specs.List.{Contains}
use Rattle.std.proofs.lemmas.List.Filters.{dedup_is}
use Rattle.std.proofs.lemmas.List.Kept.{Contains-dedup_nat}
use Rattle.std.proofs.lemmas.List.Sorted.{Contains-permutation}
use Rattle.std.proofs.lemmas.Map.Keys.{IsStrictlyIncreasing-dedup}
use Rattle.placing.proofs.Ranks.{all_still_used}
use Rattle.placing.proofs.spread_stamps.Spread.of.Goals as goal

pub returns-clause-all : goal.returns-clause-all
returns-clause-all c =
    let is = dedup_is _ _ _ c.dedup.ensures.filtered in
    record {
      rises = rw is (IsStrictlyIncreasing-dedup _ c.sort_unstable.ensures.sorted);
      wide = grind (arith, tests, c.saturating_add.ensures);
      used = all_still_used c.in_ok-numbers.numbers.items c.dedup.new.self.items stay c.args.history.now c.in_ok-numbers.ensures.each;
    }
  where
    stay : (n : ℕ) → Contains c.in_ok-numbers.numbers.items n → Contains c.dedup.new.self.items n
    stay n h =
        let is = dedup_is _ _ _ c.dedup.ensures.filtered in
        rw is (Contains-dedup_nat _ n (Contains-permutation _ _ n c.sort_unstable.ensures.permutation h))
