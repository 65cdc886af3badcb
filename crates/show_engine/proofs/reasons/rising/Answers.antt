-- Numbers that are sorted are the same ones.
use Rattle.std.proofs.Common.{sym}
use Rattle.std.specs.Prelude.{nat_eq}
use Rattle.std.proofs.lemmas.List.Sorted.{IsNonDecreasingBy-from_sort, list_any-IsPermutation}
use Rattle.show_engine.proofs.reasons.rising.Goals as goal

pub returns : goal.returns
returns c = record {
  order = IsNonDecreasingBy-from_sort (λ x. x) _ c.sort_unstable.ensures.sorted;
  same = λ number. sym (list_any-IsPermutation (λ at. nat_eq at number) c.args.numbers.items c.sort_unstable.new.self.items c.sort_unstable.ensures.permutation);
}
