use Rattle.std.proofs.Common.{◌∙◌, ap, sym, List, ℕ}
use Rattle.std.specs.Prelude.{nat_eq}
use Rattle.std.proofs.lemmas.List.Sorted.{IsNonDecreasingBy-from_sort, list_any-IsPermutation}
use Rattle.show_engine.proofs.Lookups.{points_of-among}
use Rattle.show_engine.specs.PicturesWritten.{is_among}
use Rattle.show_engine.proofs.effects.effects_of.Goals as goal

pub returns-clause-ok : goal.returns-clause-ok
returns-clause-ok c = record {
  rising = IsNonDecreasingBy-from_sort (λ x. x) _ c.sort_unstable.ensures.sorted;
  each = λ number.
      sym (list_any-IsPermutation (λ at. nat_eq at number) c.in_ok-points.points.items c.sort_unstable.new.self.items c.sort_unstable.ensures.permutation)
      ∙ ap (λ (points : List ℕ). is_among points number) c.in_ok-points.ensures.ok
      ∙ points_of-among c.args.operations.now number;
}
