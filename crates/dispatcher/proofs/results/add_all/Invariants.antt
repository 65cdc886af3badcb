use Rattle.std.specs.Prelude.{◌≡◌, ◌⊎◌, ◌+◌, ℕ, map}
use Rattle.std.specs.List.{All, Contains}
use Rattle.job_results.specs.GatheredResults.{IsListed}
use Rattle.job_results.specs.Gathers.{jobs_in, found_in}
use Rattle.job_results.specs.Results.{number_in}
use Rattle.dispatcher.specs.Goings.{IsFilled, OnlyAdds}
use Rattle.dispatcher.proofs.results.add_all.Given as goal

abbrev pub invariant-loop-result : goal.invariant-loop-result
invariant-loop-result l = record {
  jobs : jobs_in l.gather ≡ jobs_in l.fn.gather;
  adds : OnlyAdds (found_in l.fn.gather) (map number_in l.fn.results.items) (found_in l.gather);
  more : (n : ℕ) → Contains (map number_in l.result-iterator.rest.items) n → Contains (map number_in l.fn.results.items) n;
  listed : All (IsListed (jobs_in l.fn.gather)) l.fn.results.items → All (IsListed (jobs_in l.fn.gather)) l.result-iterator.rest.items;
  fills : All (IsListed (jobs_in l.fn.gather)) l.fn.results.items → (p : ℕ) → IsFilled (found_in l.fn.gather) p ⊎ Contains (map number_in l.fn.results.items) (p + 1)
      → IsFilled (found_in l.gather) p ⊎ Contains (map number_in l.result-iterator.rest.items) (p + 1);
}
