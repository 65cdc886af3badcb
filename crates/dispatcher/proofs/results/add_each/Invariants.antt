use Rattle.std.specs.Prelude.{◌≡◌, ◌⊎◌, ◌+◌, ◌≤◌, ◌++◌, ℕ, length, vec_capacity}
use Rattle.std.specs.List.{Contains}
use Rattle.job_results.specs.Gathers.{jobs_in, found_in}
use Rattle.dispatcher.specs.Goings.{IsFilled, OnlyAdds, AreListed, numbers_in, seats_in}
use Rattle.dispatcher.proofs.results.add_each.Given as goal

abbrev pub invariant-loop-back : goal.invariant-loop-back
invariant-loop-back g l = record {
  jobs : jobs_in l.gather ≡ jobs_in l.fn.gather;
  adds : OnlyAdds (found_in l.fn.gather) (numbers_in l.fn.workers.items) (found_in l.gather);
  more : (n : ℕ) → Contains (numbers_in l.back-iterator.rest.items) n → Contains (numbers_in l.fn.workers.items) n;
  listed : AreListed (jobs_in l.fn.gather) l.fn.workers.items → AreListed (jobs_in l.fn.gather) l.back-iterator.rest.items;
  fills : AreListed (jobs_in l.fn.gather) l.fn.workers.items → (p : ℕ) → IsFilled (found_in l.fn.gather) p ⊎ Contains (numbers_in l.fn.workers.items) (p + 1)
      → IsFilled (found_in l.gather) p ⊎ Contains (numbers_in l.back-iterator.rest.items) (p + 1);
  seats : l.seats.items ++ seats_in l.back-iterator.rest.items ≡ l.initial.seats.items ++ seats_in l.fn.workers.items;
  room : length l.seats.items + length l.back-iterator.rest.items ≤ vec_capacity l.seats;
}
