use Rattle.std.proofs.Common.{◌∙◌, ◌+◌, inl, inr, sym, refl, subst, map, [], ◌∷◌}
use Rattle.std.specs.List.{All, Contains}
use Rattle.std.proofs.lemmas.List.Elements.{All-head, All-tail, Contains-append_left, Contains-append_right, Contains-append_cases}
use Rattle.job_results.specs.GatheredResults.{IsListed}
use Rattle.job_results.specs.Gathers.{jobs_in}
use Rattle.job_results.specs.Results.{number_in}
use Rattle.dispatcher.proofs.Adding.{added_one, filled_one}
use Rattle.dispatcher.proofs.results.add_all.Goals as goal

pub loop-result-init : goal.loop-result-init
loop-result-init c =
    let gives = c.into_iter-result-iterator.ensures.into_iter_gives.0 in
    record {
      jobs = refl;
      adds = λ p h. inl h;
      more = λ n h. subst (λ rs. Contains (map number_in rs) n) gives h;
      listed = λ all. subst (All (IsListed (jobs_in c.args.gather.now))) (sym gives) all;
      fills = λ all p h. elim h [ inl k ↦ inl k | inr k ↦ inr (subst (λ rs. Contains (map number_in rs) (p + 1)) (sym gives) k) ];
    }

pub loop-result-preserved : goal.loop-result-preserved
loop-result-preserved c =
    let was = c.loop-result.invariant in
    let split = c.in-Some.ensures.steps.0 in
    let r = c.in-Some.result in
    let rest = c.next.new.self.rest.items in
    let jobs = jobs_in c.args.gather.now in
    let one = added_one c.loop-result.gather c.add.new.self r c.add.result c.add.ensures.added c.add.ensures.refused in
    let next : All (IsListed jobs) c.args.results.items → All (IsListed jobs) (r ∷ rest) = λ all. subst (All (IsListed jobs)) split (was.listed all) in
    record {
      jobs = c.add.ensures.jobs ∙ was.jobs;
      adds = λ p h. elim (one p h) [
        | inl k ↦ was.adds p k
        | inr k ↦ inr (was.more (p + 1) (subst (λ rs. Contains (map number_in rs) (p + 1)) (sym split) (Contains-append_left (number_in r ∷ []) (map number_in rest) (p + 1) k)))
      ];
      more = λ n h. was.more n (subst (λ rs. Contains (map number_in rs) n) (sym split) (Contains-append_right (number_in r ∷ []) (map number_in rest) n h));
      listed = λ all. All-tail (IsListed jobs) r rest (next all);
      fills = λ all p h.
          let fill = filled_one c.loop-result.gather c.add.new.self r c.add.result
          (subst (λ js. IsListed js r) (sym was.jobs) (All-head (IsListed jobs) r rest (next all))) c.add.ensures.added c.add.ensures.refused
          c.add.ensures.refusal in
          elim (was.fills all p h) [
            | inl k ↦ inl (fill p (inl k))
            | inr k ↦ elim (Contains-append_cases (number_in r ∷ []) (map number_in rest) (p + 1) (subst (λ rs. Contains (map number_in rs) (p + 1)) split k)) [
              | inl m ↦ inl (fill p (inr m))
              | inr m ↦ inr m
            ]
          ];
    }
