use Rattle.std.proofs.Common.{◌∙◌, ◌+◌, ◌++◌, inl, inr, sym, refl, ap, subst, [], ◌∷◌, length, append_assoc, arith}
use Rattle.std.specs.List.{All, Contains}
use Rattle.std.proofs.lemmas.List.Elements.{All-head, All-tail, Contains-append_left, Contains-append_right, Contains-append_cases}
use Rattle.job_results.specs.GatheredResults.{IsListed}
use Rattle.job_results.specs.Gathers.{jobs_in}
use Rattle.dispatcher.specs.Goings.{AreListed, numbers_of, numbers_in, seats_in}
use Rattle.dispatcher.proofs.results.add_each.Goals as goal

pub loop-back-init : goal.loop-back-init
loop-back-init g c =
    let gives = c.into_iter-back-iterator.ensures.into_iter_gives.0 in
    let few = ap length gives in
    let room = c.requires in
    record {
      jobs = refl;
      adds = λ p h. inl h;
      more = λ n h. subst (λ ws. Contains (numbers_in ws) n) gives h;
      listed = λ all. subst (AreListed (jobs_in c.args.gather.now)) (sym gives) all;
      fills = λ all p h. elim h [ inl k ↦ inl k | inr k ↦ inr (subst (λ ws. Contains (numbers_in ws) (p + 1)) (sym gives) k) ];
      seats = ap (λ ws. c.args.seats.items ++ seats_in ws) gives;
      room = omega (arith, few, room);
    }

pub loop-back-preserved : goal.loop-back-preserved
loop-back-preserved g c =
    let was = c.loop-back.invariant in
    let split = c.in-Some.ensures.steps.0 in
    let w = c.in-Some.back in
    let rest = c.next.new.self.rest.items in
    let jobs = jobs_in c.args.gather.now in
    let fewer = ap length split in
    let room = was.room in
    let len = c.push_reserved.ensures.len in
    let cap = c.push_reserved.ensures.capacity in
    let next : AreListed jobs c.args.workers.items → AreListed jobs (w ∷ rest) = λ all. subst (AreListed jobs) split (was.listed all) in
    record {
      jobs = c.add_all.ensures.jobs ∙ was.jobs;
      adds = λ p h. elim (c.add_all.ensures.adds p h) [
        | inl k ↦ was.adds p k
        | inr k ↦ inr (was.more (p + 1) (subst (λ ws. Contains (numbers_in ws) (p + 1)) (sym split) (Contains-append_left (numbers_of w) (numbers_in rest) (p + 1) k)))
      ];
      more = λ n h. was.more n (subst (λ ws. Contains (numbers_in ws) n) (sym split) (Contains-append_right (numbers_of w) (numbers_in rest) n h));
      listed = λ all. All-tail (λ back. All (IsListed jobs) back.results.items) w rest (next all);
      fills = λ all p h.
          let fill = c.add_all.ensures.fills (subst (λ js. All (IsListed js) w.results.items) (sym was.jobs) (All-head (λ back. All (IsListed jobs) back.results.items) w rest (next all))) in
          elim (was.fills all p h) [
            | inl k ↦ inl (fill p (inl k))
            | inr k ↦ elim (Contains-append_cases (numbers_of w) (numbers_in rest) (p + 1) (subst (λ ws. Contains (numbers_in ws) (p + 1)) split k)) [
              | inl m ↦ inl (fill p (inr m))
              | inr m ↦ inr m
            ]
          ];
      seats = ap (λ l. l ++ seats_in rest) c.push_reserved.ensures.items ∙ append_assoc c.loop-back.seats.items (w.seat ∷ []) (seats_in rest) ∙ ap
          (λ ws. c.loop-back.seats.items ++ seats_in ws) (sym split) ∙ was.seats;
      room = omega (arith, fewer, room, len, cap);
    }
