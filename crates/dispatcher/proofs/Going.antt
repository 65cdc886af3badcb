-- The numbers of the results that workers brought back are those that their seats took.
use Rattle.std.proofs.Common.{◌≡◌, ◌∙◌, ◌+◌, ◌-◌, inl, inr, sym, refl, ap, subst, ℕ, true, eq-eqb, List, [], ◌∷◌, ◌++◌, map, Some, Result, Ok, Err, IsSomeAnd, IsTrue, slice_get, append-nil, arith}
use Rattle.std.specs.List.{All, AllZip, Contains}
use Rattle.std.specs.Result.{IfOk, IfErr}
use Rattle.std.specs.String.{string_eq_equiv}
use Rattle.std.proofs.lemmas.List.{map-append}
use Rattle.std.proofs.lemmas.List.Elements.{All-nil, All-cons, Contains-append_left, Contains-append_right, Contains-append_cases}
use Rattle.std.proofs.lemmas.Grind.{flat_map-append}
use Rattle.history.specs.declared.operations.Entry.{Entry}
use Rattle.history.specs.declared.operations.Entry.TheVariants.{Pop}
use Rattle.history.specs.declared.operations.Taken.{Taken}
use Rattle.history.specs.declared.refusals.Refusal.{Refusal}
use Rattle.history.specs.declared.refusals.Refusal.TheVariants.{Lost, Stranger, WornOut}
use Rattle.history.specs.Seats.{Known}
use Rattle.history.specs.Values.{popped, popped_by}
use Rattle.job_results.specs.declared.jobs.Job.{Job}
use Rattle.job_results.specs.declared.results.JobResult.{JobResult}
use Rattle.job_results.specs.declared.jobs.Job.TheVariants.{Add, Mul, Div, Len}
use Rattle.job_results.specs.Jobs.{same_job}
use Rattle.job_results.specs.Results.{number_in, job_in}
use Rattle.job_results.specs.GatheredResults.{IsListed}
use Rattle.job_results.proofs.Same.{true_both}
use Rattle.dispatcher.specs.declared.workers.Back.{Back}
use Rattle.dispatcher.specs.declared.workers.End.{End}
use Rattle.dispatcher.specs.declared.workers.End.TheVariants.{Finished, Stopped, NoMemory, Refused}
use Rattle.dispatcher.specs.declared.crews.JobsRun.{JobsRun}
use Rattle.dispatcher.specs.Turns.{IsResultOf, EndsSo, IsBack}
use Rattle.dispatcher.specs.Crews.{HasRun}
use Rattle.dispatcher.specs.Goings.{Came, AreListed, numbers_of, numbers_in, seats_in, body_of, bodies_of, bodies_in, IsKept, WentOver, LosesOnly}

popped-pops : (n : ℕ) (vs : List Taken) → popped (map (Pop n) vs) ≡ vs
popped-pops n [] = refl
popped-pops n (v ∷ vs) = ap (λ t. v ∷ t) (popped-pops n vs)

pub numbers_are : (jobs : List Job) (vs : List Taken) (rs : List JobResult) → AllZip (IsResultOf jobs) vs rs → map number_in rs ≡ map body_of vs
numbers_are jobs [] [] all = refl
numbers_are jobs [] (r ∷ rs) all = absurd all
numbers_are jobs (v ∷ vs) [] all = absurd all
numbers_are jobs (v ∷ vs) (r ∷ rs) all = λ i. all.0.numbered i ∷ numbers_are jobs vs rs all.1 i

-- a worker's end adds to what its seat did, if anything
module _ {Q S : Type 0} (is_seat : Q → S → Type 0) (known : S → Known) (cause : Q → S → S → ℕ → Refusal → Type 0) (queue : Q) (jobs : List Job) (stops : Type 0) (before after : S) where
  ended_more : (end : End) → EndsSo is_seat known cause queue jobs stops before after end → (more : List Entry) × ((known after).mine ≡ (known before).mine ++ more)
  ended_more Finished h = ([], h.1 ∙ sym (append-nil (known before).mine))
  ended_more Stopped h = ([], h.2 ∙ sym (append-nil (known before).mine))
  ended_more (NoMemory none) h = ([], h ∙ sym (append-nil (known before).mine))
  ended_more (Refused (WornOut word)) h = ([], h.0 ∙ sym (append-nil (known before).mine))
  ended_more (Refused Stranger) h = (Pop (known before).number h.0 ∷ [], h.2)
  ended_more (Refused _) h = absurd h

-- a job is the same as itself
same_itself : (job : Job) → same_job job job ≡ true
same_itself (Add a b) = true_both _ _ (eq-eqb a a refl) (eq-eqb b b refl)
same_itself (Mul a b) = true_both _ _ (eq-eqb a a refl) (eq-eqb b b refl)
same_itself (Div a b) = true_both _ _ (eq-eqb a a refl) (eq-eqb b b refl)
same_itself (Len text) = string_eq_equiv.refl text

-- the results of numbers that were taken are of jobs in the list
results_listed : (jobs : List Job) (vs : List Taken) (rs : List JobResult) → AllZip (IsResultOf jobs) vs rs → All (IsListed jobs) rs
results_listed jobs vs [] all = All-nil (IsListed jobs)
results_listed jobs [] (r ∷ rs) all = absurd all
results_listed jobs (v ∷ vs) (r ∷ rs) all =
    let one = all.0.from_one in
    let n = all.0.numbered in
    let at : slice_get jobs (number_in r - 1) ≡ Some (job_in r) = ap (λ m. slice_get jobs (m - 1)) n ∙ all.0.of in
    All-cons (IsListed jobs) r rs (omega (arith, one, n), subst (λ o. IsSomeAnd o (λ there. IsTrue (same_job (job_in r) there))) (sym at) (same_itself (job_in r))) (results_listed jobs vs rs all.1)

module _ {Q S : Type 0} (is_seat : Q → S → Type 0) (known : S → Known) (cause : Q → S → S → ℕ → Refusal → Type 0) (queue : Q) (jobs : List Job) (stops : Type 0) (gated : ℕ → Type 0) where
  -- the seat of a worker took the number of each of its results
  back_took : (was : S) (w : Back S) (n : ℕ) → IsBack is_seat known cause queue jobs stops gated was w → Contains (numbers_of w) n → Contains (bodies_of known w.seat) n
  back_took was w n b h =
      let k = known was in
      let vs = b.done.values in
      let pops = map (Pop k.number) vs in
      let more = ended_more is_seat known cause queue jobs stops b.last w.seat w.end b.ended in
      let mine : (known w.seat).mine ≡ (k.mine ++ pops) ++ more.0 = more.1 ∙ ap (λ (es : List Entry). es ++ more.0) b.done.mine in
      let took : popped (known w.seat).mine ≡ (popped k.mine ++ vs) ++ popped more.0 =
      ap popped mine ∙ flat_map-append popped_by (k.mine ++ pops) more.0
      ∙ ap (λ (xs : List Taken). xs ++ popped more.0) (flat_map-append popped_by k.mine pops ∙ ap (λ (xs : List Taken). popped k.mine ++ xs) (popped-pops k.number vs)) in
      let bodies : bodies_of known w.seat ≡ (map body_of (popped k.mine) ++ map body_of vs) ++ map body_of (popped more.0) =
      ap (map body_of) took ∙ map-append body_of (popped k.mine ++ vs) (popped more.0)
      ∙ ap (λ (xs : List ℕ). xs ++ map body_of (popped more.0)) (map-append body_of (popped k.mine) vs) in
      subst (λ xs. Contains xs n) (sym bodies)
      (Contains-append_left (map body_of (popped k.mine) ++ map body_of vs) (map body_of (popped more.0)) n
      (Contains-append_right (map body_of (popped k.mine)) (map body_of vs) n (subst (λ xs. Contains xs n) (numbers_are jobs vs w.results.items b.done.done) h)))

  all_took : (takers : List S) (ws : List (Back S)) (n : ℕ) → AllZip (IsBack is_seat known cause queue jobs stops gated) takers ws → Contains (numbers_in ws) n → Contains (bodies_in known (seats_in ws)) n
  all_took takers [] n all h = h
  all_took [] (w ∷ ws) n all h = absurd all
  all_took (t ∷ ts) (w ∷ ws) n all h =
      elim (Contains-append_cases (numbers_of w) (numbers_in ws) n h) [
        | inl k ↦ Contains-append_left (bodies_of known w.seat) (bodies_in known (seats_in ws)) n (back_took t w n all.0 k)
        | inr k ↦ Contains-append_right (bodies_of known w.seat) (bodies_in known (seats_in ws)) n (all_took ts ws n all.1 k)
      ]

  pub all_listed : (takers : List S) (ws : List (Back S)) → AllZip (IsBack is_seat known cause queue jobs stops gated) takers ws → AreListed jobs ws
  all_listed takers [] all = All-nil (λ (b : Back S). All (IsListed jobs) b.results.items)
  all_listed [] (w ∷ ws) all = absurd all
  all_listed (t ∷ ts) (w ∷ ws) all =
      All-cons (λ (b : Back S). All (IsListed jobs) b.results.items) w ws (results_listed jobs all.0.done.values w.results.items all.0.done.done) (all_listed ts ws all.1)

  all_kept : (takers : List S) (ws : List (Back S)) → AllZip (IsBack is_seat known cause queue jobs stops gated) takers ws → AllZip (IsKept is_seat known queue) takers (seats_in ws)
  all_kept [] [] all = tt
  all_kept [] (w ∷ ws) all = absurd all
  all_kept (t ∷ ts) [] all = absurd all
  all_kept (t ∷ ts) (w ∷ ws) all = ((all.0.seat, all.0.number), all_kept ts ws all.1)

  -- so the numbers of jobs that all have a result went over the queue
  pub went_over : (push_cause shut_cause : Q → S → S → ℕ → Refusal → Type 0) (giver : S) (takers : List S) (run : JobsRun S) (n : ℕ) (seats : List S)
      → HasRun is_seat known push_cause cause shut_cause queue jobs stops gated giver takers run
      → Came n (numbers_in run.workers.items) → seats ≡ run.giver.seat ∷ seats_in run.workers.items
      → WentOver is_seat known queue giver takers n seats
  went_over push_cause shut_cause giver takers run n seats h came same =
      let ws = run.workers.items in
      subst (WentOver is_seat known queue giver takers n) (sym same)
      (record {
        kept = ((h.given.seat, h.given.number), all_kept takers ws h.back);
        taken = λ p low. Contains-append_right (bodies_of known run.giver.seat) (bodies_in known (seats_in ws)) (p + 1) (all_took takers ws (p + 1) h.back (came p low));
      })

-- where two things hold of an answer, what follows from both does
pub both_ok : {A E : Type 0} (r : Result A E) (P Q T : A → Type 0) → ((a : A) → P a → Q a → T a) → IfOk r P → IfOk r Q → IfOk r T
both_ok (Ok a) P Q T f p q = f a p q
both_ok (Err e) P Q T f p q = tt

-- an answer that is refused by `Lost` only with a cause
pub lost_so : {A : Type 0} (cause : Type 0) (r : Result A Refusal) → (r ≡ Err Lost → cause) → IfErr r (LosesOnly cause)
lost_so cause (Ok a) f = tt
lost_so cause (Err Lost) f = f refl
lost_so cause (Err _) f = tt
