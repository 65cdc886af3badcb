-- Which jobs have a result after results were added.
use Rattle.std.proofs.Common.{◌≡◌, ◌∙◌, ◌⊎◌, inl, inr, sym, refl, ap, subst, ℕ, zero, suc, ◌+◌, ◌-◌, ◌<◌, List, [], ◌∷◌, map, length, replicate}
use Rattle.std.proofs.Common.{Option, Some, None, Result, Ok, Err, slice_get, slice_set, arith}
use Rattle.std.specs.List.{Contains}
use Rattle.std.specs.Result.{OnOk, OnErr, IfErr}
use Rattle.std.proofs.lemmas.List.{length-map}
use Rattle.history.specs.declared.refusals.Refusal.{Refusal}
use Rattle.history.specs.declared.refusals.Refusal.TheVariants.{Stranger, Double}
use Rattle.job_results.specs.declared.jobs.Job.{Job}
use Rattle.job_results.specs.declared.results.JobResult.{JobResult}
use Rattle.job_results.specs.declared.gathers.Gather.{Gather}
use Rattle.job_results.specs.Jobs.{job_rows}
use Rattle.job_results.specs.Results.{number_in, row_of}
use Rattle.job_results.specs.GatheredResults.{IsListed, MissesOne}
use Rattle.job_results.specs.Gathers.{jobs_in, found_in, Adds, RefusesToAdd}
use Rattle.dispatcher.specs.Goings.{IsFilled, OnlyAdds, Fills, Came}

-- of places of which one is filled, the others are as before
filled_set : (found : List (Option JobResult)) (i p : ℕ) (r : JobResult) → IsFilled (slice_set found i (Some r)) p → IsFilled found p ⊎ (p ≡ i)
filled_set [] i p r h = inl h
filled_set (o ∷ os) zero zero r h = inr refl
filled_set (o ∷ os) zero (suc p) r h = inl h
filled_set (o ∷ os) (suc i) zero r h = inl h
filled_set (o ∷ os) (suc i) (suc p) r h = elim (filled_set os i p r h) [ inl k ↦ inl k | inr e ↦ inr (ap suc e) ]

-- no place of none is filled
filled_none : (n p : ℕ) → IsFilled (replicate n None) p → ⊥
filled_none zero p h = absurd h
filled_none (suc n) zero h = absurd (cc h)
filled_none (suc n) (suc p) h = filled_none n p h

-- each place of results is
filled_some : (results : List JobResult) (p : ℕ) → p < length results → IsFilled (map (λ r. Some r) results) p
filled_some [] p low = absurd (omega (arith, low))
filled_some (r ∷ rs) zero low = refl
filled_some (r ∷ rs) (suc p) low = filled_some rs p (omega (arith, low))

-- a result that is added, or refused, fills no other place than its own
pub added_one : (g g' : Gather) (r : JobResult) (answer : Result (Unit {0}) Refusal) → OnOk answer (Adds g r g') → OnErr answer (g' ≡ g) → OnlyAdds (found_in g) (number_in r ∷ []) (found_in g')
added_one g g' r (Ok done) adds same p h =
    let one = adds.listed.0 in
    elim (filled_set (found_in g) (number_in r - 1) p r (subst (λ f. IsFilled f p) adds.put h)) [
      | inl k ↦ inl k
      | inr e ↦ inr (0, omega arith, omega (arith, e, one))
    ]
added_one g g' r (Err refusal) adds same p h = inl (subst (λ (x : Gather). IsFilled (found_in x) p) same h)

-- of places of which one is filled, the others stay filled
keeps_set : (found : List (Option JobResult)) (i p : ℕ) (r : JobResult) → IsFilled found p → IsFilled (slice_set found i (Some r)) p
keeps_set [] i p r h = h
keeps_set (o ∷ os) zero zero r h = refl
keeps_set (o ∷ os) zero (suc p) r h = h
keeps_set (o ∷ os) (suc i) zero r h = h
keeps_set (o ∷ os) (suc i) (suc p) r h = keeps_set os i p r h

-- and the one is filled that there is
fills_set : (found : List (Option JobResult)) (i : ℕ) (r : JobResult) → i < length found → IsFilled (slice_set found i (Some r)) i
fills_set [] i r low = absurd (omega (arith, low))
fills_set (o ∷ os) zero r low = refl
fills_set (o ∷ os) (suc i) r low = fills_set os i r (omega (arith, low))

low_place : (found : List (Option JobResult)) (i : ℕ) (o : Option JobResult) → slice_get found i ≡ Some o → i < length found
low_place [] i o at = absurd (let e : None ≡ Some o = at in cc)
low_place (x ∷ found) zero o at = omega arith
low_place (x ∷ found) (suc i) o at = let low = low_place found i o at in omega (arith, low)

-- a result of a job in the list is there once it was added, or refused since there is one
pub filled_one : (g g' : Gather) (r : JobResult) (answer : Result (Unit {0}) Refusal) → IsListed (jobs_in g) r → OnOk answer (Adds g r g')
    → OnErr answer (g' ≡ g) → IfErr answer (RefusesToAdd g r) → Fills (found_in g) (number_in r ∷ []) (found_in g')
filled_one g g' r (Ok done) listed adds same why p (inl h) = subst (λ f. IsFilled f p) (sym adds.put) (keeps_set (found_in g) (number_in r - 1) p r h)
filled_one g g' r (Ok done) listed adds same why p (inr c) =
    let one = listed.0 in
    let e : number_in r ≡ p + 1 = only_one c in
    let place : number_in r - 1 ≡ p = omega (arith, e) in
    subst (λ f. IsFilled f p) (sym adds.put) (subst (λ i. IsFilled (slice_set (found_in g) (number_in r - 1) (Some r)) i) place
    (fills_set (found_in g) (number_in r - 1) r (low_place (found_in g) (number_in r - 1) None adds.missing)))
  where
    only_one : Contains (number_in r ∷ []) (p + 1) → number_in r ≡ p + 1
    only_one (zero, low, e) = e
    only_one (suc k, low, e) = absurd (omega (arith, low))
filled_one g g' r (Err refusal) listed adds same why p (inl h) = subst (λ (x : Gather). IsFilled (found_in x) p) (sym same) h
filled_one g g' r (Err refusal) listed adds same why p (inr c) =
    subst (λ (x : Gather). IsFilled (found_in x) p) (sym same) (there refusal why)
  where
    only_one : Contains (number_in r ∷ []) (p + 1) → number_in r ≡ p + 1
    only_one (zero, low, e) = e
    only_one (suc k, low, e) = absurd (omega (arith, low))

    place : number_in r - 1 ≡ p
    place = let e = only_one c in omega (arith, e)

    there : (refusal : Refusal) → RefusesToAdd g r refusal → IsFilled (found_in g) p
    there Stranger h = absurd (h listed)
    there Double h = subst (λ i. IsFilled (found_in g) i) place h.1
    there _ h = absurd h

-- where all places are filled no result is missing
none_missing : (found : List (Option JobResult)) → ((p : ℕ) → p < length found → IsFilled found p) → MissesOne found → ⊥
none_missing [] all h = absurd (cc h)
none_missing (None ∷ os) all h = let one = all 0 (omega arith) in absurd (cc one)
none_missing (Some r ∷ os) all h = none_missing os (λ p low. all (suc p) (omega (arith, low))) h

-- so no job is lost that a worker brought a result of
pub none_lost : (jobs : ℕ) (found found' : List (Option JobResult)) (numbers : List ℕ) → length found' ≡ jobs → Fills found numbers found' → Came jobs numbers → MissesOne found' → ⊥
none_lost jobs found found' numbers many fills came = none_missing found' (λ p low. fills p (inr (came p (subst (λ n. p < n) many low))))

length-job_rows : (first : ℕ) (jobs : List Job) → length (job_rows first jobs) ≡ length jobs
length-job_rows first [] = refl
length-job_rows first (job ∷ jobs) = ap suc (length-job_rows (first + 1) jobs)

-- where all jobs have a result, and none had one before, each has a number of those that were added
pub came_all : (jobs : List Job) (found found' : List (Option JobResult)) (results : List JobResult) (numbers : List ℕ)
    → found ≡ replicate (length jobs) None → OnlyAdds found numbers found' → map (λ r. Some r) results ≡ found' → map row_of results ≡ job_rows 1 jobs
    → Came (length jobs) numbers
came_all jobs found found' results numbers none adds all rows p low =
    let long : length results ≡ length jobs = sym (length-map results row_of) ∙ ap length rows ∙ length-job_rows 1 jobs in
    elim (adds p (subst (λ f. IsFilled f p) all (filled_some results p (omega (arith, low, long))))) [
      | inl k ↦ absurd (filled_none (length jobs) p (subst (λ f. IsFilled f p) none k))
      | inr c ↦ c
    ]

-- no number stands in no list
pub none_in : (n : ℕ) → Contains [] n → ⊥
none_in n h = let low = h.1 in absurd (omega (arith, low))

-- answers that are refused alike are refused so
pub same_refusal : {X : Type 0} (a b : Refusal) → ◌≡◌ {A = Result X Refusal} (Err a) (Err b) → a ≡ b
same_refusal a b h = ap (refusal_or a) h
  where
    refusal_or : {X : Type 0} → Refusal → Result X Refusal → Refusal
    refusal_or d (Ok x) = d
    refusal_or d (Err refusal) = refusal
