-- What a worker has done after one more turn.
use Rattle.std.proofs.Common.{◌≡◌, ◌∙◌, ℕ, inl, inr, sym, ap, subst, List, [], ◌∷◌, ◌++◌, map, append-nil, append_assoc}
use Rattle.std.specs.List.{All, AllZip}
use Rattle.std.proofs.lemmas.List.{map-append}
use Rattle.std.proofs.lemmas.List.Elements.{All-nil, All-cons, All-append}
use Rattle.history.specs.declared.operations.Entry.{Entry}
use Rattle.history.specs.declared.operations.Entry.TheVariants.{Pop}
use Rattle.history.specs.Seats.{Known}
use Rattle.job_results.specs.declared.jobs.Job.{Job}
use Rattle.job_results.specs.declared.results.JobResult.{JobResult}
use Rattle.job_results.specs.Results.{number_in}
use Rattle.dispatcher.specs.Turns.{DoesNext, IsResultOf, HasDone}

-- one more of each
pub zip-push : {X Y : Type 0} (R : X → Y → Type 0) (xs : List X) (ys : List Y) (x : X) (y : Y) → AllZip R xs ys → R x y → AllZip R (xs ++ x ∷ []) (ys ++ y ∷ [])
zip-push R [] [] x y all h = (h, tt)
zip-push R [] (w ∷ ys) x y all h = absurd all
zip-push R (z ∷ xs) [] x y all h = absurd all
zip-push R (z ∷ xs) (w ∷ ys) x y all h = (all.0, zip-push R xs ys x y all.1 h)

module _ (jobs : List Job) where
  -- nothing was done yet
  pub done_none : (k : Known) → HasDone jobs k k []
  done_none k = record { values = []; mine = sym (append-nil k.mine); done = tt }

  -- a turn did one job more, or nothing
  pub done_more : (gated : ℕ → Type 0) (k k1 k2 : Known) (out out' : List JobResult) → HasDone jobs k k1 out → k1.number ≡ k.number → DoesNext jobs gated k1 k2 out out' → HasDone jobs k k2 out'
  done_more gated k k1 k2 out out' h same (inr d) =
      record { values = h.values; mine = d.1 ∙ h.mine; done = subst (AllZip (IsResultOf jobs) h.values) (sym d.2) h.done }
  done_more gated k k1 k2 out out' h same (inl d) =
      let v = d.value in
      let r = d.put.result in
      record {
        values = h.values ++ v ∷ [];
        mine = d.took
            ∙ (λ i. h.mine i ++ Pop (same i) v ∷ [])
            ∙ append_assoc k.mine (map (Pop k.number) h.values) (Pop k.number v ∷ [])
            ∙ ap (λ (es : List Entry). k.mine ++ es) (sym (map-append (Pop k.number) h.values (v ∷ [])));
        done = subst (AllZip (IsResultOf jobs) (h.values ++ v ∷ [])) (sym d.put.added)
            (zip-push (IsResultOf jobs) h.values out v r h.done (record { from_one = d.put.from_one; numbered = d.put.numbered; of = d.put.of }));
      }

  -- the gate was told of one job more, or of none
  pub told_more : (gated : ℕ → Type 0) (k k' : Known) (out out' : List JobResult) → All (λ r. gated (number_in r)) out → DoesNext jobs gated k k' out out' → All (λ r. gated (number_in r)) out'
  told_more gated k k' out out' all (inr d) = subst (All (λ r. gated (number_in r))) (sym d.2) all
  told_more gated k k' out out' all (inl d) =
      subst (All (λ r. gated (number_in r))) (sym d.put.added)
      (All-append (λ r. gated (number_in r)) out (d.put.result ∷ []) all
      (All-cons (λ r. gated (number_in r)) d.put.result [] (subst gated (sym d.put.numbered) d.told) (All-nil (λ r. gated (number_in r)))))
