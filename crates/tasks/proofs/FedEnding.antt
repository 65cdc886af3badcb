-- What became of each task, once both queues are closed by all their seats.
use Rattle.std.proofs.Common.{◌≡◌, ◌∙◌, sym, refl, ap, subst, ℕ, List, [], ◌∷◌, ◌++◌, map, length, append-nil, append_assoc, length-append, arith}
use Rattle.std.specs.List.{AllZip}
use Rattle.std.specs.List.Sorted.{IsPermutation}
use Rattle.std.proofs.lemmas.List.{map-append, length-map}
use Rattle.std.proofs.lemmas.List.Sorted.{IsPermutation-sym, IsPermutation-trans, IsPermutation-map, IsPermutation-append_left}
use Rattle.std.proofs.lemmas.List.Sorted.{IsPermutation-append_right, IsPermutation-append_comm, length_permutation}
use Rattle.carriers.specs.declared.items.ItemOf.{ItemOf}
use Rattle.carriers.specs.declared.rests.RestOf.{RestOf}
use Rattle.carriers.specs.Deeds.{item}
use Rattle.carriers.specs.Knowledge.{KnownOf}
use Rattle.carriers.specs.Rests.{left_in}
use Rattle.carriers.specs.Together.{pushed_by, popped_by}
use Rattle.carriers.proofs.Together.{to_front}
use Rattle.tasks.specs.declared.answers.Done.{Done}
use Rattle.tasks.specs.declared.runs.Numbered.{Numbered}
use Rattle.tasks.specs.Tasks.{IsDoneOf}
use Rattle.tasks.specs.Turns.{AreDone}
use Rattle.tasks.specs.Answered.{numbered, value_in, AnsweredOnce}
use Rattle.tasks.specs.Leaders.{LeadsSo}
use Rattle.tasks.proofs.Zipping.{zip-append, zip-values, zip-long}
use Rattle.tasks.proofs.Deeds.{values-items}

-- the tasks that were run by who hands them out, those that it popped, and those that workers popped; and what is left
module _ {T A : Type 0} (answers : T → A → Type 0) (stands : List T → List (Done A) → Type 0) (g : KnownOf (Numbered T)) (o : KnownOf (Done A)) (count awaited : ℕ)
    (so : LeadsSo answers stands g o count awaited)
    (ks : List (KnownOf (Numbered T))) (os : List (KnownOf (Done A))) (items : List (ItemOf (Numbered T))) (dones sent unsent : List (Done A))
    (popped : popped_by ks ≡ items) (pushed : pushed_by ks ≡ []) (given : map value_in (pushed_by os) ≡ sent) (taken : popped_by os ≡ [])
    (done : AreDone answers items dones) (all : IsPermutation dones (sent ++ unsent))
    (rest : RestOf (Numbered T)) (results : RestOf (Done A))
    (tasks_once : IsPermutation (pushed_by (g ∷ ks)) (popped_by (g ∷ ks) ++ left_in rest))
    (results_once : IsPermutation (pushed_by (o ∷ os)) (popped_by (o ∷ os) ++ left_in results)) where
  abbrev left : List (Numbered T)
  left = map value_in (left_in rest)

  abbrev untold : List (Done A)
  untold = map value_in (left_in results)

  abbrev mine : List (Numbered T)
  mine = map value_in so.popped

  abbrev theirs : List (Numbered T)
  theirs = map value_in items

  -- what was pushed was popped, or is left
  pushed_once : IsPermutation so.pushed ((mine ++ theirs) ++ left)
  pushed_once =
      let first = ap (map value_in) ((λ i. so.pushes i ++ pushed i) ∙ append-nil (map (item g.number) so.pushed)) ∙ values-items g.number so.pushed in
      let second = ap (map value_in) (λ i. (so.pops i ++ popped i) ++ left_in rest) ∙ map-append value_in (so.popped ++ items) (left_in rest) ∙ ap
      (λ l. l ++ left) (map-append value_in so.popped items) in
      subst (λ l. IsPermutation l ((mine ++ theirs) ++ left)) first
      (subst (IsPermutation (map value_in (pushed_by (g ∷ ks)))) second
      (IsPermutation-map value_in (pushed_by (g ∷ ks)) (popped_by (g ∷ ks) ++ left_in rest) tasks_once))

  -- each result that was sent was received, or is left
  sent_once : IsPermutation sent (map value_in so.received ++ untold)
  sent_once =
      let first = ap (map value_in) (λ i. so.sends i ++ pushed_by os) ∙ given in
      let second = ap (map value_in) (ap (λ l. l ++ left_in results) ((λ i. so.receives i ++ taken i) ∙ append-nil so.received)) ∙ map-append value_in so.received (left_in results) in
      subst (λ l. IsPermutation l (map value_in so.received ++ untold)) first
      (subst (IsPermutation (map value_in (pushed_by (o ∷ os)))) second
      (IsPermutation-map value_in (pushed_by (o ∷ os)) (popped_by (o ∷ os) ++ left_in results) results_once))

  abbrev ran : List (Numbered T)
  ran = so.here ++ (mine ++ theirs)

  abbrev ran_done : List (Done A)
  ran_done = so.here_done ++ (so.popped_done ++ dones)

  each : AllZip (IsDoneOf answers) ran ran_done
  each =
      zip-append (IsDoneOf answers) so.here (mine ++ theirs) so.here_done (so.popped_done ++ dones) so.each_here
      (zip-append (IsDoneOf answers) mine theirs so.popped_done dones (zip-values (IsDoneOf answers) so.popped so.popped_done so.each_popped) (zip-values (IsDoneOf answers) items dones done))

  -- each task was run, or is left
  tasks_all : IsPermutation (numbered 0 so.given) (ran ++ left)
  tasks_all =
      subst (IsPermutation (numbered 0 so.given)) (sym (append_assoc so.here (mine ++ theirs) left))
      (IsPermutation-trans (numbered 0 so.given) (so.pushed ++ so.here) (so.here ++ ((mine ++ theirs) ++ left)) so.all
      (IsPermutation-trans (so.pushed ++ so.here) (so.here ++ so.pushed) (so.here ++ ((mine ++ theirs) ++ left)) (IsPermutation-append_comm so.pushed so.here)
      (IsPermutation-append_right so.here so.pushed ((mine ++ theirs) ++ left) pushed_once)))

  -- each result of these was told, or is told of what is left
  results_all : IsPermutation ran_done ((so.told ++ untold) ++ unsent)
  results_all =
      let r = map value_in so.received in
      let h = so.here_done in
      let p = so.popped_done in
      let sends : IsPermutation dones ((r ++ untold) ++ unsent) =
      IsPermutation-trans dones (sent ++ unsent) ((r ++ untold) ++ unsent) all (IsPermutation-append_left unsent sent (r ++ untold) sent_once) in
      let last : IsPermutation ((r ++ (h ++ p)) ++ (untold ++ unsent)) (so.told ++ (untold ++ unsent)) =
      IsPermutation-append_left (untold ++ unsent) (r ++ (h ++ p)) so.told (IsPermutation-sym so.told (r ++ (h ++ p)) so.came) in
      subst (IsPermutation ran_done) (sym (append_assoc so.told untold unsent))
      (IsPermutation-trans ran_done ((h ++ p) ++ ((r ++ untold) ++ unsent)) (so.told ++ (untold ++ unsent))
      (subst (λ l. IsPermutation l ((h ++ p) ++ ((r ++ untold) ++ unsent))) (append_assoc h p dones) (IsPermutation-append_right (h ++ p) dones ((r ++ untold) ++ unsent) sends))
      (IsPermutation-trans ((h ++ p) ++ ((r ++ untold) ++ unsent)) ((r ++ (h ++ p)) ++ (untold ++ unsent)) (so.told ++ (untold ++ unsent))
      (subst (λ l. IsPermutation ((h ++ p) ++ l) ((r ++ (h ++ p)) ++ (untold ++ unsent))) (sym (append_assoc r untold unsent))
      (subst (IsPermutation ((h ++ p) ++ (r ++ (untold ++ unsent)))) (sym (append_assoc r (h ++ p) (untold ++ unsent))) (to_front (h ++ p) r (untold ++ unsent))))
      last))

  pub answered_once : AnsweredOnce answers so.given ((so.told ++ untold) ++ unsent) left
  answered_once = record { ran = ran; dones = ran_done; each = each; came = results_all; all = tasks_all }

  -- where all that was handed out was told nothing is left
  pub nothing_left : awaited ≡ 0 → (left_in rest ≡ []) × ((left_in results ≡ []) × (unsent ≡ []))
  nothing_left ended =
      let a = length_permutation so.pushed ((mine ++ theirs) ++ left) pushed_once in
      let b = length-append (mine ++ theirs) left in
      let c = length-append mine theirs in
      let d = length-map so.popped value_in in
      let e = length-map items value_in in
      let f = length-map (left_in rest) value_in in
      let z = zip-long (λ (x : ItemOf (Numbered T)) d. IsDoneOf answers x.value d) items dones done in
      let s = length_permutation dones (sent ++ unsent) all in
      let t = length-append sent unsent in
      let u = length_permutation sent (map value_in so.received ++ untold) sent_once in
      let v = length-append (map value_in so.received) untold in
      let w = length-map so.received value_in in
      let l = so.still_awaited in
      let x = length-map (left_in results) value_in in (
        empty (left_in rest) (omega (arith, ended, a, b, c, d, e, f, z, s, t, u, v, w, l)),
        (
          empty (left_in results) (omega (arith, ended, a, b, c, d, e, f, z, s, t, u, v, w, l, x)),
          empty unsent (omega (arith, ended, a, b, c, d, e, f, z, s, t, u, v, w, l, x)),
        ),
      )
    where
      empty : {X : Type 0} (xs : List X) → length xs ≡ 0 → xs ≡ []
      empty [] h = refl
      empty (x ∷ xs) h = absurd (omega (arith, h))
