-- What was handed out and told, after one more step.
use Rattle.std.proofs.Common.{◌≡◌, ◌∙◌, ℕ, ◌+◌, ◌≤◌, sym, refl, ap, subst, List, [], ◌∷◌, ◌++◌, map, length, length-append, append_assoc, arith}
use Rattle.std.specs.List.Sorted.{IsPermutation}
use Rattle.std.proofs.lemmas.List.{map-append}
use Rattle.std.proofs.lemmas.List.Sorted.{IsPermutation-refl, length_permutation}
use Rattle.carriers.specs.declared.items.ItemOf.{ItemOf}
use Rattle.carriers.specs.Deeds.{did_pop, item}
use Rattle.carriers.specs.Values.{values_pushed, values_popped}
use Rattle.carriers.specs.Knowledge.{KnownOf}
use Rattle.carriers.specs.Answers.{PushedOf, PoppedOf}
use Rattle.tasks.specs.declared.answers.Done.{Done}
use Rattle.tasks.specs.declared.runs.Numbered.{Numbered}
use Rattle.tasks.specs.Tasks.{IsDoneOf}
use Rattle.tasks.proofs.Lying.{zip-push}
use Rattle.tasks.specs.Answered.{numbered, value_in}
use Rattle.tasks.specs.Leaders.{LeadsSo}
use Rattle.tasks.proofs.Permuting.{perm_first, perm_last, perm_middle, numbered-push, length-numbered}
use Rattle.tasks.proofs.Deeds.{pushed-push, popped-push, pushed-pop, popped-pop}

longer : {X : Type 0} (xs : List X) (x : X) → length (xs ++ x ∷ []) ≡ length xs + 1
longer xs x = length-append xs (x ∷ [])

module _ {T A : Type 0} (answers : T → A → Type 0) where
  -- nothing yet
  pub leads_none : (stands : List T → List (Done A) → Type 0) (k : KnownOf (Numbered T)) (o : KnownOf (Done A)) → k.mine ≡ [] → o.mine ≡ [] → stands [] [] → LeadsSo answers stands k o 0 0
  leads_none stands k o none none' so =
      record {
        given = [];
        told = [];
        so_far = so;
        as_given = refl;
        pushed = [];
        here = [];
        popped = [];
        received = [];
        here_done = [];
        popped_done = [];
        pushes = ap values_pushed none;
        pops = ap values_popped none;
        sends = ap values_pushed none';
        receives = ap values_popped none';
        all = IsPermutation-refl [];
        each_here = tt;
        each_popped = tt;
        came = IsPermutation-refl [];
        still_awaited = refl;
      }

  module _ (stands : List T → List (Done A) → Type 0) (k k' : KnownOf (Numbered T)) (o o' : KnownOf (Done A)) (count awaited : ℕ) (h : LeadsSo answers stands k o count awaited) where
    -- no more are awaited than were given
    pub awaited_low : awaited ≤ count
    awaited_low =
        let c = h.as_given in
        let a = length_permutation (numbered 0 h.given) (h.pushed ++ h.here) h.all in
        let n = length-numbered 0 h.given in
        let p = length-append h.pushed h.here in
        let l = h.still_awaited in
        omega (arith, c, a, n, p, l)

    -- nothing was pushed or popped
    pub leads_on : k'.number ≡ k.number → values_pushed k'.mine ≡ values_pushed k.mine → values_popped k'.mine ≡ values_popped k.mine → o'.mine ≡ o.mine → LeadsSo answers stands k' o' count awaited
    leads_on same pushed popped mine' =
        record {
          given = h.given;
          told = h.told;
          so_far = h.so_far;
          as_given = h.as_given;
          pushed = h.pushed;
          here = h.here;
          popped = h.popped;
          received = h.received;
          here_done = h.here_done;
          popped_done = h.popped_done;
          pushes = pushed ∙ h.pushes ∙ ap (λ n. map (item n) h.pushed) (sym same);
          pops = popped ∙ h.pops;
          sends = ap values_pushed mine' ∙ h.sends;
          receives = ap values_popped mine' ∙ h.receives;
          all = h.all;
          each_here = h.each_here;
          each_popped = h.each_popped;
          came = h.came;
          still_awaited = h.still_awaited;
        }

    pub leads_same : k'.number ≡ k.number → k'.mine ≡ k.mine → o'.mine ≡ o.mine → LeadsSo answers stands k' o' count awaited
    leads_same same mine mine' = leads_on same (ap values_pushed mine) (ap values_popped mine) mine'

    module _ (stands' : List T → List (Done A) → Type 0) (t : T) (next : (given : List T) (told : List (Done A)) → stands given told
        → stands' (given ++ t ∷ []) told) (count' : ℕ) (more : count' ≡ count + 1) where
      abbrev this : Numbered T
      this = record { number = count; task = t }

      counted : count' ≡ length (h.given ++ t ∷ [])
      counted =
          let c = h.as_given in
          let l = longer h.given t in
          omega (arith, more, c, l)

      with_numbers : numbered 0 (h.given ++ t ∷ []) ≡ numbered 0 h.given ++ this ∷ []
      with_numbers =
          let c = h.as_given in
          numbered-push 0 count h.given t (omega (arith, c))

      -- a task more was pushed
      pub leads_pushed : (awaited' : ℕ) → awaited' ≡ awaited + 1 → PushedOf k this k' → LeadsSo answers stands' k' o count' awaited'
      leads_pushed awaited' one p =
          record {
            given = h.given ++ t ∷ [];
            told = h.told;
            so_far = next h.given h.told h.so_far;
            as_given = counted;
            pushed = h.pushed ++ this ∷ [];
            here = h.here;
            popped = h.popped;
            received = h.received;
            here_done = h.here_done;
            popped_done = h.popped_done;
            pushes = ap values_pushed p.mine ∙ pushed-push k.mine k.number this ∙ ap (λ l. l ++ item k.number this ∷ []) h.pushes
                ∙ sym (map-append (item k.number) h.pushed (this ∷ [])) ∙ ap (λ n. map (item n) (h.pushed ++ this ∷ [])) (sym p.number);
            pops = ap values_popped p.mine ∙ popped-push k.mine k.number this ∙ h.pops;
            sends = h.sends;
            receives = h.receives;
            all = subst (λ l. IsPermutation l ((h.pushed ++ this ∷ []) ++ h.here)) (sym with_numbers) (perm_first (numbered 0 h.given) h.pushed h.here this h.all);
            each_here = h.each_here;
            each_popped = h.each_popped;
            came = h.came;
            still_awaited = (
                let l = longer h.pushed this in
                let was = h.still_awaited in
                omega (arith, l, was, one));
          }

      -- a task more was run here, and its result told
      pub leads_ran : (stands'' : List T → List (Done A) → Type 0) (d : Done A) → IsDoneOf answers this d
          → ((given : List T) (told : List (Done A)) → stands' given told → stands'' given (told ++ d ∷ []))
          → k'.number ≡ k.number → k'.mine ≡ k.mine → LeadsSo answers stands'' k' o count' awaited
      leads_ran stands'' d of tell same mine =
          record {
            given = h.given ++ t ∷ [];
            told = h.told ++ d ∷ [];
            so_far = tell (h.given ++ t ∷ []) h.told (next h.given h.told h.so_far);
            as_given = counted;
            pushed = h.pushed;
            here = h.here ++ this ∷ [];
            popped = h.popped;
            received = h.received;
            here_done = h.here_done ++ d ∷ [];
            popped_done = h.popped_done;
            pushes = ap values_pushed mine ∙ h.pushes ∙ ap (λ n. map (item n) h.pushed) (sym same);
            pops = ap values_popped mine ∙ h.pops;
            sends = h.sends;
            receives = h.receives;
            all = subst (λ l. IsPermutation l (h.pushed ++ (h.here ++ this ∷ []))) (sym with_numbers) (perm_last (numbered 0 h.given) h.pushed h.here this h.all);
            each_here = zip-push (IsDoneOf answers) h.here h.here_done this d h.each_here of;
            each_popped = h.each_popped;
            came = perm_middle h.told (map value_in h.received) h.here_done h.popped_done d h.came;
            still_awaited = h.still_awaited;
          }

    module _ (stands' : List T → List (Done A) → Type 0) (d : Done A) (tell : (given : List T) (told : List (Done A)) → stands given told
        → stands' given (told ++ d ∷ [])) (awaited' : ℕ) (fewer : awaited ≡ awaited' + 1) where
      -- a task was popped again and run here, and its result told
      pub leads_helped : (x : ItemOf (Numbered T)) → PoppedOf k x k' → IsDoneOf answers x.value d → LeadsSo answers stands' k' o count awaited'
      leads_helped x p of =
          record {
            given = h.given;
            told = h.told ++ d ∷ [];
            so_far = tell h.given h.told h.so_far;
            as_given = h.as_given;
            pushed = h.pushed;
            here = h.here;
            popped = h.popped ++ x ∷ [];
            received = h.received;
            here_done = h.here_done;
            popped_done = h.popped_done ++ d ∷ [];
            pushes = ap values_pushed p.mine ∙ pushed-pop k.mine k.number x ∙ h.pushes ∙ ap (λ n. map (item n) h.pushed) (sym p.number);
            pops = ap values_popped p.mine ∙ popped-pop k.mine k.number x ∙ ap (λ l. l ++ x ∷ []) h.pops;
            sends = h.sends;
            receives = h.receives;
            all = h.all;
            each_here = h.each_here;
            each_popped = zip-push (λ (y : ItemOf (Numbered T)) e. IsDoneOf answers y.value e) h.popped h.popped_done x d h.each_popped of;
            came = subst (IsPermutation (h.told ++ d ∷ [])) (assoc3 (map value_in h.received) h.here_done h.popped_done (d ∷ []))
                (perm_last h.told (map value_in h.received) (h.here_done ++ h.popped_done) d h.came);
            still_awaited = (
                let l = longer h.popped x in
                let was = h.still_awaited in
                omega (arith, l, was, fewer));
          }
        where
          assoc3 : (a b c e : List (Done A)) → a ++ ((b ++ c) ++ e) ≡ a ++ (b ++ (c ++ e))
          assoc3 a b c e = ap (λ l. a ++ l) (append_assoc b c e)

      -- a result was popped, and told
      pub leads_told : (n : ℕ) (y : ItemOf (Done A)) → y.value ≡ d → o'.mine ≡ o.mine ++ did_pop n y ∷ [] → LeadsSo answers stands' k o' count awaited'
      leads_told n y is mine =
          record {
            given = h.given;
            told = h.told ++ d ∷ [];
            so_far = tell h.given h.told h.so_far;
            as_given = h.as_given;
            pushed = h.pushed;
            here = h.here;
            popped = h.popped;
            received = h.received ++ y ∷ [];
            here_done = h.here_done;
            popped_done = h.popped_done;
            pushes = h.pushes;
            pops = h.pops;
            sends = ap values_pushed mine ∙ pushed-pop o.mine n y ∙ h.sends;
            receives = ap values_popped mine ∙ popped-pop o.mine n y ∙ ap (λ l. l ++ y ∷ []) h.receives;
            all = h.all;
            each_here = h.each_here;
            each_popped = h.each_popped;
            came = subst (λ l. IsPermutation (h.told ++ d ∷ []) (l ++ (h.here_done ++ h.popped_done)))
                (ap (λ v. map value_in h.received ++ v ∷ []) (sym is) ∙ sym (map-append value_in h.received (y ∷ [])))
                (perm_first h.told (map value_in h.received) (h.here_done ++ h.popped_done) d h.came);
            still_awaited = (
                let l = longer h.received y in
                let was = h.still_awaited in
                omega (arith, l, was, fewer));
          }
