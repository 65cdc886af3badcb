-- What becomes of what one seat pushed and others popped, on a queue that was closed by all of them.
use Rattle.std.proofs.Common.{◌≡◌, ◌⊎◌, inl, inr, refl, ap, subst, sym, ℕ, Bool, nat_eq, eq-eqb, List, ◌∷◌, ◌++◌, map}
use Rattle.std.specs.List.{All, AllZip}
use Rattle.carriers.specs.declared.items.ItemOf.{ItemOf}
use Rattle.carriers.specs.Deeds.{Deed, did_push, did_pop, did_shut, item, doer_of, own_deeds, RunsTo}
use Rattle.carriers.specs.Values.{value_pushed, value_popped, values_pushed, values_popped}
use Rattle.carriers.specs.Knowledge.{KnownOf}
use Rattle.carriers.specs.Ends.{IsOfOneOf}
use Rattle.carriers.proofs.Running.{pushed-RunsTo}
use Rattle.tasks.proofs.Lying.{Lies, lies-left, lies-right, lies-cases, lies-all, lies-at, lies-filter, filter-lies, lies-map, map-lies, lies-flat, flat-lies, zip-left, zip-right}

module _ {N : Type 0} where
  -- what a deed pushes or pops, and else another
  abbrev pushed_or : N → Deed N → N
  pushed_or d (did_push s v) = v
  pushed_or d _ = d

  abbrev popped_or : ItemOf N → Deed N → ItemOf N
  popped_or d (did_pop s x) = x
  popped_or d _ = d

  pub push_same : (s s' : ℕ) (v v' : N) → did_push s v ≡ did_push s' v' → v ≡ v'
  push_same s s' v v' h = ap (pushed_or v) h

  pub pop_same : (s s' : ℕ) (x x' : ItemOf N) → did_pop s x ≡ did_pop s' x' → x ≡ x'
  pop_same s s' x x' h = ap (popped_or x) h

  pop_push : (s s' : ℕ) (x : ItemOf N) (v : N) → did_pop s x ≡ did_push s' v → ⊥
  pop_push s s' x v h = absurd (let e : did_pop s x ≡ did_push s' v = h in cc)

  push_pop : (s s' : ℕ) (v : N) (x : ItemOf N) → did_push s v ≡ did_pop s' x → ⊥
  push_pop s s' v x h = absurd (let e : did_push s v ≡ did_pop s' x = h in cc)

  shut_push : (s s' : ℕ) (v : N) → did_shut s ≡ did_push s' v → ⊥
  shut_push s s' v h = absurd (let e : did_shut s ≡ did_push s' v = h in cc)

  shut_pop : (s s' : ℕ) (x : ItemOf N) → did_shut s ≡ did_pop s' x → ⊥
  shut_pop s s' x h = absurd (let e : did_shut s ≡ did_pop s' x = h in cc)

  -- what is pushed is of a push, and what is popped of a pop
  push_of_value : (d : Deed N) (x : ItemOf N) → Lies x (value_pushed d) → (s : ℕ) × (v : N) × (d ≡ did_push s v) × (item s v ≡ x)
  push_of_value (did_push s v) x (inl e) = (s, v, refl, e)
  push_of_value (did_push s v) x (inr h) = absurd h
  push_of_value (did_pop s y) x h = absurd h
  push_of_value (did_shut s) x h = absurd h

  pop_of_value : (d : Deed N) (x : ItemOf N) → Lies x (value_popped d) → (s : ℕ) × (d ≡ did_pop s x)
  pop_of_value (did_pop s y) x (inl e) = (s, ap (did_pop s) e)
  pop_of_value (did_pop s y) x (inr h) = absurd h
  pop_of_value (did_push s v) x h = absurd h
  pop_of_value (did_shut s) x h = absurd h

  -- a deed is one of its doer's own
  own : (d : Deed N) (h : List (Deed N)) → Lies d h → Lies d (own_deeds (doer_of d) h)
  own d h lies = lies-filter (λ e. nat_eq (doer_of e) (doer_of d)) d h (eq-eqb (doer_of d) (doer_of d) refl) lies

-- one seat pushed these, and then shut the queue or not; the others each popped some
pub record Pushes {N : Type 0} (k : KnownOf N) (pushed : List N) : Type 0 where
  pub shuts : (List ℕ)
  pub mine : k.mine ≡ map (did_push k.number) pushed ++ map did_shut shuts

pub record Pops {N B : Type 0} (R : ItemOf N → B → Type 0) (k : KnownOf N) (bs : List B) : Type 0 where
  pub items : List (ItemOf N)
  pub mine : k.mine ≡ map (did_pop k.number) items
  pub done : AllZip R items bs

module _ {N B : Type 0} (R : ItemOf N → B → Type 0) (g : KnownOf N) (ks : List (KnownOf N)) (pushed : List N) (bss : List (List B)) (pushes : Pushes g pushed) (pops : AllZip (Pops R) ks bss)
    (history : List (Deed N)) (shut : Bool) (left : List (ItemOf N)) (runs : RunsTo history shut left)
    (ours : All (λ k. own_deeds k.number history ≡ k.mine) (g ∷ ks)) (theirs : All (IsOfOneOf (g ∷ ks)) history) where
  -- each deed is of one of the seats
  of_one : (d : Deed N) → Lies d history → (k : KnownOf N) × Lies k (g ∷ ks) × Lies d k.mine
  of_one d lies =
      let there = lies-all (IsOfOneOf (g ∷ ks)) d history theirs lies in
      let one = lies-at (λ k. doer_of d ≡ k.number) (g ∷ ks) there.0 there.1 in
      let k = one.0 in
      (k, one.1, subst (λ ds. Lies d ds) (lies-all (λ k. own_deeds k.number history ≡ k.mine) k (g ∷ ks) ours one.1) (subst (λ n. Lies d (own_deeds n history)) one.2 (own d history lies)))

  -- a deed of a seat is one of the history
  of_history : (k : KnownOf N) (d : Deed N) → Lies k (g ∷ ks) → Lies d k.mine → Lies d history
  of_history k d seat lies = filter-lies (λ e. nat_eq (doer_of e) k.number) d history (subst (λ ds. Lies d ds) (sym (lies-all (λ k. own_deeds k.number history ≡ k.mine) k (g ∷ ks) ours seat)) lies)

  giver_pushes : (s : ℕ) (v : N) → Lies (did_push s v) g.mine → Lies v pushed
  giver_pushes s v lies =
      elim (lies-cases (did_push s v) (map (did_push g.number) pushed) (map did_shut pushes.shuts) (subst (λ ds. Lies (did_push s v) ds) pushes.mine lies)) [
        | inl h ↦ (let r = map-lies (did_push g.number) (did_push s v) pushed h in subst (λ w. Lies w pushed) (push_same g.number s r.0 v r.2) r.1)
        | inr h ↦ (let r = map-lies did_shut (did_push s v) pushes.shuts h in absurd (shut_push r.0 s v r.2))
      ]

  giver_pops : (s : ℕ) (x : ItemOf N) → Lies (did_pop s x) g.mine → ⊥
  giver_pops s x lies =
      elim (lies-cases (did_pop s x) (map (did_push g.number) pushed) (map did_shut pushes.shuts) (subst (λ ds. Lies (did_pop s x) ds) pushes.mine lies)) [
        | inl h ↦ (let r = map-lies (did_push g.number) (did_pop s x) pushed h in push_pop g.number s r.0 x r.2)
        | inr h ↦ (let r = map-lies did_shut (did_pop s x) pushes.shuts h in shut_pop r.0 s x r.2)
      ]

  taker_pushes : (k : KnownOf N) (bs : List B) (s : ℕ) (v : N) → Pops R k bs → Lies (did_push s v) k.mine → ⊥
  taker_pushes k bs s v h lies =
      let r = map-lies (did_pop k.number) (did_push s v) h.items (subst (λ ds. Lies (did_push s v) ds) h.mine lies) in
      pop_push k.number s r.0 v r.2

  taker_pops : (k : KnownOf N) (bs : List B) (s : ℕ) (x : ItemOf N) (h : Pops R k bs) → Lies (did_pop s x) k.mine → Lies x h.items
  taker_pops k bs s x h lies =
      let r = map-lies (did_pop k.number) (did_pop s x) h.items (subst (λ ds. Lies (did_pop s x) ds) h.mine lies) in
      subst (λ y. Lies y h.items) (pop_same k.number s r.0 x r.2) r.1

  -- a push of the history is of one that was pushed
  push_of : (s : ℕ) (v : N) → Lies (did_push s v) history → Lies v pushed
  push_of s v lies =
      let one = of_one (did_push s v) lies in
      elim one.1 [
        | inl e ↦ giver_pushes s v (subst (λ (k : KnownOf N). Lies (did_push s v) k.mine) (sym e) one.2)
        | inr h ↦ (let z = zip-left (Pops R) ks bss one.0 pops h in absurd (taker_pushes one.0 z.0 s v z.2 one.2))
      ]

  -- a pop of the history is of one whose result is there
  pop_of : (s : ℕ) (x : ItemOf N) → Lies (did_pop s x) history → (bs : List B) × Lies bs bss × (b : B) × Lies b bs × R x b
  pop_of s x lies =
      let one = of_one (did_pop s x) lies in
      elim one.1 [
        | inl e ↦ absurd (giver_pops s x (subst (λ (k : KnownOf N). Lies (did_pop s x) k.mine) (sym e) one.2))
        | inr h ↦ (
            let z = zip-left (Pops R) ks bss one.0 pops h in
            let b = zip-left R z.2.items z.0 x z.2.done (taker_pops one.0 z.0 s x z.2 one.2) in
            (z.0, z.1, b.0, b.1, b.2))
      ]

  -- what was pushed in the history is of the pushed ones
  value_of : (x : ItemOf N) → Lies x (values_pushed history) → Lies x.value pushed
  value_of x lies =
      let d = flat-lies value_pushed x history lies in
      let p = push_of_value d.0 x d.2 in
      subst (λ w. Lies w pushed) (ap (λ (y : ItemOf N). y.value) p.3) (push_of p.0 p.1 (subst (λ e. Lies e history) p.2 d.1))

  -- what is left was pushed
  pub left_was_pushed : (x : ItemOf N) → Lies x left → Lies x.value pushed
  left_was_pushed x lies = value_of x (subst (λ xs. Lies x xs) (sym (pushed-RunsTo history shut left runs)) (lies-right x (values_popped history) left lies))

  -- each result is of one that was pushed
  pub done_was_pushed : (bs : List B) (b : B) → Lies bs bss → Lies b bs → (x : ItemOf N) × Lies x.value pushed × R x b
  done_was_pushed bs b seat lies =
      let k = zip-right (Pops R) ks bss bs pops seat in
      let x = zip-right R k.2.items bs b k.2.done lies in
      let d : Deed N = did_pop k.0.number x.0 in
      let there = of_history k.0 d (inr k.1) (subst (λ ds. Lies d ds) (sym k.2.mine) (lies-map (did_pop k.0.number) x.0 k.2.items x.1)) in
      let popped = lies-flat value_popped x.0 d history there (inl refl) in
      (x.0, value_of x.0 (subst (λ xs. Lies x.0 xs) (sym (pushed-RunsTo history shut left runs)) (lies-left x.0 (values_popped history) left popped)), x.2)

  -- of what was pushed the result is there, or it is left
  pub done_or_left : (v : N) → Lies v pushed → ((bs : List B) × Lies bs bss × (b : B) × Lies b bs × (x : ItemOf N) × (x.value ≡ v) × R x b) ⊎ ((x : ItemOf N) × (x.value ≡ v) × Lies x left)
  done_or_left v lies =
      let d : Deed N = did_push g.number v in
      let x : ItemOf N = item g.number v in
      let there = of_history g d (inl refl) (subst (λ ds. Lies d ds) (sym pushes.mine)
      (lies-left d (map (did_push g.number) pushed) (map did_shut pushes.shuts) (lies-map (did_push g.number) v pushed lies))) in
      let value = lies-flat value_pushed x d history there (inl refl) in
      elim (lies-cases x (values_popped history) left (subst (λ xs. Lies x xs) (pushed-RunsTo history shut left runs) value)) [
        | inl h ↦ (
            let p = flat-lies value_popped x history h in
            let s = pop_of_value p.0 x p.2 in
            let r = pop_of s.0 x (subst (λ e. Lies e history) s.1 p.1) in
            inl (r.0, r.1, r.2, r.3, x, refl, r.4))
        | inr h ↦ inr (x, refl, h)
      ]
