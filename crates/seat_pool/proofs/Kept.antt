-- What lies in the places of a pool stays what belongs there.
use Rattle.std.proofs.Common.{◌≡◌, ◌≢◌, ℕ, zero, suc, ◌-◌, ◌<◌, List, [], ◌∷◌, map, length, get_or, set, Option, Some, None, eqb, IsTrue, slice_get}
use Rattle.std.proofs.Common.{refl, sym, ap, ◌∙◌, subst, ⊎_elim, arith, length-set}
use Rattle.std.specs.List.{All}
use Rattle.std.proofs.lemmas.List.{length-map}
use Rattle.std.proofs.lemmas.List.Elements.{All-map}
use Rattle.std.proofs.Math.Logic.{∥∥₁_elim, ∥∥₁_map}
use Rattle.std.proofs.Math.Nat.{ℕ_set}
use Rattle.std.proofs.Props.{props}
use Rattle.std.specs.Option.{IsSomeAnd-prop, unwrap_or}
use mathlib.Core.Option.{none, some, some-injective, some-ne-none}
use prog.Atomic.{either}
use lib.ListN.{get_elem?}
use Rattle.atomic_table.specs.Table.{State, Me, Act, Valid, stepped, carried_after, step, keeps, takes, gives, rest, Allows, opening}
use Rattle.atomic_table.specs.Table as table
use Rattle.atomic_table.proofs.Lists.{at_set, set_here, set_else, set_again, at_map, exchanged}
use Rattle.history.specs.Seats.{Permit, MayPush, MayPop}
use Rattle.carriers.specs.Knowledge.{KnownOf}
use Rattle.seat_pool.specs.declared.parts.Part.{Part}
use Rattle.seat_pool.specs.declared.places.Home.{Home}
use Rattle.seat_pool.specs.Parts.{number_of, pushes, pops, HasPart}
use Rattle.seat_pool.specs.Places.{numbers_in, Belongs, AreKept, Takes, Enters}
use Rattle.seat_pool.specs.Words.{AreWords}
use Rattle.seat_pool.specs.Pools.{IsFrom}
use Rattle.seat_pool.specs.declared.pools.Store.{Store}
use Rattle.seat_pool.specs.declared.leases.Held.{Held}
use Rattle.carriers.specs.declared.queues.Carrier.{Ghosts}
use Rattle.seat_pool.proofs.Numbers.{one_part, no_part}

pub MayPush-prop : (permits : List Permit) (n : ℕ) → IsProp (MayPush permits n)
MayPush-prop permits n = hlevel (props, IsSomeAnd-prop (slice_get permits (n - 1)) (λ p. IsTrue p.pushes) (λ p. hlevel props))

pub MayPop-prop : (permits : List Permit) (n : ℕ) → IsProp (MayPop permits n)
MayPop-prop permits n = hlevel (props, IsSomeAnd-prop (slice_get permits (n - 1)) (λ p. IsTrue p.pops) (λ p. hlevel props))

module _ {A : Type 0} where
  within : (l : List A) (i : ℕ) (a : A) → get_elem? l i ≡ some a → i < length l
  within [] i a e = absurd (some-ne-none a (sym e))
  within (x ∷ xs) zero a e = omega arith
  within (x ∷ xs) (suc i) a e = let h = within xs i a e in omega (arith, h)

  found : (l : List A) (i : ℕ) (a d : A) → get_elem? l i ≡ some a → get_or l i d ≡ a
  found [] i a d e = absurd (some-ne-none a (sym e))
  found (x ∷ xs) zero a d e = some-injective x a e
  found (x ∷ xs) (suc i) a d e = found xs i a d e

  finds : (l : List A) (i : ℕ) (d : A) → i < length l → get_elem? l i ≡ some (get_or l i d)
  finds [] i d h = absurd (omega (arith, h))
  finds (x ∷ xs) zero d h = refl
  finds (x ∷ xs) (suc i) d h = finds xs i d (omega (arith, h))

  some_there : (l : List A) (i : ℕ) → i < length l → (a : A) × (get_elem? l i ≡ some a)
  some_there [] i h = absurd (omega (arith, h))
  some_there (x ∷ xs) zero h = (x, refl)
  some_there (x ∷ xs) (suc i) h = some_there xs i (omega (arith, h))

module _ {C A S : Type 0} (is_seat : C → S → Type 0) (permits : C → List Permit) (known : S → KnownOf A) where
  abbrev Rule : Home C A S → State (Option S) (Home C A S) → Type 0
  Rule = AreKept is_seat permits known

  -- the seats of a new pool lie where they belong
  starts : (home : Home C A S) (words : List ℕ) → All (is_seat home.queue) home.first.value.items → AreWords (permits home.queue) (numbers_in known home) words
      → Rule home (opening words (map Some home.first.value.items) home)
  starts home words sit a = let seats : List S = home.first.value.items in
      let many : length words ≡ length seats = a.sized ∙ length-map seats (λ s. (known s).number) in record {
        sized = many ∙ sym (length-map seats Some) ∙ sym (length-map (map Some seats) some);
        kept = λ i part e. let near : i < length words = within words i (number_of part) e in let has = a.parts i near in
            let same : has.0 ≡ part = one_part has.0 part (sym has.1 ∙ found words i (number_of part) 0 e) in
            let it = some_there seats i (omega (arith, near, many)) in
            let number : get_or (numbers_in known home) i 0 ≡ (known it.0).number = found (numbers_in known home) i (known it.0).number 0 (at_map (λ s. (known s).number) seats i it.0 it.1) in (
              it.0,
              at_map some (map Some seats) i (Some it.0) (at_map Some seats i it.0 it.1),
              ∣ record {
                seat = subst (is_seat home.queue) (found seats i it.0 it.0 it.1) (sit i it.0 (omega (arith, near, many)));
                able = subst (HasPart (permits home.queue) (known it.0).number) same (subst (λ n. HasPart (permits home.queue) n has.0) number has.2);
                number = sym number;
              } ∣₁,
            );
      }

  pub starts_at : (home : Home C A S) (words : List ℕ) (slots : List (Option S)) → slots ≡ map Some home.first.value.items
      → All (is_seat home.queue) home.first.value.items → AreWords (permits home.queue) (numbers_in known home) words → Rule home (opening words slots home)
  starts_at home words slots e sit a = subst (λ xs. Rule home (opening words xs home)) (sym e) (starts home words sit a)

  -- a new token changes nothing
  pub enters : (home : Home C A S) (slots place : ℕ) → table.Enters (Rule home) slots place (λ n w. Enters {S = Option S} {H = Home C A S} (step slots place 0 0 none) (home, []) n (w, []))
  enters home slots place s k wide small = (home, record { sized = k.sized; kept = k.kept }, refl)

  -- some view and some act keep the rule, and tell this, where a word becomes y
  abbrev Goes : Home C A S → State (Option S) (Home C A S) → (i id : ℕ) → Me (Option S) (Home C A S) → (Me (Option S) (Home C A S) → Type 0) → (y : ℕ) → Type 0
  Goes home s i id me told y = (w : Home C A S) × (a : Act (Option S)) × Valid s.homes me.1 a × Rule home (stepped s i y id me.1 w a) × told (w, carried_after me.1 a)

  module _ (home : Home C A S) (slots id place : ℕ) (near : place < slots) (part : Part) where
    abbrev Told : ℕ → Me (Option S) (Home C A S) → Type 0
    Told n = Takes is_seat permits known (step slots place (number_of part) 0 none) (home, []) n

    -- a seat that lies there is taken
    taken : (s : State (Option S) (Home C A S)) → Rule home s → place < length s.words → get_or s.words place 0 ≡ number_of part
        → Goes home s place id (home, []) (Told (get_or s.words place 0)) 0
    taken s k here hit =
        let it = k.kept place part (finds s.words place 0 here ∙ ap some hit) in (
          home,
          takes place (Some it.0),
          it.1,
          record {
            sized = length-set s.words place 0 ∙ k.sized ∙ sym (length-set s.homes place none);
            kept = λ j q e. ⊎_elim (λ t. absurd (no_part q t.1)) (λ t. let old = k.kept j q t.1 in
                (old.0, set_else s.homes place j none t.0 ∙ old.1, old.2)) (at_set s.words place j 0 (number_of q) e);
          },
          (λ q first _ _. (it.0, refl, subst (λ p. ∥ Belongs is_seat permits known home place p it.0 ∥₁) (one_part part q first) it.2)),
        )

    -- any other word stays
    left : (s : State (Option S) (Home C A S)) → Rule home s → place < length s.words → get_or s.words place 0 ≢ number_of part
        → Goes home s place id (home, []) (Told (get_or s.words place 0)) (get_or s.words place 0)
    left s k here miss =
        let same : set s.words place (get_or s.words place 0) ≡ s.words = set_again s.words place (get_or s.words place 0) (finds s.words place 0 here) in (
          home,
          keeps,
          tt,
          record {
            sized = ap length same ∙ k.sized;
            kept = λ j q e. k.kept j q (ap (λ l. get_elem? l j) (sym same) ∙ e);
          },
          (λ q first hit _. absurd (miss hit)),
        )

    -- who exchanges the word of a part for 0 takes the seat of the place, where it has that part
    pub takes_one : (me : Me (Option S) (Home C A S)) → me ≡ (home, [])
        → Allows (Rule home) slots id me place (λ n. either (eqb n (number_of part)) 0 n) (Takes is_seat permits known (step slots place (number_of part) 0 none) me)
    takes_one me is = subst
        (λ m. Allows (Rule home) slots id m place (λ n. either (eqb n (number_of part)) 0 n) (Takes is_seat permits known (step slots place (number_of part) 0 none) m)) (sym is)
        (λ s k wide at small. let here : place < length s.words = omega (arith, near, wide, k.sized) in
        exchanged (get_or s.words place 0) (number_of part) 0 (Goes home s place id (home, []) (Told (get_or s.words place 0))) (taken s k here) (left s k here))

    -- and by whichever name the word goes
    pub takes_at : (number : ℕ) → number ≡ number_of part → (me : Me (Option S) (Home C A S)) → me ≡ (home, [])
        → Allows (Rule home) slots id me place (λ n. either (eqb n number) 0 n) (Takes is_seat permits known (step slots place number 0 none) me)
    takes_at number e me is = subst
        (λ k. Allows (Rule home) slots id me place (λ n. either (eqb n k) 0 n) (Takes is_seat permits known (step slots place k 0 none) me)) (sym e) (takes_one me is)

    -- who stores the word of a part gives back a seat that belongs there
    gives_one : (seat : S) → ∥ Belongs is_seat permits known home place part seat ∥₁ → (me : Me (Option S) (Home C A S)) → me ≡ (home, (place, Some seat) ∷ [])
        → Allows (Rule home) slots id me place (λ _. number_of part) (λ _ _. Unit {0})
    gives_one seat belongs me is = subst (λ m. Allows (Rule home) slots id m place (λ _. number_of part) (λ _ _. Unit {0})) (sym is)
        (λ s k wide at small. (
          home,
          gives,
          tt,
          record {
            sized = length-set s.words place (number_of part) ∙ k.sized ∙ sym (length-set s.homes place (some (Some seat)));
            kept = λ j q e. ⊎_elim
                (λ t. (
                  seat,
                  subst (λ i. get_elem? (set s.homes place (some (Some seat))) i ≡ some (some (Some seat))) (sym t.0) (set_here s.homes place (some (Some seat)) (omega (arith, near, wide))),
                  subst (λ i. ∥ Belongs is_seat permits known home i q seat ∥₁) (sym t.0) (subst (λ p. ∥ Belongs is_seat permits known home place p seat ∥₁) (one_part part q t.1) belongs),
                ))
                (λ t. let old = k.kept j q t.1 in (old.0, set_else s.homes place j (some (Some seat)) t.0 ∙ old.1, old.2))
                (at_set s.words place j (number_of part) (number_of q) e);
          },
          tt,
        ))

    pub gives_at : (number : ℕ) → number ≡ number_of part → (seat : S) → ∥ Belongs is_seat permits known home place part seat ∥₁
        → (me : Me (Option S) (Home C A S)) → me ≡ (home, (place, Some seat) ∷ []) → Allows (Rule home) slots id me place (λ _. number) (λ _ _. Unit {0})
    gives_at number e seat belongs me is = subst (λ k. Allows (Rule home) slots id me place (λ _. k) (λ _ _. Unit {0})) (sym e) (gives_one seat belongs me is)

  -- a seat that was taken out of a place, where none is left
  module _ (key hv : Home C A S) (same : key ≡ hv) (place : ℕ) (part : Part) (me0 me1 me2 : Me (Option S) (Home C A S)) (began : me0 ≡ (key, [])) (s : S)
      (took : me1 ≡ (me0.0, (place, Some s) ∷ [])) (old : Option S) (was : me1.1 ≡ (place, old) ∷ rest me1.1) (left_none : me2 ≡ (me1.0, (place, None) ∷ rest me1.1)) where
    pub emptied : me2 ≡ (hv, (place, None) ∷ [])
    emptied = left_none ∙ ap (λ m. (m.0, (place, None) ∷ rest m.1)) (took ∙ ap (λ m. (m.0, (place, Some s) ∷ [])) began) ∙ ap (λ h. (h, (place, None) ∷ [])) same

    pub belongs_there : ∥ Belongs is_seat permits known me0.0 place part s ∥₁ → (seat : S) → old ≡ Some seat → ∥ Belongs is_seat permits known hv place part seat ∥₁
    belongs_there b seat is =
        let heads : some (place, Some s) ≡ some (place, old) = ap (λ xs. get_elem? xs 0) (sym (ap (λ m. m.1) took) ∙ was) in
        let one : s ≡ seat = ap (λ (o : Option S). unwrap_or o s) (ap (λ (x : ℕ × Option S). x.1) (some-injective (place, Some s) (place, old) heads) ∙ is) in
        subst (λ t. ∥ Belongs is_seat permits known hv place part t ∥₁) one
        (subst (λ h. ∥ Belongs is_seat permits known h place part s ∥₁) (ap (λ m. m.0) began ∙ same) b)

  -- a seat that was put back into its place
  pub filled : (key hv : Home C A S) → hv ≡ key → (place : ℕ) (seat : S) (me1 me2 : Me (Option S) (Home C A S)) → me1 ≡ (hv, (place, None) ∷ [])
      → me2 ≡ (me1.0, (place, Some seat) ∷ rest me1.1) → me2 ≡ (key, (place, Some seat) ∷ [])
  filled key hv same place seat me1 me2 taken_is put_is =
      put_is ∙ ap (λ m. (m.0, (place, Some seat) ∷ rest m.1)) taken_is ∙ ap (λ h. (h, (place, Some seat) ∷ [])) same

  -- what a seat that belongs to a place is
  module _ (prop : (q : C) (s : S) → IsProp (is_seat q s)) (hv home : Home C A S) (same : hv ≡ home) (place : ℕ) (part : Part) (s : S)
      (b : ∥ Belongs is_seat permits known hv place part s ∥₁) where
    here : ∥ Belongs is_seat permits known home place part s ∥₁
    here = subst (λ h. ∥ Belongs is_seat permits known h place part s ∥₁) same b

    pub sits : is_seat home.queue s
    sits = ∥∥₁_elim here (prop home.queue s) (λ x. x.seat)

    pub numbered : (known s).number ≡ get_or (numbers_in known home) place 0
    numbered = ∥∥₁_elim here (ℕ_set (known s).number (get_or (numbers_in known home) place 0)) (λ x. x.number)

    pub may_push : IsTrue (pushes part) → MayPush (permits home.queue) (known s).number
    may_push can = ∥∥₁_elim here (MayPush-prop (permits home.queue) (known s).number) (λ x. x.able.0.1 can)

    pub may_pop : IsTrue (pops part) → MayPop (permits home.queue) (known s).number
    may_pop can = ∥∥₁_elim here (MayPop-prop (permits home.queue) (known s).number) (λ x. x.able.1.1 can)

  -- a seat that a call left the queue's, with its number, belongs where it did
  pub still : (hv home : Home C A S) → hv ≡ home → (place : ℕ) (part : Part) (s s' : S) → ∥ Belongs is_seat permits known hv place part s ∥₁
      → is_seat home.queue s' → (known s').number ≡ (known s).number → ∥ Belongs is_seat permits known hv place part s' ∥₁
  still hv home same place part s s' b sit kept = ∥∥₁_map b (λ x. record {
    seat = subst (λ h. is_seat h.queue s') (sym same) sit;
    able = subst (λ n. HasPart (permits hv.queue) n part) (sym kept) x.able;
    number = kept ∙ x.number;
  })

-- the seats that were taken from the places of a pool are each its queue's
pub all_sit : {C A S : Type 0} {carrier : Ghosts C A S} → ((q : C) (s : S) → IsProp (carrier.is_seat q s)) → (store : Store C A S) (all : List (Held C A S carrier))
    → All (IsFrom store) all → All (carrier.is_seat store.home.queue) (map (λ (h : Held C A S carrier). h.seat) all)
all_sit {carrier} prop store all from = All-map (carrier.is_seat store.home.queue) (λ h. h.seat) all (λ k d l. let h = get_or all k d in
    sits carrier.is_seat carrier.permits carrier.known prop h.home.value store.home (from k d l).home h.place h.part h.seat h.belongs)
