-- What a queue of numbers that was closed leaves, by deeds.
use Rattle.std.proofs.Common.{◌≡◌, ◌∙◌, ◌≤◌, ◌+◌, sym, refl, ap, subst, ℕ, Bool, cond, List, [], ◌∷◌, map, Option, Some, None, IsSomeAnd, slice_get, option_map}
use Rattle.std.specs.List.{All, count_by, sum_by}
use mathlib.Core.List.{IsPrefix}
use Rattle.std.proofs.lemmas.List.{map-append, length-map}
use Rattle.std.proofs.lemmas.List.Elements.{All-map, All-weaker}
use Rattle.std.proofs.lemmas.List.Sums.{sum_by-cons}
use Rattle.std.proofs.lemmas.Option.{slice_get-map}
use Rattle.history.specs.declared.operations.Entry.{Entry}
use Rattle.history.specs.declared.operations.Entry.TheVariants.{Push, Pop, Shut}
use Rattle.history.specs.declared.rests.Rest.{Rest}
use Rattle.history.specs.Entries.{seat_of, is_push, is_pop, is_shut, own_entries}
use Rattle.history.specs.Seats.{Permit, Known}
use Rattle.history.specs.Rests.{left_of, taken_of, whole_of, was_shut_of}
use Rattle.history.specs.Ends.{IsOfOne, AreAll, Closes}
use Rattle.carriers.specs.Deeds.{Deed, doer_of, own_deeds, is_pushing, is_popping, is_shutting}
use Rattle.carriers.specs.Knowledge.{KnownOf}
use Rattle.carriers.specs.Ends.{IsOfOneOf, AreAllOf, ClosesWith}
use Rattle.carriers.specs.DeedsOfNumbers.{item_taken, deed_of, deeds_of, known_by_deeds}
use Rattle.carriers.specs.Sound.{RunsTo-deeds, permitted-deeds, own-deeds}

-- counts of deeds are those of entries
count-deeds : (p : Entry → Bool) (p' : Deed ℕ → Bool) → ((e : Entry) → p' (deed_of e) ≡ p e) → (es : List Entry) → count_by p' (deeds_of es) ≡ count_by p es
count-deeds p p' same [] = refl
count-deeds p p' same (e ∷ es) =
    sum_by-cons (λ d. cond (p' d) 1 0) (deed_of e) (deeds_of es)
    ∙ (λ i. cond (same e i) 1 0 + count-deeds p p' same es i)
    ∙ sym (sum_by-cons (λ e. cond (p e) 1 0) e es)

pushing-deed : (e : Entry) → is_pushing (deed_of e) ≡ is_push e
pushing-deed (Push seat body) = refl
pushing-deed (Pop seat taken) = refl
pushing-deed (Shut seat) = refl

popping-deed : (e : Entry) → is_popping (deed_of e) ≡ is_pop e
popping-deed (Push seat body) = refl
popping-deed (Pop seat taken) = refl
popping-deed (Shut seat) = refl

shutting-deed : (e : Entry) → is_shutting (deed_of e) ≡ is_shut e
shutting-deed (Push seat body) = refl
shutting-deed (Pop seat taken) = refl
shutting-deed (Shut seat) = refl

doer-deed : (e : Entry) → doer_of (deed_of e) ≡ seat_of e
doer-deed (Push seat body) = refl
doer-deed (Pop seat taken) = refl
doer-deed (Shut seat) = refl

-- and so are sums of them
sums-deeds : (p : Entry → Bool) (p' : Deed ℕ → Bool) → ((e : Entry) → p' (deed_of e) ≡ p e) → (ks : List Known)
    → sum_by (λ (k : KnownOf ℕ). count_by p' k.mine) (map known_by_deeds ks) ≡ sum_by (λ (k : Known). count_by p k.mine) ks
sums-deeds p p' same [] = refl
sums-deeds p p' same (k ∷ ks) =
    sum_by-cons (λ (k : KnownOf ℕ). count_by p' k.mine) (known_by_deeds k) (map known_by_deeds ks)
    ∙ (λ i. count-deeds p p' same k.mine i + sums-deeds p p' same ks i)
    ∙ sym (sum_by-cons (λ (k : Known). count_by p k.mine) k ks)

-- what is so of the element that is there is so of what it is made into, and back
there : {X Y : Type 0} (f : X → Y) (P : X → Type 0) (Q : Y → Type 0) → ((x : X) → P x → Q (f x)) → (o : Option X) → IsSomeAnd o P → IsSomeAnd (option_map f o) Q
there f P Q so (Some x) h = so x h
there f P Q so None h = absurd h

back : {X Y : Type 0} (f : X → Y) (P : X → Type 0) (Q : Y → Type 0) → ((x : X) → Q (f x) → P x) → (o : Option X) → IsSomeAnd (option_map f o) Q → IsSomeAnd o P
back f P Q so (Some x) h = so x h
back f P Q so None h = absurd h

-- an entry of one of the seats is so as a deed
of_one-deed : (seats : List Known) (e : Entry) → IsOfOne seats e → IsOfOneOf (map known_by_deeds seats) (deed_of e)
of_one-deed seats e h = (
  h.0,
  subst (λ o. IsSomeAnd o (λ k. doer_of (deed_of e) ≡ k.number)) (sym (slice_get-map known_by_deeds seats h.0))
      (there known_by_deeds (λ k. seat_of e ≡ k.number) (λ k. doer_of (deed_of e) ≡ k.number) (λ k same. doer-deed e ∙ same) (slice_get seats h.0)
      h.1),
)

-- and all seats are all
all-deeds : (permits : List Permit) (seats : List Known) → AreAllOf permits (map known_by_deeds seats) → AreAll permits seats
all-deeds permits seats all n low high =
    let h = all n low high in (
      h.0,
      back known_by_deeds (λ k. k.number ≡ n) (λ k. k.number ≡ n) (λ k same. same) (slice_get seats h.0)
          (subst (λ o. IsSomeAnd o (λ k. k.number ≡ n)) (slice_get-map known_by_deeds seats h.0) h.1),
    )

-- a beginning of entries is one of deeds
begins-deeds : (history : List Entry) (k : Known) → IsPrefix k.seen history → IsPrefix (known_by_deeds k).seen (deeds_of history)
begins-deeds history k h = (deeds_of h.0, sym (map-append deed_of k.seen h.0) ∙ ap deeds_of h.1)

-- what holds of each seat holds of it by deeds
each-deeds : (P : Known → Type 0) (Q : KnownOf ℕ → Type 0) → ((k : Known) → P k → Q (known_by_deeds k)) → (seats : List Known) → All P seats → All Q (map known_by_deeds seats)
each-deeds P Q so seats h = All-map Q known_by_deeds seats (All-weaker P (λ k. Q (known_by_deeds k)) so seats h)

-- a closed queue of numbers is closed by deeds
pub Closes-deeds : (permits : List Permit) (seats : List Known) (rest : Rest) → Closes permits seats rest
    → ClosesWith permits (map known_by_deeds seats) (map item_taken (left_of rest)) (taken_of rest) (whole_of rest) (was_shut_of rest)
Closes-deeds permits seats rest h =
    let pops = sums-deeds is_pop is_popping popping-deed seats in
    let pushes = sums-deeds is_push is_pushing pushing-deed seats in
    let shuts = sums-deeds is_shut is_shutting shutting-deed seats in
    let many = length-map (left_of rest) item_taken in
    record {
      history = deeds_of h.history;
      runs = RunsTo-deeds h.history (was_shut_of rest) (left_of rest) h.leads;
      permitted = permitted-deeds permits h.history h.permitted;
      begins = each-deeds (λ k. IsPrefix k.seen h.history) (λ k. IsPrefix k.seen (deeds_of h.history)) (begins-deeds h.history) seats h.begins;
      own = each-deeds (λ k. own_entries k.number h.history ≡ k.mine) (λ k. own_deeds k.number (deeds_of h.history) ≡ k.mine) (λ k same. own-deeds k.number h.history ∙ ap deeds_of same) seats h.own;
      counted = h.counted ∙ sym (count-deeds is_pop is_popping popping-deed h.history);
      made_all = (
        λ whole. let made = h.whole.0 whole in (pops ∙ made.0, pushes ∙ made.1 ∙ ap (λ n. taken_of rest + n) (sym many), λ shut. subst (λ n. 1 ≤ n) (sym shuts) (made.2 shut)),
        λ made. h.whole.1 (sym pops ∙ made.0, sym pushes ∙ made.1 ∙ ap (λ n. taken_of rest + n) many, λ shut. subst (λ n. 1 ≤ n) shuts (made.2 shut)),
      );
      theirs = λ whole. All-map (IsOfOneOf (map known_by_deeds seats)) deed_of h.history
          (All-weaker (IsOfOne seats) (λ e. IsOfOneOf (map known_by_deeds seats) (deed_of e)) (of_one-deed seats) h.history (h.theirs whole));
      all = λ all. h.all (all-deeds permits seats all);
    }
