-- What is known of a sum, after one step more, and at its end.
use Rattle.std.proofs.Common.{◌≡◌, ◌∙◌, ◌+◌, ℕ, suc, false, true≢false, refl, ap, subst, List, [], ◌∷◌, ◌++◌, Option, Some, None, Result, Ok, Err, append-nil, arith}
use Rattle.std.specs.Option.{is_some}
use Rattle.std.specs.List.{All, AllZip, sum_by}
use Rattle.std.specs.List.Sorted.{IsPermutation}
use Rattle.std.proofs.lemmas.List.Elements.{All-nil, All-push, All-head, All-tail}
use Rattle.std.proofs.lemmas.List.Sums.{sum_by-append, sum_by-cons, sum_by_push}
use Rattle.std.proofs.lemmas.List.Sorted.{All-permutation, IsPermutation-sym, sum_by-IsPermutation}
use Rattle.tasks.specs.declared.answers.Done.{Done}
use Rattle.tasks.specs.declared.runs.Numbered.{Numbered}
use Rattle.tasks.specs.Tasks.{IsDoneOf}
use Rattle.tasks.specs.Answered.{numbered, AnsweredOnce}
use Rattle.split_sum.specs.declared.ranges.Range.{Range}
use Rattle.split_sum.specs.declared.ranges.Part.{Part}
use Rattle.split_sum.specs.declared.ranges.Part.TheVariants.{Sum, Halves}
use Rattle.split_sum.specs.declared.ranges.NoRoom.{NoRoom}
use Rattle.split_sum.specs.Squares.{squares_of, IsPartOf}
use Rattle.split_sum.specs.Sums.{sum_told, sum_made, IsPart, Adds}

abbrev Told : Type 0
Told = Done (Result Part NoRoom)

abbrev made : Told → ℕ
made d = sum_made d.answer

abbrev added : Told → ℕ
added d = sum_told d.answer

abbrev part : Told → Type 0
part d = IsPart d.answer

-- nothing was given or told yet
pub adds_none : (all : Range) → Adds all (all ∷ []) 0 [] []
adds_none all =
    let one = sum_by-cons squares_of all [] in
    record { ranges = omega (arith, one); sums = refl; parts = All-nil part }

module _ (all : Range) (waiting : List Range) (total : ℕ) (given : List Range) (told : List Told) where
  -- a range was given that waited
  pub adds_given : (rest : List Range) (r : Range) → waiting ≡ rest ++ r ∷ [] → Adds all waiting total given told → Adds all rest total (given ++ r ∷ []) told
  adds_given rest r is h =
      let was = h.ranges in
      let split = ap (sum_by squares_of) is ∙ sum_by_push squares_of rest r in
      let more = sum_by_push squares_of given r in
      record { ranges = omega (arith, was, split, more); sums = h.sums; parts = h.parts }

  -- a part was told
  pub adds_told : (waiting' : List Range) (total' : ℕ) (d : Told) → Adds all waiting total given told → part d
      → sum_by squares_of waiting' ≡ sum_by squares_of waiting + made d → total' ≡ total + added d
      → Adds all waiting' total' given (told ++ d ∷ [])
  adds_told waiting' total' d h fine wait add =
      let was = h.ranges in
      let sum = h.sums in
      let one = sum_by_push made told d in
      let two = sum_by_push added told d in
      record { ranges = omega (arith, was, one, wait); sums = omega (arith, sum, two, add); parts = All-push part told d h.parts fine }

-- two ranges more wait
pub two_more : (waiting : List Range) (one other : Range) → sum_by squares_of (waiting ++ one ∷ other ∷ []) ≡ sum_by squares_of waiting + (squares_of one + squares_of other)
two_more waiting one other =
    let a = sum_by-append squares_of waiting (one ∷ other ∷ []) in
    let b = sum_by-cons squares_of one (other ∷ []) in
    let c = sum_by-cons squares_of other [] in
    omega (arith, a, b, c)

-- the task of a number
abbrev squares_in : Numbered Range → ℕ
squares_in x = squares_of x.task

numbered-sum : (n : ℕ) (ts : List Range) → sum_by squares_in (numbered n ts) ≡ sum_by squares_of ts
numbered-sum n [] = refl
numbered-sum n (t ∷ ts) =
    let a = sum_by-cons squares_in (record { number = n; task = t }) (numbered (suc n) ts) in
    let b = sum_by-cons squares_of t ts in
    let ih = numbered-sum (suc n) ts in
    omega (arith, a, b, ih)

-- what a range came to is told or made
one_part : (r : Range) (a : Result Part NoRoom) → IsPartOf r a → IsPart a → squares_of r ≡ sum_told a + sum_made a
one_part r (Ok (Sum sum)) h fine = omega (arith, h)
one_part r (Ok (Halves one other)) h fine = omega (arith, h)
one_part r (Err failed) h fine = absurd fine

each_part : (xs : List (Numbered Range)) (ds : List Told) → AllZip (IsDoneOf IsPartOf) xs ds → All part ds → sum_by squares_in xs ≡ sum_by added ds + sum_by made ds
each_part [] [] h fine = refl
each_part [] (d ∷ ds) h fine = absurd h
each_part (x ∷ xs) [] h fine = absurd h
each_part (x ∷ xs) (d ∷ ds) h fine =
    let one = one_part x.task d.answer h.0.answer (All-head part d ds fine) in
    let ih = each_part xs ds h.1 (All-tail part d ds fine) in
    let a = sum_by-cons squares_in x xs in
    let b = sum_by-cons added d ds in
    let c = sum_by-cons made d ds in
    omega (arith, one, ih, a, b, c)

-- where no range waits any more the total is the sum
pub adds_all : (all : Range) (waiting : List Range) (total : ℕ) (given : List Range) (told : List Told) (left : List (Numbered Range)) → waiting ≡ [] → left ≡ []
    → AnsweredOnce IsPartOf given told left → Adds all waiting total given told → total ≡ squares_of all
adds_all all waiting total given told left none nothing a h =
    let parts = All-permutation part told a.dones (IsPermutation-sym a.dones told a.came) h.parts in
    let each = each_part a.ran a.dones a.each parts in
    let s = sum_by-IsPermutation added a.dones told a.came in
    let m = sum_by-IsPermutation made a.dones told a.came in
    let ran : IsPermutation (numbered 0 given) a.ran = subst (IsPermutation (numbered 0 given)) (ap (λ l. a.ran ++ l) nothing ∙ append-nil a.ran) a.all in
    let r = sum_by-IsPermutation squares_in (numbered 0 given) a.ran ran in
    let n = numbered-sum 0 given in
    let w = ap (sum_by squares_of) none in
    let ranges = h.ranges in
    let sums = h.sums in
    omega (arith, each, s, m, r, n, w, ranges, sums)

-- an option that isn't some is none
pub none_of : {X : Type 0} (o : Option X) → is_some o ≡ false → o ≡ None
none_of None h = refl
none_of (Some x) h = absurd (true≢false h)
