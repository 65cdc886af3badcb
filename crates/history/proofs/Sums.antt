-- The entries of some seats in a history: they are at most all, and they are all where no entry is another's.
use Rattle.std.proofs.Common.{◌≡◌, ◌≢◌, ◌↔◌, ℕ, ◌+◌, ◌-◌, ◌<◌, ◌≤◌, zero, suc, Bool, true, false, cond, if◌then◌else◌, nat_eq, IsTrue, Option, Some}
use Rattle.std.proofs.Common.{None, IsSomeAnd, slice_get, slice_index_or, List, [], ◌∷◌, ◌++◌, length, length-append, take, sym, refl, ap, ◌∙◌, arith}
use Rattle.std.proofs.Common.{eq-eqb, eqb-true, ne_eqb}
use Rattle.std.specs.List.{All, count_by, sum_by}
use mathlib.Core.List.{IsPrefix}
use Rattle.std.proofs.lemmas.List.Elements.{All-nil, All-cons, All-head, All-tail}
use Rattle.std.proofs.lemmas.List.Sums.{sum_by-cons}
use Rattle.std.proofs.lemmas.List.Recursion.{is_count_by}
use Rattle.std.proofs.lemmas.Option.{slice_get_within}
use Rattle.history.specs.declared.operations.Entry.{Entry}
use Rattle.history.specs.declared.operations.Entry.TheVariants.{Push, Pop, Shut}
use Rattle.history.specs.declared.operations.Taken.{Taken}
use Rattle.history.specs.declared.operations.Reply.TheVariants.{Done, Value, Empty, Refused}
use Rattle.history.specs.declared.refusals.Refusal.TheVariants.{Closed}
use Rattle.history.specs.declared.rests.Rest.{Rest}
use Rattle.history.specs.Queue.{Queue}
use Rattle.history.specs.Entries.{seat_of, own_entries, is_push, is_pop, is_shut, Plays, Leads, IsQueueRun}
use Rattle.history.specs.Seats.{Permit, Known, Allows, IsPermitted, IsEmptyAfter, IsShutAfter}
use Rattle.history.specs.Rests.{left_of, taken_of, whole_of, was_shut_of}
use Rattle.history.specs.Ends.{pushes_of, pops_of, shuts_of, IsOfOne, AreAll, Closes}

-- one where a test is passed
abbrev one_of : Bool → ℕ
one_of true = 1
one_of false = 0

-- one more where a test is passed
abbrev one_more : Bool → ℕ → ℕ
one_more b n = cond b (1 + n) n

-- how many entries pass a test, one by one
abbrev count : (Entry → Bool) → List Entry → ℕ
count p [] = 0
count p (e ∷ es) = one_more (p e) (count p es)

count-is : (p : Entry → Bool) (es : List Entry) → count p es ≡ count_by p es
count-is p es = is_count_by (count p) p refl (λ x xs. refl) es

-- how many of some seats have a number
abbrev times : ℕ → List Known → ℕ
times n [] = 0
times n (k ∷ ks) = one_more (nat_eq n k.number) (times n ks)

-- how many entries of some seats pass a test, seat by seat
abbrev by_seat : (Entry → Bool) → List Known → List Entry → ℕ
by_seat p [] es = 0
by_seat p (k ∷ ks) es = count p (own_entries k.number es) + by_seat p ks es

-- the same, entry by entry: each counts as often as its maker is one of the seats
abbrev by_entry : (Entry → Bool) → List Known → List Entry → ℕ
by_entry p ks [] = 0
by_entry p ks (e ∷ es) = cond (p e) (times (seat_of e) ks) 0 + by_entry p ks es

by_entry-nil : (p : Entry → Bool) (es : List Entry) → by_entry p [] es ≡ 0
by_entry-nil p [] = refl
by_entry-nil p (e ∷ es) = go (p e) (by_entry-nil p es)
  where
    go : (b : Bool) → by_entry p [] es ≡ 0 → cond b 0 0 + by_entry p [] es ≡ 0
    go true ih = omega (arith, ih)
    go false ih = omega (arith, ih)

by_entry-cons : (p : Entry → Bool) (k : Known) (ks : List Known) (es : List Entry) → by_entry p (k ∷ ks) es ≡ count p (own_entries k.number es) + by_entry p ks es
by_entry-cons p k ks [] = refl
by_entry-cons p k ks (e ∷ es) = go (nat_eq (seat_of e) k.number) (p e) refl (by_entry-cons p k ks es)
  where
    go : (c b : Bool) → p e ≡ b → by_entry p (k ∷ ks) es ≡ count p (own_entries k.number es) + by_entry p ks es
        → cond b (one_more c (times (seat_of e) ks)) 0 + by_entry p (k ∷ ks) es ≡ count p
        (cond c (e ∷ own_entries k.number es) (own_entries k.number es)) + (cond b (times (seat_of e) ks) 0 + by_entry p ks es)
    go true true is ih = omega (arith, ih, ap (λ b. one_more b (count p (own_entries k.number es))) is)
    go true false is ih = omega (arith, ih, ap (λ b. one_more b (count p (own_entries k.number es))) is)
    go false true is ih = omega (arith, ih)
    go false false is ih = omega (arith, ih)

by_seat-is : (p : Entry → Bool) (ks : List Known) (es : List Entry) → by_seat p ks es ≡ by_entry p ks es
by_seat-is p [] es = sym (by_entry-nil p es)
by_seat-is p (k ∷ ks) es = ap (λ n. count p (own_entries k.number es) + n) (by_seat-is p ks es) ∙ sym (by_entry-cons p k ks es)

-- what seats made is what they have in the history
made_is : (p : Entry → Bool) (ks : List Known) (es : List Entry) → All (λ k. own_entries k.number es ≡ k.mine) ks → sum_by (λ k. count_by p k.mine) ks ≡ by_seat p ks es
made_is p [] es own = refl
made_is p (k ∷ ks) es own =
    let same : own_entries k.number es ≡ k.mine = All-head (λ j. own_entries j.number es ≡ j.mine) k ks own in
    let rest = made_is p ks es (All-tail (λ j. own_entries j.number es ≡ j.mine) k ks own) in
    omega (arith, sum_by-cons (λ j. count_by p j.mine) k ks, ap (count_by p) same, count-is p (own_entries k.number es), rest)

-- no two of some seats have one number
abbrev pub AreApart : List Known → Type 0
AreApart ks = (i j : ℕ) (k l : Known) → slice_get ks i ≡ Some k → slice_get ks j ≡ Some l → k.number ≡ l.number → i ≡ j

apart-tail : (k : Known) (ks : List Known) → AreApart (k ∷ ks) → AreApart ks
apart-tail k ks h i j a b x y e = let t : suc i ≡ suc j = h (suc i) (suc j) a b x y e in omega (arith, t)

times-none : (n : ℕ) (ks : List Known) → ((i : ℕ) (k : Known) → slice_get ks i ≡ Some k → n ≢ k.number) → times n ks ≡ 0
times-none n [] h = refl
times-none n (k ∷ ks) h = go (nat_eq n k.number) (ne_eqb n k.number (h 0 k refl)) (times-none n ks (λ i. h (suc i)))
  where
    go : (b : Bool) → b ≡ false → times n ks ≡ 0 → one_more b (times n ks) ≡ 0
    go true e ih = absurd (let f : true ≡ false = e in cc)
    go false e ih = ih

times-most : (n : ℕ) (ks : List Known) → AreApart ks → times n ks ≤ 1
times-most n [] h = omega arith
times-most n (k ∷ ks) h = go (nat_eq n k.number) refl (times-most n ks (apart-tail k ks h))
  where
    go : (b : Bool) → nat_eq n k.number ≡ b → times n ks ≤ 1 → one_more b (times n ks) ≤ 1
    go true e ih =
        let same : n ≡ k.number = eqb-true n k.number e in
        let none : times n ks ≡ 0 = times-none n ks (λ i l at is. let t : suc i ≡ 0 = h (suc i) 0 l k at refl (sym is ∙ same) in omega (arith, t)) in
        omega (arith, none)
    go false e ih = ih

times-some : (n : ℕ) (ks : List Known) (i : ℕ) → IsSomeAnd (slice_get ks i) (λ k. k.number ≡ n) → 1 ≤ times n ks
times-some n [] i h = absurd h
times-some n (k ∷ ks) zero h = go (nat_eq n k.number) (eq-eqb n k.number (sym h))
  where
    go : (b : Bool) → b ≡ true → 1 ≤ one_more b (times n ks)
    go true e = omega arith
    go false e = absurd (let f : false ≡ true = e in cc)
times-some n (k ∷ ks) (suc i) h = go (nat_eq n k.number) (times-some n ks i h)
  where
    go : (b : Bool) → 1 ≤ times n ks → 1 ≤ one_more b (times n ks)
    go true ih = omega arith
    go false ih = ih

some_times : (n : ℕ) (ks : List Known) → 1 ≤ times n ks → (i : ℕ) × IsSomeAnd (slice_get ks i) (λ k. n ≡ k.number)
some_times n [] h = absurd (omega (arith, h))
some_times n (k ∷ ks) h = go (nat_eq n k.number) refl h (some_times n ks)
  where
    go : (b : Bool) → nat_eq n k.number ≡ b → 1 ≤ one_more b (times n ks) → (1 ≤ times n ks → (i : ℕ)
        × IsSomeAnd (slice_get ks i) (λ j. n ≡ j.number)) → (i : ℕ) × IsSomeAnd (slice_get (k ∷ ks) i) (λ j. n ≡ j.number)
    go true e some more = (0, eqb-true n k.number e)
    go false e some more = let t = more some in (suc t.0, t.1)

module _ (p : Entry → Bool) (ks : List Known) where
  by_entry-most : AreApart ks → (es : List Entry) → by_entry p ks es ≤ count p es
  by_entry-most apart [] = omega arith
  by_entry-most apart (e ∷ es) = go (p e) (by_entry-most apart es)
    where
      go : (b : Bool) → by_entry p ks es ≤ count p es → cond b (times (seat_of e) ks) 0 + by_entry p ks es ≤ one_more b (count p es)
      go true ih = omega (arith, ih, times-most (seat_of e) ks apart)
      go false ih = omega (arith, ih)

  -- where these are all that pass the test, each is of one of the seats
  abbrev Counted : Entry → Type 0
  Counted e = p e ≡ true → 1 ≤ times (seat_of e) ks

  by_entry-all : AreApart ks → (es : List Entry) → by_entry p ks es ≡ count p es → All Counted es
  by_entry-all apart [] h = All-nil Counted
  by_entry-all apart (e ∷ es) h =
      let t = go (p e) h (by_entry-most apart es) in
      All-cons Counted e es t.1 (by_entry-all apart es t.0)
    where
      go : (b : Bool) → cond b (times (seat_of e) ks) 0 + by_entry p ks es ≡ one_more b (count p es) → by_entry p ks es ≤ count p es
          → (by_entry p ks es ≡ count p es) × (b ≡ true → 1 ≤ times (seat_of e) ks)
      go true f le = (omega (arith, f, le, times-most (seat_of e) ks apart), λ _. omega (arith, f, le))
      go false f le = (omega (arith, f), λ t. absurd (let u : false ≡ true = t in cc))

  -- where each entry is of one of the seats, these are all
  by_entry-whole : AreApart ks → (es : List Entry) → All (λ e. 1 ≤ times (seat_of e) ks) es → by_entry p ks es ≡ count p es
  by_entry-whole apart [] h = refl
  by_entry-whole apart (e ∷ es) h = go (p e) (by_entry-whole apart es (All-tail (λ x. 1 ≤ times (seat_of x) ks) e es h))
    where
      go : (b : Bool) → by_entry p ks es ≡ count p es → cond b (times (seat_of e) ks) 0 + by_entry p ks es ≡ one_more b (count p es)
      go true ih = omega (arith, ih, times-most (seat_of e) ks apart, All-head (λ x. 1 ≤ times (seat_of x) ks) e es h)
      go false ih = omega (arith, ih)

-- the pushes and the values before are as many as the pops and the values after
plays_count : (es : List Entry) (shut : Bool) (values : List Taken) (r : Queue) → Plays (record { values = values; shut = shut }) es r
    → count is_push es + length values ≡ count is_pop es + length r.values
plays_count [] shut values r e = ap (λ (x : Queue). 0 + length x.values) e
plays_count (Push seat body ∷ es) false values r h =
    let x : Taken = record { from = seat; body = body } in
    let ih : count is_push es + length (values ++ x ∷ []) ≡ count is_pop es + length r.values = plays_count es false (values ++ x ∷ []) r h.1 in
    let more : length (values ++ x ∷ []) ≡ length values + 1 = length-append values (x ∷ []) in
    omega (arith, ih, more)
plays_count (Push seat body ∷ es) true values r h = absurd (let e : Refused Closed ≡ Done = h.0 in cc)
plays_count (Shut seat ∷ es) false values r h = omega (arith, plays_count es true values r h.1)
plays_count (Shut seat ∷ es) true values r h = absurd (let e : Refused Closed ≡ Done = h.0 in cc)
plays_count (Pop seat value ∷ es) shut (v ∷ vs) r h = omega (arith, plays_count es shut vs r h.1)
plays_count (Pop seat value ∷ es) false [] r h = absurd (let e : Empty ≡ Value value = h.0 in cc)
plays_count (Pop seat value ∷ es) true [] r h = absurd (let e : Refused Closed ≡ Value value = h.0 in cc)

-- there is a shut exactly where the queue is shut after, and wasn't before
plays_shuts : (es : List Entry) (shut : Bool) (values : List Taken) (r : Queue) → Plays (record { values = values; shut = shut }) es r → count is_shut es + one_of shut ≡ one_of r.shut
plays_shuts [] shut values r e = let same : one_of shut ≡ one_of r.shut = ap (λ (x : Queue). one_of x.shut) e in omega (arith, same)
plays_shuts (Push seat body ∷ es) false values r h = plays_shuts es false _ r h.1
plays_shuts (Push seat body ∷ es) true values r h = absurd (let e : Refused Closed ≡ Done = h.0 in cc)
plays_shuts (Shut seat ∷ es) false values r h = omega (arith, plays_shuts es true values r h.1)
plays_shuts (Shut seat ∷ es) true values r h = absurd (let e : Refused Closed ≡ Done = h.0 in cc)
plays_shuts (Pop seat value ∷ es) shut (v ∷ vs) r h = plays_shuts es shut vs r h.1
plays_shuts (Pop seat value ∷ es) false [] r h = absurd (let e : Empty ≡ Value value = h.0 in cc)
plays_shuts (Pop seat value ∷ es) true [] r h = absurd (let e : Refused Closed ≡ Value value = h.0 in cc)

-- on a queue that is shut nothing is pushed, and it isn't shut again
none_on_shut : (es : List Entry) (values : List Taken) (r : Queue) → Plays (record { values = values; shut = true }) es r → (count is_push es ≡ 0) × (count is_shut es ≡ 0)
none_on_shut [] values r e = (refl, refl)
none_on_shut (Push seat body ∷ es) values r h = absurd (let e : Refused Closed ≡ Done = h.0 in cc)
none_on_shut (Shut seat ∷ es) values r h = absurd (let e : Refused Closed ≡ Done = h.0 in cc)
none_on_shut (Pop seat value ∷ es) (v ∷ vs) r h = none_on_shut es vs r h.1
none_on_shut (Pop seat value ∷ es) [] r h = absurd (let e : Refused Closed ≡ Value value = h.0 in cc)

-- nor is it behind a shut
none_behind : (before es : List Entry) (seat : ℕ) (shut : Bool) (values : List Taken) (r : Queue)
    → Plays (record { values = values; shut = shut }) (before ++ Shut seat ∷ es) r → (count is_push es ≡ 0) × (count is_shut es ≡ 0)
none_behind [] es seat false values r h = none_on_shut es values r h.1
none_behind [] es seat true values r h = absurd (let e : Refused Closed ≡ Done = h.0 in cc)
none_behind (Push other body ∷ before) es seat false values r h = none_behind before es seat false _ r h.1
none_behind (Push other body ∷ before) es seat true values r h = absurd (let e : Refused Closed ≡ Done = h.0 in cc)
none_behind (Shut other ∷ before) es seat false values r h = none_behind before es seat true values r h.1
none_behind (Shut other ∷ before) es seat true values r h = absurd (let e : Refused Closed ≡ Done = h.0 in cc)
none_behind (Pop other value ∷ before) es seat shut (v ∷ vs) r h = none_behind before es seat shut vs r h.1
none_behind (Pop other value ∷ before) es seat false [] r h = absurd (let e : Empty ≡ Value value = h.0 in cc)
none_behind (Pop other value ∷ before) es seat true [] r h = absurd (let e : Refused Closed ≡ Value value = h.0 in cc)

pub none_behind_a_shut : (before es : List Entry) (seat : ℕ) → IsQueueRun (before ++ Shut seat ∷ es) → (count_by is_push es ≡ 0) × (count_by is_shut es ≡ 0)
none_behind_a_shut before es seat h =
    let none = none_behind before es seat false [] h.0 h.1 in
    (omega (arith, none.0, count-is is_push es), omega (arith, none.1, count-is is_shut es))

-- a history has a push for each pop and each value left
pub pushes-Leads : (es : List Entry) (shut : Bool) (left : List Taken) → Leads es shut left → count_by is_push es ≡ count_by is_pop es + length left
pushes-Leads es shut left h =
    omega (arith, plays_count es false [] (record { values = left; shut = shut }) h, count-is is_push es, count-is is_pop es)

-- and one shut where it left the queue shut, and else none
pub shuts-Leads : (es : List Entry) (shut : Bool) (left : List Taken) → Leads es shut left → count_by is_shut es ≡ one_of shut
shuts-Leads es shut left h =
    omega (arith, plays_shuts es false [] (record { values = left; shut = shut }) h, count-is is_shut es)

-- so the queue is shut exactly where there is a shut
pub shut_by_one : (es : List Entry) (shut : Bool) (left : List Taken) → Leads es shut left → count_by is_shut es ≡ (if shut then 1 else 0)
shut_by_one es true left h = shuts-Leads es true left h
shut_by_one es false left h = shuts-Leads es false left h

-- where a note says that a prefix leaves the empty queue, there is no shut in it
pub no_shut_before : (seen : List Entry) (n : ℕ) → IsEmptyAfter seen n → count_by is_shut (take n seen) ≡ 0
no_shut_before seen n h = shuts-Leads (take n seen) false [] h.1

-- where it says that a prefix leaves the queue shut, there is one
pub one_shut_before : (seen : List Entry) (n : ℕ) → IsShutAfter seen n → count_by is_shut (take n seen) ≡ 1
one_shut_before seen n h = shuts-Leads (take n seen) true h.1.0 h.1.1

-- the maker of an entry that is permitted is one of all seats
maker_times : (permits : List Permit) (ks : List Known) → AreAll permits ks → (e : Entry) → IsPermitted permits e → 1 ≤ times (seat_of e) ks
maker_times permits ks every e h =
    let i = every (seat_of e) h.0 (let t = within (slice_get permits (seat_of e - 1)) refl h.1 in let low = h.0 in omega (arith, t, low)) in
    times-some (seat_of e) ks i.0 i.1
  where
    within : (o : Option Permit) → slice_get permits (seat_of e - 1) ≡ o → IsSomeAnd o (λ p. Allows p e) → seat_of e - 1 < length permits
    within None is f = absurd f
    within (Some p) is f = slice_get_within permits (seat_of e - 1) p is

-- seats with numbers apart, whose own entries of a history are just those that they know
module _ (ks : List Known) (es : List Entry) (apart : AreApart ks) (own : All (λ k. own_entries k.number es ≡ k.mine) ks) where
  -- what they made is no more than the history has
  pub made-le : (p : Entry → Bool) → sum_by (λ k. count_by p k.mine) ks ≤ count_by p es
  made-le p = omega (arith, made_is p ks es own, by_seat-is p ks es, by_entry-most p ks apart es, count-is p es)

  -- where it is as much, each entry is of one of them
  made_all : (p : Entry → Bool) → sum_by (λ k. count_by p k.mine) ks ≡ count_by p es → All (Counted p ks) es
  made_all p e = by_entry-all p ks apart es (omega (arith, e, made_is p ks es own, by_seat-is p ks es, count-is p es))

  pub theirs : pops_of ks ≡ count_by is_pop es → pushes_of ks ≡ count_by is_push es → shuts_of ks ≡ count_by is_shut es → All (IsOfOne ks) es
  theirs pops pushes shuts k d lt =
      one (slice_index_or es k d) (made_all is_push pushes k d lt) (made_all is_pop pops k d lt) (made_all is_shut shuts k d lt)
    where
      one : (e : Entry) → Counted is_push ks e → Counted is_pop ks e → Counted is_shut ks e → IsOfOne ks e
      one (Push seat body) f g h = some_times seat ks (f refl)
      one (Pop seat value) f g h = some_times seat ks (g refl)
      one (Shut seat) f g h = some_times seat ks (h refl)

  -- where they are all seats, it is as much
  pub made-all : (permits : List Permit) → All (IsPermitted permits) es → AreAll permits ks → (p : Entry → Bool) → sum_by (λ k. count_by p k.mine) ks ≡ count_by p es
  made-all permits permitted every p =
      let each : All (λ e. 1 ≤ times (seat_of e) ks) es = λ k d lt. maker_times permits ks every (slice_index_or es k d) (permitted k d lt) in
      omega (arith, made_is p ks es own, by_seat-is p ks es, by_entry-whole p ks apart es each, count-is p es)

-- a shut that one of the seats made is the only one
only_shut : (shut : Bool) (made all : ℕ) → all ≡ one_of shut → made ≤ all → (IsTrue shut → 1 ≤ made) → made ≡ all
only_shut true made all e low some = omega (arith, e, low, some refl)
only_shut false made all e low some = omega (arith, e, low)

some_shut : (shut : Bool) (made all : ℕ) → all ≡ one_of shut → made ≡ all → IsTrue shut → 1 ≤ made
some_shut true made all e same t = omega (arith, e, same)
some_shut false made all e same t = absurd cc

-- a queue is closed by seats with numbers apart, where its rest is whole exactly if they made all pushes and pops, and the
-- shut, if there is one
pub closes : (permits : List Permit) (ks : List Known) (rest : Rest) (es : List Entry) → Leads es (was_shut_of rest) (left_of rest)
    → All (IsPermitted permits) es → All (λ k. IsPrefix k.seen es) ks → All (λ k. own_entries k.number es ≡ k.mine) ks → AreApart ks
    → taken_of rest ≡ count_by is_pop es
    → (IsTrue (whole_of rest) ↔ ((pops_of ks ≡ taken_of rest) × (pushes_of ks ≡ taken_of rest + length (left_of rest)) × (IsTrue (was_shut_of rest) → 1 ≤ shuts_of ks))) → Closes permits ks rest
closes permits ks rest es leads permitted begins own apart counted whole =
    let pushed = pushes-Leads es (was_shut_of rest) (left_of rest) leads in
    let one = shuts-Leads es (was_shut_of rest) (left_of rest) leads in
    record {
      history = es;
      leads = leads;
      permitted = permitted;
      begins = begins;
      own = own;
      counted = counted;
      whole = whole;
      theirs = λ t. let h = whole.0 t in theirs ks es apart own (h.0 ∙ counted) (omega (arith, h.1, counted, pushed)) (only_shut (was_shut_of rest) _ _ one (made-le ks es apart own is_shut) h.2);
      all = λ every. whole.1 (
        made-all ks es apart own permits permitted every is_pop ∙ sym counted,
        omega (arith, made-all ks es apart own permits permitted every is_push, counted, pushed),
        some_shut (was_shut_of rest) _ _ one (made-all ks es apart own permits permitted every is_shut),
      );
    }
