-- How many pushes and pops a world can have made: as many pops as Head counts, and a value in the queue for each push more.
use Rattle.std.proofs.Common.{◌≡◌, ℕ, ◌+◌, ◌<◌, ◌≤◌, Bool, true, false, if◌then◌else◌, nat_le, Option, Some, None, List, [], ◌∷◌, ◌++◌, length, length-append, refl, sym, ap, subst, arith}
use Rattle.std.specs.List.{count_by, flat_map}
use Rattle.std.proofs.lemmas.List.{length-map}
use Rattle.std.proofs.lemmas.List.Recursion.{is_count_by}
use Rattle.std.specs.Prelude.{is_some}
use Rattle.step_machine.specs.Below.{Op, Enq, Deq, Closed, Shut, Taken, Reply, Done, Value, Empty, Refused, Stamped, Entry, Push, ShutEntry, Pop}
use Rattle.step_machine.specs.Below.{Queue, is_push, is_pop, Plays, point_or_zero, inserted, by_point, node_at}
use Rattle.step_machine.specs.Machine.{World}
use Rattle.step_machine.specs.Chains.{queue_values, queue_in}
use Rattle.step_machine.specs.EachQueue.{HasItsPlaces}
use Rattle.step_machine.specs.Completion.{completion, is_value}
use Rattle.step_machine.specs.Entries.{entry_with, entry_of, entries, AreFew}
use Rattle.step_machine.specs.Histories.{OfEachWorld}
use Rattle.step_machine.specs.Range.{WorldInRange}
use Rattle.step_machine.proofs.Reached.{reached_in_range}
use Rattle.step_machine.proofs.EachEntry.{plays_to_the_values}
use Rattle.step_machine.proofs.PlaceOf.{few}
use Rattle.step_machine.proofs.EitherQueue.{have_their_places}
use Rattle.step_machine.proofs.EachLegal.{head_counts_values_taken}

-- one more where a test is passed
abbrev pub one_more : Bool → ℕ → ℕ
one_more b n = if b then 1 + n else n

-- how many items pass a test, one by one
abbrev pub count : {X : Type 0} → (X → Bool) → List X → ℕ
count p [] = 0
count p (x ∷ xs) = one_more (p x) (count p xs)

pub count_is : {X : Type 0} (p : X → Bool) (xs : List X) → count p xs ≡ count_by p xs
count_is p xs = is_count_by (count p) p refl (λ x ys. refl) xs

-- the pushes and the values before are as many as the pops and the values after
plays_count : (es : List Entry) (shut : Bool) (values : List Taken) (r : Queue) → Plays (record { values = values; shut = shut }) es r
    → count is_push es + length values ≡ count is_pop es + length r.values
plays_count [] shut values r e = ap (λ (x : Queue). 0 + length x.values) e
plays_count (Push seat body ∷ es) false values r h =
    let x : Taken = record { from = seat; body = body } in
    let ih : count is_push es + length (values ++ x ∷ []) ≡ count is_pop es + length r.values = plays_count es false (values ++ x ∷ []) r h.1 in
    let more : length (values ++ x ∷ []) ≡ length values + 1 = length-append values (x ∷ []) in
    omega (arith, ih, more)
plays_count (Push seat body ∷ es) true values r h = absurd (let e : Refused Closed ≡ Done = h.0 in cc)
plays_count (ShutEntry seat ∷ es) false values r h = omega (arith, plays_count es true values r h.1)
plays_count (ShutEntry seat ∷ es) true values r h = absurd (let e : Refused Closed ≡ Done = h.0 in cc)
plays_count (Pop seat value ∷ es) shut (v ∷ vs) r h = omega (arith, plays_count es shut vs r h.1)
plays_count (Pop seat value ∷ es) false [] r h = absurd (let e : Empty ≡ Value value = h.0 in cc)
plays_count (Pop seat value ∷ es) true [] r h = absurd (let e : Refused Closed ≡ Value value = h.0 in cc)

abbrev pub has_value : Stamped → Bool
has_value o = is_value o.reply

-- an operation with a value is one pop, and any other is none
pub pops_are_values : (os : List Stamped) → count is_pop (flat_map entry_of os) ≡ count has_value os
pops_are_values [] = refl
pops_are_values (o ∷ os) = go o.op o.reply (pops_are_values os)
  where
    go : (op : Op) (reply : Option Reply) → count is_pop (flat_map entry_of os) ≡ count has_value os
        → count is_pop (entry_with o.actor op reply ++ flat_map entry_of os) ≡ one_more (is_value reply) (count has_value os)
    go op None e = e
    go (Enq body) (Some Done) e = e
    go Deq (Some Done) e = e
    go Shut (Some Done) e = e
    go op (Some (Value v)) e = ap (λ n. 1 + n) e
    go op (Some Empty) e = e
    go op (Some (Refused refusal)) e = e

swapped : (a b : Bool) (n m : ℕ) → m ≡ one_more a n → one_more b m ≡ one_more a (one_more b n)
swapped true true n m e = ap (λ k. 1 + k) e
swapped true false n m e = e
swapped false true n m e = ap (λ k. 1 + k) e
swapped false false n m e = e

-- an operation put by its place is one more
pub values_inserted : (o : Stamped) (ps : List Stamped) → count has_value (inserted o ps) ≡ one_more (is_value o.reply) (count has_value ps)
values_inserted o [] = refl
values_inserted o (p ∷ ps) = go (nat_le (point_or_zero o.at) (point_or_zero p.at)) (values_inserted o ps)
  where
    go : (b : Bool) → count has_value (inserted o ps) ≡ one_more (is_value o.reply) (count has_value ps)
        → count has_value (if b then o ∷ p ∷ ps else p ∷ inserted o ps) ≡ one_more (is_value o.reply) (one_more (is_value p.reply) (count has_value ps))
    go true ih = refl
    go false ih = swapped (is_value o.reply) (is_value p.reply) (count has_value ps) (count has_value (inserted o ps)) ih

pub both_more : (b : Bool) (n m : ℕ) → n ≤ m → one_more b n ≤ one_more b m
both_more true n m h = omega (arith, h)
both_more false n m h = h

pub no_fewer : (b : Bool) (n m : ℕ) → n ≤ m → n ≤ one_more b m
no_fewer true n m h = omega (arith, h)
no_fewer false n m h = h

-- the values of the operations that have a place are no more than those of all
values_rising : (os : List Stamped) → count has_value (by_point os) ≤ count has_value os
values_rising [] = omega arith
values_rising (o ∷ os) = go (is_some o.at) (values_rising os)
  where
    go : (b : Bool) → count has_value (by_point os) ≤ (count has_value os) → count has_value (if b then inserted o (by_point os) else by_point os) ≤ one_more (is_value o.reply) (count has_value os)
    go true ih = subst (λ n. n ≤ one_more (is_value o.reply) (count has_value os)) (sym (values_inserted o (by_point os)))
        (both_more (is_value o.reply) (count has_value (by_point os)) (count has_value os) ih)
    go false ih = no_fewer (is_value o.reply) (count has_value (by_point os)) (count has_value os) ih

-- a queue has a node more than values
fewer_values : (w : World) (queue : List ℕ) (most : ℕ) → length queue ≤ most → 1 ≤ most → length (queue_values w.shared queue) + 1 ≤ most
fewer_values w [] most h some = some
fewer_values w (dummy ∷ ns) most h some = omega (arith, h, length-map ns (λ n. (node_at w.shared n).value))

-- the pushes and pops of a world are few
pub are_few : OfEachWorld AreFew
are_few w r = (pops_few, pushes_few)
  where
    range : WorldInRange w
    range = reached_in_range w r

    places : HasItsPlaces w
    places = have_their_places w r

    taken : count is_pop (entries w) ≤ w.shared.head.count
    taken =
        omega (arith, pops_are_values (by_point (completion w)), values_rising (completion w), count_is has_value (completion w), head_counts_values_taken w r)

    pops_few : count_by is_pop (entries w) ≤ w.setup.limit
    pops_few = let c : w.shared.head.count ≤ w.setup.limit = range.shared.head.count in omega (arith, taken, c, count_is is_pop (entries w))

    pushes_few : count_by is_push (entries w) < count_by is_pop (entries w) + w.setup.size
    pushes_few =
        let queue : List ℕ = places.0 in
        let counted : count is_push (entries w) + 0 ≡ count is_pop (entries w) + length (queue_values w.shared queue) =
        plays_count (entries w) false [] (queue_in w.setup.bits w.shared queue) (plays_to_the_values w r queue places.2.queue_chain) in
        let used : length queue ≤ w.shared.fresh = few w queue places.1 places.2 1 (omega arith) in
        let fresh : w.shared.fresh ≤ w.setup.size = range.shared.fresh in
        let some : 1 ≤ w.shared.fresh = range.shared.some_fresh in
        let values : length (queue_values w.shared queue) + 1 ≤ w.shared.fresh = fewer_values w queue w.shared.fresh used some in
        omega (arith, counted, fresh, values, count_is is_push (entries w), count_is is_pop (entries w))
