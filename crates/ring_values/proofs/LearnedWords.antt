-- What a call of a ring of words tells its seat of values: what it tells of any table.
use Rattle.std.proofs.Common.{◌≡◌, ℕ, suc, ◌+◌, ◌*◌, true, false, List, [], ◌∷◌, ◌++◌, map, length, take, drop, get_or, slice_get, Some, Result, Ok, Err, OnOk, IfErr, sym, refl, ap, subst, ◌∙◌, append_assoc, arith}
use Rattle.std.specs.List.{All}
use Rattle.std.proofs.lemmas.List.{length-map, length-append, drop-drop}
use Rattle.std.proofs.Math.Seq.{take-append_seam, drop-append_seam}
use Rattle.std.proofs.lemmas.Option.{slice_get_within, slice_get-get_or, same_Some}
use Rattle.std.proofs.Math.Nat.{suc-mul, zero-mul}
use Rattle.history.specs.declared.operations.Entry.TheVariants.{Push, Pop}
use Rattle.history.specs.declared.operations.Taken.{Taken}
use Rattle.history.specs.declared.refusals.Refusal.{Refusal}
use Rattle.history.specs.declared.refusals.Refusal.TheVariants.{Closed}
use Rattle.history.specs.declared.rests.Rest.{Rest}
use Rattle.history.specs.Answers as numbers
use Rattle.history.specs.Rests.{left_of, taken_of, whole_of, was_shut_of}
use Rattle.carriers.specs.declared.items.ItemOf.{ItemOf}
use Rattle.carriers.specs.Ends.{ClosesWith}
use Rattle.carriers.specs.Deeds.{own_deeds}
use Rattle.carriers.specs.Answers.{PushedOf, PoppedOf, PushRefusedOf, DidShutOf, MeetsOf}
use Rattle.node_arena.specs.Deeds.{Deed, Item, item, pushed, closed}
use Rattle.ring_queue.specs.declared.queue.RingQueue.{RingQueue}
use Rattle.ring_queue.specs.declared.roles.Role.{Role}
use Rattle.ring_queue.specs.declared.seats.Seat.{Seat}
use Rattle.ring_queue.specs.Plans.{permits_by}
use Rattle.ring_queue.specs.NewRings.{IsMadeOf}
use Rattle.ring_queue.specs.Queues.{permits_in}
use Rattle.ring_queue.specs.Causes.{ShutCaused}
use Rattle.ring_queue.specs.Ends.{ClosesWords}
use Rattle.ring_queue.specs.Placed.{number_of, parts_of}
use Rattle.ring_queue.specs.PlacedSeats.{IsWordSeat, AddsSaid, PopsSaid, MeetsSaid}
use Rattle.ring_queue.specs.Seats.{KeepsSlots, known_of, view}
use Rattle.value_queue.specs.Queues.{AreNewOf}
use Rattle.value_queue.specs.ValuesSeen.{told}
use Rattle.value_queue.specs.Runs.{as_item}
use Rattle.value_queue.specs.Sights.{GoesOn}
use Rattle.value_queue.proofs.Closings.{closes-values}
use Rattle.value_queue.proofs.Learned.{push-deed, pop-deed, shut-deed, shut-deeds, meets-deeds}
use Rattle.ring_values.specs.Words.{clear_words, word_sight, words_known}
use Rattle.ring_values.specs.WordQueues.{joined}
use Rattle.ring_values.proofs.Fronts.{stood_there}
use Rattle.ring_values.proofs.Opened.{all_new}

module _ {T : Type 0} where
  -- what a seat has seen goes on where it adds no deed
  pub on_words : (s t : Seat T) → KeepsSlots s t → GoesOn (word_sight s) (word_sight t)
  on_words s t k = record { between = k.said.0; deeds = k.said.1 }

  -- and where it adds one
  on_said : (s t : Seat T) (d : Deed (List ℕ)) → AddsSaid s t d → GoesOn (word_sight s) (word_sight t)
  on_said s t d adds = record { between = adds.between ++ d ∷ []; deeds = adds.deeds ∙ append_assoc (word_sight s).deeds adds.between (d ∷ []) }

module _ {T : Type 0} (r : RingQueue T) (s t : Seat T) (is : IsWordSeat r s) (it : IsWordSeat r t) where
  -- a push
  pub word_pushed : (value : List ℕ) → AddsSaid s t (pushed (view s).number value) → numbers.Pushed (known_of s) 0 (known_of t) → PushedOf (words_known s) value (words_known t)
  word_pushed value adds did = push-deed (word_sight s) (word_sight t) (clear_words r s is) (clear_words r t it) (Push (view s).number 0) value adds.between adds.deeds did

  -- a pop
  pub word_popped : (taken : Taken) (value : List ℕ) → PopsSaid s t (item taken.from value) → numbers.Popped (known_of s) taken (known_of t)
      → PoppedOf (words_known s) (record { from = taken.from; value = value }) (words_known t)
  word_popped taken value pops did =
      let stood = stood_there ((word_sight s).deeds ++ pops.adds.between) (item taken.from value) pops.stood in
      pop-deed (word_sight s) (word_sight t) (clear_words r s is) (clear_words r t it) (Pop (view s).number taken) (item taken.from value) pops.adds.between pops.adds.deeds stood.0 stood.1 stood.2 did

  -- a shut
  pub words_shut : (out : Result (Unit {0}) Refusal) → OnOk out (AddsSaid s t (closed (view s).number)) → OnOk out (numbers.DidShut (known_of s) (known_of t))
      → OnOk out (DidShutOf (words_known s) (words_known t))
  words_shut (Ok x) adds did = shut-deed (word_sight s) (word_sight t) (clear_words r s is) (clear_words r t it) (on_said s t (closed (view s).number) adds) did
  words_shut (Err refusal) adds did = tt

  pub words_shut_before : (out : Result (Unit {0}) Refusal) → IfErr out (λ refusal. KeepsSlots s t) → IfErr out (λ refusal. (refusal ≡ Closed) × numbers.FoundShut (known_of s) (known_of t))
      → IfErr out (λ refusal. PushRefusedOf (words_known s) refusal (words_known t))
  words_shut_before (Ok x) kept was = tt
  words_shut_before (Err refusal) kept was = subst (λ q. PushRefusedOf (words_known s) q (words_known t)) (sym was.0)
      (shut-deeds (word_sight s) (word_sight t) (clear_words r s is) (clear_words r t it) (on_words s t kept) was.1)

  pub words_shut_caused : (out : Result (Unit {0}) Refusal) → IfErr out (λ refusal. (refusal ≡ Closed) × numbers.FoundShut (known_of s) (known_of t)) → IfErr out (λ refusal. ShutCaused s t refusal)
  words_shut_caused (Ok x) was = tt
  words_shut_caused (Err refusal) was = subst (ShutCaused s t) (sym was.0) was.1.shut

-- two seats met
pub words_met : {T : Type 0} (r : RingQueue T) (s t s' t' : Seat T) → IsWordSeat r s → IsWordSeat r t → IsWordSeat r s' → IsWordSeat r t' → MeetsSaid s t s' t'
    → numbers.Meets (known_of s) (known_of t) (known_of s') (known_of t') → MeetsOf (words_known s) (words_known t) (words_known s') (words_known t')
words_met r s t s' t' is it is' it' said m =
    meets-deeds (word_sight s) (word_sight t) (word_sight s') (word_sight t') (clear_words r s is) (clear_words r t it) (clear_words r s' is') (clear_words r t' it') said.same
    (record { between = said.first.0; deeds = said.first.1 }) (record { between = said.second.0; deeds = said.second.1 }) m.first m.second

module _ {T : Type 0} (width most limit : ℕ) (roles : List Role) (r : RingQueue T) (seats : List (Seat T)) (m : IsMadeOf false true width most limit roles r seats) where
  -- a new ring of words permits what its roles do
  pub words_permits : permits_in r ≡ permits_by roles
  words_permits = ap permits_by m.deals

  -- and none of its seats has made a call
  pub words_new : AreNewOf (permits_in r) (map words_known seats)
  words_new = all_new words_known roles seats (λ k s e. let new = m.each k s e in
      (λ i. record { number = (new.view i).number; seen = told [] (new.none_said i); mine = own_deeds (new.view i).number (told [] (new.none_said i)); notes = (new.view i).notes }))
      (permits_in r) words_permits m.count

-- what is left after one more value is joined with its number
pub one_joined : (width : ℕ) (done all : List (ItemOf (List ℕ))) (ns ns' : List Taken) (words : List ℕ) (at : ℕ) (n : Taken) (value : List ℕ)
    → ns ≡ n ∷ ns' → value ≡ take width (drop at words) → done ++ joined width ns (drop at words) ≡ all
    → (done ++ record { from = n.from; value = value } ∷ []) ++ joined width ns' (drop (at + width) words) ≡ all
one_joined width done all ns ns' words at n value numbers is so_far =
    let rest : List (ItemOf (List ℕ)) = joined width ns' (drop (at + width) words) in
    append_assoc done (record { from = n.from; value = value } ∷ []) rest
    ∙ ((λ i. done ++ record { from = n.from; value = is i } ∷ joined width ns' (sym (drop-drop width at words) i))
    ∙ (sym (λ i. done ++ joined width (numbers i) (drop at words)) ∙ so_far))

-- the numbers and the words of values are these
joined_items : (width : ℕ) (items : List (Item (List ℕ))) → ((k : ℕ) (x : Item (List ℕ)) → slice_get items k ≡ Some x → length x.value ≡ width)
    → joined width (map number_of items) (parts_of items) ≡ map as_item items
joined_items width [] wide = refl
joined_items width (x ∷ xs) wide =
    let long : length x.value ≡ width = wide 0 x refl in
    let first : take width (x.value ++ parts_of xs) ≡ x.value = ap (λ (k : ℕ). take k (x.value ++ parts_of xs)) (sym long) ∙ take-append_seam x.value (parts_of xs) in
    let rest : drop width (x.value ++ parts_of xs) ≡ parts_of xs = ap (λ (k : ℕ). drop k (x.value ++ parts_of xs)) (sym long) ∙ drop-append_seam x.value (parts_of xs) in
    (λ i. record { from = x.from; value = first i } ∷ joined width (map number_of xs) (rest i)) ∙ ap (λ ys. as_item x ∷ ys) (joined_items width xs (λ k y got. wide (suc k) y got))

parts_long : (width : ℕ) (items : List (Item (List ℕ))) → ((k : ℕ) (x : Item (List ℕ)) → slice_get items k ≡ Some x → length x.value ≡ width) → length (parts_of items) ≡ length items * width
parts_long width [] wide = sym (zero-mul width)
parts_long width (x ∷ xs) wide =
    let one = length-append x.value (parts_of xs) in
    let long = wide 0 x refl in
    let rest = parts_long width xs (λ k y got. wide (suc k) y got) in
    let times = suc-mul (length xs) width in
    omega (arith, one, long, rest, times)

-- a ring of words was closed
module _ {T : Type 0} (r : RingQueue T) (seats : List (Seat T)) (rest : Rest) (words : List ℕ) (c : ClosesWords r seats rest words) where
  each_wide : (k : ℕ) (x : Item (List ℕ)) → slice_get c.items k ≡ Some x → length x.value ≡ r.plan.width
  each_wide k x got =
      let lt = slice_get_within c.items k x got in
      subst (λ (y : Item (List ℕ)). length y.value ≡ r.plan.width) (same_Some (get_or c.items k x) x (sym (slice_get-get_or c.items k x lt) ∙ got)) (c.widths k x lt)

  -- with the words of as many values as numbers
  pub words_same : length words ≡ length (left_of rest) * r.plan.width
  words_same =
      let told = ap length c.told in
      let long = parts_long r.plan.width c.items each_wide in
      let count : length (left_of rest) ≡ length c.items = ap length c.numbers ∙ length-map c.items number_of in
      told ∙ (long ∙ ap (λ (k : ℕ). k * r.plan.width) (sym count))

  -- of which that says what it says of any queue of values
  pub words_close : All (IsWordSeat r) seats
      → ClosesWith (permits_in r) (map words_known seats) (joined r.plan.width (left_of rest) words) (taken_of rest) (whole_of rest) (was_shut_of rest)
  words_close ready =
      let items : joined r.plan.width (left_of rest) words ≡ map as_item c.items = (λ i. joined r.plan.width (c.numbers i) (c.told i)) ∙ joined_items r.plan.width c.items each_wide in
      subst (λ (xs : List (ItemOf (List ℕ))). ClosesWith (permits_in r) (map words_known seats) xs (taken_of rest) (whole_of rest) (was_shut_of rest)) (sym items)
      (closes-values word_sight (IsWordSeat r) (clear_words r) (permits_in r) seats rest c.items ready c.closes c.deeds c.matches c.runs c.begins)
