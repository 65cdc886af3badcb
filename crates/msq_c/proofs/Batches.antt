-- What a seat made by calls of many values.
use Rattle.std.proofs.Common.{◌≡◌, ℕ, zero, suc, ◌+◌, ◌-◌, ◌<◌, ◌≤◌, Bool, if◌then◌else◌, min, List, [], ◌∷◌, ◌++◌, length, map, take, drop, set, get_or, Some}
use Rattle.std.proofs.Common.{None, Ok, Err, sym, refl, ap, ◌∙◌, subst, arith, append_assoc, take-add, take-take, take_at, drop_at, drop-drop, length-take}
use Rattle.std.proofs.Common.{length-take-le, length-append, get_or-drop}
use Rattle.std.proofs.lemmas.List.{take-append-drop, map-append, map_push, take_rest, take_more, take_more_set, drop_more, set_at, length-map, length_push}
use Rattle.history.specs.declared.operations.Entry.{Entry}
use Rattle.history.specs.declared.operations.Entry.TheVariants.{Push, Pop}
use Rattle.history.specs.declared.operations.Taken.{Taken}
use Rattle.history.specs.Seats.{Known}
use Rattle.history.specs.Answers.{Adds, Pushed, Popped}
use Rattle.ring_queue.specs.Steps.{AddsAll, PushedAll}
use Rattle.ring_queue.specs.Batches as ring
use Rattle.msq_c.specs.declared.seat_blocks.SeatBlock.{SeatBlock}
use Rattle.msq_c.specs.declared.values.MsqValue.{MsqValue}
use Rattle.msq_c.specs.declared.troubles.Trouble.{Trouble}
use Rattle.msq_c.specs.Blocks.{queue_in, known_in, RefusesPush, RefusesPop}
use Rattle.msq_c.specs.Values.{value_of}
use Rattle.msq_c.specs.Many.{Makes, pushes, pops, PushesFirst, laid, PushedSo, PushesAll, PoppedSo, PoppedFrom, PopsFrom, PopsUpTo}
use Rattle.msq_c.specs.Batches.{PopsSome}

-- what a seat makes by one call and then another
pub makes_then : (a b c : Known) (es fs gs : List Entry) → es ++ fs ≡ gs → Makes a es b → Makes b fs c → Makes a gs c
makes_then a b c es fs gs same f g = record {
  number = g.number ∙ f.number;
  between = f.between ++ g.between;
  seen = g.seen ∙ ap (λ xs. xs ++ g.between) f.seen ∙ append_assoc a.seen f.between g.between;
  mine = g.mine ∙ ap (λ xs. xs ++ fs) f.mine ∙ append_assoc a.mine es fs ∙ ap (λ xs. a.mine ++ xs) same;
  notes = g.notes ∙ f.notes;
}

-- a call that had its effect made its entry
pub makes_added : (a b : Known) (e : Entry) → Adds a e b → Makes a (e ∷ []) b
makes_added a b e f = record {
  number = f.number;
  between = f.between ++ e ∷ [];
  seen = f.seen ∙ append_assoc a.seen f.between (e ∷ []);
  mine = f.mine;
  notes = f.notes;
}

-- so did those that had theirs at one step
pub makes_all : (a b : Known) (es : List Entry) → AddsAll a es b → Makes a es b
makes_all a b es f = record {
  number = f.number;
  between = f.between ++ es;
  seen = f.seen ∙ append_assoc a.seen f.between es;
  mine = f.mine;
  notes = f.notes;
}

-- a push of one pushed the first one
pub first_pushed : (a b : Known) (bodies : List ℕ) → 1 ≤ length bodies → Pushed a (get_or bodies 0 0) b → PushesFirst a bodies b 1
first_pushed a b bodies some f = record {
  some = omega arith;
  few = some;
  makes = subst (λ (xs : List ℕ). Makes a (pushes a.number xs) b) (sym (take_more bodies 0 0 some)) (makes_added a b (Push a.number (get_or bodies 0 0)) f);
}

-- a ring takes as many as it has room for
pub some_pushed : (a b : Known) (count : ℕ) (bodies : List ℕ) → 1 ≤ count → count ≤ length bodies → PushedAll a (take count bodies) b → PushesFirst a bodies b count
some_pushed a b count bodies some few f = record { some = some; few = few; makes = makes_all a b (pushes a.number (take count bodies)) f }

-- the first number that is a body
pub first_one : (numbers : List ℕ) (first : ℕ) → 1 ≤ length numbers → first ≡ get_or numbers 0 0 → first ∷ [] ≡ take 1 numbers
first_one numbers first some e = ap (λ x. x ∷ []) e ∙ sym (take_more numbers 0 0 some)

-- one more
pub one_more : (bodies numbers : List ℕ) (i b : ℕ) → i < length bodies → i < length numbers → b ≡ get_or numbers i 0 → take i bodies ≡ take i numbers
    → take (i + 1) (set bodies i b) ≡ take (i + 1) numbers
one_more bodies numbers i b l m e same = take_more_set bodies i b l ∙ (λ j. same j ++ e j ∷ []) ∙ sym (take_more numbers i 0 m)

-- the first of some bodies are those of all
pub firsts : (a b : Known) (bodies numbers : List ℕ) (n count : ℕ) → n ≤ length numbers → take n bodies ≡ take n numbers → PushesFirst a (take n bodies) b count → PushesFirst a numbers b count
firsts a b bodies numbers n count few same f = let few' = f.few in record {
  some = f.some;
  few = omega (arith, few', few, ap length same, length-take n numbers);
  makes = subst (λ (xs : List ℕ). Makes a (pushes a.number xs) b) (ap (take count) same ∙ take-take count n numbers (omega (arith, few', ap length same, length-take n numbers))) f.makes;
}

-- the first of those that were left were pushed too
pub pushed_more : (s t u : SeatBlock) (bodies : List ℕ) (i n : ℕ) → queue_in u ≡ queue_in t → i < length bodies
    → PushedSo s bodies i t → PushesFirst (known_in t) (take (length bodies - i) (drop i bodies)) (known_in u) n → PushedSo s bodies (i + n) u
pushed_more s t u bodies i n kept l f g = let few = g.few in record {
  queue = kept ∙ f.queue;
  few = omega (arith, few, l, length-take (length bodies - i) (drop i bodies));
  makes = makes_then (known_in s) (known_in t) (known_in u) (pushes (known_in s).number (take i bodies)) (pushes (known_in t).number (take n (take (length bodies - i) (drop i bodies)))) _
      ((λ j. pushes (known_in s).number (take i bodies) ++ pushes (f.makes.number j) (take n (take_rest bodies i j)))
      ∙ sym (map-append (λ x. Push (known_in s).number x) (take i bodies) (take n (drop i bodies)))
      ∙ ap (pushes (known_in s).number) (sym (take-add i n bodies)))
      f.makes g.makes;
}

-- the next one that was left
pub next_left : (bodies : List ℕ) (i : ℕ) → get_or (take (length bodies - i) (drop i bodies)) 0 0 ≡ get_or bodies i 0
next_left bodies i = ap (λ xs. get_or xs 0 0) (take_rest bodies i) ∙ get_or-drop i bodies 0 0 ∙ ap (λ k. get_or bodies k 0) (let e : i + 0 ≡ i = omega arith in e)

-- all were pushed
pub pushed_all : (s t : SeatBlock) (bodies : List ℕ) (turns i : ℕ) → length bodies ≤ i → PushedSo s bodies i t → PushesAll s t bodies turns i (Ok tt)
pushed_all s t bodies turns i l f = let few = f.few in record { last = t; pushed = f; ends = (omega (arith, l, few), refl) }

-- the next one is refused
pub pushed_until : (s t u : SeatBlock) (bodies : List ℕ) (turns i : ℕ) (refusal : Trouble) → i < length bodies → PushedSo s bodies i t
    → RefusesPush t u (get_or (take (length bodies - i) (drop i bodies)) 0 0) turns refusal → PushesAll s u bodies turns i (Err refusal)
pushed_until s t u bodies turns i refusal l f g = record { last = t; pushed = f; ends = (l, subst (λ (b : ℕ). RefusesPush t u b turns refusal) (next_left bodies i) g) }

-- a ring gives as many as it counts
pub some_popped : (a b : Known) (most count : ℕ) (before after : List Taken) → before ≡ [] → ring.PopsSome a most before after b count → PopsSome a most after b count
some_popped a b most zero before after none f = (f.0 ∙ none, f.1)
some_popped a b most (suc n) before after none f = let those : after ≡ f.values = f.into ∙ ap (λ xs. xs ++ f.values) none in record {
  long = ap length those ∙ f.long;
  few = f.few;
  makes = subst (λ (xs : List Taken). Makes a (pops a.number xs) b) (sym those) (makes_all a b (pops a.number f.values) f.adds);
}

-- one value more was written behind those from a place on
pub laid_more : {A : Type 0} (from i : ℕ) (xs vs now : List A) (y : A) → length xs ≡ i → from + i < length vs → now ≡ laid from xs vs → set now (from + i) y ≡ laid from (xs ++ y ∷ []) vs
laid_more from i xs vs now y len l same =
    ap (λ zs. set zs (from + i) y) (same ∙ sym (append_assoc (take from vs) xs (drop (from + length xs) vs)) ∙ ap (λ k. (take from vs ++ xs) ++ drop (from + k) vs) len)
    ∙ ap (λ zs. set ((take from vs ++ xs) ++ zs) (from + i) y) (drop_more vs (from + i) y l)
    ∙ set_at (take from vs ++ xs) (get_or vs (from + i) y) (drop (from + i + 1) vs) y (from + i) (omega (arith, length-append (take from vs) xs, length-take-le from vs (omega (arith, l)), len))
    ∙ append_assoc (take from vs) xs (y ∷ drop (from + i + 1) vs)
    ∙ ap (λ zs. take from vs ++ zs) (sym (append_assoc xs (y ∷ []) (drop (from + i + 1) vs)))
    ∙ ap (λ k. take from vs ++ ((xs ++ y ∷ []) ++ drop k vs)) (let e : from + i + 1 ≡ from + length (xs ++ y ∷ []) = omega (arith, length_push xs y, len) in e)

-- so was what C gets of one more
pub laid_one : (from i : ℕ) (taken : List Taken) (t : Taken) (y : MsqValue) (vs now : List MsqValue) → i < length taken → from + length taken ≤ length vs → t ≡ get_or taken i t → y ≡ value_of t
    → now ≡ laid from (map value_of (take i taken)) vs → set now (from + i) y ≡ laid from (map value_of (take (i + 1) taken)) vs
laid_one from i taken t y vs now l room is told same =
    laid_more from i (map value_of (take i taken)) vs now y (length-map (take i taken) value_of ∙ length-take-le i taken (omega (arith, l))) (omega (arith, l, room)) same
    ∙ ap (λ xs. laid from xs vs) (ap (λ v. map value_of (take i taken) ++ v ∷ []) (told ∙ ap value_of is)
    ∙ sym (ap (map value_of) (take_more taken i t l) ∙ map_push value_of (take i taken) (get_or taken i t)))

-- nothing written
laid_none : (from : ℕ) (vs : List MsqValue) → laid from [] vs ≡ vs
laid_none from vs = ap (λ n. take from vs ++ drop n vs) (let e : from + 0 ≡ from = omega arith in e) ∙ take-append-drop from vs

-- a pop of one popped the first one, and it was written
pub one_from : (k k' : Known) (from : ℕ) (vs : List MsqValue) (v : Taken) (y : MsqValue) → from < length vs → y ≡ value_of v → Popped k v k' → PoppedFrom k from vs (set vs from y) k' 1
one_from k k' from vs v y l told f = record {
  values = v ∷ [];
  long = refl;
  few = omega (arith, l);
  makes = makes_added k k' (Pop k.number v) f;
  written = ap (λ i. set vs i y) (let e : from ≡ from + 0 = omega arith in e)
      ∙ laid_more from 0 [] vs vs y refl (omega (arith, l)) (sym (laid_none from vs)) ∙ ap (λ w. laid from (w ∷ []) vs) told;
}

-- those that were popped at one step fit where there is room
pub fits : (k k' : Known) (most count : ℕ) (values : List Taken) → PopsSome k most values k' count → length values ≤ most
fits k k' most zero values f = omega (arith, ap length f.0)
fits k k' most (suc n) values f = let few = f.few in omega (arith, few, f.long)

-- and were written there
pub batch_from : (k k' : Known) (most count from : ℕ) (vs vs' : List MsqValue) (values : List Taken) → from + length values ≤ length vs → vs' ≡ laid from (map value_of values) vs
    → PopsSome k most values k' count → PopsFrom k from vs vs' k' count
batch_from k k' most zero from vs vs' values room same f = (same ∙ ap (λ xs. laid from (map value_of xs) vs) f.0 ∙ laid_none from vs, f.1)
batch_from k k' most (suc n) from vs vs' values room same f = record { values = values; long = f.long; few = omega (arith, room, f.long); makes = f.makes; written = same }

-- a pop of some values that counts one at least popped them
pub popped_some : (k : Known) (from : ℕ) (vs vs' : List MsqValue) (k' : Known) (count : ℕ) → 1 ≤ count → PopsFrom k from vs vs' k' count → PoppedFrom k from vs vs' k' count
popped_some k from vs vs' k' zero some f = absurd (omega (arith, some))
popped_some k from vs vs' k' (suc n) some f = f

-- so many values were popped, and written behind those that were
pub popped_more : (s t u : SeatBlock) (vs now now' : List MsqValue) (i n : ℕ) → queue_in u ≡ queue_in t → length now ≡ length vs
    → PoppedSo s vs now i t → PoppedFrom (known_in t) i now now' (known_in u) n → PoppedSo s vs now' (i + n) u
popped_more s t u vs now now' i n kept same f g =
    let long : length (map value_of f.values) ≡ i = length-map f.values value_of ∙ f.long in
    let longer : length (map value_of g.values) ≡ n = length-map g.values value_of ∙ g.long in
    let few = g.few in
    record {
      queue = kept ∙ f.queue;
      values = f.values ++ g.values;
      long = omega (arith, length-append f.values g.values, f.long, g.long);
      few = omega (arith, few, same);
      makes = makes_then (known_in s) (known_in t) (known_in u) (pops (known_in s).number f.values) (pops (known_in t).number g.values) _
          ((λ j. pops (known_in s).number f.values ++ pops (f.makes.number j) g.values) ∙ sym (map-append (λ x. Pop (known_in s).number x) f.values g.values))
          f.makes g.makes;
      written = g.written
          ∙ ap (λ k. take i now ++ (map value_of g.values ++ drop (i + k) now)) longer
          ∙ ap (λ zs. take i zs ++ (map value_of g.values ++ drop (i + n) zs)) f.written
          ∙ ap (λ zs. zs ++ (map value_of g.values ++ drop (i + n) (map value_of f.values ++ drop i vs))) (take_at (map value_of f.values) (drop i vs) i long)
          ∙ ap (λ zs. map value_of f.values ++ (map value_of g.values ++ zs))
          (sym (drop-drop n i (map value_of f.values ++ drop i vs)) ∙ ap (drop n) (drop_at (map value_of f.values) (drop i vs) i long) ∙ drop-drop n i vs)
          ∙ sym (append_assoc (map value_of f.values) (map value_of g.values) (drop (i + n) vs))
          ∙ ap (λ zs. zs ++ drop (i + n) vs) (sym (map-append value_of f.values g.values));
    }

-- there is no more room
pub popped_all : (s t : SeatBlock) (vs now : List MsqValue) (turns i : ℕ) → length now ≤ i → length now ≡ length vs → PoppedSo s vs now i t → PopsUpTo s t vs now turns i (Ok (Some tt))
popped_all s t vs now turns i l same f = let few = f.few in record { last = t; popped = f; ends = (omega (arith, l, few, same), refl) }

-- the queue was found empty
pub popped_to_empty : (s t u : SeatBlock) (vs now now' : List MsqValue) (turns i count : ℕ) → i < length now → length now ≡ length vs → count ≡ 0 → PoppedSo s vs now i t
    → PopsFrom (known_in t) i now now' (known_in u) count → PopsUpTo s u vs now' turns i (Ok None)
popped_to_empty s t u vs now now' turns i zero l same none f g =
    record { last = t; popped = subst (λ (xs : List MsqValue). PoppedSo s vs xs i t) (sym g.0) f; ends = (omega (arith, l, same), g.1) }
popped_to_empty s t u vs now now' turns i (suc n) l same none f g = absurd (omega (arith, none))

-- the next pop is refused
pub popped_until : (s t u : SeatBlock) (vs now now' : List MsqValue) (turns i : ℕ) (refusal : Trouble) → i < length now → length now ≡ length vs → PoppedSo s vs now i t
    → RefusesPop t u turns refusal × (now' ≡ now) → PopsUpTo s u vs now' turns i (Err refusal)
popped_until s t u vs now now' turns i refusal l same f g =
    record { last = t; popped = subst (λ (xs : List MsqValue). PoppedSo s vs xs i t) (sym g.1) f; ends = (omega (arith, l, same), g.0) }
