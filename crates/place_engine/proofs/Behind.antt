-- The given operations of a longer history with points are those of the recording, with points within them.
use Rattle.std.proofs.Common.{◌≡◌, inl, inr, ℕ, zero, suc, ◌+◌, ◌-◌, ◌*◌, ◌<◌, ◌≤◌, Bool, true, false, nat_le, if◌then◌else◌, List, [], ◌∷◌, ◌++◌}
use Rattle.std.proofs.Common.{map, length, take, drop, get_or, Option, None, Some, option_map, IfSome, IsSome, slice_get, slice_index, unwrap_or}
use Rattle.std.proofs.Common.{refl, sym, ap, ◌∙◌, subst, arith, append_assoc, append-nil}
use Rattle.std.specs.List.{AllByRecursion, AllZip}
use Rattle.std.specs.List.Sorted.{IsStrictlyIncreasing}
use Rattle.std.specs.Option.{option_map_or}
use Rattle.std.proofs.Math.Nat.{add-mul, one-mul}
use Rattle.std.proofs.lemmas.Bool.{ne_eqb, leb-true, leb-false}
use Rattle.std.proofs.lemmas.Nat.{mul-le}
use Rattle.std.proofs.lemmas.List.{map-append, length-map, length-drop, get_or-map, get_or-drop, take_all, drop_all, take-append-le, drop-append-le}
use Rattle.std.proofs.lemmas.List.Kept.{AllPairs-from_increasing}
use Rattle.std.proofs.lemmas.List.Elements.{length_all_zip}
use Rattle.std.proofs.lemmas.Option.{slice_get-map, get_or_from_slice_get}
use Rattle.history.specs.declared.operations.Taken.{Taken}
use Rattle.history.specs.declared.operations.Reply.{Reply}
use Rattle.history.specs.declared.operations.Stamped.{Stamped}
use Rattle.history.specs.declared.operations.Verdict.TheVariants.{Yes}
use Rattle.history.specs.Queue.{Queue, empty, response}
use Rattle.history.specs.History.{LiesIn, IsPlaced, AreApart, Placement, by_point, answer, IsSequentialRun, verdict}
use Rattle.history.proofs.Judging.{yes_is_right}
use Rattle.placing.specs.SpreadStamps.{EndsSo, IsStampedSo, IsKept, IsPointed, IsFirstOf, IsLastOf, IsSpreadFrom, IsSpreadOut, IsSpread}
use Rattle.placing.proofs.InOrder.{Orders, kept_orders, spread_orders}
use Rattle.recording_text.specs.Recordings.{Recorded}
use Rattle.recording_text.specs.RecordingLines.{IsReadable, IsRecordingInRange}
use Rattle.recording_text.specs.Numbers.{known_in, value_by, stamped_by, history_of}
use Rattle.recording_text.specs.HeldTexts.{push_at, pushes_from, later_by, longer}
use Rattle.recording_text.proofs.EachOf.{both, parts, together, weaker}
use Rattle.recording_text.proofs.Known.{by_recursion}
use Rattle.place_engine.specs.GivenParts.{last_end, earlier_by, behind, given_part}
use Rattle.place_engine.specs.HeldTexts.{numbered, held_queue, HasPointsFrom}
use Rattle.place_engine.proofs.PointOrders.{IsAtLeast, by_point-first, later-point, placed-earlier, apart-earlier, by_point-earlier, run-earlier}

-- ---- two lists in a row, item by item

zip-parts : {X Y : Type 0} (R : X → Y → Type 0) (xs ys : List X) (zs : List Y) → AllZip R (xs ++ ys) zs → (us : List Y) × (vs : List Y) × (zs ≡ us ++ vs) × AllZip R xs us × AllZip R ys vs
zip-parts R [] ys zs all = ([], zs, refl, tt, all)
zip-parts R (x ∷ xs) ys [] all = absurd all
zip-parts R (x ∷ xs) ys (z ∷ zs) all =
    let more = zip-parts R xs ys zs all.1 in
    (z ∷ more.0, more.1, ap (λ l. z ∷ l) more.2, (all.0, more.3), more.4)

-- ---- the pushes of what is held

-- what stays apart behind others
apart-behind : (xs ys : List Stamped) → AreApart (xs ++ ys) → AreApart ys
apart-behind [] ys apart = apart
apart-behind (x ∷ xs) ys apart = apart-behind xs ys apart.1

length-pushes : (number : ℕ) (held : List (List ℕ)) → length (pushes_from number held) ≡ length held
length-pushes number [] = refl
length-pushes number (text ∷ held) = ap suc (length-pushes (number + 1) held)

module _ (First Last : ℕ → ℕ → Type 0) (orders : Orders First Last) (known : List (List ℕ)) where
  abbrev So : Stamped → Stamped → Type 0
  So = IsStampedSo First Last

  abbrev pushes : ℕ → List (List ℕ) → List Stamped
  pushes number held = map (stamped_by known) (pushes_from number held)

  abbrev operations : ℕ → List Recorded → List Stamped
  operations count rs = map (stamped_by known) (map (later_by count) rs)

  -- an operation's first number was one or later
  record Came (number : ℕ) (q : Stamped) : Type 0 where
    was : ℕ
    late : number ≤ was
    first : First was q.first

  came-later : (number more : ℕ) (q : Stamped) → number ≤ more → Came more q → Came number q
  came-later number more q le came = let late : more ≤ came.was = came.late in record { was = came.was; late = omega (arith, le, late); first = came.first }

  came-pushes : (number : ℕ) (held : List (List ℕ)) (ps : List Stamped) → AllZip So (pushes number held) ps → AllByRecursion (Came number) ps
  came-pushes number [] [] all = tt
  came-pushes number [] (p ∷ ps) all = absurd all
  came-pushes number (text ∷ held) [] all = absurd all
  came-pushes number (text ∷ held) (p ∷ ps) all = (
    record { was = number; late = omega arith; first = all.0.first },
    weaker (Came (number + 1)) (Came number) (λ q came. came-later number (number + 1) q (omega arith) came) ps (came-pushes (number + 1) held ps all.1),
  )

  came-operations : (count : ℕ) (rs : List Recorded) (ps : List Stamped) → AllByRecursion IsReadable rs → AllZip So (operations count rs) ps → AllByRecursion (Came (1 + count)) ps
  came-operations count [] [] each all = tt
  came-operations count [] (p ∷ ps) each all = absurd all
  came-operations count (r ∷ rs) [] each all = absurd all
  came-operations count (r ∷ rs) (p ∷ ps) each all =
      let one : 1 ≤ r.first = each.0.1.first.0 in
      (record { was = r.first + count; late = omega (arith, one); first = all.0.first }, came-operations count rs ps each.1 all.1)

  -- the end of a push that has its point
  record EndsAt (number : ℕ) (p : Stamped) : Type 0 where
    end : ℕ
    at : ℕ
    ends : Last number end
    point : p.at ≡ Some at
    within : at ≤ end

  push-ends : (number : ℕ) (text : List ℕ) (p : Stamped) → So (stamped_by known (push_at number text)) p → IsPlaced p → EndsAt number p
  push-ends number text p so placed = by p.last p.at refl so.last refl placed
    where
      told : IsSome p.reply
      told = subst IsSome (sym so.reply) refl

      by : (last at : Option ℕ) → p.last ≡ last → EndsSo Last (Some number) last → p.at ≡ at → LiesIn p.first last at p.reply → EndsAt number p
      by None at l ends e lies = absurd ends
      by (Some end) None l ends e lies = absurd (let no : false ≡ true = lies.placed told in cc)
      by (Some end) (Some at) l ends e lies = record { end = end; at = at; ends = ends; point = e; within = lies.not_after }

  -- by rising points they come first
  by_point-pushes : (number : ℕ) (held : List (List ℕ)) (ps rest : List Stamped) → AllZip So (pushes number held) ps → AllByRecursion IsPlaced (ps ++ rest)
      → AllByRecursion (Came (number + length held)) rest → by_point (ps ++ rest) ≡ ps ++ by_point rest
  by_point-pushes number [] [] rest all placed came = refl
  by_point-pushes number [] (p ∷ ps) rest all placed came = absurd all
  by_point-pushes number (text ∷ held) [] rest all placed came = absurd all
  by_point-pushes number (text ∷ held) (p ∷ ps) rest all placed came =
      let ends = push-ends number text p all.0 placed.0 in
      let sooner : AllByRecursion (Came (number + 1)) (ps ++ rest) =
      together (Came (number + 1)) ps rest (came-pushes (number + 1) held ps all.1)
      (weaker (Came (number + length (text ∷ held))) (Came (number + 1)) (λ q c. came-later (number + 1) (number + length (text ∷ held)) q (omega arith) c) rest came) in
      let after : (q : Stamped) → IsPlaced q → Came (number + 1) q → IsAtLeast ends.at q =
      λ q is c.
      let late : number + 1 ≤ c.was = c.late in
      let less : ends.end < q.first = (orders.before number c.was ends.end q.first ends.ends c.first).0 (omega (arith, late)) in
      let within : ends.at ≤ ends.end = ends.within in
      later-point ends.at q.first q.last q.at q.reply is (omega (arith, less, within)) in
      by_point-first p ends.at (ps ++ rest) ends.point (both IsPlaced (Came (number + 1)) (IsAtLeast ends.at) after (ps ++ rest) placed.1 sooner)
      ∙ ap (λ (l : List Stamped). p ∷ l)
      (by_point-pushes (number + 1) held ps rest all.1 placed.1
      (weaker (Came (number + length (text ∷ held))) (Came (number + 1 + length held)) (λ q c. came-later (number + 1 + length held) (number + length (text ∷ held)) q (omega arith) c) rest came))

  -- a queue of these values
  abbrev queue_with : List Taken → Queue
  queue_with values = record { values = values; shut = false }

  -- a run goes on from the queue that they fill
  run-pushes : (number : ℕ) (held : List (List ℕ)) (values : List Taken) (ps xs : List Stamped) → AllZip So (pushes number held) ps → IsSequentialRun (queue_with values) (ps ++ xs)
      → IsSequentialRun (queue_with (values ++ map (value_by known) held)) xs
  run-pushes number [] values [] xs all runs = subst (λ (l : List Taken). IsSequentialRun (queue_with l) xs) (sym (append-nil values)) runs
  run-pushes number [] values (p ∷ ps) xs all runs = absurd all
  run-pushes number (text ∷ held) values [] xs all runs = absurd all
  run-pushes number (text ∷ held) values (p ∷ ps) xs all runs =
      let value = value_by known text in
      let so = all.0 in
      let next : (answer (queue_with values) p p.reply).after ≡ queue_with (values ++ value ∷ []) =
      ap (λ (reply : Option Reply). (answer (queue_with values) p reply).after) so.reply
      ∙ (λ i. (response (so.actor i) (so.op i) (queue_with values)).after) in
      subst (λ (l : List Taken). IsSequentialRun (queue_with l) xs) (append_assoc values (value ∷ []) (map (value_by known) held))
      (run-pushes (number + 1) held (values ++ value ∷ []) ps xs all.1 (subst (λ (q : Queue). IsSequentialRun q (ps ++ xs)) next runs.1))

  -- the last of them ends where its number ends
  last-pushes : (number : ℕ) (text : List ℕ) (held : List (List ℕ)) (ps : List Stamped) → AllZip So (pushes number (text ∷ held)) ps → Last (number + length held) (last_end ps)
  last-pushes number text held [] all = absurd all
  last-pushes number text [] (p ∷ []) all = subst (λ (n : ℕ). Last n (last_end (p ∷ []))) {x = number} {y = number + 0} (omega arith) (by p.last all.0.last)
    where
      by : (last : Option ℕ) → EndsSo Last (Some number) last → Last number (unwrap_or last 0)
      by None ends = absurd ends
      by (Some end) ends = ends
  last-pushes number text [] (p ∷ q ∷ ps) all = absurd all.1
  last-pushes number text (next ∷ held) (p ∷ []) all = absurd all.1
  last-pushes number text (next ∷ held) (p ∷ q ∷ ps) all =
      let front : length (p ∷ q ∷ ps) - 1 ≡ suc (length ps) = omega arith in
      let back : length (q ∷ ps) - 1 ≡ length ps = omega arith in
      let one : slice_get (p ∷ q ∷ ps) (length (p ∷ q ∷ ps) - 1) ≡ slice_get (q ∷ ps) (length (q ∷ ps) - 1) =
      ap (slice_get (p ∷ q ∷ ps)) front ∙ ap (slice_get (q ∷ ps)) (sym back) in
      let same : last_end (p ∷ q ∷ ps) ≡ last_end (q ∷ ps) = ap (λ (o : Option Stamped). option_map_or (λ o. unwrap_or o.last 0) o 0) one in
      subst (λ (n : ℕ). Last n (last_end (p ∷ q ∷ ps))) {x = number + 1 + length held} {y = number + suc (length held)} (omega arith)
      (subst (Last (number + 1 + length held)) (sym same) (last-pushes (number + 1) next held (q ∷ ps) all.1))

  -- operations begin behind that
  begins-behind : (count end : ℕ) (q : Stamped) → Last count end → Came (1 + count) q → end < q.first
  begins-behind count end q ends came = let late : 1 + count ≤ came.was = came.late in (orders.before count came.was end q.first ends came.first).0 (omega (arith, late))

-- ---- the given stamps, kept or spread

-- what is made of numbers so many greater is, where it is so much less, made of the numbers themselves
record Lowers (count end : ℕ) (Made Given : ℕ → ℕ → Type 0) : Type 0 where
  lowers : (number stamp : ℕ) → 1 ≤ number → Made (number + count) stamp → Given number (stamp - end)

lowers-ends : (count end : ℕ) (Made Given : ℕ → ℕ → Type 0) → Lowers count end Made Given → (last stamp : Option ℕ) → IfSome last (λ last. 1 ≤ last)
    → EndsSo Made (option_map (λ last. last + count) last) stamp → EndsSo Given last (option_map (λ n. n - end) stamp)
lowers-ends count end Made Given low None None from ends = tt
lowers-ends count end Made Given low None (Some stamp) from ends = absurd ends
lowers-ends count end Made Given low (Some last) None from ends = absurd ends
lowers-ends count end Made Given low (Some last) (Some stamp) from ends = low.lowers last stamp from ends

last-from_one : (first : ℕ) (last : Option ℕ) → 1 ≤ first → IfSome last (λ last. first ≤ last) → IfSome last (λ last. 1 ≤ last)
last-from_one first None one h = tt
last-from_one first (Some last) one h = omega (arith, one, h)

module _ (count end : ℕ) (First Last Given_first Given_last : ℕ → ℕ → Type 0) (firsts : Lowers count end First Given_first) (lasts : Lowers count end Last Given_last)
    (known : List (List ℕ)) where
  stamped-lowered : (rs : List Recorded) (ps : List Stamped) → AllByRecursion IsReadable rs → AllZip (IsStampedSo First Last) (map (stamped_by known) (map (later_by count) rs)) ps
      → AllZip (IsStampedSo Given_first Given_last) (map (stamped_by known) rs) (map (earlier_by end) ps)
  stamped-lowered [] [] each all = tt
  stamped-lowered [] (p ∷ ps) each all = absurd all
  stamped-lowered (r ∷ rs) [] each all = absurd all
  stamped-lowered (r ∷ rs) (p ∷ ps) each all =
      let one : 1 ≤ r.first = each.0.1.first.0 in (
        record {
          actor = all.0.actor;
          op = all.0.op;
          reply = all.0.reply;
          first = firsts.lowers r.first p.first one all.0.first;
          last = lowers-ends count end Last Given_last lasts r.last p.last (last-from_one r.first r.last one each.0.1.in_time) all.0.last;
        },
        stamped-lowered rs ps each.1 all.1,
      )

lowers-kept : (count end : ℕ) → end ≡ count → Lowers count end IsKept IsKept
lowers-kept count end e = record { lowers = λ number stamp one made. omega (arith, e, made) }

-- ---- ranks

slice_get-drop : {X : Type 0} (n : ℕ) (xs : List X) (i : ℕ) → slice_get (drop n xs) i ≡ slice_get xs (n + i)
slice_get-drop zero xs i = ap (slice_get xs) {x = i} {y = 0 + i} (omega arith)
slice_get-drop (suc n) [] i = refl
slice_get-drop (suc n) (x ∷ xs) i = slice_get-drop n xs i ∙ ap (slice_get (x ∷ xs)) {x = suc (n + i)} {y = suc n + i} (omega arith)

module _ (count : ℕ) (numbers : List ℕ) (width : ℕ) (rises : IsStrictlyIncreasing numbers) (wide : 1 ≤ width) (rank : ℕ) (there : slice_get numbers rank ≡ Some count) where
  -- the numbers behind that of the last push, as much less
  abbrev given_numbers : List ℕ
  given_numbers = map (λ n. n - count) (drop (rank + 1) numbers)

  abbrev push_end : ℕ
  push_end = rank * width + width

  -- a rank behind it
  record IsBehind (number at : ℕ) : Type 0 where
    more : ℕ
    is : at ≡ rank + 1 + more
    given : slice_get given_numbers more ≡ Some number
    product : at * width ≡ push_end + more * width

  rank-more : (number at : ℕ) → slice_get numbers at ≡ Some (number + count) → rank < at → IsBehind number at
  rank-more number at stands less =
      let more : ℕ = at - (rank + 1) in
      let is : at ≡ rank + 1 + more = omega (arith, less) in
      let found : slice_get given_numbers more ≡ Some number =
      slice_get-map (λ n. n - count) (drop (rank + 1) numbers) more
      ∙ ap (option_map (λ n. n - count)) (slice_get-drop (rank + 1) numbers more ∙ ap (slice_get numbers) (sym is) ∙ stands)
      ∙ ap (λ (n : ℕ). Some n) {x = number + count - count} {y = number} (omega arith) in
      let product : at * width ≡ push_end + more * width =
      ap (λ (n : ℕ). n * width) is ∙ add-mul (rank + 1) more width
      ∙ ap (λ (n : ℕ). n + more * width) {x = (rank + 1) * width} {y = push_end} (add-mul rank 1 width ∙ ap (λ (n : ℕ). rank * width + n) (one-mul width)) in
      record { more = more; is = is; given = found; product = product }

  -- what is greater has a rank behind it
  rank-behind : (at stamp : ℕ) → push_end < stamp → stamp ≤ at * width + width → rank < at
  rank-behind at stamp less up = by (nat_le at rank) refl
    where
      by : (t : Bool) → nat_le at rank ≡ t → rank < at
      by true e =
          let le : at * width ≤ rank * width = mul-le at width rank width (leb-true at rank e) (omega arith) in
          absurd (omega (arith, le, less, up))
      by false e = leb-false at rank e

  lowers-firsts : Lowers count push_end (IsFirstOf numbers width) (IsFirstOf given_numbers width)
  lowers-firsts = record { lowers = by }
    where
      by : (number stamp : ℕ) → 1 ≤ number → IsFirstOf numbers width (number + count) stamp → IsFirstOf given_numbers width number (stamp - push_end)
      by number stamp one made =
          let ended : IsLastOf numbers width count push_end = record { rank = rank; there = there; is = refl } in
          let less : push_end < stamp = ((spread_orders numbers width rises wide).before count (number + count) push_end stamp ended made).0 (omega (arith, one)) in
          let at = rank-more number made.rank made.there (rank-behind made.rank stamp less (omega (arith, made.is, wide))) in
          record { rank = at.more; there = at.given; is = omega (arith, made.is, at.product) }

  lowers-lasts : Lowers count push_end (IsLastOf numbers width) (IsLastOf given_numbers width)
  lowers-lasts = record { lowers = by }
    where
      by : (number stamp : ℕ) → 1 ≤ number → IsLastOf numbers width (number + count) stamp → IsLastOf given_numbers width number (stamp - push_end)
      by number stamp one made =
          let ended : IsLastOf numbers width count push_end = record { rank = rank; there = there; is = refl } in
          let less : push_end < stamp = ((spread_orders numbers width rises wide).lasts count (number + count) push_end stamp ended made).0.0 (omega (arith, one)) in
          let at = rank-more number made.rank made.there (rank-behind made.rank stamp less (omega (arith, made.is))) in
          record { rank = at.more; there = at.given; is = omega (arith, made.is, at.product) }

  -- these numbers rise
  given-rise : IsStrictlyIncreasing given_numbers
  given-rise k less =
      let behind : List ℕ = drop (rank + 1) numbers in
      let long : length given_numbers ≡ length behind = length-map behind (λ n. n - count) in
      let all : length behind ≡ length numbers - (rank + 1) = length-drop (rank + 1) numbers in
      let low : slice_index given_numbers k ≡ get_or numbers (rank + 1 + k) 0 - count =
      get_or-map (λ n. n - count) behind k 0 0 (omega (arith, less, long)) ∙ ap (λ n. n - count) (get_or-drop (rank + 1) numbers k 0) in
      let high : slice_index given_numbers (k + 1) ≡ get_or numbers (rank + 1 + (k + 1)) 0 - count =
      get_or-map (λ n. n - count) behind (k + 1) 0 0 (omega (arith, less, long)) ∙ ap (λ n. n - count) (get_or-drop (rank + 1) numbers (k + 1) 0) in
      let pairs = AllPairs-from_increasing numbers rises in
      let is : get_or numbers rank 0 ≡ count = get_or_from_slice_get numbers rank count 0 there in
      let one : get_or numbers rank 0 < get_or numbers (rank + 1 + k) 0 = pairs rank (rank + 1 + k) 0 (omega arith) (omega (arith, less, long, all)) in
      let two : get_or numbers (rank + 1 + k) 0 < get_or numbers (rank + 1 + (k + 1)) 0 = pairs (rank + 1 + k) (rank + 1 + (k + 1)) 0 (omega arith) (omega (arith, less, long, all)) in
      omega (arith, low, high, is, one, two)

-- ---- all of it

module _ (text : List ℕ) (held : List (List ℕ)) (rs : List Recorded) (range : IsRecordingInRange rs) (new : List Stamped) (judged : verdict new ≡ Yes) where
  abbrev all_held : List (List ℕ)
  all_held = text ∷ held

  abbrev count : ℕ
  count = length all_held

  abbrev known : List (List ℕ)
  known = known_in (longer all_held rs)

  readable : AllByRecursion IsReadable rs
  readable = by_recursion IsReadable rs range.each

  -- by one way in which stamps were made
  points-made : (First Last : ℕ → ℕ → Type 0) → Orders First Last
      → ((end : ℕ) → Last count end → (ps : List Stamped) → AllZip (IsStampedSo First Last) (map (stamped_by known) (map (later_by count) rs)) ps
      → IsSpread (numbered all_held rs) (map (earlier_by end) ps))
      → AllZip (IsStampedSo First Last) (history_of (longer all_held rs)) new → HasPointsFrom all_held rs (behind count new)
  points-made First Last orders spreads made =
      let front : List Stamped = map (stamped_by known) (pushes_from 1 all_held) in
      let back : List Stamped = map (stamped_by known) (map (later_by count) rs) in
      let split = zip-parts (IsStampedSo First Last) front back new
      (subst (λ (l : List Stamped). AllZip (IsStampedSo First Last) l new) (map-append (stamped_by known) (pushes_from 1 all_held) (map (later_by count) rs)) made) in
      let us : List Stamped = split.0 in
      let vs : List Stamped = split.1 in
      let long : length us ≡ count =
      sym (length_all_zip (IsStampedSo First Last) front us split.3) ∙ length-map (pushes_from 1 all_held) (stamped_by known) ∙ length-pushes 1 all_held in
      let taken : take count new ≡ us =
      ap (take count) split.2 ∙ take-append-le count us vs (omega (arith, long)) ∙ take_all count us (omega (arith, long)) in
      let dropped : drop count new ≡ vs =
      ap (drop count) split.2 ∙ drop-append-le count us vs (omega (arith, long)) ∙ ap (λ (l : List Stamped). l ++ vs) (drop_all count us (omega (arith, long))) in
      let end : ℕ = last_end us in
      let is : behind count new ≡ map (earlier_by end) vs = λ i. map (earlier_by (last_end (taken i))) (dropped i) in
      let ends : Last count end = subst (λ (n : ℕ). Last n end) {x = 1 + length held} {y = count} (omega arith) (last-pushes First Last orders known 1 text held us split.3) in
      let came = came-operations First Last orders known count rs vs readable split.4 in
      let right = yes_is_right new judged in
      let placement : Placement (us ++ vs) = subst Placement split.2 right.0 in
      let placed = parts IsPlaced us vs placement.each in
      let behind : AllByRecursion (IsAtLeast end) vs =
      both IsPlaced (Came First Last orders known (1 + count)) (IsAtLeast end)
      (λ q lies c. later-point end q.first q.last q.at q.reply lies (begins-behind First Last orders known count end q ends c)) vs placed.1 came in
      let runs : IsSequentialRun empty (us ++ by_point vs) =
      subst (IsSequentialRun empty) (ap by_point split.2 ∙ by_point-pushes First Last orders known 1 all_held us vs split.3 placement.each came) right.1 in
      subst (HasPointsFrom all_held rs) (sym is) (record {
        spread = spreads end ends vs split.4;
        placed = record { each = placed-earlier end vs placed.1; apart = apart-earlier end vs behind (apart-behind us vs placement.apart) };
        runs =
            subst (IsSequentialRun (held_queue all_held rs)) (sym (by_point-earlier end vs behind))
            (run-earlier end (held_queue all_held rs) (by_point vs) (run-pushes First Last orders known 1 all_held [] us (by_point vs) split.3 runs));
      })

  points-kept : AllZip IsPointed (history_of (longer all_held rs)) new → HasPointsFrom all_held rs (behind count new)
  points-kept =
      points-made IsKept IsKept kept_orders
      (λ end ends ps made. inl (stamped-lowered count end IsKept IsKept IsKept IsKept (lowers-kept count end ends) (lowers-kept count end ends) known rs ps readable made))

  points-spread : IsSpreadOut (history_of (longer all_held rs)) new → HasPointsFrom all_held rs (behind count new)
  points-spread s =
      points-made (IsFirstOf s.numbers s.width) (IsLastOf s.numbers s.width) (spread_orders s.numbers s.width s.rises s.wide)
      (λ end ends ps made.
      let push = push_end count s.numbers s.width s.rises s.wide ends.rank ends.there in
      let given = given_numbers count s.numbers s.width s.rises s.wide ends.rank ends.there in
      inr (record {
        numbers = given;
        width = s.width;
        rises = given-rise count s.numbers s.width s.rises s.wide ends.rank ends.there;
        wide = s.wide;
        each =
            subst (λ (n : ℕ). AllZip (IsSpreadFrom given s.width) (numbered all_held rs) (map (earlier_by n) ps)) (sym ends.is)
            (stamped-lowered count push (IsFirstOf s.numbers s.width) (IsLastOf s.numbers s.width) (IsFirstOf given s.width) (IsLastOf given s.width)
            (lowers-firsts count s.numbers s.width s.rises s.wide ends.rank ends.there) (lowers-lasts count s.numbers s.width s.rises s.wide ends.rank ends.there) known rs ps readable made);
      }))
      s.each

-- something is held
given_part-some : (count : ℕ) (ops : List Stamped) → 0 < count → given_part count ops ≡ behind count ops
given_part-some count ops some = ap (λ b. if b then ops else behind count ops) (ne_eqb count 0 (λ e. absurd (omega (arith, some, e))))

-- by a longer history with points that is judged Yes, the recording has points from the queue that holds the texts
pub points-behind : (held : List (List ℕ)) (rs : List Recorded) → 0 < length held → IsRecordingInRange rs → (new : List Stamped) → IsSpread (history_of (longer held rs)) new → verdict new ≡ Yes
    → HasPointsFrom held rs (given_part (length held) new)
points-behind [] rs some range new spread judged = absurd (omega (arith, some))
points-behind (text ∷ held) rs some range new (inl kept) judged =
    subst (HasPointsFrom (text ∷ held) rs) (sym (given_part-some (length (text ∷ held)) new some)) (points-kept text held rs range new judged kept)
points-behind (text ∷ held) rs some range new (inr spread) judged =
    subst (HasPointsFrom (text ∷ held) rs) (sym (given_part-some (length (text ∷ held)) new some)) (points-spread text held rs range new judged spread)
