-- What the lines ask of a table whose values lie in their places.
use Rattle.std.proofs.Common.{◌≡◌, ◌≢◌, ℕ, ◌%◌, ◌^◌, ◌<◌, ◌≤◌, Bool, true, false, ⊎_elim, List, [], ◌∷◌, ◌++◌, ◌+◌, length, get_or, Option, sym, refl, ◌∙◌, subst, arith}
use mathlib.Core.Logic.{dite}
use native.Mathlib.Decide.{dec_le}
use Rattle.history.specs.declared.operations.Entry.{Entry}
use Rattle.history.specs.declared.operations.Entry.TheVariants.{Shut}
use Rattle.history.specs.declared.operations.Taken.{Taken}
use Rattle.node_arena.specs.Deeds.{Deed}
use Rattle.ring_queue.specs.Words.{tail_word}
use Rattle.ring_queue.specs.Plans.{Layout}
use Rattle.ring_queue.specs.Knowledge.{claimed, found, SeatView, seated}
use Rattle.ring_queue.specs.Steps.{Rests, pushes, pops, PlacesClaimed, FrontsTaken, ShutMade, PlaceFilled}
use Rattle.ring_queue.specs.Placed.{value_word, queue_words, pairs_of, part_at, Hand, HasRead, free, storing, loading, PlacedView, TellsSaid, TellsStored, TellsLoaded, TellsClaimed, TellsTaken, TellsShut}
use Rattle.ring_queue.proofs.Puts.{same_or_not}
use Rattle.ring_queue.proofs.Keeps.{none_claimed}
use Rattle.ring_queue.proofs.Tables.{it_fits}
use Rattle.ring_queue.proofs.Calls.{Does}
use Rattle.ring_queue.proofs.Runs.{Made}
use Rattle.ring_queue.proofs.Placing.{Keeping, IsOwn, own_tail, own_head, queue_words-get, stores_value, loads_value}
use Rattle.ring_queue.proofs.PlacedLines.{added_is, by_none, by_shut, by_fill, by_push, by_pop, extends, done, its}

-- a word that says no more places than there are is not that of a ring that is shut
open_tail : (t : ℕ) (shut : Bool) (u : ℕ) → u ≤ t → tail_word t shut ≡ u → u ≡ t
open_tail t true u le e = absurd (omega (arith, e, le))
open_tail t false u le e = sym e

module _ (z : Layout) (id : ℕ) (v : SeatView) (ds : List (Deed (List ℕ))) (hand : Hand) (os : List (List (Deed (List ℕ)))) where
  abbrev before : PlacedView
  before = record { plain = seated v; deeds = ds; hand = hand; others = os }

  -- a line that adds nothing, of a seat in no call
  pub allows_quiet : (p : ℕ) (f : ℕ → ℕ) (fact : SeatView → ℕ → SeatView → Type 0) (line : Does z p v f [] fact) → IsOwn (pairs_of z) p
      → ((n : ℕ) (v' : SeatView) → fact v n v' → Made z p n (f n) v v') → Rests v.stage
      → Keeping z id before p f (λ k o. TellsSaid fact [] free (before, []) k o)
  allows_quiet p f fact line own ran rested s H mine =
      let none = ⊎_elim (λ e. e) (λ e. e) (extends z s H id v ds hand os mine p f [] fact line own ran).which in
      let q = by_none z s H id v ds hand os mine p f [] fact line own ran none (λ q x. none_claimed v.stage q x rested) in
      (q.0, q.1, q.2)

  -- C4: the place in which the value is stored is filled
  pub allows_fill : (n : List ℕ) (p i word : ℕ) (x : Option Taken) (line : Does z i v (λ _. word) [] (PlaceFilled z i word)) → IsOwn (pairs_of z) i
      → ((m : ℕ) (v' : SeatView) → PlaceFilled z i word v m v' → Made z i m word v v') → v.stage ≡ claimed p (x ∷ []) → hand ≡ storing n z.width
      → Keeping z id before i (λ _. word) (λ k o. TellsSaid (PlaceFilled z i word) [] free (before, []) k o)
  allows_fill n p i word x line own ran stands has_stored s H mine =
      let none = ⊎_elim (λ e. e) (λ e. e) (extends z s H id v ds hand os mine i (λ _. word) [] (PlaceFilled z i word) line own ran).which in
      let q = by_fill z s H id v ds hand os mine i (λ _. word) [] (PlaceFilled z i word) line own ran n p x none stands has_stored in
      (q.0, q.1, q.2)

  -- C3: a place is claimed for a value
  pub allows_claim : (n : List ℕ) → length n ≡ z.width → (f : ℕ → ℕ) (line : Does z 0 v f (pushes v.number (0 ∷ [])) (PlacesClaimed z (0 ∷ [])))
      → ((m : ℕ) (v' : SeatView) → PlacesClaimed z (0 ∷ []) v m v' → Made z 0 m (f m) v v') → Rests v.stage
      → Keeping z id before 0 f (λ k o. TellsClaimed z n (before, []) k o)
  allows_claim n wide f line ran rested s H mine =
      let fact = PlacesClaimed z (0 ∷ []) in
      let all : List Entry = pushes v.number (0 ∷ []) in
      let not_before = λ (q : ℕ) (x : Option Taken). none_claimed v.stage q x rested in
      let found_it : get_or (queue_words (pairs_of z) s.words) 0 0 ≡ get_or s.words 0 0 = queue_words-get (pairs_of z) s.words 0 (own_tail z) in
      let r = H.base.ring in
      let told = (done z s H id v ds hand os mine 0 f all fact line (own_tail z) ran).4 in
      same_or_not (get_or s.words 0 0) v.tail
      (λ won.
      let e : get_or (queue_words (pairs_of z) s.words) 0 0 ≡ v.tail = found_it ∙ won in
      let stands = (told.won e).0 in
      let under = (it_fits z (queue_words (pairs_of z) s.words) H.base.seats r v (its z s H id v ds hand os mine 0 f all fact line (own_tail z) ran)).under in
      let at_tail : get_or (queue_words (pairs_of z) s.words) 0 0 ≡ r.tail = e ∙ open_tail r.tail r.shut v.tail under (sym r.tail_is ∙ e) in
      let q = by_push z s H id v ds hand os mine 0 f all fact line (own_tail z) ran n (get_or (queue_words (pairs_of z) s.words) 0 0) _ wide
      (added_is z s H id v ds hand os mine 0 f all fact line (own_tail z) ran (pushes v.number (0 ∷ [])) (told.went_won e).1) not_before stands at_tail in
      (q.0, q.1, ((λ same. q.2), (λ ne. absurd (ne won)))))
      (λ lost.
      let e : get_or (queue_words (pairs_of z) s.words) 0 0 ≢ v.tail = λ same. lost (sym found_it ∙ same) in
      let q = by_none z s H id v ds hand os mine 0 f all fact line (own_tail z) ran
      (added_is z s H id v ds hand os mine 0 f all fact line (own_tail z) ran [] (told.went_lost e).1) not_before in
      (q.0, q.1, ((λ same. absurd (lost same)), (λ ne. q.2))))

  -- P3: the value that was loaded is taken
  pub allows_take : (word : ℕ) (n : List ℕ) → length n ≡ z.width → (f : ℕ → ℕ) (line : Does z 16 v f (pops v.number (word ∷ [])) (FrontsTaken z (word ∷ [])))
      → ((m : ℕ) (v' : SeatView) → FrontsTaken z (word ∷ []) v m v' → Made z 16 m (f m) v v') → v.stage ≡ found (word ∷ []) → hand ≡ loading n
      → Keeping z id before 16 f (λ k o. TellsTaken z word n (before, []) k o)
  allows_take word n wide f line ran stands has_loaded s H mine =
      let fact = FrontsTaken z (word ∷ []) in
      let all : List Entry = pops v.number (word ∷ []) in
      let found_it : get_or (queue_words (pairs_of z) s.words) 16 0 ≡ get_or s.words 16 0 = queue_words-get (pairs_of z) s.words 16 (own_head z) in
      let r = H.base.ring in
      let told = (done z s H id v ds hand os mine 16 f all fact line (own_head z) ran).4 in
      same_or_not (get_or s.words 16 0) v.head
      (λ won.
      let e : get_or (queue_words (pairs_of z) s.words) 16 0 ≡ v.head = found_it ∙ won in
      let q = by_pop z s H id v ds hand os mine 16 f all fact line (own_head z) ran word n _ wide
      (added_is z s H id v ds hand os mine 16 f all fact line (own_head z) ran (pops v.number (word ∷ [])) (told.went_won e).1) stands has_loaded (sym e ∙ r.head_is) in
      (q.3.0, q.3.1, ((λ same. (q.0, q.1, q.2, q.3.2)), (λ ne. absurd (ne won)))))
      (λ lost.
      let e : get_or (queue_words (pairs_of z) s.words) 16 0 ≢ v.head = λ same. lost (sym found_it ∙ same) in
      let q = by_none z s H id v ds hand os mine 16 f all fact line (own_head z) ran
      (added_is z s H id v ds hand os mine 16 f all fact line (own_head z) ran [] (told.went_lost e).1)
      (λ q x has. none_claimed v.stage q x (subst Rests (sym stands) tt) has) in
      (q.0, q.1, ((λ same. absurd (lost same)), (λ ne. q.2))))

  -- S10: the bit of the shut is set
  pub allows_shut : (f : ℕ → ℕ) (line : Does z 0 v f (Shut v.number ∷ []) (ShutMade z)) → ((m : ℕ) (v' : SeatView) → ShutMade z v m v' → Made z 0 m (f m) v v') → Rests v.stage
      → Keeping z id before 0 f (λ k o. TellsShut z (before, []) k o)
  allows_shut f line ran rested s H mine =
      let fact = ShutMade z in
      let all : List Entry = Shut v.number ∷ [] in
      let not_before = λ (q : ℕ) (x : Option Taken). none_claimed v.stage q x rested in
      let found_it : get_or (queue_words (pairs_of z) s.words) 0 0 ≡ get_or s.words 0 0 = queue_words-get (pairs_of z) s.words 0 (own_tail z) in
      let told = (done z s H id v ds hand os mine 0 f all fact line (own_tail z) ran).4 in
      dite (dec_le (2 ^ 62) (get_or s.words 0 0))
      (λ was.
      let e : 2 ^ 62 ≤ get_or (queue_words (pairs_of z) s.words) 0 0 = omega (arith, was, found_it) in
      let q = by_none z s H id v ds hand os mine 0 f all fact line (own_tail z) ran (added_is z s H id v ds hand os mine 0 f all fact line (own_tail z) ran [] (told.went_shut e).1) not_before in
      (q.0, q.1, ((λ opened. absurd (omega (arith, opened, was))), (λ shut. q.2))))
      (λ still.
      let e : get_or (queue_words (pairs_of z) s.words) 0 0 < 2 ^ 62 = omega (arith, still, found_it) in
      let q = by_shut z s H id v ds hand os mine 0 f all fact line (own_tail z) ran (added_is z s H id v ds hand os mine 0 f all fact line (own_tail z) ran (Shut v.number ∷ []) (told.went_open e).1) not_before in
      (q.0, q.1, ((λ opened. q.2), (λ shut. absurd (still shut)))))

  -- P6: the next word of the value at the seat's head is loaded
  pub allows_load : (word : ℕ) (read : List ℕ) → v.stage ≡ found (word ∷ []) → HasRead hand read → length read < z.width
      → Keeping z id before (value_word z.slots (v.head % z.slots) (length read)) (λ n. n) (λ n o. TellsLoaded read (before, []) n o)
  allows_load word read stands has_read low s H mine = (
    record { plain = seated v; deeds = ds; hand = loading (read ++ part_at z s.words v.head (length read) ∷ []); others = os },
    loads_value z s H id v ds hand os mine word stands read has_read low,
    refl,
  )

-- C5: the next word of a value is stored in the place that was claimed for it
pub allows_store : (z : Layout) (id : ℕ) (v : SeatView) (ds : List (Deed (List ℕ))) (value : List ℕ) (part : ℕ) (os : List (List (Deed (List ℕ)))) (p : ℕ) (x : Option Taken)
    → v.stage ≡ claimed p (x ∷ []) → part < z.width
    → Keeping z id (record { plain = seated v; deeds = ds; hand = storing value part; others = os }) (value_word z.slots (p % z.slots) part) (λ _. get_or value part 0)
    (λ k o. TellsStored value part (record { plain = seated v; deeds = ds; hand = storing value part; others = os }, []) o)
allows_store z id v ds value part os p x stands low s H mine = (
  record { plain = seated v; deeds = ds; hand = storing value (part + 1); others = os },
  stores_value z s H id v ds value part os mine p x stands low,
  refl,
)
