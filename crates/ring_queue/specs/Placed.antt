-- Values whose words lie in their places: where these lie, what a seat knows of them beside its queue's numbers, and the rule of a
-- table that has them: that of the numbers, and that in each place which nobody has still to fill lie the words of the value that was
-- pushed there.
use Rattle.std.specs.Prelude.{◌≡◌, ◌≢◌, ℕ, zero, suc, ◌+◌, ◌-◌, ◌*◌, ◌%◌, ◌^◌, ◌<◌, ◌≤◌, Bool, false, List, [], ◌∷◌, ◌++◌, length, map, Option, Some, slice_get, slice_index_or}
use mathlib.Core.Option.{some}
use lib.ListN.{get_elem?}
use Rattle.atomic_table.specs.Table.{State, Me}
use Rattle.history.specs.declared.operations.Entry.{Entry}
use Rattle.history.specs.declared.operations.Taken.{Taken}
use Rattle.history.specs.Entries.{Leads}
use Rattle.node_arena.specs.Deeds.{Item, item, Deed, pushed, popped, closed, Runs, Matches}
use Rattle.node_arena.specs.Beside.{AllBegin}
use Rattle.ring_queue.specs.Words.{slot_word}
use Rattle.ring_queue.specs.Plans.{Layout, words_of, further_for, further_of}
use Rattle.ring_queue.specs.Knowledge.{SeatView, View, seated, paired, knows, knows_second}
use Rattle.ring_queue.specs.Rule.{HasClaimed, Holds, first_view}
use Rattle.ring_queue.specs.Moments.{head_in}
use Rattle.ring_queue.specs.Meets.{Met}
use Rattle.ring_queue.specs.Rows.{taken_in}
use Rattle.ring_queue.specs.Steps.{PlacesClaimed, FrontsTaken, ShutMade}

-- where a word of the value of a slot lies: the first beside the slot's word, the further ones in a pair of words for each slot, behind
-- all slots
abbrev pub value_word : (slots slot part : ℕ) → ℕ
value_word slots slot zero = suc (slot_word slot)
value_word slots slot (suc j) = 32 + 2 * slots + 2 * slot + j

-- the words of the queue alone, which are the first of so many pairs; those beside them are left out, as 0
abbrev pub queue_words : (pairs : ℕ) → List ℕ → List ℕ
queue_words zero ws = []
queue_words (suc n) [] = []
queue_words (suc n) (w ∷ []) = w ∷ []
queue_words (suc n) (w ∷ x ∷ ws) = w ∷ 0 ∷ queue_words n ws

-- how many pairs these are
abbrev pub pairs_of : Layout → ℕ
pairs_of z = 16 + z.slots

-- the value that a seat has at hand: none; that of the place that it claimed, whose first words, so many, it has stored there; or the
-- words that it has loaded, the first of what lies at its head's place, whose word it had found
pub data Hand : Type 0 where
  free : Hand
  storing : (value : List ℕ) → (done : ℕ) → Hand
  loading : List ℕ → Hand

-- what a seat knows of its queue, a beginning of the history of values, the value that it has at hand, and what seats that it took
-- in had seen of that history
pub record PlacedView : Type 0 where
  pub plain : View
  pub deeds : List (Deed (List ℕ))
  pub hand : Hand
  pub others : List (List (Deed (List ℕ)))

-- the same without what is known of the queue
pub record Placing : Type 0 where
  pub deeds : List (Deed (List ℕ))
  pub hand : Hand
  pub others : List (List (Deed (List ℕ)))

-- what is known of the queue, with what is known of values
abbrev pub placed_view : View → Placing → PlacedView
placed_view u p = record { plain = u; deeds = p.deeds; hand = p.hand; others = p.others }

-- nothing is known of values
abbrev pub no_placing : Placing
no_placing = record { deeds = []; hand = free; others = [] }

-- no value is at hand any more
abbrev pub put_down : Placing → Placing
put_down p = record { deeds = p.deeds; hand = free; others = p.others }

-- what is known of the queue alone
abbrev pub queue_view : PlacedView → View
queue_view w = w.plain

-- the state of the queue alone
abbrev pub queue_state : Layout → State ℕ PlacedView → State ℕ View
queue_state z s = record { words = queue_words (pairs_of z) s.words; homes = []; views = map queue_view s.views }

-- a word of the value of a place
abbrev pub part_at : Layout → (words : List ℕ) → (place part : ℕ) → ℕ
part_at z words place j = slice_index_or words (value_word z.slots (place % z.slots) j) 0

-- so many of the first words of a value lie in its place
abbrev pub HasPut : Layout → (words : List ℕ) → (place : ℕ) → (value : List ℕ) → (done : ℕ) → Type 0
HasPut z words place value done = (j : ℕ) → j < done → part_at z words place j ≡ slice_index_or value j 0

-- so many words of the value of a place, from one on
abbrev pub parts_from : (slots : ℕ) → (words : List ℕ) → (place part count : ℕ) → List ℕ
parts_from slots words place j zero = []
parts_from slots words place j (suc k) = slice_index_or words (value_word slots (place % slots) j) 0 ∷ parts_from slots words place (j + 1) k

-- the words of the values of so many places from one on, each of so many words
abbrev pub beside_from : (slots width : ℕ) → (words : List ℕ) → (place count : ℕ) → List ℕ
beside_from slots width words place zero = []
beside_from slots width words place (suc k) = parts_from slots words place 0 width ++ beside_from slots width words (place + 1) k

-- the words of a table with so many slots, one at least, whose values are of so many words
pub record HasParts (slots width : ℕ) (words : List ℕ) : Type 0 where
  pub some : 1 ≤ slots
  pub small : slots ≤ 2 ^ 49
  pub thin : width ≤ 3
  pub wide : 32 + 2 * slots + further_for width slots ≤ length words

-- the words of values, one value after another
abbrev pub parts_of : List (Item (List ℕ)) → List ℕ
parts_of [] = []
parts_of (x ∷ xs) = x.value ++ parts_of xs

-- a value in the queue, as the queue of numbers has it: each number is 0
abbrev pub number_of : Item (List ℕ) → Taken
number_of x = record { from = x.from; body = 0 }

-- no seat has a place to fill
abbrev pub IsUnclaimed : List PlacedView → (place : ℕ) → Type 0
IsUnclaimed views place = (j : ℕ) (w : PlacedView) (v : SeatView) (x : Option Taken) → get_elem? views j ≡ some w → w.plain ≡ seated v → HasClaimed v.stage place x → ⊥

-- each place that a seat has still to fill is that of this value, which it pushed
abbrev pub Owes : (head : ℕ) → (items : List (Item (List ℕ))) → SeatView → (value : List ℕ) → Type 0
Owes head items v n = (p : ℕ) (x : Option Taken) → HasClaimed v.stage p x → (head ≤ p) × (slice_get items (p - head) ≡ Some (item v.number n))

-- what a seat has at hand is as the queue has it
abbrev pub Handles : Layout → (words : List ℕ) → (items : List (Item (List ℕ))) → SeatView → Hand → Type 0
Handles z words items v free = Unit {0}
Handles z words items v (storing value done) = (done ≤ z.width) × Owes (head_in words) items v value
    × ((p : ℕ) (x : Option Taken) → HasClaimed v.stage p x → HasPut z words p value done)
Handles z words items v (loading read) = v.head ≡ head_in words
    → (x : Item (List ℕ)) × (slice_get items 0 ≡ Some x) × ((j : ℕ) → j < length read → slice_index_or read j 0 ≡ slice_index_or x.value j 0)

-- what is known of the values: a beginning of their history, as long as what the seat has seen, or as two seats that are one
-- have both seen
pub record BeginsPlaced (deeds : List (Deed (List ℕ))) (w : PlacedView) : Type 0 where
  pub rest : List (Deed (List ℕ))
  pub begins : deeds ≡ w.deeds ++ rest
  pub matches : (v : SeatView) → w.plain ≡ seated v → Matches v.seen w.deeds
  pub pair : (v u : SeatView) → w.plain ≡ paired v u → v.seen ≡ u.seen → Matches v.seen w.deeds
  pub others : AllBegin w.others deeds

-- a history of values that goes with one of numbers, and the values that it leaves in the queue
pub record Said (history : List Entry) : Type 0 where
  pub deeds : List (Deed (List ℕ))
  pub items : List (Item (List ℕ))
  pub shut : Bool
  pub leads : Leads history shut (map number_of items)
  pub runs : Runs [] false deeds items shut
  pub matches : Matches history deeds

-- values ride on a history of numbers, each in its place: it lies there, or the seat that claimed the place has it at hand; each is of
-- as many words as the plan says
pub record Placed (z : Layout) (history : List Entry) (words : List ℕ) (views : List PlacedView) : Type 0 where
  pub said : Said history
  pub widths : (i : ℕ) (x : Item (List ℕ)) → slice_get said.items i ≡ Some x → length x.value ≡ z.width
  pub lies : (i : ℕ) (x : Item (List ℕ)) → slice_get said.items i ≡ Some x → IsUnclaimed views (head_in words + i) → HasPut z words (head_in words + i) x.value z.width
  pub hands : (j : ℕ) (w : PlacedView) (v : SeatView) → get_elem? views j ≡ some w → w.plain ≡ seated v → Handles z words said.items v w.hand
  pub known : (j : ℕ) (w : PlacedView) → get_elem? views j ≡ some w → BeginsPlaced said.deeds w
  pub long : words_of z + further_of z ≤ length words

-- the rule of a table whose values lie in their places
pub record HoldsPlaced (z : Layout) (s : State ℕ PlacedView) : Type 0 where
  pub base : Holds z (queue_state z s)
  pub values : Placed z base.ring.history s.words s.views

-- a view that goes on with another value at hand
abbrev pub with_value : PlacedView → Hand → PlacedView
with_value w h = record { plain = w.plain; deeds = w.deeds; hand = h; others = w.others }

-- what a seat knows of the values is so: its deeds go one by one with the entries that it has seen, and lead from the empty queue to
-- some values
pub record KnowsSaid (seen : List Entry) (w : PlacedView) : Type 0 where
  pub matches : Matches seen w.deeds
  pub values : List (Item (List ℕ))
  pub shut : Bool
  pub runs : Runs [] false w.deeds values shut

-- what a seat has seen of the values goes on and ends with these deeds, and this is at hand then
abbrev pub Says : (ds : List (Deed (List ℕ))) → Hand → (w w' : PlacedView) → Type 0
Says ds h w w' = (w'.hand ≡ h) × ((between : List (Deed (List ℕ))) × (w'.deeds ≡ (w.deeds ++ between) ++ ds))

-- what a line tells: what it tells of the numbers, which deeds it added, and that what the seat then knows of the values is so
abbrev pub TellsSaid : (SeatView → ℕ → SeatView → Type 0) → (ds : List (Deed (List ℕ))) → Hand → Me ℕ PlacedView → ℕ → Me ℕ PlacedView → Type 0
TellsSaid fact ds h me n me' = (me'.0.plain ≡ seated (knows me'.0.plain)) × fact (knows me.0.plain) n (knows me'.0.plain) × Says ds h me.0 me'.0
    × ∥ KnowsSaid (knows me'.0.plain).seen me'.0 ∥₁

-- what the store of a word of a value tells: it is stored
abbrev pub TellsStored : (value : List ℕ) → (done : ℕ) → (me me' : Me ℕ PlacedView) → Type 0
TellsStored value done me me' = me' ≡ (with_value me.0 (storing value (done + 1)), [])

-- what the load of a word tells: it is at hand, with those that were loaded before
abbrev pub TellsLoaded : (read : List ℕ) → Me ℕ PlacedView → ℕ → Me ℕ PlacedView → Type 0
TellsLoaded read me n me' = me' ≡ (with_value me.0 (loading (read ++ n ∷ [])), [])

-- what was loaded is at hand, where it is a word or more
abbrev pub HasRead : Hand → (read : List ℕ) → Type 0
HasRead h [] = Unit {0}
HasRead h (w ∷ ws) = h ≡ loading (w ∷ ws)

-- what a claim for a value tells: its push took effect, and it is to be stored; or nothing was added
abbrev pub TellsClaimed : Layout → (value : List ℕ) → Me ℕ PlacedView → ℕ → Me ℕ PlacedView → Type 0
TellsClaimed z n me k me' = (k ≡ (knows me.0.plain).tail → TellsSaid (PlacesClaimed z (0 ∷ [])) (pushed (knows me.0.plain).number n ∷ []) (storing n 0) me k me')
    × (k ≢ (knows me.0.plain).tail → TellsSaid (PlacesClaimed z (0 ∷ [])) [] free me k me')

-- a pop of the value that was loaded took effect: it stood in front, and the word that was found says who pushed it
abbrev pub TellsPopped : Layout → (word : ℕ) → (value : List ℕ) → Me ℕ PlacedView → ℕ → Me ℕ PlacedView → Type 0
TellsPopped z word n me k me' = (front : Item (List ℕ)) × (number_of front ≡ taken_in word) × (n ≡ front.value)
    × TellsSaid (FrontsTaken z (word ∷ [])) (popped (knows me.0.plain).number front ∷ []) free me k me'

-- what an exchange of Head tells: the pop took effect, or nothing was added
abbrev pub TellsTaken : Layout → (word : ℕ) → (value : List ℕ) → Me ℕ PlacedView → ℕ → Me ℕ PlacedView → Type 0
TellsTaken z word n me k me' = (k ≡ (knows me.0.plain).head → TellsPopped z word n me k me')
    × (k ≢ (knows me.0.plain).head → TellsSaid (FrontsTaken z (word ∷ [])) [] free me k me')

-- what a shut tells: it took effect, or nothing was added
abbrev pub TellsShut : Layout → Me ℕ PlacedView → ℕ → Me ℕ PlacedView → Type 0
TellsShut z me n me' = (n < 2 ^ 62 → TellsSaid (ShutMade z) (closed (knows me.0.plain).number ∷ []) free me n me') × (2 ^ 62 ≤ n → TellsSaid (ShutMade z) [] free me n me')

-- what two seats that are one are told when they meet: both know all, of the values too
abbrev pub MeetsPlaced : Layout → Me ℕ PlacedView → Me ℕ PlacedView → Type 0
MeetsPlaced z me me' = Met z (knows me.0.plain) (knows_second me.0.plain) (me'.0.plain, []) × (me'.0.hand ≡ free) × ∥ KnowsSaid (knows me'.0.plain).seen me'.0 ∥₁
    × AllBegin (me.0.deeds ∷ me.0.others) me'.0.deeds

-- the first view deals number 1 first
abbrev pub first_placed : Layout → PlacedView
first_placed z = record { plain = first_view z; deeds = []; hand = free; others = [] }
