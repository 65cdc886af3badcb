-- What a seat of an arena knows beside its queue's numbers, and the rule of the table: that of the numbers, and where values
-- are carried, that each value in the queue lies in the slot that its number names.
use Rattle.std.specs.Prelude.{◌≡◌, ℕ, ◌+◌, ◌*◌, ◌<◌, ◌≤◌, Bool, true, false, List, [], ◌∷◌, ◌++◌, length, map, take, get_or, Option, Some}
use mathlib.Core.Option.{some, none}
use mathlib.Core.Option as maybe
use lib.ListN.{get_elem?}
use Rattle.atomic_table.specs.Table.{State, Me}
use Rattle.line_table.specs.declared.lines.Line.{Line}
use Rattle.line_table.specs.declared.lines.Line.TheVariants.{E9, A5, D13, B5}
use Rattle.history.specs.declared.operations.Entry.{Entry}
use Rattle.history.specs.declared.operations.Entry.TheVariants.{Push, Pop, Shut}
use Rattle.node_arena.specs.Knowledge.{SeatView, View, keeper, seated, paired, spent, dealt_left, dealt_right, both_of, first_of, second_of, knows, knows_second}
use Rattle.node_arena.specs.Plans.{Layout}
use Rattle.node_arena.specs.Prologues.{Prologue}
use Rattle.node_arena.specs.Rule.{Holds, Tells, Met, Opens}
use Rattle.node_arena.specs.Deeds.{Item, item, Deed, pushed, popped, closed, Runs, Matches}
use Rattle.node_arena.specs.Slots.{Home, Try}
use Rattle.node_arena.specs.ValueHistories.{Rides}

-- what a seat knows of its queue, a beginning of the history of values, the slot that is out with it, what seats that it took in
-- had seen of that history, and its tries at the flags of slots
pub record Beside (T : Type 0) : Type 0 where
  pub plain : View
  pub deeds : List (Deed T)
  pub hand : maybe.Option ℕ
  pub others : List (List (Deed T))
  pub tries : List Try

-- the words of the queue, which lie first in the table, before a flag for each slot
abbrev pub words_of : Layout → ℕ
words_of z = 48 + 2 * z.setup.size

-- the flag of a slot, behind so many words
abbrev pub flag_at : ℕ → List ℕ → ℕ → ℕ
flag_at m words i = get_or words (m + i) 0

-- how many slots a hand has
abbrev pub slots_in : maybe.Option ℕ → ℕ
slots_in none = 0
slots_in (some i) = 1

module _ {T : Type 0} where
  -- what is known of the queue alone
  abbrev pub plain_of : Beside T → View
  plain_of w = w.plain

  -- the same of a seat, whose slots are left out
  abbrev pub plain_me : Me (Option T) (Beside T) → Me ℕ View
  plain_me me = (me.0.plain, [])

  -- the state of the queue alone
  abbrev pub plain_state : ℕ → State (Option T) (Beside T) → State ℕ View
  plain_state m s = record { words = take m s.words; homes = []; views = map plain_of s.views }

  -- the slot that is out with the seat of a view
  abbrev pub hand_in : maybe.Option (Beside T) → maybe.Option ℕ
  hand_in none = none
  hand_in (some v) = v.hand

  -- the slot that is out with each seat
  abbrev pub hand_at : List (Beside T) → ℕ → maybe.Option ℕ
  hand_at views j = hand_in (get_elem? views j)

  -- what lies at home in each slot
  abbrev pub home_at : List (maybe.Option (Option T)) → ℕ → Home T
  home_at homes i = get_elem? homes i

-- each of these begins the deeds
abbrev pub AllBegin : {T : Type 0} → List (List (Deed T)) → List (Deed T) → Type 0
AllBegin [] deeds = Unit {0}
AllBegin (some_deeds ∷ others) deeds = ((rest : List (Deed _)) × (deeds ≡ some_deeds ++ rest)) × AllBegin others deeds

-- what is known of the values: a beginning of their history, as long as what the seat has seen, or as two seats that are one
-- have both seen
pub record Begins {T : Type 0} (deeds : List (Deed T)) (w : Beside T) : Type 0 where
  pub rest : List (Deed T)
  pub begins : deeds ≡ w.deeds ++ rest
  pub matches : (v : SeatView) → w.plain ≡ seated v → Matches v.seen w.deeds
  pub pair : (v u : SeatView) → w.plain ≡ paired v u → v.seen ≡ u.seen → Matches v.seen w.deeds
  pub others : AllBegin w.others deeds

-- values ride on a history: each in the queue lies in the slot that its number names, each seat knows a beginning of their
-- history, and there is a flag for each slot
pub record Carried {T : Type 0} (z : Layout) (history : List Entry) (s : State (Option T) (Beside T)) : Type 0 where
  pub rides : Rides history z.setup.size (flag_at (words_of z) s.words) (home_at s.homes) (hand_at s.views)
  pub known : (j : ℕ) (w : Beside T) → get_elem? s.views j ≡ some w → Begins rides.deeds w
  pub long : words_of z + z.setup.size ≤ length s.words

-- the same, where values are carried, and else nothing
abbrev pub CarriedBy : {T : Type 0} → Bool → Layout → List Entry → State (Option T) (Beside T) → Type 0
CarriedBy true z history s = Carried z history s
CarriedBy false z history s = Unit {0}

-- the rule
pub record HoldsFor {T : Type 0} (z : Layout) (s : State (Option T) (Beside T)) : Type 0 where
  pub base : Holds z (plain_state (words_of z) s)
  pub values : CarriedBy z.carries z base.trace.history s

-- what a seat knows of the values is so: its deeds go one by one with the entries that it has seen, and lead from the empty
-- queue to some values; and the slot that is out with it is one of the table's
pub record KnowsValues {T : Type 0} (z : Layout) (seen : List Entry) (w : Beside T) : Type 0 where
  pub matches : Matches seen w.deeds
  pub values : List (Item T)
  pub shut : Bool
  pub runs : Runs [] false w.deeds values shut
  pub there : (i : ℕ) → w.hand ≡ some i → i < z.setup.size

-- the same, where values are carried, and else nothing
abbrev pub KnowsBy : {T : Type 0} → Bool → Layout → (seen : List Entry) → Beside T → Type 0
KnowsBy true z seen w = KnowsValues z seen w
KnowsBy false z seen w = Unit {0}

module _ {T : Type 0} where
  -- what is known of the queue, where nothing is known of values
  abbrev pub alone : View → Beside T
  alone v = record { plain = v; deeds = []; hand = none; others = []; tries = [] }

  -- the first view deals number 1 first
  abbrev pub first_beside : Layout → Beside T
  first_beside z = alone (keeper 1)

  -- a view that goes on with the same values
  abbrev pub onward : (View → View) → Beside T → Beside T
  onward f w = record { plain = f w.plain; deeds = w.deeds; hand = w.hand; others = w.others; tries = w.tries }

  -- the arena's own token once it dealt a seat
  abbrev pub left_dealt : Beside T → Beside T
  left_dealt = onward dealt_left

  -- the seat that was dealt
  abbrev pub right_dealt : Beside T → Beside T
  right_dealt w = alone (dealt_right w.plain)

  -- a view that stays as it is
  abbrev pub left_as_it_is : Beside T → Beside T
  left_as_it_is = onward (λ v. v)

  -- a view that knows nothing
  abbrev pub knows_nothing : Beside T
  knows_nothing = alone spent

  -- two seats become one; one that gathers takes in a seat that is closed
  abbrev pub both_beside : Beside T → Beside T → Beside T
  both_beside a b = record { plain = both_of a.plain b.plain; deeds = a.deeds; hand = a.hand; others = b.deeds ∷ a.others; tries = a.tries }

  -- the first of two seats that were one
  abbrev pub first_beside_of : Beside T → Beside T
  first_beside_of = onward first_of

  -- the second of them
  abbrev pub second_beside_of : Beside T → Beside T
  second_beside_of w = record { plain = second_of w.plain; deeds = w.deeds; hand = none; others = []; tries = [] }

  -- a view that goes on, but with this slot out with its seat
  abbrev pub with_hand : Beside T → maybe.Option ℕ → Beside T
  with_hand w h = record { plain = w.plain; deeds = w.deeds; hand = h; others = w.others; tries = w.tries }

  -- a view that goes on, but with these tries
  abbrev pub with_tries : Beside T → List Try → Beside T
  with_tries w ts = record { plain = w.plain; deeds = w.deeds; hand = w.hand; others = w.others; tries = ts }

  -- the tries of a view, and one more
  abbrev pub one_more_try : Beside T → (slot found : ℕ) → List Try
  one_more_try w slot found = w.tries ++ record { slot = slot; found = found } ∷ []

  -- a new token gathers, and has taken in none
  abbrev pub OpensBeside : Me (Option T) (Beside T) → Type 0
  OpensBeside me = Opens (plain_me me)

  -- what became of the slots and of the history of values, by the entries that a step added
  abbrev pub Effect : (me : ℕ) (es : List Entry) (w : Beside T) (held : List (ℕ × Option T)) (w' : Beside T) (held' : List (ℕ × Option T)) → Type 0
  Effect me [] w held w' held' = (held' ≡ held) × (w'.hand ≡ w.hand) × ((between : List (Deed T)) × (w'.deeds ≡ w.deeds ++ between))
  Effect me (Push n b ∷ es) w held w' held' = (x : T) × (held ≡ (b, Some x) ∷ []) × (held' ≡ []) × (w'.hand ≡ none)
      × ((between : List (Deed T)) × (w'.deeds ≡ (w.deeds ++ between) ++ pushed me x ∷ []))
  Effect me (Pop n t ∷ es) w held w' held' = (x : T) × (held' ≡ (t.body, Some x) ∷ held) × (w'.hand ≡ some t.body)
      × ((between : List (Deed T)) × (w'.deeds ≡ (w.deeds ++ between) ++ popped me (item t.from x) ∷ []))
  Effect me (Shut n ∷ es) w held w' held' = (held' ≡ held) × (w'.hand ≡ w.hand) × ((between : List (Deed T)) × (w'.deeds ≡ (w.deeds ++ between) ++ closed me ∷ []))

  -- the same, where no values are carried too: no slot then moves, and nothing is seen of values
  abbrev pub EffectBy : Bool → (me : ℕ) (es : List Entry) → Me (Option T) (Beside T) → Me (Option T) (Beside T) → Type 0
  EffectBy true n es me me' = Effect n es me.0 me.1 me'.0 me'.1
  EffectBy false n es me me' = (me'.1 ≡ me.1) × (me'.0.hand ≡ me.0.hand) × (me'.0.deeds ≡ me.0.deeds)

  -- a step moved the slots that belong to what it added to the seat's own entries, and tried none
  abbrev pub Moves : Layout → Me (Option T) (Beside T) → Me (Option T) (Beside T) → Type 0
  Moves z me me' = (es : List Entry) × ((knows me'.0.plain).mine ≡ (knows me.0.plain).mine ++ es) × EffectBy z.carries (knows me.0.plain).number es me me' × (me'.0.tries ≡ me.0.tries)

  -- what a seat knows of values is so, by what it has then seen
  abbrev pub KnowsNow : Layout → Beside T → Type 0
  KnowsNow z w = KnowsBy z.carries z (knows w.plain).seen w

  -- what is seen of values goes on from what was seen, and from what each seat that was taken in had seen
  abbrev pub GrowsBy : Bool → Beside T → Beside T → Type 0
  GrowsBy true w w' = AllBegin (w.deeds ∷ w.others) w'.deeds
  GrowsBy false w w' = w'.deeds ≡ w.deeds

  -- what a step tells, which slots moved, and that what the seat then knows of values is so
  abbrev pub TellsBeside : Layout → Prologue → Me (Option T) (Beside T) → ℕ → Me (Option T) (Beside T) → Type 0
  TellsBeside z prologue me n me' = Tells z prologue (plain_me me) n (plain_me me') × Moves z me me' × KnowsNow z me'.0

  -- the same of a step that isn't told what it found
  abbrev pub TellsNoneBeside : Layout → Prologue → Me (Option T) (Beside T) → Me (Option T) (Beside T) → Type 0
  TellsNoneBeside z prologue me me' = (n : ℕ) × TellsBeside z prologue me n me'

  -- what two seats that are one are told when they meet
  abbrev pub MeetsBeside : Layout → Me (Option T) (Beside T) → Me (Option T) (Beside T) → Type 0
  MeetsBeside z me me' = Met z (knows me.0.plain) (knows_second me.0.plain) (plain_me me') × (me'.1 ≡ me.1) × (me'.0.hand ≡ me.0.hand) × KnowsNow z me'.0 × GrowsBy z.carries me.0 me'.0

  -- no slot is out with a seat
  abbrev pub HasNone : Me (Option T) (Beside T) → Type 0
  HasNone me = (length me.1 ≡ 0) × (slots_in me.0.hand ≡ 0)

  -- the slot of a body is out with a seat, with a value in it
  abbrev pub HasLoaded : Layout → (body : ℕ) → Me (Option T) (Beside T) → Type 0
  HasLoaded z body me = z.carries ≡ true → (x : T) × (me.1 ≡ (body, Some x) ∷ []) × (me.0.hand ≡ some body) × (body < z.setup.size)

  -- where values are carried, the slot of what a line may push is out with the seat, with a value in it; where it may pop, none is
  abbrev pub LoadedAt : Line → Layout → (body : ℕ) → Me (Option T) (Beside T) → Type 0
  LoadedAt E9 z body me = HasLoaded z body me
  LoadedAt A5 z body me = HasLoaded z body me
  LoadedAt D13 z body me = z.carries ≡ true → HasNone me
  LoadedAt B5 z body me = z.carries ≡ true → HasNone me
  LoadedAt l z body me = Unit {0}
