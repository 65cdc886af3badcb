-- What a seat of a ring knows beside its queue's numbers, and the rule of a table with slots: that of the numbers, and where values
-- are carried, that each value in the queue lies in the slot that its number names.
use Rattle.std.specs.Prelude.{◌≡◌, ℕ, ◌+◌, ◌<◌, ◌≤◌, ◌⊎◌, Bool, true, false, List, [], ◌∷◌, ◌++◌, length, map, take, Option, Some}
use mathlib.Core.Option.{some, none}
use mathlib.Core.Option as maybe
use lib.ListN.{get_elem?}
use Rattle.atomic_table.specs.Table.{State, Me}
use Rattle.history.specs.declared.operations.Entry.{Entry}
use Rattle.history.specs.declared.operations.Entry.TheVariants.{Push, Pop, Shut}
use Rattle.node_arena.specs.Deeds.{Item, item, Deed, pushed, popped, closed, Runs, Matches}
use Rattle.node_arena.specs.Beside.{AllBegin, flag_at, home_at, slots_in}
use Rattle.node_arena.specs.ValueHistories.{Rides}
use Rattle.ring_queue.specs.Knowledge.{SeatView, View, seated, paired, spent, dealt_left, dealt_right, both_of, first_of, second_of, knows, knows_second}
use Rattle.ring_queue.specs.Plans.{Layout, words_of}
use Rattle.ring_queue.specs.Rule.{Holds, Opens, first_view}
use Rattle.ring_queue.specs.Meets.{Met}
use Rattle.ring_queue.specs.Paths.{Try}
use Rattle.ring_queue.specs.Placed.{Placing, no_placing, placed_view, PlacedView, KnowsSaid, HoldsPlaced, free, put_down}

-- what a seat knows of its queue, a beginning of the history of values, the slot that is out with it, what seats that it took in
-- had seen of that history, its tries at slots, and what it knows of values that lie in their places
pub record Beside (T : Type 0) : Type 0 where
  pub plain : View
  pub deeds : List (Deed T)
  pub hand : maybe.Option ℕ
  pub others : List (List (Deed T))
  pub tries : List Try
  pub placing : Placing

module _ {T : Type 0} where
  -- what is known of the queue alone
  abbrev pub plain_of : Beside T → View
  plain_of w = w.plain

  -- the same of a seat, whose slots are left out
  abbrev pub plain_me : Me (Option T) (Beside T) → Me ℕ View
  plain_me me = (me.0.plain, [])

  -- the state of the queue alone
  abbrev pub plain_state : ℕ → State (Option T) (Beside T) → State ℕ View
  plain_state m s = record { words = take m s.words; homes = []; views = map plain_of s.views }

  -- what is known of the queue and of values that lie in their places
  abbrev pub placed_of : Beside T → PlacedView
  placed_of w = placed_view w.plain w.placing

  -- the state of a table whose values lie in their places
  abbrev pub placed_state : State (Option T) (Beside T) → State ℕ PlacedView
  placed_state s = record { words = s.words; homes = []; views = map placed_of s.views }

  -- the slot that is out with the seat of a view
  abbrev pub hand_in : maybe.Option (Beside T) → maybe.Option ℕ
  hand_in none = none
  hand_in (some v) = v.hand

  -- the slot that is out with each seat
  abbrev pub hand_at : List (Beside T) → ℕ → maybe.Option ℕ
  hand_at views j = hand_in (get_elem? views j)

-- what is known of the values: a beginning of their history, as long as what the seat has seen, or as two seats that are one
-- have both seen
pub record Begins {T : Type 0} (deeds : List (Deed T)) (w : Beside T) : Type 0 where
  pub rest : List (Deed T)
  pub begins : deeds ≡ w.deeds ++ rest
  pub matches : (v : SeatView) → w.plain ≡ seated v → Matches v.seen w.deeds
  pub pair : (v u : SeatView) → w.plain ≡ paired v u → v.seen ≡ u.seen → Matches v.seen w.deeds
  pub others : AllBegin w.others deeds

-- values ride on a history: each in the queue lies in the slot that its number names, each seat knows a beginning of their
-- history, and there is a flag for each slot
pub record Carried {T : Type 0} (z : Layout) (history : List Entry) (s : State (Option T) (Beside T)) : Type 0 where
  pub rides : Rides history z.slots (flag_at (words_of z) s.words) (home_at s.homes) (hand_at s.views)
  pub known : (j : ℕ) (w : Beside T) → get_elem? s.views j ≡ some w → Begins rides.deeds w
  pub long : words_of z + z.slots ≤ length s.words

-- the rule of a table that carries values
pub record HoldsValues {T : Type 0} (z : Layout) (s : State (Option T) (Beside T)) : Type 0 where
  pub base : Holds z (plain_state (words_of z) s)
  pub values : Carried z base.ring.history s

-- what a seat knows of the values is so: its deeds go one by one with the entries that it has seen, and lead from the empty
-- queue to some values; and the slot that is out with it is one of the table's
pub record KnowsValues {T : Type 0} (z : Layout) (seen : List Entry) (w : Beside T) : Type 0 where
  pub matches : Matches seen w.deeds
  pub values : List (Item T)
  pub shut : Bool
  pub runs : Runs [] false w.deeds values shut
  pub there : (i : ℕ) → w.hand ≡ some i → i < z.slots

-- deeds led to a queue with this value in front
abbrev pub StoodFirst : {T : Type 0} → List (Deed T) → Item T → Type 0
StoodFirst {T} deeds front = (rest : List (Item T)) × (shut : Bool) × Runs [] false deeds (front ∷ rest) shut

module _ {T : Type 0} where
  -- what became of the slots and of the history of values, by the entries that a step added; what a pop took stood in front
  abbrev pub Effect : (me : ℕ) (es : List Entry) (w : Beside T) (held : List (ℕ × Option T)) (w' : Beside T) (held' : List (ℕ × Option T)) → Type 0
  Effect me [] w held w' held' = (held' ≡ held) × (w'.hand ≡ w.hand) × ((between : List (Deed T)) × (w'.deeds ≡ w.deeds ++ between))
  Effect me (Push n b ∷ es) w held w' held' = (x : T) × (held ≡ (b, Some x) ∷ []) × (held' ≡ []) × (w'.hand ≡ none)
      × ((between : List (Deed T)) × (w'.deeds ≡ (w.deeds ++ between) ++ pushed me x ∷ []))
  Effect me (Pop n t ∷ es) w held w' held' = (x : T) × (held' ≡ (t.body, Some x) ∷ held) × (w'.hand ≡ some t.body)
      × ((between : List (Deed T)) × (w'.deeds ≡ (w.deeds ++ between) ++ popped me (item t.from x) ∷ [])
      × StoodFirst (w.deeds ++ between) (item t.from x))
  Effect me (Shut n ∷ es) w held w' held' = (held' ≡ held) × (w'.hand ≡ w.hand) × ((between : List (Deed T)) × (w'.deeds ≡ (w.deeds ++ between) ++ closed me ∷ []))

  -- the slots and the values are ready for what a step may add: the slot of what it pushes is out with the seat, with a value in it;
  -- none is, where it pops; one step moves one value
  abbrev pub IsReadyFor : (slots me : ℕ) (all : List Entry) (w : Beside T) (held : List (ℕ × Option T)) → Type 0
  IsReadyFor slots me [] w held = Unit {0}
  IsReadyFor slots me (Push n b ∷ []) w held = (n ≡ me) × ((x : T) × (held ≡ (b, Some x) ∷ []) × (w.hand ≡ some b) × (b < slots))
  IsReadyFor slots me (Pop n t ∷ []) w held = (n ≡ me) × (w.hand ≡ none)
  IsReadyFor slots me (Shut n ∷ []) w held = n ≡ me
  IsReadyFor slots me (e ∷ f ∷ es) w held = ⊥

-- values are carried, or nothing is said of them
abbrev pub CarriedBy : {T : Type 0} → Bool → Layout → List Entry → State (Option T) (Beside T) → Type 0
CarriedBy true z history s = Carried z history s
CarriedBy false z history s = Unit {0}

-- the rule of a table, by whether it carries values
pub record HoldsFor {T : Type 0} (carries : Bool) (z : Layout) (s : State (Option T) (Beside T)) : Type 0 where
  pub base : Holds z (plain_state (words_of z) s)
  pub values : CarriedBy carries z base.ring.history s

-- what a seat knows of values that lie in their places is so, where they are
abbrev pub SaidBy : {T : Type 0} → Bool → (seen : List Entry) → Beside T → Type 0
SaidBy true seen w = KnowsSaid seen (placed_of w)
SaidBy false seen w = Unit {0}

-- what a seat knows of the values is so, where there are any
abbrev pub KnowsBy : {T : Type 0} → Bool → Layout → (seen : List Entry) → Beside T → Type 0
KnowsBy true z seen w = KnowsValues z seen w
KnowsBy false z seen w = SaidBy z.placed seen w

module _ {T : Type 0} where
  -- what is known of the queue, where nothing is known of values
  abbrev pub alone : View → Beside T
  alone v = record { plain = v; deeds = []; hand = none; others = []; tries = []; placing = no_placing }

  -- the first view deals number 1 first
  abbrev pub first_beside : Layout → Beside T
  first_beside z = alone (first_view z)

  -- a view that goes on with the same values
  abbrev pub onward : (View → View) → Beside T → Beside T
  onward f w = record { plain = f w.plain; deeds = w.deeds; hand = w.hand; others = w.others; tries = w.tries; placing = put_down w.placing }

  -- the ring's own token once it dealt a seat
  abbrev pub left_dealt : Beside T → Beside T
  left_dealt = onward dealt_left

  -- the seat that was dealt
  abbrev pub right_dealt : Beside T → Beside T
  right_dealt w = alone (dealt_right w.plain)

  -- a view that stays as it is
  abbrev pub left_as_it_is : Beside T → Beside T
  left_as_it_is = onward (λ v. v)

  -- a view that knows nothing
  abbrev pub knows_nothing : Beside T
  knows_nothing = alone spent

  -- two seats become one; one that gathers takes in a seat that is closed
  abbrev pub both_beside : Beside T → Beside T → Beside T
  both_beside a b = record {
    plain = both_of a.plain b.plain;
    deeds = a.deeds;
    hand = a.hand;
    others = b.deeds ∷ a.others;
    tries = a.tries;
    placing = record { deeds = a.placing.deeds; hand = free; others = b.placing.deeds ∷ a.placing.others };
  }

  -- the first of two seats that were one
  abbrev pub first_beside_of : Beside T → Beside T
  first_beside_of = onward first_of

  -- the second of them
  abbrev pub second_beside_of : Beside T → Beside T
  second_beside_of w = record { plain = second_of w.plain; deeds = w.deeds; hand = none; others = []; tries = []; placing = record { deeds = w.placing.deeds; hand = free; others = [] } }

  -- what became of the slots and of the values by a step, by whether values are carried: where none are, no slot moves, and nothing
  -- is seen of values
  abbrev pub EffectBy : Bool → (me : ℕ) (es : List Entry) → Me (Option T) (Beside T) → Me (Option T) (Beside T) → Type 0
  EffectBy true n es me me' = Effect n es me.0 me.1 me'.0 me'.1
  EffectBy false n es me me' = (me'.1 ≡ me.1) × (me'.0.hand ≡ me.0.hand) × (me'.0.deeds ≡ me.0.deeds)

  -- what is seen of values that lie in their places goes on
  abbrev pub GrowsSaid : Beside T → Beside T → Type 0
  GrowsSaid w w' = (between : List (Deed (List ℕ))) × (w'.placing.deeds ≡ w.placing.deeds ++ between)

  -- a step added nothing, or all of these, to the seat's own entries, and moved the slots that belong to what it added
  abbrev pub Moves : Bool → (all : List Entry) → Me (Option T) (Beside T) → Me (Option T) (Beside T) → Type 0
  Moves carries all me me' = (es : List Entry) × ((es ≡ []) ⊎ (es ≡ all)) × ((knows me'.0.plain).mine ≡ (knows me.0.plain).mine ++ es) × EffectBy carries (knows me.0.plain).number es me me'
      × GrowsSaid me.0 me'.0

  -- what a seat knows of values is so, by what it has then seen
  abbrev pub KnowsNow : Bool → Layout → Beside T → Type 0
  KnowsNow carries z w = KnowsBy carries z (knows w.plain).seen w

  -- what is seen of values goes on from what was seen, and from what each seat that was taken in had seen
  abbrev pub GrowsBy : Bool → Beside T → Beside T → Type 0
  GrowsBy true w w' = AllBegin (w.deeds ∷ w.others) w'.deeds
  GrowsBy false w w' = w'.deeds ≡ w.deeds

  -- the slots are ready for what a step may add, where values are carried
  abbrev pub IsReadyBy : Bool → (slots me : ℕ) (all : List Entry) → Me (Option T) (Beside T) → Type 0
  IsReadyBy true slots n all me = IsReadyFor slots n all me.0 me.1
  IsReadyBy false slots n all me = Unit {0}

  -- what a step tells of the numbers, which slots moved, and that what the seat then knows of values is so
  abbrev pub TellsBeside : Bool → Layout → (all : List Entry) → (SeatView → ℕ → SeatView → Type 0) → Me (Option T) (Beside T) → ℕ → Me (Option T) (Beside T) → Type 0
  TellsBeside carries z all fact me n me' = (me'.0.plain ≡ seated (knows me'.0.plain)) × fact (knows me.0.plain) n (knows me'.0.plain) × Moves carries all me me' × ∥ KnowsNow carries z me'.0 ∥₁

  -- a step moved no slot, and what was seen of values goes on
  pub record Stays (me me' : Me (Option T) (Beside T)) : Type 0 where
    pub held : me'.1 ≡ me.1
    pub hand : me'.0.hand ≡ me.0.hand
    pub between : List (Deed T)
    pub deeds : me'.0.deeds ≡ me.0.deeds ++ between
    pub said : GrowsSaid me.0 me'.0

  -- what a step tells that adds nothing
  abbrev pub TellsQuiet : Bool → Layout → (SeatView → ℕ → SeatView → Type 0) → Me (Option T) (Beside T) → ℕ → Me (Option T) (Beside T) → Type 0
  TellsQuiet carries z fact me n me' = (me'.0.plain ≡ seated (knows me'.0.plain)) × fact (knows me.0.plain) n (knows me'.0.plain) × Stays me me' × ∥ KnowsNow carries z me'.0 ∥₁

  -- where values lie in their places, what is seen of them goes on from what each seat that was taken in had seen
  abbrev pub GrowsPlaced : Bool → Beside T → Beside T → Type 0
  GrowsPlaced true w w' = AllBegin (w.placing.deeds ∷ w.placing.others) w'.placing.deeds
  GrowsPlaced false w w' = Unit {0}

  -- what two seats that are one are told when they meet: what each then knows of values is so
  abbrev pub MeetsBeside : Bool → Layout → Me (Option T) (Beside T) → Me (Option T) (Beside T) → Type 0
  MeetsBeside carries z me me' = Met z (knows me.0.plain) (knows_second me.0.plain) (plain_me me') × (me'.1 ≡ me.1) × (me'.0.hand ≡ me.0.hand)
      × ∥ KnowsNow carries z (first_beside_of me'.0) ∥₁ × ∥ KnowsNow carries z (second_beside_of me'.0) ∥₁ × GrowsBy carries me.0 me'.0
      × GrowsPlaced z.placed me.0 me'.0

  -- a view that goes on, but with this slot out with its seat
  abbrev pub with_hand : Beside T → maybe.Option ℕ → Beside T
  with_hand w h = record { plain = w.plain; deeds = w.deeds; hand = h; others = w.others; tries = w.tries; placing = w.placing }

  -- the same, after a try at a slot
  abbrev pub with_try : Beside T → maybe.Option ℕ → (slot found : ℕ) → Beside T
  with_try w h slot found = record { plain = w.plain; deeds = w.deeds; hand = h; others = w.others; tries = w.tries ++ record { slot = slot; found = found } ∷ []; placing = w.placing }

  -- a new token gathers, and has taken in none
  abbrev pub OpensBeside : Me (Option T) (Beside T) → Type 0
  OpensBeside me = Opens (plain_me me)

  -- no slot is out with a seat
  abbrev pub HasNone : Me (Option T) (Beside T) → Type 0
  HasNone me = (length me.1 ≡ 0) × (slots_in me.0.hand ≡ 0)

-- the rule of a table, by whether its values lie in their places
abbrev pub HoldsAs : {T : Type 0} → (placed : Bool) → Layout → State (Option T) (Beside T) → Type 0
HoldsAs true z s = HoldsPlaced z (placed_state s)
HoldsAs false z s = HoldsFor z.carries z s

-- the rule of a table, by its plan
abbrev pub HoldsBy : {T : Type 0} → Layout → State (Option T) (Beside T) → Type 0
HoldsBy z s = HoldsAs z.placed z s
