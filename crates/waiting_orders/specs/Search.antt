-- What a search keeps.
use Rattle.std.specs.Prelude.{◌≡◌, ◌<◌, ◌≤◌, ◌+◌, ℕ, ◌⊎◌, List, [], ◌∷◌, ◌++◌}
use Rattle.std.specs.List.{AllByRecursion}
use Rattle.history.specs.declared.operations.Stamped.{Stamped}
use Rattle.waiting_orders.specs.declared.boards.Board.{Board}
use Rattle.waiting_orders.specs.declared.searching.Found.{Found}
use Rattle.waiting_orders.specs.declared.searching.Found.TheVariants.{Order, Nothing, Room}
use Rattle.waiting_orders.specs.declared.searching.Search.{Search}
use Rattle.waiting_orders.specs.Nodes.{Spot, AreCalls, IsBoard, IsIn, views, Searched}
use Rattle.waiting_orders.specs.Indexed.{places_of}
use Rattle.waiting_orders.specs.Listed.{IsOrderOf}
use Rattle.waiting_orders.specs.Reached.{AreApart, AreTooMany, IsReached, size, sizes}

-- the start is among the states, and each that doesn't wait for a try was tried
abbrev pub IsSearched : Board → Search → Type 0
IsSearched board search = Searched board (views search.done.keys) (views search.ahead.keys)

-- States that were tried, and those that wait for it, are listed once, all are reached from those that were tried, and no more
-- bytes are counted than they take.
pub record IsCounted (board : Board) (done ahead : List Spot) (bytes : ℕ) : Type 0 where
  pub done_apart : AreApart done
  pub ahead_apart : AreApart ahead
  pub new : AllByRecursion (λ u. IsIn u done → ⊥) ahead
  pub done_reached : AllByRecursion (IsReached board.others.items board.pushes.items done) done
  pub ahead_reached : AllByRecursion (IsReached board.others.items board.pushes.items done) ahead
  pub few : bytes ≤ sizes done + sizes ahead

-- the same of a search
abbrev pub IsCountedSearch : Board → Search → Type 0
IsCountedSearch board search = IsCounted board (views search.done.keys) (views search.ahead.keys) search.bytes

-- states that are reached take so many bytes
abbrev pub HasNoRoom : Board → (room : ℕ) → Type 0
HasNoRoom board room = AreTooMany board.others.items board.pushes.items room

-- a state that is known stays where it is; another one goes last, and is counted, where there is room for it
abbrev pub IsPut : (room : ℕ) → (done ahead : List Spot) → (bytes : ℕ) → Spot → (after : List Spot) → (now : ℕ) → Type 0
IsPut room done ahead bytes s after now =
    (IsIn s (done ++ ahead) × (after ≡ ahead) × (now ≡ bytes))
    ⊎ ((IsIn s (done ++ ahead) → ⊥) × (after ≡ ahead ++ s ∷ []) × (bytes < now) × (now ≤ bytes + size s) × (now ≤ room))

-- the same of several, one after another
abbrev pub WerePut : (room : ℕ) → (done ahead : List Spot) → (bytes : ℕ) → (new after : List Spot) → (now : ℕ) → Type 0
WerePut room done ahead bytes [] after now = (after ≡ ahead) × (now ≡ bytes)
WerePut room done ahead bytes (s ∷ new) after now =
    (between : List Spot) × (by : ℕ) × IsPut room done ahead bytes s between by × WerePut room done between by new after now

-- some were put, and for the next one, which isn't known, there is no room
pub record IsFull (room : ℕ) (done ahead : List Spot) (bytes : ℕ) (new : List Spot) : Type 0 where
  pub before : List Spot
  pub last : Spot
  pub later : List Spot
  pub split : new ≡ before ++ last ∷ later
  pub after : List Spot
  pub now : ℕ
  pub put : WerePut room done ahead bytes before after now
  pub unknown : IsIn last (done ++ after) → ⊥
  pub full : room ≤ now + size last

-- an order was found, and something is so of it
abbrev pub WhereOrder : Found → (List ℕ → Type 0) → Type 0
WhereOrder (Order order) P = P order.items
WhereOrder Nothing P = Unit {0}
WhereOrder Room P = Unit {0}

-- an order of a history with these operations
abbrev pub IsOrderOn : Board → List ℕ → Type 0
IsOrderOn board order = AreCalls board → (ops : List Stamped) → IsBoard ops board → (list : List Stamped) × IsOrderOf ops list × (order ≡ places_of list)
