-- What the accesses of a call do to the seat that makes them, and to the call's value.
use Rattle.std.specs.Prelude.{◌≡◌, ◌⊎◌, Bool, Option, Some, None}
use Rattle.history.specs.declared.refusals.Refusal.{Refusal}
use Rattle.history.specs.declared.refusals.Refusal.TheVariants.{NoNode, WornOut, Closed}
use Rattle.calls.specs.declared.calls.Access.{Access}
use Rattle.calls.specs.declared.calls.Access.TheVariants.{Look, Give, End}
use Rattle.calls.specs.declared.calls.Act.{Act}
use Rattle.calls.specs.declared.calls.Act.TheVariants.{GoOn, Yield}
use Rattle.calls.specs.declared.calls.Bell.TheVariants.{Values, Room}
use Rattle.calls.specs.declared.calls.Code.{Code}
use Rattle.calls.specs.declared.calls.Code.TheVariants as codes
use Rattle.calls.specs.declared.calls.Seen.{Seen}
use Rattle.calls.specs.declared.calls.Seen.TheVariants.{Got, Took, Nothing, Busy, Ended}
use Rattle.calls.specs.declared.calls.Task.TheVariants.{Shut}
use Rattle.calls.specs.Machine.{access_of, advanced}
use Rattle.carriers.specs.declared.items.ItemOf.{ItemOf}
use Rattle.carriers.specs.Knowledge.{KnownOf}
use Rattle.carriers.specs.Answers.{PushedOf, PoppedOf, DidShutOf, FoundEmptyOf, FoundShutOf, FoundShutEmptyOf, SeesMoreOf}
use Rattle.shared_queue.specs.declared.stepped.Asked.{Asked}

-- what a look sees whose try is refused so
abbrev pub seen_of : Refusal → Seen
seen_of NoNode = Nothing
seen_of (WornOut word) = Ended codes.Worn
seen_of Closed = Ended codes.Closed
seen_of _ = Busy

-- why nothing comes any more: by a shut, or the end of a side; or for wear
abbrev pub IsEnd : Code → Type 0
IsEnd codes.Closed = Unit {0}
IsEnd codes.Worn = Unit {0}
IsEnd _ = ⊥

-- a try to take a place sees that it took one, that there is none, or that others were in the way
abbrev pub TakesPlace : Seen → Type 0
TakesPlace Got = ⊥
TakesPlace (Ended code) = ⊥
TakesPlace _ = Unit {0}

module _ {A : Type 0} where
  -- a value was popped, and is the call's now
  pub record HasPopped (k k' : KnownOf A) (value' : Option A) : Type 0 where
    pub front : ItemOf A
    pub value : value' ≡ Some front.value
    pub popped : PoppedOf k front k'

  -- the call's value was pushed, and is the call's no more
  pub record HasPushed (k : KnownOf A) (value : Option A) (k' : KnownOf A) (value' : Option A) : Type 0 where
    pub pushed : A
    pub was : value ≡ Some pushed
    pub gone : value' ≡ None
    pub deed : PushedOf k pushed k'

  -- a look for a value: it was popped; or the queue was found empty, or a pop was refused
  abbrev pub LooksForValue : KnownOf A → Option A → Seen → KnownOf A → Option A → Type 0
  LooksForValue k value Got k' value' = HasPopped k k' value'
  LooksForValue k value Took k' value' = HasPopped k k' value'
  LooksForValue k value Nothing k' value' = (value' ≡ value) × (FoundEmptyOf k k' ⊎ SeesMoreOf k k')
  LooksForValue k value Busy k' value' = (value' ≡ value) × SeesMoreOf k k'
  LooksForValue k value (Ended codes.Closed) k' value' = (value' ≡ value) × (FoundEmptyOf k k' ⊎ FoundShutEmptyOf k k')
  LooksForValue k value (Ended codes.Worn) k' value' = (value' ≡ value) × (FoundEmptyOf k k' ⊎ SeesMoreOf k k')
  LooksForValue k value (Ended _) k' value' = ⊥

  -- a try to push the call's value: it was pushed; or it stays the call's
  abbrev pub TriesToPush : KnownOf A → Option A → Seen → KnownOf A → Option A → Type 0
  TriesToPush k value Got k' value' = HasPushed k value k' value'
  TriesToPush k value Took k' value' = ⊥
  TriesToPush k value (Ended codes.Closed) k' value' = (value' ≡ value) × FoundShutOf k k'
  TriesToPush k value (Ended codes.Worn) k' value' = (value' ≡ value) × SeesMoreOf k k'
  TriesToPush k value (Ended _) k' value' = ⊥
  TriesToPush k value _ k' value' = (value' ≡ value) × SeesMoreOf k k'

  -- a look for room: a place was taken, or it tries to push; or there is an end of room, by a shut that the seat may not have seen
  abbrev pub LooksForRoom : KnownOf A → Option A → Seen → KnownOf A → Option A → Type 0
  LooksForRoom k value Took k' value' = (value' ≡ value) × (k' ≡ k)
  LooksForRoom k value (Ended codes.Closed) k' value' = (value' ≡ value) × (FoundShutOf k k' ⊎ SeesMoreOf k k')
  LooksForRoom k value seen k' value' = TriesToPush k value seen k' value'

  -- a push of the call's value, for which it has a place: it is done, or refused, and never for want of a node
  abbrev pub GivesValue : KnownOf A → Option A → Seen → KnownOf A → Option A → Type 0
  GivesValue k value Nothing k' value' = ⊥
  GivesValue k value seen k' value' = TriesToPush k value seen k' value'

  -- a try to shut the queue: it is shut, or worn out; or others were in the way
  abbrev pub TriesToShut : KnownOf A → Seen → KnownOf A → Type 0
  TriesToShut k Got k' = DidShutOf k k' ⊎ (FoundShutOf k k' ⊎ SeesMoreOf k k')
  TriesToShut k _ k' = SeesMoreOf k k'

  -- what an access did: those to words of the calls alone leave the seat and the value as they were
  abbrev pub Makes : Access → KnownOf A → Option A → Seen → KnownOf A → Option A → Type 0
  Makes (Look Values) k value seen k' value' = LooksForValue k value seen k' value'
  Makes (Look Room) k value seen k' value' = LooksForRoom k value seen k' value'
  Makes (Give Values) k value seen k' value' = GivesValue k value seen k' value'
  Makes (End Shut) k value seen k' value' = (value' ≡ value) × TriesToShut k seen k'
  Makes _ k value seen k' value' = (value' ≡ value) × (k' ≡ k)

  -- accesses of a call, one after another, behind each of which it goes on
  pub data GoesOn (past : Bool) (a : Asked A) (k : KnownOf A) : Asked A → KnownOf A → Type 0 where
    from_here : GoesOn past a k a k
    and_then : {b b' : Asked A} {l l' : KnownOf A} (seen : Seen) → GoesOn past a k b l → Makes (access_of b.call) l b.value seen l' b'.value
        → b'.call ≡ (advanced b.call seen past).0 → (advanced b.call seen past).1 ≡ GoOn → GoesOn past a k b' l'

  -- a step of a call: it goes on until there is something to do, which its last access tells; or it lets others run
  pub data Steps (past : Bool) (a : Asked A) (k : KnownOf A) : Act → Asked A → KnownOf A → Type 0 where
    comes_to : {b b' : Asked A} {l l' : KnownOf A} (seen : Seen) → GoesOn past a k b l → Makes (access_of b.call) l b.value seen l' b'.value
        → b'.call ≡ (advanced b.call seen past).0 → Steps past a k (advanced b.call seen past).1 b' l'
    rests : {b : Asked A} {l : KnownOf A} → GoesOn past a k b l → Steps past a k Yield b l
