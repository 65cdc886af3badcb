-- A queue with any number of callers: its moves, what it reaches by them, and what is to hold of that.
use Rattle.std.specs.Prelude.{◌≡◌, ℕ, suc, ◌+◌, ◌≤◌, Bool, true, false, List, [], ◌∷◌, ◌++◌, map, replicate, ◌⊎◌}
use Rattle.std.specs.List.{sum_by}
use Rattle.calls.specs.declared.calls.Task.TheVariants.{Push}
use Rattle.calls.specs.declared.calls.Bell.{Bell}
use Rattle.calls.specs.declared.calls.Phase.{Phase}
use Rattle.calls.specs.declared.calls.Phase.TheVariants as phase
use Rattle.calls.specs.declared.calls.Call.{Call}
use Rattle.calls.specs.Machine.{started, awaited_by}
use Rattle.calls.specs.Accesses.{Words, words, Side, side, held_in, values_in}
use Rattle.calls.specs.Callers.{Steps, Sleeping, Waking, Caller, caller, Does}
use Rattle.calls.specs.Stances.{stance_to, bell_in}
use Rattle.calls.specs.Bells as one

-- a bell that is this one
pub data IsBell (b : Bell) : Bell → Type 0 where
  that_bell : IsBell b b

-- so many callers that slept for this bell don't sleep any more
pub data RousedAt (b : Bell) : ℕ → List Caller → List Caller → Type 0 where
  none_more : RousedAt b 0 [] []
  this_caller : {n : ℕ} {cs ds : List Caller} {c : Call} {h : ℕ} → IsBell b (awaited_by c.task) → RousedAt b n cs ds
      → RousedAt b (suc n) (caller c h Sleeping ∷ cs) (caller c h Steps ∷ ds)
  not_this_caller : {n : ℕ} {cs ds : List Caller} (x : Caller) → RousedAt b n cs ds → RousedAt b n (x ∷ cs) (x ∷ ds)

-- how many sleep for this bell
abbrev pub sleepers : Bell → List Caller → ℕ
sleepers b cs = sum_by one.asleep (map (stance_to b) cs)

-- a queue, with all its callers
pub record Queue : Type 0 where
  pub at : Words
  pub callers : List Caller

-- one move: a caller does what it may; or it wakes one that sleeps for a bell, or all of them; or a side has one end more; or
-- something that is no call begins to listen, for good, as a descriptor that is polled
pub data Moves : Queue → Queue → Type 0 where
  does : {w w' : Words} {x x' : Caller} (before after : List Caller) → Does w x w' x'
      → Moves (record { at = w; callers = before ++ x ∷ after }) (record { at = w'; callers = before ++ x' ∷ after })
  wakes_one : {w : Words} {ds : List Caller} (c : Call) (h : ℕ) (b : Bell) (n : ℕ) (before after : List Caller)
      → RousedAt b n (before ++ caller c h Steps ∷ after) ds → (n ≡ 1) ⊎ (sleepers b ds ≡ 0)
      → Moves (record { at = w; callers = before ++ caller c h (Waking b false) ∷ after }) (record { at = w; callers = ds })
  wakes_all : {w : Words} {ds : List Caller} (c : Call) (h : ℕ) (b : Bell) (n : ℕ) (before after : List Caller)
      → RousedAt b n (before ++ caller c h Steps ∷ after) ds → sleepers b ds ≡ 0
      → Moves (record { at = w; callers = before ++ caller c h (Waking b true) ∷ after }) (record { at = w; callers = ds })
  sender_joins : {s o : Bool} {v r l n : ℕ} {b : Side} (cs : List Caller)
      → Moves (record { at = words (side v r l (suc n)) b s o; callers = cs })
      (record { at = words (side v r l (suc (suc n))) b s o; callers = cs })
  receiver_joins : {s o : Bool} {m r l n : ℕ} {a : Side} (cs : List Caller)
      → Moves (record { at = words a (side m r l (suc n)) s o; callers = cs })
      (record { at = words a (side m r l (suc (suc n))) s o; callers = cs })
  watches_values : {s o : Bool} {v r l n : ℕ} {b : Side} (cs : List Caller)
      → Moves (record { at = words (side v r l n) b s o; callers = cs })
      (record { at = words (side v r (suc l) n) b s o; callers = cs })
  watches_room : {s o : Bool} {m r l n : ℕ} {a : Side} (cs : List Caller)
      → Moves (record { at = words a (side m r l n) s o; callers = cs })
      (record { at = words a (side m r (suc l) n) s o; callers = cs })

-- a caller that has no call
abbrev pub idle : Caller
idle = caller (record (started Push true) { phase = phase.Finished }) 0 Steps

-- a queue with so many values and so much room, of so many callers that have no call
abbrev pub new_queue : (values room : ℕ) (shut over : Bool) (senders receivers callers : ℕ) → Queue
new_queue v m s o n k count = record { at = words (side v 0 0 n) (side m 0 0 k) s o; callers = replicate count idle }

-- a queue of this capacity is reached: it begins with any values and room of so many, and any number of callers that have no call, and
-- then they move, in any order
pub data IsReached (capacity : ℕ) : Queue → Type 0 where
  first : (values room : ℕ) (shut over : Bool) (senders receivers callers : ℕ) → values + room ≡ capacity
      → IsReached capacity (new_queue values room shut over senders receivers callers)
  next : {q q' : Queue} → IsReached capacity q → Moves q q' → IsReached capacity q'

-- a queue as one of its bells sees it
abbrev pub seen_by : Bell → Queue → one.State
seen_by b q = record { at = bell_in b q.at; calls = map (stance_to b) q.callers }

-- a call that goes on there has a place in hand
abbrev pub place_at : Phase → ℕ
place_at phase.Gives = 1
place_at _ = 0

-- the places in hand of a call: that for which a push took room and has no value there yet, and that whose value a pop took and whose
-- room it has still to give
abbrev pub places_at : (now onward : Phase) → ℕ
places_at phase.Gives onward = 1
places_at phase.GivesBack onward = 1
places_at phase.Unlistens onward = place_at onward
places_at _ onward = 0

-- the places in hand of a caller
abbrev pub in_hand : Caller → ℕ
in_hand (caller c h d) = places_at c.phase c.next

-- values, room and the places in hand are the capacity together
abbrev pub IsExact : (capacity : ℕ) → Queue → Type 0
IsExact capacity q = held_in q.at + sum_by in_hand q.callers ≡ capacity

-- there are no more values than the capacity
abbrev pub Fits : (capacity : ℕ) → Queue → Type 0
Fits capacity q = values_in q.at ≤ capacity
