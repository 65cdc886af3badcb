-- The handles of a new queue whose calls are stepped.
use Rattle.std.specs.Prelude.{◌≡◌, ◌≢◌, ◌⊎◌, ℕ, ◌+◌, ◌≤◌, max, Bool, List, map, length, replicate, Result, OnOk, OnErr, IfErr}
use Rattle.std.specs.List.{All}
use Rattle.history.specs.declared.refusals.Refusal.TheVariants.{Memory}
use Rattle.carriers.specs.declared.numbered.Numbers.{Numbers}
use Rattle.carriers.specs.declared.queues.Carrier.{Ghosts}
use Rattle.carriers.specs.Numbers.{fifo_of}
use Rattle.shared_queue.specs.declared.share.Share.{Share}
use Rattle.shared_queue.specs.declared.stepped.SteppedQueue.{SteppedQueue}
use Rattle.shared_queue.specs.Sharing.{stepped_at, share_seat}
use Rattle.shared_queue.specs.Stepped.{stepped_queue, capacity_of}
use Rattle.msq_c.specs.declared.share_blocks.ShareBlock.{ShareBlock}
use Rattle.msq_c.specs.declared.share_handles.MsqShare.{MsqShare}
use Rattle.msq_c.specs.declared.troubles.Trouble.{Trouble}
use Rattle.msq_c.specs.declared.troubles.Trouble.TheVariants.{Refused, BadSize, InUse}
use Rattle.msq_c.specs.Made.{Asks, IsNew}
use Rattle.msq_c.specs.Queues.{Queue, SeatOf}
use Rattle.msq_c.specs.Shares.{is_full, block_at}
use Rattle.msq_c.specs.WordEnds.{AreFull, AreEmpty}

-- how many nodes, or places, a queue has with room for so many values, whose calls come from so many handles: a ring one for each
-- value, and two at least, and else one for each value and for each handle, and one that is always in the queue
abbrev pub HasNodes : (kind capacity calls nodes : ℕ) → Type 0
HasNodes kind capacity calls nodes = ((kind ≡ 2) × (nodes ≡ max capacity 2)) ⊎ ((kind ≢ 2) × (nodes ≡ capacity + calls + 1))

-- the number of the role that pushes and pops, for each of so many handles
abbrev pub all_both : ℕ → List ℕ
all_both calls = replicate calls 3

-- these numbers ask for a queue with room for so many values, and for so many handles: there is room for one, and all are in their
-- ranges
pub record AsksShares (kind capacity limit calls : ℕ) : Type 0 where
  pub some : 1 ≤ capacity
  pub nodes : ℕ
  pub sized : HasNodes kind capacity calls nodes
  pub asks : Asks kind nodes limit (all_both calls)

-- what a new queue is, by the numbers that ask for it, and its seats
module _ {C A S : Type 0} {g : Ghosts C A S} (New : (kind nodes limit : ℕ) (roles : List ℕ) → C → List S → Type 0) where
  -- these shares have all the seats of one new queue, in their order, each of which pushes and pops: of the kind with this number, with
  -- room for so many values
  pub record AreNewOf (kind capacity limit calls : ℕ) (shares : List (Share C A S g)) : Type 0 where
    pub asked : AsksShares kind capacity limit calls
    pub queue : SteppedQueue C
    pub room : capacity_of queue ≡ capacity
    pub new : New kind asked.nodes limit (all_both calls) (stepped_queue queue) (map share_seat shares)
    pub one : All (λ s. stepped_at s ≡ queue) shares

-- why no queue is made for so many handles: these numbers ask for none, or memory was refused
abbrev pub RefusesShares : (kind capacity limit calls : ℕ) → Trouble → Type 0
RefusesShares kind capacity limit calls BadSize = AsksShares kind capacity limit calls → ⊥
RefusesShares kind capacity limit calls (Refused refusal) = refusal ≡ Memory
RefusesShares kind capacity limit calls _ = ⊥

module _ {H : Type 0} (holds : H → Bool) where
  -- why handles are not filled: one is full; else these numbers ask for no queue, or memory was refused
  abbrev pub RefusesFilling : (kind capacity limit : ℕ) → List H → Trouble → Type 0
  RefusesFilling kind capacity limit hs InUse = AreEmpty holds hs → ⊥
  RefusesFilling kind capacity limit hs BadSize = AreEmpty holds hs × (AsksShares kind capacity limit (length hs) → ⊥)
  RefusesFilling kind capacity limit hs (Refused refusal) = AreEmpty holds hs × (refusal ≡ Memory)
  RefusesFilling kind capacity limit hs _ = ⊥

  -- handles, each empty before, were made all those of a new queue; refused, they are as they were
  pub record Fills (Made : (kind capacity limit calls : ℕ) → List H → Type 0) (kind capacity limit : ℕ) (hs hs' : List H) (out : Result (Unit {0}) Trouble) : Type 0 where
    pub empty : OnOk out (AreEmpty holds hs)
    pub full : OnOk out (AreFull holds hs')
    pub made : OnOk out (Made kind capacity limit (length hs) hs')
    pub refused : IfErr out (RefusesFilling kind capacity limit hs)
    pub same : OnErr out (hs' ≡ hs)

-- the share of a handle H, which owns such a block, where there is one
abbrev pub share_at : {H C A S : Type 0} {g : Ghosts C A S} (own : H → ShareBlock C A S g) → H → Share C A S g
share_at own h = (own h).share

-- handles, each empty before, have all the shares of a new queue; refused, they are as they were
abbrev pub FillsShares : {H C A S : Type 0} {g : Ghosts C A S} (New : (kind nodes limit : ℕ) (roles : List ℕ) → C → List S → Type 0)
    (holds : H → Bool) (own : H → ShareBlock C A S g) (kind capacity limit : ℕ) (hs hs' : List H) → Result (Unit {0}) Trouble → Type 0
FillsShares New holds own = Fills holds (λ kind capacity limit calls hs. AreNewOf New kind capacity limit calls (map (share_at own) hs))

-- a new queue of numbers of the kind with this number, and its seats
abbrev pub IsNewNumbers : (kind nodes limit : ℕ) (roles : List ℕ) → Numbers Queue → List SeatOf → Type 0
IsNewNumbers kind nodes limit roles q seats = IsNew kind nodes limit roles (fifo_of q) seats

-- handles of a queue of numbers have all the shares of a new one
abbrev pub AnswersShares : (kind capacity limit : ℕ) (hs hs' : List MsqShare) → Result (Unit {0}) Trouble → Type 0
AnswersShares = FillsShares IsNewNumbers is_full block_at
