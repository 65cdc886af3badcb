-- Queues whose last seat receives and whose other seats send.
use Rattle.std.specs.Prelude.{◌≡◌, ℕ, ◌+◌, ◌-◌, ◌^◌, true, false, List, [], ◌∷◌, ◌++◌, length, map, replicate}
use Rattle.std.specs.List.{All}
use Rattle.counted_ref.specs.Ref.{count_bits}
use Rattle.line_table.specs.declared.lines.Kind.{Kind}
use Rattle.history.specs.declared.refusals.Refusal.{Refusal}
use Rattle.history.specs.declared.refusals.Refusal.TheVariants.{Memory, BadSize}
use Rattle.history.specs.Seats.{Permit, Known}
use Rattle.history.specs.Openings.{AreNew}
use Rattle.node_arena.specs.declared.roles.Role.{Role}
use Rattle.node_arena.specs.declared.roles.Role.TheVariants.{Giver, Taker}
use Rattle.node_arena.specs.Plans.{Layout}
use Rattle.ring_queue.specs.declared.queue.RingQueue.{RingQueue}
use Rattle.ring_queue.specs.declared.roles.Role.{Role as RingRole}
use Rattle.ring_queue.specs.declared.roles.Role.TheVariants as ring
use Rattle.ring_queue.specs.declared.seats.Seat.{Seat as RingSeat}
use Rattle.ring_queue.specs.NewRings.{IsMade, RingRefused}
use Rattle.node_arena.specs.NewArenas.{plan, NewRefused}
use Rattle.mailbox.specs.Openings.{CanSend, CanReceive}

-- who may push, and not pop
abbrev pub giver : Permit
giver = record { pushes = true; pops = false }

-- who may pop, and not push
abbrev pub taker : Permit
taker = record { pushes = false; pops = true }

-- so many seats that may push, and then one that may pop
abbrev pub givers_and_taker : ℕ → List Permit
givers_and_taker n = replicate n giver ++ taker ∷ []

-- their roles
abbrev pub giver_and_taker_roles : ℕ → List Role
giver_and_taker_roles n = replicate n Giver ++ Taker ∷ []

-- the same of a ring
abbrev pub ring_roles : ℕ → List RingRole
ring_roles n = replicate n ring.Giver ++ ring.Taker ∷ []

-- a new queue has a seat for each of so many senders, and then one for their receiver, and no others
pub record IsOpened {Q S : Type 0} (is_seat : Q → S → Type 0) (permits : Q → List Permit) (known : S → Known) (n : ℕ) (queue : Q) (senders : List S) (receiver : S) : Type 0 where
  pub permitted : permits queue ≡ givers_and_taker n
  pub new : AreNew (permits queue) (map known (senders ++ receiver ∷ []))
  pub count : length senders ≡ n
  pub each : All (CanSend is_seat permits known queue) senders
  pub last : CanReceive is_seat permits known queue receiver

-- what a queue is made for that carries so many letters of so many senders: its kind, as many nodes as letters and senders,
-- and two more, the greatest count of all, and the roles of the senders and their receiver
abbrev pub mail_plan : Kind → (letters senders : ℕ) → Layout
mail_plan kind letters senders = plan 24 kind (letters + senders + 2) (2 ^ count_bits 24 - 1) (giver_and_taker_roles senders)

-- a new queue is refused for this cause: a size is out of its range, or there was no memory
abbrev pub OpenRefused : Layout → Refusal → Type 0
OpenRefused z BadSize = NewRefused z BadSize
OpenRefused z Memory = Unit {0}
OpenRefused z _ = ⊥

-- a ring was made for senders and their receiver: it has room for so many values, its places go up to the greatest one of all, and these
-- are its seats
abbrev pub IsMailRing : (values senders : ℕ) → RingQueue (Unit {0}) → List (RingSeat (Unit {0})) → Type 0
IsMailRing values senders q seats = IsMade values (2 ^ 62 - 1) (ring_roles senders) q seats

-- a new ring is refused for this cause: a size is out of its range, or there was no memory
abbrev pub OpenRingRefused : (values senders : ℕ) → Refusal → Type 0
OpenRingRefused values senders BadSize = RingRefused false values (2 ^ 62 - 1) (ring_roles senders) BadSize
OpenRingRefused values senders Memory = Unit {0}
OpenRingRefused values senders _ = ⊥
