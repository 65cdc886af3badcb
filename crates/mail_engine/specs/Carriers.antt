-- What carried letters.
use Rattle.std.specs.Prelude.{◌≡◌, ℕ, ◌+◌, List, length, nat_eq, Option}
use Rattle.std.specs.List.{filter}
use Rattle.line_table.specs.declared.lines.Kind.{Kind}
use Rattle.text_io.specs.Numerals.{IsWithin}
use Rattle.history.specs.declared.operations.Taken.{Taken}
use Rattle.history.specs.Seats.{Permit, Known}
use Rattle.history.specs.Values.{popped, OnlyPops}
use Rattle.mail_engine.specs.MailTexts.{SaidLetter}
use Rattle.mailbox.specs.declared.receiver.Receiver.{Receiver}
use Rattle.mailbox.specs.Offices.{queue_in}
use Rattle.node_arena.specs.Arenas.{Arena}
use Rattle.node_arena.specs.declared.seats.Seat.{Seat}
use Rattle.node_arena.specs.Seats.{IsReady, known_of, permits_of, plan_of}
use Rattle.arena_queue.specs.Queues.{arena_of}
use Rattle.mail_engine.specs.declared.engine.Carrier.{Carrier}
use Rattle.mail_engine.specs.declared.engine.Carrier.TheVariants.{TwoLock, NonBlocking, Ring as OverRing}
use Rattle.mail_engine.specs.Rows.{mail_plan, IsMailRing}
use Rattle.line_table.specs.declared.kinds.QueueKind.{QueueKind}
use Rattle.line_table.specs.declared.kinds.QueueKind.TheVariants.{Linked, Ring}
use Rattle.ring_queue.specs.declared.queue.RingQueue.{RingQueue}
use Rattle.ring_queue.specs.declared.seats.Seat.{Seat as RingSeat}
use Rattle.ring_queue.specs.Queues.{IsNumberSeat, permits_in}
use Rattle.ring_queue.specs.Seats.{known_of as ring_known}
use Rattle.mail_engine.specs.Posts.{said_by, IsTextOf}

-- the seat of a receiver
abbrev pub taker_in : {Q S : Type 0} → Receiver Q S → S
taker_in r = r.seat

-- the values of one sender among these, in order
abbrev pub values_of : (sender : ℕ) → List Taken → List Taken
values_of sender values = filter (λ (v : Taken). nat_eq v.from sender) values

-- a seat of a queue, which alone may pop, popped one value for each of these letters: as many of each sender as it has letters
pub record CarriedBy {Q S : Type 0} (is_seat : Q → S → Type 0) (permits : Q → List Permit) (known : S → Known) (senders : ℕ) (letters : List SaidLetter) (queue : Q) (seat : S) : Type 0 where
  pub ready : is_seat queue seat
  pub only : OnlyPops (permits queue) (known seat).number
  pub count : length (popped (known seat).mine) ≡ length letters
  pub each : (sender : ℕ) → IsWithin 1 senders sender → length (values_of sender (popped (known seat).mine)) ≡ length (said_by sender letters)

-- an arena was made for these letters of so many senders and a queue of this kind, and its receiver's seat carried them
pub record Carried (kind : Kind) (senders : ℕ) (letters : List SaidLetter) (arena : Arena) (seat : Seat (Unit {0})) : Type 0 where
  pub made : plan_of arena ≡ mail_plan kind (length letters) senders
  pub carried : CarriedBy IsReady permits_of known_of senders letters arena seat

-- a ring was made for these letters of so many senders, and its receiver's seat carried them
pub record RingCarried (senders : ℕ) (letters : List SaidLetter) (queue : RingQueue (Unit {0})) (seat : RingSeat (Unit {0})) : Type 0 where
  pub seats : List (RingSeat (Unit {0}))
  pub made : IsMailRing (length letters + senders + 2) senders queue seats
  pub carried : CarriedBy IsNumberSeat permits_in ring_known senders letters queue seat

-- a queue of the kind asked for was made for these letters of so many senders, and its receiver's seat carried them
abbrev pub CarriedIn : QueueKind → (senders : ℕ) → List SaidLetter → Carrier → Type 0
CarriedIn (Linked kind) senders letters (TwoLock office receiver) = Carried kind senders letters (arena_of (queue_in office)) (taker_in receiver)
CarriedIn (Linked kind) senders letters (NonBlocking office receiver) = Carried kind senders letters (arena_of (queue_in office)) (taker_in receiver)
CarriedIn Ring senders letters (OverRing office receiver) = RingCarried senders letters (queue_in office) (taker_in receiver)
CarriedIn kind senders letters carrier = ⊥

-- known bytes were the text of letters, which these carried
pub record CarriedText (kind : QueueKind) (given : Option (List ℕ)) (carrier : Carrier) : Type 0 where
  pub senders : ℕ
  pub letters : List SaidLetter
  pub text : IsTextOf given senders letters
  pub carried : CarriedIn kind senders letters carrier
