-- What looks by a handle of a queue of words answer.
use Rattle.std.specs.Prelude.{◌≡◌, ◌↔◌, Bool, Option, IsNone, IfSome, Result, IfOk, IfErr}
use Rattle.line_table.specs.declared.lines.Kind.TheVariants.{TwoLock}
use Rattle.carriers.specs.declared.queues.Carrier.{Ghosts}
use Rattle.node_arena.specs.declared.emptiness.Emptiness.{Emptiness}
use Rattle.node_arena.specs.declared.seats.Seat.{Seat}
use Rattle.node_arena.specs.Seats.{setup_of}
use Rattle.value_queue.specs.ValuesSeen.{known_by}
use Rattle.value_queue.specs.Looks.{FoundSoOf, WasSoLongOf}
use Rattle.picked.specs.declared.kind_values.AnyValues.{AnyValues}
use Rattle.picked.specs.AnyValues.{arena_of}
use Rattle.msq_c.specs.declared.bounds.MsqLen.{MsqLen}
use Rattle.msq_c.specs.declared.troubles.Trouble.{Trouble}
use Rattle.msq_c.specs.declared.troubles.Trouble.TheVariants.{NoHandle}
use Rattle.msq_c.specs.WordBlocks.{Own, seat_in}
use Rattle.msq_c.specs.WordSeats.{queue_at, KeepsHandle, NeedsHandle}

module _ {T : Type 0} where
  -- a queue of words tells whether it is empty
  abbrev pub TellsEmptiness : AnyValues T → Seat T → Emptiness → Seat T → Type 0
  TellsEmptiness q s told t = FoundSoOf (known_by s) told (known_by t)

  -- a queue of words tells its length between two bounds, and none exactly where it is a two-lock one
  pub record TellsLen (q : AnyValues T) (s : Seat T) (told : Option MsqLen) (t : Seat T) : Type 0 where
    pub none : IsNone told ↔ ((setup_of (arena_of q)).kind ≡ TwoLock)
    pub long : IfSome told (λ len. WasSoLongOf (known_by s) (record { least = len.least; most = len.most }) (known_by t))

module _ {H T : Type 0} {g : Ghosts (AnyValues T) T (Seat T)} (holds : H → Bool) (own : H → Own T g) where
  -- what a look by a handle answers: what the queue tells; it is refused exactly where the handle is empty, with no change
  pub record AnswersLook {A : Type 0} (Told : AnyValues T → Seat T → A → Seat T → Type 0) (h h' : H) (out : Result A Trouble) : Type 0 where
    pub keeps : KeepsHandle holds own h h'
    pub empty : NeedsHandle holds h out
    pub told : IfOk out (λ a. Told (queue_at own h) (seat_in (own h)) a (seat_in (own h')))
    pub refused : IfErr out (λ refusal. (refusal ≡ NoHandle) × (h' ≡ h))
