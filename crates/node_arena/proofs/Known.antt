-- What the machine's invariant has of a seat's actor before a line, in either queue: a call that runs needn't carry it.
use Rattle.std.proofs.Common.{◌≡◌, ℕ, ◌≤◌, ◌<◌, Option, Some, IfSome, length, refl, subst}
use Rattle.std.specs.Coded.{Unit-prop}
use Rattle.std.proofs.Math.Logic.{∥∥₁_elim}
use Rattle.std.proofs.Props.{props}
use Rattle.line_table.specs.declared.lines.Kind.{Kind}
use Rattle.line_table.specs.declared.lines.Kind.TheVariants.{TwoLock, NonBlocking}
use Rattle.line_table.specs.declared.lines.Line.{Line}
use Rattle.line_table.specs.declared.lines.Section.{Section}
use Rattle.line_table.specs.declared.lines.Section.TheVariants.{Shut, LockedShut}
use Rattle.line_steps.specs.declared.actors.Setup.{Setup}
use Rattle.line_steps.specs.declared.actors.Held.{Held}
use Rattle.line_steps.specs.Actors.{Actor}
use Rattle.step_machine.specs.Machine.{World, IsReached, actor_of}
use Rattle.step_machine.specs.Range.{RegistersInRange, LineInRange, ActorInRange, WorldInRange}
use Rattle.step_machine.specs.ProgramCounters.{NonNullAt}
use Rattle.step_machine.specs.EachQueue.{raised_at}
use Rattle.step_machine.proofs.Reached.{reached_in_range, actor_in_range}
use Rattle.line_table.specs.Sections.{section_of}
use Rattle.step_machine.proofs.Fixed.{FixedAt, PocketAt}
use Rattle.step_machine.proofs.EitherQueue.{stands_at, fixed_at}
use Rattle.step_machine.proofs.TwoLockLaws as two_lock
use Rattle.step_machine.proofs.NonBlockingLaws as non_blocking
use Rattle.node_arena.specs.Prologues.{Prologue, after_prologue}
use Rattle.node_arena.specs.Arenas.{Arena}
use Rattle.node_arena.specs.declared.seats.Seat.{Seat}
use Rattle.node_arena.specs.Seats.{IsBefore, view}
use Rattle.node_arena.proofs.Tracing.{traced_reached}
use Rattle.node_arena.proofs.There.{Stood, stood}
use Rattle.node_arena.proofs.OneProof.{Held-set}

-- hand, pocket and what is due, the registers that hold nodes, the count that may be raised, and the ranges
pub record Known (z : Setup) (me : ℕ) (a : Actor) (l : Line) : Type 0 where
  pub fixed : FixedAt z.limit me a (Some l)
  pub some : NonNullAt z.bits l a
  pub room : IfSome (raised_at l a) (λ r. r.count < z.limit)
  pub used : ℕ
  pub actors : ℕ
  pub within : used ≤ z.size
  pub registers : RegistersInRange z used actors a
  pub left : LineInRange z.size a.f (Some l)

module _ (w : World) (r : IsReached w) (me : ℕ) (a : Actor) (l : Line) (is : actor_of w me ≡ Some a) (at : a.line ≡ Some l) where
  -- what it raises is below the limit
  raises_below : (k : Kind) → w.setup.kind ≡ k → IfSome (raised_at l a) (λ x. x.count < w.setup.limit)
  raises_below TwoLock e = two_lock.raise_below_the_limit w r e me a l is at
  raises_below NonBlocking e = non_blocking.raise_below_the_limit w r e me a l is at

  -- in a reached world
  pub known : Known w.setup me a l
  known =
      let all : WorldInRange w = reached_in_range w r in
      let own : ActorInRange w.setup w.shared.fresh (length w.actors) a = actor_in_range w me a all is in
      record {
        fixed = fixed_at w r me a l is at;
        some = (stands_at w r me a l is at).1;
        room = raises_below w.setup.kind refl;
        used = w.shared.fresh;
        actors = length w.actors;
        within = all.shared.fresh;
        registers = own.registers;
        left = subst (LineInRange w.setup.size a.f) at own.line;
      }

-- a fact of the actor of a seat that stands before a line, where it has at most one proof
pub by_known : {T : Type 0} {P : Type 0} (r : Arena) (s : Seat T) (prologue : Prologue) (l : Line) → IsBefore r s prologue l → IsProp P
    → (Known r.plan.setup (view s).number (after_prologue r.plan.setup (view s).number prologue (view s).actor) l → P) → P
by_known r s prologue l h one says =
    ∥∥₁_elim h.seat.sits.fitted one (λ fitted.
    let b : Actor = after_prologue r.plan.setup (view s).number prologue (view s).actor in
    let d : Stood r.plan (view s).number b l = stood r.plan (view s) prologue l fitted h.can h.line in
    says (subst (λ (x : Setup). Known x (view s).number b l) d.setup (known d.trace.world (traced_reached d.trace d.reached) (view s).number b l d.here d.line)))

PocketAt-prop : (x : Section) (pocket : Option Held) → IsProp (PocketAt x pocket)
PocketAt-prop Shut pocket = Unit-prop
PocketAt-prop LockedShut pocket = Unit-prop
PocketAt-prop _ pocket = hlevel (props, Held-set)

-- its pocket is empty, but for a shut
pub empty_before : {T : Type 0} (r : Arena) (s : Seat T) (prologue : Prologue) (l : Line) → IsBefore r s prologue l
    → PocketAt (section_of l) (after_prologue r.plan.setup (view s).number prologue (view s).actor).pocket
empty_before r s prologue l h = by_known r s prologue l h (PocketAt-prop (section_of l) _) (λ k. k.fixed.pocket)
