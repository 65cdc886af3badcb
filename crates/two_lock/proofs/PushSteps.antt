-- The bounds of what the lines of a push write, and the references that A4 and A5 find.
use Rattle.std.proofs.Common.{◌≡◌, ℕ, ◌<◌, arith}
use Rattle.std.specs.Coded.{le_prop}
use Rattle.counted_ref.specs.Ref.{ref_of, reserved_node}
use Rattle.line_table.specs.declared.lines.Line.{Line}
use Rattle.line_table.specs.declared.lines.Line.TheVariants.{A4, A5}
use Rattle.node_arena.specs.Machine.{Actor, WordTail, WordNext, node_at}
use Rattle.node_arena.specs.Prologues.{Prologue, continues, after_prologue}
use Rattle.node_arena.specs.Arenas.{Arena}
use Rattle.node_arena.specs.declared.seats.Seat.{Seat}
use Rattle.node_arena.specs.Seats.{DidStep, view}
use Rattle.node_arena.proofs.Told.{was_fits}
use Rattle.node_arena.proofs.Known.{by_known}
use Rattle.node_arena.proofs.Reading.{read_back}
use Rattle.two_lock.specs.Pushes.{Running, CallIsAt}

-- the node that A5 and A6 write
pub small_node : {T : Type 0} (r : Arena) (s : Seat T) (a : Running) (l : Line) → CallIsAt r s continues l a → a.node < reserved_node r.plan.setup.bits
small_node r s a l h = by_known r s continues l h.before le_prop (λ k. omega (arith, k.within, k.registers.node, h.hand.node, h.before.seat.arena.sized.numbered))

module _ {T : Type 0} (r : Arena) (s t : Seat T) (prologue : Prologue) (n : ℕ) where
  pub ref_a4 : (d : DidStep r s t prologue A4 n) → ref_of r.plan.setup.bits n ≡ d.told.was.world.shared.tail
  ref_a4 d = read_back r.plan.setup.bits d.told.sized.split d.told.was.world.shared.tail n (was_fits r.plan prologue A4 n (view s) (view t) d.told WordTail) d.told.found

  abbrev c : Actor
  c = after_prologue r.plan.setup (view s).number prologue (view s).actor

  pub ref_a5 : (d : DidStep r s t prologue A5 n) → ref_of r.plan.setup.bits n ≡ (node_at d.told.was.world.shared c.tail.node).next
  ref_a5 d = read_back r.plan.setup.bits d.told.sized.split (node_at d.told.was.world.shared c.tail.node).next n
      (was_fits r.plan prologue A5 n (view s) (view t) d.told (WordNext c.tail.node)) d.told.found
