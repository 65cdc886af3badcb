-- The bounds of what the lines of a push write, and the references that they find.
use Rattle.std.proofs.Common.{◌≡◌, ℕ, ◌<◌, ap, arith}
use Rattle.std.specs.Coded.{le_prop}
use Rattle.counted_ref.specs.Ref.{Ref, ref_of, reserved_node}
use Rattle.line_table.specs.declared.lines.Line.{Line}
use Rattle.line_table.specs.declared.lines.Line.TheVariants.{E3, E5, E6, E7, E9, E13, E17}
use Rattle.node_arena.specs.Machine.{Setup, Actor, node_at, WordTail, WordNext}
use Rattle.node_arena.specs.Prologues.{Prologue, continues, after_prologue}
use Rattle.node_arena.specs.Arenas.{Arena}
use Rattle.node_arena.specs.declared.seats.Seat.{Seat}
use Rattle.node_arena.specs.Seats.{DidStep, view}
use Rattle.node_arena.proofs.Told.{was_fits}
use Rattle.node_arena.proofs.Known.{by_known}
use Rattle.node_arena.proofs.Reading.{read_back}
use Rattle.nonblocking.specs.Pushes.{Running, CallIsAt}

module _ {T : Type 0} (r : Arena) (s : Seat T) (a : Running) where
  -- the counts that E9, E13 and E17 raise have room
  pub room_e9 : (z : Setup) → z ≡ r.plan.setup → CallIsAt r s continues E9 a → a.next.count < z.limit
  room_e9 z e h = by_known r s continues E9 h.before le_prop (λ k. omega (arith, k.room, ap (λ (x : Ref). x.count) h.knows.1, ap (λ (y : Setup). y.limit) e))

  pub room_e13 : (z : Setup) → z ≡ r.plan.setup → CallIsAt r s continues E13 a → a.tail.count < z.limit
  room_e13 z e h = by_known r s continues E13 h.before le_prop (λ k. omega (arith, k.room, ap (λ (x : Ref). x.count) h.knows.0, ap (λ (y : Setup). y.limit) e))

  pub room_e17 : (z : Setup) → z ≡ r.plan.setup → CallIsAt r s continues E17 a → a.tail.count < z.limit
  room_e17 z e h = by_known r s continues E17 h.before le_prop (λ k. omega (arith, k.room, ap (λ (x : Ref). x.count) h.knows, ap (λ (y : Setup). y.limit) e))

  -- the node that E13 writes
  pub next_e13 : CallIsAt r s continues E13 a → a.next.node < reserved_node r.plan.setup.bits
  next_e13 h = by_known r s continues E13 h.before le_prop (λ k. omega (arith, k.within, k.registers.next.node, ap (λ (x : Ref). x.node) h.knows.1, h.before.seat.arena.sized.numbered))

  -- the node that E9 and E17 write
  pub small_node : (l : Line) → CallIsAt r s continues l a → a.node < reserved_node r.plan.setup.bits
  small_node l h = by_known r s continues l h.before le_prop (λ k. omega (arith, k.within, k.registers.node, h.hand.node, h.before.seat.arena.sized.numbered))

module _ {T : Type 0} (r : Arena) (s t : Seat T) (prologue : Prologue) (n : ℕ) where
  abbrev c : Actor
  c = after_prologue r.plan.setup (view s).number prologue (view s).actor

  -- the references found at the lines that read one
  pub ref_e3 : (d : DidStep r s t prologue E3 n) → ref_of r.plan.setup.bits n ≡ (node_at d.told.was.world.shared c.node).next
  ref_e3 d = read_back r.plan.setup.bits d.told.sized.split (node_at d.told.was.world.shared c.node).next n (was_fits r.plan prologue E3 n (view s) (view t) d.told (WordNext c.node)) d.told.found

  pub ref_e5 : (d : DidStep r s t prologue E5 n) → ref_of r.plan.setup.bits n ≡ d.told.was.world.shared.tail
  ref_e5 d = read_back r.plan.setup.bits d.told.sized.split d.told.was.world.shared.tail n (was_fits r.plan prologue E5 n (view s) (view t) d.told WordTail) d.told.found

  pub ref_e6 : (d : DidStep r s t prologue E6 n) → ref_of r.plan.setup.bits n ≡ (node_at d.told.was.world.shared c.tail.node).next
  ref_e6 d = read_back r.plan.setup.bits d.told.sized.split (node_at d.told.was.world.shared c.tail.node).next n
      (was_fits r.plan prologue E6 n (view s) (view t) d.told (WordNext c.tail.node)) d.told.found

  pub ref_e7 : (d : DidStep r s t prologue E7 n) → ref_of r.plan.setup.bits n ≡ d.told.was.world.shared.tail
  ref_e7 d = read_back r.plan.setup.bits d.told.sized.split d.told.was.world.shared.tail n (was_fits r.plan prologue E7 n (view s) (view t) d.told WordTail) d.told.found

  pub ref_e9 : (d : DidStep r s t prologue E9 n) → ref_of r.plan.setup.bits n ≡ (node_at d.told.was.world.shared c.tail.node).next
  ref_e9 d = read_back r.plan.setup.bits d.told.sized.split (node_at d.told.was.world.shared c.tail.node).next n
      (was_fits r.plan prologue E9 n (view s) (view t) d.told (WordNext c.tail.node)) d.told.found
