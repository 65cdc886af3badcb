-- The bounds of what the lines of a shut write, and what they find.
use Rattle.std.proofs.Common.{◌≡◌, ℕ, ◌<◌, ap, arith}
use Rattle.std.specs.Coded.{le_prop}
use Rattle.counted_ref.specs.Ref.{Ref, ref_of, reserved_node}
use Rattle.line_table.specs.declared.lines.Line.TheVariants.{S1, S2, S3, S4, S5}
use Rattle.node_arena.specs.Machine.{Setup, Actor, node_at, WordTail, WordNext}
use Rattle.node_arena.specs.Prologues.{Prologue, continues, after_prologue}
use Rattle.node_arena.specs.Arenas.{Arena}
use Rattle.node_arena.specs.declared.seats.Seat.{Seat}
use Rattle.node_arena.specs.Seats.{DidStep, view}
use Rattle.node_arena.proofs.Told.{was_fits}
use Rattle.node_arena.proofs.Known.{by_known}
use Rattle.node_arena.proofs.Reading.{read_back}
use Rattle.nonblocking.specs.Shuts.{Running, CallIsAt}

module _ {T : Type 0} (r : Arena) (s : Seat T) (a : Running) where
  -- the counts that S4 and S5 raise have room
  pub room_s4 : (z : Setup) → z ≡ r.plan.setup → CallIsAt r s continues S4 a → a.next.count < z.limit
  room_s4 z e h = by_known r s continues S4 h.before le_prop (λ k. omega (arith, k.room, ap (λ (x : Ref). x.count) h.knows.1, ap (λ (y : Setup). y.limit) e))

  pub room_s5 : (z : Setup) → z ≡ r.plan.setup → CallIsAt r s continues S5 a → a.tail.count < z.limit
  room_s5 z e h = by_known r s continues S5 h.before le_prop (λ k. omega (arith, k.room, ap (λ (x : Ref). x.count) h.knows.0, ap (λ (y : Setup). y.limit) e))

  -- the node that S5 writes
  pub next_s5 : CallIsAt r s continues S5 a → a.next.node < reserved_node r.plan.setup.bits
  next_s5 h = by_known r s continues S5 h.before le_prop (λ k. omega (arith, k.within, k.registers.next.node, ap (λ (x : Ref). x.node) h.knows.1, h.before.seat.arena.sized.numbered))

module _ {T : Type 0} (r : Arena) (s t : Seat T) (prologue : Prologue) (n : ℕ) where
  abbrev c : Actor
  c = after_prologue r.plan.setup (view s).number prologue (view s).actor

  -- the references found at the lines that read one
  pub ref_s1 : (d : DidStep r s t prologue S1 n) → ref_of r.plan.setup.bits n ≡ d.told.was.world.shared.tail
  ref_s1 d = read_back r.plan.setup.bits d.told.sized.split d.told.was.world.shared.tail n (was_fits r.plan prologue S1 n (view s) (view t) d.told WordTail) d.told.found

  pub ref_s2 : (d : DidStep r s t prologue S2 n) → ref_of r.plan.setup.bits n ≡ (node_at d.told.was.world.shared c.tail.node).next
  ref_s2 d = read_back r.plan.setup.bits d.told.sized.split (node_at d.told.was.world.shared c.tail.node).next n
      (was_fits r.plan prologue S2 n (view s) (view t) d.told (WordNext c.tail.node)) d.told.found

  pub ref_s3 : (d : DidStep r s t prologue S3 n) → ref_of r.plan.setup.bits n ≡ d.told.was.world.shared.tail
  ref_s3 d = read_back r.plan.setup.bits d.told.sized.split d.told.was.world.shared.tail n (was_fits r.plan prologue S3 n (view s) (view t) d.told WordTail) d.told.found

  pub ref_s4 : (d : DidStep r s t prologue S4 n) → ref_of r.plan.setup.bits n ≡ (node_at d.told.was.world.shared c.tail.node).next
  ref_s4 d = read_back r.plan.setup.bits d.told.sized.split (node_at d.told.was.world.shared c.tail.node).next n
      (was_fits r.plan prologue S4 n (view s) (view t) d.told (WordNext c.tail.node)) d.told.found
