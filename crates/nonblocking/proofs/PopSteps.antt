-- The bounds of what the lines of a pop write, and what they find.
use Rattle.std.proofs.Common.{◌≡◌, ℕ, ◌<◌, ap, arith}
use Rattle.std.specs.Coded.{le_prop}
use Rattle.counted_ref.specs.Ref.{Ref, ref_of, reserved_node}
use Rattle.line_table.specs.declared.lines.Line.TheVariants.{D2, D3, D4, D5, D10, D12, D13}
use Rattle.node_arena.specs.Machine.{Setup, node_at, WordHead, WordTail, WordNext, WordValue}
use Rattle.node_arena.specs.Prologues.{Prologue, continues, after_prologue}
use Rattle.node_arena.specs.Arenas.{Arena}
use Rattle.node_arena.specs.declared.seats.Seat.{Seat}
use Rattle.node_arena.specs.Seats.{DidStep, view}
use Rattle.node_arena.proofs.Told.{was_fits}
use Rattle.node_arena.proofs.Known.{by_known}
use Rattle.node_arena.proofs.Reading.{read_back, value_parts}
use Rattle.node_arena.specs.Machine.{value_of}
use Rattle.nonblocking.specs.Pops.{Running, CallIsAt}

module _ {T : Type 0} (r : Arena) (s : Seat T) (a : Running) where
  -- the counts that D10 and D13 raise have room
  pub room_d10 : (z : Setup) → z ≡ r.plan.setup → CallIsAt r s continues D10 a → a.tail.count < z.limit
  room_d10 z e h = by_known r s continues D10 h.before le_prop (λ k. omega (arith, k.room, ap (λ (x : Ref). x.count) h.knows.0, ap (λ (y : Setup). y.limit) e))

  pub room_d13 : (z : Setup) → z ≡ r.plan.setup → CallIsAt r s continues D13 a → a.head.count < z.limit
  room_d13 z e h = by_known r s continues D13 h.before le_prop (λ k. omega (arith, k.room, ap (λ (x : Ref). x.count) h.knows.0, ap (λ (y : Setup). y.limit) e))

  -- the nodes that D10 and D13 write
  pub next_d10 : CallIsAt r s continues D10 a → a.next.node < reserved_node r.plan.setup.bits
  next_d10 h = by_known r s continues D10 h.before le_prop (λ k. omega (arith, k.within, k.registers.next.node, ap (λ (x : Ref). x.node) h.knows.1, h.before.seat.arena.sized.numbered))

  pub next_d13 : CallIsAt r s continues D13 a → a.next.node < reserved_node r.plan.setup.bits
  next_d13 h = by_known r s continues D13 h.before le_prop (λ k. omega (arith, k.within, k.registers.next.node, ap (λ (x : Ref). x.node) h.knows.1, h.before.seat.arena.sized.numbered))

module _ {T : Type 0} (r : Arena) (s t : Seat T) (prologue : Prologue) (n : ℕ) where
  -- the references and the value found at the lines that read one
  pub ref_d2 : (d : DidStep r s t prologue D2 n) → ref_of r.plan.setup.bits n ≡ d.told.was.world.shared.head
  ref_d2 d = read_back r.plan.setup.bits d.told.sized.split d.told.was.world.shared.head n (was_fits r.plan prologue D2 n (view s) (view t) d.told WordHead) d.told.found

  pub ref_d3 : (d : DidStep r s t prologue D3 n) → ref_of r.plan.setup.bits n ≡ d.told.was.world.shared.tail
  ref_d3 d = read_back r.plan.setup.bits d.told.sized.split d.told.was.world.shared.tail n (was_fits r.plan prologue D3 n (view s) (view t) d.told WordTail) d.told.found

  pub ref_d4 : (d : DidStep r s t prologue D4 n) → ref_of r.plan.setup.bits n ≡ (node_at d.told.was.world.shared (after_prologue r.plan.setup (view s).number prologue (view s).actor).head.node).next
  ref_d4 d = read_back r.plan.setup.bits d.told.sized.split (node_at d.told.was.world.shared
      (after_prologue r.plan.setup (view s).number prologue (view s).actor).head.node).next n
      (was_fits r.plan prologue D4 n (view s) (view t) d.told (WordNext (after_prologue r.plan.setup (view s).number prologue
      (view s).actor).head.node)) d.told.found

  pub ref_d5 : (d : DidStep r s t prologue D5 n) → ref_of r.plan.setup.bits n ≡ d.told.was.world.shared.head
  ref_d5 d = read_back r.plan.setup.bits d.told.sized.split d.told.was.world.shared.head n (was_fits r.plan prologue D5 n (view s) (view t) d.told WordHead) d.told.found

  pub value_d12 : (d : DidStep r s t prologue D12 n) → (node_at d.told.was.world.shared (after_prologue r.plan.setup (view s).number prologue (view s).actor).next.node).value ≡ value_of n
  value_d12 d =
      let parts = value_parts (node_at d.told.was.world.shared (after_prologue r.plan.setup (view s).number prologue (view s).actor).next.node).value
      n (was_fits r.plan prologue D12 n (view s) (view t) d.told (WordValue (after_prologue r.plan.setup (view s).number prologue
      (view s).actor).next.node)) d.told.found in
      (λ i. record { from = parts.0 i; body = parts.1 i })

  pub ref_d13 : (d : DidStep r s t prologue D13 n) → ref_of r.plan.setup.bits n ≡ d.told.was.world.shared.head
  ref_d13 d = read_back r.plan.setup.bits d.told.sized.split d.told.was.world.shared.head n (was_fits r.plan prologue D13 n (view s) (view t) d.told WordHead) d.told.found
