-- The bounds of what the lines of a pop write, and what they find.
use Rattle.std.proofs.Common.{◌≡◌, ℕ, ◌<◌, ap, arith}
use Rattle.std.specs.Coded.{le_prop}
use Rattle.counted_ref.specs.Ref.{Ref, ref_of, reserved_node}
use Rattle.line_table.specs.declared.lines.Line.TheVariants.{B2, B3, B4, B5}
use Rattle.node_arena.specs.Machine.{Setup, node_at, WordHead, WordNext, WordValue}
use Rattle.node_arena.specs.Prologues.{Prologue, continues, after_prologue}
use Rattle.node_arena.specs.Arenas.{Arena}
use Rattle.node_arena.specs.declared.seats.Seat.{Seat}
use Rattle.node_arena.specs.Seats.{DidStep, view}
use Rattle.node_arena.proofs.Told.{was_fits}
use Rattle.node_arena.proofs.Known.{by_known}
use Rattle.node_arena.proofs.Reading.{read_back, value_parts}
use Rattle.node_arena.specs.Machine.{value_of}
use Rattle.two_lock.specs.Pops.{Running, CallIsAt}

-- the count that B5 raises has room
pub room_b5 : {T : Type 0} (r : Arena) (s : Seat T) (a : Running) (z : Setup) → z ≡ r.plan.setup → CallIsAt r s continues B5 a → a.head.count < z.limit
room_b5 r s a z e h = by_known r s continues B5 h.before le_prop (λ k. omega (arith, k.room, ap (λ (x : Ref). x.count) h.knows.0, ap (λ (y : Setup). y.limit) e))

-- the node that B5 writes
pub next_b5 : {T : Type 0} (r : Arena) (s : Seat T) (a : Running) → CallIsAt r s continues B5 a → a.next.node < reserved_node r.plan.setup.bits
next_b5 r s a h = by_known r s continues B5 h.before le_prop (λ k. omega (arith, k.within, k.registers.next.node, ap (λ (x : Ref). x.node) h.knows.1, h.before.seat.arena.sized.numbered))

module _ {T : Type 0} (r : Arena) (s t : Seat T) (prologue : Prologue) (n : ℕ) where
  -- the references and the value found at the lines that read one
  pub ref_b2 : (d : DidStep r s t prologue B2 n) → ref_of r.plan.setup.bits n ≡ d.told.was.world.shared.head
  ref_b2 d = read_back r.plan.setup.bits d.told.sized.split d.told.was.world.shared.head n (was_fits r.plan prologue B2 n (view s) (view t) d.told WordHead) d.told.found

  pub ref_b3 : (d : DidStep r s t prologue B3 n) → ref_of r.plan.setup.bits n ≡ (node_at d.told.was.world.shared (after_prologue r.plan.setup (view s).number prologue (view s).actor).head.node).next
  ref_b3 d = read_back r.plan.setup.bits d.told.sized.split (node_at d.told.was.world.shared
      (after_prologue r.plan.setup (view s).number prologue (view s).actor).head.node).next n
      (was_fits r.plan prologue B3 n (view s) (view t) d.told (WordNext (after_prologue r.plan.setup (view s).number prologue
      (view s).actor).head.node)) d.told.found

  pub value_b4 : (d : DidStep r s t prologue B4 n) → (node_at d.told.was.world.shared (after_prologue r.plan.setup (view s).number prologue (view s).actor).next.node).value ≡ value_of n
  value_b4 d =
      let parts = value_parts (node_at d.told.was.world.shared (after_prologue r.plan.setup (view s).number prologue (view s).actor).next.node).value
      n (was_fits r.plan prologue B4 n (view s) (view t) d.told (WordValue (after_prologue r.plan.setup (view s).number prologue
      (view s).actor).next.node)) d.told.found in
      (λ i. record { from = parts.0 i; body = parts.1 i })
