-- The bounds of what the lines write, and the numbers that they find.
use Rattle.std.proofs.Common.{◌≡◌, ℕ, ◌+◌, ◌^◌, ◌<◌, ◌≤◌, ap, arith}
use Rattle.std.specs.Coded.{le_prop}
use Rattle.counted_ref.specs.Ref.{Ref, ref_of, ref_word, reserved_node, count_bits}
use Rattle.line_table.specs.declared.lines.Line.{Line}
use Rattle.line_table.specs.declared.lines.Line.TheVariants.{N1, N3, N4, N5, F2, F3}
use Rattle.node_arena.specs.Machine.{Setup, node_at, WordFree, WordNext}
use Rattle.node_arena.specs.Prologues.{Prologue, continues, after_prologue}
use Rattle.node_arena.specs.Arenas.{Arena}
use Rattle.node_arena.specs.declared.seats.Seat.{Seat}
use Rattle.node_arena.specs.Seats.{DidStep, view}
use Rattle.node_arena.proofs.Told.{was_in_range, was_fits}
use Rattle.node_arena.proofs.Known.{by_known}
use Rattle.node_arena.proofs.Reading.{read_back}
use Rattle.free_list.specs.Registers.{Running}
use Rattle.free_list.specs.Runs.{CallIsAt}

module _ {T : Type 0} (r : Arena) (s : Seat T) (a : Running) where
  -- the counts that N4 and F3 raise have room
  pub room_n4 : (z : Setup) → z ≡ r.plan.setup → CallIsAt r s continues N4 a → a.top.count < z.limit
  room_n4 z e h = by_known r s continues N4 h.before le_prop (λ k. omega (arith, k.room, ap (λ (x : Ref). x.count) h.knows.0, ap (λ (y : Setup). y.limit) e))

  pub room_f3 : (z : Setup) → z ≡ r.plan.setup → CallIsAt r s continues F3 a → a.top.count < z.limit
  room_f3 z e h = by_known r s continues F3 h.before le_prop (λ k. omega (arith, k.room, ap (λ (x : Ref). x.count) h.knows.1, ap (λ (y : Setup). y.limit) e))

  -- a node is left at N5
  pub left_n5 : CallIsAt r s continues N5 a → a.f + 1 < reserved_node r.plan.setup.bits
  left_n5 h = by_known r s continues N5 h.before le_prop (λ k. omega (arith, k.left, h.knows, h.before.seat.arena.sized.numbered))

  -- the node and the mark that F2 writes, and the node that F3 does
  pub top_f2 : CallIsAt r s continues F2 a → a.top.node < reserved_node r.plan.setup.bits
  top_f2 h = by_known r s continues F2 h.before le_prop (λ k. omega (arith, k.within, k.registers.top.node, ap (λ (x : Ref). x.node) h.knows.1, h.before.seat.arena.sized.numbered))

  pub mark_f2 : CallIsAt r s continues F2 a → a.mark < 2 ^ count_bits r.plan.setup.bits
  mark_f2 h = by_known r s continues F2 h.before le_prop (λ k. omega (arith, k.registers.mark, h.knows.0.mark, h.before.seat.arena.sized.counted))

  pub node_f3 : CallIsAt r s continues F3 a → a.node < reserved_node r.plan.setup.bits
  node_f3 h = by_known r s continues F3 h.before le_prop (λ k. omega (arith, k.within, k.registers.node, h.knows.0.node, h.before.seat.arena.sized.numbered))

module _ {T : Type 0} (r : Arena) (s t : Seat T) (prologue : Prologue) (n : ℕ) where
  pub fresh_small : DidStep r s t prologue N1 n → n ≤ r.plan.setup.size
  fresh_small d = let h = (was_in_range r.plan prologue N1 n (view s) (view t) d.told).shared.fresh in let e = d.told.found in let z = ap (λ z. z.size) d.told.setup in omega arith

  pub taken_small : DidStep r s t prologue N5 n → n ≤ r.plan.setup.size
  taken_small d = let h = (was_in_range r.plan prologue N5 n (view s) (view t) d.told).shared.fresh in let e = d.told.found in let z = ap (λ z. z.size) d.told.setup in omega arith

  -- the references found at the lines that read one: Free, and what follows its first node
  pub ref_free : (l : Line) (d : DidStep r s t prologue l n) → n ≡ ref_word r.plan.setup.bits d.told.was.world.shared.free → ref_of r.plan.setup.bits n ≡ d.told.was.world.shared.free
  ref_free l d e = read_back r.plan.setup.bits d.told.sized.split d.told.was.world.shared.free n (was_fits r.plan prologue l n (view s) (view t) d.told WordFree) e

  pub ref_n3 : (d : DidStep r s t prologue N3 n) → ref_of r.plan.setup.bits n ≡ (node_at d.told.was.world.shared (after_prologue r.plan.setup (view s).number prologue (view s).actor).top.node).next
  ref_n3 d =
      let top = (after_prologue r.plan.setup (view s).number prologue (view s).actor).top.node in
      read_back r.plan.setup.bits d.told.sized.split (node_at d.told.was.world.shared top).next n (was_fits r.plan prologue N3 n (view s) (view t) d.told (WordNext top)) d.told.found
