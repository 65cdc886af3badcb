use Rattle.std.proofs.Common.{◌≡◌, ◌+◌, ◌*◌, None, sym, subst}
use Rattle.node_arena.specs.Arenas.{Arena, arena_of}
use Rattle.node_arena.specs.Seats.{IsSeat, IsReady}
use Rattle.node_arena.specs.Hands.{HasSlot}
use Rattle.node_arena.proofs.Handing.{asks_free, freed}
use Rattle.node_arena.proofs.arena.ArenaOf.free_slot.Goals as goal

pub store-requires : goal.store-requires
store-requires g c =
    asks_free (arena_of c.self.inside.plan c.self.inside.table.shared.key c.self.inside.table.shared.table_id) c.args.seat.now c.args.slot c.flag-flag.result
    (subst (λ r. IsSeat r c.args.seat.now) (sym c.self.view_is) c.requires.seat)
    (subst (λ r. HasSlot r c.args.seat.now c.args.slot None) (sym c.self.view_is) c.requires.has)
    (subst (λ (r : Arena). c.flag-flag.result ≡ 48 + 2 * r.plan.setup.size + c.args.slot) (sym c.self.view_is) c.flag-flag.ensures)

pub returns-clause-seat : goal.returns-clause-seat
returns-clause-seat g c =
    subst (λ r. IsSeat r (record c.args.seat.now { token = c.store.new.seat })) c.self.view_is
    (freed (arena_of c.self.inside.plan c.self.inside.table.shared.key c.self.inside.table.shared.table_id) c.args.seat.now c.store.new.seat c.args.slot
    (subst (λ r. IsSeat r c.args.seat.now) (sym c.self.view_is) c.requires.seat)
    (subst (λ r. HasSlot r c.args.seat.now c.args.slot None) (sym c.self.view_is) c.requires.has)
    c.store.ensures).0

pub returns-clause-ready : goal.returns-clause-ready
returns-clause-ready g c =
    subst (λ r. IsReady r c.args.seat.now → IsReady r (record c.args.seat.now { token = c.store.new.seat })) c.self.view_is
    (freed (arena_of c.self.inside.plan c.self.inside.table.shared.key c.self.inside.table.shared.table_id) c.args.seat.now c.store.new.seat c.args.slot
    (subst (λ r. IsSeat r c.args.seat.now) (sym c.self.view_is) c.requires.seat)
    (subst (λ r. HasSlot r c.args.seat.now c.args.slot None) (sym c.self.view_is) c.requires.has)
    c.store.ensures).1
