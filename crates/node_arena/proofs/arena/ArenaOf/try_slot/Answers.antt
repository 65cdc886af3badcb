use Rattle.std.proofs.Common.{◌≡◌, ◌+◌, ◌*◌, ◌<◌, true, sym, subst}
use Rattle.node_arena.specs.Arenas.{Arena, arena_of}
use Rattle.node_arena.specs.Seats.{IsSeat, IsReady, carries_of}
use Rattle.node_arena.proofs.Handing.{asks_try, tried}
use Rattle.node_arena.proofs.arena.ArenaOf.try_slot.Goals as goal

pub compare_exchange-requires : goal.compare_exchange-requires
compare_exchange-requires g c =
    asks_try (arena_of c.self.inside.plan c.self.inside.table.shared.key c.self.inside.table.shared.table_id) c.args.seat.now c.args.slot c.flag-flag.result
    (subst (λ r. IsSeat r c.args.seat.now) (sym c.self.view_is) c.requires.seat)
    (subst (λ r. carries_of r ≡ true) (sym c.self.view_is) c.requires.carries)
    c.requires.none
    (subst (λ (r : Arena). c.args.slot < r.plan.setup.size) (sym c.self.view_is) c.requires.slot)
    (subst (λ (r : Arena). c.flag-flag.result ≡ 48 + 2 * r.plan.setup.size + c.args.slot) (sym c.self.view_is) c.flag-flag.ensures)

pub returns-clause-seat : goal.returns-clause-seat
returns-clause-seat g c =
    subst (λ r. IsSeat r (record c.args.seat.now { token = c.compare_exchange.new.seat })) c.self.view_is
    (tried (arena_of c.self.inside.plan c.self.inside.table.shared.key c.self.inside.table.shared.table_id) c.args.seat.now
    c.compare_exchange.new.seat c.args.slot c.flag-flag.result c.compare_exchange.result
    (subst (λ r. IsSeat r c.args.seat.now) (sym c.self.view_is) c.requires.seat)
    (subst (λ r. carries_of r ≡ true) (sym c.self.view_is) c.requires.carries)
    c.requires.none
    (subst (λ (r : Arena). c.args.slot < r.plan.setup.size) (sym c.self.view_is) c.requires.slot)
    (subst (λ (r : Arena). c.flag-flag.result ≡ 48 + 2 * r.plan.setup.size + c.args.slot) (sym c.self.view_is) c.flag-flag.ensures)
    c.compare_exchange.ensures).0

pub returns-clause-ready : goal.returns-clause-ready
returns-clause-ready g c =
    subst (λ r. IsReady r c.args.seat.now → IsReady r (record c.args.seat.now { token = c.compare_exchange.new.seat })) c.self.view_is
    (tried (arena_of c.self.inside.plan c.self.inside.table.shared.key c.self.inside.table.shared.table_id) c.args.seat.now
    c.compare_exchange.new.seat c.args.slot c.flag-flag.result c.compare_exchange.result
    (subst (λ r. IsSeat r c.args.seat.now) (sym c.self.view_is) c.requires.seat)
    (subst (λ r. carries_of r ≡ true) (sym c.self.view_is) c.requires.carries)
    c.requires.none
    (subst (λ (r : Arena). c.args.slot < r.plan.setup.size) (sym c.self.view_is) c.requires.slot)
    (subst (λ (r : Arena). c.flag-flag.result ≡ 48 + 2 * r.plan.setup.size + c.args.slot) (sym c.self.view_is) c.flag-flag.ensures)
    c.compare_exchange.ensures).1
