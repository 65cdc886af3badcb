use Rattle.std.proofs.Common.{◌+◌, ◌*◌, ◌<◌, sym, subst}
use Rattle.node_arena.specs.Arenas.{Arena, arena_of}
use Rattle.node_arena.specs.Seats.{IsReady}
use Rattle.node_arena.specs.Looks.{Looks}
use Rattle.node_arena.proofs.Looking.{asks_look, looked}
use Rattle.node_arena.proofs.arena.ArenaOf.look.Goals as goal

pub load-requires : goal.load-requires
load-requires g c =
    rw c.place.ensures
    (asks_look (arena_of c.self.inside.plan c.self.inside.table.shared.key c.self.inside.table.shared.table_id) c.args.seat.now c.args.word
    (subst (λ r. IsReady r c.args.seat.now) (sym c.self.view_is) c.requires.ready)
    (subst (λ (r : Arena). c.args.word < 6 + 2 * r.plan.setup.size) (sym c.self.view_is) c.requires.word))

pub returns : goal.returns
returns g c =
    subst (λ r. Looks r c.args.seat.now (record c.args.seat.now { token = c.load.new.seat }) c.args.word c.load.result) c.self.view_is
    (looked (arena_of c.self.inside.plan c.self.inside.table.shared.key c.self.inside.table.shared.table_id) c.args.seat.now c.load.new.seat
    c.args.word c.place.result c.load.result (subst (λ r. IsReady r c.args.seat.now) (sym c.self.view_is) c.requires.ready)
    (subst (λ (r : Arena). c.args.word < 6 + 2 * r.plan.setup.size) (sym c.self.view_is) c.requires.word) c.place.ensures c.load.ensures)
