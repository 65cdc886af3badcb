use Rattle.std.proofs.Common.{sym, subst}
use Rattle.step_machine.specs.Tables.{store_at}
use Rattle.node_arena.specs.Arenas.{arena_of}
use Rattle.node_arena.specs.Seats.{MayStep, DidSome, counting}
use Rattle.node_arena.proofs.Calls.{asks_store, stored}
use Rattle.node_arena.proofs.Rooms.{has_room}
use Rattle.node_arena.proofs.arena.ArenaOf.store.Goals as goal

pub store-requires : goal.store-requires
store-requires g c = rw c.requires.1.1.1.1 (asks_store (arena_of c.self.inside.plan c.self.inside.table.shared.key
    c.self.inside.table.shared.table_id) c.args.seat.now g.prologue c.args.line c.args.word c.args.value
    (subst (λ r. MayStep r c.args.seat.now g.prologue c.args.line (store_at c.args.word c.args.value)) (sym c.self.view_is) c.requires.1.1.1.0))

pub returns : goal.returns
returns g c = rw c.count.ensures (subst (λ r. DidSome r c.args.seat.now (counting (record c.args.seat.now { token = c.store.new.seat }) c.args.line)
    g.prologue c.args.line) c.self.view_is (stored (arena_of c.self.inside.plan c.self.inside.table.shared.key c.self.inside.table.shared.table_id)
    c.args.seat.now _ g.prologue c.args.line c.args.word c.args.value (subst (λ r. MayStep r c.args.seat.now g.prologue c.args.line
    (store_at c.args.word c.args.value)) (sym c.self.view_is) c.requires.1.1.1.0) c.store.ensures))

pub count-requires : goal.count-requires
count-requires g c = has_room (arena_of c.self.inside.plan c.self.inside.table.shared.key c.self.inside.table.shared.table_id) c.args.seat.now
    c.store.new.seat (subst (λ r. MayStep r c.args.seat.now g.prologue c.args.line (store_at c.args.word c.args.value)) (sym c.self.view_is)
    c.requires.1.1.1.0).seat c.args.line
