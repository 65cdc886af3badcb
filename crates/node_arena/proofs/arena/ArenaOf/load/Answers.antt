use Rattle.std.proofs.Common.{sym, subst}
use Rattle.step_machine.specs.Tables.{load_at}
use Rattle.node_arena.specs.Arenas.{arena_of}
use Rattle.node_arena.specs.Seats.{MayStep, DidStep}
use Rattle.node_arena.proofs.Calls.{asks, loaded}
use Rattle.node_arena.proofs.arena.ArenaOf.load.Goals as goal

pub load-requires : goal.load-requires
load-requires g c = rw c.requires.1.1.1.1 (asks (arena_of c.self.inside.plan c.self.inside.table.shared.key c.self.inside.table.shared.table_id)
    c.args.seat.now g.prologue c.args.line (load_at c.args.word) (subst (λ r. MayStep r c.args.seat.now g.prologue c.args.line (load_at c.args.word))
    (sym c.self.view_is) c.requires.1.1.1.0))

pub returns : goal.returns
returns g c = subst (λ r. DidStep r c.args.seat.now (record c.args.seat.now { token = c.load.new.seat }) g.prologue c.args.line c.load.result)
    c.self.view_is (loaded (arena_of c.self.inside.plan c.self.inside.table.shared.key c.self.inside.table.shared.table_id) c.args.seat.now _
    g.prologue c.args.line c.args.word _ (subst (λ r. MayStep r c.args.seat.now g.prologue c.args.line (load_at c.args.word)) (sym c.self.view_is)
    c.requires.1.1.1.0) c.load.ensures)
