use Rattle.std.proofs.Common.{sym, subst}
use Rattle.step_machine.specs.Tables.{and_at}
use Rattle.node_arena.specs.Arenas.{arena_of}
use Rattle.node_arena.specs.Seats.{MayStep, DidStep}
use Rattle.node_arena.proofs.Calls.{asks, cleared}
use Rattle.node_arena.proofs.arena.ArenaOf.fetch_and.Goals as goal

pub fetch_and-requires : goal.fetch_and-requires
fetch_and-requires g c = rw c.requires.1.1.1.1 (asks (arena_of c.self.inside.plan c.self.inside.table.shared.key c.self.inside.table.shared.table_id)
    c.args.seat.now g.prologue c.args.line (and_at c.args.word c.args.mask) (subst
    (λ r. MayStep r c.args.seat.now g.prologue c.args.line (and_at c.args.word c.args.mask)) (sym c.self.view_is) c.requires.1.1.1.0))

pub returns : goal.returns
returns g c = subst (λ r. DidStep r c.args.seat.now (record c.args.seat.now { token = c.fetch_and.new.seat }) g.prologue c.args.line
    c.fetch_and.result) c.self.view_is (cleared (arena_of c.self.inside.plan c.self.inside.table.shared.key c.self.inside.table.shared.table_id)
    c.args.seat.now _ g.prologue c.args.line c.args.word c.args.mask _ (subst (λ r. MayStep r c.args.seat.now g.prologue c.args.line
    (and_at c.args.word c.args.mask)) (sym c.self.view_is) c.requires.1.1.1.0) c.fetch_and.ensures)
