use Rattle.std.proofs.Common.{sym, subst}
use Rattle.step_machine.specs.Tables.{exchange_at}
use Rattle.node_arena.specs.Arenas.{arena_of}
use Rattle.node_arena.specs.Seats.{MayStep, DidStep, counting}
use Rattle.node_arena.proofs.Calls.{asks, won, lost}
use Rattle.node_arena.proofs.Rooms.{has_room}
use Rattle.node_arena.proofs.arena.ArenaOf.exchange.Goals as goal

pub compare_exchange-found-requires : goal.compare_exchange-found-requires
compare_exchange-found-requires g c = rw c.requires.1.1.1.1 (asks (arena_of c.self.inside.plan c.self.inside.table.shared.key
    c.self.inside.table.shared.table_id) c.args.seat.now g.prologue c.args.line (exchange_at c.args.word c.args.old c.args.new)
    (subst (λ r. MayStep r c.args.seat.now g.prologue c.args.line (exchange_at c.args.word c.args.old c.args.new)) (sym c.self.view_is)
    c.requires.1.1.1.0))

pub returns-then-found-old : goal.returns-then-found-old
returns-then-found-old g c = rw c.count.ensures (
  c.if-found-old.true,
  subst (λ r. DidStep r c.args.seat.now
      (counting (record c.args.seat.now { token = c.compare_exchange-found.new.seat }) c.args.line) g.prologue c.args.line
      c.compare_exchange-found.result) c.self.view_is (won (arena_of c.self.inside.plan c.self.inside.table.shared.key
      c.self.inside.table.shared.table_id) c.args.seat.now _ g.prologue c.args.line c.args.word c.args.old c.args.new _
      (subst (λ r. MayStep r c.args.seat.now g.prologue c.args.line (exchange_at c.args.word c.args.old c.args.new)) (sym c.self.view_is)
      c.requires.1.1.1.0) c.compare_exchange-found.ensures c.if-found-old.true),
)

pub returns-else-found-old : goal.returns-else-found-old
returns-else-found-old g c = (
  c.if-found-old.false,
  subst (λ r. DidStep r c.args.seat.now
      (record c.args.seat.now { token = c.compare_exchange-found.new.seat }) g.prologue c.args.line c.compare_exchange-found.result) c.self.view_is
      (lost (arena_of c.self.inside.plan c.self.inside.table.shared.key c.self.inside.table.shared.table_id) c.args.seat.now _ g.prologue c.args.line
      c.args.word c.args.old c.args.new _ (subst (λ r. MayStep r c.args.seat.now g.prologue c.args.line (exchange_at c.args.word c.args.old c.args.new))
      (sym c.self.view_is) c.requires.1.1.1.0) c.compare_exchange-found.ensures c.if-found-old.false),
)

pub count-requires : goal.count-requires
count-requires g c = has_room (arena_of c.self.inside.plan c.self.inside.table.shared.key c.self.inside.table.shared.table_id) c.args.seat.now
    c.compare_exchange-found.new.seat (subst (λ r. MayStep r c.args.seat.now g.prologue c.args.line (exchange_at c.args.word c.args.old c.args.new))
    (sym c.self.view_is) c.requires.1.1.1.0).seat c.args.line
