use Rattle.std.proofs.Common.{IsSome}
use Rattle.node_arena.specs.Seats.{IsReady, pocket_of}
use Rattle.stress.proofs.free_nodes.gives.Given as goal

abbrev pub invariant-loop : goal.invariant-loop
invariant-loop l = IsReady l.arena l.seat × IsSome (pocket_of l.seat)
