-- What Tail counts: the pushes, or all but the last one.
use Rattle.std.proofs.Common.{◌≡◌, ◌+◌, length, arith}
use Rattle.std.specs.List.{count_by}
use Rattle.history.specs.Entries.{is_push, is_pop}
use Rattle.history.proofs.Sums.{pushes-Leads}
use Rattle.node_arena.specs.Traces.{Traced, IsTraced}
use Rattle.node_arena.proofs.Histories.{counts_pops}
use Rattle.node_arena.proofs.TailCounts.{IsLong, is_long}
use Rattle.arena_queue.specs.Counts.{TailCountsPushes}

pub tail_counts : (t : Traced) → IsTraced t → TailCountsPushes 1 t
tail_counts t r kind =
    let l : IsLong t = is_long t r kind in
    let pushes : count_by is_push t.history ≡ count_by is_pop t.history + length l.values = pushes-Leads t.history l.shut l.values l.leads in
    let pops : t.world.shared.head.count ≡ count_by is_pop t.history = counts_pops t r in
    (omega (arith, pushes, pops, l.counts, l.by_one), omega (arith, pushes, pops, l.counts, l.by_one))
