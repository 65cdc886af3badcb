-- How many pushes the counts of a traced world leave.
use Rattle.std.proofs.Common.{◌≡◌, ℕ, ◌+◌, ◌-◌, ◌/◌, ◌≤◌, ◌∷◌, length, if◌then◌else◌, refl, ap, ◌∙◌, arith}
use Rattle.std.specs.List.{count_by}
use Rattle.std.proofs.lemmas.List.Sums.{sum_by-append}
use Rattle.line_table.specs.declared.lines.Kind.{Kind}
use Rattle.line_table.specs.declared.lines.Kind.TheVariants.{NonBlocking, TwoLock}
use Rattle.history.specs.Entries.{is_push, is_pop}
use Rattle.history.proofs.Sums.{pushes-Leads}
use Rattle.line_steps.specs.declared.actors.Setup.{Setup}
use Rattle.step_machine.specs.Chains.{values_of, is_shut_chain}
use Rattle.step_machine.proofs.Reached.{reached_in_range}
use Rattle.step_machine.proofs.TwoLockCounts.{count_nothing}
use Rattle.step_machine.proofs.EitherQueue.{HasChains, reached_chains}
use Rattle.node_arena.specs.Traces.{Traced, IsTraced}
use Rattle.node_arena.proofs.Tracing.{traced_reached}
use Rattle.node_arena.proofs.Histories.{history_plays, counts_pops}
use Rattle.node_arena.proofs.Rooms.{history_few}
use Rattle.arena_queue.specs.PushesLeft.{pushes_left, GoesOn, TakesFewer, Leaves, EachLasts}
use Rattle.arena_queue.proofs.FreeCounts.{free_counts}
use Rattle.arena_queue.proofs.TailCounts.{tail_counts}
use Rattle.arena_queue.proofs.FreeList.{FreeList, free_list}

-- by a count that is at the limit, what a count left there is used up: plain numbers
module _ (was : Traced) (r : IsTraced was) (free tail head : ℕ) (leaves : Leaves was free tail head) where
  abbrev size : ℕ
  size = was.world.setup.size

  abbrev limit : ℕ
  limit = was.world.setup.limit

  abbrev left : ℕ
  left = pushes_left size free tail head

  by_free : left ≤ (free - size) / 2
  by_free = omega arith

  by_tail : left ≤ tail - 1
  by_tail = omega arith

  by_head : left ≤ head - size
  by_head = omega arith

  module _ (t : Traced) (g : GoesOn was t left) where
    same_limit : t.world.setup.limit ≡ limit
    same_limit = ap (λ (s : Setup). s.limit) g.setup

    pushes : count_by is_push t.history ≡ count_by is_push was.history + count_by is_push g.more
    pushes = ap (count_by is_push) g.history ∙ sum_by-append (λ e. if is_push e then 1 else 0) was.history g.more

    tail_by : (kind : Kind) → was.world.setup.kind ≡ kind → t.world.shared.tail.count ≡ t.world.setup.limit → ⊥
    tail_by NonBlocking k worn =
        omega (arith, worn, same_limit, pushes, g.fewer, by_tail, leaves.of_tail, (tail_counts was r k).1, (tail_counts t g.reached (ap (λ (s : Setup). s.kind) g.setup ∙ k)).0)
    tail_by TwoLock k worn =
        omega (arith, worn, (count_nothing t.world (traced_reached t g.reached) (ap (λ (s : Setup). s.kind) g.setup ∙ k)).0, (reached_in_range t.world (traced_reached t g.reached)).sized.counts)

    head_by : t.world.shared.head.count ≡ t.world.setup.limit → ⊥
    head_by worn =
        let p : HasChains t.world = reached_chains t.world (traced_reached t g.reached) in
        let taken : count_by is_push t.history ≡ count_by is_pop t.history + length (values_of t.world.shared p.rest) =
        pushes-Leads t.history (is_shut_chain t.world.setup.bits t.world.shared (p.front ∷ p.rest)) (values_of t.world.shared p.rest)
        (history_plays t g.reached (p.front ∷ p.rest) p.sound.shape.queue_chain) in
        omega (arith, worn, same_limit, pushes, g.fewer, by_head, leaves.of_head, taken, counts_pops t g.reached, counts_pops was r, (history_few was r).1)

  free_by : (t : Traced) → TakesFewer was t left → t.world.shared.free.count ≡ t.world.setup.limit → ⊥
  free_by t g worn =
      let now : FreeList t.world = free_list t.world (traced_reached t g.reached) in
      let first : FreeList was.world = free_list was.world (traced_reached was r) in
      omega (
        arith,
        worn,
        ap (λ (s : Setup). s.limit) g.setup,
        ap (λ (s : Setup). s.size) g.setup,
        g.taken,
        g.fewer,
        by_free,
        leaves.of_free,
        free_counts t g.reached now.free now.chain,
        now.few,
        free_counts was r first.free first.chain,
      )

pub each_lasts : EachLasts pushes_left
each_lasts was free tail head r leaves =
    record {
      tail = λ t g worn. tail_by was r free tail head leaves t g was.world.setup.kind refl worn;
      head = λ t g worn. head_by was r free tail head leaves t g worn;
      free = λ t g worn. free_by was r free tail head leaves t g worn;
    }
