-- A queue that is found empty: where what follows Head's node is null, the history leaves it empty, and where that is a closed
-- end, it leaves it empty and shut.
use Rattle.std.proofs.Common.{◌≡◌, ◌<◌, true, [], ◌∷◌, sym, ap, subst, ◌∙◌, length}
use Rattle.counted_ref.specs.Ref.{reserved_node}
use Rattle.history.specs.Queue.{empty}
use Rattle.history.specs.Entries.{Plays, Leads}
use Rattle.line_steps.specs.Memory.{Shared, node_at}
use Rattle.step_machine.specs.Places.{IsQueueChain}
use Rattle.step_machine.specs.Chains.{values_of, is_shut_chain}
use Rattle.step_machine.proofs.Chains.{next_in, alone_at_end, shut_alone, empty_behind}
use Rattle.step_machine.proofs.Reached.{few_nodes}
use Rattle.node_arena.specs.Traces.{Traced, IsTraced}
use Rattle.node_arena.proofs.Tracing.{traced_reached}
use Rattle.node_arena.proofs.Histories.{history_plays}
use Rattle.step_machine.proofs.EitherQueue.{HasChains, reached_chains}

module _ (t : Traced) (r : IsTraced t) where
  abbrev p : HasChains t.world
  p = reached_chains t.world (traced_reached t r)

  chain : IsQueueChain t.world.setup.bits t.world.shared.nodes t.world.shared.head.node (p.front ∷ p.rest)
  chain = p.sound.shape.queue_chain

  -- where what follows Head's node is null, the history leaves the empty queue
  pub leaves_nothing : (node_at t.world.shared t.world.shared.head.node).next.node ≡ 0 → Plays empty t.history empty
  leaves_nothing none =
      subst (Plays empty t.history) (empty_behind t.world.setup.bits t.world.shared p.front p.rest (few_nodes t.world (traced_reached t r)) chain
      (ap (next_in t.world.shared.nodes) (sym chain.0) ∙ none))
      (history_plays t r (p.front ∷ p.rest) chain)

  -- where it is a closed end, the history leaves it empty and shut
  pub leaves_shut : (node_at t.world.shared t.world.shared.head.node).next.node ≡ reserved_node t.world.setup.bits → Leads t.history true []
  leaves_shut closed =
      let m : Shared = t.world.shared in
      let few : length m.nodes < reserved_node t.world.setup.bits = few_nodes t.world (traced_reached t r) in
      let behind : next_in m.nodes p.front ≡ reserved_node t.world.setup.bits = ap (next_in m.nodes) (sym chain.0) ∙ closed in
      let alone : p.rest ≡ [] = alone_at_end t.world.setup.bits m.nodes m.head.node p.front p.rest few chain behind in
      let shut : is_shut_chain t.world.setup.bits m (p.front ∷ p.rest) ≡ true = shut_alone t.world.setup.bits m m.head.node p.front p.rest few chain behind in
      subst (Plays empty t.history) (λ i. record { values = values_of m (alone i); shut = shut i }) (history_plays t r (p.front ∷ p.rest) chain)
