use Rattle.node_arena.proofs.Deals.{lie_with_flags}
use Rattle.node_arena.proofs.new_arenas.words_at_start.Goals as goal

pub returns : goal.returns
returns c = lie_with_flags c.args.nodes c.args.flags _ _ _ _ (c.in_ok-words.ensures.items_if_clones_equal (λ y e. e)) c.place.ensures c.place-2.ensures c.place-3.ensures
