use Rattle.std.proofs.Common.{ℕ, ◌+◌, ◌%◌, ◌<◌, List, get_or, sym, ap, ◌∙◌, subst}
use Rattle.ring_queue.specs.Placed.{storing, value_word}
use Rattle.ring_queue.proofs.PlacedAsks.{asks_store}
use Rattle.ring_queue.proofs.queue.RingQueue.store_part.Goals as goal

pub store-requires : goal.store-requires
store-requires g c =
    let q = c.args.self.now in
    let is = c.requires.1.0 in
    let has = c.requires.1.1.1.1.0 in
    let part = ap (λ (y : List ℕ × ℕ). y.1) is in
    asks_store q.plan q.table.shared.key q.table.shared.table_id c.args.seat.now q.laid c.requires.1.1.1.0 g.due.0 g.due.1 c.args.place _ _ has.0 c.requires.1.1.0 has.1 c.requires.1.1.1.1.1.0
    (subst (λ (k : ℕ). k < q.plan.width) (sym part) c.requires.1.1.1.1.1.1.1) (ap (λ (y : List ℕ × ℕ). get_or y.0 y.1 0) (sym is))
    (c.word_of-word.ensures.value ∙ ap (λ (k : ℕ). value_word q.plan.slots (c.args.place % q.plan.slots) k) (sym part)) c.word_of-word.ensures.within

pub returns-clause-stored : goal.returns-clause-stored
returns-clause-stored g c = c.store.ensures.2.1.0 ∙ ap (λ (y : List ℕ × ℕ). storing y.0 (y.1 + 1)) c.requires.1.0
