use Rattle.std.proofs.Common.{◌≡◌, ℕ, ◌%◌, ◌<◌, List, [], ◌∷◌, ◌++◌, length, sym, ap, ◌∙◌, subst, arith}
use Rattle.std.proofs.lemmas.List.{length-take-le, take_more_set}
use Rattle.ring_queue.specs.Placed.{loading, value_word}
use Rattle.ring_queue.proofs.PlacedAsks.{asks_load}
use Rattle.ring_queue.proofs.queue.RingQueue.load_part.Goals as goal

pub load-requires : goal.load-requires
load-requires g c =
    let q = c.args.self.now in
    let sits = c.requires.1.1.0.sits in
    let has = c.requires.1.1.1.1.0 in
    let wide = c.requires.1.1.1.1.1.1.0 in
    let low = c.requires.1.1.1.1.1.1.1 in
    let long : length g.read ≡ c.args.part = ap length c.requires.1.0 ∙ length-take-le c.args.part c.args.value.now (omega (arith, wide, low)) in
    asks_load q.plan q.table.shared.key q.table.shared.table_id c.args.seat.now q.laid c.requires.1.1.1.0 has.0 _ g.read sits has.1 c.requires.1.1.1.1.1.0
    (subst (λ (k : ℕ). k < q.plan.width) (sym long) low)
    (c.word_of-word.ensures.value ∙ (λ i. value_word q.plan.slots (sits.head i % q.plan.slots) (sym long i))) c.word_of-word.ensures.within

pub returns-clause-loaded : goal.returns-clause-loaded
returns-clause-loaded g c =
    let wide = c.requires.1.1.1.1.1.1.0 in
    let low = c.requires.1.1.1.1.1.1.1 in
    c.load.ensures.2.1.0 ∙ ap (λ (ws : List ℕ). loading ws) (ap (λ (ws : List ℕ). ws ++ c.load.result ∷ []) c.requires.1.0 ∙ sym (take_more_set c.args.value.now c.args.part c.load.result (omega (arith, wide, low))))
