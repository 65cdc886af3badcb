use Rattle.std.proofs.Common.{◌+◌, ◌*◌, ◌%◌, length, ap, ◌∙◌, sym, arith, refl}
use Rattle.ring_queue.specs.Steps.{NextFound}
use Rattle.ring_queue.specs.Seats.{view}
use Rattle.ring_queue.proofs.Calls.{nexts_there}
use Rattle.ring_queue.proofs.Asks.{asks}
use Rattle.ring_queue.proofs.Placing.{own_slot}
use Rattle.ring_queue.specs.Paths.{P5, reading}
use Rattle.ring_queue.proofs.Runs.{ran_read_at}
use Rattle.ring_queue.proofs.Tries.{tried_one}
use Rattle.ring_queue.proofs.queue.RingQueue.look_next.Goals as goal

pub load-word-requires : goal.load-word-requires
load-word-requires g c =
    let q = c.args.self.now in
    let s = c.args.seat.now in
    let sits = c.requires.1.0.sits in
    let words = q.laid.words in
    let slot = c.slot_of-slot.ensures in
    let within = slot.within in
    let same = c.requires.1.1.1.0 in
    let counted = c.requires.1.1.1.1.0 in
    let few = c.requires.1.1.1.1.1 in
    asks q.plan q.table.shared.key q.table.shared.table_id s (λ y. NextFound y g.before) q.laid (32 + 2 * c.slot_of-slot.result) (λ n. n) sits (omega (arith, words, within)) (own_slot q.plan c.slot_of-slot.result within)
    (nexts_there q.plan (view s) _ g.before c.requires.1.0.rests c.requires.1.1.0 (omega (arith, few, counted, ap length same))
    (ap (λ k. 32 + 2 * k) (slot.value ∙ ap (λ h. h % q.plan.slots) (λ i. sits.head i + (counted ∙ sym (ap length same)) i))))
    (λ n v' k. ran_read_at q.plan P5 (32 + 2 * c.slot_of-slot.result) _ n (view s) v'
    (ap (λ k. 32 + 2 * k) (slot.value ∙ ap (λ h. h % q.plan.slots) (λ i. sits.head i + (counted ∙ sym (ap length same)) i))) k.went) c.requires.1.0.rests

pub returns-then-word-parity_of-clause-tried : goal.returns-then-word-parity_of-clause-tried
returns-then-word-parity_of-clause-tried g c = tried_one _ _ (reading P5 _ _) 0 c.load-word.ensures.2.1.learns.number c.load-word.ensures.2.1.went.0 refl

pub returns-else-word-parity_of-clause-tried : goal.returns-else-word-parity_of-clause-tried
returns-else-word-parity_of-clause-tried g c = tried_one _ _ (reading P5 _ _) 0 c.load-word.ensures.2.1.learns.number c.load-word.ensures.2.1.went.0 refl
