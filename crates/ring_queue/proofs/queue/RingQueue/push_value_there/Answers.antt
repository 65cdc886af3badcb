use Rattle.std.proofs.Common.{◌≡◌, [], ◌∷◌, Option, Some, ap, sym, subst, ◌∙◌, arith}
use Rattle.history.specs.Seats.{Known}
use Rattle.history.specs.Answers.{Pushed}
use Rattle.ring_queue.specs.Words.{payload}
use Rattle.ring_queue.specs.Steps.{Rests, next_stage}
use Rattle.history.specs.declared.operations.Taken.{Taken}
use Rattle.ring_queue.specs.Knowledge.{SeatView, claimed, known_by}
use Rattle.ring_queue.specs.Seats.{known_of, view}
use Rattle.ring_queue.proofs.Pushing.{lost_by}
use Rattle.ring_queue.proofs.PlacedTurns.{adds_then, same_said}
use Rattle.ring_queue.proofs.queue.RingQueue.push_value_there.Goals as goal

pub store_value-requires-clause-claimed : goal.store_value-requires-clause-claimed
store_value-requires-clause-claimed g c =
    let told = c.claim_for-was.ensures.told.won (c.if-was-tail.true ∙ c.requires.ready.sits.tail) in
    (_, told.0 ∙ ap (λ p. claimed p (Some (record { from = (view c.args.seat.now).number; body = 0 }) ∷ [])) c.if-was-tail.true)

pub store_value-requires-clause-due : goal.store_value-requires-clause-due
store_value-requires-clause-due g c = (c.claim_for-was.ensures.due c.if-was-tail.true).1

pub fill-requires-clause-stored : goal.fill-requires-clause-stored
fill-requires-clause-stored g c placed =
    let told = c.claim_for-was.ensures.told.won (c.if-was-tail.true ∙ c.requires.ready.sits.tail) in
    (c.args.value.now, _, _, ap (λ (v : SeatView). v.stage) c.store_value.ensures.known ∙ told.0, c.store_value.ensures.stored)

pub fill-requires-clause-claimed : goal.fill-requires-clause-claimed
fill-requires-clause-claimed g c =
    let told = c.claim_for-was.ensures.told.won (c.if-was-tail.true ∙ c.requires.ready.sits.tail) in
    let x : Option Taken = Some (record { from = (view c.args.seat.now).number; body = 0 }) in (
      x,
      [],
      ap (λ (v : SeatView). v.stage) c.store_value.ensures.known ∙ (told.0 ∙ ap (λ p. claimed p (x ∷ [])) c.if-was-tail.true),
      c.payload_beside-payload.ensures.value ∙ ap (λ n. payload (Some (record { from = n; body = 0 }))) c.requires.ready.sits.number,
    )

pub returns-then-was-tail-clause-seat : goal.returns-then-was-tail-clause-seat
returns-then-was-tail-clause-seat g c =
    let told = c.claim_for-was.ensures.told.won (c.if-was-tail.true ∙ c.requires.ready.sits.tail) in
    let stage = c.fill.ensures.stage ∙ ap next_stage (ap (λ (v : SeatView). v.stage) c.store_value.ensures.known ∙ told.0) in
    record { sits = c.fill.ensures.seat; rests = subst Rests (sym stage) tt }

pub returns-then-was-tail-clause-says : goal.returns-then-was-tail-clause-says
returns-then-was-tail-clause-says g c =
    let told = (c.claim_for-was.ensures.told.won (c.if-was-tail.true ∙ c.requires.ready.sits.tail)).2 in
    let same : known_of c.fill.new.seat ≡ known_of c.claim_for-was.new.seat = c.fill.ensures.known ∙ ap (λ (v : SeatView). known_by v) c.store_value.ensures.known in
    subst (λ (k : Known). Pushed (known_of c.args.seat.now) 0 k) (sym same) (record { number = told.number; between = told.between; seen = told.seen; mine = told.mine; notes = told.notes })

pub returns-then-was-tail-clause-said : goal.returns-then-was-tail-clause-said
returns-then-was-tail-clause-said g c =
    let q = c.args.self.now in
    let u = c.store_value.new.seat in
    let v = c.fill.new.seat in
    adds_then c.args.seat.now c.claim_for-was.new.seat v _ (c.claim_for-was.ensures.due c.if-was-tail.true).0
    (same_said q.plan q.table.shared.table_id c.requires.placed (q.laid.planned.apart c.requires.placed) u v c.store_value.ensures.seat c.fill.ensures.seat c.fill.ensures.slots (ap (λ k. k.seen) c.fill.ensures.known) ∙ c.store_value.ensures.said)

pub returns-else-was-ge-SHUT-clause-says : goal.returns-else-was-ge-SHUT-clause-says
returns-else-was-ge-SHUT-clause-says g c =
    let small = c.if-was-ge-SHUT.false in
    lost_by c.args.self.now.plan c.args.seat.now c.claim_for-was.new.seat _ _ c.claim_for-was.ensures.told c.requires.ready.sits.tail c.claim_for-was.ensures.seat.tail c.if-was-tail.false (omega (arith, small))
