use mathlib.Core.Bool.{true≢false}
use Rattle.std.proofs.Common.{◌≡◌, ◌+◌, Some, drop, ap, sym, ◌∙◌, arith}
use Rattle.ring_queue.specs.Words.{payload}
use Rattle.ring_queue.specs.Knowledge.{standing}
use Rattle.ring_queue.specs.Steps.{next_stage, contents}
use Rattle.ring_queue.specs.Seats.{known_of}
use Rattle.ring_queue.proofs.Fillings.{fillings_at, number_small}
use Rattle.ring_queue.proofs.queue.RingQueue.fill_all.Goals as goal

pub payload_of-payload-requires : goal.payload_of-payload-requires
payload_of-payload-requires g c = number_small c.args.self.now.plan c.args.self.now.table.shared.table_id c.loop-i.seat c.args.self.now.laid.planned c.loop-i.invariant.sits

pub fill-requires-clause-claimed : goal.fill-requires-clause-claimed
fill-requires-clause-claimed g c =
    let n = (known_of c.args.seat.now).number in
    let sits = c.loop-i.invariant.sits in
    let its : c.loop-i.seat.number ≡ n = sits.number ∙ ap (λ k. k.number) c.loop-i.invariant.known in (
      Some (record { from = n; body = c.index-bodies-i.result }),
      drop (c.loop-i.i + 1) (contents n c.args.bodies.now),
      c.loop-i.invariant.stage ∙ ap (standing (c.args.place + c.loop-i.i)) (fillings_at n c.args.bodies.now c.loop-i.i c.index-bodies-i.result c.loop-i-test.true c.index-bodies-i.is),
      c.payload_of-payload.ensures.value ∙ ap (λ k. payload (Some (record { from = k; body = c.index-bodies-i.result }))) its,
    )

pub loop-i-preserved : goal.loop-i-preserved
loop-i-preserved g c =
    let n = (known_of c.args.seat.now).number in
    let before = c.loop-i.invariant.name in
    let name = c.fill.ensures.name in
    record {
      sits = c.fill.ensures.seat;
      name = record { number = name.number ∙ before.number; role = name.role ∙ before.role };
      places = (c.fill.ensures.places.0 ∙ c.loop-i.invariant.places.0, c.fill.ensures.places.1 ∙ c.loop-i.invariant.places.1);
      known = c.fill.ensures.known ∙ c.loop-i.invariant.known;
      stage = c.fill.ensures.stage
          ∙ ap next_stage (c.loop-i.invariant.stage ∙ ap (standing (c.args.place + c.loop-i.i))
          (fillings_at n c.args.bodies.now c.loop-i.i c.index-bodies-i.result c.loop-i-test.true c.index-bodies-i.is))
          ∙ ap (λ p. standing p (drop (c.loop-i.i + 1) (contents n c.args.bodies.now))) (let e : c.args.place + c.loop-i.i + 1 ≡ c.args.place + (c.loop-i.i + 1) = omega arith in e);
    }

pub fill-requires-clause-stored : goal.fill-requires-clause-stored
fill-requires-clause-stored g c placed = absurd (true≢false (sym placed ∙ c.requires.unplaced))
