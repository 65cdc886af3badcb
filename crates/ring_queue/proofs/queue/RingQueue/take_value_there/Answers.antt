use Rattle.std.proofs.Common.{◌≡◌, ◌++◌, sym, subst, ap, ◌∙◌}
use Rattle.history.specs.declared.operations.Taken.{Taken}
use Rattle.history.specs.Seats.{Known}
use Rattle.history.specs.Answers.{Popped}
use Rattle.ring_queue.specs.Seats.{known_of}
use Rattle.ring_queue.specs.Knowledge.{SeatView, known_by, path_of}
use Rattle.ring_queue.specs.PlacedSeats.{PopsSaid}
use Rattle.ring_queue.proofs.Moved.{stays_on}
use Rattle.ring_queue.proofs.Tries.{tried_front}
use Rattle.ring_queue.proofs.PlacedTurns.{front_is, pops_said, then_pops}
use Rattle.ring_queue.proofs.queue.RingQueue.take_value_there.Goals as goal

pub returns-then-raise_for-head-clause-took : goal.returns-then-raise_for-head-clause-took
returns-then-raise_for-head-clause-took g c =
    let q = c.args.self.now in
    let s = c.args.seat.now in
    let t = c.load_value.new.seat in
    let u = c.raise_for.new.seat in
    let told = c.raise_for.ensures.took c.if-raise_for-head.true in
    let front = told.0 in
    let pops = pops_said q.plan q.table.shared.table_id c.requires.placed (q.laid.planned.apart c.requires.placed) t u front c.raise_for.ensures.seat.sits told.3 in
    subst (PopsSaid s u) (sym (front_is front c.load_value.new.value c.taken_of.result (told.1 ∙ sym c.taken_of.ensures) told.2))
    (then_pops s t u front (ap (λ (v : SeatView). v.number) c.load_value.ensures.known) c.load_value.ensures.slots pops)

pub returns-else-raise_for-head-clause-took : goal.returns-else-raise_for-head-clause-took
returns-else-raise_for-head-clause-took g c = stays_on c.args.seat.now c.load_value.new.seat c.raise_for.new.seat c.load_value.ensures.slots c.raise_for.ensures.slots

pub returns-else-raise_for-head-clause-tried : goal.returns-else-raise_for-head-clause-tried
returns-else-raise_for-head-clause-tried g c none =
    let h = tried_front c.args.self.now.plan c.load_value.new.seat c.raise_for.new.seat _ _ c.raise_for.ensures.told (λ e. c.if-raise_for-head.false (e ∙ sym c.load_value.ensures.seat.sits.head)) in
    record { accesses = h.accesses; path = h.path ∙ ap (λ (v : SeatView). path_of v ++ h.accesses) c.load_value.ensures.known; failed = h.failed }

pub returns-then-raise_for-head-clause-taken : goal.returns-then-raise_for-head-clause-taken
returns-then-raise_for-head-clause-taken g c =
    let t = c.load_value.new.seat in
    let told = (c.raise_for.ensures.told.won (c.if-raise_for-head.true ∙ c.load_value.ensures.seat.sits.head)).1 in
    let same : known_of t ≡ known_of c.args.seat.now = ap (λ (v : SeatView). known_by v) c.load_value.ensures.known in
    subst (λ (k : Known). Popped k c.taken_of.result (known_of c.raise_for.new.seat)) same
    (subst (λ (v : Taken). Popped (known_of t) v (known_of c.raise_for.new.seat)) (sym c.taken_of.ensures)
    (record { number = told.number; between = told.between; seen = told.seen; mine = told.mine; notes = told.notes }))
