use Rattle.std.proofs.Common.{◌≡◌, ℕ, [], ◌∷◌, sym, refl, subst, arith}
use Rattle.ring_queue.specs.Steps.{HeadFound}
use Rattle.ring_queue.specs.Seats.{view}
use Rattle.ring_queue.proofs.Lines.{reads_head}
use Rattle.ring_queue.proofs.Calls.{reads}
use Rattle.ring_queue.proofs.Asks.{asks}
use Rattle.ring_queue.proofs.Placing.{own_head}
use Rattle.ring_queue.specs.Rows.{head_line}
use Rattle.ring_queue.proofs.Runs.{ran_read}
use Rattle.ring_queue.specs.Paths.{reading}
use Rattle.ring_queue.specs.Turns.{failed_turns}
use Rattle.ring_queue.proofs.Tries.{tried_one}
use Rattle.ring_queue.proofs.queue.RingQueue.look_at_head.Goals as goal

pub load-seat-requires : goal.load-seat-requires
load-seat-requires g c =
    let q = c.args.self.now in
    let sits = c.requires.sits in
    let words = q.laid.words in
    asks q.plan q.table.shared.key q.table.shared.table_id c.args.seat.now HeadFound q.laid 16 (λ n. n) sits (omega (arith, words)) (own_head q.plan)
    (reads q.plan 16 (view c.args.seat.now) (HeadFound q.plan) (λ ws seats r is run whole knew. reads_head q.plan ws seats r (view c.args.seat.now) is run whole knew c.requires.rests))
    (λ n v' k. ran_read q.plan (head_line (view c.args.seat.now).stage) 16 n (view c.args.seat.now) v' k.went) c.requires.rests

pub returns-clause-tried : goal.returns-clause-tried
returns-clause-tried g c due =
    let s = c.args.seat.now in
    let n : ℕ = c.load-seat.result in
    tried_one s (record { token = c.load-seat.new.seat; number = s.number; role = s.role; head = n; tail = s.tail; near = s.near }) (reading (head_line (view s).stage) 16 n) 1
    c.load-seat.ensures.2.1.learns.number c.load-seat.ensures.2.1.went.0 (subst (λ st. failed_turns (reading (head_line st) 16 n ∷ []) ≡ 1) (sym due) refl)
