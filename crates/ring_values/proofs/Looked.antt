-- What a look at a ring tells of deeds: how long it is, and how many pushes it has left.
use Rattle.std.proofs.Common.{◌≡◌, ℕ, ◌+◌, ◌-◌, true, sym, ap, ◌∙◌, arith}
use Rattle.history.specs.Entries.{is_push}
use Rattle.carriers.specs.Deeds.{is_pushing}
use Rattle.node_arena.specs.declared.lengths.Len.{Len}
use Rattle.ring_queue.specs.declared.queue.RingQueue.{RingQueue}
use Rattle.ring_queue.specs.declared.seats.Seat.{Seat}
use Rattle.ring_queue.specs.Lengths.{WasSoLong, pushes_left, LeavesPushes}
use Rattle.ring_queue.specs.Seats.{KeepsSlots, known_of}
use Rattle.ring_queue.specs.Queues.{IsRingSeat}
use Rattle.value_queue.specs.Sights.{IsClear, GoesOn}
use Rattle.value_queue.proofs.Closings.{count-Matches, pushing-is}
use Rattle.value_queue.proofs.Looked.{pops_as, deeds_then, matches_then, run_then, was_then, same_then}
use Rattle.ring_values.specs.Carried.{carries_of}
use Rattle.ring_values.specs.Looks.{WasSoLongOf, pushes_left_of, LeavesPushesOf}
use Rattle.ring_values.specs.ValuesSeen.{sight}
use Rattle.ring_values.specs.Sound.{clear}
use Rattle.ring_values.proofs.Learned.{on}

module _ {T : Type 0} (r : RingQueue T) (carries : carries_of r ≡ true) (s t : Seat T) (is : IsRingSeat r s) (it : IsRingSeat r t) (kept : KeepsSlots s t) where
  first : IsClear (sight s)
  first = clear r carries s is

  last : IsClear (sight t)
  last = clear r carries t it

  more : GoesOn (sight s) (sight t)
  more = on s t kept

  -- how long the ring is
  pub long : (len : Len) → WasSoLong (known_of s) len (known_of t) → WasSoLongOf s t len
  long len h =
      let run = run_then (sight s) (sight t) first last more h.now h.meanwhile in
      let same = same_then (sight s) (sight t) first last more h.now h.meanwhile h.values h.shut h.leads in
      let l = h.least in
      let m = h.most in
      let n = h.near in
      let before = pops_as (sight s) (sight t) first last more (sight s) first in
      let after = pops_as (sight s) (sight t) first last more (sight t) last in
      record {
        now = deeds_then (sight s) (sight t) first last more h.now h.meanwhile;
        meanwhile = was_then (sight s) (sight t) first last more h.now h.meanwhile;
        shut = run.1;
        values = run.0;
        runs = run.2;
        least = omega (arith, l, same.0);
        most = omega (arith, m, same.0);
        near = omega (arith, n, before, after);
      }

  -- and how many pushes it has left
  pub leaves : (left : ℕ) → LeavesPushes r.plan (known_of s) left (known_of t) → LeavesPushesOf r.plan s t left
  leaves left h =
      let ds = deeds_then (sight s) (sight t) first last more h.now h.meanwhile in
      let pushes = count-Matches is_push is_pushing pushing-is h.now ds (matches_then (sight s) (sight t) first last more h.now h.meanwhile) in
      let as_many : pushes_left r.plan h.now ≡ pushes_left_of r.plan ds = ap (λ n. r.plan.limit - (r.plan.slots + n)) (sym pushes) in
      record { now = ds; meanwhile = was_then (sight s) (sight t) first last more h.now h.meanwhile; exact = h.exact ∙ as_many }
