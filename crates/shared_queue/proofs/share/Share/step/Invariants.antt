-- It went on so far.
use Rattle.std.proofs.Common.{◌≡◌}
use Rattle.shared_queue.specs.Sharing.{stepped_at, share_seat}
use Rattle.shared_queue.specs.Steps.{GoesOn}
use Rattle.shared_queue.proofs.share.Share.step.Given as goal

abbrev pub invariant-loop : goal.invariant-loop
invariant-loop g l = record {
  queue : stepped_at l.self ≡ stepped_at l.initial.self;
  number : (g.C.Carrier.known (share_seat l.self)).number ≡ (g.C.Carrier.known (share_seat l.initial.self)).number;
  goes : GoesOn l.fn.past l.initial.asked (g.C.Carrier.known (share_seat l.initial.self)) l.asked (g.C.Carrier.known (share_seat l.self));
}
