use Rattle.std.proofs.Common.{◌≡◌, map}
use Rattle.msq_c.proofs.new_shares.boxed.Given as goal

abbrev pub invariant-loop-share : goal.invariant-loop-share
invariant-loop-share g l = map (λ b. b.value.share) l.boxes.items ≡ l.yielded
