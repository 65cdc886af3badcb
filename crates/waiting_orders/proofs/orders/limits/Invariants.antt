use Rattle.std.proofs.Common.{◌≡◌, ◌≤◌, drop, length, reverse}
use Rattle.waiting_orders.specs.Listing.{least, leasts}
use Rattle.waiting_orders.proofs.orders.limits.Given as goal

abbrev pub invariant-loop-place : goal.invariant-loop-place
invariant-loop-place l =
    (reverse l.limits.items ≡ leasts (drop l.place l.operations)) × (l.limit ≡ least (drop l.place l.operations)) × (l.place ≤ length l.operations)

abbrev pub decreases-loop-place : goal.decreases-loop-place
decreases-loop-place l = l.place
