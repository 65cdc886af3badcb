-- The roles of a ring's office permit what those of an office permit.
use Rattle.std.proofs.Common.{◌≡◌, refl, ap, ℕ, zero, suc, ◌∷◌}
use Rattle.node_arena.specs.declared.roles.Role.TheVariants.{Giver, Taker}
use Rattle.node_arena.specs.Plans.{permit_of, permits_by}
use Rattle.ring_queue.specs.Plans as ring
use Rattle.post_office.specs.Roles.{office_roles, ring_roles_for}

last_alike : (r : ℕ) → ring.permits_by (ring_roles_for zero r) ≡ permits_by (office_roles zero r)
last_alike zero = refl
last_alike (suc r) = ap (λ ps. permit_of Taker ∷ ps) (last_alike r)

-- seat by seat
pub permits_alike : (s r : ℕ) → ring.permits_by (ring_roles_for s r) ≡ permits_by (office_roles s r)
permits_alike zero r = last_alike r
permits_alike (suc s) r = ap (λ ps. permit_of Giver ∷ ps) (permits_alike s r)
