-- That a table is laid out for a plan has at most one proof.
use Rattle.std.specs.Coded.{Coded-set}
use Rattle.std.proofs.Props.{props}
use Rattle.atomic_table.specs.Seated.{TableId}
use Rattle.ring_queue.specs.contracts.roles.Role as role
use Rattle.ring_queue.specs.declared.roles.Role.{Role}
use Rattle.ring_queue.specs.Plans.{Layout, IsTable}

Role-set : IsSet Role
Role-set = Coded-set role.the_row.coded

Layout-set : IsSet Layout
Layout-set = hlevel (props, Role-set)

pub IsTable-prop : (z about : Layout) (t : TableId) → IsProp (IsTable z about t)
IsTable-prop z about t = hlevel (props, Layout-set)
