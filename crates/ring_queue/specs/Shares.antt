-- Who pays for the turns that a seat fails.
use Rattle.std.specs.Prelude.{ℕ, ◌+◌, ◌^◌, ◌≤◌, if◌then◌else◌, nat_eq, nat_lt, List, [], ◌∷◌, ◌++◌}
use Rattle.std.specs.List.{sum_by, count_by}
use Rattle.atomic_table.specs.Table.{State}
use Rattle.history.specs.declared.operations.Entry.{Entry}
use Rattle.history.specs.Entries.{is_push, is_pop}
use Rattle.ring_queue.specs.Plans.{Layout}
use Rattle.ring_queue.specs.Paths.{Line, C3, P3, Event, own_path}
use Rattle.ring_queue.specs.Knowledge.{View}
use Rattle.ring_queue.specs.Rule.{Holds}

-- whether at an access others had claimed places of a queue that wasn't shut, as a number
abbrev pub lost_place : Line → (found left : ℕ) → ℕ
lost_place C3 n m = if nat_lt n (2 ^ 62) then (if nat_eq n m then 1 else 0) else 0
lost_place l n m = 0

-- whether at an exchange of Head another had raised it
abbrev pub lost_front : Line → (found left : ℕ) → ℕ
lost_front P3 n m = if nat_eq n m then 1 else 0
lost_front l n m = 0

-- how many accesses of a path were so
abbrev pub lost_on : (Line → ℕ → ℕ → ℕ) → List Event → ℕ
lost_on f es = sum_by (λ e. f e.line e.found e.left) es

-- what took its effect with the accesses of a path
abbrev pub adds_on : List Event → List Entry
adds_on [] = []
adds_on (e ∷ es) = e.adds ++ adds_on es

-- in each state of the rule, on each seat's path: the claims that it lost in a queue that wasn't shut are, with its own pushes, no more
-- than all pushes, so no more than those of others; and the exchanges of Head that it lost are so of pops
abbrev pub OthersPay : Type 0
OthersPay = (z : Layout) (s : State ℕ View) (h : Holds z s) (n : ℕ)
    → (lost_on lost_place (own_path n (h.seats n).ran) + count_by is_push (adds_on (own_path n (h.seats n).ran)) ≤ count_by is_push h.ring.history)
    × (lost_on lost_front (own_path n (h.seats n).ran) + count_by is_pop (adds_on (own_path n (h.seats n).ran)) ≤ count_by is_pop h.ring.history)
