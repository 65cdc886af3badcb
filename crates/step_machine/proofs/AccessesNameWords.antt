-- In a reached world each access names a word of the table; and an access that does is one step on its place.
use Rattle.std.proofs.Common.{◌≡◌, ◌≢◌, ◌⊎◌, inl, inr, ℕ, ◌≤◌, length, arith}
use Rattle.step_machine.specs.Below.{Line, N3, F2, E2, E3, E6, E9, D4, D12, A1, A2, A5, B3, B4, S2, S4, S8, reserved_node, Setup, Actor, Shared, word, action}
use Rattle.step_machine.specs.Words.{IsWord}
use Rattle.step_machine.specs.Machine.{World, IsReached}
use Rattle.step_machine.specs.Range.{SharedInRange, RegistersInRange, WorldInRange}
use Rattle.step_machine.specs.ProgramCounters.{NonNullAt, EachNamesAWord}
use Rattle.step_machine.specs.Tables.{OfEachNextAccess, IsOneStep}
use Rattle.step_machine.proofs.Reached.{actor_in_range, reached_in_range}
use Rattle.step_machine.proofs.Tables.{one_step}
use Rattle.step_machine.proofs.Fits.{shared_fits, access_fits}
use Rattle.step_machine.proofs.EitherQueue.{stands_at}

-- a line that uses registers as nodes names words of these nodes
pub names_a_word : (s : Setup) (k me : ℕ) (m : Shared) (a : Actor) (l : Line) → SharedInRange s k m → RegistersInRange s m.fresh k a → NonNullAt s.bits l a → IsWord m (word (action s me a l))
names_a_word s k me m a l g r h = go l h
  where
    within : (n : ℕ) → 1 ≤ n → n ≤ m.fresh → (1 ≤ n) × (n ≤ length m.nodes)
    within n some used =
        let fresh : m.fresh ≤ s.size = g.fresh in
        let all : length m.nodes ≡ s.size = g.all_nodes in
        (some, omega arith)

    is_node : (a.next.node ≤ m.fresh) ⊎ (a.next.node ≡ reserved_node s.bits) → a.next.node ≢ reserved_node s.bits → a.next.node ≤ m.fresh
    is_node (inl low) other = low
    is_node (inr e) other = absurd (other e)

    go : (l : Line) → NonNullAt s.bits l a → IsWord m (word (action s me a l))
    go N3 h = within a.top.node h r.top.node
    go F2 h = within a.node h r.node
    go E2 h = within a.node h r.node
    go E3 h = within a.node h r.node
    go E6 h = within a.tail.node h.1 r.tail.node
    go E9 h = within a.tail.node h.1 r.tail.node
    go D4 h = within a.head.node h.0 r.head.node
    go D12 h = within a.next.node h.1 (is_node r.next.node h.2)
    go A1 h = within a.node h r.node
    go A2 h = within a.node h r.node
    go A5 h = within a.tail.node h.1 r.tail.node
    go B3 h = within a.head.node h r.head.node
    go B4 h = within a.next.node h.1 (is_node r.next.node h.2)
    go S2 h = within a.tail.node h r.tail.node
    go S4 h = within a.tail.node h r.tail.node
    go S8 h = within a.tail.node h r.tail.node
    go _ h = tt

-- what an actor accesses next is a word of the table
pub each_access_names_a_word : (w : World) → IsReached w → EachNamesAWord w
each_access_names_a_word w r me a l is at =
    let h : WorldInRange w = reached_in_range w r in
    names_a_word w.setup (length w.actors) me w.shared a l h.shared (actor_in_range w me a h is).registers (stands_at w r me a l is at).1

-- each access that names a word is one step on the place of that word
pub accesses_are_one_step : (w : World) → IsReached w → EachNamesAWord w → OfEachNextAccess w (IsOneStep w.setup.bits w.shared)
accesses_are_one_step w r names me a l there at =
    let h : WorldInRange w = reached_in_range w r in
    one_step w.setup.bits h.sized.split w.shared (action w.setup me a l) (names me a l there at) (shared_fits w h (word (action w.setup me a l))) (access_fits w me a l h there at)
