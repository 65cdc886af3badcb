-- A seat's counters have room: a traced world has made few pushes and pops, and a seat's own are some of them.
use Rattle.std.proofs.Common.{◌+◌, ◌<◌, ◌≤◌, ◌^◌, Bool, true, false, if◌then◌else◌, nat_eq, List, [], ◌∷◌, Option, sym, ap, subst, arith}
use Rattle.std.specs.List.{count_by, filter}
use Rattle.std.specs.Coded.{le_prop}
use Rattle.std.proofs.Math.Logic.{∥∥₁_elim}
use Rattle.atomic_table.specs.declared.shared.Seat.{Seat as Token}
use Rattle.line_table.specs.declared.lines.Line.{Line}
use Rattle.line_table.specs.declared.lines.Line.TheVariants.{E9, D13, A5, B5}
use Rattle.history.specs.declared.operations.Entry.{Entry}
use Rattle.history.specs.Entries.{is_push, is_pop, seat_of}
use Rattle.step_machine.proofs.Few.{one_more, count, count_is, both_more, no_fewer, are_few}
use Rattle.counted_ref.proofs.Words.{count_span_most, span_most}
use Rattle.node_arena.specs.Beside.{Beside}
use Rattle.node_arena.specs.Traces.{Traced, IsTraced}
use Rattle.node_arena.specs.Arenas.{Arena}
use Rattle.node_arena.specs.declared.seats.Seat.{Seat}
use Rattle.node_arena.specs.Knowledge.{SeatView}
use Rattle.node_arena.specs.Plans.{Layout}
use Rattle.node_arena.specs.Rule.{Fitted}
use Rattle.node_arena.specs.Seats.{IsSeat, HasRoom, view}
use Rattle.node_arena.proofs.Tracing.{traced_reached}
use Rattle.node_arena.proofs.Histories.{history_is}

-- what a filter leaves has no more of a kind
filter_fewer : {X : Type 0} (p q : X → Bool) (xs : List X) → count p (filter q xs) ≤ count p xs
filter_fewer p q [] = omega arith
filter_fewer p q (x ∷ xs) = go (q x) (filter_fewer p q xs)
  where
    go : (b : Bool) → count p (filter q xs) ≤ count p xs → count p (if b then x ∷ filter q xs else filter q xs) ≤ one_more (p x) (count p xs)
    go true ih = both_more (p x) (count p (filter q xs)) (count p xs) ih
    go false ih = no_fewer (p x) (count p (filter q xs)) (count p xs) ih

-- the history of a traced world is short
pub history_few : (t : Traced) → IsTraced t → (count_by is_pop t.history ≤ t.world.setup.limit) × (count_by is_push t.history < count_by is_pop t.history + t.world.setup.size)
history_few t r =
    subst (λ es. (count_by is_pop es ≤ t.world.setup.limit) × (count_by is_push es < count_by is_pop es + t.world.setup.size)) (sym (history_is t r)) (are_few t.world (traced_reached t r))

-- a seat has made no more of a kind than the history has
own_fewer : (z : Layout) (v : SeatView) (f : Fitted z v) (p : Entry → Bool) → count_by p v.mine ≤ count_by p f.trace.history
own_fewer z v f p =
    let own : count p v.mine ≤ count p f.trace.history = subst (λ es. count p es ≤ count p f.trace.history) f.fits.own (filter_fewer p (λ e. nat_eq (seat_of e) v.number) f.trace.history) in
    omega (arith, own, count_is p v.mine, count_is p f.trace.history)

-- so a seat's counters have room for one more, also after its table made the step
pub has_room : {T : Type 0} (r : Arena) (s : Seat T) (t : Token (Option T) (Beside T)) → IsSeat r s → (l : Line) → HasRoom (record s { token = t }) l
has_room r s t seat = room
  where
    pops : s.pops + 1 < 2 ^ 64
    pops =
        ∥∥₁_elim seat.sits.fitted le_prop (λ f.
        omega (
          arith,
          own_fewer r.plan (view s) f is_pop,
          (history_few f.trace f.reached).0,
          ap (λ z. z.limit) f.setup,
          seat.sits.pops,
          seat.arena.sized.counted,
          count_span_most r.plan.setup.bits seat.arena.sized.split,
          span_most r.plan.setup.bits seat.arena.sized.split,
        ))

    pushes : s.pushes + 1 < 2 ^ 64
    pushes =
        ∥∥₁_elim seat.sits.fitted le_prop (λ f.
        let few = history_few f.trace f.reached in
        omega (
          arith,
          own_fewer r.plan (view s) f is_push,
          few.0,
          few.1,
          ap (λ z. z.limit) f.setup,
          ap (λ z. z.size) f.setup,
          seat.sits.pushes,
          seat.arena.sized.counted,
          seat.arena.sized.numbered,
          count_span_most r.plan.setup.bits seat.arena.sized.split,
          span_most r.plan.setup.bits seat.arena.sized.split,
        ))

    room : (l : Line) → HasRoom (record s { token = t }) l
    room E9 = pushes
    room A5 = pushes
    room D13 = pops
    room B5 = pops
    room _ = tt
