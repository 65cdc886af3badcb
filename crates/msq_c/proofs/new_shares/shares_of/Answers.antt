use Rattle.std.proofs.Common.{◌∙◌, sym, ap, subst, ℕ, List, length, arith}
use Rattle.std.specs.List.{All}
use Rattle.shared_queue.specs.Seats.{IsBoth}
use Rattle.msq_c.specs.Made.{Asks}
use Rattle.msq_c.proofs.NewShares.{no_room, no_nodes, no_shares, are_new, as_many}
use Rattle.msq_c.proofs.new_shares.shares_of.Goals as goal

pub returns-then-capacity-eq0-clause-refused : goal.returns-then-capacity-eq0-clause-refused
returns-then-capacity-eq0-clause-refused g c = no_room c.args.kind c.args.capacity c.args.limit c.args.count c.if-capacity-eq0.true

pub returns-in_default-clause-refused : goal.returns-in_default-clause-refused
returns-in_default-clause-refused g c = no_nodes c.args.kind c.args.capacity c.args.limit c.args.count c.in_default.ensures.none.0 c.in_default.ensures.none.1

pub returns-then-not-are_asked-clause-refused : goal.returns-then-not-are_asked-clause-refused
returns-then-not-are_asked-clause-refused g c = no_shares c.args.kind c.args.capacity c.args.limit c.args.count c.in-Some.nodes c.deref.result.now c.in-Some.ensures.nodes
    (c.deref.ensures.value ∙ c.in_ok-roles.ensures.roles) c.if-not-are_asked.ensures

pub deal-requires-after_bounds : goal.deal-requires-after_bounds
deal-requires-after_bounds g c κs lives = subst (λ q. All (IsBoth g.C.Carrier.is_seat g.C.Carrier.permits g.C.Carrier.known q) c.in_ok-queue.seats.items) (sym c.new-stepped.ensures.queue)
    (c.in_ok-queue.ensures.both c.args.count (c.deref-2.ensures.value ∙ c.in_ok-roles.ensures.roles))

pub returns-clause-made : goal.returns-clause-made
returns-clause-made g c = are_new g.C.NewQueue.is_new c.args.kind c.args.capacity c.args.limit c.args.count c.in-Some.nodes c.in_ok-roles.roles.items c.in_ok-roles.ensures.roles
    c.in_ok-queue.seats.items c.in-Ok.shares.items c.in-Ok.ensures.seats c.in_ok-queue.queue c.new-stepped.result (omega (arith, c.if-capacity-eq0.false)) c.in-Some.ensures.nodes
    (subst (Asks c.args.kind c.in-Some.nodes c.args.limit) c.deref.ensures.value c.if-not-are_asked.ensures) c.new-stepped.ensures.queue (c.new-stepped.ensures.capacity ∙ c.from.ensures)
    (subst (λ (rs : List ℕ). g.C.NewQueue.is_new c.args.kind c.in-Some.nodes c.args.limit rs c.in_ok-queue.queue c.in_ok-queue.seats.items) c.deref-2.ensures.value c.in_ok-queue.ensures.new)
    c.in-Ok.ensures.queue

pub returns-clause-len : goal.returns-clause-len
returns-clause-len g c = as_many g.C.NewQueue.is_new c.args.kind c.args.capacity c.args.limit c.args.count c.in-Some.nodes c.in_ok-roles.roles.items c.in_ok-roles.ensures.roles
    c.in_ok-queue.seats.items c.in-Ok.shares.items c.in-Ok.ensures.seats (c.in_ok-queue.ensures.len ∙ ap length c.deref-2.ensures.value)
