use Rattle.std.proofs.Common.{refl, ap, ◌∙◌}
use Rattle.counted_ref.specs.Ref.{Ref}
use Rattle.line_steps.specs.declared.actors.Setup.{Setup}
use Rattle.node_arena.specs.Seats.{view}
use Rattle.arena_queue.proofs.Lefts.{free_within, tail_within, head_within, has_left}
use Rattle.arena_queue.proofs.queue.ArenaQueueOf.left.Goals as goal

pub overflow_sub-free : goal.overflow_sub-free
overflow_sub-free g c =
    free_within c.args.self.now.arena.plan 1 c.look.result (view c.args.seat.now) (view c.look.new.seat) c.look.ensures.told refl
    c.setup-setup.result.limit c.count.result (ap (λ (s : Setup). s.limit) c.setup-setup.ensures.value)
    (c.count.ensures.value ∙ ap (λ (r : Ref). r.count) c.reference.ensures)

pub overflow_sub-tail : goal.overflow_sub-tail
overflow_sub-tail g c =
    tail_within c.args.self.now.arena.plan 3 c.look-2.result (view c.look.new.seat) (view c.look-2.new.seat) c.look-2.ensures.told refl
    c.setup-setup.result.limit c.count-2.result (ap (λ (s : Setup). s.limit) c.setup-setup.ensures.value)
    (c.count-2.ensures.value ∙ ap (λ (r : Ref). r.count) c.reference-2.ensures)

pub overflow_sub-head : goal.overflow_sub-head
overflow_sub-head g c =
    head_within c.args.self.now.arena.plan 2 c.look-3.result (view c.look-2.new.seat) (view c.look-3.new.seat) c.look-3.ensures.told refl
    c.setup-setup.result.limit c.count-3.result (ap (λ (s : Setup). s.limit) c.setup-setup.ensures.value)
    (c.count-3.ensures.value ∙ ap (λ (r : Ref). r.count) c.reference-3.ensures)

pub returns-clause-left : goal.returns-clause-left
returns-clause-left g c =
    has_left c.args.self.now.arena.plan c.look.result c.look-2.result c.look-3.result (view c.args.seat.now) (view c.look.new.seat)
    (view c.look-2.new.seat) (view c.look-3.new.seat) c.look.ensures.told c.look-2.ensures.told c.look-3.ensures.told
    c.setup-setup.result.limit c.count.result c.count-2.result c.count-3.result (ap (λ (s : Setup). s.limit) c.setup-setup.ensures.value)
    (c.count.ensures.value ∙ ap (λ (r : Ref). r.count) c.reference.ensures) (c.count-2.ensures.value ∙ ap (λ (r : Ref). r.count)
    c.reference-2.ensures) (c.count-3.ensures.value ∙ ap (λ (r : Ref). r.count) c.reference-3.ensures)
    c.setup-setup.result.size c.pushes_left.result (ap (λ (s : Setup). s.size) c.setup-setup.ensures.value) c.pushes_left.ensures
