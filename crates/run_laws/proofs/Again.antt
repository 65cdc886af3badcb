-- Where no node is free Free's count is twice the number of the nodes that were taken, so no odd limit. After a give back Free
-- names the node that was given.
use Rattle.std.proofs.Common.{◌≡◌, ◌≢◌, suc, ◌-◌, ◌^◌, ◌≤◌, if◌then◌else◌, [], ap, ◌∙◌, arith}
use Rattle.std.proofs.Math.Nat.{pow-suc}
use Rattle.std.proofs.Math.Pow.{suc_ones}
use Rattle.counted_ref.specs.Ref.{reserved_node, count_bits}
use Rattle.counted_ref.proofs.Words.{same_ref-equal}
use Rattle.line_table.specs.declared.lines.Line.TheVariants.{F3}
use Rattle.history.specs.declared.refusals.Refusal.TheVariants.{NoNode}
use Rattle.line_steps.specs.declared.actors.Setup.{Setup}
use Rattle.line_steps.specs.Memory.{Shared, Free, put, performed}
use Rattle.line_steps.specs.Lines.{action, raised}
use Rattle.step_machine.specs.Machine.{World, IsReached}
use Rattle.step_machine.specs.Range.{WorldInRange}
use Rattle.step_machine.proofs.Reached.{reached_in_range, actor_in_range, below_closed}
use Rattle.step_machine.proofs.LinearizationSteps.{raised_node}
use Rattle.step_machine.proofs.EitherQueue.{stands_at, fixed_at}
use Rattle.node_arena.proofs.Tracing.{traced_reached}
use Rattle.arena_queue.proofs.FreeCounts.{free_counts}
use Rattle.run_laws.specs.Again.{FindsFreeUnworn, MeetsFreeUnworn, GiveBackEnds, GreatestIsTwiceAnd}

pub finds_free_unworn : FindsFreeUnworn 1
finds_free_unworn t r odd cause worn = omega (arith, free_counts t r [] cause.1, worn, odd.1)

pub meets_free_unworn : {T : Type 0} → MeetsFreeUnworn 1 T
meets_free_unworn r s t met odd worn =
    finds_free_unworn met.was met.reached (odd.0, ap (λ (z : Setup). z.limit) met.setup ∙ odd.1) met.held.1 worn

pub give_back_ends : GiveBackEnds NoNode
give_back_ends t you a r is at won cause =
    let w : World = t.world in
    let reached : IsReached w = traced_reached t r in
    let range : WorldInRange w = reached_in_range w reached in
    let some : 1 ≤ a.node = (stands_at w reached you a F3 is at).1 in
    let no_end : a.node ≢ reserved_node w.setup.bits = below_closed w a.node range (actor_in_range w you a range is).registers.node in
    let room : a.top.count ≢ w.setup.limit = (fixed_at w reached you a F3 is at).room in
    let words : performed (action w.setup you a F3) w.shared ≡ put Free (raised w.setup a.top a.node) w.shared =
    ap (λ b. if b then put Free (raised w.setup a.top a.node) w.shared else w.shared) (same_ref-equal w.shared.free a.top won) in
    let none : (performed (action w.setup you a F3) w.shared).free.node ≡ 0 = cause.1 in
    omega (arith, some, none, ap (λ (m : Shared). m.free.node) words, raised_node w.setup a.top a.node no_end room)

pub greatest_is_odd : GreatestIsTwiceAnd 1
greatest_is_odd bits count split greatest =
    let bits_left : count_bits bits ≡ suc (63 - bits) = omega (arith, split.most) in
    (2 ^ (63 - bits) - 1, omega (arith, greatest, ap (λ n. 2 ^ n) bits_left ∙ pow-suc 2 (63 - bits), suc_ones (63 - bits)))
