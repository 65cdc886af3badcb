use Rattle.std.proofs.Common.{[], suc, ◌≡◌, ◌+◌, ◌∙◌, ap, sym, subst, arith}
use Rattle.line_steps.specs.declared.actors.Setup.{Setup}
use Rattle.node_arena.specs.Beside.{one_more_try}
use Rattle.node_arena.specs.Hands.{AllTaken, HasTried, first_slot, next_slot}
use Rattle.node_arena.proofs.Handing.{slot_there, then_known, one_more_taken, same_behind, slot_on, slot_next, tried_more, tried_last}
use Rattle.node_arena.proofs.arena.ArenaOf.get_slot.Goals as goal

pub returns-then-try_slot-clause-failed : goal.returns-then-try_slot-clause-failed
returns-then-try_slot-clause-failed g c =
    subst (AllTaken c.args.self.now.plan c.args.seat.now.token.me.0 (first_slot c.args.self.now.plan.setup.size c.args.node))
    (let e : c.loop-failed.failed + 0 ≡ c.loop-failed.failed = omega arith in e) (c.loop-failed.invariant.6 0 tt)

pub loop-failed-preserved : goal.loop-failed-preserved
loop-failed-preserved g c =
    let missed = c.try_slot.ensures.missed c.if-try_slot.false in
    let now = c.first_slot-slot-in-loop-failed.ensures ∙ ap (λ (s : Setup). first_slot s.size (c.loop-failed.slot + 1)) c.setup-size.ensures.value in
    let there = c.loop-failed.invariant.0 in
    let size = c.args.self.now.plan.setup.size in
    let first = first_slot size c.args.node in (
      slot_there c.args.self.now.plan.setup.size (c.loop-failed.slot + 1) c.first_slot-slot-in-loop-failed.result (omega (arith, there)) now,
      c.try_slot.ensures.seat,
      missed.none,
      λ ready. c.try_slot.ensures.ready (c.loop-failed.invariant.3 ready),
      then_known _ _ _ c.loop-failed.invariant.4 c.try_slot.ensures.keeps,
      same_behind c.args.seat.now.token.me.0 c.loop-failed.seat.token.me.0 c.try_slot.new.seat.token.me.0
          (one_more_try c.loop-failed.seat.token.me.0 c.loop-failed.slot missed.found) c.loop-failed.invariant.5 missed.same,
      one_more_taken c.args.self.now.plan c.args.seat.now.token.me.0 c.loop-failed.seat.token.me.0
          (first_slot c.args.self.now.plan.setup.size c.args.node) c.loop-failed.slot c.first_slot-slot-in-loop-failed.result c.loop-failed.failed
          c.loop-failed.invariant.5 missed.taken now c.loop-failed.invariant.6,
      ap (slot_on size first) (let e : c.loop-failed.failed + 1 ≡ suc c.loop-failed.failed = omega arith in e)
          ∙ (slot_next size first c.loop-failed.failed ∙ (ap (next_slot size) c.loop-failed.invariant.7 ∙ sym now)),
      tried_more c.args.self.now c.args.seat.now c.loop-failed.seat c.try_slot.new.seat first c.loop-failed.slot c.loop-failed.failed c.loop-failed.invariant.7
          c.loop-failed.invariant.8 missed,
    )

pub returns-clause-busy : goal.returns-clause-busy
returns-clause-busy g c =
    let ended = c.loop-failed-test.false in
    let most = c.loop-failed.auto.failed-end in
    subst (AllTaken c.args.self.now.plan c.args.seat.now.token.me.0 (first_slot c.args.self.now.plan.setup.size c.args.node))
    (let e : c.loop-failed.failed + 0 ≡ c.args.turns = omega (arith, ended, most) in e) (c.loop-failed.invariant.6 0 tt)

pub returns-then-try_slot-clause-hit : goal.returns-then-try_slot-clause-hit
returns-then-try_slot-clause-hit g c =
    tried_last c.args.self.now c.args.seat.now c.loop-failed.seat c.try_slot.new.seat (first_slot c.args.self.now.plan.setup.size c.args.node) c.loop-failed.failed
    c.loop-failed.slot c.loop-failed.invariant.8 (c.try_slot.ensures.got c.if-try_slot.true).1

pub returns-clause-missed : goal.returns-clause-missed
returns-clause-missed g c =
    let ended = c.loop-failed-test.false in
    let most = c.loop-failed.auto.failed-end in
    subst (λ k. HasTried c.args.self.now.plan c.args.seat.now c.loop-failed.seat (first_slot c.args.self.now.plan.setup.size c.args.node) k [])
    (let e : c.loop-failed.failed ≡ c.args.turns = omega (arith, ended, most) in e) c.loop-failed.invariant.8
