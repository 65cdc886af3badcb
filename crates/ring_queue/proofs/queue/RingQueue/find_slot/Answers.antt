use Rattle.std.proofs.Common.{[], suc, ◌%◌, ap, sym, ◌≡◌, ◌+◌, ◌∙◌, subst, arith}
use Rattle.ring_queue.specs.Hands.{AllTaken, HasTried}
use Rattle.ring_queue.proofs.Handing.{then_known, one_more_taken, slot_on, slot_next, tried_more, tried_last}
use Rattle.ring_queue.proofs.queue.RingQueue.find_slot.Goals as goal

pub returns-then-try_slot-clause-failed : goal.returns-then-try_slot-clause-failed
returns-then-try_slot-clause-failed g c =
    subst (AllTaken c.args.self.now.plan c.args.seat.now.token.me.0 c.args.first) (let e : c.loop-failed.failed + 0 ≡ c.loop-failed.failed = omega arith in e) (c.loop-failed.invariant.taken 0 tt)

pub loop-failed-preserved : goal.loop-failed-preserved
loop-failed-preserved g c =
    let missed = c.try_slot.ensures.missed c.if-try_slot.false in
    let next = c.slot_of-slot.ensures in
    let before = c.loop-failed.invariant in
    record {
      there = next.within;
      ready = c.try_slot.ensures.ready;
      none = missed.none;
      keeps = then_known _ _ _ before.keeps c.try_slot.ensures.keeps;
      same = missed.same ∙ before.same;
      taken = one_more_taken c.args.self.now.plan c.args.seat.now.token.me.0 c.loop-failed.seat.token.me.0 c.args.first c.loop-failed.slot
          c.slot_of-slot.result c.loop-failed.failed before.same missed.taken next.value before.taken;
      slot = ap (slot_on c.args.self.now.plan c.args.first) (let e : c.loop-failed.failed + 1 ≡ suc c.loop-failed.failed = omega arith in e)
          ∙ (slot_next c.args.self.now.plan c.args.first c.loop-failed.failed ∙ (ap (λ k. (k + 1) % c.args.self.now.plan.slots) before.slot ∙ sym next.value));
      tried = tried_more c.args.self.now.plan c.args.seat.now c.loop-failed.seat c.try_slot.new.seat c.args.first c.loop-failed.slot c.loop-failed.failed before.slot before.tried missed;
    }

pub returns-clause-busy : goal.returns-clause-busy
returns-clause-busy g c =
    let ended = c.loop-failed-test.false in
    let most = c.loop-failed.auto.failed-end in
    subst (AllTaken c.args.self.now.plan c.args.seat.now.token.me.0 c.args.first)
    (let e : c.loop-failed.failed + 0 ≡ c.args.turns = omega (arith, ended, most) in e) (c.loop-failed.invariant.taken 0 tt)

pub returns-then-try_slot-clause-hit : goal.returns-then-try_slot-clause-hit
returns-then-try_slot-clause-hit g c =
    tried_last c.args.self.now.plan c.args.seat.now c.loop-failed.seat c.try_slot.new.seat c.args.first c.loop-failed.failed _ c.loop-failed.invariant.tried (c.try_slot.ensures.got c.if-try_slot.true).1

pub returns-clause-missed : goal.returns-clause-missed
returns-clause-missed g c =
    let ended = c.loop-failed-test.false in
    let most = c.loop-failed.auto.failed-end in
    subst (λ k. HasTried c.args.self.now.plan c.args.seat.now c.loop-failed.seat c.args.first k []) (let e : c.loop-failed.failed ≡ c.args.turns = omega (arith, ended, most) in e) c.loop-failed.invariant.tried
