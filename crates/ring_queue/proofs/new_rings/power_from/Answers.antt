use Rattle.std.proofs.Common.{◌≡◌, suc, ◌+◌, ◌*◌, ◌^◌, sym, ap, ◌∙◌, arith}
use Rattle.std.proofs.Math.Nat.{pow-suc}
use Rattle.ring_queue.proofs.new_rings.power_from.Goals as goal

pub returns-then-slots-room : goal.returns-then-slots-room
returns-then-slots-room c = record { bits = c.loop.counter; power = c.loop.invariant.0; enough = c.if-slots-room.true; close = c.loop.invariant.1 }

pub loop-preserved : goal.loop-preserved
loop-preserved c =
    let k = c.loop.counter in
    let next : suc k ≡ k + 1 = omega arith in
    let less = c.if-slots-room.false in
    (ap (λ x. x * 2) c.loop.invariant.0 ∙ (sym (pow-suc 2 k) ∙ ap (λ m. 2 ^ m) next), omega (arith, less))

pub returns : goal.returns
returns c =
    let all = c.loop-test.false in
    let most = c.loop.auto.counter-end in
    let few = c.requires.few in
    let end : c.loop.counter ≡ 48 = omega (arith, all, most) in
    let full : c.loop.slots ≡ 2 ^ 48 = c.loop.invariant.0 ∙ ap (λ m. 2 ^ m) end in
    record { bits = c.loop.counter; power = c.loop.invariant.0; enough = omega (arith, full, few); close = c.loop.invariant.1 }
