use Rattle.std.proofs.Common.{◌≡◌, ◌-◌, ap, arith}
use Rattle.std.specs.Prelude.{replicate}
use Rattle.show_engine.proofs.Noted.{HasNoted-all, HasNoted-led, HasNoted-none, noted_one}
use Rattle.show_engine.proofs.legends.note_moves.Goals as goal

pub loop-init : goal.loop-init
loop-init g c =
    let all : c.args.count ≡ c.args.count - 0 = omega arith in
    HasNoted-none c.args.frame c.args.world.now c.args.lines.now.items (replicate c.args.count c.args.one) _ (ap (λ n. replicate n c.args.one) all)

pub loop-preserved : goal.loop-preserved
loop-preserved g c =
    noted_one c.args.frame c.args.world.now c.args.lines.now.items c.args.one c.args.count c.loop.counter c.loop.world _ c.loop.lines.items _
    c.loop-test.true c.loop.invariant c.in_ok-note_move.ensures.ok
    c.in_ok-note_move.ensures.lines

pub returns-clause-ok : goal.returns-clause-ok
returns-clause-ok g c =
    let none : c.args.count - c.loop.counter ≡ 0 = omega arith in
    HasNoted-led c.args.frame c.args.world.now c.args.lines.now.items (replicate c.args.count c.args.one) c.loop.world c.loop.lines.items _ c.loop.invariant (ap (λ n. replicate n c.args.one) none)

pub returns-clause-lines : goal.returns-clause-lines
returns-clause-lines g c =
    let none : c.args.count - c.loop.counter ≡ 0 = omega arith in
    HasNoted-all c.args.frame c.args.world.now c.args.lines.now.items (replicate c.args.count c.args.one) c.loop.world c.loop.lines.items _ c.loop.invariant (ap (λ n. replicate n c.args.one) none)
