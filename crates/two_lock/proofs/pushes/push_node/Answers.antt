use Rattle.line_table.specs.declared.lines.Line.TheVariants.{A2, A3}
use Rattle.std.proofs.Common.{rules, ◌≡◌, ◌∙◌, sym, arith, lit≤}
use Rattle.two_lock.specs.Pushes.{pushing}
use Rattle.two_lock.proofs.PushTries.{loaded_at_a4, pushes_out, to_a2, first_try, next_try, puts_it, finds_it_shut, gives_up_put}
use Rattle.two_lock.proofs.pushes.push_node.Goals as goal

pub a1-a-requires : goal.a1-a-requires
a1-a-requires g c =
    let out = pushes_out c.args.arena.now c.args.seat.now c.args.held c.number.result c.number-2.result c.word_of-val.result c.registers.result
    c.registers.ensures c.requires.ready c.requires.full c.requires.two_lock c.number-2.ensures.range c.number.ensures c.word_of-val.ensures in
    (lit≤ tt, (lit≤ tt, out))

pub a2-requires : goal.a2-requires
a2-requires g c =
    let out = pushes_out c.args.arena.now c.args.seat.now c.args.held c.number.result c.number-2.result c.word_of-val.result c.registers.result
    c.registers.ensures c.requires.ready c.requires.full c.requires.two_lock c.number-2.ensures.range c.number.ensures c.word_of-val.ensures in
    let to = to_a2 _ _ _ (pushing c.registers.result.val) A2 c.registers.result c.a1-a.result out c.a1-a.ensures in
    (lit≤ tt, (lit≤ tt, to.0))

pub loop-index-init : goal.loop-index-init
loop-index-init g c =
    let out = pushes_out c.args.arena.now c.args.seat.now c.args.held c.number.result c.number-2.result c.word_of-val.result c.registers.result
    c.registers.ensures c.requires.ready c.requires.full c.requires.two_lock c.number-2.ensures.range c.number.ensures c.word_of-val.ensures in
    first_try _ _ _ _ (pushing c.registers.result.val) c.args.held c.word_of-val.result c.args.spent A2 A3 _ _ _ c.registers.ensures out c.a1-a.ensures c.a2.ensures

pub loop-index-preserved : goal.loop-index-preserved
loop-index-preserved g c =
    next_try _ _ _ _ c.args.held c.word_of-val.result c.args.spent c.loop-index.index _ _ c.registers-in-loop-index.ensures c.loop-index.invariant
    c.a3.ensures (sym c.got_lock.ensures ∙ c.if-got_lock.false)

pub push_locked-requires : goal.push_locked-requires
push_locked-requires g c =
    let loaded = loaded_at_a4 _ _ _ _ c.args.held c.word_of-val.result _ c.registers-then-got_lock.result c.a3.result c.number.result c.number-2.result
    c.args.body c.args.spent c.loop-index.index c.registers-then-got_lock.ensures c.loop-index.invariant c.a3.ensures c.number-2.ensures.range
    c.word_of-val.ensures c.number-2.ensures.value c.requires.loaded in
    (lit≤ tt, (lit≤ tt, (search rules, (loaded, search rules))))

pub returns-in-Err-clause-puts : goal.returns-in-Err-clause-puts
returns-in-Err-clause-puts g c =
    let shut = finds_it_shut _ _ _ _ _ c.args.held c.word_of-val.result _ _ _ _ c.args.body c.args.spent c.loop-index.index c.args.turns
    c.registers-in-loop-index.ensures c.registers-then-got_lock.ensures c.loop-index.invariant c.a3.ensures (sym c.got_lock.ensures ∙ c.if-got_lock.true)
    c.in-Err.ensures in
    rw c.keep-in-Err.ensures shut

pub returns-in-Ok-clause-puts : goal.returns-in-Ok-clause-puts
returns-in-Ok-clause-puts g c =
    let puts = puts_it _ _ _ _ _ c.args.held c.word_of-val.result _ _ _ c.number.result c.number-2.result c.args.body c.args.spent c.loop-index.index c.args.turns
    c.registers-in-loop-index.ensures c.registers-then-got_lock.ensures c.loop-index.invariant c.a3.ensures (sym c.got_lock.ensures ∙ c.if-got_lock.true)
    c.in-Ok.ensures c.number-2.ensures.range c.word_of-val.ensures c.loop-index-test.true c.number-2.ensures.value in
    rw c.keep.ensures puts

pub returns-clause-puts : goal.returns-clause-puts
returns-clause-puts g c =
    let over = c.loop-index-test.false in
    let within = c.loop-index.auto.index-end in
    let less = c.requires.turns in
    let all : c.loop-index.index ≡ c.args.turns = omega arith in
    rw c.keep-2.ensures (gives_up_put _ _ _ c.args.held c.word_of-val.result c.args.body c.args.spent _ c.args.turns less all c.loop-index.invariant)
