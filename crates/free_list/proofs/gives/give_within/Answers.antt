use Rattle.std.proofs.Common.{◌≡◌, sym, subst, ◌∙◌, arith}
use Rattle.free_list.specs.Gives.{Giving}
use Rattle.free_list.proofs.GiveBack.{sets_forth, give_again, gave_it, kept_it}
use Rattle.free_list.proofs.gives.give_within.Goals as goal

pub loop-index-init : goal.loop-index-init
loop-index-init g c = sets_forth c.args.arena.now c.args.seat.now _ c.requires.ready (sym c.pocket.ensures ∙ c.unwrap-held.ensures)

pub loop-index-preserved : goal.loop-index-preserved
loop-index-preserved g c = give_again c.args.arena.now c.args.seat.now c.loop-index.seat c.unwrap-held.result c.loop-index.index c.loop-index.invariant _ c.in_default.ensures

pub returns-in-Back : goal.returns-in-Back
returns-in-Back g c =
    let full = sym c.pocket.ensures ∙ c.unwrap-held.ensures in
    rw c.keep.ensures
    (gave_it c.args.arena.now c.args.seat.now c.loop-index.seat c.unwrap-held.result c.loop-index.index c.loop-index.invariant _ c.args.turns tt c.loop-index-test.true full c.in-Back.ensures)

pub returns : goal.returns
returns g c =
    let over = c.loop-index-test.false in
    let within = c.loop-index.auto.index-end in
    let e : c.loop-index.index ≡ c.args.turns = omega arith in
    let full = sym c.pocket.ensures ∙ c.unwrap-held.ensures in
    let all = subst (Giving c.args.arena.now c.args.seat.now c.loop-index.seat c.unwrap-held.result) e c.loop-index.invariant in
    rw c.keep-2.ensures (kept_it c.args.arena.now c.args.seat.now c.loop-index.seat c.unwrap-held.result c.args.turns c.requires.turns full all)
