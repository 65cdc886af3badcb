use Rattle.std.proofs.Common.{◌≡◌, ◌∙◌, inl, inr, sym, true, false, true≢false, arith}
use Rattle.tasks.proofs.leader.turn.Goals as goal

pub wait_for-requires-clause-awaited : goal.wait_for-requires-clause-awaited
wait_for-requires-clause-awaited g c κs within =
    let not = c.if-leader-eq0.false in
    let ran = c.if-not-branch.true in
    elim c.in_ok-help.ensures.same [
      | inl did ↦ absurd (let e : true ≡ false = sym did ∙ ran in true≢false e)
      | inr same ↦ omega (arith, same, not)
    ]
