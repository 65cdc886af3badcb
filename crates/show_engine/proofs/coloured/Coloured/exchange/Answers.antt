use Rattle.std.proofs.Common.{ap}
use Rattle.show_engine.proofs.Chunks.{plain_of-exchanged}
use Rattle.show_engine.proofs.coloured.Coloured.exchange.Goals as goal

pub returns-then-branch-clause-bytes : goal.returns-then-branch-clause-bytes
returns-then-branch-clause-bytes g c =
    plain_of-exchanged _ _ _ _ _ _ (ap (λ sink. (g.W.Sink.state sink).contents) c.hold.ensures.inner) (c.in_ok-hand_on.ensures.empty c.if-branch.true) c.hand_on.ensures.keeps
    c.hold.ensures.held
