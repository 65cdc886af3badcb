use Rattle.std.proofs.Common.{rules}
use Rattle.std.proofs.lemmas.List.Elements.{All-head, All-rest}
use Rattle.seat_pool.specs.Pools.{IsFrom}
use Rattle.seat_pool.proofs.pools.Store.give_all_back.Goals as goal

pub loop-held-preserved : goal.loop-held-preserved
loop-held-preserved g c = All-rest (IsFrom c.args.self.now) _ _ _ c.in-Some.ensures.steps.0 c.loop-held.invariant

pub give_back-requires : goal.give_back-requires
give_back-requires g c = (search rules, All-head (IsFrom c.args.self.now) c.in-Some.held _ (rw c.in-Some.ensures.steps.0 at c.loop-held.invariant))
