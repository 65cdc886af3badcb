-- An order gets no points in a history of too many operations alone.
use Rattle.std.proofs.Common.{◌≡◌, ◌<◌, Bool, true, false, IsSome, length, nat_le, refl, subst}
use Rattle.std.proofs.lemmas.Bool.{leb-true, leb-false}
use Rattle.placing.proofs.placement.by_order.Goals as goal

pub returns-in-None-clause-cause : goal.returns-in-None-clause-cause
returns-in-None-clause-cause c = λ room. (c.requires.is_of_queue, long (nat_le (length c.args.history.now) 2147483648) refl)
  where
    long : (b : Bool) → nat_le (length c.args.history.now) 2147483648 ≡ b → 2147483648 < length c.args.history.now
    long true e = let never : false ≡ true = subst IsSome c.in-None.is (c.in_ok-new.ensures.some (leb-true (length c.args.history.now) 2147483648 e) c.requires.order) in absurd (cc never)
    long false e = leb-false (length c.args.history.now) 2147483648 e
