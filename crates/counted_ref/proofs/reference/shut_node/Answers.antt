use Rattle.std.proofs.Common.{arith}
use Rattle.std.proofs.lemmas.Nat.{one_shl}
use Rattle.counted_ref.proofs.Words.{span_least}
use Rattle.counted_ref.proofs.reference.shut_node.Goals as goal

pub overflow_sub-result : goal.overflow_sub-result
overflow_sub-result c =
    let h = c.requires.most in
    omega (arith, one_shl c.args.bits 64 (omega arith), span_least c.args.bits c.requires)

pub returns : goal.returns
returns c =
    let h = c.requires.most in
    omega (arith, one_shl c.args.bits 64 (omega arith), span_least c.args.bits c.requires)
