use Rattle.std.proofs.Common.{◌<◌, ◌^◌, [], ◌∷◌, ◌++◌, length, set, ap, ◌∙◌, sym, arith, append_assoc}
use Rattle.std.proofs.lemmas.List.{length_push}
use Rattle.history.specs.Rests.{left_of}
use Rattle.msq_c.specs.Values.{value_of}
use Rattle.msq_c.proofs.Written.{written_more, written_past}
use Rattle.msq_c.proofs.rests.write.Goals as goal
use Rattle.msq_c.proofs.rests.write.Goals.{then-left-values, else-left-values}

pub loop-taken-preserved : goal.loop-taken-preserved
loop-taken-preserved c = let t = c.in-Some.taken in let fits : length c.args.values.now < 2 ^ 64 = omega arith in record {
  all = append_assoc c.loop-taken.yielded (t ∷ []) (left_of c.next.new.self) ∙ ap (λ l. c.loop-taken.yielded ++ l) (sym c.in-Some.ensures.steps.0) ∙ c.loop-taken.invariant.all;
  values = elim c.if-left-values.branch [
    | then-left-values w ↦ w.values-is ∙ ap (λ v. set c.loop-taken.values c.loop-taken.left v) w.of.ensures
        ∙ written_more value_of c.loop-taken.yielded t c.args.values.now c.loop-taken.values c.loop-taken.left c.loop-taken.invariant.left c.loop-taken.auto.values
        fits w.if-left-values.true c.loop-taken.invariant.values
    | else-left-values w ↦ w.values-is
        ∙ written_past value_of c.loop-taken.yielded t c.args.values.now c.loop-taken.values c.loop-taken.left c.loop-taken.invariant.left c.loop-taken.auto.values
        w.if-left-values.false c.loop-taken.invariant.values
  ];
  left = omega (arith, c.saturating_add-left.ensures, c.loop-taken.invariant.left, length_push c.loop-taken.yielded t);
}
