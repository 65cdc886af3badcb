use Rattle.std.proofs.Common.{◌<◌, ◌^◌, [], ◌∷◌, ◌++◌, length, set, ap, ◌∙◌, sym, arith, append_assoc}
use Rattle.std.proofs.lemmas.List.{length_push}
use Rattle.carriers.specs.Rests.{left_in}
use Rattle.msq_c.proofs.Written.{written_more, written_past}
use Rattle.msq_c.proofs.word_rests.write.Goals as goal
use Rattle.msq_c.proofs.word_rests.write.Goals.{then-left-values, else-left-values}

pub loop-front-preserved : goal.loop-front-preserved
loop-front-preserved g c = let t = c.in-Some.front in let fits : length c.args.values.now < 2 ^ 64 = omega arith in record {
  all = append_assoc c.loop-front.yielded (t ∷ []) (left_in c.next.new.self) ∙ ap (λ l. c.loop-front.yielded ++ l) (sym c.in-Some.ensures.steps.0) ∙ c.loop-front.invariant.all;
  values = elim c.if-left-values.branch [
    | then-left-values w ↦ w.values-is ∙ ap (λ v. set c.loop-front.values c.loop-front.left v) w.of.ensures
        ∙ written_more g.I.Item.told c.loop-front.yielded t c.args.values.now c.loop-front.values c.loop-front.left c.loop-front.invariant.left
        c.loop-front.auto.values fits w.if-left-values.true c.loop-front.invariant.values
    | else-left-values w ↦ w.values-is
        ∙ written_past g.I.Item.told c.loop-front.yielded t c.args.values.now c.loop-front.values c.loop-front.left c.loop-front.invariant.left
        c.loop-front.auto.values w.if-left-values.false c.loop-front.invariant.values
  ];
  left = omega (arith, c.saturating_add-left.ensures, c.loop-front.invariant.left, length_push c.loop-front.yielded t);
}
