use Rattle.std.proofs.Common.{◌∙◌, take, sym, ap, ◌++◌, take-append-drop}
use Rattle.std.proofs.lemmas.List.{take_rest}
use Rattle.text_io.proofs.Sends.{Sends-more}
use Rattle.text_io.proofs.blocks.write_all.Goals as goal

pub loop-rest-preserved : goal.loop-rest-preserved
loop-rest-preserved g c =
    let rest = c.loop-rest.rest.now in
    let count = c.in-Ok.count in
    record {
      sends = Sends-more _ _ _ _ rest (take count rest) _ c.loop-rest.invariant.sends c.in-Ok.ensures.bytes
          (sym (take-append-drop count rest) ∙ ap (λ xs. take count rest ++ xs) (sym (take_rest rest count)));
      quiet = c.in-Ok.ensures.failures ∙ c.loop-rest.invariant.quiet;
    }
