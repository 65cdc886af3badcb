-- A page is that of a run or of a history, by what the options ask for.
use Rattle.std.proofs.Common.{◌∙◌, refl, sym}
use Rattle.std.proofs.lemmas.Bool.{false≢true}
use Rattle.msq.proofs.Drawing.{OnOk-by}
use Rattle.msq.proofs.options.show_by.Goals as goal

pub returns-then-options : goal.returns-then-options
returns-then-options g c =
    let asked = c.args.options in
    record {
      drawn = OnOk-by asked.is_history c.args.is_recipe c.page_by.result _ _ _ _ c.page_by.ensures.run c.page_by.ensures.recipe c.page_by.ensures.history (λ run recipe history. record {
        view = record { width = asked.width; from = asked.from; to = asked.to; actor = asked.actor; legend = c.legend_by.result };
        asked = record { width = refl; first = refl; last = refl; actor = refl; legend = c.legend_by.ensures };
        timeline = λ on off none. absurd (false≢true (sym off ∙ c.if-options.true));
        history_page = λ on page. history on;
        page = λ off page none. run off none;
        recipe_page = λ off page is. recipe off is;
        picture = λ off no none plain. absurd (false≢true (sym no ∙ c.if-options.true));
        recipe = λ off no none is. absurd (false≢true (sym no ∙ c.if-options.true));
        found = λ on no. absurd (false≢true (sym no ∙ c.if-options.true));
      });
    }
