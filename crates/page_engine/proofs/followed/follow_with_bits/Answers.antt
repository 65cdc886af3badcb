use Rattle.std.proofs.lemmas.Result.{on_ok_weaker}
use Rattle.text_io.proofs.Sends.{Appends-Sends}
use Rattle.page_engine.proofs.Due.{keeps_followed}
use Rattle.page_engine.proofs.followed.follow_with_bits.Goals as goal

pub returns-clause-followed : goal.returns-clause-followed
returns-clause-followed g c =
    let s = c.args.schedule.now in
    let count = c.requires.extent in
    let tells = c.in-Ok.ensures count.world count.led count.steps in
    on_ok_weaker c.keep_last_stands.result (λ last. keeps_followed s c.args.extent.now count last.world last.led _ _ _ (Appends-Sends _ _ _ tells.ok) last.added) c.keep_last_stands.ensures.kept
