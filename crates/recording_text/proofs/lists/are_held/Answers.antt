use Rattle.std.proofs.Common.{◌<◌, ◌≤◌, length, rules}
use Rattle.recording_text.proofs.HeldTexts.{held-by_each}
use Rattle.recording_text.proofs.lists.are_held.Goals as goal

pub returns : goal.returns
returns c =
    let texts = c.args.texts.now in
    let some : 0 < length texts = search rules in
    let few : length texts ≤ 1000000 = search rules in
    held-by_each texts c.all_are_held.result some few c.all_are_held.ensures
