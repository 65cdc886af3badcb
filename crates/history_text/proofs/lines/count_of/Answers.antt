use Rattle.std.proofs.Common.{codes, refl}
use Rattle.text_io.proofs.Splits.{HasNo-tested}
use Rattle.history_text.proofs.lines.count_of.Goals as goal

pub counted-requires : goal.counted-requires
counted-requires c = HasNo-tested 32 (codes "history") refl
