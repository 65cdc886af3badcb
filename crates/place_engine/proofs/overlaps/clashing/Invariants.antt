use Rattle.std.proofs.Common.{ℕ, ◌+◌, ◌<◌, get_or}
use Rattle.place_engine.specs.declared.overlaps.Spell.{Spell}
use Rattle.place_engine.specs.Overlaps.{Clash}
use Rattle.place_engine.proofs.overlaps.clashing.Given as goal

abbrev pub invariant-loop-index : goal.invariant-loop-index
invariant-loop-index l = (k : ℕ) (d : Spell) → k + 1 < l.index → ¬ Clash (get_or l.spells k d) (get_or l.spells (k + 1) d)
