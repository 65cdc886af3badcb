use Rattle.std.proofs.Common.{All, map}
use Rattle.recording_text.specs.RecordingReading.{bytes_of}
use Rattle.place_engine.specs.Overlaps.{HasSpells, IsSpellIn}
use Rattle.place_engine.proofs.overlaps.spells_in.Given as goal

abbrev pub invariant-loop-index : goal.invariant-loop-index
invariant-loop-index l = record {
  each : All (IsSpellIn (map bytes_of l.lines)) l.spells.items;
  all : HasSpells (map bytes_of l.lines) l.index l.spells.items;
}
