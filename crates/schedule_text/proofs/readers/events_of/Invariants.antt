use Rattle.std.proofs.Common.{◌≡◌, All, length, map}
use Rattle.text_io.specs.Grammars.{Begins}
use Rattle.schedule_text.specs.Texts.{happens, events_left, schedule_lines, IsEventOf}
use Rattle.schedule_text.proofs.readers.events_of.Given as goal

abbrev pub invariant-loop-place : goal.invariant-loop-place
invariant-loop-place l = record {
  begins : Begins schedule_lines (events_left l.version l.count) (map happens l.events.items) l.text l.rest;
  counted : length l.events.items ≡ l.place;
  range : All (IsEventOf l.version) l.events.items;
}
