use Rattle.std.proofs.Common.{drop}
use Rattle.schedule_text.specs.Schedules.{moves_of}
use Rattle.show_engine.proofs.Noted.{HasNoted}
use Rattle.show_engine.proofs.legends.note_all.Given as goal

-- the moves of the events before this one were made and noted
abbrev pub invariant-loop-event : goal.invariant-loop-event
invariant-loop-event g l = HasNoted l.fn.frame l.fn.world l.fn.lines.items (moves_of l.events) l.world l.lines.items (moves_of (drop l.event-index l.events))
