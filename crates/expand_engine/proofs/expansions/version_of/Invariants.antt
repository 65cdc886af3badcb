use Rattle.std.proofs.Common.{All, take}
use Rattle.schedule_text.specs.Texts.{IsTold}
use Rattle.schedule_text.specs.declared.schedules.Version.TheVariants.{One}
use Rattle.expand_engine.proofs.expansions.version_of.Given as goal

-- version 1 has lines of the events before the one at hand
abbrev pub invariant-loop-event : goal.invariant-loop-event
invariant-loop-event l = All (IsTold One) (take l.event-index l.events)
