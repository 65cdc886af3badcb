-- What known bytes are refused for as a schedule.
use Rattle.std.proofs.Common.{ℕ, List, Option, Some, None}
use Rattle.history.specs.declared.refusals.Refusal.{Refusal}
use Rattle.history.specs.declared.refusals.Refusal.TheVariants.{Memory, Text, Read}
use Rattle.engine_faults.specs.Faults.{IsRunRefusal}
use Rattle.run_engine.specs.Runs.{TellsFaultyLine}
use Rattle.schedule_text.specs.Texts.{schedule_lines, version_due}
use Rattle.text_io.specs.Prefixes.{IsRefusedReading}

-- their first faulty line
pub fault-read : (given : Option (List ℕ)) (refusal : Refusal) → IsRefusedReading schedule_lines version_due given refusal → TellsFaultyLine given refusal
fault-read None (Text number cause) refused = tt
fault-read (Some text) (Text number cause) refused = refused
fault-read given _ refused = tt
