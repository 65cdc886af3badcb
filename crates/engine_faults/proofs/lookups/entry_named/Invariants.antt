use Rattle.std.proofs.Common.{All, take}
use Rattle.engine_faults.specs.Entries.{IsCalled}
use Rattle.engine_faults.proofs.lookups.entry_named.Given as goal

abbrev pub invariant-loop-entry : goal.invariant-loop-entry
invariant-loop-entry l = All (λ entry. ¬ IsCalled l.word entry) (take l.entry-index l.entries)
