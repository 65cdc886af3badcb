use Rattle.std.proofs.Common.{◌-◌, ◌≤◌, List, ℕ}
use Rattle.msq.specs.Notes.{IsLineAt}
use Rattle.msq.proofs.notes.Kept.line.Given as goal

abbrev pub invariant-loop : goal.invariant-loop
invariant-loop l = record {
  bound : l.counter ≤ l.end;
  leads : (says : List ℕ) → IsLineAt (l.end - l.counter) l.rest says → IsLineAt l.end l.self.bytes.items says;
}
