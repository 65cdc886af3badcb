-- What calls of a source add to a text.
use Rattle.std.proofs.Common.{ℕ, List, ◌++◌, ◌∙◌, ap, append_assoc}
use Rattle.std.proofs.KnownBytes.{Consumes-trans}
use Rattle.text_io.specs.Devices.{SourceState}
use Rattle.text_io.specs.Readings.{AddsGiven}

-- what one call adds and then another one is added by both
pub AddsGiven-then : (a b c : SourceState) (text more most : List ℕ) → AddsGiven a b text more → AddsGiven b c more most → AddsGiven a c text most
AddsGiven-then a b c text more most p q = record {
  bytes = p.bytes ++ q.bytes;
  given = Consumes-trans a.left b.left c.left p.bytes q.bytes p.given q.given;
  added = q.added ∙ ap (λ t. t ++ q.bytes) p.added ∙ append_assoc text p.bytes q.bytes;
}
