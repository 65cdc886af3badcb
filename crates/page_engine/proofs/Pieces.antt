-- Lemmas on texts that are written piece by piece.
use Rattle.std.proofs.Common.{◌≡◌, ℕ, List, ◌++◌, refl}
use Rattle.std.specs.Prelude.{Result, Err}
use Rattle.std.specs.Io.KnownBytes.{Appends}
use Rattle.history.specs.declared.refusals.Refusal.{Refusal}
use Rattle.text_io.specs.Blocks.{Writes}
use Rattle.text_io.specs.Devices.{SinkState}
use Rattle.text_io.proofs.Sends.{TakesPrefix-longer, Writes-held}

-- behind a piece that was written whole, more of the text is written
pub Writes-behind : {A : Type 0} (a b c : SinkState) (first more : List ℕ) (result : Result A Refusal) → Appends a.contents b.contents first → b.failures ≡ a.failures → Writes b c more result
    → Writes a c (first ++ more) result
Writes-behind a b c first more result p quiet writes =
    Writes-held a b c quiet (first ++ more) more result (record { sent = first; taken = p; whole = refl }) writes

-- where a piece is refused, so is a text that goes on behind it
pub Writes-stopped : {A B : Type 0} (a b : SinkState) (text more : List ℕ) (refusal : Refusal) → Writes {A = A} a b text (Err refusal) → Writes {A = B} a b (text ++ more) (Err refusal)
Writes-stopped a b text more refusal writes = record {
  ok = tt;
  quiet = tt;
  only_write = writes.only_write;
  prefix = TakesPrefix-longer a.contents b.contents text more writes.prefix;
  cause = writes.cause;
}
