use Rattle.std.proofs.Common.{ℕ, List, length, inl, inr, arith}
use Rattle.std.proofs.lemmas.Bool.{cases_lt}
use Rattle.std.proofs.lemmas.List.{get_or_past}
use Rattle.std.proofs.lemmas.Str.{IsUtf8-from_ascii}
use Rattle.std.specs.Str.{IsAscii}
use Rattle.text_io.specs.Printable.{IsPrintable}
use Rattle.text_io.proofs.printable.printable_in.Goals as goal

-- what is printable is of ASCII
ascii : (bytes : List ℕ) → IsPrintable bytes → IsAscii bytes
ascii bytes printable k =
    elim (cases_lt k (length bytes)) [ inl short ↦ omega (arith, printable k 0 short) | inr past ↦ omega (arith, get_or_past bytes k 0 past) ]

pub unreachable-requires : goal.unreachable-requires
unreachable-requires c = c.in_default.ensures.cases.0 (IsUtf8-from_ascii c.args.bytes.now (ascii c.args.bytes.now c.if-not-are_printable.ensures))
