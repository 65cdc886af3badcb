use Rattle.std.proofs.Common.{◌≡◌, ◌++◌, take}
use Rattle.std.specs.List.{flat_map}
use Rattle.page_engine.specs.Shown.{shown}
use Rattle.page_engine.proofs.shown.keep_shown.Given as goal

-- the bytes so far were kept
abbrev pub invariant-loop-byte : goal.invariant-loop-byte
invariant-loop-byte l = l.kept.bytes.items ≡ l.fn.kept.bytes.items ++ flat_map shown (take l.byte-index l.text)
