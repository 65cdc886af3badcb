use Rattle.std.proofs.Common.{◌≡◌, ◌++◌, drop, false}
use Rattle.expand_engine.specs.Recipes.{said_from}
use Rattle.expand_engine.proofs.comments.speak_words.Given as goal

-- what was said so far, and what the bytes that are left say
abbrev pub invariant-loop-byte : goal.invariant-loop-byte
invariant-loop-byte l = l.said.items ++ said_from l.is_begun l.is_apart (drop l.byte-index l.bytes) ≡ said_from false false l.bytes
