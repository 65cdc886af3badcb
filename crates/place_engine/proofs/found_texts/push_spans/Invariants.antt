use Rattle.std.proofs.Common.{◌≡◌, ◌++◌, take}
use Rattle.std.specs.List.{flat_map}
use Rattle.place_engine.specs.FoundTexts.{held_text}
use Rattle.place_engine.proofs.found_texts.push_spans.Given as goal

abbrev pub invariant-loop-span : goal.invariant-loop-span
invariant-loop-span l = l.text.items ≡ l.fn.text.items ++ flat_map (λ span. held_text l.count span.held) (take l.span-index l.spans)
