use Rattle.std.proofs.Common.{◌≡◌, ◌++◌, take}
use Rattle.std.specs.List.{flat_map}
use Rattle.place_engine.specs.WhyTexts.{places_held}
use Rattle.place_engine.proofs.why.push_spans.Given as goal

abbrev pub invariant-loop-span : goal.invariant-loop-span
invariant-loop-span l = l.places.items ≡ l.fn.places.items ++ flat_map (λ span. places_held span.held) (take l.span-index l.spans)
