use Rattle.std.proofs.Common.{◌≡◌, ◌++◌, take}
use Rattle.std.specs.List.{flat_map}
use Rattle.place_engine.specs.FoundTexts.{place_text}
use Rattle.place_engine.proofs.found_texts.push_places.Given as goal

abbrev pub invariant-loop-place : goal.invariant-loop-place
invariant-loop-place l = l.text.items ≡ l.fn.text.items ++ flat_map (place_text l.count) (take l.place-index l.places)
