-- Two operations that clash are of lines that overlap, and none clash where none do.
use Rattle.std.proofs.Common.{length, map, refl, sym}
use Rattle.std.specs.Prelude.{Contains}
use Rattle.std.proofs.lemmas.List.{length-map}
use Rattle.recording_text.specs.RecordingReading.{bytes_of}
use Rattle.place_engine.specs.Overlaps.{Clash}
use Rattle.place_engine.proofs.Overlapping.{none_told, pair_told}
use Rattle.place_engine.proofs.overlaps.overlap_in.Goals as goal

pub returns-in-Some : goal.returns-in-Some
returns-in-Some c =
    let lines = map bytes_of c.in_ok-lines.lines.items in
    let sorted = c.sort_unstable.new.self.items in
    let pair = c.in-Some.pair in
    let found : Contains sorted pair.0 × Contains sorted pair.1 × Clash pair.0 pair.1 = rw c.deref-2.ensures.value at c.in-Some.ensures.found in
    rw (c.in_order.ensures.least, c.in_order.ensures.most)
    (pair_told c.args.text.now lines c.in_ok-spells.spells.items sorted pair.0 pair.1 c.in_ok-lines.ensures
    (rw c.deref.ensures.value at c.in_ok-spells.ensures.each) c.sort_unstable.ensures.permutation found.0
    found.1 found.2)

pub returns : goal.returns
returns c =
    let items = c.in_ok-lines.lines.items in
    none_told c.args.text.now (map bytes_of items) (length items) c.in_ok-spells.spells.items c.sort_unstable.new.self.items c.in_ok-lines.ensures (sym (length-map items bytes_of))
    (rw c.deref.ensures.value at c.in_ok-spells.ensures.each) (rw c.deref.ensures.value at c.in_ok-spells.ensures.all) c.sort_unstable.ensures.permutation c.sort_unstable.ensures.sorted
    ((rw c.deref-2.ensures.value at c.in-None.ensures.none) refl)
