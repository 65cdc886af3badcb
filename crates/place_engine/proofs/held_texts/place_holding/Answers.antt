use Rattle.std.proofs.Common.{map}
use Rattle.recording_text.specs.RecordingReading.{bytes_of}
use Rattle.place_engine.specs.HeldTexts.{FindsHolding}
use Rattle.place_engine.proofs.OfHolding.{says-holding}
use Rattle.place_engine.proofs.held_texts.place_holding.Goals as goal

pub returns-clause-ok : goal.returns-clause-ok
returns-clause-ok g c =
    let held = map bytes_of c.args.held.now in
    let text = c.in_ok-text.text.items in
    let answer = c.in_ok-found.found in
    let found : FindsHolding held text c.args.room answer = rw c.deref.ensures.value at c.in_ok-found.ensures.ok in
    record {
      text = text;
      read = c.in_ok-text.ensures.ok;
      found = found;
      right = says-holding held found.recording c.requires.some found.in_range answer found.answers;
      written = rw c.deref-3.ensures.value at c.in_ok-tell.ensures.ok;
    }

pub returns-clause-overlap : goal.returns-clause-overlap
returns-clause-overlap g c = (c.in_ok-text.text.items, c.in_ok-text.ensures.ok, rw c.deref-2.ensures.value at c.in_ok-overlap.ensures.ok)
