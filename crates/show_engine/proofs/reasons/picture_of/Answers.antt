-- The line of the reason, the rows and the last line are the picture.
use Rattle.std.proofs.Common.{map}
use Rattle.recording_text.specs.RecordingReading.{bytes_of}
use Rattle.show_engine.proofs.WholePictures.{picture_whole}
use Rattle.show_engine.proofs.reasons.picture_of.Goals as goal

pub returns : goal.returns
returns c =
    picture_whole c.args.view c.args.text.now c.args.history.now c.args.reason.now c.in_ok-scale.scale (map bytes_of c.in_ok-lines.lines.items) c.in_ok-places.places.items c.rising-places.result.items
    c.in_ok-places.ensures (rw c.deref.ensures.value at c.in_ok-scale.ensures.scale) c.rising-places.ensures c.in_ok-lines.ensures
    c.in_ok-picture.picture.items c.push_rows.new.into.items c.extend_from_slice.new.self.items
    c.in_ok-picture.ensures (rw (c.deref-2.ensures.value, c.deref-3.ensures.value, c.header_of-header.ensures) at c.in_ok-push_rows.ensures)
    (rw (c.as_slice.ensures, c.times_line-last.ensures, c.count_shown-shown.ensures) at c.in_ok-extend_from_slice.ensures.items)
