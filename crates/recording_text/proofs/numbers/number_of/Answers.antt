use Rattle.std.proofs.Common.{◌≡◌, map, arith, sym, ap, ◌∙◌, bytes_eq}
use Rattle.std.specs.List.{position_or_len}
use Rattle.recording_text.specs.Numbers.{with_text}
use Rattle.recording_text.specs.RecordingReading.{bytes_of, known_by}
use Rattle.recording_text.proofs.Known.{number-learnt}
use Rattle.recording_text.proofs.KnownSets.{position-bytes, insert-learns}
use Rattle.recording_text.proofs.numbers.number_of.Goals as goal

pub returns-clause-learnt : goal.returns-clause-learnt
returns-clause-learnt c = ap (map bytes_of) c.in-Ok.ensures.keys ∙ insert-learns c.args.known.now.keys c.args.text

pub returns-clause-ok : goal.returns-clause-ok
returns-clause-ok c =
    let text = c.args.text.now in
    let learnt : known_by c.insert_full.new.self ≡ with_text (known_by c.args.known.now) text =
    ap (map bytes_of) c.in-Ok.ensures.keys ∙ insert-learns c.args.known.now.keys c.args.text in
    let at : c.in-Ok.index ≡ position_or_len (bytes_eq text) (known_by c.insert_full.new.self) =
    c.in-Ok.ensures.index ∙ position-bytes (bytes_eq text) c.args.known.now.keys ∙ sym (number-learnt (known_by c.args.known.now) text)
    ∙ ap (position_or_len (bytes_eq text)) (sym learnt) in
    c.in-Some.ensures.value ∙ omega (arith, at)
