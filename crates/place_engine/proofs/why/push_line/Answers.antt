use Rattle.std.proofs.Common.{◌≡◌, ◌++◌, ◌<◌, ◌≤◌, length, map, rules, subst}
use Rattle.std.specs.Prelude.{OnOk}
use Rattle.recording_text.specs.RecordingReading.{bytes_of}
use Rattle.place_engine.proofs.Lines.{told_line-held, told_line-given}
use Rattle.place_engine.proofs.why.push_line.Goals as goal

pub returns-then-place-count : goal.returns-then-place-count
returns-then-place-count c =
    let low : c.args.place ≤ length c.args.held.now = search rules in
    subst (λ text. OnOk c.push_held_line.result (c.push_held_line.new.into.items ≡ c.args.into.now.items ++ text))
    (told_line-held c.args.held.now (map bytes_of c.args.lines.now) c.args.header c.args.place low) c.push_held_line.ensures

pub returns : goal.returns
returns c =
    let high : length c.args.held.now < c.args.place = search rules in
    subst (λ text. OnOk c.push_given.result (c.push_given.new.into.items ≡ c.args.into.now.items ++ text))
    (told_line-given c.args.held.now (map bytes_of c.args.lines.now) c.args.header c.args.place high) c.push_given.ensures
