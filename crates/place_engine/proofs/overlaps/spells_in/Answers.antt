-- Each line that says an operation adds it.
use Rattle.std.proofs.Common.{◌<◌, ◌≤◌, length, map, arith}
use Rattle.std.proofs.lemmas.List.Elements.{All-push}
use Rattle.recording_text.specs.RecordingReading.{bytes_of}
use Rattle.place_engine.specs.Overlaps.{IsSpellIn}
use Rattle.place_engine.proofs.Overlapping.{has_more, has_same, is_spell, line_there}
use Rattle.place_engine.proofs.overlaps.spells_in.Goals as goal
use Rattle.place_engine.proofs.overlaps.spells_in.Goals.{in-Some+in_ok-push, in_default}

pub loop-index-preserved : goal.loop-index-preserved
loop-index-preserved c =
    let lines = map bytes_of c.args.lines.now in
    let index = c.loop-index.index in
    let old = c.loop-index.spells.items in
    let before = c.loop-index.invariant in
    let lt : index < length c.args.lines.now = c.loop-index-test.true in
    elim c.match-spell_of.branch [
      | in-Some+in_ok-push w ↦
          let x = w.in-Some.spell in
          rw (w.spells-is, w.in_ok-push.ensures.items) (record {
            each = All-push (IsSpellIn lines) old x before.each (is_spell lines index x _ w.in-Some.ensures (line_there c.args.lines.now index _ lt));
            all = has_more lines index old x _ w.in-Some.ensures before.all;
          })
      | in_default w ↦
          rw w.spells-is (record {
            each = before.each;
            all = has_same lines index old _ w.in_default.ensures (line_there c.args.lines.now index _ lt) before.all;
          })
    ]

pub returns-clause-all : goal.returns-clause-all
returns-clause-all c = λ n r le says.
    let all : length c.args.lines.now ≤ c.loop-index.index = c.loop-index-test.false in
    c.loop-index.invariant.all n r (omega (arith, le, all)) says
