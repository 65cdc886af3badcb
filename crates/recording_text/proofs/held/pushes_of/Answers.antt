use Rattle.std.proofs.Common.{◌<◌, ◌≤◌, arith, length, map, rules, take}
use Rattle.std.proofs.lemmas.List.{length-map, length-take}
use Rattle.recording_text.specs.RecordingReading.{bytes_of, known_by}
use Rattle.recording_text.proofs.HeldTexts.{HasPushed-room, more-pushed}
use Rattle.recording_text.proofs.held.pushes_of.Goals as goal

pub numbered-requires : goal.numbered-requires
numbered-requires c =
    let texts = map bytes_of (take c.loop-index.index c.args.held.now) in
    let few : length texts ≤ 1000000 = omega (arith, length-map (take c.loop-index.index c.args.held.now) bytes_of, length-take c.loop-index.index c.args.held.now, c.requires.few) in
    let room = HasPushed-room texts (known_by c.loop-index.known) c.loop-index.history.items c.loop-index.invariant few in
    omega (arith, room)

pub loop-index-preserved : goal.loop-index-preserved
loop-index-preserved c =
    let held = c.args.held.now in
    let index = c.loop-index.index in
    let less : index < length held = search rules in
    more-pushed held index _ c.held_push.result (known_by c.loop-index.known) (known_by c.numbered.new.known) c.loop-index.history.items c.push_to.new.operations.items c.in_ok-push.push less
    c.loop-index.invariant c.held_push.ensures c.in_ok-push.ensures.learnt c.in_ok-push.ensures.ok c.in_ok-push_to.ensures
