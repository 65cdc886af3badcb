use Rattle.recording_text.specs.RecordingReading.{said_of, known_by}
use Rattle.recording_text.proofs.Known.{stamped-numbered}
use Rattle.recording_text.proofs.numbers.numbered.Goals as goal

pub returns-clause-ok : goal.returns-clause-ok
returns-clause-ok c =
    stamped-numbered (said_of c.args.read) (known_by c.args.known.now) (known_by c.numbered_call.new.known) (known_by c.numbered_reply.new.known) c.in_ok-op.op c.in_ok-reply.reply
    c.in_ok-op.ensures.learnt c.in_ok-reply.ensures.learnt c.in_ok-op.ensures.ok c.in_ok-reply.ensures.ok
