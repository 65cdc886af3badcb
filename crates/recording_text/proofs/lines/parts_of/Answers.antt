use Rattle.std.proofs.Common.{rules}
use Rattle.std.proofs.lemmas.Result.{err_from_is_err_and}
use Rattle.recording_text.specs.Recordings.{Recorded}
use Rattle.recording_text.proofs.Spelling.{no_last}
use Rattle.recording_text.proofs.lines.parts_of.Goals as goal

pub returns : goal.returns
returns c =
    let name = c.in_ok-name.ensures in
    let call = c.in_ok-call.ensures in
    let first = c.in_ok-first.ensures in
    let last = c.in_ok-last.ensures in
    let reply = c.in_ok-reply.ensures in
    let r : Recorded = record { name = name.0; call = call.0; first = first.0; last = last.0; told = reply.0 } in
    (r, (record { name = name.1; call = call.1; told = reply.1.0 }, search rules), c.operation.ensures r name.3 call.3 first.2 last.2 reply.2)

pub returns-in_err-last : goal.returns-in_err-last
returns-in_err-last c =
    let name = c.in_ok-name.ensures in
    let call = c.in_ok-call.ensures in
    let first = c.in_ok-first.ensures in
    let none = c.in_err-last.ensures in
    let p = err_from_is_err_and c.from_residual-in_err-last.result c.from_residual-in_err-last.ensures.1 in
    rw (p.1, p.2) (
      none.0,
      no_last c.args.words c.text_of.new.words c.call_of.new.words c.expect_word.new.self c.number.new.self
          name.0 call.0 first.0 name.2 call.2 c.in_ok-expect_word.ensures.ok first.1 none.1,
    )
