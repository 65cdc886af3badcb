use Rattle.std.proofs.Common.{rules}
use Rattle.history.specs.declared.operations.Stamped.{Stamped}
use Rattle.history_text.proofs.lines.parts_of.Goals as goal

pub returns : goal.returns
returns c =
    let actor = c.in_ok-actor.ensures in
    let op = c.in_ok-op.ensures in
    let first = c.in_ok-first.ensures in
    let last = c.in_ok-last.ensures in
    let at = c.in_ok-at.ensures in
    let reply = c.in_ok-reply.ensures in
    let o : Stamped = record { actor = actor.0; op = op.0; first = first.0; last = last.0; at = at.0; reply = reply.0 } in
    (o, (reply.1.0, search rules), c.stamped.ensures o actor.2 op.2 first.2 last.2 at.2 reply.2)

pub returns-in_err-at : goal.returns-in_err-at
returns-in_err-at c = grind rules
