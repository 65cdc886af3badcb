use Rattle.std.proofs.Common.{rules, Some}
use Rattle.history.specs.declared.operations.Reply.TheVariants.{Value}
use Rattle.history_text.proofs.replies.reply_of.Goals as goal

pub returns-then-eq : goal.returns-then-eq
returns-then-eq c =
    let found = c.in_ok-value_of.ensures in
    (Some (Value found.0), (tt, search rules), c.value_reply.ensures found.0 found.2)
