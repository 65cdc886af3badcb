use Rattle.std.proofs.Common.{◌∙◌, sym, subst, length}
use Rattle.std.proofs.lemmas.Bool.{eqb-true, eqb-false}
use Rattle.mailbox.specs.Causes.{HasEnded}
use Rattle.mailbox.proofs.Unsent.{unsent_none, unsent_some}
use Rattle.mailbox.proofs.threads.ends_unsent.Goals as goal

pub returns-then-is_empty : goal.returns-then-is_empty
returns-then-is_empty g c =
    subst (HasEnded g.Q.Fifo.is_seat g.Q.Fifo.known g.Q.Fifo.push_cause c.args.office.now c.args.sender.now c.args.texts.now) (sym c.well.ensures)
    (unsent_none g.Q.Fifo.is_seat g.Q.Fifo.known g.Q.Fifo.push_cause c.args.office.now c.args.sender.now c.args.texts.now
    (eqb-true (length c.args.texts.now) 0 (sym c.is_empty.ensures ∙ c.if-is_empty.true)))

pub returns : goal.returns
returns g c =
    subst (HasEnded g.Q.Fifo.is_seat g.Q.Fifo.known g.Q.Fifo.push_cause c.args.office.now c.args.sender.now c.args.texts.now) (sym c.refused.ensures)
    (unsent_some g.Q.Fifo.is_seat g.Q.Fifo.known g.Q.Fifo.push_cause c.args.office.now c.args.sender.now c.args.texts.now
    (eqb-false (length c.args.texts.now) 0 (sym c.is_empty.ensures ∙ c.if-is_empty.false)))
