-- Where none was refused before, what the next thread tells is told; else what was told before.
use Rattle.std.proofs.Common.{◌∙◌, ◌++◌, ◌∷◌, [], ap, sym, refl, subst, append_assoc}
use Rattle.std.specs.List.{All}
use Rattle.std.proofs.lemmas.List.Elements.{All-head, All-tail}
use Rattle.mailbox.specs.Threads.{IsOfOffice}
use Rattle.mailbox.proofs.Telling.{tell_none, tell_next, tell_before}
use Rattle.mailbox.proofs.threads.join_all.Goals as goal

pub loop-thread-init : goal.loop-thread-init
loop-thread-init g c =
    let gives = c.into_iter-thread-iterator.ensures.into_iter_gives.0 in (
      [],
      gives,
      tell_none g.Q.Fifo.is_seat g.Q.Fifo.known g.Q.Fifo.push_cause,
      tt,
      subst (All (IsOfOffice g.Q.Fifo.is_seat g.Q.Fifo.permits g.Q.Fifo.known c.args.office.now)) (sym gives) c.requires,
      refl,
    )

pub join_one-refusal-requires-after_bounds : goal.join_one-refusal-requires-after_bounds
join_one-refusal-requires-after_bounds g c κs within =
    let P = IsOfOffice g.Q.Fifo.is_seat g.Q.Fifo.permits g.Q.Fifo.known c.args.office.now in
    All-head P c.in-Some.thread c.next.new.self.rest.items (subst (All P) c.in-Some.ensures.steps.0 c.loop-thread.invariant.4)

pub loop-thread-preserved-then-is_none : goal.loop-thread-preserved-then-is_none
loop-thread-preserved-then-is_none g c =
    let P = IsOfOffice g.Q.Fifo.is_seat g.Q.Fifo.permits g.Q.Fifo.known c.args.office.now in
    let was = c.loop-thread.invariant in
    let thread = c.in-Some.thread in
    let rest = c.next.new.self.rest.items in
    let split = c.in-Some.ensures.steps.0 in (
      was.0 ++ thread ∷ [],
      append_assoc was.0 (thread ∷ []) rest ∙ ap (λ l. was.0 ++ l) (sym split) ∙ was.1,
      tell_next g.Q.Fifo.is_seat g.Q.Fifo.known g.Q.Fifo.push_cause was.0 (thread ∷ []) c.loop-thread.first c.join_one-refusal.result.0 c.if-is_none.ensures was.2 c.join_one-refusal.ensures.told,
      c.join_one-refusal.ensures.refusal,
      All-tail P thread rest (subst (All P) split was.4),
      c.join_one-refusal.ensures.sender,
    )

pub loop-thread-preserved : goal.loop-thread-preserved
loop-thread-preserved g c =
    let P = IsOfOffice g.Q.Fifo.is_seat g.Q.Fifo.permits g.Q.Fifo.known c.args.office.now in
    let was = c.loop-thread.invariant in
    let thread = c.in-Some.thread in
    let rest = c.next.new.self.rest.items in
    let split = c.in-Some.ensures.steps.0 in (
      was.0 ++ thread ∷ [],
      append_assoc was.0 (thread ∷ []) rest ∙ ap (λ l. was.0 ++ l) (sym split) ∙ was.1,
      tell_before g.Q.Fifo.is_seat g.Q.Fifo.known g.Q.Fifo.push_cause was.0 (thread ∷ []) c.loop-thread.first c.join_one-refusal.result.0 c.if-is_none.ensures was.2 c.join_one-refusal.ensures.told,
      was.3,
      All-tail P thread rest (subst (All P) split was.4),
      c.join_one-refusal.ensures.sender,
    )
