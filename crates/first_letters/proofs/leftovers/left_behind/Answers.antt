-- The one waiter comes back to the list that it was taken from; and what is left of it is what it sent.
use Rattle.std.proofs.Common.{◌∙◌, ◌++◌, ◌∷◌, [], refl, ap, subst}
use Rattle.carriers.specs.Ends.{ClosesOf}
use Rattle.shared_queue.specs.Handles.{sender_queue, sender_seat, receiver_seat}
use Rattle.value_queue.specs.Queues.{newcomer}
use Rattle.value_queue.specs.ValuesSeen.{known_by}
use Rattle.picked.specs.Values.{permits_of}
use Rattle.post_office.specs.Offices.{office_queue, office_seat}
use Rattle.first_letters.proofs.Left.{alone, put_back, known_three, first_left}
use Rattle.first_letters.proofs.leftovers.left_behind.Goals as goal

pub close-requires-clause-senders : goal.close-requires-clause-senders
close-requires-clause-senders c κs =
    let o = c.in_ok-office in
    put_back sender_queue (office_queue o.office) o.waiters.items c.pop.new.self.items c.push.new.self.items c.in-Some.waiter c.try_send.new.self
    c.in-Some.ensures.items o.ensures.queue.senders_are c.try_send.ensures.queue c.in-Ok.ensures.items

pub returns-in-Ok-close : goal.returns-in-Ok-close
returns-in-Ok-close c =
    let o = c.in_ok-office in
    let waiter = c.try_send.new.self in
    let was = alone (λ h. known_by (sender_seat h)) o.waiters.items c.pop.new.self.items c.in-Some.waiter (newcomer 1) c.in-Some.ensures.items o.ensures.senders in
    let one = c.in-Ok.ensures.items ∙ ap (λ l. l ++ waiter ∷ []) was.0 in
    let three = known_three known_by sender_seat receiver_seat c.push.new.self.items o.cooks.items (office_seat o.office) waiter (newcomer 2) one o.ensures.receivers in
    let permits = permits_of (office_queue o.office) in
    let rest = c.in-Ok-close.rest in
    c.first_of.ensures
    ∙ first_left permits (known_by (sender_seat c.in-Some.waiter)) (known_by (sender_seat waiter)) (newcomer 2) (known_by (office_seat o.office) ∷ []) rest c.args.order
    (ap (λ k. k.number) was.1) (ap (λ k. k.mine) was.1) c.in_ok-try_send.ensures.pushed refl refl o.ensures.takers
    (subst (λ l. ClosesOf permits l rest) three c.in-Ok-close.ensures.rest)
