-- A waiter may go to a thread.
use denote.Param.Send.{sendable}
use Rattle.first_letters.specs.contracts.orders.Order as order
use Rattle.first_letters.proofs.orders.Order.TheSendSync.{the_send}
use Rattle.post_office.proofs.Sent.{sender_held}
use Rattle.first_letters.proofs.orders.fn.serve.join+arg2.Goals as goal

pub join-requires-send-F : goal.join-requires-send-F
join-requires-send-F g c κs within =
    let s = sender_held order.the_row the_send in
    search (sendable, s) depth 40
