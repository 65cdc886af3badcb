-- A sender and a receiver of an office that was opened may go to a thread where its letters may.
use denote.Hole.{as_row}
use denote.Param.Send.{IsSend}
use denote.RattleType.{RattleType}
use Rattle.carriers.specs.declared.queues.Carrier.{Ghosts}
use Rattle.shared_queue.specs.contracts.sender.Sender as sender
use Rattle.shared_queue.specs.contracts.receiver.Receiver as receiver
use Rattle.post_office.proofs.SharedSends.{sender_send, receiver_send}
use Rattle.node_arena.specs.contracts.seats.Seat as seat
use Rattle.node_arena.proofs.seats.Seat.TheSendSync.{the_send as seat_send}
use Rattle.picked.proofs.Threads.{queue_row, queue_send, queue_sync}

module _ (T : RattleType) (send : IsSend T) (g : Ghosts (queue_row T).Denot T.Denot (seat.the_row T).Denot) where
  pub sender_goes : IsSend (sender.the_row (queue_row T) T (seat.the_row T) g)
  sender_goes = sender_send (queue_row T) T (seat.the_row T) g (queue_send T send) (seat_send T send) (queue_sync T send)

  pub receiver_goes : IsSend (receiver.the_row (queue_row T) T (seat.the_row T) g)
  receiver_goes = receiver_send (queue_row T) T (seat.the_row T) g (queue_send T send) (seat_send T send) (queue_sync T send)

  -- and so may one that a closure holds
  pub sender_held : IsSend (as_row (sender.the_field (queue_row T) T (seat.the_row T) g))
  sender_held = sender_goes

  pub receiver_held : IsSend (as_row (receiver.the_field (queue_row T) T (seat.the_row T) g))
  receiver_held = receiver_goes
