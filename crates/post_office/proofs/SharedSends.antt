-- A sender and a receiver may go to a thread where the queue may, and may be shared, and its seats may go.
use denote.Param.Send.{sendable, IsSend, IsSync}
use denote.Param.SendFields.{declared_send, declared_sync, as_row_send, as_row_sync}
use denote.RattleType.{RattleType}
use denote.Struct.Field.{row_field}
use Rattle.carriers.specs.declared.queues.Carrier.{Ghosts}
use Rattle.std.proofs.Crossing.{crosses, Arc-send}
use Rattle.shared_queue.specs.contracts.queue.SharedQueue as shared
use Rattle.shared_queue.specs.contracts.closers.Closer as closer
use Rattle.shared_queue.specs.contracts.sides.Side as side
use Rattle.shared_queue.specs.contracts.sender.Sender as sender
use Rattle.shared_queue.specs.contracts.receiver.Receiver as receiver
use Rattle.shared_queue.proofs.bells.Bells.TheSendSync.{the_send, the_sync}

module _ (C A S : RattleType) (carrier : Ghosts C.Denot A.Denot S.Denot) (send : IsSend C) (seat : IsSend S) (sync : IsSync C) where
  shared_send : IsSend (shared.the_row C)
  shared_send = declared_send (shared.the_type C) (as_row_send (row_field C) send, (search (crosses, sendable) depth 20, (the_send, tt)))

  shared_sync : IsSync (shared.the_row C)
  shared_sync = declared_sync (shared.the_type C) (as_row_sync (row_field C) sync, (search (crosses, sendable) depth 20, (the_sync, tt)))

  closer_send : IsSend (closer.the_row C A S carrier)
  closer_send = declared_send (closer.the_type C A S carrier) (Arc-send (shared.the_row C) shared_send shared_sync, (as_row_send (row_field S) seat, tt))

  -- a side, whose closer lies behind a lock
  side_send : IsSend (side.the_row C A S carrier)
  side_send =
      let c : IsSend (closer.the_row C A S carrier) = closer_send in
      declared_send (side.the_type C A S carrier) (search (crosses, sendable, c) depth 20, (search (crosses, sendable) depth 20, tt))

  side_sync : IsSync (side.the_row C A S carrier)
  side_sync =
      let c : IsSend (closer.the_row C A S carrier) = closer_send in
      declared_sync (side.the_type C A S carrier) (search (crosses, sendable, c) depth 20, (search (crosses, sendable) depth 20, tt))

  pub sender_send : IsSend (sender.the_row C A S carrier)
  sender_send = declared_send (sender.the_type C A S carrier) (
    Arc-send (shared.the_row C) shared_send shared_sync,
    (Arc-send (side.the_row C A S carrier) side_send side_sync, (as_row_send (row_field S) seat, tt)),
  )

  pub receiver_send : IsSend (receiver.the_row C A S carrier)
  receiver_send = declared_send (receiver.the_type C A S carrier) (
    Arc-send (shared.the_row C) shared_send shared_sync,
    (Arc-send (side.the_row C A S carrier) side_send side_sync, (as_row_send (row_field S) seat, tt)),
  )
