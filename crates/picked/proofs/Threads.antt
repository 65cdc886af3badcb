-- The non-blocking queue of values may go to a thread, and threads may share it, where its values may go.
use denote.Param.{number}
use denote.Param.Send.{IsSend, IsSync}
use denote.RattleType.{RattleType}
use Rattle.nonblocking.specs.contracts.algorithm.NonBlockingAlgorithm as algorithm
use Rattle.nonblocking.specs.contracts.algorithm.NonBlockingAlgorithmAlgorithm.TheImpl as ms
use Rattle.picked.specs.contracts.values.SplitOf as split
use Rattle.picked.proofs.values.SplitOf.TheSendSync as goes

module _ (T : RattleType) where
  abbrev pub queue_row : RattleType
  queue_row = split.the_row T algorithm.the_row (ms.ghosts (number 16)) (ms.ghosts (number 20)) (ms.ghosts (number 24)) (ms.ghosts (number 28)) (ms.ghosts (number 32))

  pub queue_send : IsSend T → IsSend queue_row
  queue_send send = goes.the_send T algorithm.the_row _ _ _ _ _ send

  pub queue_sync : IsSend T → IsSync queue_row
  queue_sync send = goes.the_sync T algorithm.the_row _ _ _ _ _ send
