-- A handle may go to another thread: what it owns may.
use denote.Param.Send.{IsSend, sendable}
use Rattle.msq_c.specs.ShareRows.{numbers_row as block_row}
use Rattle.msq_c.proofs.HandleKinds.{numbers_send as block_send}
use Rattle.msq_c.specs.contracts.share_handles.ShareHandle.{struct, the_codes, the_heap, the_row}
use Rattle.msq_c.proofs.HandleWalks.{crosses_if, sends}

pub send : IsSend the_row
send = sends struct the_codes the_heap (search sendable, tt) (λ d. crosses_if block_row block_send d.full d.at d.value)
