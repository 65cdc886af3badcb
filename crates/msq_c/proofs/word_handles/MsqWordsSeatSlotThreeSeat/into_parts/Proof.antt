-- A full handle hands on what it owns.
use Rattle.msq_c.specs.contracts.word_handles.MsqWordsSeatSlotThreeSeat.into_parts.Key.{name as #self}
use Rattle.msq_c.proofs.HandleKinds.{threes}
use Rattle.msq_c.proofs.HandleWalks.{into_parts}
use Rattle.msq_c.proofs.word_handles.MsqWordsSeatSlotThreeSeat.into_parts.Statement.{statement}
use Rattle.msq_c.proofs.word_handles.MsqWordsSeatSlotThreeSeat.into_parts.Code as code

pub into_parts_spec : {M : Type 1} → statement M
into_parts_spec 𝓤 𝓛 𝓜 𝓡 wired = into_parts threes 𝓤 𝓛 𝓜 𝓡 #self (code.unfolded 𝓤 𝓛.H 𝓜 𝓡 wired)
