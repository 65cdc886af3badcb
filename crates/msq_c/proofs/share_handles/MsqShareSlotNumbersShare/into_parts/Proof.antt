-- A full handle hands on what it owns.
use Rattle.msq_c.specs.contracts.share_handles.MsqShareSlotNumbersShare.into_parts.Key.{name as #self}
use Rattle.msq_c.proofs.HandleKinds.{shares}
use Rattle.msq_c.proofs.HandleWalks.{into_parts}
use Rattle.msq_c.proofs.share_handles.MsqShareSlotNumbersShare.into_parts.Statement.{statement}
use Rattle.msq_c.proofs.share_handles.MsqShareSlotNumbersShare.into_parts.Code as code

pub into_parts_spec : {M : Type 1} → statement M
into_parts_spec 𝓤 𝓛 𝓜 𝓡 wired = into_parts shares 𝓤 𝓛 𝓜 𝓡 #self (code.unfolded 𝓤 𝓛.H 𝓜 𝓡 wired)
