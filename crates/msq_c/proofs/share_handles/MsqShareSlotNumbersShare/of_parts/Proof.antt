-- A handle that is made of parts owns what these owned.
use Rattle.msq_c.specs.contracts.share_handles.MsqShareSlotNumbersShare.of_parts.Key.{name as #self}
use Rattle.msq_c.proofs.HandleKinds.{shares}
use Rattle.msq_c.proofs.HandleWalks.{of_parts}
use Rattle.msq_c.proofs.share_handles.MsqShareSlotNumbersShare.of_parts.Statement.{statement}
use Rattle.msq_c.proofs.share_handles.MsqShareSlotNumbersShare.of_parts.Code as code

pub of_parts_spec : {M : Type 1} → statement M
of_parts_spec 𝓤 𝓛 𝓜 𝓡 wired = of_parts shares 𝓤 𝓛 𝓜 𝓡 #self (code.unfolded 𝓤 𝓛.H 𝓜 𝓡 wired)
