-- An empty handle owns nothing.
use Rattle.msq_c.specs.contracts.share_handles.MsqShareSlotNumbersShare.empty_like.Key.{name as #self}
use Rattle.msq_c.proofs.HandleKinds.{shares}
use Rattle.msq_c.proofs.HandleWalks.{empty_like}
use Rattle.msq_c.proofs.share_handles.MsqShareSlotNumbersShare.empty_like.Statement.{statement}
use Rattle.msq_c.proofs.share_handles.MsqShareSlotNumbersShare.empty_like.Code as code

pub empty_like_spec : {M : Type 1} → statement M
empty_like_spec 𝓤 𝓛 𝓜 𝓡 wired = empty_like shares 𝓤 𝓛 𝓜 𝓡 #self (code.unfolded 𝓤 𝓛.H 𝓜 𝓡 wired)
