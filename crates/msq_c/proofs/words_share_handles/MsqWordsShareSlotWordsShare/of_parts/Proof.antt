-- A handle that is made of parts owns what these owned.
use Rattle.msq_c.specs.contracts.words_share_handles.MsqWordsShareSlotWordsShare.of_parts.Key.{name as #self}
use Rattle.msq_c.proofs.HandleKinds.{words_shares}
use Rattle.msq_c.proofs.HandleWalks.{of_parts}
use Rattle.msq_c.proofs.words_share_handles.MsqWordsShareSlotWordsShare.of_parts.Statement.{statement}
use Rattle.msq_c.proofs.words_share_handles.MsqWordsShareSlotWordsShare.of_parts.Code as code

pub of_parts_spec : {M : Type 1} → statement M
of_parts_spec 𝓤 𝓛 𝓜 𝓡 wired = of_parts words_shares 𝓤 𝓛 𝓜 𝓡 #self (code.unfolded 𝓤 𝓛.H 𝓜 𝓡 wired)
