-- What C holds of a share of a queue of three words whose calls are stepped.
use Rattle.std.specs.Prelude.{Bool}
use Rattle.msq_c.specs.declared.words_share_handles.MsqWordsShare.{MsqWordsShare}
use Rattle.msq_c.specs.ShareRows.{WordsShare}

-- whether there is a share
abbrev pub is_full : MsqWordsShare → Bool
is_full h = h.full

-- the block, where there is one
abbrev pub block_at : MsqWordsShare → WordsShare
block_at h = h.handle.value
