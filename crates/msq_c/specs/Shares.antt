-- What C holds of a share of a queue of numbers whose calls are stepped.
use Rattle.std.specs.Prelude.{Bool}
use Rattle.msq_c.specs.declared.share_handles.MsqShare.{MsqShare}
use Rattle.msq_c.specs.ShareRows.{NumbersShare}

-- whether there is a share
abbrev pub is_full : MsqShare → Bool
is_full h = h.full

-- the block, where there is one
abbrev pub block_at : MsqShare → NumbersShare
block_at h = h.handle.value
