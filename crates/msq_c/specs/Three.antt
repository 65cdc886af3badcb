-- What C holds of a seat of a queue of three words.
use Rattle.std.specs.Prelude.{Bool}
use Rattle.msq_c.specs.declared.word_handles.MsqWordsSeat.{MsqWordsSeat}
use Rattle.msq_c.specs.WordRows.{OwnThree}

-- whether there is a seat
abbrev pub is_full : MsqWordsSeat → Bool
is_full h = h.full

-- the seat, where there is one
abbrev pub block_at : MsqWordsSeat → OwnThree
block_at h = h.handle.value
