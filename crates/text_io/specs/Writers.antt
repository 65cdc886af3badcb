-- What a sink over a writer has counted and told, as its fields have it.
use Rattle.std.specs.Prelude.{◌≡◌, false}
use Rattle.text_io.specs.declared.writers.WriterSink.{WriterSink}

-- a sink over this writer is as new
pub record IsUnwritten {W : Type 0} (sink : WriterSink W) (writer : W) : Type 0 where
  pub inner : sink.inner ≡ writer
  pub failures : sink.failures ≡ 0
  pub full : sink.full ≡ false
