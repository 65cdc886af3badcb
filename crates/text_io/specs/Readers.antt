-- What a source over a reader has counted and told, as its fields have it.
use Rattle.std.specs.Prelude.{◌≡◌, ℕ, false}
use Rattle.text_io.specs.declared.readers.ReaderSource.{ReaderSource}

-- a source over this reader is as new, with this many bytes that it can give
pub record IsUnread {R : Type 0} (source : ReaderSource R) (reader : R) (budget : ℕ) : Type 0 where
  pub inner : source.inner ≡ reader
  pub most : source.budget ≡ budget
  pub failures : source.failures ≡ 0
  pub ended : source.ended ≡ false
