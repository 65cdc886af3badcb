-- The layout of the shared words in one table of numbers, as the machine cites it.
pub use Rattle.line_steps.specs.Words.{value_word, encoded, node_words, memory_words, index, IsWord}
