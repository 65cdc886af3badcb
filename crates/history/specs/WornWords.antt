-- The names of the counted words.
use Rattle.std.specs.Prelude.{ℕ, List, codes}
use Rattle.history.specs.declared.refusals.WornWord.{WornWord}
use Rattle.history.specs.declared.refusals.WornWord.TheVariants.{Free, Next, Tail, Head}

-- the name of a counted word
abbrev pub word_text : WornWord → List ℕ
word_text Free = codes "Free"
word_text Next = codes "Next"
word_text Tail = codes "Tail"
word_text Head = codes "Head"
