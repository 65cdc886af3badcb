-- What the readers of the parts of an operation's line look for.
use Rattle.std.specs.Prelude.{◌≡◌, ℕ, List, [], ◌∷◌, Option, Some}
use Rattle.text_io.specs.Listings.{SaysHeader, SaysItem}
use Rattle.text_io.specs.Numerals.{numeral}
use Rattle.history.specs.declared.refusals.WornWord.{WornWord}
use Rattle.history.specs.declared.refusals.Refusal.{Refusal}
use Rattle.history.specs.declared.operations.Taken.{Taken}
use Rattle.history.specs.declared.operations.Reply.{Reply}
use Rattle.history.specs.declared.operations.Reply.TheVariants.{Refused}
use Rattle.history.specs.declared.operations.Stamped.{Stamped}
use Rattle.history.specs.WornWords.{word_text}
use Rattle.history_text.specs.HistoryLines.{step_word, value_words, refusal_words, reply_words, operation_words, history_listing, IsQueueReply}

-- a word and the number behind it
abbrev pub labelled_number : List ℕ → ℕ → List (List ℕ)
labelled_number label n = label ∷ numeral n ∷ []

-- a word and the step behind it, or a dash
abbrev pub labelled_step : List ℕ → Option ℕ → List (List ℕ)
labelled_step label step = label ∷ step_word step ∷ []

-- these are the words of a reply that a queue may give
abbrev pub AreOfReply : List (List ℕ) → Option Reply → Type 0
AreOfReply words reply = IsQueueReply reply × (words ≡ reply_words reply)

-- these are the words of a refusal that a queue may give
abbrev pub AreOfRefusal : List (List ℕ) → Refusal → Type 0
AreOfRefusal words refusal = IsQueueReply (Some (Refused refusal)) × (words ≡ refusal_words refusal)

-- these are the words of a value
abbrev pub AreOfValue : List (List ℕ) → Taken → Type 0
AreOfValue words value = words ≡ value_words value

-- this is the one word that names a counted word
abbrev pub AreOfWord : List (List ℕ) → WornWord → Type 0
AreOfWord words word = words ≡ word_text word ∷ []

-- these are the words of an operation
abbrev pub AreOfOperation : List (List ℕ) → Stamped → Type 0
AreOfOperation words o = IsQueueReply o.reply × (words ≡ operation_words o)

-- a line says an operation
abbrev pub SaysOperation : List ℕ → Stamped → Type 0
SaysOperation says o = SaysItem history_listing says o

-- a line says how many operations there are
abbrev pub SaysCount : List ℕ → ℕ → Type 0
SaysCount says count = SaysHeader history_listing says count

-- a reply of one word
abbrev pub IsPlainReply : List ℕ → Option Reply → Type 0
IsPlainReply word reply = (word ∷ [] ≡ reply_words reply) × IsQueueReply reply
