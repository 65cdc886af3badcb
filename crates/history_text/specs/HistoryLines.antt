-- The grammar of histories: what each line may say, in which words, and which of this is in range.
use Rattle.std.specs.Prelude.{◌≡◌, ◌≤◌, ◌-◌, ◌^◌, ℕ, List, [], ◌∷◌, ◌++◌, Option, Some, None, true, length, codes, All}
use Rattle.history.specs.declared.text_causes.TextCause.{TextCause}
use Rattle.text_io.specs.Lines.{spaced}
use Rattle.text_io.specs.Numerals.{numeral, IsWithin}
use Rattle.history.specs.Limits.{body_bits, actor_bits}
use Rattle.text_io.specs.Grammars.{Grammar}
use Rattle.text_io.specs.Listings.{Listing, ListingDue, ListingLine, listing_grammar, IsFirstFaultIn}
use Rattle.text_io.specs.ListingRefusals.{IsRefusalIn}
use Rattle.history.specs.declared.refusals.Refusal.{Refusal}
use Rattle.history.specs.declared.refusals.Refusal.TheVariants.{WornOut}
use Rattle.history.specs.declared.operations.Op.{Op}
use Rattle.history.specs.declared.operations.Op.TheVariants.{Enq, Deq, Shut}
use Rattle.history.specs.declared.operations.Taken.{Taken}
use Rattle.history.specs.declared.operations.Reply.{Reply}
use Rattle.history.specs.declared.operations.Reply.TheVariants.{Done, Value, Empty, Refused}
use Rattle.history.specs.declared.operations.Stamped.{Stamped}
use Rattle.history.specs.History.{may_refuse}
use Rattle.history.specs.WornWords.{word_text}
use Rattle.history_text.specs.HistoryText.{refusal_text}

-- a call: `enq` and the body, `deq`, or `shut`
abbrev pub call_words : Op → List (List ℕ)
call_words (Enq body) = codes "enq" ∷ numeral body ∷ []
call_words Deq = codes "deq" ∷ []
call_words Shut = codes "shut" ∷ []

-- the number of a step, or a dash where there is none
abbrev pub step_word : Option ℕ → List ℕ
step_word None = codes "-"
step_word (Some step) = numeral step

-- a refusal: its number, and for a worn word the word's name
abbrev pub refusal_words : Refusal → List (List ℕ)
refusal_words (WornOut word) = codes "2" ∷ word_text word ∷ []
refusal_words refusal = refusal_text refusal ∷ []

-- a value: the number of the actor that pushed it, and the body
abbrev pub value_words : Taken → List (List ℕ)
value_words value = numeral value.from ∷ numeral value.body ∷ []

-- a reply, or a dash where there is none
abbrev pub reply_words : Option Reply → List (List ℕ)
reply_words None = codes "-" ∷ []
reply_words (Some Done) = codes "done" ∷ []
reply_words (Some (Value value)) = codes "value" ∷ value_words value
reply_words (Some Empty) = codes "empty" ∷ []
reply_words (Some (Refused refusal)) = codes "refused" ∷ refusal_words refusal

-- the words of an operation behind those of its call
abbrev pub stamp_words : Stamped → List (List ℕ)
stamp_words o =
    codes "first" ∷ numeral o.first ∷ codes "last" ∷ step_word o.last ∷ codes "at" ∷ step_word o.at ∷ codes "reply" ∷ reply_words o.reply

-- the words of an operation
abbrev pub operation_words : Stamped → List (List ℕ)
operation_words o = numeral o.actor ∷ call_words o.op ++ stamp_words o

-- the words of the first line
abbrev pub count_words : ℕ → List (List ℕ)
count_words count = codes "history" ∷ numeral count ∷ []

-- a reply is none, or one that a queue may give
abbrev pub IsQueueReply : Option Reply → Type 0
IsQueueReply None = Unit {0}
IsQueueReply (Some Done) = Unit {0}
IsQueueReply (Some (Value value)) = Unit {0}
IsQueueReply (Some Empty) = Unit {0}
IsQueueReply (Some (Refused refusal)) = may_refuse refusal ≡ true

-- the number of an actor
abbrev pub IsActor : ℕ → Type 0
IsActor actor = IsWithin 1 (2 ^ actor_bits - 1) actor

-- the number of a body
abbrev pub IsBody : ℕ → Type 0
IsBody body = IsWithin 0 (2 ^ body_bits - 1) body

-- the number of a step
abbrev pub IsStep : ℕ → Type 0
IsStep step = IsWithin 1 18446744073709551615 step

-- the body of an enqueue is in range
abbrev pub IsCallInRange : Op → Type 0
IsCallInRange (Enq body) = IsBody body
IsCallInRange Deq = Unit {0}
IsCallInRange Shut = Unit {0}

-- the number of a step is in range where there is one
abbrev pub IsStepInRange : Option ℕ → Type 0
IsStepInRange None = Unit {0}
IsStepInRange (Some step) = IsStep step

-- the numbers of a value are in range
abbrev pub IsValueInRange : Taken → Type 0
IsValueInRange value = IsActor value.from × IsBody value.body

-- the numbers of a reply are in range
abbrev pub IsReplyInRange : Option Reply → Type 0
IsReplyInRange (Some (Value value)) = IsValueInRange value
IsReplyInRange _ = Unit {0}

-- the numbers of an operation are in range
pub record IsOperationInRange (o : Stamped) : Type 0 where
  pub actor : IsActor o.actor
  pub op : IsCallInRange o.op
  pub first : IsStep o.first
  pub last : IsStepInRange o.last
  pub at : IsStepInRange o.at
  pub reply : IsReplyInRange o.reply

-- an operation is one that a line of a history may say
abbrev pub IsReadable : Stamped → Type 0
IsReadable o = IsQueueReply o.reply × IsOperationInRange o

-- there are at most 1,000,000 operations
abbrev pub IsCount : ℕ → Type 0
IsCount count = count ≤ 1000000

-- a history that a text can hold: at most 1,000,000 operations, each of which a line may say
pub record IsHistoryInRange (ops : List Stamped) : Type 0 where
  pub count : IsCount (length ops)
  pub each : All IsReadable ops

-- texts of histories: the first line says how many operations follow
abbrev pub history_listing : Listing ℕ Stamped
history_listing = record {
  count = λ count. count;
  header_in_range = IsCount;
  header = λ count. spaced (count_words count);
  may_say = λ o. IsQueueReply o.reply;
  in_range = λ count o. IsOperationInRange o;
  item = λ o. spaced (operation_words o);
}

-- what is due in a text of a history
abbrev pub HistoryDue : Type 0
HistoryDue = ListingDue ℕ

-- what a line of a history says: how many operations there are, or one of them
abbrev pub HistoryLine : Type 0
HistoryLine = ListingLine ℕ Stamped

-- the grammar of histories
abbrev pub history_grammar : Grammar HistoryDue HistoryLine
history_grammar = listing_grammar history_listing

-- the first faulty line of a text, as one of a history, has this number, and is wrong for this cause
abbrev pub HasFirstFault : List ℕ → ℕ → TextCause → Type 0
HasFirstFault text number cause = IsFirstFaultIn history_listing text number cause

-- the refusal of a text that is no history's: its first faulty line and what is wrong with it, or no room
abbrev pub IsFirstFaultOfHistory : List ℕ → Refusal → Type 0
IsFirstFaultOfHistory text refusal = IsRefusalIn history_listing text refusal
