-- The codes of the library.
use Rattle.std.specs.Prelude.{◌≡◌, ℕ, Option, Some, None, Result, Ok, Err}
use Rattle.history.specs.declared.refusals.Refusal.{Refusal}
use Rattle.history.specs.declared.refusals.Refusal.TheVariants.{NoNode, WornOut, Busy, Memory, BadSize, IdleActor, ActorBusy, NotHere, NoSuchActor, Text, Read, Write, Stranger, Double, Lost, Closed}
use Rattle.history.specs.declared.refusals.WornWord.{WornWord}
use Rattle.history.specs.declared.refusals.WornWord.TheVariants.{Free, Next, Tail, Head}
use Rattle.msq_c.specs.declared.troubles.Trouble.{Trouble}
use Rattle.msq_c.specs.declared.troubles.Trouble.TheVariants as troubles

-- the code of a word that is worn out
abbrev pub worn_code : WornWord → ℕ
worn_code Free = 2
worn_code Next = 37
worn_code Tail = 38
worn_code Head = 39

-- the code of a refusal: its number, and of a word that is worn out that word's own
abbrev pub refusal_code : Refusal → ℕ
refusal_code NoNode = 1
refusal_code (WornOut word) = worn_code word
refusal_code Busy = 3
refusal_code Memory = 4
refusal_code BadSize = 5
refusal_code IdleActor = 6
refusal_code ActorBusy = 7
refusal_code NotHere = 8
refusal_code NoSuchActor = 9
refusal_code (Text line cause) = 10
refusal_code Read = 11
refusal_code Write = 12
refusal_code Stranger = 13
refusal_code Double = 14
refusal_code Lost = 15
refusal_code Closed = 16

-- the code of a trouble
abbrev pub code_of : Trouble → ℕ
code_of (troubles.Refused refusal) = refusal_code refusal
code_of troubles.BadSize = 5
code_of troubles.NoHandle = 33
code_of troubles.NoRole = 34
code_of troubles.InUse = 35
code_of troubles.Raced = 36

-- the code of a call's answer: 0 at Ok
abbrev pub done_code : {A : Type 0} → Result A Trouble → ℕ
done_code (Ok x) = 0
done_code (Err refusal) = code_of refusal

-- the code of a pop's answer: 32 where the queue was empty
abbrev pub pop_code : {A : Type 0} → Result (Option A) Trouble → ℕ
pop_code (Ok (Some taken)) = 0
pop_code (Ok None) = 32
pop_code (Err refusal) = code_of refusal

-- a code tells an answer of which this holds
pub record Tells {A : Type 0} (code_of_answer : A → ℕ) (told : ℕ) (Holds : A → Type 0) : Type 0 where
  pub answer : A
  pub code : told ≡ code_of_answer answer
  pub holds : Holds answer
