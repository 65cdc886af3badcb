-- Recordings of a queue: who called what, when the call began and ended, and what it was told. Values are texts.
use Rattle.std.specs.Prelude.{ℕ, List, [], ◌∷◌, ◌++◌, Option, None, Some}
use Rattle.std.specs.List.{flat_map}

-- what was called: a push of a text, a pop, or a shut
pub data Call : Type 0 where
  Push : List ℕ → Call
  Pop : Call
  Shut : Call

-- what a call was told: it is done, a text, that the queue is empty, or that the call is refused, as of a closed queue
pub data Told : Type 0 where
  Done : Told
  Value : List ℕ → Told
  Empty : Told
  Refused : Told
  Closed : Told

-- an operation of a recording: the name of who called, the call, when it began and ended, and what it was told
pub record Recorded : Type 0 where
  pub name : List ℕ
  pub call : Call
  pub first : ℕ
  pub last : Option ℕ
  pub told : Option Told

-- the text that a call pushes
abbrev pub text_of_call : Call → List (List ℕ)
text_of_call (Push text) = text ∷ []
text_of_call Pop = []
text_of_call Shut = []

-- the text that a call was told
abbrev pub text_of_told : Option Told → List (List ℕ)
text_of_told None = []
text_of_told (Some Done) = []
text_of_told (Some (Value text)) = text ∷ []
text_of_told (Some Empty) = []
text_of_told (Some Refused) = []
text_of_told (Some Closed) = []

-- the texts of values in an operation
abbrev pub texts_in : Recorded → List (List ℕ)
texts_in r = text_of_call r.call ++ text_of_told r.told

-- the texts of values in a recording, in the order of its lines
abbrev pub texts_of : List Recorded → List (List ℕ)
texts_of rs = flat_map texts_in rs
