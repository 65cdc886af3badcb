-- What a history tells of a recording that it stands for: all but the names, and which texts its values are.
use Rattle.std.specs.Prelude.{ℕ, List, [], Option, None, Some, map}
use Rattle.recording_text.specs.Recordings.{Call, Push, Pop, Shut, Told, Done, Value, Empty, Refused, Closed, Recorded, texts_of}
use Rattle.recording_text.specs.Numbers.{known_in, number_in}

-- a call without its text
abbrev pub shape_of_call : Call → Call
shape_of_call (Push text) = Push []
shape_of_call Pop = Pop
shape_of_call Shut = Shut

-- what was told without its text
abbrev pub shape_of_told : Option Told → Option Told
shape_of_told None = None
shape_of_told (Some Done) = Some Done
shape_of_told (Some (Value text)) = Some (Value [])
shape_of_told (Some Empty) = Some Empty
shape_of_told (Some Refused) = Some Refused
shape_of_told (Some Closed) = Some Closed

-- an operation without its name and its texts
abbrev pub shape_of : Recorded → Recorded
shape_of r = record {
  name = [];
  call = shape_of_call r.call;
  first = r.first;
  last = r.last;
  told = shape_of_told r.told;
}

-- the numbers of the texts of a recording, in the order of its lines
abbrev pub numbers_of : List Recorded → List ℕ
numbers_of rs = map (number_in (known_in rs)) (texts_of rs)
