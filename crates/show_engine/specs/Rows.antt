-- The rows of a picture: pieces of text at their columns, truncated where a row is too long.
use Rattle.std.specs.Prelude.{ℕ, zero, suc, ◌+◌, ◌-◌, List, ◌++◌, length, take, replicate, codes, decimal, nat_eq, nat_le, min, if◌then◌else◌}
use Rattle.schedule_text.specs.Schedules.{Schedule}
use Rattle.schedule_text.specs.Texts.{kind_name}
use Rattle.show_engine.specs.declared.frames.Frame.{Frame}
use Rattle.show_engine.specs.Frames.{column_of}

-- a text with spaces up to a column, if it doesn't reach that far
abbrev pub padded : (column : ℕ) → List ℕ → List ℕ
padded column text = text ++ replicate (column - length text) 32

-- a row of at most so many columns: a longer one is truncated, and ends in ~
abbrev pub truncated_to : (width : ℕ) → List ℕ → List ℕ
truncated_to width text = if nat_le (length text) width then text else take (width - 1) text ++ codes "~"

-- a row, and beside it at a column what stands there, if anything does
abbrev pub beside : (column : ℕ) → (side row : List ℕ) → List ℕ
beside column side row = if nat_eq (length side) 0 then row else padded column row ++ side

-- the number at the left of a row
abbrev pub number_text : ℕ → List ℕ
number_text n = replicate (6 - length (decimal n)) 32 ++ decimal n ++ codes " "

-- a row: what it begins with, an actor's text at the actor's column, and the chains beside it
unfoldable pub row_text : Frame → (me : ℕ) → (start cell side : List ℕ) → List ℕ
row_text f me start cell side = truncated_to f.width (beside f.side side (padded (column_of f me) start ++ cell)) ++ codes "\n"

-- a row of two texts, the second one at a column
unfoldable pub pair_row : Frame → (column : ℕ) → (first second : List ℕ) → List ℕ
pair_row f column first second = truncated_to f.width (padded column first ++ second) ++ codes "\n"

-- the numbers of so many actors, each at its column
abbrev pub names_text : Frame → (count : ℕ) → List ℕ
names_text f zero = codes " actor"
names_text f (suc n) = padded (column_of f (f.first + n) + 1) (names_text f n) ++ decimal (f.first + n)

-- the row above the others: which actor stands in which column
unfoldable pub names_row : Frame → List ℕ
names_row f = truncated_to f.width (names_text f f.count) ++ codes "\n"

-- the first line: the queue with its sizes, and the actors
unfoldable pub queue_text : Schedule → List ℕ
queue_text s =
    codes "queue " ++ kind_name s.kind ++ codes ", bits " ++ decimal s.bits ++ codes ", nodes " ++ decimal s.nodes
    ++ codes ", limit " ++ decimal s.limit ++ codes ", actors " ++ decimal s.actors ++ codes "\n"

-- the last line: which of so many steps, and of so many actors, are shown
unfoldable pub shown_text : Frame → (actors steps : ℕ) → List ℕ
shown_text f actors steps =
    codes "steps " ++ decimal f.from ++ codes " to " ++ decimal (min f.to steps) ++ codes " of " ++ decimal steps
    ++ codes ", actors " ++ decimal f.first ++ codes " to " ++ decimal (f.first + f.count - 1) ++ codes " of " ++ decimal actors ++ codes "\n"
