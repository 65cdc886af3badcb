-- The grammar of recipes: what a line says before its comment, and which lines are due.
use Rattle.std.specs.Prelude.{◌≡◌, ℕ, ◌+◌, ◌-◌, ◌*◌, ◌^◌, ◌<◌, ◌≤◌, ◌==◌, Bool, true, false, if◌then◌else◌, List, [], ◌∷◌, ◌++◌, map, Option, Some, None, codes, length, nat_le, slice_get, take}
use Rattle.counted_ref.specs.Ref.{IsSplit}
use Rattle.line_table.specs.Names.{name_of}
use Rattle.line_table.specs.declared.lines.Kind.TheVariants.{TwoLock}
use Rattle.schedule_text.specs.declared.fields.Field.{Field}
use Rattle.schedule_text.specs.declared.fields.Field.TheVariants.{Bits, Nodes, Limit, Actors, Events}
use Rattle.schedule_text.specs.declared.schedules.Event.{Event}
use Rattle.schedule_text.specs.declared.schedules.Event.TheVariants.{Steps}
use Rattle.schedule_text.specs.Texts.{event_words, field_name, greatest, kind_name, least, IsActor, IsEventInRange}
use Rattle.history.specs.declared.refusals.Refusal.{Refusal}
use Rattle.history.specs.declared.refusals.Refusal.TheVariants.{Memory, Text}
use Rattle.text_io.specs.Grammars.{Grammar, IsFault, IsText}
use Rattle.text_io.specs.Lines.{HasNo, line as line_saying, spaced}
use Rattle.text_io.specs.Numerals.{numeral, IsWithin}
use Rattle.expand_engine.specs.declared.recipes.Due.{Due}
use Rattle.expand_engine.specs.declared.recipes.Due.TheVariants.{Version as VersionDue, Queue as QueueDue, Number as NumberDue, Act as ActDue, Repeated, Nothing as NothingDue}
use Rattle.expand_engine.specs.declared.recipes.Said.{Said}
use Rattle.expand_engine.specs.declared.recipes.Said.TheVariants.{Nothing, Version, Queue, Number, Happens, Until, Finish, Repeat, End}
use Rattle.expand_engine.specs.declared.recipes.Sizes.{Sizes}

-- whether a byte is a space or a tab
abbrev pub is_blank : ℕ → Bool
is_blank b = if b == 32 then true else b == 9

-- whether a byte, if there is one, is a carriage return
abbrev pub is_return : Option ℕ → Bool
is_return None = false
is_return (Some b) = b == 13

-- the same bytes, less a carriage return at their end
abbrev pub without_return : List ℕ → List ℕ
without_return bytes = if is_return (slice_get bytes (length bytes - 1)) then take (length bytes - 1) bytes else bytes

-- a byte of a word, behind a space where the word stands apart from one before
abbrev pub word_byte : (is_apart : Bool) → (byte : ℕ) → List ℕ
word_byte is_apart b = if is_apart then 32 ∷ b ∷ [] else b ∷ []

-- what bytes say down to the first `#`: their words, one space between two; by whether a word began before, and whether blanks came
-- behind it
abbrev pub said_from : (is_begun is_apart : Bool) → List ℕ → List ℕ
said_from is_begun is_apart [] = []
said_from is_begun is_apart (b ∷ rest) =
    if b == 35 then [] else if is_blank b then said_from is_begun is_begun rest else word_byte is_apart b ++ said_from true false rest

-- what a line says before its comment
abbrev pub spoken : List ℕ → List ℕ
spoken line = said_from false false (without_return line)

-- the words of what a line says
abbrev pub said_words : Said → List (List ℕ)
said_words Nothing = []
said_words Version = codes "msq" ∷ codes "schedule" ∷ codes "3" ∷ []
said_words (Queue kind) = codes "queue" ∷ kind_name kind ∷ []
said_words (Number field value) = field_name field ∷ numeral value ∷ []
said_words (Happens event) = event_words event
said_words (Until actor line) = codes "until" ∷ numeral actor ∷ name_of line ∷ []
said_words (Finish actor) = codes "finish" ∷ numeral actor ∷ []
said_words (Repeat times) = codes "repeat" ∷ numeral times ∷ []
said_words End = codes "end" ∷ []

-- the bytes of what a line says
abbrev pub said_text : Said → List ℕ
said_text said = spaced (said_words said)

-- whether this is something that actors do
abbrev pub is_act : Said → Bool
is_act (Happens event) = true
is_act (Until actor line) = true
is_act (Finish actor) = true
is_act _ = false

-- an act, a repeat or an end
abbrev pub IsActSaid : Said → Type 0
IsActSaid Nothing = ⊥
IsActSaid Version = ⊥
IsActSaid (Queue kind) = ⊥
IsActSaid (Number field value) = ⊥
IsActSaid _ = Unit {0}

-- whether a further line is due
abbrev pub is_due : Due → Bool
is_due NothingDue = false
is_due _ = true

-- where this number of the header is due, a line may say this one; where it is the bits, which are 24 unless a line says them, it may
-- be the nodes
abbrev pub MayName : Field → Field → Type 0
MayName Bits Nodes = Unit {0}
MayName due field = due ≡ field

-- the line that is due may say this; all but the first may say nothing, and a repeat has none in it
abbrev pub MaySay : Due → Said → Type 0
MaySay VersionDue Version = Unit {0}
MaySay QueueDue (Queue kind) = Unit {0}
MaySay QueueDue Nothing = Unit {0}
MaySay (NumberDue bits due) (Number field value) = MayName due field
MaySay (NumberDue bits due) Nothing = Unit {0}
MaySay (ActDue steps) Nothing = Unit {0}
MaySay (ActDue steps) said = IsActSaid said
MaySay (Repeated steps times) Nothing = Unit {0}
MaySay (Repeated steps times) (Repeat again) = ⊥
MaySay (Repeated steps times) said = IsActSaid said
MaySay _ _ = ⊥

-- each number of an act or a repeat is in its range
abbrev pub IsActInRange : Said → Type 0
IsActInRange (Happens event) = IsEventInRange event
IsActInRange (Until actor line) = IsActor actor
IsActInRange (Finish actor) = IsActor actor
IsActInRange (Repeat times) = IsWithin 1 1000000 times
IsActInRange _ = Unit {0}

-- how many steps an act counts as: those of an event that tells them, and 100 at least
abbrev pub weight : Said → ℕ
weight (Happens (Steps me count)) = if nat_le count 100 then 100 else count
weight _ = 100

-- there is room for so many steps, where this is an act
abbrev pub HasRoomIf : Bool → (steps : ℕ) → Type 0
HasRoomIf true steps = steps ≤ 100000000
HasRoomIf false steps = Unit {0}

-- there is room for what is said, where the acts so far count as so many steps and each is done so often
abbrev pub HasRoom : (steps times : ℕ) → Said → Type 0
HasRoom steps times said = HasRoomIf (is_act said) (steps + times * weight said)

-- each number of what a line says is in its range, and there is room for it
abbrev pub IsSaidInRange : Due → Said → Type 0
IsSaidInRange (NumberDue bits due) (Number field value) = IsWithin (least field) (greatest bits field) value
IsSaidInRange (ActDue steps) said = IsActInRange said × HasRoom steps 1 said
IsSaidInRange (Repeated steps times) said = IsActInRange said × HasRoom steps times said
IsSaidInRange _ _ = Unit {0}

-- whether a line says nothing
abbrev pub says_nothing : Said → Bool
says_nothing Nothing = true
says_nothing _ = false

-- how many bits hold a node, after a line that may say it
abbrev pub bits_in : (bits : ℕ) → Said → ℕ
bits_in bits (Number Bits value) = value
bits_in bits _ = bits

-- what is due after a line that says the bits or the nodes
abbrev pub due_after_bits : (bits : ℕ) → Said → Due
due_after_bits bits (Number Nodes value) = NumberDue bits Limit
due_after_bits bits said = NumberDue (bits_in bits said) Nodes

-- what is due after a number of the header
abbrev pub due_after_number : (bits : ℕ) → Field → Said → Due
due_after_number bits Bits said = due_after_bits bits said
due_after_number bits Nodes said = NumberDue bits Limit
due_after_number bits Limit said = NumberDue bits Actors
due_after_number bits Actors said = ActDue 0
due_after_number bits Events said = ActDue 0

-- what is due after an act, a repeat or the end
abbrev pub due_outside : (steps : ℕ) → Said → Due
due_outside steps (Repeat times) = Repeated steps times
due_outside steps End = NothingDue
due_outside steps said = ActDue (steps + weight said)

-- what is due after an act in a repeat, or its end
abbrev pub due_inside : (steps times : ℕ) → Said → Due
due_inside steps times End = ActDue steps
due_inside steps times said = Repeated (steps + times * weight said) times

-- what is due after a line that says something
abbrev pub due_said : Due → Said → Due
due_said VersionDue said = QueueDue
due_said QueueDue said = NumberDue 24 Bits
due_said (NumberDue bits field) said = due_after_number bits field said
due_said (ActDue steps) said = due_outside steps said
due_said (Repeated steps times) said = due_inside steps times said
due_said NothingDue said = NothingDue

-- what is due after a line: the same, where it says nothing
abbrev pub due_after : Due → Said → Due
due_after due said = if says_nothing said then due else due_said due said

-- the numbers that go with what is due are in their ranges
abbrev pub IsDueInRange : Due → Type 0
IsDueInRange (NumberDue bits field) = IsSplit bits
IsDueInRange (ActDue steps) = steps ≤ 100000000
IsDueInRange (Repeated steps times) = (steps ≤ 100000000) × (times ≤ 1000000)
IsDueInRange _ = Unit {0}

-- this act, repeat or end begins with this word, and has these behind it
abbrev pub SpellsAct : List ℕ → List (List ℕ) → Said → Type 0
SpellsAct name words said = IsActSaid said × (name ∷ words ≡ said_words said)

-- words are those of an event
abbrev pub SpellsEvent : List (List ℕ) → Said → Type 0
SpellsEvent words said = (event : Event) × (said ≡ Happens event) × (words ≡ event_words event)

-- the line that is due says this
abbrev pub SaysWhere : Due → List ℕ → Said → Type 0
SaysWhere due line said = MaySay due said × (line ≡ said_text said)

-- the numbers of a line have room in the header's fields
abbrev pub HasWords : Said → Type 0
HasWords (Number Bits value) = value < 2 ^ 32
HasWords (Number Nodes value) = value < 2 ^ 32
HasWords (Number Actors value) = value < 2 ^ 16
HasWords _ = Unit {0}

-- a line of a recipe: its bytes, and what it says
pub record RecipeLine : Type 0 where
  pub bytes : List ℕ
  pub says : Said

-- the line that is due may be this one: before its comment it says what it may say, and no line feed is in it
pub record MayStand (due : Due) (line : RecipeLine) : Type 0 where
  pub may : MaySay due line.says
  pub whole : HasNo 10 line.bytes
  pub spelled : spoken line.bytes ≡ said_text line.says

-- the lines of recipes
abbrev pub recipe_lines : Grammar Due RecipeLine
recipe_lines = record {
  is_due = is_due;
  may_say = MayStand;
  in_range = λ due line. IsSaidInRange due line.says;
  words = λ line. line.bytes;
  after = λ due line. due_after due line.says;
}

-- the sizes after a line that says this
abbrev pub sizes_after : Sizes → Said → Sizes
sizes_after s (Queue kind) = record s { kind = kind }
sizes_after s (Number Bits bits) = record s { bits = bits }
sizes_after s (Number Nodes nodes) = record s { nodes = nodes }
sizes_after s (Number Limit limit) = record s { limit = limit }
sizes_after s (Number Actors actors) = record s { actors = actors }
sizes_after s _ = s

-- the sizes after lines that say this, one after another
abbrev pub sizes_from : Sizes → List Said → Sizes
sizes_from s [] = s
sizes_from s (said ∷ saids) = sizes_from (sizes_after s said) saids

-- the sizes before any line, each of which a line says anew
abbrev pub no_sizes : Sizes
no_sizes = record { kind = TwoLock; bits = 24; nodes = 2; limit = 1; actors = 1 }

-- a text is a recipe's whose lines say this, with these sizes
pub record IsRecipe (text : List ℕ) (sizes : Sizes) (saids : List Said) : Type 0 where
  pub lines : List RecipeLine
  pub read : IsText recipe_lines VersionDue lines text
  pub said : map (λ (line : RecipeLine). line.says) lines ≡ saids
  pub sized : sizes ≡ sizes_from no_sizes saids

-- how far a recipe was read: what is due, the sizes so far, and what the lines say
pub record SoFar : Type 0 where
  pub due : Due
  pub sizes : Sizes
  pub saids : List Said

-- the line at the front of a text was read, which was due and is in range
pub record ReadsOn (old : SoFar) (text : List ℕ) (new : SoFar) (rest : List ℕ) : Type 0 where
  pub line : RecipeLine
  pub may : MayStand old.due line
  pub range : IsSaidInRange old.due line.says
  pub split : text ≡ line_saying line.bytes ++ rest
  pub due : new.due ≡ due_after old.due line.says
  pub sized : new.sizes ≡ sizes_after old.sizes line.says
  pub added : new.saids ≡ old.saids ++ line.says ∷ []

-- the line at the front of a text is refused: memory is, or it is told what is wrong with it
abbrev pub IsRefusedLine : SoFar → (text : List ℕ) → Refusal → Type 0
IsRefusedLine so text Memory = Unit {0}
IsRefusedLine so text (Text number cause) = (number ≡ length so.saids + 1) × IsFault recipe_lines so.due text cause
IsRefusedLine so text _ = ⊥
