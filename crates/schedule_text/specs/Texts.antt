-- The one text of each schedule, the ranges of its numbers, and which lines are due in such a text.
use Rattle.std.specs.Prelude.{◌≡◌, ℕ, ◌-◌, ◌^◌, ◌<◌, ◌≤◌, Bool, true, IsTrue, List, [], ◌∷◌, ◌++◌, length, map, All, codes, nat_lt}
use Rattle.history.specs.declared.operations.Op.{Op}
use Rattle.history.specs.declared.operations.Op.TheVariants.{Enq, Deq, Shut as Shuts}
use Rattle.line_table.specs.Names.{name_of}
use Rattle.line_table.specs.Sections.{section_of}
use Rattle.line_table.specs.declared.lines.Line.{Line}
use Rattle.line_table.specs.declared.lines.Section.{Section}
use Rattle.line_table.specs.declared.lines.Section.TheVariants.{Shut, LockedShut}
use Rattle.line_table.specs.declared.lines.Kind.{Kind}
use Rattle.line_table.specs.declared.lines.Kind.TheVariants.{TwoLock, NonBlocking}
use Rattle.text_io.specs.Grammars.{Grammar, lines_of}
use Rattle.text_io.specs.Lines.{line, spaced}
use Rattle.text_io.specs.Numerals.{numeral, IsWithin}
use Rattle.history.specs.Limits.{body_bits, actor_bits}
use Rattle.schedule_text.specs.declared.schedules.Event.{Event}
use Rattle.schedule_text.specs.declared.schedules.Event.TheVariants.{Begin, Step, Steps, Give}
use Rattle.schedule_text.specs.declared.fields.Field.{Field}
use Rattle.schedule_text.specs.declared.fields.Field.TheVariants.{Bits, Nodes, Limit, Actors, Events}
use Rattle.schedule_text.specs.declared.schedules.Version.{Version}
use Rattle.schedule_text.specs.declared.schedules.Version.TheVariants.{One, Two}
use Rattle.schedule_text.specs.Schedules.{Schedule, IsBitsOf, tells_shuts}
use Rattle.counted_ref.specs.Ref.{IsSplit, reserved_node, count_bits}

-- the number of a version
abbrev pub version_name : Version → List ℕ
version_name One = codes "1"
version_name Two = codes "2"

-- the name of a queue
abbrev pub kind_name : Kind → List ℕ
kind_name TwoLock = codes "two-lock"
kind_name NonBlocking = codes "nonblocking"

-- the words of a call
abbrev pub call_words : Op → List (List ℕ)
call_words (Enq body) = codes "enq" ∷ numeral body ∷ []
call_words Deq = codes "deq" ∷ []
call_words Shuts = codes "shut" ∷ []

-- the words of an event
abbrev pub event_words : Event → List (List ℕ)
event_words (Begin actor op) = codes "begin" ∷ numeral actor ∷ call_words op
event_words (Step actor line) = codes "step" ∷ numeral actor ∷ name_of line ∷ []
event_words (Steps actor count) = codes "steps" ∷ numeral actor ∷ numeral count ∷ []
event_words (Give actor) = codes "give" ∷ numeral actor ∷ []

-- whether the lines of a section have names in a text: those of a shut have none in version 1
abbrev pub is_named : Version → Section → Bool
is_named version Shut = tells_shuts version
is_named version LockedShut = tells_shuts version
is_named _ _ = true

-- a line has a name in a text of this version
abbrev pub IsNamed : Version → Line → Type 0
IsNamed version line = IsTrue (is_named version (section_of line))

-- a call can be begun in a text of this version: a shut can't in version 1
abbrev pub IsBegun : Version → Op → Type 0
IsBegun version Shuts = IsTrue (tells_shuts version)
IsBegun _ _ = Unit {0}

-- an event can be told in a text of this version: the call that it begins can be, and the line that it names has a name
abbrev pub IsTold : Version → Event → Type 0
IsTold version (Begin actor op) = IsBegun version op
IsTold version (Step actor line) = IsNamed version line
IsTold _ _ = Unit {0}

-- words are those of an event that can be told
abbrev pub Tells : Version → List (List ℕ) → Event → Type 0
Tells version words event = IsTold version event × (words ≡ event_words event)

-- a name and the words after it are so
abbrev pub SpellsEvent : Version → List ℕ → List (List ℕ) → Event → Type 0
SpellsEvent version name words event = Tells version (name ∷ words) event

-- the name of a number of the header
abbrev pub field_name : Field → List ℕ
field_name Bits = codes "bits"
field_name Nodes = codes "nodes"
field_name Limit = codes "limit"
field_name Actors = codes "actors"
field_name Events = codes "events"

-- what a line of a schedule says
pub data Said : Type 0 where
  version : Version → Said
  queue : Kind → Said
  number : Field → ℕ → Said
  happens : Event → Said

-- the words of a line
abbrev pub said_words : Said → List (List ℕ)
said_words (version v) = codes "msq" ∷ codes "schedule" ∷ version_name v ∷ []
said_words (queue kind) = codes "queue" ∷ kind_name kind ∷ []
said_words (number field value) = field_name field ∷ numeral value ∷ []
said_words (happens event) = event_words event

-- an actor's number is from 1 to 65,535
abbrev pub IsActor : ℕ → Type 0
IsActor actor = IsWithin 1 (2 ^ actor_bits - 1) actor

-- the body of a push is in range
abbrev pub IsCallInRange : Op → Type 0
IsCallInRange (Enq body) = body < 2 ^ body_bits
IsCallInRange _ = Unit {0}

-- each number of an event is in its range
abbrev pub IsEventInRange : Event → Type 0
IsEventInRange (Begin actor op) = IsActor actor × IsCallInRange op
IsEventInRange (Step actor line) = IsActor actor
IsEventInRange (Steps actor count) = IsActor actor × IsWithin 1 1000000 count
IsEventInRange (Give actor) = IsActor actor

-- an event can be told in a text of this version, and each of its numbers is in its range
abbrev pub IsEventOf : Version → Event → Type 0
IsEventOf v event = IsTold v event × IsEventInRange event

-- the least value of a number of the header
abbrev pub least : Field → ℕ
least Bits = 16
least Nodes = 2
least Limit = 1
least Actors = 1
least Events = 0

-- its greatest value, where so many bits hold a node
abbrev pub greatest : (bits : ℕ) → Field → ℕ
greatest bits Bits = 32
greatest bits Nodes = reserved_node bits - 1
greatest bits Limit = 2 ^ count_bits bits - 1
greatest bits Actors = 2 ^ actor_bits - 1
greatest bits Events = 1000000

-- each number of a line is in its range, where so many bits hold a node
abbrev pub IsSaidInRange : (bits : ℕ) → Said → Type 0
IsSaidInRange bits (number field value) = IsWithin (least field) (greatest bits field) value
IsSaidInRange bits (happens event) = IsEventInRange event
IsSaidInRange bits _ = Unit {0}

-- which line is due: the version; in a text of a version the queue, a number of the header where so many bits hold a
-- node, or an event where so many are left
pub data Due : Type 0 where
  version_due : Due
  queue_due : Version → Due
  number_due : Version → (bits : ℕ) → Field → Due
  events_left : Version → ℕ → Due

-- how many bits hold a node, 24 until it is said
abbrev pub bits_of : Due → ℕ
bits_of (number_due v bits field) = bits
bits_of _ = 24

-- whether a further line is due
abbrev pub is_due : Due → Bool
is_due version_due = true
is_due (queue_due v) = true
is_due (number_due v bits field) = true
is_due (events_left v count) = nat_lt 0 count

-- the line that is due may say this
abbrev pub MaySay : Due → Said → Type 0
MaySay version_due (version v) = Unit {0}
MaySay (queue_due v) (queue kind) = Unit {0}
MaySay (number_due v bits due) (number field value) = due ≡ field
MaySay (events_left v count) (happens event) = IsTold v event
MaySay _ _ = ⊥

-- the version that a line says
abbrev pub version_in : Said → Version
version_in (version v) = v
version_in _ = One

-- the number that a line says
abbrev pub number_in : Said → ℕ
number_in (number field value) = value
number_in _ = 0

-- what is due after the queue: in version 2 how many bits hold a node
abbrev pub due_after_queue : Version → Due
due_after_queue One = number_due One 24 Nodes
due_after_queue Two = number_due Two 24 Bits

-- what is due after a number of the header
abbrev pub due_after_number : Version → (bits : ℕ) → Field → Said → Due
due_after_number v bits Bits said = number_due v (number_in said) Nodes
due_after_number v bits Nodes said = number_due v bits Limit
due_after_number v bits Limit said = number_due v bits Actors
due_after_number v bits Actors said = number_due v bits Events
due_after_number v bits Events said = events_left v (number_in said)

-- what is due after a line
abbrev pub due_after : Due → Said → Due
due_after version_due said = queue_due (version_in said)
due_after (queue_due v) said = due_after_queue v
due_after (number_due v bits field) said = due_after_number v bits field said
due_after (events_left v count) said = events_left v (count - 1)

-- the lines of schedules
abbrev pub schedule_lines : Grammar Due Said
schedule_lines = record {
  is_due = is_due;
  may_say = MaySay;
  in_range = λ due said. IsSaidInRange (bits_of due) said;
  words = λ said. spaced (said_words said);
  after = due_after;
}

-- what the line of how many bits hold a node says; there is none in version 1
abbrev pub bits_said : Version → (bits : ℕ) → List Said
bits_said One bits = []
bits_said Two bits = number Bits bits ∷ []

-- what the lines of the sizes say
abbrev pub sizes_said : (nodes limit actors events : ℕ) → List Said
sizes_said nodes limit actors events =
    number Nodes nodes ∷ number Limit limit ∷ number Actors actors ∷ number Events events ∷ []

-- what the lines before the events say
abbrev pub header_by : Schedule → List Said
header_by s =
    version s.version ∷ queue s.kind ∷ bits_said s.version s.bits ++ sizes_said s.nodes s.limit s.actors (length s.events)

-- what the lines of a schedule say
abbrev pub said_by : Schedule → List Said
said_by s = header_by s ++ map happens s.events

-- the lines before the events
unfoldable pub header_text : Schedule → List ℕ
header_text s = lines_of schedule_lines (header_by s)

-- the line of an event
unfoldable pub event_text : Event → List ℕ
event_text event = line (spaced (event_words event))

-- the one text of a schedule
unfoldable pub schedule_text : Schedule → List ℕ
schedule_text s = lines_of schedule_lines (said_by s)

-- each number of a schedule is in its range, and each event can be told in a text of its version
pub record IsInRange (s : Schedule) : Type 0 where
  pub split : IsSplit s.bits
  pub first : IsBitsOf s.version s.bits
  pub nodes : IsWithin (least Nodes) (greatest s.bits Nodes) s.nodes
  pub limit : IsWithin (least Limit) (greatest s.bits Limit) s.limit
  pub actors : IsActor s.actors
  pub events : length s.events ≤ 1000000
  pub each : All (IsEventOf s.version) s.events
