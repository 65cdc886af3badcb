-- What the words after the program's name ask for.
use Rattle.std.specs.Prelude.{◌≡◌, ◌⊎◌, ℕ, ◌<◌, ◌≤◌, ◌-◌, ◌^◌, Bool, true, false, nat_eq, if◌then◌else◌, List, [], ◌∷◌, codes, map, Option, Some, None, option_map, string_bytes, unwrap_or}
use Rattle.std.specs.Borrow.{Bor}
use Rattle.std.specs.Cmp.Lexicographic.{pointwise}
use Rattle.std.specs.Str.Parse.{IsNumeral, digits_value, without_leading_plus}
use Rattle.clap.specs.Words.{App, IsAmong, Kinds, Row, Rule, Text, fault_of, first_of, one_of, new_app, new_rule, subcommand_of, takes, with_rule, with_subcommand}
use Rattle.clap.specs.declared.builder.value_parser.ValueParser.TheVariants.{Names, Unsigned}
use Rattle.clap.specs.declared.builder.action.ArgAction.TheVariants.{SetTrue}
use Rattle.clap.specs.declared.error.kind.ErrorKind.{ErrorKind}
use Rattle.clap.specs.declared.error.kind.ErrorKind.TheVariants.{DisplayHelp, DisplayVersion, OutOfMemory}
use Rattle.counted_ref.specs.Ref.{reserved_node}
use Rattle.line_table.specs.declared.lines.Kind.TheVariants.{TwoLock, NonBlocking}
use Rattle.line_table.specs.declared.kinds.QueueKind.{QueueKind}
use Rattle.line_table.specs.declared.kinds.QueueKind.TheVariants.{Linked, Ring}
use Rattle.command_line.specs.declared.commands.Colours.{Colours}
use Rattle.command_line.specs.declared.commands.Colours.TheVariants.{Auto, Always, Never}
use Rattle.command_line.specs.declared.commands.Command.{Command}
use Rattle.command_line.specs.declared.commands.Crew.{Crew}
use Rattle.command_line.specs.declared.commands.Task.{Task}
use Rattle.command_line.specs.declared.commands.Task.TheVariants.{Run, Expand, Trace, Show, Check, Place, Work, Post, Explain}
use Rattle.command_line.specs.declared.commands.ShowOptions.{ShowOptions}
use Rattle.command_line.specs.declared.options.Placing.{Placing}

-- whether a task tells the steps of a schedule
abbrev pub is_trace : Task → Bool
is_trace Trace = true
is_trace _ = false

-- whether a task draws the run of a schedule
abbrev pub is_show : Task → Bool
is_show (Show view) = true
is_show _ = false

-- whether a task judges a history
abbrev pub is_check : Task → Bool
is_check Check = true
is_check _ = false

-- whether a task finds points for a history
abbrev pub is_place : Task → Bool
is_place (Place placing) = true
is_place _ = false

-- whether a task does jobs
abbrev pub is_work : Task → Bool
is_work (Work crew) = true
is_work _ = false

-- whether a task posts letters
abbrev pub is_post : Task → Bool
is_post (Post kind) = true
is_post _ = false

-- whether a task explains a refusal
abbrev pub is_explain : Task → Bool
is_explain Explain = true
is_explain _ = false

-- texts in a row, where they lie
abbrev pub TextRow : Type 0
TextRow = Bor (List (Bor Text))

-- these are the names of the queues
abbrev pub AreQueues : TextRow → Type 0
AreQueues queues = map (λ (name : Bor Text). name.now) queues.now ≡ codes "two-lock" ∷ codes "nonblocking" ∷ codes "ring" ∷ []

-- these are the names of the times at which a picture has colours
abbrev pub AreWhens : TextRow → Type 0
AreWhens whens = map (λ (name : Bor Text). name.now) whens.now ≡ codes "auto" ∷ codes "always" ∷ codes "never" ∷ []

-- the required argument FILE
abbrev pub file_rule : Rule
file_rule = record (new_rule (codes "FILE")) { required = true }

-- an option that is given or not
abbrev pub flag_rule : (id long : Text) → Rule
flag_rule id long = record (new_rule id) { long = Some long; action = Some SetTrue }

-- the option with a list of what the queue holds at the start
abbrev pub held_rule : Rule
held_rule = record (new_rule (codes "HOLDS")) { long = Some (codes "holds") }

-- a command of this name, with a FILE, and with or without what explains a fault
abbrev pub file_app : Text → App
file_app name = with_rule (with_rule (new_app name) file_rule) (flag_rule (codes "EXPLAIN") (codes "explain"))

-- the argument in the place of a FILE that may be left out, and for which help has a name of its own
abbrev pub refusal_rule : Rule
refusal_rule = record (new_rule (codes "FILE")) { value_names = 1 }

-- the command `explain`, with or without a refusal in the place of a FILE
abbrev pub explain_app : App
explain_app = with_rule (new_app (codes "explain")) refusal_rule

-- an option with a number in a range, and what it is where it isn't given
abbrev pub number_rule : (id long : Text) → (least most : ℕ) → (other : Text) → Rule
number_rule id long least most other =
    record (new_rule id) { long = Some long; parser = Some (Unsigned least most); defaults = other ∷ [] }

-- the option with one of the names of queues
abbrev pub queue_rule : TextRow → Rule
queue_rule queues =
    record (new_rule (codes "QUEUE")) { long = Some (codes "queue"); parser = Some (Names queues); defaults = codes "nonblocking" ∷ [] }

-- the option with one of the names of times at which a picture has colours
abbrev pub color_rule : TextRow → Rule
color_rule whens = record (new_rule (codes "COLOR")) { long = Some (codes "color"); parser = Some (Names whens); defaults = codes "auto" ∷ [] }

-- the command `run`, with a FILE, and whether it is expanded
abbrev pub run_app : App
run_app = with_rule (file_app (codes "run")) (flag_rule (codes "EXPAND") (codes "expand"))

-- the command `show`, with a FILE, so many columns, a first and a last step, an actor, whether it is a history, whether a page is
-- written, whether a reason is drawn, whether lines are told, and when it has colours
abbrev pub show_app : TextRow → App
show_app whens =
    with_rule (with_rule (with_rule (with_rule (with_rule (with_rule (with_rule (with_rule (with_rule (file_app (codes "show")) (number_rule (codes "WIDTH") (codes "width") 40 190 (codes "80")))
    (number_rule (codes "FROM") (codes "from") 1 (2 ^ 64 - 1) (codes "1"))) (number_rule (codes "TO") (codes "to") 0 (2 ^ 64 - 1) (codes "0")))
    (number_rule (codes "ACTOR") (codes "actor") 0 65535 (codes "0"))) (flag_rule (codes "HISTORY") (codes "history")))
    (flag_rule (codes "HTML") (codes "html"))) (flag_rule (codes "WHY") (codes "why"))) (flag_rule (codes "LINES") (codes "lines"))) (color_rule whens)

-- the command `place`, with a FILE, the room of a search, whether the lines of a reason are told, and what the queue holds at the start
abbrev pub place_app : App
place_app =
    with_rule (with_rule (with_rule (file_app (codes "place")) (number_rule (codes "ROOM") (codes "room") 0 4294967295 (codes "1073741824")))
    (flag_rule (codes "WHY") (codes "why"))) held_rule

-- the command `work`, with a FILE, so many workers, a queue, and so many nodes
abbrev pub work_app : TextRow → App
work_app queues =
    with_rule (with_rule (with_rule (file_app (codes "work")) (number_rule (codes "WORKERS") (codes "workers") 1 64 (codes "4")))
    (queue_rule queues)) (number_rule (codes "NODES") (codes "nodes") 2 (reserved_node 24 - 1) (codes "1024"))

-- the command `post`, with a FILE and a queue
abbrev pub post_app : TextRow → App
post_app queues = with_rule (file_app (codes "post")) (queue_rule queues)

-- the program's command before its commands are added: it has a version, and its words begin with the command's
abbrev pub bare_app : App
bare_app =
    record {
      top = record (new_app (codes "msq")).top { has_version = true; no_binary_name = true; subcommand_required = true };
      subs = [];
    }

-- the program's command line, as clap reads it
abbrev pub command_line_app : (queues whens : TextRow) → App
command_line_app queues whens =
    with_subcommand (with_subcommand (with_subcommand (with_subcommand (with_subcommand (with_subcommand (with_subcommand (with_subcommand bare_app
    run_app.top) (file_app (codes "trace")).top) (show_app whens).top) (file_app (codes "check")).top) place_app.top) (work_app queues).top)
    (post_app queues).top) explain_app.top

-- the FILE among the matches of a command
abbrev pub file_met : Option (Text × List Row) → Option Text
file_met None = None
file_met (Some command) = first_of (codes "FILE") command.1

-- the list of what the queue holds at the start, among the matches of a command
abbrev pub held_met : Option (Text × List Row) → Option Text
held_met None = None
held_met (Some command) = first_of (codes "HOLDS") command.1

-- whether the command that was met has this name
abbrev pub is_met : Text → Option (Text × List Row) → Bool
is_met name None = false
is_met name (Some command) = pointwise nat_eq command.0 name

-- a text says a number of so many bits
abbrev pub IsNumberText : (bits : ℕ) → Text → Type 0
IsNumberText bits text = IsNumeral 10 (without_leading_plus text) × (digits_value 10 (without_leading_plus text) < 2 ^ bits)

-- a number is what the text of an option says, in so many bits, and another one where there is no option, or it says none such
abbrev pub SaysNumberIn : (bits : ℕ) → Option Text → (other number : ℕ) → Type 0
SaysNumberIn bits None other number = number ≡ other
SaysNumberIn bits (Some text) other number =
    (IsNumberText bits text × (number ≡ digits_value 10 (without_leading_plus text))) ⊎ ((¬ IsNumberText bits text) × (number ≡ other))

-- the same in 32 bits
abbrev pub SaysNumber : Option Text → (other number : ℕ) → Type 0
SaysNumber = SaysNumberIn 32

-- the kind of the queue with this name
abbrev pub kind_by : Text → QueueKind
kind_by name =
    if pointwise nat_eq name (codes "two-lock") then Linked TwoLock
    else (if pointwise nat_eq name (codes "ring") then Ring else Linked NonBlocking)

-- the kind of the queue that is named, and the usual one where none is
abbrev pub kind_named : Option Text → QueueKind
kind_named None = Linked NonBlocking
kind_named (Some name) = kind_by name

-- when a picture has colours that is named so
abbrev pub colours_by : Text → Colours
colours_by name = if pointwise nat_eq name (codes "always") then Always else (if pointwise nat_eq name (codes "never") then Never else Auto)

-- the same of the name, and on a terminal where there is none
abbrev pub colours_named : Option Text → Colours
colours_named None = Auto
colours_named (Some name) = colours_by name

-- the workers, the queue and the nodes that a command's options say
pub record IsCrewOf (options : List Row) (crew : Crew) : Type 0 where
  pub many : SaysNumber (one_of (codes "WORKERS") options) 4 crew.workers
  pub queue : crew.kind ≡ kind_named (first_of (codes "QUEUE") options)
  pub room : SaysNumber (one_of (codes "NODES") options) 1024 crew.nodes

-- a flag is set where the text of an option says so, and not where there is none
abbrev pub SaysFlag : Option Text → Bool → Type 0
SaysFlag None flag = flag ≡ false
SaysFlag (Some text) flag = (text ≡ codes "true" → flag ≡ true) × (text ≡ codes "false" → flag ≡ false)

-- what a command's options say of how points are looked for
pub record IsPlacingOf (options : List Row) (placing : Placing) : Type 0 where
  pub many : SaysNumber (one_of (codes "ROOM") options) 1073741824 placing.room
  pub why : SaysFlag (one_of (codes "WHY") options) placing.tells_why

-- what a command's options say of a picture
pub record IsViewOf (options : List Row) (view : ShowOptions) : Type 0 where
  pub width : SaysNumber (one_of (codes "WIDTH") options) 80 view.width
  pub first : SaysNumberIn 64 (one_of (codes "FROM") options) 1 view.from
  pub last : SaysNumberIn 64 (one_of (codes "TO") options) 0 view.to
  pub actor : SaysNumber (one_of (codes "ACTOR") options) 0 view.actor
  pub history : SaysFlag (one_of (codes "HISTORY") options) view.is_history
  pub page : SaysFlag (one_of (codes "HTML") options) view.is_page
  pub reason : SaysFlag (one_of (codes "WHY") options) view.draws_reason
  pub legend : SaysFlag (one_of (codes "LINES") options) view.has_legend
  pub colours : view.colours ≡ colours_named (first_of (codes "COLOR") options)

-- the options of the command that was met are those of a task
abbrev pub HasOptions : Option (Text × List Row) → Task → Type 0
HasOptions (Some command) Run = SaysFlag (one_of (codes "EXPAND") command.1) false
HasOptions (Some command) Expand = SaysFlag (one_of (codes "EXPAND") command.1) true
HasOptions (Some command) (Show view) = IsViewOf command.1 view
HasOptions (Some command) (Place placing) = IsPlacingOf command.1 placing
HasOptions (Some command) (Work crew) = IsCrewOf command.1 crew
HasOptions (Some command) (Post kind) = kind ≡ kind_named (first_of (codes "QUEUE") command.1)
HasOptions None Expand = ⊥
HasOptions None (Show view) = ⊥
HasOptions None (Place placing) = ⊥
HasOptions None (Work crew) = ⊥
HasOptions None (Post kind) = ⊥
HasOptions met task = Unit {0}

-- the task is that of the command that was met, with its options; no command is a run
pub record IsTask (met : Option (Text × List Row)) (task : Task) : Type 0 where
  pub trace : is_trace task ≡ is_met (codes "trace") met
  pub show : is_show task ≡ is_met (codes "show") met
  pub check : is_check task ≡ is_met (codes "check") met
  pub place : is_place task ≡ is_met (codes "place") met
  pub work : is_work task ≡ is_met (codes "work") met
  pub post : is_post task ≡ is_met (codes "post") met
  pub explain : is_explain task ≡ is_met (codes "explain") met
  pub options : HasOptions met task

-- a flag is set where the command that was met has the option that asks for a fault's explanation, and not where there is none
abbrev pub AsksForCauses : Option (Text × List Row) → Bool → Type 0
AsksForCauses None flag = flag ≡ false
AsksForCauses (Some command) flag = SaysFlag (one_of (codes "EXPLAIN") command.1) flag

-- the command among the words, with its options
unfoldable pub met_in : (queues whens : TextRow) → List Text → Option (Text × List Row)
met_in queues whens words = subcommand_of (command_line_app queues whens) words

-- what clap may find wrong with the words; nothing where there are none, which ask for a run
unfoldable pub faults_in : (queues whens : TextRow) → List Text → Kinds
faults_in queues whens [] = []
faults_in queues whens (word ∷ words) = fault_of (command_line_app queues whens) (word ∷ words)

-- a command is what the words ask for: the FILE that they name, and `-` where they name none; the task with its options;
-- whether a fault is explained; the list of what the queue holds, where they give one. Clap finds no fault in them
pub record IsAsked (queues whens : TextRow) (words : List Text) (command : Command) : Type 0 where
  pub file : string_bytes command.file ≡ unwrap_or (file_met (met_in queues whens words)) (codes "-")
  pub task : IsTask (met_in queues whens words) command.task
  pub explains : AsksForCauses (met_in queues whens words) command.explains
  pub held : option_map string_bytes command.held ≡ held_met (met_in queues whens words)
  pub taken : faults_in queues whens words ≡ []

-- the same, of names of queues and of times that lie somewhere
pub record IsAskedSomewhere (words : List Text) (command : Command) : Type 0 where
  pub queues : TextRow
  pub whens : TextRow
  pub named : AreQueues queues
  pub timed : AreWhens whens
  pub asked : IsAsked queues whens words command

-- the steps that a task shows go forward: the last one is no lower than the first, or 0, which stands for a hundred steps
abbrev pub GoesForward : Task → Type 0
GoesForward (Show view) = (view.to ≡ 0) ⊎ (view.from ≤ view.to)
GoesForward _ = Unit {0}

-- words ask for a command whose steps don't go forward
abbrev pub AskBackward : List Text → Type 0
AskBackward words = (command : Command) × IsAskedSomewhere words command × (¬ GoesForward command.task)

-- words are a command line, wherever the names of queues and of times lie
abbrev pub AreTaken : List Text → Type 0
AreTaken words = (queues whens : TextRow) → AreQueues queues → AreWhens whens → takes (command_line_app queues whens) words ≡ true

-- the exit status for what clap says: 0 with help and the version, 1 where memory was refused, 2 with all else
abbrev pub status_at : ErrorKind → ℕ
status_at DisplayHelp = 0
status_at DisplayVersion = 0
status_at OutOfMemory = 1
status_at _ = 2

-- the status is that of something which clap may find wrong, or 1, where memory was refused
abbrev pub IsStatusAmong : Kinds → ℕ → Type 0
IsStatusAmong kinds status = (status ≡ 1) ⊎ ((kind : ErrorKind) × IsAmong kind kinds × (status ≡ status_at kind))

-- the same, of what clap may find wrong with the words, for names of queues and of times that lie somewhere
pub record IsStatusOf (words : List Text) (status : ℕ) : Type 0 where
  pub queues : TextRow
  pub whens : TextRow
  pub named : AreQueues queues
  pub timed : AreWhens whens
  pub among : IsStatusAmong (faults_in queues whens words) status
