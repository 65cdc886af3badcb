-- The events that a recipe stands for, and why it stands for none.
use Rattle.std.specs.Prelude.{◌≡◌, ◌≢◌, ℕ, ◌≤◌, true, List, [], ◌∷◌, ◌++◌, All, Option, Some, None, Result, Ok, Err, ⊤, IfSome, option_map}
use Rattle.std.specs.Io.KnownBytes.{Appends}
use Rattle.counted_ref.specs.Ref.{IsSplit}
use Rattle.history.specs.declared.refusals.Refusal.{Refusal}
use Rattle.engine_faults.specs.Faults.{IsEventRefusal}
use Rattle.history.specs.declared.operations.Op.TheVariants.{Deq}
use Rattle.history.specs.declared.refusals.Refusal.TheVariants.{ActorBusy, Memory, Read, Text, Write}
use Rattle.schedule_text.specs.Schedules.{Schedule}
use Rattle.schedule_text.specs.Texts.{greatest, least, schedule_text, IsActor, IsInRange, IsTold}
use Rattle.schedule_text.specs.declared.fields.Field.TheVariants.{Nodes, Limit}
use Rattle.schedule_text.specs.declared.schedules.Event.{Event}
use Rattle.schedule_text.specs.declared.schedules.Event.TheVariants.{Begin, Step, Steps, Give}
use Rattle.schedule_text.specs.declared.schedules.Version.{Version}
use Rattle.schedule_text.specs.declared.schedules.Version.TheVariants.{One, Two}
use Rattle.step_machine.specs.Calls.{setup_from}
use Rattle.step_machine.specs.Machine.{World, opening}
use Rattle.run_engine.specs.Runs.{EventLeads, EventRefused, IsRunFault}
use Rattle.text_io.specs.Blocks.{TakesPrefix}
use Rattle.text_io.specs.Devices.{SinkState, SourceState}
use Rattle.text_io.specs.Readings.{EndsReadingAt, WereAll}
use Rattle.history.specs.declared.text_causes.TextCause.{TextCause}
use Rattle.text_io.specs.Grammars.{IsFirstFault}
use Rattle.text_io.specs.Numerals.{IsWithin}
use Rattle.expand_engine.specs.Recipes.{IsActInRange, IsRecipe, is_act, recipe_lines}
use Rattle.expand_engine.specs.UnrolledActs.{unrolled}
use Rattle.run_engine.specs.Extents.{IsExtentOf}
use Rattle.engine_faults.specs.declared.faults.Fault.{Fault}
use Rattle.expand_engine.specs.declared.expansions.Expansion.{Expansion}
use Rattle.expand_engine.specs.declared.acts.Done.{Done}
use Rattle.expand_engine.specs.declared.acts.Stop.{Stop}
use Rattle.expand_engine.specs.declared.recipes.Act.{Act}
use Rattle.expand_engine.specs.declared.recipes.Due.TheVariants.{Version as VersionDue}
use Rattle.expand_engine.specs.declared.recipes.Said.{Said}
use Rattle.expand_engine.specs.declared.recipes.Said.TheVariants.{Happens, Until, Finish}
use Rattle.expand_engine.specs.declared.recipes.Sizes.{Sizes}
use Rattle.expand_engine.specs.Walks.{ComesTo, EndsCall, FinishRefused, UntilRefused, steps_told}

-- an act leads from a world to another, and stands for these events: an event for itself, steps up to a line or an end
-- for the least number of them that leads there
abbrev pub ActLeads : World → Said → List Event → World → Type 0
ActLeads w (Happens event) events v = (events ≡ event ∷ []) × EventLeads w event v
ActLeads w (Until me line) events v = (count : ℕ) × (events ≡ steps_told me count) × ComesTo w me line count v
ActLeads w (Finish me) events v = (count : ℕ) × (events ≡ steps_told me count) × EndsCall w me count v
ActLeads w _ events v = ⊥

-- an act is refused for this cause
abbrev pub ActRefused : World → Said → Refusal → Type 0
ActRefused w (Happens event) refusal = EventRefused w event refusal
ActRefused w (Until me line) refusal = UntilRefused w me line refusal
ActRefused w (Finish me) refusal = FinishRefused w me refusal
ActRefused w _ refusal = ⊥

-- acts, one after another, lead from a world to another, and stand for these events
abbrev pub ActsLead : World → List Act → List Event → World → Type 0
ActsLead w [] events v = (events ≡ []) × (w ≡ v)
ActsLead w (act ∷ acts) events v =
    (u : World) × (first : List Event) × (later : List Event) × (events ≡ first ++ later) × ActLeads w act.said first u × ActsLead u acts later v

-- an act leads from a world to another, and the events that it stands for are added
pub record DoesAct (w : World) (said : Said) (old new : List Event) (v : World) : Type 0 where
  pub events : List Event
  pub added : new ≡ old ++ events
  pub leads : ActLeads w said events v

-- an act is one, its numbers are in their ranges, and it stands behind the lines of a header
pub record IsActOf (act : Act) : Type 0 where
  pub is : is_act act.said ≡ true
  pub range : IsActInRange act.said
  pub behind : 6 ≤ act.line

-- an act is refused for this cause, on this line, which is behind those of a header: the sixth one, where no line says the bits, or a
-- later one
abbrev pub IsActFault : Refusal → (line : ℕ) → Type 0
IsActFault refusal line = IsEventRefusal refusal × (6 ≤ line)

-- acts were refused memory, or one of them was refused
abbrev pub IsDoingFault : Refusal → Option ℕ → Type 0
IsDoingFault refusal None = refusal ≡ Memory
IsDoingFault refusal (Some line) = IsActFault refusal line

-- a refusal comes with the line of an act exactly where an act was refused
abbrev pub IsRecipeFault : Refusal → Option ℕ → Type 0
IsRecipeFault refusal None = IsRunFault refusal None
IsRecipeFault refusal (Some line) = IsActFault refusal line

-- acts are refused at the one on this line, after those before it
pub record ActsRefused (w : World) (acts : List Act) (line : ℕ) (refusal : Refusal) : Type 0 where
  pub before : List Act
  pub act : Act
  pub later : List Act
  pub split : acts ≡ before ++ act ∷ later
  pub counted : line ≡ act.line
  pub events : List Event
  pub world : World
  pub led : ActsLead w before events world
  pub refused : ActRefused world act.said refusal

-- an event that is refused just where an act is, for the same cause
abbrev pub refused_event : Said → Refusal → Event
refused_event (Happens event) refusal = event
refused_event (Until me line) refusal = Step me line
refused_event (Finish me) ActorBusy = Begin me Deq
refused_event (Finish me) refusal = Steps me 1
refused_event _ refusal = Give 0

-- acts, one after another, stand for these events, which lead to this world, up to one that is refused there
pub record StopsAt (w : World) (acts : List Act) (events : List Event) (v : World) (stop : Stop) : Type 0 where
  pub before : List Act
  pub later : List Act
  pub split : acts ≡ before ++ stop.act ∷ later
  pub led : ActsLead w before events v
  pub kind : IsEventRefusal stop.refusal
  pub refused : ActRefused v stop.act.said stop.refusal

-- acts, one after another as far as they can be done, stand for these events, which lead to this world
abbrev pub GoesAsFar : World → List Act → List Event → World → Option Stop → Type 0
GoesAsFar w acts events v None = ActsLead w acts events v
GoesAsFar w acts events v (Some stop) = StopsAt w acts events v stop

-- events, and behind them one that is refused as the act is at which acts stop, if they do
abbrev pub with_refused : List Event → Option Stop → List Event
with_refused events None = events
with_refused events (Some stop) = events ++ refused_event stop.act.said stop.refusal ∷ []

-- acts were done as far as they can be
pub record IsDone (w : World) (acts : List Act) (done : Done) : Type 0 where
  pub world : World
  pub went : GoesAsFar w acts done.events.items world done.stop
  pub steps : done.steps ≡ world.steps

-- the world of these sizes in which nothing happened yet
abbrev pub opening_with : Sizes → World
opening_with s = opening (setup_from s.bits s.kind s.nodes s.limit) s.actors

-- each size is in its range
pub record AreSizesInRange (s : Sizes) : Type 0 where
  pub split : IsSplit s.bits
  pub nodes : IsWithin (least Nodes) (greatest s.bits Nodes) s.nodes
  pub limit : IsWithin (least Limit) (greatest s.bits Limit) s.limit
  pub actors : IsActor s.actors

-- the events that acts stand for, done from the opening of these sizes on
pub record EventsOf (sizes : Sizes) (acts : List Act) (events : List Event) : Type 0 where
  pub world : World
  pub led : ActsLead (opening_with sizes) acts events world

-- acts are refused at the one on this line, if at one
abbrev pub RefusesAt : Sizes → List Act → (line : Option ℕ) → Refusal → Type 0
RefusesAt sizes acts line refusal = IfSome line (λ line. ActsRefused (opening_with sizes) acts line refusal)

-- version 1 has a text of these events, where so many bits hold a node
pub record SufficesOne (bits : ℕ) (events : List Event) : Type 0 where
  pub usual : bits ≡ 24
  pub told : All (IsTold One) events

-- the version of a schedule's text: 1 where that suffices
abbrev pub IsVersionOf : (bits : ℕ) → List Event → Version → Type 0
IsVersionOf bits events One = SufficesOne bits events
IsVersionOf bits events Two = ¬ SufficesOne bits events

-- the lines of a recipe, with its sizes, stand for a schedule
pub record IsExpanded (sizes : Sizes) (saids : List Said) (s : Schedule) : Type 0 where
  pub events : EventsOf sizes (unrolled 1 None saids) s.events
  pub version : IsVersionOf s.bits s.events s.version
  pub kind : s.kind ≡ sizes.kind
  pub bits : s.bits ≡ sizes.bits
  pub nodes : s.nodes ≡ sizes.nodes
  pub limit : s.limit ≡ sizes.limit
  pub actors : s.actors ≡ sizes.actors

-- how far a schedule in range can be made is known, and its next event is refused as the act is at which acts stop
pub record CanBeMade (e : Expansion) : Type 0 where
  pub range : IsInRange e.schedule
  pub extent : IsExtentOf e.schedule e.extent
  pub refusal : e.extent.refusal ≡ option_map (λ (stop : Stop). stop.refusal) e.stop
  pub fault : IfSome e.stop (λ stop. IsActFault stop.refusal stop.act.line)

-- what the lines of a recipe, with its sizes, stand for: a schedule of the events of its acts as far as these can be done, and how far
-- it can be made
pub record StandsFor (sizes : Sizes) (saids : List Said) (e : Expansion) : Type 0 where
  pub events : List Event
  pub world : World
  pub went : GoesAsFar (opening_with sizes) (unrolled 1 None saids) events world e.stop
  pub has : e.schedule.events ≡ with_refused events e.stop
  pub version : IsVersionOf e.schedule.bits e.schedule.events e.schedule.version
  pub kind : e.schedule.kind ≡ sizes.kind
  pub bits : e.schedule.bits ≡ sizes.bits
  pub nodes : e.schedule.nodes ≡ sizes.nodes
  pub limit : e.schedule.limit ≡ sizes.limit
  pub actors : e.schedule.actors ≡ sizes.actors
  pub made : CanBeMade e

-- acts are refused at the one at which they stop, with the line of that, if they do
abbrev pub EndsAs : Option Stop → Result (Unit {0}) Fault → Type 0
EndsAs stop (Ok done) = stop ≡ None
EndsAs stop (Err fault) = (at : Stop) × (stop ≡ Some at) × (fault ≡ record { refusal = at.refusal; line = Some at.act.line })

-- known bytes were the text of a recipe that stands for this
pub record IsReadAs (given : Option (List ℕ)) (e : Expansion) : Type 0 where
  pub text : List ℕ
  pub read : WereAll given text
  pub sizes : Sizes
  pub saids : List Said
  pub recipe : IsRecipe text sizes saids
  pub stands : StandsFor sizes saids e

-- known bytes were the text of a recipe that stands for this schedule
pub record IsExpansionOf (given : Option (List ℕ)) (schedule : Schedule) : Type 0 where
  pub text : List ℕ
  pub read : WereAll given text
  pub sizes : Sizes
  pub saids : List Said
  pub recipe : IsRecipe text sizes saids
  pub expands : IsExpanded sizes saids schedule
  pub range : IsInRange schedule

-- the text of that schedule was written
pub record WritesExpansion (given : Option (List ℕ)) (old new : SinkState) : Type 0 where
  pub schedule : Schedule
  pub expansion : IsExpansionOf given schedule
  pub written : Appends old.contents new.contents (schedule_text schedule)

-- a prefix of that text was written
pub record BeginsExpansion (given : Option (List ℕ)) (old new : SinkState) : Type 0 where
  pub schedule : Schedule
  pub expansion : IsExpansionOf given schedule
  pub begun : TakesPrefix old.contents new.contents (schedule_text schedule)

-- known bytes were the text of a recipe, whose acts are refused at the one on this line
pub record ExpansionRefused (given : Option (List ℕ)) (line : ℕ) (refusal : Refusal) : Type 0 where
  pub text : List ℕ
  pub read : WereAll given text
  pub sizes : Sizes
  pub saids : List Said
  pub recipe : IsRecipe text sizes saids
  pub refused : ActsRefused (opening_with sizes) (unrolled 1 None saids) line refusal

-- known bytes have their first faulty line as a recipe here, with this cause
abbrev pub IsFaultyAt : (given : Option (List ℕ)) → (line : ℕ) → TextCause → Type 0
IsFaultyAt None line cause = ⊤
IsFaultyAt (Some text) line cause = IsFirstFault recipe_lines VersionDue text line cause

-- where known bytes are refused as a text, that is their first faulty line as a recipe, and what is wrong with it
abbrev pub TellsFaultyLine : (given : Option (List ℕ)) → Refusal → Type 0
TellsFaultyLine given (Text line cause) = IsFaultyAt given line cause
TellsFaultyLine given _ = ⊤

-- what the reading of a recipe is refused
abbrev pub IsReadingRefusal : Refusal → Type 0
IsReadingRefusal Memory = Unit {0}
IsReadingRefusal (Text number cause) = Unit {0}
IsReadingRefusal Read = Unit {0}
IsReadingRefusal _ = ⊥

-- an expansion stops before anything is written, for this cause and at this line of an act, if at one
pub record StopsExpansion (old new : SourceState) (refusal : Refusal) (line : Option ℕ) : Type 0 where
  pub fault : IsRecipeFault refusal line
  pub text : TellsFaultyLine old.left refusal
  pub refused : IfSome line (λ line. ExpansionRefused old.left line refusal)
  pub unwritten : refusal ≢ Write
  pub reader : EndsReadingAt refusal old new
