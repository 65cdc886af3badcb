-- Events that are made as a source gives them.
use Rattle.std.proofs.Common.{◌≡◌, ℕ, ◌+◌, ◌*◌, ◌^◌, ◌<◌, ◌≤◌, List, [], ◌∷◌, ◌++◌, length, Option, None, Some, refl, sym, ap, subst, arith, zero-add, length-append}
use Rattle.std.specs.Prelude.{IfSome, Ok}
use Rattle.std.specs.Io.KnownBytes.{prepend_known}
use Rattle.engine_faults.specs.Faults.{IsEventFault, IsMoveRefusal}
use Rattle.history.specs.declared.refusals.Refusal.{Refusal}
use Rattle.history.specs.declared.refusals.Refusal.TheVariants.{Memory, Text, Read}
use Rattle.schedule_text.specs.EventStreams.{EventStream, IsStarted, GaveEvent, IsRefused, IsNext, IsRefusedNext, IsRefusedReading, HasRead, HasReadAll, schedule_with}
use Rattle.schedule_text.specs.declared.event_stream.Stage.TheVariants.{Going}
use Rattle.schedule_text.specs.Schedules.{Schedule, header_lines}
use Rattle.schedule_text.specs.SourceLines.{IsFirstFaultFrom}
use Rattle.schedule_text.specs.Streams.{stream}
use Rattle.schedule_text.specs.Texts.{version_due, schedule_text}
use Rattle.schedule_text.specs.declared.readers.Header.{Header}
use Rattle.schedule_text.specs.declared.schedules.Event.{Event}
use Rattle.schedule_text.specs.declared.schedules.Version.{Version}
use Rattle.schedule_text.specs.declared.schedules.Version.TheVariants.{One, Two}
use Rattle.schedule_text.proofs.EventStreams.{HasRead-started, HasRead-event, HasRead-refused, HasRead-all, gave_event, gave_all, refused_reading}
use Rattle.schedule_text.proofs.Streams.{prepend-nothing}
use Rattle.text_io.specs.Devices.{SourceState}
use Rattle.text_io.specs.Readings.{WereAll, ReachesEnd, EndsReadingAt}
use Rattle.step_machine.specs.Calls.{setup_from}
use Rattle.step_machine.specs.Machine.{World, opening}
use Rattle.history.specs.declared.text_causes.TextCause.{TextCause}
use Rattle.run_engine.specs.Runs.{opening_of, EventLeads, EventsLead, EventRefused, IsFaultyAt, IsRunFault, IsRunOf, RunRefused, StopsRun, TellsFaultyLine}
use Rattle.run_engine.specs.Starts.{IsBegun, WasBegun}
use Rattle.run_engine.proofs.Leading.{EventsLead-one_more, world_after-moves_of}
use Rattle.run_engine.proofs.Stops.{EventsRefused_behind}

-- the events that were read were made, and the next one stands in this line
pub record HasMade (s : EventStream) (w : World) (line : ℕ) (first mid : SourceState) : Type 0 where
  pub events : List Event
  pub read : HasRead s events first mid
  pub led : EventsLead (opening_of (schedule_with s.header events)) events w
  pub steps : w.steps ≤ length events * 1000000
  pub counted : line ≡ header_lines s.header.version + 1 + length events

-- six lines or seven stand before the events
header_few : (v : Version) → (6 ≤ header_lines v) × (header_lines v ≤ 7)
header_few One = (omega arith, omega arith)
header_few Two = (omega arith, omega arith)

-- none was read
pub HasMade-started : (s : EventStream) (h : Header) (w : World) (line : ℕ) (first mid : SourceState) → IsStarted s first mid → h ≡ s.header
    → w ≡ opening (setup_from h.bits h.kind h.nodes h.limit) h.actors → line ≡ header_lines s.header.version + 1 → HasMade s w line first mid
HasMade-started s h w line first mid started same is at =
    let none : w.steps ≡ 0 = ap (λ (v : World). v.steps) is in
    let led = subst (λ (g : Header). w ≡ opening (setup_from g.bits g.kind g.nodes g.limit) g.actors) same is in
    record { events = []; read = HasRead-started s [] first mid refl started; led = sym led; steps = omega (arith, none); counted = omega (arith, at) }

-- one more was
HasMade-event : (s t : EventStream) (w v : World) (line : ℕ) (event : Event) (first mid new : SourceState) → HasMade s w line first mid
    → GaveEvent event s t mid new → EventLeads w event v → v.steps ≤ w.steps + 1000000 → HasMade t v (line + 1) first new
HasMade-event s t w v line event first mid new made gave leads few =
    let events = made.events in
    record {
      events = events ++ event ∷ [];
      read = HasRead-event s t events first mid new made.read event (events ++ event ∷ []) refl gave;
      led =
          subst (λ (h : Header). EventsLead (opening_of (schedule_with h events)) (events ++ event ∷ []) v) (sym gave.header)
          (EventsLead-one_more events event (opening_of (schedule_with s.header events)) w v made.led leads);
      steps = omega (arith, length-append events (event ∷ []), made.steps, few);
      counted = omega (arith, length-append events (event ∷ []), made.counted, ap (λ (h : Header). header_lines h.version) gave.header);
    }

-- few step numbers are used then, and few lines were read
pub HasMade-few : (s : EventStream) (w : World) (line : ℕ) (first mid : SourceState) → HasMade s w line first mid → w.steps + 1000001 < 2 ^ 64
HasMade-few s w line first mid made = omega (arith, made.steps, made.read.counted, made.read.range.events)

pub HasMade-line : (s : EventStream) (w : World) (line : ℕ) (first mid : SourceState) → HasMade s w line first mid → (7 ≤ line) × (line ≤ 1000008)
HasMade-line s w line first mid made =
    let few = header_few s.header.version in
    (omega (arith, few.0, made.counted), omega (arith, few.1, made.counted, made.read.counted, made.read.range.events))

-- the events were made from where they began, wherever that was
pub record MadeSoFar (begun : EventStream) (before : SourceState) (s : EventStream) (w : World) (line : ℕ) (now : SourceState) : Type 0 where
  pub somewhere : WasBegun begun before
  pub made : (first : SourceState) → IsBegun first begun before → HasMade s w line (stream [] first) (stream s.ahead now)

-- so they were made from there
pub made_somewhere : (begun s : EventStream) (w : World) (line : ℕ) (before now : SourceState) → (h : MadeSoFar begun before s w line now)
    → HasMade s w line (stream [] h.somewhere.0) (stream s.ahead now)
made_somewhere begun s w line before now h = h.made h.somewhere.0 h.somewhere.1

-- the bytes that a source gives were those of a text
all_of : (known : Option (List ℕ)) (text : List ℕ) → IfSome (prepend_known [] known) (λ bytes. bytes ≡ text) → WereAll known text
all_of known text same = by known (subst (λ (k : Option (List ℕ)). IfSome k (λ bytes. bytes ≡ text)) (prepend-nothing known) same)
  where
    by : (known : Option (List ℕ)) → IfSome known (λ bytes. bytes ≡ text) → WereAll known text
    by None same = tt
    by (Some bytes) same = same

faulty_at : (known : Option (List ℕ)) (at : ℕ) (cause : TextCause) → IsFirstFaultFrom 0 version_due known at cause → IsFaultyAt known at cause
faulty_at None at cause fault = tt
faulty_at (Some text) at cause fault = rw (fault.1, zero-add) fault.2

-- what becomes of the refusal of an event
no_text : (known : Option (List ℕ)) (refusal : Refusal) → IsMoveRefusal refusal → TellsFaultyLine known refusal
no_text known (Text at cause) kind = absurd kind
no_text known _ kind = tt

ends_at : (old new : SourceState) (refusal : Refusal) → IsMoveRefusal refusal → ReachesEnd old new → EndsReadingAt refusal old new
ends_at old new Memory kind end = end.0
ends_at old new Read kind end = absurd kind
ends_at old new _ kind end = end

run_fault : (refusal : Refusal) (line : Option ℕ) → IsEventFault refusal line → IsRunFault refusal line
run_fault refusal None fault = rw fault tt
run_fault refusal (Some line) fault = fault

-- what holds at a line holds at the line that is told, if it is that one
at_line : (line : Option ℕ) (at : ℕ) (P : ℕ → Type 0) → P at → IfSome line (λ l. l ≡ at) → IfSome line P
at_line None at P holds is = tt
at_line (Some l) at P holds is = subst P (sym is) holds

-- a source is read from its first byte on
module _ (old : SourceState) where
  -- where the reading is refused, nothing is run
  pub stopped_reading : (new : SourceState) (refusal : Refusal) → IsRefusedReading old new refusal → StopsRun old new refusal None
  stopped_reading new Memory refused = record { fault = tt; text = tt; refused = tt; unwritten = λ e. absurd cc; reader = refused }
  stopped_reading new Read refused = record { fault = tt; text = tt; refused = tt; unwritten = λ e. absurd cc; reader = refused }
  stopped_reading new (Text at cause) refused =
      record { fault = tt; text = faulty_at old.left at cause refused.0; refused = tt; unwritten = λ e. absurd cc; reader = (refused.1, refused.2) }
  stopped_reading new _ refused = absurd refused

  -- at the header, at its queue's memory, and behind it
  pub stopped_start : (new : SourceState) (refusal : Refusal) → IsRefused 0 version_due old new refusal → StopsRun old new refusal None
  stopped_start new Memory refused = absurd refused
  stopped_start new Read refused = stopped_reading new Read refused
  stopped_start new (Text at cause) refused = stopped_reading new (Text at cause) refused
  stopped_start new _ refused = absurd refused

  pub stopped_opening : (s : EventStream) (new : SourceState) → IsStarted s (stream [] old) (stream s.ahead new) → StopsRun old new Memory None
  stopped_opening s new started = stopped_reading new Memory started.lines.quiet

-- what holds of each source whose reading from its first byte on led here
abbrev pub FromFirst : (begun : EventStream) (before : SourceState) → (SourceState → Type 0) → Type 0
FromFirst begun before P = (old : SourceState) → IsBegun old begun before → P old

-- its events begin, and none was made
pub so_far-started : (begun : EventStream) (before : SourceState) (h : Header) (w : World) (line : ℕ) → WasBegun begun before → h ≡ begun.header
    → w ≡ opening (setup_from h.bits h.kind h.nodes h.limit) h.actors → line ≡ header_lines begun.header.version + 1 → MadeSoFar begun before begun w line before
so_far-started begun before h w line somewhere same is at =
    record { somewhere = somewhere; made = λ old from. HasMade-started begun h w line (stream [] old) (stream begun.ahead before) from same is at }

-- so far events were made, and then the stream was called
module _ {begun s : EventStream} {w : World} {at : ℕ} {before now : SourceState} (so_far : MadeSoFar begun before s w at now) (t : EventStream) (later : SourceState) where
  abbrev mid : SourceState
  mid = stream s.ahead now

  abbrev next : SourceState
  next = stream t.ahead later

  -- the call is refused
  pub stopped_next : (refusal : Refusal) → (s.stage ≡ Going → IsRefusedNext refusal s t mid next) → FromFirst begun before (λ old. StopsRun old later refusal None)
  stopped_next refusal refused old from =
      let made = so_far.made old from in
      stopped_reading old later refusal
      (refused_reading old later t.ahead refusal (HasRead-refused s t made.events (stream [] old) mid next made.read refusal (refused made.read.going)))

  module _ (told : Option Event) (gives : s.stage ≡ Going → IsNext s t mid next (Ok told)) where
    -- it gives no event: all was read, and the world is that of the schedule
    pub ran : told ≡ None → FromFirst begun before (λ old. IsRunOf old.left w.operations × ReachesEnd old later)
    ran none old from =
        let made = so_far.made old from in
        let all = HasRead-all s t made.events (stream [] old) mid next made.read (gave_all s t mid next told none (gives made.read.going)) in
        let schedule : Schedule = schedule_with s.header made.events in (
          record {
            schedule = schedule;
            in_range = all.range;
            read = all_of old.left (schedule_text schedule) all.text;
            world = w;
            led = made.led;
            made = world_after-moves_of made.events (opening_of schedule) w made.led;
            told = refl;
          },
          (all.quiet, all.ended),
        )

    -- the memory for its history is refused
    pub stopped_history : told ≡ None → FromFirst begun before (λ old. StopsRun old later Memory None)
    stopped_history none old from = stopped_reading old later Memory (ran none old from).1.0

    -- it gives an event
    module _ (event : Event) (is : told ≡ Some event) where
      gave : (old : SourceState) → IsBegun old begun before → GaveEvent event s t mid next
      gave old from = gave_event s t mid next told event is (gives (so_far.made old from).read.going)

      read_so_far : (old : SourceState) (from : IsBegun old begun before) → HasRead t ((so_far.made old from).events ++ event ∷ []) (stream [] old) next
      read_so_far old from =
          let made = so_far.made old from in
          HasRead-event s t made.events (stream [] old) mid next made.read event (made.events ++ event ∷ []) refl (gave old from)

      -- which is made
      pub so_far-event : (v : World) → EventLeads w event v → v.steps ≤ w.steps + 1000000 → MadeSoFar begun before t v (at + 1) later
      so_far-event v leads few =
          record { somewhere = so_far.somewhere; made = λ old from. HasMade-event s t w v at event (stream [] old) mid next (so_far.made old from) (gave old from) leads few }

      -- which has no memory
      pub stopped_memory : FromFirst begun before (λ old. StopsRun old later Memory None)
      stopped_memory old from = stopped_reading old later Memory (read_so_far old from).lines.quiet

      -- which is refused; then the rest is read, and is refused too
      pub stopped_rest : (new : SourceState) (ahead : List ℕ) (refusal : Refusal)
          → ((events : List Event) (first : SourceState) → HasRead t events first next → IsRefused 0 version_due first (stream ahead new) refusal)
          → FromFirst begun before (λ old. StopsRun old new refusal None)
      stopped_rest new ahead refusal rest old from =
          stopped_reading old new refusal (refused_reading old new ahead refusal (rest _ (stream [] old) (read_so_far old from)))

      run_refused : (old : SourceState) (from : IsBegun old begun before) (more : List Event) (new : SourceState) (refusal : Refusal)
          → HasReadAll (schedule_with t.header (((so_far.made old from).events ++ event ∷ []) ++ more)) (stream [] old) new → EventRefused w event refusal → RunRefused old.left at refusal
      run_refused old from more new refusal all refused =
          let made = so_far.made old from in
          let header = (gave old from).header in
          let schedule : Schedule = schedule_with t.header ((made.events ++ event ∷ []) ++ more) in
          let led = subst (λ (h : Header). EventsLead (opening_of (schedule_with h made.events)) made.events w) (sym header) made.led in
          record {
            schedule = schedule;
            in_range = all.range;
            read = all_of old.left (schedule_text schedule) all.text;
            refused =
                EventsRefused_behind made.events more event (header_lines t.header.version) at (opening_of schedule) w refusal
                (omega (arith, made.counted, ap (λ (h : Header). header_lines h.version) header)) led refused;
          }

      -- and is whole
      pub stopped_at : (new : SourceState) (ahead : List ℕ) (refusal told : Refusal) (line : Option ℕ)
          → ((events : List Event) (first : SourceState) → HasRead t events first next
          → (more : List Event) × HasReadAll (schedule_with t.header (events ++ more)) first (stream ahead new))
          → IsMoveRefusal refusal → EventRefused w event refusal → told ≡ refusal → (7 ≤ at → IsEventFault told line) → IfSome line (λ l. l ≡ at)
          → FromFirst begun before (λ old. StopsRun old new told line)
      stopped_at new ahead refusal told line rest kind refused same fault is_line old from =
          let all = rest _ (stream [] old) (read_so_far old from) in
          let told_kind = subst IsMoveRefusal (sym same) kind in
          record {
            fault = run_fault told line (fault (HasMade-line s w at (stream [] old) mid (so_far.made old from)).0);
            text = no_text old.left told told_kind;
            refused =
                at_line line at (λ l. RunRefused old.left l told)
                (run_refused old from all.0 (stream ahead new) told all.1 (subst (EventRefused w event) (sym same) refused)) is_line;
            unwritten = λ e. subst IsMoveRefusal e told_kind;
            reader = ends_at old new told told_kind (all.1.quiet, all.1.ended);
          }
