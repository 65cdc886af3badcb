-- Schedules that are read event by event.
use Rattle.std.proofs.Common.{◌≡◌, ℕ, ◌+◌, List, [], ◌∷◌, ◌++◌, length, map, Option, None, Some, true, IfSome, ◌⊎◌, inl, inr, refl, sym, ap, subst, ◌∙◌, arith, append_assoc, length-append}
use Rattle.std.specs.Prelude.{Result, Ok, Err, IfOk, IfErr, MatchResult}
use Rattle.std.proofs.lemmas.Bool.{lt-ltb}
use Rattle.std.proofs.lemmas.List.{append-nil, map-append, length-map}
use Rattle.std.proofs.lemmas.List.Elements.{All-nil, All-cons, All-append}
use Rattle.std.specs.Io.KnownBytes.{Consumes, IsAtEnd}
use Rattle.history.specs.declared.refusals.Refusal.{Refusal}
use Rattle.history.specs.declared.refusals.Refusal.TheVariants.{Memory, Text, Read}
use Rattle.text_io.specs.Grammars.{AreDue, state_after, lines_of}
use Rattle.text_io.specs.Lines.{line, spaced}
use Rattle.schedule_text.specs.declared.readers.Header.{Header}
use Rattle.schedule_text.specs.declared.schedules.Event.{Event}
use Rattle.schedule_text.specs.EventStreams.{EventStream, IsRefused, IsStarted, GaveEvent, GaveAll, IsNext, IsRefusedNext, IsRefusedReading, lines_given, HasRead, HasReadAll, schedule_with}
use Rattle.schedule_text.specs.Readers.{said_in}
use Rattle.schedule_text.specs.Schedules.{Schedule}
use Rattle.schedule_text.specs.SourceLines.{GaveLines, GaveSaid, IsFirstFaultFrom}
use Rattle.text_io.specs.Devices.{SourceState}
use Rattle.schedule_text.specs.Streams.{stream}
use Rattle.schedule_text.specs.Texts.{Said, happens, Due, version_due, events_left, is_due, said_words, schedule_lines, schedule_text, IsEventOf, IsInRange}
use Rattle.schedule_text.proofs.Joining.{AreDue-append, state_after-append, state_after-happens, state_after-said_in, length-said_in}
use Rattle.schedule_text.proofs.OneText.{one_text, no_fault_of_schedule}
use Rattle.schedule_text.proofs.Parts.{lines_of-append}
use Rattle.schedule_text.proofs.StreamedLines.{fault_behind_lines}
use Rattle.schedule_text.proofs.Streams.{Consumes-more, prepend-nothing}

-- one more line behind others
GaveLines-more : (due later : Due) (saids : List Said) (said : Said) (old mid new : SourceState) → GaveLines due saids old mid → state_after schedule_lines due saids ≡ later
    → is_due later ≡ true → GaveSaid later said mid new → GaveLines due (saids ++ said ∷ []) old new
GaveLines-more due later saids said old mid new lines state more gave =
    let one : List ℕ = line (spaced (said_words said)) in
    record {
      due_each =
          AreDue-append schedule_lines due saids (said ∷ []) lines.due_each
          (subst (λ (d : Due). AreDue schedule_lines d (said ∷ [])) (sym state) (more, gave.may, gave.range, tt));
      given =
          subst (λ (l : List ℕ). Consumes old.left new.left l)
          (ap (λ (l : List ℕ). lines_of schedule_lines saids ++ l) (sym (append-nil one)) ∙ sym (lines_of-append saids (said ∷ [])))
          (Consumes-more old.left mid.left new.left (lines_of schedule_lines saids) one lines.given gave.given);
      quiet = gave.quiet ∙ lines.quiet;
    }

-- what is refused behind lines is refused before them
refused_behind_lines : (before : ℕ) (due later : Due) (saids : List Said) (old mid new : SourceState) (refusal : Refusal) → GaveLines due saids old mid
    → state_after schedule_lines due saids ≡ later → IsRefused (before + length saids) later mid new refusal → IsRefused before due old new refusal
refused_behind_lines before due later saids old mid new Read lines state refused = refused ∙ ap (λ (n : ℕ). n + 1) lines.quiet
refused_behind_lines before due later saids old mid new (Text at cause) lines state refused =
    (fault_behind_lines before due later saids old mid at cause lines state refused.0, refused.1 ∙ lines.quiet, refused.2)
refused_behind_lines before due later saids old mid new _ lines state refused = refused

-- the header alone
pub HasRead-started : (s : EventStream) (events : List Event) (old new : SourceState) → events ≡ [] → IsStarted s old new → HasRead s events old new
HasRead-started s events old new none started =
    rw none (record {
      lines = subst (λ (rs : List Said). GaveLines version_due rs old new) (sym (append-nil (said_in s.header))) started.lines;
      range = started.range;
      counted = omega (arith, started.left);
      each = All-nil (IsEventOf s.header.version);
      going = started.going;
    })

-- what is due then
module _ (s t : EventStream) (events : List Event) (old mid new : SourceState) (so_far : HasRead s events old mid) where
  abbrev saids : List Said
  saids = said_in s.header ++ map happens events

  state : state_after schedule_lines version_due saids ≡ events_left s.header.version s.left
  state =
      state_after-append schedule_lines version_due (said_in s.header) (map happens events)
      ∙ ap (λ (d : Due). state_after schedule_lines d (map happens events)) (state_after-said_in s.header)
      ∙ state_after-happens s.header.version s.header.events events ∙ ap (events_left s.header.version) (omega (arith, so_far.counted))

  count : lines_given s ≡ 0 + length saids
  count = omega (arith, length-append (said_in s.header) (map happens events), length-said_in s.header, length-map events happens, so_far.counted)

  -- one event more
  pub HasRead-event : (event : Event) (longer : List Event) → longer ≡ events ++ event ∷ [] → GaveEvent event s t mid new → HasRead t longer old new
  HasRead-event event longer added gave =
      let lines = GaveLines-more version_due (events_left s.header.version s.left) saids (happens event) old mid new so_far.lines state (lt-ltb 0 s.left (omega (arith, gave.fewer))) gave.line in
      let same : saids ++ happens event ∷ [] ≡ said_in s.header ++ map happens (events ++ event ∷ []) =
      append_assoc (said_in s.header) (map happens events) (happens event ∷ []) ∙ ap (λ (l : List Said). said_in s.header ++ l) (sym (map-append happens events (event ∷ []))) in
      rw (added, gave.header) (record {
        lines = subst (λ (rs : List Said). GaveLines version_due rs old new) same lines;
        range = so_far.range;
        counted = omega (arith, so_far.counted, gave.fewer, length-append events (event ∷ []));
        each = All-append (IsEventOf s.header.version) events (event ∷ []) so_far.each
            (All-cons (IsEventOf s.header.version) event [] (gave.line.may, gave.line.range) (All-nil (IsEventOf s.header.version)));
        going = gave.going;
      })

  -- a refusal is one of the whole
  pub HasRead-refused : (refusal : Refusal) → IsRefusedNext refusal s t mid new → IsRefused 0 version_due old new refusal
  HasRead-refused refusal refused =
      refused_behind_lines 0 version_due (events_left s.header.version s.left) saids old mid new refusal so_far.lines state
      (subst (λ (n : ℕ). IsRefused n (events_left s.header.version s.left) mid new refusal) count refused.refused)

  -- at the end the text is the schedule's
  pub HasRead-whole : GaveAll s t mid new
      → IfSome old.left (λ text. text ≡ schedule_text (schedule_with s.header events))
  unfolding schedule_text
  HasRead-whole gave = by old.left mid.left new.left so_far.lines.given gave.over.given gave.over.empty
    where
      by : (first second third : Option (List ℕ)) → Consumes first second (lines_of schedule_lines saids) → Consumes second third [] → IsAtEnd third
          → IfSome first (λ text. text ≡ schedule_text (schedule_with s.header events))
      by None second third given over empty = tt
      by (Some text) None third given over empty = absurd given
      by (Some text) (Some rest) None given over empty = absurd over
      by (Some text) (Some rest) (Some later) given over empty =
          let all : text ≡ lines_of schedule_lines saids =
          given ∙ ap (λ (l : List ℕ). lines_of schedule_lines saids ++ l) (over ∙ empty) ∙ append-nil (lines_of schedule_lines saids) in
          let counted : s.header.events ≡ length events = omega (arith, so_far.counted, gave.none) in
          rw (sym counted) all

  -- and it is a whole schedule in range
  pub HasRead-all : GaveAll s t mid new → HasReadAll (schedule_with s.header events) old new
  HasRead-all gave = record {
    text = HasRead-whole gave;
    range = record {
      split = so_far.range.split;
      first = so_far.range.first;
      nodes = so_far.range.nodes;
      limit = so_far.range.limit;
      actors = so_far.range.actors;
      events = omega (arith, so_far.counted, gave.none, so_far.range.events);
      each = so_far.each;
    };
    ended = gave.over.ended;
    quiet = gave.over.quiet ∙ so_far.lines.quiet;
  }

-- what is read of a schedule's text from a source is that schedule
pub read_back_from : (old new : SourceState) (answer : Result Schedule Refusal)
    → IfOk answer (λ t. IfSome old.left (λ text. text ≡ schedule_text t)) → IfOk answer IsInRange → IfErr answer (IsRefusedReading old new)
    → (s : Schedule) → IsInRange s → old.left ≡ Some (schedule_text s) → MatchResult answer (λ t. t ≡ s) (λ refusal. (refusal ≡ Memory) ⊎ (refusal ≡ Read))
read_back_from old new (Ok t) told ranged refused s range same =
    one_text t s ranged.first range.first (sym (subst (λ (k : Option (List ℕ)). IfSome k (λ text. text ≡ schedule_text t)) same told))
read_back_from old new (Err refusal) told ranged refused s range same = unread refusal refused
  where
    unread : (refusal : Refusal) → IsRefusedReading old new refusal → (refusal ≡ Memory) ⊎ (refusal ≡ Read)
    unread Memory refused = inl refl
    unread Read refused = inr refl
    unread (Text at cause) refused =
        let first = subst (λ (k : Option (List ℕ)). IsFirstFaultFrom 0 version_due k at cause) same refused.0 in
        absurd (no_fault_of_schedule s first.0 cause range first.2)
    unread _ refused = absurd refused

-- what a call answers, by what it answers
pub gave_event : (s t : EventStream) (old new : SourceState) (next : Option Event) (event : Event) → next ≡ Some event → IsNext s t old new (Ok next) → GaveEvent event s t old new
gave_event s t old new next event is told = subst (λ (n : Option Event). IsNext s t old new (Ok n)) is told

pub gave_all : (s t : EventStream) (old new : SourceState) (next : Option Event) → next ≡ None → IsNext s t old new (Ok next) → GaveAll s t old new
gave_all s t old new next is told = subst (λ (n : Option Event). IsNext s t old new (Ok n)) is told

-- what is refused from a source's first byte on, whatever was read ahead behind it
pub refused_source : (old new : SourceState) (ahead : List ℕ) (refusal : Refusal) → IsRefused 0 version_due (stream [] old) (stream ahead new) refusal
    → IsRefused 0 version_due old new refusal
refused_source old new ahead Read refused = refused
refused_source old new ahead (Text at cause) refused =
    (subst (λ (k : Option (List ℕ)). IsFirstFaultFrom 0 version_due k at cause) (prepend-nothing old.left) refused.0, refused.1, refused.2)
refused_source old new ahead _ refused = refused

pub refused_reading : (old new : SourceState) (ahead : List ℕ) (refusal : Refusal) → IsRefused 0 version_due (stream [] old) (stream ahead new) refusal
    → IsRefusedReading old new refusal
refused_reading old new ahead Memory refused = absurd refused
refused_reading old new ahead Read refused = refused
refused_reading old new ahead (Text at cause) refused = refused_source old new ahead (Text at cause) refused
refused_reading old new ahead _ refused = refused

-- what was read from a source's first byte on
pub whole_reading : (s t : EventStream) (h : Header) (events : List Event) (old mid new : SourceState) → HasRead s events (stream [] old) mid → GaveAll s t mid new
    → h ≡ t.header → IfSome old.left (λ text. text ≡ schedule_text (schedule_with h events))
whole_reading s t h events old mid new so_far gave is =
    rw (is ∙ gave.header)
    (subst (λ (k : Option (List ℕ)). IfSome k (λ text. text ≡ schedule_text (schedule_with s.header events)))
    (prepend-nothing old.left) (HasRead-whole s t events (stream [] old) mid new so_far gave))
