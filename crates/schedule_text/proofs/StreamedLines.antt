-- The lines of a schedule, as they come from a source.
use Rattle.std.proofs.Common.{◌≡◌, ◌≢◌, ℕ, ◌+◌, ◌-◌, ◌<◌, List, [], ◌∷◌, ◌++◌, Option, None, Some, Bool, true, false, length, refl, sym, ap, subst, ◌∙◌, arith}
use Rattle.std.proofs.lemmas.Bool.{lt-ltb}
use Rattle.std.proofs.lemmas.List.{append-nil}
use Rattle.std.specs.Io.KnownBytes.{Consumes, IsAtEnd}
use Rattle.history.specs.declared.text_causes.TextCause.{TextCause}
use Rattle.history.specs.declared.text_causes.TextCause.TheVariants.{End, Form, Range, Extra}
use Rattle.text_io.specs.Grammars.{Says, state_after, lines_of}
use Rattle.text_io.specs.Lines.{HasNo, line, spaced, words_of}
use Rattle.text_io.specs.LineReadings.{IsWrong}
use Rattle.text_io.proofs.Faults.{Begins-nothing}
use Rattle.history.specs.declared.refusals.Refusal.{Refusal}
use Rattle.history.specs.declared.refusals.Refusal.TheVariants.{Text, Read}
use Rattle.line_table.specs.declared.lines.Kind.{Kind}
use Rattle.schedule_text.specs.declared.fields.Field.{Field}
use Rattle.schedule_text.specs.declared.fields.Field.TheVariants.{Nodes, Limit, Actors, Events}
use Rattle.schedule_text.specs.Schedules.{IsBitsOf, header_lines}
use Rattle.schedule_text.specs.Texts.{Said, version, queue, number, Due, version_due, queue_due, number_due, events_left, bits_of, said_words, is_due}
use Rattle.schedule_text.specs.Texts.{due_after, due_after_queue, bits_said, Tells, MaySay, IsEventInRange, IsSaidInRange, schedule_lines}
use Rattle.schedule_text.specs.declared.schedules.Version.{Version}
use Rattle.counted_ref.specs.Ref.{IsSplit}
use Rattle.schedule_text.specs.ShortLines.{Held, IsHeldBy, Shortens}
use Rattle.text_io.specs.Devices.{SourceState}
use Rattle.schedule_text.specs.Streams.{GaveByte, GaveLine, EndedInLine}
use Rattle.schedule_text.specs.SourceLines.{IsFaultOf, IsFirstFaultFrom, IsStopped, GaveSaid, GaveLines}
use Rattle.schedule_text.proofs.Spelling.{spaced-said}
use Rattle.schedule_text.proofs.Joining.{AreDue-append, refused_behind, refused_later, state_after-bits, length-bits_said}
use Rattle.schedule_text.proofs.Parts.{lines_of-append}
use Rattle.schedule_text.proofs.Streams.{Consumes-more, Consumes-nothing}
use Rattle.schedule_text.proofs.Refusing.{wrong_version, wrong_kind, wrong_number, wrong_event}
use Rattle.schedule_text.proofs.Verdicts.{line_long, line_good, line_wrong}

-- a line that is wrong is the first fault of known bytes
fault_line : (due : Due) (old new : Option (List ℕ)) (says : List ℕ) (cause : TextCause) → is_due due ≡ true → Consumes old new (line says) → HasNo 10 says
    → IsWrong (Says schedule_lines due says) (IsSaidInRange (bits_of due)) cause → IsFaultOf due old cause
fault_line due None new says cause more given whole wrong = tt
fault_line due (Some rest) None says cause more given whole wrong = absurd given
fault_line due (Some rest) (Some later) says End more given whole wrong = absurd wrong
fault_line due (Some rest) (Some later) says Form more given whole wrong =
    record { due = more; says = says; later = later; split = given; whole = whole; wrong = wrong }
fault_line due (Some rest) (Some later) says Range more given whole wrong =
    record { due = more; says = says; later = later; split = given; whole = whole; wrong = wrong }
fault_line due (Some rest) (Some later) says Extra more given whole wrong = absurd wrong

-- the end before a line feed
pub fault_end : (due : Due) (old new : SourceState) → is_due due ≡ true → EndedInLine old new → IsFaultOf due old.left End
fault_end due old new more ended = by old.left new.left ended.given ended.empty
  where
    by : (before after : Option (List ℕ)) → Consumes before after ended.says → IsAtEnd after → IsFaultOf due before End
    by None after given empty = tt
    by (Some rest) None given empty = absurd given
    by (Some rest) (Some later) given empty =
        let same : rest ≡ ended.says = given ∙ ap (λ (l : List ℕ). ended.says ++ l) empty ∙ append-nil ended.says in
        (more, subst (HasNo 10) (sym same) ended.unbroken)

-- a byte where no line is due
pub fault_extra : (due : Due) (old new : SourceState) (b : ℕ) → is_due due ≡ false → GaveByte b old new → IsFaultOf due old.left Extra
fault_extra due old new b done gave = by old.left new.left gave.given
  where
    by : (before after : Option (List ℕ)) → Consumes before after (b ∷ []) → IsFaultOf due before Extra
    by None after given = tt
    by (Some rest) None given = absurd given
    by (Some rest) (Some later) given = (done, λ none. let long : length rest ≡ 0 = ap length none in omega (arith, long, ap length given))

-- what is held of a line is judged as the line
module _ (due : Due) (split : IsSplit (bits_of due)) (held : Held) (old new : SourceState) (more : is_due due ≡ true) (gave : GaveLine held old new) where
  kept : held.is_over ≡ false → Shortens 21 gave.says held.bytes held.room
  kept fits = by held.is_over fits gave.kept
    where
      by : (o : Bool) → o ≡ false → IsHeldBy o held.bytes held.room gave.says → Shortens 21 gave.says held.bytes held.room
      by false fits is = is
      by true fits is = absurd cc

  -- it says something in range
  pub good : (said : Said) → held.is_over ≡ false → MaySay due said → words_of held.bytes ≡ said_words said → IsSaidInRange (bits_of due) said → GaveSaid due said old new
  good said fits may same range =
      let words = line_good (bits_of due) split gave.says held.bytes held.room said (kept fits) same range in
      record {
        may = may;
        range = range;
        given = subst (λ l. Consumes old.left new.left (line l)) (spaced-said said gave.says words) gave.given;
        quiet = gave.quiet;
      }

  -- it is wrong
  pub wrong : (cause : TextCause) → held.is_over ≡ false → IsWrong (Says schedule_lines due held.bytes) (IsSaidInRange (bits_of due)) cause → IsFaultOf due old.left cause
  wrong cause fits is =
      fault_line due old.left new.left gave.says cause more gave.given gave.whole (line_wrong (bits_of due) split due gave.says held.bytes held.room cause (kept fits) is)

  -- it is too long
  pub long : held.is_over ≡ true → IsFaultOf due old.left Form
  long over = fault_line due old.left new.left gave.says Form more gave.given gave.whole (by held.is_over over gave.kept)
    where
      by : (o : Bool) → o ≡ true → IsHeldBy o held.bytes held.room gave.says → (r : Said) → ¬ Says schedule_lines due gave.says r
      by true over is = line_long due gave.says is.0 is.1 is.2 is.3
      by false over is = absurd cc

-- a fault of the next line is the first one
pub stopped_by : (before : ℕ) (due : Due) (old new : SourceState) (at : ℕ) (cause : TextCause) → at ≡ before + 1 → IsFaultOf due old.left cause
    → new.failures ≡ old.failures → (cause ≡ End → new.has_ended ≡ true) → IsStopped before due old new (Text at cause)
stopped_by before due old new at cause next fault quiet over = (by old.left fault, quiet, over)
  where
    by : (known : Option (List ℕ)) → IsFaultOf due known cause → IsFirstFaultFrom before due known at cause
    by None fault = tt
    by (Some rest) fault = (1, next, record { before = []; rest = rest; begins = Begins-nothing schedule_lines due rest; counted = refl; fault = fault })

-- 24 bits are a split
pub split_24 : IsSplit 24
split_24 = record { least = omega arith; most = omega arith }

-- what the line behind so many is refused for, by what is held of it
module _ (before : ℕ) (held : Held) (old new : SourceState) (gave : GaveLine held old new) where
  pub stopped_long : (due : Due) → IsSplit (bits_of due) → is_due due ≡ true → held.is_over ≡ true → IsStopped before due old new (Text (before + 1) Form)
  stopped_long due split more over =
      stopped_by before due old new (before + 1) Form refl (long due split held old new more gave over) gave.quiet
      (λ (ends : Form ≡ End). absurd cc)

  pub stopped_line : (due : Due) → IsSplit (bits_of due) → is_due due ≡ true → (line : List ℕ) (cause : TextCause) → held.is_over ≡ false → line ≡ held.bytes
      → IsWrong (Says schedule_lines due line) (IsSaidInRange (bits_of due)) cause → IsStopped before due old new (Text (before + 1) cause)
  stopped_line due split more line cause fits same is =
      stopped_by before due old new (before + 1) cause refl
      (wrong due split held old new more gave cause fits (subst (λ (l : List ℕ). IsWrong (Says schedule_lines due l) (IsSaidInRange (bits_of due)) cause) same is)) gave.quiet
      (λ (ends : cause ≡ End). absurd (subst (λ (k : TextCause). IsWrong (Says schedule_lines due line) (IsSaidInRange (bits_of due)) k) ends is))

  pub stopped_version : (line : List ℕ) → held.is_over ≡ false → line ≡ held.bytes → ((v : Version) → line ≢ spaced (said_words (version v)))
      → IsStopped before version_due old new (Text (before + 1) Form)
  stopped_version line fits same other = stopped_line version_due split_24 refl line Form fits same (wrong_version line other)

  pub stopped_kind : (v : Version) (line : List ℕ) (cause : TextCause) → held.is_over ≡ false → line ≡ held.bytes
      → IsWrong (λ (kind : Kind). words_of line ≡ said_words (queue kind)) (λ kind. IsSaidInRange 24 (queue kind)) cause
      → IsStopped before (queue_due v) old new (Text (before + 1) cause)
  stopped_kind v line cause fits same is = stopped_line (queue_due v) split_24 refl line cause fits same (wrong_kind v line cause is)

  pub stopped_number : (v : Version) (bits : ℕ) → IsSplit bits → (field : Field) (line : List ℕ) (cause : TextCause) → held.is_over ≡ false → line ≡ held.bytes
      → IsWrong (λ (value : ℕ). words_of line ≡ said_words (number field value)) (λ value. IsSaidInRange bits (number field value)) cause
      → IsStopped before (number_due v bits field) old new (Text (before + 1) cause)
  stopped_number v bits split field line cause fits same is =
      stopped_line (number_due v bits field) split refl line cause fits same (wrong_number v bits field line cause is)

  pub stopped_event : (v : Version) (left : ℕ) → 0 < left → (line : List ℕ) (cause : TextCause) → held.is_over ≡ false → line ≡ held.bytes
      → IsWrong (Tells v (words_of line)) IsEventInRange cause → IsStopped before (events_left v left) old new (Text (before + 1) cause)
  stopped_event v left some line cause fits same is =
      stopped_line (events_left v left) split_24 (lt-ltb 0 left some) line cause fits same (wrong_event v left line cause is)

  -- what it says
  pub given_said : (due : Due) → IsSplit (bits_of due) → is_due due ≡ true → (said : Said) (line : List ℕ) → held.is_over ≡ false → line ≡ held.bytes → MaySay due said
      → words_of line ≡ said_words said → IsSaidInRange (bits_of due) said → GaveSaid due said old new
  given_said due split more said line fits same may words range = good due split held old new more gave said fits may (ap words_of (sym same) ∙ words) range

-- the first fault behind lines is that before them
pub fault_behind_lines : (before : ℕ) (due later : Due) (saids : List Said) (old mid : SourceState) (at : ℕ) (cause : TextCause) → GaveLines due saids old mid
    → state_after schedule_lines due saids ≡ later → IsFirstFaultFrom (before + length saids) later mid.left at cause → IsFirstFaultFrom before due old.left at cause
fault_behind_lines before due later saids old mid at cause lines state fault = by old.left mid.left lines.given fault
  where
    by : (first second : Option (List ℕ)) → Consumes first second (lines_of schedule_lines saids) → IsFirstFaultFrom (before + length saids) later second at cause
        → IsFirstFaultFrom before due first at cause
    by None second given fault = tt
    by (Some text) None given fault = absurd given
    by (Some text) (Some rest) given fault =
        refused_behind before due later saids text rest (Text at cause) (record { due = lines.due_each; spelled = given }) state fault

-- what is refused behind lines is refused before them
pub stopped_behind : (before : ℕ) (due later : Due) (saids : List Said) (old mid new : SourceState) (refusal : Refusal) → GaveLines due saids old mid
    → state_after schedule_lines due saids ≡ later → IsStopped (before + length saids) later mid new refusal → IsStopped before due old new refusal
stopped_behind before due later saids old mid new Read lines state stopped = stopped ∙ ap (λ (n : ℕ). n + 1) lines.quiet
stopped_behind before due later saids old mid new (Text at cause) lines state stopped =
    (fault_behind_lines before due later saids old mid at cause lines state stopped.0, stopped.1 ∙ lines.quiet, stopped.2)
stopped_behind before due later saids old mid new _ lines state stopped = stopped

-- and behind how many bits hold a node
pub stopped_behind_bits : (v : Version) (bits : ℕ) (old mid new : SourceState) (refusal : Refusal) → IsBitsOf v bits → GaveLines (due_after_queue v) (bits_said v bits) old mid
    → IsStopped (header_lines v - 4) (number_due v bits Nodes) mid new refusal → IsStopped 2 (due_after_queue v) old new refusal
stopped_behind_bits v bits old mid new refusal first lines stopped =
    stopped_behind 2 (due_after_queue v) (number_due v bits Nodes) (bits_said v bits) old mid new refusal lines (state_after-bits v bits first)
    (subst (λ (n : ℕ). IsStopped n (number_due v bits Nodes) mid new refusal) (sym (length-bits_said v bits)) stopped)

-- what is refused behind a line is refused before it
pub stopped_later : (before : ℕ) (due : Due) (said : Said) (old mid new : SourceState) (refusal : Refusal) → is_due due ≡ true → GaveSaid due said old mid
    → IsStopped (before + 1) (due_after due said) mid new refusal → IsStopped before due old new refusal
stopped_later before due said old mid new Read more gave stopped = stopped ∙ ap (λ (n : ℕ). n + 1) gave.quiet
stopped_later before due said old mid new (Text at cause) more gave stopped =
    (by old.left mid.left gave.given stopped.0, stopped.1 ∙ gave.quiet, stopped.2)
  where
    by : (first second : Option (List ℕ)) → Consumes first second (line (spaced (said_words said))) → IsFirstFaultFrom (before + 1) (due_after due said) second at cause
        → IsFirstFaultFrom before due first at cause
    by None second given fault = tt
    by (Some rest) None given fault = absurd given
    by (Some rest) (Some later) given fault =
        refused_later before due said rest later (Text at cause) more (record { may = gave.may; range = gave.range; spelled = given }) fault
stopped_later before due said old mid new _ more gave stopped = stopped

-- the same where the next line is told by its number
stopped_next : (before next : ℕ) (due : Due) (said : Said) (old mid new : SourceState) (refusal : Refusal) → before + 1 ≡ next → is_due due ≡ true → GaveSaid due said old mid
    → IsStopped next (due_after due said) mid new refusal → IsStopped before due old new refusal
stopped_next before next due said old mid new refusal is more gave stopped =
    stopped_later before due said old mid new refusal more gave (subst (λ (n : ℕ). IsStopped n (due_after due said) mid new refusal) (sym is) stopped)

-- lines, and then others
pub GaveLines-append : (due : Due) (rs qs : List Said) (old mid new : SourceState) → GaveLines due rs old mid → GaveLines (state_after schedule_lines due rs) qs mid new
    → GaveLines due (rs ++ qs) old new
GaveLines-append due rs qs old mid new lines others = record {
  due_each = AreDue-append schedule_lines due rs qs lines.due_each others.due_each;
  given =
      subst (λ (l : List ℕ). Consumes old.left new.left l) (sym (lines_of-append rs qs))
      (Consumes-more old.left mid.left new.left (lines_of schedule_lines rs) (lines_of schedule_lines qs) lines.given others.given);
  quiet = others.quiet ∙ lines.quiet;
}

-- no line, and one more in front of others
pub GaveLines-none : (due : Due) (s : SourceState) → GaveLines due [] s s
GaveLines-none due s = record { due_each = tt; given = Consumes-nothing s.left; quiet = refl }

pub GaveLines-front : (due : Due) (said : Said) (rs : List Said) (old mid new : SourceState) → is_due due ≡ true → GaveSaid due said old mid
    → GaveLines (due_after due said) rs mid new → GaveLines due (said ∷ rs) old new
GaveLines-front due said rs old mid new more gave others = record {
  due_each = (more, gave.may, gave.range, others.due_each);
  given = Consumes-more old.left mid.left new.left (line (spaced (said_words said))) (lines_of schedule_lines rs) gave.given others.given;
  quiet = others.quiet ∙ gave.quiet;
}

-- the sizes, each behind those before it: what one is refused for, and all four
module _ (v : Version) (bits lines : ℕ) (counted : lines ≡ header_lines v) (nodes : ℕ) (s0 s1 : SourceState) (first : GaveSaid (number_due v bits Nodes) (number Nodes nodes) s0 s1) where
  pub stopped_limit : (new : SourceState) (refusal : Refusal) → IsStopped (lines - 4 + 1) (number_due v bits Limit) s1 new refusal
      → IsStopped (header_lines v - 4) (number_due v bits Nodes) s0 new refusal
  stopped_limit new refusal =
      stopped_next (header_lines v - 4) (lines - 4 + 1) (number_due v bits Nodes) (number Nodes nodes) s0 s1 new refusal (omega (arith, counted)) refl first

  module _ (limit : ℕ) (s2 : SourceState) (second : GaveSaid (number_due v bits Limit) (number Limit limit) s1 s2) where
    pub stopped_actors : (new : SourceState) (refusal : Refusal) → IsStopped (lines - 4 + 2) (number_due v bits Actors) s2 new refusal
        → IsStopped (header_lines v - 4) (number_due v bits Nodes) s0 new refusal
    stopped_actors new refusal stopped =
        stopped_limit new refusal
        (stopped_next (lines - 4 + 1) (lines - 4 + 2) (number_due v bits Limit) (number Limit limit) s1 s2 new refusal (omega arith) refl second stopped)

    module _ (actors : ℕ) (s3 : SourceState) (third : GaveSaid (number_due v bits Actors) (number Actors actors) s2 s3) where
      pub stopped_events : (new : SourceState) (refusal : Refusal) → IsStopped (lines - 4 + 3) (number_due v bits Events) s3 new refusal
          → IsStopped (header_lines v - 4) (number_due v bits Nodes) s0 new refusal
      stopped_events new refusal stopped =
          stopped_actors new refusal
          (stopped_next (lines - 4 + 2) (lines - 4 + 3) (number_due v bits Actors) (number Actors actors) s2 s3 new refusal (omega arith) refl third stopped)

      pub gave_sizes : (events : ℕ) (s4 : SourceState) → GaveSaid (number_due v bits Events) (number Events events) s3 s4
          → GaveLines (number_due v bits Nodes) (number Nodes nodes ∷ number Limit limit ∷ number Actors actors ∷ number Events events ∷ []) s0 s4
      gave_sizes events s4 fourth =
          GaveLines-front (number_due v bits Nodes) (number Nodes nodes) _ s0 s1 s4 refl first
          (GaveLines-front (number_due v bits Limit) (number Limit limit) _ s1 s2 s4 refl second
          (GaveLines-front (number_due v bits Actors) (number Actors actors) _ s2 s3 s4 refl third
          (GaveLines-front (number_due v bits Events) (number Events events) _ s3 s4 s4 refl fourth (GaveLines-none _ s4))))

-- the header is what its parts are
pub GaveLines-header : (v : Version) (kind : Kind) (bits : ℕ) (sizes : List Said) (old first second third new : SourceState) → GaveSaid version_due (version v) old first
    → GaveSaid (queue_due v) (queue kind) first second → IsBitsOf v bits → GaveLines (due_after_queue v) (bits_said v bits) second third
    → GaveLines (number_due v bits Nodes) sizes third new → GaveLines version_due (version v ∷ queue kind ∷ bits_said v bits ++ sizes) old new
GaveLines-header v kind bits sizes old first second third new says names is lines others =
    GaveLines-front version_due (version v) (queue kind ∷ bits_said v bits ++ sizes) old first new refl says
    (GaveLines-front (queue_due v) (queue kind) (bits_said v bits ++ sizes) first second new refl names
    (GaveLines-append (due_after_queue v) (bits_said v bits) sizes second third new lines
    (subst (λ (d : Due). GaveLines d sizes third new) (sym (state_after-bits v bits is)) others)))
