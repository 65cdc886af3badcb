-- One text a schedule, no fault in it, and one first fault of any other text.
use Rattle.std.proofs.Common.{◌≡◌, ◌≢◌, ℕ, ◌-◌, ◌≤◌, List, [], ◌∷◌, ◌++◌, length, map, All, false, refl, sym, ap, ap₂, subst, ◌∙◌, arith}
use Rattle.std.specs.Prelude.{Result, Ok, Err, IfOk, IfErr, MatchResult}
use Rattle.std.proofs.lemmas.Bool.{lt-ltb}
use Rattle.std.proofs.lemmas.List.{append-nil}
use Rattle.std.proofs.lemmas.List.Elements.{All-nil, All-cons, All-append, All-head, All-tail}
use Rattle.history.specs.declared.refusals.Refusal.{Refusal}
use Rattle.history.specs.declared.refusals.Refusal.TheVariants.{Memory, Text}
use Rattle.history.specs.declared.text_causes.TextCause.{TextCause}
use Rattle.text_io.specs.Grammars.{Grammar, AreDue, state_after, lines_of, IsText, IsFirstFault, IsSoundGrammar}
use Rattle.text_io.specs.Lines.{HasNo, spaced}
use Rattle.text_io.proofs.Single.{one_list, no_fault, one_fault}
use Rattle.schedule_text.specs.declared.schedules.Event.{Event}
use Rattle.schedule_text.specs.declared.schedules.Version.{Version}
use Rattle.schedule_text.specs.declared.schedules.Version.TheVariants.{One, Two}
use Rattle.line_table.specs.declared.lines.Kind.{Kind}
use Rattle.schedule_text.specs.declared.fields.Field.TheVariants.{Nodes}
use Rattle.schedule_text.specs.Schedules.{Schedule, IsBitsOf}
use Rattle.counted_ref.specs.Ref.{IsSplit}
use Rattle.schedule_text.specs.Texts.{Said, version, queue, happens, Due, version_due, number_due, events_left, is_due, due_after, said_words}
use Rattle.schedule_text.specs.Texts.{bits_said, sizes_said, header_by, said_by, schedule_lines, schedule_text, IsEventOf, IsInRange}
use Rattle.schedule_text.specs.Readers.{IsRefusedText}
use Rattle.schedule_text.proofs.Spelling.{AreWords, AreWords-said, words_of-said}
use Rattle.schedule_text.proofs.Joining.{state_after-append, state_after-happens, state_after-header}
use Rattle.schedule_text.proofs.Distinct.{said_same}

-- words and the spaces between them have no line feed
unbroken_words : (words : List (List ℕ)) → AreWords words → HasNo 10 (spaced words)
unbroken_words [] all = All-nil (λ b. b ≢ 10)
unbroken_words (word ∷ []) all = all.0.unbroken
unbroken_words (word ∷ next ∷ words) all =
    All-append (λ b. b ≢ 10) word (32 ∷ spaced (next ∷ words)) all.0.unbroken
    (All-cons (λ b. b ≢ 10) 32 (spaced (next ∷ words)) (λ same. omega (arith, same)) (unbroken_words (next ∷ words) all.1))

unbroken : (said : Said) → HasNo 10 (schedule_lines.words said)
unbroken said = unbroken_words (said_words said) (AreWords-said said)

apart : (a b : Said) → schedule_lines.words a ≡ schedule_lines.words b → a ≡ b
apart a b same = said_same a b (sym (words_of-said a (spaced (said_words a)) refl) ∙ words_of-said b (spaced (said_words a)) same)

-- the words of a line of a schedule tell what it says, and have no line feed
IsSoundGrammar-schedule : IsSoundGrammar schedule_lines
IsSoundGrammar-schedule = record { no_feed = λ due said may. unbroken said; one = λ due a b may may' same. apart a b same }

-- the lines of schedules, whatever their numbers
abbrev unranged_lines : Grammar Due Said
unranged_lines = record {
  is_due = is_due;
  may_say = λ due said. Unit {0};
  in_range = λ due said. Unit {0};
  words = λ said. spaced (said_words said);
  after = due_after;
}

IsSoundGrammar-unranged : IsSoundGrammar unranged_lines
IsSoundGrammar-unranged = record { no_feed = λ due said may. unbroken said; one = λ due a b may may' same. apart a b same }

unranged_events : (v : Version) (count : ℕ) (events : List Event) → length events ≡ count → AreDue unranged_lines (events_left v count) (map happens events)
unranged_events v count [] counted = tt
unranged_events v count (event ∷ events) counted = (lt-ltb 0 count (omega arith), tt, tt, unranged_events v (count - 1) events (omega arith))

unranged_sizes : (v : Version) (bits nodes limit actors : ℕ) (events : List Event)
    → AreDue unranged_lines (number_due v bits Nodes) (sizes_said nodes limit actors (length events) ++ map happens events)
unranged_sizes v bits nodes limit actors events =
    (refl, tt, tt, (refl, tt, tt, (refl, tt, tt, (refl, tt, tt, unranged_events v (length events) events refl))))

unranged_lines_due : (v : Version) (kind : Kind) (bits nodes limit actors : ℕ) (events : List Event)
    → AreDue unranged_lines version_due ((version v ∷ queue kind ∷ bits_said v bits ++ sizes_said nodes limit actors (length events)) ++ map happens events)
unranged_lines_due One kind bits nodes limit actors events = (refl, tt, tt, (refl, tt, tt, unranged_sizes One 24 nodes limit actors events))
unranged_lines_due Two kind bits nodes limit actors events =
    (refl, tt, tt, (refl, tt, tt, (refl, tt, tt, unranged_sizes Two bits nodes limit actors events)))

-- the events of a list are due where so many are left
events_due : (v : Version) (count : ℕ) (events : List Event) → length events ≡ count → All (IsEventOf v) events → AreDue schedule_lines (events_left v count) (map happens events)
events_due v count [] counted all = tt
events_due v count (event ∷ events) counted all =
    let first = All-head (IsEventOf v) event events all in
    (lt-ltb 0 count (omega arith), first.0, first.1, events_due v (count - 1) events (omega arith) (All-tail (IsEventOf v) event events all))

-- the sizes of a schedule in range are due, and then its events
sizes_due : (s : Schedule) → IsInRange s → AreDue schedule_lines (number_due s.version s.bits Nodes) (sizes_said s.nodes s.limit s.actors (length s.events) ++ map happens s.events)
sizes_due s range =
    let count : 0 ≤ length s.events = omega arith in
    let events = events_due s.version (length s.events) s.events refl range.each in
    (refl, refl, range.nodes, (refl, refl, range.limit, (refl, refl, range.actors, (refl, refl, (count, range.events), events))))

-- a header is due in front of its sizes
header_due : (v : Version) (kind : Kind) (bits : ℕ) (sizes later : List Said) → IsSplit bits → IsBitsOf v bits → AreDue schedule_lines (number_due v bits Nodes) (sizes ++ later)
    → AreDue schedule_lines version_due ((version v ∷ queue kind ∷ bits_said v bits ++ sizes) ++ later)
header_due One kind bits sizes later split first due =
    (refl, tt, tt, (refl, tt, tt, subst (λ (n : ℕ). AreDue schedule_lines (number_due One n Nodes) (sizes ++ later)) (first refl) due))
header_due Two kind bits sizes later split first due = (refl, tt, tt, (refl, tt, tt, (refl, refl, (split.least, split.most), due)))

-- the lines of a schedule in range are due
lines_due : (s : Schedule) → IsInRange s → AreDue schedule_lines version_due (said_by s)
lines_due s range =
    header_due s.version s.kind s.bits (sizes_said s.nodes s.limit s.actors (length s.events)) (map happens s.events) range.split range.first (sizes_due s range)

-- and no further line is
none_due : (s : Schedule) → is_due (state_after schedule_lines version_due (said_by s)) ≡ false
none_due s =
    let left : length s.events - length s.events ≡ 0 = omega arith in
    ap is_due
    (state_after-append schedule_lines version_due (header_by s) (map happens s.events)
    ∙ ap (λ (d : Due). state_after schedule_lines d (map happens s.events)) (state_after-header s.version s.kind s.bits s.nodes s.limit s.actors (length s.events))
    ∙ state_after-happens s.version (length s.events) s.events ∙ ap (events_left s.version) left)

-- the text of any schedule is of such lines
IsText-unranged : (s : Schedule) → IsText unranged_lines version_due (said_by s) (schedule_text s)
unfolding schedule_text
IsText-unranged s =
    record {
      lines = record {
        due = unranged_lines_due s.version s.kind s.bits s.nodes s.limit s.actors s.events;
        spelled = sym (append-nil (lines_of schedule_lines (said_by s)));
      };
      done = none_due s;
    }

-- lists of events whose lines say the same
events_same : (ps bs : List Event) → map happens ps ≡ map happens bs → ps ≡ bs
events_same [] [] same = refl
events_same [] (b ∷ bs) same = absurd cc
events_same (a ∷ ps) [] same = absurd cc
events_same (a ∷ ps) (b ∷ bs) same =
    let first : a ≡ b = cc in
    let rest : map happens ps ≡ map happens bs = cc in
    ap₂ (λ (x : Event) (xs : List Event). x ∷ xs) first (events_same ps bs rest)

-- what lines of the same version say behind the queue is the same
record SaysSame (a b : Schedule) : Type 0 where
  bits : a.bits ≡ b.bits
  nodes : a.nodes ≡ b.nodes
  limit : a.limit ≡ b.limit
  actors : a.actors ≡ b.actors
  events : map happens a.events ≡ map happens b.events

behind_queue : (v w : Version) (a b : Schedule) → v ≡ w → IsBitsOf v a.bits → IsBitsOf w b.bits
    → (bits_said v a.bits ++ sizes_said a.nodes a.limit a.actors (length a.events)) ++ map happens a.events
    ≡ (bits_said w b.bits ++ sizes_said b.nodes b.limit b.actors (length b.events)) ++ map happens b.events → SaysSame a b
behind_queue One One a b is first other same = record { bits = first refl ∙ sym (other refl); nodes = cc; limit = cc; actors = cc; events = cc }
behind_queue Two Two a b is first other same = record { bits = cc; nodes = cc; limit = cc; actors = cc; events = cc }
behind_queue One Two a b is first other same = absurd cc
behind_queue Two One a b is first other same = absurd cc

-- no two schedules have one text
pub one_text : (a b : Schedule) → IsBitsOf a.version a.bits → IsBitsOf b.version b.bits → schedule_text a ≡ schedule_text b → a ≡ b
one_text a b first other same =
    let lines : said_by a ≡ said_by b = one_list unranged_lines IsSoundGrammar-unranged version_due (said_by a) (said_by b) (schedule_text b)
    (subst (IsText unranged_lines version_due (said_by a)) same (IsText-unranged a)) (IsText-unranged b) in
    let versions : a.version ≡ b.version = cc in
    let kind : a.kind ≡ b.kind = cc in
    let behind = behind_queue a.version b.version a b versions first other cc in
    let events : a.events ≡ b.events = events_same a.events b.events behind.events in
    λ i. record {
      version = versions i;
      kind = kind i;
      bits = behind.bits i;
      nodes = behind.nodes i;
      limit = behind.limit i;
      actors = behind.actors i;
      events = events i;
    }

-- the text of a schedule in range is in the grammar
IsText-schedule : (s : Schedule) → IsInRange s → IsText schedule_lines version_due (said_by s) (schedule_text s)
unfolding schedule_text
IsText-schedule s range =
    record { lines = record { due = lines_due s range; spelled = sym (append-nil (lines_of schedule_lines (said_by s))) }; done = none_due s }

-- so it has no fault
pub no_fault_of_schedule : (s : Schedule) (at : ℕ) (cause : TextCause) → IsInRange s → IsFirstFault schedule_lines version_due (schedule_text s) at cause → ⊥
no_fault_of_schedule s at cause range = no_fault schedule_lines IsSoundGrammar-schedule version_due (said_by s) (schedule_text s) at cause (IsText-schedule s range)

-- a text has one first fault
pub one_fault_of_schedule : (text : List ℕ) (at by : ℕ) (c d : TextCause) → IsFirstFault schedule_lines version_due text at c
    → IsFirstFault schedule_lines version_due text by d → (at ≡ by) × (c ≡ d)
one_fault_of_schedule = one_fault schedule_lines IsSoundGrammar-schedule version_due

-- what is read of a schedule's text is that schedule
pub read_back : (text : List ℕ) (answer : Result Schedule Refusal) → IfOk answer (λ t. text ≡ schedule_text t) → IfOk answer IsInRange → IfErr answer (IsRefusedText text)
    → (s : Schedule) → IsInRange s → text ≡ schedule_text s → MatchResult answer (λ t. t ≡ s) (λ refusal. refusal ≡ Memory)
read_back text (Ok t) told ranged refused s range same = one_text t s ranged.first range.first (sym told ∙ same)
read_back text (Err refusal) told ranged refused s range same = only_memory refusal refused
  where
    only_memory : (refusal : Refusal) → IsRefusedText text refusal → refusal ≡ Memory
    only_memory Memory refused = refl
    only_memory (Text at cause) refused = absurd (no_fault_of_schedule s at cause range (subst (λ text. IsFirstFault schedule_lines version_due text at cause) same refused))
    only_memory _ refused = absurd refused
