-- Texts that are read in two parts, and the faults of the second.
use Rattle.std.proofs.Common.{◌≡◌, ◌≢◌, ℕ, ◌+◌, ◌-◌, ◌<◌, List, [], ◌∷◌, ◌++◌, length, map, All, true, refl, sym, ap, ◌∙◌, subst, arith, append_assoc, length-append, zero-add}
use Rattle.std.proofs.lemmas.Bool.{lt-ltb}
use Rattle.std.proofs.lemmas.List.{append-nil, map-append, length-map}
use Rattle.std.proofs.lemmas.List.Elements.{All-nil, All-cons, All-append}
use Rattle.std.proofs.lemmas.List.Concat.{flat_map-append}
use Rattle.history.specs.declared.refusals.Refusal.{Refusal}
use Rattle.history.specs.declared.refusals.Refusal.TheVariants.{Memory, Text}
use Rattle.history.specs.declared.text_causes.TextCause.{TextCause}
use Rattle.history.specs.declared.text_causes.TextCause.TheVariants.{Extra}
use Rattle.text_io.proofs.Faults.{Begins-more, first_fault-extra}
use Rattle.text_io.specs.Grammars.{Grammar, AreDue, state_after, lines_of, Begins, IsFirstFault}
use Rattle.text_io.specs.Lines.{line}
use Rattle.schedule_text.specs.declared.schedules.Event.{Event}
use Rattle.schedule_text.specs.declared.schedules.Version.{Version}
use Rattle.schedule_text.specs.declared.schedules.Version.TheVariants.{One, Two}
use Rattle.schedule_text.specs.declared.fields.Field.TheVariants.{Nodes}
use Rattle.line_table.specs.declared.lines.Kind.{Kind}
use Rattle.schedule_text.specs.Schedules.{IsBitsOf, header_lines}
use Rattle.schedule_text.specs.Texts.{Said, version, queue, happens, Due, version_due, queue_due, number_due, events_left, is_due, due_after}
use Rattle.schedule_text.specs.Texts.{due_after_queue, bits_said, sizes_said, schedule_lines, schedule_text, IsEventOf}
use Rattle.schedule_text.specs.Readers.{AddsEvent, IsFront, IsRefusedAfter, IsRefusedText, said_in}
use Rattle.schedule_text.specs.declared.readers.Header.{Header}

-- the state after two lists of lines
pub state_after-append : {S R : Type 0} (g : Grammar S R) (s : S) (rs qs : List R) → state_after g s (rs ++ qs) ≡ state_after g (state_after g s rs) qs
state_after-append g s [] qs = refl
state_after-append g s (r ∷ rs) qs = state_after-append g (g.after s r) rs qs

-- lines that are due, and then others
pub AreDue-append : {S R : Type 0} (g : Grammar S R) (s : S) (rs qs : List R) → AreDue g s rs → AreDue g (state_after g s rs) qs → AreDue g s (rs ++ qs)
AreDue-append g s [] qs due more = more
AreDue-append g s (r ∷ rs) qs due more = (due.0, due.1, due.2, AreDue-append g (g.after s r) rs qs due.3 more)

-- a text begins with lines, and its rest with others
pub Begins-append : {S R : Type 0} (g : Grammar S R) (s : S) (rs qs : List R) (text rest later : List ℕ) → Begins g s rs text rest
    → Begins g (state_after g s rs) qs rest later → Begins g s (rs ++ qs) text later
Begins-append g s rs qs text rest later first second = record {
  due = AreDue-append g s rs qs first.due second.due;
  spelled =
      first.spelled ∙ ap (λ (more : List ℕ). lines_of g rs ++ more) second.spelled ∙ sym (append_assoc (lines_of g rs) (lines_of g qs) later)
      ∙ ap (λ (more : List ℕ). more ++ later) (sym (flat_map-append (λ r. line (g.words r)) rs qs));
}

-- the first fault of the rest is that of the text
IsFirstFault-behind : {S R : Type 0} (g : Grammar S R) (s : S) (rs : List R) (text rest : List ℕ) (number : ℕ) (cause : TextCause) → Begins g s rs text rest
    → IsFirstFault g (state_after g s rs) rest number cause → IsFirstFault g s text (length rs + number) cause
IsFirstFault-behind g s rs text rest number cause begins first = record {
  before = rs ++ first.before;
  rest = first.rest;
  begins = Begins-append g s rs first.before text rest first.rest begins first.begins;
  counted = omega (arith, length-append rs first.before, first.counted);
  fault = rw (state_after-append g s rs first.before) first.fault;
}

-- what is refused behind some lines is refused of the text
pub refused_behind : (before : ℕ) (s t : Due) (rs : List Said) (text rest : List ℕ) (refusal : Refusal) → Begins schedule_lines s rs text rest
    → state_after schedule_lines s rs ≡ t → IsRefusedAfter (before + length rs) t rest refusal → IsRefusedAfter before s text refusal
refused_behind before s t rs text rest Memory begins state refused = tt
refused_behind before s t rs text rest (Text number cause) begins state refused =
    (length rs + refused.0, omega (arith, refused.1), IsFirstFault-behind schedule_lines s rs text rest refused.0 cause begins (rw (sym state) at refused.2))
refused_behind before s t rs text rest _ begins state refused = refused

-- no line in front of a text
pub Begins-none : (due : Due) (text : List ℕ) → Begins schedule_lines due [] text text
Begins-none due text = record { due = tt; spelled = refl }

-- a line in front of others
pub Begins-front : (due : Due) (said : Said) (rs : List Said) (text rest later : List ℕ) → is_due due ≡ true → IsFront due said text rest
    → Begins schedule_lines (due_after due said) rs rest later → Begins schedule_lines due (said ∷ rs) text later
Begins-front due said rs text rest later more front begins = record {
  due = (more, front.may, front.range, begins.due);
  spelled =
      front.spelled ∙ ap (λ (l : List ℕ). line (schedule_lines.words said) ++ l) begins.spelled
      ∙ sym (append_assoc (line (schedule_lines.words said)) (lines_of schedule_lines rs) later);
}

-- what is refused behind one line is refused of the text
pub refused_later : (before : ℕ) (due : Due) (said : Said) (text rest : List ℕ) (refusal : Refusal) → is_due due ≡ true → IsFront due said text rest
    → IsRefusedAfter (before + 1) (due_after due said) rest refusal → IsRefusedAfter before due text refusal
refused_later before due said text rest refusal more front refused =
    refused_behind before due (due_after due said) (said ∷ []) text rest refusal (Begins-front due said [] text rest rest more front (Begins-none (due_after due said) rest)) refl refused

-- the same where the next line is told by its number
pub refused_next : (before next : ℕ) (due : Due) (said : Said) (text rest : List ℕ) (refusal : Refusal) → before + 1 ≡ next → is_due due ≡ true → IsFront due said text rest
    → IsRefusedAfter next (due_after due said) rest refusal → IsRefusedAfter before due text refusal
refused_next before next due said text rest refusal is more front refused =
    refused_later before due said text rest refusal more front (subst (λ (n : ℕ). IsRefusedAfter n (due_after due said) rest refusal) (sym is) refused)

-- what is due after some events
pub state_after-happens : (v : Version) (count : ℕ) (events : List Event) → state_after schedule_lines (events_left v count) (map happens events) ≡ events_left v (count - length events)
state_after-happens v count [] = ap (events_left v) (omega arith)
state_after-happens v count (event ∷ events) = state_after-happens v (count - 1) events ∙ ap (events_left v) (omega arith)

-- what is due after how many bits hold a node
pub state_after-bits : (v : Version) (bits : ℕ) → IsBitsOf v bits → state_after schedule_lines (due_after_queue v) (bits_said v bits) ≡ number_due v bits Nodes
state_after-bits One bits first = ap (λ n. number_due One n Nodes) (sym (first refl))
state_after-bits Two bits first = refl

-- what is due after the header
pub state_after-header : (v : Version) (kind : Kind) (bits nodes limit actors events : ℕ)
    → state_after schedule_lines version_due (version v ∷ queue kind ∷ bits_said v bits ++ sizes_said nodes limit actors events) ≡ events_left v
    events
state_after-header One kind bits nodes limit actors events = refl
state_after-header Two kind bits nodes limit actors events = refl

pub state_after-said_in : (h : Header) → state_after schedule_lines version_due (said_in h) ≡ events_left h.version h.events
state_after-said_in h = state_after-header h.version h.kind h.bits h.nodes h.limit h.actors h.events

-- how many lines the header has
length-header : (v : Version) (kind : Kind) (bits nodes limit actors events : ℕ) → length (version v ∷ queue kind ∷ bits_said v bits ++ sizes_said nodes limit actors events) ≡ header_lines v
length-header One kind bits nodes limit actors events = refl
length-header Two kind bits nodes limit actors events = refl

pub length-said_in : (h : Header) → length (said_in h) ≡ header_lines h.version
length-said_in h = length-header h.version h.kind h.bits h.nodes h.limit h.actors h.events

-- and down to the sizes
pub length-bits_said : (v : Version) (bits : ℕ) → 2 + length (bits_said v bits) ≡ header_lines v - 4
length-bits_said One bits = refl
length-bits_said Two bits = refl

-- what is refused behind how many bits hold a node is refused before it
pub refused_behind_bits : (v : Version) (bits : ℕ) (text rest : List ℕ) (refusal : Refusal) → IsBitsOf v bits → Begins schedule_lines (due_after_queue v) (bits_said v bits) text rest
    → IsRefusedAfter (header_lines v - 4) (number_due v bits Nodes) rest refusal → IsRefusedAfter 2 (due_after_queue v) text refusal
refused_behind_bits v bits text rest refusal first begins refused =
    refused_behind 2 (due_after_queue v) (number_due v bits Nodes) (bits_said v bits) text rest refusal begins (state_after-bits v bits first)
    (subst (λ (n : ℕ). IsRefusedAfter n (number_due v bits Nodes) rest refusal) (sym (length-bits_said v bits)) refused)

-- the header is what its parts are
pub Begins-header : (v : Version) (kind : Kind) (bits : ℕ) (sizes : List Said) (text first second third later : List ℕ) → IsFront version_due (version v) text first
    → IsFront (queue_due v) (queue kind) first second → IsBitsOf v bits → Begins schedule_lines (due_after_queue v) (bits_said v bits) second third
    → Begins schedule_lines (number_due v bits Nodes) sizes third later
    → Begins schedule_lines version_due (version v ∷ queue kind ∷ bits_said v bits ++ sizes) text later
Begins-header v kind bits sizes text first second third later says names is begins others =
    Begins-front version_due (version v) (queue kind ∷ bits_said v bits ++ sizes) text first later refl says
    (Begins-front (queue_due v) (queue kind) (bits_said v bits ++ sizes) first second later refl names
    (Begins-append schedule_lines (due_after_queue v) (bits_said v bits) sizes second third later begins
    (subst (λ (d : Due). Begins schedule_lines d sizes third later) (sym (state_after-bits v bits is)) others)))

-- one more event is read
pub Begins-event : (v : Version) (count place : ℕ) (old new : List Event) (text rest later : List ℕ) → Begins schedule_lines (events_left v count) (map happens old) text rest
    → length old ≡ place → place < count → AddsEvent v old new rest later → Begins schedule_lines (events_left v count) (map happens new) text later
Begins-event v count place old new text rest later begins counted some adds =
    let left = count - place in
    let state : state_after schedule_lines (events_left v count) (map happens old) ≡ events_left v left = state_after-happens v count old ∙ ap (λ n. events_left v (count - n)) counted in
    let front = adds.front left in
    rw (adds.added, map-append) (Begins-more schedule_lines (events_left v count) (events_left v left) (map happens old) (happens adds.event) text rest later begins state
    (lt-ltb 0 left (omega arith)) front.may front.range front.spelled)

-- a refusal at the next event is one of the text
pub refused_event_behind : (before : ℕ) (v : Version) (count place : ℕ) (events : List Event) (text rest : List ℕ) (refusal : Refusal)
    → Begins schedule_lines (events_left v count) (map happens events) text rest → length events ≡ place → place < count
    → ((left : ℕ) → 0 < left → IsRefusedAfter (before + place) (events_left v left) rest refusal) → IsRefusedAfter before (events_left v count) text refusal
refused_event_behind before v count place events text rest refusal begins counted some refused =
    let left = count - place in
    let state : state_after schedule_lines (events_left v count) (map happens events) ≡ events_left v left = state_after-happens v count events ∙ ap (λ n. events_left v (count - n)) counted in
    let behind : place ≡ length (map happens events) = sym counted ∙ sym (length-map events happens) in
    refused_behind before (events_left v count) (events_left v left) (map happens events) text rest refusal begins state
    (subst (λ n. IsRefusedAfter (before + n) (events_left v left) rest refusal) behind (refused left (omega arith)))

-- the number of events with one more
pub length-added : (v : Version) (place : ℕ) (old new : List Event) (text rest : List ℕ) → length old ≡ place → AddsEvent v old new text rest → length new ≡ place + 1
length-added v place old new text rest counted adds = omega (arith, ap length adds.added, length-append old (adds.event ∷ []))

-- events in range with one more
pub All-added : (v : Version) (old new : List Event) (text rest : List ℕ) → All (IsEventOf v) old → AddsEvent v old new text rest → All (IsEventOf v) new
All-added v old new text rest all adds =
    let front = adds.front 0 in
    rw adds.added (All-append (IsEventOf v) old (adds.event ∷ []) all (All-cons (IsEventOf v) adds.event [] (front.may, front.range) (All-nil (IsEventOf v))))

-- what is refused of the whole text
pub refused_text : (text : List ℕ) (refusal : Refusal) → IsRefusedAfter 0 version_due text refusal → IsRefusedText text refusal
refused_text text Memory refused = tt
refused_text text (Text at cause) refused = rw (refused.1, zero-add) refused.2
refused_text text _ refused = refused

-- what is refused behind the header is refused of the text
pub refused_behind_header : (h : Header) (text rest : List ℕ) (refusal : Refusal) → Begins schedule_lines version_due (said_in h) text rest
    → IsRefusedAfter (header_lines h.version) (events_left h.version h.events) rest refusal → IsRefusedText text refusal
refused_behind_header h text rest refusal begins refused =
    refused_text text refusal
    (refused_behind 0 version_due (events_left h.version h.events) (said_in h) text rest refusal begins (state_after-said_in h)
    (subst (λ (n : ℕ). IsRefusedAfter n (events_left h.version h.events) rest refusal) (sym (zero-add (length (said_in h)) ∙ length-said_in h)) refused))

-- a header, and all its events
module _ (h : Header) (events : List Event) (text rest later : List ℕ)
    (first : Begins schedule_lines version_due (said_in h) text rest)
    (second : Begins schedule_lines (events_left h.version h.events) (map happens events) rest later) (counted : length events ≡ h.events) where
  both : Begins schedule_lines version_due (said_in h ++ map happens events) text later
  both =
      Begins-append schedule_lines version_due (said_in h) (map happens events) text rest later first
      (subst (λ (d : Due). Begins schedule_lines d (map happens events) rest later) (sym (state_after-said_in h)) second)

  -- bytes that follow are too many
  pub extra_behind : later ≢ [] → IsFirstFault schedule_lines version_due text (header_lines h.version + h.events + 1) Extra
  extra_behind some =
      let state : state_after schedule_lines version_due (said_in h ++ map happens events) ≡ events_left h.version 0 =
      state_after-append schedule_lines version_due (said_in h) (map happens events)
      ∙ ap (λ (d : Due). state_after schedule_lines d (map happens events)) (state_after-said_in h)
      ∙ state_after-happens h.version h.events events ∙ ap (events_left h.version) (omega arith) in
      first_fault-extra schedule_lines version_due (events_left h.version 0) (said_in h ++ map happens events) text later (header_lines h.version + h.events + 1) both state
      (omega (arith, length-append (said_in h) (map happens events), length-said_in h, length-map events happens, counted)) refl some

  -- where nothing follows, the text is the schedule's
  pub whole_text : later ≡ [] → text ≡ schedule_text (record { version = h.version; kind = h.kind; bits = h.bits; nodes = h.nodes; limit = h.limit; actors = h.actors; events = events })
  unfolding schedule_text
  whole_text empty =
      let all : text ≡ lines_of schedule_lines (said_in h ++ map happens events) =
      both.spelled ∙ ap (λ (l : List ℕ). lines_of schedule_lines (said_in h ++ map happens events) ++ l) empty ∙ append-nil (lines_of schedule_lines (said_in h ++ map happens events)) in
      rw counted all
