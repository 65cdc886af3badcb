-- Every text is that of a schedule in range or has a first faulty line: none is neither.
use Rattle.std.proofs.Common.{◌≡◌, ◌≢◌, ℕ, zero, suc, ◌-◌, ◌≤◌, List, [], ◌∷◌, ◌++◌, length, map, All, true, false, refl, sym, ap, subst, ◌∙◌, arith, append_assoc}
use Rattle.std.proofs.lemmas.Bool.{lt-ltb}
use Rattle.std.proofs.lemmas.List.{append-nil}
use Rattle.std.proofs.lemmas.List.Elements.{All-nil, All-cons}
use Rattle.line_table.specs.declared.lines.Kind.{Kind}
use Rattle.history.specs.declared.text_causes.TextCause.{TextCause}
use Rattle.text_io.specs.Grammars.{AreDue, state_after, lines_of, IsText, IsFirstFault}
use Rattle.text_io.specs.Numerals.{IsWithin}
use Rattle.text_io.proofs.Total.{not_neither}
use Rattle.schedule_text.specs.declared.fields.Field.{Field}
use Rattle.schedule_text.specs.declared.fields.Field.TheVariants.{Bits, Nodes, Limit, Actors, Events}
use Rattle.schedule_text.specs.declared.schedules.Version.{Version}
use Rattle.schedule_text.specs.declared.schedules.Version.TheVariants.{One, Two}
use Rattle.schedule_text.specs.declared.schedules.Event.{Event}
use Rattle.schedule_text.specs.Schedules.{Schedule, IsBitsOf}
use Rattle.counted_ref.specs.Ref.{IsSplit}
use Rattle.schedule_text.specs.Texts.{Said, version, queue, number, happens, Due, version_due, queue_due, number_due, events_left, bits_of, is_due}
use Rattle.schedule_text.specs.Texts.{due_after, due_after_queue, due_after_number, version_in, bits_said, sizes_said, least, greatest, said_by}
use Rattle.schedule_text.specs.Texts.{schedule_lines, schedule_text, IsEventOf, IsSaidInRange, IsInRange, MaySay}
use Rattle.schedule_text.proofs.StreamedLines.{split_24}

-- the next line of lines of which one is due
record Next (s : Due) (rs : List Said) : Type 0 where
  says : Said
  later : List Said
  split : rs ≡ says ∷ later
  may : MaySay s says
  range : IsSaidInRange (bits_of s) says
  due : AreDue schedule_lines (due_after s says) later
  done : is_due (state_after schedule_lines (due_after s says) later) ≡ false

next : (s : Due) (rs : List Said) → is_due s ≡ true → AreDue schedule_lines s rs → is_due (state_after schedule_lines s rs) ≡ false → Next s rs
next s [] more due done = let both : true ≡ false = sym more ∙ done in absurd cc
next s (r ∷ rs) more due done = record { says = r; later = rs; split = refl; may = due.1; range = due.2; due = due.3; done = done }

-- the first line says a version
version_said : (r : Said) → MaySay version_due r → (v : Version) × (r ≡ version v)
version_said (version v) may = (v, refl)
version_said (queue kind) may = absurd may
version_said (number field value) may = absurd may
version_said (happens event) may = absurd may

-- the second one a queue
queue_said : (v : Version) (r : Said) → MaySay (queue_due v) r → (kind : Kind) × (r ≡ queue kind)
queue_said v (version w) may = absurd may
queue_said v (queue kind) may = (kind, refl)
queue_said v (number field value) may = absurd may
queue_said v (happens event) may = absurd may

-- what a line says where a number of the header is due
record IsNumber (bits : ℕ) (field : Field) (r : Said) : Type 0 where
  value : ℕ
  says : r ≡ number field value
  range : IsWithin (least field) (greatest bits field) value

number_said : (v : Version) (bits : ℕ) (field : Field) (r : Said) → MaySay (number_due v bits field) r → IsSaidInRange bits r → IsNumber bits field r
number_said v bits field (version w) may range = absurd may
number_said v bits field (queue kind) may range = absurd may
number_said v bits field (number other value) may range = record {
  value = value;
  says = ap (λ (f : Field). number f value) (sym may);
  range = subst (λ (f : Field). IsWithin (least f) (greatest bits f) value) (sym may) range;
}
number_said v bits field (happens event) may range = absurd may

-- the next line where a number of the header is due
record NextNumber (v : Version) (bits : ℕ) (field : Field) (rs : List Said) : Type 0 where
  value : ℕ
  later : List Said
  split : rs ≡ number field value ∷ later
  range : IsWithin (least field) (greatest bits field) value
  due : AreDue schedule_lines (due_after_number v bits field (number field value)) later
  done : is_due (state_after schedule_lines (due_after_number v bits field (number field value)) later) ≡ false

next_number : (v : Version) (bits : ℕ) (field : Field) (rs : List Said) → AreDue schedule_lines (number_due v bits field) rs
    → is_due (state_after schedule_lines (number_due v bits field) rs) ≡ false → NextNumber v bits field rs
next_number v bits field rs due done =
    let n = next (number_due v bits field) rs refl due done in
    let is = number_said v bits field n.says n.may n.range in
    record {
      value = is.value;
      later = n.later;
      split = n.split ∙ ap (λ (r : Said). r ∷ n.later) is.says;
      range = is.range;
      due = subst (λ (r : Said). AreDue schedule_lines (due_after_number v bits field r) n.later) is.says n.due;
      done = subst (λ (r : Said). is_due (state_after schedule_lines (due_after_number v bits field r) n.later) ≡ false) is.says n.done;
    }

-- how many bits hold a node, and the lines behind the one that says it
record NextBits (v : Version) (rs : List Said) : Type 0 where
  bits : ℕ
  later : List Said
  says : rs ≡ bits_said v bits ++ later
  split : IsSplit bits
  first : IsBitsOf v bits
  due : AreDue schedule_lines (number_due v bits Nodes) later
  done : is_due (state_after schedule_lines (number_due v bits Nodes) later) ≡ false

next_bits : (v : Version) (rs : List Said) → AreDue schedule_lines (due_after_queue v) rs → is_due (state_after schedule_lines (due_after_queue v) rs) ≡ false → NextBits v rs
next_bits One rs due done = record { bits = 24; later = rs; says = refl; split = split_24; first = λ (is : One ≡ One). refl; due = due; done = done }
next_bits Two rs due done =
    let n = next_number Two 24 Bits rs due done in
    record {
      bits = n.value;
      later = n.later;
      says = n.split;
      split = record { least = n.range.0; most = n.range.1 };
      first = λ (is : Two ≡ One). absurd cc;
      due = n.due;
      done = n.done;
    }

-- the lines after the header are those of events, as many as are due
record AreEvents (v : Version) (left : ℕ) (rs : List Said) : Type 0 where
  events : List Event
  says : rs ≡ map happens events
  counted : length events ≡ left
  each : All (IsEventOf v) events

events_said : (v : Version) (rs : List Said) (left : ℕ) → AreDue schedule_lines (events_left v left) rs → is_due (state_after schedule_lines (events_left v left) rs) ≡ false → AreEvents v left rs
events_said v [] zero due done = record { events = []; says = refl; counted = refl; each = All-nil (IsEventOf v) }
events_said v [] (suc left) due done = let both : true ≡ false = sym (lt-ltb 0 (suc left) (omega arith)) ∙ done in absurd cc
events_said v (version w ∷ rs) left due done = absurd due.1
events_said v (queue kind ∷ rs) left due done = absurd due.1
events_said v (number field value ∷ rs) left due done = absurd due.1
events_said v (happens event ∷ rs) zero due done = absurd (let e : false ≡ true = due.0 in cc)
events_said v (happens event ∷ rs) (suc left) due done =
    let less : suc left - 1 ≡ left = omega arith in
    let later = events_said v rs left (subst (λ n. AreDue schedule_lines (events_left v n) rs) less due.3)
    (subst (λ n. is_due (state_after schedule_lines (events_left v n) rs) ≡ false) less done) in
    record {
      events = event ∷ later.events;
      says = ap (λ (rs : List Said). happens event ∷ rs) later.says;
      counted = ap suc later.counted;
      each = All-cons (IsEventOf v) event later.events (due.1, due.2) later.each;
    }

-- the sizes, and the events behind them
record AreSizes (v : Version) (bits : ℕ) (rs : List Said) : Type 0 where
  nodes : ℕ
  limit : ℕ
  actors : ℕ
  events : List Event
  says : rs ≡ sizes_said nodes limit actors (length events) ++ map happens events
  nodes_in : IsWithin (least Nodes) (greatest bits Nodes) nodes
  limit_in : IsWithin (least Limit) (greatest bits Limit) limit
  actors_in : IsWithin (least Actors) (greatest bits Actors) actors
  few : length events ≤ 1000000
  each : All (IsEventOf v) events

sizes_as : (nodes limit actors count : ℕ) (events : List Event) (rs n l a c : List Said) → rs ≡ number Nodes nodes ∷ n → n ≡ number Limit limit ∷ l → l ≡ number Actors actors ∷ a
    → a ≡ number Events count ∷ c → c ≡ map happens events → length events ≡ count → rs ≡ sizes_said nodes limit actors (length events) ++ map happens events
sizes_as nodes limit actors count events rs n l a c has_nodes has_limit has_actors has_events happen counted =
    let last : a ≡ number Events (length events) ∷ map happens events = has_events ∙ (λ i. number Events (sym counted i) ∷ happen i) in
    let some : l ≡ number Actors actors ∷ number Events (length events) ∷ map happens events = has_actors ∙ ap (λ (r : List Said). number Actors actors ∷ r) last in
    has_nodes ∙ ap (λ (r : List Said). number Nodes nodes ∷ r) (has_limit ∙ ap (λ (r : List Said). number Limit limit ∷ r) some)

are_sizes : (v : Version) (bits : ℕ) (rs : List Said) → AreDue schedule_lines (number_due v bits Nodes) rs → is_due (state_after schedule_lines (number_due v bits Nodes) rs) ≡ false
    → AreSizes v bits rs
are_sizes v bits rs due done =
    let nodes = next_number v bits Nodes rs due done in
    let limit = next_number v bits Limit nodes.later nodes.due nodes.done in
    let actors = next_number v bits Actors limit.later limit.due limit.done in
    let count = next_number v bits Events actors.later actors.due actors.done in
    let e = events_said v count.later count.value count.due count.done in
    record {
      nodes = nodes.value;
      limit = limit.value;
      actors = actors.value;
      events = e.events;
      says = sizes_as nodes.value limit.value actors.value count.value e.events rs nodes.later limit.later actors.later count.later nodes.split limit.split actors.split count.split e.says e.counted;
      nodes_in = nodes.range;
      limit_in = limit.range;
      actors_in = actors.range;
      few = subst (λ (n : ℕ). n ≤ 1000000) (sym e.counted) count.range.1;
      each = e.each;
    }

-- the lines behind the version are those of a schedule in range
record AreRest (v : Version) (rs : List Said) : Type 0 where
  schedule : Schedule
  range : IsInRange schedule
  says : version v ∷ rs ≡ said_by schedule

rest_as : (v : Version) (kind : Kind) (bits : ℕ) (sizes later rs second third : List Said) → rs ≡ queue kind ∷ second → second ≡ bits_said v bits ++ third → third ≡ sizes ++ later
    → version v ∷ rs ≡ (version v ∷ queue kind ∷ bits_said v bits ++ sizes) ++ later
rest_as v kind bits sizes later rs second third names are behind =
    let tail : second ≡ (bits_said v bits ++ sizes) ++ later =
    are ∙ ap (λ (r : List Said). bits_said v bits ++ r) behind ∙ sym (append_assoc (bits_said v bits) sizes later) in
    ap (λ (r : List Said). version v ∷ r) (names ∙ ap (λ (r : List Said). queue kind ∷ r) tail)

are_rest : (v : Version) (rs : List Said) → AreDue schedule_lines (queue_due v) rs → is_due (state_after schedule_lines (queue_due v) rs) ≡ false → AreRest v rs
are_rest v rs due done =
    let second = next (queue_due v) rs refl due done in
    let kind = queue_said v second.says second.may in
    let b = next_bits v second.later second.due second.done in
    let z = are_sizes v b.bits b.later b.due b.done in
    let named : rs ≡ queue kind.0 ∷ second.later = second.split ∙ ap (λ (r : Said). r ∷ second.later) kind.1 in
    record {
      schedule = record { version = v; kind = kind.0; bits = b.bits; nodes = z.nodes; limit = z.limit; actors = z.actors; events = z.events };
      range = record { split = b.split; first = b.first; nodes = z.nodes_in; limit = z.limit_in; actors = z.actors_in; events = z.few; each = z.each };
      says = rest_as v kind.0 b.bits (sizes_said z.nodes z.limit z.actors (length z.events)) (map happens z.events) rs second.later b.later named b.says z.says;
    }

-- a text in the grammar is the text of a schedule in range
schedule_said : (rs : List Said) (text : List ℕ) → IsText schedule_lines version_due rs text → (s : Schedule) × IsInRange s × (text ≡ schedule_text s)
unfolding schedule_text
schedule_said rs text is =
    let first = next version_due rs refl is.lines.due is.done in
    let v = version_said first.says first.may in
    let due : AreDue schedule_lines (queue_due v.0) first.later =
    subst (λ (r : Said). AreDue schedule_lines (queue_due (version_in r)) first.later) v.1 first.due in
    let done : is_due (state_after schedule_lines (queue_due v.0) first.later) ≡ false =
    subst (λ (r : Said). is_due (state_after schedule_lines (queue_due (version_in r)) first.later) ≡ false) v.1 first.done in
    let rest = are_rest v.0 first.later due done in
    let lines : rs ≡ said_by rest.schedule = first.split ∙ ap (λ (r : Said). r ∷ first.later) v.1 ∙ rest.says in (
      rest.schedule,
      rest.range,
      is.lines.spelled ∙ append-nil (lines_of schedule_lines rs) ∙ ap (λ (rs : List Said). lines_of schedule_lines rs) lines,
    )

-- no text is neither a schedule's nor faulty
pub not_neither_of_schedule : (text : List ℕ) → ((s : Schedule) → IsInRange s → text ≢ schedule_text s)
    → ((at : ℕ) (cause : TextCause) → ¬ IsFirstFault schedule_lines version_due text at cause) → ⊥
not_neither_of_schedule text none = not_neither schedule_lines version_due text (λ rs is. let found = schedule_said rs text is in none found.0 found.1 found.2)
