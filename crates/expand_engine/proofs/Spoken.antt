-- What a line says where it is due, and what is wrong with one that says something else.
use Rattle.std.proofs.Common.{◌≡◌, ◌≢◌, ℕ, List, [], ◌∷◌, All, Bool, true, false, get_or, refl, sym, ap, subst, ◌∙◌, arith, codes}
use Rattle.std.specs.Prelude.{Option, Result, Ok, Err, MatchResult}
use Rattle.std.proofs.lemmas.List.Elements.{All-nil, All-cons}
use Rattle.line_table.specs.Names.{name_of}
use Rattle.line_table.specs.declared.lines.Kind.{Kind}
use Rattle.text_io.specs.Numerals.{numeral}
use Rattle.history.specs.declared.text_causes.TextCause.{TextCause}
use Rattle.history.specs.declared.text_causes.TextCause.TheVariants.{End as EndCause, Form, Range, Extra}
use Rattle.text_io.specs.Lines.{HasNo, spaced, words_of}
use Rattle.text_io.specs.LineReadings.{IsWrong, Reads, ReadsLine}
use Rattle.text_io.proofs.Splits.{HasNo-tested, spaced-words_of, words_of-spaced}
use Rattle.schedule_text.specs.declared.fields.Field.{Field}
use Rattle.schedule_text.specs.declared.fields.Field.TheVariants.{Bits, Nodes, Limit, Actors, Events}
use Rattle.schedule_text.specs.declared.schedules.Version.TheVariants.{Two}
use Rattle.schedule_text.specs.declared.schedules.Event.{Event}
use Rattle.schedule_text.specs.declared.schedules.Event.TheVariants.{Begin, Step, Steps, Give}
use Rattle.schedule_text.specs.Texts.{IsEventInRange, Tells, queue, number, happens, said_words as schedule_words, IsSaidInRange as IsScheduleInRange}
use Rattle.schedule_text.proofs.Spelling.{AreWords-said, words_of-said, spaced-said}
use Rattle.expand_engine.specs.declared.recipes.Due.TheVariants.{Queue as QueueDue, Number as NumberDue, Act as ActDue, Repeated}
use Rattle.expand_engine.specs.declared.recipes.Said.{Said}
use Rattle.expand_engine.specs.declared.recipes.Said.TheVariants.{Nothing, Version, Queue, Number, Happens, Until, Finish, Repeat, End}
use Rattle.expand_engine.specs.Recipes.{HasRoom, IsActInRange, IsActSaid, IsSaidInRange, MayName, MaySay, SaysWhere, SpellsAct, SpellsEvent, said_text, said_words}

-- what is wrong with a line that is to say one thing is wrong with it where it is to say another, of which each stands for one
pub wrong_as : {V W : Type 0} (Says InRange : V → Type 0) (Others Ranges : W → Type 0) (f : V → W) → ((v : V) → Says v → Others (f v))
    → ((w : W) → Others w → (v : V) × Says v × (w ≡ f v)) → ((v : V) → Ranges (f v) → InRange v)
    → (cause : TextCause) → IsWrong Says InRange cause → IsWrong Others Ranges cause
wrong_as Says InRange Others Ranges f there back range EndCause wrong = absurd wrong
wrong_as Says InRange Others Ranges f there back range Form none = λ w is. let v = back w is in none v.0 v.1
wrong_as Says InRange Others Ranges f there back range Range wrong = (f wrong.0, there wrong.0 wrong.1, λ r. wrong.2 (range wrong.0 r))
wrong_as Says InRange Others Ranges f there back range Extra wrong = absurd wrong

-- a line that is to name the queue
pub wrong_queue : (line : List ℕ) → line ≢ [] → (cause : TextCause)
    → IsWrong (λ (kind : Kind). words_of line ≡ schedule_words (queue kind)) (λ kind. IsScheduleInRange 24 (queue kind)) cause
    → IsWrong (SaysWhere QueueDue line) (IsSaidInRange QueueDue) cause
wrong_queue line some cause wrong =
    wrong_as (λ (kind : Kind). words_of line ≡ schedule_words (queue kind)) (λ kind. IsScheduleInRange 24 (queue kind)) (SaysWhere QueueDue line) (IsSaidInRange QueueDue) Queue
    (λ kind is. (tt, spaced-said (queue kind) line is)) back (λ kind r. tt) cause wrong
  where
    back : (said : Said) → SaysWhere QueueDue line said → (kind : Kind) × (words_of line ≡ schedule_words (queue kind)) × (said ≡ Queue kind)
    back (Queue kind) is = (kind, words_of-said (queue kind) line is.1, refl)
    back Nothing is = absurd (some is.1)
    back Version is = absurd is.0
    back (Number field value) is = absurd is.0
    back (Happens event) is = absurd is.0
    back (Until actor at) is = absurd is.0
    back (Finish actor) is = absurd is.0
    back (Repeat times) is = absurd is.0
    back End is = absurd is.0

-- the number that is due may stand where it is
may_same : (field : Field) → MayName field field
may_same Bits = refl
may_same Nodes = refl
may_same Limit = refl
may_same Actors = refl
may_same Events = refl

pub says_field : (bits : ℕ) (field : Field) (value : ℕ) (line : List ℕ) → words_of line ≡ schedule_words (number field value) → SaysWhere (NumberDue bits field) line (Number field value)
says_field bits field value line same = (may_same field, spaced-said (number field value) line same)

-- no other one may, but for the nodes in place of the bits
name_same : (field name : Field) → field ≢ Bits → MayName field name → name ≡ field
name_same Bits name other may = absurd (other refl)
name_same Nodes name other may = sym may
name_same Limit name other may = sym may
name_same Actors name other may = sym may
name_same Events name other may = sym may

-- a line that is to say a number of the header, and says it out of its range
pub wrong_range : (bits : ℕ) (field : Field) (line : List ℕ) (cause : TextCause) → cause ≢ Form
    → IsWrong (λ (value : ℕ). words_of line ≡ schedule_words (number field value)) (λ value. IsScheduleInRange bits (number field value)) cause
    → IsWrong (SaysWhere (NumberDue bits field) line) (IsSaidInRange (NumberDue bits field)) cause
wrong_range bits field line EndCause other wrong = absurd wrong
wrong_range bits field line Form other wrong = absurd (other refl)
wrong_range bits field line Range other wrong = (Number field wrong.0, says_field bits field wrong.0 line wrong.1, wrong.2)
wrong_range bits field line Extra other wrong = absurd wrong

-- and one that says none
pub wrong_form : (bits : ℕ) (field : Field) (line : List ℕ) → line ≢ [] → field ≢ Bits → ((value : ℕ) → words_of line ≢ schedule_words (number field value))
    → (said : Said) → ¬ SaysWhere (NumberDue bits field) line said
wrong_form bits field line some other none (Number name value) is =
    none value (subst (λ (f : Field). words_of line ≡ schedule_words (number f value)) (name_same field name other is.0) (words_of-said (number name value) line is.1))
wrong_form bits field line some other none Nothing is = some is.1
wrong_form bits field line some other none Version is = is.0
wrong_form bits field line some other none (Queue kind) is = is.0
wrong_form bits field line some other none (Happens event) is = is.0
wrong_form bits field line some other none (Until actor at) is = is.0
wrong_form bits field line some other none (Finish actor) is = is.0
wrong_form bits field line some other none (Repeat times) is = is.0
wrong_form bits field line some other none End is = is.0

-- a line that says no bits, where these are due, and says no nodes in their range
pub wrong_nodes : (bits : ℕ) (line : List ℕ) → line ≢ [] → ((value : ℕ) → words_of line ≢ schedule_words (number Bits value)) → (cause : TextCause)
    → IsWrong (λ (value : ℕ). words_of line ≡ schedule_words (number Nodes value)) (λ value. IsScheduleInRange bits (number Nodes value)) cause
    → IsWrong (SaysWhere (NumberDue bits Bits) line) (IsSaidInRange (NumberDue bits Bits)) cause
wrong_nodes bits line some none cause wrong =
    wrong_as (λ (value : ℕ). words_of line ≡ schedule_words (number Nodes value)) (λ value. IsScheduleInRange bits (number Nodes value))
    (SaysWhere (NumberDue bits Bits) line) (IsSaidInRange (NumberDue bits Bits)) (Number Nodes)
    (λ value is. (tt, spaced-said (number Nodes value) line is)) back (λ value r. r) cause wrong
  where
    back : (said : Said) → SaysWhere (NumberDue bits Bits) line said → (value : ℕ) × (words_of line ≡ schedule_words (number Nodes value)) × (said ≡ Number Nodes value)
    back (Number Nodes value) is = (value, words_of-said (number Nodes value) line is.1, refl)
    back (Number Bits value) is = absurd (none value (words_of-said (number Bits value) line is.1))
    back (Number Limit value) is = absurd cc
    back (Number Actors value) is = absurd cc
    back (Number Events value) is = absurd cc
    back Nothing is = absurd (some is.1)
    back Version is = absurd is.0
    back (Queue kind) is = absurd is.0
    back (Happens event) is = absurd is.0
    back (Until actor at) is = absurd is.0
    back (Finish actor) is = absurd is.0
    back (Repeat times) is = absurd is.0
    back End is = absurd is.0

-- what is said by its words, and by its bytes
pub text_of_words : (line : List ℕ) (said : Said) → words_of line ≡ said_words said → line ≡ said_text said
text_of_words line said same = sym (spaced-words_of line) ∙ ap spaced same

-- an act, a repeat or an end may be said where no repeat is open
pub may_outside : (acts : ℕ) (said : Said) → IsActSaid said → MaySay (ActDue acts) said
may_outside acts Nothing is = tt
may_outside acts Version is = is
may_outside acts (Queue kind) is = is
may_outside acts (Number field value) is = is
may_outside acts (Happens event) is = is
may_outside acts (Until actor line) is = is
may_outside acts (Finish actor) is = is
may_outside acts (Repeat times) is = is
may_outside acts End is = is

-- words without spaces are those of their line
words_back : (line word : List ℕ) (words : List (List ℕ)) → All (HasNo 32) (word ∷ words) → line ≡ spaced (word ∷ words) → words_of line ≡ word ∷ words
words_back line word words none is = ap words_of is ∙ words_of-spaced word words none

-- an act, a repeat or an end has its words
pub words_of_text : (line : List ℕ) (said : Said) → IsActSaid said → line ≡ said_text said → words_of line ≡ said_words said
words_of_text line (Happens event) act is = words_of-said (happens event) line is
words_of_text line (Until actor at) act is =
    let step = AreWords-said (happens (Step actor at)) in
    words_back line (codes "until") (numeral actor ∷ name_of at ∷ [])
    (All-cons (HasNo 32) (codes "until") (numeral actor ∷ name_of at ∷ []) (HasNo-tested 32 (codes "until") refl)
    (All-cons (HasNo 32) (numeral actor) (name_of at ∷ []) step.1.0.spaceless (All-cons (HasNo 32) (name_of at) [] step.1.1.0.spaceless (All-nil (HasNo 32))))) is
words_of_text line (Finish actor) act is =
    let give = AreWords-said (happens (Give actor)) in
    words_back line (codes "finish") (numeral actor ∷ [])
    (All-cons (HasNo 32) (codes "finish") (numeral actor ∷ []) (HasNo-tested 32 (codes "finish") refl)
    (All-cons (HasNo 32) (numeral actor) [] give.1.0.spaceless (All-nil (HasNo 32)))) is
words_of_text line (Repeat times) act is =
    let give = AreWords-said (happens (Give times)) in
    words_back line (codes "repeat") (numeral times ∷ [])
    (All-cons (HasNo 32) (codes "repeat") (numeral times ∷ []) (HasNo-tested 32 (codes "repeat") refl)
    (All-cons (HasNo 32) (numeral times) [] give.1.0.spaceless (All-nil (HasNo 32)))) is
words_of_text line End act is =
    words_back line (codes "end") [] (All-cons (HasNo 32) (codes "end") [] (HasNo-tested 32 (codes "end") refl) (All-nil (HasNo 32))) is
words_of_text line _ act is = absurd act

-- what may be said where no repeat is open is an act, a repeat or an end, where something is said
act_outside : (acts : ℕ) (line : List ℕ) (said : Said) → line ≢ [] → SaysWhere (ActDue acts) line said → IsActSaid said
act_outside acts line Nothing some is = absurd (some is.1)
act_outside acts line Version some is = is.0
act_outside acts line (Queue kind) some is = is.0
act_outside acts line (Number field value) some is = is.0
act_outside acts line (Happens event) some is = is.0
act_outside acts line (Until actor at) some is = is.0
act_outside acts line (Finish actor) some is = is.0
act_outside acts line (Repeat times) some is = is.0
act_outside acts line End some is = is.0

-- and so in a repeat
act_inside : (acts times : ℕ) (line : List ℕ) (said : Said) → line ≢ [] → SaysWhere (Repeated acts times) line said → IsActSaid said
act_inside acts times line Nothing some is = absurd (some is.1)
act_inside acts times line Version some is = is.0
act_inside acts times line (Queue kind) some is = is.0
act_inside acts times line (Number field value) some is = is.0
act_inside acts times line (Happens event) some is = is.0
act_inside acts times line (Until actor at) some is = is.0
act_inside acts times line (Finish actor) some is = is.0
act_inside acts times line (Repeat again) some is = absurd is.0
act_inside acts times line End some is = is.0

-- an act or an end may be said in a repeat
pub may_inside : (acts times : ℕ) (said : Said) → IsActSaid said → ((again : ℕ) → said ≢ Repeat again) → MaySay (Repeated acts times) said
may_inside acts times Nothing is other = tt
may_inside acts times Version is other = is
may_inside acts times (Queue kind) is other = is
may_inside acts times (Number field value) is other = is
may_inside acts times (Happens event) is other = is
may_inside acts times (Until actor line) is other = is
may_inside acts times (Finish actor) is other = is
may_inside acts times (Repeat again) is other = other again refl
may_inside acts times End is other = is

-- a line that is to say an act, where it says none
pub wrong_outside : (acts : ℕ) (line : List ℕ) → line ≢ [] → (cause : TextCause) → IsWrong (λ (said : Said). IsActSaid said × (words_of line ≡ said_words said)) IsActInRange cause
    → IsWrong (SaysWhere (ActDue acts) line) (IsSaidInRange (ActDue acts)) cause
wrong_outside acts line some cause wrong =
    wrong_as (λ (said : Said). IsActSaid said × (words_of line ≡ said_words said)) IsActInRange (SaysWhere (ActDue acts) line) (IsSaidInRange (ActDue acts)) (λ said. said)
    (λ said is. (may_outside acts said is.0, text_of_words line said is.1))
    (λ said is. let act = act_outside acts line said some is in (said, (act, words_of_text line said act is.1), refl)) (λ said r. r.0) cause wrong

-- a line that has room for its act, or not
pub room_outside : (acts : ℕ) (line : List ℕ) (said : Said) (result : Result Said TextCause) → IsActSaid said → words_of line ≡ said_words said → IsActInRange said
    → MatchResult result (λ kept. (kept ≡ said) × HasRoom acts 1 said) (λ cause. (cause ≡ Range) × ¬ HasRoom acts 1 said)
    → ReadsLine (SaysWhere (ActDue acts) line) (IsSaidInRange (ActDue acts)) result
room_outside acts line said (Ok kept) act same range told = rw told.0 ((may_outside acts said act, text_of_words line said same), (range, told.1))
room_outside acts line said (Err cause) act same range told = rw told.0 (said, (may_outside acts said act, text_of_words line said same), λ r. told.1 r.1)

pub room_inside : (acts times : ℕ) (line : List ℕ) (said : Said) (result : Result Said TextCause) → IsActSaid said
    → ((again : ℕ) → said ≢ Repeat again) → words_of line ≡ said_words said → IsActInRange said
    → MatchResult result (λ kept. (kept ≡ said) × HasRoom acts times said) (λ cause. (cause ≡ Range) × ¬ HasRoom acts times said)
    → ReadsLine (SaysWhere (Repeated acts times) line) (IsSaidInRange (Repeated acts times)) result
room_inside acts times line said (Ok kept) act other same range told = rw told.0 ((may_inside acts times said act other, text_of_words line said same), (range, told.1))
room_inside acts times line said (Err cause) act other same range told = rw told.0 (said, (may_inside acts times said act other, text_of_words line said same), λ r. told.1 r.1)

-- what a line says that begins with none of these words is an event
other_words : (name : List ℕ) (words : List (List ℕ)) → name ≢ codes "until" → name ≢ codes "finish" → name ≢ codes "repeat" → name ≢ codes "end" → (said : Said) → SpellsAct name words said
    → (event : Event) × (said ≡ Happens event)
other_words name words u f r e (Happens event) is = (event, refl)
other_words name words u f r e (Until actor line) is = absurd (u cc)
other_words name words u f r e (Finish actor) is = absurd (f cc)
other_words name words u f r e (Repeat times) is = absurd (r cc)
other_words name words u f r e End is = absurd (e cc)
other_words name words u f r e _ is = absurd is.0

-- so what is read of the line as an event is read of its words
pub reads_event : (line name : List ℕ) (words : List (List ℕ)) → words_of line ≡ name ∷ words → name ≢ codes "until" → name ≢ codes "finish" → name ≢ codes "repeat" → name ≢ codes "end"
    → (result : Result (Option Said) TextCause) → Reads (SpellsEvent (words_of line)) IsActInRange result → Reads (SpellsAct name words) IsActInRange result
reads_event line name words split u f r e (Ok kept) told =
    let event = told.1 in
    (told.0, (subst IsActSaid (sym event.1) tt, sym split ∙ event.2 ∙ ap said_words (sym event.1)), told.2)
reads_event line name words split u f r e (Err cause) told =
    (told.0, λ said is. let event = other_words name words u f r e said is in told.1 said (event.0, event.1, split ∙ is.1 ∙ ap said_words event.1))

-- the first byte of the first word
abbrev initial : List (List ℕ) → ℕ
initial words = get_or (get_or words 0 []) 0 0

-- whether a line opens a repeat
abbrev is_repeat : Said → Bool
is_repeat (Repeat times) = true
is_repeat _ = false

-- no act or end begins as a repeat does
repeat_words : (rest : List (List ℕ)) (said : Said) → IsActSaid said → said_words said ≡ codes "repeat" ∷ rest → is_repeat said ≡ false → ⊥
repeat_words rest (Happens (Begin actor op)) act same not = let first : ◌≡◌ {A = ℕ} 98 114 = ap initial same in omega (arith, first)
repeat_words rest (Happens (Step actor line)) act same not = let first : ◌≡◌ {A = ℕ} 115 114 = ap initial same in omega (arith, first)
repeat_words rest (Happens (Steps actor count)) act same not = let first : ◌≡◌ {A = ℕ} 115 114 = ap initial same in omega (arith, first)
repeat_words rest (Happens (Give actor)) act same not = let first : ◌≡◌ {A = ℕ} 103 114 = ap initial same in omega (arith, first)
repeat_words rest (Until actor line) act same not = let first : ◌≡◌ {A = ℕ} 117 114 = ap initial same in omega (arith, first)
repeat_words rest (Finish actor) act same not = let first : ◌≡◌ {A = ℕ} 102 114 = ap initial same in omega (arith, first)
repeat_words rest (Repeat again) act same not = absurd cc
repeat_words rest End act same not = let first : ◌≡◌ {A = ℕ} 101 114 = ap initial same in omega (arith, first)
repeat_words rest _ act same not = absurd act

not_inside : (acts times : ℕ) (line : List ℕ) (said : Said) → SaysWhere (Repeated acts times) line said → is_repeat said ≡ false
not_inside acts times line (Repeat again) is = absurd is.0
not_inside acts times line _ is = refl

-- a line that begins as a repeat does says nothing that may be said in a repeat
pub repeat_inside : (acts times : ℕ) (line : List ℕ) (rest : List (List ℕ)) → line ≢ [] → words_of line ≡ codes "repeat" ∷ rest
    → (said : Said) → ¬ SaysWhere (Repeated acts times) line said
repeat_inside acts times line rest some same said says =
    let act = act_inside acts times line said some says in
    repeat_words rest said act (sym (words_of_text line said act says.1) ∙ same) (not_inside acts times line said says)

-- what is said by other words opens no repeat
pub no_repeat : (line : List ℕ) (said : Said) → words_of line ≡ said_words said → ((rest : List (List ℕ)) → words_of line ≢ codes "repeat" ∷ rest) → (again : ℕ) → said ≢ Repeat again
no_repeat line said same none again is = none (numeral again ∷ []) (same ∙ ap said_words is)

-- a line that is to say an act in a repeat, where it says none
pub wrong_inside : (acts times : ℕ) (line : List ℕ) → line ≢ [] → ((rest : List (List ℕ)) → words_of line ≢ codes "repeat" ∷ rest) → (cause : TextCause)
    → IsWrong (λ (said : Said). IsActSaid said × (words_of line ≡ said_words said)) IsActInRange cause → IsWrong (SaysWhere (Repeated acts times) line) (IsSaidInRange (Repeated acts times)) cause
wrong_inside acts times line some none EndCause wrong = absurd wrong
wrong_inside acts times line some none Form nothing = λ said is. let act = act_inside acts times line said some is in nothing said (act, words_of_text line said act is.1)
wrong_inside acts times line some none Range wrong =
    let said = wrong.0 in
    let is = wrong.1 in
    (said, (may_inside acts times said is.0 (no_repeat line said is.1 none), text_of_words line said is.1), λ r. wrong.2 r.0)
wrong_inside acts times line some none Extra wrong = absurd wrong

-- an event out of its range
pub happens_range : (line : List ℕ) (cause : TextCause) → cause ≡ Range → IsWrong (Tells Two (words_of line)) IsEventInRange cause
    → (said : Said) × SpellsEvent (words_of line) said × ¬ IsActInRange said
happens_range line cause is wrong = by (subst (λ (cause : TextCause). IsWrong (Tells Two (words_of line)) IsEventInRange cause) is wrong)
  where
    by : (event : Event) × Tells Two (words_of line) event × ¬ IsEventInRange event → (said : Said) × SpellsEvent (words_of line) said × ¬ IsActInRange said
    by w = (Happens w.0, (w.0, refl, w.1.1), w.2)
