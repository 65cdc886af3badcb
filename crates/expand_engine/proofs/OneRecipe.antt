-- One recipe a text, no fault in it, and one first fault of any other text.
use Rattle.std.proofs.Common.{◌≡◌, ◌≢◌, ℕ, List, [], map, false, get_or, refl, sym, ap, ap₂, ◌∙◌, arith}
use Rattle.line_table.proofs.Names.{name_of-differs}
use Rattle.history.specs.declared.text_causes.TextCause.{TextCause}
use Rattle.text_io.specs.Grammars.{IsFirstFault, IsSoundGrammar}
use Rattle.text_io.proofs.Numerals.{numeral_injective}
use Rattle.text_io.proofs.Single.{no_fault, one_fault, one_list}
use Rattle.text_io.proofs.Total.{not_neither}
use Rattle.schedule_text.specs.declared.fields.Field.{Field}
use Rattle.schedule_text.specs.declared.fields.Field.TheVariants.{Bits, Nodes, Limit, Actors, Events}
use Rattle.schedule_text.specs.declared.schedules.Event.{Event}
use Rattle.schedule_text.specs.declared.schedules.Event.TheVariants.{Begin, Step, Steps, Give}
use Rattle.schedule_text.specs.Texts.{event_words, happens, number, queue}
use Rattle.schedule_text.proofs.Distinct.{said_same}
use Rattle.schedule_text.proofs.Spelling.{words_of-said}
use Rattle.expand_engine.specs.declared.recipes.Due.{Due}
use Rattle.expand_engine.specs.declared.recipes.Due.TheVariants.{Version as VersionDue, Queue as QueueDue, Number as NumberDue, Act as ActDue, Repeated, Nothing as NothingDue}
use Rattle.expand_engine.specs.declared.recipes.Said.{Said}
use Rattle.expand_engine.specs.declared.recipes.Said.TheVariants.{Nothing, Version, Queue, Number, Happens, Until, Finish, Repeat, End}
use Rattle.expand_engine.specs.declared.recipes.Sizes.{Sizes}
use Rattle.expand_engine.specs.Recipes.{IsActSaid, IsRecipe, MaySay, MayStand, RecipeLine, no_sizes, recipe_lines, said_text, said_words, says_nothing, sizes_from, spoken}
use Rattle.expand_engine.proofs.SoFar.{said_of}
use Rattle.expand_engine.proofs.Spoken.{words_of_text}

-- the first byte of a text
abbrev first_byte : List ℕ → ℕ
first_byte text = get_or text 0 0

-- the word of a place in a list of words
abbrev word_at : ℕ → List (List ℕ) → List ℕ
word_at i words = get_or words i []

-- the first byte of the first word
abbrev initial : List (List ℕ) → ℕ
initial words = first_byte (word_at 0 words)

-- what isn't empty has bytes
some_number : (field : Field) (value : ℕ) → said_text (Number field value) ≢ []
some_number Bits value is = let first : ◌≡◌ {A = ℕ} 98 0 = ap first_byte is in omega (arith, first)
some_number Nodes value is = let first : ◌≡◌ {A = ℕ} 110 0 = ap first_byte is in omega (arith, first)
some_number Limit value is = let first : ◌≡◌ {A = ℕ} 108 0 = ap first_byte is in omega (arith, first)
some_number Actors value is = let first : ◌≡◌ {A = ℕ} 97 0 = ap first_byte is in omega (arith, first)
some_number Events value is = let first : ◌≡◌ {A = ℕ} 101 0 = ap first_byte is in omega (arith, first)

some_event : (event : Event) → said_text (Happens event) ≢ []
some_event (Begin actor op) is = let first : ◌≡◌ {A = ℕ} 98 0 = ap first_byte is in omega (arith, first)
some_event (Step actor line) is = let first : ◌≡◌ {A = ℕ} 115 0 = ap first_byte is in omega (arith, first)
some_event (Steps actor count) is = let first : ◌≡◌ {A = ℕ} 115 0 = ap first_byte is in omega (arith, first)
some_event (Give actor) is = let first : ◌≡◌ {A = ℕ} 103 0 = ap first_byte is in omega (arith, first)

some_text : (said : Said) → says_nothing said ≡ false → said_text said ≢ []
some_text Nothing some is = absurd cc
some_text Version some is = let first : ◌≡◌ {A = ℕ} 109 0 = ap first_byte is in omega (arith, first)
some_text (Queue kind) some is = let first : ◌≡◌ {A = ℕ} 113 0 = ap first_byte is in omega (arith, first)
some_text (Number field value) some is = some_number field value is
some_text (Happens event) some is = some_event event is
some_text (Until actor line) some is = let first : ◌≡◌ {A = ℕ} 117 0 = ap first_byte is in omega (arith, first)
some_text (Finish actor) some is = let first : ◌≡◌ {A = ℕ} 102 0 = ap first_byte is in omega (arith, first)
some_text (Repeat times) some is = let first : ◌≡◌ {A = ℕ} 114 0 = ap first_byte is in omega (arith, first)
some_text End some is = let first : ◌≡◌ {A = ℕ} 101 0 = ap first_byte is in omega (arith, first)

-- lines with one text both say nothing, or both say something
one_by : (a b : Said) → (says_nothing a ≡ false → says_nothing b ≡ false → a ≡ b) → said_text a ≡ said_text b → a ≡ b
one_by Nothing Nothing one same = refl
one_by Nothing b one same = absurd (some_text b refl (sym same))
one_by a Nothing one same = absurd (some_text a refl same)
one_by a b one same = one refl refl

-- the first byte of an event is none of those of other acts
not_event : (event : Event) (byte : ℕ) → byte ≢ 98 → byte ≢ 115 → byte ≢ 103 → initial (event_words event) ≡ byte → ⊥
not_event (Begin actor op) byte b s g is = b (sym is)
not_event (Step actor line) byte b s g is = s (sym is)
not_event (Steps actor count) byte b s g is = s (sym is)
not_event (Give actor) byte b s g is = g (sym is)

-- until, finish, repeat and end begin so
not_until : (event : Event) → initial (event_words event) ≡ 117 → ⊥
not_until event is = not_event event 117 (λ h. omega (arith, h)) (λ h. omega (arith, h)) (λ h. omega (arith, h)) is

not_finish : (event : Event) → initial (event_words event) ≡ 102 → ⊥
not_finish event is = not_event event 102 (λ h. omega (arith, h)) (λ h. omega (arith, h)) (λ h. omega (arith, h)) is

not_repeat : (event : Event) → initial (event_words event) ≡ 114 → ⊥
not_repeat event is = not_event event 114 (λ h. omega (arith, h)) (λ h. omega (arith, h)) (λ h. omega (arith, h)) is

not_end : (event : Event) → initial (event_words event) ≡ 101 → ⊥
not_end event is = not_event event 101 (λ h. omega (arith, h)) (λ h. omega (arith, h)) (λ h. omega (arith, h)) is

-- acts, repeats and ends with the same words are the same
same_events : (d e : Event) → event_words d ≡ event_words e → d ≡ e
same_events d e same = let one : happens d ≡ happens e = said_same (happens d) (happens e) same in cc

same_acts : (a b : Said) → IsActSaid a → IsActSaid b → said_words a ≡ said_words b → a ≡ b
same_acts (Happens d) (Happens e) act other same = ap Happens (same_events d e same)
same_acts (Happens d) (Until actor line) act other same = absurd (not_until d (ap initial same))
same_acts (Happens d) (Finish actor) act other same = absurd (not_finish d (ap initial same))
same_acts (Happens d) (Repeat times) act other same = absurd (not_repeat d (ap initial same))
same_acts (Happens d) End act other same = absurd (not_end d (ap initial same))
same_acts (Until a l) (Happens e) act other same = absurd (not_until e (ap initial (sym same)))
same_acts (Until a l) (Until b m) act other same = ap₂ Until (numeral_injective a b (ap (word_at 1) same)) (name_of-differs l m (ap (word_at 2) same))
same_acts (Until a l) (Finish b) act other same = let first : ◌≡◌ {A = ℕ} 117 102 = ap initial same in absurd (omega (arith, first))
same_acts (Until a l) (Repeat n) act other same = let first : ◌≡◌ {A = ℕ} 117 114 = ap initial same in absurd (omega (arith, first))
same_acts (Until a l) End act other same = let first : ◌≡◌ {A = ℕ} 117 101 = ap initial same in absurd (omega (arith, first))
same_acts (Finish a) (Happens e) act other same = absurd (not_finish e (ap initial (sym same)))
same_acts (Finish a) (Until b m) act other same = let first : ◌≡◌ {A = ℕ} 102 117 = ap initial same in absurd (omega (arith, first))
same_acts (Finish a) (Finish b) act other same = ap Finish (numeral_injective a b (ap (word_at 1) same))
same_acts (Finish a) (Repeat n) act other same = let first : ◌≡◌ {A = ℕ} 102 114 = ap initial same in absurd (omega (arith, first))
same_acts (Finish a) End act other same = let first : ◌≡◌ {A = ℕ} 102 101 = ap initial same in absurd (omega (arith, first))
same_acts (Repeat n) (Happens e) act other same = absurd (not_repeat e (ap initial (sym same)))
same_acts (Repeat n) (Until b m) act other same = let first : ◌≡◌ {A = ℕ} 114 117 = ap initial same in absurd (omega (arith, first))
same_acts (Repeat n) (Finish b) act other same = let first : ◌≡◌ {A = ℕ} 114 102 = ap initial same in absurd (omega (arith, first))
same_acts (Repeat m) (Repeat n) act other same = ap Repeat (numeral_injective m n (ap (word_at 1) same))
same_acts (Repeat n) End act other same = let first : ◌≡◌ {A = ℕ} 114 101 = ap initial same in absurd (omega (arith, first))
same_acts End (Happens e) act other same = absurd (not_end e (ap initial (sym same)))
same_acts End (Until b m) act other same = let first : ◌≡◌ {A = ℕ} 101 117 = ap initial same in absurd (omega (arith, first))
same_acts End (Finish b) act other same = let first : ◌≡◌ {A = ℕ} 101 102 = ap initial same in absurd (omega (arith, first))
same_acts End (Repeat n) act other same = let first : ◌≡◌ {A = ℕ} 101 114 = ap initial same in absurd (omega (arith, first))
same_acts End End act other same = refl
same_acts Nothing b act other same = absurd act
same_acts Version b act other same = absurd act
same_acts (Queue kind) b act other same = absurd act
same_acts (Number field value) b act other same = absurd act
same_acts _ b act other same = absurd other

-- so are those with the same text
one_act : (a b : Said) → IsActSaid a → IsActSaid b → said_text a ≡ said_text b → a ≡ b
one_act a b act other same = same_acts a b act other (sym (words_of_text (said_text a) a act refl) ∙ words_of_text (said_text a) b other same)

-- what is said where an act is due, and isn't nothing, is one
act_outside : (acts : ℕ) (said : Said) → says_nothing said ≡ false → MaySay (ActDue acts) said → IsActSaid said
act_outside acts Nothing some may = absurd cc
act_outside acts _ some may = may

act_inside : (acts times : ℕ) (said : Said) → says_nothing said ≡ false → MaySay (Repeated acts times) said → IsActSaid said
act_inside acts times Nothing some may = absurd cc
act_inside acts times (Repeat again) some may = absurd may
act_inside acts times _ some may = may

-- what is said of the header, by its text
one_queue : (a b : Said) → MaySay QueueDue a → MaySay QueueDue b → says_nothing a ≡ false → says_nothing b ≡ false → said_text a ≡ said_text b → a ≡ b
one_queue (Queue k) (Queue l) may other some more same =
    let words = sym (words_of-said (queue k) (said_text (Queue k)) refl) ∙ words_of-said (queue l) (said_text (Queue k)) same in
    let one : queue k ≡ queue l = said_same (queue k) (queue l) words in
    let kind : k ≡ l = cc in
    ap Queue kind
one_queue (Queue k) Nothing may other some more same = absurd cc
one_queue (Queue k) _ may other some more same = absurd other
one_queue Nothing b may other some more same = absurd cc
one_queue _ b may other some more same = absurd may

one_number : (bits : ℕ) (field : Field) (a b : Said) → MaySay (NumberDue bits field) a → MaySay (NumberDue bits field) b → says_nothing a ≡ false → says_nothing b ≡ false
    → said_text a ≡ said_text b → a ≡ b
one_number bits field (Number f m) (Number g n) may other some more same =
    let words = sym (words_of-said (number f m) (said_text (Number f m)) refl) ∙ words_of-said (number g n) (said_text (Number f m)) same in
    let one : number f m ≡ number g n = said_same (number f m) (number g n) words in
    let fields : f ≡ g = cc in
    let values : m ≡ n = cc in
    ap₂ Number fields values
one_number bits field (Number f m) Nothing may other some more same = absurd cc
one_number bits field (Number f m) _ may other some more same = absurd other
one_number bits field Nothing b may other some more same = absurd cc
one_number bits field _ b may other some more same = absurd may

one_version : (a b : Said) → MaySay VersionDue a → MaySay VersionDue b → a ≡ b
one_version Version Version may other = refl
one_version Version _ may other = absurd other
one_version _ b may other = absurd may

-- what is said, by its text
one_said : (due : Due) (a b : Said) → MaySay due a → MaySay due b → said_text a ≡ said_text b → a ≡ b
one_said VersionDue a b may other same = one_version a b may other
one_said QueueDue a b may other same = one_by a b (λ some more. one_queue a b may other some more same) same
one_said (NumberDue bits field) a b may other same = one_by a b (λ some more. one_number bits field a b may other some more same) same
one_said (ActDue acts) a b may other same =
    one_by a b (λ some more. one_act a b (act_outside acts a some may) (act_outside acts b more other) same) same
one_said (Repeated acts times) a b may other same =
    one_by a b (λ some more. one_act a b (act_inside acts times a some may) (act_inside acts times b more other) same) same
one_said NothingDue a b may other same = absurd may

one_line : (due : Due) (a b : RecipeLine) → MayStand due a → MayStand due b → a.bytes ≡ b.bytes → a ≡ b
one_line due a b may other same =
    let says = one_said due a.says b.says may.may other.may (sym may.spelled ∙ ap spoken same ∙ other.spelled) in
    λ i. record { bytes = same i; says = says i }

-- the bytes of a line of a recipe tell what it says, and have no line feed
sound : IsSoundGrammar recipe_lines
sound = record { no_feed = λ due line may. may.whole; one = λ due a b may other same. one_line due a b may other same }

-- no two recipes have one text
pub one_recipe : (text : List ℕ) (s t : Sizes) (first second : List Said) → IsRecipe text s first → IsRecipe text t second → (s ≡ t) × (first ≡ second)
one_recipe text s t first second is other =
    let lines : is.lines ≡ other.lines = one_list recipe_lines sound VersionDue is.lines other.lines text is.read other.read in
    let saids : first ≡ second = sym is.said ∙ ap (map said_of) lines ∙ other.said in
    (is.sized ∙ ap (sizes_from no_sizes) saids ∙ sym other.sized, saids)

-- a text has one first fault
pub one_fault_of_recipe : (text : List ℕ) (at by : ℕ) (c d : TextCause) → IsFirstFault recipe_lines VersionDue text at c → IsFirstFault recipe_lines VersionDue text by d → (at ≡ by) × (c ≡ d)
one_fault_of_recipe = one_fault recipe_lines sound VersionDue

-- a recipe has none
pub no_fault_of_recipe : (text : List ℕ) (sizes : Sizes) (saids : List Said) (at : ℕ) (cause : TextCause) → IsRecipe text sizes saids → IsFirstFault recipe_lines VersionDue text at cause → ⊥
no_fault_of_recipe text sizes saids at cause is = no_fault recipe_lines sound VersionDue is.lines text at cause is.read

-- no text is neither a recipe nor faulty
pub not_neither_of_recipe : (text : List ℕ) → ((sizes : Sizes) (saids : List Said) → ¬ IsRecipe text sizes saids)
    → ((at : ℕ) (cause : TextCause) → ¬ IsFirstFault recipe_lines VersionDue text at cause) → ⊥
not_neither_of_recipe text none =
    not_neither recipe_lines VersionDue text
    (λ lines is. none (sizes_from no_sizes (map said_of lines)) (map said_of lines) (record { lines = lines; read = is; said = refl; sized = refl }))
