-- The words of each line have no space, and its line no line feed.
use Rattle.std.proofs.Common.{◌≡◌, ℕ, ◌<◌, List, [], ◌∷◌, length, All, true, refl, sym, ap, ◌∙◌, codes, inl, arith, ◌==◌}
use Rattle.std.specs.Prelude.{not}
use Rattle.std.specs.List.{list_all}
use Rattle.std.proofs.lemmas.List.Elements.{All-nil, All-cons}
use Rattle.history.specs.declared.operations.Op.{Op}
use Rattle.history.specs.declared.operations.Op.TheVariants.{Enq, Deq, Shut}
use Rattle.line_table.specs.Names.{name_of}
use Rattle.line_table.specs.declared.lines.Kind.{Kind}
use Rattle.line_table.specs.declared.lines.Kind.TheVariants.{TwoLock, NonBlocking}
use Rattle.line_table.specs.declared.lines.Line.{Line}
use Rattle.line_table.specs.declared.lines.Line.TheVariants.{N1}
use Rattle.text_io.specs.Lines.{HasNo, spaced, words_of}
use Rattle.text_io.specs.Numerals.{numeral}
use Rattle.text_io.proofs.Splits.{HasNo-tested, words_of-spaced, spaced-words_of}
use Rattle.text_io.proofs.Numerals.{HasNo-numeral}
use Rattle.schedule_text.specs.declared.schedules.Event.{Event}
use Rattle.schedule_text.specs.declared.schedules.Event.TheVariants.{Begin, Step, Steps, Give}
use Rattle.schedule_text.specs.declared.fields.Field.{Field}
use Rattle.schedule_text.specs.declared.fields.Field.TheVariants.{Bits, Nodes, Limit, Actors, Events}
use Rattle.schedule_text.specs.declared.schedules.Version.{Version}
use Rattle.schedule_text.specs.declared.schedules.Version.TheVariants.{One, Two}
use Rattle.schedule_text.specs.Texts.{Said, version, queue, number, happens, said_words, call_words, event_words, kind_name, version_name, field_name}

-- no byte of a word is a space, and none a line feed
pub record IsWord (word : List ℕ) : Type 0 where
  pub spaceless : HasNo 32 word
  pub unbroken : HasNo 10 word

-- names of lines are words
name_spaceless : (l : Line) → list_all (λ b. not (b == 32)) (name_of l) ≡ true
name_spaceless N1 = refl
name_spaceless _ = refl

name_unbroken : (l : Line) → list_all (λ b. not (b == 10)) (name_of l) ≡ true
name_unbroken N1 = refl
name_unbroken _ = refl

IsWord-name_of : (l : Line) → IsWord (name_of l)
IsWord-name_of l = record { spaceless = HasNo-tested 32 (name_of l) (name_spaceless l); unbroken = HasNo-tested 10 (name_of l) (name_unbroken l) }

IsWord-numeral : (n : ℕ) → IsWord (numeral n)
IsWord-numeral n = record { spaceless = HasNo-numeral 32 n (inl (omega arith)); unbroken = HasNo-numeral 10 n (inl (omega arith)) }

-- words that compute
literal : (word : List ℕ) → list_all (λ b. not (b == 32)) word ≡ true → list_all (λ b. not (b == 10)) word ≡ true → IsWord word
literal word p q = record { spaceless = HasNo-tested 32 word p; unbroken = HasNo-tested 10 word q }

IsWord-version_name : (v : Version) → IsWord (version_name v)
IsWord-version_name One = literal _ refl refl
IsWord-version_name Two = literal _ refl refl

IsWord-kind_name : (k : Kind) → IsWord (kind_name k)
IsWord-kind_name TwoLock = literal _ refl refl
IsWord-kind_name NonBlocking = literal _ refl refl

IsWord-field_name : (f : Field) → IsWord (field_name f)
IsWord-field_name Bits = literal _ refl refl
IsWord-field_name Nodes = literal _ refl refl
IsWord-field_name Limit = literal _ refl refl
IsWord-field_name Actors = literal _ refl refl
IsWord-field_name Events = literal _ refl refl

-- each of a list is a word
abbrev pub AreWords : List (List ℕ) → Type 0
AreWords [] = Unit {0}
AreWords (word ∷ words) = IsWord word × AreWords words

AreWords-call : (op : Op) → AreWords (call_words op)
AreWords-call (Enq body) = (literal (codes "enq") refl refl, (IsWord-numeral body, tt))
AreWords-call Deq = (literal (codes "deq") refl refl, tt)
AreWords-call Shut = (literal (codes "shut") refl refl, tt)

AreWords-event : (event : Event) → AreWords (event_words event)
AreWords-event (Begin actor op) = (literal (codes "begin") refl refl, (IsWord-numeral actor, AreWords-call op))
AreWords-event (Step actor line) = (literal (codes "step") refl refl, (IsWord-numeral actor, (IsWord-name_of line, tt)))
AreWords-event (Steps actor count) = (literal (codes "steps") refl refl, (IsWord-numeral actor, (IsWord-numeral count, tt)))
AreWords-event (Give actor) = (literal (codes "give") refl refl, (IsWord-numeral actor, tt))

-- what a line says is in words
pub AreWords-said : (said : Said) → AreWords (said_words said)
AreWords-said (version v) = (literal (codes "msq") refl refl, (literal (codes "schedule") refl refl, (IsWord-version_name v, tt)))
AreWords-said (queue kind) = (literal (codes "queue") refl refl, (IsWord-kind_name kind, tt))
AreWords-said (number field value) = (IsWord-field_name field, (IsWord-numeral value, tt))
AreWords-said (happens event) = AreWords-event event

spaceless : (words : List (List ℕ)) → AreWords words → All (HasNo 32) words
spaceless [] all = All-nil (HasNo 32)
spaceless (word ∷ words) all = All-cons (HasNo 32) word words all.0.spaceless (spaceless words all.1)

-- a line that says this has its words, and no others
pub words_of-said : (said : Said) (says : List ℕ) → says ≡ spaced (said_words said) → words_of says ≡ said_words said
words_of-said said says same = ap words_of same ∙ by (said_words said) (spaceless (said_words said) (AreWords-said said)) (some said)
  where
    by : (words : List (List ℕ)) → All (HasNo 32) words → 0 < length words → words_of (spaced words) ≡ words
    by [] none long = absurd (omega arith)
    by (word ∷ words) none long = words_of-spaced word words none

    some : (said : Said) → 0 < length (said_words said)
    some (version v) = omega arith
    some (queue kind) = omega arith
    some (number field value) = omega arith
    some (happens (Begin actor op)) = omega arith
    some (happens (Step actor line)) = omega arith
    some (happens (Steps actor count)) = omega arith
    some (happens (Give actor)) = omega arith

-- a line with these words says this
pub spaced-said : (said : Said) (says : List ℕ) → words_of says ≡ said_words said → says ≡ spaced (said_words said)
spaced-said said says same = sym (spaced-words_of says) ∙ ap spaced same
