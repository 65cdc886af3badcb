-- No two things that a line may say have the same words.
use Rattle.std.proofs.Common.{◌≡◌, ℕ, ◌+◌, List, [], length, get_or, drop, refl, sym, ap, ap₂, ◌∙◌, ◌*◌, arith}
use Rattle.history.specs.declared.operations.Op.{Op}
use Rattle.history.specs.declared.operations.Op.TheVariants.{Enq, Deq, Shut}
use Rattle.line_table.specs.declared.lines.Kind.{Kind}
use Rattle.line_table.specs.declared.lines.Kind.TheVariants.{TwoLock, NonBlocking}
use Rattle.line_table.proofs.Names.{name_of-differs}
use Rattle.text_io.proofs.Numerals.{numeral_injective}
use Rattle.schedule_text.specs.declared.schedules.Event.{Event}
use Rattle.schedule_text.specs.declared.schedules.Event.TheVariants.{Begin, Step, Steps, Give}
use Rattle.schedule_text.specs.declared.fields.Field.{Field}
use Rattle.schedule_text.specs.declared.fields.Field.TheVariants.{Bits, Nodes, Limit, Actors, Events}
use Rattle.schedule_text.specs.declared.schedules.Version.{Version}
use Rattle.schedule_text.specs.declared.schedules.Version.TheVariants.{One, Two}
use Rattle.schedule_text.specs.Texts.{Said, version, queue, number, happens, said_words, event_words, call_words, kind_name, version_name}

-- the word of a place in a list of words
abbrev word_at : ℕ → List (List ℕ) → List ℕ
word_at i words = get_or words i []

-- a number for a first word: its first byte, and its length
abbrev mark : List (List ℕ) → ℕ
mark words = get_or (word_at 0 words) 0 0 + 1000 * length (word_at 0 words)

kind_same : (a b : Kind) → kind_name a ≡ kind_name b → a ≡ b
kind_same TwoLock TwoLock same = refl
kind_same NonBlocking NonBlocking same = refl
kind_same TwoLock NonBlocking same = let long : ◌≡◌ {A = ℕ} 8 11 = ap length same in absurd (omega (arith, long))
kind_same NonBlocking TwoLock same = let long : ◌≡◌ {A = ℕ} 11 8 = ap length same in absurd (omega (arith, long))

version_same : (a b : Version) → version_name a ≡ version_name b → a ≡ b
version_same One One same = refl
version_same Two Two same = refl
version_same One Two same = let first : ◌≡◌ {A = ℕ} 49 50 = ap (λ w. get_or w 0 0) same in absurd (omega (arith, first))
version_same Two One same = let first : ◌≡◌ {A = ℕ} 50 49 = ap (λ w. get_or w 0 0) same in absurd (omega (arith, first))

-- the length of the first word
abbrev width : List (List ℕ) → ℕ
width words = length (word_at 0 words)

call_same : (a b : Op) → call_words a ≡ call_words b → a ≡ b
call_same (Enq m) (Enq n) same = ap Enq (numeral_injective m n (ap (word_at 1) same))
call_same Deq Deq same = refl
call_same Shut Shut same = refl
call_same (Enq m) Deq same = let long : ◌≡◌ {A = ℕ} 2 1 = ap length same in absurd (omega (arith, long))
call_same (Enq m) Shut same = let long : ◌≡◌ {A = ℕ} 2 1 = ap length same in absurd (omega (arith, long))
call_same Deq (Enq n) same = let long : ◌≡◌ {A = ℕ} 1 2 = ap length same in absurd (omega (arith, long))
call_same Deq Shut same = let long : ◌≡◌ {A = ℕ} 3 4 = ap width same in absurd (omega (arith, long))
call_same Shut (Enq n) same = let long : ◌≡◌ {A = ℕ} 1 2 = ap length same in absurd (omega (arith, long))
call_same Shut Deq same = let long : ◌≡◌ {A = ℕ} 4 3 = ap width same in absurd (omega (arith, long))

-- that number for each form of an event, and of a field
abbrev event_mark : Event → ℕ
event_mark (Begin a op) = 5098
event_mark (Step a line) = 4115
event_mark (Steps a k) = 5115
event_mark (Give a) = 4103

mark-event : (e : Event) → mark (event_words e) ≡ event_mark e
mark-event (Begin a op) = refl
mark-event (Step a line) = refl
mark-event (Steps a k) = refl
mark-event (Give a) = refl

abbrev field_mark : Field → ℕ
field_mark Bits = 4098
field_mark Nodes = 5110
field_mark Limit = 5108
field_mark Actors = 6097
field_mark Events = 6101

mark-field : (f : Field) (n : ℕ) → mark (said_words (number f n)) ≡ field_mark f
mark-field Bits n = refl
mark-field Nodes n = refl
mark-field Limit n = refl
mark-field Actors n = refl
mark-field Events n = refl

event_same : (a b : Event) → event_words a ≡ event_words b → event_mark a ≡ event_mark b → a ≡ b
event_same (Begin a o) (Begin b p) same marks = ap₂ Begin (numeral_injective a b (ap (word_at 1) same)) (call_same o p (ap (drop 2) same))
event_same (Step a l) (Step b m) same marks = ap₂ Step (numeral_injective a b (ap (word_at 1) same)) (name_of-differs l m (ap (word_at 2) same))
event_same (Steps a k) (Steps b n) same marks = ap₂ Steps (numeral_injective a b (ap (word_at 1) same)) (numeral_injective k n (ap (word_at 2) same))
event_same (Give a) (Give b) same marks = ap Give (numeral_injective a b (ap (word_at 1) same))
event_same (Begin a o) _ same marks = absurd (omega (arith, marks))
event_same (Step a l) _ same marks = absurd (omega (arith, marks))
event_same (Steps a k) _ same marks = absurd (omega (arith, marks))
event_same (Give a) _ same marks = absurd (omega (arith, marks))

field_same : (f g : Field) → field_mark f ≡ field_mark g → f ≡ g
field_same Bits Bits marks = refl
field_same Nodes Nodes marks = refl
field_same Limit Limit marks = refl
field_same Actors Actors marks = refl
field_same Events Events marks = refl
field_same Bits _ marks = absurd (omega (arith, marks))
field_same Nodes _ marks = absurd (omega (arith, marks))
field_same Limit _ marks = absurd (omega (arith, marks))
field_same Actors _ marks = absurd (omega (arith, marks))
field_same Events _ marks = absurd (omega (arith, marks))

-- the number for a line; a field's number is none of the others
abbrev said_mark : Said → ℕ
said_mark (version v) = 3109
said_mark (queue kind) = 5113
said_mark (number field n) = field_mark field
said_mark (happens event) = event_mark event

mark-said : (said : Said) → mark (said_words said) ≡ said_mark said
mark-said (version v) = refl
mark-said (queue kind) = refl
mark-said (number field n) = mark-field field n
mark-said (happens event) = mark-event event

-- marks of other forms
event_other : (e : Event) (f : Field) → field_mark f ≡ event_mark e → ⊥
event_other (Begin a o) Nodes same = omega (arith, same)
event_other (Begin a o) _ same = omega (arith, same)
event_other (Step a l) Nodes same = omega (arith, same)
event_other (Step a l) _ same = omega (arith, same)
event_other (Steps a k) Nodes same = omega (arith, same)
event_other (Steps a k) _ same = omega (arith, same)
event_other (Give a) Nodes same = omega (arith, same)
event_other (Give a) _ same = omega (arith, same)

event_early : (e : Event) → (3109 ≡ event_mark e → ⊥) × (5113 ≡ event_mark e → ⊥)
event_early (Begin a o) = ((λ same. omega (arith, same)), (λ same. omega (arith, same)))
event_early (Step a l) = ((λ same. omega (arith, same)), (λ same. omega (arith, same)))
event_early (Steps a k) = ((λ same. omega (arith, same)), (λ same. omega (arith, same)))
event_early (Give a) = ((λ same. omega (arith, same)), (λ same. omega (arith, same)))

field_early : (f : Field) → (3109 ≡ field_mark f → ⊥) × (5113 ≡ field_mark f → ⊥)
field_early Bits = ((λ same. omega (arith, same)), (λ same. omega (arith, same)))
field_early Nodes = ((λ same. omega (arith, same)), (λ same. omega (arith, same)))
field_early Limit = ((λ same. omega (arith, same)), (λ same. omega (arith, same)))
field_early Actors = ((λ same. omega (arith, same)), (λ same. omega (arith, same)))
field_early Events = ((λ same. omega (arith, same)), (λ same. omega (arith, same)))

said_by_marks : (a b : Said) → said_words a ≡ said_words b → said_mark a ≡ said_mark b → a ≡ b
said_by_marks (version v) (version w) same marks = ap version (version_same v w (ap (word_at 2) same))
said_by_marks (version v) (queue k) same marks = absurd (omega (arith, marks))
said_by_marks (version v) (number f n) same marks = absurd ((field_early f).0 marks)
said_by_marks (version v) (happens e) same marks = absurd ((event_early e).0 marks)
said_by_marks (queue k) (version v) same marks = absurd (omega (arith, marks))
said_by_marks (queue k) (queue l) same marks = ap queue (kind_same k l (ap (word_at 1) same))
said_by_marks (queue k) (number f n) same marks = absurd ((field_early f).1 marks)
said_by_marks (queue k) (happens e) same marks = absurd ((event_early e).1 marks)
said_by_marks (number f m) (version v) same marks = absurd ((field_early f).0 (sym marks))
said_by_marks (number f m) (queue k) same marks = absurd ((field_early f).1 (sym marks))
said_by_marks (number f m) (number g n) same marks = ap₂ number (field_same f g marks) (numeral_injective m n (ap (word_at 1) same))
said_by_marks (number f m) (happens e) same marks = absurd (event_other e f marks)
said_by_marks (happens e) (version v) same marks = absurd ((event_early e).0 (sym marks))
said_by_marks (happens e) (queue k) same marks = absurd ((event_early e).1 (sym marks))
said_by_marks (happens e) (number f n) same marks = absurd (event_other e f (sym marks))
said_by_marks (happens d) (happens e) same marks = ap happens (event_same d e same marks)

-- lines with the same words say the same
pub said_same : (a b : Said) → said_words a ≡ said_words b → a ≡ b
said_same a b same = said_by_marks a b same (sym (mark-said a) ∙ ap mark same ∙ mark-said b)
