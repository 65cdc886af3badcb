-- What a line says when some of its numbers are other ones.
use Rattle.std.proofs.Common.{◌≡◌, ℕ, ◌≤◌, ◌<◌, List, [], ◌∷◌, length, codes, true, refl, ap, arith}
use Rattle.std.specs.Prelude.{nat_lt}
use Rattle.std.specs.List.{AllZip}
use Rattle.std.proofs.lemmas.Bool.{ltb-true}
use Rattle.history.specs.declared.operations.Op.{Op}
use Rattle.history.specs.declared.operations.Op.TheVariants.{Enq, Deq, Shut}
use Rattle.line_table.specs.Names.{name_of}
use Rattle.line_table.specs.declared.lines.Kind.{Kind}
use Rattle.line_table.specs.declared.lines.Kind.TheVariants.{TwoLock, NonBlocking}
use Rattle.line_table.specs.declared.lines.Line.{Line}
use Rattle.line_table.specs.declared.lines.Line.TheVariants.{N1}
use Rattle.text_io.specs.Numerals.{numeral}
use Rattle.schedule_text.specs.declared.schedules.Event.{Event}
use Rattle.schedule_text.specs.declared.schedules.Event.TheVariants.{Begin, Step, Steps, Give}
use Rattle.schedule_text.specs.declared.fields.Field.{Field}
use Rattle.schedule_text.specs.declared.fields.Field.TheVariants.{Bits, Nodes, Limit, Actors, Events}
use Rattle.schedule_text.specs.declared.schedules.Version.{Version}
use Rattle.schedule_text.specs.declared.schedules.Version.TheVariants.{One, Two}
use Rattle.schedule_text.specs.Texts.{Said, version, queue, number, happens, Due, version_due, queue_due, number_due, events_left, said_words}
use Rattle.schedule_text.specs.Texts.{call_words, event_words, kind_name, version_name, field_name, IsBegun, IsTold, MaySay}

-- the name of a line has at most three bytes
name_below : (l : Line) → nat_lt (length (name_of l)) 4 ≡ true
name_below N1 = refl
name_below _ = refl

pub length-name_of : (l : Line) → length (name_of l) ≤ 3
length-name_of l = let below : length (name_of l) < 4 = ltb-true (length (name_of l)) 4 (name_below l) in omega arith

pub length-version_name : (v : Version) → length (version_name v) ≤ 1
length-version_name One = omega arith
length-version_name Two = omega arith

pub length-kind_name : (k : Kind) → length (kind_name k) ≤ 11
length-kind_name TwoLock = omega arith
length-kind_name NonBlocking = omega arith

pub length-field_name : (f : Field) → length (field_name f) ≤ 6
length-field_name Bits = omega arith
length-field_name Nodes = omega arith
length-field_name Limit = omega arith
length-field_name Actors = omega arith
length-field_name Events = omega arith

-- what a line with these words says, where what is said is due
pub record SaysToo (said : Said) (words : List (List ℕ)) : Type 0 where
  pub other : Said
  pub same : words ≡ said_words other
  pub may : (due : Due) → MaySay due said → MaySay due other

may-number : (f : Field) (m n : ℕ) (due : Due) → MaySay due (number f m) → MaySay due (number f n)
may-number f m n version_due may = may
may-number f m n (queue_due v) may = may
may-number f m n (number_due v bits g) may = may
may-number f m n (events_left v count) may = may

may-happens : (d e : Event) → ((v : Version) → IsTold v d → IsTold v e) → (due : Due) → MaySay due (happens d) → MaySay due (happens e)
may-happens d e told version_due may = may
may-happens d e told (queue_due v) may = may
may-happens d e told (number_due v bits g) may = may
may-happens d e told (events_left v count) may = told v may

-- words that are short stay, and numbers become numbers
module _ (R : List ℕ → List ℕ → Type 0) (fixed : (w k : List ℕ) → length w < 21 → R w k → k ≡ w)
    (to_number : (n : ℕ) (k : List ℕ) → R (numeral n) k → (m : ℕ) × (k ≡ numeral m)) where
  none : (ks : List (List ℕ)) → AllZip R [] ks → ks ≡ []
  none [] all = refl
  none (k ∷ ks) all = absurd all

  after_word : (w : List ℕ) (ws ks : List (List ℕ)) → length w < 21 → AllZip R (w ∷ ws) ks → (later : List (List ℕ)) × (ks ≡ w ∷ later) × AllZip R ws later
  after_word w ws [] short all = absurd all
  after_word w ws (k ∷ ks) short all = (ks, ap (λ (x : List ℕ). x ∷ ks) (fixed w k short all.0), all.1)

  after_number : (n : ℕ) (ws ks : List (List ℕ)) → AllZip R (numeral n ∷ ws) ks → (m : ℕ) × (later : List (List ℕ)) × (ks ≡ numeral m ∷ later) × AllZip R ws later
  after_number n ws [] all = absurd all
  after_number n ws (k ∷ ks) all = let m = to_number n k all.0 in (m.0, ks, ap (λ (x : List ℕ). x ∷ ks) m.1, all.1)

  call : (op : Op) (ks : List (List ℕ)) → AllZip R (call_words op) ks → (o : Op) × (ks ≡ call_words o) × ((v : Version) → IsBegun v op → IsBegun v o)
  call (Enq body) ks all =
      let x = after_word (codes "enq") (numeral body ∷ []) ks (omega arith) all in
      let y = after_number body [] x.0 x.2 in
      let z = none y.1 y.3 in
      (Enq y.0, cc (x.1, y.2, z), λ v begun. tt)
  call Deq ks all =
      let x = after_word (codes "deq") [] ks (omega arith) all in
      let z = none x.0 x.2 in
      (Deq, cc (x.1, z), λ v begun. begun)
  call Shut ks all =
      let x = after_word (codes "shut") [] ks (omega arith) all in
      let z = none x.0 x.2 in
      (Shut, cc (x.1, z), λ v begun. begun)

  event : (e : Event) (ks : List (List ℕ)) → AllZip R (event_words e) ks → (f : Event) × (ks ≡ event_words f) × ((v : Version) → IsTold v e → IsTold v f)
  event (Begin actor op) ks all =
      let x = after_word (codes "begin") (numeral actor ∷ call_words op) ks (omega arith) all in
      let y = after_number actor (call_words op) x.0 x.2 in
      let z = call op y.1 y.3 in
      (Begin y.0 z.0, cc (x.1, y.2, z.1), z.2)
  event (Step actor line) ks all =
      let x = after_word (codes "step") (numeral actor ∷ name_of line ∷ []) ks (omega arith) all in
      let y = after_number actor (name_of line ∷ []) x.0 x.2 in
      let v = after_word (name_of line) [] y.1 (omega (arith, length-name_of line)) y.3 in
      let z = none v.0 v.2 in
      (Step y.0 line, cc (x.1, y.2, v.1, z), λ v told. told)
  event (Steps actor count) ks all =
      let x = after_word (codes "steps") (numeral actor ∷ numeral count ∷ []) ks (omega arith) all in
      let y = after_number actor (numeral count ∷ []) x.0 x.2 in
      let v = after_number count [] y.1 y.3 in
      let z = none v.1 v.3 in
      (Steps y.0 v.0, cc (x.1, y.2, v.2, z), λ v told. tt)
  event (Give actor) ks all =
      let x = after_word (codes "give") (numeral actor ∷ []) ks (omega arith) all in
      let y = after_number actor [] x.0 x.2 in
      let z = none y.1 y.3 in
      (Give y.0, cc (x.1, y.2, z), λ v told. tt)

  pub says_too : (said : Said) (ks : List (List ℕ)) → AllZip R (said_words said) ks → SaysToo said ks
  says_too (version v) ks all =
      let x = after_word (codes "msq") (codes "schedule" ∷ version_name v ∷ []) ks (omega arith) all in
      let y = after_word (codes "schedule") (version_name v ∷ []) x.0 (omega arith) x.2 in
      let u = after_word (version_name v) [] y.0 (omega (arith, length-version_name v)) y.2 in
      let z = none u.0 u.2 in
      record { other = version v; same = cc (x.1, y.1, u.1, z); may = λ due may. may }
  says_too (queue kind) ks all =
      let x = after_word (codes "queue") (kind_name kind ∷ []) ks (omega arith) all in
      let y = after_word (kind_name kind) [] x.0 (omega (arith, length-kind_name kind)) x.2 in
      let z = none y.0 y.2 in
      record { other = queue kind; same = cc (x.1, y.1, z); may = λ due may. may }
  says_too (number field value) ks all =
      let x = after_word (field_name field) (numeral value ∷ []) ks (omega (arith, length-field_name field)) all in
      let y = after_number value [] x.0 x.2 in
      let z = none y.1 y.3 in
      record { other = number field y.0; same = cc (x.1, y.2, z); may = may-number field value y.0 }
  says_too (happens e) ks all =
      let f = event e ks all in
      record { other = happens f.0; same = f.1; may = may-happens e f.0 f.2 }
