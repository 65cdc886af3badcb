-- Operations that clash are said by lines that overlap, and where none clash no lines overlap.
use Rattle.std.proofs.Common.{◌≡◌, ℕ, ◌+◌, ◌-◌, ◌<◌, ◌≤◌, min, max, Bool, true, false, not, nat_lt, List, [], ◌∷◌, ◌++◌, length, map, get_or, Bor}
use Rattle.std.proofs.Common.{Option, None, Some, All, IsPermutation, refl, sym, ◌∙◌, ap, subst, arith}
use Rattle.std.specs.Prelude.{if◌then◌else◌, is_some, is_none, option_map, unwrap_or, slice_get, Contains}
use Rattle.std.proofs.lemmas.Bool.{ltb-true, ltb-false}
use Rattle.std.proofs.lemmas.List.Elements.{All-contains, Contains-append_left, Contains-push}
use Rattle.std.proofs.lemmas.List.Sorted.{All-permutation, Contains-permutation}
use Rattle.std.proofs.lemmas.Option.{slice_get_within, slice_get-get_or, slice_get-map}
use Rattle.history.specs.declared.text_causes.TextCause.{TextCause}
use Rattle.history.specs.declared.text_causes.TextCause.TheVariants.{End, Form, Range, Extra}
use Rattle.text_io.specs.LineReadings.{IsWrong}
use Rattle.recording_text.specs.Recordings.{Recorded}
use Rattle.recording_text.specs.RecordingLines.{Operation, Operations, IsInTime, IsOperationInRange}
use Rattle.recording_text.specs.RecordingReading.{SaysOperation, bytes_of}
use Rattle.recording_text.proofs.Spelling.{IsSoundGrammar-recording}
use Rattle.place_engine.specs.WhyTexts.{lines_in}
use Rattle.place_engine.specs.Overlaps.{AreOverlapping, BeganBefore, SaysAt, AreOverlappingIn, HasSpell, HasSpells, IsSpellIn, SaysNone, SaysSpell, Clash, NoNeighboursClash, NoneClash, end_of}
use Rattle.place_engine.specs.declared.overlaps.Spell.{Spell}
use Rattle.place_engine.proofs.Chains.{AreSame, IsInOrder, IsTimed, none_clash}

-- a line says one operation
pub one_said : (says : List ℕ) (r q : Recorded) → SaysOperation says r → SaysOperation says q → r ≡ q
one_said says r q h k =
    let same : Operation r ≡ Operation q = IsSoundGrammar-recording.one (Operations 0) (Operation r) (Operation q) h.0 k.0 (sym h.1 ∙ k.1) in
    cc

one_at : (lines : List (List ℕ)) (n : ℕ) (r q : Recorded) → SaysAt lines n r → SaysAt lines n q → r ≡ q
one_at lines n r q h k =
    let texts : Some h.says ≡ Some k.says = sym h.there ∙ k.there in
    let same : h.says ≡ k.says = cc in
    one_said k.says r q (subst (λ s. SaysOperation s r) same h.said) k.said

end_told : (last : Option ℕ) (p : Bool) (l : ℕ) → is_none last ≡ p → unwrap_or last 0 ≡ l → last ≡ (if p then None else Some l)
end_told None true l e h = refl
end_told None false l e h = absurd (cc)
end_told (Some n) true l e h = absurd (cc)
end_told (Some n) false l e h = ap (λ (n : ℕ). Some n) h

in_time : (first : ℕ) (last : Option ℕ) → IsInTime first last → is_none last ≡ false → first ≤ unwrap_or last 0
in_time first None h e = absurd (cc)
in_time first (Some l) h e = h

-- of no lines no operation is missed
pub has_none : (lines : List (List ℕ)) → HasSpells lines 0 []
has_none lines n r le says = let positive : 0 < n = says.positive in absurd (omega (arith, positive, le))

-- where a further line says an operation, which is added
pub has_more : (lines : List (List ℕ)) (count : ℕ) (spells : List Spell) (x : Spell) (says : List ℕ) → SaysSpell says (count + 1) x
    → HasSpells lines count spells → HasSpells lines (count + 1) (spells ++ x ∷ [])
has_more lines count spells x says is has n r le at = by (nat_lt count n) refl
  where
    by : (t : Bool) → nat_lt count n ≡ t → HasSpell (spells ++ x ∷ []) n
    by true e =
        let lt : count < n = ltb-true count n e in
        let line : x.line ≡ count + 1 = is.line in
        let same : x.line ≡ n = omega (arith, lt, le, line) in
        (x, Contains-push spells x, same)
    by false e = let found = has n r (ltb-false count n e) at in (found.0, Contains-append_left spells (x ∷ []) found.0 found.1, found.2)

-- where a further line says none
pub has_same : (lines : List (List ℕ)) (count : ℕ) (spells : List Spell) (says : List ℕ) → SaysNone says → slice_get lines count ≡ Some says
    → HasSpells lines count spells → HasSpells lines (count + 1) spells
has_same lines count spells says none there has n r le said = by (nat_lt count n) refl
  where
    by : (t : Bool) → nat_lt count n ≡ t → HasSpell spells n
    by true e =
        let lt : count < n = ltb-true count n e in
        let at : n - 1 ≡ count = omega (arith, lt, le) in
        let texts : Some said.says ≡ Some says = sym said.there ∙ ap (slice_get lines) at ∙ there in
        let same : said.says ≡ says = cc in
        absurd (none.none r (subst (λ s. SaysOperation s r) same said.said) said.in_range)
    by false e = has n r (ltb-false count n e) said

-- the operation of a line is one of the lines
pub is_spell : (lines : List (List ℕ)) (count : ℕ) (x : Spell) (says : List ℕ) → SaysSpell says (count + 1) x → slice_get lines count ≡ Some says → IsSpellIn lines x
is_spell lines count x says is there =
    let line : x.line ≡ count + 1 = is.line in
    let at : x.line - 1 ≡ count = omega (arith, line) in
    record {
      operation = is.operation;
      says = record { says = says; positive = omega (arith, line); there = ap (slice_get lines) at ∙ there; said = is.said; in_range = is.in_range };
      name = is.name;
      first = is.first;
      pending = is.pending;
      last = is.last;
    }

-- a line of a list that is read
pub line_there : (lines : List (Bor (List ℕ))) (i : ℕ) (d : Bor (List ℕ)) → i < length lines → slice_get (map bytes_of lines) i ≡ Some (get_or lines i d).now
line_there lines i d lt = slice_get-map bytes_of lines i ∙ ap (option_map bytes_of) (slice_get-get_or lines i d lt)

-- whether a call is pending, by a test
pub pending_told : (last : Option ℕ) (b : Bool) → is_some last ≡ not b → is_none last ≡ b
pending_told None true e = refl
pending_told None false e = absurd (cc)
pending_told (Some n) true e = absurd (cc)
pending_told (Some n) false e = refl

-- a line that is wrong says none in range
pub says_none : (says : List ℕ) (cause : TextCause) → IsWrong (SaysOperation says) IsOperationInRange cause → SaysNone says
says_none says cause wrong = record { none = λ r said in_range. wrong_says cause wrong r said in_range }
  where
    wrong_says : (cause : TextCause) → IsWrong (SaysOperation says) IsOperationInRange cause → (r : Recorded) → SaysOperation says r → IsOperationInRange r → ⊥
    wrong_says Form wrong r said in_range = wrong r said
    wrong_says Range wrong r said in_range = wrong.2 (subst IsOperationInRange (one_said says r wrong.0 said wrong.1) in_range)
    wrong_says End wrong r said in_range = wrong
    wrong_says Extra wrong r said in_range = wrong

module _ (lines : List (List ℕ)) where
  end_is : (x : Spell) (is : IsSpellIn lines x) → is.operation.last ≡ end_of x
  end_is x is = end_told is.operation.last x.is_pending x.last is.pending is.last

  timed : (x : Spell) → IsSpellIn lines x → IsTimed x
  timed x is e =
      let h : is.operation.first ≤ unwrap_or is.operation.last 0 = in_time is.operation.first is.operation.last is.says.in_range.in_time (is.pending ∙ e) in
      let first : is.operation.first ≡ x.first = is.first in
      let last : unwrap_or is.operation.last 0 ≡ x.last = is.last in
      omega (arith, h, first, last)

  one_each : (x y : Spell) → IsSpellIn lines x → IsSpellIn lines y → x.line ≡ y.line → AreSame x y
  one_each x y is is' e =
      let same : is.operation ≡ is'.operation = one_at lines y.line is.operation is'.operation (subst (λ n. SaysAt lines n is.operation) e is.says) is'.says in
      record {
        line = e;
        first = sym is.first ∙ ap (λ (o : Recorded). o.first) same ∙ is'.first;
        pending = sym is.pending ∙ ap (λ (o : Recorded). is_none o.last) same ∙ is'.pending;
        last = sym is.last ∙ ap (λ (o : Recorded). unwrap_or o.last 0) same ∙ is'.last;
      }

  began_said : (x y : Spell) (is : IsSpellIn lines x) (is' : IsSpellIn lines y) → BeganBefore x.first (end_of y) → BeganBefore is.operation.first is'.operation.last
  began_said x y is is' h =
      subst (λ last. BeganBefore is.operation.first last) (sym (end_is y is')) (subst (λ first. BeganBefore first (end_of y)) (sym is.first) h)

  -- two operations that clash are said by two lines that overlap
  overlapping : (one other : Spell) → IsSpellIn lines one → IsSpellIn lines other → Clash one other → AreOverlappingIn lines (min one.line other.line) (max one.line other.line)
  overlapping one other is is' clash = by (nat_lt one.line other.line) refl
    where
      same : is.operation.name ≡ is'.operation.name
      same = is.name ∙ clash.same ∙ sym is'.name

      by : (t : Bool) → nat_lt one.line other.line ≡ t → AreOverlappingIn lines (min one.line other.line) (max one.line other.line)
      by true e =
          let less : one.line < other.line = ltb-true one.line other.line e in
          let low : one.line ≡ min one.line other.line = omega (arith, less) in
          let high : other.line ≡ max one.line other.line = omega (arith, less) in
          record {
            operation = is.operation;
            another = is'.operation;
            sooner = omega (arith, less);
            says = subst (λ n. SaysAt lines n is.operation) low is.says;
            says_too = subst (λ n. SaysAt lines n is'.operation) high is'.says;
            same = same;
            began = began_said one other is is' clash.began;
            began_too = began_said other one is' is clash.began_too;
          }
      by false e =
          let apart : one.line ≡ other.line → ⊥ = clash.apart in
          let le : other.line ≤ one.line = ltb-false one.line other.line e in
          let less : other.line < one.line = omega (arith, le, apart) in
          let low : other.line ≡ min one.line other.line = omega (arith, less) in
          let high : one.line ≡ max one.line other.line = omega (arith, less) in
          record {
            operation = is'.operation;
            another = is.operation;
            sooner = omega (arith, less);
            says = subst (λ n. SaysAt lines n is'.operation) low is'.says;
            says_too = subst (λ n. SaysAt lines n is.operation) high is.says;
            same = sym same;
            began = began_said other one is' is clash.began_too;
            began_too = began_said one other is is' clash.began;
          }

  below : (n : ℕ) (r : Recorded) → SaysAt lines n r → n ≤ length lines
  below n r h =
      let lt : n - 1 < length lines = slice_get_within lines (n - 1) h.says h.there in
      let positive : 0 < n = h.positive in
      omega (arith, lt, positive)

  -- of lines whose operations don't clash no two overlap
  none_overlap : (spells : List Spell) → All (IsSpellIn lines) spells → HasSpells lines (length lines) spells → NoneClash spells → (one other : ℕ) → ¬ AreOverlappingIn lines one other
  none_overlap spells each all none one other h = none x.0 y.0 x.1 y.1 (record {
    apart = λ e. let same : one ≡ other = sym x.2 ∙ e ∙ y.2 in let sooner : one < other = h.sooner in omega (arith, same, sooner);
    same = sym is.name ∙ ap (λ (o : Recorded). o.name) r ∙ h.same ∙ sym (ap (λ (o : Recorded). o.name) q) ∙ is'.name;
    began = clashes x.0 y.0 is is' h.operation h.another r q h.began;
    began_too = clashes y.0 x.0 is' is h.another h.operation q r h.began_too;
  })
    where
      x : HasSpell spells one
      x = all one h.operation (below one h.operation h.says) h.says

      y : HasSpell spells other
      y = all other h.another (below other h.another h.says_too) h.says_too

      is : IsSpellIn lines x.0
      is = All-contains (IsSpellIn lines) spells x.0 each x.1

      is' : IsSpellIn lines y.0
      is' = All-contains (IsSpellIn lines) spells y.0 each y.1

      r : is.operation ≡ h.operation
      r = one_at lines one is.operation h.operation (subst (λ n. SaysAt lines n is.operation) x.2 is.says) h.says

      q : is'.operation ≡ h.another
      q = one_at lines other is'.operation h.another (subst (λ n. SaysAt lines n is'.operation) y.2 is'.says) h.says_too

      clashes : (a b : Spell) (i : IsSpellIn lines a) (j : IsSpellIn lines b) (o p : Recorded) → i.operation ≡ o → j.operation ≡ p → BeganBefore o.first p.last → BeganBefore a.first (end_of b)
      clashes a b i j o p e f began =
          subst (λ last. BeganBefore a.first last) (sym (ap (λ (o : Recorded). o.last) f) ∙ end_is b j)
          (subst (λ first. BeganBefore first p.last) (sym (ap (λ (o : Recorded). o.first) e) ∙ i.first) began)

-- what is told of a text of which two operations clash
pub pair_told : (text : List ℕ) (lines : List (List ℕ)) (spells sorted : List Spell) (one other : Spell) → lines ≡ lines_in text → All (IsSpellIn lines) spells → IsPermutation spells sorted
    → Contains sorted one → Contains sorted other → Clash one other → AreOverlapping text (min one.line other.line) (max one.line other.line)
pair_told text lines spells sorted one other is each moved there there' clash =
    let all : All (IsSpellIn lines) sorted = All-permutation (IsSpellIn lines) spells sorted moved each in
    subst (λ ls. AreOverlappingIn ls (min one.line other.line) (max one.line other.line)) is
    (overlapping lines one other (All-contains (IsSpellIn lines) sorted one all there) (All-contains (IsSpellIn lines) sorted other all there') clash)

-- and of one of which none do, as sorted
pub none_told : (text : List ℕ) (lines : List (List ℕ)) (count : ℕ) (spells sorted : List Spell) → lines ≡ lines_in text → count ≡ length lines
    → All (IsSpellIn lines) spells → HasSpells lines count spells
    → IsPermutation spells sorted → IsInOrder sorted → NoNeighboursClash sorted → (one other : ℕ) → ¬ AreOverlapping text one other
none_told text lines count spells sorted is many each all moved order apart one other h =
    let each' : All (IsSpellIn lines) sorted = All-permutation (IsSpellIn lines) spells sorted moved each in
    none_overlap lines sorted each' has (none_clash (IsSpellIn lines) (timed lines) (one_each lines) sorted each' order apart) one other
    (subst (λ ls. AreOverlappingIn ls one other) (sym is) h)
  where
    has : HasSpells lines (length lines) sorted
    has n r le says = let found = all n r (subst (λ m. n ≤ m) (sym many) le) says in (found.0, Contains-permutation spells sorted found.0 moved found.1, found.2)
