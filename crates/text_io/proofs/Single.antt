-- A text has one reading: it is the lines of one list, or has one first faulty line with one cause.
use Rattle.std.proofs.Common.{◌≡◌, ◌≢◌, ℕ, ◌+◌, List, [], ◌∷◌, ◌++◌, length, Bool, true, false, Option, Some, None, refl, sym, ap, ◌∙◌, append_assoc, subst}
use Rattle.std.proofs.lemmas.List.Elements.{All-head, All-tail}
use Rattle.history.specs.declared.text_causes.TextCause.{TextCause}
use Rattle.history.specs.declared.text_causes.TextCause.TheVariants.{End, Form, Range, Extra}
use Rattle.text_io.specs.Lines.{HasNo, line}
use Rattle.text_io.specs.Grammars.{Grammar, AreDue, state_after, lines_of, IsText, IsWrongLine, IsFault, IsFirstFault, IsSoundGrammar}

-- the line at the front of a text is one
front_line : (x y a b : List ℕ) → HasNo 10 x → HasNo 10 y → line x ++ a ≡ line y ++ b → (x ≡ y) × (a ≡ b)
front_line [] [] a b p q e = (refl, cc)
front_line [] (d ∷ y) a b p q e = let feed : d ≡ 10 = cc in absurd (All-head (λ b. b ≢ 10) d y q feed)
front_line (c ∷ x) [] a b p q e = let feed : c ≡ 10 = cc in absurd (All-head (λ b. b ≢ 10) c x p feed)
front_line (c ∷ x) (d ∷ y) a b p q e =
    let head : c ≡ d = cc in
    let tail : line x ++ a ≡ line y ++ b = cc in
    let rest = front_line x y a b (All-tail (λ b. b ≢ 10) c x p) (All-tail (λ b. b ≢ 10) d y q) tail in
    ((λ i. head i ∷ rest.0 i), rest.1)

-- a text with a line has a line feed
no_line : (text x a : List ℕ) → HasNo 10 text → text ≡ line x ++ a → ⊥
no_line text x a none split = by x (subst (HasNo 10) split none)
  where
    by : (x : List ℕ) → HasNo 10 (line x ++ a) → ⊥
    by [] none = All-head (λ b. b ≢ 10) 10 a none refl
    by (c ∷ x) none = by x (All-tail (λ b. b ≢ 10) c (line x ++ a) none)

-- a test is not both
not_both : (b : Bool) → b ≡ true → b ≡ false → ⊥
not_both b holds fails = let same : true ≡ false = sym holds ∙ fails in absurd cc

module _ {S R : Type 0} (g : Grammar S R) (sound : IsSoundGrammar g) where
  -- how a text ends after the lines read: by nothing more, or by a fault
  Ends : S → List ℕ → Option TextCause → Type 0
  Ends s rest None = (g.is_due s ≡ false) × (rest ≡ [])
  Ends s rest (Some cause) = IsFault g s rest cause

  -- a wrong line is not of the wrong form and out of range at once
  form_or_range : (s : S) (rest : List ℕ) → IsWrongLine g s rest Form → IsWrongLine g s rest Range → ⊥
  form_or_range s rest form range =
      let same = front_line form.says range.says form.later range.later form.whole range.whole (sym form.split ∙ range.split) in
      form.wrong range.wrong.0 (record { may = range.wrong.1.may; spelled = same.0 ∙ range.wrong.1.spelled })

  -- a text ends in one way
  one_end : (s : S) (rest : List ℕ) (o p : Option TextCause) → Ends s rest o → Ends s rest p → o ≡ p
  unfolding Ends
  one_end s rest None None a b = refl
  one_end s rest None (Some End) a b = absurd (not_both (g.is_due s) b.0 a.0)
  one_end s rest None (Some Form) a b = absurd (not_both (g.is_due s) b.due a.0)
  one_end s rest None (Some Range) a b = absurd (not_both (g.is_due s) b.due a.0)
  one_end s rest None (Some Extra) a b = absurd (b.1 a.1)
  one_end s rest (Some End) None a b = absurd (not_both (g.is_due s) a.0 b.0)
  one_end s rest (Some End) (Some End) a b = refl
  one_end s rest (Some End) (Some Form) a b = absurd (no_line rest b.says b.later a.1 b.split)
  one_end s rest (Some End) (Some Range) a b = absurd (no_line rest b.says b.later a.1 b.split)
  one_end s rest (Some End) (Some Extra) a b = absurd (not_both (g.is_due s) a.0 b.0)
  one_end s rest (Some Form) None a b = absurd (not_both (g.is_due s) a.due b.0)
  one_end s rest (Some Form) (Some End) a b = absurd (no_line rest a.says a.later b.1 a.split)
  one_end s rest (Some Form) (Some Form) a b = refl
  one_end s rest (Some Form) (Some Range) a b = absurd (form_or_range s rest a b)
  one_end s rest (Some Form) (Some Extra) a b = absurd (not_both (g.is_due s) a.due b.0)
  one_end s rest (Some Range) None a b = absurd (not_both (g.is_due s) a.due b.0)
  one_end s rest (Some Range) (Some End) a b = absurd (no_line rest a.says a.later b.1 a.split)
  one_end s rest (Some Range) (Some Form) a b = absurd (form_or_range s rest b a)
  one_end s rest (Some Range) (Some Range) a b = refl
  one_end s rest (Some Range) (Some Extra) a b = absurd (not_both (g.is_due s) a.due b.0)
  one_end s rest (Some Extra) None a b = absurd (a.1 b.1)
  one_end s rest (Some Extra) (Some End) a b = absurd (not_both (g.is_due s) b.0 a.0)
  one_end s rest (Some Extra) (Some Form) a b = absurd (not_both (g.is_due s) b.due a.0)
  one_end s rest (Some Extra) (Some Range) a b = absurd (not_both (g.is_due s) b.due a.0)
  one_end s rest (Some Extra) (Some Extra) a b = refl

  -- a text doesn't end before a line that is due, in form and in range
  no_end : (s : S) (r : R) (rest later : List ℕ) (o : Option TextCause) → g.is_due s ≡ true → g.may_say s r → g.in_range s r → rest ≡ line (g.words r) ++ later
      → Ends s rest o → ⊥
  unfolding Ends
  no_end s r rest later None due may range split end = not_both (g.is_due s) due end.0
  no_end s r rest later (Some End) due may range split end = no_line rest (g.words r) later end.1 split
  no_end s r rest later (Some Form) due may range split end =
      let same = front_line end.says (g.words r) end.later later end.whole (sound.no_feed s r may) (sym end.split ∙ split) in
      end.wrong r (record { may = may; spelled = same.0 })
  no_end s r rest later (Some Range) due may range split end =
      let same = front_line end.says (g.words r) end.later later end.whole (sound.no_feed s r may) (sym end.split ∙ split) in
      let one : r ≡ end.wrong.0 = sound.one s r end.wrong.0 may end.wrong.1.may (sym same.0 ∙ end.wrong.1.spelled) in
      end.wrong.2 (subst (g.in_range s) one range)
  no_end s r rest later (Some Extra) due may range split end = not_both (g.is_due s) due end.0

  -- a text is read in one way
  one_reading : (rs qs : List R) (s : S) (text a b : List ℕ) (o p : Option TextCause) → AreDue g s rs → AreDue g s qs → text ≡ lines_of g rs ++ a → text ≡ lines_of g qs ++ b
      → Ends (state_after g s rs) a o → Ends (state_after g s qs) b p → (rs ≡ qs) × (o ≡ p)
  one_reading [] [] s text a b o p due due' first second end end' = (refl, one_end s a o p end (subst (λ rest. Ends s rest p) (sym second ∙ first) end'))
  one_reading [] (q ∷ qs) s text a b o p due due' first second end end' =
      absurd (no_end s q a (lines_of g qs ++ b) o due'.0 due'.1 due'.2 (sym first ∙ second ∙ append_assoc (line (g.words q)) (lines_of g qs) b) end)
  one_reading (r ∷ rs) [] s text a b o p due due' first second end end' =
      absurd (no_end s r b (lines_of g rs ++ a) p due.0 due.1 due.2 (sym second ∙ first ∙ append_assoc (line (g.words r)) (lines_of g rs) a) end')
  one_reading (r ∷ rs) (q ∷ qs) s text a b o p due due' first second end end' =
      let same =
      front_line (g.words r) (g.words q) (lines_of g rs ++ a) (lines_of g qs ++ b) (sound.no_feed s r due.1) (sound.no_feed s q due'.1)
      (sym (append_assoc (line (g.words r)) (lines_of g rs) a) ∙ sym first ∙ second ∙ append_assoc (line (g.words q)) (lines_of g qs) b) in
      let one : q ≡ r = sound.one s q r due'.1 due.1 (sym same.0) in
      let later =
      one_reading rs qs (g.after s r) (lines_of g rs ++ a) a b o p due.3 (subst (λ q. AreDue g (g.after s q) qs) one due'.3) refl same.1 end
      (subst (λ q. Ends (state_after g (g.after s q) qs) b p) one end') in
      ((λ i. (sym one) i ∷ later.0 i), later.1)

  -- a text is the lines of one list
  pub one_list : (s : S) (rs qs : List R) (text : List ℕ) → IsText g s rs text → IsText g s qs text → rs ≡ qs
  unfolding Ends
  one_list s rs qs text a b = (one_reading rs qs s text [] [] None None a.lines.due b.lines.due a.lines.spelled b.lines.spelled (a.done, refl) (b.done, refl)).0

  -- a text of lines has no faulty one
  pub no_fault : (s : S) (rs : List R) (text : List ℕ) (number : ℕ) (cause : TextCause) → IsText g s rs text → IsFirstFault g s text number cause → ⊥
  unfolding Ends
  no_fault s rs text number cause a b =
      let ends : None ≡ Some cause =
      (one_reading rs b.before s text [] b.rest None (Some cause) a.lines.due b.begins.due a.lines.spelled b.begins.spelled (a.done, refl) b.fault).1 in
      absurd cc

  -- the first faulty line is one, and wrong for one cause
  pub one_fault : (s : S) (text : List ℕ) (m n : ℕ) (c d : TextCause) → IsFirstFault g s text m c → IsFirstFault g s text n d → (m ≡ n) × (c ≡ d)
  unfolding Ends
  one_fault s text m n c d a b =
      let same = one_reading a.before b.before s text a.rest b.rest (Some c) (Some d) a.begins.due b.begins.due a.begins.spelled b.begins.spelled a.fault b.fault in
      let cause : Some c ≡ Some d = same.1 in
      (a.counted ∙ ap (λ (before : List R). 1 + length before) same.0 ∙ sym b.counted, cc)
