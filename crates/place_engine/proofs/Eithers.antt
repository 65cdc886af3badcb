-- The first faulty line of a text in one of two grammars.
use Rattle.std.proofs.Common.{◌≡◌, ℕ, suc, ◌+◌, List, [], ◌∷◌, ◌++◌, map, length, true, false, refl, sym, ap, ◌∙◌, subst}
use Rattle.std.proofs.lemmas.List.{length-map}
use Rattle.history.specs.declared.text_causes.TextCause.{TextCause}
use Rattle.history.specs.declared.text_causes.TextCause.TheVariants.{End, Form, Range, Extra}
use Rattle.text_io.specs.Lines.{line}
use Rattle.text_io.specs.Grammars.{Grammar, Says, AreDue, state_after, lines_of, IsFault, IsFirstFault}
use Rattle.place_engine.specs.EitherGrammars.{EitherDue, Start, InOne, InOther, EitherLine, OfOne, OfOther, either_grammar}

module _ {S R T Q : Type 0} (g : Grammar S R) (h : Grammar T Q) (s : S) (t : T) where
  abbrev either : Grammar (EitherDue S T) (EitherLine R Q)
  either = either_grammar g h s t

  abbrev of_one : R → EitherLine R Q
  of_one r = OfOne r

  abbrev as_one : List R → List (EitherLine R Q)
  as_one rs = map of_one rs

  -- lines of the one are due and spelled as there
  due-one : (u : S) (rs : List R) → AreDue g u rs → AreDue either (InOne u) (as_one rs)
  due-one u [] due = tt
  due-one u (r ∷ rs) due = (due.0, due.1, due.2, due-one (g.after u r) rs due.3)

  state-one : (u : S) (rs : List R) → state_after either (InOne u) (as_one rs) ≡ InOne (state_after g u rs)
  state-one u [] = refl
  state-one u (r ∷ rs) = state-one (g.after u r) rs

  lines-one : (rs : List R) → lines_of either (as_one rs) ≡ lines_of g rs
  lines-one [] = refl
  lines-one (r ∷ rs) = ap (λ (later : List ℕ). line (g.words r) ++ later) (lines-one rs)

  -- what is wrong with the rest is so there
  fault-one : (u : S) (rest : List ℕ) (cause : TextCause) → IsFault g u rest cause → IsFault either (InOne u) rest cause
  fault-one u rest End fault = fault
  fault-one u rest Extra fault = fault
  fault-one u rest Form fault = record { due = fault.due; says = fault.says; later = fault.later; split = fault.split; whole = fault.whole; wrong = by }
    where
      by : (r : EitherLine R Q) → ¬ Says either (InOne u) fault.says r
      by (OfOne r) said = fault.wrong r (record { may = said.may; spelled = said.spelled })
      by (OfOther q) said = absurd said.may
  fault-one u rest Range fault = record {
    due = fault.due;
    says = fault.says;
    later = fault.later;
    split = fault.split;
    whole = fault.whole;
    wrong = (OfOne fault.wrong.0, record { may = fault.wrong.1.may; spelled = fault.wrong.1.spelled }, fault.wrong.2);
  }

  -- and with a first line, where no first line of the other is at its place
  fault-start : (rest : List ℕ) (cause : TextCause) → g.is_due s ≡ true → ((says later : List ℕ) → rest ≡ line says ++ later → (q : Q) → ¬ Says h t says q)
      → IsFault g s rest cause → IsFault either Start rest cause
  fault-start rest End due none fault = (refl, fault.1)
  fault-start rest Extra due none fault = absurd (let e : true ≡ false = sym due ∙ fault.0 in cc)
  fault-start rest Form due none fault = record { due = refl; says = fault.says; later = fault.later; split = fault.split; whole = fault.whole; wrong = by }
    where
      by : (r : EitherLine R Q) → ¬ Says either Start fault.says r
      by (OfOne r) said = fault.wrong r (record { may = said.may; spelled = said.spelled })
      by (OfOther q) said = none fault.says fault.later fault.split q (record { may = said.may; spelled = said.spelled })
  fault-start rest Range due none fault = record {
    due = refl;
    says = fault.says;
    later = fault.later;
    split = fault.split;
    whole = fault.whole;
    wrong = (OfOne fault.wrong.0, record { may = fault.wrong.1.may; spelled = fault.wrong.1.spelled }, fault.wrong.2);
  }

  -- the first faulty line of a text of the one is that of a text of either
  pub first_fault-one : (text : List ℕ) (number : ℕ) (cause : TextCause) → g.is_due s ≡ true → ((says later : List ℕ) → text ≡ line says ++ later → (q : Q) → ¬ Says h t says q)
      → IsFirstFault g s text number cause → IsFirstFault either Start text number cause
  first_fault-one text number cause due none first = by first.before first.begins.due first.begins.spelled first.counted first.fault
    where
      by : (before : List R) → AreDue g s before → text ≡ lines_of g before ++ first.rest → number ≡ 1 + length before → IsFault g (state_after g s before) first.rest cause
          → IsFirstFault either Start text number cause
      by [] all spelled counted fault = record {
        before = [];
        rest = first.rest;
        begins = record { due = tt; spelled = spelled };
        counted = counted;
        fault = fault-start first.rest cause due (λ says later split. none says later (spelled ∙ split)) fault;
      }
      by (r ∷ rs) all spelled counted fault = record {
        before = OfOne r ∷ as_one rs;
        rest = first.rest;
        begins = record {
          due = (refl, all.1, all.2, due-one (g.after s r) rs all.3);
          spelled = spelled ∙ ap (λ (lines : List ℕ). line (g.words r) ++ lines ++ first.rest) (sym (lines-one rs));
        };
        counted = counted ∙ ap (λ (n : ℕ). 1 + suc n) (sym (length-map rs of_one));
        fault = subst (λ due. IsFault either due first.rest cause) (sym (state-one (g.after s r) rs)) (fault-one (state_after g (g.after s r) rs) first.rest cause fault);
      }

  abbrev of_other : Q → EitherLine R Q
  of_other r = OfOther r

  abbrev as_other : List Q → List (EitherLine R Q)
  as_other rs = map of_other rs

  -- lines of the other are due and spelled as there
  due-other : (u : T) (rs : List Q) → AreDue h u rs → AreDue either (InOther u) (as_other rs)
  due-other u [] due = tt
  due-other u (r ∷ rs) due = (due.0, due.1, due.2, due-other (h.after u r) rs due.3)

  state-other : (u : T) (rs : List Q) → state_after either (InOther u) (as_other rs) ≡ InOther (state_after h u rs)
  state-other u [] = refl
  state-other u (r ∷ rs) = state-other (h.after u r) rs

  lines-other : (rs : List Q) → lines_of either (as_other rs) ≡ lines_of h rs
  lines-other [] = refl
  lines-other (r ∷ rs) = ap (λ (later : List ℕ). line (h.words r) ++ later) (lines-other rs)

  -- what is wrong with the rest is so there
  fault-other : (u : T) (rest : List ℕ) (cause : TextCause) → IsFault h u rest cause → IsFault either (InOther u) rest cause
  fault-other u rest End fault = fault
  fault-other u rest Extra fault = fault
  fault-other u rest Form fault = record { due = fault.due; says = fault.says; later = fault.later; split = fault.split; whole = fault.whole; wrong = by }
    where
      by : (r : EitherLine R Q) → ¬ Says either (InOther u) fault.says r
      by (OfOther r) said = fault.wrong r (record { may = said.may; spelled = said.spelled })
      by (OfOne q) said = absurd said.may
  fault-other u rest Range fault = record {
    due = fault.due;
    says = fault.says;
    later = fault.later;
    split = fault.split;
    whole = fault.whole;
    wrong = (OfOther fault.wrong.0, record { may = fault.wrong.1.may; spelled = fault.wrong.1.spelled }, fault.wrong.2);
  }

  -- and with a first line, where no first line of the one is at its place
  fault-other_start : (rest : List ℕ) (cause : TextCause) → h.is_due t ≡ true → ((says later : List ℕ) → rest ≡ line says ++ later → (q : R) → ¬ Says g s says q)
      → IsFault h t rest cause → IsFault either Start rest cause
  fault-other_start rest End due none fault = (refl, fault.1)
  fault-other_start rest Extra due none fault = absurd (let e : true ≡ false = sym due ∙ fault.0 in cc)
  fault-other_start rest Form due none fault = record { due = refl; says = fault.says; later = fault.later; split = fault.split; whole = fault.whole; wrong = by }
    where
      by : (r : EitherLine R Q) → ¬ Says either Start fault.says r
      by (OfOther r) said = fault.wrong r (record { may = said.may; spelled = said.spelled })
      by (OfOne q) said = none fault.says fault.later fault.split q (record { may = said.may; spelled = said.spelled })
  fault-other_start rest Range due none fault = record {
    due = refl;
    says = fault.says;
    later = fault.later;
    split = fault.split;
    whole = fault.whole;
    wrong = (OfOther fault.wrong.0, record { may = fault.wrong.1.may; spelled = fault.wrong.1.spelled }, fault.wrong.2);
  }

  -- the first faulty line of a text of the other is that of a text of either
  pub first_fault-other : (text : List ℕ) (number : ℕ) (cause : TextCause) → h.is_due t ≡ true → ((says later : List ℕ) → text ≡ line says ++ later → (q : R) → ¬ Says g s says q)
      → IsFirstFault h t text number cause → IsFirstFault either Start text number cause
  first_fault-other text number cause due none first = by first.before first.begins.due first.begins.spelled first.counted first.fault
    where
      by : (before : List Q) → AreDue h t before → text ≡ lines_of h before ++ first.rest → number ≡ 1 + length before → IsFault h (state_after h t before) first.rest cause
          → IsFirstFault either Start text number cause
      by [] all spelled counted fault = record {
        before = [];
        rest = first.rest;
        begins = record { due = tt; spelled = spelled };
        counted = counted;
        fault = fault-other_start first.rest cause due (λ says later split. none says later (spelled ∙ split)) fault;
      }
      by (r ∷ rs) all spelled counted fault = record {
        before = OfOther r ∷ as_other rs;
        rest = first.rest;
        begins = record {
          due = (refl, all.1, all.2, due-other (h.after t r) rs all.3);
          spelled = spelled ∙ ap (λ (lines : List ℕ). line (h.words r) ++ lines ++ first.rest) (sym (lines-other rs));
        };
        counted = counted ∙ ap (λ (n : ℕ). 1 + suc n) (sym (length-map rs of_other));
        fault = subst (λ due. IsFault either due first.rest cause) (sym (state-other (h.after t r) rs)) (fault-other (state_after h (h.after t r) rs) first.rest cause fault);
      }
