-- Texts that become known, and their numbers.
use Rattle.std.proofs.Common.{◌≡◌, ◌↔◌, ℕ, ◌+◌, ◌≤◌, List, [], ◌∷◌, ◌++◌, length, map, All, Contains, Bool, true, false, not, cond, ◌||◌}
use Rattle.std.proofs.Common.{if◌then◌else◌, Option, Some, None, option_map, refl, sym, ap, ◌∙◌, arith, subst, bytes_eq, append-nil, length-append}
use Rattle.std.specs.List.{list_any, position_or_len, AllByRecursion}
use Rattle.std.proofs.lemmas.List.Elements.{All-nil, All-cons, All-head, All-tail, All-contains}
use Rattle.std.proofs.lemmas.Grind.{flat_map-append}
use Rattle.std.proofs.lemmas.Slice.Eq.{bytes_eq-Decides}
use Rattle.history.specs.declared.operations.Op.{Op}
use Rattle.history.specs.declared.operations.Op.TheVariants.{Enq}
use Rattle.history.specs.declared.operations.Reply.{Reply}
use Rattle.history.specs.declared.operations.Reply.TheVariants.{Value as ValueReply}
use Rattle.recording_text.specs.Recordings.{Call, Push, Pop, Shut, Told, Done, Value, Empty, Refused, Closed, Recorded, text_of_call, text_of_told, texts_in, texts_of}
use Rattle.recording_text.specs.Numbers.{with_text, with_texts, known_in, number_in, op_by, reply_by, stamped_by}

-- a text is among some
abbrev pub IsKnown : List (List ℕ) → List ℕ → Type 0
IsKnown known text = list_any (bytes_eq text) known ≡ true

-- each of some texts is
abbrev pub AreKnown : List (List ℕ) → List (List ℕ) → Type 0
AreKnown known texts = AllByRecursion (IsKnown known) texts

-- the texts of each operation are
abbrev pub AllAreKnown : List (List ℕ) → List Recorded → Type 0
AllAreKnown known rs = AllByRecursion (λ r. AreKnown known (texts_in r)) rs

-- the test and the recursion on each of a list
pub by_recursion : {X : Type 0} (P : X → Type 0) (xs : List X) → All P xs → AllByRecursion P xs
by_recursion P [] all = tt
by_recursion P (x ∷ xs) all = (All-head P x xs all, by_recursion P xs (All-tail P x xs all))

pub from_recursion : {X : Type 0} (P : X → Type 0) (xs : List X) → AllByRecursion P xs → All P xs
from_recursion P [] all = All-nil P
from_recursion P (x ∷ xs) all = All-cons P x xs all.0 (from_recursion P xs all.1)

pub bytes_eq-same : (text : List ℕ) → bytes_eq text text ≡ true
bytes_eq-same text = (bytes_eq-Decides text text).1 refl

-- a test that one of a list passes
any-append : {X : Type 0} (p : X → Bool) (xs ys : List X) → list_any p xs ≡ true → list_any p (xs ++ ys) ≡ true
any-append p [] ys e = absurd cc
any-append p (x ∷ xs) ys e = by (p x) refl (any-append p xs ys) e
  where
    by : (t : Bool) → p x ≡ t → (list_any p xs ≡ true → list_any p (xs ++ ys) ≡ true) → (t || list_any p xs) ≡ true → (t || list_any p (xs ++ ys)) ≡ true
    by true is rest e = refl
    by false is rest e = rest e

any-last : {X : Type 0} (p : X → Bool) (xs : List X) (x : X) → p x ≡ true → list_any p (xs ++ x ∷ []) ≡ true
any-last p [] x is = ap (λ t. t || false) is
any-last p (y ∷ xs) x is = by (p y) (any-last p xs x is)
  where
    by : (t : Bool) → list_any p (xs ++ x ∷ []) ≡ true → (t || list_any p (xs ++ x ∷ [])) ≡ true
    by true rest = refl
    by false rest = rest

-- the first place at which a test passes stays where more follow
position-append : {X : Type 0} (p : X → Bool) (xs ys : List X) → list_any p xs ≡ true → position_or_len p (xs ++ ys) ≡ position_or_len p xs
position-append p [] ys e = absurd cc
position-append p (x ∷ xs) ys e = by (p x) (position-append p xs ys) e
  where
    by : (t : Bool) → (list_any p xs ≡ true → position_or_len p (xs ++ ys) ≡ position_or_len p xs) → (t || list_any p xs) ≡ true
        → cond (not t) (1 + position_or_len p (xs ++ ys)) 0 ≡ cond (not t) (1 + position_or_len p xs) 0
    by true rest e = refl
    by false rest e = ap (λ n. 1 + n) (rest e)

-- one that passes at the end is there where none passes before
position-last : {X : Type 0} (p : X → Bool) (xs : List X) (x : X) → p x ≡ true → list_any p xs ≡ false → position_or_len p (xs ++ x ∷ []) ≡ position_or_len p xs
position-last p [] x is none = ap (λ t. cond (not t) 1 0) is
position-last p (y ∷ xs) x is none = by (p y) (position-last p xs x is) none
  where
    by : (t : Bool) → (list_any p xs ≡ false → position_or_len p (xs ++ x ∷ []) ≡ position_or_len p xs) → (t || list_any p xs) ≡ false
        → cond (not t) (1 + position_or_len p (xs ++ x ∷ [])) 0 ≡ cond (not t) (1 + position_or_len p xs) 0
    by true rest e = absurd cc
    by false rest e = ap (λ n. 1 + n) (rest e)

-- the text at the place of a known one is that text
at-position : (text other : List ℕ) (known : List (List ℕ)) → IsKnown known text → IsKnown known other
    → position_or_len (bytes_eq text) known ≡ position_or_len (bytes_eq other) known → text ≡ other
at-position text other [] is is' e = absurd cc
at-position text other (first ∷ known) is is' e =
    by (bytes_eq text first) (bytes_eq other first) refl refl (at-position text other known) is is' e
  where
    by : (t u : Bool) → bytes_eq text first ≡ t → bytes_eq other first ≡ u
        → (IsKnown known text → IsKnown known other → position_or_len (bytes_eq text) known ≡ position_or_len (bytes_eq other) known → text ≡ other)
        → (t || list_any (bytes_eq text) known) ≡ true → (u || list_any (bytes_eq other) known) ≡ true
        → cond (not t) (1 + position_or_len (bytes_eq text) known) 0 ≡ cond (not u) (1 + position_or_len (bytes_eq other) known) 0 → text ≡ other
    by true true same same' rest is is' e = (bytes_eq-Decides text first).0 same ∙ sym ((bytes_eq-Decides other first).0 same')
    by true false same same' rest is is' e = absurd (omega (arith, e))
    by false true same same' rest is is' e = absurd (omega (arith, e))
    by false false same same' rest is is' e = rest is is' (omega (arith, e))

-- known texts with one number are one text
pub number-tells : (known : List (List ℕ)) (text other : List ℕ) → IsKnown known text → IsKnown known other → number_in known text ≡ number_in known other → text ≡ other
number-tells known text other is is' e = at-position text other known is is' (omega (arith, e))

-- a text that is learnt is known
pub known-learnt : (known : List (List ℕ)) (text : List ℕ) → IsKnown (with_text known text) text
known-learnt known text = by (list_any (bytes_eq text) known) refl
  where
    by : (t : Bool) → list_any (bytes_eq text) known ≡ t → list_any (bytes_eq text) (if t then known else known ++ text ∷ []) ≡ true
    by true is = is
    by false is = any-last (bytes_eq text) known text (bytes_eq-same text)

-- and its number is the first place of such a text, or the one behind all
pub number-learnt : (known : List (List ℕ)) (text : List ℕ) → position_or_len (bytes_eq text) (with_text known text) ≡ position_or_len (bytes_eq text) known
number-learnt known text = by (list_any (bytes_eq text) known) refl
  where
    by : (t : Bool) → list_any (bytes_eq text) known ≡ t → position_or_len (bytes_eq text) (if t then known else known ++ text ∷ []) ≡ position_or_len (bytes_eq text) known
    by true is = refl
    by false is = position-last (bytes_eq text) known text (bytes_eq-same text) is

-- what is known stays so where one more is learnt, and keeps its number
known-more : (known : List (List ℕ)) (text more : List ℕ) → IsKnown known text → IsKnown (with_text known more) text
known-more known text more is = by (list_any (bytes_eq more) known)
  where
    by : (t : Bool) → list_any (bytes_eq text) (if t then known else known ++ more ∷ []) ≡ true
    by true = is
    by false = any-append (bytes_eq text) known (more ∷ []) is

number-more : (known : List (List ℕ)) (text more : List ℕ) → IsKnown known text → number_in (with_text known more) text ≡ number_in known text
number-more known text more is = ap (λ n. 1 + n) (by (list_any (bytes_eq more) known))
  where
    by : (t : Bool) → position_or_len (bytes_eq text) (if t then known else known ++ more ∷ []) ≡ position_or_len (bytes_eq text) known
    by true = refl
    by false = position-append (bytes_eq text) known (more ∷ []) is

-- the same where several are learnt
pub known-stays : (known : List (List ℕ)) (text : List ℕ) (more : List (List ℕ)) → IsKnown known text → IsKnown (with_texts known more) text
known-stays known text [] is = is
known-stays known text (next ∷ more) is = known-stays (with_text known next) text more (known-more known text next is)

pub number-stays : (known : List (List ℕ)) (text : List ℕ) (more : List (List ℕ)) → IsKnown known text → number_in (with_texts known more) text ≡ number_in known text
number-stays known text [] is = refl
number-stays known text (next ∷ more) is = number-stays (with_text known next) text more (known-more known text next is) ∙ number-more known text next is

pub all-stay : (known texts more : List (List ℕ)) → AreKnown known texts → AreKnown (with_texts known more) texts
all-stay known [] more is = tt
all-stay known (text ∷ texts) more is = (known-stays known text more is.0, all-stay known texts more is.1)

pub every-stays : (known : List (List ℕ)) (rs : List Recorded) (more : List (List ℕ)) → AllAreKnown known rs → AllAreKnown (with_texts known more) rs
every-stays known [] more is = tt
every-stays known (r ∷ rs) more is = (all-stay known (texts_in r) more is.0, every-stays known rs more is.1)

-- what is learnt is known
pub all-learnt : (known texts : List (List ℕ)) → AreKnown (with_texts known texts) texts
all-learnt known [] = tt
all-learnt known (text ∷ texts) = (known-stays (with_text known text) text texts (known-learnt known text), all-learnt (with_text known text) texts)

-- texts learnt one list after another
pub with_texts-append : (known texts more : List (List ℕ)) → with_texts known (texts ++ more) ≡ with_texts (with_texts known texts) more
with_texts-append known [] more = refl
with_texts-append known (text ∷ texts) more = with_texts-append (with_text known text) texts more

-- one text more at most for each that is learnt
length-with_text : (known : List (List ℕ)) (text : List ℕ) → length (with_text known text) ≤ length known + 1
length-with_text known text = by (list_any (bytes_eq text) known)
  where
    by : (t : Bool) → length (if t then known else known ++ text ∷ []) ≤ length known + 1
    by true = omega arith
    by false = omega (arith, length-append known (text ∷ []))

pub length-with_texts : (known texts : List (List ℕ)) → length (with_texts known texts) ≤ length known + length texts
length-with_texts known [] = omega arith
length-with_texts known (text ∷ texts) = omega (arith, length-with_texts (with_text known text) texts, length-with_text known text)

-- the calls, the replies and the operations of known texts keep their numbers
pub op-stays : (known : List (List ℕ)) (call : Call) (more : List (List ℕ)) → AreKnown known (text_of_call call) → op_by (with_texts known more) call ≡ op_by known call
op-stays known (Push text) more is = ap (λ (n : ℕ). Enq n) (number-stays known text more is.0)
op-stays known Pop more is = refl
op-stays known Shut more is = refl

pub told-stays : (known : List (List ℕ)) (told : Option Told) (more : List (List ℕ)) → AreKnown known (text_of_told told)
    → option_map (reply_by (with_texts known more)) told ≡ option_map (reply_by known) told
told-stays known None more is = refl
told-stays known (Some Done) more is = refl
told-stays known (Some (Value text)) more is = ap (λ (n : ℕ). Some (ValueReply (record { from = 1; body = n }))) (number-stays known text more is.0)
told-stays known (Some Empty) more is = refl
told-stays known (Some Refused) more is = refl
told-stays known (Some Closed) more is = refl

-- of two lists the texts of both are known
pub known-left : (known texts more : List (List ℕ)) → AreKnown known (texts ++ more) → AreKnown known texts
known-left known [] more is = tt
known-left known (text ∷ texts) more is = (is.0, known-left known texts more is.1)

pub known-right : (known texts more : List (List ℕ)) → AreKnown known (texts ++ more) → AreKnown known more
known-right known [] more is = is
known-right known (text ∷ texts) more is = known-right known texts more is.1

pub stamped-stays : (known : List (List ℕ)) (r : Recorded) (more : List (List ℕ)) → AreKnown known (texts_in r) → stamped_by (with_texts known more) r ≡ stamped_by known r
stamped-stays known r more is = λ i. record {
  actor = 1;
  op = op-stays known r.call more (known-left known (text_of_call r.call) (text_of_told r.told) is) i;
  first = r.first;
  last = r.last;
  at = None;
  reply = told-stays known r.told more (known-right known (text_of_call r.call) (text_of_told r.told) is) i;
}

pub history-stays : (known : List (List ℕ)) (rs : List Recorded) (more : List (List ℕ)) → AllAreKnown known rs → map (stamped_by (with_texts known more)) rs ≡ map (stamped_by known) rs
history-stays known [] more is = refl
history-stays known (r ∷ rs) more is = λ i. stamped-stays known r more is.0 i ∷ history-stays known rs more is.1 i

-- an operation whose texts were learnt one behind the other
pub stamped-numbered : (r : Recorded) (old known new : List (List ℕ)) (op : Op) (reply : Option Reply) → known ≡ with_texts old (text_of_call r.call) → new ≡ with_texts known (text_of_told r.told)
    → op ≡ op_by known r.call → reply ≡ option_map (reply_by new) r.told
    → record { actor = 1; op = op; first = r.first; last = r.last; at = None; reply = reply } ≡ stamped_by new r
stamped-numbered r old known new op reply first second is given =
    let are : AreKnown known (text_of_call r.call) = subst (λ known. AreKnown known (text_of_call r.call)) (sym first) (all-learnt old (text_of_call r.call)) in
    let op_is : op ≡ op_by new r.call = is ∙ sym (op-stays known r.call (text_of_told r.told) are) ∙ ap (λ known. op_by known r.call) (sym second) in
    λ i. record { actor = 1; op = op_is i; first = r.first; last = r.last; at = None; reply = given i }

-- an operation has two texts at most
pub two-texts : (r : Recorded) → length (texts_in r) ≤ 2
two-texts r = omega (arith, length-append (text_of_call r.call) (text_of_told r.told), one r.call, one' r.told)
  where
    one : (call : Call) → length (text_of_call call) ≤ 1
    one (Push text) = omega arith
    one Pop = omega arith
    one Shut = omega arith

    one' : (told : Option Told) → length (text_of_told told) ≤ 1
    one' None = omega arith
    one' (Some Done) = omega arith
    one' (Some (Value text)) = omega arith
    one' (Some Empty) = omega arith
    one' (Some Refused) = omega arith
    one' (Some Closed) = omega arith

-- the texts of one operation more
pub texts_of-push : (rs : List Recorded) (r : Recorded) → texts_of (rs ++ r ∷ []) ≡ texts_of rs ++ texts_in r
texts_of-push rs r = flat_map-append texts_in rs (r ∷ []) ∙ ap (λ (later : List (List ℕ)). texts_of rs ++ later) (append-nil (texts_in r))

pub known_in-push : (rs : List Recorded) (r : Recorded) → known_in (rs ++ r ∷ []) ≡ with_texts (known_in rs) (texts_in r)
known_in-push rs r = ap (with_texts []) (texts_of-push rs r) ∙ with_texts-append [] (texts_of rs) (texts_in r)

-- the texts of a recording are known in it
pub all-known_in : (rs : List Recorded) (known : List (List ℕ)) → AllAreKnown (with_texts known (texts_of rs)) rs
all-known_in [] known = tt
all-known_in (r ∷ rs) known =
    let later = with_texts-append known (texts_in r) (texts_of rs) in (
      subst (λ known. AreKnown known (texts_in r)) (sym later) (all-stay (with_texts known (texts_in r)) (texts_in r) (texts_of rs) (all-learnt known (texts_in r))),
      subst (λ known. AllAreKnown known rs) (sym later) (all-known_in rs (with_texts known (texts_in r))),
    )

-- a text of a recording is known in it
known-text : (rs : List Recorded) (text : List ℕ) → Contains (texts_of rs) text → IsKnown (known_in rs) text
known-text rs text is = All-contains (IsKnown (known_in rs)) (texts_of rs) text (from_recursion (IsKnown (known_in rs)) (texts_of rs) (all-learnt [] (texts_of rs))) is

-- two texts of a recording have one number exactly where they are the same
pub number_tells_text : (rs : List Recorded) (s t : List ℕ) → Contains (texts_of rs) s → Contains (texts_of rs) t → (number_in (known_in rs) s ≡ number_in (known_in rs) t) ↔ (s ≡ t)
number_tells_text rs s t is is' = (number-tells (known_in rs) s t (known-text rs s is) (known-text rs t is'), ap (number_in (known_in rs)))
