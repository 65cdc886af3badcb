-- Bytes that are read ahead, and lines that come byte by byte.
use Rattle.std.proofs.Common.{◌≡◌, ◌≢◌, ℕ, suc, ◌+◌, ◌-◌, ◌≤◌, ◌<◌, List, [], ◌∷◌, ◌++◌, length, take, drop, get_or, slice_range, Option, None, Some}
use Rattle.std.proofs.Common.{MatchOption, refl, sym, ap, subst, ◌∙◌, arith, append_assoc, drop-cons, drop-drop, length-take}
use Rattle.std.proofs.lemmas.List.{append-nil, drop-take}
use Rattle.std.proofs.lemmas.List.Elements.{All-nil, All-cons, All-append}
use Rattle.std.specs.Io.KnownBytes.{Consumes, IsAtEnd, prepend_known}
use Rattle.text_io.specs.Lines.{HasNo}
use Rattle.schedule_text.specs.ShortLines.{Held, IsHeld}
use Rattle.text_io.specs.Devices.{SourceState}
use Rattle.text_io.specs.Readings.{HasEnded}
use Rattle.schedule_text.specs.Streams.{stream, GaveByte, GaveLine, EndedInLine, IsOver}

-- the first byte of a range, and the others
pub range_first : (xs : List ℕ) (s e : ℕ) → s < e → e ≤ length xs → slice_range xs s e ≡ get_or xs s 0 ∷ slice_range xs (s + 1) e
range_first xs s e some within =
    let n = e - (s + 1) in
    let more : e - s ≡ suc n = omega arith in
    let inside : s < length xs = omega arith in
    let next : suc s ≡ s + 1 = omega arith in
    ap (λ k. take k (drop s xs)) more ∙ ap (take (suc n)) (drop-cons xs s 0 inside) ∙ ap (λ k. get_or xs s 0 ∷ take n (drop k xs)) next

-- a range of no byte
pub range_none : (xs : List ℕ) (s e : ℕ) → s ≡ e → slice_range xs s e ≡ []
range_none xs s e same = let none : e - s ≡ 0 = omega arith in ap (λ k. take k (drop s xs)) none

-- a range without its first bytes
pub range_rest : (xs : List ℕ) (s n e : ℕ) → n ≤ length (slice_range xs s e) → slice_range xs (s + n) e ≡ drop n (slice_range xs s e)
range_rest xs s n e within =
    let m = e - (s + n) in
    let some : n ≤ e - s = omega (arith, length-take (e - s) (drop s xs)) in
    let whole : n + m ≡ e - s = omega arith in
    ap (take m) (sym (drop-drop n s xs)) ∙ sym (drop-take n m (drop s xs)) ∙ ap (λ k. drop n (take k (drop s xs))) whole

-- nothing in front of known bytes
pub prepend-nothing : (known : Option (List ℕ)) → prepend_known [] known ≡ known
prepend-nothing None = refl
prepend-nothing (Some bytes) = refl

-- the first of the bytes read ahead
pub Consumes-first : (known : Option (List ℕ)) (b : ℕ) (bytes : List ℕ) → Consumes (prepend_known (b ∷ bytes) known) (prepend_known bytes known) (b ∷ [])
Consumes-first None b bytes = tt
Consumes-first (Some left) b bytes = refl

-- given bytes are read ahead but for the first
pub Consumes-read : (old new : Option (List ℕ)) (b : ℕ) (bytes : List ℕ) → Consumes old new (b ∷ bytes) → Consumes old (prepend_known bytes new) (b ∷ [])
Consumes-read None new b bytes given = tt
Consumes-read (Some left) None b bytes given = absurd given
Consumes-read (Some left) (Some later) b bytes given = given

-- the next byte is one that was read ahead
pub GaveByte-held : (old new : List ℕ) (b : ℕ) (source : SourceState) → old ≡ b ∷ new → GaveByte b (stream old source) (stream new source)
GaveByte-held old new b source same = record {
  given = subst (λ l. Consumes (prepend_known l source.left) (prepend_known new source.left) (b ∷ [])) (sym same) (Consumes-first source.left b new);
  fewer = omega (arith, ap length same);
  quiet = refl;
}

-- where nothing was read ahead, what one call of the source gives decides
module _ (old later : SourceState) (got new : List ℕ)
    (given : Consumes old.left later.left got) (over : got ≡ [] → HasEnded later) (spent : later.budget + length got ≡ old.budget) (quiet : later.failures ≡ old.failures) where
  abbrev before : SourceState
  before = stream [] old

  abbrev behind : SourceState
  behind = stream new later

  gave : (b : ℕ) → got ≡ b ∷ new → GaveByte b before behind
  gave b same = record {
    given =
        subst (λ k. Consumes k (prepend_known new later.left) (b ∷ [])) (sym (prepend-nothing old.left))
        (Consumes-read old.left later.left b new (subst (λ l. Consumes old.left later.left l) same given));
    fewer = omega (arith, ap length same, spent);
    quiet = quiet;
  }

  none : got ≡ [] → new ≡ [] → IsOver before behind
  none empty gone =
      let at_end : IsAtEnd later.left = (over empty).0 in
      let same : prepend_known new later.left ≡ later.left = ap (λ l. prepend_known l later.left) gone ∙ prepend-nothing later.left in
      record {
        given =
            subst (λ k. Consumes k (prepend_known new later.left) []) (sym (prepend-nothing old.left))
            (subst (λ k. Consumes old.left k []) (sym same) (subst (λ l. Consumes old.left later.left l) empty given));
        empty = subst IsAtEnd (sym same) at_end;
        ended = (over empty).1;
        quiet = quiet;
      }

  pub next_read : (next : Option ℕ) → MatchOption next ((got ≡ []) × (new ≡ [])) (λ b. got ≡ b ∷ new) → MatchOption next (IsOver before behind) (λ b. GaveByte b before behind)
  next_read None were = none were.0 were.1
  next_read (Some b) were = gave b were

-- bytes that are given one after another
pub Consumes-more : (old mid new : Option (List ℕ)) (bytes more : List ℕ) → Consumes old mid bytes → Consumes mid new more → Consumes old new (bytes ++ more)
Consumes-more None mid new bytes more first second = tt
Consumes-more (Some left) None new bytes more first second = absurd first
Consumes-more (Some left) (Some later) None bytes more first second = absurd second
Consumes-more (Some left) (Some later) (Some last) bytes more first second = first ∙ ap (λ (l : List ℕ). bytes ++ l) second ∙ sym (append_assoc bytes more last)

-- no byte
pub Consumes-nothing : (known : Option (List ℕ)) → Consumes known known []
Consumes-nothing None = tt
Consumes-nothing (Some bytes) = refl

-- so far a line without a line feed was given, and this is held of it
pub record IsInLine (held : Held) (old new : SourceState) : Type 0 where
  pub says : List ℕ
  pub unbroken : HasNo 10 says
  pub given : Consumes old.left new.left says
  pub kept : IsHeld says held
  pub quiet : new.failures ≡ old.failures

-- one more byte, that is no line feed
pub IsInLine-more : (held longer : Held) (b : ℕ) (old mid new : SourceState) → IsInLine held old mid → GaveByte b mid new → b ≢ 10
    → ((says : List ℕ) → IsHeld says held → IsHeld (says ++ b ∷ []) longer) → IsInLine longer old new
IsInLine-more held longer b old mid new inside gave other push = record {
  says = inside.says ++ b ∷ [];
  unbroken = All-append (λ x. x ≢ 10) inside.says (b ∷ []) inside.unbroken (All-cons (λ x. x ≢ 10) b [] other (All-nil (λ x. x ≢ 10)));
  given = Consumes-more old.left mid.left new.left inside.says (b ∷ []) inside.given gave.given;
  kept = push inside.says inside.kept;
  quiet = gave.quiet ∙ inside.quiet;
}

-- the line feed
pub GaveLine-whole : (held : Held) (b : ℕ) (old mid new : SourceState) → IsInLine held old mid → GaveByte b mid new → b ≡ 10 → GaveLine held old new
GaveLine-whole held b old mid new inside gave is = record {
  says = inside.says;
  whole = inside.unbroken;
  given = Consumes-more old.left mid.left new.left inside.says (10 ∷ []) inside.given (subst (λ x. Consumes mid.left new.left (x ∷ [])) is gave.given);
  kept = inside.kept;
  quiet = gave.quiet ∙ inside.quiet;
}

-- the end before it
pub EndedInLine-over : (held : Held) (old mid new : SourceState) → IsInLine held old mid → IsOver mid new → EndedInLine old new
EndedInLine-over held old mid new inside over = record {
  says = inside.says;
  unbroken = inside.unbroken;
  given = subst (λ l. Consumes old.left new.left l) (append-nil inside.says) (Consumes-more old.left mid.left new.left inside.says [] inside.given over.given);
  empty = over.empty;
  ended = over.ended;
  quiet = over.quiet ∙ inside.quiet;
}
