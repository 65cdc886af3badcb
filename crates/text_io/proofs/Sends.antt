-- Lemmas on texts that reach a sink in several calls.
use Rattle.std.proofs.Common.{◌≡◌, ℕ, ◌+◌, List, [], ◌++◌, None, Some, Option, inl, inr, refl, sym, ap, ◌∙◌, append_assoc, append-nil, subst}
use Rattle.std.specs.Prelude.{Result, Err}
use Rattle.std.proofs.lemmas.Result.{on_ok_weaker, on_err_weaker}
use Rattle.std.specs.Io.KnownBytes.{Appends}
use Rattle.history.specs.declared.refusals.Refusal.{Refusal}
use Rattle.text_io.specs.Devices.{SinkState}
use Rattle.text_io.specs.Blocks.{Sends, TakesPrefix, GivesUp, Puts, Writes}

-- a sink that took xs and then ys took both
pub Appends-trans : (a b c : Option (List ℕ)) (xs ys : List ℕ) → Appends a b xs → Appends b c ys → Appends a c (xs ++ ys)
Appends-trans None b c xs ys p q = tt
Appends-trans (Some x) None c xs ys p q = absurd p
Appends-trans (Some x) (Some y) None xs ys p q = absurd q
Appends-trans (Some x) (Some y) (Some z) xs ys p q = q ∙ ap (λ l. l ++ ys) p ∙ append_assoc x xs ys

pub Appends-nil : (a : Option (List ℕ)) → Appends a a []
Appends-nil None = tt
Appends-nil (Some x) = sym (append-nil x)

-- before the first call all of the text is held back
pub Sends-none : (a : Option (List ℕ)) (text : List ℕ) → Sends a a text text
Sends-none a text = record { sent = []; taken = Appends-nil a; whole = refl }

-- the sink took the front of what was held back
pub Sends-more : (a b c : Option (List ℕ)) (text held front rest : List ℕ) → Sends a b text held → Appends b c front → held ≡ front ++ rest → Sends a c text rest
Sends-more a b c text held front rest s p e = record {
  sent = s.sent ++ front;
  taken = Appends-trans a b c s.sent front s.taken p;
  whole = append_assoc s.sent front rest ∙ ap (λ l. s.sent ++ l) (sym e) ∙ s.whole;
}

-- nothing is held back, so the sink took the whole text
pub Appends-Sends : (a b : Option (List ℕ)) (text : List ℕ) → Sends a b text [] → Appends a b text
Appends-Sends a b text s = subst (Appends a b) (sym (append-nil s.sent) ∙ s.whole) s.taken

-- the text grew by more, of which and of what was held back the sink took a front
pub Sends-trans : (a b c : Option (List ℕ)) (text held more rest : List ℕ) → Sends a b text held → Sends b c (held ++ more) rest → Sends a c (text ++ more) rest
Sends-trans a b c text held more rest s t = record {
  sent = s.sent ++ t.sent;
  taken = Appends-trans a b c s.sent t.sent s.taken t.taken;
  whole = append_assoc s.sent t.sent rest ∙ ap (λ l. s.sent ++ l) t.whole ∙ sym (append_assoc s.sent held more) ∙ ap (λ l. l ++ more) s.whole;
}

-- the text grows by more that is held back
pub Sends-held : (a b : Option (List ℕ)) (text held more : List ℕ) → Sends a b text held → Sends a b (text ++ more) (held ++ more)
Sends-held a b text held more s = record {
  sent = s.sent;
  taken = s.taken;
  whole = sym (append_assoc s.sent held more) ∙ ap (λ l. l ++ more) s.whole;
}

-- a prefix of a text is one of a longer text
pub TakesPrefix-longer : (a b : Option (List ℕ)) (text more : List ℕ) → TakesPrefix a b text → TakesPrefix a b (text ++ more)
TakesPrefix-longer a b text more t = (t.0 ++ more, Sends-held a b text t.0 more t.1)

-- the sink gave up within what was held back and more
pub TakesPrefix-trans : (a b c : Option (List ℕ)) (text held more : List ℕ) → Sends a b text held → TakesPrefix b c (held ++ more) → TakesPrefix a c (text ++ more)
TakesPrefix-trans a b c text held more s t = (t.0, Sends-trans a b c text held more t.0 s t.1)

-- the sink took the whole text, and nothing is held back
pub Sends-all : (a b : Option (List ℕ)) (text held : List ℕ) → held ≡ [] → Appends a b text → Sends a b text held
Sends-all a b text held e p = record { sent = text; taken = p; whole = ap (λ l. text ++ l) e ∙ append-nil text }

-- the sink gave up within what was held back of a text
pub TakesPrefix-held : (a b c : Option (List ℕ)) (text held : List ℕ) → Sends a b text held → TakesPrefix b c held → TakesPrefix a c text
TakesPrefix-held a b c text held s t = (
  t.0,
  record {
    sent = s.sent ++ t.1.sent;
    taken = Appends-trans a b c s.sent t.1.sent s.taken t.1.taken;
    whole = append_assoc s.sent t.1.sent t.0 ∙ ap (λ l. s.sent ++ l) t.1.whole ∙ s.whole;
  },
)

-- the sink took a front, and then what was held
pub Appends-both : (a b c : Option (List ℕ)) (text held : List ℕ) → Sends a b text held → Appends b c held → Appends a c text
Appends-both a b c text held s p = Appends-Sends a c text (Sends-more a b c text held held [] s p (sym (append-nil held)))

-- the calls before the one at which a writer gave up didn't fail
GivesUp-behind : (a b c : SinkState) → b.failures ≡ a.failures → GivesUp b c → GivesUp a c
GivesUp-behind a b c quiet (inl failed) = inl (failed ∙ ap (λ (n : ℕ). n + 1) quiet)
GivesUp-behind a b c quiet (inr full) = inr (full.0 ∙ quiet, full.1)

module _ {A : Type 0} (a b c : SinkState) (quiet : b.failures ≡ a.failures) where
  -- what was held is written behind what was sent of a text
  pub Writes-held : (text held : List ℕ) (result : Result A Refusal) → Sends a.contents b.contents text held → Writes b c held result → Writes a c text result
  Writes-held text held result sends writes = record {
    ok = on_ok_weaker result (λ p. Appends-both a.contents b.contents c.contents text held sends p) writes.ok;
    quiet = on_ok_weaker result (λ e. e ∙ quiet) writes.quiet;
    only_write = writes.only_write;
    prefix = on_err_weaker result (λ t. TakesPrefix-held a.contents b.contents c.contents text held sends t) writes.prefix;
    cause = on_err_weaker result (λ u. GivesUp-behind a b c quiet u) writes.cause;
  }

  -- behind what was sent of a text, one more piece is put
  pub Puts-more : (text held piece after : List ℕ) (result : Result A Refusal) → Sends a.contents b.contents text held → Puts b c (held ++ piece) after result
      → Puts a c (text ++ piece) after result
  Puts-more text held piece after result sends puts = record {
    ok = on_ok_weaker result (λ s. Sends-trans a.contents b.contents c.contents text held piece after sends s) puts.ok;
    quiet = on_ok_weaker result (λ e. e ∙ quiet) puts.quiet;
    only_write = puts.only_write;
    prefix = on_err_weaker result (λ t. TakesPrefix-trans a.contents b.contents c.contents text held piece sends t) puts.prefix;
    cause = on_err_weaker result (λ u. GivesUp-behind a b c quiet u) puts.cause;
  }

-- what is written whole is put, and nothing is held back
pub Puts-written : {A : Type 0} (a b : SinkState) (text held : List ℕ) (result : Result A Refusal) → held ≡ [] → Writes a b text result → Puts a b text held result
Puts-written a b text held result none writes = record {
  ok = on_ok_weaker result (λ p. Sends-all a.contents b.contents text held none p) writes.ok;
  quiet = writes.quiet;
  only_write = writes.only_write;
  prefix = writes.prefix;
  cause = writes.cause;
}

module _ {A B : Type 0} (a b c : SinkState) (quiet : b.failures ≡ a.failures) (text held whole : List ℕ) (refusal : Refusal)
    (puts : Puts {A = A} b c text held (Err refusal)) (prefix : TakesPrefix a.contents c.contents whole) where
  -- where a putting is refused, so is the writing of the whole
  pub Writes-refused : Writes {A = B} a c whole (Err refusal)
  Writes-refused = record { ok = tt; quiet = tt; only_write = puts.only_write; prefix = prefix; cause = GivesUp-behind a b c quiet puts.cause }

  -- and the putting of it
  pub Puts-refused : (after : List ℕ) → Puts {A = B} a c whole after (Err refusal)
  Puts-refused after = record { ok = tt; quiet = tt; only_write = puts.only_write; prefix = prefix; cause = GivesUp-behind a b c quiet puts.cause }
