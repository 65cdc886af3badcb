-- Letters that are handed to their senders' tasks one after another.
use Rattle.std.proofs.Common.{◌≡◌, ◌≢◌, ◌∙◌, refl, sym, ap, subst, ℕ, ◌+◌, ◌<◌, Bool, true, false, cond, nat_eq, List, [], ◌∷◌, ◌++◌, length, map, get_or, append-nil, append_assoc, arith}
use Rattle.std.specs.Prelude.{string_bytes}
use Rattle.std.specs.List.{All, filter}
use Rattle.std.proofs.lemmas.Bool.{eqb-true, eqb-false}
use Rattle.std.proofs.lemmas.List.{get_or-set_same, get_or-set_other, get_or_default}
use Rattle.std.proofs.Math.ListN.{set}
use Rattle.mail_engine.specs.declared.letters.Outgoing.{Outgoing}
use Rattle.mailbox.specs.declared.threads.Task.{Task}
use Rattle.mailbox.specs.Posts.{texts_in}
use Rattle.mail_engine.specs.Shares.{texts_from, HaveTexts, AddsText}

module _ {Q S : Type 0} where
  -- a task is put in place of one with one text fewer
  pub text_added : (old : List (Task Q S)) (place : ℕ) (was is : Task Q S) (text : List ℕ) → place < length old → was ≡ get_or old place was
      → texts_in is ≡ texts_in was ++ text ∷ [] → AddsText old place text (set old place is)
  text_added old place was is text short at more = record {
    here = λ d. ap (λ (t : Task Q S). texts_in t) (get_or-set_same old place is d short) ∙ more ∙ ap (λ (t : Task Q S). texts_in t ++ text ∷ []) (at ∙ get_or_default old place was d short);
    others = λ k d other. get_or-set_other old place k is d other;
  }

  -- each task has the texts of its sender's letters but for those of the rest
  abbrev pub HaveBut : List (Task Q S) → (rest letters : List Outgoing) → Type 0
  HaveBut tasks rest letters = (k : ℕ) (d : Task Q S) → k < length tasks → texts_in (get_or tasks k d) ++ texts_from (k + 1) rest ≡ texts_from (k + 1) letters

  -- at the start no task has a text
  pub have_none : (tasks : List (Task Q S)) (letters : List Outgoing) → All (λ (t : Task Q S). t.texts.items ≡ []) tasks → HaveBut tasks letters letters
  have_none tasks letters none k d short = ap (λ ts. map string_bytes ts ++ texts_from (k + 1) letters) (none k d short)

  -- one more letter is handed on
  pub have_more : (old new : List (Task Q S)) (place : ℕ) (letter : Outgoing) (rest letters : List Outgoing) → HaveBut old (letter ∷ rest) letters
      → AddsText old place (string_bytes letter.text) new → letter.from ≡ place + 1 → length new ≡ length old → HaveBut new rest letters
  have_more old new place letter rest letters was adds from same k d short = go (nat_eq letter.from (k + 1)) refl (was k d (omega (arith, short, same)))
    where
      go : (b : Bool) → nat_eq letter.from (k + 1) ≡ b
          → texts_in (get_or old k d)
          ++ map (λ (l : Outgoing). string_bytes l.text) (cond b (letter ∷ filter (λ (l : Outgoing). nat_eq l.from (k + 1)) rest) (filter (λ (l : Outgoing). nat_eq l.from (k + 1)) rest))
          ≡ texts_from (k + 1) letters
          → texts_in (get_or new k d) ++ texts_from (k + 1) rest ≡ texts_from (k + 1) letters
      go true e h =
          let number : letter.from ≡ k + 1 = eqb-true letter.from (k + 1) e in
          let here : k ≡ place = omega (arith, number, from) in
          let grown : texts_in (get_or new k d) ≡ texts_in (get_or old k d) ++ string_bytes letter.text ∷ [] =
          subst (λ j. texts_in (get_or new j d) ≡ texts_in (get_or old j d) ++ string_bytes letter.text ∷ []) (sym here) (adds.here d) in
          ap (λ ts. ts ++ texts_from (k + 1) rest) grown ∙ append_assoc (texts_in (get_or old k d)) (string_bytes letter.text ∷ []) (texts_from (k + 1) rest) ∙ h
      go false e h =
          let other : k ≢ place = λ here. eqb-false letter.from (k + 1) e (omega (arith, from, here)) in
          ap (λ (t : Task Q S). texts_in t ++ texts_from (k + 1) rest) (adds.others k d other) ∙ h

  -- nothing is left
  pub have_all : (tasks : List (Task Q S)) (rest letters : List Outgoing) → rest ≡ [] → HaveBut tasks rest letters → HaveTexts tasks letters
  have_all tasks rest letters none was k d short =
      sym (append-nil (texts_in (get_or tasks k d))) ∙ subst (λ (r : List Outgoing). texts_in (get_or tasks k d) ++ texts_from (k + 1) r ≡ texts_from (k + 1) letters) none (was k d short)
