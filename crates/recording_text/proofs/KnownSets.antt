-- The texts that a set knows.
use Rattle.std.proofs.Common.{◌≡◌, ℕ, ◌+◌, List, [], ◌∷◌, ◌++◌, map, Bool, true, false, not, cond, ◌||◌, if◌then◌else◌, refl, ap, ◌∙◌, bytes_eq, Bor}
use Rattle.std.specs.List.{list_any, position_or_len}
use Rattle.std.proofs.lemmas.List.{map-append}
use Rattle.recording_text.specs.Numbers.{with_text}
use Rattle.recording_text.specs.RecordingReading.{bytes_of}

-- a test of the bytes of words is one of the words
pub any-bytes : (p : List ℕ → Bool) (words : List (Bor (List ℕ))) → list_any (λ w. p w.now) words ≡ list_any p (map bytes_of words)
any-bytes p [] = refl
any-bytes p (w ∷ words) = ap (λ t. p w.now || t) (any-bytes p words)

pub position-bytes : (p : List ℕ → Bool) (words : List (Bor (List ℕ))) → position_or_len (λ w. p w.now) words ≡ position_or_len p (map bytes_of words)
position-bytes p [] = refl
position-bytes p (w ∷ words) = ap (λ n. cond (not (p w.now)) (1 + n) 0) (position-bytes p words)

-- a word is inserted into a set, and its text is learnt
pub insert-learns : (words : List (Bor (List ℕ))) (word : Bor (List ℕ))
    → map bytes_of (if list_any (λ w. bytes_eq word.now w.now) words then words else words ++ word ∷ []) ≡ with_text (map bytes_of words) word.now
insert-learns words word =
    by (list_any (λ w. bytes_eq word.now w.now) words) ∙ ap (λ t. if t then map bytes_of words else map bytes_of words ++ word.now ∷ []) (any-bytes (bytes_eq word.now) words)
  where
    by : (t : Bool) → map bytes_of (if t then words else words ++ word ∷ []) ≡ (if t then map bytes_of words else map bytes_of words ++ word.now ∷ [])
    by true = refl
    by false = map-append bytes_of words (word ∷ [])
