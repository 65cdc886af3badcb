-- What is noted of a text.
use Rattle.std.specs.Prelude.{◌≡◌, ℕ, zero, suc, List, ◌++◌, ◌⊎◌}
use Rattle.text_io.specs.Lines.{HasNo, line}
use Rattle.msq.specs.declared.notes.Kept.{Kept}

-- some bytes are what a text says in the line of this number, from 0, which a line feed or the end of the text ends
abbrev pub IsLineAt : ℕ → (text says : List ℕ) → Type 0
IsLineAt zero text says = HasNo 10 says × ((text ≡ says) ⊎ ((rest : List ℕ) × (text ≡ line says ++ rest)))
IsLineAt (suc n) text says = (first : List ℕ) × (rest : List ℕ) × HasNo 10 first × (text ≡ line first ++ rest) × IsLineAt n rest says

-- more bytes were kept behind those before; or none of them, and then no others are kept
abbrev pub KeepsOrStops : Kept → Kept → (more : List ℕ) → Type 0
KeepsOrStops old new more =
    ((new.bytes.items ≡ old.bytes.items ++ more) × (new.most ≡ old.most)) ⊎ ((new.bytes.items ≡ old.bytes.items) × (new.most ≡ 0))
