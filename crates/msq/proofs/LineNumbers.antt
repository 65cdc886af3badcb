-- Lines behind lines.
use Rattle.std.proofs.Common.{◌≡◌, ◌+◌, ◌-◌, ◌<◌, ◌++◌, List, ℕ, suc, subst, arith}
use Rattle.text_io.specs.Lines.{HasNo, line}
use Rattle.msq.specs.Notes.{IsLineAt}

-- a line behind the first one is one of the whole, with a number more
pub IsLineAt-behind : (count end : ℕ) → (text first rest says : List ℕ) → count < end → HasNo 10 first → text ≡ line first ++ rest
    → IsLineAt (end - (count + 1)) rest says → IsLineAt (end - count) text says
IsLineAt-behind count end text first rest says below none whole is =
    let one : suc (end - (count + 1)) ≡ end - count = omega arith in
    subst (λ (n : ℕ). IsLineAt n text says) one (first, rest, none, whole, is)
