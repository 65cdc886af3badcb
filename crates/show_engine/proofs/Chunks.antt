-- Lemmas on what is left of texts without their colours.
use Rattle.std.proofs.Common.{◌≡◌, ℕ, ◌+◌, ◌-◌, length, subst, Bool, true, false, nat_eq, if◌then◌else◌, List, [], ◌∷◌, ◌++◌, Option, None, Some}
use Rattle.std.proofs.Common.{refl, sym, ap, ◌∙◌, append_assoc, append-nil, take, drop, take-append-drop}
use Rattle.std.proofs.lemmas.List.{drop-drop, take_rest}
use Rattle.std.specs.Io.KnownBytes.{Appends, Keeps}
use Rattle.show_engine.specs.Plain.{Colours, IsColour, escape, is_in_colour, plain, plain_after, uncoloured}
use Rattle.show_engine.specs.Colouring.{plain_of}

-- whether a colour has begun and goes on behind bytes
abbrev in_colour_after : Bool → List ℕ → Bool
in_colour_after before [] = before
in_colour_after before (byte ∷ bytes) = in_colour_after (is_in_colour before byte) bytes

-- what is left of bytes and further ones
plain_after-append : (before : Bool) (xs ys : List ℕ) → plain_after before (xs ++ ys) ≡ plain_after before xs ++ plain_after (in_colour_after before xs) ys
plain_after-append before [] ys = refl
plain_after-append before (x ∷ xs) ys =
    ap (λ l. uncoloured before x ++ l) (plain_after-append (is_in_colour before x) xs ys)
    ∙ sym (append_assoc (uncoloured before x) (plain_after (is_in_colour before x) xs) (plain_after (in_colour_after (is_in_colour before x) xs) ys))

-- a colour before no bytes
pub Colours-begun : (code : List ℕ) → IsColour code → Colours code []
Colours-begun code is before rest = is before rest

-- a further colour behind bytes
pub Colours-code : (xs bytes code : List ℕ) → Colours xs bytes → IsColour code → Colours (xs ++ code) bytes
Colours-code xs bytes code is colour before rest =
    ap (plain_after before) (append_assoc xs code rest) ∙ is before (code ++ rest) ∙ ap (λ l. bytes ++ l) (colour false rest)

same_either : (is : Bool) → (if is then false else false) ≡ false
same_either true = refl
same_either false = refl

-- what is left behind a byte that isn't an escape, where no colour had begun
plain_after-byte : (byte : ℕ) (rest : List ℕ) → nat_eq byte escape ≡ false → plain_after false (byte ∷ rest) ≡ byte ∷ plain_after false rest
plain_after-byte byte rest other = rw other (ap (λ s. byte ∷ plain_after s rest) (same_either (nat_eq byte 109)))

-- a further byte
pub Colours-byte : (xs bytes : List ℕ) (byte : ℕ) → Colours xs bytes → nat_eq byte escape ≡ false → Colours (xs ++ byte ∷ []) (bytes ++ byte ∷ [])
Colours-byte xs bytes byte is other before rest =
    ap (plain_after before) (append_assoc xs (byte ∷ []) rest) ∙ is before (byte ∷ rest) ∙ ap (λ l. bytes ++ l) (plain_after-byte byte rest other)
    ∙ sym (append_assoc bytes (byte ∷ []) (plain_after false rest))

-- held bytes add what is left of them
plain_of-held : (sent : Option (List ℕ)) (held bytes : List ℕ) → Colours held bytes → Appends (plain_of sent []) (plain_of sent held) bytes
plain_of-held None held bytes is = tt
plain_of-held (Some sent) held bytes is =
    let left = in_colour_after false sent in
    plain_after-append false sent held
    ∙ ap (λ l. plain sent ++ l) (ap (plain_after left) (sym (append-nil held)) ∙ is left [] ∙ append-nil bytes)
    ∙ ap (λ l. plain l ++ bytes) (sym (append-nil sent))

-- bytes that were kept, and what is left of them and of held ones
pub plain_of-kept : (a b : Option (List ℕ)) (held : List ℕ) → Keeps a b → Keeps (plain_of a held) (plain_of b held)
plain_of-kept None b held kept = tt
plain_of-kept (Some x) None held kept = absurd kept
plain_of-kept (Some x) (Some y) held kept = ap (λ l. plain (l ++ held)) kept

-- held bytes that a sink took from the front leave what there was
plain_of-handed : (a b : Option (List ℕ)) (held : List ℕ) (count : ℕ) → Appends a b (take count held) → Keeps (plain_of a held) (plain_of b (drop count held))
plain_of-handed None b held count grown = tt
plain_of-handed (Some x) None held count grown = absurd grown
plain_of-handed (Some x) (Some y) held count grown =
    ap plain (ap (λ l. l ++ drop count held) grown ∙ append_assoc x (take count held) (drop count held) ∙ ap (λ l. x ++ l) (take-append-drop count held))

-- bytes that were kept, and grew then, grew
Appends-behind : (a b c : Option (List ℕ)) (bytes : List ℕ) → Keeps a b → Appends b c bytes → Appends a c bytes
Appends-behind None b c bytes kept grown = tt
Appends-behind (Some x) None c bytes kept grown = absurd kept
Appends-behind (Some x) (Some y) None bytes kept grown = absurd grown
Appends-behind (Some x) (Some y) (Some z) bytes kept grown = grown ∙ ap (λ l. l ++ bytes) kept

-- held bytes that a sink took from a place on leave what there was
pub plain_of-sent : (a b : Option (List ℕ)) (held slice : List ℕ) (from count : ℕ) → slice ≡ held → Appends a b (take count (take (length slice - from) (drop from slice)))
    → Keeps (plain_of a (drop from held)) (plain_of b (drop (from + count) held))
plain_of-sent a b held slice from count same grown =
    let whole : take (length slice - from) (drop from slice) ≡ drop from held = take_rest slice from ∙ ap (drop from) same in
    subst (λ l. Keeps (plain_of a (drop from held)) (plain_of b l)) (drop-drop count from held)
    (plain_of-handed a b (drop from held) count (subst (λ l. Appends a b (take count l)) whole grown))

-- bytes that are held where none were add what is left of them
pub plain_of-exchanged : (known before after : Option (List ℕ)) (left held bytes : List ℕ) → after ≡ before → left ≡ [] → Keeps known (plain_of before left) → Colours held bytes
    → Appends known (plain_of after held) bytes
plain_of-exchanged known before after left held bytes same none kept is =
    subst (λ o. Appends known (plain_of o held) bytes) (sym same)
    (Appends-behind known (plain_of before []) (plain_of before held) bytes (subst (λ l. Keeps known (plain_of before l)) none kept) (plain_of-held before held bytes is))
