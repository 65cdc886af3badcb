-- The texts that tasks are to send, and what a store that holds no others is marked with.
use Rattle.std.specs.Prelude.{◌≡◌, ℕ, ◌+◌, List, [], ◌∷◌, length, map, get_or, slice_get, Option, Some, IfSome, String, string_bytes}
use Rattle.std.specs.List.{flat_map}
use Rattle.mailbox.specs.declared.parcels.Due.{Due}

-- the numbers of many things: how many they are, and then those of each
unfoldable pub row_numbers : {X : Type 0} → (X → List ℕ) → List X → List ℕ
row_numbers numbers xs = length xs ∷ flat_map numbers xs

-- the numbers of the texts of each task: no other texts have the same
unfoldable pub plan_numbers : List (List (List ℕ)) → List ℕ
plan_numbers lists = row_numbers (row_numbers (row_numbers (λ byte. byte ∷ []))) lists

-- a letter is due in a store with these numbers: whatever texts have them, this is the text at its place
abbrev pub IsDue : (numbers : List ℕ) → Due → (text : List ℕ) → Type 0
IsDue numbers due text = (lists : List (List (List ℕ))) → numbers ≡ plan_numbers lists → slice_get (get_or lists due.task []) due.place ≡ Some text

-- a letter may stand in a store with these numbers: where it is of a task, its text is due there
abbrev pub Fits : (numbers : List ℕ) → Option Due → (text : List ℕ) → Type 0
Fits numbers due text = IfSome due (λ (d : Due). IsDue numbers d text)

-- these texts of a task are due, from a place on
abbrev pub AreDue : {Z : Type 0} → (numbers : List ℕ) → (task place : ℕ) → List (String Z) → Type 0
AreDue numbers task place texts = (k : ℕ) (text : List ℕ) → slice_get (map string_bytes texts) k ≡ Some text → IsDue numbers (record { task = task; place = place + k }) text
