-- The values left in a ring, read one after another.
use Rattle.std.proofs.Common.{◌≡◌, ℕ, zero, suc, ◌+◌, ◌-◌, ◌*◌, ◌%◌, ◌<◌, ◌≤◌, List, [], ◌∷◌, ◌++◌, get_or, sym, ap, subst, ◌∙◌, arith, append-nil, append_assoc}
use Rattle.std.proofs.Math.Nat.{mul-le-mul_right, suc-mul}
use mathlib.Core.Option.{some, some-injective, some-ne-none}
use lib.ListN.{get_elem?}
use Rattle.history.specs.declared.operations.Taken.{Taken}
use Rattle.ring_queue.specs.Steps.{taken_in}
use Rattle.ring_queue.specs.Remains.{word_of, values_from}
use Rattle.ring_queue.specs.Placed.{value_word, parts_from, beside_from}

pub got_word : (words : List ℕ) (place word : ℕ) → get_elem? words place ≡ some word → get_or words place 0 ≡ word
got_word [] place word e = absurd (some-ne-none word (sym e))
got_word (w ∷ ws) zero word e = some-injective w word e
got_word (w ∷ ws) (suc i) word e = got_word ws i word e

module _ (slots : ℕ) (words : List ℕ) (all read : List Taken) (place tail : ℕ) (told : all ≡ read ++ values_from slots words place (tail - place)) where
  -- a place more
  pub one_read : (value : Taken) → place < tail → value ≡ taken_in (word_of slots words place) → all ≡ (read ++ value ∷ []) ++ values_from slots words (place + 1) (tail - (place + 1))
  one_read value lt is =
      let next : tail - place ≡ suc (tail - (place + 1)) = omega (arith, lt) in
      let rest : List Taken = values_from slots words (place + 1) (tail - (place + 1)) in
      told ∙ ap (λ k. read ++ values_from slots words place k) next ∙ ap (λ v. read ++ v ∷ rest) (sym is) ∙ sym (append_assoc read (value ∷ []) rest)

  -- no place is left
  pub none_left : tail ≤ place → all ≡ read
  none_left over =
      let none : tail - place ≡ 0 = omega (arith, over) in
      told ∙ ap (λ k. read ++ values_from slots words place k) none ∙ append-nil read

-- the same of the words of a value
module _ (slots : ℕ) (words : List ℕ) (place width : ℕ) (all read : List ℕ) (part : ℕ) (told : all ≡ read ++ parts_from slots words place part (width - part)) where
  pub one_part : (value : ℕ) → part < width → value ≡ get_or words (value_word slots (place % slots) part) 0 → all ≡ (read ++ value ∷ []) ++ parts_from slots words place (part + 1) (width - (part + 1))
  one_part value lt is =
      let next : width - part ≡ suc (width - (part + 1)) = omega (arith, lt) in
      let rest : List ℕ = parts_from slots words place (part + 1) (width - (part + 1)) in
      told ∙ ap (λ k. read ++ parts_from slots words place part k) next ∙ ap (λ v. read ++ v ∷ rest) (sym is) ∙ sym (append_assoc read (value ∷ []) rest)

  pub none_part : width ≤ part → all ≡ read
  none_part over =
      let none : width - part ≡ 0 = omega (arith, over) in
      told ∙ ap (λ k. read ++ parts_from slots words place part k) none ∙ append-nil read

-- the same of values, one after another
module _ (slots width : ℕ) (words all read : List ℕ) (place tail : ℕ) (told : all ≡ read ++ beside_from slots width words place (tail - place)) where
  pub one_beside : (more : List ℕ) → place < tail → more ≡ read ++ parts_from slots words place 0 width → all ≡ more ++ beside_from slots width words (place + 1) (tail - (place + 1))
  one_beside more lt is =
      let next : tail - place ≡ suc (tail - (place + 1)) = omega (arith, lt) in
      let rest : List ℕ = beside_from slots width words (place + 1) (tail - (place + 1)) in
      told ∙ ap (λ k. read ++ beside_from slots width words place k) next ∙ sym (append_assoc read (parts_from slots words place 0 width) rest) ∙ ap (λ ns. ns ++ rest) (sym is)

  pub none_beside : tail ≤ place → all ≡ read
  none_beside over =
      let none : tail - place ≡ 0 = omega (arith, over) in
      told ∙ ap (λ k. read ++ beside_from slots width words place k) none ∙ append-nil read

-- room for the words of so many values is room for those of one more than fewer
pub room_more : (k n width : ℕ) → k < n → k * width + width ≤ n * width
room_more k n width lt =
    let le : suc k * width ≤ n * width = mul-le-mul_right width (let g : suc k ≤ n = omega (arith, lt) in g) in
    let is = suc-mul k width in
    omega (arith, le, is)

-- room for the words of a value of each slot is room for those of no more values than slots
pub room_there : (count slots width m w capacity : ℕ) → count ≤ m → m ≡ slots → w ≡ width → slots * width ≤ capacity → count * w ≤ capacity
room_there count slots width m w capacity few same wide enough =
    let most : count ≤ slots = omega (arith, few, same) in
    let times : count * width ≤ slots * width = mul-le-mul_right width most in
    let goal : count * width ≤ capacity = omega (arith, times, enough) in
    subst (λ (k : ℕ). count * k ≤ capacity) (sym wide) goal
