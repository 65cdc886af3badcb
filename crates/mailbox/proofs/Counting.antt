-- Letters that are counted, each the next one of its task.
use Rattle.std.proofs.Common.{cond, suc, zero, ◌≡◌, ◌≢◌, ◌∙◌, ◌<◌, ◌≤◌, ◌+◌, sym, refl, ap, subst, ℕ, List, [], ◌∷◌, ◌++◌, length, map, get_or, nat_eq, true, false, Bool, arith, take, drop}
use Rattle.std.specs.Prelude.{Some, replicate, slice_get}
use Rattle.std.specs.List.{sum, sum_by}
use Rattle.std.proofs.Math.ListN.{set}
use Rattle.std.proofs.Math.Seq.{take-suc, take-length, take-append_seam}
use Rattle.std.proofs.lemmas.List.Sums.{sum_by-cons}
use Rattle.std.proofs.lemmas.Bool.{eq-eqb, eqb-true, eqb-false}
use Rattle.std.proofs.lemmas.List.{append-nil, map-append, length-append, get_or-set_same, get_or-set_other}
use Rattle.std.proofs.lemmas.List.Elements.{filter-append}
use Rattle.std.proofs.lemmas.Option.{slice_get_within, get_or_from_slice_get}
use Rattle.mailbox.specs.declared.office.Office.{Office}
use Rattle.mailbox.specs.declared.parcels.Due.{Due}
use Rattle.mailbox.specs.declared.receiver.Letter.{Letter}
use Rattle.mailbox.specs.Plans.{plan_numbers, IsDue}
use Rattle.mailbox.specs.Offices.{marks}
use Rattle.mailbox.specs.Posts.{IsNext, IsNotNext, AreThoseDue, texts_of, BringTexts}
use Rattle.mailbox.specs.Causes.{IsItsTurn}

-- so many letters of each task are there, and they are the first that it is to send
pub record AreCounted (lists : List (List (List ℕ))) (counts : List ℕ) (letters : List Letter) : Type 0 where
  pub total : sum counts ≡ length letters
  pub few : (k : ℕ) → k < length counts → get_or counts k 0 ≤ length (get_or lists k [])
  pub first : (k : ℕ) → k < length counts → texts_of (k + 1) letters ≡ take (get_or counts k 0) (get_or lists k [])

sum-cons : (n : ℕ) (ns : List ℕ) → sum (n ∷ ns) ≡ n + sum ns
sum-cons n ns = sum_by-cons (λ x. x) n ns

sum-zeros : (n : ℕ) → sum (replicate n 0) ≡ 0
sum-zeros zero = refl
sum-zeros (suc n) = sum-zeros n

at-zeros : (n k : ℕ) → ◌≡◌ {A = ℕ} (get_or (replicate n 0) k 0) 0
at-zeros zero zero = refl
at-zeros zero (suc k) = refl
at-zeros (suc n) zero = refl
at-zeros (suc n) (suc k) = at-zeros n k

-- no letters are there at first
counted_none : (lists : List (List (List ℕ))) (n : ℕ) → AreCounted lists (replicate n 0) []
counted_none lists n = record {
  total = sum-zeros n;
  few = λ k short. let z = at-zeros n k in omega (arith, z);
  first = λ k short. ap (λ m. take m (get_or lists k [])) (sym (at-zeros n k));
}

-- counts of 0 are those of no letters
counted_start : (lists : List (List (List ℕ))) (counts : List ℕ) (letters : List Letter) → counts ≡ replicate (length counts) 0 → letters ≡ [] → AreCounted lists counts letters
counted_start lists counts letters zeros none =
    subst (λ ls. AreCounted lists counts ls) (sym none) (subst (λ cs. AreCounted lists cs []) (sym zeros) (counted_none lists (length counts)))

sum-set : (ns : List ℕ) (i n : ℕ) → i < length ns → sum (set ns i n) + get_or ns i 0 ≡ sum ns + n
sum-set [] i n short = absurd (omega (arith, short))
sum-set (m ∷ ms) zero n short =
    let a : sum (set (m ∷ ms) 0 n) ≡ n + sum ms = sum-cons n ms in
    let b : sum (m ∷ ms) ≡ m + sum ms = sum-cons m ms in
    let c : get_or (m ∷ ms) 0 0 ≡ m = refl in
    omega (arith, a, b, c)
sum-set (m ∷ ms) (suc i) n short =
    let h = sum-set ms i n (omega (arith, short)) in
    let a : sum (set (m ∷ ms) (suc i) n) ≡ m + sum (set ms i n) = sum-cons m (set ms i n) in
    let b : sum (m ∷ ms) ≡ m + sum ms = sum-cons m ms in
    let c : get_or (m ∷ ms) (suc i) 0 ≡ get_or ms i 0 = refl in
    omega (arith, h, a, b, c)

length_set : (ns : List ℕ) (i n : ℕ) → length (set ns i n) ≡ length ns
length_set [] i n = refl
length_set (m ∷ ms) zero n = refl
length_set (m ∷ ms) (suc i) n = ap suc (length_set ms i n)

-- the texts of one sender of letters and one more
texts_of-append : (s : ℕ) (letters : List Letter) (letter : Letter) → texts_of s (letters ++ letter ∷ []) ≡ texts_of s letters ++ texts_of s (letter ∷ [])
texts_of-append s letters letter = ap (map (λ (l : Letter). l.text.now)) (filter-append _ letters (letter ∷ [])) ∙ map-append _ _ _

texts_of_one : (b : Bool) (letter : Letter) → List (List ℕ)
texts_of_one b letter = map (λ (l : Letter). l.text.now) (cond b (letter ∷ []) [])

texts_of_its : (s : ℕ) (letter : Letter) → letter.from ≡ s → texts_of s (letter ∷ []) ≡ letter.text.now ∷ []
texts_of_its s letter its = ap (λ b. map (λ (l : Letter). l.text.now) (cond b (letter ∷ []) [])) (eq-eqb letter.from s its)

texts_of_other : (s : ℕ) (letter : Letter) (b : Bool) → nat_eq letter.from s ≡ b → letter.from ≢ s → texts_of s (letter ∷ []) ≡ []
texts_of_other s letter true e other = absurd (other (eqb-true letter.from s e))
texts_of_other s letter false e other = ap (λ b. map (λ (l : Letter). l.text.now) (cond b (letter ∷ []) [])) e

module _ (old : List ℕ) (sender : ℕ) (due : Due) (new : List ℕ) (next : IsNext old sender due new) where
  at_here : get_or new due.task 0 ≡ due.place + 1
  at_here = ap (λ ns. get_or ns due.task 0) next.counted ∙ get_or-set_same old due.task (due.place + 1) 0 next.within

  other_place : (k : ℕ) → k ≢ due.task → get_or new k 0 ≡ get_or old k 0
  other_place k other = ap (λ ns. get_or ns k 0) next.counted ∙ get_or-set_other old due.task k (due.place + 1) 0 other

-- these are the numbers of letters of each task
pub record AreNumbers (counts : List ℕ) (letters : List Letter) : Type 0 where
  pub most : (k : ℕ) → k < length counts → get_or counts k 0 ≤ length letters
  pub each : (k : ℕ) → k < length counts → get_or counts k 0 ≡ length (texts_of (k + 1) letters)

-- numbers of 0 are those of no letters
numbers_start : (counts : List ℕ) (letters : List Letter) → counts ≡ replicate (length counts) 0 → letters ≡ [] → AreNumbers counts letters
numbers_start counts letters zeros none =
    let zero_at : (k : ℕ) → get_or counts k 0 ≡ 0 = λ k. ap (λ cs. get_or cs k 0) zeros ∙ at-zeros (length counts) k in
    record {
      most = λ k short. let z = zero_at k in omega (arith, z);
      each = λ k short. zero_at k ∙ sym (ap (λ ls. length (texts_of (k + 1) ls)) none);
    }

module _ (old : List ℕ) (letters : List Letter) (letter : Letter) (due : Due) (new : List ℕ) (was : AreNumbers old letters) (next : IsNext old letter.from due new) where
  one_more : length (letters ++ letter ∷ []) ≡ length letters + 1
  one_more = length-append letters (letter ∷ [])

  number_here : get_or new due.task 0 ≡ length (texts_of (due.task + 1) (letters ++ letter ∷ []))
  number_here =
      let texts = texts_of (due.task + 1) letters in
      let here = at_here old letter.from due new next in
      let place = next.place in
      let before = was.each due.task next.within in
      let all = ap length (texts_of-append (due.task + 1) letters letter ∙ ap (λ ts. texts ++ ts) (texts_of_its (due.task + 1) letter next.from)) in
      let many = length-append texts (letter.text.now ∷ []) in
      omega (arith, here, place, before, all, many)

  number_at : (k : ℕ) (b : Bool) → nat_eq k due.task ≡ b → k < length old → get_or new k 0 ≡ length (texts_of (k + 1) (letters ++ letter ∷ []))
  number_at k true e short = subst (λ j. get_or new j 0 ≡ length (texts_of (j + 1) (letters ++ letter ∷ []))) (sym (eqb-true k due.task e)) number_here
  number_at k false e short =
      let other = eqb-false k due.task e in
      let from = next.from in
      let here = other_place old letter.from due new next k other in
      let before = was.each k short in
      let all = ap length (texts_of-append (k + 1) letters letter
      ∙ ap (λ ts. texts_of (k + 1) letters ++ ts) (texts_of_other (k + 1) letter (nat_eq letter.from (k + 1)) refl (λ same. other (omega (arith, same, from))))
      ∙ append-nil (texts_of (k + 1) letters)) in
      omega (arith, here, before, all)

  most_at : (k : ℕ) (b : Bool) → nat_eq k due.task ≡ b → k < length old → get_or new k 0 ≤ length (letters ++ letter ∷ [])
  most_at k true e short =
      let more = one_more in
      let here = at_here old letter.from due new next in
      let place = next.place in
      let most = was.most due.task next.within in
      subst (λ j. get_or new j 0 ≤ length (letters ++ letter ∷ [])) (sym (eqb-true k due.task e)) (omega (arith, here, place, most, more))
  most_at k false e short =
      let more = one_more in
      let here = other_place old letter.from due new next k (eqb-false k due.task e) in
      let most = was.most k short in
      omega (arith, here, most, more)

  -- one more letter is counted
  numbers_then : (counts : List ℕ) (all : List Letter) → counts ≡ new → all ≡ letters ++ letter ∷ [] → AreNumbers counts all
  numbers_then counts all same more =
      let len = ap length next.counted ∙ length_set old due.task (due.place + 1) in
      subst (λ ls. AreNumbers counts ls) (sym more) (subst (λ cs. AreNumbers cs (letters ++ letter ∷ [])) (sym same)
      (record {
        most = λ k short. most_at k (nat_eq k due.task) refl (omega (arith, short, len));
        each = λ k short. number_at k (nat_eq k due.task) refl (omega (arith, short, len));
      }))

module _ (lists : List (List (List ℕ))) (old : List ℕ) (letters : List Letter) (letter : Letter) (due : Due) (new : List ℕ) (was : AreCounted lists old letters)
    (next : IsNext old letter.from due new) (fits : slice_get (get_or lists due.task []) due.place ≡ Some letter.text.now) where
  within : due.place < length (get_or lists due.task [])
  within = slice_get_within (get_or lists due.task []) due.place letter.text.now fits

  total_more : sum new ≡ length (letters ++ letter ∷ [])
  total_more =
      let h = sum-set old due.task (due.place + 1) next.within in
      let n = ap sum next.counted in
      let p = next.place in
      let t = was.total in
      let l = length-append letters (letter ∷ []) in
      omega (arith, h, n, p, t, l)

  first_here : texts_of (due.task + 1) (letters ++ letter ∷ []) ≡ take (get_or new due.task 0) (get_or lists due.task [])
  first_here =
      let list = get_or lists due.task [] in
      let here = at_here old letter.from due new next in
      let count : suc due.place ≡ get_or new due.task 0 = omega (arith, here) in
      texts_of-append (due.task + 1) letters letter
      ∙ ap (λ ts. ts ++ texts_of (due.task + 1) (letter ∷ [])) (was.first due.task next.within ∙ ap (λ m. take m list) next.place)
      ∙ ap (λ ts. take due.place list ++ ts) (texts_of_its (due.task + 1) letter next.from)
      ∙ ap (λ t. take due.place list ++ t ∷ []) (sym (get_or_from_slice_get list due.place letter.text.now [] fits))
      ∙ sym (take-suc list due.place [] within)
      ∙ ap (λ m. take m list) count

  few_at : (k : ℕ) (b : Bool) → nat_eq k due.task ≡ b → k < length old → get_or new k 0 ≤ length (get_or lists k [])
  few_at k true e short =
      let same = eqb-true k due.task e in
      subst (λ j. get_or new j 0 ≤ length (get_or lists j [])) (sym same) (let h = at_here old letter.from due new next in let w = within in omega (arith, h, w))
  few_at k false e short = let o = other_place old letter.from due new next k (eqb-false k due.task e) in let f = was.few k short in omega (arith, o, f)

  first_at : (k : ℕ) (b : Bool) → nat_eq k due.task ≡ b → k < length old → texts_of (k + 1) (letters ++ letter ∷ []) ≡ take (get_or new k 0) (get_or lists k [])
  first_at k true e short =
      subst (λ j. texts_of (j + 1) (letters ++ letter ∷ []) ≡ take (get_or new j 0) (get_or lists j [])) (sym (eqb-true k due.task e)) first_here
  first_at k false e short =
      let other = eqb-false k due.task e in
      let from = next.from in
      texts_of-append (k + 1) letters letter
      ∙ ap (λ ts. texts_of (k + 1) letters ++ ts) (texts_of_other (k + 1) letter (nat_eq letter.from (k + 1)) refl (λ same. other (omega (arith, same, from))))
      ∙ append-nil (texts_of (k + 1) letters)
      ∙ was.first k short
      ∙ ap (λ m. take m (get_or lists k [])) (sym (other_place old letter.from due new next k other))

  -- one more letter is counted
  counted_more : AreCounted lists new (letters ++ letter ∷ [])
  counted_more =
      let len = ap length next.counted ∙ length_set old due.task (due.place + 1) in
      record {
        total = total_more;
        few = λ k short. few_at k (nat_eq k due.task) refl (omega (arith, short, len));
        first = λ k short. first_at k (nat_eq k due.task) refl (omega (arith, short, len));
      }

  -- these counts and letters are those
  counted_then : (counts : List ℕ) (all : List Letter) → counts ≡ new → all ≡ letters ++ letter ∷ [] → AreCounted lists counts all
  counted_then counts all same more = subst (λ ls. AreCounted lists counts ls) (sym more) (subst (λ cs. AreCounted lists cs (letters ++ letter ∷ [])) (sym same) counted_more)

sum_le : (ns : List ℕ) (lists : List (List (List ℕ))) → length ns ≡ length lists → ((k : ℕ) → k < length ns → get_or ns k 0 ≤ length (get_or lists k [])) → sum ns ≤ sum_by length lists
sum_le [] [] same few = omega arith
sum_le [] (l ∷ ls) same few = absurd (omega (arith, same))
sum_le (n ∷ ns) [] same few = absurd (omega (arith, same))
sum_le (n ∷ ns) (l ∷ ls) same few =
    let one : n ≤ length l = few 0 (omega arith) in
    let others = sum_le ns ls (omega (arith, same)) (λ k short. few (suc k) (omega (arith, short))) in
    let a : sum (n ∷ ns) ≡ n + sum ns = sum-cons n ns in
    let b : sum_by length (l ∷ ls) ≡ length l + sum_by length ls = sum_by-cons length l ls in
    omega (arith, one, others, a, b)

-- numbers that are each at most a length, and are as many in all as the lengths, are the lengths
sum_all : (ns : List ℕ) (lists : List (List (List ℕ))) → length ns ≡ length lists → ((k : ℕ) → k < length ns → get_or ns k 0 ≤ length (get_or lists k []))
    → sum ns ≡ sum_by length lists → (k : ℕ) → k < length ns → get_or ns k 0 ≡ length (get_or lists k [])
sum_all [] [] same few all k short = absurd (omega (arith, short))
sum_all [] (l ∷ ls) same few all k short = absurd (omega (arith, same))
sum_all (n ∷ ns) [] same few all k short = absurd (omega (arith, same))
sum_all (n ∷ ns) (l ∷ ls) same few all zero short =
    let one : n ≤ length l = few 0 (omega arith) in
    let others = sum_le ns ls (omega (arith, same)) (λ j within. few (suc j) (omega (arith, within))) in
    let a : sum (n ∷ ns) ≡ n + sum ns = sum-cons n ns in
    let b : sum_by length (l ∷ ls) ≡ length l + sum_by length ls = sum_by-cons length l ls in
    let full : n ≡ length l = omega (arith, one, others, all, a, b) in
    full
sum_all (n ∷ ns) (l ∷ ls) same few all (suc k) short =
    let one : n ≤ length l = few 0 (omega arith) in
    let others = sum_le ns ls (omega (arith, same)) (λ j within. few (suc j) (omega (arith, within))) in
    let a : sum (n ∷ ns) ≡ n + sum ns = sum-cons n ns in
    let b : sum_by length (l ∷ ls) ≡ length l + sum_by length ls = sum_by-cons length l ls in
    sum_all ns ls (omega (arith, same)) (λ j within. few (suc j) (omega (arith, within))) (omega (arith, one, others, all, a, b)) k (omega (arith, short))

-- as many letters as are due are those that are due
counted_all : (lists : List (List (List ℕ))) (counts : List ℕ) (letters : List Letter) → AreCounted lists counts letters → length counts ≡ length lists
    → length letters ≡ sum_by length lists → BringTexts lists letters
counted_all lists counts letters h same all k short =
    let within : k < length counts = omega (arith, same, short) in
    let total = h.total in
    let full = sum_all counts lists same h.few (omega (arith, total, all)) k within in
    h.first k within ∙ ap (λ m. take m (get_or lists k [])) full ∙ take-length (get_or lists k [])

-- numbers that are written over as many are the list afterwards
written_over : (n : ℕ) (new old : List ℕ) → n ≡ length new → take n (new ++ drop (length new) old) ≡ new
written_over n new old as_many = ap (λ m. take m (new ++ drop (length new) old)) as_many ∙ take-append_seam new (drop (length new) old)

-- letters that are counted are those that are due, where as many are
those_due : {Q S : Type 0} (o : Office Q S) (counts : List ℕ) (letters : List Letter) (senders : ℕ) → length counts ≡ senders
    → ((lists : List (List (List ℕ))) → marks o ≡ plan_numbers lists → AreCounted lists counts letters) → AreThoseDue o senders letters
those_due o counts letters senders same counted lists plan many all =
    counted_all lists counts letters (counted lists plan) (omega (arith, same, many)) all

-- in an office of so many senders these letters are counted: for each task as many as are there, the first that are due
pub record AreCountedIn {Q S : Type 0} (o : Office Q S) (senders : ℕ) (counts : List ℕ) (letters : List Letter) : Type 0 where
  pub as_many : length counts ≡ senders
  pub counted : (lists : List (List (List ℕ))) → marks o ≡ plan_numbers lists → AreCounted lists counts letters
  pub numbers : AreNumbers counts letters
  pub those : AreThoseDue o senders letters

module _ {Q S : Type 0} (o : Office Q S) (senders : ℕ) (counts : List ℕ) (letters : List Letter) where
  -- none is at first
  pub counted_in-none : length counts ≡ senders → counts ≡ replicate (length counts) 0 → letters ≡ [] → AreCountedIn o senders counts letters
  counted_in-none same zeros none =
      let counted = λ (lists : List (List (List ℕ))) (plan : marks o ≡ plan_numbers lists). counted_start lists counts letters zeros none in
      record { as_many = same; counted = counted; numbers = numbers_start counts letters zeros none; those = those_due o counts letters senders same counted }

  module _ (so_far : AreCountedIn o senders counts letters) where
    -- one more is, the next one of its task, where its text is due
    pub counted_in-then : (letter : Letter) (due : Due) (new : List ℕ) (n : ℕ) (all : List Letter) → n ≡ length counts → IsNext counts letter.from due new
        → IsDue (marks o) due letter.text.now → all ≡ letters ++ letter ∷ [] → AreCountedIn o senders (take n (new ++ drop (length new) counts)) all
    counted_in-then letter due new n all whole next fits more =
        let len : length new ≡ length counts = ap length next.counted ∙ length_set counts due.task (due.place + 1) in
        let same = written_over n new counts (whole ∙ sym len) in
        let after = take n (new ++ drop (length new) counts) in
        let many : length after ≡ senders = ap length same ∙ len ∙ so_far.as_many in
        let counted : (lists : List (List (List ℕ))) → marks o ≡ plan_numbers lists → AreCounted lists after all = λ lists plan.
        counted_then lists counts letters letter due new (so_far.counted lists plan) next (fits lists plan) after all same more in
        record {
          as_many = many;
          counted = counted;
          numbers = numbers_then counts letters letter due new so_far.numbers next after all same more;
          those = those_due o after all senders many counted;
        }

    -- a letter that isn't the next one of its task comes out of its turn
    pub counted_in-out_of_turn : (sender : ℕ) (due : Due) → IsNotNext counts sender due → IsItsTurn senders letters sender due → ⊥
    counted_in-out_of_turn sender due not turn =
        let within : due.task < length counts = omega (arith, turn.within, so_far.as_many) in
        not turn.from within (so_far.numbers.each due.task within ∙ ap (λ s. length (texts_of s letters)) (sym turn.from) ∙ turn.place)
