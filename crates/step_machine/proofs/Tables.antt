-- Each access is one atomic step on its place of the table, and the table determines what the words hold.
use Rattle.std.proofs.Common.{◌≡◌, ℕ, zero, suc, ◌-◌, ◌^◌, ◌<◌, inl, inr, Bool, true, false, ◌&&◌, nat_eq, if◌then◌else◌, List, [], ◌∷◌, length, get_or, set, bit_and, refl, sym, ap, subst, ◌∙◌, arith}
use Rattle.std.proofs.lemmas.Bool.{eq-eqb, eqb-true}
use Rattle.std.proofs.lemmas.Bool.Decides.{eqb_tells}
use Rattle.std.specs.List.{All}
use Rattle.step_machine.specs.Below.{IsSplit, IsRef, count_mask, Taken, Node, blank, Shared, Word, Fresh, Free, Head, Tail, Tail_lock, Head_lock}
use Rattle.step_machine.specs.Below.{Next, Value_of, Content, content, put, same, Action, load, store, clear, exchange, word, found}
use Rattle.counted_ref.proofs.Words.{refs_apart, same_word, cleared_word}
use Rattle.step_machine.specs.Words.{value_word, encoded, node_words, memory_words, index, IsWord}
use Rattle.step_machine.specs.Tables.{word_index, word_step, ValueFits, ContentFits, SharedFits, ActionFits, IsOneStep}
use Rattle.step_machine.proofs.Words.{reading, writing}

equal_values : (a b : Taken) → a.from ≡ b.from → a.body ≡ b.body → a ≡ b
equal_values a b f g = λ i. record { from = f i; body = g i }

-- values that fit and have the same word are equal
values_apart : (a b : Taken) → ValueFits a → ValueFits b → value_word a ≡ value_word b → a ≡ b
values_apart a b ha hb e =
    let la : a.body < 2 ^ 48 = ha.body in
    let lb : b.body < 2 ^ 48 = hb.body in
    equal_values a b (omega arith) (omega arith)

-- values are tested to be the same exactly where their words are
same_value : (a b : Taken) → ValueFits a → ValueFits b → (nat_eq a.from b.from && nat_eq a.body b.body) ≡ nat_eq (value_word a) (value_word b)
same_value a b ha hb = elim (eqb_tells (value_word a) (value_word b)) [
  | inl t ↦ (let e : a ≡ b = values_apart a b ha hb t.1 in
      ap (λ x. x && nat_eq a.body b.body) (eq-eqb a.from b.from (ap (λ v. v.from) e)) ∙ eq-eqb a.body b.body (ap (λ v. v.body) e) ∙ sym t.0)
  | inr f ↦ go (nat_eq a.from b.from) (nat_eq a.body b.body) (eqb-true a.from b.from) (eqb-true a.body b.body) f.1 ∙ sym f.0
]
  where
    go : (x y : Bool) → (x ≡ true → a.from ≡ b.from) → (y ≡ true → a.body ≡ b.body) → (value_word a ≡ value_word b → ⊥) → (x && y) ≡ false
    go true true f g h = absurd (h (ap value_word (equal_values a b (f refl) (g refl))))
    go true false f g h = refl
    go false y f g h = refl

-- the step of an access is on the place of the word that it names
pub place-word_step : (bits : ℕ) (a : Action) → word_index (word_step bits a) ≡ index (word a)
place-word_step bits (load x) = refl
place-word_step bits (store x c) = refl
place-word_step bits (clear n) = refl
place-word_step bits (exchange x old new) = refl

module _ (bits : ℕ) (split : IsSplit bits) where
  -- contents that fit are tested to be the same exactly where their words are
  pub same_content : (x : Word) (a b : Content x) → ContentFits bits x a → ContentFits bits x b → same x a b ≡ nat_eq (encoded bits x a) (encoded bits x b)
  same_content Fresh a b ha hb = refl
  same_content Free a b ha hb = same_word bits split a b ha hb
  same_content Head a b ha hb = same_word bits split a b ha hb
  same_content Tail a b ha hb = same_word bits split a b ha hb
  same_content Tail_lock a b ha hb = refl
  same_content Head_lock a b ha hb = refl
  same_content (Next n) a b ha hb = same_word bits split a b ha hb
  same_content (Value_of n) a b ha hb = same_value a b ha hb

  exchanged : (s : Shared) (x : Word) (old new : Content x) → IsWord s x → ContentFits bits x (content x s) → ContentFits bits x old → IsOneStep bits s (exchange x old new)
  exchanged s x old new h g f =
      ap (memory_words bits) (ap (λ b. if b then put x new s else s) (same_content x (content x s) old g f)) ∙
      pushed (nat_eq (encoded bits x (content x s)) (encoded bits x old)) ∙
      ap (λ c. if nat_eq c (encoded bits x old) then set (memory_words bits s) (index x) (encoded bits x new) else memory_words bits s) (sym (reading bits s x h))
    where
      pushed : (b : Bool) → memory_words bits (if b then put x new s else s) ≡ (if b then set (memory_words bits s) (index x) (encoded bits x new) else memory_words bits s)
      pushed true = writing bits s x new h
      pushed false = refl

  cleared : (s : Shared) (n : ℕ) → IsWord s (Next n) → IsRef bits (content (Next n) s) → IsOneStep bits s (clear n)
  cleared s n h g =
      writing bits s (Next n) (record (content (Next n) s) { node = 0 }) h ∙
      ap (set (memory_words bits s) (index (Next n))) (sym (cleared_word bits split (content (Next n) s) g)) ∙
      ap (λ c. set (memory_words bits s) (index (Next n)) (bit_and c (count_mask bits))) (sym (reading bits s (Next n) h))

  -- an access is one atomic step on the place of the word that it names
  pub one_step : (s : Shared) (a : Action) → IsWord s (word a) → ContentFits bits (word a) (found a s) → ActionFits bits a → IsOneStep bits s a
  one_step s (load x) h g f = refl
  one_step s (store x c) h g f = writing bits s x c h
  one_step s (clear n) h g f = cleared s n h g
  one_step s (exchange x old new) h g f = exchanged s x old new h g f.0

  -- a node fits its two words
  record NodeFits (n : Node) : Type 0 where
    next : IsRef bits n.next
    value : ValueFits n.value

  -- within a list no default is read
  same_default : (ns : List Node) (k : ℕ) (d e : Node) → k < length ns → get_or ns k d ≡ get_or ns k e
  same_default [] k d e h = absurd (omega arith)
  same_default (n ∷ ns) zero d e h = refl
  same_default (n ∷ ns) (suc k) d e h = same_default ns k d e (omega arith)

  nodes_fit : (s : Shared) → SharedFits bits s → All NodeFits s.nodes
  nodes_fit s h = λ k d b. subst NodeFits (same_default s.nodes k blank d b) (go k)
    where
      at : (k j : ℕ) → suc k - 1 ≡ j → NodeFits (get_or s.nodes (suc k - 1) blank) → NodeFits (get_or s.nodes j blank)
      at k j e g = subst (λ i. NodeFits (get_or s.nodes i blank)) e g

      go : (k : ℕ) → NodeFits (get_or s.nodes k blank)
      go k = at k k (omega arith) (record { next = h (Next (suc k)); value = h (Value_of (suc k)) })

  -- what stands after the first two words
  abbrev after_two : List ℕ → List ℕ
  after_two [] = []
  after_two (a ∷ []) = []
  after_two (a ∷ b ∷ ws) = ws

  nodes_apart : (xs ys : List Node) → All NodeFits xs → All NodeFits ys → node_words bits xs ≡ node_words bits ys → xs ≡ ys
  nodes_apart [] [] f g e = refl
  nodes_apart [] (y ∷ ys) f g e = cc
  nodes_apart (x ∷ xs) [] f g e = cc
  nodes_apart (x ∷ xs) (y ∷ ys) f g e =
      let fx : NodeFits x = f 0 x (omega arith) in
      let fy : NodeFits y = g 0 y (omega arith) in
      let n : x.next ≡ y.next = refs_apart bits split x.next y.next fx.next fy.next (ap (λ ws. get_or ws 0 0) e) in
      let v : x.value ≡ y.value = values_apart x.value y.value fx.value fy.value (ap (λ ws. get_or ws 1 0) e) in
      let r : xs ≡ ys = nodes_apart xs ys (λ k d b. f (suc k) d (omega arith)) (λ k d b. g (suc k) d (omega arith)) (ap after_two e) in
      λ i. record { next = n i; value = v i } ∷ r i

  -- the table determines what the words hold
  pub words_apart : (a b : Shared) → SharedFits bits a → SharedFits bits b → memory_words bits a ≡ memory_words bits b → a ≡ b
  words_apart a b f g e =
      let free : a.free ≡ b.free = refs_apart bits split a.free b.free (f Free) (g Free) (ap (λ ws. get_or ws 1 0) e) in
      let head : a.head ≡ b.head = refs_apart bits split a.head b.head (f Head) (g Head) (ap (λ ws. get_or ws 2 0) e) in
      let tail : a.tail ≡ b.tail = refs_apart bits split a.tail b.tail (f Tail) (g Tail) (ap (λ ws. get_or ws 3 0) e) in
      let fresh : a.fresh ≡ b.fresh = ap (λ ws. get_or ws 0 0) e in
      let tail_lock : a.tail_lock ≡ b.tail_lock = ap (λ ws. get_or ws 4 0) e in
      let head_lock : a.head_lock ≡ b.head_lock = ap (λ ws. get_or ws 5 0) e in
      let nodes : a.nodes ≡ b.nodes = nodes_apart a.nodes b.nodes (nodes_fit a f) (nodes_fit b g) (ap (λ ws. after_two (after_two (after_two ws))) e) in
      λ i. record { fresh = fresh i; free = free i; head = head i; tail = tail i; tail_lock = tail_lock i; head_lock = head_lock i; nodes = nodes i }
