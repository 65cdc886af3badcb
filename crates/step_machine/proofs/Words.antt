-- Each access of a word is the access of its place in the table.
use Rattle.std.proofs.Common.{◌≡◌, ℕ, zero, suc, ◌+◌, ◌-◌, ◌*◌, ◌<◌, ◌≤◌, List, [], ◌∷◌, length, get_or, set, refl, sym, ap, subst, arith}
use Rattle.step_machine.specs.Below.{Ref, ref_word, Taken, Node, blank, Shared, Word, Next, Value_of, Content, content, put}
use Rattle.step_machine.specs.Words.{value_word, encoded, node_words, memory_words, index, IsWord}

module _ (bits : ℕ) where
  next_word : (ns : List Node) (k : ℕ) → k < length ns → get_or (node_words bits ns) (2 * k) 0 ≡ ref_word bits (get_or ns k blank).next
  next_word [] k h = absurd (omega arith)
  next_word (n ∷ ns) zero h = refl
  next_word (n ∷ ns) (suc k) h =
      let e : 2 * suc k ≡ suc (suc (2 * k)) = omega arith in
      rw e (next_word ns k (omega arith))

  value_of_word : (ns : List Node) (k : ℕ) → k < length ns → get_or (node_words bits ns) (suc (2 * k)) 0 ≡ value_word (get_or ns k blank).value
  value_of_word [] k h = absurd (omega arith)
  value_of_word (n ∷ ns) zero h = refl
  value_of_word (n ∷ ns) (suc k) h =
      let e : 2 * suc k ≡ suc (suc (2 * k)) = omega arith in
      rw e (value_of_word ns k (omega arith))

  next_put : (ns : List Node) (k : ℕ) (r : Ref) → k < length ns → node_words bits (set ns k (record (get_or ns k blank) { next = r })) ≡ set (node_words bits ns) (2 * k) (ref_word bits r)
  next_put [] k r h = absurd (omega arith)
  next_put (n ∷ ns) zero r h = refl
  next_put (n ∷ ns) (suc k) r h =
      let e : 2 * suc k ≡ suc (suc (2 * k)) = omega arith in
      rw e (ap (λ ws. ref_word bits n.next ∷ value_word n.value ∷ ws) (next_put ns k r (omega arith)))

  value_put : (ns : List Node) (k : ℕ) (v : Taken) → k < length ns → node_words bits (set ns k (record (get_or ns k blank) { value = v })) ≡ set (node_words bits ns) (suc (2 * k)) (value_word v)
  value_put [] k v h = absurd (omega arith)
  value_put (n ∷ ns) zero v h = refl
  value_put (n ∷ ns) (suc k) v h =
      let e : 2 * suc k ≡ suc (suc (2 * k)) = omega arith in
      rw e (ap (λ ws. ref_word bits n.next ∷ value_word n.value ∷ ws) (value_put ns k v (omega arith)))

  -- the six words before the nodes'
  abbrev before : Shared → List ℕ → List ℕ
  before s ws =
      s.fresh ∷ ref_word bits s.free ∷ ref_word bits s.head ∷ ref_word bits s.tail ∷ s.tail_lock ∷ s.head_lock ∷ ws

  -- reading a word is reading its place of the table
  pub reading : (s : Shared) (x : Word) → IsWord s x → get_or (memory_words bits s) (index x) 0 ≡ encoded bits x (content x s)
  reading s (Next zero) h = let some : 1 ≤ 0 = h.0 in absurd (omega arith)
  reading s (Next (suc k)) h =
      let within : suc k ≤ length s.nodes = h.1 in
      let e : 4 + 2 * suc k ≡ suc (suc (suc (suc (suc (suc (2 * k)))))) = omega arith in
      let f : suc k - 1 ≡ k = omega arith in
      rw e (subst (λ j. get_or (node_words bits s.nodes) (2 * k) 0 ≡ ref_word bits (get_or s.nodes j blank).next) (sym f) (next_word s.nodes k (omega arith)))
  reading s (Value_of zero) h = let some : 1 ≤ 0 = h.0 in absurd (omega arith)
  reading s (Value_of (suc k)) h =
      let within : suc k ≤ length s.nodes = h.1 in
      let e : 5 + 2 * suc k ≡ suc (suc (suc (suc (suc (suc (suc (2 * k))))))) = omega arith in
      let f : suc k - 1 ≡ k = omega arith in
      rw e (subst (λ j. get_or (node_words bits s.nodes) (suc (2 * k)) 0 ≡ value_word (get_or s.nodes j blank).value) (sym f) (value_of_word s.nodes k (omega arith)))
  reading s _ h = refl

  -- writing a word is writing its place of the table
  pub writing : (s : Shared) (x : Word) (c : Content x) → IsWord s x → memory_words bits (put x c s) ≡ set (memory_words bits s) (index x) (encoded bits x c)
  writing s (Next zero) c h = let some : 1 ≤ 0 = h.0 in absurd (omega arith)
  writing s (Next (suc k)) c h =
      let within : suc k ≤ length s.nodes = h.1 in
      let e : 4 + 2 * suc k ≡ suc (suc (suc (suc (suc (suc (2 * k)))))) = omega arith in
      let f : suc k - 1 ≡ k = omega arith in
      rw e
      (ap (before s)
      (subst (λ j. node_words bits (set s.nodes j (record (get_or s.nodes j blank) { next = c })) ≡ set (node_words bits s.nodes) (2 * k)
      (ref_word bits c)) (sym f) (next_put s.nodes k c (omega arith))))
  writing s (Value_of zero) c h = let some : 1 ≤ 0 = h.0 in absurd (omega arith)
  writing s (Value_of (suc k)) c h =
      let within : suc k ≤ length s.nodes = h.1 in
      let e : 5 + 2 * suc k ≡ suc (suc (suc (suc (suc (suc (suc (2 * k))))))) = omega arith in
      let f : suc k - 1 ≡ k = omega arith in
      rw e
      (ap (before s)
      (subst (λ j. node_words bits (set s.nodes j (record (get_or s.nodes j blank) { value = c })) ≡ set (node_words bits s.nodes) (suc (2 * k))
      (value_word c)) (sym f) (value_put s.nodes k c (omega arith))))
  writing s _ c h = refl
