-- What a read or a write of one word of the table is in the memory that is seen.
use Rattle.std.proofs.Common.{◌≡◌, ℕ, zero, suc, ◌+◌, ◌-◌, ◌*◌, ◌/◌, ◌%◌, ◌^◌, ◌<◌, ◌≤◌, Bool, true, false, List, [], ◌∷◌, ◌++◌, length, replicate}
use Rattle.std.proofs.Common.{get_or, set, drop, refl, sym, ap, subst, ◌∙◌, arith, Option, Some, None, IfSome}
use Rattle.std.proofs.Math.ListN.{length-set}
use Rattle.std.proofs.lemmas.List.{drop-set-add, get_or-set_other, get_or-drop, length-drop, drop-append-le}
use Rattle.std.proofs.lemmas.Option.{slice_get_past, slice_get-get_or}
use Rattle.std.specs.List.{slice_get}
use Rattle.counted_ref.specs.Ref.{Ref, IsSplit, IsRef, ref_word, ref_of}
use Rattle.counted_ref.proofs.Words.{ref_of-ref_word}
use Rattle.counted_ref.specs.Splits.{word_back, null_word}
use Rattle.history.specs.Limits.{body_bits}
use Rattle.history.specs.declared.operations.Taken.{Taken}
use Rattle.line_steps.specs.Actors.{Node}
use Rattle.line_steps.specs.Memory.{blank, Shared, Word, Next, Value_of, Content, put, node_at, store}
use Rattle.line_steps.specs.Rooms.{Memory, padded, aside_after, accessed}
use Rattle.line_steps.specs.Words.{value_word, node_words, memory_words, value_of, nodes_of, shared_of}
use Rattle.line_steps.proofs.Padding.{padded-set, padded-push, padded-get, length-padded, short-padded}
use Rattle.line_steps.proofs.Tables.{length-nodes_of, nodes_of-push, next_read, value_read, next_put, value_put, same_behind}

module _ (bits : ℕ) where
  -- a reference and a value of the word that they were made to
  ref_back : IsSplit bits → (r : Ref) (w : ℕ) → w ≡ ref_word bits r → IsRef bits r → ref_of bits w ≡ r
  ref_back split r w e h = ap (ref_of bits) e ∙ ref_of-ref_word bits split r h

  value_back : (v : Taken) (w : ℕ) → w ≡ value_word v → v.body < 2 ^ body_bits → value_of w ≡ v
  value_back v w e h =
      let f : w / 2 ^ body_bits ≡ v.from = omega arith in
      let g : w % 2 ^ body_bits ≡ v.body = omega arith in
      λ i. record { from = f i; body = g i }

  -- the `next` and the value of a node
  pub next_seen : (size m n : ℕ) (ws : List ℕ) → length ws ≡ 6 + 2 * m → (node_at (shared_of bits size ws) n).next ≡ ref_of bits (get_or ws (6 + 2 * (n - 1)) 0)
  next_seen size m n ws e =
      ap (λ (d : Node). d.next) (padded-get size blank (nodes_of bits (drop 6 ws)) (n - 1)) ∙
      next_read bits m (drop 6 ws) (n - 1) (omega (arith, length-drop 6 ws)) ∙
      ap (ref_of bits) (get_or-drop 6 ws (2 * (n - 1)) 0)

  pub value_seen : (size m n : ℕ) (ws : List ℕ) → length ws ≡ 6 + 2 * m → (node_at (shared_of bits size ws) n).value ≡ value_of (get_or ws (6 + 2 * (n - 1) + 1) 0)
  value_seen size m n ws e =
      let f : 6 + (2 * (n - 1) + 1) ≡ 6 + 2 * (n - 1) + 1 = omega arith in
      ap (λ (d : Node). d.value) (padded-get size blank (nodes_of bits (drop 6 ws)) (n - 1)) ∙
      value_read bits m (drop 6 ws) (n - 1) (omega (arith, length-drop 6 ws)) ∙
      ap value_of (get_or-drop 6 ws (2 * (n - 1) + 1) 0 ∙ ap (λ p. get_or ws p 0) f)

  -- tables with the same first six words are seen as the same but for their nodes
  other_nodes : (size : ℕ) (ws vs : List ℕ) (ns : List Node) → ((q : ℕ) → q < 6 → get_or vs q 0 ≡ get_or ws q 0)
      → padded size blank (nodes_of bits (drop 6 vs)) ≡ ns → shared_of bits size vs ≡ record (shared_of bits size ws) { nodes = ns }
  other_nodes size ws vs ns f e =
      λ i. record {
        fresh = f 0 (omega arith) i;
        free = ref_of bits (f 1 (omega arith) i);
        head = ref_of bits (f 2 (omega arith) i);
        tail = ref_of bits (f 3 (omega arith) i);
        tail_lock = f 4 (omega arith) i;
        head_lock = f 5 (omega arith) i;
        nodes = e i;
      }

  -- the `next` of a node was written, and the value of a node
  next_set : (size m n : ℕ) (ws : List ℕ) (w : ℕ) → length ws ≡ 6 + 2 * m → n - 1 < m → shared_of bits size (set ws (6 + 2 * (n - 1)) w) ≡ put (Next n) (ref_of bits w) (shared_of bits size ws)
  next_set size m n ws w e h =
      let behind : length (drop 6 ws) ≡ 2 * m = omega (arith, length-drop 6 ws) in
      let within : n - 1 < length (nodes_of bits (drop 6 ws)) = subst (λ k. n - 1 < k) (sym (length-nodes_of bits m (drop 6 ws) behind)) h in
      other_nodes size ws (set ws (6 + 2 * (n - 1)) w) _
      (λ q l. get_or-set_other ws (6 + 2 * (n - 1)) q w 0 (λ f. absurd (omega arith)))
      (ap (λ vs. padded size blank (nodes_of bits vs)) (drop-set-add 6 ws (2 * (n - 1)) w) ∙
      ap (padded size blank) (next_put bits m (drop 6 ws) (n - 1) w behind h) ∙
      padded-set size blank (nodes_of bits (drop 6 ws)) (n - 1) _ within ∙
      ap (λ (d : Node). set (padded size blank (nodes_of bits (drop 6 ws))) (n - 1) (record d { next = ref_of bits w })) (sym (padded-get size blank (nodes_of bits (drop 6 ws)) (n - 1))))

  value_set : (size m n : ℕ) (ws : List ℕ) (w : ℕ) → length ws ≡ 6 + 2 * m → n - 1 < m → shared_of bits size (set ws (6 + 2 * (n - 1) + 1) w) ≡ put (Value_of n) (value_of w) (shared_of bits size ws)
  value_set size m n ws w e h =
      let behind : length (drop 6 ws) ≡ 2 * m = omega (arith, length-drop 6 ws) in
      let within : n - 1 < length (nodes_of bits (drop 6 ws)) = subst (λ k. n - 1 < k) (sym (length-nodes_of bits m (drop 6 ws) behind)) h in
      let f : 6 + 2 * (n - 1) + 1 ≡ 6 + (2 * (n - 1) + 1) = omega arith in
      other_nodes size ws (set ws (6 + 2 * (n - 1) + 1) w) _
      (λ q l. get_or-set_other ws (6 + 2 * (n - 1) + 1) q w 0 (λ g. absurd (omega arith)))
      (ap (λ p. padded size blank (nodes_of bits (drop 6 (set ws p w)))) f ∙
      ap (λ vs. padded size blank (nodes_of bits vs)) (drop-set-add 6 ws (2 * (n - 1) + 1) w) ∙
      ap (padded size blank) (value_put bits m (drop 6 ws) (n - 1) w behind h) ∙
      padded-set size blank (nodes_of bits (drop 6 ws)) (n - 1) _ within ∙
      ap (λ (d : Node). set (padded size blank (nodes_of bits (drop 6 ws))) (n - 1) (record d { value = value_of w })) (sym (padded-get size blank (nodes_of bits (drop 6 ws)) (n - 1))))

  -- the two words of one more blank node leave all nodes as they were
  pushed : (size m : ℕ) (ws : List ℕ) → length ws ≡ 6 + 2 * m → m < size → shared_of bits size (ws ++ 0 ∷ 0 ∷ []) ≡ shared_of bits size ws
  pushed size m ws e h =
      let behind : length (drop 6 ws) ≡ 2 * m = omega (arith, length-drop 6 ws) in
      let within : length (nodes_of bits (drop 6 ws)) < size = subst (λ k. k < size) (sym (length-nodes_of bits m (drop 6 ws) behind)) h in
      other_nodes size ws (ws ++ 0 ∷ 0 ∷ []) (shared_of bits size ws).nodes (λ q _. same_behind ws q)
      (ap (λ vs. padded size blank (nodes_of bits vs)) (drop-append-le 6 ws (0 ∷ 0 ∷ []) (omega arith)) ∙
      ap (padded size blank) (nodes_of-push bits m (drop 6 ws) behind) ∙
      padded-push size blank (nodes_of bits (drop 6 ws)) within)

  same_memory : (a b : Memory) → a.words ≡ b.words → a.aside ≡ b.aside → a.room ≡ b.room → a ≡ b
  same_memory a b f g h = λ i. record { words = f i; aside = g i; room = h i }

  -- the memory after a word was written, where the memory that is kept is seen as another name of it
  stored : (o m : Memory) → o ≡ m → (s : Shared) (x : Word) (c : Content x) → s ≡ put x c o.words → record o { words = s } ≡ accessed (store x c) m
  stored o m e s x c f = ap (λ (s : Shared). record o { words = s }) f ∙ ap (accessed (store x c)) e

  pub next_stored : IsSplit bits → (o m : Memory) → o ≡ m → (size n p w : ℕ) (ws vs : List ℕ) (r : Ref) → o.words ≡ shared_of bits size ws
      → length ws ≡ 6 + 2 * o.room → n - 1 < m.room → p ≡ 6 + 2 * (n - 1) → w ≡ ref_word bits r → IsRef bits r → vs ≡ set ws p w
      → record o { words = shared_of bits size vs } ≡ accessed (store (Next n) r) m
  next_stored split o m e size n p w ws vs r kept len within place f h written =
      let within : n - 1 < o.room = subst (λ k. n - 1 < k) (ap (λ (m : Memory). m.room) (sym e)) within in
      stored o m e (shared_of bits size vs) (Next n) r
      (ap (shared_of bits size) (written ∙ ap (λ q. set ws q w) place) ∙
      next_set size o.room n ws w len within ∙
      ap (λ (r : Ref). put (Next n) r (shared_of bits size ws)) (ref_back split r w f h) ∙
      ap (put (Next n) r) (sym kept))

  pub value_stored : (o m : Memory) → o ≡ m → (size n p w : ℕ) (ws vs : List ℕ) (v : Taken) → o.words ≡ shared_of bits size ws
      → length ws ≡ 6 + 2 * o.room → n - 1 < m.room → p ≡ 6 + 2 * (n - 1) → w ≡ value_word v → v.body < 2 ^ body_bits → vs ≡ set ws (p + 1) w
      → record o { words = shared_of bits size vs } ≡ accessed (store (Value_of n) v) m
  value_stored o m e size n p w ws vs v kept len within place f h written =
      let within : n - 1 < o.room = subst (λ k. n - 1 < k) (ap (λ (m : Memory). m.room) (sym e)) within in
      stored o m e (shared_of bits size vs) (Value_of n) v
      (ap (shared_of bits size) (written ∙ ap (λ q. set ws (q + 1) w) place) ∙
      value_set size o.room n ws w len within ∙
      ap (λ (v : Taken). put (Value_of n) v (shared_of bits size ws)) (value_back v w f h) ∙
      ap (put (Value_of n) v) (sym kept))

  -- there are so many nodes
  pub length-nodes : (size m : ℕ) (ws : List ℕ) → length ws ≡ 6 + 2 * m → m ≤ size → length (shared_of bits size ws).nodes ≡ size
  length-nodes size m ws len few =
      let behind : length (drop 6 ws) ≡ 2 * m = omega (arith, length-drop 6 ws) in
      length-padded size blank (nodes_of bits (drop 6 ws)) (subst (λ k. k ≤ size) (sym (length-nodes_of bits m (drop 6 ws) behind)) few)

  -- a node is left where there is room for fewer than there are
  pub room_left : (o m : Memory) → o ≡ m → (size : ℕ) (ws : List ℕ) → o.words ≡ shared_of bits size ws → length ws ≡ 6 + 2 * o.room → m.room < length m.words.nodes → o.room < size
  room_left o m e size ws kept len h =
      let behind : length (drop 6 ws) ≡ 2 * o.room = omega (arith, length-drop 6 ws) in
      let room : length (nodes_of bits (drop 6 ws)) ≡ o.room = length-nodes_of bits o.room (drop 6 ws) behind in
      let here : o.room < length o.words.nodes = subst (λ (m : Memory). m.room < length m.words.nodes) (sym e) h in
      let all : o.room < length (padded size blank (nodes_of bits (drop 6 ws))) = subst (λ (s : Shared). o.room < length s.nodes) kept here in
      subst (λ k. k < size) room
      (short-padded size blank (nodes_of bits (drop 6 ws)) (subst (λ k. k < length (padded size blank (nodes_of bits (drop 6 ws)))) (sym room) all))

  -- the memory with room for one node more
  pub grown : (o m : Memory) → o ≡ m → (size : ℕ) (ws vs : List ℕ) (fs gs : List Bool) (room : ℕ) → o.words ≡ shared_of bits size ws
      → o.aside ≡ padded size false fs → length ws ≡ 6 + 2 * o.room → length fs ≡ o.room → o.room < size → vs ≡ ws ++ 0 ∷ 0 ∷ []
      → gs ≡ fs ++ false ∷ [] → room ≡ o.room + 1 → record { words = shared_of bits size vs; aside = padded size false gs; room = room } ≡ record m
      { room = m.room + 1 }
  grown o m e size ws vs fs gs room kept flags len all left f g h =
      let words : shared_of bits size vs ≡ o.words = ap (shared_of bits size) f ∙ pushed size o.room ws len left ∙ sym kept in
      let few : length fs < size = omega arith in
      let aside : padded size false gs ≡ o.aside = ap (padded size false) g ∙ padded-push size false fs few ∙ sym flags in
      same_memory (record { words = shared_of bits size vs; aside = padded size false gs; room = room }) (record o { room = o.room + 1 }) words aside h ∙
      ap {A = Memory} (λ m. record m { room = m.room + 1 }) e

  -- the memory after a node was set aside
  pub set_aside : (o m : Memory) → o ≡ m → (size room : ℕ) (fs gs : List Bool) (node : Option ℕ) → o.aside ≡ padded size false fs → o.room ≡ length fs
      → IfSome node (λ n. n - 1 < m.room) → gs ≡ aside_after fs node → room ≡ length gs
      → record { words = o.words; aside = padded size false gs; room = room } ≡ record m { aside = aside_after m.aside node }
  set_aside o m e size room fs gs None flags all within f g =
      let aside : padded size false gs ≡ o.aside = ap (padded size false) f ∙ sym flags in
      let same : room ≡ o.room = g ∙ ap length f ∙ sym all in
      same_memory (record { words = o.words; aside = padded size false gs; room = room }) o refl aside same ∙ e
  set_aside o m e size room fs gs (Some n) flags all within f g =
      let here : n - 1 < length fs = subst (λ k. n - 1 < k) (ap (λ (m : Memory). m.room) (sym e) ∙ all) within in
      let aside : padded size false gs ≡ set o.aside (n - 1) true =
      ap (padded size false) f ∙ padded-set size false fs (n - 1) true here ∙ ap (λ bs. set bs (n - 1) true) (sym flags) in
      let same : room ≡ o.room = g ∙ ap length f ∙ length-set fs (n - 1) true ∙ sym all in
      same_memory (record { words = o.words; aside = padded size false gs; room = room }) (record o { aside = set o.aside (n - 1) true }) refl aside same ∙
      ap {A = Memory} (λ m. record m { aside = set m.aside (n - 1) true }) e

  -- a word made of what it stands for
  seen_word_back : (w : ℕ) → ref_word bits (ref_of bits w) ≡ w
  seen_word_back w = word_back bits w

  value_word_back : (w : ℕ) → value_word (value_of w) ≡ w
  value_word_back w = omega arith

  node_words-append : (xs ys : List Node) → node_words bits (xs ++ ys) ≡ node_words bits xs ++ node_words bits ys
  node_words-append [] ys = refl
  node_words-append (x ∷ xs) ys = ap (λ ws. ref_word bits x.next ∷ value_word x.value ∷ ws) (node_words-append xs ys)

  node_words-nodes_of : (m : ℕ) (ws : List ℕ) → length ws ≡ 2 * m → node_words bits (nodes_of bits ws) ≡ ws
  node_words-nodes_of m [] e = refl
  node_words-nodes_of m (a ∷ []) e = absurd (omega arith)
  node_words-nodes_of m (a ∷ b ∷ ws) e =
      let more : node_words bits (nodes_of bits ws) ≡ ws = node_words-nodes_of (m - 1) ws (omega arith) in
      λ i. seen_word_back a i ∷ value_word_back b i ∷ more i

  node_words-blank : (k : ℕ) → node_words bits (replicate k blank) ≡ replicate (2 * k) 0
  node_words-blank zero = refl
  node_words-blank (suc k) =
      let f : 2 * suc k ≡ suc (suc (2 * k)) = omega arith in
      rw f (λ i. null_word bits i ∷ 0 ∷ node_words-blank k i)

  -- the words of the nodes go on with 0 up to the last node
  all_node_words : (size m j : ℕ) (ws : List ℕ) → length ws ≡ 2 * m → j ≡ 2 * (size - m) → node_words bits (padded size blank (nodes_of bits ws)) ≡ ws ++ replicate j 0
  all_node_words size m j ws e f =
      node_words-append (nodes_of bits ws) (replicate (size - length (nodes_of bits ws)) blank) ∙
      ap (λ vs. vs ++ node_words bits (replicate (size - length (nodes_of bits ws)) blank)) (node_words-nodes_of m ws e) ∙
      ap (λ k. ws ++ node_words bits (replicate (size - k) blank)) (length-nodes_of bits m ws e) ∙
      ap (λ vs. ws ++ vs) (node_words-blank (size - m)) ∙
      ap (λ k. ws ++ replicate k 0) (sym f)

  -- the words that are seen are those of the table, and 0 up to the last node's
  all_words : (size m : ℕ) (ws : List ℕ) → length ws ≡ 6 + 2 * m → m ≤ size → memory_words bits (shared_of bits size ws) ≡ padded (6 + 2 * size) 0 ws
  all_words size m (a ∷ b ∷ c ∷ d ∷ e ∷ f ∷ ws) g h =
      let rest = all_node_words size m (6 + 2 * size - length (a ∷ b ∷ c ∷ d ∷ e ∷ f ∷ ws)) ws (omega arith) (omega arith) in
      λ i. a ∷ seen_word_back b i ∷ seen_word_back c i ∷ seen_word_back d i ∷ e ∷ f ∷ rest i
  all_words size m _ g h = absurd (omega arith)

  -- the word at an index, and none behind the last one
  pub word_seen : (size m i : ℕ) (ws : List ℕ) → length ws ≡ 6 + 2 * m → m ≤ size → i < 6 + 2 * size → slice_get (memory_words bits (shared_of bits size ws)) i ≡ Some (get_or ws i 0)
  word_seen size m i ws e h l =
      let within : i < length (padded (6 + 2 * size) 0 ws) = subst (λ k. i < k) (sym (length-padded (6 + 2 * size) 0 ws (omega arith))) l in
      ap (λ vs. slice_get vs i) (all_words size m ws e h) ∙
      slice_get-get_or (padded (6 + 2 * size) 0 ws) i 0 within ∙
      ap Some (padded-get (6 + 2 * size) 0 ws i)

  pub no_word_seen : (size m i : ℕ) (ws : List ℕ) → length ws ≡ 6 + 2 * m → m ≤ size → 6 + 2 * size ≤ i → slice_get (memory_words bits (shared_of bits size ws)) i ≡ None
  no_word_seen size m i ws e h l =
      let behind : length (padded (6 + 2 * size) 0 ws) ≤ i = subst (λ k. k ≤ i) (sym (length-padded (6 + 2 * size) 0 ws (omega arith))) l in
      ap (λ vs. slice_get vs i) (all_words size m ws e h) ∙ slice_get_past (padded (6 + 2 * size) 0 ws) i behind
